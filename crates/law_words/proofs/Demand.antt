-- Demand 3: seventeen bits on the cable, with any waits between, are one word by the plain word rules.
use Prim.Native.Nat.{ℕ, ◌+◌, ◌-◌, ◌≤◌}
use native.Mathlib.Omega.{arith}
use mathlib.Core.Path.{◌≡◌, refl, sym, ap, ap₂, ◌∙◌}
use mathlib.Core.Bool.{Bool, true, false}
use mathlib.Core.List.{List, [], ◌∷◌}
use lib.ListN.{length, get_or, set}
use lib.Seq.{set-get_or}
use borrow.Author.Tests.{leb-true, eq-eqb}
use Rattle.std.specs.Prelude.{if◌then◌else◌, Some, None, Option}
use Rattle.counts.proofs.Slots.{map_at}
use Rattle.counts.proofs.Tests.{each}
use Rattle.pack_profile.specs.declared.Profile.{Profile}
use Rattle.handshake.specs.Transfer.{word_bits, no_transfer}
use Rattle.pack_read.specs.Packs.{no_pack}
use Rattle.drive_record.specs.declared.Body.{Body}
use Rattle.drive_record.specs.declared.State.{State}
use Rattle.drive_record.specs.State.{blank_state, state_of}
use Rattle.drive_record.specs.Faults.{latch_bit}
use Rattle.drive_record.specs.Status.{calm_b, complete_b}
use Rattle.drive_rules.specs.Time as time
use Rattle.lines.specs.Lines.{line_tests}
use Rattle.drive_cable.proofs.OnCable.{Selected}
use Rattle.law_drive.proofs.Gates.{write_gate_off, read_gate_off}
use Rattle.word_rules.specs.declared.Answered.{Answered}
use Rattle.word_rules.specs.declared.Carried.{Carried}
use Rattle.word_rules.specs.Rules.{carry_of, plain_of}
use Rattle.event.specs.Answer.{answer_number}
use Rattle.chain_record.specs.declared.Chain.{Chain}
use Rattle.chain_record.specs.Record.{slot_state, look_of}
use Rattle.chain_decision.specs.Decision.{outcome_answer}
use Rattle.lines.specs.Lines.{with_command, with_request}
use Rattle.chain_others.specs.Passing as kinds
use Rattle.chain_decide.specs.Decide.{decide_of}
use Rattle.chain_apply.specs.Apply.{put_of, pass_slot, changed_of, applied}
use Rattle.chain_sound.proofs.SoundSlots.{sound, state_there, chosen}
use Rattle.law_exchange.specs.Host.{Sending, Exchanged, exchanges}
use Rattle.law_exchange.specs.Waits.{level_of, sent_word, bits_of, time_of, sent_time, fetch_time, sent_count, fetch_count, InTime}
use Rattle.law_exchange.specs.Unit.{Wired, unit}
use Rattle.law_exchange.specs.UnitAtOnce as alone
use Rattle.law_exchange.proofs.Like.{exchanges_like, any_waits}
use Rattle.law_exchange.proofs.Exchange.{at_once_lem}
use Rattle.law_words.specs.Drive.{carried_by, drive}
use Rattle.chain_step.specs.Run.{Lent}
use Rattle.law_words.specs.Decided.{drive_of, decided}
use Rattle.law_words.specs.AtOnce.{Resting, passed, plain, given, risen, refused, waited, called_on, level_left, answers_given, response_bits, called, at_once}
use Rattle.law_words.proofs.DriveLaws.{drive_laws, carry_answer}
use Rattle.law_words.proofs.Here.{Here, here, none_passes, closed_none}
use Rattle.law_words.proofs.Around.{slots, around, Like, Fine, alike}
use Rattle.law_words.proofs.Plain.{plain_carries, plain_refuses, complete_calm, rest_pass, reading_kept, writing_kept, stays, low_first}

module _ (c : Chain) (file : List ℕ) (r : Resting c) where
  abbrev p : Profile
  p = (look_of c).profile

  abbrev b : Body
  b = (drive_of c).body

  abbrev k : ℕ
  k = c.lines.select - 1

  abbrev h : Here c c.lines.select
  h = here c r.sound r.selected

  abbrev drives : Selected p c.lines (drive_of c)
  drives = (chosen c r.sound r.selected).drive

  -- the selected drive has no transfer
  at_rest : drive_of c ≡ state_of b no_transfer
  at_rest = ap (state_of b) (closed_none c.lines.request (drive_of c).transfer r.closed drives.left)

  in_slot_lem : drive_of c ≡ get_or c.states k blank_state
  unfolding look_of
  in_slot_lem = state_there c.lines.select c.states h.slot

  -- nothing has passed yet
  at_start : around c file (alone.rests b c.lines.command 0) ≡ record { chain = c; file = file }
  at_start = λ i. record {
    chain = record { packs = c.packs; states = kept i; lines = with_request (low i) c.lines; length = c.length };
    file = file;
  }
    where
      kept : set (slots c file 0) k (state_of b no_transfer) ≡ c.states
      kept =
          ap₂ (λ (l : List State) (s : State). set l k s) (none_passes c r.sound) (sym at_rest ∙ in_slot_lem)
          ∙ set-get_or c.states k blank_state

      low : ◌≡◌ {A = ℕ} 0 c.lines.request
      low = sym r.request

  -- the selected drive when time has passed
  slot_passed : (us : ℕ) → slot_state (slots c file us) c.lines.select ≡ state_of (time.pass_body (record { 0 = us }) b) no_transfer
  unfolding pass_slot
  slot_passed us =
      state_there c.lines.select (slots c file us) h.slot
      ∙ map_at (pass_slot (record { 0 = us })) c.packs c.states k no_pack blank_state h.packs h.states
      ∙ rw (eq-eqb _ 1 h.fitted) (ap (λ (s : State). (time.pass_drive (record { 0 = us }) s).state) (sym in_slot_lem ∙ at_rest) ∙ rest_pass us b)

  -- every drive has its time, and nothing else of the record moves
  abbrev with_slots : List State → Chain
  with_slots states = record { packs = c.packs; states = states; lines = c.lines; length = c.length }

  all_passed : (us : ℕ) → passed us c ≡ with_slots (slots c file us)
  unfolding applied changed_of decide_of kinds.pass_event
  all_passed us = refl

  drive_passed : (us : ℕ) → drive_of (passed us c) ≡ state_of (time.pass_body (record { 0 = us }) b) no_transfer
  unfolding look_of
  drive_passed us = ap drive_of (all_passed us) ∙ slot_passed us

  same_profile : (us : ℕ) → (look_of (passed us c)).profile ≡ p
  unfolding look_of
  same_profile us = ap (λ (x : Chain). (look_of x).profile) (all_passed us)

  module _ (us n : ℕ) where
    abbrev b₁ : Body
    b₁ = time.pass_body (record { 0 = us }) b

    plain_passed : plain n (passed us c) ≡ plain_of p (state_of b₁ no_transfer) n
    plain_passed = ap₂ (λ (q : Profile) (s : State). plain_of q s n) (same_profile us) (drive_passed us)

    no_read : b₁.reading ≡ 0
    no_read = reading_kept us b (read_gate_off p c.lines (drive_of c) drives (λ (on : c.lines.readgate ≡ 1). omega (arith, r.readgate)))

    no_write : b₁.writing ≡ 0
    no_write = writing_kept us b (write_gate_off p c.lines (drive_of c) drives (λ (on : c.lines.writegate ≡ 1). omega (arith, r.writegate)))

    carries : calm_b b₁ ≡ true → plain n (passed us c) ≡ record { state = state_of (carry_of p b₁ n).body no_transfer; told = (carry_of p b₁ n).told; outcome = (carry_of p b₁ n).outcome }
    carries q = plain_passed ∙ plain_carries p n b₁ no_read no_write q

    refuses : calm_b b₁ ≡ false → (plain n (passed us c)).state ≡ state_of (latch_bit 6 b₁) no_transfer
    refuses q = ap (λ (a : Answered). a.state) (plain_passed ∙ plain_refuses p n b₁ no_read no_write q)

    -- what the plain word rules leave, the others' time passed and the data level apart
    ended : (level : ℕ) (body : Body) → (plain n (passed us c)).state ≡ state_of body no_transfer
        → around c file (alone.rests body level us) ≡ record { chain = given n level (passed us c); file = file }
    unfolding applied changed_of decide_of kinds.pass_event put_of
    ended level body e = λ i. record {
      chain = record { packs = c.packs; states = put i; lines = with_request (low i) (with_command level c.lines); length = c.length };
      file = file;
    }
      where
        put : set (slots c file us) k (state_of body no_transfer) ≡ put_of (slots c file us) c.lines.select (plain n (passed us c)).state
        put = rw h.slot (ap (set (slots c file us) k) (sym e))

        low : ◌≡◌ {A = ℕ} 0 c.lines.request
        low = sym r.request

module _ (w : Sending) (d : Lent) (fit : InTime w) (r : Resting d.chain) where
  abbrev c₀ : Chain
  c₀ = d.chain

  abbrev p₀ : Profile
  p₀ = (look_of c₀).profile

  abbrev l₀ : ℕ
  l₀ = c₀.lines.command

  abbrev n₀ : ℕ
  n₀ = sent_word l₀ w

  abbrev t₀ : ℕ
  t₀ = time_of w.first.low

  -- "0/1", of a sound record's lines
  one : l₀ ≤ 1
  one = leb-true l₀ 1 (each (line_tests c₀.lines) (sound c₀ r.sound).lines).1.1.1.1.0

  -- the selected drive at the first rise
  abbrev body₀ : Body
  body₀ = time.pass_body (record { 0 = t₀ }) (drive_of c₀).body

  -- the chain around what the unit comes to
  abbrev lent : Exchanged (Wired Body) → Exchanged Lent
  lent x = record { now = around c₀ d.file x.now; answers = x.answers; response = x.response }

  by_unit : exchanges decided w d ≡ lent (alone.unit_at_once (drive p₀) w l₀ (drive_of c₀).body)
  by_unit =
      let e = exchanges_like (unit (drive p₀)) decided (Like c₀ d.file here₀ r.selected r.writegate r.readgate) (Fine c₀ d.file here₀ r.selected r.writegate r.readgate)
      (alike c₀ d.file here₀ r.selected r.writegate r.readgate) w start d (any_waits w) (at_start c₀ d.file r) in
      (λ i. record { now = sym e.now i; answers = sym e.answers i; response = sym e.response i })
      ∙ ap lent (at_once_lem (drive p₀) (drive_laws p₀) w (drive_of c₀).body l₀ fit one)
    where
      here₀ : Here c₀ c₀.lines.select
      here₀ = here c₀ r.sound r.selected

      start : Wired Body
      start = alone.rests (drive_of c₀).body c₀.lines.command 0

  -- a drive not complete at the first rise refuses both ways alike
  refused_alike : calm_b body₀ ≡ false → lent (alone.unit_refused w l₀ (latch_bit 6 body₀)) ≡ refused w d
  refused_alike q = λ i. record {
    now = ended c₀ d.file r t₀ n₀ (level_of l₀ w.first.low) (latch_bit 6 body₀) (refuses c₀ d.file r t₀ n₀ q) i;
    answers = 0 ∷ 5 ∷ alone.zeros (length w.first.low) [];
    response = None;
  }

  module _ (q : calm_b body₀ ≡ true) where
    abbrev carried₀ : Carried
    carried₀ = carry_of p₀ body₀ n₀

    -- later the drive is still as it was at the first rise, so a later call of the plain word rules comes to the same
    later : (us : ℕ) → t₀ ≤ us → plain n₀ (passed us c₀) ≡ record { state = state_of carried₀.body no_transfer; told = carried₀.told; outcome = carried₀.outcome }
    later us h =
        let same : time.pass_body (record { 0 = us }) (drive_of c₀).body ≡ body₀ = stays t₀ us (drive_of c₀).body h q in
        carries c₀ d.file r us n₀ (ap calm_b same ∙ q)
        ∙ ap (λ (b' : Body). record { state = state_of (carry_of p₀ b' n₀).body no_transfer; told = (carry_of p₀ b' n₀).told; outcome = (carry_of p₀ b' n₀).outcome }) same

    sent_late : t₀ ≤ sent_time w.first w.more
    sent_late = low_first w.first w.more

    fetched_late : t₀ ≤ sent_time w.first w.more + fetch_time w.gaps
    fetched_late = omega (arith, sent_late)

    -- the call when the waits have passed
    call_is : (t : Option ℕ) → plain n₀ (waited w d t) ≡ record { state = state_of carried₀.body no_transfer; told = carried₀.told; outcome = carried₀.outcome }
    call_is None = later _ sent_late
    call_is (Some x) = later _ fetched_late

    fall : alone.unit_fall_answer (carried_by carried₀) ≡ answer_number (outcome_answer carried₀.outcome)
    fall = sym (carry_answer p₀ body₀ n₀)

    carried_alike : (t : Option ℕ) → lent (alone.done w l₀ (carried_by carried₀) t)
        ≡ record {
          now = record { chain = given n₀ (level_left w d t) (waited w d t); file = d.file };
          answers = answers_given w d (answer_number (outcome_answer carried₀.outcome)) t;
          response = response_bits w d t;
        }
    carried_alike None = λ i. record {
      now = ended c₀ d.file r _ n₀ (level_left w d None) carried₀.body (ap (λ (a : Answered). a.state) (call_is None)) i;
      answers = fall i ∷ alone.zeros (sent_count w.first w.more) [];
      response = None;
    }
    carried_alike (Some x) = λ i. record {
      now = ended c₀ d.file r _ n₀ (level_left w d (Some x)) carried₀.body (ap (λ (a : Answered). a.state) (call_is (Some x))) i;
      answers = alone.zeros (fetch_count w.gaps) (fall i ∷ alone.zeros (sent_count w.first w.more) []);
      response = Some (bits_of word_bits x);
    }

    abbrev answered₀ : Answered
    answered₀ = record { state = state_of carried₀.body no_transfer; told = carried₀.told; outcome = carried₀.outcome }

    -- every wait has passed on the chain of the call
    chain_is : waited w d carried₀.told ≡ called_on w d
    chain_is = ap (λ (a : Answered). waited w d a.told) (sym (later _ sent_late))

    called_is : called w d (waited w d carried₀.told) answered₀ ≡ called w d (called_on w d) (plain n₀ (called_on w d))
    called_is =
        ap₂ (called w d) chain_is (sym (call_is carried₀.told) ∙ ap (plain n₀) chain_is)

  alike_by : (t : Bool) → calm_b body₀ ≡ t
      → lent (if t then alone.carries w l₀ (carried_by (carry_of p₀ body₀ n₀)) else alone.unit_refused w l₀ (latch_bit 6 body₀))
      ≡ (if t then called w d (called_on w d) (plain n₀ (called_on w d)) else refused w d)
  alike_by true q = carried_alike q (carry_of p₀ body₀ n₀).told ∙ called_is q
  alike_by false q = refused_alike q

  complete : complete_b (drive_of (risen w d)) ≡ calm_b body₀
  complete = ap complete_b (drive_passed c₀ d.file r t₀) ∙ complete_calm body₀

  -- bits on the cable are a word on the bench: the whole record, the file, the response and every answer on the way
  pub demand_3 : exchanges decided w d ≡ at_once w d
  demand_3 =
      by_unit ∙ alike_by (calm_b body₀) refl
      ∙ ap (λ (t : Bool). if t then called w d (called_on w d) (plain n₀ (called_on w d)) else refused w d) (sym complete)
