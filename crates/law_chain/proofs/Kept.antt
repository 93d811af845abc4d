-- A sound chain stays sound under every event, and its file keeps its length.
use mathlib.Core.Path.{◌≡◌, refl, sym, ap, ◌∙◌}
use mathlib.Core.Bool.{Bool, true, false, not, false≢true}
use mathlib.Core.List.{List}
use Prim.Native.Nat.{ℕ, ◌≤◌}
use native.Mathlib.Omega.{arith}
use borrow.Author.Tests.{leb-true, eqb-true, eqb-false, eq-eqb, ne_eqb, not-true}
use lib.Dec.{eqb}
use lib.ListN.{length}
use Rattle.counts.specs.declared.Micros.{Micros}
use Rattle.std.specs.Prelude.{Result, Ok, Err}
use Rattle.std.specs.Prelude.{if◌then◌else◌}
use Rattle.counts.specs.Slots.{map_with}
use Rattle.counts.proofs.Choice.{by_test}
use Rattle.counts.proofs.Tests.{each}
use Rattle.counts.proofs.Slots.{map_long}
use Rattle.pack_profile.specs.declared.Profile.{Profile}
use Rattle.pack_profile.specs.Valid.{valid_b}
use Rattle.drive_record.specs.declared.State.{State}
use Rattle.drive_record.specs.State.{state_of}
use Rattle.drive_record.specs.Faults as faults
use Rattle.drive_gates.specs.Gates.{write_rises, read_rises, write_falls, read_falls}
use Rattle.drive_rules.specs.DriveLeft.{left_of}
use Rattle.event.specs.declared.Undecoded.{Undecoded}
use Rattle.event.specs.declared.Undecoded.TheVariants.{Unknown, Range}
use Rattle.event.specs.Decode.{decode_of}
use Rattle.event.specs.declared.Answer.{Answer}
use Rattle.event.specs.declared.Event.{Event}
use Rattle.event.specs.declared.Event.TheVariants.{Select, Heads, WriteGate, ReadGate, Data, Request, Pass, Cell, Condition}
use Rattle.lines.specs.declared.Lines.{Lines}
use Rattle.drive_cable.specs.Request.{request_rises, request_falls}
use Rattle.drive_cable.specs.SoundDrive as unit
use Rattle.law_drive.proofs.Gates.{flag}
use Rattle.law_drive.proofs.Keeps as keeps
use Rattle.chain_record.specs.declared.Chain.{Chain}
use Rattle.chain_decision.specs.declared.Decision.{Decision}
use Rattle.chain_record.specs.Record.{slot_pack, slot_state, look_of}
use Rattle.chain_decision.specs.Decision.{ruled_done, say_of}
use Rattle.pack_read.specs.Packs.{fitted_b}
use Rattle.chain_decide.specs.Levels.{lines_after, moves_b, rule_of}
use Rattle.lines.specs.Lines.{with_select, with_writegate, with_readgate, with_command, with_request, line_tests, lines_b}
use Rattle.chain_others.specs.Passing.{pass_event}
use Rattle.chain_decide.specs.Decide.{decide_of}
use Rattle.chain_apply.specs.Apply.{put_of, pass_slot, changed_of, applied}
use Rattle.chain_sound.specs.SoundChain.{chain_sound_b}
use Rattle.chain_sound.proofs.SoundSlots.{sound}
use Rattle.chain_judge.specs.Judge.{allowed_of, decoded_of, judged_of}
use Rattle.chain_step.specs.Step.{step_of}
use Rattle.chain_decide.proofs.Walk.{Cases, walk, entered_of}
use Rattle.law_chain.proofs.Drives.{put_long, put_in, enough, slot_valid, slot_sound, slot_mapped, slots_sound}
use Rattle.law_chain.proofs.Ranges.{InRange, decoded_range, lines_kept}

-- no drive looks at the data line but on a rise of request
data_unlooked : (p : Profile) (l : Lines) (a : ℕ) (on : Bool) (s : State) → unit.drive_sound_b p l on s ≡ true → unit.drive_sound_b p (with_command a l) on s ≡ true
unfolding unit.drive_sound_b unit.selected_b unit.writing_b unit.reading_b
data_unlooked p l a on s h = h

module _ (c : Chain) (h : chain_sound_b c ≡ true) where
  abbrev l : Lines
  l = c.lines

  abbrev Fitted : ℕ → Type 0
  Fitted k = fitted_b (slot_pack c.packs k) ≡ true

  -- the drive of a slot is sound under lines m, with a state s
  abbrev At : Lines → ℕ → State → Type 0
  At m k s = unit.drive_sound_b (slot_pack c.packs k).profile m (eqb m.select k) s ≡ true

  abbrev of : ℕ → State
  of k = slot_state c.states k

  -- the selected drive, as selected
  here : Fitted l.select → unit.drive_sound_b (slot_pack c.packs l.select).profile l true (of l.select) ≡ true
  here f = rw (eq-eqb l.select l.select refl) at (slot_sound c h l.select f)

  -- any other
  away : (k : ℕ) → Fitted k → (k ≡ l.select → ⊥) → unit.drive_sound_b (slot_pack c.packs k).profile l false (of k) ≡ true
  away k f ne = rw (ne_eqb l.select k (λ e. ne (sym e))) at (slot_sound c h k f)

  -- a drive that is selected neither before nor after
  bystander : (m : Lines) (k : ℕ) → Fitted k → (k ≡ l.select → ⊥) → (k ≡ m.select → ⊥) → At m k (of k)
  bystander m k f ne nm = rw (ne_eqb m.select k (λ e. nm (sym e))) (keeps.elsewhere _ (slot_valid c h k f) l (of k) (away k f ne) m)

  abbrev with : List State → Lines → Chain
  with states m = record { packs = c.packs; states = states; lines = m; length = c.length }

  -- one state put: the chain is sound where its drive is, and where all others stay so
  pub one_put : (m : Lines) → lines_b m ≡ true → (slot : ℕ) (s : State) → Fitted slot → At m slot s
      → ((k : ℕ) → Fitted k → (k ≡ slot → ⊥) → At m k (of k)) → chain_sound_b (with (put_of c.states slot s) m) ≡ true
  one_put m lm slot s fs new others =
      slots_sound c h m (put_of c.states slot s) lm (omega (arith, put_long c.states slot s, enough c h))
      (λ k f. put_in c h (At m) c.states (omega arith) slot s fs new k (others k f))

  -- the rules of the signals
  module _ (f : Fitted l.select) where
    abbrev p : Profile
    p = (slot_pack c.packs l.select).profile

    abbrev s : State
    s = of l.select

    v : valid_b p ≡ true
    v = slot_valid c h l.select f

    lines : lines_b l ≡ true
    lines = (sound c h).lines

    -- a level of a line that moves is the other one
    risen : (now level : ℕ) → now ≤ 1 → level ≡ 1 → not (eqb now level) ≡ true → now ≡ 0
    risen now level most e m = omega (arith, eqb-false now level (not-true _ m))

    was_high : (now level : ℕ) → now ≤ 1 → level ≡ 0 → not (eqb now level) ≡ true → now ≡ 1
    was_high now level most e m = omega (arith, eqb-false now level (not-true _ m))

    write_kept : (a : ℕ) → a ≤ 1 → moves_b (WriteGate a) l ≡ true → (t : Bool) → eqb a 1 ≡ t
        → unit.drive_sound_b p (with_writegate a l) true (if t then write_rises p l.readgate s else ruled_done (write_falls s)).state ≡ true
    write_kept a r m true q =
        let e = each (line_tests l) lines in
        rw (eqb-true a 1 q) (keeps.write_rises_keeps p v l s lines (risen l.writegate a (leb-true _ _ e.1.1.0) (eqb-true a 1 q) m) (here f))
    write_kept a r m false q = rw (flag a r (eqb-false a 1 q)) (keeps.write_falls_keeps p v l s (here f))

    read_kept : (a : ℕ) → a ≤ 1 → moves_b (ReadGate a) l ≡ true → (t : Bool) → eqb a 1 ≡ t
        → unit.drive_sound_b p (with_readgate a l) true (if t then read_rises p l.writegate s else ruled_done (read_falls s)).state ≡ true
    read_kept a r m true q =
        let e = each (line_tests l) lines in
        rw (eqb-true a 1 q) (keeps.read_rises_keeps p v l s lines (risen l.readgate a (leb-true _ _ e.1.1.1.0) (eqb-true a 1 q) m) (here f))
    read_kept a r m false q = rw (flag a r (eqb-false a 1 q)) (keeps.read_falls_keeps p v l s (here f))

    request_kept : (a : ℕ) → a ≤ 1 → moves_b (Request a) l ≡ true → (t : Bool) → eqb a 1 ≡ t
        → unit.drive_sound_b p (with_request a l) true (if t then request_rises l s else request_falls p s).state ≡ true
    request_kept a r m true q =
        let e = each (line_tests l) lines in
        rw (eqb-true a 1 q) (keeps.rises_keeps p v l s lines (risen l.request a (leb-true _ _ e.1.1.1.1.1.0) (eqb-true a 1 q) m) (here f))
    request_kept a r m false q =
        let e = each (line_tests l) lines in
        let low = flag a r (eqb-false a 1 q) in
        rw low (keeps.falls_keeps p v l s (was_high l.request a (leb-true _ _ e.1.1.1.1.1.0) low m) (here f))

    rule_kept : (e : Event) → InRange e → moves_b e l ≡ true → (lines_after e l).select ≡ l.select
        → unit.drive_sound_b p (lines_after e l) true (rule_of (look_of c) l e).state ≡ true
    unfolding look_of
    rule_kept (Heads x) r m q = keeps.heads_keeps p v l s x r (here f)
    rule_kept (WriteGate a) r m q = write_kept a r m (eqb a 1) refl
    rule_kept (ReadGate a) r m q = read_kept a r m (eqb a 1) refl
    rule_kept (Request a) r m q = request_kept a r m (eqb a 1) refl
    rule_kept (Data a) r m q = data_unlooked p l a true s (here f)
    rule_kept (Select slot) r m q = absurd (eqb-false l.select slot (not-true _ m) (sym q))
    rule_kept (Pass us) r m q = absurd (false≢true m)
    rule_kept (Cell position byte) r m q = absurd (false≢true m)
    rule_kept (Condition slot which) r m q = absurd (false≢true m)

  -- a slot can't be both fitted and empty
  apart : (k x : ℕ) → Fitted k → fitted_b (slot_pack c.packs x) ≡ false → k ≡ x → ⊥
  apart k x f n e = false≢true (sym n ∙ ap (λ (i : ℕ). fitted_b (slot_pack c.packs i)) (sym e) ∙ f)

  off : (look_of c).selected ≡ false → fitted_b (slot_pack c.packs l.select) ≡ false
  unfolding look_of
  off n = n

  on : (look_of c).selected ≡ true → Fitted l.select
  unfolding look_of
  on y = y

  -- select: the drive left, the drive entered
  module _ (slot : ℕ) (moved : moves_b (Select slot) l ≡ true) where
    apart_slot : slot ≡ l.select → ⊥
    apart_slot e = eqb-false l.select slot (not-true _ moved) (sym e)

    left_kept : Fitted l.select → At (with_select slot l) l.select (left_of (of l.select)).state
    left_kept f = rw (ne_eqb slot l.select apart_slot) (keeps.left_keeps _ (slot_valid c h _ f) l (of l.select) (here f) (with_select slot l))

    entered_kept : Fitted slot → At (with_select slot l) slot (entered_of c slot).state
    entered_kept f = rw (eq-eqb slot slot refl) (keeps.entered_keeps _ (slot_valid c h slot f) l (of slot) slot (sound c h).lines (away slot f apart_slot))

    swapped : slot ≤ 7 → Fitted l.select → Fitted slot
        → chain_sound_b (with (put_of (put_of c.states l.select (left_of (of l.select)).state) slot (entered_of c slot).state) (with_select slot l)) ≡ true
    swapped r fl fs =
        let left = (left_of (of l.select)).state in
        let states = put_of c.states l.select left in
        let m = with_select slot l in
        let n = put_long c.states l.select left in
        slots_sound c h m (put_of states slot (entered_of c slot).state) (lines_kept (Select slot) l r (sound c h).lines)
        (omega (arith, put_long states slot (entered_of c slot).state, enough c h))
        (λ k f. put_in c h (At m) states (omega arith) slot (entered_of c slot).state fs (entered_kept fs) k
        (λ ne. put_in c h (At m) c.states (omega arith) l.select left fl (left_kept fl) k (λ nl. bystander m k f nl ne)))

  passed : (us : Micros) → chain_sound_b (with (map_with (pass_slot us) c.packs c.states) l) ≡ true
  unfolding pass_slot
  passed us =
      slots_sound c h l (map_with (pass_slot us) c.packs c.states) (sound c h).lines
      (omega (arith, map_long (pass_slot us) c.packs c.states, enough c h))
      (λ k f. rw (slot_mapped c h k f (pass_slot us), f) (keeps.pass_keeps _ (slot_valid c h k f) l (of k) us (eqb l.select k) (slot_sound c h k f)))

  abbrev P : Event → Decision → Type 0
  P e x = InRange e → chain_sound_b (applied c x) ≡ true

  -- no drive is selected before or after: only lines change
  unselected : (e : Event) → InRange e → (look_of c).selected ≡ false → fitted_b (slot_pack c.packs (lines_after e l).select) ≡ false
      → chain_sound_b (with c.states (lines_after e l)) ≡ true
  unselected e r n a =
      slots_sound c h (lines_after e l) c.states (lines_kept e l r (sound c h).lines) (enough c h)
      (λ k f. bystander (lines_after e l) k f (apart k l.select f (off n)) (apart k (lines_after e l).select f a))

  data_kept : (a : ℕ) → a ≤ 1 → chain_sound_b (with c.states (with_command a l)) ≡ true
  data_kept a r =
      slots_sound c h (with_command a l) c.states (lines_kept (Data a) l r (sound c h).lines) (enough c h)
      (λ k f. data_unlooked _ l a (eqb l.select k) (of k) (slot_sound c h k f))

  met_kept : (e : Event) → InRange e → (look_of c).selected ≡ true → moves_b e l ≡ true → (lines_after e l).select ≡ l.select
      → chain_sound_b (with (put_of c.states (lines_after e l).select (rule_of (look_of c) l e).state) (lines_after e l)) ≡ true
  met_kept e r y m q =
      let s = (rule_of (look_of c) l e).state in
      let new : At (lines_after e l) l.select s = rw (q, eq-eqb l.select l.select refl) (rule_kept (on y) e r m q) in
      rw q
      (one_put (lines_after e l) (lines_kept e l r (sound c h).lines) l.select s (on y) new
      (λ k f ne. bystander (lines_after e l) k f ne (λ z. ne (z ∙ q))))

  cases : Cases c P
  unfolding applied changed_of pass_event look_of
  cases = record {
    still = λ e b y m q r. h;
    level = λ a y r. data_kept a r;
    alone = λ e asked n a r. unselected e r n a;
    met = λ e y m q r. met_kept e r y m q;
    enters = λ slot n f m r.
        one_put (with_select slot l) (lines_kept (Select slot) l r (sound c h).lines) slot (entered_of c slot).state f (entered_kept slot m f)
        (λ k g ne. bystander (with_select slot l) k g (apart k l.select g (off n)) ne);
    leaves = λ slot y n m r.
        one_put (with_select slot l) (lines_kept (Select slot) l r (sound c h).lines) l.select (left_of (of l.select)).state (on y) (left_kept slot m (on y))
        (λ k g ne. bystander (with_select slot l) k g ne (apart k slot g n));
    swaps = λ slot y f m r. swapped slot m r (on y) f;
    passes = λ us r. passed us;
    past = λ position byte y r. h;
    writes = λ position byte y t w r. h;
    reads = λ position byte y t x w r. h;
    idle = λ position byte y w x r. h;
    inapplicable = λ slot which r. h;
    condition = λ slot which f r.
        one_put l (sound c h).lines slot (state_of (faults.condition_of which (of slot).body) (of slot).transfer) f
        (keeps.condition_keeps _ (slot_valid c h slot f) l (of slot) which (eqb l.select slot) (slot_sound c h slot f))
        (λ k g ne. slot_sound c h k g);
  }

  decision_kept : (e : Event) → InRange e → chain_sound_b (applied c (decide_of c e)) ≡ true
  decision_kept = walk c P cases

  abbrev Stays : Decision → Type 0
  Stays d = chain_sound_b (applied c d) ≡ true

  refusal : (a : Answer) → Stays (say_of c.lines a)
  unfolding applied changed_of
  refusal a = h

  allowed : (e : Event) (n : ℕ) → InRange e → Stays (allowed_of c n e)
  unfolding allowed_of
  allowed e n r =
      by_test Stays (not (chain_sound_b c)) _ _ (λ t. refusal _) (λ t. by_test Stays (not (eqb n c.length.0)) _ _ (λ t. refusal _) (λ t. decision_kept e r))

  -- every event, whatever its numbers and the file
  pub sound_kept : (kind a b : ℕ) (file : List ℕ) → chain_sound_b (step_of kind a b c file).chain ≡ true
  unfolding step_of judged_of
  sound_kept kind a b file = by (decode_of kind a b) refl
    where
      by : (x : Result Event Undecoded) → decode_of kind a b ≡ x → Stays (decoded_of c (length file) x)
      by (Ok e) q = allowed e (length file) (decoded_range kind a b e q)
      by (Err Unknown) q = refusal _
      by (Err Range) q = refusal _
