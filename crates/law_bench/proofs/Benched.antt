-- Demand 3 over what is exported: bits by events are events of kind 6 and then one call of `slot_word`, which `esdi_word` runs.
use Rattle.std.specs.Prelude.{Option, Some, None}
use mathlib.Core.Path.{◌≡◌, refl, sym, ap, ◌∙◌}
use mathlib.Core.Bool.{Bool, true, false, ◌||◌}
use mathlib.Core.List.{List, [], ◌∷◌}
use Prim.Native.Nat.{ℕ, suc, ◌+◌, ◌*◌, ◌^◌, ◌≤◌, ◌<◌}
use native.Mathlib.Omega.{arith}
use native.Mathlib.Nat.{pow-suc}
use lib.Dec.{eqb}
use lib.ListN.{length}
use borrow.Author.Tests.{leb-true, le-ltb}
use Rattle.counts.proofs.Tests.{each}
use Rattle.handshake.specs.Transfer.{largest}
use Rattle.pack_profile.specs.declared.Profile.{Profile}
use Rattle.pack_read.specs.Packs.{fitted_b}
use Rattle.drive_record.specs.declared.State.{State}
use Rattle.drive_record.specs.Status.{complete_b}
use Rattle.lines.specs.Lines.{line_tests}
use Rattle.word_rules.specs.Rules.{refuses_b, plain_of}
use Rattle.chain_record.specs.declared.Chain.{Chain}
use Rattle.chain_record.specs.Record.{slot_pack, look_of}
use Rattle.chain_decision.specs.Decision.{outcome_answer}
use Rattle.chain_others.specs.Passing.{pass_event}
use Rattle.chain_apply.specs.Apply.{changed_of, applied}
use Rattle.chain_decide.specs.Decide.{decide_of}
use Rattle.chain_sound.specs.SoundChain.{chain_sound_b}
use Rattle.chain_sound.proofs.SoundSlots.{sound}
use Rattle.chain_step.specs.Run.{Lent, lent, run}
use Rattle.c_pack.specs.declared.Coded.{Coded}
use Rattle.c_word.specs.Words.{word_code, state_in, sent_of, word_at, slot_word}
use Rattle.law_exchange.specs.Host.{Bit, Sending, Exchanged}
use Rattle.law_exchange.specs.Waits.{level_of, left_by, levels_at, number_from, InTime, Each}
use Rattle.law_exchange.proofs.Sent.{level_small}
use Rattle.law_chain.specs.SoundOver.{SoundOver}
use Rattle.law_chain.proofs.Drives.{is_slot}
use Rattle.law_chain.proofs.Run.{run_sound}
use Rattle.law_words.specs.Decided.{drive_of}
use Rattle.law_words.specs.AtOnce.{Resting, passed, plain, given, word, risen, sent, waited, called_on, level_left, response_bits, at_once}
use Rattle.law_words.specs.Listed.{events_sent}
use Rattle.law_words.proofs.Step.{step_demand_3}
use Rattle.law_words.proofs.Runs.{run_demand_3}
use Rattle.law_bench.specs.Bench.{pass_events, Spans, total, with_level, told_time, bench_time, bench_word, bench_answer, SameAsBench}
use Rattle.law_bench.proofs.Waiting.{passes_run}

-- k bits and more make a number below two to the power of their count
grows : (k v x : ℕ) → v < 2 ^ k → x ≤ 1 → v * 2 + x < 2 ^ suc k
grows k v x h s = omega (arith, pow-suc 2 k)

number_below : (xs : List Bit) (l v k : ℕ) → l ≤ 1 → v < 2 ^ k → number_from v (levels_at l xs) < 2 ^ (k + length xs)
number_below [] l v k one h = let e : k ≡ k + 0 = omega arith in rw e at h
number_below (x ∷ xs) l v k one h =
    let b = level_small l x.low one in
    let e : suc k + length xs ≡ k + suc (length xs) = omega arith in
    rw e at (number_below xs (left_by l x) (v * 2 + level_of l x.low) (suc k) (level_small (level_of l x.low) x.up b) (grows k v _ h b))

-- a drive that is not complete tells nothing
or_true : (a : Bool) → (a || true) ≡ true
or_true true = refl
or_true false = refl

busy_silent : (p : Profile) (s : State) (n : ℕ) → complete_b s ≡ false → (plain_of p s n).told ≡ None
unfolding plain_of
busy_silent p s n h =
    let busy : refuses_b s ≡ true = rw h (or_true (eqb s.body.reading 1 || eqb s.body.writing 1)) in
    rw busy

module _ (w : Sending) (d : Lent) (fit : InTime w) (low : Each (λ us. us ≤ 65_535) w.first.low) (r : Resting d.chain)
    (long : length d.file ≡ d.chain.length.0) where
  abbrev c : Chain
  c = d.chain

  abbrev slot : ℕ
  slot = c.lines.select

  abbrev whole : SoundOver d
  whole = record { formed = r.sound; long = long }

  fitted : fitted_b (slot_pack c.packs slot) ≡ true
  unfolding look_of
  fitted = r.selected

  word_below : word w d < 131_072
  word_below =
      let one : c.lines.command ≤ 1 = leb-true c.lines.command 1 (each (line_tests c.lines) (sound c r.sound).lines).1.1.1.1.0 in
      let e : length (w.first ∷ w.more) ≡ 17 = ap (λ (k : ℕ). suc k) fit.seventeen in
      rw e at (number_below (w.first ∷ w.more) c.lines.command 0 0 one (omega arith))

  -- the chain that the exchange leaves, by the time that has then passed
  record Leaves : Type 0 where
    level : ℕ
    chain : (at_once w d).now.chain ≡ given (word w d) level (passed (bench_time w d) c)
    file : (at_once w d).now.file ≡ d.file
    response : (at_once w d).response ≡ response_bits w d (bench_answer w d).told

  waited_is : (t : Option ℕ) → waited w d t ≡ passed (told_time w d t) c
  waited_is None = refl
  waited_is (Some x) = refl

  leaves_by : (t : Bool) → complete_b (drive_of (risen w d)) ≡ t → Leaves
  leaves_by true q =
      let on = waited_is (plain (word w d) (sent w d)).told in
      record {
        level = level_left w d (plain (word w d) (called_on w d)).told;
        chain = rw q (ap (λ (x : Chain). given (word w d) (level_left w d (plain (word w d) (called_on w d)).told) x) on);
        file = rw q;
        response = rw q (ap (λ (x : Chain). response_bits w d (plain (word w d) x).told) on);
      }
  leaves_by false q = record {
    level = level_of c.lines.command w.first.low;
    chain = rw q;
    file = rw q;
    response = rw (q, busy_silent (look_of (risen w d)).profile (drive_of (risen w d)) (word w d) q);
  }

  module _ (us : List ℕ) (spans : Spans us) (all : total us ≡ bench_time w d) where
    abbrev last : Chain
    last = passed (bench_time w d) c

    -- the chain when the events of kind 6 have passed
    waits_is : (run (pass_events us) d).lent ≡ lent last d.file
    waits_is = passes_run us d whole spans ∙ (λ i. lent (passed (all i) c) d.file)

    last_sound : chain_sound_b last ≡ true
    last_sound = ap (λ (x : Lent). chain_sound_b x.chain) (sym waits_is) ∙ (run_sound (pass_events us) d whole).formed

    given_by : slot_word last slot (word w d)
        ≡ record { lent = state_in last slot (bench_answer w d).state; code = word_code (outcome_answer (bench_answer w d).outcome) (bench_answer w d).told }
    unfolding slot_word word_at sent_of look_of applied decide_of pass_event
    given_by = rw (is_slot c r.sound slot fitted, le-ltb largest (word w d) (omega (arith, word_below)), last_sound, fitted)

    word_is : bench_word w d us
        ≡ record { lent = state_in last slot (bench_answer w d).state; code = word_code (outcome_answer (bench_answer w d).outcome) (bench_answer w d).told }
    word_is = ap (λ (x : Lent). slot_word x.chain slot (word w d)) waits_is ∙ given_by

    leaves : Leaves
    leaves = leaves_by (complete_b (drive_of (risen w d))) refl

    run_is : (run (events_sent w d) d).lent ≡ (at_once w d).now
    run_is = run_demand_3 w d fit low r long

    left_is : (run (events_sent w d) d).lent.chain ≡ with_level leaves.level (bench_word w d us).lent
    unfolding applied changed_of decide_of pass_event
    left_is =
        ap (λ (x : Lent). x.chain) run_is ∙ leaves.chain
        ∙ ap (λ (x : Coded Chain). with_level leaves.level x.lent) (sym word_is)

    -- any waits that events of kind 6 can pass, however they are split
    pub bench_demand_3 : SameAsBench w d us
    bench_demand_3 = record {
      chain = left_is ∙ sym (ap (λ (x : Chain). with_level x.lines.command (bench_word w d us).lent) left_is);
      file = ap (λ (x : Lent). x.file) run_is ∙ leaves.file ∙ ap (λ (x : Lent). x.file) (sym waits_is);
      code = ap (λ (x : Coded Chain). x.code) word_is;
      response = ap (λ (x : Exchanged Lent). x.response) (step_demand_3 w d fit low r long) ∙ leaves.response;
    }
