-- "Refusals 19 to 25 change nothing": a refused event leaves the record and the file as they were.
use mathlib.Core.Path.{◌≡◌, refl}
use mathlib.Core.Bool.{Bool, true, false, ◌&&◌, not}
use mathlib.Core.List.{List}
use Prim.Native.Nat.{ℕ, ◌≤◌}
use native.Mathlib.Omega.{arith}
use lib.Dec.{eqb}
use lib.ListN.{length}
use Rattle.std.specs.Prelude.{Result, Ok, Err}
use Rattle.std.specs.Prelude.{if◌then◌else◌}
use Rattle.counts.proofs.Choice.{by_test}
use Rattle.handshake.specs.Edges.{late_b}
use Rattle.drive_record.specs.declared.Outcome.{Outcome}
use Rattle.drive_record.specs.declared.Outcome.TheVariants as outcome
use Rattle.drive_rules.specs.DriveLeft.{left_of}
use Rattle.event.specs.declared.Answer.{Answer}
use Rattle.event.specs.declared.Answer.TheVariants.{Taken, Unselected, Fault}
use Rattle.event.specs.declared.Event.{Event}
use Rattle.event.specs.declared.Undecoded.{Undecoded}
use Rattle.event.specs.declared.Undecoded.TheVariants.{Unknown, Range}
use Rattle.event.specs.Answer.{answer_number}
use Rattle.event.specs.Decode.{decode_of}
use Rattle.chain_record.specs.declared.Chain.{Chain}
use Rattle.chain_decision.specs.declared.Decision.{Decision}
use Rattle.chain_record.specs.declared.Seen.{Seen}
use Rattle.chain_record.specs.Record.{look_of}
use Rattle.chain_decision.specs.Decision.{outcome_answer}
use Rattle.chain_decision.specs.Deeds.{said_of, file_after}
use Rattle.chain_select.specs.Select.{either_answer}
use Rattle.chain_others.specs.Passing.{pass_event}
use Rattle.chain_apply.specs.Apply.{changed_of, applied}
use Rattle.chain_decide.specs.Levels.{rule_of}
use Rattle.chain_sound.specs.SoundChain.{chain_sound_b}
use Rattle.chain_decide.proofs.Walk.{entered_of, Cases, walk}
use Rattle.chain_judge.specs.Judge.{allowed_of, decoded_of, judged_of}
use Rattle.chain_step.specs.Step.{step_of, step_file}

module _ (c : Chain) (file : List ℕ) where
  -- a decision that refuses changes nothing
  abbrev Quiet : Event → Decision → Type 0
  Quiet e d = 20 ≤ answer_number (said_of c.packs d.deed file) → (applied c d ≡ c) × (file_after c.packs d.deed file ≡ file)

  low : (o : Outcome) → 20 ≤ answer_number (outcome_answer o) → ⊥
  low outcome.Done h = omega arith
  low outcome.Inhibited h = omega arith
  low outcome.Fault h = omega arith

  alone : 20 ≤ answer_number Unselected → ⊥
  alone h = omega arith

  -- what a rule comes to is no refusal
  ruled : {X : Type 0} (o : Outcome) → 20 ≤ answer_number (outcome_answer o) → X
  ruled o h = absurd (low o h)

  either : {X : Type 0} (o : Outcome) (a : Answer) → (20 ≤ answer_number a → ⊥) → 20 ≤ answer_number (either_answer o a) → X
  either outcome.Done a k h = absurd (k h)
  either outcome.Inhibited a k h = absurd (k h)
  either outcome.Fault a k h = absurd (omega arith)

  timed : {X : Type 0} (late : Bool) → 20 ≤ answer_number (if late then Fault else Taken) → X
  timed true h = absurd (omega arith)
  timed false h = absurd (omega arith)

  abbrev d : Seen
  d = look_of c

  cases : Cases c Quiet
  unfolding pass_event applied changed_of
  cases = record {
    still = λ e b on m q h. absurd (omega arith);
    level = λ v on h. absurd (omega arith);
    alone = λ e a off n h. absurd (omega arith);
    met = λ e on m q. ruled (rule_of d c.lines e).outcome;
    enters = λ slot off f m. ruled (entered_of c slot).outcome;
    leaves = λ slot on n m. either (left_of d.state).outcome Unselected alone;
    swaps = λ slot on f m. either (left_of d.state).outcome (outcome_answer (entered_of c slot).outcome) (low (entered_of c slot).outcome);
    passes = λ us. timed (d.selected && late_b us d.state.transfer);
    past = λ position byte on h. (refl, refl);
    writes = λ position byte on t w h. absurd (omega arith);
    reads = λ position byte on t r w h. absurd (omega arith);
    idle = λ position byte on w r h. absurd (omega arith);
    inapplicable = λ slot which h. (refl, refl);
    condition = λ slot which f h. absurd (omega arith);
  }

  allowed : (e : Event) → Quiet e (allowed_of c (length file) e)
  unfolding allowed_of applied changed_of
  allowed e =
      by_test (Quiet e) (not (chain_sound_b c)) _ _ (λ m h. (refl, refl))
      (λ s. by_test (Quiet e) (not (eqb (length file) c.length.0)) _ _ (λ w h. (refl, refl)) (λ n. walk c Quiet cases e))

  -- demand 1: whatever the numbers, the record and the file
  pub refused_leaves : (kind a b : ℕ) → 20 ≤ answer_number (step_of kind a b c file).answer → ((step_of kind a b c file).chain ≡ c) × (step_file kind a b c file ≡ file)
  unfolding step_of step_file judged_of applied changed_of
  refused_leaves kind a b = by (decode_of kind a b)
    where
      by : (x : Result Event Undecoded) → 20 ≤ answer_number (said_of c.packs (decoded_of c (length file) x).deed file)
          → (applied c (decoded_of c (length file) x) ≡ c) × (file_after c.packs (decoded_of c (length file) x).deed file ≡ file)
      by (Ok e) = allowed e
      by (Err Unknown) = λ h. (refl, refl)
      by (Err Range) = λ h. (refl, refl)
