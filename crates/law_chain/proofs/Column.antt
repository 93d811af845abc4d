-- What each answer leaves of the chain and of the file: the answer table's column "leaves".
use mathlib.Core.Path.{◌≡◌, refl, ap}
use mathlib.Core.Bool.{Bool, true, false, ◌&&◌, not}
use mathlib.Core.List.{List}
use mathlib.Core.Logic.{◌⊎◌, inl, inr}
use Prim.Native.Nat.{ℕ, ◌-◌, ◌<◌}
use native.Mathlib.Omega.{arith}
use borrow.Author.Tests.{eqb-true, not-false}
use lib.Dec.{eqb}
use lib.ListN.{length}
use Rattle.counts.specs.declared.Position.{Position}
use Rattle.std.specs.Prelude.{Ok}
use Rattle.std.specs.Prelude.{if◌then◌else◌}
use Rattle.counts.proofs.Choice.{by_test, either_way, never}
use Rattle.drive_record.specs.declared.State.{State}
use Rattle.handshake.specs.Edges.{late_b}
use Rattle.drive_record.specs.declared.Outcome.{Outcome}
use Rattle.drive_record.specs.declared.Outcome.TheVariants.{Done, Inhibited, Fault}
use Rattle.drive_gates.specs.Gates.{read_falls}
use Rattle.drive_rules.specs.DriveLeft.{left_of}
use Rattle.event.specs.declared.Answer.TheVariants as answer
use Rattle.event.specs.declared.Event.{Event}
use Rattle.event.specs.declared.Event.TheVariants.{Select, Heads, WriteGate, ReadGate, Data, Request, Pass, Cell, Condition}
use Rattle.event.specs.Decode.{decode_of}
use Rattle.lines.specs.declared.Lines.{Lines}
use Rattle.chain_record.specs.declared.Chain.{Chain}
use Rattle.chain_decision.specs.declared.Decision.{Decision}
use Rattle.chain_record.specs.declared.Seen.{Seen}
use Rattle.chain_record.specs.Record.{look_of}
use Rattle.chain_decide.specs.Levels.{lines_after, rule_of}
use Rattle.chain_decision.specs.Decision.{outcome_answer}
use Rattle.chain_decision.specs.Deeds.{said_of, file_after}
use Rattle.chain_select.specs.Select.{either_answer}
use Rattle.chain_others.specs.Passing.{pass_event}
use Rattle.chain_decide.specs.Decide.{decide_of}
use Rattle.chain_apply.specs.Apply.{put_of, changed_of, applied}
use Rattle.chain_sound.specs.SoundChain.{chain_sound_b}
use Rattle.chain_sound.proofs.SoundSlots.{cell_in_file}
use Rattle.chain_judge.specs.Judge.{allowed_of, judged_of}
use Rattle.chain_step.specs.Step.{step_of, step_file}
use Rattle.law_chain.specs.OnlyMet.{OnlyMet}
use Rattle.law_chain.specs.Column.{met_place, Leaves}
use Rattle.chain_decide.proofs.Walk.{Cases, walk}
use Rattle.law_chain.proofs.Drives.{put_back}
use Rattle.law_chain.proofs.Meeting.{only_cases}
use Rattle.law_chain.proofs.Outcomes.{Unlatched, write_unlatched, read_unlatched, met_acts, left_acts, rises_acts, falls_acts, left_done}

-- where the rule that a signal meets is inhibited, the drive is as it was
pub rule_unlatched : (d : Seen) (l : Lines) (e : Event) → Unlatched d.state (rule_of d l e)
rule_unlatched d l (Heads h) = λ i. absurd (met_acts _ _ _ i)
rule_unlatched d l (WriteGate v) = either_way (Unlatched d.state) (eqb v 1) (write_unlatched _ _ _) (λ i. absurd (never (cc)))
rule_unlatched d l (ReadGate v) = either_way (Unlatched d.state) (eqb v 1) (read_unlatched _ _ _) (λ i. absurd (never (cc)))
rule_unlatched d l (Request v) = either_way (Unlatched d.state) (eqb v 1) (λ i. absurd (rises_acts _ _ i)) (λ i. absurd (falls_acts _ _ i))
rule_unlatched d l (Data v) = λ i. refl
rule_unlatched d l (Select slot) = λ i. refl
rule_unlatched d l (Pass us) = λ i. refl
rule_unlatched d l (Cell position byte) = λ i. refl
rule_unlatched d l (Condition slot which) = λ i. refl

module _ (c : Chain) (file : List ℕ) (h : chain_sound_b c ≡ true) (n : length file ≡ c.length.0) where
  abbrev d : Seen
  d = look_of c

  abbrev l : Lines
  l = c.lines

  abbrev P : Event → Decision → Type 0
  P e x = Leaves e c file (said_of c.packs x.deed file) (applied c x) (file_after c.packs x.deed file)

  -- a chain whose states are others
  abbrev with : List State → Lines → Chain
  with states m = record { packs = c.packs; states = states; lines = m; length = c.length }

  ruled : (e : Event) (o : Outcome) (s : State) → (o ≡ Inhibited → s ≡ d.state) → (lines_after e l).select ≡ l.select
      → OnlyMet e c (with (put_of c.states (lines_after e l).select s) (lines_after e l))
      → Leaves e c file (outcome_answer o) (with (put_of c.states (lines_after e l).select s) (lines_after e l)) file
  unfolding look_of
  ruled e Done s i q only = (only, refl)
  ruled e Fault s i q only = (only, refl)
  ruled e Inhibited s i q only = (ap (λ (states : List State). with states (lines_after e l)) (rw (i refl, q) (put_back c.states l.select)), refl)

  -- a rule that inhibits nothing
  acting : (e : Event) (o : Outcome) (chain : Chain) → (o ≡ Inhibited → ⊥) → OnlyMet e c chain → Leaves e c file (outcome_answer o) chain file
  acting e Done chain i only = (only, refl)
  acting e Fault chain i only = (only, refl)
  acting e Inhibited chain i only = absurd (i refl)

  left_alone_lem : (slot : ℕ) (o : Outcome) (s : State) → (o ≡ Done → s ≡ read_falls d.state) → (o ≡ Inhibited → ⊥) → d.selected ≡ true
      → OnlyMet (Select slot) c (with (put_of c.states l.select s) (lines_after (Select slot) l))
      → Leaves (Select slot) c file (either_answer o answer.Unselected) (with (put_of c.states l.select s) (lines_after (Select slot) l)) file
  left_alone_lem slot Fault s e i on only = (only, refl)
  left_alone_lem slot Inhibited s e i on only = absurd (i refl)
  left_alone_lem slot Done s e i on only = (rw (on, e refl), refl)

  swapped : (e : Event) (o p : Outcome) (chain : Chain) → (o ≡ Inhibited → ⊥) → (p ≡ Inhibited → ⊥)
      → OnlyMet e c chain → Leaves e c file (either_answer o (outcome_answer p)) chain file
  swapped e Done p chain i j only = acting e p chain j only
  swapped e Fault p chain i j only = (only, refl)
  swapped e Inhibited p chain i j only = absurd (i refl)

  timed : (e : Event) (late : Bool) (chain : Chain) → OnlyMet e c chain → Leaves e c file (if late then answer.Fault else answer.Taken) chain file
  timed e true chain only = (only, refl)
  timed e false chain only = (only, refl)

  inside : (position : Position) → d.selected ≡ true → position.0 < d.profile.shape.track.0
      → (d.state.body.writing ≡ 1) ⊎ (d.state.body.reading ≡ 1) → met_place c position < length file
  inside position on t u = omega (arith, cell_in_file c position h on t u)

  abbrev o : Cases c (λ e x. OnlyMet e c (applied c x))
  o = only_cases c

  cases : Cases c P
  unfolding applied changed_of pass_event
  cases = record {
    still = λ e b on m q. (o.still e b on m q, refl);
    level = λ v on. (o.level v on, refl);
    alone = λ e a off q. (rw off, refl);
    met = λ e on m q. ruled e (rule_of d l e).outcome (rule_of d l e).state (rule_unlatched d l e) q (o.met e on m q);
    enters = λ slot off f m. acting (Select slot) _ _ (met_acts _ _ _) (o.enters slot off f m);
    leaves = λ slot on f m. left_alone_lem slot (left_of d.state).outcome (left_of d.state).state (left_done d.state) (left_acts d.state) on (o.leaves slot on f m);
    swaps = λ slot on f m. swapped (Select slot) _ _ _ (left_acts d.state) (met_acts _ _ _) (o.swaps slot on f m);
    passes = λ us. timed (Pass us) (d.selected && late_b us d.state.transfer) _ (o.passes us);
    past = λ position byte on. (refl, refl);
    writes = λ position byte on t w.
        (record { position = position; byte = byte; cell = refl; inside = inside position on t (inl w); holds = refl }, refl);
    reads = λ position byte on t r w.
        (record { position = position; byte = byte; cell = refl; inside = inside position on t (inr r); is = refl }, (refl, refl));
    idle = λ position byte on w r. (refl, refl);
    inapplicable = λ slot which. (refl, refl);
    condition = λ slot which f. (o.condition slot which f, refl);
  }

  decision_leaves : (e : Event) → P e (decide_of c e)
  decision_leaves = walk c P cases

module _ (c : Chain) (file : List ℕ) where
  abbrev Left : Event → Decision → Type 0
  Left e d = Leaves e c file (said_of c.packs d.deed file) (applied c d) (file_after c.packs d.deed file)

  allowed : (e : Event) → Left e (allowed_of c (length file) e)
  unfolding allowed_of applied changed_of
  allowed e =
      by_test (Left e) (not (chain_sound_b c)) _ _ (λ m. (refl, refl))
      (λ s. by_test (Left e) (not (eqb (length file) c.length.0)) _ _ (λ w. (refl, refl))
      (λ n. decision_leaves c file (not-false _ s) (eqb-true _ _ (not-false _ n)) e))

  -- whatever the record and the file, of every event
  pub answer_leaves : (kind a b : ℕ) (e : Event) → decode_of kind a b ≡ Ok e
      → Leaves e c file (step_of kind a b c file).answer (step_of kind a b c file).chain (step_file kind a b c file)
  unfolding step_of step_file judged_of
  answer_leaves kind a b e q = rw q (allowed e)
