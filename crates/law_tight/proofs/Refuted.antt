-- Ours keeps what a board must keep, and document 01's wrong chains do not. Each is seen on the empty chain.
use mathlib.Core.Path.{◌≡◌, refl, sym, ap, ◌∙◌}
use mathlib.Core.List.{[]}
use Prim.Native.Nat.{ℕ, ◌≤◌}
use native.Mathlib.Omega.{arith}
use Rattle.std.specs.Prelude.{Ok}
use Rattle.event.specs.declared.Event.{Event}
use Rattle.event.specs.declared.Event.TheVariants.{WriteGate, Pass}
use Rattle.event.specs.Decode.{ranged, level_line, kind_row, decode_of}
use Rattle.event.specs.declared.Answer.{Answer}
use Rattle.event.specs.declared.Answer.TheVariants.{Taken, Unselected, Inhibited, Fault}
use Rattle.event.specs.Answer.{answer_number}
use Rattle.chain_record.specs.declared.Chain.{Chain}
use Rattle.chain_record.specs.Record.{slot_pack, look_of}
use Rattle.chain_decision.specs.Decision.{heard_of}
use Rattle.chain_lines.specs.Signals.{signal_of}
use Rattle.chain_decide.specs.Decide.{decide_of}
use Rattle.chain_judge.specs.Judge.{allowed_of, judged_of}
use Rattle.chain_step.specs.Step.{step_of}
use Rattle.chain_step.proofs.Empty.{empty_chain, empty_sound}
use Rattle.law_chain.specs.Applies.{first_applies}
use Rattle.law_chain.proofs.Column.{answer_leaves}
use Rattle.law_chain.proofs.FirstAnswer.{first_given}
use Rattle.law_tight.specs.WrongChains.{Board, ours, AlwaysAnswers, does_nothing, GivesFirst, LeavesAsTold}

pub ours_first : GivesFirst ours
ours_first c file e kind a b = first_given c file e kind a b

pub ours_leaves : LeavesAsTold ours
ours_leaves c file kind a b e = answer_leaves c file kind a b e

-- no time passes, and no drive is there
abbrev still : Event
still = Pass (record { 0 = 0 })

passing : decode_of 6 0 0 ≡ Ok still
unfolding decode_of kind_row ranged
passing = refl

still_taken : first_applies empty_chain still ≡ 0
unfolding first_applies
still_taken = refl

-- write gate rises, and no drive is there
gate : decode_of 2 1 0 ≡ Ok (WriteGate 1)
unfolding decode_of kind_row ranged level_line
gate = refl

gate_unselected : first_applies empty_chain (WriteGate 1) ≡ 3
unfolding first_applies look_of slot_pack
gate_unselected = refl

module _ (B : Board) (given : GivesFirst B) where
  -- a number that is given always, and is not the first that applies to an event of the empty chain
  wrong : (x : Answer) → AlwaysAnswers x B → answer_number x ≤ 5 → (answer_number x ≡ 1 → ⊥) → (answer_number x ≡ 2 → ⊥)
      → (e : Event) (kind a b first : ℕ) → decode_of kind a b ≡ Ok e → first_applies empty_chain e ≡ first → answer_number x ≡ first
  wrong x is small one two e kind a b first q f =
      let n : answer_number (B.step kind a b empty_chain []).answer ≡ answer_number x = ap answer_number (is kind a b empty_chain []) in
      sym n ∙ given empty_chain [] e kind a b q (rw n small) (rw n one) (rw n two) ∙ f

  pub faults_all_refuted : AlwaysAnswers Fault B → ⊥
  faults_all_refuted is = let z = wrong Fault is (omega arith) (λ e. omega arith) (λ e. omega arith) still 6 0 0 0 passing still_taken in omega arith

  pub inhibits_all_refuted : AlwaysAnswers Inhibited B → ⊥
  inhibits_all_refuted is = let z = wrong Inhibited is (omega arith) (λ e. omega arith) (λ e. omega arith) still 6 0 0 0 passing still_taken in omega arith

  pub answers_zero_refuted : AlwaysAnswers Taken B → ⊥
  answers_zero_refuted is = let z = wrong Taken is (omega arith) (λ e. omega arith) (λ e. omega arith) (WriteGate 1) 2 1 0 3 gate gate_unselected in omega arith

-- ours answers 3 there
unselected : (step_of 2 1 0 empty_chain []).answer ≡ Unselected
unfolding step_of judged_of allowed_of decode_of kind_row ranged level_line decide_of signal_of heard_of look_of slot_pack
unselected = rw empty_sound

pub does_nothing_refuted : LeavesAsTold does_nothing → ⊥
does_nothing_refuted leaves =
    let told = rw unselected at (leaves empty_chain [] 2 1 0 (WriteGate 1) gate) in
    let z : ◌≡◌ {A = ℕ} 0 1 = ap (λ (c : Chain). c.lines.writegate) told.0 in omega arith
