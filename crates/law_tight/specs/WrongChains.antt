-- "Tried against them and refused by the prover": document 01's wrong chains, as boards of their own, and what a board must keep.
use Rattle.std.specs.Prelude.{ℕ, ◌≤◌, ◌≡◌, List, Ok}
use Rattle.event.specs.declared.Event.{Event}
use Rattle.event.specs.Decode.{decode_of}
use Rattle.event.specs.declared.Answer.{Answer}
use Rattle.event.specs.Answer.{answer_number}
use Rattle.chain_record.specs.declared.Chain.{Chain}
use Rattle.chain_step.specs.declared.Stepped.{Stepped}
use Rattle.chain_step.specs.Step.{step_of, step_file}
use Rattle.law_chain.specs.Applies.{first_applies}
use Rattle.law_chain.specs.Column.{Leaves}

-- what an event does to the record, its answer, and what it leaves of the file
pub record Board : Type 0 where
  pub step : ℕ → ℕ → ℕ → Chain → List ℕ → Stepped
  pub file : ℕ → ℕ → ℕ → Chain → List ℕ → List ℕ

abbrev pub ours : Board
ours = record { step = step_of; file = step_file }

-- "a chain that faults or inhibits everything, and one that answers 0 throughout": whatever it does to record and file
abbrev pub AlwaysAnswers : Answer → Board → Type 0
AlwaysAnswers answer B = (kind a b : ℕ) (c : Chain) (file : List ℕ) → (B.step kind a b c file).answer ≡ answer

-- "one that does nothing": it answers as ours, and leaves record and file
abbrev pub does_nothing : Board
does_nothing = record {
  step = λ (kind a b : ℕ) (c : Chain) (file : List ℕ). record { chain = c; answer = (step_of kind a b c file).answer };
  file = λ (kind a b : ℕ) (c : Chain) (file : List ℕ). file;
}

-- "one that does nothing (demand 2, cells ..)": all as ours, but that no cell is written
abbrev pub writes_nothing : Board
writes_nothing = record { step = step_of; file = λ (kind a b : ℕ) (c : Chain) (file : List ℕ). file }

module _ (B : Board) where
  -- "Of the answers 5, 4, 3, 0 the first that applies is given"
  abbrev pub GivesFirst : Type 0
  GivesFirst = (c : Chain) (file : List ℕ) (e : Event) (kind a b : ℕ) → decode_of kind a b ≡ Ok e
      → answer_number (B.step kind a b c file).answer ≤ 5
      → (answer_number (B.step kind a b c file).answer ≡ 1 → ⊥) → (answer_number (B.step kind a b c file).answer ≡ 2 → ⊥)
      → answer_number (B.step kind a b c file).answer ≡ first_applies c e

  -- the answer table's column "leaves"
  abbrev pub LeavesAsTold : Type 0
  LeavesAsTold = (c : Chain) (file : List ℕ) (kind a b : ℕ) (e : Event) → decode_of kind a b ≡ Ok e
      → Leaves e c file (B.step kind a b c file).answer (B.step kind a b c file).chain (B.file kind a b c file)
