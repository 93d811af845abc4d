-- Events one after the other, each by its three numbers, on a chain and the file lent with it. "The same events singly" is this.
use Rattle.std.specs.Prelude.{ℕ, List, [], ◌∷◌}
use Rattle.event.specs.declared.Answer.{Answer}
use Rattle.event.specs.Numbers.{Numbers}
use Rattle.chain_record.specs.declared.Chain.{Chain}
use Rattle.chain_step.specs.declared.Stepped.{Stepped}
use Rattle.chain_step.specs.Step.{step_of, step_file}

-- a chain record and the file lent with it
pub record Lent : Type 0 where
  pub chain : Chain
  pub file : List ℕ

abbrev pub lent : Chain → List ℕ → Lent
lent c file = record { chain = c; file = file }

-- what one event makes of the record, and its answer
abbrev pub step_by : Numbers → Lent → Stepped
step_by n d = step_of n.kind n.a n.b d.chain d.file

-- the record and the file after one event
abbrev pub lent_after : Numbers → Lent → Lent
lent_after n d = lent (step_by n d).chain (step_file n.kind n.a n.b d.chain d.file)

-- the record and the file after all of them
abbrev pub lent_through : List Numbers → Lent → Lent
lent_through [] d = d
lent_through (n ∷ rest) d = lent_through rest (lent_after n d)

-- the answer to each, in order
abbrev pub answers_through : List Numbers → Lent → List Answer
answers_through [] d = []
answers_through (n ∷ rest) d = (step_by n d).answer ∷ answers_through rest (lent_after n d)

pub record Ran : Type 0 where
  pub lent : Lent
  pub answers : List Answer

abbrev pub run : List Numbers → Lent → Ran
run events d = record { lent = lent_through events d; answers = answers_through events d }
