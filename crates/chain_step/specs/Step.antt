-- What an event does to the chain and to its file: the whole of it, refusals too.
use Rattle.std.specs.Prelude.{ℕ, ◌≡◌, List, length}
use Rattle.pack_read.specs.declared.Pack.{Pack}
use Rattle.event.specs.declared.Answer.{Answer}
use Rattle.chain_decision.specs.declared.Decision.{Decision}
use Rattle.chain_decision.specs.declared.Deed.{Deed}
use Rattle.chain_decision.specs.Deeds.{said_of, file_after}
use Rattle.chain_record.specs.declared.Chain.{Chain}
use Rattle.chain_apply.specs.Apply.{applied}
use Rattle.chain_judge.specs.Judge.{judged_of}
use Rattle.chain_step.specs.declared.Performed.{Performed}
use Rattle.chain_step.specs.declared.Stepped.{Stepped}

pub record Obeyed (packs : List Pack) (deed : Deed) (file : List ℕ) (r : Answer) (after : List ℕ) : Type 0 where
  pub is : r ≡ said_of packs deed file
  pub holds : after ≡ file_after packs deed file

-- a decision done on the file, the record still to change
abbrev pub done_on : Chain → List ℕ → Decision → Performed
done_on c file d = record { decision = d; answer = said_of c.packs d.deed file }

unfoldable pub perform_of : ℕ → ℕ → ℕ → Chain → List ℕ → Performed
perform_of kind a b c file = done_on c file (judged_of c (length file) kind a b)

-- a decision carried out
abbrev pub performed : Chain → List ℕ → Decision → Stepped
performed c file d = record { chain = applied c d; answer = said_of c.packs d.deed file }

unfoldable pub step_of : ℕ → ℕ → ℕ → Chain → List ℕ → Stepped
step_of kind a b c file = performed c file (judged_of c (length file) kind a b)

unfoldable pub step_file : ℕ → ℕ → ℕ → Chain → List ℕ → List ℕ
step_file kind a b c file = file_after c.packs (judged_of c (length file) kind a b).deed file
