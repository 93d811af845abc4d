-- Decisions: the lines taken, the states that change, the word carried out, and what is answered or touched.
use Rattle.std.specs.Prelude.{ℕ, Bool, Option, None}
use Rattle.std.specs.Prelude.{if◌then◌else◌}
use Rattle.drive_record.specs.declared.State.{State}
use Rattle.drive_record.specs.declared.Outcome.{Outcome}
use Rattle.drive_record.specs.declared.Outcome.TheVariants as outcome
use Rattle.drive_record.specs.declared.Ruled.{Ruled}
use Rattle.drive_record.specs.State.{ruled}
use Rattle.event.specs.declared.Answer.{Answer}
use Rattle.event.specs.declared.Answer.TheVariants.{Taken, Unselected, Inhibited, Fault}
use Rattle.lines.specs.declared.Lines.{Lines}
use Rattle.chain_decision.specs.declared.Change.TheVariants as change
use Rattle.chain_decision.specs.declared.Deed.TheVariants as deed
use Rattle.chain_decision.specs.declared.Decision.{Decision}

-- "4 inhibited, nothing latched", "5 a fault rule applied"
abbrev pub outcome_answer : Outcome → Answer
outcome_answer outcome.Done = Taken
outcome_answer outcome.Inhibited = Inhibited
outcome_answer outcome.Fault = Fault

abbrev pub say_of : Lines → Answer → Decision
say_of l a = record { lines = l; change = change.Nothing; word = None; deed = deed.Say a }

-- "3 no fitted drive selected .. line levels taken"
unfoldable pub heard_of : Lines → Bool → Decision
heard_of l on = if on then say_of l Taken else say_of l Unselected

-- a rule applied to the drive that the lines select, with the word carried out
abbrev pub ruled_of : Lines → Option ℕ → Ruled → Decision
ruled_of l word r = record {
  lines = l;
  change = change.One l.select r.state;
  word = word;
  deed = deed.Say (outcome_answer r.outcome);
}

abbrev pub ruled_done : State → Ruled
ruled_done s = ruled outcome.Done s
