-- Kind 0. "Select changes: the drive left .. The drive entered takes the head lines .. A line already high is no rise."
use Rattle.std.specs.Prelude.{ℕ, false, None}
use Rattle.std.specs.Prelude.{if◌then◌else◌}
use Rattle.drive_record.specs.declared.Outcome.{Outcome}
use Rattle.drive_record.specs.declared.Outcome.TheVariants as outcome
use Rattle.drive_record.specs.declared.Ruled.{Ruled}
use Rattle.drive_record.specs.declared.State.{State}
use Rattle.pack_read.specs.declared.Pack.{Pack}
use Rattle.drive_rules.specs.Heads.{met_of}
use Rattle.drive_rules.specs.DriveLeft.{left_of}
use Rattle.event.specs.declared.Answer.{Answer}
use Rattle.event.specs.declared.Answer.TheVariants.{Unselected, Fault}
use Rattle.lines.specs.declared.Lines.{Lines}
use Rattle.chain_decision.specs.declared.Change.TheVariants.{One, Two}
use Rattle.chain_decision.specs.declared.Deed.TheVariants.{Say}
use Rattle.chain_decision.specs.declared.Decision.{Decision}
use Rattle.chain_record.specs.declared.Seen.{Seen}
use Rattle.chain_decision.specs.Decision.{outcome_answer, heard_of, ruled_of}
use Rattle.pack_read.specs.Packs.{fitted_b}

-- "Of the answers 5, 4, 3, 0 the first that applies is given": a fault of the drive left, else what comes of the one entered
abbrev pub either_answer : Outcome → Answer → Answer
either_answer outcome.Fault other = Fault
either_answer outcome.Done other = other
either_answer outcome.Inhibited other = other

-- no fitted drive is entered
abbrev pub left_alone : ℕ → Ruled → Lines → Decision
left_alone slot left l = record { lines = l; change = One slot left.state; word = None; deed = Say (either_answer left.outcome Unselected) }

abbrev pub both_of : ℕ → Ruled → Ruled → Lines → Decision
both_of slot left entered l = record {
  lines = l;
  change = Two slot left.state l.select entered.state;
  word = None;
  deed = Say (either_answer left.outcome (outcome_answer entered.outcome));
}

-- the select code has changed, from l to m: the drive seen is left, that of the pack p, with the state s, is entered
unfoldable pub moved_of : Seen → Lines → Lines → Pack → State → Decision
moved_of d l m p s =
    if fitted_b p then
    (if d.selected then both_of l.select (left_of d.state) (met_of p.profile l.heads s) m
    else ruled_of m None (met_of p.profile l.heads s))
    else (if d.selected then left_alone l.select (left_of d.state) m
    else heard_of m false)
