-- Kind 8.
use Rattle.std.specs.Prelude.{ℕ, Bool, ◌&&◌, not, eqb, None}
use Rattle.std.specs.Prelude.{if◌then◌else◌}
use Rattle.pack_profile.specs.General.{removable}
use Rattle.pack_read.specs.declared.Pack.{Pack}
use Rattle.drive_record.specs.declared.State.{State}
use Rattle.drive_record.specs.State.{state_of}
use Rattle.drive_record.specs.Faults as faults
use Rattle.event.specs.declared.Answer.TheVariants.{Taken, Inapplicable}
use Rattle.lines.specs.declared.Lines.{Lines}
use Rattle.chain_decision.specs.declared.Change.TheVariants as change
use Rattle.chain_decision.specs.declared.Deed.TheVariants as deed
use Rattle.chain_decision.specs.declared.Decision.{Decision}
use Rattle.chain_decision.specs.Decision.{say_of}
use Rattle.pack_read.specs.Packs.{fitted_b}

-- "3 on a fixed drive"
unfoldable pub fixed_change : Pack → ℕ → Bool
fixed_change p which = eqb which 3 && not (removable p.profile.general)

-- kind 8: "condition for an empty slot, or 3 on a fixed drive"; "a condition taken answers 0"
unfoldable pub condition_at : Lines → Pack → State → ℕ → ℕ → Decision
condition_at l p s slot which =
    if not (fitted_b p) then say_of l Inapplicable
    else (if fixed_change p which then say_of l Inapplicable
    else record { lines = l; change = change.One slot (state_of (faults.condition_of which s.body) s.transfer); word = None; deed = deed.Say Taken })
