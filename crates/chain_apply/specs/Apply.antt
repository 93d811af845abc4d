-- A decision put into the record.
use Rattle.std.specs.Prelude.{ℕ, ◌-◌, List, set}
use Rattle.counts.specs.declared.Micros.{Micros}
use Rattle.std.specs.Prelude.{if◌then◌else◌}
use Rattle.counts.specs.Slots.{slot_b, map_with}
use Rattle.pack_read.specs.declared.Pack.{Pack}
use Rattle.drive_record.specs.declared.State.{State}
use Rattle.drive_rules.specs.Time as time
use Rattle.chain_record.specs.declared.Chain.{Chain}
use Rattle.chain_decision.specs.declared.Change.{Change}
use Rattle.chain_decision.specs.declared.Change.TheVariants.{Nothing, One, Two, Pass}
use Rattle.chain_decision.specs.declared.Decision.{Decision}
use Rattle.pack_read.specs.Packs.{fitted_b}

unfoldable pub put_of : List State → ℕ → State → List State
put_of states slot s = if slot_b slot then set states (slot - 1) s else states

-- "Microseconds passing lower both timers of every drive"
unfoldable pub pass_slot : Micros → Pack → State → State
pass_slot us p s = if fitted_b p then (time.pass_drive us s).state else s

unfoldable pub changed_of : List Pack → List State → Change → List State
changed_of packs states Nothing = states
changed_of packs states (One slot s) = put_of states slot s
changed_of packs states (Two slot s other t) = put_of (put_of states slot s) other t
changed_of packs states (Pass us) = map_with (pass_slot us) packs states

abbrev pub with_states : Chain → List State → Chain
with_states c states = record { packs = c.packs; states = states; lines = c.lines; length = c.length }

-- no event alters a pack's place or profile, or the file's length
unfoldable pub applied : Chain → Decision → Chain
applied c d = record { packs = c.packs; states = changed_of c.packs c.states d.change; lines = d.lines; length = c.length }
