-- The slots of a chain, and the selected drive.
use Rattle.std.specs.Prelude.{ℕ, ◌-◌, List, get_or}
use Rattle.std.specs.Prelude.{if◌then◌else◌}
use Rattle.counts.specs.Slots.{slot_b}
use Rattle.pack_read.specs.declared.Pack.{Pack}
use Rattle.pack_read.specs.Packs.{no_pack}
use Rattle.drive_record.specs.declared.State.{State}
use Rattle.drive_record.specs.State.{blank_state}
use Rattle.pack_read.specs.Packs.{fitted_b}
use Rattle.chain_record.specs.declared.Chain.{Chain}
use Rattle.chain_record.specs.declared.Seen.{Seen}

-- the pack and the state of a slot, "0 = none"
unfoldable pub slot_pack : List Pack → ℕ → Pack
slot_pack packs slot = if slot_b slot then get_or packs (slot - 1) no_pack else no_pack

unfoldable pub slot_state : List State → ℕ → State
slot_state states slot = if slot_b slot then get_or states (slot - 1) blank_state else blank_state

-- the selected drive, if a fitted one is
unfoldable pub look_of : Chain → Seen
look_of c = record {
  selected = fitted_b (slot_pack c.packs c.lines.select);
  profile = (slot_pack c.packs c.lines.select).profile;
  state = slot_state c.states c.lines.select;
}
