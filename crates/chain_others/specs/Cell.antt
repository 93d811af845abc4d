-- Kind 7.
use Rattle.std.specs.Prelude.{ℕ, not, leb, eqb, None}
use Rattle.counts.specs.declared.Position.{Position}
use Rattle.std.specs.Prelude.{if◌then◌else◌}
use Rattle.event.specs.declared.Answer.TheVariants.{Unselected, Inhibited, PastTrack}
use Rattle.lines.specs.declared.Lines.{Lines}
use Rattle.chain_decision.specs.declared.Change.TheVariants as change
use Rattle.chain_decision.specs.declared.Spot.{Spot}
use Rattle.chain_decision.specs.declared.Deed.{Deed}
use Rattle.chain_decision.specs.declared.Deed.TheVariants as deed
use Rattle.chain_decision.specs.declared.Decision.{Decision}
use Rattle.chain_record.specs.declared.Seen.{Seen}
use Rattle.chain_decision.specs.Decision.{say_of}

-- the cell under the selected drive's head
abbrev pub cell_spot : Seen → Lines → Position → Spot
cell_spot d l position = record {
  slot = l.select;
  cylinder = d.state.body.arm.cylinder;
  head = d.state.body.head;
  position = position;
}

abbrev pub touching : Lines → Deed → Decision
touching l x = record { lines = l; change = change.Nothing; word = None; deed = x }

-- kind 7: "cell position at or past the selected drive's track length"; "A cell with neither writing nor reading is inhibited."
unfoldable pub cell_event : Seen → Lines → Position → ℕ → Decision
cell_event d l position byte =
    if not d.selected then say_of l Unselected
    else (if leb d.profile.shape.track.0 position.0 then say_of l PastTrack
    else (if eqb d.state.body.writing 1 then touching l (deed.Write (cell_spot d l position) byte)
    else (if eqb d.state.body.reading 1 then touching l (deed.Read (cell_spot d l position))
    else say_of l Inhibited)))
