-- "Select changes": the drive left.
use Rattle.std.specs.Prelude.{◌||◌, eqb}
use Rattle.std.specs.Prelude.{if◌then◌else◌}
use Rattle.handshake.specs.Transfer.{open_b}
use Rattle.drive_record.specs.declared.State.{State}
use Rattle.drive_record.specs.declared.Outcome.TheVariants.{Done, Fault}
use Rattle.drive_record.specs.declared.Ruled.{Ruled}
use Rattle.drive_record.specs.State.{with_reading, state_of, ruled}
use Rattle.drive_record.specs.Faults.{dropped_of}

-- "the drive left with a transfer open, or while writing, latches bit 6 and drops both; reading just ends"
unfoldable pub left_of : State → Ruled
left_of s =
    if open_b s.transfer || eqb s.body.writing 1 then ruled Fault (dropped_of (with_reading 0 s.body))
    else ruled Done (state_of (with_reading 0 s.body) s.transfer)
