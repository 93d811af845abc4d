-- Latching, the conditions of kind 8, and a transfer dropped.
use Rattle.std.specs.Prelude.{ℕ, ◌^◌, eqb, Option, Some, None}
use Rattle.std.specs.Int.Bits.{bit_or}
use Rattle.std.specs.Prelude.{if◌then◌else◌}
use Rattle.drive_record.specs.declared.Body.{Body}
use Rattle.handshake.specs.declared.Transfer.{Transfer}
use Rattle.handshake.specs.Transfer.{no_transfer}
use Rattle.drive_record.specs.declared.State.{State}
use Rattle.drive_record.specs.declared.Outcome.TheVariants.{Done, Fault}
use Rattle.drive_record.specs.declared.Ruled.{Ruled}
use Rattle.drive_record.specs.State.{with_arm, with_latched, with_reading, with_writing, with_standing, state_of, ruled}

-- a bit of the status word, by its value; "Latching any bit ends writing."
unfoldable pub latch_of : ℕ → Body → Body
latch_of value b = with_writing 0 (with_latched (record { 0 = bit_or b.latched.0 value }) b)

-- bit k
abbrev pub latch_bit : ℕ → Body → Body
latch_bit k b = latch_of (2 ^ k) b

abbrev pub lose_position : Body → Body
lose_position b = with_arm (record { cylinder = b.arm.cylinder; offset = b.arm.offset; lost = 1 }) b

-- the conditions of kind 8
unfoldable pub condition_of : ℕ → Body → Body
condition_of which b =
    if eqb which 1 then with_standing 1 (latch_bit 1 b)  -- "Condition 1 latches bit 1"; request 3: it "now begins a fault"
    else (if eqb which 2 then with_reading 0 (lose_position (latch_bit 4 b))  -- "2 latches bit 4, loses the position and ends reading"
    else (if eqb which 3 then latch_bit 0 b  -- "3 latches bit 0"
    else with_standing 0 b))  -- request 3: "a new condition 4 ends it"

-- "bit 6, dropped. Dropping lowers acknowledge."
abbrev pub dropped_of : Body → State
dropped_of b = state_of (latch_bit 6 b) no_transfer

-- a dropped transfer is "a fault rule applied"
abbrev pub held_of : Body → Option Transfer → Ruled
held_of b (Some t) = ruled Done (state_of b t)
held_of b None = ruled Fault (dropped_of b)
