-- The column "effect": what each command does to a drive.
use Rattle.std.specs.Prelude.{ℕ, ◌+◌, ◌*◌, ◌-◌, ◌^◌, ◌&&◌, leb, eqb}
use Rattle.std.specs.Int.Bits.{bit_and}
use Rattle.counts.specs.declared.Cylinder.{Cylinder}
use Rattle.counts.specs.declared.Distance.{Distance}
use Rattle.counts.specs.declared.Micros.{Micros}
use Rattle.counts.specs.declared.SectorSize.{SectorSize}
use Rattle.std.specs.Prelude.{if◌then◌else◌}
use Rattle.pack_profile.specs.declared.Times.{Times}
use Rattle.drive_record.specs.declared.Arm.{Arm}
use Rattle.drive_record.specs.declared.Latched.{Latched}
use Rattle.drive_record.specs.declared.Body.{Body}
use Rattle.drive_record.specs.State.{stopped, starting, up, with_timers, with_arm, with_latched, with_sector, with_motor}
use Rattle.word_acts.specs.declared.Act.{Act}
use Rattle.word_acts.specs.declared.Act.TheVariants.{Seek, Recalibrate, Clear, Stop, Start, Offset, Diagnose, Sector}

-- "Distance is the displacement without its sign."
abbrev pub distance_of : Cylinder → Cylinder → Distance
distance_of from to = record { 0 = (to.0 - from.0) + (from.0 - to.0) }

-- a timer holds no more than 32 bits
abbrev pub held_in32 : ℕ → ℕ
held_in32 n = if leb n 4_294_967_295 then n else 4_294_967_295

-- request 1: "0 for distance 0 and .. settle + step × distance otherwise"
unfoldable pub seek_time : Times → Distance → Micros
seek_time t distance = record { 0 = if eqb distance.0 0 then 0 else held_in32 (t.settle.0 + t.step.0 * distance.0) }

-- "A starting motor is up when its busy timer reaches 0, at once if the start time is 0."
abbrev pub motor_for : ℕ → Micros → ℕ
motor_for motor t = if eqb motor starting && eqb t.0 0 then up else motor

-- "busy = .."
unfoldable pub busy_for : Micros → Body → Body
busy_for t b = with_motor (motor_for b.motor t) (with_timers (record { busy = t; head = b.timers.head }) b)

-- "cylinder 0, offset 0, position found"
abbrev pub home : Arm
home = record { cylinder = record { 0 = 0 }; offset = 0; lost = 0 }

abbrev pub homed_of : Body → Body
homed_of b = with_arm home b

-- "The cylinder changes at once.": "offset 0; busy = .." the seek time
abbrev pub seek_of : Times → Cylinder → Body → Body
seek_of t to b =
    busy_for (seek_time t (distance_of b.arm.cylinder to))
    (with_arm (record { cylinder = to; offset = 0; lost = b.arm.lost }) b)

-- "cylinder 0, offset 0, position found; busy = recalibrate time"
abbrev pub recalibrate_of : Times → Body → Body
recalibrate_of t b = busy_for t.recalibrate (homed_of b)

-- request 3: "While it stands, control 0 clears the other latched bits and leaves bit 1."
unfoldable pub left_latched : Body → Latched
left_latched b = record { 0 = if eqb b.standing 1 then bit_and b.latched.0 (2 ^ 1) else 0 }

-- "0 clears latched bits"
abbrev pub cleared_of : Body → Body
cleared_of b = with_latched (left_latched b) b

-- "2 stops", "Stop when stopped .. do nothing"
abbrev pub stop_of : Body → Body
stop_of b = with_motor stopped b

-- "start when not stopped do nothing; start sets cylinder 0, offset 0, position found, busy = start time"
unfoldable pub start_of : Times → Body → Body
start_of t b = if eqb b.motor stopped then busy_for t.start (with_motor starting (homed_of b)) else b

-- "0, 1 restore; 2 is +1; 3 is −1; busy = offset time"
abbrev pub offset_of : Times → ℕ → Body → Body
offset_of t code b = busy_for t.offset (with_arm (record { cylinder = b.arm.cylinder; offset = code; lost = b.arm.lost }) b)

-- "sector size"
abbrev pub sector_of : SectorSize → Body → Body
sector_of size b = with_sector size b

unfoldable pub acted_of : Times → Body → Act → Body
acted_of t b (Seek to) = seek_of t to b
acted_of t b Recalibrate = recalibrate_of t b
acted_of t b Clear = cleared_of b
acted_of t b Stop = stop_of b
acted_of t b Start = start_of t b
acted_of t b (Offset code) = offset_of t code b
acted_of t b Diagnose = busy_for t.diagnostic b  -- "busy = diagnostic time"
acted_of t b (Sector size) = sector_of size b
