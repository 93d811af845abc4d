-- "Microseconds passing lower both timers of every drive, to 0 at least."
use Rattle.std.specs.Prelude.{ℕ, ◌-◌, ◌&&◌, ltb, leb, eqb}
use Rattle.counts.specs.declared.Micros.{Micros}
use Rattle.std.specs.Prelude.{if◌then◌else◌}
use Rattle.handshake.specs.Edges.{wait_of}
use Rattle.drive_record.specs.declared.Body.{Body}
use Rattle.drive_record.specs.declared.State.{State}
use Rattle.drive_record.specs.declared.Ruled.{Ruled}
use Rattle.drive_record.specs.State.{starting, up, with_timers, with_motor}
use Rattle.drive_record.specs.Faults.{held_of}

abbrev pub less_of : Micros → Micros → Micros
less_of a us = record { 0 = a.0 - us.0 }

-- "A starting motor is up when its busy timer reaches 0"
unfoldable pub motor_after : ℕ → Micros → Micros → ℕ
motor_after motor busy us = if eqb motor starting && ltb 0 busy.0 && leb busy.0 us.0 then up else motor

unfoldable pub pass_body : Micros → Body → Body
pass_body us b =
    with_motor (motor_after b.motor b.timers.busy us)
    (with_timers (record { busy = less_of b.timers.busy us; head = less_of b.timers.head us }) b)

unfoldable pub pass_drive : Micros → State → Ruled
pass_drive us s = held_of (pass_body us s.body) (wait_of us s.transfer)
