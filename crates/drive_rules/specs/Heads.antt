-- "Head change (house)", and the head lines met.
use Rattle.std.specs.Prelude.{ltb, eqb}
use Rattle.counts.specs.declared.Head.{Head}
use Rattle.std.specs.Prelude.{if◌then◌else◌}
use Rattle.pack_profile.specs.declared.Profile.{Profile}
use Rattle.pack_profile.specs.General.{at_once}
use Rattle.drive_record.specs.declared.Body.{Body}
use Rattle.drive_record.specs.declared.State.{State}
use Rattle.drive_record.specs.declared.Outcome.TheVariants.{Done, Fault}
use Rattle.drive_record.specs.declared.Ruled.{Ruled}
use Rattle.drive_record.specs.State.{with_timers, with_head, with_reading, state_of, ruled}
use Rattle.drive_record.specs.Faults.{latch_bit}

-- "Where the profile's switch time is over 15 µs, the head timer starts at it."
abbrev pub start_switch : Profile → Body → Body
start_switch p b =
    if ltb at_once p.times.switch.0 then with_timers (record { busy = b.timers.busy; head = p.times.switch }) b
    else b

-- "It ends reading."
unfoldable pub switched_of : Profile → Head → Body → Body
switched_of p h b = start_switch p (with_reading 0 (with_head h b))

-- "Head change (house): while writing, bit 6."
unfoldable pub head_change : Profile → Head → State → Ruled
head_change p h s =
    if eqb s.body.writing 1 then ruled Fault (state_of (switched_of p h (latch_bit 6 s.body)) s.transfer)
    else ruled Done (state_of (switched_of p h s.body) s.transfer)

-- "The drive entered takes the head lines; if that alters its head, it is a head change." The head lines moving at it are one too.
unfoldable pub met_of : Profile → Head → State → Ruled
met_of p h s = if eqb s.body.head.0 h.0 then ruled Done s else head_change p h s
