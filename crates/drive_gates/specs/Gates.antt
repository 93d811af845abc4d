-- The gates' rules, each list in its order.
use Rattle.std.specs.Prelude.{ℕ, ◌^◌, Bool, not, ltb, eqb, List, [], ◌∷◌}
use Rattle.std.specs.Prelude.{if◌then◌else◌}
use Rattle.counts.specs.Tests.{all_of}
use Rattle.pack_profile.specs.declared.Profile.{Profile}
use Rattle.drive_record.specs.declared.Body.{Body}
use Rattle.drive_record.specs.declared.State.{State}
use Rattle.drive_record.specs.declared.Outcome.TheVariants.{Done, Inhibited, Fault}
use Rattle.drive_record.specs.declared.Ruled.{Ruled}
use Rattle.drive_record.specs.State.{with_reading, with_writing, state_of, ruled}
use Rattle.drive_record.specs.Faults.{latch_of}
use Rattle.drive_record.specs.Status.{attention_b, ready_b, complete_b}

-- none of "Not ready, not command complete, position lost, head not present"
abbrev pub usable_tests : Profile → State → List Bool
usable_tests p s =
    ready_b s.body ∷
    complete_b s ∷
    eqb s.body.arm.lost 0 ∷
    ltb s.body.head.0 p.shape.heads.0 ∷ []

unfoldable pub usable_b : Profile → State → Bool
usable_b p s = all_of (usable_tests p s)

-- a bit of a value latched in a body, the transfer as it is
abbrev pub faulted_by : ℕ → Body → State → Ruled
faulted_by value b s = ruled Fault (state_of (latch_of value b) s.transfer)

-- "Write gate rising, in order"
unfoldable pub write_rises : Profile → ℕ → State → Ruled
write_rises p readgate s =
    if eqb readgate 1 then faulted_by (2 ^ 6) (with_reading 0 s.body) s  -- "read gate on: bit 6, reading ends"
    else (if attention_b s.body then ruled Inhibited s  -- "Attention up: inhibited"
    else (if not (eqb s.body.arm.offset 0) then faulted_by (2 ^ 3) s.body s  -- "Offset not 0: bit 3"
    else (if not (usable_b p s) then faulted_by (2 ^ 1) s.body s  -- "Not ready, .. head not present"
    else (if eqb p.protected 1 then faulted_by (2 ^ 1) s.body s  -- "or write protected: bit 1"
    else ruled Done (state_of (with_writing 1 s.body) s.transfer)))))  -- "Else writing begins"

-- "Read gate rising"
unfoldable pub read_rises : Profile → ℕ → State → Ruled
read_rises p writegate s =
    if eqb writegate 1 then faulted_by (2 ^ 6) s.body s  -- "write gate on: bit 6"
    else (if not (usable_b p s) then ruled Inhibited s  -- "Not ready, not complete, lost, or head not present: inhibited"
    else ruled Done (state_of (with_reading 1 s.body) s.transfer))  -- "Else reading begins"

-- "A gate's fall ends its own."
abbrev pub write_falls : State → State
write_falls s = state_of (with_writing 0 s.body) s.transfer

abbrev pub read_falls : State → State
read_falls s = state_of (with_reading 0 s.body) s.transfer
