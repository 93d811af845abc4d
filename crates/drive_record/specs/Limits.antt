-- "Limits: .." on one drive's fields, with what flags and codes there are.
use Rattle.std.specs.Prelude.{ℕ, Bool, ◌||◌, not, List, [], ◌∷◌, ltb, leb, eqb}
use Rattle.counts.specs.Bytes.{bit}
use Rattle.counts.specs.Tests.{all_of}
use Rattle.pack_profile.specs.declared.Profile.{Profile}
use Rattle.pack_profile.specs.General.{soft}
use Rattle.pack_profile.specs.Valid.{sector_ok, short, long}
use Rattle.drive_record.specs.declared.Latched.{Latched}
use Rattle.drive_record.specs.declared.Arm.{Arm}
use Rattle.drive_record.specs.declared.Timers.{Timers}
use Rattle.drive_record.specs.declared.Body.{Body}
use Rattle.drive_record.specs.State.{starting, up}

-- "cylinder below cylinders, offset −1 to 1"
abbrev pub arm_tests : Profile → Arm → List Bool
arm_tests p a =
    ltb a.cylinder.0 p.shape.cylinders.0 ∷ leb a.offset 2 ∷ leb a.lost 1 ∷ []

abbrev pub arm_b : Profile → Arm → Bool
arm_b p a = all_of (arm_tests p a)

-- "head ≤ 15": apart from the head lines' own limit
abbrev pub last_head : ℕ
last_head = 15

-- "busy ≤ 30,000,000, head timer ≤ 60,000"
abbrev pub timer_tests : Timers → List Bool
timer_tests t =
    leb t.busy.0 long ∷ leb t.head.0 short ∷ []

abbrev pub timers_b : Timers → Bool
timers_b t = all_of (timer_tests t)

-- "no latched bit but those listed": 8, 7, 6, 5, 4, 3, 1, 0
abbrev pub latched_tests : Latched → List Bool
latched_tests l =
    ltb l.0 512 ∷ eqb (bit l.0 2) 0 ∷ []

abbrev pub latched_b : Latched → Bool
latched_b l = all_of (latched_tests l)

-- "a starting motor has busy 0"
abbrev pub motor_tests : ℕ → ℕ → List Bool
motor_tests motor busy =
    leb motor up ∷ (not (eqb motor starting) || not (eqb busy 0)) ∷ []

abbrev pub motor_b : ℕ → ℕ → Bool
motor_b motor busy = all_of (motor_tests motor busy)

-- request 3: a write fault that stands has latched bit 1, which nothing clears while it does
abbrev pub standing_tests : ℕ → Latched → List Bool
standing_tests standing l =
    leb standing 1 ∷ (not (eqb standing 1) || eqb (bit l.0 1) 1) ∷ []

abbrev pub standing_b : ℕ → Latched → Bool
standing_b standing l = all_of (standing_tests standing l)

abbrev pub limit_tests : Profile → Body → List Bool
limit_tests p b =
    arm_b p b.arm ∷
    timers_b b.timers ∷
    latched_b b.latched ∷
    sector_ok (soft p.general) b.sector.0 ∷
    leb b.head.0 last_head ∷  -- "head ≤ 15"
    motor_b b.motor b.timers.busy.0 ∷
    leb b.reading 1 ∷
    leb b.writing 1 ∷
    standing_b b.standing b.latched ∷ []

unfoldable pub limits_b : Profile → Body → Bool
limits_b p b = all_of (limit_tests p b)
