-- An act that a command may ask for keeps a drive's limits.
use mathlib.Core.Path.{◌≡◌, refl}
use mathlib.Core.Bool.{Bool, true, ◌||◌, not}
use mathlib.Core.List.{List, [], ◌∷◌}
use Prim.Native.Nat.{ℕ, ◌≤◌, ◌<◌}
use lib.Dec.{leb, ltb, eqb}
use native.Mathlib.Omega.{arith}
use borrow.Author.Rules.{rules}
use borrow.Author.Tests.{ltb-true, le-leb, lt-ltb}
use Rattle.counts.specs.declared.Cylinder.{Cylinder}
use Rattle.counts.specs.declared.Micros.{Micros}
use Rattle.counts.proofs.Tests.{both, each}
use Rattle.counts.proofs.Choice.{by_test}
use Rattle.pack_profile.specs.declared.Profile.{Profile}
use Rattle.pack_profile.specs.Profile.{gaps_of}
use Rattle.pack_profile.specs.General.{soft}
use Rattle.pack_profile.specs.Valid.{sector_ok, valid_b}
use Rattle.pack_profile.proofs.FieldRanges.{ranges}
use Rattle.drive_record.specs.declared.Arm.{Arm}
use Rattle.drive_record.specs.declared.Body.{Body}
use Rattle.drive_record.specs.State.{stopped, starting, up, with_arm}
use Rattle.drive_record.specs.Limits.{arm_b}
use Rattle.drive_record.proofs.WithinLimits.{Parts}
use Rattle.word_acts.specs.declared.Act.{Act}
use Rattle.word_acts.specs.declared.Act.TheVariants.{Seek, Recalibrate, Clear, Stop, Start, Offset, Diagnose, Sector}
use Rattle.word_acts.specs.Acts.{distance_of, busy_for, home, start_of, acted_of}
use Rattle.word_acts.proofs.Times.{seek_most, distance_below}
use Rattle.word_acts.proofs.ActLimits.{busy_keeps, clear_keeps}

-- the operands that may stand
abbrev pub Allowed : Profile → Act → Type 0
Allowed p (Seek to) = to.0 < p.shape.cylinders.0
Allowed p Recalibrate = Unit {0}
Allowed p Clear = Unit {0}
Allowed p Stop = Unit {0}
Allowed p Start = Unit {0}
Allowed p (Offset code) = code ≤ 2
Allowed p Diagnose = Unit {0}
Allowed p (Sector size) = (sector_ok (soft p.general) size.0 ≡ true) × (gaps_of p < size.0)

module _ (p : Profile) (v : valid_b p ≡ true) (b : Body) (q : Parts p b) where
  abbrev arm_tests : List Bool
  arm_tests = ltb b.arm.cylinder.0 p.shape.cylinders.0 ∷ leb b.arm.offset 2 ∷ leb b.arm.lost 1 ∷ []

  here : b.arm.cylinder.0 < p.shape.cylinders.0
  here = ltb-true _ _ (each arm_tests q.arm).0

  -- an arm at a cylinder that is there, its position known or lost as before
  placed : (to : Cylinder) (code : ℕ) → to.0 < p.shape.cylinders.0 → code ≤ 2
      → arm_b p (record { cylinder = to; offset = code; lost = b.arm.lost }) ≡ true
  placed to code h k = rw (lt-ltb to.0 p.shape.cylinders.0 h, le-leb code 2 k, (each arm_tests q.arm).1.1.0)

  at_home : arm_b p home ≡ true
  at_home = rw (lt-ltb 0 p.shape.cylinders.0 (ranges p v).cylinders.0)

  motor_is : leb b.motor up ≡ true
  motor_is = (both (leb b.motor up) (not (eqb b.motor starting) || not (eqb b.timers.busy.0 0)) q.motor).0

  -- busy set, the motor as it is
  moved : (arm : Arm) (t : Micros) → arm_b p arm ≡ true → t.0 ≤ 30_000_000 → Parts p (busy_for t (with_arm arm b))
  moved arm t a h = busy_keeps p b arm b.motor t q a motor_is h

  started : Parts p (start_of p.times b)
  unfolding start_of
  started =
      by_test (Parts p) (eqb b.motor stopped) _ _
      (λ e. busy_keeps p b home starting p.times.start q at_home refl (ranges p v).start)
      (λ e. q)

  pub act_keeps : (act : Act) → Allowed p act → Parts p (acted_of p.times b act)
  unfolding acted_of
  act_keeps (Seek to) h =
      let near = distance_below p.shape.cylinders.0 b.arm.cylinder to here h in
      moved _ _ (placed to 0 h (omega arith)) (seek_most p v (distance_of b.arm.cylinder to) (omega (arith, near, (ranges p v).cylinders.1)))
  act_keeps Recalibrate h = moved home p.times.recalibrate at_home (ranges p v).recalibrate
  act_keeps Clear h = clear_keeps p b q
  act_keeps Stop h = search rules
  act_keeps Start h = started
  act_keeps (Offset code) h = moved _ _ (placed b.arm.cylinder code here h) (omega (arith, (ranges p v).offset))
  act_keeps Diagnose h = moved b.arm p.times.diagnostic q.arm (ranges p v).diagnostic
  act_keeps (Sector size) h = search rules
