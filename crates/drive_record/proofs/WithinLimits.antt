-- What the limits on a drive give as facts.
use mathlib.Core.Path.{◌≡◌}
use mathlib.Core.Bool.{true, not}
use Prim.Native.Nat.{◌<◌}
use native.Mathlib.Omega.{arith}
use lib.Dec.{leb}
use borrow.Author.Rules.{rules}
use borrow.Author.Tests.{ltb-true, leb-true, eqb-true, eq-eqb, not-true, not-false}
use Rattle.counts.specs.Bytes.{bit}
use Rattle.counts.proofs.Choice.{never}
use Rattle.counts.proofs.Tests.{both, each, all}
use Rattle.pack_profile.specs.declared.Profile.{Profile}
use Rattle.pack_profile.specs.General.{soft}
use Rattle.pack_profile.specs.Valid.{sector_ok}
use Rattle.drive_record.specs.declared.Body.{Body}
use Rattle.drive_record.specs.Status.{attention_b}
use Rattle.drive_record.specs.Limits.{arm_tests, arm_b, timers_b, latched_b, motor_b, standing_b, limit_tests, limits_b}

-- a drive whose fields keep their limits
pub record Parts (p : Profile) (b : Body) : Type 0 where
  pub arm : arm_b p b.arm ≡ true
  pub timers : timers_b b.timers ≡ true
  pub latched : latched_b b.latched ≡ true
  pub sector : sector_ok (soft p.general) b.sector.0 ≡ true
  pub head : leb b.head.0 15 ≡ true
  pub motor : motor_b b.motor b.timers.busy.0 ≡ true
  pub reading : leb b.reading 1 ≡ true
  pub writing : leb b.writing 1 ≡ true
  pub standing : standing_b b.standing b.latched ≡ true

pub parts : (p : Profile) (b : Body) → limits_b p b ≡ true → Parts p b
unfolding limits_b
parts p b h =
    let e = each (limit_tests p b) h in
    search rules

pub whole : (p : Profile) (b : Body) → Parts p b → limits_b p b ≡ true
unfolding limits_b
whole p b q = all (limit_tests p b) (search rules)

-- the heads stand on a cylinder that is there
pub on_cylinder : (p : Profile) (b : Body) → limits_b p b ≡ true → b.arm.cylinder.0 < p.shape.cylinders.0
on_cylinder p b h = ltb-true _ _ (each (arm_tests p b.arm) (parts p b h).arm).0

-- request 3: a write fault that stands has latched bit 1
pub stands_latched : (p : Profile) (b : Body) → Parts p b → b.standing ≡ 1 → bit b.latched.0 1 ≡ 1
stands_latched p b q one = eqb-true _ _ (rw (eq-eqb b.standing 1 one) at (both (leb b.standing 1) _ q.standing).1)

-- so with attention down none stands
pub quiet_free : (p : Profile) (b : Body) → limits_b p b ≡ true → not (attention_b b) ≡ true → b.standing ≡ 0
quiet_free p b h quiet =
    let q = parts p b h in
    let clear : b.latched.0 ≡ 0 = eqb-true _ _ (not-false _ (not-true _ quiet)) in
    let most = leb-true b.standing 1 (both (leb b.standing 1) _ q.standing).0 in
    let down : b.standing ≡ 1 → ⊥ = λ one. never (rw clear at (stands_latched p b q one)) in
    omega (arith, most)
