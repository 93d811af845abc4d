-- The seek time: none to where the heads are; of a valid profile exact, and within the limit on busy.
use mathlib.Core.Path.{◌≡◌}
use mathlib.Core.Bool.{Bool, true, false}
use Prim.Native.Nat.{ℕ, ◌+◌, ◌*◌, ◌≤◌, ◌<◌}
use native.Mathlib.Nat.{mul-le-mul}
use native.Mathlib.Omega.{arith}
use lib.Dec.{eqb}
use borrow.Author.Tests.{le-leb, eq-eqb}
use Rattle.counts.specs.declared.Cylinder.{Cylinder}
use Rattle.counts.specs.declared.Distance.{Distance}
use Rattle.std.specs.Prelude.{if◌then◌else◌}
use Rattle.pack_profile.specs.declared.Profile.{Profile}
use Rattle.pack_profile.specs.declared.Times.{Times}
use Rattle.pack_profile.specs.Valid.{valid_b}
use Rattle.pack_profile.proofs.FieldRanges.{ranges}
use Rattle.word_acts.specs.Acts.{distance_of, seek_time}

-- settle ≤ 60,000, step ≤ 1,000, distance ≤ 4,095
sum_most : (settle step distance : ℕ) → settle ≤ 60_000 → step ≤ 1000 → distance < 4096 → settle + step * distance ≤ 4_155_000
sum_most settle step distance a b c =
    omega (arith, mul-le-mul {n₁ = step} {m₁ = distance} {n₂ = 1000} {m₂ = 4095} b (omega arith))

none_or_most : (none : Bool) (whole : ℕ) → whole ≤ 30_000_000 → (if none then 0 else whole) ≤ 30_000_000
none_or_most true whole h = omega arith
none_or_most false whole h = h

-- request 1: a seek to where the heads are takes no time
pub seek_here : (t : Times) (at : Cylinder) → (seek_time t (distance_of at at)).0 ≡ 0
unfolding seek_time
seek_here t at = rw (eq-eqb (distance_of at at).0 0 (omega arith))

module _ (p : Profile) (v : valid_b p ≡ true) (d : Distance) (h : d.0 < 4096) where
  whole_most : p.times.settle.0 + p.times.step.0 * d.0 ≤ 4_155_000
  whole_most = sum_most p.times.settle.0 p.times.step.0 d.0 (ranges p v).settle (ranges p v).step h

  pub seek_exact : (seek_time p.times d).0 ≡ if eqb d.0 0 then 0 else p.times.settle.0 + p.times.step.0 * d.0
  unfolding seek_time
  seek_exact = rw (le-leb (p.times.settle.0 + p.times.step.0 * d.0) 4_294_967_295 (omega (arith, whole_most)))

  pub seek_most : (seek_time p.times d).0 ≤ 30_000_000
  seek_most = rw seek_exact (none_or_most (eqb d.0 0) (p.times.settle.0 + p.times.step.0 * d.0) (omega (arith, whole_most)))

-- the distance between two cylinders is below what both are
pub distance_below : (k : ℕ) (from to : Cylinder) → from.0 < k → to.0 < k → (distance_of from to).0 < k
distance_below k from to a b = omega arith
