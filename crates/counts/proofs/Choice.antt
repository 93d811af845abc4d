-- A fact of a choice, from each of its two sides, and what a choice that came out true gives.
use mathlib.Core.Path.{◌≡◌, refl}
use mathlib.Core.Bool.{Bool, true, false, not, false≢true}
use Prim.Native.Nat.{ℕ}
use native.Mathlib.Omega.{arith}
use Rattle.std.specs.Prelude.{if◌then◌else◌}

pub by_test : {A : Type 0} (P : A → Type 0) (t : Bool) (a b : A) → (t ≡ true → P a) → (t ≡ false → P b) → P (if t then a else b)
by_test P true a b left right = left refl
by_test P false a b left right = right refl

-- whatever the test says
pub either_way : {A : Type 0} (P : A → Type 0) (t : Bool) {a b : A} → P a → P b → P (if t then a else b)
either_way P t {a} {b} left right = by_test P t a b (λ e. left) (λ e. right)

-- a test that must pass first
pub guarded : (a b : Bool) → (if not a then false else b) ≡ true → (a ≡ true) × (b ≡ true)
guarded true b h = (refl, h)
guarded false b h = absurd (false≢true h)

-- two cases of an enum that were the same would make 0 and 1 the same
pub never : ◌≡◌ {A = ℕ} 0 1 → ⊥
never z = omega arith
