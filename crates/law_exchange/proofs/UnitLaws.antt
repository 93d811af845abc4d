-- What a unit's operations must keep for the exchange: a new kind of unit has these to show, and nothing else.
use Rattle.std.specs.Prelude.{Some}
use Prim.Native.Nat.{ℕ, ◌+◌}
use mathlib.Core.Path.{◌≡◌}
use mathlib.Core.Bool.{true}
use Rattle.law_exchange.specs.Unit.{Rules}

pub record Laws {B : Type 0} (R : Rules B) : Type 0 where
  pub pass_zero : (b : B) → R.pass 0 b ≡ b
  pub pass_pass : (s t : ℕ) (b : B) → R.pass t (R.pass s b) ≡ R.pass (s + t) b
  pub pass_calm : (t : ℕ) (b : B) → R.calm b ≡ true → R.pass t b ≡ b
  pub told_calm : (n r : ℕ) (b : B) → R.calm b ≡ true → (R.carry n b).told ≡ Some r → R.calm (R.carry n b).body ≡ true
