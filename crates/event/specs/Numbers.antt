-- An event as it is given. Document 01, Events: "Each is three numbers: kind, a, b."
use Rattle.std.specs.Prelude.{ℕ}

pub record Numbers : Type 0 where
  pub kind : ℕ
  pub a : ℕ
  pub b : ℕ
