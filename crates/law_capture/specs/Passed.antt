-- What events that let time pass come to.
use Rattle.std.specs.Prelude.{ℕ, ◌+◌, ◌≤◌, ◌≡◌, List, [], ◌∷◌}
use Rattle.event.specs.Numbers.{Numbers}

-- the microseconds of all of them
abbrev pub micros_of : List Numbers → ℕ
micros_of [] = 0
micros_of (n ∷ rest) = n.a + micros_of rest

-- each is of kind 6, and passes 1 to 65,535
abbrev pub EachPasses : List Numbers → Type 0
EachPasses [] = Unit {0}
EachPasses (n ∷ rest) = (n.kind ≡ 6) × (n.b ≡ 0) × (1 ≤ n.a) × (n.a ≤ 65_535) × EachPasses rest
