-- Lists of tests: a thing is as it must be when each test of its list passes.
use Rattle.std.specs.Prelude.{Bool, true, ◌&&◌, List, [], ◌∷◌, ℕ, leb}

-- the first && the second && ..
abbrev pub all_from : Bool → List Bool → Bool
all_from a [] = a
all_from a (b ∷ rest) = all_from (a && b) rest

abbrev pub all_of : List Bool → Bool
all_of [] = true
all_of (b ∷ rest) = all_from b rest

-- from the least to the most, both included
abbrev pub within : ℕ → ℕ → ℕ → Bool
within least most x = leb least x && leb x most
