-- What a list of tests that passes gives.
use mathlib.Core.Path.{◌≡◌, refl}
use mathlib.Core.Bool.{Bool, true, false, ◌&&◌, false≢true}
use mathlib.Core.List.{List, [], ◌∷◌}
use Prim.Native.Nat.{ℕ, ◌≤◌}
use borrow.Author.Tests.{leb-true}
use lib.Dec.{leb}
use Rattle.counts.specs.Tests.{all_from, all_of, within}

pub both : (a b : Bool) → (a && b) ≡ true → (a ≡ true) × (b ≡ true)
both true b h = (refl, h)
both false b h = absurd (false≢true h)

-- each test of a list passes
abbrev pub Each : List Bool → Type 0
Each [] = Unit {0}
Each (b ∷ rest) = (b ≡ true) × Each rest

from : (a : Bool) (rest : List Bool) → all_from a rest ≡ true → (a ≡ true) × Each rest
from a [] h = (h, tt)
from a (b ∷ rest) h =
    let r = from (a && b) rest h in
    let ab = both a b r.0 in
    (ab.0, (ab.1, r.1))

pub each : (l : List Bool) → all_of l ≡ true → Each l
each [] h = tt
each (b ∷ rest) h = from b rest h

pub within_both : (least most x : ℕ) → within least most x ≡ true → (least ≤ x) × (x ≤ most)
within_both least most x h =
    let e = both (leb least x) (leb x most) h in
    (leb-true least x e.0, leb-true x most e.1)

-- and the other way
pub join : (a b : Bool) → a ≡ true → b ≡ true → (a && b) ≡ true
join a b ha hb = rw (ha, hb)

rest_all : (a : Bool) (rest : List Bool) → a ≡ true → Each rest → all_from a rest ≡ true
rest_all a [] ha h = ha
rest_all a (b ∷ rest) ha h = rest_all (a && b) rest (join a b ha h.0) h.1

pub all : (l : List Bool) → Each l → all_of l ≡ true
all [] h = refl
all (b ∷ rest) h = rest_all b rest h.0 h.1
