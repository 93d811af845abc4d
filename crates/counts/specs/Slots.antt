-- The slots of a chain, and two lists side by side, slot by slot.
use Rattle.std.specs.Prelude.{ℕ, Bool, true, false, ◌&&◌, List, [], ◌∷◌}
use Rattle.counts.specs.Tests.{within}

abbrev pub slots : ℕ
slots = 7

-- "slot 1..7"
abbrev pub slot_b : ℕ → Bool
slot_b slot = within 1 slots slot

-- each element of the second list changed, knowing what stands beside it
abbrev pub map_with : {A B : Type 0} → (A → B → B) → List A → List B → List B
map_with f [] ys = ys
map_with f (x ∷ xs) [] = []
map_with f (x ∷ xs) (y ∷ ys) = f x y ∷ map_with f xs ys

-- what holds of every two that stand side by side; the second list is no shorter
abbrev pub all_with : {A B : Type 0} → (A → B → Bool) → List A → List B → Bool
all_with p [] ys = true
all_with p (x ∷ xs) [] = false
all_with p (x ∷ xs) (y ∷ ys) = p x y && all_with p xs ys
