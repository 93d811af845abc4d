-- A list made slot by slot.
use Prim.Native.Nat.{ℕ, zero, suc, ◌<◌}
use native.Mathlib.Omega.{arith}
use mathlib.Core.Path.{◌≡◌, refl, ap₂}
use mathlib.Core.List.{List, [], ◌∷◌}
use lib.ListN.{length, get_or}
use Rattle.counts.specs.Slots.{map_with}

pub made : {A B : Type 0} (f : A → B → B) (xs : List A) (ys out : List B) (u : A) (v : B) → length xs ≡ length out → length ys ≡ length out
    → ((i : ℕ) → i < length out → get_or out i v ≡ f (get_or xs i u) (get_or ys i v)) → out ≡ map_with f xs ys
made f [] [] [] u v p q h = refl
made f [] (y ∷ ys) [] u v p q h = absurd (omega arith)
made f [] ys (o ∷ out) u v p q h = absurd (omega arith)
made f (x ∷ xs) ys [] u v p q h = absurd (omega arith)
made f (x ∷ xs) [] (o ∷ out) u v p q h = absurd (omega arith)
made f (x ∷ xs) (y ∷ ys) (o ∷ out) u v p q h =
    ap₂ (λ (a : _) (t : List _). a ∷ t) (h zero (omega arith)) (made f xs ys out u v (omega arith) (omega arith) (λ i k. h (suc i) (omega arith)))
