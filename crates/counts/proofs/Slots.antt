-- Two lists side by side: what a pass over the slots leaves, and what holds in every slot.
use Prim.Native.Nat.{ℕ, zero, suc, ◌≤◌, ◌<◌}
use native.Mathlib.Omega.{arith}
use mathlib.Core.Path.{◌≡◌, refl, ap, ap₂}
use mathlib.Core.Bool.{Bool, true, false≢true}
use mathlib.Core.List.{List, [], ◌∷◌}
use lib.ListN.{length, get_or, set}
use Rattle.counts.specs.Slots.{map_with, all_with}
use Rattle.counts.proofs.Tests.{both, join}

module _ {A B : Type 0} where
  pub map_long : (f : A → B → B) (xs : List A) (ys : List B) → length (map_with f xs ys) ≡ length ys
  map_long f [] ys = refl
  map_long f (x ∷ xs) [] = refl
  map_long f (x ∷ xs) (y ∷ ys) = ap suc (map_long f xs ys)

  pub map_at : (f : A → B → B) (xs : List A) (ys : List B) (i : ℕ) (z : A) (v : B) → i < length xs → i < length ys
      → get_or (map_with f xs ys) i v ≡ f (get_or xs i z) (get_or ys i v)
  map_at f [] ys i z v h k = absurd (omega arith)
  map_at f (x ∷ xs) [] i z v h k = absurd (omega arith)
  map_at f (x ∷ xs) (y ∷ ys) zero z v h k = refl
  map_at f (x ∷ xs) (y ∷ ys) (suc i) z v h k = map_at f xs ys i z v (omega arith) (omega arith)

  pub map_set : (f : A → B → B) (xs : List A) (ys : List B) (i : ℕ) (z : A) (b : B) → i < length xs
      → map_with f xs (set ys i b) ≡ set (map_with f xs ys) i (f (get_or xs i z) b)
  map_set f [] ys i z b h = absurd (omega arith)
  map_set f (x ∷ xs) [] i z b h = refl
  map_set f (x ∷ xs) (y ∷ ys) zero z b h = refl
  map_set f (x ∷ xs) (y ∷ ys) (suc i) z b h = ap (λ (t : List B). f x y ∷ t) (map_set f xs ys i z b (omega arith))

  -- one pass over the slots, then another
  pub map_map : (f g h : A → B → B) → ((x : A) (y : B) → g x (f x y) ≡ h x y) → (xs : List A) (ys : List B)
      → map_with g xs (map_with f xs ys) ≡ map_with h xs ys
  map_map f g h e [] ys = refl
  map_map f g h e (x ∷ xs) [] = refl
  map_map f g h e (x ∷ xs) (y ∷ ys) = ap₂ (λ (a : B) (t : List B). a ∷ t) (e x y) (map_map f g h e xs ys)

  -- a pass that alters nothing where a test holds
  pub map_still : (p : A → B → Bool) (f : A → B → B) → ((x : A) (y : B) → p x y ≡ true → f x y ≡ y) → (xs : List A) (ys : List B)
      → all_with p xs ys ≡ true → map_with f xs ys ≡ ys
  map_still p f e [] ys h = refl
  map_still p f e (x ∷ xs) [] h = refl
  map_still p f e (x ∷ xs) (y ∷ ys) h =
      let b = both (p x y) (all_with p xs ys) h in
      ap₂ (λ (a : B) (t : List B). a ∷ t) (e x y b.0) (map_still p f e xs ys b.1)

  -- what holds side by side holds at each place; past the end of the first list z stands
  pub all_at : (p : A → B → Bool) (z : A) (v : B) → ((y : B) → p z y ≡ true) → (xs : List A) (ys : List B) (i : ℕ)
      → all_with p xs ys ≡ true → p (get_or xs i z) (get_or ys i v) ≡ true
  all_at p z v h [] ys i e = h (get_or ys i v)
  all_at p z v h (x ∷ xs) [] i e = absurd (false≢true e)
  all_at p z v h (x ∷ xs) (y ∷ ys) zero e = (both (p x y) (all_with p xs ys) e).0
  all_at p z v h (x ∷ xs) (y ∷ ys) (suc i) e = all_at p z v h xs ys i (both (p x y) (all_with p xs ys) e).1

  -- what holds at each place holds of all
  pub all_from : (p : A → B → Bool) (z : A) (v : B) (xs : List A) (ys : List B) → length xs ≤ length ys
      → ((i : ℕ) → p (get_or xs i z) (get_or ys i v) ≡ true) → all_with p xs ys ≡ true
  all_from p z v [] ys n h = refl
  all_from p z v (x ∷ xs) [] n h = absurd (omega arith)
  all_from p z v (x ∷ xs) (y ∷ ys) n h = join (p x y) (all_with p xs ys) (h zero) (all_from p z v xs ys (omega arith) (λ i. h (suc i)))

  -- the second list is no shorter
  pub no_shorter : (p : A → B → Bool) (xs : List A) (ys : List B) → all_with p xs ys ≡ true → length xs ≤ length ys
  no_shorter p [] ys h = omega arith
  no_shorter p (x ∷ xs) [] h = absurd (false≢true h)
  no_shorter p (x ∷ xs) (y ∷ ys) h = omega (arith, no_shorter p xs ys (both (p x y) (all_with p xs ys) h).1)
