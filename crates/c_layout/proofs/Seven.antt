-- Seven marks, made slot by slot.
use Rattle.std.proofs.Common.{◌≡◌, ℕ, zero, suc, ◌<◌, List, [], ◌∷◌, length, get_or, refl, sym, ◌∙◌, arith}
use Rattle.std.proofs.lemmas.List.{ext_get_or}

abbrev seven_of : {A : Type 0} → (ℕ → A) → List A
seven_of f = f 0 ∷ f 1 ∷ f 2 ∷ f 3 ∷ f 4 ∷ f 5 ∷ f 6 ∷ []

at : {A : Type 0} (f : ℕ → A) (v : A) (i : ℕ) → i < 7 → get_or (seven_of f) i v ≡ f i
at f v zero h = refl
at f v (suc zero) h = refl
at f v (suc (suc zero)) h = refl
at f v (suc (suc (suc zero))) h = refl
at f v (suc (suc (suc (suc zero)))) h = refl
at f v (suc (suc (suc (suc (suc zero))))) h = refl
at f v (suc (suc (suc (suc (suc (suc zero)))))) h = refl
at f v (suc (suc (suc (suc (suc (suc (suc i))))))) h = absurd (omega arith)

-- a list of seven whose elements are f of their places
pub seven : {A : Type 0} (f : ℕ → A) (out : List A) (v : A) → length out ≡ 7 → ((i : ℕ) → i < 7 → get_or out i v ≡ f i)
    → out ≡ f 0 ∷ f 1 ∷ f 2 ∷ f 3 ∷ f 4 ∷ f 5 ∷ f 6 ∷ []
seven f out v n h = ext_get_or v out (seven_of f) n (λ i k. h i (omega arith) ∙ sym (at f v i (omega arith)))
