-- An answer put down: it stands behind those before it, and what stands behind it stays.
use mathlib.Core.Path.{◌≡◌, sym, ap, ◌∙◌}
use mathlib.Core.List.{List, [], ◌∷◌, ◌++◌, append_assoc}
use Prim.Native.Nat.{ℕ, suc, ◌+◌, ◌-◌, ◌≤◌}
use native.Mathlib.Omega.{arith}
use native.Mathlib.Numerals.{add-one}
use borrow.Rule.Slice.PartMut.{put_mid, Post-is}
use lib.ListN.{length, take, drop, set, length-set, take-append-drop}
use lib.Seq.{length-take-le, take-suc-set, drop-set-lt}
use Rattle.event.specs.declared.Answer.{Answer}
use Rattle.event.specs.Answer.{answer_number, answer_value}
use Rattle.capture_run.specs.Captured.{answer_put}

module _ (l : List ℕ) (at : ℕ) (a : Answer) where
  pub put_long : length (answer_put l at a) ≡ length l
  put_long = length-set (set l at (answer_number a)) (at + 1) (answer_value a) ∙ length-set l at (answer_number a)

  pub put_front : at + 2 ≤ length l → take (at + 2) (answer_put l at a) ≡ take at l ++ (answer_number a ∷ answer_value a ∷ [])
  put_front h =
      let m = set l at (answer_number a) in
      let k : at + 2 ≡ suc (at + 1) = omega arith in
      ap (λ (n : ℕ). take n (answer_put l at a)) k ∙ take-suc-set m (at + 1) (answer_value a) (omega (arith, length-set l at (answer_number a)))
      ∙ ap (λ (n : ℕ). take n m ++ (answer_value a ∷ [])) (add-one at)
      ∙ ap (λ (t : List ℕ). t ++ (answer_value a ∷ [])) (take-suc-set l at (answer_number a) (omega arith))
      ∙ append_assoc (take at l) (answer_number a ∷ []) (answer_value a ∷ [])

  pub put_behind : drop (at + 2) (answer_put l at a) ≡ drop (at + 2) l
  put_behind = drop-set-lt (at + 2) (set l at (answer_number a)) (at + 1) (answer_value a) (omega arith) ∙ drop-set-lt (at + 2) l at (answer_number a) (omega arith)

  -- both bytes copied to their place
  pub put_whole : at + 2 ≤ length l → put_mid at (at + 2 - at) l (answer_number a ∷ answer_value a ∷ []) ≡ answer_put l at a
  put_whole h =
      let said : List ℕ = answer_number a ∷ answer_value a ∷ [] in
      ap (λ (t : List ℕ). take at l ++ (said ++ t)) (Post-is at (at + 2) l (omega arith)) ∙ sym (append_assoc (take at l) said (drop (at + 2) l))
      ∙ ap (λ (t : List ℕ). t ++ drop (at + 2) l) (sym (put_front h)) ∙ ap (λ (t : List ℕ). take (at + 2) (answer_put l at a) ++ t) (sym put_behind)
      ∙ take-append-drop (at + 2) (answer_put l at a)

-- all of them down: they stand in front, and the rest is as it was
pub all_put : (old new text : List ℕ) (n : ℕ) → n ≤ length new → take n new ≡ text → drop n new ≡ drop n old → new ≡ text ++ drop (length text) old
all_put old new text n h e d =
    let k : n ≡ length text = sym (length-take-le n new h) ∙ ap length e in
    sym (take-append-drop n new) ∙ rw (e, d) (ap (λ (i : ℕ). text ++ drop i old) k)
