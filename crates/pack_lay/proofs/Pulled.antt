-- A card pulled anywhere while a pack is laid on it: if it reads, what it holds is the finished pack.
use mathlib.Core.Path.{◌≡◌, refl, sym, ap, ◌∙◌}
use mathlib.Core.List.{List, [], ◌∷◌, ◌++◌, append_assoc}
use mathlib.Core.Bool.{Bool, true, false}
use Prim.Native.Nat.{ℕ, zero, suc, ◌+◌, ◌-◌, ◌≤◌, ◌<◌}
use native.Mathlib.Omega.{arith}
use borrow.Author.Tests.{leb-true, leb-false}
use lib.Dec.{leb}
use lib.ListN.{length, take, drop, set, get_or, replicate, length-append, length-set, length-replicate}
use lib.Seq.{get_or-append-add, get_or-take, get_or-drop, get_or-set_same, drop-set-lt, take-append-add, length-take-le, drop_at}
use Rattle.counts.specs.Bytes.{one, bytes4, Bytes}
use Rattle.counts.proofs.Bytes.{four_bytes, bytes_four, bytes_take, bytes_append}
use Rattle.pack_profile.specs.declared.Profile.{Profile}
use Rattle.pack_profile.specs.Profile.{medium_of}
use Rattle.pack_profile.specs.Valid.{valid_b}
use Rattle.pack_trailer.specs.Form.{trailer_length, form_place, distance_place}
use Rattle.pack_trailer.specs.Fields.{profile_of}
use Rattle.pack_trailer.proofs.RoundTrip.{read_laid}
use Rattle.pack_read.specs.Read.{read_all}
use Rattle.pack_read.proofs.Back.{good, last_trailer, ends}
use Rattle.std.specs.Prelude.{Ok, IsOk}
use Rattle.pack_lay.specs.Lay.{pack_length, laid_answer, pack_trailer, laid_pack}
use Rattle.pack_lay.specs.Order.{writes_of, written, pulled_after}
use Rattle.pack_lay.proofs.Written.{length_written, take_from, written_first}
use Rattle.pack_lay.proofs.Staged.{may, laid_length, in_order}

take_short : (i : ℕ) (l : List ℕ) → length (take i l) ≤ length l
take_short zero l = omega arith
take_short (suc i) [] = omega arith
take_short (suc i) (x ∷ l) = omega (arith, take_short i l)

-- what ends in a trailer whose form is 0 is refused, whatever else stands there and in front of it
pub spoiled_refused : (front x : List ℕ) (m : ℕ) → length x ≡ m + trailer_length → one x (m + form_place) ≡ 0
    → IsOk (read_all (front ++ x)) → ⊥
spoiled_refused front x m long spoiled whole =
    let file = front ++ x in
    let n = length-append front x in
    let h = ends file (λ z. omega arith) whole in
    let g = good file 8 h.place h.profile h.found in
    let at : length file - trailer_length + form_place ≡ length front + (m + form_place) = omega arith in
    let read : get_or file (length file - trailer_length + form_place) 0 ≡ 1 = sym (get_or-drop (length file - trailer_length) file form_place 0) ∙ g.form in
    omega (arith, sym (rw at at read) ∙ get_or-append-add front x (m + form_place) 0, spoiled)

module _ (p : Profile) where
  abbrev m : ℕ
  m = medium_of p.shape

  abbrev fields : List ℕ
  fields = take distance_place (pack_trailer p)

  -- the pack but for its distance
  abbrev pub undone : List ℕ
  undone = replicate m 0 ++ fields

  abbrev pub distance : List ℕ
  distance = drop distance_place (pack_trailer p)

  undone_length : length undone ≡ m + distance_place
  undone_length = length-append (replicate {A = ℕ} m 0) fields ∙ ap (λ (k : ℕ). k + distance_place) (length-replicate {A = ℕ} m 0)

  laid_is : laid_pack p ≡ undone ++ distance
  laid_is = sym (append_assoc (replicate m 0) fields distance)

  -- the trailer at the end of a file whose last bytes are the pack's but for the distance
  trailer_there : (front y : List ℕ) → length y ≡ 4 → last_trailer (front ++ (undone ++ y)) ≡ fields ++ y
  trailer_there front y n =
      let e : front ++ (undone ++ y) ≡ (front ++ replicate m 0) ++ (fields ++ y) =
      ap (λ (b : List ℕ). front ++ b) (append_assoc (replicate m 0) fields y) ∙ sym (append_assoc front (replicate m 0) (fields ++ y)) in
      let k = length ((front ++ replicate m 0) ++ (fields ++ y)) - trailer_length in
      let long : length (front ++ replicate m 0) ≡ k =
      omega (arith, length-append (front ++ replicate m 0) (fields ++ y), length-append fields y) in
      rw e (drop_at (front ++ replicate m 0) (fields ++ y) k long)

  -- where all but the distance is the pack's, any four bytes that read are its distance
  pub finished : (front y : List ℕ) → valid_b p ≡ true → length y ≡ 4 → Bytes y → IsOk (read_all (front ++ (undone ++ y))) → y ≡ distance
  unfolding profile_of
  finished front y v n small whole =
      let file = front ++ (undone ++ y) in
      let long = length-append front (undone ++ y) in
      let part = length-append undone y in
      let h = ends file (λ z. omega arith) whole in
      let g = good file 8 h.place h.profile h.found in
      let t = trailer_there front y n in
      let same : h.profile ≡ p = g.profile ∙ rw t (read_laid p (pack_length p) v) in
      four_bytes y small n ∙ ap bytes4 (rw (t, same) at g.size)

module _ (p : Profile) (l : List ℕ) (ok : laid_answer p (length l) ≡ Ok tt) where
  -- the form spoiled
  abbrev spoiled : List ℕ
  spoiled = set l (m p + form_place) 0

  room : pack_length p ≤ length l
  room = (may p (length l) ok).fits

  -- behind the spoiled form: the pack's first bytes, and behind them what was there
  so_far : (k j : ℕ) → length (take k (laid_pack p)) ≡ j → written (take (suc k) (writes_of p)) l ≡ take k (laid_pack p) ++ drop j spoiled
  unfolding written
  so_far k j e =
      let r = room in
      let short = take_short k (laid_pack p) in
      let long = laid_length p in
      rw (in_order p, take_from k (laid_pack p) 0)
      (written_first (take k (laid_pack p)) spoiled j e (omega (arith, length-set l (m p + form_place) 0)))

  cut_length : (k : ℕ) → length (pulled_after k p l) ≡ pack_length p
  cut_length k = let r = room in length-take-le (pack_length p) _ (omega (arith, length_written (take k (writes_of p)) l))

  -- until the form is written it is 0
  no_form : (k : ℕ) → k ≤ m p + form_place → one (pulled_after (suc k) p l) (m p + form_place) ≡ 0
  no_form k few =
      let f = m p + form_place in
      let r = room in
      let n : length (take k (laid_pack p)) ≡ k = length-take-le k (laid_pack p) (omega (arith, laid_length p)) in
      let there : k + (f - k) ≡ f = omega arith in
      get_or-take (pack_length p) (written (take (suc k) (writes_of p)) l) f 0 (omega arith)
      ∙ ap (λ (s : List ℕ). get_or s f 0) (so_far k k n)
      ∙ ap (λ (i : ℕ). get_or (take k (laid_pack p) ++ drop k spoiled) i 0) (sym (rw n there))
      ∙ get_or-append-add (take k (laid_pack p)) (drop k spoiled) (f - k) 0
      ∙ get_or-drop k spoiled (f - k) 0
      ∙ rw there (get_or-set_same l f 0 0 (omega arith))

  -- from then on all but the distance is the pack's
  module _ (i : ℕ) where
    abbrev count : ℕ
    count = m p + distance_place + i

    abbrev beside : List ℕ
    beside = take i (distance p) ++ drop (length (take count (laid_pack p))) l

    fields_written : pulled_after (suc count) p l ≡ undone p ++ take 4 beside
    fields_written =
        let u = undone_length p in
        let taken : take count (laid_pack p) ≡ undone p ++ take i (distance p) =
        rw (laid_is p, ← u) (take-append-add (undone p) (distance p) i) in
        let far = length-append (undone p) (take i (distance p)) in
        let same : drop (length (take count (laid_pack p))) spoiled ≡ drop (length (take count (laid_pack p))) l =
        drop-set-lt (length (take count (laid_pack p))) l (m p + form_place) 0 (omega (arith, ap length taken)) in
        let end : pack_length p ≡ length (undone p) + 4 = omega arith in
        rw (so_far count _ refl, same, taken, append_assoc (undone p) (take i (distance p)) _, end) (take-append-add (undone p) _ 4)

    four_left : length (take 4 beside) ≡ 4
    four_left =
        let c = cut_length (suc count) in
        omega (arith, ap length fields_written, length-append (undone p) (take 4 beside), undone_length p)

    beside_small : Bytes l → Bytes (take 4 beside)
    beside_small small =
        bytes_take 4 beside
        (bytes_append (take i (distance p)) _ (bytes_take i (distance p) (bytes_four (pack_length p))) (λ j. rw get_or-drop (small _)))

  by_form : (front : List ℕ) → Bytes l → (k : ℕ) (t : Bool) → leb k (m p + form_place) ≡ t
      → IsOk (read_all (front ++ pulled_after (suc k) p l)) → pulled_after (suc k) p l ≡ laid_pack p
  by_form front small k true few whole =
      absurd (spoiled_refused front (pulled_after (suc k) p l) (m p) (cut_length (suc k)) (no_form k (leb-true k (m p + form_place) few)) whole)
  by_form front small k false many whole =
      let i = k - (m p + distance_place) in
      let e : k ≡ count i = omega (arith, leb-false k (m p + form_place) many) in
      let is : pulled_after (suc k) p l ≡ undone p ++ take 4 (beside i) = ap (λ (j : ℕ). pulled_after (suc j) p l) e ∙ fields_written i in
      let last = finished p front (take 4 (beside i)) (may p (length l) ok).valid (four_left i) (beside_small i small) (rw is at whole) in
      is ∙ ap (λ (y : List ℕ). undone p ++ y) last ∙ sym (laid_is p)

-- for any pack that may be laid, any bytes that stood there, any file in front, and any number of the writes but none
pub pulled_reads : (p : Profile) (front l : List ℕ) → laid_answer p (length l) ≡ Ok tt → Bytes l → (count : ℕ) → 0 < count
    → IsOk (read_all (front ++ pulled_after count p l)) → pulled_after count p l ≡ laid_pack p
pulled_reads p front l ok small zero some whole = absurd (omega arith)
pulled_reads p front l ok small (suc k) some whole = by_form p l ok front small k (leb k (m p + form_place)) refl whole
