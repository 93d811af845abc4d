-- Samples one after the other: the first and those behind it, the end, and a capture put together of two.
use mathlib.Core.Path.{◌≡◌, refl, sym, ap, ◌∙◌}
use mathlib.Core.Bool.{Bool, true, false}
use mathlib.Core.List.{List, [], ◌∷◌, ◌++◌}
use Prim.Native.Nat.{ℕ, zero, suc, ◌+◌, ◌-◌, ◌*◌, ◌/◌, ◌≤◌, ◌<◌}
use native.Mathlib.Omega.{arith}
use lib.ListN.{length, get_or, take, drop, length-drop, length-append, get_or-append, take-append-drop}
use lib.Seq.{drop-drop, drop-append-le, length-take-le}
use Rattle.std.specs.Prelude.{if◌then◌else◌}
use Rattle.std.specs.Simd.{first_chunks}
use Rattle.std.specs.List.{prefix_len}
use Rattle.counts.proofs.Choice.{by_test}
use Rattle.capture_samples.specs.declared.Sample.{Sample}
use Rattle.capture_samples.specs.Samples.{sample_length, sample_of, levels_b, samples_in, samples_of, good_in, good_bytes}

module _ (l : List ℕ) where
  -- one sample more than behind the first
  one_more : sample_length ≤ length l → length l / sample_length ≡ suc (length (drop sample_length l) / sample_length)
  one_more h = rw (length-drop sample_length l) (omega arith)

  pub first_sample : sample_length ≤ length l → samples_of l ≡ sample_of l ∷ samples_of (drop sample_length l)
  unfolding samples_of
  first_sample h = ap (λ (n : ℕ). samples_in n l) (one_more h)

  pub first_good : sample_length ≤ length l → good_bytes l ≡ (if levels_b l then sample_length + good_bytes (drop sample_length l) else 0)
  unfolding good_bytes
  first_good h = ap (λ (n : ℕ). good_in n l) (one_more h)

  none_left : length l < sample_length → length l / sample_length ≡ 0
  none_left h = omega arith

  pub no_sample : length l < sample_length → samples_of l ≡ []
  unfolding samples_of
  no_sample h = ap (λ (n : ℕ). samples_in n l) (none_left h)

-- a loop over a capture: so many bytes are used
module _ (l : List ℕ) (at : ℕ) (h : sample_length ≤ length l - at) where
  left : sample_length ≤ length (drop at l)
  left = rw (length-drop at l) h

  pub next_sample : samples_of (drop at l) ≡ sample_of (drop at l) ∷ samples_of (drop (at + sample_length) l)
  next_sample = first_sample (drop at l) left ∙ ap (λ (m : List ℕ). sample_of (drop at l) ∷ samples_of m) (drop-drop sample_length at l)

-- too few bytes left for one more
module _ (l : List ℕ) (at : ℕ) (h : length l - at < sample_length) where
  pub samples_end : samples_of (drop at l) ≡ []
  samples_end = no_sample (drop at l) (rw (length-drop at l) h)

-- a sample is read from its own six bytes
pub front_sample : (xs ys : List ℕ) → sample_length ≤ length xs → sample_of (xs ++ ys) ≡ sample_of xs
front_sample xs ys h =
    let g : (i : ℕ) → i < sample_length → get_or (xs ++ ys) i 0 ≡ get_or xs i 0 = λ i k. get_or-append xs ys 0 i (omega arith) in
    rw (g 0 (omega arith), g 1 (omega arith), g 2 (omega arith), g 3 (omega arith), g 4 (omega arith), g 5 (omega arith))

-- a capture of whole samples, and then bytes
pub samples_behind : (n : ℕ) (xs ys : List ℕ) → length xs ≡ n * sample_length → samples_of (xs ++ ys) ≡ samples_of xs ++ samples_of ys
samples_behind zero [] ys h = sym (ap (λ (l : List Sample). l ++ samples_of ys) (no_sample [] (omega arith)))
samples_behind zero (x ∷ xs) ys h = absurd (omega arith)
samples_behind (suc n) xs ys h =
    let k : sample_length ≤ length xs = omega arith in
    let m : sample_length ≤ length (xs ++ ys) = omega (arith, length-append xs ys) in
    first_sample (xs ++ ys) m
    ∙ ap (λ (l : List Sample). sample_of (xs ++ ys) ∷ l)
    (ap (λ (l : List ℕ). samples_of l) (drop-append-le sample_length xs ys k) ∙ samples_behind n (drop sample_length xs) ys (omega (arith, length-drop sample_length xs)))
    ∙ ap (λ (s : Sample). s ∷ (samples_of (drop sample_length xs) ++ samples_of ys)) (front_sample xs ys k)
    ∙ ap (λ (l : List Sample). l ++ samples_of ys) (sym (first_sample xs k))

front_levels : (xs ys : List ℕ) → sample_length ≤ length xs → levels_b (xs ++ ys) ≡ levels_b xs
front_levels xs ys h =
    let g : (i : ℕ) → i < sample_length → get_or (xs ++ ys) i 0 ≡ get_or xs i 0 = λ i k. get_or-append xs ys 0 i (omega arith) in
    rw (g 4 (omega arith), g 5 (omega arith))

-- a first sample in front of others: good, or where the capture ends being one
module _ (xs ys : List ℕ) (h : sample_length ≤ length xs) where
  front_good : good_bytes (xs ++ ys) ≡ (if levels_b xs then sample_length + good_bytes (drop sample_length xs ++ ys) else 0)
  front_good =
      first_good (xs ++ ys) (omega (arith, length-append xs ys))
      ∙ ap (λ (b : Bool). if b then sample_length + good_bytes (drop sample_length (xs ++ ys)) else 0) (front_levels xs ys h)
      ∙ ap (λ (l : List ℕ). if levels_b xs then sample_length + good_bytes l else 0) (drop-append-le sample_length xs ys h)

-- whole samples, each good, and then bytes: the rest decides
pub good_behind : (n : ℕ) (xs ys : List ℕ) → length xs ≡ n * sample_length → good_bytes xs ≡ length xs → good_bytes (xs ++ ys) ≡ length xs + good_bytes ys
good_behind zero [] ys h g = omega arith
good_behind zero (x ∷ xs) ys h g = absurd (omega arith)
good_behind (suc n) xs ys h g =
    let k : sample_length ≤ length xs = omega arith in
    let d = length-drop sample_length xs in
    by_test (λ (m : ℕ). good_bytes xs ≡ m → good_bytes (xs ++ ys) ≡ length xs + good_bytes ys) (levels_b xs) (sample_length + good_bytes (drop sample_length xs)) 0
    (λ t. λ e. front_good xs ys k ∙ ap (λ (b : Bool). if b then sample_length + good_bytes (drop sample_length xs ++ ys) else 0) t
    ∙ omega (arith, good_behind n (drop sample_length xs) ys (omega (arith, d)) (omega (arith, d, e, g)), d))
    (λ t. λ e. absurd (omega arith))
    (first_good xs k)

-- whole samples, one of them bad: whatever follows
pub bad_front : (n : ℕ) (xs ys : List ℕ) → length xs ≡ n * sample_length → good_bytes xs < length xs → good_bytes (xs ++ ys) ≡ good_bytes xs
bad_front zero xs ys h g = absurd (omega arith)
bad_front (suc n) xs ys h g =
    let k : sample_length ≤ length xs = omega arith in
    let d = length-drop sample_length xs in
    by_test (λ (m : ℕ). good_bytes xs ≡ m → good_bytes (xs ++ ys) ≡ good_bytes xs) (levels_b xs) (sample_length + good_bytes (drop sample_length xs)) 0
    (λ t. λ e. front_good xs ys k ∙ ap (λ (b : Bool). if b then sample_length + good_bytes (drop sample_length xs ++ ys) else 0) t
    ∙ omega (arith, bad_front n (drop sample_length xs) ys (omega (arith, d)) (omega (arith, d, e, g)), e))
    (λ t. λ e. front_good xs ys k ∙ ap (λ (b : Bool). if b then sample_length + good_bytes (drop sample_length xs ++ ys) else 0) t ∙ sym e)
    (first_good xs k)

-- a capture's pieces of six bytes, one for each sample
abbrev pub pieces_of : List ℕ → List (List ℕ)
pieces_of l = first_chunks sample_length (length l / sample_length) l

-- so many pieces are behind a loop
piece_at : (n : ℕ) (l : List ℕ) (i : ℕ) (d : List ℕ) → i < n → get_or (first_chunks sample_length n l) i d ≡ take sample_length (drop (i * sample_length) l)
piece_at zero l i d h = absurd (omega arith)
piece_at (suc n) l zero d h = refl
piece_at (suc n) l (suc i) d h =
    piece_at n (drop sample_length l) i d (omega arith)
    ∙ ap (λ (m : List ℕ). take sample_length m) (drop-drop (i * sample_length) sample_length l ∙ ap (λ (k : ℕ). drop k l) (omega arith))

module _ (l : List ℕ) {pieces : List (List ℕ)} (e : pieces ≡ pieces_of l) (k : length pieces ≡ length l / sample_length) (i : ℕ) where
  pub piece_within : i < length pieces → sample_length ≤ length l - i * sample_length
  piece_within h = omega arith

  pub piece_sample : (d : List ℕ) → i < length pieces → sample_of (get_or pieces i d) ≡ sample_of (drop (i * sample_length) l)
  piece_sample d h =
      let from = drop (i * sample_length) l in
      let long = length-take-le sample_length from (rw (length-drop (i * sample_length) l) (piece_within h)) in
      ap (λ (p : List (List ℕ)). sample_of (get_or p i d)) e ∙ ap (λ (p : List ℕ). sample_of p) (piece_at (length l / sample_length) l i d (omega arith))
      ∙ sym (front_sample (take sample_length from) (drop sample_length from) (omega (arith, long))) ∙ ap (λ (p : List ℕ). sample_of p) (take-append-drop sample_length from)

  pub pieces_end : length pieces ≤ i → length l - i * sample_length < sample_length
  pieces_end h = omega arith

-- the good ones in front
piece_levels : (l : List ℕ) → sample_length ≤ length l → levels_b (take sample_length l) ≡ levels_b l
piece_levels l h =
    sym (front_levels (take sample_length l) (drop sample_length l) (omega (arith, length-take-le sample_length l h))) ∙ ap levels_b (take-append-drop sample_length l)

one_piece : (t : Bool) (n m : ℕ) → n * sample_length ≡ m → (if t then 1 + n else 0) * sample_length ≡ (if t then sample_length + m else 0)
one_piece true n m e = omega arith
one_piece false n m e = refl

pieces_good : (n : ℕ) (l : List ℕ) → n * sample_length ≤ length l → prefix_len levels_b (first_chunks sample_length n l) * sample_length ≡ good_in n l
pieces_good zero l h = refl
pieces_good (suc n) l h =
    let further = prefix_len levels_b (first_chunks sample_length n (drop sample_length l)) in
    ap (λ (t : Bool). (if t then 1 + further else 0) * sample_length) (piece_levels l (omega arith))
    ∙ one_piece (levels_b l) further _ (pieces_good n (drop sample_length l) (omega (arith, length-drop sample_length l)))

pub good_pieces : (l : List ℕ) → prefix_len levels_b (pieces_of l) * sample_length ≡ good_bytes l
unfolding good_bytes
good_pieces l = pieces_good (length l / sample_length) l (omega arith)
