-- A file that reads whole is a file of packs: the fields read, laid out, give its trailers byte for byte.
-- And a pack that was laid reads back as itself.
use mathlib.Core.Path.{◌≡◌, refl, sym, ap, ◌∙◌}
use mathlib.Core.Bool.{Bool, true, false}
use mathlib.Core.List.{List, [], ◌∷◌, ◌++◌, append_assoc, append-nil}
use Prim.Native.Nat.{ℕ, zero, suc, ◌+◌, ◌-◌, ◌≤◌, ◌<◌}
use native.Mathlib.Omega.{arith}
use borrow.Author.Tests.{eqb-true}
use lib.ListN.{length, take, drop, set, replicate, length-append, length-replicate, length-drop, take-append-drop}
use lib.Dec.{eqb, ltb}
use lib.Seq.{get_or-drop, take_at, length-take-le, drop-drop}
use Rattle.pack_trailer.specs.Form.{trailer_length}
use Rattle.counts.specs.declared.Place.{Place}
use Rattle.std.specs.Prelude.{if◌then◌else◌, Result, Ok, Err}
use Rattle.std.specs.Result.{result_unwrap_or}
use Rattle.counts.specs.Bytes.{Bytes}
use Rattle.counts.proofs.Bytes.{bytes_take}
use Rattle.counts.proofs.Choice.{never}
use Rattle.pack_profile.specs.declared.Profile.{Profile}
use Rattle.pack_profile.specs.Profile.{medium_of}
use Rattle.pack_trailer.specs.TrailerBytes.{trailer_of}
use Rattle.pack_profile.specs.Valid.{valid_b}
use Rattle.pack_profile.proofs.FieldRanges.{ranges}
use Rattle.pack_trailer.proofs.RoundTrip.{laid_read}
use Rattle.pack_read.specs.declared.Pack.{Pack}
use Rattle.pack_read.specs.declared.Refusal.{Refusal}
use Rattle.pack_read.specs.declared.Refusal.TheVariants.{Large}
use Rattle.pack_read.specs.declared.read.Refused.{Refused}
use Rattle.pack_read.specs.Packs.{longest_file, no_packs, fitted_pack}
use Rattle.pack_read.specs.Read.{last_pack, refused_at, and_in_front, read_back, read_all}
use Rattle.pack_lay.specs.Lay.{pack_length, laid_pack, laid_bytes}
use Rattle.pack_read.specs.File.{Contents, pack_bytes, file_of, first_slot, Standing, slots_of}
use Rattle.pack_lay.proofs.Laying.{done}
use Rattle.pack_lay.proofs.Staged.{laid_length}
use Rattle.pack_read.proofs.Back.{Good, good, last_trailer}
use Rattle.pack_lay.proofs.ReadLaid.{read_file}

-- the packs that a file is made of, its slots as reading found them
pub record Made (l : List ℕ) (limit : ℕ) (found slots : List Pack) : Type 0 where
  pub contents : List Contents
  pub bytes : l ≡ file_of contents
  pub standing : Standing contents limit
  pub table : slots ≡ slots_of contents 0 found

-- one more pack behind the others
file_more : (xs : List Contents) (x : Contents) → file_of (xs ++ (x ∷ [])) ≡ file_of xs ++ pack_bytes x
file_more [] x = append-nil (pack_bytes x)
file_more (y ∷ xs) x = ap (λ (l : List ℕ). pack_bytes y ++ l) (file_more xs x) ∙ sym (append_assoc (pack_bytes y) (file_of xs) (pack_bytes x))

first_more : (xs : List Contents) (x : Contents) (limit : ℕ) → first_slot (xs ++ (x ∷ [])) limit ≡ first_slot xs x.profile.slot
first_more [] x limit = refl
first_more (y ∷ xs) x limit = refl

module _ (x : Contents) (limit : ℕ) (v : valid_b x.profile ≡ true) (m : length x.medium ≡ medium_of x.profile.shape) (below : x.profile.slot < limit) where
  standing_more : (xs : List Contents) → Standing xs x.profile.slot → Standing (xs ++ (x ∷ [])) limit
  standing_more [] s = (v, m, below, tt)
  standing_more (y ∷ xs) (vy, my, b, s) = (vy, my, rw (first_more xs x limit) b, standing_more xs s)

slots_more : (xs : List Contents) (x : Contents) (place : ℕ) (found : List Pack)
    → slots_of (xs ++ (x ∷ [])) place found
    ≡ slots_of xs place (set found (x.profile.slot - 1) (fitted_pack (record { 0 = place + length (file_of xs) }) x.profile))
slots_more [] x place found = ap (λ (k : ℕ). set found (x.profile.slot - 1) (fitted_pack (record { 0 = k }) x.profile)) (omega arith)
slots_more (y ∷ xs) x place found =
    ap (λ (s : List Pack). set s (y.profile.slot - 1) (fitted_pack (record { 0 = place }) y.profile))
    (slots_more xs x (place + length (pack_bytes y)) found
    ∙ ap (λ (k : ℕ). slots_of xs (place + length (pack_bytes y)) (set found (x.profile.slot - 1) (fitted_pack (record { 0 = k }) x.profile)))
    (omega (arith, length-append (pack_bytes y) (file_of xs))))

-- the pack that was read: its medium, as it stands in the file
module _ (l : List ℕ) (small : Bytes l) (limit : ℕ) (s : Place) (p : Profile) (e : last_pack l limit ≡ Ok (s, p)) where
  abbrev contents : Contents
  contents = record { profile = p; medium = take (medium_of p.shape) (drop s.0 l) }

  g : Good l limit s p
  g = good l limit s p e

  medium_long : length contents.medium ≡ medium_of p.shape
  medium_long = let h = g in length-take-le (medium_of p.shape) (drop s.0 l) (omega (arith, length-drop s.0 l))

  trailer_again : trailer_of p (medium_of p.shape + trailer_length) ≡ last_trailer l
  trailer_again =
      let h = g in
      rw (← h.size, h.profile)
      (laid_read (last_trailer l) (λ i. rw get_or-drop (small (length l - trailer_length + i))) (omega (arith, length-drop (length l - trailer_length) l)) h.zeros h.form)

  -- what stands from the pack's start on is the pack
  pack_again : drop s.0 l ≡ pack_bytes contents
  pack_again =
      let h = g in
      let behind : s.0 + medium_of p.shape ≡ length l - trailer_length = omega arith in
      let t : drop (medium_of p.shape) (drop s.0 l) ≡ trailer_of p (length contents.medium + trailer_length) =
      drop-drop (medium_of p.shape) s.0 l ∙ rw (behind, medium_long) (sym trailer_again) in
      sym (take-append-drop (medium_of p.shape) (drop s.0 l)) ∙ ap (λ (b : List ℕ). contents.medium ++ b) t

  more : (found slots : List Pack) → Made (take s.0 l) p.slot (set found (p.slot - 1) (fitted_pack s p)) slots → Made l limit found slots
  more found slots f =
      let h = g in
      let xs = f.contents in
      let n : length (file_of xs) ≡ s.0 = ap length (sym f.bytes) ∙ length-take-le s.0 l (omega arith) in
      record {
        contents = xs ++ (contents ∷ []);
        bytes =
            sym (take-append-drop s.0 l) ∙ ap (λ (a : List ℕ). a ++ drop s.0 l) f.bytes
            ∙ ap (λ (b : List ℕ). file_of xs ++ b) pack_again ∙ sym (file_more xs contents);
        standing = standing_more contents limit h.valid medium_long h.below xs f.standing;
        table =
            f.table ∙ sym (slots_more xs contents 0 found ∙ ap (λ (k : ℕ). slots_of xs 0 (set found (p.slot - 1) (fitted_pack (record { 0 = k }) p))) (omega arith));
      }

empty_list : (l : List ℕ) → length l ≡ 0 → l ≡ []
empty_list [] e = refl
empty_list (x ∷ l) e = absurd (omega arith)

-- what is in front of a pack that was read
Front : (k : ℕ) (l : List ℕ) (slots : List Pack) → Type 0
Front k l slots = (s limit : ℕ) (found : List Pack) → s < length l → read_back k (take s l) limit found ≡ Ok slots → Made (take s l) limit found slots

by_last : (k : ℕ) (l : List ℕ) (limit : ℕ) (found slots : List Pack) → Bytes l → Front k l slots
    → (r : Result (Place × Profile) Refusal) → last_pack l limit ≡ r → and_in_front (read_back k) l found r ≡ Ok slots → Made l limit found slots
unfolding Front
by_last k l limit found slots small front (Err why) q c = absurd (never (cc))
by_last k l limit found slots small front (Ok (s, p)) q c =
    let g = good l limit s p q in
    more l small limit s p q found slots (front s.0 p.slot (set found (p.slot - 1) (fitted_pack s p)) (omega arith) c)

by_length : (k : ℕ) (l : List ℕ) (limit : ℕ) (found slots : List Pack) → Bytes l → Front k l slots
    → (t : Bool) → eqb (length l) 0 ≡ t
    → (if t then Ok found else and_in_front (read_back k) l found (last_pack l limit)) ≡ Ok slots → Made l limit found slots
by_length k l limit found slots small front true q c =
    record { contents = []; bytes = empty_list l (eqb-true _ _ q); standing = tt; table = ap (λ (r : Result (List Pack) Refused). result_unwrap_or r slots) (sym c) }
by_length k l limit found slots small front false q c = by_last k l limit found slots small front (last_pack l limit) refl c

made : (k : ℕ) (l : List ℕ) (limit : ℕ) (found slots : List Pack) → Bytes l → length l < k → read_back k l limit found ≡ Ok slots → Made l limit found slots
unfolding read_back Front
made zero l limit found slots small h e = absurd (omega arith)
made (suc k) l limit found slots small h e =
    by_length k l limit found slots small
    (λ s limit' found' lt e'. made k (take s l) limit' found' slots (bytes_take s l small) (omega (arith, length-take-le s l (omega arith))) e')
    (eqb (length l) 0) refl e

-- a file of bytes that reads whole is made of packs that stand, and each slot holds what was read
pub file_read : (l : List ℕ) (slots : List Pack) → Bytes l → read_all l ≡ Ok slots → Made l 8 no_packs slots
unfolding read_all
file_read l slots small e = by_size (ltb longest_file (length l)) e
  where
    by_size : (t : Bool) → (if t then refused_at Large 0 else read_back (suc (length l)) l 8 no_packs) ≡ Ok slots → Made l 8 no_packs slots
    by_size true c = absurd (never (cc))
    by_size false c = made (suc (length l)) l 8 no_packs slots small (omega arith) c

-- a pack laid into a part reads back as itself
pub laid_reads : (p : Profile) (l : List ℕ) → valid_b p ≡ true → pack_length p ≤ longest_file → pack_length p ≤ length l
    → read_all (take (pack_length p) (laid_bytes p l)) ≡ Ok (set no_packs (p.slot - 1) (fitted_pack (record { 0 = 0 }) p))
laid_reads p l v small room =
    let m = medium_of p.shape in
    let x : Contents = record { profile = p; medium = replicate m 0 } in
    let n : length (replicate {A = ℕ} m 0) ≡ m = length-replicate m 0 in
    let same : file_of (x ∷ []) ≡ laid_pack p = append-nil (pack_bytes x) ∙ ap (λ (k : ℕ). replicate m 0 ++ trailer_of p (k + trailer_length)) n in
    let r = ranges p v in
    rw (done p l v small room, take_at (laid_pack p) (drop (pack_length p) l) (pack_length p) (laid_length p), ← same)
    (read_file (x ∷ []) (v, n, omega arith, tt) (omega (arith, ap length same, laid_length p)))
