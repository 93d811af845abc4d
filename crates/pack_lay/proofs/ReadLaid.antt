-- Reading a file of packs gives back exactly their profiles, each at its place.
use mathlib.Core.Path.{◌≡◌, refl, sym, ap, ◌∙◌}
use mathlib.Core.Bool.{true}
use mathlib.Core.List.{List, [], ◌∷◌, ◌++◌, append_assoc, append-nil}
use Prim.Native.Nat.{ℕ, suc, ◌+◌, ◌-◌, ◌≤◌, ◌<◌}
use native.Mathlib.Omega.{arith}
use borrow.Author.Tests.{le-ltb, eq-eqb, lt-leb}
use lib.ListN.{length, length-append}
use lib.Seq.{drop_at, take_at}
use Rattle.pack_trailer.specs.Form.{trailer_length}
use Rattle.pack_profile.specs.Profile.{medium_of}
use Rattle.pack_trailer.specs.TrailerBytes.{trailer_of}
use Rattle.pack_profile.specs.Valid.{valid_b}
use Rattle.pack_trailer.proofs.RoundTrip.{read_laid}
use Rattle.counts.proofs.Bytes.{four_back}
use Rattle.pack_read.specs.declared.Pack.{Pack}
use Rattle.pack_read.specs.declared.read.Refused.{Refused}
use Rattle.std.specs.Prelude.{Result, Ok}
use Rattle.pack_read.specs.Packs.{longest_file, no_packs}
use Rattle.pack_read.specs.Read.{verdict_of, checked, last_pack, read_all}
use Rattle.pack_read.specs.File.{Contents, pack_bytes, file_of, first_slot, Standing, slots_of}
use Rattle.pack_read.proofs.Checked.{checked_by}
use Rattle.pack_read.proofs.Back.{Reads, reads_whole, reads_pack, last_trailer}

pub pack_length_lem : (x : Contents) → length (pack_bytes x) ≡ length x.medium + trailer_length
pack_length_lem x = length-append x.medium (trailer_of x.profile (length x.medium + trailer_length))

-- the pack at the end of a file
module _ (front : List ℕ) (x : Contents) (limit : ℕ) where
  whole : length (front ++ pack_bytes x) ≡ length front + (length x.medium + trailer_length)
  whole = length-append front (pack_bytes x) ∙ ap (λ (k : ℕ). length front + k) (pack_length_lem x)

  trailer_there : last_trailer (front ++ pack_bytes x) ≡ trailer_of x.profile (length x.medium + trailer_length)
  trailer_there =
      rw (← append_assoc front x.medium (trailer_of x.profile (length x.medium + trailer_length)))
      (drop_at (front ++ x.medium) _ (length (front ++ x.medium ++ trailer_of x.profile (length x.medium + trailer_length)) - trailer_length)
      (simp length-append (omega arith)))

  module _ (v : valid_b x.profile ≡ true) (m : length x.medium ≡ medium_of x.profile.shape)
      (small : length (front ++ pack_bytes x) ≤ longest_file) (below : x.profile.slot < limit) where
    checked_there : checked (trailer_of x.profile (length x.medium + trailer_length)) (length (front ++ pack_bytes x)) limit
        ≡ Ok (record { 0 = length (front ++ pack_bytes x) - (length x.medium + trailer_length) }, x.profile)
    unfolding verdict_of
    checked_there =
        let n = length (front ++ pack_bytes x) in
        let d = length x.medium + trailer_length in
        let e = whole in
        sym (checked_by (trailer_of x.profile d) n limit d (length x.medium) 1 true true x.profile
        (verdict_of n limit d 1 true (length x.medium) x.profile)
        (sym (four_back d (omega arith))) refl (sym (read_laid x.profile d v)) refl (sym v) m refl)
        ∙ simp (le-ltb d trailer_length (omega arith), le-ltb n d (omega arith), eq-eqb d (length x.medium + trailer_length) refl, lt-leb limit x.profile.slot below)

    pub last_there : last_pack (front ++ pack_bytes x) limit ≡ Ok (record { 0 = length front }, x.profile)
    unfolding last_pack
    last_there =
        let e = whole in
        rw (le-ltb (length (front ++ pack_bytes x)) trailer_length (omega arith), trailer_there)
        (checked_there ∙ ap (λ (s : ℕ). Ok (record { 0 = s }, x.profile)) (omega arith))

-- the packs behind a front are read one by one; what is left is the front, below the first pack's slot
pub reads_file : (xs : List Contents) (front : List ℕ) (limit : ℕ) (found : List Pack) (r : Result (List Pack) Refused)
    → Standing xs limit → length (front ++ file_of xs) ≤ longest_file
    → Reads front (first_slot xs limit) (slots_of xs (length front) found) r → Reads (front ++ file_of xs) limit found r
reads_file [] front limit found r s small h = rw append-nil h
reads_file (x ∷ xs) front limit found r (v, m, below, s) small h =
    let l = front ++ pack_bytes x in
    let e : front ++ (pack_bytes x ++ file_of xs) ≡ l ++ file_of xs = sym (append_assoc front (pack_bytes x) (file_of xs)) in
    let n : length l ≡ length front + length (pack_bytes x) = length-append front (pack_bytes x) in
    let k : length l ≤ longest_file = omega (arith, length-append l (file_of xs), ap length e) in
    let there = last_there front x (first_slot xs limit) v m k below in
    let p = pack_length_lem x in
    rw e (reads_file xs l limit found r s (omega (arith, ap length e))
    (reads_pack l (first_slot xs limit) (slots_of xs (length l) found) (record { 0 = length front }) x.profile r there (omega arith)
    (rw (take_at front (pack_bytes x) (length front) refl, n) h)))

-- any profiles with rising slots, each valid, any media of the right lengths
pub read_file : (xs : List Contents) → Standing xs 8 → length (file_of xs) ≤ longest_file
    → read_all (file_of xs) ≡ Ok (slots_of xs 0 no_packs)
unfolding read_all
read_file xs s small =
    rw (le-ltb longest_file (length (file_of xs)) small)
    (sym (reads_file xs [] 8 no_packs _ s small (reads_whole [] (first_slot xs 8) (slots_of xs 0 no_packs) refl) (suc (length (file_of xs))) (omega arith)))
