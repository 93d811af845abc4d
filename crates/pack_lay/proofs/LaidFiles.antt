-- Packs laid one behind the other read back as all of them.
use Prim.Native.Nat.{ℕ, ◌+◌, ◌≤◌, ◌<◌}
use native.Mathlib.Omega.{arith}
use mathlib.Core.Path.{◌≡◌, refl, ap, ap₂, ◌∙◌}
use mathlib.Core.Bool.{true}
use mathlib.Core.List.{List, [], ◌∷◌, ◌++◌, append-nil}
use lib.ListN.{length, replicate, take, drop, length-append, length-replicate, length-drop, drop_of_length-le}
use lib.Seq.{take_at, drop_at}
use Rattle.pack_profile.specs.declared.Profile.{Profile}
use Rattle.pack_profile.specs.Profile.{medium_of}
use Rattle.pack_profile.specs.Valid.{valid_b}
use Rattle.pack_profile.proofs.FieldRanges.{ranges}
use Rattle.pack_trailer.specs.Form.{trailer_length}
use Rattle.pack_trailer.specs.TrailerBytes.{trailer_of}
use Rattle.std.specs.Prelude.{Ok}
use Rattle.pack_read.specs.Packs.{longest_file, no_packs}
use Rattle.pack_read.specs.Read.{read_all}
use Rattle.pack_read.specs.File.{pack_bytes, file_of, Standing, slots_of}
use Rattle.pack_lay.specs.Lay.{pack_length, laid_pack, laid_bytes}
use Rattle.pack_lay.specs.LaidFile.{laid_file, zeroed, zeroed_all}
use Rattle.pack_lay.proofs.Laying.{done}
use Rattle.pack_lay.proofs.Staged.{laid_length}
use Rattle.pack_lay.proofs.ReadLaid.{read_file}

-- the pack of a zeroed medium is the pack laid
zeroed_bytes : (p : Profile) → pack_bytes (zeroed p) ≡ laid_pack p
zeroed_bytes p =
    let m = medium_of p.shape in
    ap (λ (k : ℕ). replicate m 0 ++ trailer_of p (k + trailer_length)) (length-replicate {A = ℕ} m 0)

zeroed_file : (ps : List Profile) → file_of (zeroed_all ps) ≡ laid_file ps
zeroed_file [] = refl
zeroed_file (p ∷ ps) = ap₂ (λ (x y : List ℕ). x ++ y) (zeroed_bytes p) (zeroed_file ps)

-- any profiles with rising slots, each valid, laid one behind the other
pub laid_file_reads : (ps : List Profile) → Standing (zeroed_all ps) 8 → length (laid_file ps) ≤ longest_file
    → read_all (laid_file ps) ≡ Ok (slots_of (zeroed_all ps) 0 no_packs)
laid_file_reads ps s small = rw (← zeroed_file ps) (read_file (zeroed_all ps) s (omega (arith, ap length (zeroed_file ps))))

-- two packs laid into a part that has just the room for both
module _ (p q : Profile) (v : valid_b p ≡ true) (w : valid_b q ≡ true) (l : List ℕ) where
  -- the first, then the second behind it
  abbrev laid_two : List ℕ
  laid_two = take (pack_length p) (laid_bytes p l) ++ laid_bytes q (drop (pack_length p) (laid_bytes p l))

  pub two_laid : length l ≡ pack_length p + pack_length q → length l ≤ longest_file → laid_two ≡ laid_file (p ∷ q ∷ [])
  two_laid long small =
      let first = done p l v (omega arith) (omega arith) in
      let rest : List ℕ = drop (pack_length p) l in
      let room : length rest ≡ pack_length q = length-drop (pack_length p) l ∙ omega arith in
      let second = done q rest w (omega arith) (omega arith) in
      let none : drop (pack_length q) rest ≡ [] = drop_of_length-le rest {i = pack_length q} (omega arith) in
      rw (first, take_at (laid_pack p) rest (pack_length p) (laid_length p), drop_at (laid_pack p) rest (pack_length p) (laid_length p), second, none)

  pub two_laid_read : p.slot < q.slot → length l ≡ pack_length p + pack_length q → length l ≤ longest_file
      → read_all laid_two ≡ Ok (slots_of (zeroed_all (p ∷ q ∷ [])) 0 no_packs)
  two_laid_read rising long small =
      let r = ranges q w in
      let n : (x : Profile) → length (replicate {A = ℕ} (medium_of x.shape) 0) ≡ medium_of x.shape = λ x. length-replicate (medium_of x.shape) 0 in
      let same = two_laid long small in
      let all : length (laid_file (p ∷ q ∷ [])) ≡ length l =
      length-append (laid_pack p) (laid_pack q ++ []) ∙ rw (append-nil, laid_length p, laid_length q, long) in
      rw same (laid_file_reads (p ∷ q ∷ []) (v, n p, rising, (w, n q, omega arith, tt)) (omega arith))
