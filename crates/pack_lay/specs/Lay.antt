-- "Laying a pack puts a zeroed medium, then the trailer, at the start of a lent part."
use Rattle.std.specs.Prelude.{ℕ, ◌+◌, List, ◌++◌, not, length, replicate, drop, ltb}
use Rattle.std.specs.Prelude.{if◌then◌else◌, Result, Ok, Err}
use Rattle.pack_profile.specs.declared.Profile.{Profile}
use Rattle.pack_profile.specs.Profile.{medium_of}
use Rattle.pack_trailer.specs.Form.{trailer_length}
use Rattle.pack_trailer.specs.TrailerBytes.{trailer_of}
use Rattle.pack_profile.specs.Valid.{valid_b}
use Rattle.pack_read.specs.declared.Refusal.{Refusal}
use Rattle.pack_read.specs.declared.Refusal.TheVariants.{Field, Large, Room}
use Rattle.pack_read.specs.Refusal.{refusal_number}
use Rattle.pack_read.specs.Packs.{longest_file}

-- 0 where nothing is refused
abbrev pub laid_number : Result (Unit {0}) Refusal → ℕ
laid_number (Ok done) = 0
laid_number (Err why) = refusal_number why

abbrev pub pack_length : Profile → ℕ
pack_length p = medium_of p.shape + trailer_length

-- "33, then 36, then 37 too little room"
unfoldable pub laid_answer : Profile → ℕ → Result (Unit {0}) Refusal
laid_answer p room =
    if not (valid_b p) then Err Field
    else (if ltb longest_file (pack_length p) then Err Large
    else (if ltb room (pack_length p) then Err Room
    else Ok tt))

abbrev pub pack_trailer : Profile → List ℕ
pack_trailer p = trailer_of p (pack_length p)

-- the zeroed medium and the trailer
abbrev pub laid_pack : Profile → List ℕ
laid_pack p = replicate (medium_of p.shape) 0 ++ pack_trailer p

-- "buffer untouched. Bytes past the pack stay."
abbrev pub after_laying : Result (Unit {0}) Refusal → Profile → List ℕ → List ℕ
after_laying (Ok done) p l = laid_pack p ++ drop (pack_length p) l
after_laying (Err why) p l = l

unfoldable pub laid_bytes : Profile → List ℕ → List ℕ
laid_bytes p l = after_laying (laid_answer p (length l)) p l
