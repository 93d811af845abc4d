-- Document 02, request 4: "Zero the medium first and write the trailer after it, its back distance last of all. The
-- buffer's final bytes don't change."
use Rattle.std.specs.Prelude.{Result, Ok, Err, ◌≡◌, ℕ, suc, ◌+◌, List, [], ◌∷◌, ◌++◌, length, replicate, take, drop, set}
use Rattle.pack_profile.specs.declared.Profile.{Profile}
use Rattle.pack_profile.specs.Profile.{medium_of}
use Rattle.pack_trailer.specs.Form.{form_place, distance_place}
use Rattle.pack_read.specs.declared.Refusal.{Refusal}
use Rattle.pack_lay.specs.declared.stages.Stage.{Stage}
use Rattle.pack_lay.specs.declared.stages.Stage.TheVariants.{Spoil, Medium, Fields, Distance}
use Rattle.pack_lay.specs.Lay.{pack_length, laid_answer, pack_trailer}

-- a byte put at a place of the lent part
pub record Write : Type 0 where
  pub place : ℕ
  pub byte : ℕ

-- bytes put one behind the other, from a place on
abbrev pub from : ℕ → List ℕ → List Write
from at [] = []
from at (b ∷ bs) = record { place = at; byte = b } ∷ from (suc at) bs

-- what each stage puts where
unfoldable pub stage_writes : Stage → Profile → List Write
stage_writes Spoil p = from (medium_of p.shape + form_place) (0 ∷ [])  -- a pack that ended here has no form any more (decision 84)
stage_writes Medium p = from 0 (replicate (medium_of p.shape) 0)  -- "Zero the medium first"
stage_writes Fields p = from (medium_of p.shape) (take distance_place (pack_trailer p))  -- "and write the trailer after it"
stage_writes Distance p = from (medium_of p.shape + distance_place) (drop distance_place (pack_trailer p))  -- "its back distance last of all"

-- every write of a laying, in its order
unfoldable pub writes_of : Profile → List Write
writes_of p = stage_writes Spoil p ++ stage_writes Medium p ++ stage_writes Fields p ++ stage_writes Distance p

-- a part behind some writes, the first first; one past its end writes nothing
unfoldable pub written : List Write → List ℕ → List ℕ
written [] l = l
written (w ∷ ws) l = written ws (set l w.place w.byte)

-- writes done where the pack may be laid, none where it is refused
abbrev pub after_writes : Result (Unit {0}) Refusal → List Write → List ℕ → List ℕ
after_writes (Ok done) ws l = written ws l
after_writes (Err why) ws l = l

unfoldable pub staged_bytes : Stage → Profile → List ℕ → List ℕ
staged_bytes s p l = after_writes (laid_answer p (length l)) (stage_writes s p) l

-- what is written in front of a stage
abbrev pub writes_before : Stage → Profile → List Write
writes_before Spoil p = []
writes_before Medium p = stage_writes Spoil p
writes_before Fields p = stage_writes Spoil p ++ stage_writes Medium p
writes_before Distance p = stage_writes Spoil p ++ stage_writes Medium p ++ stage_writes Fields p

-- a stage's turn: just that is done, on whatever stood there
pub record Turn (s : Stage) (p : Profile) (l : List ℕ) : Type 0 where
  pub former : List ℕ
  pub is : l ≡ after_writes (laid_answer p (length former)) (writes_before s p) former

-- what a card holds that is pulled behind so many writes, cut at the pack's end
abbrev pub pulled_after : ℕ → Profile → List ℕ → List ℕ
pulled_after count p l = take (pack_length p) (written (take count (writes_of p)) l)
