-- "A record is malformed when ..", said of one that is not.
use Rattle.std.specs.Prelude.{ℕ, ◌+◌, Bool, true, false, not, List, [], ◌∷◌, ltb, eqb, Option, Some, None, is_some, unwrap_or}
use Rattle.counts.specs.declared.Place.{Place}
use Rattle.std.specs.Prelude.{if◌then◌else◌}
use Rattle.counts.specs.Slots.{all_with}
use Rattle.counts.specs.Tests.{all_of}
use Rattle.pack_profile.specs.Profile.{medium_of}
use Rattle.pack_trailer.specs.Form.{trailer_length}
use Rattle.pack_profile.specs.Valid.{valid_b}
use Rattle.pack_read.specs.declared.Pack.{Pack}
use Rattle.pack_read.specs.Packs.{longest_file}
use Rattle.drive_record.specs.declared.State.{State}
use Rattle.lines.specs.declared.Lines.{Lines}
use Rattle.lines.specs.Lines.{lines_b}
use Rattle.drive_cable.specs.SoundDrive as unit
use Rattle.pack_read.specs.Packs.{fitted_b}
use Rattle.chain_record.specs.declared.Chain.{Chain}

-- "a pack's place isn't one the file rules could give": it names its own slot and starts where those in front of it end
abbrev pub pack_tests : Pack → ℕ → Place → List Bool
pack_tests p slot at = eqb p.profile.slot slot ∷ eqb p.place.0 at.0 ∷ valid_b p.profile ∷ []

abbrev pub pack_b : Pack → ℕ → Place → Bool
pack_b p slot at = all_of (pack_tests p slot at)

-- where a pack ends
abbrev pub pack_end : Pack → ℕ
pack_end p = p.place.0 + medium_of p.profile.shape + trailer_length

-- where the packs up to a slot's end, if its pack may stand
unfoldable pub placed_of : Pack → ℕ → Place → Option Place
placed_of p slot at =
    if ltb 1 p.fitted then None
    else (if not (fitted_b p) then Some at
    else (if ltb longest_file (pack_end p) then None  -- "over 2,147,483,647 bytes": no file is so long
    else (if not (pack_b p slot at) then None
    else Some (record { 0 = pack_end p }))))

abbrev pub file_start : Place
file_start = record { 0 = 0 }

-- from a slot on, those in front ending at a place; the last ends at the file's end
abbrev pub places_b : List Pack → ℕ → Place → Place → Bool
places_b [] slot at end = eqb at.0 end.0
places_b (p ∷ packs) slot at end =
    if not (is_some (placed_of p slot at)) then false else places_b packs (slot + 1) (unwrap_or (placed_of p slot at) at) end

-- an empty slot is not looked at
unfoldable pub drive_b : Lines → Pack → State → Bool
drive_b l p s = if not (fitted_b p) then true else unit.drive_sound_b p.profile l (eqb l.select p.profile.slot) s

unfoldable pub chain_sound_b : Chain → Bool
chain_sound_b c =
    if not (lines_b c.lines) then false
    else (if not (places_b c.packs 1 file_start c.length) then false
    else all_with (drive_b c.lines) c.packs c.states)
