-- A file of packs, as the theorems on whole files speak of it.
use Rattle.std.specs.Prelude.{ℕ, ◌+◌, ◌-◌, ◌<◌, ◌≡◌, true, List, [], ◌∷◌, ◌++◌, length, set}
use Rattle.pack_profile.specs.declared.Profile.{Profile}
use Rattle.pack_profile.specs.Profile.{medium_of}
use Rattle.pack_trailer.specs.Form.{trailer_length}
use Rattle.pack_trailer.specs.TrailerBytes.{trailer_of}
use Rattle.pack_profile.specs.Valid.{valid_b}
use Rattle.pack_read.specs.declared.Pack.{Pack}
use Rattle.pack_read.specs.Packs.{fitted_pack}

-- a profile, and what its medium holds
pub record Contents : Type 0 where
  pub profile : Profile
  pub medium : List ℕ

-- "a pack is its medium, then a 44-byte trailer"
abbrev pub pack_bytes : Contents → List ℕ
pack_bytes x = x.medium ++ trailer_of x.profile (length x.medium + trailer_length)

-- "Zero to seven packs"
abbrev pub file_of : List Contents → List ℕ
file_of [] = []
file_of (x ∷ xs) = pack_bytes x ++ file_of xs

-- the slot of the first pack, or the limit where there is none
abbrev pub first_slot : List Contents → ℕ → ℕ
first_slot [] limit = limit
first_slot (x ∷ xs) limit = x.profile.slot

-- each profile valid, its medium as long as it says, the slots rising and below the limit
abbrev pub Standing : List Contents → ℕ → Type 0
Standing [] limit = Unit
Standing (x ∷ xs) limit =
    (valid_b x.profile ≡ true) × (length x.medium ≡ medium_of x.profile.shape)
    × (x.profile.slot < first_slot xs limit) × Standing xs limit

-- each pack at its slot, the first starting at a place of the file
abbrev pub slots_of : List Contents → ℕ → List Pack → List Pack
slots_of [] place found = found
slots_of (x ∷ xs) place found =
    set (slots_of xs (place + length (pack_bytes x)) found) (x.profile.slot - 1) (fitted_pack (record { 0 = place }) x.profile)
