-- "Configuration by modifier (003, table 6-8)"
use Rattle.std.specs.Prelude.{ℕ, ◌*◌, ◌/◌, ◌%◌, Bool, not, eqb}
use Rattle.counts.specs.declared.Heads.{Heads}
use Rattle.counts.specs.declared.SectorSize.{SectorSize}
use Rattle.std.specs.Prelude.{if◌then◌else◌}
use Rattle.pack_profile.specs.declared.Profile.{Profile}
use Rattle.pack_profile.specs.General.{removable, soft}

-- "if .., else 0"
abbrev pub when : Bool → ℕ → ℕ
when test x = if test then x else 0

-- "removable in 15..8, fixed in 7..0"
abbrev pub configured_heads : Bool → Heads → ℕ
configured_heads isRemovable heads = if isRemovable then heads.0 % 256 * 256 else heads.0 % 256

-- "sector size now in force (0 if soft)"
abbrev pub in_force : Profile → SectorSize → ℕ
in_force p sector = when (not (soft p.general)) sector.0

-- "whole sectors of that size in a track (0 if soft)"
abbrev pub sectors_of : ℕ → ℕ → ℕ
sectors_of track size = if eqb size 0 then 0 else track / size

unfoldable pub configuration_of : Profile → SectorSize → ℕ → ℕ
configuration_of p sector modifier =
    if eqb modifier 0 then p.general  -- "0 general word"
    else (if eqb modifier 1 then when (not (removable p.general)) p.shape.cylinders.0  -- "1, 2 cylinders if fixed, if removable, else 0"
    else (if eqb modifier 2 then when (removable p.general) p.shape.cylinders.0
    else (if eqb modifier 3 then configured_heads (removable p.general) p.shape.heads  -- "3 heads"
    else (if eqb modifier 4 then p.shape.track.0  -- "4 track length"
    else (if eqb modifier 5 then in_force p sector  -- "5 sector size now in force"
    else (if eqb modifier 6 then sectors_of p.shape.track.0 (in_force p sector)  -- "6 whole sectors of that size in a track"
    else (if eqb modifier 7 then p.gap  -- "7 gap bytes"
    else (if eqb modifier 8 then p.sync  -- "8 sync bytes"
    else (if eqb modifier 15 then p.vendor * 256  -- "15 vendor in 15..8"
    else 0)))))))))  -- "9 to 14 zero"
