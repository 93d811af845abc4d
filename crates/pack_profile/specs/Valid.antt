-- "Fields (place: meaning, range)": which may stand. Refusal 33 says that one may not.
use Rattle.std.specs.Prelude.{ℕ, List, [], ◌∷◌, Bool, leb, eqb}
use Rattle.std.specs.Prelude.{if◌then◌else◌}
use Rattle.counts.specs.Slots.{slot_b}
use Rattle.counts.specs.Tests.{all_of, within}
use Rattle.pack_profile.specs.declared.Profile.{Profile}
use Rattle.pack_profile.specs.General.{soft, general_ok}

-- "162..4,095", of a hard sectored drive
abbrev pub hard_size : ℕ → Bool
hard_size size = within 162 4095 size

-- "sector size, 162..4,095, or 0 exactly if soft"
abbrev pub sector_ok : Bool → ℕ → Bool
sector_ok isSoft size = if isSoft then eqb size 0 else hard_size size

-- "≤ 60,000" and "≤ 30,000,000": the most that the short and the long ones take, in microseconds
abbrev pub short : ℕ
short = 60_000

abbrev pub long : ℕ
long = 30_000_000

-- the fields that have a range, in the order of their places
abbrev pub field_tests : Profile → List Bool
field_tests p =
    slot_b p.slot  -- "0: slot 1..7"
    ∷ general_ok p.general p.times.switch.0  -- "2-3: general word"
    ∷ within 1 4096 p.shape.cylinders.0  -- "4-5: cylinders 1..4,096"
    ∷ within 1 16 p.shape.heads.0  -- "6: heads 1..16"
    ∷ within 4095 40_960 p.shape.track.0  -- "8-9: track length 4,095..40,960"
    ∷ sector_ok (soft p.general) p.shape.sector.0  -- "10-11: sector size"
    ∷ leb p.protected 1  -- "14: protected 0/1"
    ∷ leb p.times.settle.0 short  -- "16-19: settle ≤ 60,000"
    ∷ leb p.times.step.0 1000  -- "20-21: step ≤ 1,000"
    ∷ leb p.times.switch.0 short  -- "22-23: head switch ≤ 60,000"
    ∷ leb p.times.recalibrate.0 long  -- "24-27 .. recalibrate .. ≤ 30,000,000"
    ∷ leb p.times.start.0 long  -- "28-31 .. start"
    ∷ leb p.times.diagnostic.0 long  -- "32-35: .. diagnostic"
    ∷ leb p.times.offset.0 short  -- "36-37: offset time ≤ 60,000"
    ∷ []

unfoldable pub valid_b : Profile → Bool
valid_b p = all_of (field_tests p)
