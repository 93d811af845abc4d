-- What a pack's profile says of its medium and of its sectors' gaps, and what stands where no drive is.
use Rattle.std.specs.Prelude.{ℕ, ◌+◌, ◌*◌, ◌<◌, ◌≡◌}
use Rattle.pack_profile.specs.declared.Profile.{Profile}
use Rattle.pack_profile.specs.declared.Shape.{Shape}

-- "cylinders × heads × track length"
abbrev pub medium_of : Shape → ℕ
medium_of s = s.cylinders.0 * s.heads.0 * s.track.0

-- the medium's bytes, whatever the fields say
pub record Medium (s : Shape) (r : ℕ) : Type 0 where
  pub is : r ≡ medium_of s
  pub most : r < 281_474_976_710_656

-- request 8: "gap bytes + 2 × sync bytes"
abbrev pub gaps_of : Profile → ℕ
gaps_of p = p.gap + 2 * p.sync

-- what stands where no drive is
abbrev pub blank_profile : Profile
blank_profile = record {
  slot = 0;
  vendor = 0;
  general = 0;
  gap = 0;
  sync = 0;
  protected = 0;
  shape = record { cylinders = record { 0 = 0 }; heads = record { 0 = 0 }; track = record { 0 = 0 }; sector = record { 0 = 0 } };
  times = record {
    settle = record { 0 = 0 };
    step = record { 0 = 0 };
    switch = record { 0 = 0 };
    recalibrate = record { 0 = 0 };
    start = record { 0 = 0 };
    diagnostic = record { 0 = 0 };
    offset = record { 0 = 0 };
  };
}
