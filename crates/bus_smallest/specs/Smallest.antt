-- The smallest drive. Document 01, Runner: "1 cylinder, 1 head, 4,095 bytes, general word 0242h, sector 512, form 1, the rest 0".
use Rattle.std.specs.Prelude.{ℕ}
use Rattle.pack_profile.specs.declared.Profile.{Profile}
use Rattle.pack_profile.specs.declared.Shape.{Shape}
use Rattle.pack_profile.specs.Profile.{blank_profile}

-- "1 cylinder, 1 head, 4,095 bytes, .. sector 512"
abbrev pub smallest_shape : Shape
smallest_shape = record { cylinders = record { 0 = 1 }; heads = record { 0 = 1 }; track = record { 0 = 4095 }; sector = record { 0 = 512 } }

-- "general word 0242h"; "the rest 0"
abbrev pub smallest_of : ℕ → Profile
smallest_of slot = record {
  slot = slot;
  vendor = 0;
  general = 0x0242;
  gap = 0;
  sync = 0;
  protected = 0;
  shape = smallest_shape;
  times = blank_profile.times;
}
