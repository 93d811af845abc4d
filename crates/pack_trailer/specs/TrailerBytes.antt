-- The trailer's 44 bytes, in the order of their places.
use Rattle.std.specs.Prelude.{ℕ, ◌%◌, List, ◌++◌}
use Rattle.counts.specs.Bytes.{bytes1, bytes2, bytes4}
use Rattle.pack_profile.specs.declared.Profile.{Profile}
use Rattle.pack_profile.specs.declared.Times.{Times}
use Rattle.pack_trailer.specs.Form.{form_one}

-- places 0 to 15
abbrev pub first_bytes : Profile → List ℕ
first_bytes p =
    bytes1 p.slot ++ bytes1 0 ++ bytes2 p.general
    ++ bytes2 p.shape.cylinders.0 ++ bytes1 (p.shape.heads.0 % 256) ++ bytes1 p.vendor
    ++ bytes2 p.shape.track.0 ++ bytes2 p.shape.sector.0
    ++ bytes1 p.gap ++ bytes1 p.sync ++ bytes1 (p.protected % 256) ++ bytes1 0

-- places 16 to 37
abbrev pub time_bytes : Times → List ℕ
time_bytes t =
    bytes4 t.settle.0 ++ bytes2 t.step.0 ++ bytes2 t.switch.0
    ++ bytes4 t.recalibrate.0 ++ bytes4 t.start.0 ++ bytes4 t.diagnostic.0
    ++ bytes2 t.offset.0

-- places 38 to 43: the bytes from the pack's end back to its start come last
abbrev pub last_bytes : ℕ → List ℕ
last_bytes distance = bytes1 0 ++ bytes1 form_one ++ bytes4 distance

-- a profile, and the distance to the pack's start
abbrev pub trailer_of : Profile → ℕ → List ℕ
trailer_of p distance = first_bytes p ++ time_bytes p.times ++ last_bytes distance
