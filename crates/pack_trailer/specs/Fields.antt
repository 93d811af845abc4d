-- "Fields (place: meaning, range)": the profile that a trailer's bytes say.
use Rattle.std.specs.Prelude.{ℕ, ◌≡◌, List, [], ◌∷◌, Bool, eqb}
use Rattle.counts.specs.Bytes.{one, two, four}
use Rattle.counts.specs.Tests.{all_of}
use Rattle.pack_profile.specs.declared.Profile.{Profile}
use Rattle.pack_profile.specs.declared.Shape.{Shape}
use Rattle.pack_profile.specs.declared.Times.{Times}

pub record ShapeIs (t : List ℕ) (r : Shape) : Type 0 where
  pub cylinders : r.cylinders.0 ≡ two t 4
  pub heads : r.heads.0 ≡ one t 6
  pub track : r.track.0 ≡ two t 8
  pub sector : r.sector.0 ≡ two t 10

pub record TimesIs (t : List ℕ) (r : Times) : Type 0 where
  pub settle : r.settle.0 ≡ four t 16
  pub step : r.step.0 ≡ two t 20
  pub switch : r.switch.0 ≡ two t 22
  pub recalibrate : r.recalibrate.0 ≡ four t 24
  pub start : r.start.0 ≡ four t 28
  pub diagnostic : r.diagnostic.0 ≡ four t 32
  pub offset : r.offset.0 ≡ two t 36

abbrev pub shape_of : List ℕ → Shape
shape_of t = record {
  cylinders = record { 0 = two t 4 };
  heads = record { 0 = one t 6 };
  track = record { 0 = two t 8 };
  sector = record { 0 = two t 10 };
}

abbrev pub times_of : List ℕ → Times
times_of t = record {
  settle = record { 0 = four t 16 };
  step = record { 0 = two t 20 };
  switch = record { 0 = two t 22 };
  recalibrate = record { 0 = four t 24 };
  start = record { 0 = four t 28 };
  diagnostic = record { 0 = four t 32 };
  offset = record { 0 = two t 36 };
}

unfoldable pub profile_of : List ℕ → Profile
profile_of t = record {
  slot = one t 0;
  vendor = one t 7;
  general = two t 2;
  gap = one t 12;
  sync = one t 13;
  protected = one t 14;
  shape = shape_of t;
  times = times_of t;
}

-- "1: zero. 15: zero. 38: zero."
abbrev pub zero_tests : List ℕ → List Bool
zero_tests t = eqb (one t 1) 0 ∷ eqb (one t 15) 0 ∷ eqb (one t 38) 0 ∷ []

abbrev pub zeros_b : List ℕ → Bool
zeros_b t = all_of (zero_tests t)
