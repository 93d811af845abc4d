-- "the byte at (cylinder × heads + head) × track length + position of that pack's medium"
use Rattle.std.specs.Prelude.{ℕ, ◌+◌, ◌*◌, ◌<◌, ◌≡◌}
use Rattle.counts.specs.declared.Cylinder.{Cylinder}
use Rattle.counts.specs.declared.Head.{Head}
use Rattle.counts.specs.declared.Heads.{Heads}
use Rattle.counts.specs.declared.Position.{Position}
use Rattle.pack_profile.specs.declared.Profile.{Profile}

-- the number of a track
pub record Track (cylinder : Cylinder) (heads : Heads) (head : Head) (r : ℕ) : Type 0 where
  pub is : r ≡ cylinder.0 * heads.0 + head.0
  pub most : r < 4_294_967_296

abbrev pub cell_in_track : ℕ → ℕ → ℕ → ℕ
cell_in_track track bytes position = track * bytes + position

unfoldable pub place_of : Profile → Cylinder → Head → Position → ℕ
place_of p cylinder head position = cell_in_track (cylinder.0 * p.shape.heads.0 + head.0) p.shape.track.0 position.0

-- whatever the fields say, the place is below 2 ^ 48
pub record InMedium (p : Profile) (cylinder : Cylinder) (head : Head) (position : Position) (r : ℕ) : Type 0 where
  pub is : r ≡ place_of p cylinder head position
  pub most : r < 281_474_976_710_656
