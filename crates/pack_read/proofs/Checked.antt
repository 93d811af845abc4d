-- The pack at a file's end, from what the trailer's functions answer.
use mathlib.Core.Path.{◌≡◌, ◌∙◌}
use mathlib.Core.Bool.{Bool, ◌&&◌}
use mathlib.Core.List.{List}
use Prim.Native.Nat.{ℕ}
use Rattle.std.specs.Prelude.{Result}
use Rattle.counts.specs.declared.Place.{Place}
use Rattle.counts.specs.Bytes.{one, four}
use Rattle.pack_profile.specs.declared.Profile.{Profile}
use Rattle.pack_profile.specs.Profile.{medium_of}
use Rattle.pack_trailer.specs.Fields.{profile_of, zeros_b}
use Rattle.pack_profile.specs.Valid.{valid_b}
use Rattle.pack_read.specs.declared.Refusal.{Refusal}
use Rattle.pack_read.specs.Read.{verdict_of, checked}

pub checked_by : (t : List ℕ) (n limit d m form : ℕ) (z v : Bool) (p : Profile) (r : Result (Place × Profile) Refusal)
    → d ≡ four t 40 → form ≡ one t 39 → p ≡ profile_of t → z ≡ zeros_b t → v ≡ valid_b p → m ≡ medium_of p.shape
    → r ≡ verdict_of n limit d form (z && v) m p → r ≡ checked t n limit
unfolding checked
checked_by t n limit d m form z v p r ed ef ep ez ev em er = er ∙ rw (ed, ef, ez, ev, em, ep)
