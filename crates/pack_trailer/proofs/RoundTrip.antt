-- Reading the trailer of a profile gives back its fields; the trailer of the fields read is the trailer.
use mathlib.Core.Path.{◌≡◌, sym, ap, ◌∙◌}
use mathlib.Core.Bool.{true}
use mathlib.Core.List.{List}
use Prim.Native.Nat.{ℕ}
use native.Mathlib.Omega.{arith}
use lib.ListN.{length, get_or}
use Rattle.pack_trailer.specs.Form.{trailer_length}
use Rattle.counts.specs.Bytes.{one, four, Bytes}
use Rattle.counts.proofs.Bytes.{one_back, two_back, four_back, listed, as_listed, only_byte, first_of_two, last_byte, third_of_four, first_of_four, second_of_four}
use Rattle.pack_profile.specs.declared.Profile.{Profile}
use Rattle.pack_trailer.specs.Fields.{profile_of, zeros_b}
use Rattle.pack_trailer.specs.TrailerBytes.{trailer_of}
use Rattle.pack_profile.specs.Valid.{valid_b}
use Rattle.pack_profile.proofs.FieldRanges.{ranges}
use Rattle.pack_trailer.proofs.ZeroBytes.{zeros}

pub read_laid : (p : Profile) (d : ℕ) → valid_b p ≡ true → profile_of (trailer_of p d) ≡ p
unfolding profile_of
read_laid p d v =
    let r = ranges p v in
    simp (
      one_back p.shape.heads.0 (omega arith),
      one_back p.protected (omega arith),
      two_back p.general (omega arith),
      two_back p.shape.cylinders.0 (omega arith),
      two_back p.shape.track.0 (omega arith),
      two_back p.shape.sector.0 (omega arith),
      four_back p.times.settle.0 (omega arith),
      two_back p.times.step.0 (omega arith),
      two_back p.times.switch.0 (omega arith),
      four_back p.times.recalibrate.0 (omega arith),
      four_back p.times.start.0 (omega arith),
      four_back p.times.diagnostic.0 (omega arith),
      two_back p.times.offset.0 (omega arith),
    )

pub laid_read : (t : List ℕ) → Bytes t → length t ≡ trailer_length → zeros_b t ≡ true → one t 39 ≡ 1
    → trailer_of (profile_of t) (four t 40) ≡ t
unfolding profile_of
laid_read t small n z form =
    let e = zeros t z in
    simp (only_byte t small, first_of_two t small, last_byte t small, first_of_four t small, second_of_four t small, third_of_four t small)
    (rw (e.at_1, e.at_15, e.at_38, form) at (sym (as_listed t ∙ ap (λ (k : ℕ). listed k (λ i. get_or t i 0)) n)))
