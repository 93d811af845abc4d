-- A pack that is found is whole: it has a slot, and the file in front of it is shorter.
use Rattle.std.proofs.Common.{◌≡◌, ◌<◌, Ok, ℕ, length, take, sym, ◌∙◌, arith}
use Rattle.std.proofs.Math.Seq.{length-take-le}
use Rattle.pack_profile.proofs.FieldRanges.{ranges}
use Rattle.pack_read.specs.Read.{last_pack}
use Rattle.pack_read.proofs.Back.{good, reads_whole, reads_pack, was_ok, reads_error}
use Rattle.pack_read.proofs.read.+read_back.Goals as goal
use Rattle.pack_read.proofs.read.+read_back.Goals.{In_ok-place}

pub returns-then-n-eq0 : goal.returns-then-n-eq0
returns-then-n-eq0 t c = reads_whole _ _ _ c.if-n-eq0.true

is_pack : (t : ℕ) (c : In_ok-place t) → last_pack c.args.file.now c.args.limit ≡ Ok (c.in_ok-place.place, c.in_ok-place.profile)
is_pack t c = sym c.last_pack.ensures ∙ was_ok _ _ _ c.map_err.ensures.cases c.in_ok-place.was

pub returns-in_err-place : goal.returns-in_err-place
returns-in_err-place t c = reads_error _ _ _ c.if-n-eq0.false _ _ _ c.last_pack.ensures c.map_err.ensures.cases c.in_err-place.was c.from_residual.ensures.1 (λ why d h. search h)

shorter : (t : ℕ) (c : In_ok-place t) → (c.in_ok-place.place.0 < length c.args.file.now) × (length (take c.in_ok-place.place.0 c.args.file.now) ≡ c.in_ok-place.place.0)
shorter t c =
    let g = good _ _ _ _ (is_pack t c) in
    let h : c.in_ok-place.place.0 < length c.args.file.now = omega arith in
    (h, length-take-le c.in_ok-place.place.0 c.args.file.now (omega arith))

pub stored-next-requires : goal.stored-next-requires
stored-next-requires t c = (ranges _ (good _ _ _ _ (is_pack t (goal.at.stored-next-requires t c).In_ok-place)).valid).slot

pub slice_bounds-read_back-end : goal.slice_bounds-read_back-end
slice_bounds-read_back-end t c = sym (shorter t (goal.at.slice_bounds-read_back-end t c).In_ok-place).1

pub read_back-requires : goal.read_back-requires
read_back-requires t c =
    let s = shorter t (goal.at.read_back-requires t c).In_ok-place in
    (omega (arith, s.0, s.1, c.decreases), omega (arith, s.0, s.1, c.requires))

pub returns : goal.returns
returns t c =
    let a = (goal.at.returns t c).In_ok-place in
    reads_pack _ _ _ _ _ _ (is_pack t a) (shorter t a).0 (rw c.stored-next.ensures at c.read_back.ensures)
