-- What each arm leaves is its stage's stretch.
use Rattle.std.proofs.Common.{rules, sym, arith}
use Rattle.std.proofs.Math.Seq.{length-take-le}
use Rattle.pack_lay.proofs.Staged.{may, spoil_written, medium_written, fields_written, distance_written}
use Rattle.pack_lay.proofs.stages.write.Goals as goal

pub overflow_cast-distance : goal.overflow_cast-distance
overflow_cast-distance c = omega (arith, (may _ _ c.requires).small)

pub bounds-buffer-medium : goal.bounds-buffer-medium
bounds-buffer-medium c = omega (arith, (may _ _ c.requires).fits)

pub slice_bounds-fill-end : goal.slice_bounds-fill-end
slice_bounds-fill-end c = omega (arith, (may _ _ c.requires).fits)

pub slice_bounds-fill-end-in-Medium : goal.slice_bounds-fill-end-in-Medium
slice_bounds-fill-end-in-Medium c = sym (length-take-le _ _ (omega (arith, (may _ _ c.requires).fits)))

pub slice_bounds-copy_from_slice-end : goal.slice_bounds-copy_from_slice-end
slice_bounds-copy_from_slice-end c = search (rules, (may _ _ c.requires).fits)

pub slice_bounds-copy_from_slice-end-in-Distance : goal.slice_bounds-copy_from_slice-end-in-Distance
slice_bounds-copy_from_slice-end-in-Distance c = search (rules, (may _ _ c.requires).fits)

pub returns-in-Spoil : goal.returns-in-Spoil
returns-in-Spoil c = rw c.in-Spoil.is (spoil_written _ _ _ c.medium-medium.ensures.is (may _ _ c.requires).fits)

pub returns-in-Medium : goal.returns-in-Medium
returns-in-Medium c = rw c.in-Medium.is (medium_written _ _ _ c.medium-medium.ensures.is (may _ _ c.requires).fits _ (c.fill.ensures.after (λ y h. h)))

pub returns-in-Fields : goal.returns-in-Fields
returns-in-Fields c = rw c.in-Fields.is (fields_written _ _ _ c.medium-medium.ensures.is (may _ _ c.requires).fits c.trailer-t.result (cc) _ c.copy_from_slice.ensures.after)

pub returns-in-Distance : goal.returns-in-Distance
returns-in-Distance c =
    rw c.in-Distance.is (distance_written _ _ _ c.medium-medium.ensures.is (may _ _ c.requires).fits c.trailer-t.result (cc) _ c.copy_from_slice-in-Distance.ensures.after)
