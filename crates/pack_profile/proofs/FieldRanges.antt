-- What the tests of a profile give as facts.
use mathlib.Core.Path.{◌≡◌}
use mathlib.Core.Bool.{Bool, true, false}
use Prim.Native.Nat.{ℕ, ◌≤◌, ◌<◌}
use native.Mathlib.Omega.{arith}
use borrow.Author.Tests.{leb-true, ltb-true, eqb-true}
use Rattle.counts.proofs.Tests.{each, within_both}
use Rattle.pack_profile.specs.declared.Profile.{Profile}
use Rattle.pack_profile.specs.General.{soft, general_tests}
use Rattle.pack_profile.specs.Valid.{sector_ok, field_tests, valid_b}

-- a valid profile's fields keep their ranges
pub record Ranges (p : Profile) : Type 0 where
  pub slot : (1 ≤ p.slot) × (p.slot ≤ 7)
  pub general : p.general < 32_768
  pub cylinders : (1 ≤ p.shape.cylinders.0) × (p.shape.cylinders.0 ≤ 4096)
  pub heads : (1 ≤ p.shape.heads.0) × (p.shape.heads.0 ≤ 16)
  pub track : (4095 ≤ p.shape.track.0) × (p.shape.track.0 ≤ 40_960)
  pub sector : p.shape.sector.0 ≤ 4095
  pub protected : p.protected ≤ 1
  pub settle : p.times.settle.0 ≤ 60_000
  pub step : p.times.step.0 ≤ 1000
  pub switch : p.times.switch.0 ≤ 60_000
  pub recalibrate : p.times.recalibrate.0 ≤ 30_000_000
  pub start : p.times.start.0 ≤ 30_000_000
  pub diagnostic : p.times.diagnostic.0 ≤ 30_000_000
  pub offset : p.times.offset.0 ≤ 60_000

sector_most : (s : Bool) (n : ℕ) → sector_ok s n ≡ true → n ≤ 4095
sector_most true n h = omega (arith, eqb-true n 0 h)
sector_most false n h = (within_both 162 4095 n h).1

pub ranges : (p : Profile) → valid_b p ≡ true → Ranges p
unfolding valid_b
ranges p v =
    let e = each (field_tests p) v in
    let t = e.1.1.1.1.1.1 in
    record {
      slot = within_both 1 7 p.slot e.0;
      general = ltb-true _ _ (each (general_tests p.general p.times.switch.0) e.1.0).0;
      cylinders = within_both 1 4096 p.shape.cylinders.0 e.1.1.0;
      heads = within_both 1 16 p.shape.heads.0 e.1.1.1.0;
      track = within_both 4095 40_960 p.shape.track.0 e.1.1.1.1.0;
      sector = sector_most (soft p.general) p.shape.sector.0 e.1.1.1.1.1.0;
      protected = leb-true _ _ t.0;
      settle = leb-true _ _ t.1.0;
      step = leb-true _ _ t.1.1.0;
      switch = leb-true _ _ t.1.1.1.0;
      recalibrate = leb-true _ _ t.1.1.1.1.0;
      start = leb-true _ _ t.1.1.1.1.1.0;
      diagnostic = leb-true _ _ t.1.1.1.1.1.1.0;
      offset = leb-true _ _ t.1.1.1.1.1.1.1.0;
    }
