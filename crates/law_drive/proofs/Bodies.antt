-- Each rule keeps the limits of a drive's fields.
use mathlib.Core.Path.{◌≡◌, refl}
use mathlib.Core.Bool.{Bool, true, false, ◌&&◌}
use Prim.Native.Nat.{ℕ, ◌-◌, ◌^◌, ◌≤◌, ◌<◌}
use native.Mathlib.Omega.{arith}
use lib.Dec.{ltb, leb, eqb}
use borrow.Author.Rules.{rules}
use borrow.Author.Tests.{ltb-false, leb-true, leb-false, not-true, eqb-false, le-leb, lt-ltb, ne_eqb}
use Rattle.counts.specs.declared.Head.{Head}
use Rattle.counts.specs.declared.Micros.{Micros}
use Rattle.counts.specs.Bytes.{bit}
use Rattle.std.specs.Prelude.{if◌then◌else◌}
use Rattle.counts.proofs.Tests.{both, join, each}
use Rattle.counts.proofs.Choice.{by_test}
use Rattle.pack_profile.specs.declared.Profile.{Profile}
use Rattle.pack_profile.specs.Valid.{field_tests, valid_b}
use Rattle.pack_profile.proofs.FieldRanges.{ranges}
use Rattle.drive_record.specs.declared.Body.{Body}
use Rattle.drive_record.specs.State.{starting, up, with_reading, with_writing, with_standing, fresh_body}
use Rattle.drive_record.specs.Faults.{latch_of, latch_bit, lose_position}
use Rattle.drive_rules.specs.Heads.{switched_of}
use Rattle.drive_rules.specs.Time.{motor_after, pass_body}
use Rattle.drive_record.specs.Limits.{arm_tests, timer_tests, motor_b, standing_b}
use Rattle.drive_record.proofs.WithinLimits.{Parts}
use Rattle.word_acts.proofs.ActLimits.{latch_keeps, latched_stands}

-- "2 latches bit 4, loses the position and ends reading"
abbrev pub lost_body : Body → Body
lost_body b = with_reading 0 (lose_position (latch_bit 4 b))

pub fresh_limits : (p : Profile) → valid_b p ≡ true → Parts p (fresh_body p)
unfolding valid_b
fresh_limits p v =
    let arm = lt-ltb 0 p.shape.cylinders.0 (ranges p v).cylinders.0 in
    let sector = (each (field_tests p) v).1.1.1.1.1.0 in
    search rules

-- a starting motor has time left, or is up
motor_passes : (m busy us : ℕ) (s r e : Bool) → eqb m starting ≡ s → ltb 0 busy ≡ r → leb busy us ≡ e → motor_b m busy ≡ true
    → motor_b (if s && r && e then up else m) (busy - us) ≡ true
motor_passes m busy us true true true s r e h = refl
motor_passes m busy us true true false s r e h =
    rw (s, (both (leb m up) _ h).0, ne_eqb (busy - us) 0 (λ (z : busy - us ≡ 0). omega (arith, leb-false busy us e)))
motor_passes m busy us true false e s r k h = absurd (omega (arith, ltb-false 0 busy r, eqb-false busy 0 (not-true _ (rw s at (both (leb m up) _ h).1))))
motor_passes m busy us false r e s k j h = rw (s, (both (leb m up) _ h).0)

module _ (p : Profile) (b : Body) (q : Parts p b) where
  pub reading_limits : (n : ℕ) → leb n 1 ≡ true → Parts p (with_reading n b)
  reading_limits n h = search rules

  pub writing_limits : (n : ℕ) → leb n 1 ≡ true → Parts p (with_writing n b)
  writing_limits n h = search rules

  standing_limits : (n : ℕ) → standing_b n b.latched ≡ true → Parts p (with_standing n b)
  standing_limits n h = search rules

  -- condition 4
  pub ended_limits : Parts p (with_standing 0 b)
  ended_limits = standing_limits 0 refl

  unknown_limits : Parts p (lose_position b)
  unknown_limits =
      let e = each (arm_tests p b.arm) q.arm in
      let arm = join _ _ (join _ _ e.0 e.1.0) refl in
      search rules

module _ (p : Profile) (b : Body) (q : Parts p b) where
  pub latch_limits : (k : ℕ) → 2 ^ k < 512 → bit (2 ^ k) 2 ≡ 0 → Parts p (latch_bit k b)
  latch_limits k small clear = latch_keeps p b (2 ^ k) small clear q

  -- the head lines' head, the head timer at the switch time
  pub switched_limits : valid_b p ≡ true → (h : Head) → h.0 ≤ 15 → Parts p (switched_of p h b)
  unfolding switched_of
  switched_limits v h most =
      let head = le-leb h.0 15 most in
      let busy = (each (timer_tests b.timers) q.timers).0 in
      let timers = join _ _ busy (le-leb p.times.switch.0 60_000 (ranges p v).switch) in
      by_test (Parts p) (ltb 15 p.times.switch.0) _ _
      (λ e. search rules)
      (λ e. search rules)

  -- condition 1
  pub begun_limits : Parts p (with_standing 1 (latch_bit 1 b))
  unfolding latch_of
  begun_limits = standing_limits p _ (latch_limits 1 (omega arith) refl) 1 (latched_stands b.latched.0)

  -- condition 2
  pub lost_limits : Parts p (lost_body b)
  lost_limits = reading_limits p _ (unknown_limits p _ (latch_limits 4 (omega arith) refl)) 0 refl

  pub pass_limits : (us : Micros) → Parts p (pass_body us b)
  unfolding pass_body motor_after
  pass_limits us =
      let t = each (timer_tests b.timers) q.timers in
      let busy = b.timers.busy.0 in
      let head = b.timers.head.0 in
      let shorter = le-leb (busy - us.0) 30_000_000 (omega (arith, leb-true busy 30_000_000 t.0)) in
      let timers = join _ _ shorter (le-leb (head - us.0) 60_000 (omega (arith, leb-true head 60_000 t.1.0))) in
      let motor = motor_passes b.motor busy us.0 _ _ _ refl refl refl q.motor in
      search rules

-- what a head change leaves: the new head, no reading, writing as it was
pub record Switched (h : Head) (b e : Body) : Type 0 where
  pub head : e.head ≡ h
  pub reading : e.reading ≡ 0
  pub writing : e.writing ≡ b.writing

pub switched_leaves : (p : Profile) (h : Head) (b : Body) → Switched h b (switched_of p h b)
unfolding switched_of
switched_leaves p h b = by_test (Switched h b) (ltb 15 p.times.switch.0) _ _ (λ e. search rules) (λ e. search rules)
