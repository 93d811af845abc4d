-- Setting busy, latching, and control 0 on the latched bits keep a body's limits.
use mathlib.Core.Path.{◌≡◌, refl, ap, ap₂, ◌∙◌}
use mathlib.Core.Bool.{Bool, true, false, ◌&&◌, ◌||◌, not}
use Prim.Native.Nat.{ℕ, zero, suc, ◌/◌, ◌%◌, ◌^◌, ◌≤◌, ◌<◌}
use native.Mathlib.Nat.{mod-lt}
use native.Mathlib.Omega.{arith}
use lib.Bits.{bit_and, bit_or, and_le_r, and_shr, and_mod, or_lt, or_shr, or_mod}
use lib.Dec.{leb, eqb}
use borrow.Author.Tests.{ltb-true, eqb-true, le-leb, lt-ltb, eq-eqb}
use Rattle.counts.specs.declared.Micros.{Micros}
use Rattle.counts.specs.Bytes.{bit}
use Rattle.std.specs.Prelude.{if◌then◌else◌}
use Rattle.counts.proofs.Choice.{by_test}
use Rattle.counts.proofs.Tests.{both, join}
use Rattle.pack_profile.specs.declared.Profile.{Profile}
use Rattle.drive_record.specs.declared.Arm.{Arm}
use Rattle.drive_record.specs.declared.Body.{Body}
use Rattle.drive_record.specs.State.{starting, up, with_arm, with_latched, with_motor}
use Rattle.drive_record.specs.Faults.{latch_of}
use Rattle.drive_record.specs.Limits.{arm_b, latched_b, motor_b, standing_b}
use Rattle.drive_record.proofs.WithinLimits.{Parts, stands_latched}
use Rattle.word_acts.specs.Acts.{busy_for, left_latched}

-- a motor that is starting has busy time left, whatever is set
motor_keeps : (m t : ℕ) (s z : Bool) → eqb m starting ≡ s → eqb t 0 ≡ z → leb m up ≡ true → motor_b (if s && z then up else m) t ≡ true
motor_keeps m t true true s z h = refl
motor_keeps m t true false s z h = rw (s, z, h)
motor_keeps m t false z s e h = rw (s, h)

-- busy is set within its limit, the arm and the motor within theirs
pub busy_keeps : (p : Profile) (b : Body) (arm : Arm) (m : ℕ) (t : Micros) → Parts p b → arm_b p arm ≡ true → leb m up ≡ true → t.0 ≤ 30_000_000
    → Parts p (busy_for t (with_motor m (with_arm arm b)))
unfolding busy_for
busy_keeps p b arm m t q a u h =
    let timers = join _ _ (le-leb t.0 30_000_000 h) (both (leb b.timers.busy.0 30_000_000) (leb b.timers.head.0 60_000) q.timers).1 in
    let motor = motor_keeps m t.0 (eqb m starting) (eqb t.0 0) refl refl u in
    search (timers, motor)

-- a bit of two numbers together is those of the two
or_bit : (a b k : ℕ) → bit (bit_or a b) k ≡ bit_or (bit a k) (bit b k)
or_bit a b k = ap (λ (n : ℕ). n % 2) (or_shr a b k) ∙ or_mod (a / 2 ^ k) (b / 2 ^ k) 1

and_bit : (a b k : ℕ) → bit (bit_and a b) k ≡ bit_and (bit a k) (bit b k)
and_bit a b k = ap (λ (n : ℕ). n % 2) (and_shr a b k) ∙ and_mod (a / 2 ^ k) (b / 2 ^ k) 1

with_one : (n : ℕ) → n < 2 → (bit_or 1 n ≡ 1) × (bit_or n 1 ≡ 1)
with_one zero h = (refl, refl)
with_one (suc zero) h = (refl, refl)
with_one (suc (suc n)) h = absurd (omega arith)

low : (n k : ℕ) → bit n k < 2
low n k = mod-lt (n / 2 ^ k) (omega arith)

-- bits that may be latched, added to such bits
or_latched : (l value : ℕ) → l < 512 → bit l 2 ≡ 0 → value < 512 → bit value 2 ≡ 0 → latched_b (record { 0 = bit_or l value }) ≡ true
or_latched l value small clear vsmall vclear =
    join _ _ (lt-ltb (bit_or l value) 512 (or_lt 9 l value small vsmall)) (eq-eqb (bit (bit_or l value) 2) 0 (or_bit l value 2 ∙ ap₂ bit_or clear vclear))

-- whatever is latched, bit 1 of a fault that stands stays
or_standing : (standing l value : ℕ) → standing_b standing (record { 0 = l }) ≡ true → standing_b standing (record { 0 = bit_or l value }) ≡ true
or_standing standing l value h =
    let e = both (leb standing 1) (not (eqb standing 1) || eqb (bit l 1) 1) h in
    join _ _ e.0 (tie (eqb standing 1) e.1)
  where
    tie : (one : Bool) → (not one || eqb (bit l 1) 1) ≡ true → (not one || eqb (bit (bit_or l value) 1) 1) ≡ true
    tie false t = refl
    tie true t = eq-eqb _ _ (or_bit l value 1 ∙ ap (λ (n : ℕ). bit_or n (bit value 1)) (eqb-true (bit l 1) 1 t) ∙ (with_one (bit value 1) (low value 1)).0)

pub latch_keeps : (p : Profile) (b : Body) (value : ℕ) → value < 512 → bit value 2 ≡ 0 → Parts p b → Parts p (latch_of value b)
unfolding latch_of
latch_keeps p b value small clear q =
    let l = both _ _ q.latched in
    search (
      or_latched b.latched.0 value (ltb-true _ _ l.0) (eqb-true _ _ l.1) small clear,
      or_standing b.standing b.latched.0 value q.standing,
    )

-- bit 1 latched, a fault may stand
pub latched_stands : (l : ℕ) → standing_b 1 (record { 0 = bit_or l 2 }) ≡ true
latched_stands l = eq-eqb (bit (bit_or l 2) 1) 1 (or_bit l 2 1 ∙ (with_one (bit l 1) (low l 1)).1)

module _ (p : Profile) (b : Body) (q : Parts p b) where
  left_latched_lem : latched_b (left_latched b) ≡ true
  unfolding left_latched
  left_latched_lem =
      by_test (λ (n : ℕ). latched_b (record { 0 = n }) ≡ true) (eqb b.standing 1) _ _
      (λ _. least (bit_and b.latched.0 2) (and_le_r b.latched.0 2))
      (λ _. refl)
    where
      least : (n : ℕ) → n ≤ 2 → latched_b (record { 0 = n }) ≡ true
      least n h = join _ _ (lt-ltb n 512 (omega arith)) (eq-eqb (bit n 2) 0 (omega arith))

  left_tied : standing_b b.standing (left_latched b) ≡ true
  unfolding left_latched
  left_tied =
      by_test (λ (n : ℕ). standing_b b.standing (record { 0 = n }) ≡ true) (eqb b.standing 1) _ _
      (λ one. join _ _ most (rw one (eq-eqb _ _ (and_bit b.latched.0 2 1 ∙ ap (λ (n : ℕ). bit_and n 1) (stands_latched p b q (eqb-true _ _ one))))))
      (λ none. join _ _ most (rw none))
    where
      most : leb b.standing 1 ≡ true
      most = (both (leb b.standing 1) _ q.standing).0

  -- bit 1 alone is left of a fault that stands
  pub left_bit : b.standing ≡ 1 → (left_latched b).0 ≡ 2
  unfolding left_latched
  left_bit one =
      let is : bit (bit_and b.latched.0 2) 1 ≡ 1 = and_bit b.latched.0 2 1 ∙ ap (λ (n : ℕ). bit_and n 1) (stands_latched p b q one) in
      rw (eq-eqb b.standing 1 one) (omega (arith, is, and_le_r b.latched.0 2))

  -- control 0
  pub clear_keeps : Parts p (with_latched (left_latched b) b)
  clear_keeps = search (left_latched_lem, left_tied)
