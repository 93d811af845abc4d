-- Time on one drive: how it splits, when it changes nothing, and when a drive is complete after it.
use mathlib.Core.Path.{◌≡◌, refl, sym, ap, ap₂, ◌∙◌}
use mathlib.Core.Bool.{Bool, true, false, ◌&&◌, not}
use Prim.Native.Nat.{ℕ, ◌+◌, ◌-◌, ◌≤◌, ◌<◌}
use native.Mathlib.Nat.{add-zero, add_assoc, sub-zero}
use native.Mathlib.Omega.{arith}
use lib.Dec.{ltb, leb, eqb}
use borrow.Author.Tests.{ltb-true, ltb-false, leb-true, leb-false, eqb-true, le-leb, lt-leb, lt-ltb, le-ltb, eq-eqb, not-false}
use Rattle.counts.specs.declared.Micros.{Micros}
use Rattle.std.specs.Prelude.{if◌then◌else◌, Some, None}
use Rattle.counts.proofs.Tests.{both}
use Rattle.handshake.specs.declared.Transfer.{Transfer}
use Rattle.handshake.specs.Transfer.{patience, no_transfer, open_b}
use Rattle.handshake.specs.Edges.{aged_by, late_b, wait_of}
use Rattle.drive_record.specs.declared.Body.{Body}
use Rattle.drive_record.specs.declared.State.{State}
use Rattle.drive_record.specs.declared.Outcome.TheVariants.{Done, Fault}
use Rattle.drive_record.specs.State.{starting, up, state_of}
use Rattle.drive_record.specs.Status.{calm_b, complete_b}
use Rattle.drive_rules.specs.Time.{less_of, motor_after, pass_body, pass_drive}
use Rattle.drive_record.specs.Faults.{latch_of, dropped_of, held_of}

-- the motor comes up exactly where it is starting and its time, if any is left, runs out
motor_same : (motor : ℕ) (busy us : Micros) → eqb motor starting ≡ false → motor_after motor busy us ≡ motor
unfolding motor_after
motor_same motor busy us h = rw h

motor_rests : (motor : ℕ) (busy us : Micros) → busy.0 ≡ 0 → motor_after motor busy us ≡ motor
unfolding motor_after
motor_rests motor busy us h = rw h (idle (eqb motor starting))
  where
    idle : (s : Bool) → (if s && false && leb 0 us.0 then up else motor) ≡ motor
    idle true = refl
    idle false = refl

motor_waits : (motor : ℕ) (busy us : Micros) → us.0 < busy.0 → motor_after motor busy us ≡ motor
unfolding motor_after
motor_waits motor busy us h = rw (lt-leb busy.0 us.0 h) (late (eqb motor starting) (ltb 0 busy.0))
  where
    late : (s r : Bool) → (if s && r && false then up else motor) ≡ motor
    late true true = refl
    late true false = refl
    late false r = refl

motor_up : (motor : ℕ) (busy us : Micros) → eqb motor starting ≡ true → 0 < busy.0 → busy.0 ≤ us.0 → motor_after motor busy us ≡ up
unfolding motor_after
motor_up motor busy us s some h = rw (s, lt-ltb 0 busy.0 some, le-leb busy.0 us.0 h)

-- "to 0 at least": a drive whose timers are 0 stays as it is
pub calm_stays : (us : Micros) (b : Body) → calm_b b ≡ true → pass_body us b ≡ b
unfolding pass_body
calm_stays us b h =
    let e = both (eqb b.timers.busy.0 0) (eqb b.timers.head.0 0) h in
    let busy : b.timers.busy.0 ≡ 0 = eqb-true _ _ e.0 in
    let head : b.timers.head.0 ≡ 0 = eqb-true _ _ e.1 in
    let lessBusy : b.timers.busy.0 - us.0 ≡ b.timers.busy.0 = omega arith in
    let lessHead : b.timers.head.0 - us.0 ≡ b.timers.head.0 = omega arith in
    rw (motor_rests b.motor b.timers.busy us busy, lessBusy, lessHead)

-- a drive that is complete stays as it is
pub complete_stays : (us : Micros) (s : State) → complete_b s ≡ true → (pass_drive us s).state ≡ s
unfolding pass_drive wait_of late_b complete_b
complete_stays us s h =
    let e = both (not (open_b s.transfer)) (calm_b s.body) h in
    rw (calm_stays us s.body e.1, closed (eqb s.transfer.way 0) e.0)
  where
    closed : (z : Bool) → not (not z) ≡ true → z ≡ true
    closed true k = refl
    closed false k = k

-- a drive with no transfer open, both timers run out, is complete
pub complete_after : (us : Micros) (s : State) → open_b s.transfer ≡ false → s.body.timers.busy.0 ≤ us.0 → s.body.timers.head.0 ≤ us.0
    → complete_b (pass_drive us s).state ≡ true
unfolding pass_drive wait_of late_b pass_body complete_b
complete_after us s h busy head =
    let z : eqb s.transfer.way 0 ≡ true = not-false _ h in
    rw (z, z, eq-eqb (s.body.timers.busy.0 - us.0) 0 (omega arith), eq-eqb (s.body.timers.head.0 - us.0) 0 (omega arith))

abbrev pub plus_of : Micros → Micros → Micros
plus_of a b = record { 0 = a.0 + b.0 }

-- a starting motor comes up in the one part or in the other
motor_twice : (m : ℕ) (busy a b : Micros) → motor_after (motor_after m busy a) (less_of busy a) b ≡ motor_after m busy (plus_of a b)
motor_twice m busy a b =
    cases (eqb m starting) (ltb 0 busy.0) (leb busy.0 a.0) (leb busy.0 (a.0 + b.0)) refl refl refl refl
  where
    cases : (s r e k : Bool) → eqb m starting ≡ s → ltb 0 busy.0 ≡ r → leb busy.0 a.0 ≡ e → leb busy.0 (a.0 + b.0) ≡ k
        → motor_after (motor_after m busy a) (less_of busy a) b ≡ motor_after m busy (plus_of a b)
    cases false r e k s _ _ _ = rw (motor_same m busy a s) (motor_same m (less_of busy a) b s ∙ sym (motor_same m busy (plus_of a b) s))
    cases true false e k s r _ _ =
        let z : busy.0 ≡ 0 = omega (arith, ltb-false 0 busy.0 r) in
        rw (motor_rests m busy a z) (motor_rests m (less_of busy a) b (omega arith) ∙ sym (motor_rests m busy (plus_of a b) z))
    cases true true true k s r e _ =
        let some = ltb-true 0 busy.0 r in
        let h = leb-true busy.0 a.0 e in
        rw (motor_up m busy a s some h) (motor_same up (less_of busy a) b refl ∙ sym (motor_up m busy (plus_of a b) s some (omega arith)))
    cases true true false true s r e k =
        let late = leb-false busy.0 a.0 e in
        let h = leb-true busy.0 (a.0 + b.0) k in
        rw (motor_waits m busy a late) (motor_up m (less_of busy a) b s (omega arith) (omega arith) ∙ sym (motor_up m busy (plus_of a b) s (omega arith) h))
    cases true true false false s r e k =
        let late = leb-false busy.0 a.0 e in
        let later = leb-false busy.0 (a.0 + b.0) k in
        rw (motor_waits m busy a late) (motor_waits m (less_of busy a) b (omega arith) ∙ sym (motor_waits m busy (plus_of a b) later))

pub body_twice : (a b : Micros) (d : Body) → pass_body b (pass_body a d) ≡ pass_body (plus_of a b) d
unfolding pass_body
body_twice a b d =
    let busy : d.timers.busy.0 - a.0 - b.0 ≡ d.timers.busy.0 - (a.0 + b.0) = omega arith in
    let head : d.timers.head.0 - a.0 - b.0 ≡ d.timers.head.0 - (a.0 + b.0) = omega arith in
    rw (motor_twice d.motor d.timers.busy a b, busy, head)

latch_later : (us : Micros) (value : ℕ) (d : Body) → pass_body us (latch_of value d) ≡ latch_of value (pass_body us d)
unfolding pass_body latch_of
latch_later us value d = refl

-- what time does to a transfer, case by case
closed_waits : (us : Micros) (t : Transfer) → eqb t.way 0 ≡ true → wait_of us t ≡ Some t
unfolding wait_of late_b
closed_waits us t z = rw z

late_drops : (us : Micros) (t : Transfer) → eqb t.way 0 ≡ false → patience < t.waiting.0 + us.0 → wait_of us t ≡ None
unfolding wait_of late_b
late_drops us t z h = rw (z, lt-ltb patience (t.waiting.0 + us.0) h)

open_waits : (us : Micros) (t : Transfer) → eqb t.way 0 ≡ false → t.waiting.0 + us.0 ≤ patience → wait_of us t ≡ Some (aged_by us t)
unfolding wait_of late_b
open_waits us t z h = rw (z, le-ltb patience (t.waiting.0 + us.0) h)

module _ (us : Micros) (s : State) where
  pub pass_closed : eqb s.transfer.way 0 ≡ true → (pass_drive us s).state ≡ state_of (pass_body us s.body) s.transfer
  unfolding pass_drive
  pass_closed z = rw (closed_waits us s.transfer z)

  pub pass_late : eqb s.transfer.way 0 ≡ false → patience < s.transfer.waiting.0 + us.0 → (pass_drive us s).state ≡ dropped_of (pass_body us s.body)
  unfolding pass_drive
  pass_late z h = rw (late_drops us s.transfer z h)

  pub pass_open : eqb s.transfer.way 0 ≡ false → s.transfer.waiting.0 + us.0 ≤ patience
      → (pass_drive us s).state ≡ state_of (pass_body us s.body) (aged_by us s.transfer)
  unfolding pass_drive
  pass_open z h = rw (open_waits us s.transfer z h)

-- time is a fault on a drive exactly where its transfer is late
pub pass_outcome : (us : Micros) (s : State) → (pass_drive us s).outcome ≡ (if late_b us s.transfer then Fault else Done)
unfolding pass_drive wait_of
pass_outcome us s = by (late_b us s.transfer) (open_b s.transfer)
  where
    by : (late runs : Bool)
        → (held_of (pass_body us s.body) (if late then None else (if runs then Some (aged_by us s.transfer) else Some s.transfer))).outcome
        ≡ (if late then Fault else Done)
    by true runs = refl
    by false true = refl
    by false false = refl

aged_twice : (a b : Micros) (t : Transfer) → aged_by b (aged_by a t) ≡ aged_by (plus_of a b) t
aged_twice a b t = rw (add_assoc t.waiting.0 a.0 b.0)

module _ (a b : Micros) (s : State) where
  abbrev t : Transfer
  t = s.transfer

  twice : (z e k : Bool) → eqb t.way 0 ≡ z → ltb patience (t.waiting.0 + a.0) ≡ e → ltb patience (t.waiting.0 + (a.0 + b.0)) ≡ k
      → (pass_drive b (pass_drive a s).state).state ≡ (pass_drive (plus_of a b) s).state
  twice true e k z _ _ =
      rw (pass_closed a s z)
      (pass_closed b _ z ∙ ap (λ (d : Body). state_of d t) (body_twice a b s.body) ∙ sym (pass_closed (plus_of a b) s z))
  twice false true k z e _ =
      let late = ltb-true patience (t.waiting.0 + a.0) e in
      rw (pass_late a s z late)
      (pass_closed b _ refl
      ∙ ap (λ (d : Body). state_of d no_transfer) (latch_later b 64 _ ∙ ap (latch_of 64) (body_twice a b s.body))
      ∙ sym (pass_late (plus_of a b) s z (omega arith)))
  twice false false true z e k =
      let short = ltb-false patience (t.waiting.0 + a.0) e in
      let late = ltb-true patience (t.waiting.0 + (a.0 + b.0)) k in
      rw (pass_open a s z short) (pass_late b _ z (omega arith) ∙ ap dropped_of (body_twice a b s.body) ∙ sym (pass_late (plus_of a b) s z late))
  twice false false false z e k =
      let short = ltb-false patience (t.waiting.0 + a.0) e in
      let whole = ltb-false patience (t.waiting.0 + (a.0 + b.0)) k in
      rw (pass_open a s z short)
      (pass_open b _ z (omega arith) ∙ ap₂ state_of (body_twice a b s.body) (aged_twice a b t) ∙ sym (pass_open (plus_of a b) s z whole))

  -- time in two parts is the time at once
  pub pass_pass : (pass_drive b (pass_drive a s).state).state ≡ (pass_drive (plus_of a b) s).state
  pass_pass = twice (eqb t.way 0) (ltb patience (t.waiting.0 + a.0)) (ltb patience (t.waiting.0 + (a.0 + b.0))) refl refl refl

abbrev pub no_time : Micros
no_time = record { 0 = 0 }

motor_zero : (motor : ℕ) (busy : Micros) (r : Bool) → ltb 0 busy.0 ≡ r → motor_after motor busy no_time ≡ motor
motor_zero motor busy true r = motor_waits motor busy no_time (ltb-true 0 busy.0 r)
motor_zero motor busy false r = motor_rests motor busy no_time (omega (arith, ltb-false 0 busy.0 r))

pub body_zero : (d : Body) → pass_body no_time d ≡ d
unfolding pass_body
body_zero d = rw (motor_zero d.motor d.timers.busy _ refl, sub-zero d.timers.busy.0, sub-zero d.timers.head.0)

-- 0 microseconds change nothing where no open transfer has waited too long
pub pass_zero : (s : State) → s.transfer.waiting.0 ≤ patience → (pass_drive no_time s).state ≡ s
pass_zero s h = cases (eqb s.transfer.way 0) refl
  where
    cases : (z : Bool) → eqb s.transfer.way 0 ≡ z → (pass_drive no_time s).state ≡ s
    cases true z = pass_closed no_time s z ∙ ap (λ (d : Body). state_of d s.transfer) (body_zero s.body)
    cases false z = pass_open no_time s z (omega arith) ∙ ap₂ state_of (body_zero s.body) (rw add-zero)
