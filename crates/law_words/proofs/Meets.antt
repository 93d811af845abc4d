-- A drive, taken as a unit, meets edges and waits as a unit does.
use Prim.Native.Nat.{ℕ, ◌+◌}
use mathlib.Core.Path.{◌≡◌, refl, ap}
use mathlib.Core.Bool.{Bool, true, false}
use lib.Dec.{eqb}
use Rattle.std.specs.Prelude.{if◌then◌else◌, Option, Some, None}
use Rattle.pack_profile.specs.declared.Profile.{Profile}
use Rattle.handshake.specs.declared.Transfer.{Transfer}
use Rattle.handshake.specs.declared.Fallen.{Fallen}
use Rattle.handshake.specs.declared.Fallen.TheVariants as fallen
use Rattle.handshake.specs.Transfer.{open_b}
use Rattle.handshake.specs.Edges.{rise_of, fall_of, late_b, wait_of}
use Rattle.pack_read.specs.declared.Pack.{Pack}
use Rattle.drive_record.specs.declared.Body.{Body}
use Rattle.drive_record.specs.declared.State.{State}
use Rattle.drive_record.specs.State.{state_of}
use Rattle.drive_record.specs.Status.{calm_b}
use Rattle.drive_record.specs.Faults.{held_of}
use Rattle.drive_rules.specs.Time as time
use Rattle.word_rules.specs.Rules.{carry_of}
use Rattle.lines.specs.declared.Lines.{Lines}
use Rattle.drive_cable.specs.Request as unit
use Rattle.event.specs.declared.Answer.TheVariants.{Taken, Fault}
use Rattle.event.specs.Answer.{answer_number}
use Rattle.chain_decision.specs.Decision.{outcome_answer}
use Rattle.chain_apply.specs.Apply.{pass_slot}
use Rattle.law_drive.proofs.DriveTime.{pass_pass}
use Rattle.law_exchange.specs.Unit.{Met, Wired, unit_after_word, unit_held, unit_fall, unit_risen, unit_fallen, unit_passed}
use Rattle.law_words.specs.Drive.{drive}
use Rattle.law_words.proofs.DriveLaws.{carry_answer}

-- the unit's state as the drive's
abbrev pub stood : Met Body → State
stood m = state_of m.body m.transfer

after_told : (t : Option ℕ) → unit.after_word t ≡ unit_after_word t
after_told None = refl
after_told (Some r) = refl

module _ (p : Profile) (b : Body) where
  held_state : (e : Option Transfer) → (held_of b e).state ≡ stood (unit_held (drive p) b e)
  held_state (Some t) = refl
  held_state None = refl

  held_answer : (e : Option Transfer) → answer_number (outcome_answer (held_of b e).outcome) ≡ (unit_held (drive p) b e).answer
  held_answer (Some t) = refl
  held_answer None = refl

  fallen_state : (e : Fallen) → (unit.fallen_of p b e).state ≡ stood (unit_fall (drive p) b e)
  fallen_state (fallen.Keep t) = refl
  fallen_state (fallen.Carry n) = ap (state_of (carry_of p b n).body) (after_told (carry_of p b n).told)

  fallen_answer : (e : Fallen) → answer_number (outcome_answer (unit.fallen_of p b e).outcome) ≡ (unit_fall (drive p) b e).answer
  fallen_answer (fallen.Keep t) = refl
  fallen_answer (fallen.Carry n) = carry_answer p b n

module _ (p : Profile) (u : Wired Body) where
  abbrev state : State
  state = state_of u.body u.transfer

  module _ (l : Lines) (off : unit.gated_b l ≡ false) (same : l.command ≡ u.command) where
    pub rise_state : (unit.request_rises l state).state ≡ stood (unit_risen (drive p) u)
    unfolding unit.request_rises
    rise_state = rw (off, same) (held_state p u.body (rise_of false (calm_b u.body) u.command u.transfer))

    pub rise_answer : answer_number (outcome_answer (unit.request_rises l state).outcome) ≡ (unit_risen (drive p) u).answer
    unfolding unit.request_rises
    rise_answer = rw (off, same) (held_answer p u.body (rise_of false (calm_b u.body) u.command u.transfer))

  pub fall_state : (unit.request_falls p state).state ≡ stood (unit_fallen (drive p) u)
  unfolding unit.request_falls
  fall_state = fallen_state p u.body (fall_of u.transfer)

  pub fall_answer : answer_number (outcome_answer (unit.request_falls p state).outcome) ≡ (unit_fallen (drive p) u).answer
  unfolding unit.request_falls
  fall_answer = fallen_answer p u.body (fall_of u.transfer)

  module _ (us : ℕ) where
    pub pass_state : (time.pass_drive (record { 0 = us }) state).state ≡ stood (unit_passed (drive p) us u)
    unfolding time.pass_drive
    pass_state = held_state p (time.pass_body (record { 0 = us }) u.body) (wait_of (record { 0 = us }) u.transfer)

    pub pass_answer : answer_number (if late_b (record { 0 = us }) u.transfer then Fault else Taken) ≡ (unit_passed (drive p) us u).answer
    unfolding wait_of
    pass_answer = by (late_b (record { 0 = us }) u.transfer) (open_b u.transfer) _ _
      where
        by : (late runs : Bool) (aged same : Transfer)
            → answer_number (if late then Fault else Taken)
            ≡ (unit_held (drive p) (time.pass_body (record { 0 = us }) u.body) (if late then None else (if runs then Some aged else Some same))).answer
        by true runs aged same = refl
        by false true aged same = refl
        by false false aged same = refl

-- time in two parts on a slot, fitted or not
slot_twice : (s t : ℕ) (d : State) (fitted : Bool)
    → (if fitted then (time.pass_drive (record { 0 = t }) (if fitted then (time.pass_drive (record { 0 = s }) d).state else d)).state
    else (if fitted then (time.pass_drive (record { 0 = s }) d).state else d))
    ≡ (if fitted then (time.pass_drive (record { 0 = s + t }) d).state else d)
slot_twice s t d true = pass_pass (record { 0 = s }) (record { 0 = t }) d
slot_twice s t d false = refl

pub slot_pass_pass : (s t : ℕ) (p : Pack) (d : State)
    → pass_slot (record { 0 = t }) p (pass_slot (record { 0 = s }) p d) ≡ pass_slot (record { 0 = s + t }) p d
unfolding pass_slot
slot_pass_pass s t p d = slot_twice s t d (eqb p.fitted 1)
