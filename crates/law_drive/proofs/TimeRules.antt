-- Time keeps a sound drive sound.
use Rattle.handshake.specs.declared.Transfer.{Transfer}
use Rattle.std.specs.Prelude.{Option}
use mathlib.Core.Path.{◌≡◌, refl}
use mathlib.Core.Bool.{Bool, true, false}
use Prim.Native.Nat.{◌≤◌}
use native.Mathlib.Omega.{arith}
use lib.Dec.{eqb}
use borrow.Author.Tests.{eqb-false, not-true}
use Rattle.counts.specs.declared.Micros.{Micros}
use Rattle.counts.proofs.Tests.{both}
use Rattle.counts.proofs.Choice.{by_test}
use Rattle.pack_profile.specs.declared.Profile.{Profile}
use Rattle.pack_profile.specs.Valid.{valid_b}
use Rattle.handshake.specs.Transfer.{patience, no_transfer, open_b}
use Rattle.handshake.specs.Edges.{aged_by, late_b, wait_of}
use Rattle.handshake.specs.SoundTransfer.{idle_b}
use Rattle.handshake.proofs.Patience.{not_late}
use Rattle.drive_record.specs.declared.State.{State}
use Rattle.drive_record.specs.State.{state_of}
use Rattle.drive_record.specs.Status.{complete_b}
use Rattle.drive_rules.specs.Time.{pass_body, pass_drive}
use Rattle.drive_record.specs.Faults.{latch_of, dropped_of, held_of}
use Rattle.drive_record.proofs.WithinLimits.{parts, whole}
use Rattle.lines.specs.declared.Lines.{Lines}
use Rattle.drive_cable.specs.SoundDrive.{drive_sound_b}
use Rattle.drive_cable.proofs.OnCable.{selected}
use Rattle.law_drive.proofs.SoundDrives.{Unselected, unselected, from_unselected, sound_parts}
use Rattle.law_drive.proofs.Gates.{not_complete, neither}
use Rattle.law_drive.proofs.OpenTransfers.{none_left, left_waiting}
use Rattle.law_drive.proofs.Transfers.{aged_left}
use Rattle.law_drive.proofs.DriveTime.{complete_stays, pass_closed, no_time, pass_zero}
use Rattle.law_drive.proofs.Bodies.{latch_limits, pass_limits}

module _ (p : Profile) (v : valid_b p ≡ true) (l : Lines) (s : State) where
  -- a drive that is not complete neither reads nor writes
  waits_sound : (us : Micros) → complete_b s ≡ false → drive_sound_b p l true s ≡ true → drive_sound_b p l true (pass_drive us s).state ≡ true
  unfolding pass_drive wait_of pass_body latch_of
  waits_sound us busy sound =
      let f = selected p l s sound in
      let q = pass_limits p s.body (sound_parts p l true s sound) us in
      let n = not_complete p l s f busy in
      let b = pass_body us s.body in
      let or = by_test (λ (e : Option Transfer). drive_sound_b p l true (held_of b e).state ≡ true) in
      or (late_b us s.transfer) _ _
      (λ late. neither p l (dropped_of b) (latch_limits p b q 6 (omega arith) refl) f.head (none_left l.request no_transfer refl) refl n.1)
      λ short.
      or (open_b s.transfer) _ _
      (λ some.
      let left = aged_left us l.request s.transfer (eqb-false _ _ (not-true _ some)) (not_late us s.transfer short some) f.left in
      neither p l (state_of b (aged_by us s.transfer)) q f.head left n.0 n.1)
      λ none. neither p l (state_of b s.transfer) q f.head f.left n.0 n.1

  -- a drive that has no transfer
  rests_sound : (us : Micros) → Unselected p s → drive_sound_b p l false (state_of (pass_body us s.body) s.transfer) ≡ true
  unfolding pass_body
  rests_sound us u =
      from_unselected p l _ (record {
        limits = whole p _ (pass_limits p s.body (parts p s.body u.limits) us);
        none = u.none;
        writing = u.writing;
        reading = u.reading;
      })

  pub pass_keeps : (us : Micros) (on : Bool) → drive_sound_b p l on s ≡ true → drive_sound_b p l on (pass_drive us s).state ≡ true
  pass_keeps us true sound = cases (complete_b s) refl
    where
      cases : (c : Bool) → complete_b s ≡ c → drive_sound_b p l true (pass_drive us s).state ≡ true
      cases true c = rw (complete_stays us s c) sound
      cases false c = waits_sound us c sound
  pass_keeps us false sound =
      let u = unselected p l s sound in
      rw (pass_closed us s (both (eqb s.transfer.way 0) (idle_b s.transfer) u.none).0) (rests_sound us u)

-- 0 microseconds change nothing: no transfer of a sound drive has waited too long
pub sound_waiting : (p : Profile) (l : Lines) (on : Bool) (s : State) → drive_sound_b p l on s ≡ true → s.transfer.waiting.0 ≤ patience
sound_waiting p l true s sound = left_waiting l.request s.transfer (selected p l s sound).left
sound_waiting p l false s sound = left_waiting l.request s.transfer (none_left l.request s.transfer (unselected p l s sound).none)

pub zero_stays : (p : Profile) (l : Lines) (on : Bool) (s : State) → drive_sound_b p l on s ≡ true → (pass_drive no_time s).state ≡ s
zero_stays p l on s sound = pass_zero s (sound_waiting p l on s sound)
