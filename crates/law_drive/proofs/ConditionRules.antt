-- The conditions of kind 8 keep a sound drive sound.
use mathlib.Core.Path.{◌≡◌, refl}
use mathlib.Core.Bool.{Bool, true, false}
use Prim.Native.Nat.{ℕ, ◌^◌, ◌<◌}
use native.Mathlib.Omega.{arith}
use lib.Dec.{eqb}
use Rattle.counts.specs.Bytes.{bit}
use Rattle.counts.proofs.Choice.{by_test}
use Rattle.pack_profile.specs.declared.Profile.{Profile}
use Rattle.pack_profile.specs.Valid.{valid_b}
use Rattle.drive_record.specs.declared.Body.{Body}
use Rattle.drive_record.specs.declared.State.{State}
use Rattle.drive_record.specs.State.{with_standing, state_of}
use Rattle.drive_record.specs.Faults.{latch_of, latch_bit, condition_of}
use Rattle.drive_record.specs.Status.{complete_b}
use Rattle.drive_gates.specs.Gates.{usable_b}
use Rattle.drive_record.proofs.WithinLimits.{Parts, whole}
use Rattle.drive_gates.proofs.MayReadOrWrite.{usable}
use Rattle.lines.specs.declared.Lines.{Lines}
use Rattle.drive_cable.specs.SoundDrive.{writing_b, reading_b, drive_sound_b}
use Rattle.drive_cable.proofs.OnCable.{selected}
use Rattle.law_drive.proofs.SoundDrives.{from_selected, unselected, from_unselected, sound_parts}
use Rattle.law_drive.proofs.Gates.{not_writing, still_reads, neither}
use Rattle.law_drive.proofs.Bodies.{latch_limits, begun_limits, ended_limits, lost_body, lost_limits}

module _ (p : Profile) (v : valid_b p ≡ true) (l : Lines) (s : State) where
  -- a bit latched: writing ends, reading goes on
  pub latched_sound : (on : Bool) (k : ℕ) → 2 ^ k < 512 → bit (2 ^ k) 2 ≡ 0 → drive_sound_b p l on s ≡ true
      → drive_sound_b p l on (state_of (latch_bit k s.body) s.transfer) ≡ true
  unfolding usable_b complete_b latch_of
  latched_sound true k small clear sound =
      let f = selected p l s sound in
      let r = state_of (latch_bit k s.body) s.transfer in
      from_selected p l r (record {
        limits = whole p _ (latch_limits p s.body (sound_parts p l true s sound) k small clear);
        head = f.head;
        left = f.left;
        writing = not_writing p l r refl;
        reading = still_reads p l s f l r refl (λ g. record { gate = g.gate; other = g.other; usable = g.usable });
      })
  latched_sound false k small clear sound =
      let u = unselected p l s sound in
      from_unselected p l _ (record {
        limits = whole p _ (latch_limits p s.body (sound_parts p l false s sound) k small clear);
        none = u.none;
        writing = refl;
        reading = u.reading;
      })

  -- "2 latches bit 4, loses the position and ends reading"
  lost_sound : (on : Bool) → drive_sound_b p l on s ≡ true → drive_sound_b p l on (state_of (lost_body s.body) s.transfer) ≡ true
  unfolding latch_of
  lost_sound true sound =
      let f = selected p l s sound in
      neither p l (state_of (lost_body s.body) s.transfer) (lost_limits p s.body (sound_parts p l true s sound)) f.head f.left refl refl
  lost_sound false sound =
      let u = unselected p l s sound in
      from_unselected p l _ (record {
        limits = whole p _ (lost_limits p s.body (sound_parts p l false s sound));
        none = u.none;
        writing = refl;
        reading = refl;
      })

  -- a fault that begins to stand, or ends, is asked by no gate and no transfer
  standing_sound : (on : Bool) (n : ℕ) → Parts p (with_standing n s.body) → drive_sound_b p l on s ≡ true
      → drive_sound_b p l on (state_of (with_standing n s.body) s.transfer) ≡ true
  unfolding writing_b reading_b usable_b complete_b
  standing_sound true n q sound =
      let f = selected p l s sound in
      from_selected p l _ (record { limits = whole p _ q; head = f.head; left = f.left; writing = f.writing; reading = f.reading })
  standing_sound false n q sound =
      let u = unselected p l s sound in
      from_unselected p l _ (record { limits = whole p _ q; none = u.none; writing = u.writing; reading = u.reading })

module _ (p : Profile) (v : valid_b p ≡ true) (l : Lines) (s : State) where
  -- "Condition 1 now begins a fault"
  begun_sound : (on : Bool) → drive_sound_b p l on s ≡ true → drive_sound_b p l on (state_of (with_standing 1 (latch_bit 1 s.body)) s.transfer) ≡ true
  begun_sound on sound =
      standing_sound p v l (state_of (latch_bit 1 s.body) s.transfer) on 1 (begun_limits p s.body (sound_parts p l on s sound))
      (latched_sound p v l s on 1 (omega arith) refl sound)

  pub condition_keeps : (which : ℕ) (on : Bool) → drive_sound_b p l on s ≡ true
      → drive_sound_b p l on (state_of (condition_of which s.body) s.transfer) ≡ true
  unfolding condition_of
  condition_keeps which on sound =
      let or = by_test (λ (b : Body). drive_sound_b p l on (state_of b s.transfer) ≡ true) in
      or (eqb which 1) _ _ (λ _. begun_sound on sound) λ _.
      or (eqb which 2) _ _ (λ _. lost_sound p v l s on sound) λ _.
      or (eqb which 3) _ _ (λ _. latched_sound p v l s on 0 (omega arith) refl sound) λ _.
      standing_sound p v l s on 0 (ended_limits p s.body (sound_parts p l on s sound)) sound
