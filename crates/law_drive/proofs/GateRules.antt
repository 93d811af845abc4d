-- The gates' rules keep a sound drive sound.
use mathlib.Core.Path.{◌≡◌, refl, ap}
use mathlib.Core.Bool.{true, not}
use native.Mathlib.Omega.{arith}
use lib.Dec.{eqb}
use borrow.Author.Tests.{leb-true, eqb-true, eqb-false, not-false}
use Rattle.counts.proofs.Tests.{each}
use Rattle.counts.proofs.Choice.{by_test}
use Rattle.pack_profile.specs.declared.Profile.{Profile}
use Rattle.pack_profile.specs.Valid.{valid_b}
use Rattle.pack_profile.proofs.FieldRanges.{ranges}
use Rattle.drive_record.specs.declared.State.{State}
use Rattle.drive_record.specs.declared.Ruled.{Ruled}
use Rattle.drive_record.specs.State.{with_reading, with_writing, state_of}
use Rattle.drive_record.specs.Faults.{latch_of, latch_bit}
use Rattle.drive_record.specs.Status.{attention_b, complete_b}
use Rattle.drive_gates.specs.Gates.{usable_b, write_rises, read_rises, write_falls, read_falls}
use Rattle.drive_record.proofs.WithinLimits.{whole}
use Rattle.drive_gates.proofs.MayReadOrWrite.{usable}
use Rattle.lines.specs.declared.Lines.{Lines}
use Rattle.drive_cable.specs.SoundDrive.{drive_sound_b}
use Rattle.lines.specs.Lines.{line_tests, lines_b}
use Rattle.drive_cable.proofs.OnCable.{selected}
use Rattle.lines.specs.Lines.{with_writegate, with_readgate}
use Rattle.law_drive.proofs.SoundDrives.{from_selected, sound_parts}
use Rattle.law_drive.proofs.Gates.{not_writing, not_reading, may_write, may_read, flag, write_gate_off, read_gate_off, still_writes, still_reads, neither}
use Rattle.law_drive.proofs.Bodies.{reading_limits, writing_limits, latch_limits}

module _ (p : Profile) (v : valid_b p ≡ true) (l : Lines) (s : State) where
  pub write_falls_keeps : drive_sound_b p l true s ≡ true → drive_sound_b p (with_writegate 0 l) true (write_falls s) ≡ true
  unfolding usable_b complete_b
  write_falls_keeps sound =
      let f = selected p l s sound in
      let m = with_writegate 0 l in
      from_selected p m (write_falls s) (record {
        limits = whole p _ (writing_limits p s.body (sound_parts p l true s sound) 0 refl);
        head = f.head;
        left = f.left;
        writing = not_writing p m (write_falls s) refl;
        reading = still_reads p l s f m (write_falls s) refl (λ r. record { gate = r.gate; other = refl; usable = r.usable });
      })

  pub read_falls_keeps : drive_sound_b p l true s ≡ true → drive_sound_b p (with_readgate 0 l) true (read_falls s) ≡ true
  unfolding usable_b complete_b
  read_falls_keeps sound =
      let f = selected p l s sound in
      let m = with_readgate 0 l in
      from_selected p m (read_falls s) (record {
        limits = whole p _ (reading_limits p s.body (sound_parts p l true s sound) 0 refl);
        head = f.head;
        left = f.left;
        writing = still_writes p l s f m (read_falls s) refl
            (λ w. record { gate = w.gate; other = refl; quiet = w.quiet; offset = w.offset; usable = w.usable; free = w.free });
        reading = not_reading p m (read_falls s) refl;
      })

  pub read_rises_keeps : lines_b l ≡ true → l.readgate ≡ 0 → drive_sound_b p l true s ≡ true
      → drive_sound_b p (with_readgate 1 l) true (read_rises p l.writegate s).state ≡ true
  unfolding read_rises usable_b complete_b latch_of
  read_rises_keeps k low sound =
      let f = selected p l s sound in
      let q = sound_parts p l true s sound in
      let m = with_readgate 1 l in
      let still : s.body.reading ≡ 0 = read_gate_off p l s f (λ (g : l.readgate ≡ 1). omega (arith, low)) in
      let or = by_test (λ (r : Ruled). drive_sound_b p m true r.state ≡ true) in
      or (eqb l.writegate 1) _ _ (λ on. neither p m _ (latch_limits p s.body q 6 (omega arith) refl) f.head f.left refl still) λ off.
      let shut : s.body.writing ≡ 0 = write_gate_off p l s f (eqb-false _ _ off) in
      or (not (usable_b p s)) _ _ (λ stops. neither p m s q f.head f.left shut still) λ can.
      from_selected p m (state_of (with_reading 1 s.body) s.transfer) (record {
        limits = whole p _ (reading_limits p s.body q 1 refl);
        head = f.head;
        left = f.left;
        writing = not_writing p m _ shut;
        reading = may_read p m _ (record {
          gate = refl;
          other = flag l.writegate (leb-true _ _ (each (line_tests l) k).1.1.0) (eqb-false _ _ off);
          usable = not-false _ can;
        });
      })

  pub write_rises_keeps : lines_b l ≡ true → l.writegate ≡ 0 → drive_sound_b p l true s ≡ true
      → drive_sound_b p (with_writegate 1 l) true (write_rises p l.readgate s).state ≡ true
  unfolding write_rises usable_b complete_b latch_of
  write_rises_keeps k low sound =
      let f = selected p l s sound in
      let q = sound_parts p l true s sound in
      let m = with_writegate 1 l in
      let shut : s.body.writing ≡ 0 = write_gate_off p l s f (λ (g : l.writegate ≡ 1). omega (arith, low)) in
      let or = by_test (λ (r : Ruled). drive_sound_b p m true r.state ≡ true) in
      or (eqb l.readgate 1) _ _
      (λ on. neither p m _ (latch_limits p _ (reading_limits p s.body q 0 refl) 6 (omega arith) refl) f.head f.left refl refl) λ off.
      let still : s.body.reading ≡ 0 = read_gate_off p l s f (eqb-false _ _ off) in
      let bit1 : drive_sound_b p m true (state_of (latch_bit 1 s.body) s.transfer) ≡ true =
      neither p m _ (latch_limits p s.body q 1 (omega arith) refl) f.head f.left refl still in
      or (attention_b s.body) _ _ (λ up. neither p m s q f.head f.left shut still) λ down.
      or (not (eqb s.body.arm.offset 0)) _ _ (λ _. neither p m _ (latch_limits p s.body q 3 (omega arith) refl) f.head f.left refl still) λ straight.
      or (not (usable_b p s)) _ _ (λ _. bit1) λ can.
      or (eqb p.protected 1) _ _ (λ _. bit1) λ free.
      from_selected p m (state_of (with_writing 1 s.body) s.transfer) (record {
        limits = whole p _ (writing_limits p s.body q 1 refl);
        head = f.head;
        left = f.left;
        writing = may_write p m _ (record {
          gate = refl;
          other = flag l.readgate (leb-true _ _ (each (line_tests l) k).1.1.1.0) (eqb-false _ _ off);
          quiet = ap not down;
          offset = eqb-true _ _ (not-false _ straight);
          usable = not-false _ can;
          free = flag p.protected (ranges p v).protected (eqb-false _ _ free);
        });
        reading = not_reading p m _ still;
      })
