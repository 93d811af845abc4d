-- Head changes and select keep a sound drive sound.
use mathlib.Core.Path.{◌≡◌, refl, ap, ◌∙◌}
use mathlib.Core.Bool.{true, false, ◌||◌}
use Prim.Native.Nat.{ℕ, ◌≤◌}
use native.Mathlib.Omega.{arith}
use lib.Dec.{eqb}
use borrow.Author.Tests.{leb-true, eqb-true, eqb-false, not-false}
use Rattle.counts.specs.declared.Head.{Head}
use Rattle.counts.proofs.Tests.{each}
use Rattle.counts.proofs.Choice.{by_test}
use Rattle.pack_profile.specs.declared.Profile.{Profile}
use Rattle.pack_profile.specs.Valid.{valid_b}
use Rattle.handshake.specs.Transfer.{open_b}
use Rattle.handshake.specs.SoundTransfer.{left_b}
use Rattle.drive_record.specs.declared.Body.{Body}
use Rattle.drive_record.specs.declared.State.{State}
use Rattle.drive_record.specs.declared.Ruled.{Ruled}
use Rattle.drive_record.specs.State.{with_reading, state_of}
use Rattle.drive_record.specs.Faults.{latch_of}
use Rattle.drive_rules.specs.Heads.{switched_of, head_change, met_of}
use Rattle.drive_rules.specs.DriveLeft.{left_of}
use Rattle.drive_record.specs.Faults.{dropped_of}
use Rattle.drive_record.proofs.WithinLimits.{Parts, whole}
use Rattle.lines.specs.declared.Lines.{Lines}
use Rattle.drive_cable.specs.SoundDrive.{writing_b, reading_b, drive_sound_b}
use Rattle.lines.specs.Lines.{line_tests, lines_b}
use Rattle.drive_cable.proofs.OnCable.{selected}
use Rattle.lines.specs.Lines.{with_select, with_heads}
use Rattle.law_drive.proofs.SoundDrives.{from_selected, unselected, from_unselected, sound_parts}
use Rattle.law_drive.proofs.Gates.{both_off, flag, neither}
use Rattle.law_drive.proofs.OpenTransfers.{none_left, left_none}
use Rattle.law_drive.proofs.Bodies.{reading_limits, latch_limits, switched_limits, switched_leaves}

module _ (p : Profile) (v : valid_b p ≡ true) (l : Lines) (s : State) where
  switched_sound : (m : Lines) (h : Head) (b : Body) → h.0 ≤ 15 → h.0 ≡ m.heads.0 → left_b m.request s.transfer ≡ true
      → Parts p b → b.writing ≡ 0 → drive_sound_b p m true (state_of (switched_of p h b) s.transfer) ≡ true
  switched_sound m h b most shown left q w =
      let e = switched_leaves p h b in
      neither p m (state_of (switched_of p h b) s.transfer) (switched_limits p b q v h most)
      (ap (λ (x : Head). x.0) e.head ∙ shown) left (e.writing ∙ w) e.reading

  -- a head change, at whatever lines show that head
  changed_sound : (m : Lines) (h : Head) → h.0 ≤ 15 → h.0 ≡ m.heads.0 → left_b m.request s.transfer ≡ true → Parts p s.body
      → drive_sound_b p m true (head_change p h s).state ≡ true
  unfolding head_change latch_of
  changed_sound m h most shown left q =
      by_test (λ (r : Ruled). drive_sound_b p m true r.state ≡ true) (eqb s.body.writing 1) _ _
      (λ on. switched_sound m h _ most shown left (latch_limits p s.body q 6 (omega arith) refl) refl)
      (λ off. switched_sound m h s.body most shown left q (flag s.body.writing (leb-true _ _ q.writing) (eqb-false _ _ off)))

  pub heads_keeps : (h : Head) → h.0 ≤ 15 → drive_sound_b p l true s ≡ true → drive_sound_b p (with_heads h l) true (met_of p h s).state ≡ true
  unfolding met_of writing_b reading_b
  heads_keeps h most sound =
      let f = selected p l s sound in
      let m = with_heads h l in
      by_test (λ (r : Ruled). drive_sound_b p m true r.state ≡ true) (eqb s.body.head.0 h.0) _ _
      (λ same. from_selected p m s (record { limits = f.limits; head = eqb-true _ _ same; left = f.left; writing = f.writing; reading = f.reading }))
      (λ other. changed_sound m h most refl f.left (sound_parts p l true s sound))

  pub entered_keeps : (x : ℕ) → lines_b l ≡ true → drive_sound_b p l false s ≡ true → drive_sound_b p (with_select x l) true (met_of p l.heads s).state ≡ true
  unfolding met_of
  entered_keeps x k sound =
      let u = unselected p l s sound in
      let q = sound_parts p l false s sound in
      let m = with_select x l in
      let left = none_left l.request s.transfer u.none in
      by_test (λ (r : Ruled). drive_sound_b p m true r.state ≡ true) (eqb s.body.head.0 l.heads.0) _ _
      (λ same. neither p m s q (eqb-true _ _ same) left u.writing u.reading)
      (λ other. changed_sound m l.heads (leb-true _ _ (each (line_tests l) k).1.0) refl left q)

  pub left_keeps : drive_sound_b p l true s ≡ true → (m : Lines) → drive_sound_b p m false (left_of s).state ≡ true
  unfolding left_of latch_of
  left_keeps sound m =
      let f = selected p l s sound in
      let q = sound_parts p l true s sound in
      let ended = reading_limits p s.body q 0 refl in
      let e = both_off (open_b s.transfer) (eqb s.body.writing 1) in
      by_test (λ (r : Ruled). drive_sound_b p m false r.state ≡ true) (open_b s.transfer || eqb s.body.writing 1) _ _
      (λ on. from_unselected p m (dropped_of (with_reading 0 s.body)) (record {
        limits = whole p _ (latch_limits p _ ended 6 (omega arith) refl);
        none = refl;
        writing = refl;
        reading = refl;
      }))
      (λ off. from_unselected p m (state_of (with_reading 0 s.body) s.transfer) (record {
        limits = whole p _ ended;
        none = left_none l.request s.transfer (eqb-true _ _ (not-false _ (e off).0)) f.left;
        writing = flag s.body.writing (leb-true _ _ q.writing) (eqb-false _ _ (e off).1);
        reading = refl;
      }))
