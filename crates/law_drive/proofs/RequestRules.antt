-- Request's edges keep a sound drive sound.
use Rattle.handshake.specs.declared.Transfer.{Transfer}
use Rattle.std.specs.Prelude.{Option, Some, None}
use mathlib.Core.Path.{◌≡◌, refl, ap, ◌∙◌}
use mathlib.Core.Bool.{true, false, not, ◌||◌}
use Prim.Native.Nat.{ℕ, ◌<◌}
use native.Mathlib.Omega.{arith}
use lib.Dec.{ltb, eqb}
use borrow.Author.Tests.{ltb-true, leb-true, eqb-true, eqb-false, lt-ltb, eq-eqb, ne_eqb, not-true, not-false}
use Rattle.counts.specs.declared.Head.{Head}
use Rattle.counts.proofs.Tests.{both, each, all}
use Rattle.counts.proofs.Choice.{by_test}
use Rattle.pack_profile.specs.declared.Profile.{Profile}
use Rattle.pack_profile.specs.Valid.{valid_b}
use Rattle.handshake.specs.declared.Fallen.{Fallen}
use Rattle.handshake.specs.Transfer.{taking, responding, word_bits, no_transfer, responding_with, open_b}
use Rattle.handshake.specs.Edges.{taken_of, put_out_of, rise_of, lowered_of, fall_of}
use Rattle.handshake.specs.SoundTransfer.{left_b}
use Rattle.drive_record.specs.declared.State.{State}
use Rattle.drive_record.specs.State.{state_of}
use Rattle.drive_record.specs.Status.{calm_b, complete_b}
use Rattle.drive_gates.specs.Gates.{usable_tests, usable_b}
use Rattle.drive_record.specs.Faults.{latch_of, dropped_of, held_of}
use Rattle.drive_record.proofs.WithinLimits.{parts, whole}
use Rattle.drive_gates.proofs.MayReadOrWrite.{usable}
use Rattle.word_rules.specs.Rules.{carry_of}
use Rattle.word_rules.proofs.WordLaws.{told_reply, word_leaves}
use Rattle.word_rules.proofs.WordLimits.{limits_kept}
use Rattle.lines.specs.declared.Lines.{Lines}
use Rattle.drive_cable.specs.Request.{after_word, carried_out, fallen_of, gated_b, request_rises, request_falls}
use Rattle.drive_cable.specs.SoundDrive.{writing_b, reading_b, drive_sound_b}
use Rattle.lines.specs.Lines.{line_tests, lines_b}
use Rattle.drive_cable.proofs.OnCable.{Selected, selected, Reads}
use Rattle.lines.specs.Lines.{with_request}
use Rattle.law_drive.proofs.SoundDrives.{from_selected, sound_parts}
use Rattle.law_drive.proofs.Gates.{both_off, not_writing, write_gate_off, read_gate_off, not_complete, still_reads, neither}
use Rattle.law_drive.proofs.OpenTransfers.{giving_left, none_left}
use Rattle.law_drive.proofs.Transfers.{rise_left, lowered_left, unanswered_left, answered_open}
use Rattle.law_drive.proofs.Bodies.{latch_limits}

-- a transfer is open
runs_incomplete : (s : State) → (s.transfer.way ≡ 0 → ⊥) → complete_b s ≡ false
unfolding complete_b
runs_incomplete s h = rw (ne_eqb s.transfer.way 0 h)

-- what stands after a word
after_left : (c : Option ℕ) → ((r : ℕ) → c ≡ Some r → r < 131_072) → left_b 0 (after_word c) ≡ true
after_left None h = none_left 0 no_transfer refl
after_left (Some r) h =
    giving_left 0 (responding_with r) refl (record {
      waiting = omega arith;
      acknowledge = refl;
      some = omega arith;
      most = omega arith;
      bits = refl;
      response = omega (arith, h r refl);
    })

module _ (p : Profile) (v : valid_b p ≡ true) (l : Lines) (s : State) where
  -- a reading drive has no transfer to drop, and reads on
  reads_on : Reads p l s → Reads p (with_request 1 l) (dropped_of s.body)
  unfolding usable_b complete_b latch_of
  reads_on g =
      let e = usable p s g.usable in
      let calm = (both (not (open_b s.transfer)) (calm_b s.body) e.complete).1 in
      let still = all (usable_tests p (dropped_of s.body)) (e.ready, (calm, (eq-eqb _ _ e.known, (lt-ltb _ _ e.present, tt)))) in
      record { gate = g.gate; other = g.other; usable = still }

  -- "bit 6, any open transfer dropped"
  dropped_sound : drive_sound_b p l true s ≡ true → drive_sound_b p (with_request 1 l) true (dropped_of s.body) ≡ true
  unfolding latch_of
  dropped_sound sound =
      let f = selected p l s sound in
      let m = with_request 1 l in
      let r = dropped_of s.body in
      from_selected p m r (record {
        limits = whole p _ (latch_limits p s.body (sound_parts p l true s sound) 6 (omega arith) refl);
        head = f.head;
        left = none_left 1 no_transfer refl;
        writing = not_writing p m r refl;
        reading = still_reads p l s f m r refl reads_on;
      })

  pub rises_keeps : lines_b l ≡ true → l.request ≡ 0 → drive_sound_b p l true s ≡ true → drive_sound_b p (with_request 1 l) true (request_rises l s).state ≡ true
  unfolding request_rises rise_of
  rises_keeps k low sound =
      let f = selected p l s sound in
      let q = sound_parts p l true s sound in
      let m = with_request 1 l in
      let drops = dropped_sound sound in
      let left = rise_left l.command s.transfer (leb-true _ _ (each (line_tests l) k).1.1.1.1.0) (rw low at f.left) in
      let or = by_test (λ (e : Option Transfer). drive_sound_b p m true (held_of s.body e).state ≡ true) in
      or (gated_b l) _ _ (λ _. drops) λ off.
      let e = both_off (eqb l.writegate 1) (eqb l.readgate 1) off in
      let shut = write_gate_off p l s f (eqb-false _ _ e.0) in
      let still = read_gate_off p l s f (eqb-false _ _ e.1) in
      or (not (open_b s.transfer || calm_b s.body)) _ _ (λ _. drops) λ _.
      or (eqb s.transfer.way responding) _ _
      (λ out. neither p m (state_of s.body (put_out_of s.transfer)) q f.head (rw out at left) shut still)
      (λ takes. neither p m (state_of s.body (taken_of l.command s.transfer)) q f.head (rw takes at left) shut still)

  -- "after the 17th bit in, the word is carried out and any response is fixed"
  carried_sound : (n : ℕ) → Selected p l s → s.body.writing ≡ 0 → s.body.reading ≡ 0
      → drive_sound_b p (with_request 0 l) true (carried_out (carry_of p s.body n)).state ≡ true
  carried_sound n f w r =
      let c = carry_of p s.body n in
      let e = word_leaves p s.body n in
      neither p (with_request 0 l) (carried_out c).state (parts p _ (limits_kept p v s.body n f.limits))
      (ap (λ (x : Head). x.0) e.head ∙ f.head)
      (after_left c.told (λ r told. (told_reply p s.body n r told).below))
      (e.writing w) (e.reading ∙ r)

  pub falls_keeps : l.request ≡ 1 → drive_sound_b p l true s ≡ true → drive_sound_b p (with_request 0 l) true (request_falls p s).state ≡ true
  unfolding request_falls fall_of writing_b reading_b usable_b complete_b
  falls_keeps high sound =
      let f = selected p l s sound in
      let q = sound_parts p l true s sound in
      let m = with_request 0 l in
      let left : left_b 1 s.transfer ≡ true = rw high at f.left in
      let or = by_test (λ (e : Fallen). drive_sound_b p m true (fallen_of p s.body e).state ≡ true) in
      or (not (eqb s.transfer.acknowledge 1)) _ _
      (λ down. from_selected p m s (record {
        limits = f.limits;
        head = f.head;
        left = unanswered_left s.transfer (eqb-false _ _ (not-true _ down)) left;
        writing = f.writing;
        reading = f.reading;
      })) λ risen.
      let up = eqb-true s.transfer.acknowledge 1 (not-false _ risen) in
      let n = not_complete p l s f (runs_incomplete s (answered_open 1 s.transfer up left)) in
      or (ltb s.transfer.count word_bits) _ _
      (λ more. let lower = lowered_left s.transfer up (ltb-true _ _ more) left in
      neither p m (state_of s.body (lowered_of s.transfer)) q f.head lower n.0 n.1) λ _.
      or (eqb s.transfer.way taking) _ _
      (λ _. carried_sound s.transfer.bits f n.0 n.1)
      (λ _. neither p m (state_of s.body no_transfer) q f.head (none_left 0 no_transfer refl) n.0 n.1)
