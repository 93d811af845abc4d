-- When a drive may read or write, and when it surely does not.
use mathlib.Core.Path.{◌≡◌, refl, sym, ◌∙◌}
use mathlib.Core.Bool.{Bool, true, false, ◌||◌, false≢true}
use Prim.Native.Nat.{ℕ, ◌≤◌}
use native.Mathlib.Omega.{arith}
use lib.Dec.{eqb}
use borrow.Author.Tests.{leb-true, eqb-true, eqb-false, eq-eqb}
use Rattle.counts.specs.Tests.{all_of}
use Rattle.counts.proofs.Tests.{all}
use Rattle.pack_profile.specs.declared.Profile.{Profile}
use Rattle.handshake.specs.SoundTransfer.{left_b}
use Rattle.drive_record.specs.declared.State.{State}
use Rattle.drive_record.specs.Status.{complete_b}
use Rattle.drive_record.proofs.WithinLimits.{Parts, parts, whole}
use Rattle.drive_gates.proofs.MayReadOrWrite.{usable}
use Rattle.lines.specs.declared.Lines.{Lines}
use Rattle.drive_cable.specs.SoundDrive.{writing_tests, writing_b, reading_tests, reading_b, drive_sound_b}
use Rattle.drive_cable.proofs.OnCable.{Selected, Writes, writes, Reads, reads}
use Rattle.law_drive.proofs.SoundDrives.{from_selected}

pub both_off : (a b : Bool) → (a || b) ≡ false → (a ≡ false) × (b ≡ false)
both_off true b h = absurd (false≢true (sym h))
both_off false b h = (refl, h)

or_right : (a b : Bool) → b ≡ true → (a || b) ≡ true
or_right true b h = refl
or_right false b h = h

pub not_writing : (p : Profile) (l : Lines) (s : State) → s.body.writing ≡ 0 → writing_b p l s ≡ true
unfolding writing_b
not_writing p l s h = rw h

pub not_reading : (p : Profile) (l : Lines) (s : State) → s.body.reading ≡ 0 → reading_b p l s ≡ true
unfolding reading_b
not_reading p l s h = rw h

pub may_write : (p : Profile) (l : Lines) (s : State) → Writes p l s → writing_b p l s ≡ true
unfolding writing_b
may_write p l s w = or_right (eqb s.body.writing 0) (all_of (writing_tests p l s)) (all (writing_tests p l s) (search eq-eqb))

pub may_read : (p : Profile) (l : Lines) (s : State) → Reads p l s → reading_b p l s ≡ true
unfolding reading_b
may_read p l s r = or_right (eqb s.body.reading 0) (all_of (reading_tests p l s)) (all (reading_tests p l s) (search eq-eqb))

-- a flag that is not 1
pub flag : (n : ℕ) → n ≤ 1 → (n ≡ 1 → ⊥) → n ≡ 0
flag n h off = omega arith

-- one that is not 0
set : (n : ℕ) → n ≤ 1 → eqb n 0 ≡ false → n ≡ 1
set n h z = omega (arith, eqb-false n 0 z)

module _ (p : Profile) (l : Lines) (s : State) (f : Selected p l s) where
  no_writing : (Writes p l s → ⊥) → s.body.writing ≡ 0
  no_writing never = flag s.body.writing (leb-true _ _ (parts p s.body f.limits).writing) (λ e. never (writes p l s f.writing e))

  no_reading : (Reads p l s → ⊥) → s.body.reading ≡ 0
  no_reading never = flag s.body.reading (leb-true _ _ (parts p s.body f.limits).reading) (λ e. never (reads p l s f.reading e))

  -- its own gate is not on
  pub write_gate_off : (l.writegate ≡ 1 → ⊥) → s.body.writing ≡ 0
  write_gate_off off = no_writing (λ w. off w.gate)

  pub read_gate_off : (l.readgate ≡ 1 → ⊥) → s.body.reading ≡ 0
  read_gate_off off = no_reading (λ r. off r.gate)

  -- command complete is false
  pub not_complete : complete_b s ≡ false → (s.body.writing ≡ 0) × (s.body.reading ≡ 0)
  not_complete h = (
    no_writing (λ w. false≢true (cc (usable p s w.usable).complete)),
    no_reading (λ r. false≢true (cc (usable p s r.usable).complete)),
  )

  -- what a rule leaves as it was
  pub still_writes : (m : Lines) (r : State) → r.body.writing ≡ s.body.writing → (Writes p l s → Writes p m r) → writing_b p m r ≡ true
  still_writes m r same on = cases (eqb s.body.writing 0) refl
    where
      cases : (z : Bool) → eqb s.body.writing 0 ≡ z → writing_b p m r ≡ true
      cases true z = not_writing p m r (same ∙ eqb-true _ _ z)
      cases false z = may_write p m r (on (writes p l s f.writing (set s.body.writing (leb-true _ _ (parts p s.body f.limits).writing) z)))

  pub still_reads : (m : Lines) (r : State) → r.body.reading ≡ s.body.reading → (Reads p l s → Reads p m r) → reading_b p m r ≡ true
  still_reads m r same on = cases (eqb s.body.reading 0) refl
    where
      cases : (z : Bool) → eqb s.body.reading 0 ≡ z → reading_b p m r ≡ true
      cases true z = not_reading p m r (same ∙ eqb-true _ _ z)
      cases false z = may_read p m r (on (reads p l s f.reading (set s.body.reading (leb-true _ _ (parts p s.body f.limits).reading) z)))

-- a selected drive that neither reads nor writes
pub neither : (p : Profile) (l : Lines) (s : State) → Parts p s.body → s.body.head.0 ≡ l.heads.0 → left_b l.request s.transfer ≡ true
    → s.body.writing ≡ 0 → s.body.reading ≡ 0 → drive_sound_b p l true s ≡ true
neither p l s q head left w r =
    from_selected p l s (record {
      limits = whole p s.body q;
      head = head;
      left = left;
      writing = not_writing p l s w;
      reading = not_reading p l s r;
    })
