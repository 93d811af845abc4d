-- What the tests on one drive's record give as facts.
use mathlib.Core.Path.{◌≡◌}
use mathlib.Core.Bool.{Bool, true, false, ◌||◌, not, false≢true}
use native.Mathlib.Omega.{arith}
use borrow.Author.Tests.{eqb-true, ne_eqb}
use lib.Dec.{eqb}
use Rattle.counts.proofs.Choice.{guarded}
use Rattle.counts.proofs.Tests.{each}
use Rattle.pack_profile.specs.declared.Profile.{Profile}
use Rattle.handshake.specs.SoundTransfer.{left_b}
use Rattle.drive_record.specs.declared.State.{State}
use Rattle.drive_record.specs.Status.{attention_b}
use Rattle.drive_gates.specs.Gates.{usable_b}
use Rattle.drive_record.specs.Limits.{limits_b}
use Rattle.lines.specs.declared.Lines.{Lines}
use Rattle.drive_cable.specs.SoundDrive.{writing_tests, writing_b, reading_tests, reading_b, selected_tests, selected_b, drive_sound_b}

-- the selected drive of a sound record
pub record Selected (p : Profile) (l : Lines) (s : State) : Type 0 where
  pub limits : limits_b p s.body ≡ true
  pub head : s.body.head.0 ≡ l.heads.0
  pub left : left_b l.request s.transfer ≡ true
  pub writing : writing_b p l s ≡ true
  pub reading : reading_b p l s ≡ true

pub selected : (p : Profile) (l : Lines) (s : State) → drive_sound_b p l true s ≡ true → Selected p l s
unfolding drive_sound_b selected_b
selected p l s h =
    let g = guarded (limits_b p s.body) (selected_b p l s) h in
    let e = each (selected_tests p l s) g.1 in
    record { limits = g.0; head = eqb-true _ _ e.0; left = e.1.0; writing = e.1.1.0; reading = e.1.1.1.0 }

either : (a b : Bool) → (a || b) ≡ true → a ≡ false → b ≡ true
either true b h e = absurd (false≢true (cc))
either false b h e = h

-- a writing drive: its gate is high and no rule of the write gate would stop it
pub record Writes (p : Profile) (l : Lines) (s : State) : Type 0 where
  pub gate : l.writegate ≡ 1
  pub other : l.readgate ≡ 0
  pub quiet : not (attention_b s.body) ≡ true
  pub offset : s.body.arm.offset ≡ 0
  pub usable : usable_b p s ≡ true
  pub free : p.protected ≡ 0

pub writes : (p : Profile) (l : Lines) (s : State) → writing_b p l s ≡ true → s.body.writing ≡ 1 → Writes p l s
unfolding writing_b
writes p l s h w =
    let e = each (writing_tests p l s) (either (eqb s.body.writing 0) _ h (ne_eqb _ _ (λ (z : s.body.writing ≡ 0). omega (arith, w)))) in
    record {
      gate = eqb-true _ _ e.0;
      other = eqb-true _ _ e.1.0;
      quiet = e.1.1.0;
      offset = eqb-true _ _ e.1.1.1.0;
      usable = e.1.1.1.1.0;
      free = eqb-true _ _ e.1.1.1.1.1.0;
    }

-- a reading drive
pub record Reads (p : Profile) (l : Lines) (s : State) : Type 0 where
  pub gate : l.readgate ≡ 1
  pub other : l.writegate ≡ 0
  pub usable : usable_b p s ≡ true

pub reads : (p : Profile) (l : Lines) (s : State) → reading_b p l s ≡ true → s.body.reading ≡ 1 → Reads p l s
unfolding reading_b
reads p l s h r =
    let e = each (reading_tests p l s) (either (eqb s.body.reading 0) _ h (ne_eqb _ _ (λ (z : s.body.reading ≡ 0). omega (arith, r)))) in
    record { gate = eqb-true _ _ e.0; other = eqb-true _ _ e.1.0; usable = e.1.1.0 }
