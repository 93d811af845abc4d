-- A sound drive as named facts, both ways.
use mathlib.Core.Path.{◌≡◌}
use mathlib.Core.Bool.{Bool, true, false}
use borrow.Author.Tests.{eqb-true, eq-eqb}
use Rattle.counts.proofs.Choice.{guarded}
use Rattle.counts.proofs.Tests.{each, all}
use Rattle.pack_profile.specs.declared.Profile.{Profile}
use Rattle.handshake.specs.SoundTransfer.{none_b}
use Rattle.drive_record.specs.declared.State.{State}
use Rattle.drive_record.specs.Limits.{limits_b}
use Rattle.drive_record.proofs.WithinLimits.{Parts, parts}
use Rattle.lines.specs.declared.Lines.{Lines}
use Rattle.drive_cable.specs.SoundDrive.{selected_tests, selected_b, unselected_tests, unselected_b, drive_sound_b}
use Rattle.drive_cable.proofs.OnCable.{Selected, selected}

pub from_selected : (p : Profile) (l : Lines) (s : State) → Selected p l s → drive_sound_b p l true s ≡ true
unfolding drive_sound_b selected_b
from_selected p l s f =
    rw f.limits
    (all (selected_tests p l s) (eq-eqb s.body.head.0 l.heads.0 f.head, (f.left, (f.writing, (f.reading, tt)))))

-- an unselected drive of a sound record
pub record Unselected (p : Profile) (s : State) : Type 0 where
  pub limits : limits_b p s.body ≡ true
  pub none : none_b s.transfer ≡ true
  pub writing : s.body.writing ≡ 0
  pub reading : s.body.reading ≡ 0

pub unselected : (p : Profile) (l : Lines) (s : State) → drive_sound_b p l false s ≡ true → Unselected p s
unfolding drive_sound_b unselected_b
unselected p l s h =
    let g = guarded (limits_b p s.body) (unselected_b s) h in
    let e = each (unselected_tests s) g.1 in
    record { limits = g.0; none = e.0; writing = eqb-true _ _ e.1.0; reading = eqb-true _ _ e.1.1.0 }

pub from_unselected : (p : Profile) (l : Lines) (s : State) → Unselected p s → drive_sound_b p l false s ≡ true
unfolding drive_sound_b unselected_b
from_unselected p l s f =
    rw f.limits
    (all (unselected_tests s) (f.none, (eq-eqb s.body.writing 0 f.writing, (eq-eqb s.body.reading 0 f.reading, tt))))

pub sound_parts : (p : Profile) (l : Lines) (on : Bool) (s : State) → drive_sound_b p l on s ≡ true → Parts p s.body
sound_parts p l true s h = parts p s.body (selected p l s h).limits
sound_parts p l false s h = parts p s.body (unselected p l s h).limits
