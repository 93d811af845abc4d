-- Each rule of a drive takes a sound drive to a sound drive.
use mathlib.Core.Path.{◌≡◌, refl}
use mathlib.Core.Bool.{true, false}
use Rattle.pack_profile.specs.declared.Profile.{Profile}
use Rattle.pack_profile.specs.Valid.{valid_b}
use Rattle.drive_record.specs.declared.State.{State}
use Rattle.drive_record.specs.State.{fresh_of}
use Rattle.drive_record.proofs.WithinLimits.{whole}
use Rattle.lines.specs.declared.Lines.{Lines}
use Rattle.drive_cable.specs.SoundDrive.{drive_sound_b}
use Rattle.law_drive.proofs.SoundDrives.{unselected, from_unselected}
use Rattle.law_drive.proofs.Bodies.{fresh_limits}
pub use Rattle.law_drive.proofs.RequestRules.{rises_keeps, falls_keeps}
pub use Rattle.law_drive.proofs.GateRules.{write_rises_keeps, write_falls_keeps, read_rises_keeps, read_falls_keeps}
pub use Rattle.law_drive.proofs.SelectRules.{heads_keeps, entered_keeps, left_keeps}
pub use Rattle.law_drive.proofs.TimeRules.{pass_keeps}
pub use Rattle.law_drive.proofs.ConditionRules.{condition_keeps}
pub use Rattle.law_drive.proofs.WordRules.{plain_keeps}

pub fresh_sound : (p : Profile) → valid_b p ≡ true → (l : Lines) → drive_sound_b p l false (fresh_of p) ≡ true
fresh_sound p v l = from_unselected p l (fresh_of p) (record { limits = whole p _ (fresh_limits p v); none = refl; writing = refl; reading = refl })

-- no line matters to an unselected drive
pub elsewhere : (p : Profile) → valid_b p ≡ true → (l : Lines) (s : State) → drive_sound_b p l false s ≡ true → (m : Lines) → drive_sound_b p m false s ≡ true
elsewhere p v l s sound m = from_unselected p m s (unselected p l s sound)
