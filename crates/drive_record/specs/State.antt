-- A drive's state: a setter for each part that changes, the fresh drive, and what stands where no drive is.
use Rattle.std.specs.Prelude.{ℕ}
use Rattle.counts.specs.declared.Head.{Head}
use Rattle.counts.specs.declared.SectorSize.{SectorSize}
use Rattle.pack_profile.specs.declared.Profile.{Profile}
use Rattle.handshake.specs.declared.Transfer.{Transfer}
use Rattle.handshake.specs.Transfer.{no_transfer}
use Rattle.drive_record.specs.declared.Latched.{Latched}
use Rattle.drive_record.specs.declared.Arm.{Arm}
use Rattle.drive_record.specs.declared.Timers.{Timers}
use Rattle.drive_record.specs.declared.Body.{Body}
use Rattle.drive_record.specs.declared.State.{State}
use Rattle.drive_record.specs.declared.Outcome.{Outcome}
use Rattle.drive_record.specs.declared.Ruled.{Ruled}

-- the codes of `motor`
abbrev pub stopped : ℕ
stopped = 0

abbrev pub starting : ℕ
starting = 1

abbrev pub up : ℕ
up = 2

abbrev pub with_timers : Timers → Body → Body
with_timers x b = record { timers = x; arm = b.arm; latched = b.latched; sector = b.sector; head = b.head; motor = b.motor; reading = b.reading; writing = b.writing; standing = b.standing }

abbrev pub with_arm : Arm → Body → Body
with_arm x b = record { timers = b.timers; arm = x; latched = b.latched; sector = b.sector; head = b.head; motor = b.motor; reading = b.reading; writing = b.writing; standing = b.standing }

abbrev pub with_latched : Latched → Body → Body
with_latched x b = record { timers = b.timers; arm = b.arm; latched = x; sector = b.sector; head = b.head; motor = b.motor; reading = b.reading; writing = b.writing; standing = b.standing }

abbrev pub with_sector : SectorSize → Body → Body
with_sector x b = record { timers = b.timers; arm = b.arm; latched = b.latched; sector = x; head = b.head; motor = b.motor; reading = b.reading; writing = b.writing; standing = b.standing }

abbrev pub with_head : Head → Body → Body
with_head x b = record { timers = b.timers; arm = b.arm; latched = b.latched; sector = b.sector; head = x; motor = b.motor; reading = b.reading; writing = b.writing; standing = b.standing }

abbrev pub with_motor : ℕ → Body → Body
with_motor x b = record { timers = b.timers; arm = b.arm; latched = b.latched; sector = b.sector; head = b.head; motor = x; reading = b.reading; writing = b.writing; standing = b.standing }

abbrev pub with_reading : ℕ → Body → Body
with_reading x b = record { timers = b.timers; arm = b.arm; latched = b.latched; sector = b.sector; head = b.head; motor = b.motor; reading = x; writing = b.writing; standing = b.standing }

abbrev pub with_writing : ℕ → Body → Body
with_writing x b = record { timers = b.timers; arm = b.arm; latched = b.latched; sector = b.sector; head = b.head; motor = b.motor; reading = b.reading; writing = x; standing = b.standing }

abbrev pub with_standing : ℕ → Body → Body
with_standing x b = record { timers = b.timers; arm = b.arm; latched = b.latched; sector = b.sector; head = b.head; motor = b.motor; reading = b.reading; writing = b.writing; standing = x }

abbrev pub state_of : Body → Transfer → State
state_of b t = record { body = b; transfer = t }

abbrev pub ruled : Outcome → State → Ruled
ruled o s = record { state = s; outcome = o }

-- "Fresh drive: motor up, cylinder 0, offset 0, head 0, timers 0, bit 8 latched, position found, sector size its pack's."; no write fault stands
abbrev pub fresh_body : Profile → Body
fresh_body p = record {
  timers = record { busy = record { 0 = 0 }; head = record { 0 = 0 } };
  arm = record { cylinder = record { 0 = 0 }; offset = 0; lost = 0 };
  latched = record { 0 = 256 };
  sector = p.shape.sector;
  head = record { 0 = 0 };
  motor = up;
  reading = 0;
  writing = 0;
  standing = 0;
}

abbrev pub blank_body : Body
blank_body = record {
  timers = record { busy = record { 0 = 0 }; head = record { 0 = 0 } };
  arm = record { cylinder = record { 0 = 0 }; offset = 0; lost = 0 };
  latched = record { 0 = 0 };
  sector = record { 0 = 0 };
  head = record { 0 = 0 };
  motor = 0;
  reading = 0;
  writing = 0;
  standing = 0;
}

abbrev pub fresh_of : Profile → State
fresh_of p = state_of (fresh_body p) no_transfer

abbrev pub blank_state : State
blank_state = state_of blank_body no_transfer
