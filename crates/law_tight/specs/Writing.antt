-- A chain whose one drive is writing: document 01's smallest drive in slot 1, its write gate on.
use Rattle.std.specs.Prelude.{ℕ, List, ◌∷◌, replicate}
use Rattle.pack_profile.specs.declared.Profile.{Profile}
use Rattle.pack_profile.specs.Profile.{blank_profile}
use Rattle.pack_read.specs.Packs.{no_pack, fitted_pack}
use Rattle.handshake.specs.Transfer.{no_transfer}
use Rattle.drive_record.specs.declared.State.{State}
use Rattle.drive_record.specs.State.{up, state_of, blank_state}
use Rattle.chain_record.specs.declared.Chain.{Chain}

-- "1 cylinder, 1 head, 4,095 bytes, general word 0242h, sector 512, .. the rest 0"
abbrev pub small_profile : Profile
small_profile = record {
  slot = 1;
  vendor = 0;
  general = 0x0242;
  gap = 0;
  sync = 0;
  protected = 0;
  shape = record { cylinders = record { 0 = 1 }; heads = record { 0 = 1 }; track = record { 0 = 4095 }; sector = record { 0 = 512 } };
  times = blank_profile.times;
}

abbrev pub writing_state : State
writing_state =
    state_of (record {
      timers = record { busy = record { 0 = 0 }; head = record { 0 = 0 } };
      arm = record { cylinder = record { 0 = 0 }; offset = 0; lost = 0 };
      latched = record { 0 = 0 };
      sector = record { 0 = 512 };
      head = record { 0 = 0 };
      motor = up;
      reading = 0;
      writing = 1;
      standing = 0;
    })
    no_transfer

abbrev pub writing_chain : Chain
writing_chain = record {
  packs = fitted_pack (record { 0 = 0 }) small_profile ∷ replicate 6 no_pack;
  states = writing_state ∷ replicate 6 blank_state;
  lines = record { select = 1; heads = record { 0 = 0 }; writegate = 1; readgate = 0; command = 0; request = 0 };
  length = record { 0 = 4139 };
}

-- 4,095 bytes and a trailer of 44, whatever it says
abbrev pub zero_file : List ℕ
zero_file = 0 ∷ replicate 4138 0
