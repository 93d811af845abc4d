-- "Worked values": a single table, each line on a fresh drive.
use Rattle.std.specs.Prelude.{ℕ, ◌+◌, ◌*◌, ◌^◌, List, [], ◌∷◌, Option, Some, None}
use Rattle.pack_profile.specs.declared.Profile.{Profile}
use Rattle.drive_record.specs.State.{fresh_of}
use Rattle.word_rules.specs.declared.Answered.{Answered}
use Rattle.word_rules.specs.Responses.{configuration_of}
use Rattle.word_rules.specs.Rules.{plain_of}

-- "1,250 cylinders, 7 heads, general word 024Ah, track 20,832, sector 512, gap 16, sync 16, vendor 14 hex, settle 3,000, step 20, other fields 0"
abbrev pub worked_profile : Profile
worked_profile = record {
  slot = 1;
  vendor = 0x14;
  general = 0x024A;
  gap = 16;
  sync = 16;
  protected = 0;
  shape = record { cylinders = record { 0 = 1250 }; heads = record { 0 = 7 }; track = record { 0 = 20_832 }; sector = record { 0 = 512 } };
  times = record {
    settle = record { 0 = 3000 };
    step = record { 0 = 20 };
    switch = record { 0 = 0 };
    recalibrate = record { 0 = 0 };
    start = record { 0 = 0 };
    diagnostic = record { 0 = 0 };
    offset = record { 0 = 0 };
  };
}

-- sixteen bits and their parity
abbrev pub word_and_parity : ℕ → ℕ → ℕ
word_and_parity word parity = word * 2 + parity

-- what is seen of the drive after a word; sectors: configuration 6
pub record WorkedSeen : Type 0 where
  pub told : Option ℕ
  pub latched : ℕ
  pub cylinder : ℕ
  pub busy : ℕ
  pub size : ℕ
  pub sectors : ℕ

abbrev pub seen_of : Answered → WorkedSeen
seen_of a = record {
  told = a.told;
  latched = a.state.body.latched.0;
  cylinder = a.state.body.arm.cylinder.0;
  busy = a.state.body.timers.busy.0;
  size = a.state.body.sector.0;
  sectors = configuration_of worked_profile a.state.body.sector 6;
}

abbrev pub after_worked : ℕ → WorkedSeen
after_worked n = seen_of (plain_of worked_profile (fresh_of worked_profile) n)

pub record WorkedLine : Type 0 where
  pub word : ℕ
  pub came : WorkedSeen

abbrev pub line : ℕ → Option ℕ → ℕ → ℕ → ℕ → ℕ → ℕ → WorkedLine
line n told latched cylinder busy size sectors = record {
  word = n;
  came = record { told = told; latched = latched; cylinder = cylinder; busy = busy; size = size; sectors = sectors };
}

-- a fresh drive has bit 8 latched
abbrev pub bit8 : ℕ
bit8 = 2 ^ 8

abbrev pub table : List WorkedLine
table =
    line (word_and_parity 0x2000 0) (Some (word_and_parity 0x0100 0)) bit8 0 0 512 40  -- "A. 2000h, parity 0, fresh: 0100h, parity 0."
    ∷ line (word_and_parity 0x0000 0) None (bit8 + 2 ^ 7) 0 0 512 40  -- "B. 0000h, parity 0: bit 7."
    ∷ line (word_and_parity 0x04E1 0) None bit8 1249 27_980 512 40  -- "C. 04E1h, parity 0: cylinder 1,249."
    ∷ line (word_and_parity 0x04E2 0) None (bit8 + 2 ^ 5) 0 0 512 40  -- "D. 04E2h, parity 0: bit 5."
    ∷ line (word_and_parity 0x90A2 0) None bit8 0 0 162 128  -- "E. 90A2h, parity 0: 162 bytes, 128 sectors."
    ∷ line (word_and_parity 0x90A1 0) None (bit8 + 2 ^ 5) 0 0 512 40  -- "F. 90A1h, parity 0: bit 5."
    ∷ line (word_and_parity 0x3F00 1) (Some (word_and_parity 0x1400 1)) bit8 0 0 512 40  -- "G. 3F00h, parity 1: 1400h, parity 1."
    ∷ line (word_and_parity 0x000A 1) None bit8 10 3200 512 40  -- "H. seek 0 to 10: busy 3,200."
    ∷ []
