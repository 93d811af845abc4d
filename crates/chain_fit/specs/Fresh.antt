-- The chain of a file that reads, fresh.
use Rattle.std.specs.Prelude.{ℕ, List, ltb, length, replicate}
use Rattle.std.specs.Prelude.{if◌then◌else◌, Result, Ok, Err}
use Rattle.counts.specs.Slots.{map_with}
use Rattle.pack_read.specs.declared.Pack.{Pack}
use Rattle.pack_read.specs.declared.read.Refused.{Refused}
use Rattle.pack_read.specs.Packs.{longest_file, no_packs}
use Rattle.pack_read.specs.Read.{read_all}
use Rattle.drive_record.specs.declared.State.{State}
use Rattle.drive_record.specs.State.{fresh_of, blank_state}
use Rattle.lines.specs.declared.Lines.{Lines}
use Rattle.pack_read.specs.Packs.{fitted_b}
use Rattle.chain_record.specs.declared.Chain.{Chain}
use Rattle.chain_fit.specs.declared.Fitted.{Fitted}

-- "All lines are low."
abbrev pub low_lines : Lines
low_lines = record { select = 0; heads = record { 0 = 0 }; writegate = 0; readgate = 0; command = 0; request = 0 }

-- "Fresh drive", in each slot that has a pack
unfoldable pub fresh_slot : Pack → State → State
fresh_slot p s = if fitted_b p then fresh_of p.profile else s

abbrev pub blank_states : List State
blank_states = replicate 7 blank_state

-- a file that reads whole is never longer than the longest
unfoldable pub end_of : ℕ → ℕ
end_of n = if ltb longest_file n then 0 else n

abbrev pub chain_of : List Pack → ℕ → Chain
chain_of packs n = record {
  packs = packs;
  states = map_with fresh_slot packs blank_states;
  lines = low_lines;
  length = record { 0 = n };
}

-- a refused file counts as empty
abbrev pub fitted_of : Result (List Pack) Refused → ℕ → Fitted
fitted_of (Ok packs) n = record { answer = Ok tt; chain = chain_of packs (end_of n) }
fitted_of (Err refused) n = record { answer = Err refused; chain = chain_of no_packs 0 }

unfoldable pub fresh_fit : List ℕ → Fitted
fresh_fit file = fitted_of (read_all file) (length file)
