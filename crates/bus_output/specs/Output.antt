-- The output that waits. Document 01, Runner: "Each output line: ..", one behind the other.
use Rattle.std.specs.Prelude.{ℕ, ◌+◌, ◌≤◌, ◌≡◌, List, [], ◌++◌, leb, length, take, drop}
use Rattle.std.specs.Prelude.{if◌then◌else◌}
use Rattle.bus_text.specs.AnswerLine.{longest_line}
use Rattle.bus_text.specs.Stored.{over}

-- the output that may wait
abbrev pub block_length : ℕ
block_length = 65_536

-- a line, where the longest would fit behind the first bytes, else nothing
unfoldable pub room_for : ℕ → List ℕ → List ℕ
room_for at line = if leb (at + longest_line) block_length then line else []

-- a line, or none, stored behind the first bytes of an output, the rest kept, and its end; the others follow, for the caller
pub record Stored (old : List ℕ) (at : ℕ) (line new : List ℕ) (next : ℕ) : Type 0 where
  pub holds : new ≡ take at old ++ over line (drop at old)
  pub ends : next ≡ at + length line
  pub short : length line ≤ longest_line
  pub within : at + longest_line ≤ block_length → next ≤ length old

-- the same by what waits then, and by what stands behind it
pub record Behind (old : List ℕ) (at : ℕ) (text new : List ℕ) (next : ℕ) : Type 0 where
  pub waits : take next new ≡ take at old ++ text
  pub rest : drop next new ≡ drop next old
  pub further : at ≤ next
  pub near : next ≤ at + longest_line
  pub within : next ≤ length old
  pub holds : next ≤ length new
