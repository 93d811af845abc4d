-- The lines of the control cable: with one of them set, and the levels that they may have.
use Rattle.std.specs.Prelude.{ℕ, Bool, List, [], ◌∷◌, leb}
use Rattle.counts.specs.Tests.{all_of}
use Rattle.counts.specs.Slots.{slots}
use Rattle.counts.specs.declared.Head.{Head}
use Rattle.lines.specs.declared.Lines.{Lines}

abbrev pub with_select : ℕ → Lines → Lines
with_select x l = record { select = x; heads = l.heads; writegate = l.writegate; readgate = l.readgate; command = l.command; request = l.request }

abbrev pub with_heads : Head → Lines → Lines
with_heads x l = record { select = l.select; heads = x; writegate = l.writegate; readgate = l.readgate; command = l.command; request = l.request }

abbrev pub with_writegate : ℕ → Lines → Lines
with_writegate x l = record { select = l.select; heads = l.heads; writegate = x; readgate = l.readgate; command = l.command; request = l.request }

abbrev pub with_readgate : ℕ → Lines → Lines
with_readgate x l = record { select = l.select; heads = l.heads; writegate = l.writegate; readgate = x; command = l.command; request = l.request }

abbrev pub with_command : ℕ → Lines → Lines
with_command x l = record { select = l.select; heads = l.heads; writegate = l.writegate; readgate = l.readgate; command = x; request = l.request }

abbrev pub with_request : ℕ → Lines → Lines
with_request x l = record { select = l.select; heads = l.heads; writegate = l.writegate; readgate = l.readgate; command = l.command; request = x }

-- "0..7 (0 = none)"
abbrev pub last_select : ℕ
last_select = slots

-- "head lines | 0..15"
abbrev pub last_head_lines : ℕ
last_head_lines = 15

-- "select code ≤ 7", the head lines 0..15 and the levels 0/1 that the events give
abbrev pub line_tests : Lines → List Bool
line_tests l =
    leb l.select last_select ∷
    leb l.heads.0 last_head_lines ∷
    leb l.writegate 1 ∷
    leb l.readgate 1 ∷
    leb l.command 1 ∷
    leb l.request 1 ∷ []

abbrev pub lines_b : Lines → Bool
lines_b l = all_of (line_tests l)
