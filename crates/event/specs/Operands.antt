-- The ranges of the operands. Document 01, Events, the columns a and b.
use Rattle.std.specs.Prelude.{ℕ, Bool, ◌&&◌, not, leb, eqb}
use Rattle.counts.specs.Tests.{within}
use Rattle.lines.specs.Lines.{last_select, last_head_lines}

-- "0..7 (0 = none)"
abbrev pub is_select_code : ℕ → Bool
is_select_code a = leb a last_select

-- "head lines | 0..15"
abbrev pub is_head_lines : ℕ → Bool
is_head_lines a = leb a last_head_lines

-- "0/1"
abbrev pub is_level : ℕ → Bool
is_level a = leb a 1

-- "microseconds pass | 0..65,535"
abbrev pub is_span : ℕ → Bool
is_span a = leb a 65_535

-- "position in track 0..65,535"
abbrev pub is_position : ℕ → Bool
is_position a = leb a 65_535

-- "byte"
abbrev pub is_byte : ℕ → Bool
is_byte b = leb b 255

-- "1 write fault, 2 seek error, 3 medium changed"; request 3: "condition 4 joins the range of 21"
abbrev pub is_condition : ℕ → Bool
is_condition b = within 1 4 b

-- "b is 0 for kinds 0 to 6": whether another stands there
abbrev pub stray_b : ℕ → ℕ → Bool
stray_b kind b = leb kind 6 && not (eqb b 0)
