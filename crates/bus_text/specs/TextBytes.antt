-- The bytes of a line, by their ASCII numbers.
use Rattle.std.specs.Prelude.{ℕ, ◌+◌, Bool, ◌&&◌, leb}

abbrev pub newline : ℕ
newline = 10

abbrev pub space : ℕ
space = 32

abbrev pub digit_byte : ℕ → ℕ
digit_byte d = 48 + d

abbrev pub is_digit : ℕ → Bool
is_digit b = leb (digit_byte 0) b && leb b (digit_byte 9)
