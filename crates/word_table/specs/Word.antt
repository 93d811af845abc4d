-- A whole word with its parity: seventeen bits as one number, the first highest. Bits above them are not looked at.
use Rattle.std.specs.Prelude.{ℕ, ◌+◌, ◌*◌, ◌-◌, ◌/◌, ◌%◌, Bool, eqb}
use Rattle.std.specs.Int.Count.{ones_in}

-- "Bit 15 goes first, bit 0, then parity": the sixteen in front of it
abbrev pub sixteen_of : ℕ → ℕ
sixteen_of n = n / 2 % 65_536

-- "Bits 15..12 are the code, 11..8 the modifier."
abbrev pub code_of : ℕ → ℕ
code_of w = w / 4096

abbrev pub modifier_of : ℕ → ℕ
modifier_of w = w / 256 % 16

-- "bits 11..0"
abbrev pub bits11to0 : ℕ → ℕ
bits11to0 w = w % 4096

-- "the seventeen hold an odd number of ones"
unfoldable pub odd_b : ℕ → Bool
odd_b n = eqb (ones_in 17 n % 2) 1

-- sixteen bits, and the parity by which they do
unfoldable pub with_parity : ℕ → ℕ
with_parity w = w % 65_536 * 2 + (1 - ones_in 16 w % 2)
