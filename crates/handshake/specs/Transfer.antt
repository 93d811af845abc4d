-- A transfer: none, bits being taken, or a response being given.
use Rattle.std.specs.Prelude.{ℕ, ◌-◌, ◌/◌, ◌%◌, ◌^◌, Bool, ◌&&◌, not, leb, eqb}
use Rattle.std.specs.Prelude.{if◌then◌else◌}
use Rattle.handshake.specs.declared.Transfer.{Transfer}

-- the codes of `way`
abbrev pub taking : ℕ
taking = 1

abbrev pub responding : ℕ
responding = 2

-- sixteen bits "then parity": "the seventeen"
abbrev pub word_bits : ℕ
word_bits = 17

-- the largest number of seventeen bits
abbrev pub largest : ℕ
largest = 131_071

-- "10,000 µs"
abbrev pub patience : ℕ
patience = 10_000

abbrev pub no_transfer : Transfer
no_transfer = record { waiting = record { 0 = 0 }; bits = 0; response = 0; way = 0; count = 0; acknowledge = 0 }

-- "any response is fixed"
abbrev pub responding_with : ℕ → Transfer
responding_with r = record { waiting = record { 0 = 0 }; bits = 0; response = r; way = responding; count = 0; acknowledge = 0 }

-- "A transfer is open from its first bit to the end of its last fall, response included."
abbrev pub open_b : Transfer → Bool
open_b t = not (eqb t.way 0)

-- "Bit 15 goes first, bit 0, then parity": of the seventeen-bit number, the highest first
unfoldable pub bit_out : ℕ → ℕ → ℕ
bit_out response count = if leb count word_bits then response / 2 ^ (word_bits - count) % 2 else 0

-- "The configuration/status line is the response bit while acknowledge is up for one, else 0."
unfoldable pub status_line : Transfer → ℕ
status_line t = if eqb t.way responding && eqb t.acknowledge 1 then bit_out t.response t.count else 0
