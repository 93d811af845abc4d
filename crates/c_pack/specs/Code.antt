-- Where the parts of a code stand: an answer's number in the low byte, and these.
use Rattle.std.specs.Prelude.{ℕ, ◌^◌}
use Rattle.event.specs.declared.Answer.{Answer}
use Rattle.event.specs.Answer.{answer_number}
use Rattle.c_pack.specs.declared.Coded.{Coded}

abbrev pub second_byte : ℕ
second_byte = 2 ^ 8

abbrev pub high_half : ℕ
high_half = 2 ^ 32

-- a refusal leaves what is lent as it was: "Refusals 19 to 25 change nothing"
abbrev pub refused : {T : Type 0} → T → Answer → Coded T
refused lent a = record { lent = lent; code = answer_number a }
