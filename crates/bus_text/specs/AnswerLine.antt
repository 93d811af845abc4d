-- The answer line. Document 01, Runner: "Each output line: input line count, answer, value, and the selected drive's lines as a sum".
use Rattle.std.specs.Prelude.{ℕ, zero, suc, ◌/◌, ◌%◌, List, [], ◌∷◌, ◌++◌, ltb}
use Rattle.std.specs.Prelude.{if◌then◌else◌}
use Rattle.bus_text.specs.TextBytes.{newline, space, digit_byte}
use Rattle.bus_text.specs.declared.put.AnswerLine.{AnswerLine}

-- the decimal digits of a number that has at most k
abbrev pub decimal_in : ℕ → ℕ → List ℕ
decimal_in zero n = []
decimal_in (suc k) n = if ltb n 10 then digit_byte n ∷ [] else (decimal_in k (n / 10) ++ (digit_byte (n % 10) ∷ []))

-- a count below 2^64 has at most 20
unfoldable pub decimal_of : ℕ → List ℕ
decimal_of n = decimal_in 20 n

-- a number and the byte that ends it
unfoldable pub field : ℕ → ℕ → List ℕ
field n end = decimal_of n ++ (end ∷ [])

-- "input line count, answer, value, and .. a sum", as printed there: single spaces between, and a newline
abbrev pub answer_line : ℕ → ℕ → ℕ → ℕ → List ℕ
answer_line count answer value sum = field count space ++ (field answer space ++ (field value space ++ field sum newline))

abbrev pub bytes_of : AnswerLine → List ℕ
bytes_of l = answer_line l.count l.answer l.value l.sum

-- the longest: a count of 20 digits, three numbers of 3, and the byte that ends each
abbrev pub longest_line : ℕ
longest_line = 33
