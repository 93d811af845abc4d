-- The chain through the board's one function: each event as its three numbers, on the lent record and file.
use Rattle.std.specs.Prelude.{ℕ, ◌≤◌}
use Rattle.event.specs.Answer.{answer_number}
use Rattle.law_exchange.specs.Host.{Signal, level, ask, micros, Cable}
use Rattle.event.specs.Numbers.{Numbers}
use Rattle.chain_step.specs.Run.{Lent, step_by, lent_after}
use Rattle.law_words.specs.Decided.{decided}

-- "4 command data", "5 transfer request", "6 microseconds pass"
abbrev pub kind_of : Signal → ℕ
kind_of (level v) = 4
kind_of (ask v) = 5
kind_of (micros us) = 6

abbrev pub operand_of : Signal → ℕ
operand_of (level v) = v
operand_of (ask v) = v
operand_of (micros us) = us

-- "0/1", "0..65,535"
abbrev pub InRange : Signal → Type 0
InRange (level v) = v ≤ 1
InRange (ask v) = v ≤ 1
InRange (micros us) = us ≤ 65_535

-- "Each is three numbers: kind, a, b.", "b is 0 for kinds 0 to 6"
abbrev pub numbers_of : Signal → Numbers
numbers_of e = record { kind = kind_of e; a = operand_of e; b = 0 }

abbrev pub stepped : Cable Lent
stepped = record {
  after = λ (e : Signal) (d : Lent). lent_after (numbers_of e) d;
  answer = λ (e : Signal) (d : Lent). answer_number (step_by (numbers_of e) d).answer;
  acknowledged = decided.acknowledged;
  responds = decided.responds;
  status = decided.status;
}
