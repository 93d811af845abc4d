-- The reply to an event line. Document 01, Runner: "Each output line: input line count, answer, value, and the selected drive's lines as a sum".
use Rattle.std.specs.Prelude.{ℕ, ◌+◌, ◌%◌, ◌^◌, List, Option, None, Some}
use Rattle.event.specs.Answer.{answer_number, answer_value}
use Rattle.chain_record.specs.declared.Chain.{Chain}
use Rattle.chain_decide.specs.Shown.{line_sum}
use Rattle.chain_step.specs.declared.Stepped.{Stepped}
use Rattle.chain_step.specs.Step.{step_of, step_file}
use Rattle.bus_text.specs.declared.Numbers.{Numbers}
use Rattle.bus_text.specs.Whole.{unreadable_number}
use Rattle.bus_text.specs.AnswerLine.{answer_line}
use Rattle.bus_reply.specs.declared.Reply.{Reply}

-- "answer, value, and the selected drive's lines as a sum": those of the chain that the event leaves
abbrev pub stepped_reply : Stepped → Reply
stepped_reply s = record { chain = s.chain; answer = answer_number s.answer; value = answer_value s.answer; sum = line_sum s.chain }

abbrev pub event_reply : ℕ → ℕ → ℕ → Chain → List ℕ → Reply
event_reply kind a b c file = stepped_reply (step_of kind a b c file)

-- "19 runner only: line isn't three decimal numbers ..", "Value is 0 except for answer 1."
abbrev pub unreadable_reply : Chain → Reply
unreadable_reply c = record { chain = c; answer = unreadable_number; value = 0; sum = line_sum c }

abbrev pub reply_of : Chain → List ℕ → Option Numbers → Reply
reply_of c file (Some n) = event_reply n.kind n.a n.b c file
reply_of c file None = unreadable_reply c

-- "Refusals 19 to 25 change nothing": 19 leaves the file; 20 to 25 leave it by step_file
abbrev pub reply_file : Chain → List ℕ → Option Numbers → List ℕ
reply_file c file (Some n) = step_file n.kind n.a n.b c file
reply_file c file None = file

-- "input line count": a count of 64 bits, which no run fills
abbrev pub line_count : ℕ → ℕ
line_count lines = (lines + 1) % 2 ^ 64

-- "input line count, answer, value, and .. a sum"
abbrev pub line_answer : ℕ → Reply → List ℕ
line_answer lines r = answer_line lines r.answer r.value r.sum
