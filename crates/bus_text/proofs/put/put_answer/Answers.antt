-- The four fields stand one behind the other, where there is room for the longest line.
use Rattle.std.proofs.Common.{◌≤◌, length, arith}
use Rattle.std.proofs.Math.ListN.{length-append}
use Rattle.bus_text.specs.AnswerLine.{bytes_of, longest_line}
use Rattle.bus_text.proofs.Digits.{answer_fits}
use Rattle.bus_text.proofs.Storing.{put_then, refused, stored}
use Rattle.bus_text.proofs.put.put_answer.Goals as goal
use Rattle.bus_text.proofs.put.put_answer.Goals.{Start}

pub returns-then-out-lt-LONGEST : goal.returns-then-out-lt-LONGEST
returns-then-out-lt-LONGEST c = refused _ _ c.if-out-lt-LONGEST.true

room : (c : Start) → length (bytes_of c.args.line) ≤ longest_line
room c = answer_fits _ _ _ _ (omega arith) (omega arith) (omega arith) (omega arith)

pub put_field-a-requires : goal.put_field-a-requires
put_field-a-requires c = omega (arith, simp length-append at (room (goal.at.put_field-a-requires c).Start))

pub put_field-v-requires : goal.put_field-v-requires
put_field-v-requires c = omega (arith, simp length-append at (room (goal.at.put_field-v-requires c).Start))

pub put_field-s-requires : goal.put_field-s-requires
put_field-s-requires c = omega (arith, simp length-append at (room (goal.at.put_field-s-requires c).Start))

pub put_field-requires : goal.put_field-requires
put_field-requires c = omega (arith, simp length-append at (room (goal.at.put_field-requires c).Start))

pub returns : goal.returns
returns c =
    stored c.if-out-lt-LONGEST.false (room (goal.at.returns c).Start)
    (put_then c.put_field-a.ensures (put_then c.put_field-v.ensures (put_then c.put_field-s.ensures c.put_field.ensures)))
