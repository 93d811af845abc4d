-- At each turn what was run so far and the rest come to the whole.
use Rattle.std.proofs.Common.{arith}
use Rattle.counts.proofs.Parts.{rest}
use Rattle.bus_stream.proofs.Turning.{some_left, none_left, left_none, reads_along, left_full, answers_along}
use Rattle.bus_stream.proofs.feed.Goals as goal
use Rattle.bus_stream.proofs.feed.Goals.{else-loop-stop-test, then-loop-stop-test+then-is_empty, then-loop-stop-test+else-is_empty+then-at}

pub loop-stop-preserved : goal.loop-stop-preserved
loop-stop-preserved c =
    simp rest
    (answers_along c.loop-stop.invariant c.scan_on-stop.ensures.0 c.scan_on-stop.ensures.1 (some_left (simp rest at c.if-is_empty.ensures)) (omega (arith, c.if-at.false)) c.answered-w.auto.file c.answered-w.ensures)

pub returns : goal.returns
returns c = elim c.loop-stop-test.branch [
  | else-loop-stop-test w ↦ rw (w.session-is, w.rest-is) (left_none c.loop-stop.invariant (none_left w.loop-stop-test.ensures))
  | then-loop-stop-test+then-is_empty w ↦
      rw (w.session-is, w.rest-is) (simp rest (left_none (reads_along c.loop-stop.invariant w.scan_on-stop.ensures.0 w.scan_on-stop.ensures.1) (none_left (simp rest at w.if-is_empty.ensures))))
  | then-loop-stop-test+else-is_empty+then-at w ↦
      rw (w.session-is, w.rest-is) (simp rest (left_full c.loop-stop.invariant w.scan_on-stop.ensures.0 w.scan_on-stop.ensures.1 (some_left (simp rest at w.if-is_empty.ensures)) (omega (arith, w.if-at.true))))
]
