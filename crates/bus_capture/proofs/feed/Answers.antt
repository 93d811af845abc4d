-- What was run so far and what is to come make the whole.
use Rattle.std.proofs.Common.{arith}
use Rattle.counts.proofs.Parts.{rest}
use Rattle.bus_capture.proofs.Turning.{left_short, left_full, event_fewer, answers_along, sample_fewer, passes_along}
use Rattle.bus_capture.proofs.feed.Goals as goal

pub returns-then-at : goal.returns-then-at
returns-then-at c = left_full c.loop-rest.invariant _ c.loop-rest-test.true c.sample_of-to.ensures c.in-Some.ensures (omega arith)

pub loop-rest-smaller-in-Some : goal.loop-rest-smaller-in-Some
loop-rest-smaller-in-Some c =
    event_fewer c.loop-rest.invariant _ c.loop-rest-test.true c.sample_of-to.ensures c.in-Some.ensures c.answered-w.result.session c.answered-w.ensures.reaches

pub loop-rest-preserved-in-Some : goal.loop-rest-preserved-in-Some
loop-rest-preserved-in-Some c =
    answers_along c.loop-rest.invariant _ c.loop-rest-test.true c.sample_of-to.ensures c.in-Some.ensures
    (omega arith) c.answered-w.auto.file c.answered-w.ensures

pub loop-rest-smaller : goal.loop-rest-smaller
loop-rest-smaller c = simp rest (sample_fewer c.loop-rest.invariant _ c.loop-rest-test.true c.sample_of-to.ensures c.in-None.ensures.comes)

pub loop-rest-preserved : goal.loop-rest-preserved
loop-rest-preserved c = simp rest (passes_along c.loop-rest.invariant _ c.loop-rest-test.true c.sample_of-to.ensures c.in-None.ensures.comes)

pub returns : goal.returns
returns c = left_short c.loop-rest.invariant c.loop-rest-test.false
