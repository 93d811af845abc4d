use Rattle.std.proofs.Common.{arith, length-drop}
use Rattle.counts.proofs.Parts.{rest}
use Rattle.try_capture.proofs.fed.Goals as goal

pub loop-rest-smaller : goal.loop-rest-smaller
loop-rest-smaller g c = simp (rest, length-drop) (omega (arith, c.feed-t.ensures.goes c.loop-rest-test.true))
