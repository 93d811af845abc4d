-- `capture::fed`: a turn over the rest of the part carries session and file on; where no sample is left they are the part's.
use Rattle.std.proofs.Common.{arith, length-drop}
use Rattle.counts.proofs.Parts.{rest}
use Rattle.bus_capture.proofs.Threading.{along_none, turn_along, along_end}
use Rattle.bus_runner.proofs.capture.fed.Goals as goal

pub loop-rest-init : goal.loop-rest-init
loop-rest-init g c = along_none _ _ _

pub loop-rest-smaller : goal.loop-rest-smaller
loop-rest-smaller g c = simp (rest, length-drop) (omega (arith, c.feed-t.ensures.goes c.loop-rest-test.true))

pub loop-rest-preserved : goal.loop-rest-preserved
loop-rest-preserved g c = simp rest (turn_along c.loop-rest.invariant c.feed-t.ensures)

pub returns : goal.returns
returns g c = along_end c.loop-rest.invariant c.loop-rest-test.false
