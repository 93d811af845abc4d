-- `stream::fed`: a turn over the rest of the part carries session and file on.
use Rattle.std.proofs.Common.{◌<◌, length, arith, length-drop}
use Rattle.counts.proofs.Parts.{rest}
use Rattle.bus_stream.proofs.Turning.{none_left, some_left}
use Rattle.bus_stream.proofs.Cut.{threads_none, turn_threads, threads_end}
use Rattle.bus_runner.proofs.stream.fed.Goals as goal

pub loop-rest-init : goal.loop-rest-init
loop-rest-init g c = threads_none _ _ _

pub loop-rest-preserved : goal.loop-rest-preserved
loop-rest-preserved g c = simp rest (turn_threads c.loop-rest.invariant c.feed-t.ensures)

pub loop-rest-smaller : goal.loop-rest-smaller
loop-rest-smaller g c =
    let h : 0 < length c.loop-rest.rest.now = some_left c.loop-rest-test.ensures in
    let f = c.feed-t.ensures in
    simp (rest, length-drop) (omega (arith, f.goes h, f.used))

pub returns : goal.returns
returns g c = threads_end c.loop-rest.invariant (none_left c.loop-rest-test.ensures)
