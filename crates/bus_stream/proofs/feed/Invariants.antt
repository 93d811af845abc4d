-- What was run so far and the rest come to the whole.
use Rattle.std.proofs.Common.{length}
use Rattle.bus_stream.proofs.Turning.{Along}
use Rattle.bus_stream.proofs.feed.Given as goal

abbrev pub invariant-loop-stop : goal.invariant-loop-stop
invariant-loop-stop l = Along l.part l.fn.file l.fn.out l.fn.first l.out l.file l.session l.rest l.at

abbrev pub decreases-loop-stop : goal.decreases-loop-stop
decreases-loop-stop l = length l.rest
