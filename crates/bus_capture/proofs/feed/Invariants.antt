-- What was run so far and what is to come make the whole.
use Rattle.std.proofs.Common.{◌+◌, length}
use Rattle.bus_capture.specs.Parts.{part_events}
use Rattle.bus_capture.proofs.Turning.{Along}
use Rattle.bus_capture.proofs.feed.Given as goal

abbrev pub invariant-loop-rest : goal.invariant-loop-rest
invariant-loop-rest l = Along l.part l.fn.file l.fn.out l.fn.first l.out l.file l.session l.rest l.at

abbrev pub decreases-loop-rest : goal.decreases-loop-rest
decreases-loop-rest l = length (part_events l.session l.rest) + length l.rest
