-- `capture::fed`: session and file go on through the part, and each turn leaves less to come, or a shorter rest.
use Rattle.std.proofs.Common.{◌+◌, length}
use Rattle.bus_capture.specs.Parts.{part_events}
use Rattle.bus_capture.proofs.Threading.{Along}
use Rattle.bus_runner.proofs.capture.fed.Given as goal

abbrev pub invariant-loop-rest : goal.invariant-loop-rest
invariant-loop-rest g l = Along l.part l.fn.file l.fn.first l.rest l.session l.file

abbrev pub decreases-loop-rest : goal.decreases-loop-rest
decreases-loop-rest g l = length (part_events l.session l.rest) + length l.rest
