use Rattle.std.proofs.Common.{◌+◌, length}
use Rattle.bus_capture.specs.Parts.{part_events}
use Rattle.try_capture.proofs.fed.Given as goal

-- each turn leaves fewer events to come, or a shorter rest
abbrev pub decreases-loop-rest : goal.decreases-loop-rest
decreases-loop-rest g l = length (part_events l.session l.rest) + length l.rest
