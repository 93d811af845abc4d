-- The stop seen from the place reached is the one to be found.
use Rattle.std.proofs.Common.{◌≡◌}
use Rattle.bus_text.specs.TextLines.{line_stop}
use Rattle.bus_text.proofs.Stopping.{stop_from}
use Rattle.bus_text.proofs.read.scan_on.Given as goal

abbrev pub invariant-loop-at : goal.invariant-loop-at
invariant-loop-at l = stop_from l.part l.at l.s ≡ line_stop l.part l.fn.scan
