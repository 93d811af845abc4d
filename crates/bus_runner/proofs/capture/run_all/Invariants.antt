-- `capture::run_all`: the block holds what was read.
use Rattle.std.proofs.Common.{◌≤◌}
use Rattle.bus_runner.proofs.capture.run_all.Given as goal

abbrev pub invariant-loop : goal.invariant-loop
invariant-loop g l = l.n ≤ 65_532
