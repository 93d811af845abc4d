-- `stream::fed`: session and file are those of the part's bytes up to those that are left, and each turn uses a byte or more.
use Rattle.std.proofs.Common.{length}
use Rattle.bus_stream.proofs.Cut.{Threads}
use Rattle.bus_runner.proofs.stream.fed.Given as goal

abbrev pub invariant-loop-rest : goal.invariant-loop-rest
invariant-loop-rest g l = Threads l.part l.fn.file l.fn.first.session l.rest l.r.session l.file

abbrev pub decreases-loop-rest : goal.decreases-loop-rest
decreases-loop-rest g l = length l.rest
