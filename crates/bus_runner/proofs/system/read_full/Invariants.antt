-- `system::read_full`: what was read lies in the room and is what was consumed, and each turn reads a byte or more.
use Rattle.std.proofs.Common.{◌-◌, ◌≤◌, length, take}
use Rattle.std.specs.Io.KnownBytes.{Consumes}
use Rattle.bus_runner.proofs.system.read_full.Given as goal

abbrev pub invariant-loop-done : goal.invariant-loop-done
invariant-loop-done g l = record {
  in_range : l.done ≤ length l.room;
  bytes : Consumes (g.F.Read.remaining l.initial.from) (g.F.Read.remaining l.from) (take l.done l.room);
}

abbrev pub decreases-loop-done : goal.decreases-loop-done
decreases-loop-done g l = length l.initial.room - l.done
