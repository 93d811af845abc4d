-- The line is stored where the longest would fit.
use Rattle.std.proofs.Common.{arith}
use Rattle.bus_output.proofs.Output.{none_stored, line_stored}
use Rattle.bus_output.proofs.put.Goals as goal

pub returns-then-at : goal.returns-then-at
returns-then-at c = none_stored _ _ _ (omega arith)

pub returns : goal.returns
returns c = line_stored (omega arith) c.store.ensures
