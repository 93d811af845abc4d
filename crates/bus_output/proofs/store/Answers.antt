-- The line stands behind what waits.
use Rattle.std.proofs.Common.{arith}
use Rattle.bus_text.proofs.Digits.{answer_fits}
use Rattle.bus_output.proofs.Output.{stored_from}
use Rattle.bus_output.proofs.store.Goals as goal

pub returns : goal.returns
returns c =
    stored_from _ _ _ _ _ c.requires (answer_fits _ _ _ _ (omega arith) (omega arith) (omega arith) (omega arith)) c.put_answer.ensures
