-- A capture that is run has room for its answers.
use Rattle.std.proofs.Common.{sym, arith}
use Rattle.capture_judge.proofs.Judging.{run_fits}
use Rattle.capture_run.proofs.run.Goals as goal

pub run_through-chain-requires : goal.run_through-chain-requires
run_through-chain-requires c = run_fits _ _ _ _ (omega arith) (sym c.in-Ok.ensures)
