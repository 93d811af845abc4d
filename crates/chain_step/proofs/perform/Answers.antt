-- What is judged touches nothing outside the file.
use Rattle.chain_judge.proofs.Fits.{judged_fits}
use Rattle.chain_step.proofs.perform.Goals as goal

pub obey-answer-requires : goal.obey-answer-requires
obey-answer-requires c = rw c.judge-decision.ensures (judged_fits c.args.c _ c.args.kind c.args.a c.args.b)
