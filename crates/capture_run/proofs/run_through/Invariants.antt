-- At each turn what was fed and what is to come make the whole.
use Rattle.std.proofs.Common.{length, ◌*◌}
use Rattle.capture_samples.specs.Samples.{sample_length}
use Rattle.capture_events.specs.Events.{events_to}
use Rattle.capture_run.proofs.Running.{Runs}
use Rattle.capture_run.proofs.run_through.Given as goal

abbrev pub invariant-loop-part : goal.invariant-loop-part
invariant-loop-part l = Runs l.fn.c l.fn.file l.capture l.fn.answers l.chain l.file l.answers l.at (l.part-index * sample_length) l.said

abbrev pub invariant-loop-ahead : goal.invariant-loop-ahead
invariant-loop-ahead l = Runs l.fn.c l.fn.file l.capture l.fn.answers l.chain l.file l.answers l.at (l.part-index * sample_length) l.said

abbrev pub decreases-loop-ahead : goal.decreases-loop-ahead
decreases-loop-ahead l = length (events_to l.at l.to)
