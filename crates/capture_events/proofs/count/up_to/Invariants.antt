-- So many are counted, and with those that are left they are all.
use Rattle.std.proofs.Common.{◌≡◌, ◌≤◌, ◌+◌, ◌*◌}
use Rattle.capture_samples.specs.Samples.{sample_length}
use Rattle.capture_events.proofs.Counting.{left}
use Rattle.capture_events.proofs.count.up_to.Given as goal

abbrev pub invariant-loop-part : goal.invariant-loop-part
invariant-loop-part l = (l.n ≤ l.most) × (left l.initial.at l.capture 0 ≡ l.n + left l.at l.capture (l.part-index * sample_length))
