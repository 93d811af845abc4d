-- An open transfer that is not late is within the patience.
use Prim.Native.Nat.{◌+◌, ◌≤◌}
use mathlib.Core.Path.{◌≡◌}
use mathlib.Core.Bool.{true, false}
use borrow.Author.Tests.{ltb-false}
use Rattle.counts.specs.declared.Micros.{Micros}
use Rattle.handshake.specs.declared.Transfer.{Transfer}
use Rattle.handshake.specs.Transfer.{patience, open_b}
use Rattle.handshake.specs.Edges.{late_b}

pub not_late : (us : Micros) (t : Transfer) → late_b us t ≡ false → open_b t ≡ true → t.waiting.0 + us.0 ≤ patience
unfolding late_b
not_late us t h o = ltb-false _ _ (rw o at h)
