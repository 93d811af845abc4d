-- The stop seen from the place reached is the one to be found.
use Rattle.std.proofs.Common.{◌≡◌, length, ◌∙◌, arith}
use Rattle.bus_text.proofs.Stopping.{goes_on_lem, at_newline, at_end}
use Rattle.bus_text.proofs.read.scan_on.Goals as goal

pub returns-then-byte-eq10 : goal.returns-then-byte-eq10
returns-then-byte-eq10 c =
    (at_newline _ c.loop-at.at c.loop-at.s (omega arith) c.if-byte-eq10.true ∙ c.loop-at.invariant, omega arith)

pub loop-at-preserved : goal.loop-at-preserved
loop-at-preserved c = rw c.fed-s.ensures (goes_on_lem _ c.loop-at.at c.loop-at.s (omega arith) c.if-byte-eq10.false ∙ c.loop-at.invariant)

pub returns : goal.returns
returns c =
    let e : c.loop-at.at ≡ length c.args.part.now = omega arith in
    (at_end _ _ c.loop-at.s (omega arith) ∙ rw e at c.loop-at.invariant, omega arith)
