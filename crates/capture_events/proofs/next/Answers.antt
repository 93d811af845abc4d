-- Time first, then the lines.
use Rattle.std.proofs.Common.{ℕ, min, refl, ap, ◌∙◌, arith, rules}
use Rattle.capture_events.specs.Events.{longest}
use Rattle.capture_events.proofs.Passing.{same_stamp}
use Rattle.capture_events.proofs.Coming.{time_passes, event_next}
use Rattle.capture_events.proofs.next.Goals as goal

pub returns : goal.returns
returns c =
    let e = c.min-micros.ensures ∙ ap (λ (n : ℕ). min n longest) c.gap-left.ensures in
    event_next _ _ 6 _ _ c.new.ensures refl (rw e (time_passes _ _ (omega (arith, c.gap-left.ensures, c.if-left-eq0.false))))

pub next_change-requires : goal.next_change-requires
next_change-requires c = same_stamp _ _ (search rules) (search rules) (omega (arith, c.gap-left.ensures, c.if-left-eq0.true))
