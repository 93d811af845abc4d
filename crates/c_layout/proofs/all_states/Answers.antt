-- Each state has its mark.
use Rattle.std.proofs.Common.{arith, rules, ◌+◌}
use Rattle.drive_record.specs.State.{blank_state}
use Rattle.c_layout.specs.Marks.{marked_state}
use Rattle.c_layout.proofs.Seven.{seven}
use Rattle.c_layout.proofs.all_states.Goals as goal

pub returns : goal.returns
returns c =
    let r = c.from_fn.ensures.items in
    seven (λ i. marked_state (50_331_649 + i)) c.from_fn.result blank_state (omega (arith, r.long)) (λ i h. let s = r.at i blank_state (omega (arith, r.long)) in search rules)
