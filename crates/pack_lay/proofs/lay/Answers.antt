-- Each stage has its turn, and the last leaves the laying.
use Rattle.std.proofs.Common.{rules, sym, ◌∙◌}
use Rattle.pack_lay.proofs.Staged.{spoil_turn, medium_turn, fields_turn, distance_turn, stage_refused, staged}
use Rattle.pack_lay.proofs.lay.Goals as goal

pub in_turn-requires : goal.in_turn-requires
in_turn-requires c = record { former = c.args.buffer.now; is = spoil_turn _ _ }

pub in_turn-requires-2 : goal.in_turn-requires-2
in_turn-requires-2 c = record { former = c.args.buffer.now; is = medium_turn _ _ _ c.in_turn.ensures.1 }

pub in_turn-requires-3 : goal.in_turn-requires-3
in_turn-requires-3 c =
    record { former = c.args.buffer.now; is = fields_turn _ _ _ c.in_turn.ensures.1 _ c.in_turn-2.ensures.1 }

pub in_turn-requires-4 : goal.in_turn-requires-4
in_turn-requires-4 c =
    record { former = c.args.buffer.now; is = distance_turn _ _ _ c.in_turn.ensures.1 _ c.in_turn-2.ensures.1 _ c.in_turn-3.ensures.1 }

pub returns-in_err-in_turn : goal.returns-in_err-in_turn
returns-in_err-in_turn c = (search rules, c.in_turn.ensures.1 ∙ stage_refused _ _ _ _ (sym c.in_turn.ensures.0 ∙ c.in_err-in_turn.was))

pub returns : goal.returns
returns c =
    let all = staged _ _ _ c.in_turn.ensures.1 _ c.in_turn-2.ensures.1 _ c.in_turn-3.ensures.1 _ c.in_turn-4.ensures.1 in
    (c.in_turn-4.ensures.0 ∙ all.0, all.1)
