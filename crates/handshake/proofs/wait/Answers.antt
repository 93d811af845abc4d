-- What is not late fits.
use Rattle.std.proofs.Common.{arith, sym, ◌∙◌}
use Rattle.handshake.proofs.Patience.{not_late}
use Rattle.handshake.proofs.wait.Goals as goal

pub overflow_add-result : goal.overflow_add-result
overflow_add-result c =
    omega (
      arith,
      not_late c.args.us c.args.t (sym c.late.ensures ∙ c.if-late.false) (sym c.is_open.ensures ∙ c.if-not-is_open.false),
    )
