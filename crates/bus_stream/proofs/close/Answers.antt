-- A line that has no byte is none, and another is answered.
use Rattle.std.proofs.Common.{sym, ◌∙◌}
use Rattle.bus_stream.proofs.Closing.{closes_empty, closes_line}
use Rattle.bus_stream.proofs.close.Goals as goal

pub returns-then-not-has_byte : goal.returns-then-not-has_byte
returns-then-not-has_byte c = closes_empty _ _ _ (sym c.has_byte.ensures ∙ c.if-not-has_byte.true)

pub returns : goal.returns
returns c = closes_line _ _ _ _ _ _ (sym c.has_byte.ensures ∙ c.if-not-has_byte.false) c.answered-w.ensures
