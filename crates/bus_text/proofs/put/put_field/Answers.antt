-- A number's digits, and then the byte that ends it.
use Rattle.bus_text.specs.AnswerLine.{field}
use Rattle.bus_text.proofs.Storing.{put_then}
use Rattle.bus_text.proofs.put.put_field.Goals as goal

pub returns : goal.returns
unfolding field
returns c = put_then c.put_number-p.ensures c.put_byte.ensures
