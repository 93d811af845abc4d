-- What `esdi_event` and `esdi_lines` answer.
use Rattle.std.specs.Prelude.{ℕ, ◌+◌, ◌*◌}
use Rattle.event.specs.declared.Answer.{Answer}
use Rattle.event.specs.declared.Answer.TheVariants.{Malformed}
use Rattle.event.specs.Answer.{answer_number, answer_value}
use Rattle.std.specs.Prelude.{if◌then◌else◌}
use Rattle.chain_record.specs.declared.Chain.{Chain}
use Rattle.chain_sound.specs.SoundChain.{chain_sound_b}
use Rattle.chain_decide.specs.Shown.{line_sum}

-- the answer's number in the low byte, its value in the next
abbrev pub answer_code : Answer → ℕ
answer_code a = answer_number a + answer_value a * 256

-- "22 | chain record malformed"; else the sum of what the selected drive shows in the second byte
unfoldable pub lines_code : Chain → ℕ
lines_code c = if chain_sound_b c then line_sum c * 256 else answer_number Malformed
