-- The worked values hold of the definitions.
use mathlib.Core.Path.{◌≡◌, refl}
use mathlib.Core.List.{map}
use lib.Count.{ones_in}
use Rattle.drive_record.specs.Faults.{latch_of}
use Rattle.drive_record.specs.Status.{complete_b, protected_bit, stopped_bit, status_of}
use Rattle.word_acts.specs.Acts.{seek_time, busy_for, acted_of}
use Rattle.word_table.specs.Word.{odd_b, with_parity}
use Rattle.word_table.specs.Table.{row_of, found_of}
use Rattle.word_table.specs.Effect.{option_b, size_b, operand_b, blocked_b, act_of, order_of, effect_of}
use Rattle.word_rules.specs.Responses.{configuration_of}
use Rattle.word_rules.specs.Rules.{done_of, carry_of, plain_of}
use Rattle.word_rules.specs.Worked.{WorkedLine, after_worked, table}

pub worked_values : map (λ (l : WorkedLine). after_worked l.word) table ≡ map (λ (l : WorkedLine). l.came) table
unfolding ones_in latch_of complete_b protected_bit stopped_bit status_of seek_time busy_for acted_of odd_b with_parity row_of found_of option_b size_b operand_b blocked_b act_of order_of effect_of configuration_of done_of carry_of plain_of
worked_values = refl
