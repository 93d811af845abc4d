-- The answers' numbers and values. Document 01, Events, the second table.
use Rattle.std.specs.Prelude.{ℕ}
use Rattle.event.specs.declared.Answer.{Answer}
use Rattle.event.specs.declared.Answer.TheVariants.{Taken, Read, Written, Unselected, Inhibited, Fault, UnknownKind, OutOfRange, Malformed, WrongLength, Inapplicable, PastTrack}

abbrev pub answer_number : Answer → ℕ
answer_number Taken = 0  -- "taken"
answer_number (Read byte) = 1  -- "byte read (value = byte)"
answer_number Written = 2  -- "byte written"
answer_number Unselected = 3  -- "no fitted drive selected after kinds 0 to 5 or 7"
answer_number Inhibited = 4  -- "inhibited, nothing latched"
answer_number Fault = 5  -- "a fault rule applied, even if its bit stood already"
answer_number UnknownKind = 20  -- "unknown kind"
answer_number OutOfRange = 21  -- "operand out of range"
answer_number Malformed = 22  -- "chain record malformed"
answer_number WrongLength = 23  -- "lent file's length isn't the record's"
answer_number Inapplicable = 24  -- "condition for an empty slot, or 3 on a fixed drive"
answer_number PastTrack = 25  -- "cell position at or past the selected drive's track length"

-- "Value is 0 except for answer 1."
abbrev pub answer_value : Answer → ℕ
answer_value Taken = 0
answer_value (Read byte) = byte
answer_value Written = 0
answer_value Unselected = 0
answer_value Inhibited = 0
answer_value Fault = 0
answer_value UnknownKind = 0
answer_value OutOfRange = 0
answer_value Malformed = 0
answer_value WrongLength = 0
answer_value Inapplicable = 0
answer_value PastTrack = 0
