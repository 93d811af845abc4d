-- An event from its numbers. Document 01, Events: "Each is three numbers: kind, a, b."
use Rattle.std.specs.Prelude.{ℕ, Bool, ◌&&◌, ltb, leb, eqb, Result, Ok, Err}
use Rattle.std.specs.Prelude.{if◌then◌else◌}
use Rattle.event.specs.declared.Event.{Event}
use Rattle.event.specs.declared.Event.TheVariants.{Select, Heads, WriteGate, ReadGate, Data, Request, Pass, Cell, Condition}
use Rattle.event.specs.declared.Undecoded.{Undecoded}
use Rattle.event.specs.declared.Undecoded.TheVariants.{Unknown, Range}
use Rattle.counts.specs.Slots.{slot_b}
use Rattle.event.specs.Operands.{is_select_code, is_head_lines, is_level, is_span, is_position, is_byte, is_condition, stray_b}

-- "21 | operand out of range"
unfoldable pub ranged : Bool → Event → Result Event Undecoded
ranged good e = if good then Ok e else Err Range

-- "2, 3, 4, 5 | write gate, read gate, command data, transfer request"
unfoldable pub level_line : ℕ → ℕ → Event
level_line kind a =
    if eqb kind 2 then WriteGate a
    else (if eqb kind 3 then ReadGate a
    else (if eqb kind 4 then Data a
    else Request a))

-- the rows of the table, for kinds up to 8
unfoldable pub kind_row : ℕ → ℕ → ℕ → Result Event Undecoded
kind_row kind a b =
    if eqb kind 0 then ranged (is_select_code a) (Select a)  -- "0 | drive select code | 0..7 (0 = none)"
    else (if eqb kind 1 then ranged (is_head_lines a) (Heads (record { 0 = a }))  -- "1 | head lines | 0..15"
    else (if leb kind 5 then ranged (is_level a) (level_line kind a)  -- "2, 3, 4, 5 | .. | 0/1"
    else (if eqb kind 6 then ranged (is_span a) (Pass (record { 0 = a }))  -- "6 | microseconds pass | 0..65,535"
    else (if eqb kind 7 then ranged (is_position a && is_byte b) (Cell (record { 0 = a }) b)  -- "7 | data cell | position in track 0..65,535 | byte"
    else ranged (slot_b a && is_condition b) (Condition a b)))))  -- "8 | condition in a slot | slot 1..7 | 1 write fault, 2 seek error, 3 medium changed"; request 3 adds 4

-- "Refusals 19 to 25 .. are tried in that order": 20 before 21
unfoldable pub decode_of : ℕ → ℕ → ℕ → Result Event Undecoded
decode_of kind a b =
    if ltb 8 kind then Err Unknown  -- "20 | unknown kind"
    else (if stray_b kind b then Err Range  -- "21 | operand out of range", of "b is 0 for kinds 0 to 6"
    else kind_row kind a b)
