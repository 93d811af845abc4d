-- A capture as a caller that lends record, file, capture and a buffer for the answers has it.
use Rattle.std.specs.Prelude.{ℕ, ◌+◌, ◌*◌, List, Result, Ok, Err}
use Rattle.chain_record.specs.declared.Chain.{Chain}
use Rattle.capture_events.specs.Count.{up_to}
use Rattle.capture_judge.specs.declared.Untaken.{Untaken}
use Rattle.capture_judge.specs.declared.Untaken.TheVariants.{NotCapture, NoRoom}
use Rattle.capture_judge.specs.Taking.{taking_of, taking_number, taking_value}
use Rattle.capture_run.specs.Captured.{captured_of}
use Rattle.c_pack.specs.declared.Coded.{Coded}
use Rattle.c_pack.specs.Code.{second_byte}

-- what fifty-six bits hold: more events than any buffer has room for
abbrev pub most_count : ℕ
most_count = 72_057_594_037_927_935

-- the answer's number in the low byte, how many events or where the capture is bad above it
unfoldable pub count_code : ℕ → ℕ → ℕ
count_code number n = number + up_to most_count n * second_byte

abbrev pub taking_code : Result ℕ Untaken → ℕ
taking_code t = count_code (taking_number t) (taking_value t)

unfoldable pub lent_capture : Chain → List ℕ → List ℕ → ℕ → Coded Chain
lent_capture c file capture room = record { lent = (captured_of c file capture room).chain; code = taking_code (captured_of c file capture room).taking }

-- how many answers there will be: no room is asked for, so 37 is none
abbrev pub counted_of : Result ℕ Untaken → ℕ
counted_of (Ok n) = count_code 0 n
counted_of (Err (NotCapture place)) = count_code (taking_number (Err (NotCapture place))) place
counted_of (Err (NoRoom n)) = count_code 0 n

unfoldable pub capture_count : Chain → List ℕ → ℕ
capture_count c capture = counted_of (taking_of c.lines capture 0)
