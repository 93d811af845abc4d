-- What becomes of a capture, before anything is done. Request 2: "40 capture not a whole number of six-byte samples or a sample with one of bits 11 to 15 set, ahead of everything".
use Rattle.std.specs.Prelude.{ℕ, ◌/◌, List, Result, Ok, Err, leb, length}
use Rattle.std.specs.Prelude.{if◌then◌else◌}
use Rattle.lines.specs.declared.Lines.{Lines}
use Rattle.capture_samples.specs.Samples.{capture_b, good_bytes}
use Rattle.capture_events.specs.Events.{capture_events}
use Rattle.capture_events.specs.Count.{up_to}
use Rattle.capture_judge.specs.declared.Untaken.{Untaken}
use Rattle.capture_judge.specs.declared.Untaken.TheVariants.{NotCapture, NoRoom}

-- how many events there are, as a count of 64 bits, which no capture fills
abbrev pub event_count : Lines → List ℕ → ℕ
event_count start capture = up_to 18_446_744_073_709_551_615 (length (capture_events start capture))

-- 40, with the place of the first bad sample; then 37, where the answers' two bytes an event don't fit
unfoldable pub taking_of : Lines → List ℕ → ℕ → Result ℕ Untaken
taking_of start capture room =
    if capture_b capture then (if leb (event_count start capture) (room / 2) then Ok (event_count start capture) else Err (NoRoom (event_count start capture)))
    else Err (NotCapture (good_bytes capture))

abbrev pub taking_number : Result ℕ Untaken → ℕ
taking_number (Ok n) = 0
taking_number (Err (NotCapture place)) = 40
taking_number (Err (NoRoom n)) = 37

abbrev pub taking_value : Result ℕ Untaken → ℕ
taking_value (Ok n) = n
taking_value (Err (NotCapture place)) = place
taking_value (Err (NoRoom n)) = n
