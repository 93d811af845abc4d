-- The events that are still to come, once the next is known.
use Rattle.std.specs.Prelude.{◌≡◌, ℕ, ◌+◌, ◌%◌, ◌^◌, List, [], ◌∷◌, drop, ◌==◌, Option, Some, None}
use Rattle.std.specs.Prelude.{if◌then◌else◌}
use Rattle.lines.specs.declared.Lines.{Lines}
use Rattle.lines.specs.Lines.{with_select, with_heads, with_writegate, with_readgate, with_command, with_request}
use Rattle.event.specs.Numbers.{Numbers}
use Rattle.capture_samples.specs.declared.Sample.{Sample}
use Rattle.capture_samples.specs.Samples.{sample_of, samples_of}
use Rattle.capture_events.specs.declared.Ahead.{Ahead}
use Rattle.capture_events.specs.Events.{event_of, events_to, events_behind}

abbrev with_lines : Lines → Sample → Sample
with_lines lines at = record { stamp = at.stamp; lines = lines }

-- what an event of a capture reaches: a line's new level, or a later time
abbrev pub reached_by : Numbers → Sample → Sample
reached_by n at =
    if n.kind == 0 then with_lines (with_select n.a at.lines) at
    else (if n.kind == 1 then with_lines (with_heads (record { 0 = n.a }) at.lines) at
    else (if n.kind == 2 then with_lines (with_writegate n.a at.lines) at
    else (if n.kind == 3 then with_lines (with_readgate n.a at.lines) at
    else (if n.kind == 4 then with_lines (with_command n.a at.lines) at
    else (if n.kind == 5 then with_lines (with_request n.a at.lines) at
    else record { stamp = (at.stamp + n.a) % 2 ^ 32; lines = at.lines })))))

-- the first of the events, and what it reaches
abbrev pub first_from : List Numbers → Sample → Option Ahead
first_from [] at = None
first_from (n ∷ rest) at = Some (record { kind = n.kind; a = n.a; reached = reached_by n at })

unfoldable pub next_of : Sample → Sample → Option Ahead
next_of at to = first_from (events_to at to) at

-- the next event, and then those from what it reaches; none where the sample is reached
abbrev pub events_next : Option Ahead → Sample → List Numbers
events_next (Some e) to = event_of e.kind e.a ∷ events_to e.reached to
events_next None to = []

-- the next event by its definition; that it and those behind it are all follows, for the caller's loop
pub record Coming (at to : Sample) (r : Option Ahead) : Type 0 where
  pub is : r ≡ next_of at to
  pub comes : events_to at to ≡ events_next r to

-- what is reached before the first sample: the lines at the start, and no time left
abbrev pub start_of : Lines → List ℕ → Sample
start_of start bytes = record { stamp = (sample_of bytes).stamp; lines = start }

-- the last sample, or what was reached where there is none
abbrev pub last_of : Sample → List Sample → Sample
last_of s [] = s
last_of s (later ∷ rest) = last_of later rest

-- from what is reached on, once so many bytes are used
abbrev pub to_come : Sample → List ℕ → ℕ → List Numbers
to_come at capture used = events_behind at (samples_of (drop used capture))
