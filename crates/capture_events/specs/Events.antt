-- A capture's events. Request 2: "The time between two samples .. split into passing events", "Lines changing in one sample are applied in a fixed order".
use Rattle.std.specs.Prelude.{ℕ, zero, suc, ◌+◌, ◌-◌, ◌/◌, ◌%◌, ◌^◌, List, [], ◌∷◌, ◌++◌, ◌==◌}
use Rattle.std.specs.Prelude.{if◌then◌else◌}
use Rattle.lines.specs.declared.Lines.{Lines}
use Rattle.event.specs.Numbers.{Numbers}
use Rattle.capture_samples.specs.declared.Sample.{Sample}
use Rattle.capture_samples.specs.Samples.{samples_of}

abbrev pub event_of : ℕ → ℕ → Numbers
event_of kind a = record { kind = kind; a = a; b = 0 }

-- "the later stamp less the earlier, wrapping on purpose"
unfoldable pub gap_of : ℕ → ℕ → ℕ
gap_of later earlier = (later + (2 ^ 32 - earlier % 2 ^ 32)) % 2 ^ 32

-- "passing events of 65,535"
abbrev pub longest : ℕ
longest = 65_535

abbrev pub passing : ℕ → Numbers
passing micros = event_of 6 micros

abbrev pub whole_spans : ℕ → List Numbers
whole_spans zero = []
whole_spans (suc n) = passing longest ∷ whole_spans n

-- "the rest last if not 0"
abbrev pub rest_span : ℕ → List Numbers
rest_span micros = if micros == 0 then [] else (passing micros ∷ [])

unfoldable pub passing_of : ℕ → List Numbers
passing_of gap = whole_spans (gap / longest) ++ rest_span (gap % longest)

-- a line whose level differs
unfoldable pub change_of : ℕ → ℕ → ℕ → List Numbers
change_of kind old new = if old == new then [] else (event_of kind new ∷ [])

-- "a fixed order: select, head, read gate, write gate, data, request"
unfoldable pub changes_of : Lines → Lines → List Numbers
changes_of old new =
    change_of 0 old.select new.select
    ++ (change_of 1 old.heads.0 new.heads.0
    ++ (change_of 3 old.readgate new.readgate
    ++ (change_of 2 old.writegate new.writegate
    ++ (change_of 4 old.command new.command
    ++ change_of 5 old.request new.request))))

-- from one sample to the next
unfoldable pub events_to : Sample → Sample → List Numbers
events_to earlier later = passing_of (gap_of later.stamp earlier.stamp) ++ changes_of earlier.lines later.lines

-- the samples behind one
abbrev pub events_behind : Sample → List Sample → List Numbers
events_behind s [] = []
events_behind s (later ∷ rest) = events_to s later ++ events_behind later rest

-- "The first sample sets its levels with no time passing."
abbrev pub events_of : Lines → List Sample → List Numbers
events_of start [] = []
events_of start (first ∷ rest) = changes_of start first.lines ++ events_behind first rest

-- of a capture's bytes, and the lines at the start
unfoldable pub capture_events : Lines → List ℕ → List Numbers
capture_events start bytes = events_of start (samples_of bytes)
