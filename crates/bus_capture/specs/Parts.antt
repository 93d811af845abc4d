-- A capture in parts, each of whole samples: a part goes on from what is reached by the parts before it.
use Rattle.std.specs.Prelude.{◌≡◌, ℕ, ◌%◌, List, [], ◌∷◌, ◌++◌, length}
use Rattle.event.specs.Numbers.{Numbers}
use Rattle.chain_record.specs.declared.Chain.{Chain}
use Rattle.capture_samples.specs.Samples.{sample_length, samples_of}
use Rattle.capture_events.specs.Events.{events_behind}
use Rattle.capture_events.specs.Coming.{start_of, last_of}
use Rattle.capture_samples.specs.declared.Sample.{Sample}
use Rattle.bus_session.specs.declared.Session.{Session}
use Rattle.bus_capture.specs.Stream.{Stream, stream_of, fed_events}

-- before the first sample: "The first sample sets its levels with no time passing."
abbrev pub opened_of : Chain → List ℕ → Session Sample
opened_of c part = record { chain = c; at = start_of c.lines part; lines = 0 }

-- the events of a part, from what is reached before it
abbrev pub part_events : Session Sample → List ℕ → List Numbers
part_events s part = events_behind s.at (samples_of part)

-- all of a part run, from an output with nothing waiting
abbrev pub fed_part : Session Sample → List ℕ → List ℕ → Stream
fed_part s file part = fed_events (stream_of s file []) (part_events s part)

abbrev pub session_after : Session Sample → List ℕ → List ℕ → Session Sample
session_after s file part =
    let t = fed_part s file part in
    record { chain = t.lent.chain; at = last_of s.at (samples_of part); lines = t.lines }

abbrev pub file_after : Session Sample → List ℕ → List ℕ → List ℕ
file_after s file part = (fed_part s file part).lent.file

-- what was put out before stands in front
abbrev pub behind : List ℕ → Stream → Stream
behind o t = record { lent = t.lent; lines = t.lines; out = o ++ t.out }

-- the parts one after the other, each on what the one before left
abbrev pub fed_parts : Session Sample → List ℕ → List (List ℕ) → Stream
fed_parts s file [] = stream_of s file []
fed_parts s file (p ∷ ps) = behind (fed_part s file p).out (fed_parts (session_after s file p) (file_after s file p) ps)

-- "a whole number of six-byte samples", in each part
abbrev pub WholeSamples : List (List ℕ) → Type 0
WholeSamples [] = Unit {0}
WholeSamples (p ∷ ps) = (length p % sample_length ≡ 0) × WholeSamples ps
