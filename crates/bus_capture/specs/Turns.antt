-- A turn over a part of the capture: as many of its events as fit, and where it stops.
use Rattle.std.specs.Prelude.{ℕ, ◌+◌, List, [], ◌∷◌, length}
use Rattle.event.specs.Numbers.{Numbers}
use Rattle.capture_samples.specs.declared.Sample.{Sample}
use Rattle.capture_samples.specs.Samples.{sample_length, samples_of}
use Rattle.capture_events.specs.Events.{events_to}
use Rattle.bus_session.specs.declared.Session.{Session}
use Rattle.bus_session.specs.declared.Turn.{Turn}
use Rattle.bus_capture.specs.Stream.{Stream, stream_of, ran_of, left_of, reached_of}
use Rattle.bus_capture.specs.Parts.{part_events}

-- what is reached, and how many bytes of the part are used
pub record Stop : Type 0 where
  pub at : Sample
  pub used : ℕ

-- a sample is passed where no event on the way to it is left
abbrev pub stop_on : List Numbers → Stop → Stop → Stop
stop_on [] passed stopped = passed
stop_on (n ∷ l) passed stopped = stopped

-- sample by sample
unfoldable pub stop_of : Stream → Sample → ℕ → List Sample → Stop
stop_of t at used [] = record { at = at; used = used }
stop_of t at used (to ∷ rest) =
    let l = events_to at to in
    stop_on (left_of t l) (stop_of (ran_of t l) to (used + sample_length) rest) (record { at = reached_of t l at; used = used })

-- from an output with nothing waiting
abbrev pub ran_part : Session Sample → List ℕ → List ℕ → Stream
ran_part s file part = ran_of (stream_of s file []) (part_events s part)

abbrev pub turn_of : Session Sample → List ℕ → List ℕ → Turn Sample
turn_of s file part =
    let t = ran_part s file part in
    let p = stop_of (stream_of s file []) s.at 0 (samples_of part) in
    record { session = record { chain = t.lent.chain; at = p.at; lines = t.lines }; used = p.used; at = length t.out }
