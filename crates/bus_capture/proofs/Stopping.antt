-- Where a turn stops: it goes on by an event that fits and by a sample that is passed.
use Rattle.std.proofs.Common.{◌≡◌, ℕ, ◌+◌, true, false, List, [], ◌∷◌, refl}
use Rattle.event.specs.Numbers.{Numbers}
use Rattle.capture_samples.specs.declared.Sample.{Sample}
use Rattle.capture_samples.specs.Samples.{sample_length}
use Rattle.capture_events.specs.Events.{events_to}
use Rattle.capture_events.specs.Coming.{reached_by}
use Rattle.bus_capture.specs.Stream.{Stream, answered_of, is_full, ran_of, left_of, reached_of}
use Rattle.bus_capture.specs.Turns.{stop_of}

module _ (t : Stream) (at : Sample) (used : ℕ) where
  pub end_stops : stop_of t at used [] ≡ record { at = at; used = used }
  unfolding stop_of
  end_stops = refl

  module _ (to : Sample) (rest : List Sample) where
    pub sample_passed : events_to at to ≡ [] → stop_of t at used (to ∷ rest) ≡ stop_of t to (used + sample_length) rest
    unfolding stop_of ran_of left_of
    sample_passed k = simp k

    pub event_fits : {n : Numbers} {further : Sample} → events_to at to ≡ n ∷ events_to further to → further ≡ reached_by n at → is_full t ≡ false
        → stop_of t at used (to ∷ rest) ≡ stop_of (answered_of t n) further used (to ∷ rest)
    unfolding stop_of ran_of left_of reached_of
    event_fits k r e = rw r (simp (rw r at k, e))

    pub full_stops : {n : Numbers} {l : List Numbers} → events_to at to ≡ n ∷ l → is_full t ≡ true → stop_of t at used (to ∷ rest) ≡ record { at = at; used = used }
    unfolding stop_of left_of reached_of
    full_stops k e = simp (k, e)
