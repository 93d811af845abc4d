-- From one sample to the next: with no time between them, a span passed, the rest passed.
use Rattle.std.proofs.Common.{◌≡◌, ℕ, zero, suc, ◌+◌, ◌-◌, ◌/◌, ◌%◌, ◌^◌, ◌<◌, ◌≤◌, min, Option, Some, None, List, [], ◌∷◌, ◌++◌, length, drop, sym, refl, ap, ◌∙◌, append_assoc, arith}
use Rattle.lines.specs.declared.Lines.{Lines}
use Rattle.event.specs.Numbers.{Numbers}
use Rattle.capture_samples.specs.declared.Sample.{Sample}
use Rattle.capture_samples.specs.Samples.{sample_length, sample_of, samples_in, samples_of}
use Rattle.capture_samples.proofs.Sampling.{next_sample, samples_end}
use Rattle.capture_events.specs.Events.{event_of, gap_of, longest, passing, passing_of, changes_of, events_to, events_behind, events_of, capture_events}
use Rattle.capture_events.specs.declared.Ahead.{Ahead}
use Rattle.capture_events.specs.Coming.{reached_by, first_from, next_of, Coming, start_of, last_of, to_come}
use Rattle.capture_events.proofs.Passing.{gap_back, no_gap, gap_less, nothing_passes, some_passes}

module _ (earlier later : Sample) where
  -- no time between them
  pub no_time_lem : earlier.stamp ≡ later.stamp → events_to earlier later ≡ changes_of earlier.lines later.lines
  unfolding events_to
  no_time_lem e =
      ap (λ (gap : ℕ). passing_of gap ++ changes_of earlier.lines later.lines) (ap (λ (s : ℕ). gap_of later.stamp s) e ∙ no_gap later.stamp)
      ∙ ap (λ (l : List Numbers). l ++ changes_of earlier.lines later.lines) nothing_passes

  -- what is left of it, or as much as one event lets pass
  pub time_passes : 0 < gap_of later.stamp earlier.stamp
      → events_to earlier later ≡ passing (min (gap_of later.stamp earlier.stamp) longest)
      ∷ events_to (reached_by (passing (min (gap_of later.stamp earlier.stamp) longest)) earlier) later
  unfolding events_to
  time_passes h =
      let gap = gap_of later.stamp earlier.stamp in
      let changes = changes_of earlier.lines later.lines in
      ap (λ (l : List Numbers). l ++ changes) (some_passes gap h)
      ∙ ap (λ (n : ℕ). passing (min gap longest) ∷ passing_of n ++ changes) (sym (gap_less later.stamp earlier.stamp))

-- a line at a time, where no time is left
module _ (at to : Sample) (e : at.stamp ≡ to.stamp) where
  pub line_changes : {n : Numbers} (lines : Lines) → changes_of at.lines to.lines ≡ n ∷ changes_of lines to.lines
      → events_to at to ≡ n ∷ events_to (record { stamp = at.stamp; lines = lines }) to
  line_changes {n} lines h = no_time_lem at to e ∙ h ∙ ap (λ (l : List Numbers). n ∷ l) (sym (no_time_lem (record { stamp = at.stamp; lines = lines }) to e))

abbrev ahead : ℕ → ℕ → Sample → Ahead
ahead kind a further = record { kind = kind; a = a; reached = further }

-- said of what is next
module _ (at to : Sample) where
  pub event_next : {e : Ahead} (kind a : ℕ) (further : Sample) → e ≡ ahead kind a further → further ≡ reached_by (event_of kind a) at
      → events_to at to ≡ event_of kind a ∷ events_to further to → Coming at to (Some e)
  unfolding next_of
  event_next kind a further q r k = rw q (record {
    is = ap (λ (s : Sample). Some (ahead kind a s)) r ∙ sym (ap (λ (l : List Numbers). first_from l at) k);
    comes = k;
  })

  -- the rest of the time reaches the later stamp
  pub rest_reaches : to.stamp < 2 ^ 32 → record { stamp = to.stamp; lines = at.lines } ≡ reached_by (passing (gap_of to.stamp at.stamp)) at
  rest_reaches h =
      let e : to.stamp ≡ (at.stamp + gap_of to.stamp at.stamp) % 2 ^ 32 = omega (arith, gap_back to.stamp at.stamp) in
      λ i. record { stamp = e i; lines = at.lines }

  pub nothing_next : events_to at to ≡ [] → Coming at to None
  unfolding next_of
  nothing_next k = record { is = sym (ap (λ (l : List Numbers). first_from l at) k); comes = k }

  -- where no time is left, a line
  module _ (t : at.stamp ≡ to.stamp) where
    pub line_next : {e : Ahead} (kind a : ℕ) (lines : Lines) → e ≡ ahead kind a (record { stamp = at.stamp; lines = lines })
        → record { stamp = at.stamp; lines = lines } ≡ reached_by (event_of kind a) at
        → changes_of at.lines to.lines ≡ event_of kind a ∷ changes_of lines to.lines → Coming at to (Some e)
    line_next kind a lines q r h =
        event_next kind a _ q r (line_changes at to t lines h)

    pub none_next : changes_of at.lines to.lines ≡ [] → Coming at to None
    none_next h = nothing_next (no_time_lem at to t ∙ h)

-- what the next tells, where it is an event, is what the event reaches
pub told_reached : {at to : Sample} {e : Ahead} → Coming at to (Some e) → e.reached ≡ reached_by (event_of e.kind e.a) at
unfolding next_of
told_reached {at} {to} {e} c = ap (λ (o : Option Ahead). elim o as (λ _. Sample) [ Some x ↦ x.reached | None ↦ at ]) (c.is ∙ ap (λ (l : List Numbers). first_from l at) c.comes)

-- the first sample takes no time
first_from_lem : (n : ℕ) (start : Lines) (bytes : List ℕ) → events_of start (samples_in n bytes) ≡ events_behind (start_of start bytes) (samples_in n bytes)
first_from_lem zero start bytes = refl
first_from_lem (suc n) start bytes =
    ap (λ (l : List Numbers). l ++ events_behind (sample_of bytes) (samples_in n (drop sample_length bytes))) (sym (no_time_lem (start_of start bytes) (sample_of bytes) refl))

pub from_start : (start : Lines) (bytes : List ℕ) → capture_events start bytes ≡ events_behind (start_of start bytes) (samples_of bytes)
unfolding capture_events samples_of
from_start start bytes = first_from_lem (length bytes / sample_length) start bytes

-- a loop over a capture: what is to come at the start, at a sample, and at the end
pub all_come : (start : Lines) (capture : List ℕ) (at : Sample) → at ≡ start_of start capture → capture_events start capture ≡ to_come at capture 0
all_come start capture at e = from_start start capture ∙ ap (λ (s : Sample). to_come s capture 0) (sym e)

module _ (to : Sample) (capture : List ℕ) (used : ℕ) (h : sample_length ≤ length capture - used) (e : to ≡ sample_of (drop used capture)) where
  pub comes_to : (at : Sample) → to_come at capture used ≡ events_to at to ++ to_come to capture (used + sample_length)
  comes_to at =
      ap (λ (l : List Sample). events_behind at l) (next_sample capture used h ∙ ap (λ (s : Sample). s ∷ samples_of (drop (used + sample_length) capture)) (sym e))

  -- an event on the way to it, and then those from what is reached
  pub event_comes : (at reached : Sample) {n : Numbers} → events_to at to ≡ n ∷ events_to reached to → to_come at capture used ≡ n ∷ to_come reached capture used
  event_comes at reached {n} k =
      comes_to at ∙ ap (λ (l : List Numbers). l ++ to_come to capture (used + sample_length)) k ∙ ap (λ (l : List Numbers). n ∷ l) (sym (comes_to reached))

  -- it is reached
  pub sample_comes : (at : Sample) → events_to at to ≡ [] → to_come at capture used ≡ to_come to capture (used + sample_length)
  sample_comes at k = comes_to at ∙ ap (λ (l : List Numbers). l ++ to_come to capture (used + sample_length)) k

pub none_come : (at : Sample) (capture : List ℕ) (used : ℕ) → length capture - used < sample_length → to_come at capture used ≡ []
none_come at capture used h = ap (λ (l : List Sample). events_behind at l) (samples_end capture used h)

-- samples and then samples
pub behind_last : (xs ys : List Sample) (s : Sample) → events_behind s (xs ++ ys) ≡ events_behind s xs ++ events_behind (last_of s xs) ys
behind_last [] ys s = refl
behind_last (x ∷ xs) ys s =
    ap (λ (l : List Numbers). events_to s x ++ l) (behind_last xs ys x) ∙ sym (append_assoc (events_to s x) (events_behind x xs) (events_behind (last_of x xs) ys))
