-- A capture's events counted sample by sample.
use Rattle.std.proofs.Common.{◌≡◌, ℕ, ◌+◌, ◌*◌, ◌/◌, ◌<◌, ◌≤◌, Bool, List, length, get_or, arith, sym, ap, ◌∙◌, length-append, le-leb}
use borrow.Author.Tests.{lt-leb}
use Rattle.std.specs.Prelude.{if◌then◌else◌}
use Rattle.lines.specs.declared.Lines.{Lines}
use Rattle.capture_samples.specs.declared.Sample.{Sample}
use Rattle.capture_samples.specs.Samples.{sample_length, sample_of}
use Rattle.capture_samples.proofs.Sampling.{pieces_of, piece_within, piece_sample, pieces_end}
use Rattle.capture_events.specs.Events.{gap_of, passing_of, changes_of, events_to, capture_events}
use Rattle.capture_events.specs.Coming.{start_of, to_come}
use Rattle.capture_events.specs.Count.{up_to}
use Rattle.capture_events.proofs.Coming.{all_come, comes_to, none_come}

pub all_counted : (most n : ℕ) → n ≤ most → n ≡ up_to most n
all_counted most n h = sym (ap (λ (t : Bool). if t then n else most) (le-leb n most h))

pub most_counted : (most n : ℕ) → most < n → most ≡ up_to most n
most_counted most n h = sym (ap (λ (t : Bool). if t then n else most) (lt-leb n most h))

pub time_and_lines : (earlier later : Sample)
    → length (events_to earlier later) ≡ length (passing_of (gap_of later.stamp earlier.stamp)) + length (changes_of earlier.lines later.lines)
unfolding events_to
time_and_lines earlier later = length-append (passing_of (gap_of later.stamp earlier.stamp)) (changes_of earlier.lines later.lines)

-- so many events are left once so many bytes are used
abbrev pub left : Sample → List ℕ → ℕ → ℕ
left at capture used = length (to_come at capture used)

-- at the start, all of them
pub in_all : (start : Lines) (capture : List ℕ) (at : Sample) → at ≡ start_of start capture → length (capture_events start capture) ≡ left at capture 0
in_all start capture at e = ap length (all_come start capture at e)

module _ (capture : List ℕ) {pieces : List (List ℕ)} (p : pieces ≡ pieces_of capture) (k : length pieces ≡ length capture / sample_length) (i : ℕ) where
  -- one sample more
  pub left_on : (at : Sample) {to : Sample} {n : ℕ} (d : List ℕ) → i < length pieces → to ≡ sample_of (get_or pieces i d) → n ≡ length (events_to at to)
      → left at capture (i * sample_length) ≡ n + left to capture ((i + 1) * sample_length)
  left_on at {to} {n} d h e m =
      let used = i * sample_length in
      ap length (comes_to to capture used (piece_within capture p k i h) (e ∙ piece_sample capture p k i d h) at)
      ∙ length-append (events_to at to) (to_come to capture (used + sample_length)) ∙ ap (λ (x : ℕ). x + left to capture (used + sample_length)) (sym m)
      ∙ ap (λ (u : ℕ). n + left to capture u) (omega arith)

  pub none_left : (at : Sample) → length pieces ≤ i → left at capture (i * sample_length) ≡ 0
  none_left at h = ap length (none_come at capture (i * sample_length) (pieces_end capture p k i h))
