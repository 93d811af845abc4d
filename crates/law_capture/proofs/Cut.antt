-- A capture cut at any sample, which ends the first part and begins the second, gives the same as in one: on a chain that is sound over its
-- file. On another every event is refused and the lines stay as they were, so the second part's first sample may have answers of its own.
use mathlib.Core.Path.{◌≡◌, refl, sym, ap, ◌∙◌}
use mathlib.Core.List.{List, [], ◌∷◌, ◌++◌, append_assoc, append-nil}
use Prim.Native.Nat.{ℕ, ◌*◌, ◌/◌}
use native.Mathlib.Omega.{arith}
use lib.ListN.{length, drop, length-drop}
use Rattle.lines.specs.declared.Lines.{Lines}
use Rattle.event.specs.Numbers.{Numbers}
use Rattle.chain_step.specs.Run.{Lent, lent_through, answers_through}
use Rattle.capture_samples.specs.declared.Sample.{Sample}
use Rattle.capture_samples.specs.Samples.{sample_length, sample_of, samples_of}
use Rattle.capture_samples.proofs.Sampling.{first_sample, no_sample, samples_behind}
use Rattle.capture_events.specs.Events.{changes_of, events_behind, events_of, capture_events}
use Rattle.capture_events.specs.Coming.{start_of, last_of}
use Rattle.capture_events.proofs.Changing.{none_changes}
use Rattle.capture_events.proofs.Coming.{from_start, behind_last}
use Rattle.law_chain.specs.SoundOver.{SoundOver}
use Rattle.law_chain.proofs.Through.{lent_then, answers_then}
use Rattle.law_capture.specs.Cut.{SameCut}
use Rattle.law_capture.proofs.Followed.{samples_follow}

last_is : (p : Sample) (xs : List Sample) (s : Sample) → last_of p (xs ++ (s ∷ [])) ≡ s
last_is p [] s = refl
last_is p (x ∷ xs) s = last_is x xs s

-- the events up to a sample, and those behind it
behind_split : (p : Sample) (xs : List Sample) (s : Sample) (ys : List Sample) → events_behind p (xs ++ (s ∷ ys)) ≡ events_behind p (xs ++ (s ∷ [])) ++ events_behind s ys
behind_split p xs s ys =
    ap (events_behind p) (sym (append_assoc xs (s ∷ []) ys)) ∙ behind_last (xs ++ (s ∷ [])) ys p
    ∙ ap (λ (t : Sample). events_behind p (xs ++ (s ∷ [])) ++ events_behind t ys) (last_is p xs s)

events_split : (l : Lines) (xs : List Sample) (s : Sample) (ys : List Sample) → events_of l (xs ++ (s ∷ ys)) ≡ events_of l (xs ++ (s ∷ [])) ++ events_behind s ys
events_split l [] s ys = ap (λ (t : List Numbers). t ++ events_behind s ys) (sym (append-nil (changes_of l s.lines)))
events_split l (x ∷ xs) s ys =
    ap (λ (t : List Numbers). changes_of l x.lines ++ t) (behind_split x xs s ys)
    ∙ sym (append_assoc (changes_of l x.lines) (events_behind x (xs ++ (s ∷ []))) (events_behind s ys))

module _ (n : ℕ) (front sample back : List ℕ) (whole : length front ≡ n * sample_length) (one : length sample ≡ sample_length) where
  abbrev s : Sample
  s = sample_of sample

  last_sample : samples_of sample ≡ s ∷ []
  last_sample =
      first_sample sample (omega arith) ∙ ap (λ (l : List Sample). s ∷ l) (no_sample (drop sample_length sample) (omega (arith, length-drop sample_length sample)))

  second_samples : samples_of (sample ++ back) ≡ s ∷ samples_of back
  second_samples = samples_behind 1 sample back (omega arith) ∙ ap (λ (l : List Sample). l ++ samples_of back) last_sample

  first_samples : samples_of (front ++ sample) ≡ samples_of front ++ (s ∷ [])
  first_samples = samples_behind n front sample whole ∙ ap (λ (l : List Sample). samples_of front ++ l) last_sample

  all_samples : samples_of (front ++ (sample ++ back)) ≡ samples_of front ++ (s ∷ samples_of back)
  all_samples = samples_behind n front (sample ++ back) whole ∙ ap (λ (l : List Sample). samples_of front ++ l) second_samples

  module _ (d : Lent) (sound : SoundOver d) where
    abbrev first : List Numbers
    first = capture_events d.chain.lines (front ++ sample)

    abbrev later : List Numbers
    later = events_behind s (samples_of back)

    abbrev mid : Lent
    mid = lent_through first d

    splits : capture_events d.chain.lines (front ++ (sample ++ back)) ≡ first ++ later
    unfolding capture_events
    splits =
        ap (events_of d.chain.lines) all_samples ∙ events_split d.chain.lines (samples_of front) s (samples_of back)
        ∙ ap (λ (l : List Sample). events_of d.chain.lines l ++ later) (sym first_samples)

    -- behind the first part the lines are the sample's
    at_cut : mid.chain.lines ≡ s.lines
    unfolding samples_of
    at_cut =
        let bytes = front ++ sample in
        ap (λ (l : List Numbers). (lent_through l d).chain.lines) (from_start d.chain.lines bytes)
        ∙ samples_follow (length bytes / sample_length) bytes (start_of d.chain.lines bytes) d sound refl
        ∙ ap (λ (l : List Sample). (last_of (start_of d.chain.lines bytes) l).lines) first_samples
        ∙ ap (λ (t : Sample). t.lines) (last_is (start_of d.chain.lines bytes) (samples_of front) s)

    -- so the second part begins with no change
    second : capture_events mid.chain.lines (sample ++ back) ≡ later
    unfolding capture_events
    second =
        ap (events_of mid.chain.lines) second_samples ∙ ap (λ (l : Lines). changes_of l s.lines ++ later) at_cut
        ∙ ap (λ (l : List Numbers). l ++ later) (none_changes s.lines s.lines refl refl refl refl refl refl)

    pub cut_same : SameCut front sample back d
    cut_same = record {
      lent = ap (λ (l : List Numbers). lent_through l d) splits ∙ lent_then first later d ∙ sym (ap (λ (l : List Numbers). lent_through l mid) second);
      answers =
          ap (λ (l : List Numbers). answers_through l d) splits ∙ answers_then first later d
          ∙ sym (ap (λ (l : List Numbers). answers_through first d ++ answers_through l mid) second);
    }
