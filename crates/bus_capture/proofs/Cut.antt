-- A capture in parts of whole samples puts out the whole capture's answers, and leaves the chain and the file of `run` over its events.
use Rattle.std.proofs.Common.{◌≡◌, ℕ, ◌*◌, ◌/◌, ◌%◌, ◌≤◌, List, [], ◌∷◌, ◌++◌, length, sym, refl, ap, ◌∙◌, append_assoc, append-nil, arith}
use mathlib.Core.List.{flatten}
use Rattle.event.specs.Numbers.{Numbers}
use Rattle.chain_record.specs.declared.Chain.{Chain}
use Rattle.chain_step.specs.Run.{lent, run}
use Rattle.capture_samples.specs.declared.Sample.{Sample}
use Rattle.capture_samples.specs.Samples.{sample_length, samples_of}
use Rattle.capture_samples.proofs.Sampling.{no_sample, front_sample, samples_behind}
use Rattle.capture_events.specs.Events.{events_behind, capture_events}
use Rattle.capture_events.specs.Coming.{last_of}
use Rattle.capture_events.proofs.Coming.{from_start, behind_last}
use Rattle.bus_session.specs.declared.Session.{Session}
use Rattle.bus_capture.specs.Answers.{events_answers}
use Rattle.bus_capture.specs.Stream.{Stream, stream_of, answered_of, fed_events}
use Rattle.bus_capture.specs.Parts.{opened_of, fed_part, session_after, file_after, behind, fed_parts, WholeSamples}
use Rattle.bus_capture.proofs.Whole.{through, fed_is}

-- events and then events
fed_behind : (xs ys : List Numbers) (t : Stream) → fed_events t (xs ++ ys) ≡ fed_events (fed_events t xs) ys
fed_behind [] ys t = refl
fed_behind (x ∷ xs) ys t = fed_behind xs ys (answered_of t x)

-- what was put out before stays in front
module _ (o : List ℕ) where
  answered_behind : (t : Stream) (n : Numbers) → answered_of (behind o t) n ≡ behind o (answered_of t n)
  unfolding answered_of
  answered_behind t n = simp append_assoc

  events_behind_lem : (l : List Numbers) (t : Stream) → fed_events (behind o t) l ≡ behind o (fed_events t l)
  events_behind_lem [] t = refl
  events_behind_lem (n ∷ l) t = ap (λ (u : Stream). fed_events u l) (answered_behind t n) ∙ events_behind_lem l (answered_of t n)

-- a part and then bytes: they are run from an output with nothing waiting
part_behind : (p q : List ℕ) (s : Session Sample) (file : List ℕ) → length p % sample_length ≡ 0
    → fed_part s file (p ++ q) ≡ behind (fed_part s file p).out (fed_part (session_after s file p) (file_after s file p) q)
part_behind p q s file h =
    let t = fed_part s file p in
    let m = events_behind (last_of s.at (samples_of p)) (samples_of q) in
    let k : length p ≡ length p / sample_length * sample_length = omega arith in
    let e : t ≡ behind t.out (stream_of (session_after s file p) (file_after s file p) []) =
    ap (λ (o : List ℕ). record { lent = t.lent; lines = t.lines; out = o }) (sym (append-nil t.out)) in
    ap (λ (l : List Sample). fed_events (stream_of s file []) (events_behind s.at l)) (samples_behind (length p / sample_length) p q k)
    ∙ ap (λ (l : List Numbers). fed_events (stream_of s file []) l) (behind_last (samples_of p) (samples_of q) s.at)
    ∙ fed_behind (events_behind s.at (samples_of p)) m (stream_of s file [])
    ∙ ap (λ (v : Stream). fed_events v m) e
    ∙ events_behind_lem t.out m (stream_of (session_after s file p) (file_after s file p) [])

pub parts_join : (ps : List (List ℕ)) (s : Session Sample) (file : List ℕ) → WholeSamples ps → fed_parts s file ps ≡ fed_part s file (flatten ps)
unfolding flatten
parts_join [] s file w = sym (ap (λ (l : List Sample). fed_events (stream_of s file []) (events_behind s.at l)) (no_sample [] (omega arith)))
parts_join (p ∷ ps) s file w =
    ap (λ (t : Stream). behind (fed_part s file p).out t) (parts_join ps (session_after s file p) (file_after s file p) w.1)
    ∙ sym (part_behind p (flatten ps) s file w.0)

-- the first part says the first sample's time, where it has one
pub opened_front : (c : Chain) (p q : List ℕ) → sample_length ≤ length p → opened_of c (p ++ q) ≡ opened_of c p
opened_front c p q h = ap (λ (s : Sample). record { chain = c; at = record { stamp = s.stamp; lines = c.lines }; lines = 0 }) (front_sample p q h)

-- any capture, of any length, on any chain and file, in parts of whole samples
module _ (c : Chain) (file : List ℕ) (ps : List (List ℕ)) (w : WholeSamples ps) where
  whole : fed_parts (opened_of c (flatten ps)) file ps ≡ fed_events (stream_of (opened_of c (flatten ps)) file []) (capture_events c.lines (flatten ps))
  whole =
      parts_join ps (opened_of c (flatten ps)) file w
      ∙ ap (λ (l : List Numbers). fed_events (stream_of (opened_of c (flatten ps)) file []) l) (sym (from_start c.lines (flatten ps)))

  all_is : fed_parts (opened_of c (flatten ps)) file ps ≡ through (stream_of (opened_of c (flatten ps)) file []) (capture_events c.lines (flatten ps))
  all_is = whole ∙ fed_is (capture_events c.lines (flatten ps)) (stream_of (opened_of c (flatten ps)) file [])

  pub parts_answers_lem : (fed_parts (opened_of c (flatten ps)) file ps).out ≡ events_answers 0 (lent c file) (capture_events c.lines (flatten ps))
  parts_answers_lem = ap (λ (t : Stream). t.out) all_is

  pub parts_run : (fed_parts (opened_of c (flatten ps)) file ps).lent ≡ (run (capture_events c.lines (flatten ps)) (lent c file)).lent
  parts_run = ap (λ (t : Stream). t.lent) all_is
