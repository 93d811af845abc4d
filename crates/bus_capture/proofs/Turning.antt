-- The loop of `feed`: what holds at each of its turns, kept by a turn, and what it gives where the loop stops.
use Rattle.std.proofs.Common.{◌≡◌, ℕ, ◌+◌, ◌-◌, ◌*◌, ◌<◌, ◌≤◌, List, [], ◌∷◌, length, take, drop, Some, sym, refl, ap, ◌∙◌, arith, length-drop, drop-drop, length-take-le, le-ltb, lt-ltb}
use Rattle.bus_text.specs.AnswerLine.{longest_line}
use Rattle.bus_output.specs.Output.{block_length}
use Rattle.bus_output.proofs.Output.{held, drop_further}
use Rattle.capture_samples.specs.declared.Sample.{Sample}
use Rattle.capture_samples.specs.Samples.{sample_length, sample_of, samples_of}
use Rattle.capture_samples.proofs.Sampling.{next_sample, samples_end}
use Rattle.capture_events.specs.Events.{event_of, events_to}
use Rattle.capture_events.specs.declared.Ahead.{Ahead}
use Rattle.capture_events.specs.Coming.{Coming, last_of, to_come}
use Rattle.capture_events.proofs.Coming.{told_reached, event_comes, sample_comes, none_come}
use Rattle.bus_session.specs.declared.Session.{Session}
use Rattle.bus_session.specs.declared.Waiting.{Waiting}
use Rattle.bus_capture.specs.Stream.{Stream, stream_of, ran_of, left_of}
use Rattle.bus_capture.specs.Parts.{part_events}
use Rattle.bus_capture.specs.Turns.{stop_of}
use Rattle.bus_capture.specs.Kept.{Answers, Fed}
use Rattle.bus_capture.proofs.Running.{Goes, goes_none, goes_event, stops_none, stops_full}
use Rattle.bus_capture.proofs.Stopping.{end_stops, sample_passed, event_fits, full_stops}

-- what was run so far and the rest of the part come to the whole, and the output's end is as it was
pub record Runs (part file₀ out₀ : List ℕ) (s₀ : Session Sample) (out file : List ℕ) (s : Session Sample) (used at : ℕ) : Type 0 where
  pub within : used ≤ length part
  pub waits : at ≤ block_length
  pub holds : at ≤ length out
  pub whole : length file ≡ length file₀
  pub rest : drop at out ≡ drop at out₀
  pub goes : Goes (stream_of s₀ file₀ []) (part_events s₀ part) (stream_of s file (take at out)) (to_come s.at part used)
  pub stop : stop_of (stream_of s₀ file₀ []) s₀.at 0 (samples_of part) ≡ stop_of (stream_of s file (take at out)) s.at used (samples_of (drop used part))
  pub last : last_of s.at (samples_of (drop used part)) ≡ last_of s₀.at (samples_of part)
  -- a line at most for each event that is no more to come
  pub spent : at + longest_line * length (to_come s.at part used) ≤ longest_line * length (part_events s₀ part)

pub begins : (part file out : List ℕ) (s : Session Sample) → Runs part file out s out file s 0 0
begins part file out s = record {
  within = omega arith;
  waits = omega arith;
  holds = omega arith;
  whole = refl;
  rest = refl;
  goes = goes_none (stream_of s file []) (part_events s part);
  stop = refl;
  last = refl;
  spent = omega arith;
}

-- the session once a sample is reached
abbrev pub reaching : Session Sample → Sample → Session Sample
reaching s to = record { chain = s.chain; at = to; lines = s.lines }

module _ {part file₀ out₀ out file : List ℕ} {s₀ s : Session Sample} {used at : ℕ} (r : Runs part file₀ out₀ s₀ out file s used at) where
  waiting : length (take at out) ≡ at
  waiting = length-take-le at out r.holds

  -- the loop stops here
  stops : (ran_of (stream_of s₀ file₀ []) (part_events s₀ part) ≡ stream_of s file (take at out))
      × (left_of (stream_of s₀ file₀ []) (part_events s₀ part) ≡ to_come s.at part used)
      → stop_of (stream_of s₀ file₀ []) s₀.at 0 (samples_of part) ≡ record { at = s.at; used = used }
      → (sample_length ≤ length part → 0 < used + at) → Fed part s₀ file₀ out₀ (record { session = s; used = used; at = at }) file out
  stops e d p =
      let n : at ≡ length (ran_of (stream_of s₀ file₀ []) (part_events s₀ part)).out = sym (ap (λ (t : Stream). length t.out) e.0 ∙ waiting) in
      record {
        is = λ j. record { session = record { chain = (sym e.0 j).lent.chain; at = (sym d j).at; lines = (sym e.0 j).lines }; used = (sym d j).used; at = n j };
        keeps = sym (ap (λ (t : Stream). t.lent.file) e.0);
        holds = rw e.0 (held out₀ out (take at out) at r.holds refl r.rest).1;
        puts = sym (ap (λ (t : Stream). t.out) e.0);
        left = sym e.1;
        last = r.last;
        within = r.waits;
        used = r.within;
        goes = λ h. omega (arith, p h, r.spent, r.within);
      }

  -- the part's whole samples are used up
  pub stops_at_end : length part - used < sample_length → Fed part s₀ file₀ out₀ (record { session = s; used = used; at = at }) file out
  stops_at_end h =
      let n = none_come s.at part used h in
      let e = stops_none (rw n at r.goes) in
      let d = rw (samples_end part used h) at r.stop in
      stops (e.0, e.1 ∙ sym n) (d ∙ end_stops (stream_of s file (take at out)) s.at used) (λ k. omega arith)

  module _ (to : Sample) (h : sample_length ≤ length part - used) (e : to ≡ sample_of (drop used part)) where
    -- whatever is reached on the way to a sample, the last one stays
    last_stays : (reached : Sample) → last_of reached (samples_of (drop used part)) ≡ last_of s₀.at (samples_of part)
    last_stays reached = rw (next_sample part used h) (rw (next_sample part used h) at r.last)

    -- the samples that are left, this one in front
    front : samples_of (drop used part) ≡ to ∷ samples_of (drop (used + sample_length) part)
    front = rw e (next_sample part used h)

    module _ {n : Ahead} (k : Coming s.at to (Some n)) where
      next : to_come s.at part used ≡ event_of n.kind n.a ∷ to_come n.reached part used
      next = event_comes to part used h e s.at n.reached k.comes

      -- its answer might not fit
      pub stops_before : block_length < at + longest_line → Fed part s₀ file₀ out₀ (record { session = s; used = used; at = at }) file out
      stops_before f =
          let u = lt-ltb block_length (length (take at out) + longest_line) (omega (arith, waiting)) in
          let g = stops_full (rw next at r.goes) u in
          let d = full_stops (stream_of s file (take at out)) s.at used to (samples_of (drop (used + sample_length) part)) k.comes u in
          stops (g.0, g.1 ∙ sym next) (rw front at r.stop ∙ d) (λ m. omega arith)

      -- an event more
      pub answers_on : {w : Waiting Sample} {file' out' : List ℕ} → at + longest_line ≤ block_length → length file' ≡ length file
          → Answers s n file out at w file' out' → Runs part file₀ out₀ s₀ out' file' w.session used w.at
      answers_on {w = w} f l b =
          let u = le-ltb block_length (length (take at out) + longest_line) (omega (arith, waiting)) in
          let d = event_fits (stream_of s file (take at out)) s.at used to (samples_of (drop (used + sample_length) part)) k.comes (told_reached k) u in
          record {
            within = r.within;
            waits = omega (arith, b.near);
            holds = b.holds;
            whole = l ∙ r.whole;
            rest = b.rest ∙ drop_further out₀ out at w.at b.further r.rest;
            goes = rw (b.is, b.reaches) (goes_event (rw next at r.goes) u);
            stop = rw (b.is, b.reaches, front) (rw front at r.stop ∙ d);
            last = rw b.reaches (last_stays n.reached);
            spent = rw b.reaches (omega (arith, b.near, r.spent, ap length next));
          }

    -- a sample more
    pub passes : events_to s.at to ≡ [] → Runs part file₀ out₀ s₀ out file (reaching s to) (used + sample_length) at
    passes k =
        let n = sample_comes to part used h e s.at k in
        record {
          within = omega arith;
          waits = r.waits;
          holds = r.holds;
          whole = r.whole;
          rest = r.rest;
          goes = rw n at r.goes;
          stop = rw front at r.stop ∙ sample_passed (stream_of s file (take at out)) s.at used to (samples_of (drop (used + sample_length) part)) k;
          last = rw e (rw (next_sample part used h) at r.last);
          spent = omega (arith, r.spent, ap length n);
        }

-- the same by the bytes that are left
pub record Along (part file₀ out₀ : List ℕ) (s₀ : Session Sample) (out file : List ℕ) (s : Session Sample) (left : List ℕ) (at : ℕ) : Type 0 where
  pub used : ℕ
  pub is : left ≡ drop used part
  pub runs : Runs part file₀ out₀ s₀ out file s used at

module _ {part file₀ out₀ out file left : List ℕ} {s₀ s : Session Sample} {at : ℕ} (a : Along part file₀ out₀ s₀ out file s left at) where
  long : length left ≡ length part - a.used
  long = ap length a.is ∙ length-drop a.used part

  used_is : length part - length left ≡ a.used
  used_is = omega (arith, long, a.runs.within)

  -- the part's whole samples are used up
  pub left_short : length left < sample_length → Fed part s₀ file₀ out₀ (record { session = s; used = length part - length left; at = at }) file out
  left_short h = rw used_is (stops_at_end a.runs (omega (arith, long)))

  module _ (to : Sample) (h : sample_length ≤ length left) (e : to ≡ sample_of left) where
    more : sample_length ≤ length part - a.used
    more = omega (arith, long)

    there : to ≡ sample_of (drop a.used part)
    there = rw a.is at e

    module _ {n : Ahead} (k : Coming s.at to (Some n)) where
      pub left_full : block_length < at + longest_line
          → Fed part s₀ file₀ out₀ (record { session = s; used = length part - length left; at = at }) file out
      left_full f = rw used_is (stops_before a.runs to more there k f)

      pub answers_along : {w : Waiting Sample} {file' out' : List ℕ} → at + longest_line ≤ block_length → length file' ≡ length file
          → Answers s n file out at w file' out' → Along part file₀ out₀ s₀ out' file' w.session left w.at
      answers_along f l b = record { used = a.used; is = a.is; runs = answers_on a.runs to more there k f l b }

      -- one event fewer is to come
      pub event_fewer : (t : Session Sample) → t.at ≡ n.reached → length (part_events t left) + length left < length (part_events s left) + length left
      event_fewer t q =
          let j : part_events s left ≡ event_of n.kind n.a ∷ to_come n.reached left 0 = event_comes to left 0 (omega arith) e s.at n.reached k.comes in
          rw q (omega (arith, ap length j))

    pub passes_along : events_to s.at to ≡ [] → Along part file₀ out₀ s₀ out file (reaching s to) (drop sample_length left) at
    passes_along k = record {
      used = a.used + sample_length;
      is = rw a.is (drop-drop sample_length a.used part);
      runs = passes a.runs to more there k;
    }

    -- one sample fewer is to come
    pub sample_fewer : events_to s.at to ≡ [] → length (part_events (reaching s to) (drop sample_length left)) + length (drop sample_length left) < length (part_events s left) + length left
    sample_fewer k = omega (arith, ap length (sample_comes to left 0 (omega arith) e s.at k), length-drop sample_length left)
