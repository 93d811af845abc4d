-- The loop of `feed`: what holds at each of its turns, kept by a turn, and what it gives where the loop stops.
use Rattle.std.specs.Prelude.{◌==◌, true, false}
use Rattle.std.proofs.lemmas.Bool.{eqb-true, eqb-false}
use Rattle.std.proofs.Common.{◌≡◌, ℕ, ◌+◌, ◌-◌, ◌<◌, ◌≤◌, List, [], length, take, drop, sym, refl, ap, ◌∙◌, arith, length-drop, drop-drop, drop_of_length-le, length-take-le, le-ltb, lt-ltb}
use Rattle.bus_text.specs.declared.Scan.{Scan}
use Rattle.bus_text.specs.declared.Stop.{Stop}
use Rattle.bus_text.specs.TextLines.{line_stop}
use Rattle.bus_text.specs.AnswerLine.{longest_line}
use Rattle.bus_output.specs.Output.{block_length}
use Rattle.bus_output.proofs.Output.{held, drop_further}
use Rattle.bus_session.specs.declared.Session.{Session}
use Rattle.bus_session.specs.declared.Waiting.{Waiting}
use Rattle.bus_session.specs.Session.{session_of}
use Rattle.bus_stream.specs.Stream.{stream_of}
use Rattle.bus_stream.specs.Parts.{fitting_bytes}
use Rattle.bus_stream.specs.Kept.{Answers, Fed}
use Rattle.bus_stream.proofs.Running.{Goes, goes_none, over_line, over_newline, stops_full, stops_used, run_ends, first_used}

-- what was run so far and the rest of the part come to the whole, and the output's end is as it was
pub record Runs (part file₀ out₀ : List ℕ) (s₀ : Session Scan) (out file : List ℕ) (s : Session Scan) (used at : ℕ) : Type 0 where
  pub within : used ≤ length part
  pub waits : at ≤ block_length
  pub holds : at ≤ length out
  pub whole : length file ≡ length file₀
  pub rest : drop at out ≡ drop at out₀
  pub goes : Goes (stream_of s₀ file₀ []) part used (stream_of s file (take at out)) (drop used part)

pub begins : (part file out : List ℕ) (s : Session Scan) → Runs part file out s out file s 0 0
begins part file out s =
    record { within = omega arith; waits = omega arith; holds = omega arith; whole = refl; rest = refl; goes = goes_none (stream_of s file []) part }

-- the session with its line read further
abbrev pub scanned : Session Scan → Scan → Session Scan
scanned s scan = session_of s.chain scan s.lines

module _ {part file₀ out₀ out file : List ℕ} {s₀ s : Session Scan} {used at : ℕ} (r : Runs part file₀ out₀ s₀ out file s used at) where
  waiting : length (take at out) ≡ at
  waiting = length-take-le at out r.holds

  -- the loop stops here
  pub stops : fitting_bytes (stream_of s file (take at out)) (drop used part) ≡ [] → Fed part s₀ file₀ out₀ (record { session = s; used = used; at = at }) file out
  stops e =
      let f = run_ends r.goes e in
      record {
        is = simp (f.0, f.1, waiting);
        keeps = sym (ap (λ t. t.file) f.0);
        holds = rw f.0 (held out₀ out (take at out) at r.holds refl r.rest).1;
        within = r.waits;
        used = r.within;
        goes = λ n. rw (sym f.1) (first_used s₀ file₀ part n);
      }

  -- the part is used up
  pub stops_at_end : length part ≤ used → Fed part s₀ file₀ out₀ (record { session = s; used = used; at = at }) file out
  stops_at_end h = stops (stops_used (stream_of s file (take at out)) (drop_of_length-le part h))

  module _ {stop : Stop} (e : stop ≡ line_stop (drop used part) s.at) (m : stop.at ≤ length (drop used part)) where
    pub reads_on : Runs part file₀ out₀ s₀ out file (scanned s stop.scan) (used + stop.at) at
    reads_on = record {
      within = omega (arith, r.within, length-drop used part);
      waits = r.waits;
      holds = r.holds;
      whole = r.whole;
      rest = r.rest;
      goes = over_line r.goes e;
    }

    pub stops_before : used + stop.at < length part → block_length < at + longest_line
        → fitting_bytes (stream_of (scanned s stop.scan) file (take at out)) (drop (used + stop.at) part) ≡ []
    stops_before h k = stops_full r.goes e (lt-ltb block_length (length (take at out) + longest_line) (omega (arith, waiting))) h

    pub answers_on : {w : Waiting Scan} {file' out' : List ℕ} → used + stop.at < length part → at + longest_line ≤ block_length → length file' ≡ length file
        → Answers (scanned s stop.scan) file out at w file' out' → Runs part file₀ out₀ s₀ out' file' w.session (used + stop.at + 1) w.at
    answers_on {w = w} h k l a = record {
      within = omega arith;
      waits = a.within;
      holds = a.holds;
      whole = l ∙ r.whole;
      rest = a.rest ∙ drop_further out₀ out at w.at a.further r.rest;
      goes = rw a.is (over_newline r.goes e (le-ltb block_length (length (take at out) + longest_line) (omega (arith, waiting))) h);
    }

-- what the test for an empty slice says
pub none_left : {n : ℕ} → true ≡ (n == 0) → n ≡ 0
none_left {n} e = eqb-true n 0 (sym e)

pub some_left : {n : ℕ} → false ≡ (n == 0) → 0 < n
some_left {n} e = let k : (n ≡ 0 → ⊥) = eqb-false n 0 (sym e) in omega arith

-- the same by the bytes that are left
pub record Along (part file₀ out₀ : List ℕ) (s₀ : Session Scan) (out file : List ℕ) (s : Session Scan) (rest : List ℕ) (at : ℕ) : Type 0 where
  pub used : ℕ
  pub is : rest ≡ drop used part
  pub runs : Runs part file₀ out₀ s₀ out file s used at

module _ {part file₀ out₀ out file left : List ℕ} {s₀ s : Session Scan} {at : ℕ} (a : Along part file₀ out₀ s₀ out file s left at) where
  long : length left ≡ length part - a.used
  long = ap length a.is ∙ length-drop a.used part

  -- the part is used up
  pub left_none : length left ≡ 0 → Fed part s₀ file₀ out₀ (record { session = s; used = length part - length left; at = at }) file out
  left_none n =
      let k : length part - length left ≡ a.used = omega (arith, long, a.runs.within) in
      rw k (stops_at_end a.runs (omega (arith, long)))

  module _ {stop : Stop} (e : stop ≡ line_stop left s.at) (m : stop.at ≤ length left) where
    there : stop ≡ line_stop (drop a.used part) s.at
    there = rw a.is at e

    near : stop.at ≤ length (drop a.used part)
    near = rw a.is at m

    pub reads_along : Along part file₀ out₀ s₀ out file (scanned s stop.scan) (drop stop.at left) at
    reads_along = record { used = a.used + stop.at; is = rw a.is (drop-drop stop.at a.used part); runs = reads_on a.runs there near }

    -- a byte is left, the newline
    module _ (h : 0 < length (drop stop.at left)) where
      more : a.used + stop.at < length part
      more = omega (arith, long, length-drop stop.at left)

      pub left_full : block_length < at + longest_line
          → Fed part s₀ file₀ out₀ (record { session = scanned s stop.scan; used = length part - length (drop stop.at left); at = at }) file out
      left_full k =
          let u : length part - length (drop stop.at left) ≡ a.used + stop.at = omega (arith, long, length-drop stop.at left, more) in
          rw u (stops (reads_on a.runs there near) (stops_before a.runs there near more k))

      pub answers_along : {w : Waiting Scan} {file' out' : List ℕ} → at + longest_line ≤ block_length → length file' ≡ length file
          → Answers (scanned s stop.scan) file out at w file' out' → Along part file₀ out₀ s₀ out' file' w.session (drop 1 (drop stop.at left)) w.at
      answers_along k l b = record {
        used = a.used + stop.at + 1;
        is = rw (a.is, drop-drop stop.at a.used part) (drop-drop 1 (a.used + stop.at) part);
        runs = answers_on a.runs there near more k l b;
      }
