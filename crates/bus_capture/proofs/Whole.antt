-- "Each output line: ..": what is put out event by event is the events' answer lines, and a turn and what it leaves are together the whole part.
use Rattle.std.proofs.Common.{◌≡◌, ℕ, Bool, true, false, List, [], ◌∷◌, ◌++◌, sym, refl, ap, ◌∙◌, append_assoc, append-nil}
use Rattle.std.specs.Prelude.{if◌then◌else◌}
use Rattle.event.specs.Numbers.{Numbers}
use Rattle.chain_step.specs.Run.{lent_after, lent_through}
use Rattle.bus_reply.specs.Reply.{line_count, line_answer}
use Rattle.capture_events.specs.Coming.{to_come}
use Rattle.capture_samples.specs.declared.Sample.{Sample}
use Rattle.bus_session.specs.declared.Session.{Session}
use Rattle.bus_session.specs.declared.Turn.{Turn}
use Rattle.bus_capture.specs.Answers.{reply_to, events_answers, count_after}
use Rattle.bus_capture.specs.Stream.{Stream, stream_of, answered_of, fed_events, is_full, ran_of, left_of}
use Rattle.bus_capture.specs.Parts.{part_events}
use Rattle.bus_capture.specs.Turns.{ran_part}
use Rattle.bus_capture.specs.Kept.{Fed, Together}

-- the stream behind a list of events, all at once
abbrev pub through : Stream → List Numbers → Stream
through t l = record { lent = lent_through l t.lent; lines = count_after t.lines l; out = t.out ++ events_answers t.lines t.lent l }

pub fed_is : (l : List Numbers) (t : Stream) → fed_events t l ≡ through t l
unfolding answered_of
fed_is [] t = ap (λ (o : List ℕ). record { lent = t.lent; lines = t.lines; out = o }) (sym (append-nil t.out))
fed_is (n ∷ l) t =
    let m = line_count t.lines in
    fed_is l (answered_of t n)
    ∙ ap (λ (o : List ℕ). record { lent = lent_through l (lent_after n t.lent); lines = count_after m l; out = o })
    (append_assoc t.out (line_answer m (reply_to n t.lent)) (events_answers m (lent_after n t.lent) l))

-- as many as fit, and then those that are left
pub left_joins : (l : List Numbers) (t : Stream) → fed_events (ran_of t l) (left_of t l) ≡ fed_events t l
unfolding ran_of left_of
left_joins [] t = refl
left_joins (n ∷ l) t = at_test (is_full t) (left_joins l (answered_of t n))
  where
    at_test : (e : Bool) → fed_events (ran_of (answered_of t n) l) (left_of (answered_of t n) l) ≡ fed_events (answered_of t n) l
        → fed_events (if e then t else (ran_of (answered_of t n) l)) (if e then n ∷ l else (left_of (answered_of t n) l)) ≡ fed_events (answered_of t n) l
    at_test true h = refl
    at_test false h = h

-- whatever the part, the session, the file and the output
pub turn_joins : {part file out file' out' : List ℕ} {s : Session Sample} {r : Turn Sample} → Fed part s file out r file' out' → Together part s file r file' out'
turn_joins {part} {file} {out} {file'} {out'} {s} {r} f =
    let t = stream_of s file [] in
    let u = ran_part s file part in
    let m = to_come r.session.at part r.used in
    let e : through u m ≡ through t (part_events s part) =
    sym (fed_is m u) ∙ rw f.left (left_joins (part_events s part) t) ∙ fed_is (part_events s part) t in
    let c : r.session.chain ≡ u.lent.chain = ap (λ (x : Turn Sample). x.session.chain) f.is in
    let n : r.session.lines ≡ u.lines = ap (λ (x : Turn Sample). x.session.lines) f.is in
    record {
      puts = rw (f.puts, f.keeps, c, n) (ap (λ (v : Stream). v.out) e);
      lent = rw (f.keeps, c) (ap (λ (v : Stream). v.lent) e);
      lines = rw n (ap (λ (v : Stream). v.lines) e);
      last = f.last;
    }
