-- The chain and the file that a text leaves are those of `run` over its events: the same `run` that the theorems on chains speak of.
use Rattle.std.proofs.Common.{◌≡◌, ℕ, Bool, true, false, eqb, List, [], ◌∷◌, ◌++◌, sym, refl, ap, ◌∙◌, append-nil}
use Rattle.std.specs.Prelude.{if◌then◌else◌, Option, None, Some}
use Rattle.chain_record.specs.declared.Chain.{Chain}
use Rattle.event.specs.Numbers.{Numbers}
use Rattle.chain_step.specs.Run.{Lent, lent, lent_through, run}
use Rattle.bus_text.specs.declared.Scan.{Scan}
use Rattle.bus_text.specs.declared as text
use Rattle.bus_text.specs.TextBytes.{newline}
use Rattle.bus_text.specs.Whole.{line_of}
use Rattle.bus_text.specs.Scan.{fresh_scan, fed_of, fed_all}
use Rattle.bus_text.proofs.Reading.{byte_seen}
use Rattle.bus_reply.specs.Reply.{reply_of, reply_file, line_count, line_answer}
use Rattle.bus_session.specs.Session.{session_of}
use Rattle.bus_stream.specs.Stream.{Stream, stream_of, opened_of, answered_of, scanned_of, fed_byte, fed_bytes, closed_of}
use Rattle.bus_stream.specs.EventLines.{on_first, split_lines}
use Rattle.bus_stream.specs.LineEvents.{event_on, events_in}
use Rattle.bus_stream.proofs.Whole.{begun, begun_none, begun_more, fed_more, reading, answered_is}

abbrev lent_of : Stream → Lent
lent_of t = lent t.session.chain t.file

-- a line's reply is its event, or leaves all
reply_runs : (l : Option text.Numbers.Numbers) (rest : List Numbers) (c : Chain) (file : List ℕ)
    → lent_through rest (lent (reply_of c file l).chain (reply_file c file l)) ≡ lent_through (event_on l rest) (lent c file)
reply_runs (Some n) rest c file = refl
reply_runs None rest c file = refl

abbrev Runs : List ℕ → Type 0
Runs text = (w : List ℕ) (n : ℕ) (c : Chain) (file out : List ℕ)
    → lent_of (closed_of (fed_bytes (reading w n c file out) text)) ≡ lent_through (events_in (begun w (split_lines text))) (lent c file)

runs_end : Runs []
unfolding closed_of split_lines
runs_end [] n c file out = refl
runs_end (x ∷ w) n c file out = simp (byte_seen (x ∷ w), answered_is (x ∷ w) n c file out) (reply_runs (line_of (x ∷ w)) [] c file)

runs_byte : (e : Bool) (b : ℕ) (l : List ℕ) → Runs l → (w : List ℕ) (n : ℕ) (c : Chain) (file out : List ℕ)
    → lent_of (closed_of (fed_bytes (if e then answered_of (reading w n c file out) else (scanned_of (reading w n c file out) (fed_of (fed_all fresh_scan w) b))) l))
    ≡ lent_through (events_in (begun w (if e then [] ∷ split_lines l else (on_first b (split_lines l))))) (lent c file)
runs_byte true b l k w n c file out =
    let r = reply_of c file (line_of w) in
    ap (λ (t : Stream). lent_of (closed_of (fed_bytes t l))) (answered_is w n c file out)
    ∙ k [] (line_count n) r.chain (reply_file c file (line_of w)) (out ++ line_answer (line_count n) r)
    ∙ ap (λ (ls : List (List ℕ)). lent_through (events_in ls) (lent r.chain (reply_file c file (line_of w)))) (begun_none (split_lines l))
    ∙ reply_runs (line_of w) (events_in (split_lines l)) c file
    ∙ ap (λ (v : List ℕ). lent_through (event_on (line_of v) (events_in (split_lines l))) (lent c file)) (sym (append-nil w))
runs_byte false b l k w n c file out =
    ap (λ (s : Scan). lent_of (closed_of (fed_bytes (stream_of (session_of c s n) file out) l))) (sym (fed_more w fresh_scan b))
    ∙ k (w ++ (b ∷ [])) n c file out
    ∙ ap (λ (ls : List (List ℕ)). lent_through (events_in ls) (lent c file)) (begun_more w b (split_lines l))

runs : (text : List ℕ) → Runs text
unfolding fed_byte split_lines
runs [] = runs_end
runs (b ∷ l) = runs_byte (eqb b newline) b l (runs l)

-- any text, of any length, on any chain and file
pub text_runs : (c : Chain) (file text : List ℕ)
    → lent_of (closed_of (fed_bytes (stream_of (opened_of c) file []) text)) ≡ (run (events_in (split_lines text)) (lent c file)).lent
text_runs c file text =
    runs text [] 0 c file [] ∙ ap (λ (ls : List (List ℕ)). lent_through (events_in ls) (lent c file)) (begun_none (split_lines text))
