-- "Each output line: input line count, answer, value, and .. a sum": what is put out byte by byte is the answer lines of the text's lines.
use Rattle.std.proofs.Common.{◌≡◌, ℕ, Bool, true, false, eqb, List, [], ◌∷◌, ◌++◌, sym, refl, ap, ◌∙◌, append_assoc, append-nil}
use Rattle.std.specs.Prelude.{if◌then◌else◌, Option}
use Rattle.chain_record.specs.declared.Chain.{Chain}
use Rattle.bus_text.specs.TextBytes.{newline}
use Rattle.bus_text.specs.declared.Numbers.{Numbers}
use Rattle.bus_text.specs.declared.Scan.{Scan}
use Rattle.bus_text.specs.Whole.{line_of, has_any}
use Rattle.bus_text.specs.Scan.{fresh_scan, fed_of, fed_all}
use Rattle.bus_text.proofs.Reading.{line_read, byte_seen}
use Rattle.bus_reply.specs.Reply.{reply_of, reply_file, line_count, line_answer}
use Rattle.bus_session.specs.Session.{session_of}
use Rattle.bus_stream.specs.Stream.{Stream, stream_of, replied_of, answered_of, scanned_of, fed_byte, fed_bytes, closed_of, answers_of}
use Rattle.bus_stream.specs.EventLines.{on_first, split_lines, lines_answers}

-- the lines of a text whose first line has begun
abbrev pub begun : List ℕ → List (List ℕ) → List (List ℕ)
begun w [] = if has_any w then w ∷ [] else []
begun w (l ∷ ls) = (w ++ l) ∷ ls

pub begun_none : (ls : List (List ℕ)) → begun [] ls ≡ ls
begun_none [] = refl
begun_none (l ∷ ls) = refl

has_more : (w : List ℕ) (b : ℕ) → has_any (w ++ (b ∷ [])) ≡ true
has_more [] b = refl
has_more (x ∷ w) b = refl

pub begun_more : (w : List ℕ) (b : ℕ) (ls : List (List ℕ)) → begun (w ++ (b ∷ [])) ls ≡ begun w (on_first b ls)
begun_more w b [] = simp (has_more w b)
begun_more w b (l ∷ ls) = ap (λ (v : List ℕ). v ∷ ls) (append_assoc w (b ∷ []) l)

pub fed_more : (w : List ℕ) (s : Scan) (b : ℕ) → fed_all s (w ++ (b ∷ [])) ≡ fed_of (fed_all s w) b
fed_more [] s b = refl
fed_more (x ∷ w) s b = fed_more w (fed_of s x) b

-- a stream whose line has the bytes w
abbrev pub reading : List ℕ → ℕ → Chain → List ℕ → List ℕ → Stream
reading w n c file out = stream_of (session_of c (fed_all fresh_scan w) n) file out

abbrev Lined : List ℕ → Type 0
Lined text = (w : List ℕ) (n : ℕ) (c : Chain) (file out : List ℕ)
    → (closed_of (fed_bytes (reading w n c file out) text)).out ≡ out ++ lines_answers n c file (begun w (split_lines text))

pub answered_is : (w : List ℕ) (n : ℕ) (c : Chain) (file out : List ℕ) → answered_of (reading w n c file out) ≡ replied_of c n file out (line_of w)
unfolding answered_of
answered_is w n c file out = ap (λ (l : Option Numbers). replied_of c n file out l) (line_read w)

lined_end : Lined []
unfolding closed_of split_lines
lined_end [] n c file out = sym (append-nil out)
lined_end (x ∷ w) n c file out =
    simp (byte_seen (x ∷ w), answered_is (x ∷ w) n c file out) (ap (λ (l : List ℕ). out ++ l) (sym (append-nil (line_answer (line_count n) (reply_of c file (line_of (x ∷ w)))))))

lined_byte : (e : Bool) (b : ℕ) (l : List ℕ) → Lined l → (w : List ℕ) (n : ℕ) (c : Chain) (file out : List ℕ)
    → (closed_of (fed_bytes (if e then answered_of (reading w n c file out) else (scanned_of (reading w n c file out) (fed_of (fed_all fresh_scan w) b))) l)).out
    ≡ out ++ lines_answers n c file (begun w (if e then [] ∷ split_lines l else (on_first b (split_lines l))))
lined_byte true b l k w n c file out =
    let r = reply_of c file (line_of w) in
    let m = line_count n in
    ap (λ (t : Stream). (closed_of (fed_bytes t l)).out) (answered_is w n c file out)
    ∙ k [] m r.chain (reply_file c file (line_of w)) (out ++ line_answer m r)
    ∙ rw (begun_none (split_lines l), append-nil w, append_assoc out (line_answer m r))
lined_byte false b l k w n c file out =
    ap (λ (s : Scan). (closed_of (fed_bytes (stream_of (session_of c s n) file out) l)).out) (sym (fed_more w fresh_scan b))
    ∙ k (w ++ (b ∷ [])) n c file out ∙ rw (begun_more w b (split_lines l))

lined : (text : List ℕ) → Lined text
unfolding fed_byte split_lines
lined [] = lined_end
lined (b ∷ l) = lined_byte (eqb b newline) b l (lined l)

-- any text, of any length, on any chain and file
pub answers_by_lines : (c : Chain) (file text : List ℕ) → answers_of c file text ≡ lines_answers 0 c file (split_lines text)
answers_by_lines c file text = lined text [] 0 c file [] ∙ ap (λ (ls : List (List ℕ)). lines_answers 0 c file ls) (begun_none (split_lines text))
