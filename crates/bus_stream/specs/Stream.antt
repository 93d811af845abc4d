-- The runner as a function of bytes, a byte at a time. Document 01, Runner: "reads event lines from standard input", "Each output line: ..".
use Rattle.std.specs.Prelude.{ℕ, List, [], ◌∷◌, ◌++◌, ◌==◌, Option}
use Rattle.std.specs.Prelude.{if◌then◌else◌}
use Rattle.chain_record.specs.declared.Chain.{Chain}
use Rattle.bus_text.specs.declared.Scan.{Scan}
use Rattle.bus_text.specs.declared.Numbers.{Numbers}
use Rattle.bus_text.specs.TextBytes.{newline}
use Rattle.bus_text.specs.Scan.{fresh_scan, fed_of, finish_of, has_byte_of}
use Rattle.bus_reply.specs.Reply.{reply_of, reply_file, line_count, line_answer}
use Rattle.bus_session.specs.declared.Session.{Session}
use Rattle.bus_session.specs.Session.{session_of}

-- a session, the pack file in memory, and the bytes that were put out
pub record Stream : Type 0 where
  pub session : Session Scan
  pub file : List ℕ
  pub out : List ℕ

abbrev pub stream_of : Session Scan → List ℕ → List ℕ → Stream
stream_of s file out = record { session = s; file = file; out = out }

abbrev pub opened_of : Chain → Session Scan
opened_of c = session_of c fresh_scan 0

-- a line at its end: the event carried out, its answer line put behind the bytes put out, and the next line begun
abbrev pub replied_of : Chain → ℕ → List ℕ → List ℕ → Option Numbers → Stream
replied_of c lines file out line =
    let r = reply_of c file line in
    stream_of (session_of r.chain fresh_scan (line_count lines)) (reply_file c file line) (out ++ line_answer (line_count lines) r)

unfoldable pub answered_of : Stream → Stream
answered_of t = replied_of t.session.chain t.session.lines t.file t.out (finish_of t.session.at)

-- the line that is being read, read further
abbrev pub scanned_of : Stream → Scan → Stream
scanned_of t scan = stream_of (session_of t.session.chain scan t.session.lines) t.file t.out

-- "event lines": a newline ends the line, any other byte is the line's
unfoldable pub fed_byte : Stream → ℕ → Stream
fed_byte t b = if b == newline then answered_of t else (scanned_of t (fed_of t.session.at b))

-- the stream behind a list of bytes
abbrev pub fed_bytes : Stream → List ℕ → Stream
fed_bytes t [] = t
fed_bytes t (b ∷ l) = fed_bytes (fed_byte t b) l

-- "the last newline may be missing": a line that has a byte is answered at the end of the input
unfoldable pub closed_of : Stream → Stream
closed_of t = if has_byte_of t.session.at then answered_of t else t

-- all that is put out for a whole text
abbrev pub answers_of : Chain → List ℕ → List ℕ → List ℕ
answers_of c file text = (closed_of (fed_bytes (stream_of (opened_of c) file []) text)).out
