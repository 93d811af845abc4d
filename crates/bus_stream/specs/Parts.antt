-- A part of the input, and how much of it is used before the output is full.
use Rattle.std.specs.Prelude.{ℕ, ◌+◌, Bool, ◌&&◌, List, [], ◌∷◌, ◌++◌, length, ◌==◌, nat_lt}
use Rattle.std.specs.Prelude.{if◌then◌else◌}
use Rattle.bus_text.specs.TextBytes.{newline}
use Rattle.bus_text.specs.AnswerLine.{longest_line}
use Rattle.bus_output.specs.Output.{block_length}
use Rattle.bus_text.specs.declared.Scan.{Scan}
use Rattle.bus_session.specs.declared.Session.{Session}
use Rattle.bus_session.specs.declared.Turn.{Turn}
use Rattle.bus_stream.specs.Stream.{Stream, stream_of, fed_byte, fed_bytes, closed_of}

-- whether the next answer might not fit
abbrev pub is_full : Stream → Bool
is_full t = nat_lt block_length (length t.out + longest_line)

-- the part's bytes up to the first newline whose answer might not fit, all where each fits
unfoldable pub fitting_bytes : Stream → List ℕ → List ℕ
fitting_bytes t [] = []
fitting_bytes t (b ∷ l) = if b == newline && is_full t then [] else (b ∷ fitting_bytes (fed_byte t b) l)

-- the stream behind them
abbrev pub ran_of : Stream → List ℕ → Stream
ran_of t part = fed_bytes t (fitting_bytes t part)

abbrev pub turn_of : Stream → List ℕ → Turn Scan
turn_of t part = record { session = (ran_of t part).session; used = length (fitting_bytes t part); at = length (ran_of t part).out }

-- the whole input in parts, each run on what the one before left and from an output with nothing waiting, and then its end
abbrev pub parts_answers : Session Scan → List ℕ → List (List ℕ) → List ℕ
parts_answers s file [] = (closed_of (stream_of s file [])).out
parts_answers s file (p ∷ ps) =
    let t = fed_bytes (stream_of s file []) p in
    t.out ++ parts_answers t.session t.file ps
