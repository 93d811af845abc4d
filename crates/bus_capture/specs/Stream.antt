-- The runner as a function of events, an event at a time, and how many of them it takes before the output is full.
use Rattle.std.specs.Prelude.{ℕ, ◌+◌, Bool, List, [], ◌∷◌, ◌++◌, length, nat_lt}
use Rattle.std.specs.Prelude.{if◌then◌else◌}
use Rattle.event.specs.Numbers.{Numbers}
use Rattle.capture_samples.specs.declared.Sample.{Sample}
use Rattle.capture_events.specs.Coming.{reached_by}
use Rattle.chain_step.specs.Run.{Lent, lent, lent_after}
use Rattle.bus_text.specs.AnswerLine.{longest_line}
use Rattle.bus_reply.specs.Reply.{line_count, line_answer}
use Rattle.bus_output.specs.Output.{block_length}
use Rattle.bus_session.specs.declared.Session.{Session}
use Rattle.bus_capture.specs.Answers.{reply_to}

-- record and file, how many events were answered, and the bytes that were put out
pub record Stream : Type 0 where
  pub lent : Lent
  pub lines : ℕ
  pub out : List ℕ

abbrev pub stream_of : Session Sample → List ℕ → List ℕ → Stream
stream_of s file out = record { lent = lent s.chain file; lines = s.lines; out = out }

-- an event carried out, its answer line put behind the bytes put out
unfoldable pub answered_of : Stream → Numbers → Stream
answered_of t n = record {
  lent = lent_after n t.lent;
  lines = line_count t.lines;
  out = t.out ++ line_answer (line_count t.lines) (reply_to n t.lent);
}

-- the stream behind a list of events
abbrev pub fed_events : Stream → List Numbers → Stream
fed_events t [] = t
fed_events t (n ∷ l) = fed_events (answered_of t n) l

-- whether the next answer might not fit
abbrev pub is_full : Stream → Bool
is_full t = nat_lt block_length (length t.out + longest_line)

-- the stream behind as many of them as fit
unfoldable pub ran_of : Stream → List Numbers → Stream
ran_of t [] = t
ran_of t (n ∷ l) = if is_full t then t else (ran_of (answered_of t n) l)

-- and those that are left
unfoldable pub left_of : Stream → List Numbers → List Numbers
left_of t [] = []
left_of t (n ∷ l) = if is_full t then n ∷ l else (left_of (answered_of t n) l)

-- and what is reached by those that fit
unfoldable pub reached_of : Stream → List Numbers → Sample → Sample
reached_of t [] at = at
reached_of t (n ∷ l) at = if is_full t then at else (reached_of (answered_of t n) l (reached_by n at))
