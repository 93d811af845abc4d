-- What the functions leave in the lent output and file, beside what they return.
use Rattle.std.specs.Prelude.{◌≡◌, ℕ, ◌+◌, ◌-◌, ◌<◌, ◌≤◌, List, [], ◌++◌, length, take, drop}
use Rattle.bus_text.specs.Stored.{over}
use Rattle.bus_text.specs.AnswerLine.{longest_line}
use Rattle.bus_output.specs.Output.{block_length}
use Rattle.capture_samples.specs.declared.Sample.{Sample}
use Rattle.capture_samples.specs.Samples.{sample_length, samples_of}
use Rattle.chain_step.specs.Run.{lent, lent_through}
use Rattle.capture_events.specs.declared.Ahead.{Ahead}
use Rattle.capture_events.specs.Events.{event_of}
use Rattle.capture_events.specs.Coming.{last_of, to_come}
use Rattle.bus_session.specs.declared.Session.{Session}
use Rattle.bus_session.specs.declared.Waiting.{Waiting}
use Rattle.bus_session.specs.declared.Turn.{Turn}
use Rattle.bus_capture.specs.Answers.{events_answers, count_after}
use Rattle.bus_capture.specs.Stream.{stream_of, answered_of, left_of}
use Rattle.bus_capture.specs.Parts.{part_events}
use Rattle.bus_capture.specs.Turns.{ran_part, turn_of}

-- an event answered: the stream whose bytes put out are those that wait; the output behind them is kept
pub record Answers (s : Session Sample) (e : Ahead) (file out : List ℕ) (at : ℕ) (r : Waiting Sample) (file' out' : List ℕ) : Type 0 where
  pub is : stream_of r.session file' (take r.at out') ≡ answered_of (stream_of s file (take at out)) (event_of e.kind e.a)
  pub reaches : r.session.at ≡ e.reached
  pub rest : drop r.at out' ≡ drop r.at out
  pub further : at ≤ r.at
  pub near : r.at ≤ at + longest_line
  pub holds : r.at ≤ length out'

-- a part run from an output with nothing waiting: the first three give all that is left; the others follow, for the caller's loop
pub record Fed (part : List ℕ) (s : Session Sample) (file out : List ℕ) (r : Turn Sample) (file' out' : List ℕ) : Type 0 where
  pub is : r ≡ turn_of s file part
  pub keeps : file' ≡ (ran_part s file part).lent.file
  pub holds : out' ≡ over (ran_part s file part).out out
  pub puts : take r.at out' ≡ (ran_part s file part).out
  -- the events that did not fit are still to come, over the rest of the part
  pub left : to_come r.session.at part r.used ≡ left_of (stream_of s file []) (part_events s part)
  -- and the part's last sample is still the last
  pub last : last_of r.session.at (samples_of (drop r.used part)) ≡ last_of s.at (samples_of part)
  pub within : r.at ≤ block_length
  pub used : r.used ≤ length part
  pub goes : sample_length ≤ length part → length (to_come r.session.at part r.used) + (length part - r.used) < length (part_events s part) + length part

-- what a turn leaves and what is still to come over the rest of the part are together the whole part
pub record Together (part : List ℕ) (s : Session Sample) (file : List ℕ) (r : Turn Sample) (file' out' : List ℕ) : Type 0 where
  pub puts :
      take r.at out' ++ events_answers r.session.lines (lent r.session.chain file') (to_come r.session.at part r.used)
      ≡ events_answers s.lines (lent s.chain file) (part_events s part)
  pub lent : lent_through (to_come r.session.at part r.used) (lent r.session.chain file') ≡ lent_through (part_events s part) (lent s.chain file)
  pub lines : count_after r.session.lines (to_come r.session.at part r.used) ≡ count_after s.lines (part_events s part)
  pub last : last_of r.session.at (samples_of (drop r.used part)) ≡ last_of s.at (samples_of part)

-- a part run up to a place, in turns: what is still to come from there comes to what the whole part does
pub record Threads (part : List ℕ) (s₀ : Session Sample) (file₀ : List ℕ) (i : ℕ) (s : Session Sample) (file : List ℕ) : Type 0 where
  pub lent : lent_through (to_come s.at part i) (lent s.chain file) ≡ lent_through (part_events s₀ part) (lent s₀.chain file₀)
  pub lines : count_after s.lines (to_come s.at part i) ≡ count_after s₀.lines (part_events s₀ part)
  pub last : last_of s.at (samples_of (drop i part)) ≡ last_of s₀.at (samples_of part)
