-- What the functions leave in the lent output, beside what they return.
use Rattle.std.specs.Prelude.{◌≡◌, ℕ, ◌<◌, ◌≤◌, List, [], length, take, drop}
use Rattle.bus_text.specs.Stored.{over}
use Rattle.bus_output.specs.Output.{block_length}
use Rattle.bus_text.specs.declared.Scan.{Scan}
use Rattle.bus_session.specs.declared.Session.{Session}
use Rattle.bus_session.specs.declared.Waiting.{Waiting}
use Rattle.bus_session.specs.declared.Turn.{Turn}
use Rattle.bus_stream.specs.Stream.{stream_of, answered_of, closed_of}
use Rattle.bus_stream.specs.Parts.{ran_of, turn_of}

-- a line answered: the stream whose bytes put out are those that wait; the output behind them is kept
pub record Answers (s : Session Scan) (file out : List ℕ) (at : ℕ) (r : Waiting Scan) (file' out' : List ℕ) : Type 0 where
  pub is : stream_of r.session file' (take r.at out') ≡ answered_of (stream_of s file (take at out))
  pub rest : drop r.at out' ≡ drop r.at out
  pub further : at ≤ r.at
  pub within : r.at ≤ block_length
  pub holds : r.at ≤ length out'

-- a part run from an output with nothing waiting: the first three give all that is left; the others follow, for the caller's loop
pub record Fed (part : List ℕ) (s : Session Scan) (file out : List ℕ) (r : Turn Scan) (file' out' : List ℕ) : Type 0 where
  pub is : r ≡ turn_of (stream_of s file []) part
  pub keeps : file' ≡ (ran_of (stream_of s file []) part).file
  pub holds : out' ≡ over (ran_of (stream_of s file []) part).out out
  pub within : r.at ≤ block_length
  pub used : r.used ≤ length part
  pub goes : 0 < length part → 0 < r.used

-- the input ended, from an output with nothing waiting: the first three give all that is left
pub record Closes (s : Session Scan) (file out : List ℕ) (r : ℕ) (file' out' : List ℕ) : Type 0 where
  pub is : r ≡ length (closed_of (stream_of s file [])).out
  pub keeps : file' ≡ (closed_of (stream_of s file [])).file
  pub holds : out' ≡ over (closed_of (stream_of s file [])).out out
  pub within : r ≤ block_length
