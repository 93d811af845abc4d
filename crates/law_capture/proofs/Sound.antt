-- A chain that is sound over its file stays so through any capture, and a capture that is refused leaves all as it was.
use mathlib.Core.Path.{◌≡◌}
use mathlib.Core.Bool.{false}
use mathlib.Core.List.{List}
use Prim.Native.Nat.{ℕ}
use lib.ListN.{length}
use Rattle.chain_record.specs.declared.Chain.{Chain}
use Rattle.chain_step.specs.Run.{Lent, lent}
use Rattle.capture_samples.specs.Samples.{capture_b, good_bytes}
use Rattle.capture_events.specs.Events.{capture_events}
use Rattle.std.specs.Prelude.{Result, Ok, Err}
use Rattle.capture_judge.specs.declared.Untaken.{Untaken}
use Rattle.capture_judge.specs.declared.Untaken.TheVariants.{NotCapture, NoRoom}
use Rattle.capture_judge.specs.Taking.{taking_of}
use Rattle.capture_run.specs.Captured.{ran_of, ran_or, captured_lent, captured_of, captured_file, captured_answers}
use Rattle.law_chain.specs.SoundOver.{SoundOver}
use Rattle.law_chain.proofs.Run.{run_sound}

by : (t : Result ℕ Untaken) (ran before : Lent) → SoundOver ran → SoundOver before → SoundOver (ran_or t ran before)
by (Ok n) ran before h k = h
by (Err (NotCapture place)) ran before h k = k
by (Err (NoRoom n)) ran before h k = k

pub capture_sound : (c : Chain) (file capture : List ℕ) (room : ℕ) → SoundOver (lent c file) → SoundOver (captured_lent c file capture room)
capture_sound c file capture room s =
    by (taking_of c.lines capture room) (ran_of c file capture).lent (lent c file) (run_sound (capture_events c.lines capture) (lent c file) s) s

-- "40 .. ahead of everything, chain and file as before": whatever the record, the file and the room
module _ (c : Chain) (file capture answers : List ℕ) (bad : capture_b capture ≡ false) where
  refused : taking_of c.lines capture (length answers) ≡ Err (NotCapture (good_bytes capture))
  unfolding taking_of
  refused = rw bad

  pub forty_leaves : (captured_of c file capture (length answers) ≡ record { chain = c; taking = Err (NotCapture (good_bytes capture)) })
      × (captured_file c file capture (length answers) ≡ file) × (captured_answers c file capture answers ≡ answers)
  unfolding captured_of captured_file captured_answers
  forty_leaves = (rw (captured_of, refused), rw (captured_file, refused), rw (captured_answers, refused))
