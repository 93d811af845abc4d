-- A capture in two parts: the sample at the cut ends the first and begins the second.
use Rattle.std.specs.Prelude.{ℕ, ◌≡◌, List, ◌++◌}
use Rattle.chain_step.specs.Run.{Lent, Ran}
use Rattle.capture_run.specs.Captured.{ran_of}

-- a capture run on what was left
abbrev pub ran_on : Lent → List ℕ → Ran
ran_on d capture = ran_of d.chain d.file capture

-- run in one, and run in two: the same record, the same file, each answer the same
pub record SameCut (front sample back : List ℕ) (d : Lent) : Type 0 where
  pub lent : (ran_on d (front ++ (sample ++ back))).lent ≡ (ran_on (ran_on d (front ++ sample)).lent (sample ++ back)).lent
  pub answers :
      (ran_on d (front ++ (sample ++ back))).answers
      ≡ (ran_on d (front ++ sample)).answers ++ (ran_on (ran_on d (front ++ sample)).lent (sample ++ back)).answers
