-- A capture run. Request 2: "The result is the chain, the pack file and each answer, equal to feeding the same events singly."
use Rattle.std.specs.Prelude.{ℕ, ◌+◌, ◌≡◌, List, [], ◌∷◌, ◌++◌, length, drop, set, Result, Ok, Err}
use Rattle.event.specs.declared.Answer.{Answer}
use Rattle.event.specs.Answer.{answer_number, answer_value}
use Rattle.chain_record.specs.declared.Chain.{Chain}
use Rattle.chain_step.specs.Run.{Lent, lent, step_by, lent_after, Ran, run}
use Rattle.capture_events.specs.Events.{event_of, capture_events}
use Rattle.capture_judge.specs.declared.Untaken.{Untaken}
use Rattle.capture_judge.specs.declared.Untaken.TheVariants.{NotCapture, NoRoom}
use Rattle.capture_run.specs.declared.Captured.{Captured}
use Rattle.capture_judge.specs.Taking.{taking_of}

-- an answer is two bytes: its number and its value
abbrev pub answer_bytes : List Answer → List ℕ
answer_bytes [] = []
answer_bytes (a ∷ rest) = answer_number a ∷ answer_value a ∷ answer_bytes rest

-- one answer, at a place
abbrev pub answer_put : List ℕ → ℕ → Answer → List ℕ
answer_put answers at a = set (set answers at (answer_number a)) (at + 1) (answer_value a)

-- an event fed, and its answer at a place
pub record Fed (c : Chain) (file answers : List ℕ) (at kind a : ℕ) (r : Chain) (file' answers' : List ℕ) : Type 0 where
  pub is : lent r file' ≡ lent_after (event_of kind a) (lent c file)
  pub says : answers' ≡ answer_put answers at (step_by (event_of kind a) (lent c file)).answer

-- "the same events singly"
abbrev pub ran_of : Chain → List ℕ → List ℕ → Ran
ran_of c file capture = run (capture_events c.lines capture) (lent c file)

-- the answers stand in front, and what stood behind them stays
abbrev pub answers_in : List Answer → List ℕ → List ℕ
answers_in said answers = answer_bytes said ++ drop (length (answer_bytes said)) answers

pub record RunThrough (c : Chain) (file capture answers : List ℕ) (r : Chain) (file' answers' : List ℕ) : Type 0 where
  pub is : lent r file' ≡ (ran_of c file capture).lent
  pub says : answers' ≡ answers_in (ran_of c file capture).answers answers

-- "chain and file as before" where it is refused, and the answers too
abbrev pub ran_or : {A : Type 0} → Result ℕ Untaken → A → A → A
ran_or (Ok n) ran before = ran
ran_or (Err (NotCapture place)) ran before = before
ran_or (Err (NoRoom n)) ran before = before

-- what is left of record and file, with so much room for the answers
abbrev pub captured_lent : Chain → List ℕ → List ℕ → ℕ → Lent
captured_lent c file capture room = ran_or (taking_of c.lines capture room) (ran_of c file capture).lent (lent c file)

unfoldable pub captured_of : Chain → List ℕ → List ℕ → ℕ → Captured
captured_of c file capture room = record { chain = (captured_lent c file capture room).chain; taking = taking_of c.lines capture room }

unfoldable pub captured_file : Chain → List ℕ → List ℕ → ℕ → List ℕ
captured_file c file capture room = (captured_lent c file capture room).file

unfoldable pub captured_answers : Chain → List ℕ → List ℕ → List ℕ → List ℕ
captured_answers c file capture answers =
    ran_or (taking_of c.lines capture (length answers)) (answers_in (ran_of c file capture).answers answers) answers
