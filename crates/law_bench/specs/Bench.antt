-- The bench, over what is exported: "as if those waits had passed and the whole word had then been handed to the plain word rules at once".
use Rattle.std.specs.Prelude.{ℕ, ◌+◌, ◌≤◌, ◌≡◌, List, [], ◌∷◌, Option, Some, None}
use Rattle.std.specs.Prelude.{if◌then◌else◌}
use Rattle.lines.specs.Lines.{with_command}
use Rattle.drive_record.specs.Status.{complete_b}
use Rattle.word_rules.specs.declared.Answered.{Answered}
use Rattle.chain_record.specs.declared.Chain.{Chain}
use Rattle.event.specs.Numbers.{Numbers}
use Rattle.chain_step.specs.Run.{Lent, run}
use Rattle.chain_decision.specs.Decision.{outcome_answer}
use Rattle.c_pack.specs.declared.Coded.{Coded}
use Rattle.c_word.specs.Words.{word_code, slot_word}
use Rattle.law_exchange.specs.Host.{Sending, exchanges}
use Rattle.law_exchange.specs.Waits.{time_of, sent_time, fetch_time}
use Rattle.law_words.specs.Decided.{drive_of}
use Rattle.law_words.specs.AtOnce.{plain, passed, word, risen, sent, response_bits}
use Rattle.law_words.specs.Stepped.{stepped}
use Rattle.law_words.specs.Listed.{events_sent}

-- "6 | microseconds pass", one event each
abbrev pub pass_events : List ℕ → List Numbers
pass_events [] = []
pass_events (us ∷ rest) = record { kind = 6; a = us; b = 0 } ∷ pass_events rest

-- "0..65,535"
abbrev pub Spans : List ℕ → Type 0
Spans [] = Unit
Spans (us ∷ rest) = (us ≤ 65_535) × Spans rest

abbrev pub total : List ℕ → ℕ
total [] = 0
total (us ∷ rest) = us + total rest

-- all of a record but the level of the command data line
abbrev pub with_level : ℕ → Chain → Chain
with_level level c = record { packs = c.packs; states = c.states; lines = with_command level c.lines; length = c.length }

module _ (w : Sending) (d : Lent) where
  abbrev pub told_time : Option ℕ → ℕ
  told_time None = sent_time w.first w.more
  told_time (Some r) = sent_time w.first w.more + fetch_time w.gaps

  -- the waits: all of them, or those before the first rise where the drive is then still busy and the sending stops
  abbrev pub bench_time : ℕ
  bench_time = if complete_b (drive_of (risen w d)) then told_time (plain (word w d) (sent w d)).told else time_of w.first.low

  -- the word given to the selected slot when events of kind 6 have passed, by what C calls
  abbrev pub bench_word : List ℕ → Coded Chain
  bench_word us = slot_word (run (pass_events us) d).lent.chain d.chain.lines.select (word w d)

  -- what the plain word rules answer there
  abbrev pub bench_answer : Answered
  bench_answer = plain (word w d) (passed bench_time d.chain)

  -- bits by events, and events of kind 6 and then one call: record but for the data level, file, response and answer
  pub record SameAsBench (us : List ℕ) : Type 0 where
    pub chain : (run (events_sent w d) d).lent.chain ≡ with_level (run (events_sent w d) d).lent.chain.lines.command (bench_word us).lent
    pub file : (run (events_sent w d) d).lent.file ≡ (run (pass_events us) d).lent.file
    pub code : (bench_word us).code ≡ word_code (outcome_answer bench_answer.outcome) bench_answer.told
    pub response : (exchanges stepped w d).response ≡ response_bits w d bench_answer.told
