-- The other side: the waits pass on every drive, and the plain word rules take the whole word at once.
use Rattle.std.specs.Prelude.{ℕ, ◌+◌, ◌≡◌, true, false, List, [], ◌∷◌, length, Option, Some, None}
use Rattle.std.specs.Prelude.{if◌then◌else◌}
use Rattle.handshake.specs.Transfer.{word_bits, open_b}
use Rattle.drive_record.specs.Status.{complete_b}
use Rattle.word_rules.specs.declared.Answered.{Answered}
use Rattle.word_rules.specs.Rules.{plain_of}
use Rattle.event.specs.declared.Event.TheVariants.{Pass}
use Rattle.event.specs.declared.Answer.TheVariants.{Taken, Fault}
use Rattle.event.specs.Answer.{answer_number}
use Rattle.chain_record.specs.declared.Chain.{Chain}
use Rattle.chain_record.specs.Record.{look_of}
use Rattle.chain_decision.specs.Decision.{outcome_answer}
use Rattle.lines.specs.Lines.{with_command}
use Rattle.chain_decide.specs.Decide.{decide_of}
use Rattle.chain_apply.specs.Apply.{put_of, applied}
use Rattle.chain_sound.specs.SoundChain.{chain_sound_b}
use Rattle.law_exchange.specs.Host.{Sending, Exchanged}
use Rattle.law_exchange.specs.Waits.{level_of, sent_level, fetch_level, sent_word, bits_of, time_of, sent_time, fetch_time, sent_count, fetch_count}
use Rattle.law_exchange.specs.UnitAtOnce.{zeros}
use Rattle.chain_step.specs.Run.{Lent}
use Rattle.law_words.specs.Decided.{drive_of}

-- a sound chain with a fitted drive selected, both gates off, request low, and no transfer open
pub record Resting (c : Chain) : Type 0 where
  pub sound : chain_sound_b c ≡ true
  pub selected : (look_of c).selected ≡ true
  pub writegate : c.lines.writegate ≡ 0
  pub readgate : c.lines.readgate ≡ 0
  pub request : c.lines.request ≡ 0
  pub closed : open_b (drive_of c).transfer ≡ false

-- "microseconds pass", as many as the waits are together
abbrev pub passed : ℕ → Chain → Chain
passed us c = applied c (decide_of c (Pass (record { 0 = us })))

-- "given a drive and a word with its parity bit at once"
abbrev pub plain : ℕ → Chain → Answered
plain n c = plain_of (look_of c).profile (drive_of c) n

-- the selected drive as the plain word rules leave it, and the command data level; nothing else of the record
abbrev pub given : ℕ → ℕ → Chain → Chain
given n level c = record {
  packs = c.packs;
  states = put_of c.states c.lines.select (plain n c).state;
  lines = with_command level c.lines;
  length = c.length;
}

module _ (w : Sending) (d : Lent) where
  -- the data level before
  abbrev pub level : ℕ
  level = d.chain.lines.command

  -- the word sent
  abbrev pub word : ℕ
  word = sent_word level w

  -- the chain at the first rise
  abbrev pub risen : Chain
  risen = passed (time_of w.first.low) d.chain

  -- and when the word has been sent, its response fetched
  abbrev pub sent : Chain
  sent = passed (sent_time w.first w.more) d.chain

  abbrev pub fetched : Chain
  fetched = passed (sent_time w.first w.more + fetch_time w.gaps) d.chain

  abbrev pub last_level : ℕ
  last_level = sent_level level (w.first ∷ w.more)

  -- not complete at the first rise: bit 6, answered 5; request falls at once, and no later wait counts
  abbrev pub refused : Exchanged Lent
  refused = record {
    now = record { chain = given word (level_of level w.first.low) risen; file = d.file };
    answers = answer_number Taken ∷ answer_number Fault ∷ zeros (length w.first.low) [];
    response = None;
  }

  -- the chain when the waits have passed, those of the fetch too where the word has a response
  abbrev pub waited : Option ℕ → Chain
  waited None = sent
  waited (Some r) = fetched

  -- the chain that the plain word rules are called on: every wait has passed
  abbrev pub called_on : Chain
  called_on = waited (plain word sent).told

  abbrev pub level_left : Option ℕ → ℕ
  level_left None = last_level
  level_left (Some r) = fetch_level last_level w.gaps

  -- 0 at every event but perhaps the 17th fall
  abbrev pub answers_given : ℕ → Option ℕ → List ℕ
  answers_given fall None = fall ∷ zeros (sent_count w.first w.more) []
  answers_given fall (Some r) = zeros (fetch_count w.gaps) (fall ∷ zeros (sent_count w.first w.more) [])

  -- seventeen bits, parity last
  abbrev pub response_bits : Option ℕ → Option (List ℕ)
  response_bits None = None
  response_bits (Some r) = Some (bits_of word_bits r)

  -- what one call on a chain gives: the record, the file, the answers and the response
  abbrev pub called : Chain → Answered → Exchanged Lent
  called c a = record {
    now = record { chain = given word (level_left a.told) c; file = d.file };
    answers = answers_given (answer_number (outcome_answer a.outcome)) a.told;
    response = response_bits a.told;
  }

  abbrev pub at_once : Exchanged Lent
  at_once = if complete_b (drive_of risen) then called called_on (plain word called_on) else refused
