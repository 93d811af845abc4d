-- The other side: the waits pass, and the unit is given the whole word at once.
use Rattle.std.specs.Prelude.{ℕ, zero, suc, ◌+◌, List, [], ◌∷◌, length, Option, Some, None}
use Rattle.std.specs.Prelude.{if◌then◌else◌}
use Rattle.handshake.specs.Transfer.{word_bits, no_transfer}
use Rattle.event.specs.declared.Answer.TheVariants.{Taken, Fault}
use Rattle.event.specs.Answer.{answer_number}
use Rattle.law_exchange.specs.Host.{Sending, Exchanged, going, exchanged}
use Rattle.law_exchange.specs.Waits.{level_of, sent_level, fetch_level, sent_word, bits_of, time_of, sent_time, fetch_time, sent_count, fetch_count}
use Rattle.law_exchange.specs.Unit.{UnitCarried, Rules, Wired, wired}

-- so many answers "0 taken", on top of those given before
abbrev pub zeros : ℕ → List ℕ → List ℕ
zeros zero log = log
zeros (suc n) log = answer_number Taken ∷ zeros n log

-- no transfer open, request low
abbrev pub rests : {B : Type 0} → B → ℕ → ℕ → Wired B
rests b command elapsed = wired b no_transfer command 0 elapsed

-- the 17th fall's answer: "5 a fault rule applied" where the word faults
abbrev pub unit_fall_answer : {B : Type 0} → UnitCarried B → ℕ
unit_fall_answer c = if c.fails then answer_number Fault else answer_number Taken

module _ (w : Sending) (l : ℕ) where
  -- not complete at the first rise: that answers 5 and latches bit 6, request falls at once, and no later wait counts
  abbrev pub unit_refused : {B : Type 0} → B → Exchanged (Wired B)
  unit_refused b =
      exchanged (going (rests b (level_of l w.first.low) (time_of w.first.low)) (answer_number Taken ∷ answer_number Fault ∷ zeros (length w.first.low) [])) None

  abbrev pub unit_level : ℕ
  unit_level = sent_level l (w.first ∷ w.more)

  abbrev pub time : ℕ
  time = sent_time w.first w.more

  abbrev pub unit_answers : {B : Type 0} → UnitCarried B → List ℕ
  unit_answers c = unit_fall_answer c ∷ zeros (sent_count w.first w.more) []

  -- the word carried out at its 17th fall; a response is told bit by bit, its parity last
  abbrev pub done : {B : Type 0} → UnitCarried B → Option ℕ → Exchanged (Wired B)
  done c None = exchanged (going (rests c.body unit_level time) (unit_answers c)) None
  done c (Some r) =
      exchanged
      (going (rests c.body (fetch_level unit_level w.gaps) (time + fetch_time w.gaps)) (zeros (fetch_count w.gaps) (unit_answers c)))
      (Some (bits_of word_bits r))

  abbrev pub carries : {B : Type 0} → UnitCarried B → Exchanged (Wired B)
  carries c = done c c.told

-- the waits in front of the first rise pass; the unit as it then is takes the word, or refuses it
abbrev pub unit_given : {B : Type 0} → Rules B → Sending → ℕ → B → Exchanged (Wired B)
unit_given R w l b = if R.calm b then carries w l (R.carry (sent_word l w) b) else unit_refused w l (R.fault b)

abbrev pub unit_at_once : {B : Type 0} → Rules B → Sending → ℕ → B → Exchanged (Wired B)
unit_at_once R w l b = unit_given R w l (R.pass (time_of w.first.low) b)
