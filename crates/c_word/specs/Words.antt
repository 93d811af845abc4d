-- "The plain word rules are these, given a drive and a word with its parity bit at once": the drive of a slot of the record.
use Rattle.std.specs.Prelude.{ℕ, ◌+◌, ◌*◌, not, ltb, Option, Some, None}
use Rattle.std.specs.Prelude.{if◌then◌else◌}
use Rattle.counts.specs.Slots.{slot_b}
use Rattle.pack_profile.specs.declared.Profile.{Profile}
use Rattle.drive_record.specs.declared.State.{State}
use Rattle.handshake.specs.Transfer.{largest}
use Rattle.word_rules.specs.Rules.{plain_of}
use Rattle.event.specs.declared.Answer.{Answer}
use Rattle.event.specs.declared.Answer.TheVariants.{Taken, OutOfRange, Malformed, Inapplicable}
use Rattle.event.specs.Answer.{answer_number}
use Rattle.chain_record.specs.declared.Chain.{Chain}
use Rattle.chain_decision.specs.declared.Change.TheVariants as change
use Rattle.chain_decision.specs.declared.Deed.TheVariants as deed
use Rattle.chain_decision.specs.Decision.{outcome_answer}
use Rattle.chain_record.specs.Record.{slot_pack, slot_state}
use Rattle.pack_read.specs.Packs.{fitted_b}
use Rattle.chain_apply.specs.Apply.{applied}
use Rattle.chain_sound.specs.SoundChain.{chain_sound_b}
use Rattle.c_pack.specs.declared.Coded.{Coded}
use Rattle.c_pack.specs.Code.{second_byte, high_half, refused}

-- the answer's number, 1 in the second byte where there is a response, and the response's seventeen bits in the high half
abbrev pub word_code : Answer → Option ℕ → ℕ
word_code answer None = answer_number answer
word_code answer (Some response) = answer_number answer + second_byte + response * high_half

-- the record with the state of a slot in place of what it was
abbrev pub state_in : Chain → ℕ → State → Chain
state_in c slot s = applied c (record { lines = c.lines; change = change.One slot s; word = None; deed = deed.Say Taken })

-- "5 a fault rule applied, even if its bit stood already", else "0 taken"
unfoldable pub sent_of : Chain → Profile → State → ℕ → ℕ → Coded Chain
sent_of c p s slot n = record { lent = state_in c slot (plain_of p s n).state; code = word_code (outcome_answer (plain_of p s n).outcome) (plain_of p s n).told }

-- "22 chain record malformed", "24 .. for an empty slot"
unfoldable pub word_at : Chain → ℕ → ℕ → Coded Chain
word_at c slot n =
    if not (chain_sound_b c) then refused c Malformed
    else (if not (fitted_b (slot_pack c.packs slot)) then refused c Inapplicable
    else sent_of c (slot_pack c.packs slot).profile (slot_state c.states slot) slot n)

-- "21 operand out of range": a slot is 1 to 7, a word with its parity seventeen bits
unfoldable pub slot_word : Chain → ℕ → ℕ → Coded Chain
slot_word c slot n =
    if not (slot_b slot) then refused c OutOfRange
    else (if ltb largest n then refused c OutOfRange
    else word_at c slot n)
