-- "Refusals 19 to 25 change nothing and are tried in that order": what three numbers come to on any record and any length of file.
use Rattle.std.specs.Prelude.{ℕ, not, eqb, Result, Ok, Err}
use Rattle.std.specs.Prelude.{if◌then◌else◌}
use Rattle.event.specs.declared.Event.{Event}
use Rattle.event.specs.declared.Undecoded.{Undecoded}
use Rattle.event.specs.declared.Undecoded.TheVariants.{Unknown, Range}
use Rattle.event.specs.declared.Answer.TheVariants.{UnknownKind, OutOfRange, Malformed, WrongLength}
use Rattle.event.specs.Decode.{decode_of}
use Rattle.chain_decision.specs.declared.Decision.{Decision}
use Rattle.chain_decision.specs.Decision.{say_of}
use Rattle.chain_record.specs.declared.Chain.{Chain}
use Rattle.chain_sound.specs.SoundChain.{chain_sound_b}
use Rattle.chain_decide.specs.Decide.{decide_of}

-- "22 chain record malformed", "23 lent file's length isn't the record's"; 24 and 25 are decided behind them
unfoldable pub allowed_of : Chain → ℕ → Event → Decision
allowed_of c long e =
    if not (chain_sound_b c) then say_of c.lines Malformed
    else (if not (eqb long c.length.0) then say_of c.lines WrongLength
    else decide_of c e)

-- "20 unknown kind", "21 operand out of range"
abbrev pub decoded_of : Chain → ℕ → Result Event Undecoded → Decision
decoded_of c long (Ok e) = allowed_of c long e
decoded_of c long (Err Unknown) = say_of c.lines UnknownKind
decoded_of c long (Err Range) = say_of c.lines OutOfRange

unfoldable pub judged_of : Chain → ℕ → ℕ → ℕ → ℕ → Decision
judged_of c long kind a b = decoded_of c long (decode_of kind a b)
