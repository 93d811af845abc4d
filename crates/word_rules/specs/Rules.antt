-- A word carried out, and the plain word rules.
use Rattle.std.specs.Prelude.{ℕ, Bool, ◌||◌, not, eqb, Option, Some, None, Result, Ok, Err}
use Rattle.std.specs.Prelude.{if◌then◌else◌}
use Rattle.pack_profile.specs.declared.Profile.{Profile}
use Rattle.pack_profile.specs.declared.Times.{Times}
use Rattle.drive_record.specs.declared.Body.{Body}
use Rattle.drive_record.specs.declared.State.{State}
use Rattle.drive_record.specs.declared.Outcome.{Outcome}
use Rattle.drive_record.specs.declared.Outcome.TheVariants.{Done, Fault}
use Rattle.drive_record.specs.State.{state_of}
use Rattle.drive_record.specs.Faults.{latch_of, latch_bit}
use Rattle.drive_record.specs.Status.{complete_b, status_of}
use Rattle.word_acts.specs.declared.Act.{Act}
use Rattle.word_acts.specs.Acts.{acted_of}
use Rattle.word_table.specs.declared.Effect.{Effect}
use Rattle.word_table.specs.declared.Effect.TheVariants.{Status, Configuration, Does}
use Rattle.word_table.specs.declared.WordFault.{WordFault}
use Rattle.word_table.specs.Word.{with_parity}
use Rattle.word_table.specs.Effect.{bit_of, effect_of}
use Rattle.word_rules.specs.declared.Carried.{Carried}
use Rattle.word_rules.specs.declared.Answered.{Answered}
use Rattle.word_rules.specs.Responses.{configuration_of}

abbrev pub carried_as : Outcome → Option ℕ → Body → Carried
carried_as o t b = record { body = b; told = t; outcome = o }

abbrev pub answered : Outcome → Option ℕ → State → Answered
answered o t s = record { state = s; told = t; outcome = o }

-- "A faulted word does nothing else and has no response."
abbrev pub failing : ℕ → Body → Carried
failing value b = carried_as Fault None (latch_of value b)

-- "response": a word with its parity
abbrev pub saying : ℕ → Body → Carried
saying w b = carried_as Done (Some (with_parity w)) b

abbrev pub doing : Times → Act → Body → Carried
doing t act b = carried_as Done None (acted_of t b act)

unfoldable pub done_of : Profile → Body → Result Effect WordFault → Carried
done_of p b (Err fault) = failing (bit_of fault) b
done_of p b (Ok Status) = saying (status_of p b) b
done_of p b (Ok (Configuration modifier)) = saying (configuration_of p b.sector modifier) b
done_of p b (Ok (Does act)) = doing p.times act b

-- "the word is carried out and any response is fixed"
unfoldable pub carry_of : Profile → Body → ℕ → Carried
carry_of p b n = done_of p b (effect_of p b n)

-- "on a drive that reads or writes, or with command complete false"
abbrev pub refuses_b : State → Bool
refuses_b s = eqb s.body.reading 1 || eqb s.body.writing 1 || not (complete_b s)

-- "they latch bit 6 and stop": a fault rule
abbrev pub refused_plain : State → Answered
refused_plain s = answered Fault None (state_of (latch_bit 6 s.body) s.transfer)

abbrev pub answering : State → Carried → Answered
answering s c = answered c.outcome c.told (state_of c.body s.transfer)

-- "given a drive and a word with its parity bit at once"
unfoldable pub plain_of : Profile → State → ℕ → Answered
plain_of p s n = if refuses_b s then refused_plain s else answering s (carry_of p s.body n)
