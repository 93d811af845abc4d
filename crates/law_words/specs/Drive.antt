-- A drive as a unit on the cable: its own time, latch and words.
use Rattle.std.specs.Prelude.{ℕ, Bool, true, false}
use Rattle.pack_profile.specs.declared.Profile.{Profile}
use Rattle.drive_record.specs.declared.Body.{Body}
use Rattle.drive_record.specs.declared.Outcome.{Outcome}
use Rattle.drive_record.specs.declared.Outcome.TheVariants.{Done, Inhibited, Fault}
use Rattle.drive_record.specs.Faults.{latch_bit}
use Rattle.drive_record.specs.Status.{calm_b}
use Rattle.drive_rules.specs.Time.{pass_body}
use Rattle.word_rules.specs.declared.Carried as word
use Rattle.word_rules.specs.Rules.{carry_of}
use Rattle.law_exchange.specs.Unit.{UnitCarried, Rules}

abbrev pub is_fault : Outcome → Bool
is_fault Done = false
is_fault Inhibited = false
is_fault Fault = true

abbrev pub carried_by : word.Carried → UnitCarried Body
carried_by c = record { body = c.body; told = c.told; fails = is_fault c.outcome }

abbrev pub drive : Profile → Rules Body
drive p = record {
  pass = λ (us : ℕ) (b : Body). pass_body (record { 0 = us }) b;
  calm = calm_b;
  fault = latch_bit 6;
  carry = λ (n : ℕ) (b : Body). carried_by (carry_of p b n);
}
