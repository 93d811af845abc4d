-- A drive keeps the laws of a unit.
use Prim.Native.Nat.{ℕ}
use mathlib.Core.Path.{◌≡◌, refl}
use Rattle.std.specs.Prelude.{if◌then◌else◌, Result, Ok, Err}
use Rattle.pack_profile.specs.declared.Profile.{Profile}
use Rattle.drive_record.specs.declared.Body.{Body}
use Rattle.word_table.specs.declared.Effect.{Effect}
use Rattle.word_table.specs.declared.Effect.TheVariants.{Status, Configuration, Does}
use Rattle.word_table.specs.declared.WordFault.{WordFault}
use Rattle.word_table.specs.Effect.{effect_of}
use Rattle.word_rules.specs.Rules.{done_of, carry_of}
use Rattle.word_rules.proofs.WordLaws.{told_calm}
use Rattle.event.specs.Answer.{answer_number}
use Rattle.chain_decision.specs.Decision.{outcome_answer}
use Rattle.law_drive.proofs.DriveTime.{calm_stays, body_twice, body_zero}
use Rattle.law_exchange.proofs.UnitLaws.{Laws}
use Rattle.law_words.specs.Drive.{is_fault, drive}

pub drive_laws : (p : Profile) → Laws (drive p)
drive_laws p = record {
  pass_zero = body_zero;
  pass_pass = λ s t b. body_twice (record { 0 = s }) (record { 0 = t }) b;
  pass_calm = λ t b. calm_stays (record { 0 = t }) b;
  told_calm = λ n r b c h. told_calm p b n r c h;
}

-- a word is done or a fault, and never inhibited
done_answer : (p : Profile) (b : Body) (e : Result Effect WordFault) → answer_number (outcome_answer (done_of p b e).outcome) ≡ (if is_fault (done_of p b e).outcome then 5 else 0)
unfolding done_of
done_answer p b (Err fault) = refl
done_answer p b (Ok Status) = refl
done_answer p b (Ok (Configuration modifier)) = refl
done_answer p b (Ok (Does act)) = refl

pub carry_answer : (p : Profile) (b : Body) (n : ℕ) → answer_number (outcome_answer (carry_of p b n).outcome) ≡ (if is_fault (carry_of p b n).outcome then 5 else 0)
unfolding carry_of
carry_answer p b n = done_answer p b (effect_of p b n)
