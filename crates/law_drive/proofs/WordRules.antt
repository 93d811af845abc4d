-- The plain word rules keep a sound drive sound, selected or not.
use mathlib.Core.Path.{◌≡◌, refl, ap, ◌∙◌}
use mathlib.Core.Bool.{Bool, true, false, ◌||◌}
use Prim.Native.Nat.{ℕ}
use native.Mathlib.Omega.{arith}
use lib.Dec.{eqb}
use borrow.Author.Tests.{leb-true, eqb-false}
use Rattle.counts.specs.declared.Head.{Head}
use Rattle.counts.proofs.Choice.{by_test}
use Rattle.pack_profile.specs.declared.Profile.{Profile}
use Rattle.pack_profile.specs.Valid.{valid_b}
use Rattle.drive_record.specs.declared.State.{State}
use Rattle.drive_record.specs.State.{state_of}
use Rattle.drive_record.proofs.WithinLimits.{parts}
use Rattle.word_rules.specs.declared.Answered.{Answered}
use Rattle.word_rules.specs.Rules.{carry_of, refuses_b, plain_of}
use Rattle.word_rules.proofs.WordLaws.{word_leaves}
use Rattle.word_rules.proofs.WordLimits.{limits_kept}
use Rattle.lines.specs.declared.Lines.{Lines}
use Rattle.drive_cable.specs.SoundDrive.{drive_sound_b}
use Rattle.drive_cable.proofs.OnCable.{selected}
use Rattle.law_drive.proofs.SoundDrives.{unselected, from_unselected, sound_parts}
use Rattle.law_drive.proofs.Gates.{both_off, flag, neither}
use Rattle.law_drive.proofs.ConditionRules.{latched_sound}

module _ (p : Profile) (v : valid_b p ≡ true) (l : Lines) (s : State) where
  -- a word carried out on a drive that neither reads nor writes
  given_sound : (on : Bool) (n : ℕ) → s.body.writing ≡ 0 → s.body.reading ≡ 0 → drive_sound_b p l on s ≡ true
      → drive_sound_b p l on (state_of (carry_of p s.body n).body s.transfer) ≡ true
  given_sound true n w r sound =
      let f = selected p l s sound in
      let e = word_leaves p s.body n in
      neither p l (state_of (carry_of p s.body n).body s.transfer) (parts p _ (limits_kept p v s.body n f.limits))
      (ap (λ (x : Head). x.0) e.head ∙ f.head) f.left (e.writing w) (e.reading ∙ r)
  given_sound false n w r sound =
      let u = unselected p l s sound in
      let e = word_leaves p s.body n in
      from_unselected p l _ (record {
        limits = limits_kept p v s.body n u.limits;
        none = u.none;
        writing = e.writing w;
        reading = e.reading ∙ r;
      })

  pub plain_keeps : (on : Bool) (n : ℕ) → drive_sound_b p l on s ≡ true → drive_sound_b p l on (plain_of p s n).state ≡ true
  unfolding plain_of
  plain_keeps on n sound =
      by_test (λ (a : Answered). drive_sound_b p l on a.state ≡ true) (refuses_b s) _ _
      (λ _. latched_sound p v l s on 6 (omega arith) refl sound)
      (λ free.
      let q = sound_parts p l on s sound in
      let f = both_off (eqb s.body.reading 1) (eqb s.body.writing 1) (both_off (eqb s.body.reading 1 || eqb s.body.writing 1) _ free).0 in
      given_sound on n (flag _ (leb-true _ _ q.writing) (eqb-false _ _ f.1)) (flag _ (leb-true _ _ q.reading) (eqb-false _ _ f.0)) sound)
