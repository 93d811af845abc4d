-- A word keeps the limits of a drive whose profile is valid.
use mathlib.Core.Path.{◌≡◌, refl}
use mathlib.Core.Bool.{true}
use Prim.Native.Nat.{ℕ}
use native.Mathlib.Omega.{arith}
use Rattle.counts.proofs.Choice.{by_test}
use Rattle.std.specs.Prelude.{Result, Ok, Err}
use Rattle.pack_profile.specs.declared.Profile.{Profile}
use Rattle.pack_profile.specs.Valid.{valid_b}
use Rattle.drive_record.specs.declared.Body.{Body}
use Rattle.drive_record.specs.declared.State.{State}
use Rattle.drive_record.specs.Limits.{limits_b}
use Rattle.drive_record.proofs.WithinLimits.{Parts, parts, whole}
use Rattle.word_acts.proofs.ActLimits.{latch_keeps}
use Rattle.word_acts.proofs.Keep.{act_keeps}
use Rattle.word_table.specs.declared.Effect.{Effect}
use Rattle.word_table.specs.declared.Effect.TheVariants.{Status, Configuration, Does}
use Rattle.word_table.specs.declared.WordFault.{WordFault}
use Rattle.word_table.specs.Effect.{bit_of, effect_of}
use Rattle.word_table.proofs.Lawful.{Lawful, effect_lawful}
use Rattle.word_rules.specs.declared.Answered.{Answered}
use Rattle.word_rules.specs.Rules.{done_of, carry_of, refuses_b, refused_plain, plain_of}

module _ (p : Profile) (v : valid_b p ≡ true) where
  done_keeps : (b : Body) (e : Result Effect WordFault) → Lawful p e → Parts p b → Parts p (done_of p b e).body
  unfolding done_of
  done_keeps b (Err fault) h q = latch_keeps p b (bit_of fault) h.0 h.1 q
  done_keeps b (Ok Status) h q = q
  done_keeps b (Ok (Configuration modifier)) h q = q
  done_keeps b (Ok (Does act)) h q = act_keeps p v b q act h

  carry_keeps : (b : Body) (n : ℕ) → Parts p b → Parts p (carry_of p b n).body
  unfolding carry_of
  carry_keeps b n q = done_keeps b (effect_of p b n) (effect_lawful p b n) q

  pub limits_kept : (b : Body) (n : ℕ) → limits_b p b ≡ true → limits_b p (carry_of p b n).body ≡ true
  limits_kept b n h = whole p _ (carry_keeps b n (parts p b h))

  pub plain_kept : (s : State) (n : ℕ) → limits_b p s.body ≡ true → limits_b p (plain_of p s n).state.body ≡ true
  unfolding plain_of
  plain_kept s n h =
      by_test (λ (a : Answered). limits_b p a.state.body ≡ true) (refuses_b s) _ _
      (λ _. whole p (refused_plain s).state.body (latch_keeps p s.body 64 (omega arith) refl (parts p s.body h)))
      (λ _. limits_kept s.body n h)

-- A word never touches the transfer: what is open stays open.
pub plain_transfer : (p : Profile) (s : State) (n : ℕ) → (plain_of p s n).state.transfer ≡ s.transfer
unfolding plain_of
plain_transfer p s n = by_test (λ (a : Answered). a.state.transfer ≡ s.transfer) (refuses_b s) _ _ (λ _. refl) (λ _. refl)
