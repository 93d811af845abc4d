-- Request 3: control 0 clears every latched bit, and while a write fault stands every one but bit 1.
use Rattle.std.specs.Prelude.{None, Ok}
use mathlib.Core.Path.{◌≡◌, refl}
use mathlib.Core.Bool.{true, false}
use Prim.Native.Nat.{ℕ}
use lib.Count.{ones_in}
use Rattle.pack_profile.specs.declared.Profile.{Profile}
use Rattle.drive_record.specs.declared.Body.{Body}
use Rattle.drive_record.specs.declared.State.{State}
use Rattle.drive_record.specs.declared.Outcome.TheVariants.{Done}
use Rattle.drive_record.specs.State.{state_of}
use Rattle.drive_record.specs.Limits.{limits_b}
use Rattle.drive_record.proofs.WithinLimits.{parts}
use Rattle.word_acts.specs.declared.Act.TheVariants.{Clear}
use Rattle.word_acts.specs.Acts.{left_latched, cleared_of, acted_of}
use Rattle.word_acts.proofs.ActLimits.{left_bit}
use Rattle.word_table.specs.declared.Effect.TheVariants.{Does}
use Rattle.word_table.specs.Word.{odd_b, with_parity}
use Rattle.word_table.specs.Table.{row_of, found_of}
use Rattle.word_table.specs.Effect.{option_b, operand_b, blocked_b, act_of, order_of, effect_of}
use Rattle.word_rules.specs.Rules.{answered, done_of, carry_of, refuses_b, plain_of}

-- code 5, modifier 0, with its parity
abbrev pub control_zero : ℕ
control_zero = with_parity 0x5000

clear_word : (p : Profile) (b : Body) → effect_of p b control_zero ≡ Ok (Does Clear)
unfolding ones_in with_parity odd_b row_of found_of option_b operand_b blocked_b act_of order_of effect_of
clear_word p b = refl

module _ (p : Profile) (s : State) (taken : refuses_b s ≡ false) where
  -- it is carried out, whatever stands
  pub carried_out_lem : plain_of p s control_zero ≡ answered Done None (state_of (cleared_of s.body) s.transfer)
  unfolding acted_of done_of carry_of plain_of
  carried_out_lem = rw (taken, clear_word p s.body)

  pub cleared : s.body.standing ≡ 0 → (plain_of p s control_zero).state.body.latched.0 ≡ 0
  unfolding left_latched
  cleared none = rw (carried_out_lem, none)

  pub left_standing : limits_b p s.body ≡ true → s.body.standing ≡ 1 → (plain_of p s control_zero).state.body.latched.0 ≡ 2
  left_standing limits one = rw carried_out_lem (left_bit p s.body (parts p s.body limits) one)
