-- What a word can come to: bits that may be latched, operands that may stand.
use mathlib.Core.Path.{◌≡◌, refl}
use mathlib.Core.Bool.{Bool, true, false, not, false≢true}
use Prim.Native.Nat.{ℕ, ◌<◌}
use native.Mathlib.Omega.{arith}
use lib.Dec.{ltb}
use borrow.Author.Tests.{ltb-true, not-true, not-false}
use Rattle.std.specs.Prelude.{List, [], ◌∷◌, Option, Some, None, IfSome, Result, Ok, Err, zero, suc, slice_get}
use Rattle.std.specs.List.{list_all}
use Rattle.counts.specs.Bytes.{bit}
use Rattle.counts.proofs.Tests.{both}
use Rattle.counts.proofs.Choice.{by_test, either_way}
use Rattle.pack_profile.specs.declared.Profile.{Profile}
use Rattle.pack_profile.specs.Profile.{gaps_of}
use Rattle.pack_profile.specs.General.{soft}
use Rattle.pack_profile.specs.Valid.{hard_size}
use Rattle.drive_record.specs.declared.Body.{Body}
use Rattle.word_acts.proofs.Keep.{Allowed}
use Rattle.word_table.specs.declared.table.Needs.{Needs}
use Rattle.word_table.specs.declared.table.Needs.TheVariants.{Hard}
use Rattle.word_table.specs.declared.table.Command.{Command}
use Rattle.word_table.specs.declared.table.Command.TheVariants.{Seek, Restore, Plus, Minus, Sector}
use Rattle.word_table.specs.declared.table.Row.{Row}
use Rattle.word_table.specs.declared.Effect.{Effect}
use Rattle.word_table.specs.declared.Effect.TheVariants as effect
use Rattle.word_table.specs.declared.WordFault.{WordFault}
use Rattle.word_table.specs.declared.WordFault.TheVariants.{Parity, Invalid, Blocked}
use Rattle.word_table.specs.Word.{sixteen_of, code_of, modifier_of, bits11to0, odd_b}
use Rattle.word_table.specs.Table.{commands, row_of, found_of}
use Rattle.word_table.specs.Effect.{option_b, size_b, operand_b, word_valid_b, blocked_b, act_of, bit_of, order_of, effect_of}

abbrev pub Lawful : Profile → Result Effect WordFault → Type 0
Lawful p (Err fault) = (bit_of fault < 512) × (bit (bit_of fault) 2 ≡ 0)
Lawful p (Ok effect.Status) = Unit {0}
Lawful p (Ok (effect.Configuration modifier)) = Unit {0}
Lawful p (Ok (effect.Does act)) = Allowed p act

fault_lawful : (p : Profile) (fault : WordFault) → Lawful p (Err fault)
fault_lawful p Parity = (omega arith, refl)
fault_lawful p Invalid = (omega arith, refl)
fault_lawful p Blocked = (omega arith, refl)

-- the row that sets the sector size needs a hard sectored drive
abbrev hard_b : Command → Needs → Bool
hard_b Sector Hard = true
hard_b Sector _ = false
hard_b _ _ = true

abbrev row_hard_b : Row → Bool
row_hard_b r = hard_b r.command r.needs

abbrev IsHard : Row → Type 0
IsHard r = row_hard_b r ≡ true

at_hard : (rows : List Row) (i : ℕ) → list_all row_hard_b rows ≡ true → IfSome (slice_get rows i) IsHard
at_hard [] i h = tt
at_hard (r ∷ rows) zero h = (both (row_hard_b r) (list_all row_hard_b rows) h).0
at_hard (r ∷ rows) (suc i) h = at_hard rows i (both (row_hard_b r) (list_all row_hard_b rows) h).1

found_hard : (code modifier : ℕ) → IfSome (found_of code modifier) IsHard
unfolding found_of
found_hard code modifier = at_hard commands (row_of code modifier) refl

module _ (p : Profile) (w : ℕ) where
  sector_lawful : soft p.general ≡ false → size_b p (bits11to0 w) ≡ true → Lawful p (Ok (act_of Sector w))
  unfolding size_b act_of
  sector_lawful hard size =
      let parts = both (hard_size (bits11to0 w)) (ltb (gaps_of p) (bits11to0 w)) size in
      (rw hard parts.0, ltb-true _ _ parts.1)

  act_lawful : (needs : Needs) (command : Command) → hard_b command needs ≡ true → option_b p needs ≡ true → operand_b p command w ≡ true
      → Lawful p (Ok (act_of command w))
  unfolding option_b operand_b act_of
  act_lawful needs Seek table option operand = ltb-true _ _ operand
  act_lawful Hard Sector table option operand = sector_lawful (not-true (soft p.general) option) operand
  act_lawful _ Sector table option operand = absurd (false≢true table)
  act_lawful needs Restore table option operand = omega arith
  act_lawful needs Plus table option operand = omega arith
  act_lawful needs Minus table option operand = omega arith
  act_lawful needs _ table option operand = tt

order_lawful : (p : Profile) (b : Body) (n : ℕ) (r : Option Row) (w : ℕ) → IfSome r IsHard → Lawful p (order_of p b n r w)
unfolding order_of
order_lawful p b n None w table = either_way (Lawful p) (not (odd_b n)) (fault_lawful p Parity) (fault_lawful p Invalid)
order_lawful p b n (Some r) w table =
    let or = by_test (Lawful p) in
    or (not (odd_b n)) _ _ (λ _. fault_lawful p Parity) λ _.
    or (not (word_valid_b p r w)) _ _ (λ _. fault_lawful p Invalid) λ v.
    or (blocked_b b r.asks) _ _ (λ _. fault_lawful p Blocked) λ _.
    let valid = both (option_b p r.needs) (operand_b p r.command w) (not-false (word_valid_b p r w) v) in
    act_lawful p w r.needs r.command table valid.0 valid.1

pub effect_lawful : (p : Profile) (b : Body) (n : ℕ) → Lawful p (effect_of p b n)
unfolding effect_of
effect_lawful p b n = order_lawful p b n _ (sixteen_of n) (found_hard (code_of (sixteen_of n)) (modifier_of (sixteen_of n)))
