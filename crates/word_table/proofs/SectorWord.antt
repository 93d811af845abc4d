-- A word of code 9 comes to a fault, or to setting the size that it names.
use mathlib.Core.Path.{◌≡◌, refl}
use mathlib.Core.Logic.{◌⊎◌, inl, inr}
use mathlib.Core.Bool.{not}
use Rattle.std.specs.Prelude.{Some, Result, Ok, Err}
use Prim.Native.Nat.{ℕ, ◌≤◌}
use native.Mathlib.Omega.{arith}
use borrow.Author.Tests.{le-leb}
use Rattle.counts.proofs.Choice.{by_test}
use Rattle.pack_profile.specs.declared.Profile.{Profile}
use Rattle.drive_record.specs.declared.Body.{Body}
use Rattle.word_acts.specs.declared.Act.TheVariants as act
use Rattle.word_table.specs.declared.table.Needs.TheVariants.{Hard}
use Rattle.word_table.specs.declared.table.Asks.TheVariants.{Nothing}
use Rattle.word_table.specs.declared.table.Command.TheVariants.{Sector}
use Rattle.word_table.specs.declared.table.Row.{Row}
use Rattle.word_table.specs.declared.Effect.{Effect}
use Rattle.word_table.specs.declared.Effect.TheVariants.{Does}
use Rattle.word_table.specs.declared.WordFault.{WordFault}
use Rattle.word_table.specs.Word.{sixteen_of, code_of, modifier_of, bits11to0, odd_b}
use Rattle.word_table.specs.Table.{row, row_of, found_of}
use Rattle.word_table.specs.Effect.{word_valid_b, blocked_b, act_of, order_of, effect_of}

abbrev pub FailsOrSets : ℕ → Result Effect WordFault → Type 0
FailsOrSets w e = ((fault : WordFault) × (e ≡ Err fault)) ⊎ (e ≡ Ok (Does (act.Sector (record { 0 = bits11to0 w }))))

abbrev sector_row : Row
sector_row = row 9 0 15 Hard Nothing Sector

sector_row_lem : (modifier : ℕ) → modifier ≤ 15 → found_of 9 modifier ≡ Some sector_row
unfolding found_of row_of
sector_row_lem modifier h = rw (le-leb 0 modifier (omega arith), le-leb modifier 15 h)

sector_order : (p : Profile) (b : Body) (n w : ℕ) → FailsOrSets w (order_of p b n (Some sector_row) w)
unfolding order_of act_of
sector_order p b n w =
    let or = by_test (FailsOrSets w) in
    or (not (odd_b n)) _ _ (λ _. inl (_, refl)) λ _.
    or (not (word_valid_b p sector_row w)) _ _ (λ _. inl (_, refl)) λ _.
    or (blocked_b b Nothing) _ _ (λ _. inl (_, refl)) λ _.
    inr refl

pub sector_word : (p : Profile) (b : Body) (n : ℕ) → code_of (sixteen_of n) ≡ 9 → FailsOrSets (sixteen_of n) (effect_of p b n)
unfolding effect_of
sector_word p b n nine =
    rw (nine, sector_row_lem (modifier_of (sixteen_of n)) (omega arith)) (sector_order p b n (sixteen_of n))
