-- A seek's word is its cylinder with its parity: on a drive that is ready, its position known, it comes to that seek.
use mathlib.Core.Path.{◌≡◌}
use mathlib.Core.Bool.{true}
use Rattle.std.specs.Prelude.{Some, Ok}
use Prim.Native.Nat.{ℕ, ◌%◌, ◌≤◌, ◌<◌}
use native.Mathlib.Omega.{arith}
use borrow.Author.Tests.{le-leb, lt-ltb}
use Rattle.counts.specs.declared.Cylinder.{Cylinder}
use Rattle.pack_profile.specs.declared.Profile.{Profile}
use Rattle.pack_profile.specs.Valid.{valid_b}
use Rattle.pack_profile.proofs.FieldRanges.{ranges}
use Rattle.drive_record.specs.declared.Body.{Body}
use Rattle.drive_record.specs.Status.{ready_b}
use Rattle.word_acts.specs.declared.Act.TheVariants as act
use Rattle.word_table.specs.declared.table.Needs.TheVariants.{Free}
use Rattle.word_table.specs.declared.table.Asks.TheVariants.{Position}
use Rattle.word_table.specs.declared.table.Command.TheVariants.{Seek}
use Rattle.word_table.specs.declared.Effect.TheVariants.{Does}
use Rattle.word_table.specs.Word.{sixteen_of, code_of, modifier_of, odd_b, with_parity}
use Rattle.word_table.specs.Table.{row, row_of, found_of}
use Rattle.word_table.specs.Effect.{option_b, operand_b, blocked_b, act_of, order_of, effect_of}
use Rattle.word_table.proofs.Parity.{parity_odd}

sixteen : (w : ℕ) → w < 65_536 → sixteen_of (with_parity w) ≡ w
unfolding with_parity
sixteen w h = omega arith

seek_row : (modifier : ℕ) → modifier ≤ 15 → found_of 0 modifier ≡ Some (row 0 0 15 Free Position Seek)
unfolding found_of row_of
seek_row modifier h = rw (le-leb 0 modifier (omega arith), le-leb modifier 15 h)

seek_order : (p : Profile) (b : Body) (n w : ℕ) → odd_b n ≡ true → w < 4096 → w < p.shape.cylinders.0 → ready_b b ≡ true → b.arm.lost ≡ 0
    → order_of p b n (Some (row 0 0 15 Free Position Seek)) w ≡ Ok (Does (act.Seek (record { 0 = w })))
unfolding option_b operand_b blocked_b act_of order_of
seek_order p b n w odd small there ready known =
    let low : w % 4096 ≡ w = omega arith in
    rw (odd, low, lt-ltb w p.shape.cylinders.0 there, ready, known)

pub seek_word : (p : Profile) (b : Body) (to : Cylinder) → valid_b p ≡ true → to.0 < p.shape.cylinders.0 → ready_b b ≡ true → b.arm.lost ≡ 0
    → effect_of p b (with_parity to.0) ≡ Ok (Does (act.Seek to))
unfolding effect_of
seek_word p b to v there ready known =
    let w = to.0 in
    let small : w < 4096 = omega (arith, there, (ranges p v).cylinders.1) in
    let code : code_of w ≡ 0 = omega (arith, small) in
    rw (sixteen w (omega (arith, small)), code, seek_row (modifier_of w) (omega arith))
    (seek_order p b (with_parity w) w (parity_odd w) small there ready known)
