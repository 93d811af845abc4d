-- No row that was passed fits.
use Rattle.std.proofs.Common.{◌≡◌, ℕ, ◌+◌, ◌<◌, Bool, false, get_or, sym, ap, ◌∙◌, arith, inl, inr}
use Rattle.std.proofs.Math.Nat.{eq-or-lt_of_le}
use Rattle.std.proofs.lemmas.List.{get_or_default}
use Rattle.std.proofs.lemmas.List.Sums.{position_or_len_is}
use Rattle.word_table.specs.declared.table.Row.{Row}
use Rattle.word_table.specs.declared.table.Needs.TheVariants.{Free}
use Rattle.word_table.specs.declared.table.Asks.TheVariants.{Nothing}
use Rattle.word_table.specs.declared.table.Command.TheVariants.{Seek}
use Rattle.word_table.specs.Table.{row, commands, fits_b, row_of}
use Rattle.word_table.proofs.table.row_of.Goals as goal

passed_more : (test : Row → Bool) (i : ℕ) (e : Row) → i < 12 → ((k : ℕ) (d : Row) → k < i → test (get_or commands k d) ≡ false) → test (get_or commands i e) ≡ false
    → (k : ℕ) (d : Row) → k < i + 1 → test (get_or commands k d) ≡ false
passed_more test i e within passed missed k d h =
    elim (eq-or-lt_of_le {n = k} {m = i} (omega arith)) [
      | inl same ↦ ap (λ n. test (get_or commands n d)) same ∙ ap test (get_or_default commands i d e within) ∙ missed
      | inr less ↦ passed k d less
    ]

pub loop-i-preserved : goal.loop-i-preserved
loop-i-preserved c = record {
  number = c.loop-i.invariant.number;
  passed = passed_more (fits_b c.args.code c.args.modifier) c.loop-i.i _ c.loop-i-test.true c.loop-i.invariant.passed (sym c.fits.ensures ∙ c.if-fits.false);
}

pub returns-after-loop-i : goal.returns-after-loop-i
unfolding row_of
returns-after-loop-i c =
    let none = position_or_len_is (fits_b c.args.code c.args.modifier) commands 12 (row 0 0 0 Free Nothing Seek) (omega arith) (λ k h. c.loop-i.invariant.passed k _ (omega arith)) (λ h. absurd (omega arith)) in
    c.loop-i.invariant.number ∙ sym none

pub returns-then-fits : goal.returns-then-fits
unfolding row_of
returns-then-fits c = sym (position_or_len_is (fits_b c.args.code c.args.modifier) commands c.loop-i.i _ (omega arith) (λ k h. c.loop-i.invariant.passed k _ h) (λ h. sym c.fits.ensures ∙ c.if-fits.true))
