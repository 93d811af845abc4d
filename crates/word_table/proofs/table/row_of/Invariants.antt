-- No row that was passed fits.
use Rattle.std.proofs.Common.{◌≡◌, ℕ, ◌<◌, false, get_or}
use Rattle.word_table.specs.declared.table.Row.{Row}
use Rattle.word_table.specs.Table.{commands, fits_b}
use Rattle.word_table.proofs.table.row_of.Given as goal

abbrev pub invariant-loop-i : goal.invariant-loop-i
invariant-loop-i l = record {
  number : l.number ≡ 12;
  passed : (k : ℕ) (d : Row) → k < l.i → fits_b l.code l.modifier (get_or commands k d) ≡ false;
}
