-- What the command table's rows say.
use Prim.Native.Nat.{ℕ, ◌≤◌}
use mathlib.Core.Bool.{not}
use Rattle.std.proofs.lemmas.List.Sums.{prefix_len-le-length}
use Rattle.word_table.specs.declared.table.Row.{Row}
use Rattle.word_table.specs.Table.{commands, fits_b, row_of}

pub row_most : (code modifier : ℕ) → row_of code modifier ≤ 12
unfolding row_of
row_most code modifier = prefix_len-le-length (λ (r : Row). not (fits_b code modifier r)) commands
