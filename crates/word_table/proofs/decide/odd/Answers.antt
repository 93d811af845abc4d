-- Counting the ones of seventeen bits looks at seventeen.
use Rattle.std.proofs.Common.{ℕ, ◌%◌, eqb, sym, ap}
use Rattle.counts.proofs.Ones.{ones_in_lem}
use Rattle.word_table.specs.Word.{odd_b}
use Rattle.word_table.proofs.decide.odd.Goals as goal

pub returns : goal.returns
unfolding odd_b
returns c = ap (λ (ones : ℕ). eqb (ones % 2) 1) (sym (ones_in_lem 17 c.args.n))
