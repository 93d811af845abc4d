-- Counting the ones of sixteen bits looks at sixteen.
use Rattle.std.proofs.Common.{arith}
use Rattle.std.proofs.Math.Nat.{mod-eq_of_lt}
use Rattle.counts.proofs.Ones.{ones_in_lem}
use Rattle.word_table.specs.Word.{with_parity}
use Rattle.word_rules.proofs.responses.with_parity.Goals as goal

pub returns : goal.returns
unfolding with_parity
returns c =
    let w = c.args.word in
    simp (ones_in_lem 16 w, mod-eq_of_lt {n = w} {m = 65_536} (omega arith))
