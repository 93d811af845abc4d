-- A word with its parity is odd, and has seventeen bits.
use mathlib.Core.Path.{◌≡◌, sym, ap, ap₂, ◌∙◌}
use mathlib.Core.Bool.{true}
use Prim.Native.Nat.{ℕ, ◌+◌, ◌-◌, ◌%◌, ◌<◌}
use native.Mathlib.Omega.{arith}
use borrow.Author.Tests.{eq-eqb}
use lib.Count.{ones_in, ones, ones_step}
use Rattle.counts.proofs.Ones.{ones_in_lem}
use Rattle.word_table.specs.Word.{odd_b, with_parity}

pub parity_below : (w : ℕ) → with_parity w < 131_072
unfolding with_parity
parity_below w = omega arith

-- the sixteen keep their ones, and the parity is the seventeenth
parted : (w : ℕ) → ones_in 17 (with_parity w) ≡ (1 - ones_in 16 w % 2) + ones_in 16 w
unfolding with_parity
parted w =
    ones_in_lem 17 (with_parity w) ∙ ones_step (with_parity w % 131_072)
    ∙ ap₂ (λ (low rest : ℕ). low + rest) (omega arith) (ap ones (omega arith) ∙ sym (ones_in_lem 16 w))

pub parity_odd : (w : ℕ) → odd_b (with_parity w) ≡ true
unfolding odd_b
parity_odd w = eq-eqb (ones_in 17 (with_parity w) % 2) 1 (omega (arith, parted w))
