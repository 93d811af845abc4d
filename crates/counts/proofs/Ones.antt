-- Ones among a number's lowest bits.
use mathlib.Core.Path.{◌≡◌, sym, ap, ap₂, ◌∙◌}
use Prim.Native.Nat.{ℕ, zero, suc, ◌+◌, ◌*◌, ◌/◌, ◌%◌, ◌^◌, ◌<◌}
use native.Mathlib.Nat.{mod-lt, mod-one, pow-suc, zero-lt-suc}
use lib.Arith.{digits_div, digits_mod, mod-mul}
use lib.Pow.{pow_pos}
use lib.Count.{ones_in, ones, ones_step}

two : 0 < 2
two = zero-lt-suc 1

-- the lowest bit, and the k behind it
lowest : (k n : ℕ) → n % 2 ^ suc k ≡ (n / 2 % 2 ^ k) * 2 + n % 2
lowest k n = ap (λ (m : ℕ). n % m) (pow-suc 2 k) ∙ mod-mul n (pow_pos k) two

-- looking at the k lowest bits counts those of the number that they are
pub ones_in_lem : (k n : ℕ) → ones_in k n ≡ ones (n % 2 ^ k)
unfolding ones_in ones
ones_in_lem zero n = rw (mod-one n)
ones_in_lem (suc k) n =
    let rest = n / 2 % 2 ^ k in
    let small = mod-lt n two in
    ap (λ (m : ℕ). n % 2 + m) (ones_in_lem k (n / 2))
    ∙ sym (ap ones (lowest k n) ∙ ones_step (rest * 2 + n % 2)
    ∙ ap₂ (λ (low high : ℕ). low + ones high) (digits_mod rest small) (digits_div rest small))
