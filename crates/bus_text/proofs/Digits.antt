-- A number's digits: how the digits of its tenth go on to its own, which `put_number` follows, and how many there are at most.
use Prim.Native.Nat.{ℕ, zero, suc, ◌+◌, ◌/◌, ◌%◌, ◌^◌, ◌≤◌, ◌<◌}
use mathlib.Core.Path.{◌≡◌, ap, ◌∙◌}
use mathlib.Core.List.{List, [], ◌∷◌, ◌++◌}
use native.Mathlib.Omega.{arith}
use lib.Dec.{ltb}
use lib.ListN.{length, length-append}
use borrow.Author.Tests.{lt-ltb, le-ltb}
use Rattle.bus_text.specs.TextBytes.{newline, space, digit_byte}
use Rattle.bus_text.specs.AnswerLine.{decimal_in, decimal_of, field, answer_line, longest_line}
use Rattle.counts.proofs.Choice.{either_way}

-- room for one digit more than a number has changes nothing
enough : (k n : ℕ) → n < 10 ^ suc k → decimal_in (suc k) n ≡ decimal_in (suc (suc k)) n
enough zero n h = simp (lt-ltb n 10 (omega arith))
enough (suc k) n h = rw (enough k (n / 10) (omega arith))

pub one_digit : (n : ℕ) → n < 10 → decimal_of n ≡ digit_byte n ∷ []
unfolding decimal_of
one_digit n h = simp (lt-ltb n 10 h)

pub one_more : (n : ℕ) → 10 ≤ n → n < 2 ^ 64 → decimal_of n ≡ decimal_of (n / 10) ++ (digit_byte (n % 10) ∷ [])
unfolding decimal_of
one_more n l h = simp (le-ltb n 10 l) (ap (λ (ds : List ℕ). ds ++ (digit_byte (n % 10) ∷ [])) (enough 18 (n / 10) (omega arith)))

pub one_longer : (n : ℕ) → 10 ≤ n → n < 2 ^ 64 → length (decimal_of n) ≡ length (decimal_of (n / 10)) + 1
one_longer n l h = ap length (one_more n l h) ∙ length-append (decimal_of (n / 10)) (digit_byte (n % 10) ∷ [])

-- a number below a power of ten has no more digits than that has zeros, whatever the room
narrow : (k j n : ℕ) → n < 10 ^ suc k → length (decimal_in j n) ≤ suc k
narrow k zero n h = omega arith
narrow zero (suc j) n h = simp (lt-ltb n 10 (omega arith)) (omega arith)
narrow (suc k) (suc j) n h =
    either_way (λ (l : List ℕ). length l ≤ suc (suc k)) (ltb n 10) (omega arith)
    (simp length-append (omega (arith, narrow k j (n / 10) (omega arith))))

field_length : (k n end : ℕ) → n < 10 ^ suc k → length (field n end) ≤ k + 2
unfolding field decimal_of
field_length k n end h = simp length-append (omega (arith, narrow k 20 n h))

pub answer_fits : (n a v s : ℕ) → n < 2 ^ 64 → a < 2 ^ 8 → v < 2 ^ 8 → s < 2 ^ 8 → length (answer_line n a v s) ≤ longest_line
answer_fits n a v s hn ha hv hs =
    simp length-append
    (omega (
      arith,
      field_length 19 n space (omega arith),
      field_length 2 a space (omega arith),
      field_length 2 v space (omega arith),
      field_length 2 s newline (omega arith),
    ))
