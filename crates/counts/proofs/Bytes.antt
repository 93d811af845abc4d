-- Numbers as bytes and back, high byte first.
use mathlib.Core.Path.{◌≡◌, refl, ap, ◌∙◌}
use mathlib.Core.List.{List, [], ◌∷◌, ◌++◌}
use Prim.Native.Nat.{ℕ, zero, suc, ◌+◌, ◌*◌, ◌/◌, ◌%◌, ◌<◌}
use native.Mathlib.Omega.{arith}
use native.Mathlib.Nat.{div-div-eq-div-mul}
use lib.ListN.{length, get_or, take}
use Rattle.counts.specs.Bytes.{four, bytes4, Bytes}

-- a number is what its bytes say
pub one_back : (v : ℕ) → v < 256 → v % 256 ≡ v
one_back v h = omega arith

pub two_back : (v : ℕ) → v < 65_536 → v / 256 % 256 * 256 + v % 256 ≡ v
two_back v h = omega arith

-- the digits of v to the base 256, the quotients a, b, c given by name
joined : (v a b c : ℕ) → v / 256 ≡ a → a / 256 ≡ b → b / 256 ≡ c → c < 256
    → ((c % 256 * 256 + b % 256) * 256 + a % 256) * 256 + v % 256 ≡ v
joined v a b c ea eb ec h = omega arith

pub four_back : (v : ℕ) → v < 4_294_967_296
    → ((v / 16_777_216 % 256 * 256 + v / 65_536 % 256) * 256 + v / 256 % 256) * 256 + v % 256 ≡ v
four_back v h =
    joined v (v / 256) (v / 65_536) (v / 16_777_216) refl (div-div-eq-div-mul v 256 256) (div-div-eq-div-mul v 65_536 256) (omega arith)

-- a list by its elements
abbrev pub listed : ℕ → (ℕ → ℕ) → List ℕ
listed zero f = []
listed (suc n) f = f zero ∷ listed n (λ i. f (suc i))

pub as_listed : (t : List ℕ) → t ≡ listed (length t) (λ i. get_or t i 0)
as_listed [] = refl
as_listed (x ∷ t) = ap (λ (l : List ℕ). x ∷ l) (as_listed t)

-- the bytes of the number that stands in a list of bytes are those that stand there
module _ (t : List ℕ) (small : Bytes t) where
  pub only_byte : (i : ℕ) → get_or t i 0 % 256 ≡ get_or t i 0
  only_byte i = omega (arith, small i)

  pub first_of_two : (i j : ℕ) → (get_or t i 0 * 256 + get_or t j 0) / 256 % 256 ≡ get_or t i 0
  first_of_two i j = omega (arith, small i, small j)

  pub last_byte : (x j : ℕ) → (x * 256 + get_or t j 0) % 256 ≡ get_or t j 0
  last_byte x j = omega (arith, small j)

  pub third_of_four : (x k l : ℕ) → ((x * 256 + get_or t k 0) * 256 + get_or t l 0) / 256 % 256 ≡ get_or t k 0
  third_of_four x k l = omega (arith, small k, small l)

  pub first_of_four : (i j k l : ℕ) → (((get_or t i 0 * 256 + get_or t j 0) * 256 + get_or t k 0) * 256 + get_or t l 0) / 16_777_216 % 256 ≡ get_or t i 0
  first_of_four i j k l = omega (arith, small i, small j, small k, small l)

  pub second_of_four : (i j k l : ℕ) → (((get_or t i 0 * 256 + get_or t j 0) * 256 + get_or t k 0) * 256 + get_or t l 0) / 65_536 % 256 ≡ get_or t j 0
  second_of_four i j k l = omega (arith, small i, small j, small k, small l)

-- four bytes are those of the number that they say
pub four_bytes : (t : List ℕ) → Bytes t → length t ≡ 4 → t ≡ bytes4 (four t 0)
four_bytes t small n =
    simp (last_byte t small, first_of_four t small, second_of_four t small, third_of_four t small)
    (as_listed t ∙ ap (λ (k : ℕ). listed k (λ i. get_or t i 0)) n)

-- lists of bytes
pub bytes_four : (v : ℕ) → Bytes (bytes4 v)
bytes_four v zero = omega arith
bytes_four v (suc zero) = omega arith
bytes_four v (suc (suc zero)) = omega arith
bytes_four v (suc (suc (suc zero))) = omega arith
bytes_four v (suc (suc (suc (suc i)))) = omega arith

pub bytes_take : (n : ℕ) (l : List ℕ) → Bytes l → Bytes (take n l)
bytes_take zero l h i = omega arith
bytes_take (suc n) [] h i = omega arith
bytes_take (suc n) (x ∷ l) h zero = h zero
bytes_take (suc n) (x ∷ l) h (suc i) = bytes_take n l (λ j. h (suc j)) i

pub bytes_append : (a b : List ℕ) → Bytes a → Bytes b → Bytes (a ++ b)
bytes_append [] b sa sb i = sb i
bytes_append (x ∷ a) b sa sb zero = sa zero
bytes_append (x ∷ a) b sa sb (suc i) = bytes_append a b (λ j. sa (suc j)) sb i
