-- Seventeen bits of a number, sent the highest first, are that number; and any seventeen bits can be sent.
use Prim.Native.Nat.{ℕ, zero, suc, ◌+◌, ◌*◌, ◌/◌, ◌%◌, ◌^◌, ◌<◌}
use native.Mathlib.Omega.{arith}
use native.Mathlib.Nat.{pow-suc, mul_comm, mod-eq_of_lt, mod-one}
use mathlib.Core.Path.{◌≡◌, refl, ap, ◌∙◌}
use mathlib.Core.Bool.{Bool}
use mathlib.Core.List.{List, [], ◌∷◌, map}
use lib.Dec.{lit<}
use lib.ListN.{length, length-map}
use lib.Arith.{mod-mul}
use lib.Pow.{pow_pos}
use Rattle.handshake.specs.Transfer.{word_bits}
use Rattle.law_exchange.specs.Host.{sets, Bit, Gap, Sending, high}
use Rattle.law_exchange.specs.Waits.{levels_at, number_from, sent_word, bits_of, BitsFit, GapsFit, InTime}

back : (k n v : ℕ) → number_from v (bits_of k n) ≡ v * 2 ^ k + n % 2 ^ k
back zero n v = omega (arith, mod-one n)
back (suc k) n v =
    back k n (v * 2 + n / 2 ^ k % 2)
    ∙ rw (pow-suc 2 k, mul_comm (2 ^ k) 2)
    (omega (arith, mod-mul n {m = 2} {c = 2 ^ k} (lit< tt) (pow_pos k)))

-- the levels at the rises are the number's bits
pub sent_number : (n l : ℕ) (w : Sending) → n < 2 ^ word_bits → levels_at l (w.first ∷ w.more) ≡ bits_of word_bits n → sent_word l w ≡ n
sent_number n l w h e = ap (number_from 0) e ∙ back 17 n 0 ∙ omega (arith, mod-eq_of_lt h)

-- any seventeen bits can be sent: the host sets the line in front of each rise, and need not wait
abbrev prompt : Bool → Bit
prompt x = record { low = sets x ∷ []; up = [] }

abbrev gaps : ℕ → List Gap
gaps zero = []
gaps (suc n) = record { low = []; early = []; late = [] } ∷ gaps n

abbrev pub promptly : Bool → List Bool → Sending
promptly x xs = record { first = prompt x; more = map prompt xs; gaps = gaps word_bits }

prompt_levels : (xs : List Bool) (l : ℕ) → levels_at l (map prompt xs) ≡ map high xs
prompt_levels [] l = refl
prompt_levels (x ∷ xs) l = ap (λ (ls : List ℕ). high x ∷ ls) (prompt_levels xs (high x))

prompt_fits : (xs : List Bool) → BitsFit (map prompt xs)
prompt_fits [] = tt
prompt_fits (x ∷ xs) = (omega arith, omega arith, prompt_fits xs)

gaps_fit : (n : ℕ) → GapsFit (gaps n)
gaps_fit zero = tt
gaps_fit (suc n) = (omega arith, omega arith, gaps_fit n)

pub any_bits : (x : Bool) (xs : List Bool) (l : ℕ) → length xs ≡ 16
    → InTime (promptly x xs) × (levels_at l ((promptly x xs).first ∷ (promptly x xs).more) ≡ map high (x ∷ xs))
any_bits x xs l h = (
  record { seventeen = length-map xs prompt ∙ h; first = omega arith; bits = prompt_fits xs; wanted = refl; gaps = gaps_fit word_bits },
  prompt_levels (x ∷ xs) l,
)
