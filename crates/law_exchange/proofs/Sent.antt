-- Seventeen bits sent to a calm unit: its word is carried out at the last fall.
use Prim.Native.Nat.{ℕ, suc, ◌+◌, ◌*◌, ◌^◌, ◌≤◌, ◌<◌}
use native.Mathlib.Omega.{arith}
use native.Mathlib.Nat.{pow-suc}
use mathlib.Core.Path.{◌≡◌, ap, ◌∙◌}
use mathlib.Core.Bool.{Bool, true, false}
use mathlib.Core.List.{List, [], ◌∷◌}
use lib.ListN.{length}
use lib.Pow.{pow_mono}
use Rattle.handshake.specs.Transfer.{word_bits, patience}
use Rattle.law_exchange.specs.Host.{ask, Still, waits, sets, Bit, high, Going, going, sends, raises, lowers, sends_all}
use Rattle.law_exchange.specs.Waits.{level_of, left_by, sent_level, levels_at, number_from, time_of, sent_time, sent_count, BitsFit}
use Rattle.law_exchange.specs.Unit.{UnitCarried, Rules, Wired, wired, unit_after_word, unit}
use Rattle.law_exchange.specs.UnitAtOnce.{zeros, unit_fall_answer}
use Rattle.law_exchange.proofs.UnitLaws.{Laws}
use Rattle.law_exchange.proofs.Steps.{bits_in, next_rise, next_fall, word_fall, in_wait}
use Rattle.law_exchange.proofs.Waiting.{recount, open_goes}

pub high_small : (x : Bool) → high x ≤ 1
high_small true = omega arith
high_small false = omega arith

pub level_small : (l : ℕ) (xs : List Still) → l ≤ 1 → level_of l xs ≤ 1
level_small l [] h = h
level_small l (waits us ∷ xs) h = level_small l xs h
level_small l (sets x ∷ xs) h = level_small (high x) xs (high_small x)

-- k bits make a number below 2 ^ k
small : (k v : ℕ) → v < 2 ^ k → k ≤ 16 → v < 65_536
small k v h l = let m : 2 ^ k ≤ 2 ^ 16 = pow_mono l in omega arith

grows : (k v x : ℕ) → v < 2 ^ k → x ≤ 1 → v * 2 + x < 2 ^ suc k
grows k v x h s = omega (arith, pow-suc 2 k)

module _ {B : Type 0} (R : Rules B) (L : Laws R) (b : B) (calm : R.calm b ≡ true) where
  abbrev taking_at : ℕ → ℕ → ℕ → ℕ → ℕ → ℕ → ℕ → ℕ → Going (Wired B)
  taking_at k v a w c q e n = going (wired b (bits_in k v a w) c q e) (zeros n [])

  rises : (k v w c e n : ℕ) → k < word_bits → v < 65_536
      → sends (unit R) (ask 1) (taking_at k v 0 w c 0 e n) ≡ taking_at (suc k) (v * 2 + c) 1 0 c 1 e (suc n)
  rises k v w c e n h s = rw (next_rise (R.calm b) k v w c h s)

  falls : (k v w c e n : ℕ) → k < word_bits → sends (unit R) (ask 0) (taking_at k v 1 w c 1 e n) ≡ taking_at k v 0 0 c 0 e (suc n)
  falls k v w c e n h = rw (next_fall k v w h)

  -- the rise of a bit that is not the first
  raised : (xs : List Still) (k v c e n : ℕ) → time_of xs ≤ patience → k < word_bits → v < 65_536
      → raises (unit R) xs (taking_at k v 0 0 c 0 e n)
      ≡ taking_at (suc k) (v * 2 + level_of c xs) 1 0 (level_of c xs) 1 (e + time_of xs) (n + length xs + 1)
  raised xs k v c e n h l s =
      ap (sends (unit R) (ask 1)) (open_goes R L (bits_in k v 0) (in_wait k v 0) xs 0 b c 0 e n [] calm (omega arith))
      ∙ rises k v (0 + time_of xs) (level_of c xs) (e + time_of xs) (n + length xs) l s
      ∙ recount b (bits_in (suc k) (v * 2 + level_of c xs) 1 0) (level_of c xs) 1 [] (e + time_of xs) (e + time_of xs) (suc (n + length xs)) (n + length xs + 1) (omega arith) (omega arith)

  -- the fall of a bit that is not the last
  lowered : (xs : List Still) (k v c e n : ℕ) → time_of xs ≤ patience → k < word_bits
      → lowers (unit R) xs (taking_at k v 1 0 c 1 e n) ≡ taking_at k v 0 0 (level_of c xs) 0 (e + time_of xs) (suc (n + length xs))
  lowered xs k v c e n h l =
      ap (sends (unit R) (ask 0)) (open_goes R L (bits_in k v 1) (in_wait k v 1) xs 0 b c 1 e n [] calm (omega arith))
      ∙ falls k v (0 + time_of xs) (level_of c xs) (e + time_of xs) (n + length xs) l

  -- the word carried out
  abbrev pub carried_at : UnitCarried B → ℕ → ℕ → ℕ → Going (Wired B)
  carried_at o c e n = going (wired o.body (unit_after_word o.told) c 0 e) (unit_fall_answer o ∷ zeros n [])

  carries_out : (v w c e n : ℕ) → sends (unit R) (ask 0) (taking_at word_bits v 1 w c 1 e n) ≡ carried_at (R.carry v b) c e n
  carries_out v w c e n = rw (word_fall v w)

  last_lowered : (xs : List Still) (v c e n : ℕ) → time_of xs ≤ patience
      → lowers (unit R) xs (taking_at word_bits v 1 0 c 1 e n) ≡ carried_at (R.carry v b) (level_of c xs) (e + time_of xs) (n + length xs)
  last_lowered xs v c e n h =
      ap (sends (unit R) (ask 0)) (open_goes R L (bits_in word_bits v 1) (in_wait word_bits v 1) xs 0 b c 1 e n [] calm (omega arith))
      ∙ carries_out v (0 + time_of xs) (level_of c xs) (e + time_of xs) (n + length xs)

  recounted : (o : UnitCarried B) (c e f m n : ℕ) → e ≡ f → m ≡ n → carried_at o c e m ≡ carried_at o c f n
  recounted o c e f m n p q = λ i. carried_at o c (p i) (q i)

  -- a bit is up, and the others behind it are still to come
  pub sent : (x : Bit) (xs : List Bit) (l k v e n : ℕ) → l ≤ 1 → k + length xs ≡ word_bits → v < 2 ^ k → time_of x.up ≤ patience → BitsFit xs
      → sends_all (unit R) xs (lowers (unit R) x.up (taking_at k v 1 0 (level_of l x.low) 1 (e + time_of x.low) (n + length x.low + 1)))
      ≡ carried_at (R.carry (number_from v (levels_at (left_by l x) xs)) b) (sent_level (left_by l x) xs) (e + sent_time x xs) (n + sent_count x xs)
  sent x [] l k v e n one len s h f =
      let all : k ≡ 17 = omega arith in
      rw all (last_lowered x.up v (level_of l x.low) (e + time_of x.low) (n + length x.low + 1) h)
      ∙ recounted (R.carry v b) (left_by l x) (e + time_of x.low + time_of x.up) (e + sent_time x []) (n + length x.low + 1 + length x.up) (n + sent_count x [])
      (omega arith) (omega arith)
  sent x (y ∷ ys) l k v e n one len s h f =
      let e₁ = e + time_of x.low + time_of x.up in
      let n₁ = suc (n + length x.low + 1 + length x.up) in
      let l₁ = left_by l x in
      let one₁ : l₁ ≤ 1 = level_small (level_of l x.low) x.up (level_small l x.low one) in
      let c₁ = level_of l₁ y.low in
      ap (λ (g : Going (Wired B)). sends_all (unit R) ys (lowers (unit R) y.up (raises (unit R) y.low g)))
      (lowered x.up k v (level_of l x.low) (e + time_of x.low) (n + length x.low + 1) h (omega arith))
      ∙ ap (λ (g : Going (Wired B)). sends_all (unit R) ys (lowers (unit R) y.up g))
      (raised y.low k v l₁ e₁ n₁ f.0 (omega arith) (small k v s (omega arith)))
      ∙ sent y ys l₁ (suc k) (v * 2 + c₁) e₁ n₁ one₁ (omega arith) (grows k v c₁ s (level_small l₁ y.low one₁)) f.1 f.2
      ∙ recounted (R.carry (number_from v (levels_at l₁ (y ∷ ys))) b) (sent_level l₁ (y ∷ ys)) (e₁ + sent_time y ys) (e + sent_time x (y ∷ ys))
      (n₁ + sent_count y ys) (n + sent_count x (y ∷ ys)) (omega arith) (omega arith)
