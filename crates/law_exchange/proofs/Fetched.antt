-- A response fetched from a calm unit: its seventeen bits, the highest first, and no transfer is left.
use Prim.Native.Nat.{ℕ, suc, ◌+◌, ◌-◌, ◌/◌, ◌%◌, ◌^◌, ◌≤◌, ◌<◌}
use native.Mathlib.Omega.{arith}
use mathlib.Core.Path.{◌≡◌, refl, ap, ap₂, ◌∙◌}
use mathlib.Core.Bool.{Bool, true, false}
use mathlib.Core.List.{List, [], ◌∷◌}
use lib.Dec.{ltb}
use lib.ListN.{length}
use borrow.Author.Tests.{lt-ltb, le-ltb, le-leb, ltb-true, ltb-false}
use Rattle.std.specs.Prelude.{if◌then◌else◌}
use Rattle.handshake.specs.declared.Transfer.{Transfer}
use Rattle.handshake.specs.Transfer.{word_bits, patience, no_transfer, bit_out, status_line}
use Rattle.law_exchange.specs.Host.{ask, Gap, Going, going, sends, goes, lowers, puts_up, fetches, sees}
use Rattle.law_exchange.specs.Waits.{level_of, fetch_level, bits_of, time_of, fetch_time, fetch_count, GapsFit}
use Rattle.law_exchange.specs.Unit.{Rules, Wired, wired, unit}
use Rattle.law_exchange.specs.UnitAtOnce.{zeros}
use Rattle.law_exchange.proofs.UnitLaws.{Laws}
use Rattle.law_exchange.proofs.Steps.{bits_out, out_rise, out_fall, end_fall, out_wait}
use Rattle.law_exchange.proofs.Waiting.{recount, open_goes}

-- the bit that is up has as many behind it as are still to come
line_is : (k j r w : ℕ) → suc k + j ≡ word_bits → status_line (bits_out (suc k) r 1 w) ≡ r / 2 ^ j % 2
unfolding status_line bit_out
line_is k j r w h =
    let behind : 17 - suc k ≡ j = omega arith in
    rw (le-leb (suc k) 17 (omega arith), behind)

-- k bits are out and request is low
abbrev stage : ℕ → ℕ → Transfer
stage k r = if ltb k word_bits then bits_out k r 0 0 else no_transfer

module _ {B : Type 0} (R : Rules B) (L : Laws R) (b : B) (calm : R.calm b ≡ true) (r : ℕ) (log : List ℕ) where
  abbrev stands : Transfer → ℕ → ℕ → ℕ → ℕ → Going (Wired B)
  stands t c q e n = going (wired b t c q e) (zeros n log)

  rises : (k w c e n : ℕ) → k < word_bits → sends (unit R) (ask 1) (stands (bits_out k r 0 w) c 0 e n) ≡ stands (bits_out (suc k) r 1 0) c 1 e (suc n)
  rises k w c e n h = rw (out_rise (R.calm b) k r w c h)

  falls : (k w c e n : ℕ) → k ≤ word_bits → sends (unit R) (ask 0) (stands (bits_out k r 1 w) c 1 e n) ≡ stands (stage k r) c 0 e (suc n)
  falls k w c e n h = go (ltb k 17) (λ t. ltb-true k 17 t) (λ t. ltb-false k 17 t)
    where
      go : (t : Bool) → (t ≡ true → k < 17) → (t ≡ false → 17 ≤ k)
          → sends (unit R) (ask 0) (stands (bits_out k r 1 w) c 1 e n) ≡ stands (if t then bits_out k r 0 0 else no_transfer) c 0 e (suc n)
      go true l m = rw (out_fall k r w (l refl))
      go false l m = let all : k ≡ 17 = omega (arith, m refl) in rw (all, end_fall r w)

  -- a bit goes out
  module _ (x : Gap) (k c e n : ℕ) (h₁ : time_of x.low ≤ patience) (h₂ : time_of x.early + time_of x.late ≤ patience) (l : k < word_bits) where
    abbrev c₁ : ℕ
    c₁ = level_of (level_of c x.low) x.early

    abbrev later : ℕ
    later = e + time_of x.low + time_of x.early

    abbrev more : ℕ
    more = suc (n + length x.low) + length x.early

    abbrev t₁ : ℕ
    t₁ = time_of x.low + time_of x.early + time_of x.late

    abbrev n₁ : ℕ
    n₁ = length x.low + 1 + length x.early + length x.late + 1

    up : puts_up (unit R) x (stands (bits_out k r 0 0) c 0 e n) ≡ stands (bits_out (suc k) r 1 (0 + time_of x.early)) c₁ 1 later more
    up =
        ap (λ (g : Going (Wired B)). goes (unit R) x.early (sends (unit R) (ask 1) g))
        (open_goes R L (bits_out k r 0) (out_wait k r 0) x.low 0 b c 0 e n log calm (omega arith))
        ∙ ap (goes (unit R) x.early) (rises k (0 + time_of x.low) (level_of c x.low) (e + time_of x.low) (n + length x.low) l)
        ∙ open_goes R L (bits_out (suc k) r 1) (out_wait (suc k) r 1) x.early 0 b (level_of c x.low) 1 (e + time_of x.low) (suc (n + length x.low)) log calm (omega arith)

    staged : puts_up (unit R) x (stands (stage k r) c 0 e n) ≡ stands (bits_out (suc k) r 1 (0 + time_of x.early)) c₁ 1 later more
    staged = rw (lt-ltb k 17 l) up

    next : lowers (unit R) x.late (puts_up (unit R) x (stands (stage k r) c 0 e n)) ≡ stands (stage (suc k) r) (level_of c₁ x.late) 0 (e + t₁) (n + n₁)
    next =
        ap (lowers (unit R) x.late) staged
        ∙ ap (sends (unit R) (ask 0))
        (open_goes R L (bits_out (suc k) r 1) (out_wait (suc k) r 1) x.late (0 + time_of x.early) b c₁ 1 later more log calm (omega arith))
        ∙ falls (suc k) (0 + time_of x.early + time_of x.late) (level_of c₁ x.late) (later + time_of x.late) (more + length x.late) (omega arith)
        ∙ recount b (stage (suc k) r) (level_of c₁ x.late) 0 log (later + time_of x.late) (e + t₁) (suc (more + length x.late)) (n + n₁) (omega arith) (omega arith)

    line : (j : ℕ) → suc k + j ≡ word_bits → (unit R).status (puts_up (unit R) x (stands (stage k r) c 0 e n)).now ≡ r / 2 ^ j % 2
    line j h = ap (λ (g : Going (Wired B)). (unit R).status g.now) staged ∙ line_is k j r (0 + time_of x.early) h

  pub fetched : (gs : List Gap) (k c e n : ℕ) → k + length gs ≡ word_bits → GapsFit gs
      → fetches (unit R) gs (stands (stage k r) c 0 e n) ≡ stands no_transfer (fetch_level c gs) 0 (e + fetch_time gs) (n + fetch_count gs)
  fetched [] k c e n h f =
      rw (le-ltb k 17 (omega arith)) (recount b no_transfer c 0 log e (e + 0) n (n + 0) (omega arith) (omega arith))
  fetched (x ∷ xs) k c e n h f =
      let l : k < 17 = omega arith in
      let t = t₁ x k c e n f.0 f.1 l in
      let m = n₁ x k c e n f.0 f.1 l in
      let c' = level_of (level_of (level_of c x.low) x.early) x.late in
      ap (fetches (unit R) xs) (next x k c e n f.0 f.1 l)
      ∙ fetched xs (suc k) c' (e + t) (n + m) (omega arith) f.2
      ∙ recount b no_transfer (fetch_level c' xs) 0 log (e + t + fetch_time xs) (e + (t + fetch_time xs)) (n + m + fetch_count xs) (n + (m + fetch_count xs)) (omega arith) (omega arith)

  pub seen : (gs : List Gap) (k c e n : ℕ) → k + length gs ≡ word_bits → GapsFit gs
      → sees (unit R) gs (stands (stage k r) c 0 e n) ≡ bits_of (length gs) r
  seen [] k c e n h f = refl
  seen (x ∷ xs) k c e n h f =
      let l : k < 17 = omega arith in
      let t = t₁ x k c e n f.0 f.1 l in
      let m = n₁ x k c e n f.0 f.1 l in
      let c' = level_of (level_of (level_of c x.low) x.early) x.late in
      ap₂ (λ (a : ℕ) (bits : List ℕ). a ∷ bits)
      (line x k c e n f.0 f.1 l (length xs) (omega arith))
      (ap (sees (unit R) xs) (next x k c e n f.0 f.1 l) ∙ seen xs (suc k) c' (e + t) (n + m) (omega arith) f.2)
