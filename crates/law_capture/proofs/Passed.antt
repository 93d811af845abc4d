-- "the later stamp less the earlier, wrapping on purpose, split into passing events of 65,535, the rest last if not 0".
use mathlib.Core.Path.{◌≡◌, refl, ap, ◌∙◌}
use mathlib.Core.List.{List, [], ◌∷◌, ◌++◌}
use Prim.Native.Nat.{ℕ, zero, suc, ◌+◌, ◌*◌, ◌/◌, ◌%◌, ◌^◌, ◌≤◌, ◌<◌}
use native.Mathlib.Omega.{arith}
use lib.Dec.{eqb}
use borrow.Author.Tests.{eqb-true, eqb-false}
use Rattle.std.specs.Prelude.{if◌then◌else◌}
use Rattle.counts.proofs.Choice.{by_test}
use Rattle.event.specs.Numbers.{Numbers}
use Rattle.capture_events.specs.Events.{gap_of, longest, passing, whole_spans, rest_span, passing_of}
use Rattle.capture_events.proofs.Passing.{gap_back}
use Rattle.law_capture.specs.Passed.{micros_of, EachPasses}

micros_then : (xs ys : List Numbers) → micros_of (xs ++ ys) ≡ micros_of xs + micros_of ys
micros_then [] ys = omega arith
micros_then (x ∷ xs) ys = omega (arith, micros_then xs ys)

passes_then : (xs ys : List Numbers) → EachPasses xs → EachPasses ys → EachPasses (xs ++ ys)
passes_then [] ys hx hy = hy
passes_then (x ∷ xs) ys hx hy = (hx.0, hx.1, hx.2, hx.3, passes_then xs ys hx.4 hy)

spans_micros : (n : ℕ) → micros_of (whole_spans n) ≡ n * longest
spans_micros zero = refl
spans_micros (suc n) = omega (arith, spans_micros n)

spans_pass : (n : ℕ) → EachPasses (whole_spans n)
spans_pass zero = tt
spans_pass (suc n) = (refl, refl, omega arith, omega arith, spans_pass n)

rest_micros : (r : ℕ) → micros_of (rest_span r) ≡ r
rest_micros r = by_test (λ (l : List Numbers). micros_of l ≡ r) (eqb r 0) [] (passing r ∷ []) (λ t. omega (arith, eqb-true r 0 t)) (λ t. omega arith)

rest_passes : (r : ℕ) → r < longest → EachPasses (rest_span r)
rest_passes r h =
    by_test EachPasses (eqb r 0) [] (passing r ∷ []) (λ t. tt)
    (λ t. (refl, refl, positive r (eqb-false r 0 t), omega arith, tt))
  where
    positive : (n : ℕ) → (n ≡ 0 → ⊥) → 1 ≤ n
    positive zero k = absurd (k refl)
    positive (suc n) k = omega arith

-- they add up to the gap
pub gap_passes : (gap : ℕ) → micros_of (passing_of gap) ≡ gap
unfolding passing_of
gap_passes gap =
    omega (arith, micros_then (whole_spans (gap / longest)) (rest_span (gap % longest)), spans_micros (gap / longest), rest_micros (gap % longest))

-- so from the earlier stamp they lead to the later, modulo 2^32
pub stamps_meet : (later earlier : ℕ) → (earlier + micros_of (passing_of (gap_of later earlier))) % 2 ^ 32 ≡ later % 2 ^ 32
stamps_meet later earlier = ap (λ (n : ℕ). (earlier + n) % 2 ^ 32) (gap_passes (gap_of later earlier)) ∙ gap_back later earlier

-- and each passes 1 to 65,535
pub each_passes : (gap : ℕ) → EachPasses (passing_of gap)
unfolding passing_of
each_passes gap = passes_then (whole_spans (gap / longest)) (rest_span (gap % longest)) (spans_pass (gap / longest)) (rest_passes (gap % longest) (omega arith))
