-- Where a capture is run there is room for each answer; no buffer is as long as 64 bits can say
use mathlib.Core.Path.{◌≡◌, ap}
use mathlib.Core.List.{List}
use mathlib.Core.Bool.{true}
use Prim.Native.Nat.{ℕ, ◌*◌, ◌/◌, ◌^◌, ◌≤◌, ◌<◌}
use native.Mathlib.Omega.{arith}
use lib.Dec.{leb}
use lib.ListN.{length}
use borrow.Author.Tests.{leb-true}
use Rattle.std.specs.Prelude.{Result, Ok}
use Rattle.counts.proofs.Choice.{by_test}
use Rattle.lines.specs.declared.Lines.{Lines}
use Rattle.capture_samples.specs.Samples.{capture_b}
use Rattle.capture_events.specs.Events.{capture_events}
use Rattle.capture_events.specs.Count.{up_to}
use Rattle.capture_judge.specs.declared.Untaken.{Untaken}
use Rattle.capture_judge.specs.Taking.{event_count, taking_of, taking_number}

up_to_all : (most n room : ℕ) → up_to most n ≤ room → room < most → n ≤ room
up_to_all most n room h k = by_test (λ (x : ℕ). x ≤ room → n ≤ room) (leb n most) n most (λ t. λ m. m) (λ t. λ m. absurd (omega arith)) h

module _ (start : Lines) (capture : List ℕ) (room n : ℕ) (small : room < 2 ^ 64) where
  abbrev Fits : Result ℕ Untaken → Type 0
  Fits t = t ≡ Ok n → 2 * length (capture_events start capture) ≤ room

  fits : leb (event_count start capture) (room / 2) ≡ true → 2 * length (capture_events start capture) ≤ room
  fits u = omega (arith, up_to_all 18_446_744_073_709_551_615 (length (capture_events start capture)) (room / 2) (leb-true (event_count start capture) (room / 2) u) (omega arith))

  pub run_fits : Fits (taking_of start capture room)
  unfolding taking_of
  run_fits =
      by_test Fits (capture_b capture) _ _
      (λ t. by_test Fits (leb (event_count start capture) (room / 2)) _ _ (λ u. λ e. fits u) (λ u. λ e. absurd (omega (arith, ap taking_number e))))
      (λ t. λ e. absurd (omega (arith, ap taking_number e)))
