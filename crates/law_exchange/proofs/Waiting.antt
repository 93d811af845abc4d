-- A stretch between two edges: a unit with no transfer open lives on, and one that is calm with a transfer open only counts the time.
use Rattle.std.specs.Prelude.{Some}
use Prim.Native.Nat.{ℕ, suc, ◌+◌, ◌≤◌}
use native.Mathlib.Omega.{arith}
use mathlib.Core.Path.{◌≡◌, ap, ◌∙◌}
use mathlib.Core.Bool.{true}
use mathlib.Core.List.{List, [], ◌∷◌}
use lib.ListN.{length}
use Rattle.handshake.specs.declared.Transfer.{Transfer}
use Rattle.handshake.specs.Transfer.{patience, no_transfer}
use Rattle.handshake.specs.Edges.{wait_of}
use Rattle.event.specs.declared.Answer.TheVariants.{Taken}
use Rattle.event.specs.Answer.{answer_number}
use Rattle.law_exchange.specs.Host.{micros, Still, waits, sets, high, going, sends, goes}
use Rattle.law_exchange.specs.Waits.{level_of, time_of}
use Rattle.law_exchange.specs.Unit.{Rules, wired, unit}
use Rattle.law_exchange.specs.UnitAtOnce.{zeros}
use Rattle.law_exchange.proofs.UnitLaws.{Laws}
use Rattle.law_exchange.proofs.Steps.{none_wait}

-- the same unit, its time and its answers counted another way
pub recount : {B : Type 0} (b : B) (t : Transfer) (c q : ℕ) (log : List ℕ) (e f m n : ℕ) → e ≡ f → m ≡ n
    → going (wired b t c q e) (zeros m log) ≡ going (wired b t c q f) (zeros n log)
recount b t c q log e f m n p r = λ i. going (wired b t c q (p i)) (zeros (r i) log)

module _ {B : Type 0} (R : Rules B) (L : Laws R) where
  -- no transfer open
  rest_wait : (us : ℕ) (b : B) (c q e : ℕ) (log : List ℕ)
      → sends (unit R) (micros us) (going (wired b no_transfer c q e) log) ≡ going (wired (R.pass us b) no_transfer c q (e + us)) (answer_number Taken ∷ log)
  rest_wait us b c q e log = rw (none_wait us)

  pub rest_goes : (xs : List Still) (b : B) (c q e n : ℕ) (log : List ℕ)
      → goes (unit R) xs (going (wired b no_transfer c q e) (zeros n log))
      ≡ going (wired (R.pass (time_of xs) b) no_transfer (level_of c xs) q (e + time_of xs)) (zeros (n + length xs) log)
  rest_goes [] b c q e n log = rw (L.pass_zero b) (recount b no_transfer c q log e (e + 0) n (n + 0) (omega arith) (omega arith))
  rest_goes (waits us ∷ xs) b c q e n log =
      ap (goes (unit R) xs) (rest_wait us b c q e (zeros n log))
      ∙ rest_goes xs (R.pass us b) c q (e + us) (suc n) log
      ∙ rw (L.pass_pass us (time_of xs) b)
      (recount _ no_transfer (level_of c xs) q log _ _ (suc n + length xs) (n + suc (length xs)) (omega arith) (omega arith))
  rest_goes (sets x ∷ xs) b c q e n log =
      rest_goes xs b (high x) q e (suc n) log
      ∙ recount (R.pass (time_of xs) b) no_transfer (level_of (high x) xs) q log _ _ (suc n + length xs) (n + suc (length xs)) (omega arith) (omega arith)

  -- a transfer open, told by the microseconds it has waited
  module _ (open_at : ℕ → Transfer) (ages : (w us : ℕ) → w + us ≤ patience → wait_of (record { 0 = us }) (open_at w) ≡ Some (open_at (w + us))) where
    one_wait : (us w : ℕ) (b : B) (c q e : ℕ) (log : List ℕ) → R.calm b ≡ true → w + us ≤ patience
        → sends (unit R) (micros us) (going (wired b (open_at w) c q e) log) ≡ going (wired b (open_at (w + us)) c q (e + us)) (answer_number Taken ∷ log)
    one_wait us w b c q e log k h = rw (ages w us h, L.pass_calm us b k)

    pub open_goes : (xs : List Still) (w : ℕ) (b : B) (c q e n : ℕ) (log : List ℕ) → R.calm b ≡ true → w + time_of xs ≤ patience
        → goes (unit R) xs (going (wired b (open_at w) c q e) (zeros n log))
        ≡ going (wired b (open_at (w + time_of xs)) (level_of c xs) q (e + time_of xs)) (zeros (n + length xs) log)
    open_goes [] w b c q e n log k h =
        let none : w + 0 ≡ w = omega arith in
        rw none (recount b (open_at w) c q log e (e + 0) n (n + 0) (omega arith) (omega arith))
    open_goes (waits us ∷ xs) w b c q e n log k h =
        let all : w + us + time_of xs ≡ w + (us + time_of xs) = omega arith in
        ap (goes (unit R) xs) (one_wait us w b c q e (zeros n log) k (omega arith))
        ∙ open_goes xs (w + us) b c q (e + us) (suc n) log k (omega arith)
        ∙ rw all (recount b (open_at (w + (us + time_of xs))) (level_of c xs) q log _ _ (suc n + length xs) (n + suc (length xs)) (omega arith) (omega arith))
    open_goes (sets x ∷ xs) w b c q e n log k h =
        open_goes xs w b (high x) q e (suc n) log k h
        ∙ recount b (open_at (w + time_of xs)) (level_of (high x) xs) q log _ _ (suc n + length xs) (n + suc (length xs)) (omega arith) (omega arith)
