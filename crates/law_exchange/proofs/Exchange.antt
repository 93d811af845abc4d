-- Seventeen bits sent by the handshake, the response fetched, are the word given at once: for any unit that keeps the laws.
use Prim.Native.Nat.{ℕ, suc, ◌+◌, ◌*◌, ◌≤◌}
use native.Mathlib.Omega.{arith}
use mathlib.Core.Path.{◌≡◌, refl, ap, ◌∙◌}
use mathlib.Core.Bool.{Bool, true, false}
use mathlib.Core.List.{List, [], ◌∷◌}
use lib.ListN.{length}
use Rattle.std.specs.Prelude.{if◌then◌else◌, Option, Some, None}
use Rattle.handshake.specs.Transfer.{no_transfer}
use Rattle.event.specs.declared.Answer.TheVariants.{Taken, Fault}
use Rattle.event.specs.Answer.{answer_number}
use Rattle.law_exchange.specs.Host.{ask, Sending, Going, going, exchanged, sends, raises, replies, goes_on, exchanges}
use Rattle.law_exchange.specs.Waits.{level_of, sent_level, fetch_level, sent_word, bits_of, time_of, sent_time, fetch_time, sent_count, fetch_count, InTime}
use Rattle.law_exchange.specs.Unit.{UnitCarried, Rules, Wired, wired, unit_after_word, unit}
use Rattle.law_exchange.specs.UnitAtOnce.{zeros, rests, unit_fall_answer, unit_refused, done, carries, unit_at_once}
use Rattle.law_exchange.proofs.UnitLaws.{Laws}
use Rattle.law_exchange.proofs.Steps.{bits_in, first_rise, busy_rise, none_fall}
use Rattle.law_exchange.proofs.Waiting.{recount, rest_goes}
use Rattle.law_exchange.proofs.Sent.{level_small, carried_at, sent}
use Rattle.law_exchange.proofs.Fetched.{fetched, seen}

module _ {B : Type 0} (R : Rules B) (L : Laws R) (w : Sending) (b : B) (l : ℕ) where
  -- the data level and the time at the first rise
  abbrev l₁ : ℕ
  l₁ = level_of l w.first.low

  abbrev t₁ : ℕ
  t₁ = time_of w.first.low

  abbrev n₁ : ℕ
  n₁ = length w.first.low

  abbrev b₁ : B
  b₁ = R.pass t₁ b

  -- what stands when request rises for the first time
  abbrev ready : Going (Wired B)
  ready = going (wired b₁ no_transfer l₁ 0 t₁) (zeros n₁ [])

  to_rise : raises (unit R) w.first.low (going (rests b l 0) []) ≡ sends (unit R) (ask 1) ready
  to_rise =
      ap (sends (unit R) (ask 1))
      (rest_goes R L w.first.low b l 0 0 0 [] ∙ recount b₁ no_transfer l₁ 0 [] (0 + t₁) t₁ (0 + n₁) n₁ (omega arith) (omega arith))

  -- not complete: bit 6, no acknowledge, and the host ends
  refuses : R.calm b₁ ≡ false → sends (unit R) (ask 1) ready ≡ going (wired (R.fault b₁) no_transfer l₁ 1 t₁) (answer_number Fault ∷ zeros n₁ [])
  refuses q = rw (q, busy_rise l₁)

  turned_away : R.calm b₁ ≡ false → exchanges (unit R) w (rests b l 0) ≡ unit_refused w l (R.fault b₁)
  turned_away q = ap (goes_on (unit R) w) (to_rise ∙ refuses q) ∙ rw none_fall

  -- complete: the first bit is taken
  takes : R.calm b₁ ≡ true → sends (unit R) (ask 1) ready ≡ going (wired b₁ (bits_in 1 (0 * 2 + l₁) 1 0) l₁ 1 t₁) (answer_number Taken ∷ zeros n₁ [])
  takes q = rw (q, first_rise l₁)

  module _ (fit : InTime w) (one : l ≤ 1) (q : R.calm b₁ ≡ true) where
    abbrev out : UnitCarried B
    out = R.carry (sent_word l w) b₁

    abbrev last : ℕ
    last = sent_level l (w.first ∷ w.more)

    abbrev time : ℕ
    time = sent_time w.first w.more

    abbrev count : ℕ
    count = sent_count w.first w.more

    all_sent : exchanges (unit R) w (rests b l 0) ≡ replies (unit R) w.gaps (carried_at R L b₁ q out last (0 + time) (0 + count))
    all_sent =
        ap (goes_on (unit R) w)
        (to_rise ∙ takes q ∙ recount b₁ (bits_in 1 (0 * 2 + l₁) 1 0) l₁ 1 [] t₁ (0 + t₁) (suc n₁) (0 + n₁ + 1) (omega arith) (omega arith))
        ∙ ap (replies (unit R) w.gaps)
        (sent R L b₁ q w.first w.more l 1 (0 * 2 + l₁) 0 0 one (omega (arith, fit.seventeen)) (omega (arith, level_small l w.first.low one)) fit.first fit.bits)

    -- a response is open, or none
    answered : (t : Option ℕ) → out.told ≡ t
        → replies (unit R) w.gaps (going (wired out.body (unit_after_word t) last 0 (0 + time)) (unit_fall_answer out ∷ zeros (0 + count) []))
        ≡ done w l out t
    answered None p =
        let e : 0 + time ≡ time = omega arith in
        let n : 0 + count ≡ count = omega arith in
        λ i. exchanged (going (rests out.body last (e i)) (unit_fall_answer out ∷ zeros (n i) [])) None
    answered (Some r) p =
        let calm = L.told_calm (sent_word l w) r b₁ q p in
        let log : List ℕ = unit_fall_answer out ∷ zeros (0 + count) [] in
        let e : 0 + time + fetch_time w.gaps ≡ time + fetch_time w.gaps = omega arith in
        let n : 0 + count ≡ count = omega arith in
        let m : 0 + fetch_count w.gaps ≡ fetch_count w.gaps = omega arith in
        (λ i.
        exchanged (fetched R L out.body calm r log w.gaps 0 last (0 + time) 0 (omega (arith, fit.wanted)) fit.gaps i)
        (Some (seen R L out.body calm r log w.gaps 0 last (0 + time) 0 (omega (arith, fit.wanted)) fit.gaps i)))
        ∙ (λ i.
        exchanged
        (going (rests out.body (fetch_level last w.gaps) (e i)) (zeros (m i) (unit_fall_answer out ∷ zeros (n i) [])))
        (Some (bits_of (fit.wanted i) r)))

    taken : exchanges (unit R) w (rests b l 0) ≡ carries w l out
    taken = all_sent ∙ answered out.told refl

  by_calm : InTime w → l ≤ 1 → (t : Bool) → R.calm b₁ ≡ t
      → exchanges (unit R) w (rests b l 0) ≡ (if t then carries w l (R.carry (sent_word l w) b₁) else unit_refused w l (R.fault b₁))
  by_calm fit one true q = taken fit one q
  by_calm fit one false q = turned_away q

  -- demand 3 for one unit: whatever the unit is, so long as no transfer is open; l is the data level before
  pub at_once_lem : InTime w → l ≤ 1 → exchanges (unit R) w (rests b l 0) ≡ unit_at_once R w l b
  at_once_lem fit one = by_calm fit one (R.calm b₁) refl
