-- What the handshake leaves, way by way, as named facts both ways.
use mathlib.Core.Path.{◌≡◌, refl}
use mathlib.Core.Bool.{Bool, true, false, false≢true}
use Prim.Native.Nat.{ℕ, ◌+◌, ◌/◌, ◌^◌, ◌≤◌}
use native.Mathlib.Omega.{arith}
use lib.Dec.{eqb}
use borrow.Author.Tests.{leb-true, eqb-true, le-leb, eq-eqb}
use Rattle.std.specs.Prelude.{if◌then◌else◌}
use Rattle.counts.proofs.Tests.{both, join, each, all}
use Rattle.handshake.specs.declared.Transfer.{Transfer}
use Rattle.handshake.specs.Transfer.{taking, responding, word_bits, largest, patience}
use Rattle.handshake.specs.SoundTransfer.{idle_tests, idle_b, none_b, taking_tests, taking_b, responding_tests, responding_b, left_b}

-- no transfer open
pub record Idle (t : Transfer) : Type 0 where
  pub waiting : t.waiting.0 ≡ 0
  pub bits : t.bits ≡ 0
  pub response : t.response ≡ 0
  pub count : t.count ≡ 0
  pub acknowledge : t.acknowledge ≡ 0

pub idle : (t : Transfer) → idle_b t ≡ true → Idle t
idle t h =
    let e = each (idle_tests t) h in
    record {
      waiting = eqb-true _ _ e.0;
      bits = eqb-true _ _ e.1.0;
      response = eqb-true _ _ e.1.1.0;
      count = eqb-true _ _ e.1.1.1.0;
      acknowledge = eqb-true _ _ e.1.1.1.1.0;
    }

-- bits being taken
pub record Taking (request : ℕ) (t : Transfer) : Type 0 where
  pub waiting : t.waiting.0 ≤ patience
  pub acknowledge : t.acknowledge ≡ request
  pub some : 1 ≤ t.count
  pub most : t.count ≤ 16 + request
  pub whole : t.count ≤ word_bits
  pub bits : t.bits / 2 ^ t.count ≡ 0
  pub response : t.response ≡ 0

pub takes : (request : ℕ) (t : Transfer) → taking_b request t ≡ true → Taking request t
unfolding taking_b
takes request t h =
    let e = each (taking_tests request t) h in
    record {
      waiting = leb-true _ _ e.1.0;
      acknowledge = eqb-true _ _ e.1.1.0;
      some = leb-true _ _ e.1.1.1.0;
      most = leb-true _ _ e.1.1.1.1.0;
      whole = leb-true _ _ e.0;
      bits = eqb-true _ _ e.1.1.1.1.1.0;
      response = eqb-true _ _ e.1.1.1.1.1.1.0;
    }

pub from_takes : (request : ℕ) (t : Transfer) → Taking request t → taking_b request t ≡ true
unfolding taking_b
from_takes request t f = all (taking_tests request t) (search (le-leb, eq-eqb))

-- a response being given
pub record Giving (request : ℕ) (t : Transfer) : Type 0 where
  pub waiting : t.waiting.0 ≤ patience
  pub acknowledge : t.acknowledge ≡ request
  pub some : request ≤ t.count
  pub most : t.count ≤ 16 + request
  pub bits : t.bits ≡ 0
  pub response : t.response ≤ largest

pub gives : (request : ℕ) (t : Transfer) → responding_b request t ≡ true → Giving request t
gives request t h =
    let e = each (responding_tests request t) h in
    record {
      waiting = leb-true _ _ e.0;
      acknowledge = eqb-true _ _ e.1.0;
      some = leb-true _ _ e.1.1.0;
      most = leb-true _ _ e.1.1.1.0;
      bits = eqb-true _ _ e.1.1.1.1.0;
      response = leb-true _ _ e.1.1.1.1.1.0;
    }

pub from_gives : (request : ℕ) (t : Transfer) → Giving request t → responding_b request t ≡ true
from_gives request t f = all (responding_tests request t) (search (le-leb, eq-eqb))

pub idle_left : (request : ℕ) (t : Transfer) → t.way ≡ 0 → idle_b t ≡ true → left_b request t ≡ true
unfolding left_b
idle_left request t w h = rw w h

pub taking_left : (request : ℕ) (t : Transfer) → t.way ≡ taking → Taking request t → left_b request t ≡ true
unfolding left_b taking_b
taking_left request t w f = rw w (from_takes request t f)

pub giving_left : (request : ℕ) (t : Transfer) → t.way ≡ responding → Giving request t → left_b request t ≡ true
unfolding left_b
giving_left request t w f = rw w (from_gives request t f)

-- a fact of a transfer that the handshake leaves, from each of its three ways
pub by_way : (P : Type 0) (request : ℕ) (t : Transfer) → left_b request t ≡ true
    → (t.way ≡ 0 → idle_b t ≡ true → P) → (t.way ≡ taking → Taking request t → P) → (t.way ≡ responding → Giving request t → P) → P
unfolding left_b
by_way P request t h none taken given = ways _ _ _ refl refl refl h
  where
    ways : (n a b : Bool) → eqb t.way 0 ≡ n → eqb t.way taking ≡ a → eqb t.way responding ≡ b
        → (if n then idle_b t else (if a then taking_b request t else (if b then responding_b request t else false))) ≡ true → P
    ways true a b en ea eb k = none (eqb-true _ _ en) k
    ways false true b en ea eb k = taken (eqb-true _ _ ea) (takes request t k)
    ways false false true en ea eb k = given (eqb-true _ _ eb) (gives request t k)
    ways false false false en ea eb k = absurd (false≢true k)

-- no transfer open: what stands at one level stands at the other, and on an unselected drive
pub none_left : (request : ℕ) (t : Transfer) → none_b t ≡ true → left_b request t ≡ true
none_left request t h =
    let e = both (eqb t.way 0) (idle_b t) h in
    idle_left request t (eqb-true _ _ e.0) e.1

pub left_none : (request : ℕ) (t : Transfer) → t.way ≡ 0 → left_b request t ≡ true → none_b t ≡ true
left_none request t z h =
    by_way (none_b t ≡ true) request t h
    (λ w i. join _ _ (eq-eqb t.way 0 w) i)
    (λ w f. absurd (omega arith))
    (λ w g. absurd (omega arith))

-- none has waited too long
pub left_waiting : (request : ℕ) (t : Transfer) → left_b request t ≡ true → t.waiting.0 ≤ patience
left_waiting request t h =
    by_way (t.waiting.0 ≤ patience) request t h
    (λ w i. omega (arith, (idle t i).waiting))
    (λ w f. f.waiting)
    (λ w g. g.waiting)
