-- A request edge, and time, leave a transfer as the handshake may leave it.
use mathlib.Core.Path.{◌≡◌, refl}
use mathlib.Core.Bool.{true}
use Prim.Native.Nat.{ℕ, ◌+◌, ◌*◌, ◌/◌, ◌^◌, ◌≤◌, ◌<◌}
use native.Mathlib.Nat.{div-eq_of_lt, div-lt_iff_lt-mul, mod-le, two-pow-succ}
use native.Mathlib.Numerals.{add-one}
use native.Mathlib.Omega.{arith}
use lib.Dec.{ltb, eqb}
use lib.Pow.{pow_pos}
use borrow.Author.Tests.{lt-ltb}
use Rattle.counts.specs.declared.Micros.{Micros}
use Rattle.std.specs.Prelude.{if◌then◌else◌}
use Rattle.handshake.specs.declared.Transfer.{Transfer}
use Rattle.handshake.specs.Transfer.{responding, word_bits, patience}
use Rattle.handshake.specs.Edges.{taken_bit, taken_of, put_out_of, lowered_of, aged_by}
use Rattle.handshake.specs.SoundTransfer.{left_b}
use Rattle.law_drive.proofs.OpenTransfers.{idle, Giving, idle_left, taking_left, giving_left, by_way}

doubled : (k : ℕ) → 2 ^ (k + 1) ≡ 2 ^ k + 2 ^ k
doubled k = rw (add-one k) (two-pow-succ k)

-- one bit more, none above their count
taken_below : (bits count level : ℕ) → bits / 2 ^ count ≡ 0 → level ≤ 1 → taken_bit bits level / 2 ^ (count + 1) ≡ 0
taken_below bits count level h low =
    let small : bits < 1 * 2 ^ count = (div-lt_iff_lt-mul {k = 2 ^ count} {x = bits} {y = 1} (pow_pos count)).0 (omega arith) in
    div-eq_of_lt {n = taken_bit bits level} {m = 2 ^ (count + 1)} (omega (arith, mod-le bits 65_536, doubled count))

next : (count : ℕ) → count ≤ 16 → (if ltb count word_bits then count + 1 else word_bits) ≡ count + 1
next count h = rw (lt-ltb count word_bits (omega arith))

taken_left : (level : ℕ) (t : Transfer) → level ≤ 1 → t.count ≤ 16 → t.bits / 2 ^ t.count ≡ 0 → left_b 1 (taken_of level t) ≡ true
taken_left level t low most below =
    taking_left 1 (taken_of level t) refl
    (rw (next t.count most)
    (record {
      waiting = omega arith;
      acknowledge = refl;
      some = omega arith;
      most = omega arith;
      whole = omega arith;
      bits = taken_below t.bits t.count level below low;
      response = refl;
    }))

put_out_left : (t : Transfer) → Giving 0 t → left_b 1 (put_out_of t) ≡ true
put_out_left t g =
    giving_left 1 (put_out_of t) refl
    (rw (next t.count g.most)
    (record {
      waiting = omega arith;
      acknowledge = refl;
      some = omega arith;
      most = omega arith;
      bits = refl;
      response = g.response;
    }))

-- a rise of request, no gate on
pub rise_left : (level : ℕ) (t : Transfer) → level ≤ 1 → left_b 0 t ≡ true
    → left_b 1 (if eqb t.way responding then put_out_of t else taken_of level t) ≡ true
rise_left level t low h =
    by_way (left_b 1 (if eqb t.way responding then put_out_of t else taken_of level t) ≡ true) 0 t h
    (λ w i. rw w (let q = idle t i in taken_left level t low (omega (arith, q)) (simp (q.bits, q.count))))
    (λ w f. rw w (taken_left level t low f.most f.bits))
    (λ w g. rw w (put_out_left t g))

-- a fall of request that ends no word
pub lowered_left : (t : Transfer) → t.acknowledge ≡ 1 → t.count < word_bits → left_b 1 t ≡ true → left_b 0 (lowered_of t) ≡ true
lowered_left t up more h =
    by_way (left_b 0 (lowered_of t) ≡ true) 1 t h
    (λ w i. absurd (omega (arith, (idle t i).acknowledge)))
    (λ w f. taking_left 0 (lowered_of t) w (record {
      waiting = omega arith;
      acknowledge = refl;
      some = f.some;
      most = omega arith;
      whole = f.whole;
      bits = f.bits;
      response = f.response;
    }))
    (λ w g. giving_left 0 (lowered_of t) w (record {
      waiting = omega arith;
      acknowledge = refl;
      some = omega arith;
      most = omega arith;
      bits = g.bits;
      response = g.response;
    }))

-- acknowledge is down at a high request only where no transfer is open
pub unanswered_left : (t : Transfer) → (t.acknowledge ≡ 1 → ⊥) → left_b 1 t ≡ true → left_b 0 t ≡ true
unanswered_left t down h =
    by_way (left_b 0 t ≡ true) 1 t h
    (λ w i. idle_left 0 t w i)
    (λ w f. absurd (down f.acknowledge))
    (λ w g. absurd (down g.acknowledge))

-- and up only where one is
pub answered_open : (request : ℕ) (t : Transfer) → t.acknowledge ≡ 1 → left_b request t ≡ true → t.way ≡ 0 → ⊥
answered_open request t up h z =
    by_way ⊥ request t h
    (λ w i. omega (arith, (idle t i).acknowledge))
    (λ w f. omega arith)
    (λ w g. omega arith)

-- time within the patience
pub aged_left : (us : Micros) (request : ℕ) (t : Transfer) → (t.way ≡ 0 → ⊥) → t.waiting.0 + us.0 ≤ patience → left_b request t ≡ true
    → left_b request (aged_by us t) ≡ true
aged_left us request t runs short h =
    by_way (left_b request (aged_by us t) ≡ true) request t h
    (λ w i. absurd (runs w))
    (λ w f. taking_left request (aged_by us t) w (record {
      waiting = short;
      acknowledge = f.acknowledge;
      some = f.some;
      most = f.most;
      whole = f.whole;
      bits = f.bits;
      response = f.response;
    }))
    (λ w g. giving_left request (aged_by us t) w (record {
      waiting = short;
      acknowledge = g.acknowledge;
      some = g.some;
      most = g.most;
      bits = g.bits;
      response = g.response;
    }))
