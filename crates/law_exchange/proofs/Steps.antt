-- What the handshake's rules do at each step of an exchange.
use Rattle.std.specs.Prelude.{Some, None}
use Prim.Native.Nat.{ℕ, suc, ◌+◌, ◌*◌, ◌≤◌, ◌<◌}
use native.Mathlib.Numerals.{add-one}
use native.Mathlib.Nat.{mod-eq_of_lt}
use mathlib.Core.Path.{◌≡◌, refl}
use mathlib.Core.Bool.{Bool, true, false}
use borrow.Author.Tests.{lt-ltb, le-ltb}
use Rattle.handshake.specs.declared.Transfer.{Transfer}
use Rattle.handshake.specs.declared.Fallen.TheVariants as fallen
use Rattle.handshake.specs.Transfer.{taking, responding, word_bits, patience, no_transfer}
use Rattle.handshake.specs.Edges.{rise_of, fall_of, late_b, wait_of}

-- k bits taken that make v, or k of the response r put out; so long since the last edge
abbrev pub bits_in : ℕ → ℕ → ℕ → ℕ → Transfer
bits_in k v a w = record { waiting = record { 0 = w }; bits = v; response = 0; way = taking; count = k; acknowledge = a }

abbrev pub bits_out : ℕ → ℕ → ℕ → ℕ → Transfer
bits_out k r a w = record { waiting = record { 0 = w }; bits = 0; response = r; way = responding; count = k; acknowledge = a }

pub first_rise : (x : ℕ) → rise_of false true x no_transfer ≡ Some (bits_in 1 (0 * 2 + x) 1 0)
unfolding rise_of
first_rise x = refl

pub busy_rise : (x : ℕ) → rise_of false false x no_transfer ≡ None
unfolding rise_of
busy_rise x = refl

pub next_rise : (calm : Bool) (k v w x : ℕ) → k < word_bits → v < 65_536 → rise_of false calm x (bits_in k v 0 w) ≡ Some (bits_in (suc k) (v * 2 + x) 1 0)
unfolding rise_of
next_rise calm k v w x h s = rw (lt-ltb k 17 h, mod-eq_of_lt s, add-one k)

pub out_rise : (calm : Bool) (k r w x : ℕ) → k < word_bits → rise_of false calm x (bits_out k r 0 w) ≡ Some (bits_out (suc k) r 1 0)
unfolding rise_of
out_rise calm k r w x h = rw (lt-ltb k 17 h, add-one k)

pub next_fall : (k v w : ℕ) → k < word_bits → fall_of (bits_in k v 1 w) ≡ fallen.Keep (bits_in k v 0 0)
unfolding fall_of
next_fall k v w h = rw (lt-ltb k 17 h)

pub word_fall : (v w : ℕ) → fall_of (bits_in word_bits v 1 w) ≡ fallen.Carry v
unfolding fall_of
word_fall v w = refl

pub out_fall : (k r w : ℕ) → k < word_bits → fall_of (bits_out k r 1 w) ≡ fallen.Keep (bits_out k r 0 0)
unfolding fall_of
out_fall k r w h = rw (lt-ltb k 17 h)

pub end_fall : (r w : ℕ) → fall_of (bits_out word_bits r 1 w) ≡ fallen.Keep no_transfer
unfolding fall_of
end_fall r w = refl

pub none_fall : fall_of no_transfer ≡ fallen.Keep no_transfer
unfolding fall_of
none_fall = refl

pub none_wait : (us : ℕ) → wait_of (record { 0 = us }) no_transfer ≡ Some no_transfer
unfolding wait_of late_b
none_wait us = refl

pub in_wait : (k v a w us : ℕ) → w + us ≤ patience → wait_of (record { 0 = us }) (bits_in k v a w) ≡ Some (bits_in k v a (w + us))
unfolding wait_of late_b
in_wait k v a w us h = rw (le-ltb 10_000 (w + us) h)

pub out_wait : (k r a w us : ℕ) → w + us ≤ patience → wait_of (record { 0 = us }) (bits_out k r a w) ≡ Some (bits_out k r a (w + us))
unfolding wait_of late_b
out_wait k r a w us h = rw (le-ltb 10_000 (w + us) h)
