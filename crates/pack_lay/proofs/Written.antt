-- Writes one after the other: what a part holds behind them.
use mathlib.Core.Path.{◌≡◌, refl, ap, ◌∙◌}
use mathlib.Core.List.{List, [], ◌∷◌, ◌++◌}
use Prim.Native.Nat.{ℕ, zero, suc, ◌+◌, ◌≤◌}
use native.Mathlib.Omega.{arith}
use lib.ListN.{length, take, drop, set, length-append, length-set}
use lib.Seq.{sets, sets-eq}
use Rattle.pack_lay.specs.Order.{Write, from, written}

pub written_append : (a b : List Write) (l : List ℕ) → written (a ++ b) l ≡ written b (written a l)
unfolding written
written_append [] b l = refl
written_append (w ∷ a) b l = written_append a b (set l w.place w.byte)

pub length_written : (ws : List Write) (l : List ℕ) → length (written ws l) ≡ length l
unfolding written
length_written [] l = refl
length_written (w ∷ ws) l = length_written ws (set l w.place w.byte) ∙ length-set l w.place w.byte

pub from_append : (a b : List ℕ) (at : ℕ) → from at (a ++ b) ≡ from at a ++ from (at + length a) b
from_append [] b at = ap (λ (k : ℕ). from k b) (omega arith)
from_append (x ∷ a) b at =
    let same : suc at + length a ≡ at + suc (length a) = omega arith in
    ap (λ (ws : List Write). record { place = at; byte = x } ∷ ws)
    (from_append a b (suc at) ∙ ap (λ (k : ℕ). from (suc at) a ++ from k b) same)

-- three stretches one behind the other
pub from_three : (a b c : List ℕ) (n k : ℕ) → length a ≡ n → length b ≡ k → from 0 (a ++ b ++ c) ≡ from 0 a ++ from n b ++ from (n + k) c
from_three a b c n k ea eb =
    let to-b : 0 + length a ≡ n = omega arith in
    let to-c : 0 + length (a ++ b) ≡ n + k = omega (arith, length-append a b) in
    from_append (a ++ b) c 0 ∙ rw to-c (ap (λ (ws : List Write). ws ++ from (n + k) c) (from_append a b 0 ∙ ap (λ (j : ℕ). from 0 a ++ from j b) to-b))

pub take_from : (k : ℕ) (bs : List ℕ) (at : ℕ) → take k (from at bs) ≡ from at (take k bs)
take_from zero bs at = refl
take_from (suc k) [] at = refl
take_from (suc k) (b ∷ bs) at = ap (λ (ws : List Write). record { place = at; byte = b } ∷ ws) (take_from k bs (suc at))

stored : (bs l : List ℕ) (at : ℕ) → written (from at bs) l ≡ sets l at bs
unfolding written
stored [] l at = refl
stored (b ∷ bs) l at = stored bs (set l at b) (suc at)

-- bytes put one behind the other stand there, and nothing else is touched
pub written_from : (bs l : List ℕ) (at : ℕ) → at + length bs ≤ length l → written (from at bs) l ≡ take at l ++ bs ++ drop (at + length bs) l
written_from bs l at room = stored bs l at ∙ sets-eq bs l at room

-- from the start of the part on
pub written_first : (bs l : List ℕ) (n : ℕ) → length bs ≡ n → n ≤ length l → written (from 0 bs) l ≡ bs ++ drop n l
written_first bs l n e room =
    let same : 0 + length bs ≡ n = omega arith in
    written_from bs l 0 (omega arith) ∙ ap (λ (k : ℕ). bs ++ drop k l) same
