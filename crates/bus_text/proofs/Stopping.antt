-- A loop that reads a part byte by byte up to the newline: its invariant `stop_from`, and the loop's turn and two ends.
use Prim.Native.Nat.{ℕ, suc, ◌+◌, ◌≤◌, ◌<◌}
use mathlib.Core.Path.{◌≡◌, sym, ap, ◌∙◌}
use mathlib.Core.List.{List, [], ◌∷◌}
use native.Mathlib.Omega.{arith}
use native.Mathlib.Numerals.{add-one}
use native.Mathlib.Nat.{add-zero, zero-add}
use lib.ListN.{length, drop, get_or, drop_of_length-le}
use lib.Seq.{drop-cons}
use borrow.Author.Tests.{eq-eqb, ne_eqb}
use Rattle.bus_text.specs.TextBytes.{newline}
use Rattle.bus_text.specs.declared.Scan.{Scan}
use Rattle.bus_text.specs.declared.Stop.{Stop}
use Rattle.bus_text.specs.Scan.{fed_of, fed_all}
use Rattle.bus_text.specs.TextLines.{first_line, line_stop}

-- where the line stops, seen from the place i
abbrev pub stop_from : List ℕ → ℕ → Scan → Stop
stop_from l i s = record { at = i + length (first_line (drop i l)); scan = fed_all s (first_line (drop i l)) }

pub begins : (l : List ℕ) (s : Scan) → stop_from l 0 s ≡ line_stop l s
begins l s = simp zero-add

byte_more : (w : List ℕ) (i b : ℕ) (s : Scan) →
    ◌≡◌ {A = Stop} (record { at = suc i + length w; scan = fed_all (fed_of s b) w }) (record { at = i + length (b ∷ w); scan = fed_all s (b ∷ w) })
byte_more w i b s = ap (λ (k : ℕ). record { at = k; scan = fed_all (fed_of s b) w }) (omega arith)

pub goes_on_lem : (l : List ℕ) (i : ℕ) (s : Scan) → i < length l → (get_or l i 0 ≡ newline → ⊥) →
    stop_from l (i + 1) (fed_of s (get_or l i 0)) ≡ stop_from l i s
unfolding first_line
goes_on_lem l i s h n =
    rw (add-one) (byte_more (first_line (drop (suc i) l)) i (get_or l i 0) s ∙ sym (simp (drop-cons l i 0 h, ne_eqb (get_or l i 0) newline n)))

stops : (l : List ℕ) (i : ℕ) (s : Scan) → first_line (drop i l) ≡ [] → record { at = i; scan = s } ≡ stop_from l i s
stops l i s e = sym (simp (e, add-zero))

pub at_newline : (l : List ℕ) (i : ℕ) (s : Scan) → i < length l → get_or l i 0 ≡ newline → record { at = i; scan = s } ≡ stop_from l i s
unfolding first_line
at_newline l i s h e = stops l i s (simp (drop-cons l i 0 h, eq-eqb (get_or l i 0) newline e))

pub at_end : (l : List ℕ) (i : ℕ) (s : Scan) → length l ≤ i → record { at = i; scan = s } ≡ stop_from l i s
unfolding first_line
at_end l i s h = stops l i s (simp (drop_of_length-le l h))
