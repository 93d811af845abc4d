-- Text stored piece by piece is the whole stored at once, and from the start of a part it stands in place of the part's first bytes.
use Prim.Native.Nat.{ℕ, suc, ◌+◌, ◌≤◌, ◌<◌}
use mathlib.Core.Path.{◌≡◌, sym, ap, ◌∙◌}
use mathlib.Core.List.{List, [], ◌∷◌, ◌++◌}
use native.Mathlib.Omega.{arith}
use native.Mathlib.Nat.{add-zero, zero-add}
use lib.ListN.{length, set, length-append}
use lib.Seq.{sets, sets-eq}
use borrow.Author.Tests.{le-leb, lt-leb}
use Rattle.bus_text.specs.AnswerLine.{longest_line}
use Rattle.bus_text.specs.Stored.{Put, fitting, LineStored}

sets_append : (t u l : List ℕ) (at : ℕ) → sets l at (t ++ u) ≡ sets (sets l at t) (at + length t) u
sets_append [] u l at = simp add-zero
sets_append (x ∷ t) u l at =
    sets_append t u (set l at x) (suc at) ∙ ap (λ (k : ℕ). sets (sets (set l at x) (suc at) t) k u) (omega arith)

pub put_then : {old mid new t u : List ℕ} {at p q : ℕ} → Put old at t mid p → Put mid p u new q → Put old at (t ++ u) new q
put_then {old = old} {t = t} {u = u} {at = at} a b = record {
  holds = b.holds ∙ rw (a.holds, a.ends) (sym (sets_append t u old at));
  ends = omega (arith, a.ends, b.ends, length-append t u);
}

-- a part too short for the longest line
pub refused : (old line : List ℕ) → length old < longest_line → LineStored old line old 0
unfolding fitting
refused old line h = record {
  holds = simp (lt-leb longest_line (length old) h);
  counts = simp (lt-leb longest_line (length old) h);
  within = omega arith;
}

-- a line stored from the part's start on
pub stored : {old line new : List ℕ} {r : ℕ} → longest_line ≤ length old → length line ≤ longest_line → Put old 0 line new r → LineStored old line new r
unfolding fitting
stored {old = old} {line = line} h k p = record {
  holds = simp (le-leb longest_line (length old) h) (p.holds ∙ sets-eq line old 0 (omega arith) ∙ simp zero-add);
  counts = simp (le-leb longest_line (length old) h) (omega (arith, p.ends));
  within = omega (arith, p.ends);
}
