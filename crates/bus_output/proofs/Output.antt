-- A line stored behind the output that waits, and what a turn leaves there.
use Prim.Native.Nat.{ℕ, ◌+◌, ◌-◌, ◌≤◌, ◌<◌}
use mathlib.Core.Path.{◌≡◌, sym, ap, ◌∙◌}
use mathlib.Core.List.{List, [], ◌++◌, append_assoc, append-nil}
use native.Mathlib.Omega.{arith}
use lib.ListN.{length, take, drop, length-append, length-drop, drop_of_length-le, take-append-drop}
use lib.Seq.{length-take-le, drop-drop, take_at, drop_at}
use borrow.Author.Tests.{le-leb, lt-leb}
use Rattle.counts.proofs.Parts.{rest}
use Rattle.bus_text.specs.AnswerLine.{longest_line}
use Rattle.bus_text.specs.Stored.{fitting, LineStored, over}
use Rattle.bus_output.specs.Output.{block_length, room_for, Stored, Behind}

-- no room: the output is as it was
pub none_stored : (old line : List ℕ) (at : ℕ) → block_length < at + longest_line → Stored old at (room_for at line) old at
unfolding room_for
none_stored old line at h =
    let e = lt-leb (at + longest_line) block_length h in
    record { holds = simp e (sym (take-append-drop at old)); ends = simp e (omega arith); short = simp e (omega arith); within = λ k. absurd (omega arith) }

-- room: the line
pub line_stored : {old line new : List ℕ} {at next : ℕ} → at + longest_line ≤ block_length → Stored old at line new next → Stored old at (room_for at line) new next
unfolding room_for
line_stored {at = at} h s = simp (le-leb (at + longest_line) block_length h) s

-- a line at the start of the part from a place on
pub stored_from : (old line after : List ℕ) (at n : ℕ) → at + longest_line ≤ length old → length line ≤ longest_line
    → LineStored (take (length old - at) (drop at old)) line after n → Stored old at line (take at old ++ (after ++ drop (length old - at) (drop at old))) (at + n)
unfolding fitting
stored_from old line after at n h m a =
    let b : LineStored (drop at old) line after n = rw rest at a in
    let e = le-leb longest_line (length (drop at old)) (omega (arith, length-drop at old)) in
    let z : drop (length old - at) (drop at old) ≡ [] = drop_of_length-le (drop at old) {i = length old - at} (omega (arith, length-drop at old)) in
    let w : after ≡ over line (drop at old) = simp e at b.holds in
    record { holds = rw (z, append-nil, w); ends = ap (λ (i : ℕ). at + i) (simp e at b.counts); short = m; within = λ k. omega (arith, b.within, length-drop at old) }

-- where there is room, the line stands behind what waited
pub put_behind : {old line new : List ℕ} {at next : ℕ} → Stored old at (room_for at line) new next → at + longest_line ≤ block_length → Behind old at line new next
unfolding room_for
put_behind {old} {line} {new} {at} {next} p h =
    let e = le-leb (at + longest_line) block_length h in
    let n : next ≡ at + length line = simp e at p.ends in
    let m : length line ≤ longest_line = simp e at p.short in
    let k = p.within h in
    let w : new ≡ (take at old ++ line) ++ drop next old =
    (simp e at p.holds) ∙ rw (drop-drop (length line) at old, n, append_assoc) in
    let l : length (take at old ++ line) ≡ next = omega (arith, length-append (take at old) line, length-take-le at old (omega arith)) in
    record {
      waits = rw w (take_at (take at old ++ line) (drop next old) next l);
      rest = rw w (drop_at (take at old ++ line) (drop next old) next l);
      further = omega arith;
      near = omega arith;
      within = k;
      holds = rw w (omega (arith, l, length-append (take at old ++ line) (drop next old)));
    }

-- what is the same from a place on is the same from any further one
pub drop_further : (old new : List ℕ) (at next : ℕ) → at ≤ next → drop at new ≡ drop at old → drop next new ≡ drop next old
drop_further old new at next h e =
    let k : at + (next - at) ≡ next = omega arith in
    ap (λ (n : ℕ). drop n new) (sym k) ∙ sym (drop-drop (next - at) at new) ∙ ap (λ (l : List ℕ). drop (next - at) l) e ∙ drop-drop (next - at) at old
    ∙ ap (λ (n : ℕ). drop n old) k

-- the output, of what waits in it and of its end
pub held : (old new text : List ℕ) (n : ℕ) → n ≤ length new → take n new ≡ text → drop n new ≡ drop n old → (n ≡ length text) × (new ≡ over text old)
held old new text n h e d =
    let k : n ≡ length text = sym (length-take-le n new h) ∙ ap length e in
    (k, sym (take-append-drop n new) ∙ rw (e, d) (ap (λ (i : ℕ). text ++ drop i old) k))
