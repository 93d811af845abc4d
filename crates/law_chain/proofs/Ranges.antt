-- The operands that a decoded event has, and the lines that it leaves.
use mathlib.Core.Path.{◌≡◌}
use mathlib.Core.Bool.{Bool, true}
use Prim.Native.Nat.{ℕ, ◌≤◌}
use borrow.Author.Tests.{leb-true, le-leb}
use lib.Dec.{ltb, leb, eqb}
use Rattle.std.specs.Prelude.{Result, Ok, Err}
use Rattle.counts.proofs.Choice.{by_test}
use Rattle.counts.proofs.Tests.{both, each, all, within_both}
use Rattle.event.specs.declared.Event.{Event}
use Rattle.event.specs.declared.Event.TheVariants.{Select, Heads, WriteGate, ReadGate, Data, Request, Pass, Cell, Condition}
use Rattle.event.specs.declared.Undecoded.{Undecoded}
use Rattle.event.specs.declared.Undecoded.TheVariants.{Unknown, Range}
use Rattle.counts.specs.Slots.{slot_b}
use Rattle.event.specs.Operands.{is_position, is_byte, is_condition, stray_b}
use Rattle.event.specs.Decode.{ranged, level_line, kind_row, decode_of}
use Rattle.lines.specs.declared.Lines.{Lines}
use Rattle.lines.specs.Lines.{line_tests, lines_b}
use Rattle.chain_decide.specs.Levels.{lines_after}

-- "select code ≤ 7", head lines 0..15, levels 0/1
abbrev pub InRange : Event → Type 0
InRange (Select slot) = slot ≤ 7
InRange (Heads h) = h.0 ≤ 15
InRange (WriteGate level) = level ≤ 1
InRange (ReadGate level) = level ≤ 1
InRange (Data level) = level ≤ 1
InRange (Request level) = level ≤ 1
InRange (Pass us) = us.0 ≤ 65_535
InRange (Cell position byte) = (position.0 ≤ 65_535) × (byte ≤ 255)
InRange (Condition slot which) = (1 ≤ slot) × (slot ≤ 7) × (1 ≤ which) × (which ≤ 4)

abbrev Within : Result Event Undecoded → Type 0
Within (Ok e) = InRange e
Within (Err Unknown) = Unit
Within (Err Range) = Unit

good : (t : Bool) (e : Event) → (t ≡ true → InRange e) → Within (ranged t e)
unfolding ranged
good t e h = by_test Within t _ _ h (λ n. tt)

a_line : (kind a : ℕ) → a ≤ 1 → InRange (level_line kind a)
unfolding level_line
a_line kind a h = by_test InRange (eqb kind 2) _ _ (λ t. h) (λ t. by_test InRange (eqb kind 3) _ _ (λ t. h) (λ t. by_test InRange (eqb kind 4) _ _ (λ t. h) (λ t. h)))

row : (kind a b : ℕ) → Within (kind_row kind a b)
unfolding kind_row
row kind a b =
    by_test Within (eqb kind 0) _ _ (λ t. good _ _ (leb-true a 7))
    (λ t. by_test Within (eqb kind 1) _ _ (λ t. good _ _ (leb-true a 15))
    (λ t. by_test Within (leb kind 5) _ _ (λ t. good _ _ (λ h. a_line kind a (leb-true a 1 h)))
    (λ t. by_test Within (eqb kind 6) _ _ (λ t. good _ _ (leb-true a 65_535))
    (λ t. by_test Within (eqb kind 7) _ _
    (λ t. good _ _ (λ h. let e = both (is_position a) (is_byte b) h in (leb-true a 65_535 e.0, leb-true b 255 e.1)))
    (λ t. good _ _ (λ h.
    let e = both (slot_b a) (is_condition b) h in
    let s = within_both 1 7 a e.0 in
    let w = within_both 1 4 b e.1 in
    (s.0, s.1, w.0, w.1)))))))

decoded : (kind a b : ℕ) → Within (decode_of kind a b)
unfolding decode_of
decoded kind a b = by_test Within (ltb 8 kind) _ _ (λ t. tt) (λ t. by_test Within (stray_b kind b) _ _ (λ t. tt) (λ t. row kind a b))

pub decoded_range : (kind a b : ℕ) (e : Event) → decode_of kind a b ≡ Ok e → InRange e
decoded_range kind a b e q = rw q at (decoded kind a b)

pub lines_kept : (e : Event) (l : Lines) → InRange e → lines_b l ≡ true → lines_b (lines_after e l) ≡ true
lines_kept (Select slot) l r h = let t = each (line_tests l) h in all (line_tests (lines_after (Select slot) l)) (le-leb _ _ r, t.1)
lines_kept (Heads x) l r h = let t = each (line_tests l) h in all (line_tests (lines_after (Heads x) l)) (t.0, (le-leb _ _ r, t.1.1))
lines_kept (WriteGate v) l r h = let t = each (line_tests l) h in all (line_tests (lines_after (WriteGate v) l)) (t.0, (t.1.0, (le-leb _ _ r, t.1.1.1)))
lines_kept (ReadGate v) l r h =
    let t = each (line_tests l) h in all (line_tests (lines_after (ReadGate v) l)) (t.0, (t.1.0, (t.1.1.0, (le-leb _ _ r, t.1.1.1.1))))
lines_kept (Data v) l r h =
    let t = each (line_tests l) h in
    all (line_tests (lines_after (Data v) l)) (t.0, (t.1.0, (t.1.1.0, (t.1.1.1.0, (le-leb _ _ r, t.1.1.1.1.1)))))
lines_kept (Request v) l r h =
    let t = each (line_tests l) h in
    all (line_tests (lines_after (Request v) l)) (t.0, (t.1.0, (t.1.1.0, (t.1.1.1.0, (t.1.1.1.1.0, (le-leb _ _ r, tt))))))
lines_kept (Pass us) l r h = h
lines_kept (Cell position byte) l r h = h
lines_kept (Condition slot which) l r h = h
