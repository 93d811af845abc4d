-- Feeding all bytes of a line and finishing finds what the whole line says, `line_read`; and a line has a byte where a byte was fed, `byte_seen`.
use Prim.Native.Nat.{ℕ, ◌+◌, ◌≤◌}
use mathlib.Core.Path.{◌≡◌, refl, sym, ◌∙◌}
use mathlib.Core.List.{List, [], ◌∷◌}
use mathlib.Core.Bool.{Bool, true, false, ◌&&◌}
use native.Mathlib.Omega.{arith}
use lib.Dec.{leb, eqb}
use borrow.Author.Tests.{leb-true, leb-false, le-leb, lt-leb, lt-ltb}
use Rattle.std.specs.Prelude.{if◌then◌else◌, Option, None, Some}
use Rattle.bus_text.specs.TextBytes.{is_digit, space}
use Rattle.bus_text.specs.declared.Scan.{Scan}
use Rattle.bus_text.specs.declared.Numbers.{Numbers}
use Rattle.bus_text.specs.Whole.{numbers_of, all_digits, longer, value_from, digits_value, is_number, has_any, first_word, other_words, three_of, line_of}
use Rattle.bus_text.specs.Scan.{scan_of, fresh_scan, spoiled_scan, parted_of, grown_of, fed_of, finish_of, fed_all, has_byte_of}
use Rattle.counts.proofs.Choice.{either_way}

and_none : (x : Bool) → (x && false) ≡ false
and_none true = refl
and_none false = refl

-- one digit more leaves a number up to 65,535
abbrev fits : ℕ → ℕ → Bool
fits n x = is_digit x && leb (longer n x) 65_535

-- a word checked digit by digit behind the number n; g says whether it has a byte already
abbrev goes_on : Bool → ℕ → List ℕ → Bool
goes_on g n [] = g
goes_on g n (x ∷ w) = fits n x && goes_on true (longer n x) w

grows : (w : List ℕ) (n : ℕ) → n ≤ value_from n w
grows [] n = omega arith
grows (x ∷ w) n = omega (arith, grows w (longer n x))

-- that is the check of the whole word, since a number too large stays so
checked_by : (x y : Bool) (q : ℕ) (w : List ℕ) → leb q 65_535 ≡ y →
    (q ≤ 65_535 → goes_on true q w ≡ (all_digits w && leb (value_from q w) 65_535)) →
    ((x && y) && goes_on true q w) ≡ ((x && all_digits w) && leb (value_from q w) 65_535)
checked_by false y q w h k = refl
checked_by true true q w h k = k (leb-true q 65_535 h)
checked_by true false q w h k =
    simp (lt-leb (value_from q w) 65_535 (omega (arith, leb-false q 65_535 h, grows w q)), and_none)

checked : (w : List ℕ) (n : ℕ) → n ≤ 65_535 → goes_on true n w ≡ (all_digits w && leb (value_from n w) 65_535)
checked [] n h = simp (le-leb n 65_535 h)
checked (x ∷ w) n h = checked_by (is_digit x) (leb (longer n x) 65_535) (longer n x) w refl (checked w (longer n x))

word_checked : (w : List ℕ) → goes_on false 0 w ≡ is_number w
unfolding is_number
word_checked [] = refl
word_checked (x ∷ w) = checked (x ∷ w) 0 (omega arith)

-- what a line says whose present word is the number c where ok says so, and whose further words are ws
abbrev judge : ℕ → ℕ → ℕ → Bool → ℕ → List (List ℕ) → Option Numbers
judge n a b ok c [] = if eqb n 2 && ok then Some (numbers_of a b c) else None
judge n a b ok c (w ∷ ws) = if leb n 1 && ok then judge (n + 1) b c (goes_on false 0 w) (digits_value w) ws else None

judge_and : (d ok : Bool) (ws : List (List ℕ)) (n a b c : ℕ) → judge n a b (d && ok) c ws ≡ (if d then judge n a b ok c ws else None)
judge_and true ok ws n a b c = refl
judge_and false ok [] n a b c = simp and_none
judge_and false ok (w ∷ ws) n a b c = simp and_none

three : (x y z : Bool) (l : Option Numbers) → (if x then if y then if z then l else None else None else None) ≡ (if x && (y && z) then l else None)
three true true z l = refl
three true false z l = refl
three false y z l = refl

judged : (u : List ℕ) (ws : List (List ℕ)) → judge 0 0 0 (goes_on false 0 u) (digits_value u) ws ≡ three_of (u ∷ ws)
unfolding three_of
judged u [] = refl
judged u (v ∷ []) = either_way (λ (l : Option Numbers). l ≡ None) (goes_on false 0 u) refl refl
judged u (v ∷ w ∷ []) = simp word_checked (three (is_number u) (is_number v) (is_number w) (Some (numbers_of (digits_value u) (digits_value v) (digits_value w))))
judged u (v ∷ w ∷ x ∷ ws) =
    either_way (λ (l : Option Numbers). l ≡ None) (goes_on false 0 u) (either_way (λ (l : Option Numbers). l ≡ None) (goes_on false 0 v) refl refl) refl

-- a spoiled line stays so
lost : (l : List ℕ) (c : ℕ) → finish_of (fed_all (scan_of 3 true 0 0 c) l) ≡ None
unfolding finish_of fed_of parted_of grown_of
lost [] c = refl
lost (x ∷ l) c =
    let P : Scan → Type 0 = λ s. finish_of (fed_all s l) ≡ None in
    either_way P (eqb x space) (lost l 0) (either_way P (fits c x) (lost l (longer c x)) (lost l 0))

or_lost : (d : Bool) (l : List ℕ) (s : Scan) {j : Option Numbers} → finish_of (fed_all s l) ≡ j →
    finish_of (fed_all (if d then s else spoiled_scan) l) ≡ (if d then j else None)
or_lost true l s k = k
or_lost false l s k = lost l 0

abbrev Scanned : List ℕ → Type 0
Scanned l = (g : Bool) (n a b c : ℕ) →
    finish_of (fed_all (scan_of n g a b c) l) ≡ judge n a b (goes_on g c (first_word l)) (value_from c (first_word l)) (other_words l)

byte : (e : Bool) (x : ℕ) (l : List ℕ) → Scanned l → (g : Bool) (n a b c : ℕ) →
    finish_of (fed_all (if e then parted_of (scan_of n g a b c) else (grown_of (scan_of n g a b c) x)) l)
    ≡ judge n a b (goes_on g c (if e then [] else (x ∷ first_word l))) (value_from c (if e then [] else (x ∷ first_word l)))
    (if e then first_word l ∷ other_words l else (other_words l))
unfolding parted_of grown_of
byte true x l k g n a b c = or_lost (leb n 1 && g) l (scan_of (n + 1) false b c 0) (k false (n + 1) b c 0)
byte false x l k g n a b c =
    or_lost (fits c x) l (scan_of n true a b (longer c x)) (k true n a b (longer c x)) ∙ sym (judge_and (fits c x) _ (other_words l) n a b _)

scanned : (l : List ℕ) → Scanned l
unfolding finish_of fed_of first_word other_words
scanned [] g n a b c = refl
scanned (x ∷ l) g n a b c = byte (eqb x space) x l (scanned l) g n a b c

-- any line, of any length
pub line_read : (l : List ℕ) → finish_of (fed_all fresh_scan l) ≡ line_of l
unfolding line_of
line_read l = scanned l false 0 0 0 0 ∙ judged (first_word l) (other_words l)

seen : (l : List ℕ) (s : Scan) (x : ℕ) → has_byte_of (fed_all (fed_of s x) l) ≡ true
unfolding fed_of parted_of grown_of
seen [] s x =
    let P : Scan → Type 0 = λ t. has_byte_of t ≡ true in
    either_way P (eqb x space)
    (either_way P (leb s.spaces 1 && s.begun) (lt-ltb 0 (s.spaces + 1) (omega arith)) refl)
    (either_way P (fits s.third x) refl refl)
seen (y ∷ l) s x = seen l (fed_of s x) y

pub byte_seen : (l : List ℕ) → has_byte_of (fed_all fresh_scan l) ≡ has_any l
byte_seen [] = refl
byte_seen (x ∷ l) = seen l fresh_scan x
