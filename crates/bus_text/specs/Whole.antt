-- What a whole event line says. Document 01, answer 19: "line isn't three decimal numbers up to 65,535, one space between ..".
use Rattle.std.specs.Prelude.{ℕ, ◌+◌, ◌*◌, ◌-◌, List, [], ◌∷◌, Bool, true, false, ◌&&◌, leb, eqb, Option, None, Some}
use Rattle.std.specs.Prelude.{if◌then◌else◌}
use Rattle.bus_text.specs.TextBytes.{space, digit_byte, is_digit}
use Rattle.bus_text.specs.declared.Numbers.{Numbers}

-- "19 | runner only": the number of a line that says nothing; a line of three numbers has none of its own, since the board answers it
abbrev pub unreadable_number : ℕ
unreadable_number = 19

abbrev pub numbers_of : ℕ → ℕ → ℕ → Numbers
numbers_of kind a b = record { kind = kind; a = a; b = b }

-- "digits only"
abbrev pub all_digits : List ℕ → Bool
all_digits [] = true
all_digits (b ∷ w) = is_digit b && all_digits w

-- "decimal": the number n with one digit more
abbrev pub longer : ℕ → ℕ → ℕ
longer n b = n * 10 + (b - digit_byte 0)

-- the number n with the digits w behind it
abbrev pub value_from : ℕ → List ℕ → ℕ
value_from n [] = n
value_from n (b ∷ w) = value_from (longer n b) w

-- "leading zeros allowed": they leave 0 as it is
abbrev pub digits_value : List ℕ → ℕ
digits_value w = value_from 0 w

abbrev pub has_any : List ℕ → Bool
has_any [] = false
has_any (b ∷ w) = true

-- "decimal numbers up to 65,535"
unfoldable pub is_number : List ℕ → Bool
is_number w = has_any w && (all_digits w && leb (digits_value w) 65_535)

-- the bytes before the first space
unfoldable pub first_word : List ℕ → List ℕ
first_word [] = []
first_word (b ∷ l) = if eqb b space then [] else (b ∷ first_word l)

-- "one space between": the bytes behind each space up to the next, none where two spaces meet or one ends the line
unfoldable pub other_words : List ℕ → List (List ℕ)
other_words [] = []
other_words (b ∷ l) = if eqb b space then first_word l ∷ other_words l else (other_words l)

-- "three decimal numbers"
unfoldable pub three_of : List (List ℕ) → Option Numbers
three_of [] = None
three_of (u ∷ []) = None
three_of (u ∷ v ∷ []) = None
three_of (u ∷ v ∷ w ∷ []) =
    if is_number u && (is_number v && is_number w) then Some (numbers_of (digits_value u) (digits_value v) (digits_value w)) else None
three_of (u ∷ v ∷ w ∷ x ∷ ws) = None

unfoldable pub line_of : List ℕ → Option Numbers
line_of l = three_of (first_word l ∷ other_words l)
