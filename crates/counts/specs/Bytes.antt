-- Numbers as bytes, high byte first.
use Rattle.std.specs.Prelude.{ℕ, ◌+◌, ◌*◌, ◌/◌, ◌%◌, ◌^◌, ◌<◌, List, [], ◌∷◌, get_or}

-- one, two and four bytes from a place of a list; past its end stand zeros
abbrev pub one : List ℕ → ℕ → ℕ
one t k = get_or t k 0

abbrev pub two : List ℕ → ℕ → ℕ
two t k = get_or t k 0 * 256 + get_or t (k + 1) 0

abbrev pub four : List ℕ → ℕ → ℕ
four t k = ((get_or t k 0 * 256 + get_or t (k + 1) 0) * 256 + get_or t (k + 2) 0) * 256 + get_or t (k + 3) 0

abbrev pub bytes1 : ℕ → List ℕ
bytes1 v = v ∷ []

abbrev pub bytes2 : ℕ → List ℕ
bytes2 v = v / 256 % 256 ∷ v % 256 ∷ []

abbrev pub bytes4 : ℕ → List ℕ
bytes4 v = v / 16_777_216 % 256 ∷ v / 65_536 % 256 ∷ v / 256 % 256 ∷ v % 256 ∷ []

-- every element is a byte
abbrev pub Bytes : List ℕ → Type 0
Bytes l = (i : ℕ) → get_or l i 0 < 256

-- bit k of a word
abbrev pub bit : ℕ → ℕ → ℕ
bit w k = w / 2 ^ k % 2
