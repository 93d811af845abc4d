-- The same a byte at a time: what a line read so far leaves to remember. That it is the same is `line_read` of proofs/Reading.antt.
use Rattle.std.specs.Prelude.{ℕ, ◌+◌, List, [], ◌∷◌, Bool, true, false, ◌&&◌, ◌||◌, leb, ltb, eqb, Option, None, Some}
use Rattle.std.specs.Prelude.{if◌then◌else◌}
use Rattle.bus_text.specs.declared.Scan.{Scan}
use Rattle.bus_text.specs.declared.Numbers.{Numbers}
use Rattle.bus_text.specs.TextBytes.{space, is_digit}
use Rattle.bus_text.specs.Whole.{numbers_of, longer}

abbrev pub scan_of : ℕ → Bool → ℕ → ℕ → ℕ → Scan
scan_of spaces begun first second third =
    record { spaces = spaces; begun = begun; first = first; second = second; third = third }

abbrev pub fresh_scan : Scan
fresh_scan = scan_of 0 false 0 0 0

-- three spaces are one too many, so nothing that follows makes the line readable
abbrev pub spoiled_scan : Scan
spoiled_scan = scan_of 3 true 0 0 0

-- "one space between": a space ends a word that has a byte, and begins the second or the third
unfoldable pub parted_of : Scan → Scan
parted_of s = if leb s.spaces 1 && s.begun then scan_of (s.spaces + 1) false s.second s.third 0 else spoiled_scan

-- "digits only", "up to 65,535": any other byte is one more digit
unfoldable pub grown_of : Scan → ℕ → Scan
grown_of s b =
    if is_digit b && leb (longer s.third b) 65_535 then scan_of s.spaces true s.first s.second (longer s.third b) else spoiled_scan

unfoldable pub fed_of : Scan → ℕ → Scan
fed_of s b = if eqb b space then parted_of s else (grown_of s b)

-- "three decimal numbers": two spaces, and the word behind the second has a byte
unfoldable pub finish_of : Scan → Option Numbers
finish_of s = if eqb s.spaces 2 && s.begun then Some (numbers_of s.first s.second s.third) else None

-- "the last newline may be missing": whether the line has a byte
abbrev pub has_byte_of : Scan → Bool
has_byte_of s = s.begun || ltb 0 s.spaces

-- the scan behind a list of bytes
abbrev pub fed_all : Scan → List ℕ → Scan
fed_all s [] = s
fed_all s (b ∷ l) = fed_all (fed_of s b) l
