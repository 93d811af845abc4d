-- "General word": what its bits say.
use Rattle.std.specs.Prelude.{ℕ, ◌+◌, List, [], ◌∷◌, Bool, ltb, eqb}
use Rattle.std.specs.Bool.{beq}
use Rattle.counts.specs.Bytes.{bit}
use Rattle.counts.specs.Tests.{all_of}

-- bit k of the word stands
abbrev pub has : ℕ → ℕ → Bool
has w k = eqb (bit w k) 1

-- "13 offset option; 5 motor option"
abbrev pub offset_option : ℕ → Bool
offset_option w = has w 13

abbrev pub motor_option : ℕ → Bool
motor_option w = has w 5

-- "7 (removable), 6 (fixed)"
abbrev pub removable : ℕ → Bool
removable w = has w 7

-- "2 (soft), 1, 0 (hard)"
abbrev pub soft : ℕ → Bool
soft w = has w 2

-- a head switch that takes no longer is not waited for
abbrev pub at_once : ℕ
at_once = 15

abbrev pub general_tests : ℕ → ℕ → List Bool
general_tests w switch =
    ltb w 32_768  -- "15 .. zero": the word is below 2 ^ 15
    ∷ eqb (bit w 12) 0  -- "12 zero"
    ∷ eqb (bit w 10 + bit w 9 + bit w 8) 1  -- "exactly one of 10, 9, 8"
    ∷ eqb (bit w 7 + bit w 6) 1  -- "of 7 (removable), 6 (fixed)"
    ∷ beq (has w 4) (ltb at_once switch)  -- "4 exactly when head switch > 15"
    ∷ eqb (bit w 2 + bit w 1 + bit w 0) 1  -- "exactly one of 2 (soft), 1, 0 (hard)"
    ∷ []  -- "others free"

abbrev pub general_ok : ℕ → ℕ → Bool
general_ok w switch = all_of (general_tests w switch)
