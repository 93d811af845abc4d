-- Where an event line ends in a part of the input: at the newline byte alone. Document 01, Runner: "reads event lines from standard input".
use Rattle.std.specs.Prelude.{ℕ, List, [], ◌∷◌, eqb, length}
use Rattle.std.specs.Prelude.{if◌then◌else◌}
use Rattle.bus_text.specs.TextBytes.{newline}
use Rattle.bus_text.specs.declared.Scan.{Scan}
use Rattle.bus_text.specs.declared.Stop.{Stop}
use Rattle.bus_text.specs.Scan.{fed_all}

-- the bytes before the first newline, all where there is none
unfoldable pub first_line : List ℕ → List ℕ
first_line [] = []
first_line (b ∷ l) = if eqb b newline then [] else (b ∷ first_line l)

-- the line that goes on at the part's start: where it stops there, and its scan
abbrev pub line_stop : List ℕ → Scan → Stop
line_stop part s = record { at = length (first_line part); scan = fed_all s (first_line part) }
