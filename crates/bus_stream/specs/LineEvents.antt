-- The events of a text: the three numbers of each line that can be read, in order.
use Rattle.std.specs.Prelude.{ℕ, List, [], ◌∷◌, Option, None, Some}
use Rattle.event.specs.Numbers.{Numbers}
use Rattle.bus_text.specs.declared as text
use Rattle.bus_text.specs.Whole.{line_of}

-- "19 .. line isn't three decimal numbers": no event
abbrev pub event_on : Option text.Numbers.Numbers → List Numbers → List Numbers
event_on (Some n) rest = record { kind = n.kind; a = n.a; b = n.b } ∷ rest
event_on None rest = rest

abbrev pub events_in : List (List ℕ) → List Numbers
events_in [] = []
events_in (w ∷ ws) = event_on (line_of w) (events_in ws)
