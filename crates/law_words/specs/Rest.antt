-- Five events that bring a chain to rest on a slot: demand 3's "any fitted drive that is selected, with both gates off, the request line low".
use Rattle.std.specs.Prelude.{ℕ, List, [], ◌∷◌}
use Rattle.event.specs.Numbers.{Numbers}

abbrev pub line_event : ℕ → ℕ → Numbers
line_event kind a = record { kind = kind; a = a; b = 0 }

-- no drive selected, which drops an open transfer; write gate, read gate and request low; then the slot selected
abbrev pub rest_events : ℕ → List Numbers
rest_events slot = line_event 0 0 ∷ line_event 2 0 ∷ line_event 3 0 ∷ line_event 5 0 ∷ line_event 0 slot ∷ []
