-- The numbers of a trailer.
use Rattle.std.specs.Prelude.{ℕ}

-- "a 44-byte trailer"
abbrev pub trailer_length : ℕ
trailer_length = 44

-- "39: form 1"
abbrev pub form_one : ℕ
form_one = 1

-- where the form stands in a trailer: the last of its fields
abbrev pub form_place : ℕ
form_place = 39

-- "40-43: bytes from the pack's end back to its start": where they begin
abbrev pub distance_place : ℕ
distance_place = 40
