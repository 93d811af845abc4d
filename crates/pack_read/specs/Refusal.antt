-- "Refusals, with the pack's end as place (0 for 36)": the paper's number of each.
use Rattle.std.specs.Prelude.{ℕ, Result, Ok, Err}
use Rattle.pack_read.specs.declared.Refusal.{Refusal}
use Rattle.pack_read.specs.declared.Refusal.TheVariants.{Short, Distance, Form, Field, Size, Order, Large, Room}
use Rattle.pack_read.specs.declared.read.Refused.{Refused}

abbrev pub refusal_number : Refusal → ℕ
refusal_number Short = 30  -- "fewer than 44 bytes left"
refusal_number Distance = 31  -- "distance below 44 or more than is left"
refusal_number Form = 32  -- "other form"
refusal_number Field = 33  -- "a field"
refusal_number Size = 34  -- "distance isn't cylinders × heads × track length + 44"
refusal_number Order = 35  -- "slots not rising through the file"
refusal_number Large = 36  -- "file over 2,147,483,647 bytes"
refusal_number Room = 37  -- "too little room"

-- 0 where nothing is refused
abbrev pub read_number : {A : Type 0} → Result A Refused → ℕ
read_number (Ok found) = 0
read_number (Err refused) = refusal_number refused.why

abbrev pub read_place : {A : Type 0} → Result A Refused → ℕ
read_place (Ok found) = 0
read_place (Err refused) = refused.place.0
