-- "Reading goes from the end: the last pack is read, then what is left in front of it by the same rule."
use Rattle.std.specs.Prelude.{ℕ, zero, suc, ◌+◌, ◌-◌, List, Bool, ◌&&◌, not, length, take, drop, set, ltb, leb, eqb}
use Rattle.std.specs.Prelude.{if◌then◌else◌, Result, Ok, Err}
use Rattle.counts.specs.declared.Place.{Place}
use Rattle.counts.specs.Bytes.{one, four}
use Rattle.pack_profile.specs.declared.Profile.{Profile}
use Rattle.pack_profile.specs.Profile.{medium_of}
use Rattle.pack_trailer.specs.Form.{trailer_length, form_one}
use Rattle.pack_trailer.specs.Fields.{profile_of, zeros_b}
use Rattle.pack_profile.specs.Valid.{valid_b}
use Rattle.pack_read.specs.declared.Pack.{Pack}
use Rattle.pack_read.specs.declared.Refusal.{Refusal}
use Rattle.pack_read.specs.declared.Refusal.TheVariants.{Short, Distance, Form, Field, Size, Order, Large}
use Rattle.pack_read.specs.declared.read.Refused.{Refused}
use Rattle.pack_read.specs.Packs.{longest_file, no_packs, fitted_pack}

-- "then per pack", behind 30: the pack ends at n, the one behind it has the slot limit
unfoldable pub verdict_of : ℕ → ℕ → ℕ → ℕ → Bool → ℕ → Profile → Result (Place × Profile) Refusal
verdict_of n limit distance form good medium p =
    if ltb distance trailer_length then Err Distance  -- "31 distance below 44"
    else (if ltb n distance then Err Distance  -- "or more than is left"
    else (if not (eqb form form_one) then Err Form  -- "32 other form"
    else (if not good then Err Field  -- "33 a field"
    else (if not (eqb distance (medium + trailer_length)) then Err Size  -- "34 distance isn't cylinders × heads × track length + 44"
    else (if leb limit p.slot then Err Order  -- "35 slots not rising through the file"
    else Ok (record { 0 = n - distance }, p))))))

unfoldable pub checked : List ℕ → ℕ → ℕ → Result (Place × Profile) Refusal
checked t n limit =
    verdict_of n limit (four t 40) (one t 39) (zeros_b t && valid_b (profile_of t)) (medium_of (profile_of t).shape) (profile_of t)

unfoldable pub last_pack : List ℕ → ℕ → Result (Place × Profile) Refusal
last_pack l limit =
    if ltb (length l) trailer_length then Err Short  -- "30 fewer than 44 bytes left"
    else checked (drop (length l - trailer_length) l) (length l) limit

-- a refused file has no packs
abbrev pub refused_at : Refusal → ℕ → Result (List Pack) Refused
refused_at why end = Err (record { why = why; place = record { 0 = end } })

-- with the last pack known, what stands in front of it is read
abbrev pub and_in_front : (List ℕ → ℕ → List Pack → Result (List Pack) Refused) → List ℕ → List Pack → Result (Place × Profile) Refusal → Result (List Pack) Refused
and_in_front front l found (Err why) = refused_at why (length l)
and_in_front front l found (Ok (place, p)) = front (take place.0 l) p.slot (set found (p.slot - 1) (fitted_pack place p))

-- k is more than the length of l, which falls
unfoldable pub read_back : ℕ → List ℕ → ℕ → List Pack → Result (List Pack) Refused
read_back zero l limit found = Ok found
read_back (suc k) l limit found =
    if eqb (length l) 0 then Ok found
    else and_in_front (read_back k) l found (last_pack l limit)

-- "36 file over 2,147,483,647 bytes"; a slot is below 8
unfoldable pub read_all : List ℕ → Result (List Pack) Refused
read_all l = if ltb longest_file (length l) then refused_at Large 0 else read_back (suc (length l)) l 8 no_packs
