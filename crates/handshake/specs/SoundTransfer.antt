-- What the handshake leaves: the clauses on transfers of "A record is malformed when ..".
use Rattle.std.specs.Prelude.{ℕ, ◌+◌, ◌/◌, ◌^◌, Bool, false, ◌&&◌, List, [], ◌∷◌, leb, eqb}
use Rattle.std.specs.Prelude.{if◌then◌else◌}
use Rattle.counts.specs.Tests.{all_of}
use Rattle.handshake.specs.declared.Transfer.{Transfer}
use Rattle.handshake.specs.Transfer.{taking, responding, word_bits, largest, patience}

-- "a drive with no open transfer has acknowledge up or any collected bit, response or waiting time other than 0"
abbrev pub idle_tests : Transfer → List Bool
idle_tests t =
    eqb t.waiting.0 0 ∷ eqb t.bits 0 ∷ eqb t.response 0 ∷ eqb t.count 0 ∷ eqb t.acknowledge 0 ∷ []

abbrev pub idle_b : Transfer → Bool
idle_b t = all_of (idle_tests t)

-- no transfer at all
abbrev pub none_b : Transfer → Bool
none_b t = eqb t.way 0 && idle_b t

-- "an open transfer's acknowledge or bit counts aren't what the handshake leaves at that request level":
-- 1 to 16 bits taken at low, 1 to 17 at high, and none stands above their count
abbrev pub taking_tests : ℕ → Transfer → List Bool
taking_tests request t =
    leb t.count word_bits ∷
    leb t.waiting.0 patience ∷  -- "waiting ≤ 10,000"
    eqb t.acknowledge request ∷  -- "an open transfer's acknowledge .. at that request level"
    leb 1 t.count ∷
    leb t.count (16 + request) ∷
    eqb (t.bits / 2 ^ t.count) 0 ∷
    eqb t.response 0 ∷ []

unfoldable pub taking_b : ℕ → Transfer → Bool
taking_b request t = all_of (taking_tests request t)

-- 0 to 16 bits out at low, 1 to 17 at high; a response has seventeen bits
abbrev pub responding_tests : ℕ → Transfer → List Bool
responding_tests request t =
    leb t.waiting.0 patience ∷  -- "waiting ≤ 10,000"
    eqb t.acknowledge request ∷
    leb request t.count ∷
    leb t.count (16 + request) ∷
    eqb t.bits 0 ∷
    leb t.response largest ∷ []

abbrev pub responding_b : ℕ → Transfer → Bool
responding_b request t = all_of (responding_tests request t)

unfoldable pub left_b : ℕ → Transfer → Bool
left_b request t =
    if eqb t.way 0 then idle_b t
    else (if eqb t.way taking then taking_b request t
    else (if eqb t.way responding then responding_b request t
    else false))
