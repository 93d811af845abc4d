-- "Handshake (000, 5.1.5 to 5.2.4)": what a request edge, and time, do to a transfer.
use Rattle.std.specs.Prelude.{ℕ, ◌+◌, ◌*◌, ◌%◌, Bool, ◌&&◌, ◌||◌, not, ltb, eqb, Option, Some, None}
use Rattle.counts.specs.declared.Micros.{Micros}
use Rattle.std.specs.Prelude.{if◌then◌else◌}
use Rattle.handshake.specs.declared.Transfer.{Transfer}
use Rattle.handshake.specs.declared.Fallen.{Fallen}
use Rattle.handshake.specs.declared.Fallen.TheVariants as fallen
use Rattle.handshake.specs.Transfer.{taking, responding, word_bits, patience, no_transfer, open_b}

-- one bit more, seventeen at most
abbrev pub next_bit : ℕ → ℕ
next_bit count = if ltb count word_bits then count + 1 else word_bits

-- a register of seventeen bits, the data line taken at its low end
abbrev pub taken_bit : ℕ → ℕ → ℕ
taken_bit bits level = bits % 65_536 * 2 + level

-- "the data line is taken .. and acknowledge rises"
abbrev pub taken_of : ℕ → Transfer → Transfer
taken_of level t = record {
  waiting = record { 0 = 0 };
  bits = taken_bit t.bits level;
  response = 0;
  way = taking;
  count = next_bit t.count;
  acknowledge = 1;
}

-- "or the next response bit is put out, and acknowledge rises"
abbrev pub put_out_of : Transfer → Transfer
put_out_of t = record {
  waiting = record { 0 = 0 };
  bits = 0;
  response = t.response;
  way = responding;
  count = next_bit t.count;
  acknowledge = 1;
}

-- "On a rise of request": gated, either gate on; calm, no timer of the unit runs
unfoldable pub rise_of : Bool → Bool → ℕ → Transfer → Option Transfer
rise_of gated calm level t =
    if gated then None  -- "either gate on: bit 6, any open transfer dropped, no acknowledge"
    else (if not (open_b t || calm) then None  -- "Else no transfer open and command complete false: bit 6, no acknowledge"
    else (if eqb t.way responding then Some (put_out_of t)  -- "or the next response bit is put out"
    else Some (taken_of level t)))  -- "Else the data line is taken"

abbrev pub lowered_of : Transfer → Transfer
lowered_of t = record { waiting = record { 0 = 0 }; bits = t.bits; response = t.response; way = t.way; count = t.count; acknowledge = 0 }

-- "On a fall with acknowledge up"
unfoldable pub fall_of : Transfer → Fallen
fall_of t =
    if not (eqb t.acknowledge 1) then fallen.Keep t
    else (if ltb t.count word_bits then fallen.Keep (lowered_of t)  -- "it falls"
    else (if eqb t.way taking then fallen.Carry t.bits  -- "after the 17th bit in, the word is carried out"
    else fallen.Keep no_transfer))  -- "after the 17th bit out the transfer ends"

abbrev pub aged_by : Micros → Transfer → Transfer
aged_by us t = record {
  waiting = record { 0 = t.waiting.0 + us.0 };
  bits = t.bits;
  response = t.response;
  way = t.way;
  count = t.count;
  acknowledge = t.acknowledge;
}

-- "More than 10,000 µs since its last request edge (house)"
unfoldable pub late_b : Micros → Transfer → Bool
late_b us t = open_b t && ltb patience (t.waiting.0 + us.0)

unfoldable pub wait_of : Micros → Transfer → Option Transfer
wait_of us t =
    if late_b us t then None  -- "bit 6, dropped"
    else (if open_b t then Some (aged_by us t)
    else Some t)
