-- A capture's samples. Request 2: "a four-byte microsecond stamp that runs over at 2^32, then two bytes of line levels, high byte first".
use Rattle.std.specs.Prelude.{ℕ, zero, suc, ◌+◌, ◌/◌, ◌%◌, Bool, List, [], ◌∷◌, eqb, ltb, length, drop}
use Rattle.counts.specs.Bytes.{two, four, bit}
use Rattle.std.specs.Prelude.{if◌then◌else◌}
use Rattle.lines.specs.declared.Lines.{Lines}
use Rattle.capture_samples.specs.declared.Sample.{Sample}

-- "six-byte samples"
abbrev pub sample_length : ℕ
sample_length = 6

-- "bits 0 to 2 are the select code, 3 to 6 the head lines, 7 read gate, 8 write gate, 9 data, 10 request"
unfoldable pub lines_of : ℕ → Lines
lines_of levels = record {
  select = levels % 8;
  heads = record { 0 = levels / 8 % 16 };
  readgate = bit levels 7;
  writegate = bit levels 8;
  command = bit levels 9;
  request = bit levels 10;
}

-- the sample in the first six bytes of a list
abbrev pub sample_of : List ℕ → Sample
sample_of l = record { stamp = four l 0; lines = lines_of (two l 4) }

-- "11 to 15 are zero"
abbrev pub levels_b : List ℕ → Bool
levels_b l = ltb (two l 4) 2_048

-- the first n samples, six bytes each
abbrev pub samples_in : ℕ → List ℕ → List Sample
samples_in zero l = []
samples_in (suc n) l = sample_of l ∷ samples_in n (drop sample_length l)

unfoldable pub samples_of : List ℕ → List Sample
samples_of l = samples_in (length l / sample_length) l

-- the bytes in front of the first bad one of n samples, all where none is bad
abbrev pub good_in : ℕ → List ℕ → ℕ
good_in zero l = 0
good_in (suc n) l = if levels_b l then sample_length + good_in n (drop sample_length l) else 0

-- "not a whole number of six-byte samples or a sample with one of bits 11 to 15 set": the bytes in front of the first such
unfoldable pub good_bytes : List ℕ → ℕ
good_bytes l = good_in (length l / sample_length) l

-- whether bytes are a capture; none at all are one
abbrev pub capture_b : List ℕ → Bool
capture_b l = eqb (good_bytes l) (length l)
