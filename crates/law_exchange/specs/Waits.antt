-- A sending's word, its waits and its events.
use Rattle.std.specs.Prelude.{ℕ, zero, suc, ◌+◌, ◌*◌, ◌/◌, ◌%◌, ◌^◌, ◌≤◌, ◌≡◌, List, [], ◌∷◌, length}
use Rattle.handshake.specs.Transfer.{patience}
use Rattle.law_exchange.specs.Host.{Still, waits, sets, Bit, Gap, Sending, high}

-- the data level behind a stretch, from the level in front of it
abbrev pub level_of : ℕ → List Still → ℕ
level_of l [] = l
level_of l (waits us ∷ xs) = level_of l xs
level_of l (sets x ∷ xs) = level_of (high x) xs

-- behind a bit's fall
abbrev pub left_by : ℕ → Bit → ℕ
left_by l x = level_of (level_of l x.low) x.up

abbrev pub sent_level : ℕ → List Bit → ℕ
sent_level l [] = l
sent_level l (x ∷ xs) = sent_level (left_by l x) xs

abbrev pub fetch_level : ℕ → List Gap → ℕ
fetch_level l [] = l
fetch_level l (g ∷ gs) = fetch_level (level_of (level_of (level_of l g.low) g.early) g.late) gs

-- the bits sent: "the data line is taken" at each rise
abbrev pub levels_at : ℕ → List Bit → List ℕ
levels_at l [] = []
levels_at l (x ∷ xs) = level_of l x.low ∷ levels_at (left_by l x) xs

-- "Bit 15 goes first, bit 0, then parity": the number that bits behind v make, the first highest
abbrev pub number_from : ℕ → List ℕ → ℕ
number_from v [] = v
number_from v (b ∷ bs) = number_from (v * 2 + b) bs

abbrev pub sent_word : ℕ → Sending → ℕ
sent_word l w = number_from 0 (levels_at l (w.first ∷ w.more))

-- the k lowest bits of a number, the highest of them first
abbrev pub bits_of : ℕ → ℕ → List ℕ
bits_of zero n = []
bits_of (suc k) n = n / 2 ^ k % 2 ∷ bits_of k n

-- the microseconds of a stretch
abbrev pub time_of : List Still → ℕ
time_of [] = 0
time_of (waits us ∷ xs) = us + time_of xs
time_of (sets x ∷ xs) = time_of xs

abbrev pub sent_time : Bit → List Bit → ℕ
sent_time x [] = time_of x.low + time_of x.up
sent_time x (y ∷ ys) = time_of x.low + time_of x.up + sent_time y ys

abbrev pub fetch_time : List Gap → ℕ
fetch_time [] = 0
fetch_time (g ∷ gs) = time_of g.low + time_of g.early + time_of g.late + fetch_time gs

-- how many events stand in front of the last fall
abbrev pub sent_count : Bit → List Bit → ℕ
sent_count x [] = length x.low + 1 + length x.up
sent_count x (y ∷ ys) = length x.low + 1 + length x.up + 1 + sent_count y ys

abbrev pub fetch_count : List Gap → ℕ
fetch_count [] = 0
fetch_count (g ∷ gs) = length g.low + 1 + length g.early + length g.late + 1 + fetch_count gs

-- not "More than 10,000 µs since its last request edge": each stretch in sum
abbrev pub BitsFit : List Bit → Type 0
BitsFit [] = Unit
BitsFit (x ∷ xs) = (time_of x.low ≤ patience) × (time_of x.up ≤ patience) × BitsFit xs

abbrev pub GapsFit : List Gap → Type 0
GapsFit [] = Unit
GapsFit (g ∷ gs) = (time_of g.low ≤ patience) × (time_of g.early + time_of g.late ≤ patience) × GapsFit gs

-- seventeen bits, and seventeen fetches if they are wanted; before the first rise the host may wait as long as it will
pub record InTime (w : Sending) : Type 0 where
  pub seventeen : length w.more ≡ 16
  pub first : time_of w.first.up ≤ patience
  pub bits : BitsFit w.more
  pub wanted : length w.gaps ≡ 17
  pub gaps : GapsFit w.gaps

-- what holds of each wait of a sending
abbrev pub Each : (ℕ → Type 0) → List Still → Type 0
Each P [] = Unit
Each P (waits us ∷ xs) = P us × Each P xs
Each P (sets x ∷ xs) = Each P xs

abbrev pub EachOfBits : (ℕ → Type 0) → List Bit → Type 0
EachOfBits P [] = Unit
EachOfBits P (x ∷ xs) = Each P x.low × Each P x.up × EachOfBits P xs

abbrev pub EachOfGaps : (ℕ → Type 0) → List Gap → Type 0
EachOfGaps P [] = Unit
EachOfGaps P (g ∷ gs) = Each P g.low × Each P g.early × Each P g.late × EachOfGaps P gs

abbrev pub EachWait : (ℕ → Type 0) → Sending → Type 0
EachWait P w = EachOfBits P (w.first ∷ w.more) × EachOfGaps P w.gaps
