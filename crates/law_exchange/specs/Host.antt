-- The host: what it sends, when it waits, and what it looks at.
use Rattle.std.specs.Prelude.{ℕ, Bool, true, false, List, [], ◌∷◌, Option, Some, None}
use Rattle.std.specs.Prelude.{if◌then◌else◌}

-- what it does on the cable: kind 4 "command data", kind 5 "transfer request", kind 6 "microseconds pass"
pub data Signal : Type 0 where
  level ask micros : ℕ → Signal

-- what hangs on the cable: what a signal leaves of it, the number it answers, and what the host can look at
pub record Cable (S : Type 0) : Type 0 where
  pub after : Signal → S → S
  pub answer : Signal → S → ℕ
  pub acknowledged : S → Bool
  pub responds : S → Bool
  pub status : S → ℕ

abbrev pub high : Bool → ℕ
high true = 1
high false = 0

-- what the host does between one edge of request and the next, in any order: it lets time pass, and sets the data line where it needs to
pub data Still : Type 0 where
  waits : ℕ → Still
  sets : Bool → Still

abbrev pub still_signal : Still → Signal
still_signal (waits us) = micros us
still_signal (sets x) = level (high x)

-- a bit to send: in front of its rise, and between rise and fall; the bit is the data level at the rise
pub record Bit : Type 0 where
  pub low : List Still
  pub up : List Still

-- a bit to fetch: in front of the rise, between rise and the look at the line, between look and fall
pub record Gap : Type 0 where
  pub low : List Still
  pub early : List Still
  pub late : List Still

-- a word to send, and how its response will be fetched if it has one
pub record Sending : Type 0 where
  pub first : Bit
  pub more : List Bit
  pub gaps : List Gap

-- on the way: what there is now, and the answers given, the newest first
pub record Going (S : Type 0) : Type 0 where
  pub now : S
  pub answers : List ℕ

-- at the end: also the bits of the response, if one was fetched
pub record Exchanged (S : Type 0) : Type 0 where
  pub now : S
  pub answers : List ℕ
  pub response : Option (List ℕ)

abbrev pub going : {S : Type 0} → S → List ℕ → Going S
going s log = record { now = s; answers = log }

abbrev pub exchanged : {S : Type 0} → Going S → Option (List ℕ) → Exchanged S
exchanged g r = record { now = g.now; answers = g.answers; response = r }

module _ {S : Type 0} (C : Cable S) where
  abbrev pub sends : Signal → Going S → Going S
  sends e g = going (C.after e g.now) (C.answer e g.now ∷ g.answers)

  abbrev pub goes : List Still → Going S → Going S
  goes [] g = g
  goes (x ∷ xs) g = goes xs (sends (still_signal x) g)

  abbrev pub raises : List Still → Going S → Going S
  raises xs g = sends (ask 1) (goes xs g)

  abbrev pub lowers : List Still → Going S → Going S
  lowers xs g = sends (ask 0) (goes xs g)

  abbrev pub sends_all : List Bit → Going S → Going S
  sends_all [] g = g
  sends_all (x ∷ xs) g = sends_all xs (lowers x.up (raises x.low g))

  abbrev pub puts_up : Gap → Going S → Going S
  puts_up x g = goes x.early (raises x.low g)

  abbrev pub fetches : List Gap → Going S → Going S
  fetches [] g = g
  fetches (x ∷ xs) g = fetches xs (lowers x.late (puts_up x g))

  -- the configuration/status line while each bit is up
  abbrev pub sees : List Gap → Going S → List ℕ
  sees [] g = []
  sees (x ∷ xs) g = C.status (puts_up x g).now ∷ sees xs (lowers x.late (puts_up x g))

  -- after the 17th fall it fetches where a response is open
  abbrev pub replies : List Gap → Going S → Exchanged S
  replies gs g = if C.responds g.now then exchanged (fetches gs g) (Some (sees gs g)) else exchanged g None

  -- the first bit is up: without an acknowledge it "lowers request at once and ends"
  abbrev pub goes_on : Sending → Going S → Exchanged S
  goes_on w g =
      if C.acknowledged g.now then replies w.gaps (sends_all w.more (lowers w.first.up g))
      else exchanged (sends (ask 0) g) None

  abbrev pub exchanges : Sending → S → Exchanged S
  exchanges w s = goes_on w (raises w.first.low (going s []))
