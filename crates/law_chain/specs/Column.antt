-- The answer table's column "leaves", answer by answer.
use Rattle.std.specs.Prelude.{ℕ, ◌<◌, ◌≡◌, List, [], ◌∷◌, length, get_or, set}
use Rattle.counts.specs.declared.Position.{Position}
use Rattle.std.specs.Prelude.{if◌then◌else◌}
use Rattle.drive_gates.specs.Gates.{read_falls}
use Rattle.event.specs.declared.Event.{Event}
use Rattle.event.specs.declared.Event.TheVariants.{Cell}
use Rattle.event.specs.declared.Answer.{Answer}
use Rattle.event.specs.Answer.{answer_number, answer_value}
use Rattle.chain_record.specs.declared.Chain.{Chain}
use Rattle.chain_record.specs.Record.{look_of}
use Rattle.chain_decision.specs.Deeds.{spot_place}
use Rattle.chain_others.specs.Cell.{cell_spot}
use Rattle.chain_apply.specs.Apply.{put_of}
use Rattle.chain_decide.specs.Levels.{lines_after}
use Rattle.law_chain.specs.OnlyMet.{OnlyMet}

-- where the byte stands that a cell of the selected drive meets
abbrev pub met_place : Chain → Position → ℕ
met_place c position = spot_place c.packs (cell_spot (look_of c) c.lines position)

-- the event is a cell, the value is the byte that it meets
pub record ByteRead (e : Event) (c : Chain) (file : List ℕ) (value : ℕ) : Type 0 where
  pub position : Position
  pub byte : ℕ
  pub cell : e ≡ Cell position byte
  pub inside : met_place c position < length file
  pub is : value ≡ get_or file (met_place c position) 0

-- the event is a cell, its byte stands where it meets the file, and no other has changed
pub record ByteWritten (e : Event) (c : Chain) (file after : List ℕ) : Type 0 where
  pub position : Position
  pub byte : ℕ
  pub cell : e ≡ Cell position byte
  pub inside : met_place c position < length file
  pub holds : after ≡ set file (met_place c position) byte

-- line levels taken, nothing else changed
abbrev pub lines_taken : Event → Chain → Chain
lines_taken e c = record { packs = c.packs; states = c.states; lines = lines_after e c.lines; length = c.length }

-- "line levels taken"; a drive that was selected and fitted has been left, and its "reading just ends"
abbrev pub left_behind : Event → Chain → Chain
left_behind e c = record {
  packs = c.packs;
  states = if (look_of c).selected then put_of c.states c.lines.select (read_falls (look_of c).state) else c.states;
  lines = lines_after e c.lines;
  length = c.length;
}

module _ (e : Event) (c : Chain) (file : List ℕ) where
  -- "nothing changed"
  abbrev pub Same : Chain → List ℕ → Type 0
  Same chain after = (chain ≡ c) × (after ≡ file)

  -- the rows of the answers 0 to 5
  abbrev pub column : ℕ → Chain → List ℕ → List (Type 0)
  column value chain after =
      (OnlyMet e c chain × (after ≡ file))  -- "0 | taken | as the rules say"
      ∷ (ByteRead e c file value × Same chain after)  -- "1 | byte read (value = byte) | nothing changed"
      ∷ (ByteWritten e c file after × (chain ≡ c))  -- "2 | byte written | that one file byte"
      ∷ ((chain ≡ left_behind e c) × (after ≡ file))  -- "3 | no fitted drive selected .. | line levels taken"
      ∷ ((chain ≡ lines_taken e c) × (after ≡ file))  -- "4 | inhibited, nothing latched | line levels taken"
      ∷ (OnlyMet e c chain × (after ≡ file))  -- "5 | a fault rule applied .. | as the rules say"
      ∷ []

  -- what an answer leaves of the chain and of the file; "Refusals 19 to 25 change nothing"
  abbrev pub Leaves : Answer → Chain → List ℕ → Type 0
  Leaves a chain after = get_or (column (answer_value a) chain after) (answer_number a) (Same chain after)
