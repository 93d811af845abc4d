-- Which drives meet a rule in an event, and a chain in which no other drive has changed.
use Rattle.std.specs.Prelude.{ℕ, ◌≡◌, Bool, true, false, ◌||◌, eqb}
use Rattle.event.specs.declared.Event.{Event}
use Rattle.event.specs.declared.Event.TheVariants.{Select, Heads, WriteGate, ReadGate, Data, Request, Pass, Cell, Condition}
use Rattle.lines.specs.declared.Lines.{Lines}
use Rattle.chain_record.specs.declared.Chain.{Chain}
use Rattle.chain_record.specs.Record.{slot_state}
use Rattle.chain_decide.specs.Levels.{lines_after}

-- the slots whose drive meets a rule
abbrev pub meets_b : Event → Lines → ℕ → Bool
meets_b (Select slot) l k = eqb k l.select || eqb k slot  -- "the drive left", "The drive entered"
meets_b (Heads h) l k = eqb k l.select
meets_b (WriteGate level) l k = eqb k l.select
meets_b (ReadGate level) l k = eqb k l.select
meets_b (Data level) l k = false
meets_b (Request level) l k = eqb k l.select
meets_b (Pass us) l k = true  -- "every drive"
meets_b (Cell position byte) l k = false
meets_b (Condition slot which) l k = eqb k slot

-- "as the rules say": the lines are those of the event, packs and length stay, and no drive changes that meets no rule
pub record OnlyMet (e : Event) (c after : Chain) : Type 0 where
  pub lines : after.lines ≡ lines_after e c.lines
  pub packs : after.packs ≡ c.packs
  pub long : after.length ≡ c.length
  pub others : (k : ℕ) → meets_b e c.lines k ≡ false → slot_state after.states k ≡ slot_state c.states k
