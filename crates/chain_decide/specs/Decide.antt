-- What an event decides.
use Rattle.std.specs.Prelude.{ℕ, eqb}
use Rattle.std.specs.Prelude.{if◌then◌else◌}
use Rattle.event.specs.declared.Event.{Event}
use Rattle.event.specs.declared.Event.TheVariants.{Select, Heads, WriteGate, ReadGate, Data, Request, Pass, Cell, Condition}
use Rattle.chain_decision.specs.declared.Decision.{Decision}
use Rattle.chain_record.specs.declared.Seen.{Seen}
use Rattle.chain_decision.specs.Decision.{heard_of}
use Rattle.lines.specs.Lines.{with_select}
use Rattle.chain_lines.specs.Signals.{write_gate_event, read_gate_event, data_event, request_event, heads_event}
use Rattle.chain_select.specs.Select.{moved_of}
use Rattle.chain_others.specs.Passing.{pass_event}
use Rattle.chain_others.specs.Cell.{cell_event}
use Rattle.chain_others.specs.Condition.{condition_at}
use Rattle.chain_record.specs.declared.Chain.{Chain}
use Rattle.chain_record.specs.Record.{slot_pack, slot_state, look_of}

-- kind 0
unfoldable pub select_event : Chain → Seen → ℕ → Decision
select_event c d slot =
    if eqb c.lines.select slot then heard_of c.lines d.selected
    else moved_of d c.lines (with_select slot c.lines) (slot_pack c.packs slot) (slot_state c.states slot)

-- kind 8
unfoldable pub condition_event : Chain → ℕ → ℕ → Decision
condition_event c slot which = condition_at c.lines (slot_pack c.packs slot) (slot_state c.states slot) slot which

unfoldable pub decide_of : Chain → Event → Decision
decide_of c (Select slot) = select_event c (look_of c) slot
decide_of c (Heads h) = heads_event (look_of c) c.lines h
decide_of c (WriteGate level) = write_gate_event (look_of c) c.lines level
decide_of c (ReadGate level) = read_gate_event (look_of c) c.lines level
decide_of c (Data level) = data_event (look_of c) c.lines level
decide_of c (Request level) = request_event (look_of c) c.lines level
decide_of c (Pass us) = pass_event (look_of c) c.lines us
decide_of c (Cell position byte) = cell_event (look_of c) c.lines position byte
decide_of c (Condition slot which) = condition_event c slot which
