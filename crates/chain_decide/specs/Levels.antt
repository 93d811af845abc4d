-- The lines that an event sets: which it moves, how they are then, and what the selected drive meets.
use Rattle.std.specs.Prelude.{ℕ, Bool, true, false, not, eqb, Option, None}
use Rattle.drive_record.specs.declared.Ruled.{Ruled}
use Rattle.drive_rules.specs.Heads.{met_of}
use Rattle.event.specs.declared.Event.{Event}
use Rattle.event.specs.declared.Event.TheVariants.{Select, Heads, WriteGate, ReadGate, Data, Request, Pass, Cell, Condition}
use Rattle.lines.specs.declared.Lines.{Lines}
use Rattle.chain_record.specs.declared.Seen.{Seen}
use Rattle.chain_decision.specs.Decision.{ruled_done}
use Rattle.chain_lines.specs.Signals.{write_rule, read_rule, word_sent, request_rule}
use Rattle.lines.specs.Lines.{with_select, with_heads, with_writegate, with_readgate, with_command, with_request}

-- "line levels taken"
abbrev pub lines_after : Event → Lines → Lines
lines_after (Select slot) l = with_select slot l
lines_after (Heads h) l = with_heads h l
lines_after (WriteGate level) l = with_writegate level l
lines_after (ReadGate level) l = with_readgate level l
lines_after (Data level) l = with_command level l
lines_after (Request level) l = with_request level l
lines_after (Pass us) l = l
lines_after (Cell position byte) l = l
lines_after (Condition slot which) l = l

-- "Setting a line to the level it has does nothing."
abbrev pub moves_b : Event → Lines → Bool
moves_b (Select slot) l = not (eqb l.select slot)
moves_b (Heads h) l = not (eqb l.heads.0 h.0)
moves_b (WriteGate level) l = not (eqb l.writegate level)
moves_b (ReadGate level) l = not (eqb l.readgate level)
moves_b (Data level) l = not (eqb l.command level)
moves_b (Request level) l = not (eqb l.request level)
moves_b (Pass us) l = false
moves_b (Cell position byte) l = false
moves_b (Condition slot which) l = false

-- the rule that the selected drive meets when a line moves; the data line and the other kinds have none
abbrev pub rule_of : Seen → Lines → Event → Ruled
rule_of d l (Heads h) = met_of d.profile h d.state
rule_of d l (WriteGate level) = write_rule d l level
rule_of d l (ReadGate level) = read_rule d l level
rule_of d l (Request level) = request_rule d l level
rule_of d l (Data level) = ruled_done d.state
rule_of d l (Select slot) = ruled_done d.state
rule_of d l (Pass us) = ruled_done d.state
rule_of d l (Cell position byte) = ruled_done d.state
rule_of d l (Condition slot which) = ruled_done d.state

-- the word that it then carries out: request's only
abbrev pub word_met : Seen → Event → Option ℕ
word_met d (Request level) = word_sent d level
word_met d (Heads h) = None
word_met d (WriteGate level) = None
word_met d (ReadGate level) = None
word_met d (Data level) = None
word_met d (Select slot) = None
word_met d (Pass us) = None
word_met d (Cell position byte) = None
word_met d (Condition slot which) = None

-- "kinds 0 to 5 or 7"
abbrev pub asked_b : Event → Bool
asked_b (Select slot) = true
asked_b (Heads h) = true
asked_b (WriteGate level) = true
asked_b (ReadGate level) = true
asked_b (Data level) = true
asked_b (Request level) = true
asked_b (Pass us) = false
asked_b (Cell position byte) = true
asked_b (Condition slot which) = false
