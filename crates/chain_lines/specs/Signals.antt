-- Kinds 1 to 5, at the selected drive.
use Rattle.std.specs.Prelude.{ℕ, Bool, false, not, eqb, Option, Some, None}
use Rattle.counts.specs.declared.Head.{Head}
use Rattle.std.specs.Prelude.{if◌then◌else◌}
use Rattle.handshake.specs.declared.Fallen.{Fallen}
use Rattle.handshake.specs.declared.Fallen.TheVariants.{Keep, Carry}
use Rattle.handshake.specs.Edges.{fall_of}
use Rattle.drive_record.specs.declared.Ruled.{Ruled}
use Rattle.drive_rules.specs.Heads.{met_of}
use Rattle.drive_gates.specs.Gates.{write_rises, read_rises, write_falls, read_falls}
use Rattle.lines.specs.declared.Lines.{Lines}
use Rattle.lines.specs.Lines.{with_heads, with_writegate, with_readgate, with_command, with_request}
use Rattle.drive_cable.specs.Request.{request_rises, request_falls}
use Rattle.chain_record.specs.declared.Seen.{Seen}
use Rattle.chain_decision.specs.declared.Decision.{Decision}
use Rattle.chain_decision.specs.Decision.{heard_of, ruled_of, ruled_done}

-- "Setting a line to the level it has does nothing."; else the lines, l before and m after, are taken, and the selected drive meets a rule and carries out a word
unfoldable pub signal_of : Seen → Lines → Lines → Bool → Option ℕ → Ruled → Decision
signal_of d l m same word rule =
    if same then heard_of l d.selected
    else (if not d.selected then heard_of m false
    else ruled_of m word rule)

-- kind 1
abbrev pub heads_event : Seen → Lines → Head → Decision
heads_event d l h = signal_of d l (with_heads h l) (eqb l.heads.0 h.0) None (met_of d.profile h d.state)

-- kind 2
abbrev pub write_rule : Seen → Lines → ℕ → Ruled
write_rule d l level = if eqb level 1 then write_rises d.profile l.readgate d.state else ruled_done (write_falls d.state)

abbrev pub write_gate_event : Seen → Lines → ℕ → Decision
write_gate_event d l level = signal_of d l (with_writegate level l) (eqb l.writegate level) None (write_rule d l level)

-- kind 3
abbrev pub read_rule : Seen → Lines → ℕ → Ruled
read_rule d l level = if eqb level 1 then read_rises d.profile l.writegate d.state else ruled_done (read_falls d.state)

abbrev pub read_gate_event : Seen → Lines → ℕ → Decision
read_gate_event d l level = signal_of d l (with_readgate level l) (eqb l.readgate level) None (read_rule d l level)

-- kind 4
abbrev pub data_event : Seen → Lines → ℕ → Decision
data_event d l level = heard_of (with_command level l) d.selected

-- kind 5
abbrev pub request_rule : Seen → Lines → ℕ → Ruled
request_rule d l level = if eqb level 1 then request_rises l d.state else request_falls d.profile d.state

-- "after the 17th bit in, the word is carried out": the word that a fall hands over
abbrev pub carried_word : Fallen → Option ℕ
carried_word (Keep t) = None
carried_word (Carry n) = Some n

-- request's fall may hand one over, its rise does not
abbrev pub word_sent : Seen → ℕ → Option ℕ
word_sent d level = if eqb level 1 then None else carried_word (fall_of d.state.transfer)

abbrev pub request_event : Seen → Lines → ℕ → Decision
request_event d l level = signal_of d l (with_request level l) (eqb l.request level) (word_sent d level) (request_rule d l level)
