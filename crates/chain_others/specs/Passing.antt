-- Kind 6.
use Rattle.std.specs.Prelude.{◌&&◌, None}
use Rattle.counts.specs.declared.Micros.{Micros}
use Rattle.std.specs.Prelude.{if◌then◌else◌}
use Rattle.handshake.specs.Edges.{late_b}
use Rattle.event.specs.declared.Answer.TheVariants.{Taken, Fault}
use Rattle.lines.specs.declared.Lines.{Lines}
use Rattle.chain_decision.specs.declared.Change.TheVariants as change
use Rattle.chain_decision.specs.declared.Deed.TheVariants as deed
use Rattle.chain_decision.specs.declared.Decision.{Decision}
use Rattle.chain_record.specs.declared.Seen.{Seen}

-- kind 6: time passes on every drive; only the selected one can have a transfer to drop
unfoldable pub pass_event : Seen → Lines → Micros → Decision
pass_event d l us = record {
  lines = l;
  change = change.Pass us;
  word = None;
  deed = deed.Say (if d.selected && late_b us d.state.transfer then Fault else Taken);
}
