-- The chain as the host meets it: every event decided and carried out on the record and its file.
use Rattle.std.specs.Prelude.{eqb}
use Rattle.handshake.specs.Transfer.{responding, status_line}
use Rattle.drive_record.specs.declared.State.{State}
use Rattle.event.specs.declared.Event.{Event}
use Rattle.event.specs.declared.Event.TheVariants.{Data, Request, Pass}
use Rattle.event.specs.Answer.{answer_number}
use Rattle.chain_record.specs.declared.Chain.{Chain}
use Rattle.chain_decision.specs.declared.Decision.{Decision}
use Rattle.chain_record.specs.Record.{look_of}
use Rattle.chain_decision.specs.Deeds.{said_of, file_after}
use Rattle.chain_decide.specs.Decide.{decide_of}
use Rattle.chain_apply.specs.Apply.{applied}
use Rattle.chain_step.specs.Run.{Lent, lent}
use Rattle.law_exchange.specs.Host.{Signal, level, ask, micros, Cable}

-- kinds 4, 5 and 6
abbrev pub event_of : Signal → Event
event_of (level v) = Data v
event_of (ask v) = Request v
event_of (micros us) = Pass (record { 0 = us })

abbrev pub decision_of : Signal → Lent → Decision
decision_of e d = decide_of d.chain (event_of e)

-- the selected drive
abbrev pub drive_of : Chain → State
drive_of c = (look_of c).state

abbrev pub decided : Cable Lent
decided = record {
  after = λ (e : Signal) (d : Lent). lent (applied d.chain (decision_of e d)) (file_after d.chain.packs (decision_of e d).deed d.file);
  answer = λ (e : Signal) (d : Lent). answer_number (said_of d.chain.packs (decision_of e d).deed d.file);
  acknowledged = λ (d : Lent). eqb (drive_of d.chain).transfer.acknowledge 1;
  responds = λ (d : Lent). eqb (drive_of d.chain).transfer.way responding;
  status = λ (d : Lent). status_line (drive_of d.chain).transfer;
}
