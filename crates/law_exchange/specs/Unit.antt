-- One unit on the cable: its transfer goes by the handshake's rules, and of the rest of it four operations are known.
use Rattle.std.specs.Prelude.{ℕ, ◌+◌, Bool, false, eqb, Option, Some, None}
use Rattle.std.specs.Prelude.{if◌then◌else◌}
use Rattle.handshake.specs.declared.Transfer.{Transfer}
use Rattle.handshake.specs.declared.Fallen.{Fallen}
use Rattle.handshake.specs.declared.Fallen.TheVariants as fallen
use Rattle.handshake.specs.Transfer.{responding, no_transfer, responding_with, status_line}
use Rattle.handshake.specs.Edges.{rise_of, fall_of, wait_of}
use Rattle.event.specs.declared.Answer.TheVariants.{Taken, Fault}
use Rattle.event.specs.Answer.{answer_number}
use Rattle.law_exchange.specs.Host.{Signal, level, ask, micros, Cable}

-- what a word leaves of a unit, its response if it has one, and whether a fault rule applied
pub record UnitCarried (B : Type 0) : Type 0 where
  pub body : B
  pub told : Option ℕ
  pub fails : Bool

-- all of a unit but its transfer
pub record Rules (B : Type 0) : Type 0 where
  pub pass : ℕ → B → B  -- microseconds pass
  pub calm : B → Bool  -- no timer runs
  pub fault : B → B  -- "bit 6"
  pub carry : ℕ → B → UnitCarried B  -- a word with its parity, seventeen bits as a number

-- the unit, the lines that the host moves, and the microseconds since it began
pub record Wired (B : Type 0) : Type 0 where
  pub body : B
  pub transfer : Transfer
  pub command : ℕ
  pub request : ℕ
  pub elapsed : ℕ

-- what an edge or a wait leaves, and the number it answers
pub record Met (B : Type 0) : Type 0 where
  pub body : B
  pub transfer : Transfer
  pub answer : ℕ

abbrev pub wired : {B : Type 0} → B → Transfer → ℕ → ℕ → ℕ → Wired B
wired b t command request elapsed = record { body = b; transfer = t; command = command; request = request; elapsed = elapsed }

-- "after the 17th bit in, the word is carried out and any response is fixed"
abbrev pub unit_after_word : Option ℕ → Transfer
unit_after_word None = no_transfer
unit_after_word (Some r) = responding_with r

-- "5 a fault rule applied", else "0 taken"
abbrev pub unit_carried_out : {B : Type 0} → UnitCarried B → Met B
unit_carried_out c = record { body = c.body; transfer = unit_after_word c.told; answer = if c.fails then answer_number Fault else answer_number Taken }

module _ {B : Type 0} (R : Rules B) where
  -- "bit 6, dropped"
  abbrev pub dropped : B → Met B
  dropped b = record { body = R.fault b; transfer = no_transfer; answer = answer_number Fault }

  -- what a rise or a wait leaves of the unit, and what a fall does
  abbrev pub unit_held : B → Option Transfer → Met B
  unit_held b (Some t) = record { body = b; transfer = t; answer = answer_number Taken }
  unit_held b None = dropped b

  abbrev pub unit_fall : B → Fallen → Met B
  unit_fall b (fallen.Keep t) = record { body = b; transfer = t; answer = answer_number Taken }
  unit_fall b (fallen.Carry n) = unit_carried_out (R.carry n b)

  -- request's edges, no gate on
  abbrev pub unit_risen : Wired B → Met B
  unit_risen u = unit_held u.body (rise_of false (R.calm u.body) u.command u.transfer)

  abbrev pub unit_fallen : Wired B → Met B
  unit_fallen u = unit_fall u.body (fall_of u.transfer)

  abbrev pub unit_passed : ℕ → Wired B → Met B
  unit_passed us u = unit_held (R.pass us u.body) (wait_of (record { 0 = us }) u.transfer)

  -- "Setting a line to the level it has does nothing."
  abbrev pub asked : ℕ → Wired B → Met B
  asked v u =
      if eqb u.request v then record { body = u.body; transfer = u.transfer; answer = answer_number Taken }
      else (if eqb v 1 then unit_risen u
      else unit_fallen u)

  abbrev pub after : Signal → Wired B → Wired B
  after (level v) u = wired u.body u.transfer v u.request u.elapsed
  after (ask v) u = wired (asked v u).body (asked v u).transfer u.command v u.elapsed
  after (micros us) u = wired (unit_passed us u).body (unit_passed us u).transfer u.command u.request (u.elapsed + us)

  abbrev pub answer : Signal → Wired B → ℕ
  answer (level v) u = answer_number Taken
  answer (ask v) u = (asked v u).answer
  answer (micros us) u = (unit_passed us u).answer

  abbrev pub unit : Cable (Wired B)
  unit = record {
    after = after;
    answer = answer;
    acknowledged = λ (u : Wired B). eqb u.transfer.acknowledge 1;
    responds = λ (u : Wired B). eqb u.transfer.way responding;
    status = λ (u : Wired B). status_line u.transfer;
  }
