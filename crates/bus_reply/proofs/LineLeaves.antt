-- "Refusals 19 to 25 change nothing": whatever the line says, the runner's own 19 among them.
use mathlib.Core.Path.{◌≡◌, refl}
use mathlib.Core.List.{List}
use Prim.Native.Nat.{ℕ, ◌≤◌}
use native.Mathlib.Omega.{arith}
use Rattle.event.specs.declared.Answer.{Answer}
use Rattle.event.specs.declared.Answer.TheVariants.{Taken, Read, Written, Unselected, Inhibited, Fault, UnknownKind, OutOfRange, Malformed, WrongLength, Inapplicable, PastTrack}
use Rattle.event.specs.Answer.{answer_number}
use Rattle.chain_record.specs.declared.Chain.{Chain}
use Rattle.chain_step.specs.Step.{step_of}
use Rattle.chain_step.proofs.RefusedLeaves.{refused_leaves}
use Rattle.std.specs.Prelude.{Option, None, Some}
use Rattle.bus_text.specs.declared.Numbers.{Numbers}
use Rattle.bus_reply.specs.Reply.{reply_of, reply_file}

-- no answer to an event is 19
from_20 : (a : Answer) → 19 ≤ answer_number a → 20 ≤ answer_number a
from_20 Taken h = omega arith
from_20 (Read byte) h = omega arith
from_20 Written h = omega arith
from_20 Unselected h = omega arith
from_20 Inhibited h = omega arith
from_20 Fault h = omega arith
from_20 UnknownKind h = omega arith
from_20 OutOfRange h = omega arith
from_20 Malformed h = omega arith
from_20 WrongLength h = omega arith
from_20 Inapplicable h = omega arith
from_20 PastTrack h = omega arith

pub refusals_leave : (c : Chain) (file : List ℕ) (line : Option Numbers) → 19 ≤ (reply_of c file line).answer → ((reply_of c file line).chain ≡ c) × (reply_file c file line ≡ file)
refusals_leave c file (Some n) h = refused_leaves c file n.kind n.a n.b (from_20 (step_of n.kind n.a n.b c file).answer h)
refusals_leave c file None h = (refl, refl)
