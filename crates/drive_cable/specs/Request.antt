-- "Handshake .., selected drive only": what request's edges do to a drive.
use Rattle.std.specs.Prelude.{ℕ, Bool, ◌||◌, eqb, Option, Some, None}
use Rattle.pack_profile.specs.declared.Profile.{Profile}
use Rattle.handshake.specs.declared.Transfer.{Transfer}
use Rattle.handshake.specs.declared.Fallen.{Fallen}
use Rattle.handshake.specs.declared.Fallen.TheVariants.{Keep, Carry}
use Rattle.handshake.specs.Transfer.{no_transfer, responding_with}
use Rattle.handshake.specs.Edges.{rise_of, fall_of}
use Rattle.drive_record.specs.declared.Body.{Body}
use Rattle.drive_record.specs.declared.State.{State}
use Rattle.drive_record.specs.declared.Outcome.TheVariants.{Done}
use Rattle.drive_record.specs.declared.Ruled.{Ruled}
use Rattle.drive_record.specs.State.{state_of, ruled}
use Rattle.drive_record.specs.Status.{calm_b}
use Rattle.drive_record.specs.Faults.{held_of}
use Rattle.word_rules.specs.declared.Carried.{Carried}
use Rattle.word_rules.specs.Rules.{carry_of}
use Rattle.lines.specs.declared.Lines.{Lines}

-- "either gate on"
abbrev pub gated_b : Lines → Bool
gated_b l = eqb l.writegate 1 || eqb l.readgate 1

unfoldable pub request_rises : Lines → State → Ruled
request_rises l s = held_of s.body (rise_of (gated_b l) (calm_b s.body) l.command s.transfer)

-- "after the 17th bit in, the word is carried out and any response is fixed"
abbrev pub after_word : Option ℕ → Transfer
after_word None = no_transfer
after_word (Some response) = responding_with response

abbrev pub carried_out : Carried → Ruled
carried_out c = ruled c.outcome (state_of c.body (after_word c.told))

abbrev pub fallen_of : Profile → Body → Fallen → Ruled
fallen_of p b (Keep t) = ruled Done (state_of b t)
fallen_of p b (Carry n) = carried_out (carry_of p b n)

unfoldable pub request_falls : Profile → State → Ruled
request_falls p s = fallen_of p s.body (fall_of s.transfer)
