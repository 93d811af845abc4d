-- "one that acts on the first bit and only acknowledges sixteen more (demand 3 ..)": over the real chain, all else as ours.
use Rattle.std.specs.Prelude.{◌&&◌, ◌≡◌, ◌∷◌, eqb, replicate, None}
use Rattle.std.specs.Prelude.{if◌then◌else◌}
use Rattle.pack_profile.specs.declared.Profile.{Profile}
use Rattle.pack_read.specs.Packs.{no_pack, fitted_pack}
use Rattle.handshake.specs.declared.Fallen.{Fallen}
use Rattle.handshake.specs.declared.Fallen.TheVariants.{Keep, Carry}
use Rattle.handshake.specs.Transfer.{taking, no_transfer}
use Rattle.handshake.specs.Edges.{fall_of}
use Rattle.drive_record.specs.declared.State.{State}
use Rattle.drive_record.specs.declared.Ruled.{Ruled}
use Rattle.drive_record.specs.declared.Outcome.TheVariants.{Done}
use Rattle.drive_record.specs.State.{state_of, ruled, fresh_of, blank_state}
use Rattle.lines.specs.Lines.{with_request}
use Rattle.word_rules.specs.Rules.{carry_of}
use Rattle.chain_record.specs.declared.Chain.{Chain}
use Rattle.chain_record.specs.Record.{look_of}
use Rattle.chain_decision.specs.declared.Decision.{Decision}
use Rattle.chain_decision.specs.Decision.{ruled_of}
use Rattle.chain_apply.specs.Apply.{applied}
use Rattle.chain_step.specs.Run.{Lent, lent}
use Rattle.law_exchange.specs.Host.{Signal, level, ask, micros, Cable, Sending, exchanges}
use Rattle.law_exchange.specs.Waits.{InTime}
use Rattle.law_words.specs.Decided.{decision_of, decided}
use Rattle.law_words.specs.AtOnce.{Resting, at_once}
use Rattle.law_tight.specs.Writing.{small_profile}

-- after the first bit in, what it makes is carried out; after the 17th nothing is
abbrev pub early_fall : Profile → State → Fallen → Ruled
early_fall p s (Keep t) =
    if eqb s.transfer.way taking && eqb s.transfer.count 1 then ruled Done (state_of (carry_of p s.body s.transfer.bits).body t)
    else ruled Done (state_of s.body t)
early_fall p s (Carry n) = ruled Done (state_of s.body no_transfer)

-- "one that does nothing (demand 2, .. commands)": seventeen bits are acknowledged, and no word is carried out
abbrev pub idle_fall : Profile → State → Fallen → Ruled
idle_fall p s (Keep t) = ruled Done (state_of s.body t)
idle_fall p s (Carry n) = ruled Done (state_of s.body no_transfer)

module _ (falling : Profile → State → Fallen → Ruled) where
  -- request's fall at the selected drive, where it is up
  abbrev pub fall_decision : Signal → Lent → Decision
  fall_decision (level v) d = decision_of (level v) d
  fall_decision (micros us) d = decision_of (micros us) d
  fall_decision (ask v) d =
      if eqb v 0 && eqb d.chain.lines.request 1
      then ruled_of (with_request 0 d.chain.lines) None (falling (look_of d.chain).profile (look_of d.chain).state (fall_of (look_of d.chain).state.transfer))
      else decision_of (ask v) d

  -- the chain with another rule for request's fall
  abbrev pub falls_by : Cable Lent
  falls_by = record {
    after = λ (e : Signal) (d : Lent). lent (applied d.chain (fall_decision e d)) d.file;
    answer = decided.answer;
    acknowledged = decided.acknowledged;
    responds = decided.responds;
    status = decided.status;
  }

abbrev pub acts_on_first_bit : Cable Lent
acts_on_first_bit = falls_by early_fall

abbrev pub carries_nothing : Cable Lent
carries_nothing = falls_by idle_fall

-- demand 3, of any cable
abbrev pub WordsAtOnce : Cable Lent → Type 0
WordsAtOnce C = (w : Sending) (d : Lent) → InTime w → Resting d.chain → exchanges C w d ≡ at_once w d

-- document 01's smallest drive, fresh and selected
abbrev pub fresh_chain : Chain
fresh_chain = record {
  packs = fitted_pack (record { 0 = 0 }) small_profile ∷ replicate 6 no_pack;
  states = fresh_of small_profile ∷ replicate 6 blank_state;
  lines = record { select = 1; heads = record { 0 = 0 }; writegate = 0; readgate = 0; command = 0; request = 0 };
  length = record { 0 = 4139 };
}
