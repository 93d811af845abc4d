-- The same through the board's one function, so long as every number is one that an event can have.
use Prim.Native.Nat.{ℕ, ◌≤◌}
use native.Mathlib.Omega.{arith}
use mathlib.Core.Path.{◌≡◌, refl, sym, ap, ◌∙◌}
use mathlib.Core.Bool.{true}
use mathlib.Core.List.{List, [], ◌∷◌}
use lib.ListN.{length}
use borrow.Author.Tests.{le-leb, eq-eqb}
use Rattle.std.specs.Prelude.{Result, Ok}
use Rattle.handshake.specs.Transfer.{patience}
use Rattle.event.specs.declared.Event.{Event}
use Rattle.event.specs.declared.Undecoded.{Undecoded}
use Rattle.event.specs.Decode.{ranged, level_line, kind_row, decode_of}
use Rattle.event.specs.Answer.{answer_number}
use Rattle.chain_decision.specs.declared.Decision.{Decision}
use Rattle.chain_decision.specs.Deeds.{file_after}
use Rattle.chain_apply.specs.Apply.{applied}
use Rattle.chain_sound.specs.SoundChain.{chain_sound_b}
use Rattle.chain_step.specs.declared.Stepped.{Stepped}
use Rattle.chain_judge.specs.Judge.{decoded_of, allowed_of, judged_of}
use Rattle.chain_step.specs.Step.{performed, step_of, step_file}
use Rattle.law_chain.proofs.Kept.{sound_kept}
use Rattle.law_chain.proofs.Run.{deed_long}
use Rattle.law_exchange.specs.Host.{Signal, level, ask, micros, Still, waits, sets, Bit, Gap, Sending, exchanges}
use Rattle.law_exchange.specs.Waits.{time_of, BitsFit, GapsFit, InTime, Each, EachOfBits, EachOfGaps, EachWait}
use Rattle.law_exchange.proofs.Sent.{high_small}
use Rattle.law_exchange.proofs.Like.{Alike, exchanges_like}
use Rattle.chain_step.specs.Run.{Lent, step_by}
use Rattle.law_words.specs.Decided.{event_of, decision_of, decided}
use Rattle.law_words.specs.AtOnce.{Resting, at_once}
use Rattle.law_words.specs.Stepped.{kind_of, operand_of, InRange, numbers_of, stepped}
use Rattle.law_words.proofs.Demand.{demand_3}

decodes : (e : Signal) → InRange e → decode_of (kind_of e) (operand_of e) 0 ≡ Ok (event_of e)
unfolding decode_of kind_row ranged level_line
decodes (level v) h = rw (le-leb v 1 h)
decodes (ask v) h = rw (le-leb v 1 h)
decodes (micros us) h = rw (le-leb us 65_535 h)

-- on a sound chain with its own file a step is the decision carried out
module _ (e : Signal) (d : Lent) (f : InRange e) (s : chain_sound_b d.chain ≡ true) (l : length d.file ≡ d.chain.length.0) where
  judged_is : judged_of d.chain (length d.file) (kind_of e) (operand_of e) 0 ≡ decision_of e d
  unfolding judged_of allowed_of
  judged_is =
      ap (λ (x : Result Event Undecoded). decoded_of d.chain (length d.file) x) (decodes e f)
      ∙ rw (s, eq-eqb (length d.file) d.chain.length.0 l)

  step_is : step_by (numbers_of e) d ≡ performed d.chain d.file (decision_of e d)
  unfolding step_of
  step_is = ap (performed d.chain d.file) judged_is

  file_is : step_file (kind_of e) (operand_of e) 0 d.chain d.file ≡ file_after d.chain.packs (decision_of e d).deed d.file
  unfolding step_file
  file_is = ap (λ (x : Decision). file_after d.chain.packs x.deed d.file) judged_is

  after_is : decided.after e d ≡ stepped.after e d
  after_is = λ i. record { chain = (sym step_is i).chain; file = sym file_is i }

  answer_is : decided.answer e d ≡ stepped.answer e d
  answer_is = sym (ap (λ (r : Stepped). answer_number r.answer) step_is)

  still_long : length (decided.after e d).file ≡ (decided.after e d).chain.length.0
  unfolding applied
  still_long = deed_long d.chain.packs (decision_of e d).deed d.file ∙ l

abbrev Short : ℕ → Type 0
Short us = us ≤ 65_535

short : (xs : List Still) → time_of xs ≤ patience → Each Short xs
short [] h = tt
short (waits us ∷ xs) h = (omega arith, short xs (omega arith))
short (sets x ∷ xs) h = short xs h

short_bits : (xs : List Bit) → BitsFit xs → EachOfBits Short xs
short_bits [] f = tt
short_bits (x ∷ xs) f = (short x.low f.0, short x.up f.1, short_bits xs f.2)

short_gaps : (gs : List Gap) → GapsFit gs → EachOfGaps Short gs
short_gaps [] f = tt
short_gaps (g ∷ gs) f =
    let up = f.1 in
    (short g.low f.0, short g.early (omega arith), short g.late (omega arith), short_gaps gs f.2)

abbrev Same : Lent → Lent → Type 0
Same s t = (s ≡ t) × (chain_sound_b s.chain ≡ true) × (length s.file ≡ s.chain.length.0)

still_sound : (e : Signal) (s : Lent) → InRange e → chain_sound_b s.chain ≡ true → length s.file ≡ s.chain.length.0 → chain_sound_b (decided.after e s).chain ≡ true
still_sound e s f h l = ap (λ (x : Lent). chain_sound_b x.chain) (after_is e s f h l) ∙ sound_kept s.chain h (kind_of e) (operand_of e) 0 s.file

alike : Alike decided stepped Same InRange
alike = record {
  levels = high_small;
  edges = high_small;
  after = λ e s t f l. (after_is e s f l.1 l.2 ∙ ap (stepped.after e) l.0, still_sound e s f l.1 l.2, still_long e s f l.1 l.2);
  answer = λ e s t f l. answer_is e s f l.1 l.2 ∙ ap (stepped.answer e) l.0;
  acknowledged = λ s t l. ap stepped.acknowledged l.0;
  responds = λ s t l. ap stepped.responds l.0;
  status = λ s t l. ap stepped.status l.0;
}

-- demand 3 by `chain_step::step`; each wait in front of the first rise is one that an event can have
pub step_demand_3 : (w : Sending) (d : Lent) → InTime w → Each (λ us. us ≤ 65_535) w.first.low
    → Resting d.chain → length d.file ≡ d.chain.length.0 → exchanges stepped w d ≡ at_once w d
step_demand_3 w d fit low r l =
    let each : EachWait Short w = ((low, short w.first.up fit.first, short_bits w.more fit.bits), short_gaps w.gaps fit.gaps) in
    let e = exchanges_like decided stepped Same InRange alike w d d each (refl, r.sound, l) in
    (λ i. record { now = sym e.now.0 i; answers = sym e.answers i; response = sym e.response i })
    ∙ demand_3 w d fit r
