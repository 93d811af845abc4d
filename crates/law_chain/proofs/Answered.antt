-- A chain that is sound over its file is never answered 22 or 23.
use mathlib.Core.Path.{◌≡◌, sym}
use mathlib.Core.Bool.{Bool, true, false, ◌&&◌}
use mathlib.Core.List.{List}
use Prim.Native.Nat.{ℕ, ◌≤◌}
use native.Mathlib.Omega.{arith}
use borrow.Author.Tests.{eq-eqb}
use lib.ListN.{length}
use Rattle.counts.specs.Bytes.{Bytes}
use Rattle.std.specs.Prelude.{if◌then◌else◌, Result, Ok, Err, IsOk}
use Rattle.pack_read.specs.Read.{read_all}
use Rattle.handshake.specs.Edges.{late_b}
use Rattle.drive_record.specs.declared.Outcome.{Outcome}
use Rattle.drive_record.specs.declared.Outcome.TheVariants.{Done, Inhibited, Fault}
use Rattle.drive_rules.specs.DriveLeft.{left_of}
use Rattle.event.specs.declared.Answer.{Answer}
use Rattle.event.specs.declared.Answer.TheVariants as answer
use Rattle.event.specs.Answer.{answer_number}
use Rattle.event.specs.declared.Event.{Event}
use Rattle.event.specs.declared.Undecoded.{Undecoded}
use Rattle.event.specs.declared.Undecoded.TheVariants.{Unknown, Range}
use Rattle.event.specs.Decode.{decode_of}
use Rattle.chain_record.specs.declared.Chain.{Chain}
use Rattle.chain_decision.specs.declared.Decision.{Decision}
use Rattle.chain_record.specs.declared.Seen.{Seen}
use Rattle.chain_record.specs.Record.{look_of}
use Rattle.chain_decide.specs.Levels.{rule_of}
use Rattle.chain_decision.specs.Decision.{outcome_answer}
use Rattle.chain_decision.specs.Deeds.{said_of}
use Rattle.chain_select.specs.Select.{either_answer}
use Rattle.chain_others.specs.Passing.{pass_event}
use Rattle.chain_fit.specs.Fresh.{fresh_fit}
use Rattle.chain_decide.proofs.Walk.{entered_of, Cases, walk}
use Rattle.chain_judge.specs.Judge.{allowed_of, decoded_of, judged_of}
use Rattle.chain_step.specs.Step.{step_of}
use Rattle.chain_step.specs.Run.{lent}
use Rattle.law_chain.specs.SoundOver.{SoundOver}
use Rattle.law_chain.proofs.Fitted.{whole_sound, fitted_length}

-- neither "22 chain record malformed" nor "23 lent file's length isn't the record's"
abbrev pub Answers : Answer → Type 0
Answers a = (answer_number a ≡ 22 → ⊥) × (answer_number a ≡ 23 → ⊥)

small : (a : Answer) → answer_number a ≤ 5 → Answers a
small a h = ((λ (z : answer_number a ≡ 22). omega arith), (λ (z : answer_number a ≡ 23). omega arith))

ruled : (o : Outcome) → Answers (outcome_answer o)
ruled Done = small answer.Taken (omega arith)
ruled Inhibited = small answer.Inhibited (omega arith)
ruled Fault = small answer.Fault (omega arith)

either : (o : Outcome) (a : Answer) → Answers a → Answers (either_answer o a)
either Done a h = h
either Inhibited a h = h
either Fault a h = small answer.Fault (omega arith)

timed : (late : Bool) → Answers (if late then answer.Fault else answer.Taken)
timed true = small answer.Fault (omega arith)
timed false = small answer.Taken (omega arith)

module _ (c : Chain) (file : List ℕ) where
  abbrev d : Seen
  d = look_of c

  abbrev P : Event → Decision → Type 0
  P e x = Answers (said_of c.packs x.deed file)

  cases : Cases c P
  unfolding pass_event
  cases = record {
    still = λ e b on m q. small answer.Taken (omega arith);
    level = λ v on. small answer.Taken (omega arith);
    alone = λ e a off n. small answer.Unselected (omega arith);
    met = λ e on m q. ruled (rule_of d c.lines e).outcome;
    enters = λ slot off f m. ruled (entered_of c slot).outcome;
    leaves = λ slot on n m. either (left_of d.state).outcome answer.Unselected (small answer.Unselected (omega arith));
    swaps = λ slot on f m. either (left_of d.state).outcome (outcome_answer (entered_of c slot).outcome) (ruled (entered_of c slot).outcome);
    passes = λ us. timed (d.selected && late_b us d.state.transfer);
    past = λ position byte on. ((λ z. omega arith), (λ z. omega arith));
    writes = λ position byte on t w. small answer.Written (omega arith);
    reads = λ position byte on t r w. ((λ z. omega arith), (λ z. omega arith));
    idle = λ position byte on w r. small answer.Inhibited (omega arith);
    inapplicable = λ slot which. ((λ z. omega arith), (λ z. omega arith));
    condition = λ slot which f. small answer.Taken (omega arith);
  }

  allowed : (e : Event) → SoundOver (lent c file) → P e (allowed_of c (length file) e)
  unfolding allowed_of
  allowed e s = rw (s.formed, eq-eqb (length file) c.length.0 s.long) (walk c P cases e)

  decoded : (x : Result Event Undecoded) → SoundOver (lent c file) → Answers (said_of c.packs (decoded_of c (length file) x).deed file)
  decoded (Ok e) s = allowed e s
  decoded (Err Unknown) s = ((λ z. omega arith), (λ z. omega arith))
  decoded (Err Range) s = ((λ z. omega arith), (λ z. omega arith))

  pub sound_answers : (kind a b : ℕ) → SoundOver (lent c file) → Answers (step_of kind a b c file).answer
  unfolding step_of judged_of
  sound_answers kind a b s = decoded (decode_of kind a b) s

-- so the chain of a file that reads whole
pub fitted_answers : (file : List ℕ) → Bytes file → IsOk (read_all file) → (kind a b : ℕ) → Answers (step_of kind a b (fresh_fit file).chain file).answer
fitted_answers file small w kind a b =
    sound_answers (fresh_fit file).chain file kind a b (record { formed = whole_sound file small w; long = sym (fitted_length file small w) })
