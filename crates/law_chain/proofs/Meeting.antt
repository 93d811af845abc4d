-- An event takes its lines, and changes no drive that meets no rule in it.
use mathlib.Core.Path.{◌≡◌, refl, sym, ◌∙◌}
use mathlib.Core.Bool.{true, false, false≢true}
use mathlib.Core.List.{List}
use Prim.Native.Nat.{ℕ}
use lib.Dec.{eqb}
use borrow.Author.Tests.{eqb-false}
use Rattle.drive_record.specs.declared.State.{State}
use Rattle.event.specs.declared.Event.{Event}
use Rattle.event.specs.declared.Event.TheVariants.{Select, Heads, WriteGate, ReadGate, Data, Request, Pass, Cell, Condition}
use Rattle.lines.specs.declared.Lines.{Lines}
use Rattle.chain_record.specs.declared.Chain.{Chain}
use Rattle.chain_record.specs.Record.{look_of}
use Rattle.chain_decision.specs.declared.Decision.{Decision}
use Rattle.chain_others.specs.Passing.{pass_event}
use Rattle.chain_apply.specs.Apply.{put_of, changed_of, applied}
use Rattle.chain_decide.specs.Decide.{decide_of}
use Rattle.chain_decide.specs.Levels.{lines_after, moves_b, rule_of}
use Rattle.chain_decide.proofs.Walk.{Cases, walk}
use Rattle.law_drive.proofs.Gates.{both_off}
use Rattle.law_chain.specs.OnlyMet.{meets_b, OnlyMet}
use Rattle.law_chain.proofs.Drives.{put_other, put_back}

-- a test that fails of two numbers tells them apart
apart : (k j : ℕ) → eqb k j ≡ false → k ≡ j → ⊥
apart k j off same = eqb-false k j off same

module _ (c : Chain) where
  abbrev l : Lines
  l = c.lines

  abbrev with : List State → Lines → Chain
  with states m = record { packs = c.packs; states = states; lines = m; length = c.length }

  same : (e : Event) (m : Lines) → m ≡ lines_after e l → OnlyMet e c (with c.states m)
  same e m q = record { lines = q; packs = refl; long = refl; others = λ k off. refl }

  one : (e : Event) (m : Lines) (slot : ℕ) (s : State) → m ≡ lines_after e l → ((k : ℕ) → meets_b e l k ≡ false → k ≡ slot → ⊥)
      → OnlyMet e c (with (put_of c.states slot s) m)
  one e m slot s q ne = record { lines = q; packs = refl; long = refl; others = λ k off. put_other c.states slot s k (ne k off) }

  two : (slot : ℕ) (s t : State) → OnlyMet (Select slot) c (with (put_of (put_of c.states l.select s) slot t) (lines_after (Select slot) l))
  two slot s t = record {
    lines = refl;
    packs = refl;
    long = refl;
    others = λ k off.
        let e = both_off (eqb k l.select) (eqb k slot) off in
        put_other (put_of c.states l.select s) slot t k (apart k slot e.1) ∙ put_other c.states l.select s k (apart k l.select e.0);
  }

  -- the selected drive, where a line moves
  met_only : (e : Event) → moves_b e l ≡ true → OnlyMet e c (with (put_of c.states (lines_after e l).select (rule_of (look_of c) l e).state) (lines_after e l))
  unfolding look_of
  met_only (Select slot) m = one (Select slot) _ slot _ refl (λ k off. apart k slot (both_off (eqb k l.select) (eqb k slot) off).1)
  met_only (Heads h) m = one (Heads h) _ l.select _ refl (λ k off. apart k l.select off)
  met_only (WriteGate v) m = one (WriteGate v) _ l.select _ refl (λ k off. apart k l.select off)
  met_only (ReadGate v) m = one (ReadGate v) _ l.select _ refl (λ k off. apart k l.select off)
  met_only (Request v) m = one (Request v) _ l.select _ refl (λ k off. apart k l.select off)
  met_only (Data v) m = rw (put_back c.states l.select) (same (Data v) _ refl)
  met_only (Pass us) m = absurd (false≢true m)
  met_only (Cell position byte) m = absurd (false≢true m)
  met_only (Condition slot which) m = absurd (false≢true m)

  abbrev Only : Event → Decision → Type 0
  Only e x = OnlyMet e c (applied c x)

  pub only_cases : Cases c Only
  unfolding applied changed_of pass_event
  only_cases = record {
    still = λ e b on m q. same e l (sym q);
    level = λ v on. same (Data v) _ refl;
    alone = λ e a off n. same e _ refl;
    met = λ e on m q. met_only e m;
    enters = λ slot off f m. one (Select slot) _ slot _ refl (λ k off. apart k slot (both_off (eqb k l.select) (eqb k slot) off).1);
    leaves = λ slot on n m. one (Select slot) _ l.select _ refl (λ k off. apart k l.select (both_off (eqb k l.select) (eqb k slot) off).0);
    swaps = λ slot on f m. two slot _ _;
    passes = λ us. record { lines = refl; packs = refl; long = refl; others = λ k off. absurd (false≢true (sym off)) };
    past = λ position byte on. same (Cell position byte) l refl;
    writes = λ position byte on t w. same (Cell position byte) l refl;
    reads = λ position byte on t r w. same (Cell position byte) l refl;
    idle = λ position byte on w r. same (Cell position byte) l refl;
    inapplicable = λ slot which. same (Condition slot which) l refl;
    condition = λ slot which f. one (Condition slot which) l slot _ refl (λ k off. apart k slot off);
  }

  -- whatever the event
  pub only_met : (e : Event) → OnlyMet e c (applied c (decide_of c e))
  only_met = walk c Only only_cases
