-- One walk through all that an event can decide: what holds of each leaf, knowing the tests on the way, holds of the decision.
use Rattle.std.specs.Prelude.{None}
use mathlib.Core.Path.{◌≡◌, refl, sym, ap}
use mathlib.Core.Bool.{Bool, true, false, not}
use Prim.Native.Nat.{ℕ, ◌<◌}
use borrow.Author.Tests.{eqb-true, leb-false, not-true, not-false}
use lib.Dec.{leb, eqb}
use Rattle.counts.specs.declared.Micros.{Micros}
use Rattle.counts.specs.declared.Position.{Position}
use Rattle.counts.proofs.Choice.{by_test}
use Rattle.drive_record.specs.declared.Ruled.{Ruled}
use Rattle.drive_record.specs.State.{state_of}
use Rattle.drive_record.specs.Faults as faults
use Rattle.drive_rules.specs.Heads.{met_of}
use Rattle.drive_rules.specs.DriveLeft.{left_of}
use Rattle.event.specs.declared.Answer.TheVariants.{Taken, Unselected, Inhibited, Inapplicable, PastTrack}
use Rattle.event.specs.declared.Event.{Event}
use Rattle.event.specs.declared.Event.TheVariants.{Select, Heads, WriteGate, ReadGate, Data, Request, Pass, Cell, Condition}
use Rattle.lines.specs.declared.Lines.{Lines}
use Rattle.chain_record.specs.declared.Chain.{Chain}
use Rattle.chain_decision.specs.declared.Change.TheVariants as change
use Rattle.chain_decision.specs.declared.Deed.TheVariants.{Say, Read, Write}
use Rattle.chain_decision.specs.declared.Decision.{Decision}
use Rattle.chain_record.specs.declared.Seen.{Seen}
use Rattle.chain_record.specs.Record.{slot_pack, slot_state, look_of}
use Rattle.chain_decision.specs.Decision.{say_of, heard_of, ruled_of}
use Rattle.pack_read.specs.Packs.{fitted_b}
use Rattle.lines.specs.Lines.{with_select, with_heads, with_writegate, with_readgate, with_command, with_request}
use Rattle.chain_lines.specs.Signals.{signal_of}
use Rattle.chain_select.specs.Select.{left_alone, both_of, moved_of}
use Rattle.chain_others.specs.Passing.{pass_event}
use Rattle.chain_others.specs.Cell.{cell_spot, touching, cell_event}
use Rattle.chain_others.specs.Condition.{fixed_change, condition_at}
use Rattle.chain_decide.specs.Decide.{select_event, condition_event, decide_of}
use Rattle.chain_decide.specs.Levels.{lines_after, moves_b, rule_of, word_met, asked_b}

-- kinds 0 to 5
abbrev pub line_b : Event → Bool
line_b (Select slot) = true
line_b (Heads h) = true
line_b (WriteGate level) = true
line_b (ReadGate level) = true
line_b (Data level) = true
line_b (Request level) = true
line_b (Pass us) = false
line_b (Cell position byte) = false
line_b (Condition slot which) = false

-- the drive of a slot, entered with the head lines
abbrev pub entered_of : Chain → ℕ → Ruled
entered_of c slot = met_of (slot_pack c.packs slot).profile c.lines.heads (slot_state c.states slot)

module _ (c : Chain) (P : Event → Decision → Type 0) where
  abbrev d : Seen
  d = look_of c

  abbrev l : Lines
  l = c.lines

  pub record Cases : Type 0 where
    -- a line set to the level it has, and the data line: nothing is met
    pub still : (e : Event) → line_b e ≡ true → d.selected ≡ true → moves_b e l ≡ false → lines_after e l ≡ l → P e (say_of l Taken)
    pub level : (v : ℕ) → d.selected ≡ true → P (Data v) (say_of (with_command v l) Taken)
    -- no fitted drive, before or after
    pub alone : (e : Event) → asked_b e ≡ true → d.selected ≡ false → fitted_b (slot_pack c.packs (lines_after e l).select) ≡ false
        → P e (say_of (lines_after e l) Unselected)
    -- the selected drive meets a rule
    pub met : (e : Event) → d.selected ≡ true → moves_b e l ≡ true → (lines_after e l).select ≡ l.select
        → P e (ruled_of (lines_after e l) (word_met d e) (rule_of d l e))
    -- select
    pub enters : (slot : ℕ) → d.selected ≡ false → fitted_b (slot_pack c.packs slot) ≡ true → moves_b (Select slot) l ≡ true
        → P (Select slot) (ruled_of (with_select slot l) None (entered_of c slot))
    pub leaves : (slot : ℕ) → d.selected ≡ true → fitted_b (slot_pack c.packs slot) ≡ false → moves_b (Select slot) l ≡ true
        → P (Select slot) (left_alone l.select (left_of d.state) (with_select slot l))
    pub swaps : (slot : ℕ) → d.selected ≡ true → fitted_b (slot_pack c.packs slot) ≡ true → moves_b (Select slot) l ≡ true
        → P (Select slot) (both_of l.select (left_of d.state) (entered_of c slot) (with_select slot l))
    -- time
    pub passes : (us : Micros) → P (Pass us) (pass_event d l us)
    -- cells
    pub past : (position : Position) (byte : ℕ) → d.selected ≡ true → P (Cell position byte) (say_of l PastTrack)
    pub writes : (position : Position) (byte : ℕ) → d.selected ≡ true → position.0 < d.profile.shape.track.0 → d.state.body.writing ≡ 1
        → P (Cell position byte) (touching l (Write (cell_spot d l position) byte))
    pub reads : (position : Position) (byte : ℕ) → d.selected ≡ true → position.0 < d.profile.shape.track.0 → d.state.body.reading ≡ 1
        → eqb d.state.body.writing 1 ≡ false → P (Cell position byte) (touching l (Read (cell_spot d l position)))
    pub idle : (position : Position) (byte : ℕ) → d.selected ≡ true → eqb d.state.body.writing 1 ≡ false → eqb d.state.body.reading 1 ≡ false
        → P (Cell position byte) (say_of l Inhibited)
    -- conditions
    pub inapplicable : (slot which : ℕ) → P (Condition slot which) (say_of l Inapplicable)
    pub condition : (slot which : ℕ) → fitted_b (slot_pack c.packs slot) ≡ true
        → P (Condition slot which)
        (record {
          lines = l;
          change = change.One slot (state_of (faults.condition_of which (slot_state c.states slot).body) (slot_state c.states slot).transfer);
          word = None;
          deed = Say Taken;
        })

  module _ (k : Cases) where
    after_on : (e : Event) → (lines_after e l).select ≡ l.select → d.selected ≡ false → fitted_b (slot_pack c.packs (lines_after e l).select) ≡ false
    unfolding look_of
    after_on e q h = rw q h

    -- the line has that level
    same : (e : Event) → line_b e ≡ true → asked_b e ≡ true → moves_b e l ≡ false → lines_after e l ≡ l → P e (heard_of l d.selected)
    unfolding heard_of
    same e b a m q =
        by_test (P e) d.selected _ _ (λ on. k.still e b on m q)
        (λ off. rw q at (k.alone e a off (after_on e (ap (λ (m : Lines). m.select) q) off)))

    unheard : (e : Event) → asked_b e ≡ true → d.selected ≡ false → (lines_after e l).select ≡ l.select → P e (heard_of (lines_after e l) false)
    unfolding heard_of
    unheard e a off q = k.alone e a off (after_on e q off)

    -- kinds 1, 2, 3 and 5
    signal : (e : Event) (t : Bool) → line_b e ≡ true → asked_b e ≡ true → (lines_after e l).select ≡ l.select → moves_b e l ≡ not t
        → (t ≡ true → lines_after e l ≡ l) → P e (signal_of d l (lines_after e l) t (word_met d e) (rule_of d l e))
    unfolding signal_of
    signal e t b a q m h =
        by_test (P e) t _ _ (λ s. same e b a (rw (m, s)) (h s))
        (λ n. by_test (P e) (not d.selected) _ _ (λ off. unheard e a (not-true _ off) q) (λ on. k.met e (not-false _ on) (rw (m, n)) q))

    -- the select code has changed
    moved : (slot : ℕ) → moves_b (Select slot) l ≡ true → P (Select slot) (moved_of d l (with_select slot l) (slot_pack c.packs slot) (slot_state c.states slot))
    unfolding moved_of heard_of
    moved slot m =
        let p = slot_pack c.packs slot in
        by_test (P (Select slot)) (fitted_b p) _ _
        (λ f. by_test (P (Select slot)) d.selected _ _ (λ on. k.swaps slot on f m) (λ off. k.enters slot off f m))
        (λ f. by_test (P (Select slot)) d.selected _ _ (λ on. k.leaves slot on f m) (λ off. k.alone (Select slot) refl off f))

    pub walk : (e : Event) → P e (decide_of c e)
    unfolding decide_of select_event cell_event condition_event condition_at heard_of
    walk (Select slot) =
        by_test (P (Select slot)) (eqb l.select slot) _ _
        (λ s. same (Select slot) refl refl (rw s) (ap (λ (x : ℕ). with_select x l) (sym (eqb-true l.select slot s))))
        (λ n. moved slot (rw n))
    walk (Heads h) =
        signal (Heads h) (eqb l.heads.0 h.0) refl refl refl refl
        (λ s. ap (λ (x : ℕ). with_heads (record { 0 = x }) l) (sym (eqb-true l.heads.0 h.0 s)))
    walk (WriteGate v) =
        signal (WriteGate v) (eqb l.writegate v) refl refl refl refl (λ s. ap (λ (x : ℕ). with_writegate x l) (sym (eqb-true l.writegate v s)))
    walk (ReadGate v) =
        signal (ReadGate v) (eqb l.readgate v) refl refl refl refl (λ s. ap (λ (x : ℕ). with_readgate x l) (sym (eqb-true l.readgate v s)))
    walk (Data v) = by_test (P (Data v)) d.selected _ _ (λ on. k.level v on) (λ off. unheard (Data v) refl off refl)
    walk (Request v) =
        signal (Request v) (eqb l.request v) refl refl refl refl (λ s. ap (λ (x : ℕ). with_request x l) (sym (eqb-true l.request v s)))
    walk (Pass us) = k.passes us
    walk (Cell position byte) =
        by_test (P (Cell position byte)) (not d.selected) _ _ (λ off. unheard (Cell position byte) refl (not-true _ off) refl)
        (λ on. by_test (P (Cell position byte)) (leb d.profile.shape.track.0 position.0) _ _ (λ p. k.past position byte (not-false _ on))
        (λ p. by_test (P (Cell position byte)) (eqb d.state.body.writing 1) _ _
        (λ w. k.writes position byte (not-false _ on) (leb-false _ _ p) (eqb-true _ _ w))
        (λ w. by_test (P (Cell position byte)) (eqb d.state.body.reading 1) _ _
        (λ r. k.reads position byte (not-false _ on) (leb-false _ _ p) (eqb-true _ _ r) w)
        (λ r. k.idle position byte (not-false _ on) w r))))
    walk (Condition slot which) =
        by_test (P (Condition slot which)) (not (fitted_b (slot_pack c.packs slot))) _ _ (λ n. k.inapplicable slot which)
        (λ f. by_test (P (Condition slot which)) (fixed_change (slot_pack c.packs slot) which) _ _ (λ x. k.inapplicable slot which)
        (λ x. k.condition slot which (not-false _ f)))
