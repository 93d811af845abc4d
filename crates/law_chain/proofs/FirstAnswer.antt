-- "Of the answers 5, 4, 3, 0 the first that applies is given."
use mathlib.Core.Path.{◌≡◌, refl, sym, ap, ◌∙◌}
use mathlib.Core.Bool.{Bool, true, false, ◌&&◌, not, false≢true}
use mathlib.Core.List.{List, [], ◌∷◌, ◌++◌}
use Prim.Native.Nat.{ℕ, zero, suc, ◌+◌, ◌-◌, ◌≤◌, ◌<◌}
use native.Mathlib.Omega.{arith}
use borrow.Author.Tests.{eqb-true, eqb-false, eq-eqb, ne_eqb, not-true, not-false}
use lib.Dec.{eqb}
use lib.ListN.{length, get_or}
use Rattle.counts.specs.declared.Micros.{Micros}
use Rattle.std.specs.Prelude.{Ok}
use Rattle.std.specs.Prelude.{if◌then◌else◌}
use Rattle.counts.proofs.Choice.{by_test}
use Rattle.counts.proofs.Tests.{both}
use Rattle.pack_read.specs.declared.Pack.{Pack}
use Rattle.pack_read.specs.Packs.{no_pack}
use Rattle.handshake.specs.SoundTransfer.{idle_b, none_b}
use Rattle.handshake.specs.Edges.{late_b}
use Rattle.drive_record.specs.declared.State.{State}
use Rattle.drive_record.specs.declared.Outcome.{Outcome}
use Rattle.drive_record.specs.declared.Outcome.TheVariants.{Done, Inhibited, Fault}
use Rattle.drive_record.specs.State.{blank_state}
use Rattle.drive_rules.specs.DriveLeft.{left_of}
use Rattle.drive_rules.specs.Time as time
use Rattle.event.specs.declared.Answer.{Answer}
use Rattle.event.specs.declared.Answer.TheVariants as answer
use Rattle.event.specs.Answer.{answer_number}
use Rattle.event.specs.declared.Event.{Event}
use Rattle.event.specs.declared.Event.TheVariants.{Select, Heads, WriteGate, ReadGate, Data, Request, Pass, Cell, Condition}
use Rattle.event.specs.Decode.{decode_of}
use Rattle.lines.specs.declared.Lines.{Lines}
use Rattle.law_drive.proofs.SoundDrives.{unselected}
use Rattle.law_drive.proofs.DriveTime.{pass_outcome}
use Rattle.chain_record.specs.declared.Chain.{Chain}
use Rattle.chain_decision.specs.declared.Deed.{Deed}
use Rattle.chain_decision.specs.declared.Deed.TheVariants.{Say, Read, Write}
use Rattle.chain_decision.specs.declared.Decision.{Decision}
use Rattle.chain_record.specs.declared.Seen.{Seen}
use Rattle.chain_record.specs.Record.{slot_pack, slot_state, look_of}
use Rattle.chain_decision.specs.Decision.{outcome_answer}
use Rattle.pack_read.specs.Packs.{fitted_b}
use Rattle.chain_decide.specs.Levels.{lines_after, moves_b, rule_of, asked_b}
use Rattle.chain_decision.specs.Deeds.{said_of}
use Rattle.chain_select.specs.Select.{either_answer}
use Rattle.chain_others.specs.Passing.{pass_event}
use Rattle.chain_decide.specs.Decide.{decide_of}
use Rattle.chain_sound.specs.SoundChain.{chain_sound_b}
use Rattle.chain_sound.proofs.SoundSlots.{state_there}
use Rattle.chain_judge.specs.Judge.{allowed_of, judged_of}
use Rattle.chain_step.specs.Step.{step_of}
use Rattle.law_chain.specs.Applies.{if_any, time_meets, meets, any_fault, any_inhibited, none_selected_b, first_by, first_applies}
use Rattle.chain_decide.proofs.Walk.{line_b, Cases, walk, entered_of}
use Rattle.law_chain.proofs.Outcomes.{left_acts, pass_acts}
use Rattle.law_chain.proofs.Drives.{slot_sound, is_slot, listed, slot_room, state_in_lem, fitted_in}

and_false : (a : Bool) → (a && false) ≡ false
and_false true = refl
and_false false = refl

one : (o : Outcome) → answer_number (outcome_answer o) ≡ first_by (o ∷ []) false
one Done = refl
one Inhibited = refl
one Fault = refl

left_one : (o : Outcome) → (o ≡ Inhibited → ⊥) → answer_number (either_answer o answer.Unselected) ≡ first_by (o ∷ []) true
left_one Done i = refl
left_one Fault i = refl
left_one Inhibited i = absurd (i refl)

two : (o q : Outcome) → (o ≡ Inhibited → ⊥) → answer_number (either_answer o (outcome_answer q)) ≡ first_by (o ∷ q ∷ []) false
two Done Done i = refl
two Done Inhibited i = refl
two Done Fault i = refl
two Fault q i = refl
two Inhibited q i = absurd (i refl)

-- one more outcome in front
module _ (t : Bool) (o : Outcome) (rest : List Outcome) where
  done_first : (t ≡ true → o ≡ Done) → any_fault rest ≡ false → any_fault (if_any t o ++ rest) ≡ false
  done_first g r = by t refl
    where
      by : (u : Bool) → t ≡ u → any_fault (if_any u o ++ rest) ≡ false
      by true q = rw (g q) r
      by false q = r

  fault_first : t ≡ true → o ≡ Fault → any_fault (if_any t o ++ rest) ≡ true
  fault_first q e = rw (q, e)

  fault_later : any_fault rest ≡ true → any_fault (if_any t o ++ rest) ≡ true
  fault_later r = by t o
    where
      by : (u : Bool) (x : Outcome) → any_fault (if_any u x ++ rest) ≡ true
      by true Done = r
      by true Inhibited = r
      by true Fault = refl
      by false x = r

  free_first : (o ≡ Inhibited → ⊥) → any_inhibited rest ≡ false → any_inhibited (if_any t o ++ rest) ≡ false
  free_first i r = by t o refl
    where
      by : (u : Bool) (x : Outcome) → o ≡ x → any_inhibited (if_any u x ++ rest) ≡ false
      by true Done q = r
      by true Inhibited q = absurd (i q)
      by true Fault q = r
      by false x q = r

-- time: each drive that is fitted meets it
module _ (us : Micros) where
  time_done : (packs : List Pack) (states : List State)
      → ((i : ℕ) → (get_or packs i no_pack).fitted ≡ 1 → (time.pass_drive us (get_or states i blank_state)).outcome ≡ Done) → any_fault (time_meets us packs states) ≡ false
  time_done [] states g = refl
  time_done (p ∷ packs) [] g = refl
  time_done (p ∷ packs) (s ∷ states) g =
      done_first (fitted_b p) (time.pass_drive us s).outcome _ (λ f. g zero (eqb-true _ _ f)) (time_done packs states (λ i. g (suc i)))

  time_fault : (packs : List Pack) (states : List State) (i : ℕ) → (get_or packs i no_pack).fitted ≡ 1 → i < length states
      → (time.pass_drive us (get_or states i blank_state)).outcome ≡ Fault → any_fault (time_meets us packs states) ≡ true
  time_fault [] states i f n e = absurd (omega arith)
  time_fault (p ∷ packs) [] i f n e = absurd (omega arith)
  time_fault (p ∷ packs) (s ∷ states) zero f n e = fault_first (fitted_b p) (time.pass_drive us s).outcome _ (eq-eqb _ _ f) e
  time_fault (p ∷ packs) (s ∷ states) (suc i) f n e = fault_later (fitted_b p) (time.pass_drive us s).outcome _ (time_fault packs states i f (omega arith) e)

  time_free : (packs : List Pack) (states : List State) → any_inhibited (time_meets us packs states) ≡ false
  time_free [] states = refl
  time_free (p ∷ packs) [] = refl
  time_free (p ∷ packs) (s ∷ states) = free_first (fitted_b p) (time.pass_drive us s).outcome _ (pass_acts us s) (time_free packs states)

  -- without a transfer there is nothing to drop
  none_done : (s : State) → none_b s.transfer ≡ true → (time.pass_drive us s).outcome ≡ Done
  unfolding late_b
  none_done s h = pass_outcome us s ∙ rw (both (eqb s.transfer.way 0) (idle_b s.transfer) h).0

module _ (c : Chain) (h : chain_sound_b c ≡ true) where
  abbrev d : Seen
  d = look_of c

  abbrev l : Lines
  l = c.lines

  -- the answer given is the first that applies
  abbrev Says : Event → Deed → Type 0
  Says e (Say a) = answer_number a ≤ 5 → answer_number a ≡ first_applies c e
  Says e (Read i) = Unit
  Says e (Write i byte) = Unit

  abbrev P : Event → Decision → Type 0
  P e x = Says e x.deed

  by_list : (e : Event) (os : List Outcome) (t : Bool) → meets c e ≡ os → none_selected_b c e ≡ t → first_by os t ≡ first_applies c e
  unfolding first_applies
  by_list e os t m u = rw (m, u)

  on_after : (e : Event) → (lines_after e l).select ≡ l.select → d.selected ≡ true → fitted_b (slot_pack c.packs (lines_after e l).select) ≡ true
  unfolding look_of
  on_after e q y = rw q y

  chosen : (e : Event) → asked_b e ≡ true → fitted_b (slot_pack c.packs (lines_after e l).select) ≡ true → none_selected_b c e ≡ false
  chosen e a y = rw (a, y)

  none_chosen : (e : Event) → asked_b e ≡ true → fitted_b (slot_pack c.packs (lines_after e l).select) ≡ false → none_selected_b c e ≡ true
  none_chosen e a n = rw (a, n)

  line_asked : (e : Event) → line_b e ≡ true → asked_b e ≡ true
  line_asked (Select slot) b = refl
  line_asked (Heads x) b = refl
  line_asked (WriteGate v) b = refl
  line_asked (ReadGate v) b = refl
  line_asked (Data v) b = refl
  line_asked (Request v) b = refl
  line_asked (Pass us) b = absurd (false≢true b)
  line_asked (Cell position byte) b = refl
  line_asked (Condition slot which) b = absurd (false≢true b)

  -- a line that has its level: no rule is met
  still_meets : (e : Event) → line_b e ≡ true → moves_b e l ≡ false → meets c e ≡ []
  still_meets (Select slot) b m = rw m
  still_meets (Heads x) b m = rw (m, and_false d.selected)
  still_meets (WriteGate v) b m = rw (m, and_false d.selected)
  still_meets (ReadGate v) b m = rw (m, and_false d.selected)
  still_meets (Data v) b m = refl
  still_meets (Request v) b m = rw (m, and_false d.selected)
  still_meets (Pass us) b m = absurd (false≢true b)
  still_meets (Cell position byte) b m = absurd (false≢true b)
  still_meets (Condition slot which) b m = absurd (false≢true b)

  neither : (t : Bool) → ◌≡◌ {A = List Outcome} (if t then [] else []) []
  neither true = refl
  neither false = refl

  -- no drive: no rule is met
  alone_meets : (e : Event) → asked_b e ≡ true → d.selected ≡ false → fitted_b (slot_pack c.packs (lines_after e l).select) ≡ false → meets c e ≡ []
  alone_meets (Select slot) a n g = rw (n, g) (neither (moves_b (Select slot) l))
  alone_meets (Heads x) a n g = rw n
  alone_meets (WriteGate v) a n g = rw n
  alone_meets (ReadGate v) a n g = rw n
  alone_meets (Data v) a n g = refl
  alone_meets (Request v) a n g = rw n
  alone_meets (Pass us) a n g = absurd (false≢true a)
  alone_meets (Cell position byte) a n g = rw n
  alone_meets (Condition slot which) a n g = absurd (false≢true a)

  -- the selected drive meets the rule of its signal
  signalled : (e : Event) → asked_b e ≡ true → meets c e ≡ if_any (d.selected && moves_b e l) (rule_of d l e).outcome
      → d.selected ≡ true → moves_b e l ≡ true → (lines_after e l).select ≡ l.select → answer_number (outcome_answer (rule_of d l e).outcome) ≡ first_applies c e
  signalled e a g y m q =
      let o = (rule_of d l e).outcome in
      let moved : (d.selected && moves_b e l) ≡ true = rw (y, m) in
      let met : meets c e ≡ o ∷ [] = g ∙ ap (λ (t : Bool). if_any t o) moved in
      one o ∙ by_list e (o ∷ []) false met (chosen e a (on_after e q y))

  met_first : (e : Event) → d.selected ≡ true → moves_b e l ≡ true → (lines_after e l).select ≡ l.select
      → answer_number (outcome_answer (rule_of d l e).outcome) ≡ first_applies c e
  met_first (Heads x) y m q = signalled (Heads x) refl refl y m q
  met_first (WriteGate v) y m q = signalled (WriteGate v) refl refl y m q
  met_first (ReadGate v) y m q = signalled (ReadGate v) refl refl y m q
  met_first (Request v) y m q = signalled (Request v) refl refl y m q
  met_first (Data v) y m q = by_list (Data v) [] false refl (chosen (Data v) refl (on_after (Data v) q y))
  met_first (Select slot) y m q = absurd (eqb-false l.select slot (not-true _ m) (sym q))
  met_first (Pass us) y m q = absurd (false≢true m)
  met_first (Cell position byte) y m q = absurd (false≢true m)
  met_first (Condition slot which) y m q = absurd (false≢true m)

  -- select: the drive left, the drive entered
  module _ (slot : ℕ) (m : moves_b (Select slot) l ≡ true) where
    abbrev left : Outcome
    left = (left_of d.state).outcome

    abbrev entered : Outcome
    entered = (entered_of c slot).outcome

    enters_first : d.selected ≡ false → fitted_b (slot_pack c.packs slot) ≡ true → answer_number (outcome_answer entered) ≡ first_applies c (Select slot)
    enters_first n f =
        let met : meets c (Select slot) ≡ entered ∷ [] = rw (m, n, f) in
        one entered ∙ by_list (Select slot) (entered ∷ []) false met (chosen (Select slot) refl f)

    leaves_first : d.selected ≡ true → fitted_b (slot_pack c.packs slot) ≡ false
        → answer_number (either_answer left answer.Unselected) ≡ first_applies c (Select slot)
    leaves_first y n =
        let met : meets c (Select slot) ≡ left ∷ [] = rw (m, y, n) in
        left_one left (left_acts d.state) ∙ by_list (Select slot) (left ∷ []) true met (none_chosen (Select slot) refl n)

    swaps_first : d.selected ≡ true → fitted_b (slot_pack c.packs slot) ≡ true
        → answer_number (either_answer left (outcome_answer entered)) ≡ first_applies c (Select slot)
    swaps_first y f =
        let met : meets c (Select slot) ≡ left ∷ entered ∷ [] = rw (m, y, f) in
        two left entered (left_acts d.state) ∙ by_list (Select slot) (left ∷ entered ∷ []) false met (chosen (Select slot) refl f)

  -- a fitted drive that is not selected has no transfer to drop
  module _ (us : Micros) where
    abbrev outcome : ℕ → Outcome
    outcome i = (time.pass_drive us (get_or c.states i blank_state)).outcome

    seen : (i : ℕ) → (get_or c.packs i no_pack).fitted ≡ 1 → (time.pass_drive us (slot_state c.states (i + 1))).outcome ≡ outcome i
    seen i f = ap (λ (s : State). (time.pass_drive us s).outcome) (state_in_lem c h i f c.states)

    away : (i : ℕ) → (get_or c.packs i no_pack).fitted ≡ 1 → (i + 1 ≡ l.select → ⊥) → outcome i ≡ Done
    away i f ne =
        let s = rw (ne_eqb l.select (i + 1) (λ e. ne (sym e))) at (slot_sound c h (i + 1) (fitted_in c h i f)) in
        sym (seen i f) ∙ none_done us (slot_state c.states (i + 1)) (unselected _ l _ s).none

    none_fails : ((i : ℕ) → (get_or c.packs i no_pack).fitted ≡ 1 → i + 1 ≡ l.select → outcome i ≡ Done) → any_fault (meets c (Pass us)) ≡ false
    none_fails g = time_done us c.packs c.states (λ i f. by (eqb (i + 1) l.select) i f refl)
      where
        by : (t : Bool) (i : ℕ) → (get_or c.packs i no_pack).fitted ≡ 1 → eqb (i + 1) l.select ≡ t → outcome i ≡ Done
        by true i f q = g i f (eqb-true _ _ q)
        by false i f q = away i f (eqb-false _ _ q)

    abbrev own : Outcome
    own = (time.pass_drive us d.state).outcome

    first_pass : (t : Bool) → any_fault (meets c (Pass us)) ≡ t → (if t then 5 else 0) ≡ first_applies c (Pass us)
    unfolding first_applies
    first_pass t q = rw (q, time_free us c.packs c.states)

    none_selected : d.selected ≡ false → 0 ≡ first_applies c (Pass us)
    unfolding look_of
    none_selected n =
        first_pass false (none_fails (λ i f e. absurd (false≢true (sym n ∙ ap (λ (k : ℕ). fitted_b (slot_pack c.packs k)) (sym e) ∙ fitted_in c h i f))))

    on : d.selected ≡ true → fitted_b (slot_pack c.packs l.select) ≡ true
    unfolding look_of
    on y = y

    own_is : (k : ℕ) → k ≡ l.select → (time.pass_drive us (slot_state c.states k)).outcome ≡ own
    unfolding look_of
    own_is k e = ap (λ (j : ℕ). (time.pass_drive us (slot_state c.states j)).outcome) e

    own_late : (t : Bool) → late_b us d.state.transfer ≡ t → own ≡ (if t then Fault else Done)
    own_late t q = pass_outcome us d.state ∙ rw q

    selected_first : d.selected ≡ true → (t : Bool) → late_b us d.state.transfer ≡ t
        → answer_number (if t then answer.Fault else answer.Taken) ≡ first_applies c (Pass us)
    selected_first y false q = first_pass false (none_fails (λ i f e. sym (seen i f) ∙ own_is (i + 1) e ∙ own_late false q))
    selected_first y true q =
        let k = l.select in
        let there = state_there k c.states (is_slot c h k (on y)) in
        first_pass true (time_fault us c.packs c.states (k - 1) (listed c h k (on y)) (slot_room c h k (on y))
        (ap (λ (s : State). (time.pass_drive us s).outcome) (sym there) ∙ own_is k refl ∙ own_late true q))

    passes_first : (t : Bool) → d.selected ≡ t
        → answer_number (if t && late_b us d.state.transfer then answer.Fault else answer.Taken) ≡ first_applies c (Pass us)
    passes_first true y = selected_first y (late_b us d.state.transfer) refl
    passes_first false n = none_selected n

  cases : Cases c P
  unfolding pass_event
  cases = record {
    still = λ e b y m q s. by_list e [] false (still_meets e b m) (chosen e (line_asked e b) (on_after e (ap (λ (x : Lines). x.select) q) y));
    level = λ v y s. by_list (Data v) [] false refl (chosen (Data v) refl (on_after (Data v) refl y));
    alone = λ e a n g s. by_list e [] true (alone_meets e a n g) (none_chosen e a g);
    met = λ e y m q s. met_first e y m q;
    enters = λ slot n f m s. enters_first slot m n f;
    leaves = λ slot y n m s. leaves_first slot m y n;
    swaps = λ slot y f m s. swaps_first slot m y f;
    passes = λ us s. passes_first us d.selected refl;
    past = λ position byte y s. absurd (omega arith);
    writes = λ position byte y t w. tt;
    reads = λ position byte y t r w. tt;
    idle = λ position byte y w r s.
        by_list (Cell position byte) (Inhibited ∷ []) false (rw (y, w, r)) (chosen (Cell position byte) refl (on_after (Cell position byte) refl y));
    inapplicable = λ slot which s. absurd (omega arith);
    condition = λ slot which f s. by_list (Condition slot which) [] false refl refl;
  }

  decision_first : (e : Event) → P e (decide_of c e)
  decision_first = walk c P cases

module _ (c : Chain) (file : List ℕ) (e : Event) where
  -- an answer that is neither 1 nor 2 nor a refusal
  abbrev First : Answer → Type 0
  First a = answer_number a ≤ 5 → (answer_number a ≡ 1 → ⊥) → (answer_number a ≡ 2 → ⊥) → answer_number a ≡ first_applies c e

  said : (h : chain_sound_b c ≡ true) (x : Deed) → Says c h e x → First (said_of c.packs x file)
  said h (Say a) g = λ s one two. g s
  said h (Read i) g = λ s one two. absurd (one refl)
  said h (Write i byte) g = λ s one two. absurd (two refl)

  abbrev Gives : Decision → Type 0
  Gives d = First (said_of c.packs d.deed file)

  allowed : Gives (allowed_of c (length file) e)
  unfolding allowed_of
  allowed =
      by_test Gives (not (chain_sound_b c)) _ _ (λ t s one two. absurd (omega arith))
      (λ h. by_test Gives (not (eqb (length file) c.length.0)) _ _ (λ t s one two. absurd (omega arith))
      (λ n. said (not-false _ h) (decide_of c e).deed (decision_first c (not-false _ h) e)))

  -- whatever the record and the file, of every event
  pub first_given : (kind a b : ℕ) → decode_of kind a b ≡ Ok e
      → answer_number (step_of kind a b c file).answer ≤ 5
      → (answer_number (step_of kind a b c file).answer ≡ 1 → ⊥) → (answer_number (step_of kind a b c file).answer ≡ 2 → ⊥)
      → answer_number (step_of kind a b c file).answer ≡ first_applies c e
  unfolding step_of judged_of
  first_given kind a b q = rw q allowed
