-- What each rule leaves of a drive, any events leave: one walk for what lasts on it.
use mathlib.Core.Path.{◌≡◌, refl}
use mathlib.Core.Bool.{true, not}
use mathlib.Core.List.{List, [], ◌∷◌}
use Prim.Native.Nat.{ℕ}
use native.Mathlib.Omega.{arith}
use borrow.Author.Tests.{not-false}
use lib.Dec.{eqb}
use lib.ListN.{length}
use Rattle.std.specs.Prelude.{Result, Ok, Err}
use Rattle.counts.specs.declared.Micros.{Micros}
use Rattle.counts.specs.Slots.{map_with}
use Rattle.counts.proofs.Choice.{by_test}
use Rattle.pack_profile.specs.declared.Profile.{Profile}
use Rattle.pack_read.specs.Packs.{fitted_b}
use Rattle.drive_record.specs.declared.Body.{Body}
use Rattle.drive_record.specs.declared.State.{State}
use Rattle.drive_record.specs.declared.Ruled.{Ruled}
use Rattle.drive_record.specs.Faults.{condition_of}
use Rattle.drive_rules.specs.DriveLeft.{left_of}
use Rattle.word_rules.specs.Rules.{carry_of}
use Rattle.law_drive.proofs.LastingRules.{lasting, pass_lasts, left_lasts, met_lasts, write_lasts, read_lasts, rise_lasts, fall_either}
use Rattle.event.specs.declared.Event.{Event}
use Rattle.event.specs.declared.Event.TheVariants.{Select, Heads, WriteGate, ReadGate, Data, Request, Pass, Cell, Condition}
use Rattle.event.specs.declared.Undecoded.{Undecoded}
use Rattle.event.specs.declared.Undecoded.TheVariants.{Unknown, Range}
use Rattle.event.specs.Decode.{decode_of}
use Rattle.lines.specs.declared.Lines.{Lines}
use Rattle.chain_record.specs.declared.Chain.{Chain}
use Rattle.chain_record.specs.Record.{slot_pack, slot_state, look_of}
use Rattle.chain_decision.specs.declared.Decision.{Decision}
use Rattle.chain_decision.specs.Deeds.{Every}
use Rattle.chain_others.specs.Passing.{pass_event}
use Rattle.chain_apply.specs.Apply.{put_of, pass_slot, changed_of, applied}
use Rattle.chain_sound.specs.SoundChain.{chain_sound_b}
use Rattle.chain_decide.specs.Decide.{decide_of}
use Rattle.chain_decide.specs.Levels.{rule_of}
use Rattle.chain_decide.proofs.Walk.{Cases, walk}
use Rattle.chain_judge.specs.Judge.{allowed_of, decoded_of, judged_of}
use Rattle.chain_step.specs.Step.{step_of}
use Rattle.event.specs.Numbers.{Numbers}
use Rattle.chain_step.specs.Run.{Lent, lent_after, lent_through, run}
use Rattle.law_chain.proofs.Drives.{put_long, slot_mapped, put_in}

-- R: what may become of a drive's body; Q: what is known of an event and a slot
module _ (R : Profile → Body → Body → Type 0) (Q : ℕ → Event → Type 0) where
  -- what the rules must leave: nothing that lasts is changed, a word carried out, a condition
  pub record Leave : Type 0 where
    pub alike : (p : Profile) (b e : Body) → lasting e ≡ lasting b → R p b e
    pub word : (p : Profile) (b : Body) (n : ℕ) → R p b (carry_of p b n).body
    pub condition : (p : Profile) (b : Body) (slot which : ℕ) → Q slot (Condition slot which) → R p b (condition_of which b)
    pub then : (p : Profile) (a b c : Body) → R p a b → R p b c → R p a c

  -- a slot of a chain, in states that come after
  abbrev pub Left : Chain → ℕ → State → Type 0
  Left c j s = R (slot_pack c.packs j).profile (slot_state c.states j).body s.body

  -- the event, as its numbers are decoded
  abbrev pub Known : ℕ → Numbers → Type 0
  Known j n = (e : Event) → decode_of n.kind n.a n.b ≡ Ok e → Q j e

  module _ (r : Leave) where
    same : (c : Chain) (j : ℕ) → Left c j (slot_state c.states j)
    same c j = r.alike _ _ _ refl

    module _ (c : Chain) (h : chain_sound_b c ≡ true) where
      abbrev l : Lines
      l = c.lines

      abbrev At : Event → ℕ → State → Type 0
      At e j s = Q j e → Left c j s

      abbrev All : Event → List State → Type 0
      All e states = (j : ℕ) → fitted_b (slot_pack c.packs j) ≡ true → At e j (slot_state states j)

      still : (e : Event) → All e c.states
      still e j f q = same c j

      one_put : (e : Event) (slot : ℕ) (s : State) → fitted_b (slot_pack c.packs slot) ≡ true → At e slot s → All e (put_of c.states slot s)
      one_put e slot s f new j g = put_in c h (At e) c.states (omega arith) slot s f new j (λ ne q. same c j)

      two_put : (e : Event) (slot other : ℕ) (s t : State) → fitted_b (slot_pack c.packs slot) ≡ true → At e slot s
          → fitted_b (slot_pack c.packs other) ≡ true → At e other t → All e (put_of (put_of c.states slot s) other t)
      two_put e slot other s t f new g newer j there =
          put_in c h (At e) (put_of c.states slot s) (omega (arith, put_long c.states slot s)) other t g newer j (λ ne. one_put e slot s f new j there)

      on : (look_of c).selected ≡ true → fitted_b (slot_pack c.packs l.select) ≡ true
      unfolding look_of
      on y = y

      abbrev Ruling : Ruled → Type 0
      Ruling x = Left c l.select x.state

      rule_leaves : (e : Event) → Ruling (rule_of (look_of c) l e)
      unfolding look_of
      rule_leaves (Heads x) = r.alike _ _ _ (met_lasts _ x _)
      rule_leaves (WriteGate a) = by_test Ruling (eqb a 1) _ _ (λ _. r.alike _ _ _ (write_lasts _ _ _)) (λ _. r.alike _ _ _ refl)
      rule_leaves (ReadGate a) = by_test Ruling (eqb a 1) _ _ (λ _. r.alike _ _ _ (read_lasts _ _ _)) (λ _. r.alike _ _ _ refl)
      rule_leaves (Request a) =
          by_test Ruling (eqb a 1) _ _ (λ _. r.alike _ _ _ (rise_lasts _ _))
          (λ _. fall_either (R _ (slot_state c.states l.select).body) _ _ (same c l.select) (r.word _ _))
      rule_leaves (Data a) = same c l.select
      rule_leaves (Select slot) = same c l.select
      rule_leaves (Pass us) = same c l.select
      rule_leaves (Cell position byte) = same c l.select
      rule_leaves (Condition slot which) = same c l.select

      drive_left : Ruling (left_of (look_of c).state)
      unfolding look_of
      drive_left = r.alike _ _ _ (left_lasts _)

      passed : (e : Event) (us : Micros) → All e (map_with (pass_slot us) c.packs c.states)
      unfolding pass_slot
      passed e us j f q = rw (slot_mapped c h j f (pass_slot us), f) (r.alike _ _ _ (pass_lasts us (slot_state c.states j)))

      abbrev P : Event → Decision → Type 0
      P e x = All e (applied c x).states

      cases : Cases c P
      unfolding applied changed_of pass_event
      cases = record {
        still = λ e b y m q. still e;
        level = λ a y. still (Data a);
        alone = λ e asked n a. still e;
        met = λ e y m q. rw q (one_put e l.select _ (on y) (λ _. rule_leaves e));
        enters = λ slot n f m. one_put (Select slot) slot _ f (λ _. r.alike _ _ _ (met_lasts _ _ _));
        leaves = λ slot y n m. one_put (Select slot) l.select _ (on y) (λ _. drive_left);
        swaps = λ slot y f m. two_put (Select slot) l.select slot _ _ (on y) (λ _. drive_left) f (λ _. r.alike _ _ _ (met_lasts _ _ _));
        passes = λ us. passed (Pass us) us;
        past = λ position byte y. still (Cell position byte);
        writes = λ position byte y t w. still (Cell position byte);
        reads = λ position byte y t x w. still (Cell position byte);
        idle = λ position byte y w x. still (Cell position byte);
        inapplicable = λ slot which. still (Condition slot which);
        condition = λ slot which f. one_put (Condition slot which) slot _ f (r.condition _ _ slot which);
      }

      decision_leaves : (e : Event) → P e (decide_of c e)
      decision_leaves = walk c P cases

    module _ (c : Chain) (file : List ℕ) (j : ℕ) (f : fitted_b (slot_pack c.packs j) ≡ true) where
      abbrev Stays : Decision → Type 0
      Stays d = Left c j (slot_state (applied c d).states j)

      allowed : (e : Event) → Q j e → Stays (allowed_of c (length file) e)
      unfolding allowed_of applied changed_of
      allowed e q =
          by_test Stays (not (chain_sound_b c)) _ _ (λ _. same c j) λ s.
          by_test Stays (not (eqb (length file) c.length.0)) _ _ (λ _. same c j) λ _.
          decision_leaves c (not-false (chain_sound_b c) s) e j f q

      decoded : (x : Result Event Undecoded) → ((e : Event) → x ≡ Ok e → Q j e) → Stays (decoded_of c (length file) x)
      unfolding applied changed_of
      decoded (Ok e) q = allowed e (q e refl)
      decoded (Err Unknown) q = same c j
      decoded (Err Range) q = same c j

      -- one event, whatever its numbers, the record and the file
      pub step_leaves : (n : Numbers) → Known j n → Left c j (slot_state (step_of n.kind n.a n.b c file).chain.states j)
      unfolding step_of judged_of
      step_leaves n q = decoded (decode_of n.kind n.a n.b) q

    packs_kept : (n : Numbers) (d : Lent) → (lent_after n d).chain.packs ≡ d.chain.packs
    unfolding step_of applied
    packs_kept n d = refl

    through_leaves : (events : List Numbers) (d : Lent) (j : ℕ) → fitted_b (slot_pack d.chain.packs j) ≡ true → Every (Known j) events
        → Left d.chain j (slot_state (lent_through events d).chain.states j)
    through_leaves [] d j f q = same d.chain j
    through_leaves (n ∷ rest) d j f q =
        let kept = packs_kept n d in
        r.then _ _ _ _ (step_leaves d.chain d.file j f n q.0) (rw kept at (through_leaves rest (lent_after n d) j (rw kept f) q.1))

    -- any events, on any chain and file
    pub run_leaves : (events : List Numbers) (d : Lent) (j : ℕ) → fitted_b (slot_pack d.chain.packs j) ≡ true → Every (Known j) events
        → Left d.chain j (slot_state (run events d).lent.chain.states j)
    run_leaves events d j f q = through_leaves events d j f q
