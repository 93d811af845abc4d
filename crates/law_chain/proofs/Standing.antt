-- Request 3, over any events: a write fault stands until it is ended, and until then no byte of its drive's medium changes.
use mathlib.Core.Path.{◌≡◌, refl, sym, ap, ◌∙◌}
use mathlib.Core.Bool.{Bool, true, false, ◌&&◌, not}
use mathlib.Core.List.{List, [], ◌∷◌}
use Prim.Native.Nat.{ℕ, ◌≤◌}
use native.Mathlib.Omega.{arith}
use borrow.Author.Tests.{eqb-true, eqb-false, eq-eqb}
use lib.Dec.{eqb}
use lib.ListN.{length, get_or}
use Rattle.std.specs.Prelude.{Result, Ok}
use Rattle.counts.specs.declared.SectorSize.{SectorSize}
use Rattle.counts.specs.Slots.{slot_b}
use Rattle.counts.proofs.Choice.{by_test}
use Rattle.pack_profile.specs.declared.Profile.{Profile}
use Rattle.pack_read.specs.Packs.{fitted_b}
use Rattle.drive_record.specs.declared.Body.{Body}
use Rattle.drive_record.specs.declared.State.{State}
use Rattle.drive_record.specs.State.{with_standing}
use Rattle.drive_record.specs.Faults.{condition_of}
use Rattle.word_rules.specs.Rules.{refuses_b, plain_of}
use Rattle.word_rules.proofs.WordLaws.{word_leaves}
use Rattle.word_rules.proofs.ControlZero.{control_zero, cleared}
use Rattle.law_drive.proofs.LastingRules.{stands_on, stays_ended}
use Rattle.event.specs.declared.Event.{Event}
use Rattle.event.specs.declared.Event.TheVariants.{Condition}
use Rattle.event.specs.declared.Undecoded.{Undecoded}
use Rattle.event.specs.Operands.{is_condition}
use Rattle.event.specs.Decode.{ranged, kind_row, decode_of}
use Rattle.chain_record.specs.declared.Chain.{Chain}
use Rattle.chain_record.specs.Record.{slot_pack, slot_state, look_of}
use Rattle.chain_decision.specs.declared.Decision.{Decision}
use Rattle.chain_decision.specs.Deeds.{spot_place, Every, file_after}
use Rattle.chain_others.specs.Condition.{fixed_change, condition_at}
use Rattle.chain_apply.specs.Apply.{changed_of, applied}
use Rattle.chain_sound.specs.SoundChain.{chain_sound_b}
use Rattle.chain_decide.specs.Decide.{condition_event, decide_of}
use Rattle.chain_decide.proofs.Written.{Written}
use Rattle.chain_judge.specs.Judge.{allowed_of, decoded_of, judged_of}
use Rattle.chain_step.specs.Step.{step_of, step_file}
use Rattle.event.specs.Numbers.{Numbers}
use Rattle.chain_step.specs.Run.{Lent, lent_after, lent_through, run}
use Rattle.law_chain.specs.SoundOver.{SoundOver}
use Rattle.law_chain.proofs.Drives.{InMediumOf, is_slot, slot_room, one_medium, put_same, put_back}
use Rattle.law_chain.proofs.Ranges.{InRange, decoded_range}
use Rattle.law_chain.proofs.Touched.{changed_only}
use Rattle.law_chain.proofs.Lasting.{Leave, Known, step_leaves, run_leaves}

-- whether a write fault stands in a slot
abbrev pub standing_in : Chain → ℕ → ℕ
standing_in c k = (slot_state c.states k).body.standing

-- the event is this condition in that slot
abbrev pub ConditionIn : ℕ → ℕ → Numbers → Type 0
ConditionIn k which n = decode_of n.kind n.a n.b ≡ Ok (Condition k which)

-- the flag has a value, and keeps it through every condition of the slot but one
module _ (v but : ℕ) where
  abbrev Keeps : Profile → Body → Body → Type 0
  Keeps p b e = b.standing ≡ v → e.standing ≡ v

  abbrev NoneSets : ℕ → Event → Type 0
  NoneSets j e = (which : ℕ) → e ≡ Condition j which → (b : Body) → b.standing ≡ v → (condition_of which b).standing ≡ v

  leave : Leave Keeps NoneSets
  leave = record {
    alike = λ p b e same is. ap (λ (x : SectorSize × ℕ). x.1) same ∙ is;
    word = λ p b n is. (word_leaves p b n).standing ∙ is;
    condition = λ p b slot which q is. q which refl b is;
    then = λ p a b c first second is. second (first is);
  }

  module _ (others : (which : ℕ) (b : Body) → 1 ≤ which → which ≤ 4 → (which ≡ but → ⊥) → b.standing ≡ v → (condition_of which b).standing ≡ v) where
    none_sets : (k : ℕ) (n : Numbers) → (ConditionIn k but n → ⊥) → Known Keeps NoneSets k n
    none_sets k n q e is which same b =
        let r : InRange (Condition k which) = rw same at (decoded_range n.kind n.a n.b e is) in
        others which b r.2 r.3 (λ it. q (is ∙ ap Ok (same ∙ ap (Condition k) it)))

    none_set : (k : ℕ) (events : List Numbers) → Every (λ (n : Numbers). ConditionIn k but n → ⊥) events → Every (Known Keeps NoneSets k) events
    none_set k [] q = tt
    none_set k (n ∷ rest) q = (none_sets k n q.0, none_set k rest q.1)

-- the byte that an event writes lies in the selected drive's medium
written_in : (c : Chain) (i : ℕ) → Written c i → InMediumOf (slot_pack c.packs c.lines.select) i
unfolding spot_place look_of
written_in c i w = (omega (arith, w.is), w.inside)

-- one event on a drive whose fault stands
module _ (c : Chain) (file : List ℕ) (k i : ℕ) (f : fitted_b (slot_pack c.packs k) ≡ true) (one : standing_in c k ≡ 1)
    (m : InMediumOf (slot_pack c.packs k) i) where
  elsewhere : Written c i → ⊥
  unfolding look_of
  elsewhere w =
      let here : c.lines.select ≡ k = one_medium c w.formed c.lines.select k i w.selected f (written_in c i w) m in
      let none : standing_in c k ≡ 0 = rw here at w.standing in
      omega arith

  unchanged : (n : Numbers) → get_or (step_file n.kind n.a n.b c file) i 0 ≡ get_or file i 0
  unchanged n = by (eqb (get_or (step_file n.kind n.a n.b c file) i 0) (get_or file i 0)) refl
    where
      by : (t : Bool) → eqb (get_or (step_file n.kind n.a n.b c file) i 0) (get_or file i 0) ≡ t
          → get_or (step_file n.kind n.a n.b c file) i 0 ≡ get_or file i 0
      by true e = eqb-true _ _ e
      by false e = absurd (elsewhere (changed_only c file i n.kind n.a n.b (eqb-false _ _ e)))

-- the fault stands on, and the medium is as it was
pub record Untouched (k : ℕ) (d after : Lent) : Type 0 where
  pub stands : standing_in after.chain k ≡ 1
  pub medium : (i : ℕ) → InMediumOf (slot_pack d.chain.packs k) i → get_or after.file i 0 ≡ get_or d.file i 0

through_untouched : (events : List Numbers) (d : Lent) (k : ℕ) → fitted_b (slot_pack d.chain.packs k) ≡ true → standing_in d.chain k ≡ 1
    → Every (λ (n : Numbers). ConditionIn k 4 n → ⊥) events → Untouched k d (lent_through events d)
unfolding step_of applied
through_untouched [] d k f one q = record { stands = one; medium = λ i m. refl }
through_untouched (n ∷ rest) d k f one q =
    let next = step_leaves (Keeps 1 4) (NoneSets 1 4) (leave 1 4) d.chain d.file k f n (none_sets 1 4 stands_on k n q.0) one in
    let later = through_untouched rest (lent_after n d) k f next q.1 in
    record { stands = later.stands; medium = λ i m. later.medium i m ∙ unchanged d.chain d.file k i f one m n }

-- any events, none of them condition 4 in that slot, on any chain and file
pub standing_inhibits : (events : List Numbers) (d : Lent) (k : ℕ) → fitted_b (slot_pack d.chain.packs k) ≡ true → standing_in d.chain k ≡ 1
    → Every (λ (n : Numbers). ConditionIn k 4 n → ⊥) events → Untouched k d (run events d).lent
standing_inhibits events d k f one q = through_untouched events d k f one q

-- condition 4 in a slot
abbrev pub ending : ℕ → Numbers
ending k = record { kind = 8; a = k; b = 4 }

ending_is : (k : ℕ) → slot_b k ≡ true → ConditionIn k 4 (ending k)
unfolding decode_of kind_row ranged
ending_is k b = rw b

-- it ends the fault, and ended it stays until condition 1
module _ (d : Lent) (s : SoundOver d) (k : ℕ) (f : fitted_b (slot_pack d.chain.packs k) ≡ true) where
  ended : standing_in (lent_after (ending k) d).chain k ≡ 0
  unfolding step_of judged_of allowed_of applied changed_of decide_of condition_event condition_at fixed_change condition_of
  ended =
      let slot = is_slot d.chain s.formed k f in
      rw (ending_is k slot, s.formed, eq-eqb _ _ s.long, f)
      (ap (λ (x : State). x.body.standing) (put_same d.chain.states k _ slot (slot_room d.chain s.formed k f)))

  pub ended_run : (events : List Numbers) → Every (λ (n : Numbers). ConditionIn k 1 n → ⊥) events
      → standing_in (run (ending k ∷ events) d).lent.chain k ≡ 0
  unfolding step_of applied
  ended_run events q =
      run_leaves (Keeps 0 1) (NoneSets 0 1) (leave 0 1) events (lent_after (ending k) d) k f (none_set 0 1 stays_ended k events q) ended

  -- then control 0, carried out there, clears bit 1 and every other
  pub ended_cleared : (events : List Numbers) → Every (λ (n : Numbers). ConditionIn k 1 n → ⊥) events → (p : Profile)
      → refuses_b (slot_state (run (ending k ∷ events) d).lent.chain.states k) ≡ false
      → (plain_of p (slot_state (run (ending k ∷ events) d).lent.chain.states k) control_zero).state.body.latched.0 ≡ 0
  ended_cleared events q p taken = cleared p _ taken (ended_run events q)

-- "Ending a fault that isn't standing does nothing."
module _ (c : Chain) (file : List ℕ) (k : ℕ) (none : standing_in c k ≡ 0) where
  abbrev AsWas : Decision → Type 0
  AsWas d = (applied c d ≡ c) × (file_after c.packs d.deed file ≡ file)

  unended : AsWas (condition_event c k 4)
  unfolding applied changed_of condition_event condition_at condition_of
  unended =
      by_test AsWas (not (fitted_b (slot_pack c.packs k))) _ _ (λ _. (refl, refl)) λ _.
      by_test AsWas (fixed_change (slot_pack c.packs k) 4) _ _ (λ _. (refl, refl)) λ _.
      (rw (unset, put_back c.states k), refl)
    where
      unset : with_standing 0 (slot_state c.states k).body ≡ (slot_state c.states k).body
      unset = ap (λ (n : ℕ). with_standing n (slot_state c.states k).body) (sym none)

  allowed : AsWas (allowed_of c (length file) (Condition k 4))
  unfolding allowed_of applied changed_of decide_of
  allowed =
      by_test AsWas (not (chain_sound_b c)) _ _ (λ _. (refl, refl)) λ _.
      by_test AsWas (not (eqb (length file) c.length.0)) _ _ (λ _. (refl, refl)) λ _. unended

  decoded : AsWas (decoded_of c (length file) (decode_of 8 k 4))
  unfolding decode_of kind_row ranged applied changed_of
  decoded = by_test (λ (x : Result Event Undecoded). AsWas (decoded_of c (length file) x)) (slot_b k && is_condition 4) _ _ (λ _. allowed) (λ _. (refl, refl))

  -- on any chain and file
  pub nothing_ended : ((step_of 8 k 4 c file).chain ≡ c) × (step_file 8 k 4 c file ≡ file)
  unfolding step_of step_file judged_of
  nothing_ended = decoded
