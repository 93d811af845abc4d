-- A sound chain, slot by slot: what each fitted drive is known to be, and that a chain of such drives is sound.
use mathlib.Core.Path.{◌≡◌, refl, sym, ap, ◌∙◌}
use mathlib.Core.Bool.{Bool, true, false, not}
use mathlib.Core.List.{List, [], ◌∷◌}
use Prim.Native.Nat.{ℕ, zero, suc, ◌+◌, ◌-◌, ◌≤◌, ◌<◌}
use native.Mathlib.Omega.{arith}
use borrow.Author.Tests.{eqb-true, eqb-false, ltb-true, ltb-false, eq-eqb, le-leb, not-false}
use lib.Dec.{ltb, eqb}
use lib.ListN.{length, get_or, set, length-set}
use lib.Seq.{get_or-set_same, get_or-set_other, set-get_or}
use Rattle.std.specs.Prelude.{if◌then◌else◌}
use Rattle.counts.specs.Slots.{slot_b, map_with}
use Rattle.counts.proofs.Choice.{by_test}
use Rattle.counts.proofs.Slots.{map_at, all_at, all_from, no_shorter}
use Rattle.counts.proofs.Tests.{join, within_both}
use Rattle.pack_profile.specs.Profile.{medium_of}
use Rattle.pack_profile.specs.Valid.{valid_b}
use Rattle.pack_profile.proofs.FieldRanges.{ranges}
use Rattle.pack_read.specs.declared.Pack.{Pack}
use Rattle.pack_read.specs.Packs.{no_pack}
use Rattle.drive_record.specs.declared.State.{State}
use Rattle.drive_record.specs.State.{blank_state}
use Rattle.lines.specs.declared.Lines.{Lines}
use Rattle.lines.specs.Lines.{lines_b}
use Rattle.drive_cable.specs.SoundDrive as unit
use Rattle.chain_record.specs.declared.Chain.{Chain}
use Rattle.chain_record.specs.Record.{slot_pack, slot_state}
use Rattle.pack_read.specs.Packs.{fitted_b}
use Rattle.chain_apply.specs.Apply.{put_of}
use Rattle.chain_sound.specs.SoundChain.{pack_end, file_start, drive_b, chain_sound_b}
use Rattle.chain_sound.proofs.SoundSlots.{sound, InFile, placed_at, in_order, blank_drive, slot_of, pack_there, state_there}

-- a state put into a slot, looked at from a slot
module _ (states : List State) (slot : ℕ) (s : State) where
  pub put_same : slot_b slot ≡ true → slot - 1 < length states → slot_state (put_of states slot s) slot ≡ s
  unfolding put_of slot_state
  put_same b lt = rw b (get_or-set_same states (slot - 1) s blank_state lt)

  pub put_other : (k : ℕ) → (k ≡ slot → ⊥) → slot_state (put_of states slot s) k ≡ slot_state states k
  unfolding put_of slot_state
  put_other k ne = by (slot_b k) (slot_b slot) refl refl
    where
      by : (t u : Bool) → slot_b k ≡ t → slot_b slot ≡ u
          → (if t then get_or (if u then set states (slot - 1) s else states) (k - 1) blank_state else blank_state) ≡ (if t then get_or states (k - 1) blank_state else blank_state)
      by false u p q = refl
      by true false p q = refl
      by true true p q =
          let a = within_both 1 7 k p in
          let b = within_both 1 7 slot q in
          get_or-set_other states (slot - 1) (k - 1) s blank_state (λ (e : k - 1 ≡ slot - 1). ne (omega arith))

  pub put_long : length (put_of states slot s) ≡ length states
  unfolding put_of
  put_long = by (slot_b slot)
    where
      by : (t : Bool) → length (if t then set states (slot - 1) s else states) ≡ length states
      by true = length-set states (slot - 1) s
      by false = refl

-- putting a slot's own state changes nothing
pub put_back : (states : List State) (slot : ℕ) → put_of states slot (slot_state states slot) ≡ states
unfolding put_of slot_state
put_back states slot = by (slot_b slot)
  where
    by : (t : Bool) → (if t then set states (slot - 1) (if t then get_or states (slot - 1) blank_state else blank_state) else states) ≡ states
    by true = set-get_or states (slot - 1) blank_state
    by false = refl

-- a byte of a pack's medium
abbrev pub InMediumOf : Pack → ℕ → Type 0
InMediumOf p i = (p.place.0 ≤ i) × (i < p.place.0 + medium_of p.profile.shape)

-- no pack stands past the end of the packs
pub there : (packs : List Pack) (i : ℕ) → (get_or packs i no_pack).fitted ≡ 1 → i < length packs
there [] i f = absurd (omega arith)
there (p ∷ packs) zero f = omega arith
there (p ∷ packs) (suc i) f = omega (arith, there packs i f)

module _ (c : Chain) (h : chain_sound_b c ≡ true) where
  pub enough : length c.packs ≤ length c.states
  enough = no_shorter (drive_b c.lines) c.packs c.states (sound c h).drives

  -- a fitted slot
  module _ (k : ℕ) (f : fitted_b (slot_pack c.packs k) ≡ true) where
    abbrev p : Pack
    p = slot_pack c.packs k

    pub is_slot : slot_b k ≡ true
    is_slot = slot_of k c.packs (eqb-true _ _ f)

    pub listed : (get_or c.packs (k - 1) no_pack).fitted ≡ 1
    listed = rw (← pack_there k c.packs is_slot) (eqb-true _ _ f)

    in_file : InFile k c.length.0 p
    in_file =
        let w = within_both 1 7 k is_slot in
        let q = placed_at c.packs 1 file_start c.length (k - 1) (sound c h).places listed in
        let i : InFile k c.length.0 (get_or c.packs (k - 1) no_pack) = record { own = omega arith; valid = q.valid; within = q.within } in
        rw (pack_there k c.packs is_slot) i

    pub slot_valid : valid_b p.profile ≡ true
    slot_valid = in_file.valid

    pub pack_room : k - 1 < length c.packs
    pack_room = there c.packs (k - 1) listed

    pub slot_room : k - 1 < length c.states
    slot_room = omega (arith, pack_room, enough)

    as_unit : (l : Lines) (s : State) → drive_b l p s ≡ unit.drive_sound_b p.profile l (eqb l.select k) s
    unfolding drive_b
    as_unit l s = rw (f, in_file.own)

    -- the drive is sound, as a selected or an unselected one
    pub slot_sound : unit.drive_sound_b p.profile c.lines (eqb c.lines.select k) (slot_state c.states k) ≡ true
    slot_sound =
        let d = all_at (drive_b c.lines) no_pack blank_state (blank_drive c.lines) c.packs c.states (k - 1) (sound c h).drives in
        sym (as_unit c.lines (slot_state c.states k)) ∙ rw (pack_there k c.packs is_slot, state_there k c.states is_slot) d

    pub slot_mapped : (g : Pack → State → State) → slot_state (map_with g c.packs c.states) k ≡ g p (slot_state c.states k)
    slot_mapped g =
        state_there k (map_with g c.packs c.states) is_slot
        ∙ rw (pack_there k c.packs is_slot, state_there k c.states is_slot)
        (map_at g c.packs c.states (k - 1) no_pack blank_state pack_room slot_room)

  -- one pack ends before the next begins
  in_turn : (j k : ℕ) → fitted_b (slot_pack c.packs j) ≡ true → fitted_b (slot_pack c.packs k) ≡ true → j < k
      → pack_end (slot_pack c.packs j) ≤ (slot_pack c.packs k).place.0
  in_turn j k f g lt =
      let a = within_both 1 7 j (is_slot j f) in
      let b = within_both 1 7 k (is_slot k g) in
      rw (pack_there j c.packs (is_slot j f), pack_there k c.packs (is_slot k g))
      (in_order c.packs 1 file_start c.length (j - 1) (k - 1) (sound c h).places (listed j f) (listed k g) (omega (arith, a, b)))

  -- so no byte stands in two media
  pub one_medium : (j k i : ℕ) → fitted_b (slot_pack c.packs j) ≡ true → fitted_b (slot_pack c.packs k) ≡ true
      → InMediumOf (slot_pack c.packs j) i → InMediumOf (slot_pack c.packs k) i → j ≡ k
  one_medium j k i f g a b = by (ltb j k) (ltb k j) refl refl
    where
      by : (t u : Bool) → ltb j k ≡ t → ltb k j ≡ u → j ≡ k
      by true u p q = absurd (omega (arith, in_turn j k f g (ltb-true j k p), a.1, b.0))
      by false true p q = absurd (omega (arith, in_turn k j g f (ltb-true k j q), b.1, a.0))
      by false false p q = omega (arith, ltb-false j k p, ltb-false k j q)

  -- a state put into a slot of some states: what holds there of it, and elsewhere of those, holds of each
  module _ (P : ℕ → State → Type 0) (states : List State) (long : length c.states ≤ length states)
      (slot : ℕ) (s : State) (f : fitted_b (slot_pack c.packs slot) ≡ true) (new : P slot s) where
    same_slot : (k : ℕ) → k ≡ slot → P k (slot_state (put_of states slot s) k)
    same_slot k e = rw (e, put_same states slot s (is_slot slot f) (omega (arith, slot_room slot f))) new

    pub put_in : (k : ℕ) → ((k ≡ slot → ⊥) → P k (slot_state states k)) → P k (slot_state (put_of states slot s) k)
    put_in k other = by (eqb k slot) refl
      where
        by : (t : Bool) → eqb k slot ≡ t → P k (slot_state (put_of states slot s) k)
        by true q = same_slot k (eqb-true _ _ q)
        by false q = rw (put_other states slot s k (eqb-false _ _ q)) (other (eqb-false _ _ q))

  -- a pack that is fitted stands in a slot
  module _ (i : ℕ) (f : (get_or c.packs i no_pack).fitted ≡ 1) where
    slot_there : slot_b (i + 1) ≡ true
    slot_there =
        let q = placed_at c.packs 1 file_start c.length i (sound c h).places f in
        let r = ranges _ q.valid in
        join _ _ (le-leb 1 (i + 1) (omega arith)) (le-leb (i + 1) 7 (omega arith))

    back : i + 1 - 1 ≡ i
    back = omega arith

    pub pack_in : slot_pack c.packs (i + 1) ≡ get_or c.packs i no_pack
    pack_in = pack_there (i + 1) c.packs slot_there ∙ ap (λ (j : ℕ). get_or c.packs j no_pack) back

    pub state_in_lem : (states : List State) → slot_state states (i + 1) ≡ get_or states i blank_state
    state_in_lem states = state_there (i + 1) states slot_there ∙ ap (λ (j : ℕ). get_or states j blank_state) back

    pub fitted_in : fitted_b (slot_pack c.packs (i + 1)) ≡ true
    fitted_in = rw pack_in (eq-eqb _ _ f)

  -- the same packs with other lines and states
  module _ (m : Lines) (states : List State) where
    abbrev Slots : Type 0
    Slots = (k : ℕ) → fitted_b (slot_pack c.packs k) ≡ true → unit.drive_sound_b (slot_pack c.packs k).profile m (eqb m.select k) (slot_state states k) ≡ true

    at_place : Slots → (i : ℕ) → (get_or c.packs i no_pack).fitted ≡ 1 → drive_b m (get_or c.packs i no_pack) (get_or states i blank_state) ≡ true
    at_place g i f =
        rw (← pack_in i f, ← state_in_lem i f states) (as_unit (i + 1) (fitted_in i f) m (slot_state states (i + 1)) ∙ g (i + 1) (fitted_in i f))

    at_any : Slots → (i : ℕ) → drive_b m (get_or c.packs i no_pack) (get_or states i blank_state) ≡ true
    unfolding drive_b
    at_any g i = by_test (λ b. b ≡ true) (not (eqb (get_or c.packs i no_pack).fitted 1)) true _ (λ n. refl)
        (λ f. rw f at (at_place g i (eqb-true _ _ (not-false _ f))))

    pub slots_sound : lines_b m ≡ true → length c.packs ≤ length states → Slots
        → chain_sound_b (record { packs = c.packs; states = states; lines = m; length = c.length }) ≡ true
    unfolding chain_sound_b
    slots_sound l n g =
        rw (l, (sound c h).places) (all_from (drive_b m) no_pack blank_state c.packs states n (at_any g))
