-- What a sound chain gives as facts of its slots, and that a cell lies in the file.
use mathlib.Core.Path.{◌≡◌, refl, sym, ap, ◌∙◌}
use mathlib.Core.Bool.{Bool, true, false, not, false≢true}
use mathlib.Core.List.{List, [], ◌∷◌}
use mathlib.Core.Logic.{◌⊎◌, ⊎_elim}
use Prim.Native.Nat.{ℕ, zero, suc, ◌+◌, ◌-◌, ◌≤◌, ◌<◌}
use native.Mathlib.Omega.{arith}
use borrow.Author.Tests.{eqb-true, eq-eqb}
use lib.Arith.{digits_lt}
use lib.Dec.{ltb, eqb}
use lib.ListN.{get_or}
use Rattle.counts.specs.declared.Place.{Place}
use Rattle.counts.specs.declared.Position.{Position}
use Rattle.std.specs.Prelude.{Option, Some, None, is_some, unwrap_or}
use Rattle.std.specs.Prelude.{if◌then◌else◌}
use Rattle.counts.specs.Slots.{slot_b, all_with}
use Rattle.counts.proofs.Choice.{guarded}
use Rattle.counts.proofs.Slots.{all_at}
use Rattle.counts.proofs.Tests.{Each, each, within_both}
use Rattle.pack_profile.specs.Profile.{medium_of}
use Rattle.pack_profile.specs.Valid.{valid_b}
use Rattle.pack_read.specs.declared.Pack.{Pack}
use Rattle.pack_read.specs.Packs.{no_pack, longest_file}
use Rattle.drive_record.specs.declared.State.{State}
use Rattle.drive_record.specs.State.{blank_state}
use Rattle.drive_gates.specs.CellPlace.{place_of}
use Rattle.drive_record.proofs.WithinLimits.{on_cylinder}
use Rattle.drive_gates.proofs.MayReadOrWrite.{usable}
use Rattle.lines.specs.declared.Lines.{Lines}
use Rattle.lines.specs.Lines.{lines_b}
use Rattle.drive_cable.proofs.OnCable.{Selected, selected, writes, reads}
use Rattle.chain_record.specs.declared.Chain.{Chain}
use Rattle.chain_record.specs.declared.Seen.{Seen}
use Rattle.chain_record.specs.Record.{slot_pack, slot_state, look_of}
use Rattle.chain_decision.specs.Deeds.{spot_place}
use Rattle.chain_others.specs.Cell.{cell_spot}
use Rattle.chain_sound.specs.SoundChain.{pack_tests, pack_b, pack_end, placed_of, file_start, places_b, drive_b, chain_sound_b}

pub record Sound (c : Chain) : Type 0 where
  pub lines : lines_b c.lines ≡ true
  pub places : places_b c.packs 1 file_start c.length ≡ true
  pub drives : all_with (drive_b c.lines) c.packs c.states ≡ true

pub sound : (c : Chain) → chain_sound_b c ≡ true → Sound c
unfolding chain_sound_b
sound c h =
    let a = guarded (lines_b c.lines) _ h in
    let b = guarded (places_b c.packs 1 file_start c.length) _ a.1 in
    record { lines = a.0; places = b.0; drives = b.1 }

-- a fitted pack, in its own slot and within the file
pub record InFile (slot len : ℕ) (p : Pack) : Type 0 where
  pub own : p.profile.slot ≡ slot
  pub valid : valid_b p.profile ≡ true
  pub within : pack_end p ≤ len

-- what is placed, by its tests
abbrev placed_by : Bool → Bool → Bool → Bool → Place → ℕ → Option Place
placed_by a b long ok at end =
    if a then None
    else (if not b then Some at
    else (if long then None
    else (if not ok then None
    else Some (record { 0 = end }))))

goes_on : (a b long ok : Bool) (at : Place) (end : ℕ) → (ok ≡ true → at.0 ≤ end) → is_some (placed_by a b long ok at end) ≡ true
    → at.0 ≤ (unwrap_or (placed_by a b long ok at end) at).0
goes_on true b long ok at end k h = absurd (false≢true h)
goes_on false false long ok at end k h = omega arith
goes_on false true true ok at end k h = absurd (false≢true h)
goes_on false true false true at end k h = k refl
goes_on false true false false at end k h = absurd (false≢true h)

holds : (a b long ok : Bool) (at : Place) (end : ℕ) → is_some (placed_by a b long ok at end) ≡ true → b ≡ true
    → (ok ≡ true) × ((unwrap_or (placed_by a b long ok at end) at).0 ≡ end)
holds true b long ok at end h e = absurd (false≢true h)
holds false false long ok at end h e = absurd (false≢true e)
holds false true true ok at end h e = absurd (false≢true h)
holds false true false true at end h e = (refl, refl)
holds false true false false at end h e = absurd (false≢true h)

module _ (p : Pack) (slot : ℕ) (at : Place) (h : (is_some (placed_of p slot at)) ≡ true) where
  -- the packs only go forward
  forward : at.0 ≤ (unwrap_or (placed_of p slot at) at).0
  unfolding placed_of
  forward =
      goes_on (ltb 1 p.fitted) (eqb p.fitted 1) (ltb longest_file (pack_end p)) (pack_b p slot at) at (pack_end p)
      (λ ok. omega (arith, eqb-true p.place.0 at.0 (each (pack_tests p slot at) ok).1.0)) h

  -- a fitted pack passes its tests, and the next starts at its end
  passes : p.fitted ≡ 1 → Each (pack_tests p slot at) × ((unwrap_or (placed_of p slot at) at).0 ≡ pack_end p)
  unfolding placed_of
  passes f =
      let r = holds (ltb 1 p.fitted) (eqb p.fitted 1) (ltb longest_file (pack_end p)) (pack_b p slot at) at (pack_end p) h (eq-eqb _ _ f) in
      (each (pack_tests p slot at) r.0, r.1)

  starts : p.fitted ≡ 1 → p.place.0 ≡ at.0
  starts f = eqb-true _ _ (passes f).0.1.0

  stands : p.fitted ≡ 1 → InFile slot (unwrap_or (placed_of p slot at) at).0 p
  stands f =
      let e = (passes f).0 in
      record { own = eqb-true _ _ e.0; valid = e.1.1.0; within = omega (arith, (passes f).1) }

ends : (packs : List Pack) (slot : ℕ) (at len : Place) → places_b packs slot at len ≡ true → at.0 ≤ len.0
ends [] slot at len h = omega (arith, eqb-true at.0 len.0 h)
ends (p ∷ packs) slot at len h =
    let g = guarded (is_some (placed_of p slot at)) _ h in
    omega (arith, forward p slot at g.0, ends packs (slot + 1) (unwrap_or (placed_of p slot at) at) len g.1)

-- each fitted pack stands in its own slot, within the file
pub placed_at : (packs : List Pack) (slot : ℕ) (at len : Place) (i : ℕ) → places_b packs slot at len ≡ true → (get_or packs i no_pack).fitted ≡ 1
    → InFile (slot + i) len.0 (get_or packs i no_pack)
placed_at [] slot at len i h f = absurd (omega arith)
placed_at (p ∷ packs) slot at len zero h f =
    let g = guarded (is_some (placed_of p slot at)) _ h in
    let s = stands p slot at g.0 f in
    record { own = omega arith; valid = s.valid; within = omega (arith, ends packs (slot + 1) (unwrap_or (placed_of p slot at) at) len g.1) }
placed_at (p ∷ packs) slot at len (suc i) h f =
    let g = guarded (is_some (placed_of p slot at)) _ h in
    let s = placed_at packs (slot + 1) (unwrap_or (placed_of p slot at) at) len i g.1 f in
    record { own = omega arith; valid = s.valid; within = s.within }

-- no pack starts in front of those before it
later : (packs : List Pack) (slot : ℕ) (at len : Place) (i : ℕ) → places_b packs slot at len ≡ true → (get_or packs i no_pack).fitted ≡ 1
    → at.0 ≤ (get_or packs i no_pack).place.0
later [] slot at len i h f = absurd (omega arith)
later (p ∷ packs) slot at len zero h f = omega (arith, starts p slot at (guarded (is_some (placed_of p slot at)) _ h).0 f)
later (p ∷ packs) slot at len (suc i) h f =
    let g = guarded (is_some (placed_of p slot at)) _ h in
    omega (arith, forward p slot at g.0, later packs (slot + 1) (unwrap_or (placed_of p slot at) at) len i g.1 f)

-- of two fitted packs the one ends before the other starts
pub in_order : (packs : List Pack) (slot : ℕ) (at len : Place) (i j : ℕ) → places_b packs slot at len ≡ true → (get_or packs i no_pack).fitted ≡ 1
    → (get_or packs j no_pack).fitted ≡ 1 → i < j → pack_end (get_or packs i no_pack) ≤ (get_or packs j no_pack).place.0
in_order [] slot at len i j h f k lt = absurd (omega arith)
in_order (p ∷ packs) slot at len i zero h f k lt = absurd (omega arith)
in_order (p ∷ packs) slot at len zero (suc j) h f k lt =
    let g = guarded (is_some (placed_of p slot at)) _ h in
    omega (arith, (passes p slot at g.0 f).1, later packs (slot + 1) (unwrap_or (placed_of p slot at) at) len j g.1 k)
in_order (p ∷ packs) slot at len (suc i) (suc j) h f k lt =
    let g = guarded (is_some (placed_of p slot at)) _ h in
    in_order packs (slot + 1) (unwrap_or (placed_of p slot at) at) len i j g.1 f k (omega arith)

pub blank_drive : (l : Lines) (s : State) → drive_b l no_pack s ≡ true
unfolding drive_b
blank_drive l s = refl

-- the selected drive of a sound chain
pub record Chosen (c : Chain) (d : Seen) : Type 0 where
  pub pack : InFile c.lines.select c.length.0 (slot_pack c.packs c.lines.select)
  pub drive : Selected d.profile c.lines d.state

pub slot_of : (k : ℕ) (packs : List Pack) → (slot_pack packs k).fitted ≡ 1 → slot_b k ≡ true
unfolding slot_pack
slot_of k packs f = go (slot_b k) refl f
  where
    go : (b : Bool) → slot_b k ≡ b → (if b then get_or packs (k - 1) no_pack else no_pack).fitted ≡ 1 → slot_b k ≡ true
    go true e f' = e
    go false e f' = absurd (omega arith)

pub pack_there : (k : ℕ) (packs : List Pack) → slot_b k ≡ true → slot_pack packs k ≡ get_or packs (k - 1) no_pack
unfolding slot_pack
pack_there k packs b = rw b

pub state_there : (k : ℕ) (states : List State) → slot_b k ≡ true → slot_state states k ≡ get_or states (k - 1) blank_state
unfolding slot_state
state_there k states b = rw b

drives : (l : Lines) (p : Pack) (s : State) → drive_b l p s ≡ true → p.fitted ≡ 1 → l.select ≡ p.profile.slot → Selected p.profile l s
unfolding drive_b
drives l p s h f own = selected p.profile l s (rw (eq-eqb _ _ f, eq-eqb _ _ own) at h)

pub chosen : (c : Chain) → chain_sound_b c ≡ true → (look_of c).selected ≡ true → Chosen c (look_of c)
unfolding look_of
chosen c h on =
    let s = sound c h in
    let k = c.lines.select in
    let f : (slot_pack c.packs k).fitted ≡ 1 = eqb-true _ _ on in
    let b = slot_of k c.packs f in
    let w = within_both 1 7 k b in
    let ep : slot_pack c.packs k ≡ get_or c.packs (k - 1) no_pack = pack_there k c.packs b in
    let es : slot_state c.states k ≡ get_or c.states (k - 1) blank_state = state_there k c.states b in
    let g : (get_or c.packs (k - 1) no_pack).fitted ≡ 1 = ap (λ (p : Pack). p.fitted) (sym ep) ∙ f in
    let q = placed_at c.packs 1 file_start c.length (k - 1) s.places g in
    let d = drives c.lines _ _ (all_at (drive_b c.lines) no_pack blank_state (blank_drive c.lines) c.packs c.states (k - 1) s.drives) g (omega arith) in
    let i : InFile k c.length.0 (get_or c.packs (k - 1) no_pack) = record { own = omega arith; valid = q.valid; within = q.within } in
    record { pack = rw ep i; drive = rw (ep, es) d }

-- the byte that a cell meets stands in the selected pack's medium
pub cell_inside : (c : Chain) (position : Position) → chain_sound_b c ≡ true → (look_of c).selected ≡ true → position.0 < (look_of c).profile.shape.track.0
    → ((look_of c).state.body.writing ≡ 1) ⊎ ((look_of c).state.body.reading ≡ 1)
    → spot_place c.packs (cell_spot (look_of c) c.lines position) < (slot_pack c.packs c.lines.select).place.0 + medium_of (look_of c).profile.shape
unfolding spot_place place_of look_of
cell_inside c position h on t u =
    let d = (chosen c h on).drive in
    let present = ⊎_elim (λ w. (usable _ _ (writes _ _ _ d.writing w).usable).present) (λ r. (usable _ _ (reads _ _ _ d.reading r).usable).present) u in
    omega (arith, digits_lt (digits_lt (on_cylinder _ _ d.limits) present) t)

-- and so in the file
pub cell_in_file : (c : Chain) (position : Position) → chain_sound_b c ≡ true → (look_of c).selected ≡ true → position.0 < (look_of c).profile.shape.track.0
    → ((look_of c).state.body.writing ≡ 1) ⊎ ((look_of c).state.body.reading ≡ 1)
    → spot_place c.packs (cell_spot (look_of c) c.lines position) < c.length.0
unfolding look_of
cell_in_file c position h on t u = omega (arith, (chosen c h on).pack.within, cell_inside c position h on t u)
