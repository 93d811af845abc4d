-- The chain of a file is sound: of one that reads whole, with the file's length; of one that is refused, empty.
use mathlib.Core.Path.{◌≡◌, refl, ap, ◌∙◌}
use mathlib.Core.Bool.{Bool, true, false, not, false≢true}
use mathlib.Core.List.{List, [], ◌∷◌}
use Prim.Native.Nat.{ℕ, zero, suc, ◌+◌, ◌-◌, ◌≤◌, ◌<◌}
use native.Mathlib.Omega.{arith}
use native.Mathlib.Numerals.{add-one}
use borrow.Author.Tests.{eqb-true, eqb-false, eq-eqb, ne_eqb, ltb-false, le-ltb}
use lib.Dec.{ltb, eqb}
use lib.ListN.{length, take, set, replicate, length-set, length-append}
use Rattle.pack_trailer.specs.Form.{trailer_length}
use Rattle.counts.specs.declared.Place.{Place}
use Rattle.std.specs.Prelude.{if◌then◌else◌, Result, Ok, Err, IsOk, IsErr, is_ok, is_err, is_some, unwrap_or}
use Rattle.counts.specs.Bytes.{Bytes}
use Rattle.counts.specs.Slots.{map_with, all_with}
use Rattle.counts.proofs.Choice.{either_way, guarded, never}
use Rattle.counts.proofs.Tests.{join}
use Rattle.pack_profile.specs.declared.Profile.{Profile}
use Rattle.pack_profile.specs.Profile.{medium_of}
use Rattle.pack_profile.specs.Valid.{valid_b}
use Rattle.pack_profile.proofs.FieldRanges.{ranges}
use Rattle.pack_read.specs.declared.Pack.{Pack}
use Rattle.pack_read.specs.declared.Refusal.TheVariants.{Large}
use Rattle.pack_read.specs.declared.read.Refused.{Refused}
use Rattle.pack_read.specs.Packs.{longest_file, no_pack, no_packs, fitted_pack}
use Rattle.pack_read.specs.Read.{last_pack, refused_at, and_in_front, read_back, read_all}
use Rattle.pack_read.specs.File.{Contents, pack_bytes, file_of, first_slot, Standing, slots_of}
use Rattle.pack_lay.proofs.ReadLaid.{pack_length_lem}
use Rattle.pack_lay.proofs.LaidRead.{Made, file_read}
use Rattle.drive_record.specs.declared.State.{State}
use Rattle.drive_record.specs.State.{fresh_of}
use Rattle.drive_cable.specs.SoundDrive as unit
use Rattle.law_drive.proofs.Keeps.{fresh_sound}
use Rattle.chain_fit.specs.Fresh.{low_lines, fresh_slot, blank_states, end_of, fitted_of, fresh_fit}
use Rattle.chain_sound.specs.SoundChain.{placed_of, file_start, places_b, drive_b, chain_sound_b}
use Rattle.chain_sound.proofs.SoundSlots.{placed_at}
use Rattle.chain_step.proofs.Empty.{empty_chain, empty_sound}

-- the slots from a base on
abbrev slots_from : ℕ → List Contents → ℕ → List Pack → List Pack
slots_from base [] place found = found
slots_from base (x ∷ xs) place found =
    set (slots_from base xs (place + length (pack_bytes x)) found) (x.profile.slot - base) (fitted_pack (record { 0 = place }) x.profile)

first_most : (xs : List Contents) → Standing xs 8 → first_slot xs 8 ≤ 8
first_most [] s = omega arith
first_most (x ∷ xs) (v, m, b, s) = omega (arith, first_most xs s)

-- a slot in front of all the packs stays as it was
steps : (n base i : ℕ) (p q : Pack) (l : List Pack) → base < n → i ≡ n - suc base → set (p ∷ l) (n - base) q ≡ p ∷ set l i q
steps n base i p q l h e = ap (λ (k : ℕ). set (p ∷ l) k q) (the n base i h e)
  where
    the : (n base i : ℕ) → base < n → i ≡ n - suc base → n - base ≡ suc i
    the n base i h e = omega arith

behind : (xs : List Contents) (base place : ℕ) (p : Pack) (found : List Pack) → Standing xs 8 → base < first_slot xs 8
    → slots_from base xs place (p ∷ found) ≡ p ∷ slots_from (suc base) xs place found
behind [] base place p found s h = refl
behind (x ∷ xs) base place p found (v, m, b, s) h =
    ap (λ (l : List Pack). set l (x.profile.slot - base) (fitted_pack (record { 0 = place }) x.profile))
    (behind xs base (place + length (pack_bytes x)) p found s (omega arith))
    ∙ steps x.profile.slot base _ p _ _ h refl

-- the pack of the base itself
front : (x : Contents) (xs : List Contents) (base place : ℕ) (p : Pack) (found : List Pack) → Standing (x ∷ xs) 8 → x.profile.slot ≡ base
    → slots_from base (x ∷ xs) place (p ∷ found)
    ≡ fitted_pack (record { 0 = place }) x.profile ∷ slots_from (suc base) xs (place + length (pack_bytes x)) found
front x xs base place p found (v, m, b, s) e =
    let none : x.profile.slot - base ≡ 0 = omega arith in
    ap (λ (l : List Pack). set l (x.profile.slot - base) (fitted_pack (record { 0 = place }) x.profile))
    (behind xs base (place + length (pack_bytes x)) p found s (omega arith))
    ∙ ap (λ (k : ℕ). set (p ∷ slots_from (suc base) xs (place + length (pack_bytes x)) found) k (fitted_pack (record { 0 = place }) x.profile)) none

abbrev at_place : ℕ → Place
at_place n = record { 0 = n }

empty_goes_on : (packs : List Pack) (slot : ℕ) (at len : Place) → places_b (no_pack ∷ packs) slot at len ≡ places_b packs (slot + 1) at len
unfolding placed_of
empty_goes_on packs slot at len = refl

pack_goes_on : (p : Profile) (packs : List Pack) (slot at len end : ℕ) → p.slot ≡ slot → valid_b p ≡ true → at + medium_of p.shape + trailer_length ≡ end → end ≤ longest_file
    → places_b (fitted_pack (at_place at) p ∷ packs) slot (at_place at) (at_place len) ≡ places_b packs (slot + 1) (at_place end) (at_place len)
unfolding placed_of
pack_goes_on p packs slot at len end own v e short = simp (eq-eqb p.slot slot own, eq-eqb at at refl, v, e, le-ltb longest_file end short)

-- the packs stand one behind the other, each in its own slot
abbrev Placed : ℕ → ℕ → List Contents → ℕ → Type 0
Placed n base xs place = places_b (slots_from base xs place (replicate n no_pack)) base (at_place place) (at_place (place + length (file_of xs))) ≡ true

module _ (n base : ℕ) (x : Contents) (xs : List Contents) (place : ℕ) (s : Standing (x ∷ xs) 8) (h : base ≤ x.profile.slot)
    (short : place + length (file_of (x ∷ xs)) ≤ longest_file) where
  here : x.profile.slot ≡ base → Placed n (suc base) xs (place + length (pack_bytes x)) → Placed (suc n) base (x ∷ xs) place
  here own r =
      let end = place + length (pack_bytes x) in
      let long : place + length (file_of (x ∷ xs)) ≡ end + length (file_of xs) = omega (arith, length-append (pack_bytes x) (file_of xs)) in
      rw (front x xs base place no_pack (replicate n no_pack) s own, long)
      (pack_goes_on x.profile (slots_from (suc base) xs end (replicate n no_pack)) base place (end + length (file_of xs)) end own s.0
      (omega (arith, pack_length_lem x, s.1)) (omega (arith, long)) ∙ rw (add-one base) r)

  later : base < x.profile.slot → Placed n (suc base) (x ∷ xs) place → Placed (suc n) base (x ∷ xs) place
  later other r =
      rw (behind (x ∷ xs) base place no_pack (replicate n no_pack) s other)
      (empty_goes_on (slots_from (suc base) (x ∷ xs) place (replicate n no_pack)) base (at_place place) (at_place (place + length (file_of (x ∷ xs)))) ∙ rw (add-one base) r)

  next : (x.profile.slot ≡ base → Placed n (suc base) xs (place + length (pack_bytes x)))
      → (base < x.profile.slot → Placed n (suc base) (x ∷ xs) place) → (t : Bool) → eqb x.profile.slot base ≡ t → Placed (suc n) base (x ∷ xs) place
  next a b true q = let own = eqb-true x.profile.slot base q in here own (a own)
  next a b false q = let other : base < x.profile.slot = omega (arith, eqb-false x.profile.slot base q) in later other (b other)

placed : (n base : ℕ) (xs : List Contents) (place : ℕ) → base + n ≡ 8 → Standing xs 8 → base ≤ first_slot xs 8 → place + length (file_of xs) ≤ longest_file → Placed n base xs place
placed zero base [] place e s h short = eq-eqb place (place + 0) (omega arith)
placed zero base (x ∷ xs) place e (v, m, b, s) h short = absurd (omega (arith, first_most xs s))
placed (suc n) base [] place e s h short =
    empty_goes_on (replicate n no_pack) base (at_place place) (at_place (place + 0))
    ∙ rw (add-one base) (placed n (suc base) [] place (omega arith) tt (omega arith) short)
placed (suc n) base (x ∷ xs) place e (v, m, b, s) h short =
    next n base x xs place (v, m, b, s) h short
    (λ own. placed n (suc base) xs (place + length (pack_bytes x)) (omega arith) s (omega arith) (omega (arith, length-append (pack_bytes x) (file_of xs))))
    (λ other. placed n (suc base) (x ∷ xs) place (omega arith) (v, m, b, s) other short)
    (eqb x.profile.slot base) refl

from_one : (xs : List Contents) (place : ℕ) (found : List Pack) → slots_from 1 xs place found ≡ slots_of xs place found
from_one [] place found = refl
from_one (x ∷ xs) place found =
    ap (λ (l : List Pack). set l (x.profile.slot - 1) (fitted_pack (record { 0 = place }) x.profile)) (from_one xs (place + length (pack_bytes x)) found)

first_least : (xs : List Contents) → Standing xs 8 → 1 ≤ first_slot xs 8
first_least [] s = omega arith
first_least (x ∷ xs) (v, m, b, s) = (ranges x.profile v).slot.0

slots_long : (xs : List Contents) (place : ℕ) (found : List Pack) → length (slots_of xs place found) ≡ length found
slots_long [] place found = refl
slots_long (x ∷ xs) place found = length-set (slots_of xs (place + length (pack_bytes x)) found) (x.profile.slot - 1) _ ∙ slots_long xs (place + length (pack_bytes x)) found

fresh_drive : (p : Pack) (s : State) → (p.fitted ≡ 1 → (valid_b p.profile ≡ true) × (1 ≤ p.profile.slot)) → drive_b low_lines p (fresh_slot p s) ≡ true
unfolding drive_b fresh_slot
fresh_drive p s h = by (eqb p.fitted 1) refl
  where
    by : (t : Bool) → eqb p.fitted 1 ≡ t
        → (if not t then true else unit.drive_sound_b p.profile low_lines (eqb 0 p.profile.slot) (if t then fresh_of p.profile else s)) ≡ true
    by true q =
        let g = h (eqb-true _ _ q) in
        rw (ne_eqb 0 p.profile.slot (λ (z : 0 ≡ p.profile.slot). omega arith)) (fresh_sound p.profile g.0 low_lines)
    by false q = refl

-- so in every slot
drives : (packs : List Pack) (states : List State) (slot : ℕ) (at len : Place) → places_b packs slot at len ≡ true → 1 ≤ slot → length packs ≤ length states
    → all_with (drive_b low_lines) packs (map_with fresh_slot packs states) ≡ true
drives [] states slot at len h one long = refl
drives (p ∷ packs) [] slot at len h one long = absurd (omega arith)
drives (p ∷ packs) (s ∷ states) slot at len h one long =
    join _ _ (fresh_drive p s (λ f. let g = placed_at (p ∷ packs) slot at len 0 h f in (g.valid, omega arith)))
    (drives packs states (slot + 1) (unwrap_or (placed_of p slot at) at) len (guarded (is_some (placed_of p slot at)) _ h).1 (omega arith) (omega arith))

made_places : (l : List ℕ) (slots : List Pack) → Made l 8 no_packs slots → length l ≤ longest_file → places_b slots 1 file_start (at_place (length l)) ≡ true
made_places l slots m short =
    let long : length l ≡ 0 + length (file_of m.contents) = omega (arith, ap length m.bytes) in
    rw (m.table, long, ← from_one m.contents 0 no_packs) (placed 7 1 m.contents 0 refl m.standing (first_least m.contents m.standing) (omega (arith, long)))

made_drives : (l : List ℕ) (slots : List Pack) → Made l 8 no_packs slots → length l ≤ longest_file → all_with (drive_b low_lines) slots (map_with fresh_slot slots blank_states) ≡ true
made_drives l slots m short =
    let seven : length slots ≡ 7 = ap length m.table ∙ slots_long m.contents 0 no_packs in
    drives slots blank_states 1 file_start (at_place (length l)) (made_places l slots m short) (omega arith) (omega arith)

-- a file that reads whole: its length
read_short : (file : List ℕ) (packs : List Pack) → read_all file ≡ Ok packs → length file ≤ longest_file
unfolding read_all
read_short file packs e = by (ltb longest_file (length file)) refl e
  where
    by : (t : Bool) → ltb longest_file (length file) ≡ t
        → (if t then refused_at Large 0 else read_back (suc (length file)) file 8 no_packs) ≡ Ok packs → length file ≤ longest_file
    by true q c = absurd (never (cc))
    by false q c = ltb-false _ _ q

-- its chain: sound, and as long as the file
module _ (file : List ℕ) (small : Bytes file) where
  long_by : (r : Result (List Pack) Refused) → read_all file ≡ r → IsOk r → (fitted_of r (length file)).chain.length.0 ≡ length file
  unfolding end_of
  long_by (Ok packs) e w = rw (le-ltb longest_file (length file) (read_short file packs e))
  long_by (Err refused) e w = absurd (false≢true w)

  sound_by : (r : Result (List Pack) Refused) → read_all file ≡ r → IsOk r → chain_sound_b (fitted_of r (length file)).chain ≡ true
  unfolding chain_sound_b end_of
  sound_by (Ok packs) e w =
      let short = read_short file packs e in
      let from = file_read file packs small e in
      simp (le-ltb longest_file (length file) short, made_places file packs from short, made_drives file packs from short)
  sound_by (Err refused) e w = absurd (false≢true w)

  module _ (w : IsOk (read_all file)) where
    pub fitted_length : (fresh_fit file).chain.length.0 ≡ length file
    unfolding fresh_fit
    fitted_length = long_by (read_all file) refl w

    pub whole_sound : chain_sound_b (fresh_fit file).chain ≡ true
    unfolding fresh_fit
    whole_sound = sound_by (read_all file) refl w

-- the chain of a refused file is the empty one
empty_by : (r : Result (List Pack) Refused) (n : ℕ) → IsErr r → (fitted_of r n).chain ≡ empty_chain
unfolding fresh_slot
empty_by (Ok packs) n e = absurd (false≢true e)
empty_by (Err refused) n e = refl

pub refused_empty : (file : List ℕ) → IsErr (read_all file) → (fresh_fit file).chain ≡ empty_chain
unfolding fresh_fit
refused_empty file e = empty_by (read_all file) (length file) e

-- the chain of any file is sound
pub fitted_sound : (file : List ℕ) → Bytes file → chain_sound_b (fresh_fit file).chain ≡ true
fitted_sound file small = by (read_all file) refl
  where
    by : (r : Result (List Pack) Refused) → read_all file ≡ r → chain_sound_b (fresh_fit file).chain ≡ true
    by (Ok packs) e = whole_sound file small (ap is_ok e)
    by (Err refused) e = rw (refused_empty file (ap is_err e)) empty_sound
