-- What a pack that was read is, and the laws of `read_back`.
use mathlib.Core.Path.{◌≡◌, refl, sym, ap, ◌∙◌}
use mathlib.Core.Bool.{Bool, true, false, ◌&&◌, not}
use mathlib.Core.List.{List}
use Prim.Native.Nat.{ℕ, zero, suc, ◌+◌, ◌-◌, ◌≤◌, ◌<◌}
use native.Mathlib.Omega.{arith}
use native.Mathlib.Nat.{not-suc-le-zero}
use borrow.Author.Tests.{eq-eqb, ne_eqb, ltb-false, leb-false, eqb-true, not-false}
use lib.ListN.{length, take, drop, set}
use lib.Dec.{ltb, leb, eqb}
use lib.Seq.{length-take-le}
use Rattle.pack_trailer.specs.Form.{trailer_length}
use Rattle.counts.specs.declared.Place.{Place}
use Rattle.std.specs.Prelude.{if◌then◌else◌, Result, Ok, Err, IsOk, IsErrAnd, MatchResult}
use Rattle.std.specs.Result.{result_unwrap_or}
use Rattle.counts.specs.Bytes.{one, four}
use Rattle.counts.proofs.Choice.{never}
use Rattle.counts.proofs.Tests.{both}
use Rattle.pack_profile.specs.declared.Profile.{Profile}
use Rattle.pack_profile.specs.Profile.{medium_of}
use Rattle.pack_trailer.specs.Fields.{profile_of, zeros_b}
use Rattle.pack_profile.specs.Valid.{valid_b}
use Rattle.pack_read.specs.declared.Pack.{Pack}
use Rattle.pack_read.specs.declared.Refusal.{Refusal}
use Rattle.pack_read.specs.declared.Refusal.TheVariants.{Short, Distance, Form, Field, Size, Order, Large}
use Rattle.pack_read.specs.declared.read.Refused.{Refused}
use Rattle.pack_read.specs.Packs.{longest_file, no_packs, fitted_pack}
use Rattle.pack_read.specs.Read.{verdict_of, checked, last_pack, refused_at, and_in_front, read_back, read_all}

-- a pack is found where the test did not refuse
passed : (b : Bool) (why : Refusal) (y : Result (Place × Profile) Refusal) {s : Place} {p : Profile}
    → (if b then Err why else y) ≡ Ok (s, p) → (b ≡ false) × (y ≡ Ok (s, p))
passed true why y e = absurd (never (cc))
passed false why y e = (refl, e)

-- the trailer at the end of a file
abbrev pub last_trailer : List ℕ → List ℕ
last_trailer l = drop (length l - trailer_length) l

-- what is known of a pack that was read
pub record Good (l : List ℕ) (limit : ℕ) (s : Place) (p : Profile) : Type 0 where
  pub room : trailer_length ≤ length l
  pub zeros : zeros_b (last_trailer l) ≡ true
  pub valid : valid_b p ≡ true
  pub within : four (last_trailer l) 40 ≤ length l
  pub form : one (last_trailer l) 39 ≡ 1
  pub size : four (last_trailer l) 40 ≡ medium_of p.shape + trailer_length
  pub start : s.0 ≡ length l - four (last_trailer l) 40
  pub profile : p ≡ profile_of (last_trailer l)
  pub below : p.slot < limit

pub good : (l : List ℕ) (limit : ℕ) (s : Place) (p : Profile) → last_pack l limit ≡ Ok (s, p) → Good l limit s p
unfolding last_pack checked verdict_of
good l limit s p e =
    let t = last_trailer l in
    let d = four t 40 in
    let q = profile_of t in
    let a = passed (ltb (length l) trailer_length) Short _ e in
    let b = passed (ltb d trailer_length) Distance _ a.1 in
    let c = passed (ltb (length l) d) Distance _ b.1 in
    let f = passed (not (eqb (one t 39) 1)) Form _ c.1 in
    let g = passed (not (zeros_b t && valid_b q)) Field _ f.1 in
    let h = passed (not (eqb d (medium_of q.shape + trailer_length))) Size _ g.1 in
    let i = passed (leb limit q.slot) Order _ h.1 in
    let at : Place = record { 0 = length l - d } in
    let pack : (at, q) ≡ (s, p) = ap (λ (r : Result (Place × Profile) Refusal). result_unwrap_or r (s, p)) i.1 in
    let same : q ≡ p = ap (λ (x : Place × Profile). x.1) pack in
    let fields = both (zeros_b t) (valid_b q) (not-false _ g.0) in
    record {
      room = ltb-false _ _ a.0;
      zeros = fields.0;
      valid = rw (← same) fields.1;
      within = ltb-false _ _ c.0;
      form = eqb-true _ _ (not-false _ f.0);
      size = rw (← same) (eqb-true _ _ (not-false _ h.0));
      start = sym (ap (λ (x : Place × Profile). x.0.0) pack);
      profile = sym same;
      below = rw (← same) (leb-false limit q.slot i.0);
    }

module _ (l : List ℕ) (limit : ℕ) (found : List Pack) where
  -- reading l gives r, whatever the bound on its length
  abbrev pub Reads : Result (List Pack) Refused → Type 0
  Reads r = (k : ℕ) → length l < k → r ≡ read_back k l limit found

  pub reads_whole : length l ≡ 0 → Reads (Ok found)
  unfolding read_back
  reads_whole e zero h = refl
  reads_whole e (suc k) h = rw (eq-eqb _ _ e)

  pub reads_refused : (length l ≡ 0 → ⊥) → (why : Refusal) → last_pack l limit ≡ Err why → Reads (refused_at why (length l))
  unfolding read_back
  reads_refused ne why e zero h = absurd (not-suc-le-zero h)
  reads_refused ne why e (suc k) h = rw (ne_eqb _ _ ne, e)

-- the refusal in the words of a reading
module _ (l : List ℕ) (limit : ℕ) (found : List Pack) (ne : length l ≡ 0 → ⊥) (P : Refusal → Refused → Type 0) where
  pub reads_error : (r : Result (Place × Profile) Refusal) {m : Result (Place × Profile) Refused} {out : Result (List Pack) Refused} (d : Refused)
      → r ≡ last_pack l limit → MatchResult r (λ y. m ≡ Ok y) (λ why. IsErrAnd m (P why)) → m ≡ Err d → IsErrAnd out (λ x. x ≡ d)
      → ((why : Refusal) (d : Refused) → P why d → d ≡ record { why = why; place = record { 0 = length l } }) → Reads l limit found out
  reads_error (Ok y) d e h q o said = absurd (never (cc))
  reads_error (Err why) {out = Ok y} d e h q o said = absurd o
  reads_error (Err why) {out = Err x} d e h q o said = rw (o, said why d (rw q at h)) (reads_refused l limit found ne why (sym e))

pub reads_pack : (l : List ℕ) (limit : ℕ) (found : List Pack) (s : Place) (p : Profile) (r : Result (List Pack) Refused)
    → last_pack l limit ≡ Ok (s, p) → s.0 < length l
    → Reads (take s.0 l) p.slot (set found (p.slot - 1) (fitted_pack s p)) r → Reads l limit found r
unfolding read_back
reads_pack l limit found s p r e lt front zero h = absurd (not-suc-le-zero h)
reads_pack l limit found s p r e lt front (suc k) h =
    rw (ne_eqb (length l) 0 (λ z. omega arith), e) (front k (omega (arith, length-take-le s.0 l (omega arith))))

-- an answer whose error was put in other words, where it is none
pub was_ok : {A E D : Type 0} (P : E → D → Type 0) (r : Result A E) {m : Result A D} (x : A) → MatchResult r (λ y. m ≡ Ok y) (λ e. IsErrAnd m (P e)) → m ≡ Ok x → r ≡ Ok x
was_ok {A} {E} {D} P (Ok y) x h q = ap (λ (z : A). Ok z) (ap (λ (s : Result A D). result_unwrap_or s y) (sym h ∙ q))
was_ok P (Err e) x h q = absurd (rw q at h)

-- a file that reads whole, and is not empty, ends in a pack
pub record Ends (l : List ℕ) : Type 0 where
  pub place : Place
  pub profile : Profile
  pub found : last_pack l 8 ≡ Ok (place, profile)

pub ends : (l : List ℕ) → (length l ≡ 0 → ⊥) → IsOk (read_all l) → Ends l
unfolding read_all read_back
ends l ne e = by_size (ltb longest_file (length l)) e
  where
    by_last : (r : Result (Place × Profile) Refusal) → last_pack l 8 ≡ r → IsOk (and_in_front (read_back (length l)) l no_packs r) → Ends l
    by_last (Err why) q c = absurd (never (cc))
    by_last (Ok (s, p)) q c = record { place = s; profile = p; found = q }

    by_size : (t : Bool) → IsOk (if t then refused_at Large 0 else read_back (suc (length l)) l 8 no_packs) → Ends l
    by_size true c = absurd (never (cc))
    by_size false c = by_last (last_pack l 8) refl (rw (ne_eqb (length l) 0 ne) at c)
