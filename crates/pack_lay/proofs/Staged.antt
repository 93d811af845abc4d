-- The four stages, one behind the other, are the laying.
use mathlib.Core.Path.{◌≡◌, refl, sym, ap, ◌∙◌}
use mathlib.Core.Bool.{Bool, true, false, not}
use mathlib.Core.List.{List, [], ◌∷◌, ◌++◌, append_assoc}
use Prim.Native.Nat.{ℕ, ◌+◌, ◌-◌, ◌≤◌}
use native.Mathlib.Omega.{arith}
use borrow.Author.Tests.{ltb-false, not-false}
use lib.Dec.{ltb}
use lib.ListN.{length, take, drop, set, replicate, length-set, length-append, length-replicate}
use lib.Seq.{drop-set-lt, drop-drop, length-take-le}
use Rattle.std.specs.Prelude.{if◌then◌else◌, Result, Ok, Err}
use Rattle.counts.proofs.Choice.{never}
use Rattle.pack_profile.specs.declared.Profile.{Profile}
use Rattle.pack_profile.specs.Profile.{medium_of}
use Rattle.pack_profile.specs.Valid.{valid_b}
use Rattle.pack_trailer.specs.Form.{trailer_length, form_place, distance_place}
use Rattle.pack_read.specs.declared.Refusal.{Refusal}
use Rattle.pack_read.specs.declared.Refusal.TheVariants.{Field, Large, Room}
use Rattle.pack_read.specs.Packs.{longest_file}
use Rattle.pack_lay.specs.declared.stages.Stage.{Stage}
use Rattle.pack_lay.specs.declared.stages.Stage.TheVariants.{Spoil, Medium, Fields, Distance}
use Rattle.pack_lay.specs.Lay.{pack_length, laid_answer, pack_trailer, laid_pack, after_laying, laid_bytes}
use Rattle.pack_lay.specs.Order.{Write, from, stage_writes, writes_of, written, after_writes, staged_bytes, writes_before}
use Rattle.pack_lay.proofs.Written.{written_append, length_written, from_three, written_from, written_first}

-- a pack is laid where no test refused it
allowed : (b : Bool) (why : Refusal) (y : Result (Unit {0}) Refusal) → (if b then Err why else y) ≡ Ok tt → (b ≡ false) × (y ≡ Ok tt)
allowed true why y e = absurd (never (cc))
allowed false why y e = (refl, e)

-- what is known of a pack that may be laid
pub record May (p : Profile) (room : ℕ) : Type 0 where
  pub valid : valid_b p ≡ true
  pub small : pack_length p ≤ longest_file
  pub fits : pack_length p ≤ room

pub may : (p : Profile) (room : ℕ) → laid_answer p room ≡ Ok tt → May p room
unfolding laid_answer
may p room e =
    let a = allowed (not (valid_b p)) Field _ e in
    let b = allowed (ltb longest_file (pack_length p)) Large _ a.1 in
    let c = allowed (ltb room (pack_length p)) Room _ b.1 in
    record { valid = not-false _ a.0; small = ltb-false _ _ b.0; fits = ltb-false _ _ c.0 }

pub laid_length : (p : Profile) → length (laid_pack p) ≡ pack_length p
laid_length p =
    length-append (replicate {A = ℕ} (medium_of p.shape) 0) (pack_trailer p) ∙ ap (λ (k : ℕ). k + trailer_length) (length-replicate {A = ℕ} (medium_of p.shape) 0)

-- behind the spoiled form the pack is written from its first byte to its last
pub in_order : (p : Profile) → writes_of p ≡ record { place = medium_of p.shape + form_place; byte = 0 } ∷ from 0 (laid_pack p)
unfolding writes_of stage_writes
in_order p =
    let m = medium_of p.shape in
    let t = pack_trailer p in
    ap (λ (ws : List Write). record { place = m + form_place; byte = 0 } ∷ ws)
    (sym (ap (λ (l : List ℕ). from 0 l) (sym (append_assoc (replicate m 0) (take distance_place t) (drop distance_place t)))
    ∙ from_three (replicate m 0) (take distance_place t) (drop distance_place t) m distance_place (length-replicate m 0) refl))

module _ (p : Profile) where
  -- every write done, the part is as laying leaves it
  pub all_written : (l : List ℕ) → pack_length p ≤ length l → written (writes_of p) l ≡ laid_pack p ++ drop (pack_length p) l
  unfolding written
  all_written l room =
      rw (in_order p)
      (written_first (laid_pack p) (set l (medium_of p.shape + form_place) 0) (pack_length p) (laid_length p) (omega (arith, length-set l (medium_of p.shape + form_place) 0))
      ∙ ap (λ (r : List ℕ). laid_pack p ++ r) (drop-set-lt (pack_length p) l (medium_of p.shape + form_place) 0 (omega arith)))

  after_length : (a : Result (Unit {0}) Refusal) (ws : List Write) (l : List ℕ) → length (after_writes a ws l) ≡ length l
  after_length (Ok done) ws l = length_written ws l
  after_length (Err why) ws l = refl

  after_none : (a : Result (Unit {0}) Refusal) (l : List ℕ) → l ≡ after_writes a [] l
  unfolding written
  after_none (Ok done) l = refl
  after_none (Err why) l = refl

  after_both : (a : Result (Unit {0}) Refusal) (ws vs : List Write) (l : List ℕ) → after_writes a vs (after_writes a ws l) ≡ after_writes a (ws ++ vs) l
  after_both (Ok done) ws vs l = sym (written_append ws vs l)
  after_both (Err why) ws vs l = refl

  after_all : (l : List ℕ) (a : Result (Unit {0}) Refusal) → laid_answer p (length l) ≡ a → after_writes a (writes_of p) l ≡ after_laying a p l
  after_all l (Ok done) e = all_written l (may p (length l) e).fits
  after_all l (Err why) e = refl

  -- a refused stage leaves what a refused laying leaves
  pub stage_refused : (s : Stage) (l : List ℕ) (why : Refusal) → laid_answer p (length l) ≡ Err why → staged_bytes s p l ≡ laid_bytes p l
  unfolding staged_bytes laid_bytes
  stage_refused s l why e = rw e

  -- a stage writes its stretch behind the writes that were done, and is answered as the laying
  further : (s : Stage) (ws : List Write) (l before after : List ℕ) → before ≡ after_writes (laid_answer p (length l)) ws l → after ≡ staged_bytes s p before
      → (laid_answer p (length before) ≡ laid_answer p (length l)) × (after ≡ after_writes (laid_answer p (length l)) (ws ++ stage_writes s p) l)
  unfolding staged_bytes
  further s ws l before after e f =
      let a = laid_answer p (length l) in
      let same : laid_answer p (length before) ≡ a = ap (λ (k : ℕ). laid_answer p k) (ap length e ∙ after_length a ws l) in
      (same, f ∙ rw same (ap (λ (b : List ℕ). after_writes a (stage_writes s p) b) e ∙ after_both a ws (stage_writes s p) l))

-- each stage's turn comes behind the one before it, and the last leaves the laying
module _ (p : Profile) (l : List ℕ) where
  abbrev after : List Write → List ℕ
  after ws = after_writes (laid_answer p (length l)) ws l

  pub spoil_turn : l ≡ after (writes_before Spoil p)
  spoil_turn = after_none p (laid_answer p (length l)) l

  module _ (l₁ : List ℕ) (spoiled : l₁ ≡ staged_bytes Spoil p l) where
    pub medium_turn : l₁ ≡ after (writes_before Medium p)
    medium_turn = (further p Spoil (writes_before Spoil p) l l l₁ spoil_turn spoiled).1

    module _ (l₂ : List ℕ) (zeroed : l₂ ≡ staged_bytes Medium p l₁) where
      pub fields_turn : l₂ ≡ after (writes_before Fields p)
      fields_turn = (further p Medium (writes_before Medium p) l l₁ l₂ medium_turn zeroed).1

      module _ (l₃ : List ℕ) (filled : l₃ ≡ staged_bytes Fields p l₂) where
        pub distance_turn : l₃ ≡ after (writes_before Distance p)
        distance_turn = (further p Fields (writes_before Fields p) l l₂ l₃ fields_turn filled).1

        pub staged : (l₄ : List ℕ) → l₄ ≡ staged_bytes Distance p l₃ → (laid_answer p (length l₃) ≡ laid_answer p (length l)) × (l₄ ≡ laid_bytes p l)
        unfolding writes_of laid_bytes
        staged l₄ last =
            let d = further p Distance (writes_before Distance p) l l₃ l₄ distance_turn last in
            (d.0, d.1 ∙ after_all p l (laid_answer p (length l)) refl)

-- what each stage's code leaves is its stretch
module _ (p : Profile) (l : List ℕ) (m : ℕ) (is : m ≡ medium_of p.shape) (fits : pack_length p ≤ length l) where
  pub spoil_written : set l (m + form_place) 0 ≡ written (stage_writes Spoil p) l
  unfolding written stage_writes
  spoil_written = ap (λ (n : ℕ). set l (n + form_place) 0) is

  pub medium_written : (x : List ℕ) → x ≡ replicate (length (take m l)) 0 → x ++ drop m l ≡ written (stage_writes Medium p) l
  unfolding stage_writes
  medium_written x zeroed =
      rw (zeroed, length-take-le m l (omega arith)) (ap (λ (n : ℕ). replicate n 0 ++ drop n l) is
      ∙ sym (written_first (replicate (medium_of p.shape) 0) l (medium_of p.shape) (length-replicate (medium_of p.shape) 0) (omega arith)))

  laid : (bs : List ℕ) (at : ℕ) → at + length bs ≤ length l → take at l ++ (bs ++ drop (at + length bs) l) ≡ written (from at bs) l
  laid bs at room = sym (written_from bs l at room ∙ append_assoc (take at l) bs (drop (at + length bs) l))

  module _ (t : List ℕ) (all : t ≡ pack_trailer p) (x : List ℕ) where
    pub fields_written : x ≡ take distance_place t → take m l ++ (x ++ drop (m + distance_place - m) (drop m l)) ≡ written (stage_writes Fields p) l
    unfolding stage_writes
    fields_written put =
        let n : m + distance_place - m ≡ distance_place = omega arith in
        rw (put, n, drop-drop distance_place m l, all, is) (laid (take distance_place (pack_trailer p)) (medium_of p.shape) (omega arith))

    pub distance_written : x ≡ take 4 (drop distance_place t)
        → take (m + distance_place) l ++ (x ++ drop (m + trailer_length - (m + distance_place)) (drop (m + distance_place) l)) ≡ written (stage_writes Distance p) l
    unfolding stage_writes
    distance_written put =
        let n : m + trailer_length - (m + distance_place) ≡ 4 = omega arith in
        rw (put, n, drop-drop 4 (m + distance_place) l, all, is) (laid (drop distance_place (pack_trailer p)) (medium_of p.shape + distance_place) (omega arith))
