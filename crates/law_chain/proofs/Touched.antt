-- A byte of the file that an event changes is one that `written_only` allows: the byte that really changes, through `step_file`.
use mathlib.Core.Path.{◌≡◌, refl, ◌∙◌}
use mathlib.Core.Bool.{Bool, true, false, not}
use mathlib.Core.List.{List, [], ◌∷◌}
use Prim.Native.Nat.{ℕ}
use lib.Dec.{eqb}
use lib.ListN.{length, get_or, set}
use lib.Seq.{get_or-set_other}
use borrow.Author.Tests.{eqb-true, eqb-false, not-false}
use Rattle.std.specs.Prelude.{Result, Ok, Err}
use Rattle.counts.proofs.Choice.{by_test}
use Rattle.event.specs.declared.Event.{Event}
use Rattle.event.specs.declared.Undecoded.{Undecoded}
use Rattle.event.specs.declared.Undecoded.TheVariants.{Unknown, Range}
use Rattle.event.specs.Decode.{decode_of}
use Rattle.chain_record.specs.declared.Chain.{Chain}
use Rattle.chain_decision.specs.declared.Decision.{Decision}
use Rattle.chain_decision.specs.Deeds.{BytePut, Every, puts_of, put_all, file_after}
use Rattle.chain_decide.specs.Decide.{decide_of}
use Rattle.chain_decide.proofs.Written.{Written, written_only}
use Rattle.chain_sound.specs.SoundChain.{chain_sound_b}
use Rattle.chain_judge.specs.Judge.{allowed_of, decoded_of, judged_of}
use Rattle.chain_step.specs.Step.{step_file}

-- a byte that differs after some puts is one of theirs
put_there : (P : ℕ → Type 0) (puts : List BytePut) (file : List ℕ) (i : ℕ) → Every (λ (p : BytePut). P p.place) puts
    → (get_or (put_all puts file) i 0 ≡ get_or file i 0 → ⊥) → P i
put_there P [] file i all differs = absurd (differs refl)
put_there P (p ∷ rest) file i all differs =
    by (eqb i p.place) refl (λ d. put_there P rest (set file p.place p.byte) i all.1 d)
  where
    by : (t : Bool) → eqb i p.place ≡ t → ((get_or (put_all rest (set file p.place p.byte)) i 0 ≡ get_or (set file p.place p.byte) i 0 → ⊥) → P i) → P i
    by true q later = rw (eqb-true i p.place q) all.0
    by false q later = later (λ e. differs (e ∙ get_or-set_other file p.place i p.byte 0 (eqb-false _ _ q)))

module _ (c : Chain) (file : List ℕ) (i : ℕ) where
  abbrev Changed : Decision → Type 0
  Changed d = (get_or (file_after c.packs d.deed file) i 0 ≡ get_or file i 0 → ⊥) → Written c i

  allowed : (e : Event) → Changed (allowed_of c (length file) e)
  unfolding allowed_of
  allowed e =
      by_test Changed (not (chain_sound_b c)) _ _ (λ m differs. absurd (differs refl)) λ s.
      by_test Changed (not (eqb (length file) c.length.0)) _ _ (λ w differs. absurd (differs refl)) λ w.
      put_there (Written c) (puts_of c.packs (decide_of c e).deed) file i (written_only c (not-false (chain_sound_b c) s) e)

  decoded : (x : Result Event Undecoded) → Changed (decoded_of c (length file) x)
  decoded (Ok e) = allowed e
  decoded (Err Unknown) = λ differs. absurd (differs refl)
  decoded (Err Range) = λ differs. absurd (differs refl)

  -- whatever the numbers, the record and the file
  pub changed_only : (kind a b : ℕ) → (get_or (step_file kind a b c file) i 0 ≡ get_or file i 0 → ⊥) → Written c i
  unfolding step_file judged_of
  changed_only kind a b = decoded (decode_of kind a b)
