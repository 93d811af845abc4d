-- A chain that is sound over its file stays so, through any events.
use mathlib.Core.Path.{◌≡◌, refl, sym, ap, ◌∙◌}
use mathlib.Core.List.{List, [], ◌∷◌}
use Prim.Native.Nat.{ℕ}
use lib.ListN.{length, set, length-set}
use Rattle.counts.specs.declared.Place.{Place}
use Rattle.counts.specs.Bytes.{Bytes}
use Rattle.pack_read.specs.declared.Pack.{Pack}
use Rattle.std.specs.Prelude.{IsOk}
use Rattle.pack_read.specs.Read.{read_all}
use Rattle.chain_record.specs.declared.Chain.{Chain}
use Rattle.chain_decision.specs.declared.Deed.{Deed}
use Rattle.chain_decision.specs.Deeds as deeds
use Rattle.chain_apply.specs.Apply.{applied}
use Rattle.chain_fit.specs.Fresh.{fresh_fit}
use Rattle.chain_judge.specs.Judge.{judged_of}
use Rattle.chain_step.specs.Step.{step_of, step_file}
use Rattle.event.specs.Numbers.{Numbers}
use Rattle.chain_step.specs.Run.{Lent, lent, lent_after, lent_through, run}
use Rattle.law_chain.specs.SoundOver.{SoundOver}
use Rattle.law_chain.proofs.Fitted.{whole_sound, fitted_length}
use Rattle.law_chain.proofs.Kept.{sound_kept}

-- bytes put leave the file as long as it was, and so does a deed
puts_long : (puts : List deeds.BytePut) (file : List ℕ) → length (deeds.put_all puts file) ≡ length file
puts_long [] file = refl
puts_long (p ∷ rest) file = puts_long rest (set file p.place p.byte) ∙ length-set file p.place p.byte

pub deed_long : (packs : List Pack) (x : Deed) (file : List ℕ) → length (deeds.file_after packs x file) ≡ length file
deed_long packs x file = puts_long (deeds.puts_of packs x) file

module _ (c : Chain) (file : List ℕ) where
  -- the file keeps its length, and the record says the same length
  pub length_kept : (kind a b : ℕ) → length (step_file kind a b c file) ≡ length file
  unfolding step_file
  length_kept kind a b = deed_long c.packs (judged_of c (length file) kind a b).deed file

  pub record_kept : (kind a b : ℕ) → (step_of kind a b c file).chain.length ≡ c.length
  unfolding step_of applied
  record_kept kind a b = refl

pub step_sound : (n : Numbers) (d : Lent) → SoundOver d → SoundOver (lent_after n d)
step_sound n d s = record {
  formed = sound_kept d.chain s.formed n.kind n.a n.b d.file;
  long =
      length_kept d.chain d.file n.kind n.a n.b ∙ s.long
      ∙ ap (λ (p : Place). p.0) (sym (record_kept d.chain d.file n.kind n.a n.b));
}

through_sound : (events : List Numbers) (d : Lent) → SoundOver d → SoundOver (lent_through events d)
through_sound [] d s = s
through_sound (n ∷ rest) d s = through_sound rest (lent_after n d) (step_sound n d s)

-- through any events
pub run_sound : (events : List Numbers) (d : Lent) → SoundOver d → SoundOver (run events d).lent
run_sound events d s = through_sound events d s

-- so from any file that reads whole
pub fitted_run : (events : List Numbers) (file : List ℕ) → Bytes file → IsOk (read_all file)
    → SoundOver (run events (lent (fresh_fit file).chain file)).lent
fitted_run events file small w =
    run_sound events (lent (fresh_fit file).chain file) (record { formed = whole_sound file small w; long = sym (fitted_length file small w) })
