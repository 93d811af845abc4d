-- Events of kind 6 through `run` are their sum passing.
use mathlib.Core.Path.{◌≡◌, sym, ap, ◌∙◌}
use mathlib.Core.List.{List, [], ◌∷◌}
use Prim.Native.Nat.{ℕ, ◌≤◌}
use lib.ListN.{length}
use borrow.Author.Tests.{le-leb, eq-eqb}
use Rattle.std.specs.Prelude.{Result, Ok}
use Rattle.event.specs.declared.Event.{Event}
use Rattle.event.specs.declared.Event.TheVariants.{Pass}
use Rattle.event.specs.declared.Undecoded.{Undecoded}
use Rattle.event.specs.Decode.{ranged, kind_row, decode_of}
use Rattle.chain_decision.specs.Deeds.{file_after}
use Rattle.chain_others.specs.Passing.{pass_event}
use Rattle.chain_decide.specs.Decide.{decide_of}
use Rattle.chain_judge.specs.Judge.{allowed_of, decoded_of, judged_of}
use Rattle.chain_step.specs.Step.{step_file}
use Rattle.event.specs.Numbers.{Numbers}
use Rattle.chain_step.specs.Run.{Lent, lent, lent_after, lent_through, run}
use Rattle.law_chain.specs.SoundOver.{SoundOver}
use Rattle.law_chain.proofs.Run.{step_sound}
use Rattle.law_chain.proofs.Stepping.{step_decides}
use Rattle.law_words.specs.AtOnce.{passed}
use Rattle.law_words.proofs.ChainTime.{time_splits, no_time_lem}
use Rattle.law_bench.specs.Bench.{pass_events, Spans, total}

module _ (us : ℕ) (small : us ≤ 65_535) (d : Lent) (s : SoundOver d) where
  abbrev n : Numbers
  n = record { kind = 6; a = us; b = 0 }

  decodes : decode_of 6 us 0 ≡ Ok (Pass (record { 0 = us }))
  unfolding decode_of kind_row ranged
  decodes = rw (le-leb us 65_535 small)

  file_kept : (lent_after n d).file ≡ d.file
  unfolding step_file judged_of allowed_of decide_of pass_event
  file_kept =
      ap (λ (x : Result Event Undecoded). file_after d.chain.packs (decoded_of d.chain (length d.file) x).deed d.file) decodes
      ∙ rw (s.formed, eq-eqb (length d.file) d.chain.length.0 s.long)

  one_passes : lent_after n d ≡ lent (passed us d.chain) d.file
  one_passes = λ i. lent (step_decides n d (Pass (record { 0 = us })) decodes s i) (file_kept i)

through_passes : (us : List ℕ) (d : Lent) → SoundOver d → Spans us → lent_through (pass_events us) d ≡ lent (passed (total us) d.chain) d.file
through_passes [] d s f = λ i. lent (sym (no_time_lem d.chain s.formed) i) d.file
through_passes (u ∷ rest) d s f =
    let n : Numbers = record { kind = 6; a = u; b = 0 } in
    through_passes rest (lent_after n d) (step_sound n d s) f.1
    ∙ ap (λ (x : Lent). lent (passed (total rest) x.chain) x.file) (one_passes u f.0 d s)
    ∙ (λ i. lent (time_splits u (total rest) d.chain i) d.file)

-- each at most 65,535
pub passes_run : (us : List ℕ) (d : Lent) → SoundOver d → Spans us → (run (pass_events us) d).lent ≡ lent (passed (total us) d.chain) d.file
passes_run us d s f = through_passes us d s f
