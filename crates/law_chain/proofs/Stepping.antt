-- An event that decodes, on a chain that is sound over its file, is decided and put into the record.
use mathlib.Core.Path.{◌≡◌, ap, ◌∙◌}
use lib.ListN.{length}
use borrow.Author.Tests.{eq-eqb}
use Rattle.std.specs.Prelude.{Result, Ok}
use Rattle.event.specs.declared.Event.{Event}
use Rattle.event.specs.declared.Undecoded.{Undecoded}
use Rattle.event.specs.Decode.{decode_of}
use Rattle.chain_apply.specs.Apply.{applied}
use Rattle.chain_decide.specs.Decide.{decide_of}
use Rattle.chain_judge.specs.Judge.{allowed_of, decoded_of, judged_of}
use Rattle.chain_step.specs.Step.{step_of}
use Rattle.event.specs.Numbers.{Numbers}
use Rattle.chain_step.specs.Run.{Lent, lent_after}
use Rattle.law_chain.specs.SoundOver.{SoundOver}
use Rattle.law_chain.specs.OnlyMet.{OnlyMet}
use Rattle.law_chain.proofs.Meeting.{only_met}

module _ (n : Numbers) (d : Lent) (e : Event) (q : decode_of n.kind n.a n.b ≡ Ok e) (s : SoundOver d) where
  pub step_decides : (lent_after n d).chain ≡ applied d.chain (decide_of d.chain e)
  unfolding step_of judged_of allowed_of
  step_decides =
      ap (λ (x : Result Event Undecoded). applied d.chain (decoded_of d.chain (length d.file) x)) q
      ∙ rw (s.formed, eq-eqb (length d.file) d.chain.length.0 s.long)

  pub step_only : OnlyMet e d.chain (lent_after n d).chain
  step_only = rw step_decides (only_met d.chain e)
