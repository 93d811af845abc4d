-- What a sound chain decides touches nothing outside the file.
use mathlib.Core.Path.{◌≡◌}
use mathlib.Core.Bool.{true}
use mathlib.Core.Logic.{inl, inr}
use Rattle.event.specs.declared.Event.{Event}
use Rattle.chain_record.specs.declared.Chain.{Chain}
use Rattle.chain_decision.specs.declared.Decision.{Decision}
use Rattle.chain_decision.specs.Deeds.{Fits}
use Rattle.chain_others.specs.Passing.{pass_event}
use Rattle.chain_decide.specs.Decide.{decide_of}
use Rattle.chain_sound.specs.SoundChain.{chain_sound_b}
use Rattle.chain_sound.proofs.SoundSlots.{cell_in_file}
use Rattle.chain_decide.proofs.Walk.{Cases, walk}

module _ (c : Chain) (h : chain_sound_b c ≡ true) where
  abbrev Ok : Event → Decision → Type 0
  Ok e x = Fits c.packs c.length.0 x.deed

  cases : Cases c Ok
  unfolding pass_event
  cases = record {
    still = λ e b on m q. (tt, tt);
    level = λ v on. (tt, tt);
    alone = λ e a off n. (tt, tt);
    met = λ e on m q. (tt, tt);
    enters = λ slot off f m. (tt, tt);
    leaves = λ slot on n m. (tt, tt);
    swaps = λ slot on f m. (tt, tt);
    passes = λ us. (tt, tt);
    past = λ position byte on. (tt, tt);
    writes = λ position byte on t w. (tt, (cell_in_file c position h on t (inl w), tt));
    reads = λ position byte on t r w. ((cell_in_file c position h on t (inr r), tt), tt);
    idle = λ position byte on w r. (tt, tt);
    inapplicable = λ slot which. (tt, tt);
    condition = λ slot which f. (tt, tt);
  }

pub touches_inside : (c : Chain) (e : Event) → chain_sound_b c ≡ true → Fits c.packs c.length.0 (decide_of c e).deed
touches_inside c e h = walk c (Ok c h) (cases c h) e
