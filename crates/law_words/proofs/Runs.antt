-- An exchange is `run` over the events that the host sends, and so demand 3 speaks of a run.
use Prim.Native.Nat.{◌≤◌}
use mathlib.Core.Path.{◌≡◌, refl, sym, ap, ◌∙◌}
use mathlib.Core.List.{List, [], ◌∷◌}
use lib.ListN.{length}
use Rattle.law_exchange.specs.Host.{Signal, Sending, Exchanged, exchanges}
use Rattle.law_exchange.specs.Waits.{InTime, Each}
use Rattle.law_exchange.proofs.Like.{Alike, exchanges_like, any_waits}
use Rattle.event.specs.Numbers.{Numbers}
use Rattle.chain_step.specs.Run.{Lent, lent_after, lent_through, run}
use Rattle.law_chain.proofs.Through.{lent_then}
use Rattle.law_words.specs.AtOnce.{Resting, at_once}
use Rattle.law_words.specs.Stepped.{numbers_of, stepped}
use Rattle.law_words.specs.Listed.{listed, events_sent}
use Rattle.law_words.proofs.Step.{step_demand_3}

module _ (d : Lent) where
  abbrev Ran : Lent → List Numbers → Type 0
  Ran s sent = s ≡ lent_through sent d

  abbrev Fine : Signal → Type 0
  Fine e = Unit

  alike : Alike stepped (listed d) Ran Fine
  alike = record {
    levels = λ x. tt;
    edges = λ x. tt;
    after = λ e s sent f l. ap (λ (x : Lent). lent_after (numbers_of e) x) l ∙ sym (lent_then sent (numbers_of e ∷ []) d);
    answer = λ e s sent f l. ap (stepped.answer e) l;
    acknowledged = λ s sent l. ap stepped.acknowledged l;
    responds = λ s sent l. ap stepped.responds l;
    status = λ s sent l. ap stepped.status l;
  }

  pub exchange_runs : (w : Sending) → (exchanges stepped w d).now ≡ (run (events_sent w d) d).lent
  exchange_runs w = (exchanges_like stepped (listed d) Ran Fine alike w d [] (any_waits w) refl).now

-- demand 3 as a run of events: the chain and the file that they leave are those of the word given at once
pub run_demand_3 : (w : Sending) (d : Lent) → InTime w → Each (λ us. us ≤ 65_535) w.first.low → Resting d.chain
    → length d.file ≡ d.chain.length.0 → (run (events_sent w d) d).lent ≡ (at_once w d).now
run_demand_3 w d fit low r l = sym (exchange_runs d w) ∙ ap (λ (x : Exchanged Lent). x.now) (step_demand_3 w d fit low r l)
