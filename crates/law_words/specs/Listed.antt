-- An exchange as a list of events: what the host sends, given what it sees on the way.
use Rattle.std.specs.Prelude.{List, [], ◌∷◌, ◌++◌}
use Rattle.law_exchange.specs.Host.{Signal, Cable, Sending, exchanges}
use Rattle.event.specs.Numbers.{Numbers}
use Rattle.chain_step.specs.Run.{Lent, lent_through}
use Rattle.law_words.specs.Stepped.{numbers_of, stepped}

-- the events sent so far, to the chain and file d
abbrev pub listed : Lent → Cable (List Numbers)
listed d = record {
  after = λ (e : Signal) (sent : List Numbers). sent ++ (numbers_of e ∷ []);
  answer = λ (e : Signal) (sent : List Numbers). stepped.answer e (lent_through sent d);
  acknowledged = λ (sent : List Numbers). stepped.acknowledged (lent_through sent d);
  responds = λ (sent : List Numbers). stepped.responds (lent_through sent d);
  status = λ (sent : List Numbers). stepped.status (lent_through sent d);
}

-- the events of a whole exchange
abbrev pub events_sent : Sending → Lent → List Numbers
events_sent w d = (exchanges (listed d) w []).now
