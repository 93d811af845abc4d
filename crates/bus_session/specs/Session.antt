-- A session by its parts, whatever is kept of the input.
use Rattle.std.specs.Prelude.{ℕ}
use Rattle.chain_record.specs.declared.Chain.{Chain}
use Rattle.bus_session.specs.declared.Session.{Session}

abbrev pub session_of : {P : Type 0} → Chain → P → ℕ → Session P
session_of c reached lines = record { chain = c; at = reached; lines = lines }
