-- A chain fitted from a pack file, as a caller that lends a record has it.
use Rattle.std.specs.Prelude.{ℕ, ◌+◌, ◌*◌, List, Result, Ok, Err}
use Rattle.pack_read.specs.declared.read.Refused.{Refused}
use Rattle.pack_read.specs.Refusal.{refusal_number}
use Rattle.chain_record.specs.declared.Chain.{Chain}
use Rattle.chain_fit.specs.Fresh as fresh
use Rattle.c_pack.specs.declared.Coded.{Coded}
use Rattle.c_pack.specs.Code.{high_half}

-- "Refusals, with the pack's end as place (0 for 36)": the number in the low byte, the place in the high half
abbrev pub refusal_code : Refused → ℕ
refusal_code refused = refusal_number refused.why + refused.place.0 * high_half

-- a refused file leaves the record as it was
abbrev pub fitted_or : Result (Unit {0}) Refused → Chain → Chain → Coded Chain
fitted_or (Ok done) found c = record { lent = found; code = 0 }
fitted_or (Err refused) found c = record { lent = c; code = refusal_code refused }

unfoldable pub lent_fit : Chain → List ℕ → Coded Chain
lent_fit c file = fitted_or (fresh.fresh_fit file).answer (fresh.fresh_fit file).chain c
