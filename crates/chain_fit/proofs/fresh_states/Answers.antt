-- Each slot is fresh.
use Rattle.std.proofs.Common.{arith, rules}
use Rattle.std.proofs.lemmas.List.{get_or-replicate}
use Rattle.pack_read.specs.Packs.{no_pack}
use Rattle.drive_record.specs.State.{blank_state}
use Rattle.chain_record.proofs.Made.{made}
use Rattle.chain_fit.specs.Fresh.{fresh_slot, blank_states}
use Rattle.chain_fit.proofs.fresh_states.Goals as goal

pub returns : goal.returns
returns c =
    let r = c.from_fn.ensures.items in
    made fresh_slot c.args.packs blank_states c.from_fn.result no_pack blank_state (omega (arith, r.long)) (omega (arith, r.long))
    (λ i h. let s = r.at i blank_state (omega (arith, r.long)) in let b = get_or-replicate 7 i blank_state blank_state (omega (arith, r.long)) in search rules)
