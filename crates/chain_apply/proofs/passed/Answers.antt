-- Each state is what time has made of it.
use Rattle.std.proofs.Common.{ap, arith, rules}
use Rattle.pack_read.specs.Packs.{no_pack}
use Rattle.drive_record.specs.State.{blank_state}
use Rattle.chain_record.proofs.Made.{made}
use Rattle.chain_apply.specs.Apply.{pass_slot, with_states}
use Rattle.chain_apply.proofs.passed.Goals as goal

pub returns : goal.returns
returns c =
    let r = c.from_fn.ensures.items in
    ap (with_states c.args.c) (made (pass_slot c.args.us) c.args.c.packs c.args.c.states c.from_fn.result no_pack blank_state
    (omega (arith, r.long)) (omega (arith, r.long)) (λ i h. let s = r.at i blank_state (omega (arith, r.long)) in search rules))
