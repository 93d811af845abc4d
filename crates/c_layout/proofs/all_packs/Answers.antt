-- Each pack has its mark.
use Rattle.std.proofs.Common.{arith, rules, ◌+◌}
use Rattle.pack_read.specs.Packs.{no_pack}
use Rattle.c_layout.specs.Marks.{marked_pack}
use Rattle.c_layout.proofs.Seven.{seven}
use Rattle.c_layout.proofs.all_packs.Goals as goal

pub returns : goal.returns
returns c =
    let r = c.from_fn.ensures.items in
    seven (λ i. marked_pack (33_554_433 + i)) c.from_fn.result no_pack (omega (arith, r.long)) (λ i h. let s = r.at i no_pack (omega (arith, r.long)) in search rules)
