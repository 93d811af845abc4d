use Rattle.std.proofs.Common.{rules, ◌≡◌, ◌∙◌, count_by}
use Rattle.std.proofs.iter.runs.Made.{chains}
use Rattle.pack_read.specs.Packs.{fitted_b}
use Rattle.c_pack.proofs.Count.{count_is}
use Rattle.c_pack.proofs.packs.count.Goals as goal

pub returns : goal.returns
returns c =
    let is : c.count.result ≡ count_by fitted_b c.args.packs = search (rules, chains) in
    is ∙ count_is c.args.packs (search rules)
