-- The good samples in front are counted, six bytes each.
use Rattle.std.proofs.Common.{◌*◌, ℕ, ap, ◌∙◌, rules}
use borrow.Author.Tests.{tests}
use Rattle.std.proofs.lemmas.Iterator.{YieldsList-from_slice}
use Rattle.std.proofs.lemmas.Iterator.Consumers.{count_from_yields_List}
use Rattle.std.proofs.lemmas.Iterator.Search.{YieldsList-from_take_while}
use Rattle.std.proofs.lemmas.List.Folds.{length-prefix_len}
use Rattle.capture_samples.specs.Samples.{sample_length, levels_b}
use Rattle.capture_samples.proofs.Sampling.{pieces_of, good_pieces}
use Rattle.capture_samples.proofs.good_bytes.Goals as goal

pub returns : goal.returns
returns c =
    let pieces = pieces_of c.args.capture.now in
    let many =
    count_from_yields_List c.take_while.result _ c.count.ensures.ran
    (YieldsList-from_take_while _ levels_b (YieldsList-from_slice pieces (cc)) c.take_while.ensures.closure c.take_while.ensures.done (λ x b q k. search (rules, tests)))
    ∙ length-prefix_len levels_b pieces in
    ap (λ (n : ℕ). n * sample_length) many ∙ good_pieces c.args.capture.now
