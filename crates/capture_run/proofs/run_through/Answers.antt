-- At each turn what was fed and what is to come make the whole.
use Rattle.std.proofs.Common.{◌∙◌, arith}
use Rattle.capture_samples.proofs.Sampling.{piece_within, piece_sample, pieces_end}
use Rattle.capture_run.proofs.Running.{begins, room_for, feeds, passes, ends}
use Rattle.capture_run.proofs.run_through.Goals as goal

pub loop-part-init : goal.loop-part-init
loop-part-init c = begins _ _ _ _ _ c.start-at.ensures c.requires

pub feed-chain-requires : goal.feed-chain-requires
feed-chain-requires c =
    let p = c.as_chunks.ensures in
    let h = c.loop-part-test.true in
    room_for c.loop-ahead.invariant _ (piece_within _ p.front p.front_len _ h) (c.sample_of-to.ensures ∙ piece_sample _ p.front p.front_len _ _ h) _ _ _ c.in-Some.ensures.comes

pub loop-ahead-preserved : goal.loop-ahead-preserved
loop-ahead-preserved c =
    let p = c.as_chunks.ensures in
    let h = c.loop-part-test.true in
    feeds c.loop-ahead.invariant _ (piece_within _ p.front p.front_len _ h) (c.sample_of-to.ensures ∙ piece_sample _ p.front p.front_len _ _ h) _ _ _ c.in-Some.ensures.comes
    _ _ _ c.feed-chain.auto.file c.feed-chain.ensures

pub loop-part-preserved : goal.loop-part-preserved
loop-part-preserved c =
    let p = c.as_chunks.ensures in
    let h = c.loop-part-test.true in
    passes c.loop-ahead.invariant _ (piece_within _ p.front p.front_len _ h) (c.sample_of-to.ensures ∙ piece_sample _ p.front p.front_len _ _ h) _ (omega arith) c.in_default.ensures.comes

pub returns : goal.returns
returns c =
    let p = c.as_chunks.ensures in
    ends c.loop-part.invariant (pieces_end _ p.front p.front_len _ c.loop-part-test.false)
