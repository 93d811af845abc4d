-- So many are counted, and with those that are left they are all.
use Rattle.std.proofs.Common.{◌≡◌, length, ◌∙◌, arith}
use Rattle.capture_events.proofs.Counting.{all_counted, most_counted, in_all, left_on, none_left}
use Rattle.capture_events.specs.Events.{capture_events}
use Rattle.capture_events.proofs.count.up_to.Goals as goal

pub returns-then-more-most : goal.returns-then-more-most
returns-then-more-most c =
    let p = c.as_chunks.ensures in
    let all = in_all c.args.lines c.args.capture.now _ c.start-at.ensures in
    let on = left_on _ p.front p.front_len _ c.loop-part.at _ c.loop-part-test.true c.sample_of-to.ensures c.between-more.ensures in
    most_counted _ _ (omega (arith, all, on, c.loop-part.invariant.1, c.if-more-most.true))

pub loop-part-preserved : goal.loop-part-preserved
loop-part-preserved c =
    let p = c.as_chunks.ensures in
    let on = left_on _ p.front p.front_len _ c.loop-part.at _ c.loop-part-test.true c.sample_of-to.ensures c.between-more.ensures in
    (omega arith, omega (arith, on, c.loop-part.invariant.1))

pub returns : goal.returns
returns c =
    let p = c.as_chunks.ensures in
    let all = in_all c.args.lines c.args.capture.now _ c.start-at.ensures in
    let none = none_left _ p.front p.front_len _ c.loop-part.at c.loop-part-test.false in
    let e : c.loop-part.n ≡ length (capture_events c.args.lines c.args.capture.now) = omega (arith, all, none, c.loop-part.invariant.1) in
    e ∙ all_counted _ _ (omega (arith, e, c.loop-part.invariant.0))
