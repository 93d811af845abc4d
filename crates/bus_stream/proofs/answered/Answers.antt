-- The line is answered, and its answer stands behind what waits.
use Rattle.std.proofs.Common.{arith}
use Rattle.bus_output.proofs.Output.{put_behind}
use Rattle.bus_stream.specs.Stream.{answered_of}
use Rattle.bus_stream.proofs.answered.Goals as goal

pub returns : goal.returns
unfolding answered_of
returns c =
    let a = c.answered.ensures in
    let p = put_behind a.output c.requires in
    record {
      is = simp (a.session, p.waits, c.fresh.ensures, c.to_line-reply.ensures.0, c.to_line-reply.ensures.1, c.finish.ensures);
      rest = p.rest;
      further = p.further;
      within = omega (arith, p.near);
      holds = p.holds;
    }
