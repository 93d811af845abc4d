-- The answer's line stands behind the output that waits.
use Rattle.std.proofs.Common.{ap}
use Rattle.bus_output.proofs.Output.{put_behind}
use Rattle.bus_capture.specs.Stream.{answered_of}
use Rattle.bus_capture.proofs.answered.Goals as goal

pub returns : goal.returns
unfolding answered_of
returns c =
    let a = c.answered.ensures in
    let p = put_behind a.output c.requires in
    let e = c.to_event-reply.ensures in
    record {
      is = simp (a.session, p.waits, e.0, e.1);
      reaches = ap (λ s. s.at) a.session;
      rest = p.rest;
      further = p.further;
      near = p.near;
      holds = p.holds;
    }
