-- The input's end: nothing waits for it, or the last line is answered.
use Rattle.std.proofs.Common.{◌≡◌, ℕ, true, false, List, ap, arith}
use Rattle.bus_text.specs.Scan.{has_byte_of}
use Rattle.bus_output.proofs.Output.{held}
use Rattle.bus_text.specs.declared.Scan.{Scan}
use Rattle.bus_session.specs.declared.Session.{Session}
use Rattle.bus_session.specs.declared.Waiting.{Waiting}
use Rattle.bus_stream.specs.Stream.{closed_of}
use Rattle.bus_stream.specs.Kept.{Answers, Closes}

pub closes_empty : (s : Session Scan) (file out : List ℕ) → has_byte_of s.at ≡ false → Closes s file out 0 file out
unfolding closed_of
closes_empty s file out e = record { is = simp e; keeps = simp e; holds = simp e; within = omega arith }

pub closes_line : (s : Session Scan) (file out : List ℕ) (r : Waiting Scan) (file' out' : List ℕ) → has_byte_of s.at ≡ true
    → Answers s file out 0 r file' out' → Closes s file out r.at file' out'
unfolding closed_of
closes_line s file out r file' out' e a =
    let o = held out out' _ r.at a.holds (ap (λ t. t.out) a.is) a.rest in
    record { is = simp e o.0; keeps = simp e (ap (λ t. t.file) a.is); holds = simp e o.1; within = a.within }
