-- What the selected drive shows.
use Rattle.std.specs.Prelude.{ℕ, not}
use Rattle.std.specs.Prelude.{if◌then◌else◌}
use Rattle.drive_cable.specs.Sum.{sum_of}
use Rattle.chain_record.specs.declared.Chain.{Chain}
use Rattle.chain_record.specs.Record.{look_of}

-- "and the selected drive's lines as a sum (..; 0 if none)"
unfoldable pub line_sum : Chain → ℕ
line_sum c = if not (look_of c).selected then 0 else sum_of (look_of c).state
