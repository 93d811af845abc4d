-- "the selected drive's lines as a sum"
use Rattle.std.specs.Prelude.{ℕ, ◌+◌, ◌≤◌, ◌≡◌, Bool, eqb}
use Rattle.std.specs.Prelude.{if◌then◌else◌}
use Rattle.handshake.specs.Transfer.{status_line}
use Rattle.drive_record.specs.declared.State.{State}
use Rattle.drive_record.specs.Status.{attention_b, ready_b, complete_b}

abbrev pub weight_of : Bool → ℕ → ℕ
weight_of on n = if on then n else 0

pub record Weight (on : Bool) (n r : ℕ) : Type 0 where
  pub is : r ≡ weight_of on n
  pub most : r ≤ n

-- "1 selected, 2 ready, 4 acknowledge, 8 data, 16 attention, 32 complete"
unfoldable pub sum_of : State → ℕ
sum_of s =
    1
    + weight_of (ready_b s.body) 2
    + weight_of (eqb s.transfer.acknowledge 1) 4
    + weight_of (eqb (status_line s.transfer) 1) 8
    + weight_of (attention_b s.body) 16
    + weight_of (complete_b s) 32
