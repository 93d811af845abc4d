-- How many events there are.
use Rattle.std.specs.Prelude.{ℕ, nat_le}
use Rattle.std.specs.Prelude.{if◌then◌else◌}

-- a count, but no more than the most that is asked for
abbrev pub up_to : ℕ → ℕ → ℕ
up_to most n = if nat_le n most then n else most
