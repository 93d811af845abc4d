-- A law on lists: a part to the end.
use mathlib.Core.Path.{◌≡◌}
use mathlib.Core.List.{List}
use Prim.Native.Nat.{ℕ, ◌-◌}
use native.Mathlib.Omega.{arith}
use lib.ListN.{length, take, drop, length-drop}
use lib.Seq.{take_all}

-- what stands from a place on, to the end, whole
pub rest : (b : List ℕ) (at : ℕ) → take (length b - at) (drop at b) ≡ drop at b
rest b at = take_all (length b - at) (drop at b) (simp length-drop (omega arith))
