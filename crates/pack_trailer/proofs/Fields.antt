-- A profile's parts are the values that their fields' equations say.
use mathlib.Core.Path.{◌≡◌}
use mathlib.Core.List.{List}
use Prim.Native.Nat.{ℕ}
use Rattle.pack_profile.specs.declared.Shape.{Shape}
use Rattle.pack_profile.specs.declared.Times.{Times}
use Rattle.pack_trailer.specs.Fields.{ShapeIs, TimesIs, shape_of, times_of}

pub shape_is : (t : List ℕ) (s : Shape) → ShapeIs t s → s ≡ shape_of t
shape_is t s h = rw (← h.cylinders, ← h.heads, ← h.track, ← h.sector)

pub times_is : (t : List ℕ) (m : Times) → TimesIs t m → m ≡ times_of t
times_is t m h =
    rw (← h.settle, ← h.step, ← h.switch, ← h.recalibrate, ← h.start, ← h.diagnostic, ← h.offset)
