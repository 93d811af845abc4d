-- What the zero bytes of a trailer give as facts.
use mathlib.Core.Path.{◌≡◌}
use mathlib.Core.Bool.{true}
use mathlib.Core.List.{List}
use Prim.Native.Nat.{ℕ}
use borrow.Author.Tests.{eqb-true}
use Rattle.counts.specs.Bytes.{one}
use Rattle.counts.proofs.Tests.{each}
use Rattle.pack_trailer.specs.Fields.{zero_tests, zeros_b}

pub record Zeros (t : List ℕ) : Type 0 where
  pub at_1 : one t 1 ≡ 0
  pub at_15 : one t 15 ≡ 0
  pub at_38 : one t 38 ≡ 0

pub zeros : (t : List ℕ) → zeros_b t ≡ true → Zeros t
zeros t h =
    let e = each (zero_tests t) h in
    record { at_1 = eqb-true _ _ e.0; at_15 = eqb-true _ _ e.1.0; at_38 = eqb-true _ _ e.1.1.0 }
