-- What the tests on a drive that is to read or write give as facts.
use mathlib.Core.Path.{◌≡◌}
use mathlib.Core.Bool.{true}
use Prim.Native.Nat.{◌<◌}
use borrow.Author.Tests.{ltb-true, eqb-true}
use Rattle.counts.proofs.Tests.{each}
use Rattle.pack_profile.specs.declared.Profile.{Profile}
use Rattle.drive_record.specs.declared.State.{State}
use Rattle.drive_record.specs.Status.{ready_b, complete_b}
use Rattle.drive_gates.specs.Gates.{usable_tests, usable_b}

-- a drive that may read or write
pub record Usable (p : Profile) (s : State) : Type 0 where
  pub ready : ready_b s.body ≡ true
  pub complete : complete_b s ≡ true
  pub known : s.body.arm.lost ≡ 0
  pub present : s.body.head.0 < p.shape.heads.0

pub usable : (p : Profile) (s : State) → usable_b p s ≡ true → Usable p s
unfolding usable_b
usable p s h =
    let e = each (usable_tests p s) h in
    record { ready = e.0; complete = e.1.0; known = eqb-true _ _ e.1.1.0; present = ltb-true _ _ e.1.1.1.0 }
