-- What no word changes: the head and its timer, whether a write fault stands, and what a gate began but for a latch, which ends writing.
use mathlib.Core.Path.{◌≡◌}
use Prim.Native.Nat.{ℕ}
use lib.Dec.{eqb}
use borrow.Author.Rules.{rules}
use Rattle.counts.proofs.Choice.{by_test}
use Rattle.pack_profile.specs.declared.Times.{Times}
use Rattle.drive_record.specs.declared.Body.{Body}
use Rattle.drive_record.specs.State.{stopped}
use Rattle.drive_record.specs.Faults.{latch_of}
use Rattle.word_acts.specs.declared.Act.{Act}
use Rattle.word_acts.specs.declared.Act.TheVariants.{Seek, Recalibrate, Clear, Stop, Start, Offset, Diagnose, Sector}
use Rattle.word_acts.specs.Acts.{busy_for, start_of, acted_of}

pub record Leaves (b e : Body) : Type 0 where
  pub head : e.head ≡ b.head
  pub timer : e.timers.head ≡ b.timers.head
  pub reading : e.reading ≡ b.reading
  pub standing : e.standing ≡ b.standing
  pub writing : b.writing ≡ 0 → e.writing ≡ 0

pub same_leaves : (b : Body) → Leaves b b
same_leaves b = search rules

pub latch_leaves : (value : ℕ) (b : Body) → Leaves b (latch_of value b)
unfolding latch_of
latch_leaves value b = search rules

start_leaves : (t : Times) (b : Body) → Leaves b (start_of t b)
unfolding start_of busy_for
start_leaves t b =
    by_test (Leaves b) (eqb b.motor stopped) _ _
    (λ e. search rules)
    (λ e. same_leaves b)

pub act_leaves : (t : Times) (b : Body) (act : Act) → Leaves b (acted_of t b act)
unfolding acted_of busy_for
act_leaves t b (Seek to) = search rules
act_leaves t b Recalibrate = search rules
act_leaves t b Clear = search rules
act_leaves t b Stop = search rules
act_leaves t b Start = start_leaves t b
act_leaves t b (Offset code) = search rules
act_leaves t b Diagnose = search rules
act_leaves t b (Sector size) = search rules
