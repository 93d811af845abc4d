-- Request 1: a seek to where the heads are leaves the drive complete, so the next word is taken with no wait.
use mathlib.Core.Path.{◌≡◌, sym}
use mathlib.Core.Bool.{Bool, true, false, ◌&&◌, ◌||◌, not, false≢true}
use Prim.Native.Nat.{ℕ}
use lib.Dec.{eqb}
use Rattle.std.specs.Prelude.{Ok}
use Rattle.pack_profile.specs.declared.Profile.{Profile}
use Rattle.pack_profile.specs.Valid.{valid_b}
use Rattle.handshake.specs.Transfer.{open_b}
use Rattle.drive_record.specs.declared.State.{State}
use Rattle.drive_record.specs.Limits.{limits_b}
use Rattle.drive_record.specs.Status.{complete_b, ready_b}
use Rattle.drive_record.proofs.WithinLimits.{on_cylinder}
use Rattle.word_acts.specs.declared.Act.TheVariants.{Seek}
use Rattle.word_acts.specs.Acts.{busy_for, acted_of}
use Rattle.word_acts.proofs.Times.{seek_here}
use Rattle.word_table.specs.declared.Effect.TheVariants.{Does}
use Rattle.word_table.specs.Word.{with_parity}
use Rattle.word_table.specs.Effect.{effect_of}
use Rattle.word_table.proofs.SeekWord.{seek_word}
use Rattle.word_rules.specs.Rules.{done_of, carry_of, refuses_b, plain_of}

-- what let a word be taken lets the next one, with the busy timer at 0
still : (gated shut busy head : Bool) → (gated || not (shut && (busy && head))) ≡ false → (gated || not (shut && head)) ≡ false
still true shut busy head h = h
still false false busy head h = h
still false true true head h = h
still false true false head h = absurd (false≢true (sym h))

pub next_taken : (p : Profile) (s : State) (n : ℕ) → refuses_b s ≡ false → effect_of p s.body n ≡ Ok (Does (Seek s.body.arm.cylinder))
    → refuses_b (plain_of p s n).state ≡ false
unfolding complete_b busy_for acted_of done_of carry_of plain_of
next_taken p s n taken seek =
    let b = s.body in
    rw (taken, seek, seek_here p.times b.arm.cylinder)
    (still (eqb b.reading 1 || eqb b.writing 1) (not (open_b s.transfer)) (eqb b.timers.busy.0 0) (eqb b.timers.head.0 0) taken)

-- so of the word itself: the cylinder where the heads are, with its parity
pub here_taken : (p : Profile) (s : State) → valid_b p ≡ true → limits_b p s.body ≡ true → ready_b s.body ≡ true → s.body.arm.lost ≡ 0
    → refuses_b s ≡ false → refuses_b (plain_of p s (with_parity s.body.arm.cylinder.0)).state ≡ false
here_taken p s v limits ready known taken =
    next_taken p s _ taken (seek_word p s.body s.body.arm.cylinder v (on_cylinder p s.body limits) ready known)
