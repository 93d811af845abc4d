-- The plain word rules on a drive that neither reads nor writes and has no transfer open, and when such a drive stays as it is.
use Rattle.std.specs.Prelude.{None}
use Prim.Native.Nat.{ℕ, ◌+◌, ◌-◌, ◌≤◌}
use native.Mathlib.Omega.{arith}
use mathlib.Core.Path.{◌≡◌, refl, sym, ◌∙◌}
use mathlib.Core.Bool.{true, false}
use mathlib.Core.List.{List, [], ◌∷◌}
use Rattle.pack_profile.specs.declared.Profile.{Profile}
use Rattle.handshake.specs.Transfer.{no_transfer}
use Rattle.handshake.specs.Edges.{late_b, wait_of}
use Rattle.drive_record.specs.declared.Body.{Body}
use Rattle.drive_record.specs.declared.Outcome.TheVariants.{Fault}
use Rattle.drive_record.specs.State.{state_of}
use Rattle.drive_record.specs.Faults.{latch_bit}
use Rattle.drive_record.specs.Status.{calm_b, complete_b}
use Rattle.drive_rules.specs.Time.{pass_body, pass_drive}
use Rattle.word_rules.specs.Rules.{answered, carry_of, plain_of}
use Rattle.law_drive.proofs.DriveTime.{calm_stays, body_twice}
use Rattle.law_exchange.specs.Host.{Bit}
use Rattle.law_exchange.specs.Waits.{time_of, sent_time}

module _ (p : Profile) (n : ℕ) (b : Body) (reading : b.reading ≡ 0) (writing : b.writing ≡ 0) where
  pub plain_carries : calm_b b ≡ true → plain_of p (state_of b no_transfer) n ≡ answered (carry_of p b n).outcome (carry_of p b n).told (state_of (carry_of p b n).body no_transfer)
  unfolding plain_of complete_b
  plain_carries q = rw (reading, writing, q)

  pub plain_refuses : calm_b b ≡ false → plain_of p (state_of b no_transfer) n ≡ answered Fault None (state_of (latch_bit 6 b) no_transfer)
  unfolding plain_of complete_b
  plain_refuses q = rw (reading, writing, q)

pub complete_calm : (b : Body) → complete_b (state_of b no_transfer) ≡ calm_b b
unfolding complete_b
complete_calm b = refl

pub rest_pass : (us : ℕ) (b : Body) → (pass_drive (record { 0 = us }) (state_of b no_transfer)).state ≡ state_of (pass_body (record { 0 = us }) b) no_transfer
unfolding pass_drive wait_of late_b
rest_pass us b = refl

-- time neither begins nor ends reading or writing
pub reading_kept : (us : ℕ) (b : Body) → b.reading ≡ 0 → (pass_body (record { 0 = us }) b).reading ≡ 0
unfolding pass_body
reading_kept us b h = h

pub writing_kept : (us : ℕ) (b : Body) → b.writing ≡ 0 → (pass_body (record { 0 = us }) b).writing ≡ 0
unfolding pass_body
writing_kept us b h = h

-- once calm, a drive stays as it is
pub stays : (s t : ℕ) (b : Body) → s ≤ t → calm_b (pass_body (record { 0 = s }) b) ≡ true → pass_body (record { 0 = t }) b ≡ pass_body (record { 0 = s }) b
stays s t b h q =
    let whole : s + (t - s) ≡ t = omega arith in
    (rw whole at (sym (body_twice (record { 0 = s }) (record { 0 = t - s }) b))) ∙ calm_stays (record { 0 = t - s }) (pass_body (record { 0 = s }) b) q

pub low_first : (x : Bit) (xs : List Bit) → time_of x.low ≤ sent_time x xs
low_first x [] = omega arith
low_first x (y ∷ ys) = omega arith
