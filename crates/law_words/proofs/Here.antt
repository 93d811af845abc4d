-- Where a drive stands in a sound chain, that 0 microseconds change nothing there, and what is known of a drive with no transfer open.
use Prim.Native.Nat.{ℕ, ◌-◌, ◌<◌}
use mathlib.Core.Path.{◌≡◌, refl}
use mathlib.Core.Bool.{Bool, true, false}
use lib.Dec.{eqb}
use lib.ListN.{length, get_or}
use borrow.Author.Tests.{eqb-true, not-false}
use Rattle.counts.specs.Slots.{slot_b, map_with}
use Rattle.counts.proofs.Slots.{map_still}
use Rattle.counts.proofs.Tests.{both}
use Rattle.handshake.specs.declared.Transfer.{Transfer}
use Rattle.handshake.specs.Transfer.{no_transfer, open_b}
use Rattle.handshake.specs.SoundTransfer.{idle_b, left_b}
use Rattle.pack_read.specs.declared.Pack.{Pack}
use Rattle.pack_read.specs.Packs.{no_pack}
use Rattle.drive_record.specs.declared.State.{State}
use Rattle.lines.specs.declared.Lines.{Lines}
use Rattle.law_drive.proofs.TimeRules.{zero_stays}
use Rattle.law_drive.proofs.OpenTransfers.{Idle, idle, left_none}
use Rattle.chain_record.specs.declared.Chain.{Chain}
use Rattle.chain_record.specs.Record.{slot_pack, look_of}
use Rattle.pack_read.specs.Packs.{fitted_b}
use Rattle.chain_apply.specs.Apply.{pass_slot}
use Rattle.chain_sound.specs.SoundChain.{drive_b, chain_sound_b}
use Rattle.chain_sound.proofs.SoundSlots.{sound}
use Rattle.law_chain.proofs.Drives.{is_slot, listed, pack_room, slot_room}

-- a slot of the chain's, with a drive fitted there
pub record Here (c : Chain) (k : ℕ) : Type 0 where
  pub slot : slot_b k ≡ true
  pub fitted : (get_or c.packs (k - 1) no_pack).fitted ≡ 1
  pub packs : k - 1 < length c.packs
  pub states : k - 1 < length c.states

pub there : (c : Chain) (k : ℕ) → chain_sound_b c ≡ true → fitted_b (slot_pack c.packs k) ≡ true → Here c k
there c k h on = record { slot = is_slot c h k on; fitted = listed c h k on; packs = pack_room c h k on; states = slot_room c h k on }

-- the selected one
pub here : (c : Chain) → chain_sound_b c ≡ true → (look_of c).selected ≡ true → Here c c.lines.select
unfolding look_of
here c h on = there c c.lines.select h on

still : (l : Lines) (p : Pack) (s : State) (fitted : Bool) → eqb p.fitted 1 ≡ fitted → drive_b l p s ≡ true → pass_slot (record { 0 = 0 }) p s ≡ s
unfolding pass_slot drive_b
still l p s true e h = rw e (zero_stays p.profile l (eqb l.select p.profile.slot) s (rw e at h))
still l p s false e h = rw e

-- 0 microseconds change nothing in a sound chain
pub none_passes : (c : Chain) → chain_sound_b c ≡ true → map_with (pass_slot (record { 0 = 0 })) c.packs c.states ≡ c.states
none_passes c h =
    map_still (drive_b c.lines) (pass_slot (record { 0 = 0 })) (λ p s k. still c.lines p s (eqb p.fitted 1) refl k) c.packs c.states (sound c h).drives

nothing : (t : Transfer) → t.way ≡ 0 → Idle t → t ≡ no_transfer
nothing t z f = λ i. record {
  waiting = record { 0 = f.waiting i };
  bits = f.bits i;
  response = f.response i;
  way = z i;
  count = f.count i;
  acknowledge = f.acknowledge i;
}

-- a drive of a sound chain with no transfer open has nothing left of one
pub closed_none : (request : ℕ) (t : Transfer) → open_b t ≡ false → left_b request t ≡ true → t ≡ no_transfer
closed_none request t o h =
    let z = eqb-true _ _ (not-false (eqb t.way 0) o) in
    let e = both (eqb t.way 0) (idle_b t) (left_none request t z h) in
    nothing t z (idle t e.1)
