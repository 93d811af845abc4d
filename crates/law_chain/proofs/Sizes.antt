-- Request 8, over any events: a drive's sector size stays the one that it was, or is one greater than its gaps.
use mathlib.Core.Path.{◌≡◌, ap, ◌∙◌}
use mathlib.Core.Logic.{inl, inr, ⊎_elim}
use mathlib.Core.Bool.{true}
use mathlib.Core.List.{List, [], ◌∷◌}
use Prim.Native.Nat.{ℕ, ◌-◌}
use native.Mathlib.Omega.{arith}
use borrow.Author.Tests.{eqb-true}
use lib.ListN.{length, get_or}
use Rattle.counts.specs.declared.SectorSize.{SectorSize}
use Rattle.counts.specs.Slots.{map_with}
use Rattle.counts.proofs.Slots.{map_at}
use Rattle.counts.proofs.Tests.{within_both}
use Rattle.pack_profile.specs.declared.Profile.{Profile}
use Rattle.pack_read.specs.declared.Pack.{Pack}
use Rattle.std.specs.Prelude.{Result, Ok, Err}
use Rattle.pack_read.specs.declared.read.Refused.{Refused}
use Rattle.pack_read.specs.Packs.{no_pack, no_packs, fitted_b}
use Rattle.pack_read.specs.Read.{read_all}
use Rattle.drive_record.specs.declared.Body.{Body}
use Rattle.drive_record.specs.declared.State.{State}
use Rattle.drive_record.specs.State.{fresh_of, blank_state}
use Rattle.word_rules.proofs.SectorRoom.{Sized, word_sized}
use Rattle.law_drive.proofs.LastingRules.{condition_size}
use Rattle.event.specs.declared.Event.{Event}
use Rattle.chain_record.specs.declared.Chain.{Chain}
use Rattle.chain_record.specs.Record.{slot_pack, slot_state}
use Rattle.chain_decision.specs.Deeds.{Every}
use Rattle.chain_sound.proofs.SoundSlots.{slot_of, pack_there, state_there}
use Rattle.chain_fit.specs.Fresh.{fresh_slot, blank_states, fitted_of, fresh_fit}
use Rattle.chain_step.specs.Step.{step_of}
use Rattle.event.specs.Numbers.{Numbers}
use Rattle.chain_step.specs.Run.{Lent, lent, run}
use Rattle.law_chain.proofs.Drives.{there}
use Rattle.law_chain.proofs.Lasting.{Leave, Known, step_leaves, run_leaves}

-- the size of a slot of a chain, in a state that comes after
abbrev pub SizedAt : Chain → ℕ → State → Type 0
SizedAt c k s = Sized (slot_pack c.packs k).profile (slot_state c.states k).body.sector s.body.sector

-- of every fitted slot
abbrev pub AllSized : Chain → List State → Type 0
AllSized c states = (k : ℕ) → fitted_b (slot_pack c.packs k) ≡ true → SizedAt c k (slot_state states k)

-- whatever the event, a word alone may set one
abbrev Room : Profile → Body → Body → Type 0
Room p b e = Sized p b.sector e.sector

abbrev Whatever : ℕ → Event → Type 0
Whatever j e = Unit {0}

leave : Leave Room Whatever
leave = record {
  alike = λ p b e same. inl (ap (λ (x : SectorSize × ℕ). x.0) same);
  word = word_sized;
  condition = λ p b slot which q. inl (condition_size which b);
  then = λ p a b c first second. ⊎_elim (λ same. rw same first) inr second;
}

unasked : (events : List Numbers) (j : ℕ) → Every (Known Room Whatever j) events
unasked [] j = tt
unasked (n ∷ rest) j = ((λ e is. tt), unasked rest j)

-- one event, whatever its numbers, the record and the file
pub step_sized : (c : Chain) (file : List ℕ) (n : Numbers) → AllSized c (step_of n.kind n.a n.b c file).chain.states
step_sized c file n k f = step_leaves Room Whatever leave c file k f n (λ e is. tt)

-- any events, on any chain and file
pub run_sized : (events : List Numbers) (d : Lent) → AllSized d.chain (run events d).lent.chain.states
run_sized events d k f = run_leaves Room Whatever leave events d k f (unasked events k)

-- a fresh drive has its pack's size
module _ (packs : List Pack) (k : ℕ) (f : fitted_b (slot_pack packs k) ≡ true) where
  fresh_state : slot_state (map_with fresh_slot packs blank_states) k ≡ fresh_of (slot_pack packs k).profile
  unfolding fresh_slot
  fresh_state =
      let slot = slot_of k packs (eqb-true _ _ f) in
      let seven = within_both 1 7 k slot in
      let listed : (get_or packs (k - 1) no_pack).fitted ≡ 1 = rw (← pack_there k packs slot) (eqb-true _ _ f) in
      state_there k (map_with fresh_slot packs blank_states) slot
      ∙ map_at fresh_slot packs blank_states (k - 1) no_pack blank_state (there packs (k - 1) listed) (omega arith)
      ∙ rw (← pack_there k packs slot, f)

-- so in a fresh chain
size_by : (r : Result (List Pack) Refused) (n k : ℕ) → fitted_b (slot_pack (fitted_of r n).chain.packs k) ≡ true
    → (slot_state (fitted_of r n).chain.states k).body.sector ≡ (slot_pack (fitted_of r n).chain.packs k).profile.shape.sector
size_by (Ok packs) n k f = ap (λ (s : State). s.body.sector) (fresh_state packs k f)
size_by (Err refused) n k f = ap (λ (s : State). s.body.sector) (fresh_state no_packs k f)

-- so from any file: the size in force is the pack's own, or greater than its gaps
module _ (file : List ℕ) where
  abbrev fitted : Chain
  fitted = (fresh_fit file).chain

  fresh_size : (k : ℕ) → fitted_b (slot_pack fitted.packs k) ≡ true
      → (slot_state fitted.states k).body.sector ≡ (slot_pack fitted.packs k).profile.shape.sector
  unfolding fresh_fit
  fresh_size k f = size_by (read_all file) (length file) k f

  pub fitted_sized : (events : List Numbers) (k : ℕ) → fitted_b (slot_pack fitted.packs k) ≡ true
      → Sized (slot_pack fitted.packs k).profile (slot_pack fitted.packs k).profile.shape.sector
      (slot_state (run events (lent fitted file)).lent.chain.states k).body.sector
  fitted_sized events k f = rw (fresh_size k f) at (run_sized events (lent fitted file) k f)
