-- Time as laws, on a whole chain: how it splits, when it changes nothing, and when a drive is complete after it.
use Prim.Native.Nat.{ℕ, ◌+◌, ◌-◌, ◌≤◌}
use native.Mathlib.Omega.{arith}
use mathlib.Core.Path.{◌≡◌, refl, sym, ap, ◌∙◌}
use mathlib.Core.Bool.{true, false}
use mathlib.Core.List.{List, [], ◌∷◌, map}
use lib.ListN.{length}
use borrow.Author.Tests.{eq-eqb}
use Rattle.counts.proofs.Slots.{map_map, map_at}
use Rattle.handshake.specs.Transfer.{open_b}
use Rattle.pack_read.specs.Packs.{no_pack}
use Rattle.drive_record.specs.declared.State.{State}
use Rattle.drive_record.specs.State.{blank_state}
use Rattle.drive_record.specs.Status.{complete_b}
use Rattle.drive_rules.specs.Time as time
use Rattle.law_drive.proofs.DriveTime.{complete_after}
use Rattle.chain_record.specs.declared.Chain.{Chain}
use Rattle.chain_record.specs.Record.{slot_pack, slot_state}
use Rattle.pack_read.specs.Packs.{fitted_b}
use Rattle.chain_others.specs.Passing as kinds
use Rattle.chain_decide.specs.Decide.{decide_of}
use Rattle.chain_apply.specs.Apply.{pass_slot, changed_of, applied}
use Rattle.chain_sound.specs.SoundChain.{chain_sound_b}
use Rattle.chain_sound.proofs.SoundSlots.{state_there}
use Rattle.law_exchange.specs.Host.{micros, Still, waits, Going, going, sends, goes}
use Rattle.law_exchange.specs.Waits.{time_of}
use Rattle.chain_step.specs.Run.{Lent}
use Rattle.law_words.specs.Decided.{decided}
use Rattle.law_words.specs.AtOnce.{passed}
use Rattle.law_words.proofs.Meets.{slot_pass_pass}
use Rattle.law_words.proofs.Here.{there, none_passes}

-- every chain, open transfers included
pub time_splits : (s t : ℕ) (c : Chain) → passed t (passed s c) ≡ passed (s + t) c
unfolding applied changed_of decide_of kinds.pass_event
time_splits s t c = λ i. record {
  packs = c.packs;
  states = map_map (pass_slot (record { 0 = s })) (pass_slot (record { 0 = t })) (pass_slot (record { 0 = s + t })) (slot_pass_pass s t) c.packs c.states i;
  lines = c.lines;
  length = c.length;
}

pub no_time_lem : (c : Chain) → chain_sound_b c ≡ true → passed 0 c ≡ c
unfolding applied changed_of decide_of kinds.pass_event
no_time_lem c h = λ i. record { packs = c.packs; states = none_passes c h i; lines = c.lines; length = c.length }

abbrev lent : Chain → List ℕ → Lent
lent c file = record { chain = c; file = file }

one_pass : (us : ℕ) (c : Chain) (file log : List ℕ)
    → sends decided (micros us) (going (lent c file) log) ≡ going (lent (passed us c) file) (decided.answer (micros us) (lent c file) ∷ log)
unfolding decide_of kinds.pass_event
one_pass us c file log = refl

abbrev waiting : List ℕ → List Still
waiting ws = map (λ (us : ℕ). waits us) ws

passes_on : (ws : List ℕ) (s : ℕ) (c : Chain) (file log : List ℕ)
    → (goes decided (waiting ws) (going (lent (passed s c) file) log)).now ≡ lent (passed (s + time_of (waiting ws)) c) file
passes_on [] s c file log = let none : s + 0 ≡ s = omega arith in λ i. lent (passed (sym none i) c) file
passes_on (w ∷ ws) s c file log =
    let all : s + w + time_of (waiting ws) ≡ s + (w + time_of (waiting ws)) = omega arith in
    let more : List ℕ = decided.answer (micros w) (lent (passed s c) file) ∷ log in
    ap (λ (g : Going Lent). (goes decided (waiting ws) g).now)
    (one_pass w (passed s c) file log ∙ (λ i. going (lent (time_splits s w c i) file) more))
    ∙ passes_on ws (s + w) c file more
    ∙ (λ i. lent (passed (all i) c) file)

-- a list of passing events on a sound chain is their sum
pub waits_pass : (ws : List ℕ) (c : Chain) (file log : List ℕ) → chain_sound_b c ≡ true
    → (goes decided (waiting ws) (going (lent c file) log)).now ≡ lent (passed (time_of (waiting ws)) c) file
waits_pass ws c file log h =
    let all : 0 + time_of (waiting ws) ≡ time_of (waiting ws) = omega arith in
    ap (λ (c' : Chain). (goes decided (waiting ws) (going (lent c' file) log)).now) (sym (no_time_lem c h))
    ∙ passes_on ws 0 c file log
    ∙ (λ i. lent (passed (all i) c) file)

-- with no transfer open an untouched drive is complete once its greater timer has passed
module _ (c : Chain) (h : chain_sound_b c ≡ true) (k us : ℕ) (fitted : fitted_b (slot_pack c.packs k) ≡ true) where
  in_slot_lem : slot_state (passed us c).states k ≡ (time.pass_drive (record { 0 = us }) (slot_state c.states k)).state
  unfolding applied changed_of decide_of kinds.pass_event pass_slot
  in_slot_lem =
      let at = there c k h fitted in
      state_there k _ at.slot
      ∙ map_at (pass_slot (record { 0 = us })) c.packs c.states (k - 1) no_pack blank_state at.packs at.states
      ∙ rw (eq-eqb _ 1 at.fitted) (ap (λ (s : State). (time.pass_drive (record { 0 = us }) s).state) (sym (state_there k c.states at.slot)))

  pub complete_in_time : open_b (slot_state c.states k).transfer ≡ false
      → (slot_state c.states k).body.timers.busy.0 ≤ us → (slot_state c.states k).body.timers.head.0 ≤ us
      → complete_b (slot_state (passed us c).states k) ≡ true
  complete_in_time closed busy head =
      ap complete_b in_slot_lem ∙ complete_after (record { 0 = us }) (slot_state c.states k) closed busy head
