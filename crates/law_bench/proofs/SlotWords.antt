-- A word given to a slot keeps a sound chain sound, alters nothing but the state of that slot, and sets no size that its gaps fill.
use mathlib.Core.Path.{◌≡◌, refl}
use mathlib.Core.Bool.{true, not}
use mathlib.Core.Logic.{inl}
use Prim.Native.Nat.{ℕ}
use native.Mathlib.Omega.{arith}
use lib.Dec.{ltb, eqb}
use borrow.Author.Tests.{not-false}
use Rattle.counts.specs.Slots.{slot_b}
use Rattle.counts.proofs.Choice.{by_test}
use Rattle.handshake.specs.Transfer.{largest}
use Rattle.pack_read.specs.Packs.{fitted_b}
use Rattle.drive_record.specs.declared.State.{State}
use Rattle.word_rules.specs.Rules.{plain_of}
use Rattle.word_rules.proofs.SectorRoom.{plain_sized}
use Rattle.chain_record.specs.declared.Chain.{Chain}
use Rattle.chain_record.specs.Record.{slot_pack, slot_state}
use Rattle.chain_apply.specs.Apply.{changed_of, applied}
use Rattle.chain_sound.specs.SoundChain.{chain_sound_b}
use Rattle.chain_sound.proofs.SoundSlots.{sound}
use Rattle.law_drive.proofs.WordRules.{plain_keeps}
use Rattle.law_chain.proofs.Drives.{put_other, slot_valid, slot_sound, put_in}
use Rattle.law_chain.proofs.Kept.{one_put}
use Rattle.law_chain.proofs.Sizes as sizes
use Rattle.c_pack.specs.declared.Coded.{Coded}
use Rattle.c_word.specs.Words.{state_in, sent_of, word_at, slot_word}

-- all of a chain but the state of a slot is that of another
pub record OnlySlot (slot : ℕ) (c after : Chain) : Type 0 where
  pub packs : after.packs ≡ c.packs
  pub lines : after.lines ≡ c.lines
  pub long : after.length ≡ c.length
  pub others : (k : ℕ) → (k ≡ slot → ⊥) → slot_state after.states k ≡ slot_state c.states k

module _ (c : Chain) (slot n : ℕ) where
  -- the slot's drive after the word
  abbrev given : State
  given = (plain_of (slot_pack c.packs slot).profile (slot_state c.states slot) n).state

  -- a refusal leaves the chain; else a sound chain has a fitted drive there, which takes the word
  either_left : (P : Chain → Type 0) → P c → (chain_sound_b c ≡ true → fitted_b (slot_pack c.packs slot) ≡ true → P (state_in c slot given))
      → P (slot_word c slot n).lent
  unfolding slot_word word_at sent_of
  either_left P same new =
      let or = by_test (λ (x : Coded Chain). P x.lent) in
      or (not (slot_b slot)) _ _ (λ _. same) λ _.
      or (ltb largest n) _ _ (λ _. same) λ _.
      or (not (chain_sound_b c)) _ _ (λ _. same) λ formed.
      or (not (fitted_b (slot_pack c.packs slot))) _ _ (λ _. same) λ there. new (not-false _ formed) (not-false _ there)

  put_sound : chain_sound_b c ≡ true → fitted_b (slot_pack c.packs slot) ≡ true → chain_sound_b (state_in c slot given) ≡ true
  unfolding applied changed_of
  put_sound h f =
      one_put c h c.lines (sound c h).lines slot given f
      (plain_keeps _ (slot_valid c h slot f) c.lines _ (eqb c.lines.select slot) n (slot_sound c h slot f))
      (λ k g ne. slot_sound c h k g)

  pub word_sound : chain_sound_b c ≡ true → chain_sound_b (slot_word c slot n).lent ≡ true
  word_sound h = either_left (λ (x : Chain). chain_sound_b x ≡ true) h put_sound

  put_only : OnlySlot slot c (state_in c slot given)
  unfolding applied changed_of
  put_only = record { packs = refl; lines = refl; long = refl; others = put_other c.states slot given }

  pub word_only : OnlySlot slot c (slot_word c slot n).lent
  word_only =
      either_left (OnlySlot slot c) (record { packs = refl; lines = refl; long = refl; others = λ k ne. refl }) (λ h f. put_only)

  put_sized : chain_sound_b c ≡ true → fitted_b (slot_pack c.packs slot) ≡ true → sizes.AllSized c (state_in c slot given).states
  unfolding applied changed_of
  put_sized h f k g =
      put_in c h (sizes.SizedAt c) c.states (omega arith) slot given f (plain_sized (slot_pack c.packs slot).profile (slot_state c.states slot) n) k
      (λ ne. inl refl)

  -- request 8
  pub slot_sized : sizes.AllSized c (slot_word c slot n).lent.states
  slot_sized = either_left (λ (x : Chain). sizes.AllSized c x.states) (λ k f. inl refl) put_sized
