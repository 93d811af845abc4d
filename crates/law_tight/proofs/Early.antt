-- Ours keeps demand 3. A chain that acts on the first bit, and one that carries out no word, do not: control 0 leaves bit 8 of a fresh drive.
use mathlib.Core.Path.{◌≡◌, refl, sym, ap, ◌∙◌}
use mathlib.Core.Bool.{Bool, true, false}
use mathlib.Core.List.{List, [], ◌∷◌}
use Prim.Native.Nat.{ℕ}
use native.Mathlib.Omega.{arith}
use lib.Count.{ones_in}
use lib.ListN.{get_or}
use Rattle.pack_profile.specs.Valid.{valid_b}
use Rattle.handshake.specs.Edges.{rise_of, fall_of, late_b, wait_of}
use Rattle.handshake.specs.SoundTransfer.{left_b}
use Rattle.drive_record.specs.State.{blank_state}
use Rattle.drive_record.specs.Faults.{latch_of}
use Rattle.drive_record.specs.Limits.{limits_b}
use Rattle.drive_record.specs.Status.{complete_b}
use Rattle.drive_rules.specs.Time.{motor_after, pass_body, pass_drive}
use Rattle.drive_gates.specs.Gates.{usable_b}
use Rattle.drive_cable.specs.Request.{request_rises, request_falls}
use Rattle.drive_cable.specs.SoundDrive.{writing_b, reading_b, selected_b, drive_sound_b}
use Rattle.word_acts.specs.Acts.{left_latched, acted_of}
use Rattle.word_table.specs.Word.{odd_b}
use Rattle.word_table.specs.Table.{row_of, found_of}
use Rattle.word_table.specs.Effect.{option_b, operand_b, blocked_b, act_of, order_of, effect_of}
use Rattle.word_rules.specs.Rules.{done_of, carry_of, plain_of}
use Rattle.chain_record.specs.Record.{slot_pack, slot_state, look_of}
use Rattle.chain_decision.specs.Decision.{heard_of}
use Rattle.chain_lines.specs.Signals.{signal_of}
use Rattle.chain_others.specs.Passing.{pass_event}
use Rattle.chain_apply.specs.Apply.{put_of, pass_slot, changed_of, applied}
use Rattle.chain_decide.specs.Decide.{decide_of}
use Rattle.chain_sound.specs.SoundChain.{placed_of, drive_b, chain_sound_b}
use Rattle.chain_step.specs.Run.{Lent, lent}
use Rattle.law_exchange.specs.Host.{Sending, Exchanged, exchanges}
use Rattle.law_exchange.proofs.Bits.{promptly, any_bits}
use Rattle.law_words.specs.AtOnce.{Resting, at_once}
use Rattle.law_words.specs.Decided.{decided}
use Rattle.law_words.proofs.Demand.{demand_3}
use Rattle.law_tight.specs.FirstBit.{acts_on_first_bit, carries_nothing, WordsAtOnce, fresh_chain}

pub ours_at_once : WordsAtOnce decided
ours_at_once w d fit r = demand_3 w d fit r

-- 5000h and its parity, the highest bit first
abbrev later : List Bool
later = true ∷ false ∷ true ∷ false ∷ false ∷ false ∷ false ∷ false ∷ false ∷ false ∷ false ∷ false ∷ false ∷ false ∷ false ∷ true ∷ []

abbrev clears : Sending
clears = promptly false later

abbrev start : Lent
start = lent fresh_chain []

abbrev latched_after : Exchanged Lent → ℕ
latched_after x = (get_or x.now.chain.states 0 blank_state).body.latched.0

resting : Resting fresh_chain
unfolding chain_sound_b placed_of drive_b drive_sound_b selected_b writing_b reading_b usable_b complete_b limits_b valid_b left_b look_of slot_pack slot_state
resting = record { sound = refl; selected = refl; writegate = refl; readgate = refl; request = refl; closed = refl }

at_once_clear : latched_after (at_once clears start) ≡ 0
unfolding ones_in decide_of pass_event applied changed_of put_of pass_slot pass_drive pass_body motor_after wait_of late_b look_of slot_pack slot_state complete_b plain_of carry_of done_of effect_of order_of found_of row_of odd_b option_b operand_b blocked_b act_of left_latched acted_of latch_of
at_once_clear = refl

-- the first bit alone is a word of even parity: bit 7; the word itself is never carried out
early_latched : latched_after (exchanges acts_on_first_bit clears start) ≡ 384
unfolding ones_in decide_of signal_of heard_of request_rises request_falls rise_of fall_of applied changed_of put_of look_of slot_pack slot_state complete_b carry_of done_of effect_of order_of found_of row_of odd_b option_b operand_b blocked_b act_of acted_of latch_of
early_latched = refl

pub first_bit_refuted : WordsAtOnce acts_on_first_bit → ⊥
first_bit_refuted demanded =
    let fit = (any_bits false later 0 refl).0 in
    let same = demanded clears start fit resting in
    let z : ◌≡◌ {A = ℕ} 384 0 = sym early_latched ∙ ap latched_after same ∙ at_once_clear in omega arith

idle_latched : latched_after (exchanges carries_nothing clears start) ≡ 256
unfolding ones_in decide_of signal_of heard_of request_rises request_falls rise_of fall_of applied changed_of put_of look_of slot_pack slot_state complete_b carry_of done_of effect_of order_of found_of row_of odd_b option_b operand_b blocked_b act_of acted_of latch_of
idle_latched = refl

pub carries_nothing_refuted : WordsAtOnce carries_nothing → ⊥
carries_nothing_refuted demanded =
    let fit = (any_bits false later 0 refl).0 in
    let z : ◌≡◌ {A = ℕ} 256 0 = sym idle_latched ∙ ap latched_after (demanded clears start fit resting) ∙ at_once_clear in omega arith
