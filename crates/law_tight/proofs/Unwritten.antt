-- A chain that writes no cell does not leave what its answer tells: seen on a drive that is writing.
use mathlib.Core.Path.{◌≡◌, refl, ap, ◌∙◌}
use mathlib.Core.Bool.{true}
use mathlib.Core.List.{List}
use Prim.Native.Nat.{ℕ}
use native.Mathlib.Omega.{arith}
use lib.ListN.{get_or, set}
use Rattle.std.specs.Prelude.{Ok}
use Rattle.pack_profile.specs.Valid.{valid_b}
use Rattle.handshake.specs.SoundTransfer.{left_b}
use Rattle.drive_record.specs.Limits.{limits_b}
use Rattle.drive_record.specs.Status.{complete_b}
use Rattle.drive_gates.specs.Gates.{usable_b}
use Rattle.drive_gates.specs.CellPlace.{place_of}
use Rattle.drive_cable.specs.SoundDrive.{writing_b, reading_b, selected_b, drive_sound_b}
use Rattle.event.specs.declared.Event.{Event}
use Rattle.event.specs.declared.Event.TheVariants.{Cell}
use Rattle.event.specs.Decode.{ranged, kind_row, decode_of}
use Rattle.event.specs.declared.Answer.TheVariants.{Written}
use Rattle.chain_record.specs.Record.{slot_pack, slot_state, look_of}
use Rattle.chain_decision.specs.Deeds.{spot_place}
use Rattle.chain_others.specs.Cell.{cell_event}
use Rattle.chain_decide.specs.Decide.{decide_of}
use Rattle.chain_sound.specs.SoundChain.{placed_of, drive_b, chain_sound_b}
use Rattle.chain_judge.specs.Judge.{allowed_of, judged_of}
use Rattle.chain_step.specs.Step.{step_of}
use Rattle.law_chain.specs.Column.{met_place}
use Rattle.law_tight.specs.WrongChains.{writes_nothing, LeavesAsTold}
use Rattle.law_tight.specs.Writing.{writing_chain, zero_file}

-- the byte 65 at position 0
abbrev cell : Event
cell = Cell (record { 0 = 0 }) 65

decodes : decode_of 7 0 65 ≡ Ok cell
unfolding decode_of kind_row ranged
decodes = refl

formed : chain_sound_b writing_chain ≡ true
unfolding chain_sound_b placed_of drive_b drive_sound_b selected_b writing_b reading_b usable_b complete_b limits_b valid_b left_b
formed = refl

answered : (step_of 7 0 65 writing_chain zero_file).answer ≡ Written
unfolding step_of judged_of allowed_of decode_of kind_row ranged decide_of cell_event look_of slot_pack slot_state
answered = rw formed

at_0 : met_place writing_chain (record { 0 = 0 }) ≡ 0
unfolding spot_place place_of look_of slot_pack slot_state
at_0 = refl

pub writes_nothing_refuted : LeavesAsTold writes_nothing → ⊥
writes_nothing_refuted leaves =
    let told = rw answered at (leaves writing_chain zero_file 7 0 65 cell decodes) in
    let wrote = told.0 in
    let where-is : wrote.position ≡ record { 0 = 0 } = cc wrote.cell in
    let byte-is : wrote.byte ≡ 65 = cc wrote.cell in
    let put : zero_file ≡ set zero_file 0 65 =
    wrote.holds ∙ (λ i. set zero_file (met_place writing_chain (where-is i)) (byte-is i)) ∙ ap (λ (k : ℕ). set zero_file k 65) at_0 in
    let z : ◌≡◌ {A = ℕ} 0 65 = ap (λ (l : List ℕ). get_or l 0 0) put in omega arith
