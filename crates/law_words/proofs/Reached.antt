-- Demand 3's premises can be met: any sound chain is brought to rest on any fitted slot by five events.
use Rattle.std.specs.Prelude.{None}
use mathlib.Core.Path.{◌≡◌, refl, ap, ◌∙◌}
use mathlib.Core.Bool.{true, false}
use Prim.Native.Nat.{ℕ, ◌-◌, ◌≤◌}
use native.Mathlib.Omega.{arith}
use lib.Dec.{eqb}
use borrow.Author.Tests.{ne_eqb, le-leb}
use Rattle.std.specs.Prelude.{Ok}
use Rattle.counts.specs.declared.Head.{Head}
use Rattle.counts.proofs.Choice.{either_way}
use Rattle.counts.proofs.Tests.{both, within_both}
use Rattle.pack_profile.specs.declared.Profile.{Profile}
use Rattle.pack_read.specs.Packs.{fitted_b}
use Rattle.handshake.specs.declared.Transfer.{Transfer}
use Rattle.handshake.specs.Transfer.{open_b}
use Rattle.handshake.specs.SoundTransfer.{none_b, idle_b}
use Rattle.drive_record.specs.declared.State.{State}
use Rattle.drive_record.specs.declared.Ruled.{Ruled}
use Rattle.drive_rules.specs.Heads.{head_change, met_of}
use Rattle.event.specs.declared.Event.TheVariants.{Select, WriteGate, ReadGate, Request}
use Rattle.event.specs.Decode.{ranged, level_line, kind_row, decode_of}
use Rattle.lines.specs.declared.Lines.{Lines}
use Rattle.lines.specs.Lines.{with_select, with_writegate, with_readgate, with_request}
use Rattle.chain_record.specs.declared.Chain.{Chain}
use Rattle.chain_record.specs.Record.{slot_pack, slot_state, look_of}
use Rattle.chain_decision.specs.declared.Decision.{Decision}
use Rattle.chain_decision.specs.Decision.{ruled_of}
use Rattle.chain_select.specs.Select.{moved_of}
use Rattle.chain_apply.specs.Apply.{changed_of, applied}
use Rattle.chain_decide.specs.Decide.{select_event, decide_of}
use Rattle.chain_sound.specs.SoundChain.{chain_sound_b}
use Rattle.chain_step.specs.Run.{Lent, lent_after, run}
use Rattle.law_drive.proofs.SoundDrives.{unselected}
use Rattle.law_chain.specs.SoundOver.{SoundOver}
use Rattle.law_chain.proofs.Drives.{put_same, is_slot, slot_room, slot_sound}
use Rattle.law_chain.proofs.Run.{step_sound}
use Rattle.law_chain.proofs.Stepping.{step_decides, step_only}
use Rattle.law_words.specs.Decided.{drive_of}
use Rattle.law_words.specs.AtOnce.{Resting}
use Rattle.law_words.specs.Rest.{line_event, rest_events}

-- the head lines never touch a transfer
met_transfer : (p : Profile) (h : Head) (s : State) → (met_of p h s).state.transfer ≡ s.transfer
unfolding met_of head_change
met_transfer p h s =
    either_way (λ (r : Ruled). r.state.transfer ≡ s.transfer) (eqb s.body.head.0 h.0) refl
    (either_way (λ (r : Ruled). r.state.transfer ≡ s.transfer) (eqb s.body.writing 1) refl refl)

none_closed : (t : Transfer) → none_b t ≡ true → open_b t ≡ false
none_closed t h = rw (both (eqb t.way 0) (idle_b t) h).0

-- a slot entered with no drive selected before
module _ (c : Chain) (h : chain_sound_b c ≡ true) (k : ℕ) (f : fitted_b (slot_pack c.packs k) ≡ true) (none : c.lines.select ≡ 0) where
  apart : c.lines.select ≡ k → ⊥
  apart e = let w = within_both 1 7 k (is_slot c h k f) in omega arith

  off : (look_of c).selected ≡ false
  unfolding look_of slot_pack
  off = rw none

  enters : decide_of c (Select k)
      ≡ ruled_of (with_select k c.lines) None (met_of (slot_pack c.packs k).profile c.lines.heads (slot_state c.states k))
  unfolding decide_of select_event moved_of
  enters = rw (ne_eqb c.lines.select k apart, f, off)

  entered : drive_of (applied c (decide_of c (Select k))) ≡ (met_of (slot_pack c.packs k).profile c.lines.heads (slot_state c.states k)).state
  unfolding applied changed_of look_of
  entered = ap (λ (x : Decision). drive_of (applied c x)) enters ∙ put_same c.states k _ (is_slot c h k f) (slot_room c h k f)

  entered_closed : open_b (drive_of (applied c (decide_of c (Select k)))).transfer ≡ false
  entered_closed =
      let u = unselected (slot_pack c.packs k).profile c.lines (slot_state c.states k) (rw (ne_eqb c.lines.select k apart) at (slot_sound c h k f)) in
      rw (entered, met_transfer (slot_pack c.packs k).profile c.lines.heads (slot_state c.states k)) (none_closed (slot_state c.states k).transfer u.none)

module _ (k : ℕ) (d : Lent) (s : SoundOver d) (f : fitted_b (slot_pack d.chain.packs k) ≡ true) where
  abbrev d1 : Lent
  d1 = lent_after (line_event 0 0) d

  abbrev d2 : Lent
  d2 = lent_after (line_event 2 0) d1

  abbrev d3 : Lent
  d3 = lent_after (line_event 3 0) d2

  abbrev d4 : Lent
  d4 = lent_after (line_event 5 0) d3

  small : k ≤ 7
  small = let w = within_both 1 7 k (is_slot d.chain s.formed k f) in omega arith

  decodes : decode_of 0 k 0 ≡ Ok (Select k)
  unfolding decode_of kind_row ranged
  decodes = rw (le-leb k 7 small)

  pub rest_reached : Resting (run (rest_events k) d).lent.chain
  unfolding decode_of kind_row ranged level_line look_of
  rest_reached =
      let s1 = step_sound (line_event 0 0) d s in
      let s2 = step_sound (line_event 2 0) d1 s1 in
      let s3 = step_sound (line_event 3 0) d2 s2 in
      let s4 = step_sound (line_event 5 0) d3 s3 in
      let o1 = step_only (line_event 0 0) d (Select 0) refl s in
      let o2 = step_only (line_event 2 0) d1 (WriteGate 0) refl s1 in
      let o3 = step_only (line_event 3 0) d2 (ReadGate 0) refl s2 in
      let o4 = step_only (line_event 5 0) d3 (Request 0) refl s3 in
      let o5 = step_only (line_event 0 k) d4 (Select k) decodes s4 in
      let lines4 = o4.lines ∙ ap (with_request 0) (o3.lines ∙ ap (with_readgate 0) (o2.lines ∙ ap (with_writegate 0) o1.lines)) in
      let lines5 = o5.lines ∙ ap (with_select k) lines4 in
      let packs4 = o4.packs ∙ o3.packs ∙ o2.packs ∙ o1.packs in
      let f4 : fitted_b (slot_pack d4.chain.packs k) ≡ true = rw packs4 f in
      let f5 : fitted_b (slot_pack (lent_after (line_event 0 k) d4).chain.packs k) ≡ true = rw o5.packs f4 in
      record {
        sound = (step_sound (line_event 0 k) d4 s4).formed;
        selected = rw (ap (λ (m : Lines). m.select) lines5) f5;
        writegate = ap (λ (m : Lines). m.writegate) lines5;
        readgate = ap (λ (m : Lines). m.readgate) lines5;
        request = ap (λ (m : Lines). m.request) lines5;
        closed = rw (step_decides (line_event 0 k) d4 (Select k) decodes s4) (entered_closed d4.chain s4.formed k f4 (ap (λ (m : Lines). m.select) lines4));
      }
