-- The chain around its selected drive: a signal is what the unit makes of it, and the time that passes on the others.
use Prim.Native.Nat.{ℕ, ◌+◌, ◌-◌}
use mathlib.Core.Path.{◌≡◌, refl, sym, ap, ap₂, ◌∙◌}
use mathlib.Core.Bool.{Bool, true, false}
use mathlib.Core.List.{List}
use lib.Dec.{eqb}
use lib.ListN.{length, get_or, set}
use lib.Seq.{get_or-set_same, set-set}
use borrow.Author.Tests.{eqb-true, eq-eqb}
use Rattle.counts.specs.Slots.{map_with}
use Rattle.counts.proofs.Slots.{map_long, map_set, map_map}
use Rattle.handshake.specs.Transfer.{status_line}
use Rattle.pack_read.specs.Packs.{no_pack}
use Rattle.drive_record.specs.declared.Body.{Body}
use Rattle.drive_record.specs.declared.State.{State}
use Rattle.drive_record.specs.State.{blank_state, state_of}
use Rattle.lines.specs.declared.Lines.{Lines}
use Rattle.drive_cable.specs.Request.{gated_b}
use Rattle.event.specs.Answer.{answer_number}
use Rattle.chain_record.specs.declared.Chain.{Chain}
use Rattle.chain_decision.specs.declared.Decision.{Decision}
use Rattle.chain_record.specs.declared.Seen.{Seen}
use Rattle.chain_record.specs.Record.{slot_state, look_of}
use Rattle.chain_decision.specs.Decision.{heard_of}
use Rattle.lines.specs.Lines.{with_command, with_request}
use Rattle.chain_lines.specs.Signals.{signal_of, data_event, request_event}
use Rattle.chain_decision.specs.Deeds.{said_of, file_after}
use Rattle.chain_others.specs.Passing as kinds
use Rattle.chain_decide.specs.Decide.{decide_of}
use Rattle.chain_apply.specs.Apply.{put_of, pass_slot, changed_of, applied}
use Rattle.chain_sound.proofs.SoundSlots.{state_there}
use Rattle.law_exchange.specs.Host.{Signal, level, ask, micros}
use Rattle.law_exchange.specs.Unit.{Met, Wired, unit_risen, unit_fallen, unit_passed, asked, after, answer, unit}
use Rattle.law_exchange.proofs.Like.{Alike}
use Rattle.law_words.specs.Drive.{drive}
use Rattle.chain_step.specs.Run.{Lent}
use Rattle.law_words.specs.Decided.{decided}
use Rattle.law_words.proofs.Meets.{stood, rise_state, rise_answer, fall_state, fall_answer, pass_state, pass_answer, slot_pass_pass}
use Rattle.law_words.proofs.Here.{Here}

module _ (c : Chain) (file : List ℕ) where
  -- every slot when so much time has passed
  abbrev pub slots : ℕ → List State
  slots us = map_with (pass_slot (record { 0 = us })) c.packs c.states

  -- those slots with a state put into the selected one, and the lines that the host has moved
  abbrev pub chain_of : List State → State → ℕ → ℕ → Chain
  chain_of states s command request = record {
    packs = c.packs;
    states = set states (c.lines.select - 1) s;
    lines = with_request request (with_command command c.lines);
    length = c.length;
  }

  abbrev pub around : Wired Body → Lent
  around u = record { chain = chain_of (slots u.elapsed) (state_of u.body u.transfer) u.command u.request; file = file }

  -- what is seen of it
  abbrev sight : State → Seen
  sight s = record { selected = true; profile = (look_of c).profile; state = s }

  module _ (h : Here c c.lines.select) (on : (look_of c).selected ≡ true) (writes : c.lines.writegate ≡ 0) (reads : c.lines.readgate ≡ 0) where
    put_there : (us : ℕ) (s : State) → slot_state (set (slots us) (c.lines.select - 1) s) c.lines.select ≡ s
    put_there us s =
        let long : length (slots us) ≡ length c.states = map_long (pass_slot (record { 0 = us })) c.packs c.states in
        state_there c.lines.select _ h.slot
        ∙ get_or-set_same (slots us) (c.lines.select - 1) s blank_state (rw long h.states)

    pub seen : (u : Wired Body) → look_of (around u).chain ≡ sight (state_of u.body u.transfer)
    unfolding look_of
    seen u = λ i. record {
      selected = on i;
      profile = (look_of c).profile;
      state = put_there u.elapsed (state_of u.body u.transfer) i;
    }

    off : (u : Wired Body) → gated_b (around u).chain.lines ≡ false
    off u = rw (writes, reads)

    -- a decision carried out
    abbrev obeyed : Wired Body → Decision → Lent
    obeyed u x = record { chain = applied (around u).chain x; file = file_after c.packs x.deed file }

    abbrev said : Decision → ℕ
    said x = answer_number (said_of c.packs x.deed file)

    -- kind 4
    level_after : (v : ℕ) (u : Wired Body) → decided.after (level v) (around u) ≡ around (after (drive (look_of c).profile) (level v) u)
    unfolding decide_of heard_of applied changed_of
    level_after v u = ap (λ (d : Seen). obeyed u (data_event d (around u).chain.lines v)) (seen u)

    level_answer : (v : ℕ) (u : Wired Body) → decided.answer (level v) (around u) ≡ 0
    unfolding decide_of heard_of
    level_answer v u = ap (λ (d : Seen). said (data_event d (around u).chain.lines v)) (seen u)

    -- a state put into the selected slot
    put_again : (us : ℕ) (s t : State) → put_of (set (slots us) (c.lines.select - 1) s) c.lines.select t ≡ set (slots us) (c.lines.select - 1) t
    unfolding put_of
    put_again us s t = rw h.slot (set-set (slots us) (c.lines.select - 1) s t)

    module _ (u : Wired Body) where
      abbrev state : State
      state = state_of u.body u.transfer

      abbrev lines : Lines
      lines = (around u).chain.lines

      -- the slots with a rule applied to the selected drive
      ruled : (s : State) (m : Met Body) → s ≡ stood m
          → put_of (set (slots u.elapsed) (c.lines.select - 1) state) c.lines.select s ≡ set (slots u.elapsed) (c.lines.select - 1) (stood m)
      ruled s m e = put_again u.elapsed state s ∙ ap (set (slots u.elapsed) (c.lines.select - 1)) e

      abbrev put : List State → ℕ → Lent
      put states v = record { chain = record { packs = c.packs; states = states; lines = with_request v lines; length = c.length }; file = file }

      -- kind 5
      ask_after : (v : ℕ) (same high : Bool) → eqb u.request v ≡ same → eqb v 1 ≡ high
          → obeyed u (request_event (sight state) lines v) ≡ around (after (drive (look_of c).profile) (ask v) u)
      unfolding signal_of heard_of applied changed_of
      ask_after v true high e f =
          let is : u.request ≡ v = eqb-true u.request v e in
          rw e (λ i. record { chain = chain_of (slots u.elapsed) state u.command (is i); file = file })
      ask_after v false true e f =
          rw (e, f)
          (ap (λ (states : List State). put states v)
          (ruled _ (unit_risen (drive (look_of c).profile) u) (rise_state (look_of c).profile u lines (off u) refl)))
      ask_after v false false e f =
          rw (e, f)
          (ap (λ (states : List State). put states v)
          (ruled _ (unit_fallen (drive (look_of c).profile) u) (fall_state (look_of c).profile u)))

      ask_answer : (v : ℕ) (same high : Bool) → eqb u.request v ≡ same → eqb v 1 ≡ high
          → said (request_event (sight state) lines v) ≡ answer (drive (look_of c).profile) (ask v) u
      unfolding signal_of heard_of
      ask_answer v true high e f =
          let same : (asked (drive (look_of c).profile) v u).answer ≡ 0 = rw e in
          rw e (sym same)
      ask_answer v false true e f =
          let edge : asked (drive (look_of c).profile) v u ≡ unit_risen (drive (look_of c).profile) u = rw (e, f) in
          rw (e, f) (rise_answer (look_of c).profile u lines (off u) refl ∙ sym (ap (λ (m : Met Body). m.answer) edge))
      ask_answer v false false e f =
          let edge : asked (drive (look_of c).profile) v u ≡ unit_fallen (drive (look_of c).profile) u = rw (e, f) in
          rw (e, f) (fall_answer (look_of c).profile u ∙ sym (ap (λ (m : Met Body). m.answer) edge))

      -- kind 6
      fitted_pass : (us : ℕ) → pass_slot (record { 0 = us }) (get_or c.packs (c.lines.select - 1) no_pack) state
          ≡ stood (unit_passed (drive (look_of c).profile) us u)
      unfolding pass_slot
      fitted_pass us = rw (eq-eqb _ 1 h.fitted) (pass_state (look_of c).profile u us)

      slots_pass : (us : ℕ) → map_with (pass_slot (record { 0 = us })) c.packs (set (slots u.elapsed) (c.lines.select - 1) state)
          ≡ set (slots (u.elapsed + us)) (c.lines.select - 1) (stood (unit_passed (drive (look_of c).profile) us u))
      slots_pass us =
          map_set (pass_slot (record { 0 = us })) c.packs (slots u.elapsed) (c.lines.select - 1) no_pack state h.packs
          ∙ ap₂ (λ (states : List State) (s : State). set states (c.lines.select - 1) s)
          (map_map (pass_slot (record { 0 = u.elapsed })) (pass_slot (record { 0 = us })) (pass_slot (record { 0 = u.elapsed + us }))
          (slot_pass_pass u.elapsed us) c.packs c.states)
          (fitted_pass us)

      pass_after : (us : ℕ) → obeyed u (kinds.pass_event (sight state) lines (record { 0 = us })) ≡ around (after (drive (look_of c).profile) (micros us) u)
      unfolding kinds.pass_event applied changed_of
      pass_after us = ap (λ (states : List State). put states u.request) (slots_pass us)

      pass_said : (us : ℕ) → said (kinds.pass_event (sight state) lines (record { 0 = us })) ≡ answer (drive (look_of c).profile) (micros us) u
      unfolding kinds.pass_event
      pass_said us = pass_answer (look_of c).profile u us

    -- the chain does what its selected drive does, and all others pass the time
    follows : (e : Signal) (u : Wired Body) → decided.after e (around u) ≡ around (after (drive (look_of c).profile) e u)
    unfolding decide_of
    follows (level v) u = level_after v u
    follows (ask v) u =
        ap (λ (d : Seen). obeyed u (request_event d (lines u) v)) (seen u) ∙ ask_after u v (eqb u.request v) (eqb v 1) refl refl
    follows (micros us) u = ap (λ (d : Seen). obeyed u (kinds.pass_event d (lines u) (record { 0 = us }))) (seen u) ∙ pass_after u us

    says : (e : Signal) (u : Wired Body) → decided.answer e (around u) ≡ answer (drive (look_of c).profile) e u
    unfolding decide_of
    says (level v) u = level_answer v u
    says (ask v) u = ap (λ (d : Seen). said (request_event d (lines u) v)) (seen u) ∙ ask_answer u v (eqb u.request v) (eqb v 1) refl refl
    says (micros us) u = ap (λ (d : Seen). said (kinds.pass_event d (lines u) (record { 0 = us }))) (seen u) ∙ pass_said u us

    abbrev pub Like : Wired Body → Lent → Type 0
    Like u d = around u ≡ d

    abbrev pub Fine : Signal → Type 0
    Fine e = Unit

    pub alike : Alike (unit (drive (look_of c).profile)) decided Like Fine
    alike = record {
      levels = λ x. tt;
      edges = λ x. tt;
      after = λ e u d f l. sym (follows e u) ∙ ap (decided.after e) l;
      answer = λ e u d f l. sym (says e u) ∙ ap (decided.answer e) l;
      acknowledged = λ u d l. sym (ap (λ (s : Seen). eqb s.state.transfer.acknowledge 1) (seen u)) ∙ ap decided.acknowledged l;
      responds = λ u d l. sym (ap (λ (s : Seen). eqb s.state.transfer.way 2) (seen u)) ∙ ap decided.responds l;
      status = λ u d l. sym (ap (λ (s : Seen). status_line s.state.transfer) (seen u)) ∙ ap decided.status l;
    }
