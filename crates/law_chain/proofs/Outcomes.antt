-- Which rules can be inhibited, and what an inhibited rule leaves.
use Rattle.handshake.specs.declared.Transfer.{Transfer}
use mathlib.Core.Path.{◌≡◌, refl}
use mathlib.Core.Bool.{Bool, true, false, ◌||◌, not}
use Prim.Native.Nat.{ℕ}
use lib.Dec.{eqb}
use Rattle.counts.specs.declared.Head.{Head}
use Rattle.counts.specs.declared.Micros.{Micros}
use Rattle.std.specs.Prelude.{if◌then◌else◌, Option, Some, None, Result, Ok, Err}
use Rattle.counts.proofs.Choice.{either_way, never}
use Rattle.pack_profile.specs.declared.Profile.{Profile}
use Rattle.handshake.specs.declared.Fallen.{Fallen}
use Rattle.handshake.specs.declared.Fallen.TheVariants as fallen
use Rattle.handshake.specs.Transfer.{open_b}
use Rattle.handshake.specs.Edges.{wait_of, rise_of, fall_of}
use Rattle.drive_record.specs.declared.Body.{Body}
use Rattle.drive_record.specs.declared.State.{State}
use Rattle.drive_record.specs.declared.Outcome.TheVariants.{Done, Inhibited, Fault}
use Rattle.drive_record.specs.declared.Ruled.{Ruled}
use Rattle.drive_record.specs.State.{ruled}
use Rattle.drive_record.specs.Faults.{held_of}
use Rattle.drive_record.specs.Status.{attention_b, calm_b}
use Rattle.drive_gates.specs.Gates.{usable_b, write_rises, read_rises, read_falls}
use Rattle.drive_rules.specs.Heads.{head_change, met_of}
use Rattle.drive_rules.specs.DriveLeft.{left_of}
use Rattle.drive_rules.specs.Time.{pass_body, pass_drive}
use Rattle.word_table.specs.declared.Effect.{Effect}
use Rattle.word_table.specs.declared.Effect.TheVariants.{Status, Configuration, Does}
use Rattle.word_table.specs.declared.WordFault.{WordFault}
use Rattle.word_table.specs.Effect.{effect_of}
use Rattle.word_rules.specs.Rules.{done_of, carry_of}
use Rattle.lines.specs.declared.Lines.{Lines}
use Rattle.drive_cable.specs.Request.{gated_b, request_rises, fallen_of, request_falls}

-- "inhibited, nothing latched": the drive is as it was
abbrev pub Unlatched : State → Ruled → Type 0
Unlatched s r = r.outcome ≡ Inhibited → r.state ≡ s

-- a rule that inhibits nothing
abbrev pub Acts : Ruled → Type 0
Acts r = r.outcome ≡ Inhibited → ⊥

done : Done ≡ Inhibited → ⊥
done h = never (cc)

fault : Fault ≡ Inhibited → ⊥
fault h = never (cc)

faulted : (s t : State) → Unlatched s (ruled Fault t)
faulted s t h = absurd (fault h)

carried : (s t : State) → Unlatched s (ruled Done t)
carried s t h = absurd (done h)

inhibited : (s : State) → Unlatched s (ruled Inhibited s)
inhibited s h = refl

pub write_unlatched : (p : Profile) (gate : ℕ) (s : State) → Unlatched s (write_rises p gate s)
unfolding write_rises
write_unlatched p gate s =
    either_way (Unlatched s) (eqb gate 1) (faulted s _) (either_way (Unlatched s) (attention_b s.body) (inhibited s)
    (either_way (Unlatched s) (not (eqb s.body.arm.offset 0)) (faulted s _)
    (either_way (Unlatched s) (not (usable_b p s)) (faulted s _)
    (either_way (Unlatched s) (eqb p.protected 1) (faulted s _) (carried s _)))))

pub read_unlatched : (p : Profile) (gate : ℕ) (s : State) → Unlatched s (read_rises p gate s)
unfolding read_rises
read_unlatched p gate s =
    either_way (Unlatched s) (eqb gate 1) (faulted s _) (either_way (Unlatched s) (not (usable_b p s)) (inhibited s) (carried s _))

pub met_acts : (p : Profile) (h : Head) (s : State) → Acts (met_of p h s)
unfolding met_of head_change
met_acts p h s = either_way Acts (eqb s.body.head.0 h.0) done (either_way Acts (eqb s.body.writing 1) fault done)

pub left_acts : (s : State) → Acts (left_of s)
unfolding left_of
left_acts s = either_way Acts (open_b s.transfer || eqb s.body.writing 1) fault done

held_acts : (b : Body) (e : Option Transfer) → Acts (held_of b e)
held_acts b (Some t) h = done h
held_acts b None h = fault h

pub pass_acts : (us : Micros) (s : State) → Acts (pass_drive us s)
unfolding pass_drive
pass_acts us s = held_acts (pass_body us s.body) (wait_of us s.transfer)

effect_acts : (p : Profile) (b : Body) (x : Result Effect WordFault) → (done_of p b x).outcome ≡ Inhibited → ⊥
unfolding done_of
effect_acts p b (Err which) h = fault h
effect_acts p b (Ok Status) h = done h
effect_acts p b (Ok (Configuration modifier)) h = done h
effect_acts p b (Ok (Does act)) h = done h

fallen_acts : (p : Profile) (b : Body) (e : Fallen) → Acts (fallen_of p b e)
unfolding carry_of
fallen_acts p b (fallen.Keep t) h = done h
fallen_acts p b (fallen.Carry n) h = effect_acts p b (effect_of p b n) h

pub rises_acts : (l : Lines) (s : State) → Acts (request_rises l s)
unfolding request_rises
rises_acts l s = held_acts s.body (rise_of (gated_b l) (calm_b s.body) l.command s.transfer)

pub falls_acts : (p : Profile) (s : State) → Acts (request_falls p s)
unfolding request_falls
falls_acts p s = fallen_acts p s.body (fall_of s.transfer)

-- a drive left without fault had neither a transfer nor writing; at most its reading ends
pub left_done : (s : State) → (left_of s).outcome ≡ Done → (left_of s).state ≡ read_falls s
unfolding left_of
left_done s = by (open_b s.transfer || eqb s.body.writing 1) _ _
  where
    by : (t : Bool) (x y : State) → (if t then ruled Fault x else ruled Done y).outcome ≡ Done → (if t then ruled Fault x else ruled Done y).state ≡ y
    by true x y h = absurd (never (cc))
    by false x y h = refl
