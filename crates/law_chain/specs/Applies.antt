-- "Of the answers 5, 4, 3, 0 the first that applies is given": when each applies to an event on a chain.
use Rattle.std.specs.Prelude.{ℕ, Bool, true, false, ◌&&◌, not, List, [], ◌∷◌, ◌++◌, eqb}
use Rattle.counts.specs.declared.Micros.{Micros}
use Rattle.std.specs.Prelude.{if◌then◌else◌}
use Rattle.pack_read.specs.declared.Pack.{Pack}
use Rattle.drive_record.specs.declared.State.{State}
use Rattle.drive_record.specs.declared.Outcome.{Outcome}
use Rattle.drive_record.specs.declared.Outcome.TheVariants.{Done, Inhibited, Fault}
use Rattle.drive_rules.specs.Heads.{met_of}
use Rattle.drive_rules.specs.DriveLeft.{left_of}
use Rattle.drive_rules.specs.Time as time
use Rattle.event.specs.declared.Event.{Event}
use Rattle.event.specs.declared.Event.TheVariants.{Select, Heads, WriteGate, ReadGate, Data, Request, Pass, Cell, Condition}
use Rattle.chain_record.specs.declared.Chain.{Chain}
use Rattle.chain_record.specs.Record.{slot_pack, slot_state, look_of}
use Rattle.pack_read.specs.Packs.{fitted_b}
use Rattle.chain_decide.specs.Levels.{lines_after, moves_b, rule_of, asked_b}

abbrev pub if_any : Bool → Outcome → List Outcome
if_any there o = if there then o ∷ [] else []

-- "Select changes: the drive left ..", "The drive entered .."
abbrev pub select_meets : Chain → ℕ → List Outcome
select_meets c slot =
    if_any (look_of c).selected (left_of (look_of c).state).outcome
    ++ if_any (fitted_b (slot_pack c.packs slot)) (met_of (slot_pack c.packs slot).profile c.lines.heads (slot_state c.states slot)).outcome

-- the selected drive, where a line moves
abbrev pub signal_meets : Chain → Event → List Outcome
signal_meets c e = if_any ((look_of c).selected && moves_b e c.lines) (rule_of (look_of c) c.lines e).outcome

-- "Microseconds passing .. every drive": each that is fitted
abbrev pub time_meets : Micros → List Pack → List State → List Outcome
time_meets us [] states = []
time_meets us (p ∷ packs) [] = []
time_meets us (p ∷ packs) (s ∷ states) = if_any (fitted_b p) (time.pass_drive us s).outcome ++ time_meets us packs states

-- "A cell with neither writing nor reading is inhibited."
abbrev pub neither_b : State → Bool
neither_b s = not (eqb s.body.writing 1) && not (eqb s.body.reading 1)

-- what comes of the rules that the drives of a chain meet in an event
abbrev pub meets : Chain → Event → List Outcome
meets c (Select slot) = if moves_b (Select slot) c.lines then select_meets c slot else []
meets c (Heads h) = signal_meets c (Heads h)
meets c (WriteGate level) = signal_meets c (WriteGate level)
meets c (ReadGate level) = signal_meets c (ReadGate level)
meets c (Data level) = []
meets c (Request level) = signal_meets c (Request level)
meets c (Pass us) = time_meets us c.packs c.states
meets c (Cell position byte) = if_any ((look_of c).selected && neither_b (look_of c).state) Inhibited
meets c (Condition slot which) = []

-- "5 | a fault rule applied, even if its bit stood already"
abbrev pub any_fault : List Outcome → Bool
any_fault [] = false
any_fault (Fault ∷ rest) = true
any_fault (Done ∷ rest) = any_fault rest
any_fault (Inhibited ∷ rest) = any_fault rest

-- "4 | inhibited"
abbrev pub any_inhibited : List Outcome → Bool
any_inhibited [] = false
any_inhibited (Inhibited ∷ rest) = true
any_inhibited (Done ∷ rest) = any_inhibited rest
any_inhibited (Fault ∷ rest) = any_inhibited rest

-- "3 | no fitted drive selected after kinds 0 to 5 or 7"
abbrev pub none_selected_b : Chain → Event → Bool
none_selected_b c e = asked_b e && not (fitted_b (slot_pack c.packs (lines_after e c.lines).select))

-- "Of the answers 5, 4, 3, 0 the first that applies is given"
abbrev pub first_by : List Outcome → Bool → ℕ
first_by outcomes unselected =
    if any_fault outcomes then 5
    else (if any_inhibited outcomes then 4
    else (if unselected then 3
    else 0))

unfoldable pub first_applies : Chain → Event → ℕ
first_applies c e = first_by (meets c e) (none_selected_b c e)
