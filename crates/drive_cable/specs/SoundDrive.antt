-- "A record is malformed when ..": the clauses on one drive, said of a record that is not.
use Rattle.std.specs.Prelude.{Bool, false, ◌||◌, not, List, [], ◌∷◌, eqb}
use Rattle.std.specs.Prelude.{if◌then◌else◌}
use Rattle.counts.specs.Tests.{all_of}
use Rattle.pack_profile.specs.declared.Profile.{Profile}
use Rattle.handshake.specs.SoundTransfer.{none_b, left_b}
use Rattle.drive_record.specs.declared.State.{State}
use Rattle.drive_record.specs.Status.{attention_b}
use Rattle.drive_gates.specs.Gates.{usable_b}
use Rattle.drive_record.specs.Limits.{limits_b}
use Rattle.lines.specs.declared.Lines.{Lines}

-- "a drive .. writes where .. its gate is low or that gate's rule would stop it"
abbrev pub writing_tests : Profile → Lines → State → List Bool
writing_tests p l s =
    eqb l.writegate 1
    ∷ eqb l.readgate 0
    ∷ not (attention_b s.body)
    ∷ eqb s.body.arm.offset 0
    ∷ usable_b p s
    ∷ eqb p.protected 0
    ∷ []

unfoldable pub writing_b : Profile → Lines → State → Bool
writing_b p l s = eqb s.body.writing 0 || all_of (writing_tests p l s)

-- "a drive reads .. where .. its gate is low or that gate's rule would stop it"
abbrev pub reading_tests : Profile → Lines → State → List Bool
reading_tests p l s = eqb l.readgate 1 ∷ eqb l.writegate 0 ∷ usable_b p s ∷ []

unfoldable pub reading_b : Profile → Lines → State → Bool
reading_b p l s = eqb s.body.reading 0 || all_of (reading_tests p l s)

-- "the selected drive's head isn't the head lines"; "an open transfer's acknowledge or bit counts ..", "a drive with no open transfer .."
abbrev pub selected_tests : Profile → Lines → State → List Bool
selected_tests p l s =
    eqb s.body.head.0 l.heads.0 ∷
    left_b l.request s.transfer ∷
    writing_b p l s ∷
    reading_b p l s ∷ []

unfoldable pub selected_b : Profile → Lines → State → Bool
selected_b p l s = all_of (selected_tests p l s)

-- "an unselected drive has a transfer"; "a drive reads or writes where it is unselected"
abbrev pub unselected_tests : State → List Bool
unselected_tests s =
    none_b s.transfer ∷ eqb s.body.writing 0 ∷ eqb s.body.reading 0 ∷ []

unfoldable pub unselected_b : State → Bool
unselected_b s = all_of (unselected_tests s)

unfoldable pub drive_sound_b : Profile → Lines → Bool → State → Bool
drive_sound_b p l selected s =
    if not (limits_b p s.body) then false
    else (if selected then selected_b p l s
    else unselected_b s)
