-- "that any two outcomes allowed by it coincide is proved": contracts, and the outcomes of functions that leave more than a result.
use Rattle.std.specs.Prelude.{ℕ, ◌≡◌, List, length, Result}
use Rattle.pack_profile.specs.declared.Profile.{Profile}
use Rattle.pack_read.specs.declared.Refusal.{Refusal}
use Rattle.pack_lay.specs.declared.stages.Stage.{Stage}
use Rattle.pack_lay.specs.Lay.{laid_answer, laid_bytes}
use Rattle.pack_lay.specs.Order.{staged_bytes}
use Rattle.chain_step.specs.declared.Performed.{Performed}
use Rattle.chain_step.specs.declared.Stepped.{Stepped}
use Rattle.chain_step.specs.Step.{perform_of, step_of, step_file}
use Rattle.event.specs.Numbers.{Numbers}
use Rattle.chain_step.specs.Run.{Lent}
use Rattle.capture_run.specs.declared.Captured.{Captured}
use Rattle.capture_run.specs.Captured.{captured_of, captured_file, captured_answers}

-- what a function ensures of an outcome, for an input
abbrev pub Contract : Type 0 → Type 0 → Type 1
Contract I O = I → O → Type 0

-- any two outcomes allowed by it coincide
abbrev pub Tight : {I O : Type 0} → Contract I O → Type 0
Tight {I} {O} C = (i : I) (x y : O) → C i x → C i y → x ≡ y

-- a result, and what is left of a lent part
pub record Leaving (R : Type 0) : Type 0 where
  pub result : R
  pub left : List ℕ

-- an event on a record and a lent file
pub record EventOn : Type 0 where
  pub event : Numbers
  pub on : Lent

-- `chain_step::step`
abbrev pub StepContract : Contract EventOn (Leaving Stepped)
StepContract i o =
    (o.result ≡ step_of i.event.kind i.event.a i.event.b i.on.chain i.on.file)
    × (o.left ≡ step_file i.event.kind i.event.a i.event.b i.on.chain i.on.file)

-- `chain_step::perform`
abbrev pub PerformContract : Contract EventOn (Leaving Performed)
PerformContract i o =
    (o.result ≡ perform_of i.event.kind i.event.a i.event.b i.on.chain i.on.file)
    × (o.left ≡ step_file i.event.kind i.event.a i.event.b i.on.chain i.on.file)

-- a profile laid into a lent part
pub record LayingIn : Type 0 where
  pub profile : Profile
  pub part : List ℕ

-- one stage of that
pub record StagingIn : Type 0 where
  pub laying : LayingIn
  pub stage : Stage

-- `pack_lay::lay`
abbrev pub LayContract : Contract LayingIn (Leaving (Result (Unit {0}) Refusal))
LayContract i o = (o.result ≡ laid_answer i.profile (length i.part)) × (o.left ≡ laid_bytes i.profile i.part)

-- `pack_lay::stages::lay_stage`
abbrev pub StageContract : Contract StagingIn (Leaving (Result (Unit {0}) Refusal))
StageContract i o =
    (o.result ≡ laid_answer i.laying.profile (length i.laying.part)) × (o.left ≡ staged_bytes i.stage i.laying.profile i.laying.part)

-- a capture on a record and a lent file, with a lent buffer for the answers
pub record CaptureOn : Type 0 where
  pub on : Lent
  pub capture : List ℕ
  pub answers : List ℕ

-- a result, and what is left of file and answers
pub record LeavingBoth (R : Type 0) : Type 0 where
  pub result : R
  pub file : List ℕ
  pub answers : List ℕ

-- `capture_run::run`
abbrev pub CaptureContract : Contract CaptureOn (LeavingBoth Captured)
CaptureContract i o =
    (o.result ≡ captured_of i.on.chain i.on.file i.capture (length i.answers))
    × ((o.file ≡ captured_file i.on.chain i.on.file i.capture (length i.answers))
    × (o.answers ≡ captured_answers i.on.chain i.on.file i.capture i.answers))
