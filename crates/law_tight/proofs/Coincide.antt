-- A contract that gives every part of its outcome by a definition is tight.
use mathlib.Core.Path.{◌≡◌, sym, ◌∙◌}
use mathlib.Core.List.{List}
use Prim.Native.Nat.{ℕ}
use lib.ListN.{length}
use Rattle.pack_lay.specs.Lay.{laid_answer, laid_bytes}
use Rattle.pack_lay.specs.Order.{staged_bytes}
use Rattle.chain_step.specs.Step.{perform_of, step_of, step_file}
use Rattle.capture_run.specs.Captured.{captured_of, captured_file, captured_answers}
use Rattle.law_tight.specs.Tight.{Contract, Tight, Leaving, EventOn, StepContract, PerformContract, LayingIn, StagingIn, LayContract, StageContract, CaptureContract}

pub tight : {I O : Type 0} (C : Contract I O) (f : I → O) → ((i : I) (x : O) → C i x → x ≡ f i) → Tight C
tight C f is i x y p q = is i x p ∙ sym (is i y q)

-- a contract of two parts: the result by one definition, what is left by another
pub tight_leaving : {I R : Type 0} (f : I → R) (g : I → List ℕ) → Tight (λ (i : I) (o : Leaving R). (o.result ≡ f i) × (o.left ≡ g i))
tight_leaving {I} {R} f g =
    tight (λ (i : I) (o : Leaving R). (o.result ≡ f i) × (o.left ≡ g i)) (λ i. record { result = f i; left = g i })
    (λ i x p. λ j. record { result = p.0 j; left = p.1 j })

pub step_tight : Tight StepContract
step_tight =
    tight_leaving (λ (i : EventOn). step_of i.event.kind i.event.a i.event.b i.on.chain i.on.file)
    (λ i. step_file i.event.kind i.event.a i.event.b i.on.chain i.on.file)

pub perform_tight : Tight PerformContract
perform_tight =
    tight_leaving (λ (i : EventOn). perform_of i.event.kind i.event.a i.event.b i.on.chain i.on.file)
    (λ i. step_file i.event.kind i.event.a i.event.b i.on.chain i.on.file)

pub lay_tight : Tight LayContract
lay_tight = tight_leaving (λ (i : LayingIn). laid_answer i.profile (length i.part)) (λ i. laid_bytes i.profile i.part)

pub stage_tight : Tight StageContract
stage_tight =
    tight_leaving (λ (i : StagingIn). laid_answer i.laying.profile (length i.laying.part)) (λ i. staged_bytes i.stage i.laying.profile i.laying.part)

pub capture_tight : Tight CaptureContract
capture_tight =
    tight CaptureContract (λ i. record {
      result = captured_of i.on.chain i.on.file i.capture (length i.answers);
      file = captured_file i.on.chain i.on.file i.capture (length i.answers);
      answers = captured_answers i.on.chain i.on.file i.capture i.answers;
    }) (λ i x p. λ j. record { result = p.0 j; file = p.1.0 j; answers = p.1.1 j })
