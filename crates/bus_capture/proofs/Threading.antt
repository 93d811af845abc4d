-- "chain and file": those that the first i bytes of a part left go on through a turn over the rest, to the part's end.
use Rattle.std.proofs.Common.{◌≡◌, ℕ, ◌+◌, ◌-◌, ◌<◌, ◌≤◌, List, [], length, drop, sym, refl, ap, ◌∙◌, arith, length-drop, drop-drop}
use Rattle.event.specs.Numbers.{Numbers}
use Rattle.chain_step.specs.Run.{lent, lent_through}
use Rattle.capture_samples.specs.declared.Sample.{Sample}
use Rattle.capture_samples.specs.Samples.{sample_length, samples_of}
use Rattle.capture_samples.proofs.Sampling.{samples_end}
use Rattle.capture_events.specs.Coming.{last_of, to_come}
use Rattle.capture_events.proofs.Coming.{none_come}
use Rattle.bus_session.specs.declared.Session.{Session}
use Rattle.bus_session.specs.declared.Turn.{Turn}
use Rattle.bus_capture.specs.Answers.{count_after}
use Rattle.bus_capture.specs.Stream.{stream_of}
use Rattle.bus_capture.specs.Parts.{part_events, session_after, file_after}
use Rattle.bus_capture.specs.Kept.{Fed, Threads}
use Rattle.bus_capture.proofs.Whole.{fed_is, turn_joins}

pub threads_none : (part file : List ℕ) (s : Session Sample) → Threads part s file 0 s file
threads_none part file s = record { lent = refl; lines = refl; last = refl }

pub turn_threads : {part file₀ file out file' out' : List ℕ} {s₀ s : Session Sample} {i : ℕ} {r : Turn Sample} → Threads part s₀ file₀ i s file
    → Fed (drop i part) s file out r file' out' → Threads part s₀ file₀ (i + r.used) r.session file'
turn_threads {part} {i = i} {r = r} h f =
    let t = turn_joins f in
    let d = drop-drop r.used i part in
    record {
      lent = rw (← d) (t.lent ∙ h.lent);
      lines = rw (← d) (t.lines ∙ h.lines);
      last = rw (← d) (t.last ∙ h.last);
    }

-- a turn over the rest leaves less to come, or a shorter rest
pub turn_fewer : (part : List ℕ) (i : ℕ) {file out file' out' : List ℕ} {s : Session Sample} {r : Turn Sample} → Fed (drop i part) s file out r file' out' → sample_length ≤ length part - i
    → (i + r.used ≤ length part)
    × (length (to_come r.session.at part (i + r.used)) + (length part - (i + r.used)) < length (to_come s.at part i) + (length part - i))
turn_fewer part i {r = r} f h =
    let n = length-drop i part in
    let g = rw (drop-drop r.used i part) at (f.goes (omega arith)) in
    (omega (arith, f.used), omega (arith, f.used))

-- no sample is left
pub threads_end : {part file₀ file : List ℕ} {s₀ s : Session Sample} {i : ℕ} → Threads part s₀ file₀ i s file → length part - i < sample_length
    → (s ≡ session_after s₀ file₀ part) × (file ≡ file_after s₀ file₀ part)
threads_end {part} {file₀} {file} {s₀} {s} {i} h k =
    let n = none_come s.at part i k in
    let e = fed_is (part_events s₀ part) (stream_of s₀ file₀ []) in
    let l : lent s.chain file ≡ lent_through (part_events s₀ part) (lent s₀.chain file₀) =
    sym (ap (λ (m : List Numbers). lent_through m (lent s.chain file)) n) ∙ h.lent in
    let c : s.lines ≡ count_after s₀.lines (part_events s₀ part) = sym (ap (λ (m : List Numbers). count_after s.lines m) n) ∙ h.lines in
    let a : s.at ≡ last_of s₀.at (samples_of part) = sym (ap (λ (m : List Sample). last_of s.at m) (samples_end part i k)) ∙ h.last in
    (λ j. record { chain = ((l ∙ sym (λ z. (e z).lent)) j).chain; at = a j; lines = (c ∙ sym (λ z. (e z).lines)) j }, λ j. ((l ∙ sym (λ z. (e z).lent)) j).file)

-- the same by the bytes that are left
pub record Along (part file₀ : List ℕ) (s₀ : Session Sample) (left : List ℕ) (s : Session Sample) (file : List ℕ) : Type 0 where
  pub used : ℕ
  pub is : left ≡ drop used part
  pub threads : Threads part s₀ file₀ used s file

pub along_none : (part file : List ℕ) (s : Session Sample) → Along part file s part s file
along_none part file s = record { used = 0; is = refl; threads = threads_none part file s }

pub turn_along : {part file₀ left file out file' out' : List ℕ} {s₀ s : Session Sample} {r : Turn Sample} → Along part file₀ s₀ left s file
    → Fed left s file out r file' out' → Along part file₀ s₀ (drop r.used left) r.session file'
turn_along {part} {r = r} a f = record {
  used = a.used + r.used;
  is = rw a.is (drop-drop r.used a.used part);
  threads = turn_threads a.threads (rw a.is at f);
}

pub along_end : {part file₀ left file : List ℕ} {s₀ s : Session Sample} → Along part file₀ s₀ left s file → length left < sample_length
    → (s ≡ session_after s₀ file₀ part) × (file ≡ file_after s₀ file₀ part)
along_end {part} a h = threads_end a.threads (omega (arith, h, ap length a.is, length-drop a.used part))
