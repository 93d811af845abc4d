-- What lasts on a drive: the sector size in force, which a word alone sets, and whether a write fault stands, which conditions alone decide.
use Rattle.handshake.specs.declared.Transfer.{Transfer}
use Rattle.std.specs.Prelude.{Option, Some, None}
use mathlib.Core.Path.{◌≡◌, refl}
use mathlib.Core.Bool.{◌||◌, not}
use Prim.Native.Nat.{ℕ, ◌≤◌}
use native.Mathlib.Omega.{arith}
use lib.Dec.{ltb, eqb}
use borrow.Author.Tests.{eqb-true, eqb-false}
use Rattle.counts.specs.declared.Head.{Head}
use Rattle.counts.specs.declared.Micros.{Micros}
use Rattle.counts.specs.declared.SectorSize.{SectorSize}
use Rattle.counts.proofs.Choice.{by_test, either_way}
use Rattle.pack_profile.specs.declared.Profile.{Profile}
use Rattle.pack_profile.specs.General.{at_once}
use Rattle.handshake.specs.declared.Fallen.{Fallen}
use Rattle.handshake.specs.declared.Fallen.TheVariants as fallen
use Rattle.handshake.specs.Transfer.{open_b}
use Rattle.handshake.specs.Edges.{rise_of, fall_of, wait_of}
use Rattle.lines.specs.declared.Lines.{Lines}
use Rattle.drive_record.specs.declared.Body.{Body}
use Rattle.drive_record.specs.declared.State.{State}
use Rattle.drive_record.specs.declared.Ruled.{Ruled}
use Rattle.drive_record.specs.Status.{attention_b, calm_b}
use Rattle.drive_record.specs.Faults.{latch_of, condition_of, held_of}
use Rattle.drive_rules.specs.Time.{pass_body, pass_drive}
use Rattle.drive_rules.specs.DriveLeft.{left_of}
use Rattle.drive_rules.specs.Heads.{switched_of, head_change, met_of}
use Rattle.drive_gates.specs.Gates.{usable_b, write_rises, read_rises}
use Rattle.drive_cable.specs.Request.{gated_b, fallen_of, request_rises, request_falls}
use Rattle.word_rules.specs.Rules.{carry_of}

abbrev pub lasting : Body → SectorSize × ℕ
lasting b = (b.sector, b.standing)

abbrev Same : Body → Body → Type 0
Same b e = lasting e ≡ lasting b

abbrev After : State → Ruled → Type 0
After s r = Same s.body r.state.body

held_lasts : (b : Body) (h : Option Transfer) → Same b (held_of b h).state.body
unfolding latch_of
held_lasts b (Some t) = refl
held_lasts b None = refl

pub pass_lasts : (us : Micros) (s : State) → After s (pass_drive us s)
unfolding pass_drive pass_body
pass_lasts us s = held_lasts (pass_body us s.body) (wait_of us s.transfer)

pub left_lasts : (s : State) → After s (left_of s)
unfolding left_of latch_of
left_lasts s = either_way (After s) (open_b s.transfer || eqb s.body.writing 1) refl refl

switched_lasts : (p : Profile) (h : Head) (b : Body) → Same b (switched_of p h b)
unfolding switched_of
switched_lasts p h b = either_way (Same b) (ltb at_once p.times.switch.0) refl refl

change_lasts : (p : Profile) (h : Head) (s : State) → After s (head_change p h s)
unfolding head_change latch_of
change_lasts p h s = either_way (After s) (eqb s.body.writing 1) (switched_lasts p h _) (switched_lasts p h s.body)

pub met_lasts : (p : Profile) (h : Head) (s : State) → After s (met_of p h s)
unfolding met_of
met_lasts p h s = either_way (After s) (eqb s.body.head.0 h.0) refl (change_lasts p h s)

pub write_lasts : (p : Profile) (readgate : ℕ) (s : State) → After s (write_rises p readgate s)
unfolding write_rises latch_of
write_lasts p readgate s =
    either_way (After s) (eqb readgate 1) refl
    (either_way (After s) (attention_b s.body) refl
    (either_way (After s) (not (eqb s.body.arm.offset 0)) refl
    (either_way (After s) (not (usable_b p s)) refl
    (either_way (After s) (eqb p.protected 1) refl refl))))

pub read_lasts : (p : Profile) (writegate : ℕ) (s : State) → After s (read_rises p writegate s)
unfolding read_rises latch_of
read_lasts p writegate s = either_way (After s) (eqb writegate 1) refl (either_way (After s) (not (usable_b p s)) refl refl)

pub condition_size : (which : ℕ) (b : Body) → (condition_of which b).sector ≡ b.sector
unfolding condition_of latch_of
condition_size which b =
    let or = by_test (λ (e : Body). e.sector ≡ b.sector) in
    or (eqb which 1) _ _ (λ _. refl) λ _.
    or (eqb which 2) _ _ (λ _. refl) λ _.
    or (eqb which 3) _ _ (λ _. refl) λ _. refl

-- request 3: a fault that stands goes on through every condition but 4, and one that does not through every one but 1
pub stands_on : (which : ℕ) (b : Body) → 1 ≤ which → which ≤ 4 → (which ≡ 4 → ⊥) → b.standing ≡ 1 → (condition_of which b).standing ≡ 1
unfolding condition_of latch_of
stands_on which b least most other one =
    let or = by_test (λ (e : Body). e.standing ≡ 1) in
    or (eqb which 1) _ _ (λ _. refl) λ not-1.
    or (eqb which 2) _ _ (λ _. one) λ not-2.
    or (eqb which 3) _ _ (λ _. one) λ not-3. absurd (omega (arith, eqb-false which 1 not-1, eqb-false which 2 not-2, eqb-false which 3 not-3))

pub stays_ended : (which : ℕ) (b : Body) → 1 ≤ which → which ≤ 4 → (which ≡ 1 → ⊥) → b.standing ≡ 0 → (condition_of which b).standing ≡ 0
unfolding condition_of latch_of
stays_ended which b least most other none =
    let or = by_test (λ (e : Body). e.standing ≡ 0) in
    or (eqb which 1) _ _ (λ is-1. absurd (other (eqb-true which 1 is-1))) λ _.
    or (eqb which 2) _ _ (λ _. none) λ _.
    or (eqb which 3) _ _ (λ _. none) λ _. refl

pub rise_lasts : (l : Lines) (s : State) → After s (request_rises l s)
unfolding request_rises
rise_lasts l s = held_lasts s.body (rise_of (gated_b l) (calm_b s.body) l.command s.transfer)

-- a fall leaves the body, or carries a word out on it
pub fall_either : (P : Body → Type 0) (p : Profile) (s : State) → P s.body → ((n : ℕ) → P (carry_of p s.body n).body)
    → P (request_falls p s).state.body
unfolding request_falls
fall_either P p s same word = by (fall_of s.transfer)
  where
    by : (x : Fallen) → P (fallen_of p s.body x).state.body
    by (fallen.Keep t) = same
    by (fallen.Carry n) = word n
