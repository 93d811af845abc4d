-- Time between two stamps: the gap by itself, and the events that let it pass.
use Rattle.std.proofs.Common.{◌≡◌, ℕ, zero, suc, ◌+◌, ◌-◌, ◌/◌, ◌%◌, ◌^◌, ◌<◌, ◌≤◌, min, Bool, true, false, leb, [], ◌∷◌, ◌++◌, length, refl, ap, ◌∙◌, arith, length-append, eq-eqb, ne_eqb, leb-true, leb-false}
use Rattle.std.specs.Prelude.{if◌then◌else◌}
use Rattle.capture_events.specs.Events.{gap_of, longest, passing, whole_spans, rest_span, passing_of}

-- the wrapping difference is the one number that added to the earlier stamp runs over to the later
pub gap_is : (later earlier gap : ℕ) → gap < 2 ^ 32 → (gap + earlier) % 2 ^ 32 ≡ later → gap ≡ gap_of later earlier
unfolding gap_of
gap_is later earlier gap h e = omega arith

-- no time between two stamps only where they are the same
pub same_stamp : (later earlier : ℕ) → later < 2 ^ 32 → earlier < 2 ^ 32 → gap_of later earlier ≡ 0 → earlier ≡ later
unfolding gap_of
same_stamp later earlier h k e = omega arith

pub gap_back : (later earlier : ℕ) → (earlier + gap_of later earlier) % 2 ^ 32 ≡ later % 2 ^ 32
unfolding gap_of
gap_back later earlier = omega arith

pub no_gap : (stamp : ℕ) → gap_of stamp stamp ≡ 0
unfolding gap_of
no_gap stamp = omega arith

-- some of the gap passed: a span, or what is left
pub gap_less : (later earlier : ℕ) → gap_of later ((earlier + min (gap_of later earlier) longest) % 2 ^ 32) ≡ gap_of later earlier - longest
unfolding gap_of
gap_less later earlier = omega arith

pub nothing_passes : passing_of 0 ≡ []
unfolding passing_of
nothing_passes = refl

pub span_passes : (gap : ℕ) → longest ≤ gap → passing_of gap ≡ passing longest ∷ passing_of (gap - longest)
unfolding passing_of
span_passes gap h =
    let d : gap / longest ≡ suc ((gap - longest) / longest) = omega arith in
    let m : gap % longest ≡ (gap - longest) % longest = omega arith in
    ap (λ (n : ℕ). whole_spans n ++ rest_span (gap % longest)) d ∙ ap (λ (r : ℕ). whole_spans (suc ((gap - longest) / longest)) ++ rest_span r) m

pub rest_passes : (gap : ℕ) → 0 < gap → gap < longest → passing_of gap ≡ passing gap ∷ []
unfolding passing_of
rest_passes gap h k =
    let d : gap / longest ≡ 0 = omega arith in
    let m : gap % longest ≡ gap = omega arith in
    ap (λ (n : ℕ). whole_spans n ++ rest_span (gap % longest)) d ∙ ap (λ (r : ℕ). rest_span r) m
    ∙ ap (λ (t : Bool). if t then [] else (passing gap ∷ [])) (ne_eqb gap 0 (omega arith))

-- as much as one event lets pass, or all that is left
pub some_passes : (gap : ℕ) → 0 < gap → passing_of gap ≡ passing (min gap longest) ∷ passing_of (gap - longest)
some_passes gap h = by_test gap h (leb longest gap) refl
  where
    by_test : (gap : ℕ) → 0 < gap → (t : Bool) → leb longest gap ≡ t → passing_of gap ≡ passing (min gap longest) ∷ passing_of (gap - longest)
    by_test gap h true e =
        let k = leb-true longest gap e in
        let m : min gap longest ≡ longest = omega arith in
        rw m (span_passes gap k)
    by_test gap h false e =
        let k : gap < longest = omega (arith, leb-false longest gap e) in
        let m : min gap longest ≡ gap = omega arith in
        let d : gap - longest ≡ 0 = omega arith in
        rw (m, d, nothing_passes) (rest_passes gap h k)

-- how many they are
spans_many : (n : ℕ) → length (whole_spans n) ≡ n
spans_many zero = refl
spans_many (suc n) = ap suc (spans_many n)

passes_many : (gap : ℕ) → length (passing_of gap) ≡ gap / longest + length (rest_span (gap % longest))
unfolding passing_of
passes_many gap = length-append (whole_spans (gap / longest)) (rest_span (gap % longest)) ∙ ap (λ (n : ℕ). n + length (rest_span (gap % longest))) (spans_many (gap / longest))

pub passes_whole : (gap : ℕ) → gap % longest ≡ 0 → length (passing_of gap) ≡ gap / longest
passes_whole gap h =
    let e = ap (λ (t : Bool). length (if t then [] else (passing (gap % longest) ∷ []))) (eq-eqb (gap % longest) 0 h) in
    omega (arith, passes_many gap, e)

pub passes_more : (gap : ℕ) → (gap % longest ≡ 0 → ⊥) → length (passing_of gap) ≡ gap / longest + 1
passes_more gap h =
    let e = ap (λ (t : Bool). length (if t then [] else (passing (gap % longest) ∷ []))) (ne_eqb (gap % longest) 0 h) in
    omega (arith, passes_many gap, e)
