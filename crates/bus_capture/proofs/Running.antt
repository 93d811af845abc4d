-- Events run one by one: what the first comes to, and where the run stops.
use Rattle.std.proofs.Common.{◌≡◌, true, false, List, [], ◌∷◌, refl, ◌∙◌}
use Rattle.event.specs.Numbers.{Numbers}
use Rattle.bus_capture.specs.Stream.{Stream, answered_of, is_full, ran_of, left_of}

-- t over l comes to u over m
pub record Goes (t : Stream) (l : List Numbers) (u : Stream) (m : List Numbers) : Type 0 where
  pub ran : ran_of t l ≡ ran_of u m
  pub left : left_of t l ≡ left_of u m

pub goes_none : (t : Stream) (l : List Numbers) → Goes t l t l
goes_none t l = record { ran = refl; left = refl }

-- an event whose answer fits
pub goes_event : {t u : Stream} {l : List Numbers} {n : Numbers} {m : List Numbers} → Goes t l u (n ∷ m) → is_full u ≡ false → Goes t l (answered_of u n) m
unfolding ran_of left_of
goes_event g e = record { ran = g.ran ∙ simp e; left = g.left ∙ simp e }

-- where the run stops
pub stops_none : {t u : Stream} {l : List Numbers} → Goes t l u [] → (ran_of t l ≡ u) × (left_of t l ≡ [])
unfolding ran_of left_of
stops_none g = (g.ran, g.left)

pub stops_full : {t u : Stream} {l : List Numbers} {n : Numbers} {m : List Numbers} → Goes t l u (n ∷ m) → is_full u ≡ true
    → (ran_of t l ≡ u) × (left_of t l ≡ n ∷ m)
unfolding ran_of left_of
stops_full g e = (g.ran ∙ simp e, g.left ∙ simp e)
