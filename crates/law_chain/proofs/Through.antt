-- Events and then events: a run goes on from what the first left.
use mathlib.Core.Path.{◌≡◌, refl, ap}
use mathlib.Core.List.{List, [], ◌∷◌, ◌++◌}
use Rattle.event.specs.declared.Answer.{Answer}
use Rattle.event.specs.Numbers.{Numbers}
use Rattle.chain_step.specs.Run.{Lent, step_by, lent_after, lent_through, answers_through}

pub lent_then : (xs ys : List Numbers) (d : Lent) → lent_through (xs ++ ys) d ≡ lent_through ys (lent_through xs d)
lent_then [] ys d = refl
lent_then (x ∷ xs) ys d = lent_then xs ys (lent_after x d)

pub answers_then : (xs ys : List Numbers) (d : Lent) → answers_through (xs ++ ys) d ≡ answers_through xs d ++ answers_through ys (lent_through xs d)
answers_then [] ys d = refl
answers_then (x ∷ xs) ys d = ap (λ (l : List Answer). (step_by x d).answer ∷ l) (answers_then xs ys (lent_after x d))
