-- Two cables that the host cannot tell apart: what one of them is after an exchange, the other is too.
use Prim.Native.Nat.{ℕ}
use mathlib.Core.Path.{◌≡◌, refl, sym, ap, ap₂}
use mathlib.Core.Bool.{Bool, true, false}
use mathlib.Core.List.{List, [], ◌∷◌}
use Rattle.std.specs.Prelude.{if◌then◌else◌, Option, Some, None}
use Rattle.law_exchange.specs.Host.{Signal, level, ask, micros, Cable, Still, waits, sets, Bit, Gap, Sending, high, Going, Exchanged, going, exchanged, sends, goes, raises, lowers, sends_all, puts_up, fetches, sees, replies, goes_on, exchanges}
use Rattle.law_exchange.specs.Waits.{Each, EachOfBits, EachOfGaps, EachWait}

-- alike before a signal they are alike after it, and give the same answer; and the host sees the same of both
pub record Alike {S T : Type 0} (C : Cable S) (D : Cable T) (Like : S → T → Type 0) (Fine : Signal → Type 0) : Type 0 where
  pub levels : (x : Bool) → Fine (level (high x))
  pub edges : (x : Bool) → Fine (ask (high x))
  pub after : (e : Signal) (s : S) (t : T) → Fine e → Like s t → Like (C.after e s) (D.after e t)
  pub answer : (e : Signal) (s : S) (t : T) → Fine e → Like s t → C.answer e s ≡ D.answer e t
  pub acknowledged : (s : S) (t : T) → Like s t → C.acknowledged s ≡ D.acknowledged t
  pub responds : (s : S) (t : T) → Like s t → C.responds s ≡ D.responds t
  pub status : (s : S) (t : T) → Like s t → C.status s ≡ D.status t

pub record Ended {S T : Type 0} (Like : S → T → Type 0) (g : Exchanged S) (h : Exchanged T) : Type 0 where
  pub now : Like g.now h.now
  pub answers : g.answers ≡ h.answers
  pub response : g.response ≡ h.response

module _ {S T : Type 0} (C : Cable S) (D : Cable T) (Like : S → T → Type 0) (Fine : Signal → Type 0) (A : Alike C D Like Fine) where
  abbrev Along : Going S → Going T → Type 0
  Along g h = Like g.now h.now × (g.answers ≡ h.answers)

  abbrev P : ℕ → Type 0
  P us = Fine (micros us)

  sends_like : (e : Signal) (g : Going S) (h : Going T) → Fine e → Along g h → Along (sends C e g) (sends D e h)
  sends_like e g h f l =
      (A.after e g.now h.now f l.0, ap₂ (λ (a : ℕ) (log : List ℕ). a ∷ log) (A.answer e g.now h.now f l.0) l.1)

  goes_on_lem : (xs : List Still) (g : Going S) (h : Going T) → Each P xs → Along g h → Along (goes C xs g) (goes D xs h)
  goes_on_lem [] g h f l = l
  goes_on_lem (waits us ∷ xs) g h f l = goes_on_lem xs (sends C (micros us) g) (sends D (micros us) h) f.1 (sends_like (micros us) g h f.0 l)
  goes_on_lem (sets x ∷ xs) g h f l =
      goes_on_lem xs (sends C (level (high x)) g) (sends D (level (high x)) h) f (sends_like (level (high x)) g h (A.levels x) l)

  lowers_like : (xs : List Still) (g : Going S) (h : Going T) → Each P xs → Along g h → Along (lowers C xs g) (lowers D xs h)
  lowers_like xs g h f l = sends_like (ask 0) (goes C xs g) (goes D xs h) (A.edges false) (goes_on_lem xs g h f l)

  raises_like : (xs : List Still) (g : Going S) (h : Going T) → Each P xs → Along g h → Along (raises C xs g) (raises D xs h)
  raises_like xs g h f l = sends_like (ask 1) (goes C xs g) (goes D xs h) (A.edges true) (goes_on_lem xs g h f l)

  all_like : (xs : List Bit) (g : Going S) (h : Going T) → EachOfBits P xs → Along g h → Along (sends_all C xs g) (sends_all D xs h)
  all_like [] g h f l = l
  all_like (x ∷ xs) g h f l = all_like xs _ _ f.2 (lowers_like x.up _ _ f.1 (raises_like x.low g h f.0 l))

  up_like : (x : Gap) (g : Going S) (h : Going T) → Each P x.low → Each P x.early → Along g h → Along (puts_up C x g) (puts_up D x h)
  up_like x g h f k l = goes_on_lem x.early _ _ k (raises_like x.low g h f l)

  fetches_like : (gs : List Gap) (g : Going S) (h : Going T) → EachOfGaps P gs → Along g h → Along (fetches C gs g) (fetches D gs h)
  fetches_like [] g h f l = l
  fetches_like (x ∷ xs) g h f l = fetches_like xs _ _ f.3 (lowers_like x.late _ _ f.2 (up_like x g h f.0 f.1 l))

  sees_like : (gs : List Gap) (g : Going S) (h : Going T) → EachOfGaps P gs → Along g h → sees C gs g ≡ sees D gs h
  sees_like [] g h f l = refl
  sees_like (x ∷ xs) g h f l =
      let u = up_like x g h f.0 f.1 l in
      ap₂ (λ (a : ℕ) (bits : List ℕ). a ∷ bits) (A.status _ _ u.0) (sees_like xs _ _ f.3 (lowers_like x.late _ _ f.2 u))

  ended : (g : Going S) (h : Going T) (r q : Option (List ℕ)) → Along g h → r ≡ q → Ended Like (exchanged g r) (exchanged h q)
  ended g h r q l e = record { now = l.0; answers = l.1; response = e }

  -- both go the same way
  either : (a b : Bool) (g g' : Exchanged S) (h h' : Exchanged T) → a ≡ b → Ended Like g h → Ended Like g' h'
      → Ended Like (if a then g else g') (if b then h else h')
  either true b g g' h h' e l m = rw (sym e) l
  either false b g g' h h' e l m = rw (sym e) m

  replies_like : (gs : List Gap) (g : Going S) (h : Going T) → EachOfGaps P gs → Along g h → Ended Like (replies C gs g) (replies D gs h)
  replies_like gs g h f l =
      either (C.responds g.now) (D.responds h.now) _ _ _ _ (A.responds g.now h.now l.0)
      (ended (fetches C gs g) (fetches D gs h) _ _ (fetches_like gs g h f l) (ap (λ (bits : List ℕ). Some bits) (sees_like gs g h f l)))
      (ended g h None None l refl)

  goes_like : (w : Sending) (g : Going S) (h : Going T) → EachWait P w → Along g h → Ended Like (goes_on C w g) (goes_on D w h)
  goes_like w g h f l =
      either (C.acknowledged g.now) (D.acknowledged h.now) _ _ _ _ (A.acknowledged g.now h.now l.0)
      (replies_like w.gaps _ _ f.1 (all_like w.more _ _ f.0.2 (lowers_like w.first.up g h f.0.1 l)))
      (ended _ _ None None (sends_like (ask 0) g h (A.edges false) l) refl)

  pub exchanges_like : (w : Sending) (s : S) (t : T) → EachWait P w → Like s t → Ended Like (exchanges C w s) (exchanges D w t)
  exchanges_like w s t f l =
      goes_like w _ _ f (raises_like w.first.low (going s []) (going t []) f.0.0 (l, refl))

-- where nothing is asked of the waits
abbrev pub Any : ℕ → Type 0
Any us = Unit

any_each : (xs : List Still) → Each Any xs
any_each [] = tt
any_each (waits us ∷ xs) = (tt, any_each xs)
any_each (sets x ∷ xs) = any_each xs

any_bits : (xs : List Bit) → EachOfBits Any xs
any_bits [] = tt
any_bits (x ∷ xs) = (any_each x.low, any_each x.up, any_bits xs)

any_gaps : (gs : List Gap) → EachOfGaps Any gs
any_gaps [] = tt
any_gaps (g ∷ gs) = (any_each g.low, any_each g.early, any_each g.late, any_gaps gs)

pub any_waits : (w : Sending) → EachWait Any w
any_waits w = (any_bits (w.first ∷ w.more), any_gaps w.gaps)
