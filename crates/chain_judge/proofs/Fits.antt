-- Whatever is judged, what it touches lies within the file.
use Prim.Native.Nat.{ℕ}
use mathlib.Core.Path.{◌≡◌, refl}
use mathlib.Core.Bool.{Bool, true, false}
use borrow.Author.Tests.{eqb-true}
use lib.Dec.{eqb}
use Rattle.std.specs.Prelude.{Result, Ok, Err}
use Rattle.event.specs.declared.Event.{Event}
use Rattle.event.specs.declared.Undecoded.{Undecoded}
use Rattle.event.specs.declared.Undecoded.TheVariants.{Unknown, Range}
use Rattle.event.specs.Decode.{decode_of}
use Rattle.chain_decision.specs.Deeds.{Fits}
use Rattle.chain_record.specs.declared.Chain.{Chain}
use Rattle.chain_sound.specs.SoundChain.{chain_sound_b}
use Rattle.chain_decide.proofs.Touching.{touches_inside}
use Rattle.chain_judge.specs.Judge.{allowed_of, decoded_of, judged_of}

module _ (c : Chain) (long : ℕ) where
  allowed_by : (e : Event) (s n : Bool) → chain_sound_b c ≡ s → eqb long c.length.0 ≡ n → Fits c.packs long (allowed_of c long e).deed
  unfolding allowed_of
  allowed_by e false n p q = rw p (tt, tt)
  allowed_by e true false p q = rw (p, q) (tt, tt)
  allowed_by e true true p q = rw (p, q, eqb-true long c.length.0 q) (touches_inside c e p)

  decoded : (d : Result Event Undecoded) → Fits c.packs long (decoded_of c long d).deed
  decoded (Ok e) = allowed_by e _ _ refl refl
  decoded (Err Unknown) = (tt, tt)
  decoded (Err Range) = (tt, tt)

  pub judged_fits : (kind a b : ℕ) → Fits c.packs long (judged_of c long kind a b).deed
  unfolding judged_of
  judged_fits kind a b = decoded (decode_of kind a b)
