-- What laying answers and leaves, given how its tests fell.
use mathlib.Core.Path.{◌≡◌, sym, ap}
use mathlib.Core.Bool.{true, false}
use mathlib.Core.List.{List, ◌++◌}
use Prim.Native.Nat.{ℕ, ◌≤◌, ◌<◌}
use borrow.Author.Tests.{lt-ltb, le-ltb}
use lib.ListN.{length, drop}
use Rattle.std.specs.Prelude.{Result, Ok, Err}
use Rattle.pack_profile.specs.declared.Profile.{Profile}
use Rattle.pack_profile.specs.Valid.{valid_b}
use Rattle.pack_read.specs.declared.Refusal.{Refusal}
use Rattle.pack_read.specs.declared.Refusal.TheVariants.{Field, Large, Room}
use Rattle.pack_read.specs.Packs.{longest_file}
use Rattle.pack_lay.specs.Lay.{pack_length, laid_answer, laid_pack, after_laying, laid_bytes}

module _ (p : Profile) (space : ℕ) where
  pub field : valid_b p ≡ false → Err Field ≡ laid_answer p space
  unfolding laid_answer
  field v = rw v

  module _ (v : valid_b p ≡ true) where
    pub large : longest_file < pack_length p → Err Large ≡ laid_answer p space
    unfolding laid_answer
    large big = rw (v, lt-ltb _ _ big)

    pub room : pack_length p ≤ longest_file → space < pack_length p → Err Room ≡ laid_answer p space
    unfolding laid_answer
    room small short = rw (v, le-ltb _ _ small, lt-ltb _ _ short)

    pub fits : pack_length p ≤ longest_file → pack_length p ≤ space → Ok tt ≡ laid_answer p space
    unfolding laid_answer
    fits small enough = rw (v, le-ltb _ _ small, le-ltb _ _ enough)

-- a pack that is laid, and what stands behind it
pub done : (p : Profile) (l : List ℕ) → valid_b p ≡ true → pack_length p ≤ longest_file → pack_length p ≤ length l
    → laid_bytes p l ≡ laid_pack p ++ drop (pack_length p) l
unfolding laid_bytes
done p l v small enough = ap (λ (a : Result (Unit {0}) Refusal). after_laying a p l) (sym (fits p (length l) v small enough))
