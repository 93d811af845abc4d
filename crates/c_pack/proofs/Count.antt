-- The slots that have a pack, counted one by one and written out.
use Rattle.std.proofs.Common.{◌≡◌, List, [], ◌∷◌, length, count_by, arith}
use Rattle.pack_read.specs.declared.Pack.{Pack}
use Rattle.pack_read.specs.Packs.{fitted_b}
use Rattle.c_pack.specs.FilePacks.{count_of}

pub count_is : (packs : List Pack) → length packs ≡ 7 → count_by fitted_b packs ≡ count_of packs
unfolding count_of
count_is (a ∷ b ∷ c ∷ d ∷ e ∷ f ∷ g ∷ []) _ = omega arith
count_is [] is = absurd (omega arith)
count_is (_ ∷ []) is = absurd (omega arith)
count_is (_ ∷ _ ∷ []) is = absurd (omega arith)
count_is (_ ∷ _ ∷ _ ∷ []) is = absurd (omega arith)
count_is (_ ∷ _ ∷ _ ∷ _ ∷ []) is = absurd (omega arith)
count_is (_ ∷ _ ∷ _ ∷ _ ∷ _ ∷ []) is = absurd (omega arith)
count_is (_ ∷ _ ∷ _ ∷ _ ∷ _ ∷ _ ∷ []) is = absurd (omega arith)
count_is (_ ∷ _ ∷ _ ∷ _ ∷ _ ∷ _ ∷ _ ∷ _ ∷ more) is = absurd (omega arith)
