-- Packs laid one behind the other, as the theorems on whole files speak of them.
use Rattle.std.specs.Prelude.{ℕ, List, [], ◌∷◌, ◌++◌, replicate}
use Rattle.pack_profile.specs.declared.Profile.{Profile}
use Rattle.pack_profile.specs.Profile.{medium_of}
use Rattle.pack_read.specs.File.{Contents}
use Rattle.pack_lay.specs.Lay.{laid_pack}

-- each pack just laid, in the order of the list
abbrev pub laid_file : List Profile → List ℕ
laid_file [] = []
laid_file (p ∷ ps) = laid_pack p ++ laid_file ps

-- a profile, and its "zeroed medium"
abbrev pub zeroed : Profile → Contents
zeroed p = record { profile = p; medium = replicate (medium_of p.shape) 0 }

abbrev pub zeroed_all : List Profile → List Contents
zeroed_all [] = []
zeroed_all (p ∷ ps) = zeroed p ∷ zeroed_all ps
