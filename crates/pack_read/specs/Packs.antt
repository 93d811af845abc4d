-- What a slot holds, and the numbers of a pack file.
use Rattle.std.specs.Prelude.{ℕ, Bool, List, eqb, replicate}
use Rattle.counts.specs.declared.Place.{Place}
use Rattle.pack_profile.specs.declared.Profile.{Profile}
use Rattle.pack_profile.specs.Profile.{blank_profile}
use Rattle.pack_read.specs.declared.Pack.{Pack}

-- "2,147,483,647 bytes"
abbrev pub longest_file : ℕ
longest_file = 2_147_483_647

abbrev pub no_pack : Pack
no_pack = record { fitted = 0; place = record { 0 = 0 }; profile = blank_profile }

abbrev pub fitted_pack : Place → Profile → Pack
fitted_pack place p = record { fitted = 1; place = place; profile = p }

-- seven empty slots
abbrev pub no_packs : List Pack
no_packs = replicate 7 no_pack

-- whether a slot has a pack
abbrev pub fitted_b : Pack → Bool
fitted_b p = eqb p.fitted 1
