-- A record of zeros is the empty chain: what an empty file fits, and sound.
use mathlib.Core.Path.{◌≡◌, refl}
use mathlib.Core.Bool.{true}
use mathlib.Core.List.{[]}
use Rattle.pack_read.specs.Packs.{no_packs}
use Rattle.pack_read.specs.Read.{read_all, read_back}
use Rattle.chain_record.specs.declared.Chain.{Chain}
use Rattle.chain_fit.specs.Fresh.{low_lines, blank_states, fresh_slot, end_of, fresh_fit}
use Rattle.chain_sound.specs.SoundChain.{placed_of, drive_b, chain_sound_b}

-- every field 0
abbrev pub empty_chain : Chain
empty_chain = record { packs = no_packs; states = blank_states; lines = low_lines; length = record { 0 = 0 } }

pub empty_fits : (fresh_fit []).chain ≡ empty_chain
unfolding fresh_fit read_all read_back fresh_slot end_of
empty_fits = refl

pub empty_sound : chain_sound_b empty_chain ≡ true
unfolding chain_sound_b placed_of drive_b
empty_sound = refl
