-- When a chain is sound over the file lent with it.
use Rattle.std.specs.Prelude.{◌≡◌, true, length}
use Rattle.chain_sound.specs.SoundChain.{chain_sound_b}
use Rattle.chain_step.specs.Run.{Lent}

-- "A chain is sound exactly when its record isn't malformed and the lent file's length is the record's."
pub record SoundOver (d : Lent) : Type 0 where
  pub formed : chain_sound_b d.chain ≡ true
  pub long : length d.file ≡ d.chain.length.0
