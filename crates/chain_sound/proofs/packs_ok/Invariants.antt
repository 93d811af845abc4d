-- The packs looked at so far may stand and end at `at`.
use Rattle.std.proofs.Common.{◌≡◌, ◌+◌, length, drop}
use Rattle.chain_sound.specs.SoundChain.{file_start, places_b}
use Rattle.chain_sound.proofs.packs_ok.Given as goal

abbrev pub invariant-loop-i : goal.invariant-loop-i
invariant-loop-i l = (length l.packs ≡ 7) × (places_b l.packs 1 file_start l.end ≡ places_b (drop l.i l.packs) (l.i + 1) l.at l.end)
