-- The drives looked at so far all hold.
use Rattle.std.proofs.Common.{◌≡◌, length, drop}
use Rattle.counts.specs.Slots.{all_with}
use Rattle.chain_sound.specs.SoundChain.{drive_b}
use Rattle.chain_sound.proofs.drives_ok.Given as goal

abbrev pub invariant-loop-p : goal.invariant-loop-p
invariant-loop-p l =
    (length l.packs ≡ 7) × (length l.states ≡ 7)
    × (all_with (drive_b l.l) l.packs l.states ≡ all_with (drive_b l.l) (drop (length l.yielded) l.packs) (drop (length l.yielded) l.states))
