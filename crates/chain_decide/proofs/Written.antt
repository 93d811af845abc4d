-- When a byte is written, and which: only on a drive that no rule of the write gate would stop, and inside its medium.
use mathlib.Core.Path.{◌≡◌, refl}
use mathlib.Core.Bool.{true, not}
use mathlib.Core.Logic.{inl}
use Prim.Native.Nat.{ℕ, ◌+◌, ◌<◌}
use Rattle.counts.specs.declared.Position.{Position}
use Rattle.pack_profile.specs.Profile.{medium_of}
use Rattle.drive_record.specs.Status.{attention_b}
use Rattle.drive_record.proofs.WithinLimits.{quiet_free}
use Rattle.drive_gates.proofs.MayReadOrWrite.{Usable, usable}
use Rattle.event.specs.declared.Event.{Event}
use Rattle.drive_cable.proofs.OnCable.{writes}
use Rattle.chain_record.specs.declared.Chain.{Chain}
use Rattle.chain_decision.specs.declared.Decision.{Decision}
use Rattle.chain_decision.specs.Deeds.{spot_place, BytePut, puts_of, Every}
use Rattle.chain_record.specs.Record.{slot_pack, look_of}
use Rattle.chain_others.specs.Passing.{pass_event}
use Rattle.chain_others.specs.Cell.{cell_spot}
use Rattle.chain_decide.specs.Decide.{decide_of}
use Rattle.chain_sound.specs.SoundChain.{chain_sound_b}
use Rattle.chain_sound.proofs.SoundSlots.{chosen, cell_inside}
use Rattle.chain_decide.proofs.Walk.{Cases, walk}

-- the drive under which the byte at a place of the file is written
pub record Written (c : Chain) (place : ℕ) : Type 0 where
  pub formed : chain_sound_b c ≡ true
  pub selected : (look_of c).selected ≡ true
  pub usable : Usable (look_of c).profile (look_of c).state  -- ready, complete, position known, head present
  pub quiet : not (attention_b (look_of c).state.body) ≡ true
  pub standing : (look_of c).state.body.standing ≡ 0  -- request 3
  pub offset : (look_of c).state.body.arm.offset ≡ 0
  pub free : (look_of c).profile.protected ≡ 0
  pub position : Position
  pub there : position.0 < (look_of c).profile.shape.track.0
  pub is : place ≡ spot_place c.packs (cell_spot (look_of c) c.lines position)
  pub inside : place < (slot_pack c.packs c.lines.select).place.0 + medium_of (look_of c).profile.shape

module _ (c : Chain) (h : chain_sound_b c ≡ true) where
  abbrev Only : Event → Decision → Type 0
  Only e d = Every (λ (p : BytePut). Written c p.place) (puts_of c.packs d.deed)

  written : (position : Position) → (look_of c).selected ≡ true → position.0 < (look_of c).profile.shape.track.0 → (look_of c).state.body.writing ≡ 1
      → Written c (spot_place c.packs (cell_spot (look_of c) c.lines position))
  written position on t w =
      let d = (chosen c h on).drive in
      let g = writes _ _ _ d.writing w in
      record {
        formed = h;
        selected = on;
        usable = usable _ _ g.usable;
        quiet = g.quiet;
        standing = quiet_free _ _ d.limits g.quiet;
        offset = g.offset;
        free = g.free;
        position = position;
        there = t;
        is = refl;
        inside = cell_inside c position h on t (inl w);
      }

  cases : Cases c Only
  unfolding pass_event
  cases = record {
    still = λ e b on m q. tt;
    level = λ v on. tt;
    alone = λ e a off n. tt;
    met = λ e on m q. tt;
    enters = λ slot off f m. tt;
    leaves = λ slot on n m. tt;
    swaps = λ slot on f m. tt;
    passes = λ us. tt;
    past = λ position byte on. tt;
    writes = λ position byte on t w. (written position on t w, tt);
    reads = λ position byte on t r w. tt;
    idle = λ position byte on w r. tt;
    inapplicable = λ slot which. tt;
    condition = λ slot which f. tt;
  }

  -- every byte put
  pub written_only : (e : Event) → Every (λ (p : BytePut). Written c p.place) (puts_of c.packs (decide_of c e).deed)
  written_only = walk c Only cases
