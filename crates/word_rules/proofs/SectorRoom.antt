-- Request 8: a size that command 9 sets is greater than its gaps; one that a pack brings need not be, and is quoted.
use mathlib.Core.Path.{◌≡◌, refl}
use mathlib.Core.Logic.{◌⊎◌, inl, inr, ⊎_elim}
use mathlib.Core.Bool.{false}
use Prim.Native.Nat.{ℕ, ◌<◌}
use lib.Dec.{eqb}
use Rattle.counts.specs.declared.SectorSize.{SectorSize}
use Rattle.counts.proofs.Choice.{by_test}
use Rattle.std.specs.Prelude.{Result, Ok, Err}
use Rattle.pack_profile.specs.declared.Profile.{Profile}
use Rattle.pack_profile.specs.Profile.{gaps_of}
use Rattle.pack_profile.specs.General.{soft}
use Rattle.pack_profile.specs.Valid.{valid_b}
use Rattle.drive_record.specs.declared.Body.{Body}
use Rattle.drive_record.specs.declared.State.{State}
use Rattle.drive_record.specs.declared.Outcome.TheVariants.{Done}
use Rattle.drive_record.specs.State.{stopped, fresh_of}
use Rattle.drive_record.specs.Faults.{latch_of}
use Rattle.drive_record.specs.Limits.{limits_b}
use Rattle.word_acts.specs.declared.Act.{Act}
use Rattle.word_acts.specs.declared.Act.TheVariants.{Seek, Recalibrate, Clear, Stop, Start, Offset, Diagnose, Sector}
use Rattle.word_acts.specs.Acts.{busy_for, start_of, acted_of}
use Rattle.word_acts.proofs.Keep.{Allowed}
use Rattle.word_table.specs.declared.Effect.{Effect}
use Rattle.word_table.specs.declared.Effect.TheVariants.{Status, Configuration, Does}
use Rattle.word_table.specs.declared.WordFault.{WordFault}
use Rattle.word_table.specs.Word.{sixteen_of, code_of}
use Rattle.word_table.specs.Effect.{effect_of}
use Rattle.word_table.proofs.Lawful.{Lawful, effect_lawful}
use Rattle.word_table.proofs.SectorWord.{sector_word}
use Rattle.word_rules.specs.declared.Answered.{Answered}
use Rattle.word_rules.specs.Responses.{sectors_of, configuration_of}
use Rattle.word_rules.specs.Rules.{done_of, carry_of, refuses_b, plain_of}

-- the size in force after command 9
carried_room : (p : Profile) (b : Body) (n : ℕ) → code_of (sixteen_of n) ≡ 9 → (carry_of p b n).outcome ≡ Done → gaps_of p < (carry_of p b n).body.sector.0
unfolding carry_of done_of acted_of
carried_room p b n nine done =
    ⊎_elim
    (λ fails. cc (rw fails.1 at done))
    (λ sets. rw sets (rw sets at (effect_lawful p b n)).1)
    (sector_word p b n nine)

pub sector_room : (p : Profile) (s : State) (n : ℕ) → code_of (sixteen_of n) ≡ 9 → (plain_of p s n).outcome ≡ Done
    → gaps_of p < (plain_of p s n).state.body.sector.0
unfolding plain_of
sector_room p s n nine =
    by_test (λ (a : Answered). a.outcome ≡ Done → gaps_of p < a.state.body.sector.0) (refuses_b s) _ _
    (λ _ done. cc)
    (λ _ done. carried_room p s.body n nine done)

-- whatever the word: the size stays, or the new one is greater than the gaps
abbrev pub Sized : Profile → SectorSize → SectorSize → Type 0
Sized p old new = (new ≡ old) ⊎ (gaps_of p < new.0)

act_sized : (p : Profile) (b : Body) (act : Act) → Allowed p act → Sized p b.sector (acted_of p.times b act).sector
unfolding acted_of busy_for start_of
act_sized p b (Seek to) h = inl refl
act_sized p b Recalibrate h = inl refl
act_sized p b Clear h = inl refl
act_sized p b Stop h = inl refl
act_sized p b Start h = by_test (λ (e : Body). Sized p b.sector e.sector) (eqb b.motor stopped) _ _ (λ _. inl refl) (λ _. inl refl)
act_sized p b (Offset code) h = inl refl
act_sized p b Diagnose h = inl refl
act_sized p b (Sector size) h = inr h.1

done_sized : (p : Profile) (b : Body) (e : Result Effect WordFault) → Lawful p e → Sized p b.sector (done_of p b e).body.sector
unfolding done_of latch_of
done_sized p b (Err fault) h = inl refl
done_sized p b (Ok Status) h = inl refl
done_sized p b (Ok (Configuration modifier)) h = inl refl
done_sized p b (Ok (Does act)) h = act_sized p b act h

pub word_sized : (p : Profile) (b : Body) (n : ℕ) → Sized p b.sector (carry_of p b n).body.sector
unfolding carry_of
word_sized p b n = done_sized p b (effect_of p b n) (effect_lawful p b n)

pub plain_sized : (p : Profile) (s : State) (n : ℕ) → Sized p s.body.sector (plain_of p s n).state.body.sector
unfolding plain_of latch_of
plain_sized p s n =
    by_test (λ (a : Answered). Sized p s.body.sector a.state.body.sector) (refuses_b s) _ _ (λ _. inl refl) (λ _. word_sized p s.body n)

-- the same profile with other gaps
abbrev with_gaps : ℕ → ℕ → Profile → Profile
with_gaps gap sync p = record p { gap = gap; sync = sync }

-- "Sizes already stored in pack files are still read": no gap makes a field refused, or a record malformed
pub stored_read : (p : Profile) (gap sync : ℕ) → valid_b (with_gaps gap sync p) ≡ valid_b p
unfolding valid_b
stored_read p gap sync = refl

pub stored_sound : (p : Profile) (gap sync : ℕ) (b : Body) → limits_b (with_gaps gap sync p) b ≡ limits_b p b
unfolding limits_b
stored_sound p gap sync b = refl

-- "and configuration 5 and 6 quote them"
pub stored_quoted : (p : Profile) → soft p.general ≡ false
    → (configuration_of p (fresh_of p).body.sector 5 ≡ p.shape.sector.0)
    × (configuration_of p (fresh_of p).body.sector 6 ≡ sectors_of p.shape.track.0 p.shape.sector.0)
unfolding configuration_of
stored_quoted p hard = rw hard (refl, refl)
