-- What a word leaves, whatever the word: a response changes nothing, a fault nothing but its latch.
use Rattle.std.specs.Prelude.{Some, Result, Ok, Err}
use mathlib.Core.Path.{◌≡◌, refl}
use mathlib.Core.Bool.{true}
use Prim.Native.Nat.{ℕ, ◌<◌}
use Rattle.pack_profile.specs.declared.Profile.{Profile}
use Rattle.drive_record.specs.declared.Body.{Body}
use Rattle.drive_record.specs.declared.Outcome.TheVariants.{Fault}
use Rattle.drive_record.specs.Status.{calm_b, status_of}
use Rattle.word_acts.proofs.WordLeaves.{Leaves, same_leaves, latch_leaves, act_leaves}
use Rattle.word_table.specs.declared.Effect.{Effect}
use Rattle.word_table.specs.declared.Effect.TheVariants.{Status, Configuration, Does}
use Rattle.word_table.specs.declared.WordFault.{WordFault}
use Rattle.word_table.specs.Word.{odd_b, with_parity}
use Rattle.word_table.specs.Effect.{bit_of, effect_of}
use Rattle.word_table.proofs.Parity.{parity_odd, parity_below}
use Rattle.word_rules.specs.declared.Carried.{Carried}
use Rattle.word_rules.specs.Responses.{configuration_of}
use Rattle.word_rules.specs.Rules.{failing, saying, done_of, carry_of}

-- a response: the drive is as it was, the seventeen bits are odd
pub record Reply (b : Body) (c : Carried) (r : ℕ) : Type 0 where
  pub same : c.body ≡ b
  pub odd : odd_b r ≡ true
  pub below : r < 131_072

said : (w : ℕ) (b : Body) (r : ℕ) → (saying w b).told ≡ Some r → Reply b (saying w b) r
said w b r h =
    let is : with_parity w ≡ r = cc in
    record { same = refl; odd = rw is at (parity_odd w); below = rw is at (parity_below w) }

done_reply : (p : Profile) (b : Body) (e : Result Effect WordFault) (r : ℕ) → (done_of p b e).told ≡ Some r → Reply b (done_of p b e) r
unfolding done_of
done_reply p b (Err fault) r h = cc
done_reply p b (Ok Status) r h = said (status_of p b) b r h
done_reply p b (Ok (Configuration modifier)) r h = said (configuration_of p b.sector modifier) b r h
done_reply p b (Ok (Does act)) r h = cc

pub told_reply : (p : Profile) (b : Body) (n r : ℕ) → (carry_of p b n).told ≡ Some r → Reply b (carry_of p b n) r
unfolding carry_of
told_reply p b n r h = done_reply p b (effect_of p b n) r h

pub told_calm : (p : Profile) (b : Body) (n r : ℕ) → calm_b b ≡ true → (carry_of p b n).told ≡ Some r → calm_b (carry_of p b n).body ≡ true
told_calm p b n r c h = rw (told_reply p b n r h).same c

-- "A faulted word does nothing else and has no response."
done_fault : (p : Profile) (b : Body) (e : Result Effect WordFault) → (done_of p b e).outcome ≡ Fault → (value : ℕ) × (done_of p b e ≡ failing value b)
unfolding done_of
done_fault p b (Err fault) h = (bit_of fault, refl)
done_fault p b (Ok Status) h = cc
done_fault p b (Ok (Configuration modifier)) h = cc
done_fault p b (Ok (Does act)) h = cc

pub fault_only : (p : Profile) (b : Body) (n : ℕ) → (carry_of p b n).outcome ≡ Fault → (value : ℕ) × (carry_of p b n ≡ failing value b)
unfolding carry_of
fault_only p b n h = done_fault p b (effect_of p b n) h

done_leaves : (p : Profile) (b : Body) (e : Result Effect WordFault) → Leaves b (done_of p b e).body
unfolding done_of
done_leaves p b (Err fault) = latch_leaves (bit_of fault) b
done_leaves p b (Ok Status) = same_leaves b
done_leaves p b (Ok (Configuration modifier)) = same_leaves b
done_leaves p b (Ok (Does act)) = act_leaves p.times b act

pub word_leaves : (p : Profile) (b : Body) (n : ℕ) → Leaves b (carry_of p b n).body
unfolding carry_of
word_leaves p b n = done_leaves p b (effect_of p b n)
