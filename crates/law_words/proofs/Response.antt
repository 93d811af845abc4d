-- "the seventeen hold an odd number of ones": what is told by the plain word rules, and so what is fetched.
use Rattle.std.specs.Prelude.{Some}
use Prim.Native.Nat.{ℕ, ◌<◌}
use native.Mathlib.Omega.{arith}
use mathlib.Core.Path.{◌≡◌}
use mathlib.Core.Bool.{true}
use Rattle.counts.proofs.Choice.{by_test}
use Rattle.word_table.specs.Word.{odd_b}
use Rattle.word_rules.specs.declared.Answered.{Answered}
use Rattle.word_rules.specs.Rules.{refuses_b, plain_of}
use Rattle.word_rules.proofs.WordLaws.{told_reply}
use Rattle.chain_record.specs.declared.Chain.{Chain}
use Rattle.chain_record.specs.Record.{look_of}
use Rattle.law_words.specs.Decided.{drive_of}
use Rattle.law_words.specs.AtOnce.{plain}

pub response_odd : (n : ℕ) (c : Chain) (r : ℕ) → (plain n c).told ≡ Some r → (odd_b r ≡ true) × (r < 131_072)
unfolding plain_of
response_odd n c r =
    by_test (λ (a : Answered). a.told ≡ Some r → (odd_b r ≡ true) × (r < 131_072)) (refuses_b (drive_of c)) _ _
    (λ _ h. let z : ◌≡◌ {A = ℕ} 0 1 = cc in absurd (omega arith))
    (λ _ h. let t = told_reply (look_of c).profile (drive_of c).body n r h in (t.odd, t.below))
