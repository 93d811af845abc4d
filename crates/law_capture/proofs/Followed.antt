-- The record's lines follow the samples: on a chain that is sound over its file, behind a sample's events they are the sample's.
use mathlib.Core.Path.{◌≡◌, refl, sym, ap, ◌∙◌}
use mathlib.Core.List.{List, [], ◌∷◌, ◌++◌}
use Prim.Native.Nat.{ℕ, zero, suc, ◌+◌, ◌/◌, ◌%◌, ◌≤◌, ◌<◌}
use native.Mathlib.Omega.{arith}
use lib.Dec.{eqb}
use lib.ListN.{drop}
use borrow.Author.Tests.{le-leb, eqb-true}
use Rattle.std.specs.Prelude.{Ok}
use Rattle.counts.specs.Bytes.{two}
use Rattle.counts.proofs.Choice.{by_test}
use Rattle.lines.specs.declared.Lines.{Lines}
use Rattle.lines.specs.Lines.{with_select, with_heads, with_writegate, with_readgate, with_command, with_request}
use Rattle.event.specs.declared.Event.{Event}
use Rattle.event.specs.declared.Event.TheVariants.{Select, Heads, WriteGate, ReadGate, Data, Request, Pass}
use Rattle.event.specs.Numbers.{Numbers}
use Rattle.event.specs.Decode.{ranged, level_line, kind_row, decode_of}
use Rattle.chain_decide.specs.Levels.{lines_after}
use Rattle.chain_step.specs.Run.{Lent, lent_after, lent_through}
use Rattle.capture_samples.specs.declared.Sample.{Sample}
use Rattle.capture_samples.specs.Samples.{sample_length, lines_of, sample_of, samples_in}
use Rattle.capture_events.specs.Events.{event_of, gap_of, longest, passing, whole_spans, rest_span, passing_of, change_of, changes_of, events_to, events_behind}
use Rattle.capture_events.specs.Coming.{last_of}
use Rattle.law_chain.specs.SoundOver.{SoundOver}
use Rattle.law_chain.proofs.Through.{lent_then}
use Rattle.law_chain.proofs.Run.{step_sound, run_sound}
use Rattle.law_chain.proofs.Stepping.{step_only}

-- what a level may be
pub record Levels (l : Lines) : Type 0 where
  pub select : l.select ≤ 7
  pub heads : l.heads.0 ≤ 15
  pub readgate : l.readgate ≤ 1
  pub writegate : l.writegate ≤ 1
  pub command : l.command ≤ 1
  pub request : l.request ≤ 1

-- a sample's bits are such
pub sample_levels : (n : ℕ) → Levels (lines_of n)
unfolding lines_of
sample_levels n = record { select = omega arith; heads = omega arith; readgate = omega arith; writegate = omega arith; command = omega arith; request = omega arith }

-- each kind decodes
module _ (a : ℕ) where
  select_is : a ≤ 7 → decode_of 0 a 0 ≡ Ok (Select a)
  unfolding decode_of kind_row ranged
  select_is h = rw (le-leb a 7 h)

  heads_is : a ≤ 15 → decode_of 1 a 0 ≡ Ok (Heads (record { 0 = a }))
  unfolding decode_of kind_row ranged
  heads_is h = rw (le-leb a 15 h)

  module _ (h : a ≤ 1) where
    write_is : decode_of 2 a 0 ≡ Ok (WriteGate a)
    unfolding decode_of kind_row ranged level_line
    write_is = rw (le-leb a 1 h)

    read_is : decode_of 3 a 0 ≡ Ok (ReadGate a)
    unfolding decode_of kind_row ranged level_line
    read_is = rw (le-leb a 1 h)

    data_is : decode_of 4 a 0 ≡ Ok (Data a)
    unfolding decode_of kind_row ranged level_line
    data_is = rw (le-leb a 1 h)

    request_is : decode_of 5 a 0 ≡ Ok (Request a)
    unfolding decode_of kind_row ranged level_line
    request_is = rw (le-leb a 1 h)

  pass_is : a ≤ longest → decode_of 6 a 0 ≡ Ok (Pass (record { 0 = a }))
  unfolding decode_of kind_row ranged
  pass_is h = rw (le-leb a 65_535 h)

-- the lines after some events
abbrev lines_through : List Numbers → Lent → Lines
lines_through events d = (lent_through events d).chain.lines

-- a line that is taken to its new level, or has it, where the lines are known
module _ (kind old a : ℕ) (e : Event) (q : decode_of kind a 0 ≡ Ok e) (d : Lent) (s : SoundOver d) (l : Lines) (at : d.chain.lines ≡ l) (same : old ≡ a → lines_after e l ≡ l) where
  one_line : lines_through (change_of kind old a) d ≡ lines_after e l
  unfolding change_of
  one_line =
      by_test (λ (events : List Numbers). lines_through events d ≡ lines_after e l) (eqb old a) [] (event_of kind a ∷ [])
      (λ t. at ∙ sym (same (eqb-true old a t))) (λ t. (step_only (event_of kind a) d e q s).lines ∙ ap (lines_after e) at)

  -- and then the others
  line_then : (rest : List Numbers) (new : Lines) → ((x : Lent) → SoundOver x → x.chain.lines ≡ lines_after e l → lines_through rest x ≡ new)
      → lines_through (change_of kind old a ++ rest) d ≡ new
  line_then rest new k =
      ap (λ (x : Lent). x.chain.lines) (lent_then (change_of kind old a) rest d)
      ∙ k (lent_through (change_of kind old a) d) (run_sound (change_of kind old a) d s) one_line

-- the lines of one sample, in their order
pub changes_follow : (old new : Lines) → Levels new → (d : Lent) → SoundOver d → d.chain.lines ≡ old → lines_through (changes_of old new) d ≡ new
unfolding changes_of
changes_follow old new v d s e =
    line_then 0 old.select new.select (Select new.select) (select_is new.select v.select) d s old e (λ h. ap (λ (x : ℕ). with_select x old) (sym h)) _ new (λ d s e.
    line_then 1 old.heads.0 new.heads.0 (Heads new.heads) (heads_is new.heads.0 v.heads) d s _ e (λ h. ap (λ (x : ℕ). with_heads (record { 0 = x }) (with_select new.select old)) (sym h)) _ new (λ d s e.
    line_then 3 old.readgate new.readgate (ReadGate new.readgate) (read_is new.readgate v.readgate) d s _ e (λ h. ap (λ (x : ℕ). with_readgate x (with_heads new.heads (with_select new.select old))) (sym h)) _ new (λ d s e.
    line_then 2 old.writegate new.writegate (WriteGate new.writegate) (write_is new.writegate v.writegate) d s _ e (λ h. ap (λ (x : ℕ). with_writegate x (with_readgate new.readgate (with_heads new.heads (with_select new.select old)))) (sym h)) _ new (λ d s e.
    line_then 4 old.command new.command (Data new.command) (data_is new.command v.command) d s _ e (λ h. ap (λ (x : ℕ). with_command x (with_writegate new.writegate (with_readgate new.readgate (with_heads new.heads (with_select new.select old))))) (sym h)) _ new (λ d s e.
    one_line 5 old.request new.request (Request new.request) (request_is new.request v.request) d s _ e (λ h. ap (λ (x : ℕ). with_request x (with_command new.command (with_writegate new.writegate (with_readgate new.readgate (with_heads new.heads (with_select new.select old)))))) (sym h)))))))

-- time leaves them
passes_leave : (a : ℕ) → a ≤ longest → (d : Lent) → SoundOver d → (lent_after (passing a) d).chain.lines ≡ d.chain.lines
passes_leave a h d s = (step_only (passing a) d (Pass (record { 0 = a })) (pass_is a h) s).lines

spans_leave : (n : ℕ) (d : Lent) → SoundOver d → lines_through (whole_spans n) d ≡ d.chain.lines
spans_leave zero d s = refl
spans_leave (suc n) d s = spans_leave n (lent_after (passing longest) d) (step_sound (passing longest) d s) ∙ passes_leave longest (omega arith) d s

rest_leaves : (r : ℕ) → r < longest → (d : Lent) → SoundOver d → lines_through (rest_span r) d ≡ d.chain.lines
rest_leaves r h d s =
    by_test (λ (l : List Numbers). lines_through l d ≡ d.chain.lines) (eqb r 0) [] (passing r ∷ []) (λ t. refl) (λ t. passes_leave r (omega arith) d s)

time_leaves : (gap : ℕ) (d : Lent) → SoundOver d → lines_through (passing_of gap) d ≡ d.chain.lines
unfolding passing_of
time_leaves gap d s =
    let spans = whole_spans (gap / longest) in
    ap (λ (x : Lent). x.chain.lines) (lent_then spans (rest_span (gap % longest)) d)
    ∙ rest_leaves (gap % longest) (omega arith) (lent_through spans d) (run_sound spans d s) ∙ spans_leave (gap / longest) d s

-- behind a sample's events they are the sample's
pub sample_follows : (earlier later : Sample) → Levels later.lines → (d : Lent) → SoundOver d → d.chain.lines ≡ earlier.lines
    → lines_through (events_to earlier later) d ≡ later.lines
unfolding events_to
sample_follows earlier later v d s e =
    let time = passing_of (gap_of later.stamp earlier.stamp) in
    ap (λ (x : Lent). x.chain.lines) (lent_then time (changes_of earlier.lines later.lines) d)
    ∙ changes_follow earlier.lines later.lines v (lent_through time d) (run_sound time d s) (time_leaves (gap_of later.stamp earlier.stamp) d s ∙ e)

-- and behind those of several they are the last one's
pub samples_follow : (n : ℕ) (bytes : List ℕ) (s : Sample) (d : Lent) → SoundOver d → d.chain.lines ≡ s.lines
    → lines_through (events_behind s (samples_in n bytes)) d ≡ (last_of s (samples_in n bytes)).lines
samples_follow zero bytes s d h e = e
samples_follow (suc n) bytes s d h e =
    let later = sample_of bytes in
    ap (λ (x : Lent). x.chain.lines) (lent_then (events_to s later) (events_behind later (samples_in n (drop sample_length bytes))) d)
    ∙ samples_follow n (drop sample_length bytes) later (lent_through (events_to s later) d) (run_sound (events_to s later) d h)
    (sample_follows s later (sample_levels (two bytes 4)) d h e)
