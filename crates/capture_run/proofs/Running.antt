-- A capture being run: what was fed and what is to come make the whole.
use mathlib.Core.Path.{◌≡◌, refl, sym, ap, ◌∙◌}
use mathlib.Core.List.{List, [], ◌∷◌, ◌++◌, append_assoc, append-nil}
use Prim.Native.Nat.{ℕ, ◌+◌, ◌-◌, ◌*◌, ◌≤◌, ◌<◌}
use native.Mathlib.Omega.{arith}
use lib.ListN.{length, take, drop}
use lib.Seq.{drop-drop}
use Rattle.event.specs.Numbers.{Numbers}
use Rattle.event.specs.Answer.{answer_number, answer_value}
use Rattle.chain_record.specs.declared.Chain.{Chain}
use Rattle.chain_step.specs.Run.{Lent, lent, step_by, lent_after, lent_through, answers_through}
use Rattle.capture_samples.specs.declared.Sample.{Sample}
use Rattle.capture_samples.specs.Samples.{sample_length, sample_of}
use Rattle.capture_events.specs.Events.{event_of, events_to, capture_events}
use Rattle.capture_events.specs.Coming.{start_of, to_come}
use Rattle.capture_events.proofs.Coming.{all_come, event_comes, sample_comes, none_come}
use Rattle.capture_run.specs.Captured.{answer_bytes, Fed, RunThrough}
use Rattle.capture_run.proofs.Putting.{put_long, put_front, put_behind, all_put}

pub record Runs (c₀ : Chain) (file₀ capture answers₀ : List ℕ) (chain : Chain) (file answers : List ℕ) (at : Sample) (used said : ℕ) : Type 0 where
  pub within : used ≤ length capture
  pub goes : lent_through (to_come at capture used) (lent chain file) ≡ lent_through (capture_events c₀.lines capture) (lent c₀ file₀)
  pub says :
      take said answers ++ answer_bytes (answers_through (to_come at capture used) (lent chain file))
      ≡ answer_bytes (answers_through (capture_events c₀.lines capture) (lent c₀ file₀))
  pub rest : drop said answers ≡ drop said answers₀
  pub long : length answers ≡ length answers₀
  pub whole : length file ≡ length file₀
  pub room : said + 2 * length (to_come at capture used) ≤ length answers

pub begins : (c : Chain) (file capture answers : List ℕ) (at : Sample) → at ≡ start_of c.lines capture
    → 2 * length (capture_events c.lines capture) ≤ length answers → Runs c file capture answers c file answers at 0 0
begins c file capture answers at e h =
    let k = sym (all_come c.lines capture at e) in
    record {
      within = omega arith;
      goes = ap (λ (l : List Numbers). lent_through l (lent c file)) k;
      says = ap (λ (l : List Numbers). answer_bytes (answers_through l (lent c file))) k;
      rest = refl;
      long = refl;
      whole = refl;
      room = omega (arith, ap length k);
    }

module _ {c₀ : Chain} {file₀ capture answers₀ : List ℕ} {chain : Chain} {file answers : List ℕ} {at : Sample} {used said : ℕ}
    (r : Runs c₀ file₀ capture answers₀ chain file answers at used said) where
  module _ (to : Sample) (h : sample_length ≤ length capture - used) (e : to ≡ sample_of (drop used capture)) where
    module _ (reached : Sample) (kind a : ℕ) (k : events_to at to ≡ event_of kind a ∷ events_to reached to) where
      next : to_come at capture used ≡ event_of kind a ∷ to_come reached capture used
      next = event_comes to capture used h e at reached k

      -- there is room for its answer
      pub room_for : said + 2 ≤ length answers
      room_for = omega (arith, r.room, ap length next)

      -- an event more
      pub feeds : (chain' : Chain) (file' answers' : List ℕ) → length file' ≡ length file → Fed chain file answers said kind a chain' file' answers'
          → Runs c₀ file₀ capture answers₀ chain' file' answers' reached used (said + 2)
      feeds chain' file' answers' l f =
          let d = lent chain file in
          let n = event_of kind a in
          let said-is = (step_by n d).answer in
          let left = answer_bytes (answers_through (to_come reached capture used) (lent_after n d)) in
          let front = ap (λ (t : List ℕ). take (said + 2) t) f.says ∙ put_front answers said said-is room_for in
          record {
            within = r.within;
            goes = ap (λ (x : Lent). lent_through (to_come reached capture used) x) f.is ∙ sym (ap (λ (l : List Numbers). lent_through l d) next) ∙ r.goes;
            says =
                ap (λ (x : Lent). take (said + 2) answers' ++ answer_bytes (answers_through (to_come reached capture used) x)) f.is
                ∙ ap (λ (t : List ℕ). t ++ left) front ∙ append_assoc (take said answers) (answer_number said-is ∷ answer_value said-is ∷ []) left
                ∙ sym (ap (λ (l : List Numbers). take said answers ++ answer_bytes (answers_through l d)) next) ∙ r.says;
            rest =
                ap (λ (t : List ℕ). drop (said + 2) t) f.says ∙ put_behind answers said said-is
                ∙ sym (drop-drop 2 said answers) ∙ ap (λ (t : List ℕ). drop 2 t) r.rest ∙ drop-drop 2 said answers₀;
            long = ap length f.says ∙ put_long answers said said-is ∙ r.long;
            whole = l ∙ r.whole;
            room = omega (arith, r.room, ap length next, ap length f.says, put_long answers said said-is);
          }

    -- a sample more
    pub passes : (further : ℕ) → further ≡ used + sample_length → events_to at to ≡ [] → Runs c₀ file₀ capture answers₀ chain file answers to further said
    passes further q k =
        let n = sample_comes to capture used h e at k ∙ ap (λ (u : ℕ). to_come to capture u) (sym q) in
        record {
          within = omega arith;
          goes = sym (ap (λ (l : List Numbers). lent_through l (lent chain file)) n) ∙ r.goes;
          says = sym (ap (λ (l : List Numbers). take said answers ++ answer_bytes (answers_through l (lent chain file))) n) ∙ r.says;
          rest = r.rest;
          long = r.long;
          whole = r.whole;
          room = rw (← n) r.room;
        }

  -- nothing is to come
  pub ends : length capture - used < sample_length → RunThrough c₀ file₀ capture answers₀ chain file answers
  ends h =
      let n = none_come at capture used h in
      record {
        is = sym (ap (λ (l : List Numbers). lent_through l (lent chain file)) n) ∙ r.goes;
        says =
            all_put answers₀ answers _ said (omega (arith, r.room))
            (sym (append-nil (take said answers)) ∙ sym (ap (λ (l : List Numbers). take said answers ++ answer_bytes (answers_through l (lent chain file))) n) ∙ r.says) r.rest;
      }
