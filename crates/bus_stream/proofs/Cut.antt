-- "reads event lines from standard input": wherever the input is cut, what is put out is the whole text's answers, none lost and none twice.
use Rattle.std.proofs.Common.{◌≡◌, ℕ, ◌+◌, ◌-◌, ◌≤◌, Bool, true, false, ◌&&◌, eqb, List, [], ◌∷◌, ◌++◌, length, take, drop, sym, refl, ap, ◌∙◌, append_assoc, append-nil, arith, length-drop, drop-drop, take-add}
use Rattle.std.proofs.Math.Seq.{take_all}
use mathlib.Core.List.{flatten}
use Rattle.std.specs.Prelude.{if◌then◌else◌}
use Rattle.counts.proofs.Choice.{either_way}
use Rattle.chain_record.specs.declared.Chain.{Chain}
use Rattle.bus_text.specs.TextBytes.{newline}
use Rattle.bus_text.specs.Scan.{fed_of, has_byte_of}
use Rattle.bus_text.specs.declared.Scan.{Scan}
use Rattle.bus_session.specs.declared.Session.{Session}
use Rattle.bus_stream.specs.Stream.{Stream, stream_of, opened_of, answered_of, scanned_of, fed_byte, fed_bytes, closed_of, answers_of}
use Rattle.bus_session.specs.declared.Turn.{Turn}
use Rattle.bus_stream.specs.Parts.{is_full, fitting_bytes, parts_answers}
use Rattle.bus_stream.specs.Kept.{Fed}

-- bytes and then bytes
pub fed_behind : (xs ys : List ℕ) (t : Stream) → fed_bytes t (xs ++ ys) ≡ fed_bytes (fed_bytes t xs) ys
fed_behind [] ys t = refl
fed_behind (x ∷ xs) ys t = fed_behind xs ys (fed_byte t x)

-- the bytes that a turn uses are the part's first
pub used_first : (l : List ℕ) (t : Stream) → take (length (fitting_bytes t l)) l ≡ fitting_bytes t l
unfolding fitting_bytes
used_first [] t = refl
used_first (b ∷ l) t =
    either_way (λ (u : List ℕ). take (length u) (b ∷ l) ≡ u) (eqb b newline && is_full t) refl (ap (λ (u : List ℕ). b ∷ u) (used_first l (fed_byte t b)))

-- what was put out before stands in front
abbrev behind : List ℕ → Stream → Stream
behind o t = stream_of t.session t.file (o ++ t.out)

module _ (o : List ℕ) where
  answered_behind : (t : Stream) → answered_of (behind o t) ≡ behind o (answered_of t)
  unfolding answered_of
  answered_behind t = simp append_assoc

  byte_behind : (t : Stream) (b : ℕ) → fed_byte (behind o t) b ≡ behind o (fed_byte t b)
  unfolding fed_byte
  byte_behind t b = at_test (eqb b newline)
    where
      at_test : (e : Bool) → (if e then answered_of (behind o t) else (scanned_of (behind o t) (fed_of t.session.at b)))
          ≡ behind o (if e then answered_of t else (scanned_of t (fed_of t.session.at b)))
      at_test true = answered_behind t
      at_test false = refl

  bytes_behind : (l : List ℕ) (t : Stream) → fed_bytes (behind o t) l ≡ behind o (fed_bytes t l)
  bytes_behind [] t = refl
  bytes_behind (b ∷ l) t = ap (λ (u : Stream). fed_bytes u l) (byte_behind t b) ∙ bytes_behind l (fed_byte t b)

  closed_behind : (t : Stream) → closed_of (behind o t) ≡ behind o (closed_of t)
  unfolding closed_of
  closed_behind t = at_test (has_byte_of t.session.at)
    where
      at_test : (e : Bool) → (if e then answered_of (behind o t) else (behind o t)) ≡ behind o (if e then answered_of t else t)
      at_test true = answered_behind t
      at_test false = refl

-- a part and then a part: the second is run from an output with nothing waiting
whole_behind : (p q : List ℕ) (s : Session Scan) (file : List ℕ) →
    let t = fed_bytes (stream_of s file []) p in
    fed_bytes (stream_of s file []) (p ++ q) ≡ behind t.out (fed_bytes (stream_of t.session t.file []) q)
whole_behind p q s file =
    let t = fed_bytes (stream_of s file []) p in
    let e : t ≡ behind t.out (stream_of t.session t.file []) = ap (λ (l : List ℕ). stream_of t.session t.file l) (sym (append-nil t.out)) in
    fed_behind p q (stream_of s file []) ∙ ap (λ (v : Stream). fed_bytes v q) e ∙ bytes_behind t.out q (stream_of t.session t.file [])

parts_join : (ps : List (List ℕ)) (s : Session Scan) (file : List ℕ) → parts_answers s file ps ≡ (closed_of (fed_bytes (stream_of s file []) (flatten ps))).out
unfolding flatten
parts_join [] s file = refl
parts_join (p ∷ ps) s file =
    let t = fed_bytes (stream_of s file []) p in
    ap (λ (l : List ℕ). t.out ++ l) (parts_join ps t.session t.file)
    ∙ sym (ap (λ (v : Stream). (closed_of v).out) (whole_behind p (flatten ps) s file)
    ∙ ap (λ (v : Stream). v.out) (closed_behind t.out (fed_bytes (stream_of t.session t.file []) (flatten ps))))

pub cut_anywhere : (c : Chain) (file : List ℕ) (parts : List (List ℕ)) → parts_answers (opened_of c) file parts ≡ answers_of c file (flatten parts)
cut_anywhere c file parts = parts_join parts (opened_of c) file

-- "chain and file": those that a block's first bytes left, and the bytes that are left
pub record Threads (block file₀ : List ℕ) (s₀ : Session Scan) (left : List ℕ) (s : Session Scan) (file : List ℕ) : Type 0 where
  pub used : ℕ
  pub is : left ≡ drop used block
  pub session_is : s ≡ (fed_bytes (stream_of s₀ file₀ []) (take used block)).session
  pub file_is : file ≡ (fed_bytes (stream_of s₀ file₀ []) (take used block)).file

pub threads_none : (block file : List ℕ) (s : Session Scan) → Threads block file s block s file
threads_none block file s = record { used = 0; is = refl; session_is = refl; file_is = refl }

-- they go on through a turn over those
pub turn_threads : {block file₀ left file out file' out' : List ℕ} {s₀ s : Session Scan} {r : Turn Scan} → Threads block file₀ s₀ left s file
    → Fed left s file out r file' out' → Threads block file₀ s₀ (drop r.used left) r.session file'
turn_threads {block} {file₀} {left} {file} {s₀ = s₀} {s} {r} h a =
    let t = stream_of s file [] in
    let u : r.used ≡ length (fitting_bytes t left) = ap (λ (x : Turn Scan). x.used) a.is in
    let g : fitting_bytes t left ≡ take r.used (drop h.used block) =
    sym (used_first left t) ∙ ap (λ (x : ℕ). take x left) (sym u) ∙ ap (λ (l : List ℕ). take r.used l) h.is in
    let w : fed_bytes (stream_of s₀ file₀ []) (take (h.used + r.used) block) ≡ behind (fed_bytes (stream_of s₀ file₀ []) (take h.used block)).out (fed_bytes t (fitting_bytes t left)) =
    rw (take-add, g, h.session_is, h.file_is) (whole_behind (take h.used block) (take r.used (drop h.used block)) s₀ file₀) in
    record {
      used = h.used + r.used;
      is = rw h.is (drop-drop r.used h.used block);
      session_is = ap (λ (x : Turn Scan). x.session) a.is ∙ sym (ap (λ (v : Stream). v.session) w);
      file_is = a.keeps ∙ sym (ap (λ (v : Stream). v.file) w);
    }

-- to the block's end
pub threads_end : {block file₀ left file : List ℕ} {s₀ s : Session Scan} → Threads block file₀ s₀ left s file → length left ≡ 0
    → (s ≡ (fed_bytes (stream_of s₀ file₀ []) block).session) × (file ≡ (fed_bytes (stream_of s₀ file₀ []) block).file)
threads_end {block} h n =
    let e : take h.used block ≡ block = take_all h.used block (omega (arith, n, ap length h.is, length-drop h.used block)) in
    (rw e at h.session_is, rw e at h.file_is)
