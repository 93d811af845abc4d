-- A part run byte by byte: what its first line comes to, and where the run stops. The loop of `feed` follows it.
use Rattle.std.proofs.Common.{◌≡◌, ℕ, suc, ◌+◌, ◌<◌, Bool, true, false, ◌&&◌, eqb, List, [], ◌∷◌, length, drop, sym, refl, ap, ◌∙◌, arith, length-drop, drop-drop, eqb-true}
use Rattle.std.specs.Prelude.{if◌then◌else◌}
use Rattle.counts.proofs.Choice.{by_test}
use Rattle.bus_text.specs.TextBytes.{newline}
use Rattle.bus_text.specs.declared.Stop.{Stop}
use Rattle.bus_text.specs.Scan.{fed_of, fed_all}
use Rattle.bus_text.specs.TextLines.{first_line, line_stop}
use Rattle.bus_text.specs.declared.Scan.{Scan}
use Rattle.bus_session.specs.declared.Session.{Session}
use Rattle.bus_stream.specs.Stream.{Stream, stream_of, answered_of, scanned_of, fed_byte}
use Rattle.bus_stream.specs.Parts.{is_full, fitting_bytes, ran_of}

-- t over l comes to k bytes and then u over m
pub record Goes (t : Stream) (l : List ℕ) (k : ℕ) (u : Stream) (m : List ℕ) : Type 0 where
  pub ran : ran_of t l ≡ ran_of u m
  pub uses : length (fitting_bytes t l) ≡ k + length (fitting_bytes u m)

pub goes_none : (t : Stream) (l : List ℕ) → Goes t l 0 t l
goes_none t l = record { ran = refl; uses = omega arith }

goes_then : {t u v : Stream} {l m n : List ℕ} {i j k : ℕ} → j + k ≡ i → Goes t l j u m → Goes u m k v n → Goes t l i v n
goes_then e g h = record { ran = g.ran ∙ h.ran; uses = omega (arith, e, g.uses, h.uses) }

-- a byte of the line
goes_byte : (t : Stream) (b : ℕ) (l : List ℕ) → eqb b newline ≡ false → Goes t (b ∷ l) 1 (scanned_of t (fed_of t.session.at b)) l
unfolding fitting_bytes fed_byte
goes_byte t b l e = record { ran = simp e; uses = simp e (omega arith) }

-- the newline behind it, where its answer fits
goes_newline : (t : Stream) (l : List ℕ) → is_full t ≡ false → Goes t (newline ∷ l) 1 (answered_of t) l
unfolding fitting_bytes fed_byte
goes_newline t l e = record { ran = simp e; uses = simp e (omega arith) }

-- the bytes of a line up to its newline
abbrev Scans : Stream → List ℕ → List ℕ → Type 0
Scans t l w = Goes t l (length w) (scanned_of t (fed_all t.session.at w)) (drop (length w) l)

goes_line : (l : List ℕ) (t : Stream) → Scans t l (first_line l)
unfolding first_line
goes_line [] t = goes_none t []
goes_line (b ∷ l) t =
    by_test (Scans t (b ∷ l)) (eqb b newline) [] (b ∷ first_line l) (λ e. goes_none t (b ∷ l))
    (λ e. goes_then (omega arith) (goes_byte t b l e) (goes_line l (scanned_of t (fed_of t.session.at b))))

-- what stands behind it
abbrev Ends : List ℕ → List ℕ → Type 0
Ends l w = length w < length l → drop (length w) l ≡ newline ∷ drop (suc (length w)) l

line_ends : (l : List ℕ) → Ends l (first_line l)
unfolding first_line
line_ends [] = λ h. absurd (omega arith)
line_ends (b ∷ l) =
    by_test (Ends (b ∷ l)) (eqb b newline) [] (b ∷ first_line l) (λ e h. ap (λ (x : ℕ). x ∷ l) (eqb-true b newline e)) (λ e h. line_ends l (omega arith))

-- a line of the part: it was run up to the place n, and the line that goes on there stops as told
module _ {t : Stream} {part : List ℕ} {n : ℕ} {u : Stream} {stop : Stop} (g : Goes t part n u (drop n part)) (e : stop ≡ line_stop (drop n part) u.session.at) where
  pub over_line : Goes t part (n + stop.at) (scanned_of u stop.scan) (drop (n + stop.at) part)
  over_line = rw e (rw drop-drop at (goes_then refl g (goes_line (drop n part) u)))

  newline_there : n + stop.at < length part → drop (n + stop.at) part ≡ newline ∷ drop (n + stop.at + 1) part
  newline_there h =
      let w = first_line (drop n part) in
      let k : n + length w < length part = rw e at h in
      let z : n + suc (length w) ≡ n + length w + 1 = omega arith in
      rw e (sym (drop-drop (length w) n part) ∙ line_ends (drop n part) (omega (arith, length-drop n part))
      ∙ ap (λ (l : List ℕ). newline ∷ l) (drop-drop (suc (length w)) n part ∙ ap (λ (i : ℕ). drop i part) z))

  pub over_newline : is_full (scanned_of u stop.scan) ≡ false → n + stop.at < length part
      → Goes t part (n + stop.at + 1) (answered_of (scanned_of u stop.scan)) (drop (n + stop.at + 1) part)
  over_newline f h = goes_then refl over_line (rw (newline_there h) (goes_newline (scanned_of u stop.scan) (drop (n + stop.at + 1) part) f))

  -- nothing more fits
  pub stops_full : is_full (scanned_of u stop.scan) ≡ true → n + stop.at < length part → fitting_bytes (scanned_of u stop.scan) (drop (n + stop.at) part) ≡ []
  unfolding fitting_bytes
  stops_full f h = simp (newline_there h, f)

-- nothing is left of the part
pub stops_used : (u : Stream) {m : List ℕ} → m ≡ [] → fitting_bytes u m ≡ []
unfolding fitting_bytes
stops_used u e = rw e

-- where the run stops
pub run_ends : {t u : Stream} {l m : List ℕ} {k : ℕ} → Goes t l k u m → fitting_bytes u m ≡ [] → (ran_of t l ≡ u) × (length (fitting_bytes t l) ≡ k)
run_ends g e = (g.ran ∙ rw e, omega (arith, g.uses, ap length e))

-- an empty output has room for a line, so a part that has a byte is used further
pub first_used : (s : Session Scan) (file l : List ℕ) → 0 < length l → 0 < length (fitting_bytes (stream_of s file []) l)
unfolding fitting_bytes
first_used s file [] h = absurd (omega arith)
first_used s file (b ∷ l) h =
    let P : Bool → Type 0 = λ f. 0 < length (if f then [] else (b ∷ fitting_bytes (fed_byte (stream_of s file []) b) l)) in
    both P (eqb b newline) (omega arith)
  where
    both : (P : Bool → Type 0) (f : Bool) → P false → P (f && false)
    both P true p = p
    both P false p = p
