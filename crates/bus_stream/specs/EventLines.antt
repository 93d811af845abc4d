-- The same by whole lines, in document 01's words. That it is the same is `answers_by_lines` of proofs/Whole.antt.
use Rattle.std.specs.Prelude.{ℕ, List, [], ◌∷◌, ◌++◌, ◌==◌}
use Rattle.std.specs.Prelude.{if◌then◌else◌}
use Rattle.chain_record.specs.declared.Chain.{Chain}
use Rattle.bus_text.specs.TextBytes.{newline}
use Rattle.bus_text.specs.Whole.{line_of}
use Rattle.bus_reply.specs.Reply.{reply_of, reply_file, line_count, line_answer}

-- a byte in front of the first line
abbrev pub on_first : ℕ → List (List ℕ) → List (List ℕ)
on_first b [] = (b ∷ []) ∷ []
on_first b (w ∷ ws) = (b ∷ w) ∷ ws

-- "event lines", "the last newline may be missing": a newline ends a line, and behind the last one no line begins
unfoldable pub split_lines : List ℕ → List (List ℕ)
split_lines [] = []
split_lines (b ∷ l) = if b == newline then [] ∷ split_lines l else (on_first b (split_lines l))

-- "Each output line": one for each line, in order, each on the chain and the file that the lines before it left
abbrev pub lines_answers : ℕ → Chain → List ℕ → List (List ℕ) → List ℕ
lines_answers count c file [] = []
lines_answers count c file (w ∷ ws) =
    let r = reply_of c file (line_of w) in
    line_answer (line_count count) r ++ lines_answers (line_count count) r.chain (reply_file c file (line_of w)) ws
