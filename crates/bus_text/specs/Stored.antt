-- What storing bytes in a lent part leaves there.
use Rattle.std.specs.Prelude.{ℕ, ◌+◌, ◌≤◌, ◌≡◌, List, [], ◌++◌, leb, length, drop}
use Rattle.std.proofs.lemmas.List.Edits.{sets}
use Rattle.std.specs.Prelude.{if◌then◌else◌}
use Rattle.bus_text.specs.AnswerLine.{longest_line}

-- text stored at a place of a part, and the place behind it
pub record Put (old : List ℕ) (at : ℕ) (text new : List ℕ) (next : ℕ) : Type 0 where
  pub holds : new ≡ sets old at text
  pub ends : next ≡ at + length text

-- a line, where the part has room for the longest, else nothing
unfoldable pub fitting : List ℕ → List ℕ → List ℕ
fitting part line = if leb longest_line (length part) then line else []

-- text in place of a part's first bytes
abbrev pub over : List ℕ → List ℕ → List ℕ
over text part = text ++ drop (length text) part

-- what fits stands at the part's start, and its bytes are counted
pub record LineStored (part line after : List ℕ) (count : ℕ) : Type 0 where
  pub holds : after ≡ over (fitting part line) part
  pub counts : count ≡ length (fitting part line)
  pub within : count ≤ length part
