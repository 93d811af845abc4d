-- "Commands stand in a table of code, modifier range and option needed; the first row whose code and range fit decides."
use Rattle.std.specs.Prelude.{ℕ, Bool, List, [], ◌∷◌, leb, eqb, Option, slice_get}
use Rattle.std.specs.List.{position_or_len}
use Rattle.counts.specs.Tests.{all_of}
use Rattle.word_table.specs.declared.table.Needs.{Needs}
use Rattle.word_table.specs.declared.table.Needs.TheVariants.{Free, Motor, Offsets, Hard}
use Rattle.word_table.specs.declared.table.Asks.{Asks}
use Rattle.word_table.specs.declared.table.Asks.TheVariants.{Nothing, Ready, Position}
use Rattle.word_table.specs.declared.table.Command.{Command}
use Rattle.word_table.specs.declared.table.Command.TheVariants.{Seek, Recalibrate, Status, Configuration, Clear, Stop, Start, Restore, Plus, Minus, Diagnose, Sector}
use Rattle.word_table.specs.declared.table.Row.{Row}

-- a code, its modifiers from the first to the last, the option needed, what is asked of the drive, the command
abbrev pub row : ℕ → ℕ → ℕ → Needs → Asks → Command → Row
row code from to needs asks command = record { code = code; from = from; to = to; needs = needs; asks = asks; command = command }

abbrev pub commands : List Row
commands =
    row 0 0 15 Free Position Seek  -- "seek, bits 11..0"
    ∷ row 1 0 0 Free Ready Recalibrate  -- "recalibrate": "modifier 0"
    ∷ row 2 0 0 Free Nothing Status  -- "request status": "modifier 0"
    ∷ row 3 0 15 Free Nothing Configuration  -- "request configuration": "any"
    ∷ row 5 0 0 Free Nothing Clear  -- "control": "0", "0 clears latched bits"
    ∷ row 5 2 2 Motor Nothing Stop  -- "2, 3 with motor option", "2 stops"
    ∷ row 5 3 3 Motor Nothing Start  -- "3 starts"
    ∷ row 7 0 1 Offsets Position Restore  -- "track offset": "0..3 with offset option", "0, 1 restore"
    ∷ row 7 2 2 Offsets Position Plus  -- "2 is +1"
    ∷ row 7 3 3 Offsets Position Minus  -- "3 is −1"
    ∷ row 8 0 0 Free Nothing Diagnose  -- "diagnostics": "modifier 0"
    ∷ row 9 0 15 Hard Nothing Sector  -- "set bytes per sector, bits 11..0": "hard sectored"
    ∷ []

-- whose "code and range fit"
abbrev pub fits_b : ℕ → ℕ → Row → Bool
fits_b code modifier r = all_of (eqb r.code code ∷ leb r.from modifier ∷ leb modifier r.to ∷ [])

-- the number of "the first row", or the number of rows
unfoldable pub row_of : ℕ → ℕ → ℕ
row_of code modifier = position_or_len (fits_b code modifier) commands

-- the row itself; none where none fits
unfoldable pub found_of : ℕ → ℕ → Option Row
found_of code modifier = slice_get commands (row_of code modifier)
