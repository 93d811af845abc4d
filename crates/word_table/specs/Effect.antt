-- Which words are valid, and what a word comes to.
use Rattle.std.specs.Prelude.{ℕ, ◌%◌, ◌^◌, Bool, true, false, ◌&&◌, ◌||◌, not, ltb, eqb, Option, Some, None, Result, Ok, Err}
use Rattle.std.specs.Prelude.{if◌then◌else◌}
use Rattle.pack_profile.specs.declared.Profile.{Profile}
use Rattle.pack_profile.specs.Profile.{gaps_of}
use Rattle.pack_profile.specs.General.{offset_option, motor_option, soft}
use Rattle.pack_profile.specs.Valid.{hard_size}
use Rattle.drive_record.specs.declared.Body.{Body}
use Rattle.drive_record.specs.Status.{ready_b}
use Rattle.word_acts.specs.declared.Act.TheVariants as act
use Rattle.word_table.specs.declared.table.Needs.{Needs}
use Rattle.word_table.specs.declared.table.Needs.TheVariants.{Free, Motor, Offsets, Hard}
use Rattle.word_table.specs.declared.table.Asks.{Asks}
use Rattle.word_table.specs.declared.table.Asks.TheVariants.{Nothing, Ready, Position}
use Rattle.word_table.specs.declared.table.Command.{Command}
use Rattle.word_table.specs.declared.table.Command.TheVariants.{Seek, Recalibrate, Status, Configuration, Clear, Stop, Start, Restore, Plus, Minus, Diagnose, Sector}
use Rattle.word_table.specs.declared.table.Row.{Row}
use Rattle.word_table.specs.declared.Effect.{Effect}
use Rattle.word_table.specs.declared.Effect.TheVariants as effect
use Rattle.word_table.specs.declared.Effect.TheVariants.{Does}
use Rattle.word_table.specs.declared.WordFault.{WordFault}
use Rattle.word_table.specs.declared.WordFault.TheVariants.{Parity, Invalid, Blocked}
use Rattle.word_table.specs.Word.{sixteen_of, code_of, modifier_of, bits11to0, odd_b}
use Rattle.word_table.specs.Table.{found_of}

-- "with motor option", "with offset option", "hard sectored"
unfoldable pub option_b : Profile → Needs → Bool
option_b p Free = true
option_b p Motor = motor_option p.general
option_b p Offsets = offset_option p.general
option_b p Hard = not (soft p.general)

-- "set bytes per sector"
unfoldable pub size_b : Profile → ℕ → Bool
size_b p size =
    hard_size size  -- "162..4,095"
    && ltb (gaps_of p) size  -- request 8: "the size must be greater than ..", "tried after the 162 to 4,095 range"

unfoldable pub operand_b : Profile → Command → ℕ → Bool
operand_b p Seek w = ltb (bits11to0 w) p.shape.cylinders.0  -- "cylinder < cylinders"
operand_b p Sector w = size_b p (bits11to0 w)
operand_b p _ w = eqb (w % 256) 0  -- "so are non-zero bits 7..0 outside 0 and 9"

abbrev pub word_valid_b : Profile → Row → ℕ → Bool
word_valid_b p r w = option_b p r.needs && operand_b p r.command w

unfoldable pub blocked_b : Body → Asks → Bool
blocked_b b Nothing = false
blocked_b b Ready = not (ready_b b)  -- "seek, recalibrate or offset when not ready"
blocked_b b Position = not (ready_b b) || not (eqb b.arm.lost 0)  -- "seek or offset with position lost"

-- the column "effect", by the row's command; an offset by the arm's code
unfoldable pub act_of : Command → ℕ → Effect
act_of Seek w = Does (act.Seek (record { 0 = bits11to0 w }))
act_of Recalibrate w = Does act.Recalibrate
act_of Status w = effect.Status
act_of Configuration w = effect.Configuration (modifier_of w)
act_of Clear w = Does act.Clear
act_of Stop w = Does act.Stop
act_of Start w = Does act.Start
act_of Restore w = Does (act.Offset 0)
act_of Plus w = Does (act.Offset 1)
act_of Minus w = Does (act.Offset 2)
act_of Diagnose w = Does act.Diagnose
act_of Sector w = Does (act.Sector (record { 0 = bits11to0 w }))

abbrev pub bit_of : WordFault → ℕ
bit_of Parity = 2 ^ 7  -- "even parity, bit 7"
bit_of Invalid = 2 ^ 5  -- "invalid, bit 5"
bit_of Blocked = 2 ^ 4  -- "when not ready, bit 4; .. with position lost, bit 4"

-- "Order for a whole word"
unfoldable pub order_of : Profile → Body → ℕ → Option Row → ℕ → Result Effect WordFault
order_of p b n None w = if not (odd_b n) then Err Parity else Err Invalid  -- "Other codes are invalid"
order_of p b n (Some r) w =
    if not (odd_b n) then Err Parity  -- "even parity"
    else (if not (word_valid_b p r w) then Err Invalid  -- "invalid"
    else (if blocked_b b r.asks then Err Blocked  -- "when not ready; .. with position lost"
    else Ok (act_of r.command w)))  -- "else carried out"

unfoldable pub effect_of : Profile → Body → ℕ → Result Effect WordFault
effect_of p b n = order_of p b n (found_of (code_of (sixteen_of n)) (modifier_of (sixteen_of n))) (sixteen_of n)
