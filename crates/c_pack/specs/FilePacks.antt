-- The status of a pack file: its answer and place, how many packs it has, and the pack of a slot.
use Rattle.std.specs.Prelude.{ℕ, ◌+◌, ◌*◌, List, get_or, not}
use Rattle.std.specs.Prelude.{if◌then◌else◌, Result, Ok, Err}
use Rattle.counts.specs.Slots.{slot_b}
use Rattle.event.specs.declared.Answer.TheVariants.{OutOfRange, Inapplicable}
use Rattle.pack_read.specs.declared.read.Refused.{Refused}
use Rattle.pack_read.specs.declared.Pack.{Pack}
use Rattle.pack_read.specs.Packs.{no_pack}
use Rattle.pack_read.specs.Read.{read_all}
use Rattle.chain_record.specs.Record.{slot_pack}
use Rattle.pack_read.specs.Packs.{fitted_b}
use Rattle.c_pack.specs.declared.Coded.{Coded}
use Rattle.c_pack.specs.Code.{second_byte, refused}
use Rattle.c_pack.specs.Fit.{refusal_code}

-- 1 for a pack that is there
abbrev pub one_of : Pack → ℕ
one_of p = if fitted_b p then 1 else 0

abbrev pub in_slot : List Pack → ℕ → ℕ
in_slot packs i = one_of (get_or packs i no_pack)

-- how many of the seven slots have a pack
unfoldable pub count_of : List Pack → ℕ
count_of packs = in_slot packs 0 + in_slot packs 1 + in_slot packs 2 + (in_slot packs 3 + in_slot packs 4 + in_slot packs 5) + in_slot packs 6

-- how many packs the file has, in the second byte; or why it is refused, and where
abbrev pub packs_code : Result (List Pack) Refused → ℕ
packs_code (Ok packs) = count_of packs * second_byte
packs_code (Err refused) = refusal_code refused

unfoldable pub packs_of : List ℕ → ℕ
packs_of file = packs_code (read_all file)

-- the pack that stands there, or 24 where none does
abbrev pub slot_or : Pack → Pack → Coded Pack
slot_or p old = if fitted_b p then record { lent = p; code = 0 } else refused old Inapplicable

-- unless the file is refused
abbrev pub taken_or : Result (List Pack) Refused → ℕ → Pack → Coded Pack
taken_or (Ok packs) slot old = slot_or (slot_pack packs slot) old
taken_or (Err why) slot old = record { lent = old; code = refusal_code why }

-- the pack of a slot, in place of the old one: 21, then 30 to 36, then 24
unfoldable pub pack_at_slot : Pack → List ℕ → ℕ → Coded Pack
pack_at_slot old file slot =
    if not (slot_b slot) then refused old OutOfRange
    else taken_or (read_all file) slot old
