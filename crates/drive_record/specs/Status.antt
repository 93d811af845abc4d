-- What a drive tells of itself.
use Rattle.std.specs.Prelude.{ℕ, ◌^◌, Bool, ◌&&◌, not, eqb}
use Rattle.std.specs.Int.Bits.{bit_or}
use Rattle.std.specs.Prelude.{if◌then◌else◌}
use Rattle.pack_profile.specs.declared.Profile.{Profile}
use Rattle.pack_profile.specs.General.{removable}
use Rattle.handshake.specs.Transfer.{open_b}
use Rattle.drive_record.specs.declared.Body.{Body}
use Rattle.drive_record.specs.declared.State.{State}
use Rattle.drive_record.specs.State.{up}

-- "Attention is up exactly while a latched bit stands."
abbrev pub attention_b : Body → Bool
attention_b b = not (eqb b.latched.0 0)

-- "Ready: motor up."
abbrev pub ready_b : Body → Bool
ready_b b = eqb b.motor up

-- neither timer runs
abbrev pub calm_b : Body → Bool
calm_b b = eqb b.timers.busy.0 0 && eqb b.timers.head.0 0

-- "Command complete: no transfer open, busy timer 0, head timer 0."
unfoldable pub complete_b : State → Bool
complete_b s = not (open_b s.transfer) && calm_b s.body

-- "13 or 12 write protected (removable or fixed)"
unfoldable pub protected_bit : Profile → ℕ
protected_bit p = if not (eqb p.protected 1) then 0 else (if removable p.general then 2 ^ 13 else 2 ^ 12)

-- "9 motor stopped. A starting motor still counts as stopped in bit 9."
unfoldable pub stopped_bit : Body → ℕ
stopped_bit b = if ready_b b then 0 else 2 ^ 9

-- "Status word: bits 14, 13, 12, 9 are live: 14 is 0 here .. Latched: 8 .. 0. Others 0."
unfoldable pub status_of : Profile → Body → ℕ
status_of p b = bit_or (bit_or b.latched.0 (protected_bit p)) (stopped_bit b)
