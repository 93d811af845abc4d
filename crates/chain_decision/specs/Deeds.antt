-- A deed on a file: what it answers, and what the file then holds.
use Rattle.std.specs.Prelude.{ℕ, ◌+◌, ◌<◌, List, [], ◌∷◌, get_or, set}
use Rattle.pack_read.specs.declared.Pack.{Pack}
use Rattle.drive_gates.specs.CellPlace.{place_of}
use Rattle.event.specs.declared.Answer.{Answer}
use Rattle.event.specs.declared.Answer.TheVariants as answer
use Rattle.chain_record.specs.Record.{slot_pack}
use Rattle.chain_decision.specs.declared.Spot.{Spot}
use Rattle.chain_decision.specs.declared.Deed.{Deed}
use Rattle.chain_decision.specs.declared.Deed.TheVariants.{Say, Read, Write}

-- where in the file a cell stands: "the byte at (cylinder × heads + head) × track length + position of that pack's medium"
unfoldable pub spot_place : List Pack → Spot → ℕ
spot_place packs s = (slot_pack packs s.slot).place.0 + place_of (slot_pack packs s.slot).profile s.cylinder s.head s.position

-- a byte handed to the file
pub record BytePut : Type 0 where
  pub place : ℕ
  pub byte : ℕ

-- the bytes that a deed hands to the file, in their order
abbrev pub puts_of : List Pack → Deed → List BytePut
puts_of packs (Say a) = []
puts_of packs (Read s) = []
puts_of packs (Write s byte) = record { place = spot_place packs s; byte = byte } ∷ []

-- the places of the file that it reads
abbrev pub reads_of : List Pack → Deed → List ℕ
reads_of packs (Say a) = []
reads_of packs (Read s) = spot_place packs s ∷ []
reads_of packs (Write s byte) = []

-- what holds of each in a list
abbrev pub Every : {A : Type 0} → (A → Type 0) → List A → Type 0
Every P [] = Unit
Every P (x ∷ xs) = P x × Every P xs

-- each place read or put lies within a length
abbrev pub Fits : List Pack → ℕ → Deed → Type 0
Fits packs n deed = Every (λ (i : ℕ). i < n) (reads_of packs deed) × Every (λ (p : BytePut). p.place < n) (puts_of packs deed)

-- "1 byte read (value = byte)", "2 byte written"
abbrev pub said_of : List Pack → Deed → List ℕ → Answer
said_of packs (Say a) file = a
said_of packs (Read s) file = answer.Read (get_or file (spot_place packs s) 0)
said_of packs (Write s byte) file = answer.Written

-- bytes set one after the other
abbrev pub put_all : List BytePut → List ℕ → List ℕ
put_all [] file = file
put_all (p ∷ rest) file = put_all rest (set file p.place p.byte)

-- "that one file byte"
abbrev pub file_after : List Pack → Deed → List ℕ → List ℕ
file_after packs deed file = put_all (puts_of packs deed) file
