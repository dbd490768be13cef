-- Which bytes are the frame of which packet, and where other bytes go wrong.
use Rattle.std.specs.Prelude.{◌≡◌, ℕ, suc, ◌-◌, List, [], ◌∷◌, ◌++◌, length, take, Option, Some, None, Result, Ok, Err}
use Rattle.std.specs.List.{flat_map}
use Rattle.obq_wire.specs.declared.packets.Packet.{Packet}
use Rattle.obq_wire.specs.declared.refusal.WireRefused.{WireRefused}
use Rattle.obq_wire.specs.declared.refusal.WireRefused.TheVariants as refused
use Rattle.obq_wire.specs.Spelling.{spelling, before_entries, table_of, entry}
use Rattle.obq_wire.specs.Fits.{HasFields}
use Rattle.obq_wire.specs.Order.{misplaced}
use Rattle.obq_wire.specs.Reading.{packet_at}

-- A packet that can be sent: each field is in its range, and each entry of the table is needed at its place and has a number
-- of its own.
pub record CanBeSent (p : Packet) : Type 0 where
  pub fields : HasFields p
  pub table : misplaced p ≡ None

-- the bytes are the frame of the packet
pub record Spells (bytes : List ℕ) (p : Packet) : Type 0 where
  pub bytes_are : bytes ≡ spelling p
  pub can_be_sent : CanBeSent p

-- the first byte of the k-th entry of the table
abbrev pub entry_place : Packet → ℕ → ℕ
entry_place p k = length (before_entries p ++ flat_map entry (take k (table_of p)))

abbrev pub in_order : Packet → Option ℕ → Result Packet ℕ
in_order p None = Ok p
in_order p (Some k) = Err (entry_place p k)

-- a field that is wrong comes first, then a byte too many, then an entry that is misplaced
abbrev pub whole : List ℕ → Result (Packet × List ℕ) ℕ → Result Packet ℕ
whole bytes (Err left) = Err (length bytes - left)
whole bytes (Ok (p, [])) = in_order p (misplaced p)
whole bytes (Ok (p, b ∷ rest)) = Err (length bytes - suc (length rest))

-- the packet of these bytes, or else the place where they go wrong
unfoldable pub frame_at : List ℕ → Result Packet ℕ
frame_at bytes = whole bytes (packet_at bytes)

-- the answer is what reading gives, unless memory ran out
abbrev pub Answers : Result Packet WireRefused → Result Packet ℕ → Type 0
Answers (Ok p) read = read ≡ Ok p
Answers (Err (refused.BadFrame place)) read = read ≡ Err place
Answers (Err refused.NoMemory) read = Unit {0}
