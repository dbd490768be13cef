-- What stands behind a tag.
use Rattle.std.proofs.Common.{◌≡◌, ℕ, List, length, Ok, refl}
use Rattle.obq_wire.specs.declared.values.TableEntry.{TableEntry}
use Rattle.obq_wire.specs.Reading.{behind_tag, byte_at, operation_arms, operation_at}

pub behind : (table : List TableEntry) (bytes : List ℕ) (tag : ℕ) (rest : List ℕ) → byte_at bytes ≡ Ok (tag, rest)
    → operation_at table bytes ≡ behind_tag (operation_arms table) (length bytes) tag rest
unfolding operation_at
behind table bytes tag rest read = rw read refl
