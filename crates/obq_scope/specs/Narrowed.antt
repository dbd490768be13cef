-- Numbers as codes have them.
use Rattle.std.specs.Prelude.{List, length, map, min, ℕ}
use Rattle.obq_base.specs.declared.code.CodeNo.{CodeNo}
use Rattle.obq_base.specs.declared.code.Slot.{Slot}
use Rattle.obq_base.specs.declared.code.Slot.TheVariants as s
use Rattle.obq_model.specs.Scopes.{Outside, last_place, slot_or}
use Rattle.obq_model.specs.Terms.{Bytes}
use Rattle.obq_scope.specs.declared.output.Output.{Output}

-- a number in 32 bits: one that has more becomes the largest of these
unfoldable pub narrowed : ℕ → ℕ
narrowed n = min n 4294967295

-- where a name is found, with the number so
abbrev pub found_slot : Outside → List Bytes → Bytes → Slot
found_slot o locals x =
    slot_or (λ k. s.Local (narrowed k)) (last_place x locals)
    (slot_or (λ k. s.Member (narrowed k)) (last_place x o.members) (slot_or (λ k. s.Captured (narrowed k)) (last_place x o.captured) (s.Stdout o.source)))

abbrev pub found_slots : Outside → List Bytes → List Bytes → List Slot
found_slots o locals names = map (found_slot o locals) names

-- the number that a code gets when it is whole
abbrev pub numbered : ℕ → Output → CodeNo
numbered source out = record { source = source; n = narrowed (length out.codes) }
