-- Tables whose numbers ascend.
use Rattle.std.specs.Prelude.{Bool, List, None, Option, Some, [], if◌then◌else◌, nat_lt, true, ℕ, ◌&&◌, ◌==◌, ◌||◌, ◌∷◌}
use Rattle.obq_base.specs.declared.values.GroupNo.{GroupNo}
use Rattle.obq_wire.specs.declared.values.TableEntry.{TableEntry}

-- by the thread, then by its count
abbrev pub is_before : GroupNo → GroupNo → Bool
is_before g h = nat_lt g.thread h.thread || ((g.thread == h.thread) && nat_lt g.n h.n)

abbrev pub ascend_from : GroupNo → List TableEntry → Bool
ascend_from g [] = true
ascend_from g (e ∷ es) = is_before g e.number && ascend_from e.number es

abbrev pub ascend : List TableEntry → Bool
ascend [] = true
ascend (e ∷ es) = ascend_from e.number es

-- the first entry that isn't needed at its place, of so many
abbrev pub needless : (agreed count : ℕ) → Option ℕ
needless agreed count = if nat_lt agreed count then Some agreed else None
