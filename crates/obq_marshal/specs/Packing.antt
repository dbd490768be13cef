-- The table of the closed groups that values need, and the values over it. A group comes behind those that its captured values
-- need, at its first need.
use Rattle.std.specs.Prelude.{ℕ, List, [], ◌∷◌, ◌++◌, map, fold, length, position, Option, Some, None}
use Rattle.std.specs.Map.{keys_of, values_of}
use Rattle.indexmap.specs.IndexMap.{insert_entry}
use Rattle.obq_base.specs.declared.code.CodeNo.{CodeNo}
use Rattle.obq_base.specs.declared.values.Group.{Group, Group-F, fold-Group}
use Rattle.obq_base.specs.declared.values.GroupNo.{GroupNo}
use Rattle.obq_base.specs.declared.values.Value.{Value, Value-F, fold-Value}
use Rattle.obq_marshal.specs.declared.carried.Carried.{Carried}
use Rattle.obq_marshal.specs.Groups.{same_key}
use Rattle.obq_wire.specs.declared.values.TableEntry.{TableEntry}
use Rattle.obq_wire.specs.declared.values.WireValue.{WireValue}
use Rattle.obq_wire.specs.declared.values.WireValue.TheVariants as w

-- the entries of a table so far, by the numbers of their groups
abbrev pub Placed : Type 0
Placed = List ((ℕ × ℕ) × TableEntry)

-- the index of the entry of a group
abbrev pub index_of : GroupNo → Placed → Option ℕ
index_of g placed = position (same_key (g.thread, g.n)) (keys_of placed)

-- the entries behind a step, and what the step made
pub record After (X : Type 0) : Type 0 where
  pub placed : Placed
  pub made : X

abbrev pub after : {X : Type 0} → Placed → X → After X
after placed made = record { placed = placed; made = made }

abbrev pub Packs : Type 0 → Type 0
Packs X = Placed → After X

abbrev pub as_closure : ℕ → After ℕ → After WireValue
as_closure member r = after r.placed (w.Clo (record { index = r.made; member = member }))

abbrev pub value_step : Value-F (Packs WireValue) (Packs ℕ) → Packs WireValue
value_step (Value-F.Int z) placed = after placed (w.Int z)
value_step (Value-F.Bool t) placed = after placed (w.Bool t)
value_step Value-F.Okay placed = after placed w.Okay
value_step (Value-F.Text t) placed = after placed (w.Text t)
value_step (Value-F.Exn t) placed = after placed (w.Exn t)
value_step (Value-F.Clo group member) placed = as_closure member (group placed)
value_step (Value-F.Ref r) placed = after placed (w.Ref r)
value_step (Value-F.Thread id home) placed = after placed (w.Thread id home)

abbrev pub with_made : After (List WireValue) → After WireValue → After (List WireValue)
with_made r q = after q.placed (r.made ++ q.made ∷ [])

-- one step behind the other
abbrev pub in_turn : List (Packs WireValue) → Packs (List WireValue)
in_turn steps placed = fold (λ r step. with_made r (step r.placed)) (after placed []) steps

-- the entry of a group that isn't there, behind those that its captured values need
abbrev pub entered : GroupNo → List CodeNo → After (List WireValue) → Option ℕ → After ℕ
entered g codes r (Some i) = after r.placed i
entered g codes r None =
    after (insert_entry same_key r.placed (g.thread, g.n) (record { number = g; codes = codes; captured = r.made })) (length r.placed)

abbrev pub entered_behind : GroupNo → List CodeNo → After (List WireValue) → After ℕ
entered_behind g codes r = entered g codes r (index_of g r.placed)

abbrev pub place : GroupNo → List CodeNo → List (Packs WireValue) → Placed → Option ℕ → After ℕ
place g codes captured placed (Some i) = after placed i
place g codes captured placed None = entered_behind g codes (in_turn captured placed)

abbrev pub group_step : Group-F (Packs WireValue) (Packs ℕ) → Packs ℕ
group_step g placed = place g.number g.codes g.captured placed (index_of g.number placed)

-- a value over the table, with the entries that it needs besides those placed
abbrev pub pack_value : Value → Packs WireValue
pack_value = fold-Value (Packs WireValue) (Packs ℕ) value_step group_step

-- the index of a group
abbrev pub pack_group : Group → Packs ℕ
pack_group = fold-Group (Packs WireValue) (Packs ℕ) value_step group_step

abbrev pub pack_values : List Value → Packs (List WireValue)
pack_values values = in_turn (map pack_value values)

-- values over the table that they need
abbrev pub packed : List Value → Carried
packed values =
    let r = pack_values values [] in
    record { table = values_of r.placed; values = r.made }
