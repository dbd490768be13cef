-- Which values a table and values over it stand for.
use Rattle.std.specs.Prelude.{ℕ, max, min, ◌+◌, Bool, List, [], ◌∷◌, ◌++◌, map, fold, Option, Some, None, slice_get, ◌&&◌, ◌==◌}
use Rattle.std.specs.Map.{lookup}
use Rattle.indexmap.specs.IndexMap.{insert_entry}
use Rattle.obq_base.specs.declared.values.Group.{Group}
use Rattle.obq_base.specs.declared.values.GroupNo.{GroupNo}
use Rattle.obq_base.specs.declared.values.Value.{Value, Value-F, out-Value}
use Rattle.obq_base.specs.declared.values.Value.TheVariants as v
use Rattle.obq_wire.specs.declared.values.TableEntry.{TableEntry}
use Rattle.obq_wire.specs.declared.values.WireValue.{WireValue}
use Rattle.obq_wire.specs.declared.values.WireValue.TheVariants as w

-- a member of a group; `ok` where there is no group
abbrev pub closure_of : Option Group → ℕ → Value
closure_of None member = v.Okay
closure_of (Some g) member = v.Clo g member

-- a value over the groups of a table
abbrev pub value_of : List Group → WireValue → Value
value_of groups (w.Int z) = v.Int z
value_of groups (w.Bool t) = v.Bool t
value_of groups w.Okay = v.Okay
value_of groups (w.Text t) = v.Text t
value_of groups (w.Exn t) = v.Exn t
value_of groups (w.Clo m) = closure_of (slice_get groups m.index) m.member
value_of groups (w.Ref r) = v.Ref r
value_of groups (w.Thread t home) = v.Thread t home

abbrev depth_at : Value-F Value Group → ℕ
depth_at (Value-F.Clo group member) = group.depth
depth_at other = 0

-- the depth of a closure, 0 of any other value
abbrev pub depth_of : Value → ℕ
depth_of x = depth_at (out-Value x)

abbrev pub greatest_depth : List Value → ℕ
greatest_depth xs = fold (λ d x. max d (depth_of x)) 0 xs

-- the depth of a group that captured these values; no depth is above 65,535
abbrev pub depth_over : List Value → ℕ
depth_over xs = min 65535 (greatest_depth xs + 1)

-- the group that an entry stands for, over those of the entries before it
abbrev pub group_of : List Group → TableEntry → Group
group_of groups e =
    let captured = map (value_of groups) e.captured in
    record { number = e.number; codes = e.codes; captured = captured; depth = depth_over captured }

abbrev pub Cached : Type 0
Cached = List ((ℕ × ℕ) × Group)

abbrev pub same_key : ℕ × ℕ → ℕ × ℕ → Bool
same_key a b = (a.0 == b.0) && (a.1 == b.1)

-- the cached group of a number
abbrev pub cached : Cached → GroupNo → Option Group
cached cache g = lookup (same_key (g.thread, g.n)) cache

-- the number has this group: one that is there keeps its place, and a new one comes last
abbrev pub with_group : Cached → GroupNo → Group → Cached
with_group cache g group = insert_entry same_key cache (g.thread, g.n) group

-- a cache, and the groups of the entries so far
pub record Unpacked : Type 0 where
  pub cache : Cached
  pub groups : List Group

abbrev pub so_far : Cached → List Group → Unpacked
so_far cache groups = record { cache = cache; groups = groups }

abbrev pub unpacked_group : Unpacked → TableEntry → Option Group → Unpacked
unpacked_group u e (Some group) = so_far u.cache (u.groups ++ group ∷ [])
unpacked_group u e None = so_far (with_group u.cache e.number (group_of u.groups e)) (u.groups ++ group_of u.groups e ∷ [])

-- one more entry: the cached group where there is one, and else the group that the entry stands for, which is cached
abbrev pub unpacked_entry : Unpacked → TableEntry → Unpacked
unpacked_entry u e = unpacked_group u e (cached u.cache e.number)

-- the groups of a table, and the cache behind it
abbrev pub unpacked : Cached → List TableEntry → Unpacked
unpacked cache table = fold unpacked_entry (so_far cache []) table
