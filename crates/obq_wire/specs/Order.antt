-- The one order of a table.
use Rattle.std.specs.Prelude.{ℕ, zero, suc, Bool, false, List, [], ◌∷◌, ◌++◌, length, Option, Some, None, fold, slice_get, not, ◌||◌, ◌&&◌, ◌==◌, if◌then◌else◌}
use Rattle.std.specs.List.{flat_map, list_any}
use Rattle.obq_base.specs.declared.values.GroupNo.{GroupNo}
use Rattle.obq_wire.specs.declared.packets.Operation.{Operation}
use Rattle.obq_wire.specs.declared.packets.Operation.TheVariants as op
use Rattle.obq_wire.specs.declared.packets.Outcome.{Outcome}
use Rattle.obq_wire.specs.declared.packets.Outcome.TheVariants as o
use Rattle.obq_wire.specs.declared.packets.Packet.{Packet}
use Rattle.obq_wire.specs.declared.packets.Packet.TheVariants as p
use Rattle.obq_wire.specs.declared.values.TableEntry.{TableEntry}
use Rattle.obq_wire.specs.declared.values.WireBody.{WireBody}
use Rattle.obq_wire.specs.declared.values.WireBody.TheVariants as b
use Rattle.obq_wire.specs.declared.values.WireValue.{WireValue}
use Rattle.obq_wire.specs.declared.values.WireValue.TheVariants as v
use Rattle.obq_wire.specs.Spelling.{table_of}

-- the indices that values name, from left to right
abbrev pub value_needs : WireValue → List ℕ
value_needs (v.Clo m) = m.index ∷ []
value_needs (v.Int z) = []
value_needs (v.Bool t) = []
value_needs v.Okay = []
value_needs (v.Text t) = []
value_needs (v.Exn t) = []
value_needs (v.Ref r) = []
value_needs (v.Thread t home) = []

abbrev pub needs : List WireValue → List ℕ
needs values = flat_map value_needs values

abbrev pub body_needs : WireBody → List ℕ
body_needs (b.Value x) = value_needs x
body_needs (b.Method m) = m.index ∷ []
body_needs (b.Alias to name) = []

abbrev pub operation_needs : Operation → List ℕ
operation_needs (op.Call object name arguments) = needs arguments
operation_needs (op.Set object name new) = body_needs new
operation_needs (op.ArraySet array index new) = value_needs new
operation_needs (op.VarSet variable new) = value_needs new
operation_needs (op.Export name new) = value_needs new
operation_needs (op.Engine engine procedure) = procedure.index ∷ []
operation_needs other = []

abbrev pub outcome_needs : Outcome → List ℕ
outcome_needs (o.Value x) = value_needs x
outcome_needs (o.Raised text) = []
outcome_needs o.Exit = []
outcome_needs (o.Hop to name) = []
outcome_needs (o.Object flags fields) = flat_map (λ f. body_needs f.body) fields

-- the indices that what stands behind the table names
abbrev pub packet_needs : Packet → List ℕ
packet_needs (p.Request r) = operation_needs r.operation
packet_needs (p.Reply r) = outcome_needs r.outcome
packet_needs (p.Wake w) = []

abbrev pub captured_of : Option TableEntry → List WireValue
captured_of None = []
captured_of (Some e) = e.captured

-- the values that the entry at this index captured
abbrev pub captured_at : List TableEntry → ℕ → List WireValue
captured_at table i = captured_of (slice_get table i)

-- the indices that it names
abbrev pub entry_needs : List TableEntry → ℕ → List ℕ
entry_needs table i = needs (captured_at table i)

abbrev pub has_number : List ℕ → ℕ → Bool
has_number ns n = list_any (λ m. m == n) ns

-- So many indices as are placed so far, and behind them what i needs and isn't placed yet, and then i itself, where it isn't
-- placed yet and is below the bound. What an entry needs stands before it, so the bound goes down to i.
unfoldable pub placed : List TableEntry → ℕ → List ℕ → ℕ → List ℕ
placed table zero so_far i = so_far
placed table (suc bound) so_far i =
    if i == bound
    then (if has_number so_far i then so_far else fold (placed table bound) so_far (entry_needs table i) ++ i ∷ [])
    else placed table bound so_far i

-- the indices that are needed, each at its first need and behind those that its entry needs
abbrev pub order : List TableEntry → List ℕ → List ℕ
order table roots = fold (placed table (length table)) [] roots

abbrev pub is_number : Option ℕ → ℕ → Bool
is_number None k = false
is_number (Some i) k = i == k

-- the k-th index that is needed is k
abbrev pub is_needed_there : List ℕ → ℕ → Bool
is_needed_there needed k = is_number (slice_get needed k) k

abbrev pub same_number : GroupNo → GroupNo → Bool
same_number g h = (g.thread == h.thread) && (g.n == h.n)

-- the first of the entries behind the earlier ones that has the number of an entry before it, or isn't needed at its place
abbrev pub misplaced_from : List ℕ → List TableEntry → List TableEntry → Option ℕ
misplaced_from needed earlier [] = None
misplaced_from needed earlier (e ∷ es) =
    if list_any (λ d. same_number d.number e.number) earlier || not (is_needed_there needed (length earlier))
    then Some (length earlier)
    else misplaced_from needed (earlier ++ e ∷ []) es

-- the first entry of a packet's table that has the number of an earlier one, or isn't needed at its place
abbrev pub misplaced : Packet → Option ℕ
misplaced p = misplaced_from (order (table_of p) (packet_needs p)) [] (table_of p)
