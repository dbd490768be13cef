-- The operations of a frame by the names that the table of `obq_tables` has for them.
use Rattle.std.specs.Prelude.{ℕ, List, Option, codes, bytes_eq}
use Rattle.std.specs.List.{zip}
use Rattle.std.specs.Map.{lookup}
use Rattle.obq_tables.specs.Tables.{wire_numbers, wire_operations}
use Rattle.obq_wire.specs.declared.packets.Operation.{Operation}
use Rattle.obq_wire.specs.declared.packets.Operation.TheVariants as op

abbrev pub operation_name : Operation → List ℕ
operation_name (op.Get object name) = codes "Get"
operation_name (op.Call object name arguments) = codes "Call"
operation_name (op.Set object name new) = codes "Set"
operation_name (op.Copy object) = codes "Copy"
operation_name (op.Redirect object target) = codes "Redirect"
operation_name (op.ArrayItem array index) = codes "ArrayItem"
operation_name (op.ArraySize array) = codes "ArraySize"
operation_name (op.ArraySet array index new) = codes "ArraySet"
operation_name (op.VarGet variable) = codes "VarGet"
operation_name (op.VarSet variable new) = codes "VarSet"
operation_name (op.Put writer text) = codes "Put"
operation_name (op.Join t) = codes "Join"
operation_name (op.Line condition object) = codes "Line"
operation_name (op.GiveUp object) = codes "GiveUp"
operation_name (op.Again object condition) = codes "Again"
operation_name (op.Signal condition) = codes "Signal"
operation_name (op.Broadcast condition) = codes "Broadcast"
operation_name (op.Export name new) = codes "Export"
operation_name (op.Import name engine) = codes "Import"
operation_name (op.Engine engine procedure) = codes "Engine"

-- the number that the table has for a name
abbrev pub number_named : List ℕ → Option ℕ
number_named name = lookup (bytes_eq name) (zip wire_operations wire_numbers)
