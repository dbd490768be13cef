-- What may stand in a frame: each field in its range, and each closure a member of an entry of the table.
use Rattle.std.specs.Prelude.{◌≡◌, ◌<◌, ◌≤◌, ◌^◌, ⊤, ℕ, List, [], ◌∷◌, ◌++◌, length, Option, Some, None, slice_get, FitsSigned}
use Rattle.std.specs.List.{AllByRecursion}
use Rattle.std.specs.Int.{w64}
use Rattle.obq_base.specs.declared.code.CodeNo.{CodeNo}
use Rattle.obq_base.specs.declared.places.Kind.{Kind}
use Rattle.obq_base.specs.declared.places.Kind.TheVariants as kind
use Rattle.obq_base.specs.declared.places.Ref.{Ref}
use Rattle.obq_base.specs.declared.places.SiteId.{SiteId}
use Rattle.obq_base.specs.declared.places.ThreadId.{ThreadId}
use Rattle.obq_base.specs.declared.values.GroupNo.{GroupNo}
use Rattle.obq_base.specs.declared.limits.TheConstants.{TEXT_LIMIT, CALL_LIMIT}
use Rattle.obq_wire.specs.declared.packets.Current.{Current}
use Rattle.obq_wire.specs.declared.packets.Current.TheVariants as c
use Rattle.obq_wire.specs.declared.packets.Operation.{Operation}
use Rattle.obq_wire.specs.declared.packets.Operation.TheVariants as op
use Rattle.obq_wire.specs.declared.packets.Outcome.{Outcome}
use Rattle.obq_wire.specs.declared.packets.Outcome.TheVariants as o
use Rattle.obq_wire.specs.declared.packets.Packet.{Packet}
use Rattle.obq_wire.specs.declared.packets.Packet.TheVariants as p
use Rattle.obq_wire.specs.declared.values.TableEntry.{TableEntry}
use Rattle.obq_wire.specs.declared.values.TableMember.{TableMember}
use Rattle.obq_wire.specs.declared.values.WireBody.{WireBody}
use Rattle.obq_wire.specs.declared.values.WireBody.TheVariants as b
use Rattle.obq_wire.specs.declared.values.WireField.{WireField}
use Rattle.obq_wire.specs.declared.values.WireValue.{WireValue}
use Rattle.obq_wire.specs.declared.values.WireValue.TheVariants as v

abbrev pub IsText : List ℕ → Type 0
IsText t = length t ≤ TEXT_LIMIT

-- a name has any length that a number of four bytes can say
abbrev pub IsName : List ℕ → Type 0
IsName t = length t ≤ 4294967295

abbrev pub IsSite : SiteId → Type 0
IsSite s = s.0 < 2 ^ 16

abbrev pub IsThread : ThreadId → Type 0
IsThread t = t.0 < 2 ^ 32

abbrev pub IsReference : Ref → Type 0
IsReference r = IsSite r.site × (r.n < 2 ^ 32)

-- a reference to a cell of this kind
abbrev pub IsCell : Kind → Ref → Type 0
IsCell k r = (r.kind ≡ k) × IsReference r

abbrev pub code_count : Option TableEntry → ℕ
code_count None = 0
code_count (Some e) = length e.codes

-- how many codes the entry at this index has
abbrev pub codes_at : List TableEntry → ℕ → ℕ
codes_at table i = code_count (slice_get table i)

-- a closure of one of these entries
pub record IsClosure (table : List TableEntry) (m : TableMember) : Type 0 where
  pub index : m.index < length table
  pub member : m.member < codes_at table m.index
  pub index_fits : m.index < 2 ^ 32
  pub member_fits : m.member < 2 ^ 32

abbrev pub IsValue : List TableEntry → WireValue → Type 0
IsValue table (v.Int z) = FitsSigned w64 z
IsValue table (v.Bool t) = ⊤
IsValue table v.Okay = ⊤
IsValue table (v.Text t) = IsText t
IsValue table (v.Exn t) = IsText t
IsValue table (v.Clo m) = IsClosure table m
IsValue table (v.Ref r) = IsReference r
IsValue table (v.Thread t home) = IsThread t × IsSite home

abbrev pub IsList : {A : Type 0} → (A → Type 0) → List A → Type 0
IsList P xs = (length xs < 2 ^ 32) × AllByRecursion P xs

abbrev pub IsGroupNumber : GroupNo → Type 0
IsGroupNumber g = (g.thread < 2 ^ 32) × (g.n < 2 ^ 64)

abbrev pub IsCodeNumber : CodeNo → Type 0
IsCodeNumber c = (c.source < 2 ^ 16) × (c.n < 2 ^ 32)

-- its closures are of earlier entries
abbrev pub IsEntry : List TableEntry → TableEntry → Type 0
IsEntry earlier e = IsGroupNumber e.number × (IsList IsCodeNumber e.codes × IsList (IsValue earlier) e.captured)

-- each is such behind those before it
abbrev pub Each : {A : Type 0} → (List A → A → Type 0) → List A → List A → Type 0
Each P before [] = ⊤
Each P before (x ∷ xs) = P before x × Each P (before ++ x ∷ []) xs

abbrev pub IsTable : List TableEntry → Type 0
IsTable table = (length table < 2 ^ 32) × Each IsEntry [] table

abbrev pub IsBody : List TableEntry → WireBody → Type 0
IsBody table (b.Value x) = IsValue table x
IsBody table (b.Method m) = IsClosure table m
IsBody table (b.Alias to name) = IsCell kind.Object to × IsName name

abbrev pub IsField : List TableEntry → WireField → Type 0
IsField table f = IsName f.name × IsBody table f.body

abbrev pub IsOperation : List TableEntry → Operation → Type 0
IsOperation table (op.Get object name) = IsCell kind.Object object × IsName name
IsOperation table (op.Call object name arguments) = IsCell kind.Object object × (IsName name × IsList (IsValue table) arguments)
IsOperation table (op.Set object name new) = IsCell kind.Object object × (IsName name × IsBody table new)
IsOperation table (op.Copy object) = IsCell kind.Object object
IsOperation table (op.Redirect object target) = IsCell kind.Object object × IsCell kind.Object target
IsOperation table (op.ArrayItem array index) = IsCell kind.Array array × FitsSigned w64 index
IsOperation table (op.ArraySize array) = IsCell kind.Array array
IsOperation table (op.ArraySet array index new) = IsCell kind.Array array × (FitsSigned w64 index × IsValue table new)
IsOperation table (op.VarGet variable) = IsCell kind.Variable variable
IsOperation table (op.VarSet variable new) = IsCell kind.Variable variable × IsValue table new
IsOperation table (op.Put writer text) = IsCell kind.Writer writer × IsText text
IsOperation table (op.Join t) = IsThread t
IsOperation table (op.Line condition object) = IsCell kind.Condition condition × IsCell kind.Object object
IsOperation table (op.GiveUp object) = IsCell kind.Object object
IsOperation table (op.Again object condition) = IsCell kind.Object object × IsCell kind.Condition condition
IsOperation table (op.Signal condition) = IsCell kind.Condition condition
IsOperation table (op.Broadcast condition) = IsCell kind.Condition condition
IsOperation table (op.Export name new) = IsText name × IsValue table new
IsOperation table (op.Import name engine) = IsText name
IsOperation table (op.Engine engine procedure) = IsCell kind.Engine engine × IsClosure table procedure

abbrev pub IsOutcome : List TableEntry → Outcome → Type 0
IsOutcome table (o.Value x) = IsValue table x
IsOutcome table (o.Raised text) = IsText text
IsOutcome table o.Exit = ⊤
IsOutcome table (o.Hop to name) = IsReference to × IsName name
IsOutcome table (o.Object flags fields) = IsList (IsField table) fields

abbrev pub IsCurrent : Current → Type 0
IsCurrent c.Nothing = ⊤
IsCurrent (c.Plain object) = IsCell kind.Object object
IsCurrent (c.Held object) = IsCell kind.Object object

abbrev pub IsHead : ThreadId → ℕ → ℕ → ℕ → Type 0
IsHead t call used made = IsThread t × ((call < 2 ^ 64) × ((used < 2 ^ 32) × (made < 2 ^ 64)))

-- each field is in its range
abbrev pub HasFields : Packet → Type 0
HasFields (p.Request r) = IsHead r.thread r.call r.used r.made × ((r.depth ≤ CALL_LIMIT) × (IsCurrent r.current × (IsTable r.table × IsOperation r.table r.operation)))
HasFields (p.Reply r) = IsHead r.thread r.call r.used r.made × (IsTable r.table × IsOutcome r.table r.outcome)
HasFields (p.Wake w) = IsThread w.thread × (w.object < 2 ^ 32)
