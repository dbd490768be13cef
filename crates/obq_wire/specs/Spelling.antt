-- How each part of a frame is spelled. Numbers stand with their highest byte first; a byte string stands behind its length,
-- and a list behind its count, of four bytes each.
use Rattle.std.specs.Prelude.{ℕ, ℤ, Bool, true, false, List, [], ◌∷◌, ◌++◌, length}
use Rattle.std.specs.List.{flat_map}
use Rattle.std.specs.Int.{w16, w32, w64, to_be_bytes, cast_unsigned}
use Rattle.obq_base.specs.declared.code.CodeNo.{CodeNo}
use Rattle.obq_base.specs.declared.places.Kind.{Kind}
use Rattle.obq_base.specs.declared.places.Kind.TheVariants as kind
use Rattle.obq_base.specs.declared.places.Ref.{Ref}
use Rattle.obq_base.specs.declared.places.SiteId.{SiteId}
use Rattle.obq_base.specs.declared.places.ThreadId.{ThreadId}
use Rattle.obq_base.specs.declared.trees.Flags.{Flags}
use Rattle.obq_base.specs.declared.values.GroupNo.{GroupNo}
use Rattle.obq_wire.specs.declared.packets.Current.{Current}
use Rattle.obq_wire.specs.declared.packets.Current.TheVariants as c
use Rattle.obq_wire.specs.declared.packets.Operation.{Operation}
use Rattle.obq_wire.specs.declared.packets.Operation.TheVariants as op
use Rattle.obq_wire.specs.declared.packets.Outcome.{Outcome}
use Rattle.obq_wire.specs.declared.packets.Outcome.TheVariants as o
use Rattle.obq_wire.specs.declared.packets.Packet.{Packet}
use Rattle.obq_wire.specs.declared.packets.Packet.TheVariants as p
use Rattle.obq_wire.specs.declared.tags.TheConstants.{AGAIN, ARRAY_ITEM, ARRAY_SET, ARRAY_SIZE, BROADCAST, CALL, COPY, ENGINE, EXPORT, GET, GIVE_UP, IMPORT, JOIN, LINE, PUT, REDIRECT, SET, SIGNAL, VAR_GET, VAR_SET}
use Rattle.obq_wire.specs.declared.values.TableEntry.{TableEntry}
use Rattle.obq_wire.specs.declared.values.TableMember.{TableMember}
use Rattle.obq_wire.specs.declared.values.WireBody.{WireBody}
use Rattle.obq_wire.specs.declared.values.WireBody.TheVariants as b
use Rattle.obq_wire.specs.declared.values.WireField.{WireField}
use Rattle.obq_wire.specs.declared.values.WireValue.{WireValue}
use Rattle.obq_wire.specs.declared.values.WireValue.TheVariants as v

unfoldable pub u16 : ℕ → List ℕ
u16 n = to_be_bytes w16 n

unfoldable pub u32 : ℕ → List ℕ
u32 n = to_be_bytes w32 n

unfoldable pub u64 : ℕ → List ℕ
u64 n = to_be_bytes w64 n

abbrev pub integer : ℤ → List ℕ
integer z = u64 (cast_unsigned w64 z)

abbrev pub truth : Bool → ℕ
truth false = 0
truth true = 1

abbrev pub string : List ℕ → List ℕ
string bytes = u32 (length bytes) ++ bytes

abbrev pub list : {A : Type 0} → (A → List ℕ) → List A → List ℕ
list item xs = u32 (length xs) ++ flat_map item xs

abbrev pub site : SiteId → List ℕ
site s = u16 s.0

abbrev pub thread : ThreadId → List ℕ
thread t = u32 t.0

abbrev pub kind_number : Kind → ℕ
kind_number kind.Object = 0
kind_number kind.Array = 1
kind_number kind.Variable = 2
kind_number kind.Writer = 3
kind_number kind.Condition = 4
kind_number kind.Engine = 5

abbrev pub reference : Ref → List ℕ
reference r = site r.site ++ (kind_number r.kind ∷ u32 r.n)

abbrev pub closure : TableMember → List ℕ
closure m = u32 m.index ++ u32 m.member

abbrev pub value : WireValue → List ℕ
value (v.Int z) = 0 ∷ integer z
value (v.Bool t) = 1 ∷ truth t ∷ []
value v.Okay = 2 ∷ []
value (v.Text t) = 3 ∷ string t
value (v.Exn t) = 4 ∷ string t
value (v.Clo m) = 5 ∷ closure m
value (v.Ref r) = 6 ∷ reference r
value (v.Thread t home) = 7 ∷ (thread t ++ site home)

abbrev pub group_number : GroupNo → List ℕ
group_number g = u32 g.thread ++ u64 g.n

abbrev pub code_number : CodeNo → List ℕ
code_number c = u16 c.source ++ u32 c.n

abbrev pub entry : TableEntry → List ℕ
entry e = group_number e.number ++ (list code_number e.codes ++ list value e.captured)

abbrev pub body : WireBody → List ℕ
body (b.Value v) = 0 ∷ value v
body (b.Method m) = 1 ∷ closure m
body (b.Alias to name) = 2 ∷ (reference to ++ string name)

abbrev pub field : WireField → List ℕ
field f = string f.name ++ body f.body

abbrev pub flag_bits : Bool → Bool → ℕ
flag_bits false false = 0
flag_bits true false = 1
flag_bits false true = 2
flag_bits true true = 3

abbrev pub flags_number : Flags → ℕ
flags_number f = flag_bits f.protected f.serialized

abbrev pub operation : Operation → List ℕ
operation (op.Get object name) = GET ∷ (reference object ++ string name)
operation (op.Call object name arguments) = CALL ∷ (reference object ++ (string name ++ list value arguments))
operation (op.Set object name new) = SET ∷ (reference object ++ (string name ++ body new))
operation (op.Copy object) = COPY ∷ reference object
operation (op.Redirect object target) = REDIRECT ∷ (reference object ++ reference target)
operation (op.ArrayItem array index) = ARRAY_ITEM ∷ (reference array ++ integer index)
operation (op.ArraySize array) = ARRAY_SIZE ∷ reference array
operation (op.ArraySet array index new) = ARRAY_SET ∷ (reference array ++ (integer index ++ value new))
operation (op.VarGet variable) = VAR_GET ∷ reference variable
operation (op.VarSet variable new) = VAR_SET ∷ (reference variable ++ value new)
operation (op.Put writer text) = PUT ∷ (reference writer ++ string text)
operation (op.Join t) = JOIN ∷ thread t
operation (op.Line condition object) = LINE ∷ (reference condition ++ reference object)
operation (op.GiveUp object) = GIVE_UP ∷ reference object
operation (op.Again object condition) = AGAIN ∷ (reference object ++ reference condition)
operation (op.Signal condition) = SIGNAL ∷ reference condition
operation (op.Broadcast condition) = BROADCAST ∷ reference condition
operation (op.Export name new) = EXPORT ∷ (string name ++ value new)
operation (op.Import name engine) = IMPORT ∷ (string name ++ (truth engine ∷ []))
operation (op.Engine engine procedure) = ENGINE ∷ (reference engine ++ (5 ∷ closure procedure))

abbrev pub outcome : Outcome → List ℕ
outcome (o.Value v) = 0 ∷ value v
outcome (o.Raised text) = 1 ∷ string text
outcome o.Exit = 2 ∷ []
outcome (o.Hop to name) = 3 ∷ (reference to ++ string name)
outcome (o.Object flags fields) = 4 ∷ (flags_number flags ∷ list field fields)

abbrev pub current : Current → List ℕ
current c.Nothing = 0 ∷ []
current (c.Plain object) = 1 ∷ reference object
current (c.Held object) = 2 ∷ reference object

-- what a request and a reply begin with: the thread, the number of the pending call, the turns that the thread has used, and
-- the closures that it has made
abbrev pub head : ThreadId → ℕ → ℕ → ℕ → List ℕ
head t call used made = thread t ++ (u64 call ++ (u32 used ++ u64 made))

-- the groups that a packet carries
abbrev pub table_of : Packet → List TableEntry
table_of (p.Request r) = r.table
table_of (p.Reply r) = r.table
table_of (p.Wake w) = []

-- what stands before the entries of the table, its count included
abbrev pub before_entries : Packet → List ℕ
before_entries (p.Request r) = 1 ∷ (head r.thread r.call r.used r.made ++ (u16 r.depth ++ (current r.current ++ u32 (length r.table))))
before_entries (p.Reply r) = 2 ∷ (head r.thread r.call r.used r.made ++ u32 (length r.table))
before_entries (p.Wake w) = 3 ∷ (thread w.thread ++ u32 w.object)

-- what stands behind them
abbrev pub behind_entries : Packet → List ℕ
behind_entries (p.Request r) = operation r.operation
behind_entries (p.Reply r) = outcome r.outcome
behind_entries (p.Wake w) = []

abbrev pub spelling : Packet → List ℕ
spelling p = before_entries p ++ (flat_map entry (table_of p) ++ behind_entries p)
