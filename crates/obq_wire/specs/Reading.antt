-- Reading from left to right. A reader answers a value and the bytes behind it; or, where a field is cut, out of its range, of
-- the wrong kind or names a wrong index, how many bytes stand from that field's first byte on. A number, a tag and a count are
-- one field each, and so is a byte string with its length.
use Rattle.std.specs.Prelude.{◌≡◌, ℕ, ℤ, zero, suc, Bool, true, false, List, [], ◌∷◌, ◌++◌, length, take, drop, Option, Some, None, Result, Ok, Err, nat_lt, ◌==◌, if◌then◌else◌, slice_get}
use Rattle.std.specs.Int.{Width, w16, w32, w64, byte_len, from_be_bytes, cast_signed}
use Rattle.obq_base.specs.declared.code.CodeNo.{CodeNo}
use Rattle.obq_base.specs.declared.limits.TheConstants.{TEXT_LIMIT, CALL_LIMIT}
use Rattle.obq_base.specs.declared.places.Kind.{Kind}
use Rattle.obq_base.specs.declared.places.Kind.TheVariants as kind
use Rattle.obq_base.specs.declared.places.Ref.{Ref}
use Rattle.obq_base.specs.declared.places.SiteId.{SiteId}
use Rattle.obq_base.specs.declared.places.ThreadId.{ThreadId}
use Rattle.obq_base.specs.declared.trees.Flags.{Flags}
use Rattle.obq_base.specs.declared.values.GroupNo.{GroupNo}
use Rattle.obq_wire.specs.declared.packets.Current.{Current}
use Rattle.obq_wire.specs.declared.packets.Current.TheVariants as c
use Rattle.obq_wire.specs.declared.packets.Operation.{Operation}
use Rattle.obq_wire.specs.declared.packets.Operation.TheVariants as op
use Rattle.obq_wire.specs.declared.packets.Outcome.{Outcome}
use Rattle.obq_wire.specs.declared.packets.Outcome.TheVariants as o
use Rattle.obq_wire.specs.declared.packets.Packet.{Packet}
use Rattle.obq_wire.specs.declared.packets.Packet.TheVariants as p
use Rattle.obq_wire.specs.declared.packets.Reply.{Reply}
use Rattle.obq_wire.specs.declared.packets.Request.{Request}
use Rattle.obq_wire.specs.declared.packets.Wake.{Wake}
use Rattle.obq_wire.specs.declared.refusal.Refused.{Refused}
use Rattle.obq_wire.specs.declared.refusal.Refused.TheVariants as refused
use Rattle.obq_wire.specs.declared.tags.TheConstants.{AGAIN, ARRAY_ITEM, ARRAY_SET, ARRAY_SIZE, BROADCAST, CALL, COPY, ENGINE, EXPORT, GET, GIVE_UP, IMPORT, JOIN, LINE, PUT, REDIRECT, SET, SIGNAL, VAR_GET, VAR_SET}
use Rattle.obq_wire.specs.declared.values.TableEntry.{TableEntry}
use Rattle.obq_wire.specs.declared.values.TableMember.{TableMember}
use Rattle.obq_wire.specs.declared.values.WireBody.{WireBody}
use Rattle.obq_wire.specs.declared.values.WireBody.TheVariants as b
use Rattle.obq_wire.specs.declared.values.WireField.{WireField}
use Rattle.obq_wire.specs.declared.values.WireValue.{WireValue}
use Rattle.obq_wire.specs.declared.values.WireValue.TheVariants as v
use Rattle.obq_wire.specs.Spelling.{kind_number}
use Rattle.obq_wire.specs.Fits.{codes_at}

abbrev pub Reader : Type 0 → Type 0
Reader A = List ℕ → Result (A × List ℕ) ℕ

infixl 10 ◌>>=◌
abbrev pub ◌>>=◌ : {A B : Type 0} → Result A ℕ → (A → Result B ℕ) → Result B ℕ
(Ok x) >>= f = f x
(Err left) >>= f = Err left

-- what a function of the code returned, seen by view, is what reading gives, unless memory ran out
abbrev pub Fails : {Y : Type 0} → Refused → Result Y ℕ → Type 0
Fails refused.NoMemory read = Unit {0}
Fails (refused.Bad left) read = read ≡ Err left

abbrev pub Gives : {X Y : Type 0} → (X → Y) → Result X Refused → Result Y ℕ → Type 0
Gives view (Ok x) read = read ≡ Ok (view x)
Gives view (Err e) read = Fails e read

-- nothing; one, two or three parts, one behind the other
abbrev pub no_parts : {X : Type 0} → X → Reader X
no_parts x bytes = Ok (x, bytes)

abbrev pub one_part : {A X : Type 0} → Reader A → (A → X) → Reader X
one_part first make bytes = do
  a ← first bytes
  Ok (make a.0, a.1)

abbrev pub two_parts : {A B X : Type 0} → Reader A → Reader B → (A → B → X) → Reader X
two_parts first second make bytes = do
  a ← first bytes
  b ← second a.1
  Ok (make a.0 b.0, b.1)

abbrev pub three_parts : {A B C X : Type 0} → Reader A → Reader B → Reader C → (A → B → C → X) → Reader X
three_parts first second third make bytes = do
  a ← first bytes
  b ← second a.1
  c ← third b.1
  Ok (make a.0 b.0 c.0, c.1)

abbrev pub found : {B : Type 0} → Option B → List ℕ → ℕ → Result (B × List ℕ) ℕ
found None rest left = Err left
found (Some y) rest left = Ok (y, rest)

-- a field that has to be in its range
abbrev pub in_range : {A B : Type 0} → Reader A → (A → Option B) → Reader B
in_range read range bytes = do
  x ← read bytes
  found (range x.0) x.1 (length bytes)

-- a tag, and what stands behind that tag
abbrev pub behind_tag : {X : Type 0} → List (ℕ × Reader X) → ℕ → ℕ → Reader X
behind_tag [] left tag rest = Err left
behind_tag (arm ∷ arms) left tag rest = if tag == arm.0 then arm.1 rest else behind_tag arms left tag rest

abbrev pub byte_at : Reader ℕ
byte_at [] = Err 0
byte_at (n ∷ rest) = Ok (n, rest)

abbrev pub tagged : {X : Type 0} → List (ℕ × Reader X) → Reader X
tagged arms bytes = do
  tag ← byte_at bytes
  behind_tag arms (length bytes) tag.0 tag.1

-- so many items more, behind those that were read
abbrev pub items_at : {A : Type 0} → (List A → Reader A) → ℕ → List A → Reader (List A)
items_at item zero so_far bytes = Ok (so_far, bytes)
items_at item (suc n) so_far bytes = do
  x ← item so_far bytes
  items_at item n (so_far ++ x.0 ∷ []) x.1

abbrev pub number_at : Width → Reader ℕ
number_at w bytes = if nat_lt (length bytes) (byte_len w) then Err (length bytes) else Ok (from_be_bytes w (take (byte_len w) bytes), drop (byte_len w) bytes)

-- a count, and as many items; what an item may be can depend on the items before it
abbrev pub list_at : {A : Type 0} → (List A → Reader A) → Reader (List A)
list_at item bytes = do
  n ← number_at w32 bytes
  items_at item n.0 [] n.1

-- a byte string of at most so many bytes
unfoldable pub string_at : ℕ → Reader (List ℕ)
string_at limit bytes = do
  n ← number_at w32 bytes
  if nat_lt limit n.0 then Err (length bytes) else (if nat_lt (length n.1) n.0 then Err (length bytes) else Ok (take n.0 n.1, drop n.0 n.1))

abbrev pub text_at : Reader (List ℕ)
text_at = string_at TEXT_LIMIT

abbrev pub name_at : Reader (List ℕ)
name_at = string_at 4294967295

-- a number below a bound
abbrev pub below : ℕ → ℕ → Option ℕ
below bound n = if nat_lt n bound then Some n else None

unfoldable pub integer_at : Reader ℤ
integer_at = one_part (number_at w64) (λ n. cast_signed w64 n)

abbrev pub truth_of : ℕ → Option Bool
truth_of zero = Some false
truth_of (suc zero) = Some true
truth_of (suc (suc n)) = None

unfoldable pub truth_at : Reader Bool
truth_at = in_range byte_at truth_of

unfoldable pub site_at : Reader SiteId
site_at = one_part (number_at w16) (λ n. record { 0 = n })

unfoldable pub thread_at : Reader ThreadId
thread_at = one_part (number_at w32) (λ n. record { 0 = n })

abbrev pub kinds : List Kind
kinds = kind.Object ∷ kind.Array ∷ kind.Variable ∷ kind.Writer ∷ kind.Condition ∷ kind.Engine ∷ []

unfoldable pub kind_at : Reader Kind
kind_at = in_range byte_at (slice_get kinds)

unfoldable pub reference_at : Reader Ref
reference_at = three_parts site_at kind_at (number_at w32) (λ site kind n. record { site = site; n = n; kind = kind })

-- a reference to a cell of this kind
abbrev pub only : ℕ → ℕ → Option ℕ
only wanted n = if n == wanted then Some n else None

unfoldable pub cell_at : Kind → Reader Ref
cell_at k = three_parts site_at (in_range byte_at (only (kind_number k))) (number_at w32) (λ site number n. record { site = site; n = n; kind = k })

-- a closure of one of these entries
unfoldable pub closure_at : List TableEntry → Reader TableMember
closure_at table bytes = do
  i ← in_range (number_at w32) (below (length table)) bytes
  m ← in_range (number_at w32) (below (codes_at table i.0)) i.1
  Ok (record { index = i.0; member = m.0 }, m.1)

abbrev pub value_arms : List TableEntry → List (ℕ × Reader WireValue)
value_arms table =
    (0, one_part integer_at v.Int)
    ∷ (1, one_part truth_at v.Bool)
    ∷ (2, no_parts v.Okay)
    ∷ (3, one_part text_at v.Text)
    ∷ (4, one_part text_at v.Exn)
    ∷ (5, one_part (closure_at table) v.Clo)
    ∷ (6, one_part reference_at v.Ref)
    ∷ (7, two_parts thread_at site_at v.Thread)
    ∷ []

unfoldable pub value_at : List TableEntry → Reader WireValue
value_at table = tagged (value_arms table)

abbrev pub values_at : List TableEntry → Reader (List WireValue)
values_at table = list_at (λ _. value_at table)

unfoldable pub group_number_at : Reader GroupNo
group_number_at = two_parts (number_at w32) (number_at w64) (λ thread n. record { thread = thread; n = n })

unfoldable pub code_number_at : Reader CodeNo
code_number_at = two_parts (number_at w16) (number_at w32) (λ source n. record { source = source; n = n })

-- an entry behind these
unfoldable pub entry_at : List TableEntry → Reader TableEntry
entry_at earlier = three_parts group_number_at (list_at (λ _. code_number_at)) (values_at earlier) (λ number codes captured. record { number = number; codes = codes; captured = captured })

abbrev pub table_at : Reader (List TableEntry)
table_at = list_at entry_at

abbrev pub body_arms : List TableEntry → List (ℕ × Reader WireBody)
body_arms table =
    (0, one_part (value_at table) b.Value)
    ∷ (1, one_part (closure_at table) b.Method)
    ∷ (2, two_parts (cell_at kind.Object) name_at b.Alias)
    ∷ []

unfoldable pub body_at : List TableEntry → Reader WireBody
body_at table = tagged (body_arms table)

unfoldable pub field_at : List TableEntry → Reader WireField
field_at table = two_parts name_at (body_at table) (λ name body. record { name = name; body = body })

abbrev pub flags_of : ℕ → Option Flags
flags_of zero = Some (record { protected = false; serialized = false })
flags_of (suc zero) = Some (record { protected = true; serialized = false })
flags_of (suc (suc zero)) = Some (record { protected = false; serialized = true })
flags_of (suc (suc (suc zero))) = Some (record { protected = true; serialized = true })
flags_of (suc (suc (suc (suc n)))) = None

unfoldable pub flags_at : Reader Flags
flags_at = in_range byte_at flags_of

-- a value that is a closure
unfoldable pub procedure_at : List TableEntry → Reader TableMember
procedure_at table = tagged ((5, closure_at table) ∷ [])

abbrev pub operation_arms : List TableEntry → List (ℕ × Reader Operation)
operation_arms table =
    (GET, two_parts (cell_at kind.Object) name_at op.Get)
    ∷ (CALL, three_parts (cell_at kind.Object) name_at (values_at table) op.Call)
    ∷ (SET, three_parts (cell_at kind.Object) name_at (body_at table) op.Set)
    ∷ (COPY, one_part (cell_at kind.Object) op.Copy)
    ∷ (REDIRECT, two_parts (cell_at kind.Object) (cell_at kind.Object) op.Redirect)
    ∷ (ARRAY_ITEM, two_parts (cell_at kind.Array) integer_at op.ArrayItem)
    ∷ (ARRAY_SIZE, one_part (cell_at kind.Array) op.ArraySize)
    ∷ (ARRAY_SET, three_parts (cell_at kind.Array) integer_at (value_at table) op.ArraySet)
    ∷ (VAR_GET, one_part (cell_at kind.Variable) op.VarGet)
    ∷ (VAR_SET, two_parts (cell_at kind.Variable) (value_at table) op.VarSet)
    ∷ (PUT, two_parts (cell_at kind.Writer) text_at op.Put)
    ∷ (JOIN, one_part thread_at op.Join)
    ∷ (LINE, two_parts (cell_at kind.Condition) (cell_at kind.Object) op.Line)
    ∷ (GIVE_UP, one_part (cell_at kind.Object) op.GiveUp)
    ∷ (AGAIN, two_parts (cell_at kind.Object) (cell_at kind.Condition) op.Again)
    ∷ (SIGNAL, one_part (cell_at kind.Condition) op.Signal)
    ∷ (BROADCAST, one_part (cell_at kind.Condition) op.Broadcast)
    ∷ (EXPORT, two_parts text_at (value_at table) op.Export)
    ∷ (IMPORT, two_parts text_at truth_at op.Import)
    ∷ (ENGINE, two_parts (cell_at kind.Engine) (procedure_at table) op.Engine)
    ∷ []

unfoldable pub operation_at : List TableEntry → Reader Operation
operation_at table = tagged (operation_arms table)

abbrev pub outcome_arms : List TableEntry → List (ℕ × Reader Outcome)
outcome_arms table =
    (0, one_part (value_at table) o.Value)
    ∷ (1, one_part text_at o.Raised)
    ∷ (2, no_parts o.Exit)
    ∷ (3, two_parts reference_at name_at o.Hop)
    ∷ (4, two_parts flags_at (list_at (λ _. field_at table)) o.Object)
    ∷ []

unfoldable pub outcome_at : List TableEntry → Reader Outcome
outcome_at table = tagged (outcome_arms table)

unfoldable pub depth_at : Reader ℕ
depth_at = in_range (number_at w16) (below (suc CALL_LIMIT))

abbrev pub current_arms : List (ℕ × Reader Current)
current_arms =
    (0, no_parts c.Nothing)
    ∷ (1, one_part (cell_at kind.Object) c.Plain)
    ∷ (2, one_part (cell_at kind.Object) c.Held)
    ∷ []

unfoldable pub current_at : Reader Current
current_at = tagged current_arms

abbrev pub Head : Type 0
Head = ThreadId × (ℕ × (ℕ × ℕ))

unfoldable pub head_at : Reader Head
head_at bytes = do
  thread ← thread_at bytes
  call ← number_at w64 thread.1
  used ← number_at w32 call.1
  made ← number_at w64 used.1
  Ok ((thread.0, (call.0, (used.0, made.0))), made.1)

unfoldable pub request_at : Reader Request
request_at bytes = do
  h ← head_at bytes
  depth ← depth_at h.1
  current ← current_at depth.1
  table ← table_at current.1
  operation ← operation_at table.0 table.1
  Ok (record { thread = h.0.0; call = h.0.1.0; used = h.0.1.1.0; made = h.0.1.1.1; depth = depth.0; current = current.0; table = table.0; operation = operation.0 }, operation.1)

unfoldable pub reply_at : Reader Reply
reply_at bytes = do
  h ← head_at bytes
  table ← table_at h.1
  outcome ← outcome_at table.0 table.1
  Ok (record { thread = h.0.0; call = h.0.1.0; used = h.0.1.1.0; made = h.0.1.1.1; table = table.0; outcome = outcome.0 }, outcome.1)

unfoldable pub wake_at : Reader Wake
wake_at = two_parts thread_at (number_at w32) (λ thread object. record { thread = thread; object = object })

abbrev pub packet_arms : List (ℕ × Reader Packet)
packet_arms =
    (1, one_part request_at p.Request)
    ∷ (2, one_part reply_at p.Reply)
    ∷ (3, one_part wake_at p.Wake)
    ∷ []

unfoldable pub packet_at : Reader Packet
packet_at = tagged packet_arms
