-- In a packet whose fields are in range, entries need earlier ones, and what stands behind the table needs entries of it.
use Rattle.std.proofs.Common.{◌≡◌, ℕ, zero, suc, ◌+◌, ◌<◌, List, [], ◌∷◌, ◌++◌, length, subst, arith}
use Rattle.std.specs.Prelude.{slice_get}
use Rattle.std.specs.List.{AllByRecursion, flat_map}
use Rattle.std.proofs.lemmas.List.{length-append}
use Rattle.obq_wire.specs.declared.packets.Operation.{Operation}
use Rattle.obq_wire.specs.declared.packets.Operation.TheVariants as op
use Rattle.obq_wire.specs.declared.packets.Outcome.{Outcome}
use Rattle.obq_wire.specs.declared.packets.Outcome.TheVariants as o
use Rattle.obq_wire.specs.declared.packets.Packet.{Packet}
use Rattle.obq_wire.specs.declared.packets.Packet.TheVariants as p
use Rattle.obq_wire.specs.declared.values.TableEntry.{TableEntry}
use Rattle.obq_wire.specs.declared.values.WireBody.{WireBody}
use Rattle.obq_wire.specs.declared.values.WireBody.TheVariants as b
use Rattle.obq_wire.specs.declared.values.WireField.{WireField}
use Rattle.obq_wire.specs.declared.values.WireValue.{WireValue}
use Rattle.obq_wire.specs.declared.values.WireValue.TheVariants as v
use Rattle.obq_wire.specs.Spelling.{table_of}
use Rattle.obq_wire.specs.Fits.{IsValue, IsBody, IsField, IsEntry, IsOperation, IsOutcome, Each, HasFields}
use Rattle.obq_wire.specs.Order.{value_needs, needs, body_needs, operation_needs, outcome_needs, packet_needs, captured_of, entry_needs}
use Rattle.obq_wire.specs.Walk.{NeedsEarlier}

abbrev Below : ℕ → List ℕ → Type 0
Below n is = AllByRecursion (λ j. j < n) is

below_append : (n : ℕ) (xs ys : List ℕ) → Below n xs → Below n ys → Below n (xs ++ ys)
below_append n [] ys p q = q
below_append n (x ∷ xs) ys p q = (p.0, below_append n xs ys p.1 q)

module _ (table : List TableEntry) where
  value_below : (x : WireValue) → IsValue table x → Below (length table) (value_needs x)
  value_below (v.Clo m) fits = (fits.index, tt)
  value_below (v.Int z) fits = tt
  value_below (v.Bool t) fits = tt
  value_below v.Okay fits = tt
  value_below (v.Text t) fits = tt
  value_below (v.Exn t) fits = tt
  value_below (v.Ref r) fits = tt
  value_below (v.Thread t home) fits = tt

  values_below : (xs : List WireValue) → AllByRecursion (IsValue table) xs → Below (length table) (needs xs)
  values_below [] all = tt
  values_below (x ∷ xs) all = below_append (length table) (value_needs x) (needs xs) (value_below x all.0) (values_below xs all.1)

  body_below : (x : WireBody) → IsBody table x → Below (length table) (body_needs x)
  body_below (b.Value x) fits = value_below x fits
  body_below (b.Method m) fits = (fits.index, tt)
  body_below (b.Alias to name) fits = tt

  fields_below : (fs : List WireField) → AllByRecursion (IsField table) fs → Below (length table) (flat_map (λ f. body_needs f.body) fs)
  fields_below [] all = tt
  fields_below (f ∷ fs) all = below_append (length table) (body_needs f.body) (flat_map (λ f. body_needs f.body) fs) (body_below f.body all.0.1) (fields_below fs all.1)

  operation_below : (x : Operation) → IsOperation table x → Below (length table) (operation_needs x)
  operation_below (op.Get object name) fits = tt
  operation_below (op.Call object name arguments) fits = values_below arguments fits.1.1.1
  operation_below (op.Set object name new) fits = body_below new fits.1.1
  operation_below (op.Copy object) fits = tt
  operation_below (op.Redirect object target) fits = tt
  operation_below (op.ArrayItem array index) fits = tt
  operation_below (op.ArraySize array) fits = tt
  operation_below (op.ArraySet array index new) fits = value_below new fits.1.1
  operation_below (op.VarGet variable) fits = tt
  operation_below (op.VarSet variable new) fits = value_below new fits.1
  operation_below (op.Put writer text) fits = tt
  operation_below (op.Join t) fits = tt
  operation_below (op.Line condition object) fits = tt
  operation_below (op.GiveUp object) fits = tt
  operation_below (op.Again object condition) fits = tt
  operation_below (op.Signal condition) fits = tt
  operation_below (op.Broadcast condition) fits = tt
  operation_below (op.Export name new) fits = value_below new fits.1
  operation_below (op.Import name engine) fits = tt
  operation_below (op.Engine engine procedure) fits = (fits.1.index, tt)

  outcome_below : (x : Outcome) → IsOutcome table x → Below (length table) (outcome_needs x)
  outcome_below (o.Value x) fits = value_below x fits
  outcome_below (o.Raised text) fits = tt
  outcome_below o.Exit fits = tt
  outcome_below (o.Hop to name) fits = tt
  outcome_below (o.Object flags fields) fits = fields_below fields fits.1

entries_earlier : (before es : List TableEntry) → Each IsEntry before es → (i : ℕ) → Below (length before + i) (needs (captured_of (slice_get es i)))
entries_earlier before [] all i = tt
entries_earlier before (e ∷ es) all zero = subst (λ (n : ℕ). Below n (needs e.captured)) (let same : length before ≡ length before + 0 = omega arith in same) (values_below before e.captured all.0.1.1.1)
entries_earlier before (e ∷ es) all (suc i) =
    subst (λ (n : ℕ). Below n (needs (captured_of (slice_get es i)))) (let same : length (before ++ e ∷ []) + i ≡ length before + suc i = omega (arith, length-append before (e ∷ [])) in same) (entries_earlier (before ++ e ∷ []) es all.1 i)

table_earlier : (es : List TableEntry) → Each IsEntry [] es → NeedsEarlier es
table_earlier es all i = subst (λ (n : ℕ). Below n (entry_needs es i)) (let same : length {A = TableEntry} [] + i ≡ i = omega arith in same) (entries_earlier [] es all i)

pub needs_earlier : (x : Packet) → HasFields x → NeedsEarlier (table_of x)
needs_earlier (p.Request r) fits i = table_earlier r.table fits.1.1.1.0.1 i
needs_earlier (p.Reply r) fits i = table_earlier r.table fits.1.0.1 i
needs_earlier (p.Wake w) fits i = tt

pub roots_below : (x : Packet) → HasFields x → AllByRecursion (λ j. j < length (table_of x)) (packet_needs x)
roots_below (p.Request r) fits = operation_below r.table r.operation fits.1.1.1.1
roots_below (p.Reply r) fits = outcome_below r.table r.outcome fits.1.1
roots_below (p.Wake w) fits = tt
