-- The names that a site keeps, behind an export and at an import.
use Rattle.std.specs.Prelude.{Bool, List, None, Option, Some, [], bytes_eq, false, if◌then◌else◌, option_map, refl, true, ◌∷◌, ◌≡◌}
use Rattle.std.proofs.Common.{ap, subst, sym, ◌∙◌}
use Rattle.std.specs.Cmp.Lexicographic.{bytes_decides}
use Rattle.std.specs.Map.{lookup}
use Rattle.obq_answers.specs.Worlds.{seen_value}
use Rattle.obq_base.specs.declared.places.Ref.{Ref}
use Rattle.obq_base.specs.declared.values.Value.{Value as Held}
use Rattle.obq_heap.specs.Names.{put}
use Rattle.obq_host.specs.Exports.{CompleteExports, ExportsRead, seen_exports, value_at}
use Rattle.obq_model.specs.Store.{export, exported}
use Rattle.obq_model.specs.Terms.{Bytes, Value}
use Rattle.obq_moves.specs.Views.{plain_value}
use Rattle.obq_stands.specs.World as world
use Rattle.obq_windows.specs.Complete.{IsComplete}
use Rattle.obq_windows.specs.Values.{PlainValue, Table}

-- ---- an export

-- the first name equal to this one is this one
put_seen : (T : Table Ref) (x y : Bytes) (v w : Held) (rest es : List (Bytes × Held)) (b : Bool) → (b ≡ true → x ≡ y) → seen_exports T rest ≡ export x (seen_value T (plain_value v)) (seen_exports T es)
    → seen_exports T (if b then (y, v) ∷ es else (y, w) ∷ rest)
    ≡ (if b then (x, seen_value T (plain_value v)) ∷ seen_exports T es else (y, seen_value T (plain_value w)) ∷ export x (seen_value T (plain_value v)) (seen_exports T es))
put_seen T x y v w rest es true same h = ap (λ (z : Bytes). (z, seen_value T (plain_value v)) ∷ seen_exports T es) (sym (same refl))
put_seen T x y v w rest es false same h = ap (λ (r : List (Bytes × Value world.Ref)). (y, seen_value T (plain_value w)) ∷ r) h

export_seen : (T : Table Ref) (x : Bytes) (v : Held) (names : List (Bytes × Held)) → seen_exports T (put x v names) ≡ export x (seen_value T (plain_value v)) (seen_exports T names)
export_seen T x v [] = refl
export_seen T x v (e ∷ es) = put_seen T x e.0 v e.1 (put x v es) es (bytes_eq x e.0) (bytes_decides x e.0).0 (export_seen T x v es)

put_complete : (T : Table Ref) (y : Bytes) (v w : Held) (rest es : List (Bytes × Held)) (b : Bool) → IsComplete T (plain_value v) → IsComplete T (plain_value w) → CompleteExports T es → CompleteExports T rest → CompleteExports T (if b then (y, v) ∷ es else (y, w) ∷ rest)
put_complete T y v w rest es true c d h k = (c, h)
put_complete T y v w rest es false c d h k = (d, k)

export_complete : (T : Table Ref) (x : Bytes) (v : Held) (names : List (Bytes × Held)) → IsComplete T (plain_value v) → CompleteExports T names → CompleteExports T (put x v names)
export_complete T x v [] c h = (c, tt)
export_complete T x v (e ∷ es) c h = put_complete T e.0 v e.1 (put x v es) es (bytes_eq x e.0) c h.0 h.1 (export_complete T x v es c h.1)

pub put_reads : (T : Table Ref) (x : Bytes) (v : Held) (old new : List (Bytes × Held)) → new ≡ put x v old → IsComplete T (plain_value v) → (exports : List (Bytes × Value world.Ref)) → ExportsRead T old exports → ExportsRead T new (export x (seen_value T (plain_value v)) exports)
put_reads T x v old new e c exports h =
    subst (λ (z : List (Bytes × Held)). ExportsRead T z (export x (seen_value T (plain_value v)) exports)) (sym e)
    (record { reads = ap (export x (seen_value T (plain_value v))) h.reads ∙ sym (export_seen T x v old); complete = export_complete T x v old c h.complete })

-- ---- an import

found_by : (T : Table Ref) (x : Bytes) (b : Bool) (e : Bytes × Held) (found : Option Held) (rest : Option (Value world.Ref)) → option_map (seen_value T) (option_map plain_value found) ≡ rest
    → option_map (seen_value T) (option_map plain_value (if b then Some e.1 else found)) ≡ (if b then Some (seen_value T (plain_value e.1)) else rest)
found_by T x true e found rest h = refl
found_by T x false e found rest h = h

found_seen : (T : Table Ref) (x : Bytes) (names : List (Bytes × Held)) → option_map (seen_value T) (value_at names x) ≡ exported x (seen_exports T names)
found_seen T x [] = refl
found_seen T x (e ∷ es) = found_by T x (bytes_eq x e.0) e (lookup (bytes_eq x) es) (exported x (seen_exports T es)) (found_seen T x es)

abbrev CompleteFound : Table Ref → Option (PlainValue Ref) → Type 0
CompleteFound T None = Unit {0}
CompleteFound T (Some v) = IsComplete T v

complete_by : (T : Table Ref) (b : Bool) (e : Bytes × Held) (found : Option Held) → IsComplete T (plain_value e.1) → CompleteFound T (option_map plain_value found) → CompleteFound T (option_map plain_value (if b then Some e.1 else found))
complete_by T true e found c h = c
complete_by T false e found c h = h

found_complete : (T : Table Ref) (x : Bytes) (names : List (Bytes × Held)) → CompleteExports T names → CompleteFound T (value_at names x)
found_complete T x [] h = tt
found_complete T x (e ∷ es) h = complete_by T (bytes_eq x e.0) e (lookup (bytes_eq x) es) h.0 (found_complete T x es h.1)

-- the value that is found
pub found_reads : (T : Table Ref) (x : Bytes) (names : List (Bytes × Held)) (exports : List (Bytes × Value world.Ref)) → ExportsRead T names exports → (found : Option (PlainValue Ref)) → found ≡ value_at names x → exported x exports ≡ option_map (seen_value T) found
found_reads T x names exports h found e = ap (exported x) h.reads ∙ sym (found_seen T x names) ∙ ap (option_map (seen_value T)) (sym e)

pub value_complete : (T : Table Ref) (x : Bytes) (names : List (Bytes × Held)) (exports : List (Bytes × Value world.Ref)) → ExportsRead T names exports → (v : PlainValue Ref) → Some v ≡ value_at names x → IsComplete T v
value_complete T x names exports h v e = subst (CompleteFound T) (sym e) (found_complete T x names h.complete)
