-- A map from names, in the words of the machine's definitions.
use Rattle.std.proofs.Common.{◌≡◌, ℕ, Bool, true, false, cond, List, [], ◌∷◌, Some, bytes_eq, refl, ap, sym, ◌∙◌}
use Rattle.std.specs.Prelude.{option_map}
use Rattle.std.specs.Result.{OnOk}
use Rattle.std.specs.declared.result.Result.{Result}
use Rattle.std.specs.declared.result.Result.TheVariants.{Ok, Err}
use Rattle.std.specs.Cmp.Lexicographic.{bytes_decides}
use Rattle.std.specs.Map.{lookup}
use Rattle.obq_base.specs.declared.places.Ref.{Ref}
use Rattle.obq_base.specs.declared.values.Value.{Value as Shown}
use Rattle.obq_model.specs.Terms.{Value}
use Rattle.obq_model.specs.Store.{export, exported}
use Rattle.obq_heap.specs.Names.{put}
use Rattle.obq_namer.specs.Exports.{IsExport, IsExported, names_of}

pub is_exported : (x : List ℕ) (names : List (List ℕ × Shown)) → IsExported x names (lookup (bytes_eq x) names)
is_exported x [] read = refl
is_exported x (e ∷ es) read =
    elim (bytes_eq x e.0) as (λ b. option_map read (cond b (Some e.1) (lookup (bytes_eq x) es)) ≡ cond b (Some (read e.1)) (exported x (names_of read es)))
    [ true ↦ refl | false ↦ is_exported x es read ]

-- the first name equal to this one is this one
export_at : (read : Shown → Value Ref) (x y : List ℕ) (v w : Shown) (rest : List (List ℕ × Shown)) (es : List (List ℕ × Shown)) (b : Bool) → (b ≡ true → x ≡ y) → names_of read rest ≡ export x (read v) (names_of read es)
    → names_of read (cond b ((y, v) ∷ es) ((y, w) ∷ rest)) ≡ cond b ((x, read v) ∷ names_of read es) ((y, read w) ∷ export x (read v) (names_of read es))
export_at read x y v w rest es true same h = ap (λ z. (z, read v) ∷ names_of read es) (sym (same refl))
export_at read x y v w rest es false same h = ap (λ r. (y, read w) ∷ r) h

pub is_export : (x : List ℕ) (v : Shown) (names : List (List ℕ × Shown)) → IsExport x v names (put x v names)
is_export x v [] read = refl
is_export x v (e ∷ es) read = export_at read x e.0 v e.1 (put x v es) es (bytes_eq x e.0) (bytes_decides x e.0).0 (is_export x v es read)

pub export_is : {T E : Type 0} (r : Result T E) (x : List ℕ) (v : Shown) (held old new : List (List ℕ × Shown)) → held ≡ old → OnOk r (new ≡ put x v held) → OnOk r (IsExport x v old new)
export_is (Ok y) x v held old new same h = λ read. ap (names_of read) (h ∙ ap (put x v) same) ∙ is_export x v old read
export_is (Err e) x v held old new same h = tt
