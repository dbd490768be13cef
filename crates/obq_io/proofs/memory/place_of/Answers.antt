use Rattle.std.proofs.Common.{◌≡◌, ◌<◌, ◌∷◌, ℕ, List, Some, true, length, drop, suc, slice_get, refl, ap, sym, ◌∙◌, arith, get_or}
use Rattle.std.proofs.Math.Seq.{drop-cons}
use Rattle.std.proofs.lemmas.Option.{slice_get-get_or}
use Rattle.std.specs.Str.{bytes_eq}
use Rattle.std.specs.String.{string_bytes}
use Rattle.obq_io.specs.Named.{NamedFile, held, content_at}
use Rattle.obq_io.proofs.memory.place_of.Goals as goal

found : (fs : List NamedFile) (name : List ℕ) (i : ℕ) (x : NamedFile) → held fs name ≡ held (drop i fs) name → i < length fs → x ≡ get_or fs i x
    → bytes_eq (string_bytes x.0) name ≡ true → held fs name ≡ Some (content_at fs i)
found fs name i x so_far lt is same =
    let here : drop i fs ≡ x ∷ drop (suc i) fs = drop-cons fs i x lt ∙ ap (λ y. y ∷ drop (suc i) fs) (sym is) in
    let at : slice_get fs i ≡ Some x = slice_get-get_or fs i x lt ∙ ap Some (sym is) in
    so_far ∙ (ap (λ l. held l name) here ∙ rw (same, at) refl)

pub returns-then-eq : goal.returns-then-eq
returns-then-eq c =
    let same : bytes_eq (string_bytes c.index-files-i.result.0) c.args.name.now ≡ true = rw c.as_str.ensures.value at (sym c.eq.ensures ∙ c.if-eq.true) in
    found c.args.files.now c.args.name.now c.loop-i.i c.index-files-i.result c.loop-i.invariant (omega arith) c.index-files-i.is same
