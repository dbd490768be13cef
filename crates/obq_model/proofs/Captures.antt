-- A closure captures the names that occur in its term, and no other.
use Rattle.std.specs.Prelude.{Bool, List, [], bytes_eq, false, if◌then◌else◌, not, true, ◌&&◌, ◌++◌, ◌∷◌, ◌≡◌, ◌||◌, ◌⊎◌}
use Rattle.std.proofs.Common.{inl, inr, sym, ◌∙◌, true≢false}
use Rattle.obq_base.specs.declared.occurrences.Occurrence.{Occurrence}
use Rattle.obq_base.specs.Tree.{ProcedureTree, AProc}
use Rattle.obq_model.specs.Draft.{captured_by}
use Rattle.obq_model.specs.Occurrences.{free_procedure}
use Rattle.obq_model.specs.Opened.{open_block, open_body}
use Rattle.obq_model.specs.Put.{among}
use Rattle.obq_model.specs.Reading.{occurs}
use Rattle.obq_model.specs.Scopes.{Outside, captured_from, captured_of, inside, is_covered}
use Rattle.obq_model.specs.Terms.{Bytes}
use Rattle.obq_model.proofs.Among.{among_append, either, left_of, right_of}
use Rattle.obq_model.proofs.Depends.{names_it}
use Rattle.obq_model.proofs.Finds.{find_body}
use Rattle.obq_model.proofs.Occurring.{only_block, uncovered}

-- what is captured is an occurrence
pub captured_named : (x : Bytes) (u : Outside) (names : List Bytes) (us : List Occurrence) → among x (captured_of u names us) ≡ true → names_it x us ≡ true
captured_named x u names us e = elim (from us [] e) [ inl f ↦ absurd (true≢false (sym f)) | inr f ↦ f ] where
  split : (acc : List Bytes) (o : Occurrence) (b : Bool) → among x (if b then acc ++ o.name ∷ [] else acc) ≡ true → (among x acc ≡ true) ⊎ (bytes_eq x o.name ≡ true)
  split acc o true e = elim (either (among x acc) (bytes_eq x o.name || false) (sym (among_append x acc (o.name ∷ [])) ∙ e)) [ inl f ↦ inl f | inr f ↦ elim (either (bytes_eq x o.name) false f) [ inl g ↦ inr g | inr g ↦ absurd (true≢false (sym g)) ] ]
  split acc o false e = inl e

  from : (us : List Occurrence) (acc : List Bytes) → among x (captured_from u names acc us) ≡ true → (among x acc ≡ true) ⊎ (names_it x us ≡ true)
  from [] acc e = inl e
  from (o ∷ us) acc e = elim (from us (if is_covered u names o.name && not (among o.name acc) then acc ++ o.name ∷ [] else acc) e) [
    | inl f ↦ elim (split acc o (is_covered u names o.name && not (among o.name acc)) f) [ inl g ↦ inl g | inr g ↦ inr (left_of (bytes_eq x o.name) (names_it x us) g) ]
    | inr f ↦ inr (right_of (bytes_eq x o.name) (names_it x us) f)
  ]

pub captured_occurs : {R : Type 0} → (w : R) (u : Outside) (names : List Bytes) (p : ProcedureTree) (x : Bytes) → among x (captured_by u names p) ≡ true → occurs x (open_body w (inside u [] (captured_by u names p)) p) ≡ true
captured_occurs w u names p x e = (find_body w x (inside u [] (captured_by u names p)) [] e p).finds (captured_named x u names (free_procedure [] p) e)

pub occurs_captured : {R : Type 0} → (w : R) (u : Outside) (names : List Bytes) (p : ProcedureTree) (x : Bytes) → occurs x (open_body w (inside u [] (captured_by u names p)) p) ≡ true → among x (captured_by u names p) ≡ true
occurs_captured w u names (AProc params b place) x e =
    let v : Outside = inside u [] (captured_by u names (AProc params b place)) in
    let o : (among x params ≡ false) × (occurs x (open_block w v params b) ≡ true) = uncovered x params (open_block w v params b) e in
    at (among x params) (among x v.captured) o.0 ((only_block w v params b).only x o.1) where
      at : (a c : Bool) → a ≡ false → (a || (false || c)) ≡ true → c ≡ true
      at true c e f = absurd (true≢false e)
      at false c e f = f
