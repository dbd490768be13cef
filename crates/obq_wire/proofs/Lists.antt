-- Lists are read as they are spelled, also where what an item may be depends on the items before it.
use Rattle.std.proofs.Common.{◌≡◌, ℕ, zero, suc, ◌^◌, ◌<◌, List, [], ◌∷◌, ◌++◌, length, Ok, refl, sym, ap, subst, ◌∙◌, append_assoc}
use Rattle.std.specs.List.{flat_map, AllByRecursion}
use Rattle.std.specs.Int.{w32}
use Rattle.std.proofs.lemmas.List.{append-nil}
use Rattle.obq_wire.specs.Spelling.{u32, list}
use Rattle.obq_wire.specs.Fits.{Each, IsList}
use Rattle.obq_wire.specs.Reading.{Reader, number_at, items_at, list_at}
use Rattle.obq_wire.proofs.Exact.{IsBytes, bind_ok, ok_is, Takes, Takes-then, Exact}
use Rattle.obq_wire.proofs.Fields.{exact_u32}

module _ {A : Type 0} {r : List A → Reader A} {s : A → List ℕ} {P : List A → A → Type 0} (item : (before : List A) → Exact (r before) s (P before)) where
  items_takes : (n : ℕ) (so_far : List A) (bytes : List ℕ) (xs : List A) (rest : List ℕ) → IsBytes bytes → items_at r n so_far bytes ≡ Ok (xs, rest)
      → (ys : List A) × (so_far ++ ys ≡ xs) × (length ys ≡ n) × Takes bytes (flat_map s ys) rest × Each P so_far ys
  items_takes zero so_far bytes xs rest fits e =
      let i = ok_is (so_far, bytes) (xs, rest) e in
      ([], append-nil so_far ∙ ap (λ (z : List A × List ℕ). z.0) i, refl, record { parts = ap (λ (z : List A × List ℕ). z.1) i; rest_fits = subst (λ (z : List A × List ℕ). IsBytes z.1) i fits }, tt)
  items_takes (suc n) so_far bytes xs rest fits e =
      let p = bind_ok (r so_far bytes) (λ x. items_at r n (so_far ++ x.0 ∷ []) x.1) (xs, rest) e in
      let t = (item so_far).takes bytes p.0.0 p.0.1 fits p.1 in
      let m = items_takes n (so_far ++ p.0.0 ∷ []) p.0.1 xs rest t.0.rest_fits p.2 in
      (p.0.0 ∷ m.0, sym (append_assoc so_far (p.0.0 ∷ []) m.0) ∙ m.1, ap suc m.2, Takes-then t.0 m.3, (t.1, m.4))

  items_again : (xs so_far : List A) (rest : List ℕ) → Each P so_far xs → items_at r (length xs) so_far (flat_map s xs ++ rest) ≡ Ok (so_far ++ xs, rest)
  items_again [] so_far rest all = ap (λ (z : List A). Ok (z, rest)) (sym (append-nil so_far))
  items_again (x ∷ xs) so_far rest all =
      rw (append_assoc (s x) (flat_map s xs) rest, (item so_far).again x (flat_map s xs ++ rest) all.0)
      (items_again xs (so_far ++ x ∷ []) rest all.1 ∙ ap (λ (z : List A). Ok (z, rest)) (append_assoc so_far (x ∷ []) xs))

  pub exact_items : Exact (list_at r) (list s) (λ xs. (length xs < 2 ^ 32) × Each P [] xs)
  exact_items = record {
    takes = λ bytes xs rest fits e.
        let p = bind_ok (number_at w32 bytes) (λ n. items_at r n.0 [] n.1) (xs, rest) e in
        let t = exact_u32.takes bytes p.0.0 p.0.1 fits p.1 in
        let m = items_takes p.0.0 [] p.0.1 xs rest t.0.rest_fits p.2 in
        let both : Takes bytes (u32 p.0.0 ++ flat_map s m.0) rest = Takes-then t.0 m.3 in
        subst (λ (z : List A). Takes bytes (list s z) rest × ((length z < 2 ^ 32) × Each P [] z)) m.1
        (subst (λ (k : ℕ). Takes bytes (u32 k ++ flat_map s m.0) rest × ((k < 2 ^ 32) × Each P [] m.0)) (sym m.2) (both, (t.1, m.4)));
    again = λ xs rest fits.
        rw (append_assoc (u32 (length xs)) (flat_map s xs) rest, exact_u32.again (length xs) (flat_map s xs ++ rest) fits.0) (items_again xs [] rest fits.1);
  }

module _ {A : Type 0} (P : A → Type 0) where
  each_all : (before xs : List A) → Each (λ _. P) before xs → AllByRecursion P xs
  each_all before [] all = tt
  each_all before (x ∷ xs) all = (all.0, each_all (before ++ x ∷ []) xs all.1)

  all_each : (before xs : List A) → AllByRecursion P xs → Each (λ _. P) before xs
  all_each before [] all = tt
  all_each before (x ∷ xs) all = (all.0, all_each (before ++ x ∷ []) xs all.1)

pub exact_list : {A : Type 0} {r : Reader A} {s : A → List ℕ} {P : A → Type 0} → Exact r s P → Exact (list_at (λ _. r)) (list s) (IsList P)
exact_list {A} {r} {s} {P} item =
    let items = exact_items {r = λ _. r} {s = s} {P = λ _. P} (λ _. item) in
    record {
      takes = λ bytes xs rest fits e. let t = items.takes bytes xs rest fits e in (t.0, (t.1.0, each_all P [] xs t.1.1));
      again = λ xs rest fits. items.again xs rest (fits.0, all_each P [] xs fits.1);
    }
