-- References, values, entries and fields are read as they are spelled.
use Rattle.std.proofs.Common.{◌≡◌, ℕ, ℤ, zero, suc, Bool, true, false, cond, eqb, List, [], ◌∷◌, ◌++◌, length, Some, None, Ok, refl, sym, ap, subst, ◌∙◌, append_assoc, arith}
use Rattle.std.specs.Prelude.{⊤, FitsSigned, slice_get}
use Rattle.std.specs.Int.{w32, w64, cast_signed, cast_unsigned}
use Rattle.std.proofs.lemmas.Bool.{eqb-true, eq-eqb}
use Rattle.std.proofs.lemmas.Int.{of_z-to_z, to_z-of_z}
use Rattle.std.proofs.Math.Facts.{sfits_to_z, Fits-of_z}
use Rattle.obq_base.specs.declared.places.Kind.{Kind}
use Rattle.obq_base.specs.declared.places.Kind.TheVariants as kind
use Rattle.obq_base.specs.declared.places.Ref.{Ref}
use Rattle.obq_base.specs.declared.places.SiteId.{SiteId}
use Rattle.obq_base.specs.declared.places.ThreadId.{ThreadId}
use Rattle.obq_base.specs.declared.trees.Flags.{Flags}
use Rattle.obq_wire.specs.declared.values.TableEntry.{TableEntry}
use Rattle.obq_wire.specs.declared.values.TableMember.{TableMember}
use Rattle.obq_wire.specs.Spelling.{integer, truth, string, site, thread, kind_number, reference, closure, flags_number, u32}
use Rattle.obq_wire.specs.Fits.{IsText, IsName, IsSite, IsThread, IsReference, IsCell, codes_at, IsClosure}
use Rattle.obq_wire.specs.Reading.{◌>>=◌, byte_at, number_at, text_at, name_at, integer_at, truth_of, truth_at, site_at, thread_at, kinds, kind_at, reference_at, only, cell_at, closure_at, flags_of, flags_at, below, in_range, one_part, three_parts}
use Rattle.obq_wire.proofs.Exact.{bind_ok, ok_is, Takes, Takes-then, Exact, one_takes, one_again, three_takes, three_again, range_takes, range_again, exact_one, exact_three}
use Rattle.obq_wire.proofs.Fields.{exact_byte, exact_u16, exact_u32, exact_u64, exact_below, exact_string}

pub exact_text : Exact text_at string IsText
exact_text = exact_string 65536 (omega arith)

pub exact_name : Exact name_at string IsName
exact_name = exact_string 4294967295 (omega arith)

pub exact_integer : Exact integer_at integer (λ z. FitsSigned w64 z)
unfolding integer_at
exact_integer = record {
  takes = λ bytes z rest fits e.
      let t = one_takes exact_u64 (λ n. cast_signed w64 n) bytes z rest fits e in
      let back : cast_unsigned w64 (cast_signed w64 t.0) ≡ t.0 = of_z-to_z w64 t.0 t.3 in
      subst (λ (y : ℤ). Takes bytes (integer y) rest × FitsSigned w64 y) t.1
      (rw back t.2, sfits_to_z (record { fits = t.3 }));
  again = λ z rest fits. subst (λ (y : ℤ). one_part (number_at w64) (λ n. cast_signed w64 n) (integer z ++ rest) ≡ Ok (y, rest)) (to_z-of_z w64 z fits)
      (one_again exact_u64 (λ n. cast_signed w64 n) (cast_unsigned w64 z) rest (Fits-of_z fits).fits);
}

truth_is : (n : ℕ) (t : Bool) → truth_of n ≡ Some t → n ≡ truth t
truth_is zero t e = let i : false ≡ t = cc in rw (← i) refl
truth_is (suc zero) t e = let i : true ≡ t = cc in rw (← i) refl
truth_is (suc (suc n)) t e = absurd cc

truth_back : (t : Bool) → truth_of (truth t) ≡ Some t
truth_back false = refl
truth_back true = refl

pub exact_truth : Exact truth_at (λ t. truth t ∷ []) (λ _. ⊤)
unfolding truth_at
exact_truth = record {
  takes = λ bytes t rest fits e.
      let p = range_takes exact_byte truth_of bytes t rest fits e in
      (subst (λ (n : ℕ). Takes bytes (n ∷ []) rest) (truth_is p.0 t p.1) p.2, tt);
  again = λ t rest fits. range_again exact_byte truth_of (truth t) t rest tt (truth_back t);
}

flags_is : (n : ℕ) (f : Flags) → flags_of n ≡ Some f → n ≡ flags_number f
flags_is zero f e = let i : record { protected = false; serialized = false } ≡ f = cc in rw (← i) refl
flags_is (suc zero) f e = let i : record { protected = true; serialized = false } ≡ f = cc in rw (← i) refl
flags_is (suc (suc zero)) f e = let i : record { protected = false; serialized = true } ≡ f = cc in rw (← i) refl
flags_is (suc (suc (suc zero))) f e = let i : record { protected = true; serialized = true } ≡ f = cc in rw (← i) refl
flags_is (suc (suc (suc (suc n)))) f e = absurd cc

flags_back : (p s : Bool) → flags_of (flags_number (record { protected = p; serialized = s })) ≡ Some (record { protected = p; serialized = s })
flags_back false false = refl
flags_back true false = refl
flags_back false true = refl
flags_back true true = refl

pub exact_flags : Exact flags_at (λ f. flags_number f ∷ []) (λ _. ⊤)
unfolding flags_at
exact_flags = record {
  takes = λ bytes f rest fits e.
      let p = range_takes exact_byte flags_of bytes f rest fits e in
      (subst (λ (n : ℕ). Takes bytes (n ∷ []) rest) (flags_is p.0 f p.1) p.2, tt);
  again = λ f rest fits. range_again exact_byte flags_of (flags_number f) f rest tt (flags_back f.protected f.serialized);
}

kind_is : (n : ℕ) (k : Kind) → slice_get kinds n ≡ Some k → n ≡ kind_number k
kind_is zero k e = let i : kind.Object ≡ k = cc in rw (← i) refl
kind_is (suc zero) k e = let i : kind.Array ≡ k = cc in rw (← i) refl
kind_is (suc (suc zero)) k e = let i : kind.Variable ≡ k = cc in rw (← i) refl
kind_is (suc (suc (suc zero))) k e = let i : kind.Writer ≡ k = cc in rw (← i) refl
kind_is (suc (suc (suc (suc zero)))) k e = let i : kind.Condition ≡ k = cc in rw (← i) refl
kind_is (suc (suc (suc (suc (suc zero))))) k e = let i : kind.Engine ≡ k = cc in rw (← i) refl
kind_is (suc (suc (suc (suc (suc (suc n)))))) k e = absurd cc

kind_back : (k : Kind) → slice_get kinds (kind_number k) ≡ Some k
kind_back kind.Object = refl
kind_back kind.Array = refl
kind_back kind.Variable = refl
kind_back kind.Writer = refl
kind_back kind.Condition = refl
kind_back kind.Engine = refl

exact_kind : Exact kind_at (λ k. kind_number k ∷ []) (λ _. ⊤)
unfolding kind_at
exact_kind = record {
  takes = λ bytes k rest fits e.
      let p = range_takes exact_byte (slice_get kinds) bytes k rest fits e in
      (subst (λ (n : ℕ). Takes bytes (n ∷ []) rest) (kind_is p.0 k p.1) p.2, tt);
  again = λ k rest fits. range_again exact_byte (slice_get kinds) (kind_number k) k rest tt (kind_back k);
}

pub exact_site : Exact site_at site IsSite
unfolding site_at
exact_site = exact_one exact_u16 (λ n. record { 0 = n }) (λ (x : SiteId). x.0) (λ _. refl) (λ _. refl)

pub exact_thread : Exact thread_at thread IsThread
unfolding thread_at
exact_thread = exact_one exact_u32 (λ n. record { 0 = n }) (λ (x : ThreadId). x.0) (λ _. refl) (λ _. refl)

pub exact_reference : Exact reference_at reference IsReference
unfolding reference_at
exact_reference =
    let parts = exact_three exact_site exact_kind exact_u32 (λ s k n. record { site = s; n = n; kind = k }) (λ (x : Ref). x.site) (λ x. x.kind) (λ x. x.n) (λ _. refl) (λ _ _ _. refl) (λ _ _ _. refl) (λ _ _ _. refl) in
    record {
      takes = λ bytes r rest fits e. let t = parts.takes bytes r rest fits e in (t.0, (t.1.0, t.1.1.1));
      again = λ r rest fits. parts.again r rest (fits.0, (tt, fits.1));
    }

exact_only : (wanted : ℕ) → Exact (in_range byte_at (only wanted)) (λ n. n ∷ []) (λ n. n ≡ wanted)
exact_only wanted = record {
  takes = λ bytes n rest fits e.
      let p = range_takes exact_byte (only wanted) bytes n rest fits e in
      let i = only_is (eqb p.0 wanted) refl p.1 in
      (subst (λ (m : ℕ). Takes bytes (m ∷ []) rest) i.0 p.2, i.1);
  again = λ n rest fits. range_again exact_byte (only wanted) n n rest tt (rw (eq-eqb n wanted fits) refl);
}
  where
    only_is : {m n : ℕ} (t : Bool) → eqb m wanted ≡ t → cond t (Some m) None ≡ Some n → (m ≡ n) × (n ≡ wanted)
    only_is {m} {n} true is e = let i : m ≡ n = cc in (i, sym i ∙ eqb-true m wanted is)
    only_is false is e = absurd cc

pub exact_cell : (k : Kind) → Exact (cell_at k) reference (IsCell k)
unfolding cell_at
exact_cell k =
    record {
      takes = λ bytes r rest fits e.
          let t = three_takes exact_site (exact_only (kind_number k)) exact_u32 (λ s m n. record { site = s; n = n; kind = k }) bytes r rest fits e in
          subst (λ (x : Ref). Takes bytes (reference x) rest × IsCell k x) t.3 (subst (λ (m : ℕ). Takes bytes (site t.0 ++ (m ∷ u32 t.2)) rest) t.6 t.4, (refl, (t.5, t.7)));
      again = λ r rest fits.
          subst (λ (j : Kind). three_parts site_at (in_range byte_at (only (kind_number k))) (number_at w32) (λ s m n. record { site = s; n = n; kind = k }) ((site r.site ++ (kind_number j ∷ u32 r.n)) ++ rest) ≡ Ok (record r { kind = j }, rest)) (sym fits.0)
          (three_again exact_site (exact_only (kind_number k)) exact_u32 (λ s m n. record { site = s; n = n; kind = k }) r.site (kind_number k) r.n rest fits.1.0 refl fits.1.1);
    }

pub exact_closure : (table : List TableEntry) → Exact (closure_at table) closure (IsClosure table)
unfolding closure_at
exact_closure table = record {
  takes = λ bytes m rest fits e.
      let p = bind_ok (in_range (number_at w32) (below (length table)) bytes) (λ i. in_range (number_at w32) (below (codes_at table i.0)) i.1 >>= λ m. Ok (record { index = i.0; member = m.0 }, m.1)) (m, rest) e in
      let q = bind_ok (in_range (number_at w32) (below (codes_at table p.0.0)) p.0.1) (λ m. Ok (record { index = p.0.0; member = m.0 }, m.1)) (m, rest) p.2 in
      let t = (exact_below exact_u32 (length table)).takes bytes p.0.0 p.0.1 fits p.1 in
      let u = (exact_below exact_u32 (codes_at table p.0.0)).takes p.0.1 q.0.0 q.0.1 t.0.rest_fits q.1 in
      subst (λ (z : TableMember × List ℕ). Takes bytes (closure z.0) z.1 × IsClosure table z.0) (ok_is (record { index = p.0.0; member = q.0.0 }, q.0.1) (m, rest) q.2)
      (Takes-then t.0 u.0, record { index = t.1.0; member = u.1.0; index_fits = t.1.1; member_fits = u.1.1 });
  again = λ m rest fits.
      let grouped : closure m ++ rest ≡ u32 m.index ++ (u32 m.member ++ rest) = append_assoc (u32 m.index) (u32 m.member) rest in
      ap (closure_at table) grouped ∙
      rw (
        (exact_below exact_u32 (length table)).again m.index (u32 m.member ++ rest) (fits.index, fits.index_fits),
        (exact_below exact_u32 (codes_at table m.index)).again m.member rest (fits.member, fits.member_fits),
      ) refl;
}
