-- One table for the codes of all sources.
use Rattle.std.specs.Prelude.{Bool, List, None, Option, Some, [], false, if◌then◌else◌, is_some, option_and_then, refl, slice_get, suc, true, zero, ℕ, ◌+◌, ◌==◌, ◌∷◌, ◌≡◌}
use Rattle.std.proofs.Common.{ap, sym, ◌∙◌, arith, subst, inl, inr, true≢false}
use Rattle.std.proofs.lemmas.Bool.{eqb-true}
use Rattle.obq_base.specs.declared.code.Code.{Code}
use Rattle.obq_base.specs.declared.code.CodeNo.{CodeNo}
use Rattle.obq_base.specs.declared.code.Node.{Node}
use Rattle.obq_base.specs.declared.code.SourceCode.{SourceCode}
use Rattle.obq_base.specs.declared.trees.Block.{Block}
use Rattle.obq_base.specs.Tree.{RecBindTrees, NoRecBinds, ARecBind}
use Rattle.obq_base.specs.View.{block_tree}
use Rattle.obq_model.specs.CodeLaws.{IsCodeAt, IsTable}
use Rattle.obq_model.specs.Draft.{Draft, Done, Plain, Both, Closure, Method, Group}
use Rattle.obq_model.specs.Procedures.{AreMembers, IsMade, Proc, main_proc, proc_at, procs_of}
use Rattle.obq_model.specs.Resolved.{AreCodes, AreResolved, IsCode, IsNumbered, Resolves, code_at}
use Rattle.obq_model.specs.Scopes.{Outside}

-- what one table knows the other one knows
abbrev pub Wider : (f g : CodeNo → Option Proc) → Type 0
Wider f g = (number : CodeNo) (p : Proc) → f number ≡ Some p → g number ≡ Some p

wider_members : (f g : CodeNo → Option Proc) → Wider f g → (u : Outside) (group numbers : List CodeNo) (index : ℕ) (bs : RecBindTrees) → AreMembers f u group numbers index bs → AreMembers g u group numbers index bs
wider_members f g w u group [] index NoRecBinds h = tt
wider_members f g w u group [] index (ARecBind x p place bs) h = h
wider_members f g w u group (number ∷ numbers) index NoRecBinds h = h
wider_members f g w u group (number ∷ numbers) index (ARecBind x p place bs) h = (w number _ h.0, wider_members f g w u group numbers (suc index) bs h.1)

pub wider_code : (f g : CodeNo → Option Proc) → Wider f g → (d : Draft) (nodes rest : List Node) → IsCode f d nodes rest → IsCode g d nodes rest
wider_code f g w Done nodes rest h = h
wider_code f g w (Plain a d) nodes rest h = (h.0, h.1, wider_code f g w d h.0 rest h.2)
wider_code f g w (Both d e) nodes rest h = (h.0, wider_code f g w d nodes h.0 h.1, wider_code f g w e h.0 rest h.2)
wider_code f g w (Closure from u p body d) nodes rest h = (h.0, h.1, h.2, w h.0 _ h.3, wider_code f g w d h.1 rest h.4)
wider_code f g w (Method from u p body d) nodes rest h = (h.0, h.1, h.2, w h.0 _ h.3, wider_code f g w d h.1 rest h.4)
wider_code f g w (Group from u bs bodies d) nodes rest h = (h.0, h.1, h.2, wider_members f g w u h.0 h.0 0 bs h.3, wider_code f g w d h.1 rest h.4)

wider_made : (f g : CodeNo → Option Proc) → Wider f g → (number : CodeNo) (p : Proc) → IsMade f number p → IsMade g number p
wider_made f g w number p (inl o) = inl o
wider_made f g w number p (inr (inl l)) = inr (inl l)
wider_made f g w number p (inr (inr m)) =
    inr (inr (record { around = m.around; names = m.names; binds = m.binds; outside = m.outside; members = wider_members f g w p.outside p.group p.group 0 m.binds m.members; own = m.own }))

wider : (f g : CodeNo → Option Proc) → Wider f g → (number : CodeNo) (code : Code) (p : Proc) → IsNumbered f number code p → IsNumbered g number code p
wider f g w number code p h = record {
  proc_is = w number p h.proc_is;
  code_is = record { params_are = h.code_is.params_are; captures_are = h.code_is.captures_are; reads = wider_code f g w _ code.nodes [] h.code_is.reads };
  made = wider_made f g w number p h.made;
}

-- ---- one source

numbered : (f : CodeNo → Option Proc) (source first : ℕ) (codes : List Code) (ps : List Proc) → AreCodes f source first codes ps → (k m : ℕ) → m ≡ first + k → (code : Code) → slice_get codes k ≡ Some code
    → (p : Proc) × IsNumbered f (record { source = source; n = m }) code p
numbered f source first [] [] h zero m e code g = absurd (true≢false (sym (ap is_some g)))
numbered f source first [] [] h (suc k) m e code g = absurd (true≢false (sym (ap is_some g)))
numbered f source first (c ∷ codes) (p ∷ ps) h zero m e code g = (p, subst (λ j. IsNumbered f (record { source = source; n = j }) code p) (back first m e) (subst (λ (d : Code). IsNumbered f (record { source = source; n = first }) d p) (same g) h.0)) where
  back : (first m : ℕ) → m ≡ first + 0 → first ≡ m
  back first m e = omega (arith, e)

  same : Some c ≡ Some code → c ≡ code
  same q = ap (λ (o : Option Code). elim o [ None ↦ c | Some d ↦ d ]) q
numbered f source first (c ∷ codes) (p ∷ ps) h (suc k) m e code g = numbered f source (suc first) codes ps h.1 k m (over first k m e) code g where
  over : (first k m : ℕ) → m ≡ first + suc k → m ≡ suc first + k
  over first k m e = omega (arith, e)
numbered f source first [] (p ∷ ps) h k m e code g = absurd h
numbered f source first (c ∷ codes) [] h k m e code g = absurd h

unnumbered : (f : CodeNo → Option Proc) (source first : ℕ) (codes : List Code) (ps : List Proc) → AreCodes f source first codes ps → (k : ℕ) → slice_get codes k ≡ None → slice_get ps k ≡ None
unnumbered f source first [] [] h zero g = refl
unnumbered f source first [] [] h (suc k) g = refl
unnumbered f source first (c ∷ codes) (p ∷ ps) h zero g = absurd (true≢false (ap is_some g))
unnumbered f source first (c ∷ codes) (p ∷ ps) h (suc k) g = unnumbered f source (suc first) codes ps h.1 k g
unnumbered f source first [] (p ∷ ps) h k g = absurd h
unnumbered f source first (c ∷ codes) [] h k g = absurd h

-- ---- all sources

-- the tables of the parts
abbrev pub tables_of : (first : ℕ) (blocks : List Block) (parts : List SourceCode) → AreResolved first blocks parts → List (List Proc)
tables_of first [] [] h = []
tables_of first (block ∷ blocks) (part ∷ parts) h = h.0.table ∷ tables_of (suc first) blocks parts h.1
tables_of first [] (part ∷ parts) h = absurd h
tables_of first (block ∷ blocks) [] h = absurd h

-- part k resolves block k, and its table is the k-th
record IsPart (tables : List (List Proc)) (blocks : List Block) (k m : ℕ) (part : SourceCode) : Type 0 where
  block : Block
  block_is : slice_get blocks k ≡ Some block
  resolved : Resolves m (block_tree block) part
  table_is : slice_get tables k ≡ Some resolved.table

part_at : (first : ℕ) (blocks : List Block) (parts : List SourceCode) (h : AreResolved first blocks parts) (k m : ℕ) → m ≡ first + k → (part : SourceCode) → slice_get parts k ≡ Some part → IsPart (tables_of first blocks parts h) blocks k m part
part_at first [] [] h zero m e part g = absurd (true≢false (sym (ap is_some g)))
part_at first [] [] h (suc k) m e part g = absurd (true≢false (sym (ap is_some g)))
part_at first (b ∷ blocks) (p ∷ parts) h zero m e part g =
    subst (λ (q : SourceCode). IsPart (h.0.table ∷ tables_of (suc first) blocks parts h.1) (b ∷ blocks) 0 m q) (same g)
    (subst (λ j. IsPart (h.0.table ∷ tables_of (suc first) blocks parts h.1) (b ∷ blocks) 0 j p) (back first m e) (record { block = b; block_is = refl; resolved = h.0; table_is = refl })) where
      back : (first m : ℕ) → m ≡ first + 0 → first ≡ m
      back first m e = omega (arith, e)

      same : Some p ≡ Some part → p ≡ part
      same q = ap (λ (o : Option SourceCode). elim o [ None ↦ p | Some d ↦ d ]) q
part_at first (b ∷ blocks) (p ∷ parts) h (suc k) m e part g =
    let found : IsPart (tables_of (suc first) blocks parts h.1) blocks k m part = part_at (suc first) blocks parts h.1 k m (over first k m e) part g in
    record { block = found.block; block_is = found.block_is; resolved = found.resolved; table_is = found.table_is } where
      over : (first k m : ℕ) → m ≡ first + suc k → m ≡ suc first + k
      over first k m e = omega (arith, e)
part_at first [] (p ∷ parts) h k m e part g = absurd h
part_at first (b ∷ blocks) [] h k m e part g = absurd h

no_part : (first : ℕ) (blocks : List Block) (parts : List SourceCode) (h : AreResolved first blocks parts) (k : ℕ) → slice_get parts k ≡ None → slice_get (tables_of first blocks parts h) k ≡ None
no_part first [] [] h zero g = refl
no_part first [] [] h (suc k) g = refl
no_part first (b ∷ blocks) (p ∷ parts) h zero g = absurd (true≢false (ap is_some g))
no_part first (b ∷ blocks) (p ∷ parts) h (suc k) g = no_part (suc first) blocks parts h.1 k g
no_part first [] (p ∷ parts) h k g = absurd h
no_part first (b ∷ blocks) [] h k g = absurd h

-- the table of all knows what the table of one knows
joins : (tables : List (List Proc)) (source : ℕ) (table : List Proc) → slice_get tables source ≡ Some table → Wider (procs_of source table) (proc_at tables)
joins tables source table e number p q = at (number.source == source) refl q where
  at : (b : Bool) → (number.source == source) ≡ b → (if b then slice_get table number.n else None) ≡ Some p → proc_at tables number ≡ Some p
  at true k f = ap (λ (o : Option (List Proc)). option_and_then (λ (t : List Proc). slice_get t number.n) o) (ap (slice_get tables) (eqb-true number.source source k) ∙ e) ∙ f
  at false k f = absurd (true≢false (sym (ap is_some f)))

pub is_table : (blocks : List Block) (parts : List SourceCode) (h : AreResolved 0 blocks parts) → IsTable (proc_at (tables_of 0 blocks parts h)) blocks parts
is_table blocks parts h = record {
  code = λ number. at number (slice_get parts number.source) refl;
  main = λ k block part e g. main_at k block part e g (part_at 0 blocks parts h k k (bare k) part g);
} where
  tables : List (List Proc)
  tables = tables_of 0 blocks parts h

  bare : (k : ℕ) → k ≡ 0 + k
  bare k = omega arith

  coded : (number : CodeNo) (part : SourceCode) → IsPart tables blocks number.source number.source part → (c : Option Code) → slice_get part.codes number.n ≡ c → IsCodeAt (proc_at tables) number c
  coded number part i None e =
      ap (λ (o : Option (List Proc)). option_and_then (λ (t : List Proc). slice_get t number.n) o) i.table_is ∙ unnumbered (procs_of number.source i.resolved.table) number.source 0 part.codes i.resolved.table i.resolved.codes number.n e
  coded number part i (Some code) e =
      let found : (p : Proc) × IsNumbered (procs_of number.source i.resolved.table) number code p = numbered (procs_of number.source i.resolved.table) number.source 0 part.codes i.resolved.table i.resolved.codes number.n number.n (bare number.n) code e in
      (found.0, wider (procs_of number.source i.resolved.table) (proc_at tables) (joins tables number.source i.resolved.table i.table_is) number code found.0 found.1)

  at : (number : CodeNo) (o : Option SourceCode) → slice_get parts number.source ≡ o → IsCodeAt (proc_at tables) number (code_at parts number)
  at number None e =
      subst (λ (z : Option SourceCode). IsCodeAt (proc_at tables) number (option_and_then (λ (part : SourceCode). slice_get part.codes number.n) z)) (sym e)
      (ap (λ (o : Option (List Proc)). option_and_then (λ (t : List Proc). slice_get t number.n) o) (no_part 0 blocks parts h number.source e))
  at number (Some part) e =
      subst (λ (z : Option SourceCode). IsCodeAt (proc_at tables) number (option_and_then (λ (part : SourceCode). slice_get part.codes number.n) z)) (sym e)
      (coded number part (part_at 0 blocks parts h number.source number.source (bare number.source) part e) (slice_get part.codes number.n) refl)

  main_at : (k : ℕ) (block : Block) (part : SourceCode) → slice_get blocks k ≡ Some block → slice_get parts k ≡ Some part → IsPart tables blocks k k part → proc_at tables part.main ≡ Some (main_proc k (block_tree block))
  main_at k block part e g i =
      joins tables k i.resolved.table i.table_is part.main (main_proc k (block_tree i.block)) i.resolved.main ∙ ap (λ (b : Block). Some (main_proc k (block_tree b))) (same (sym i.block_is ∙ e)) where
        same : Some i.block ≡ Some block → i.block ≡ block
        same q = ap (λ (o : Option Block). elim o [ None ↦ i.block | Some d ↦ d ]) q
