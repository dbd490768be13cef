-- The codes of a source's block resolve it.
use Rattle.std.proofs.Common.{◌≡◌, ◌∙◌, ℕ, suc, Bool, List, [], ◌∷◌, ◌++◌, ◌+◌, ◌==◌, ◌<◌, Option, Some, None, if◌then◌else◌, refl, ap, sym, subst, inl, length, slice_get, append_assoc, arith, eq-eqb}
use Rattle.std.proofs.lemmas.List.{append-nil, length_push}
use Rattle.obq_base.specs.declared.code.Node.{Node}
use Rattle.obq_base.specs.declared.code.Code.{Code}
use Rattle.obq_base.specs.declared.code.CodeNo.{CodeNo}
use Rattle.obq_base.specs.declared.code.SourceCode.{SourceCode}
use Rattle.obq_base.specs.Tree.{BlockTree}
use Rattle.obq_model.specs.Draft.{Draft, draft_block}
use Rattle.obq_model.specs.Occurrences.{unbound}
use Rattle.obq_model.specs.Procedures.{Proc, main_proc, procs_of}
use Rattle.obq_model.specs.Resolved.{AreCodes, IsCode, IsNumbered, Resolves, all_numbers, times}
use Rattle.obq_model.specs.Scopes.{outermost}
use Rattle.obq_model.proofs.Drafted.{drafted_block, IsDrafted}
use Rattle.obq_scope.specs.declared.output.Output.{Output}
use Rattle.obq_scope.specs.Emitted.{closed, emitted, next_number}
use Rattle.obq_scope.specs.Tabled.{Tables, tabled}
use Rattle.obq_scope.proofs.Once.{codes_push, once}
use Rattle.obq_scope.proofs.Standing.{Knows, Stands, codes_append, knows_left, knows_right, stands}

-- behind xs stands x
get_behind : {A : Type 0} (xs : List A) (x : A) (ys : List A) → slice_get (xs ++ x ∷ ys) (length xs) ≡ Some x
get_behind [] x ys = refl
get_behind (y ∷ xs) x ys = get_behind xs x ys

-- a table knows its procedures
known : (source m : ℕ) (before ps table : List Proc) → table ≡ before ++ ps → m ≡ length before → Knows (procs_of source table) source m ps
known source m before [] table e f = tt
known source m before (p ∷ ps) table e f = (
  ap (λ (b : Bool). if b then slice_get table m else None) (eq-eqb source source refl) ∙ ap (λ (t : List Proc). slice_get t m) e ∙ ap (slice_get (before ++ p ∷ ps)) f ∙ get_behind before p ps,
  known source (suc m) (before ++ p ∷ []) ps table (e ∙ sym (append_assoc before (p ∷ []) ps)) (ap suc f ∙ next (length before) ∙ sym (length_push before p)),
) where
  next : (l : ℕ) → suc l ≡ l + 1
  next l = omega arith

abbrev with_parts : List Code → List Node → Output
with_parts cs ns = record { codes = cs; nodes = ns }

-- a source's code that is whole resolves its block
pub resolves : (source : ℕ) (tree : BlockTree) (out after : Output) (nodes : List Node) (made : SourceCode)
    → unbound tree ≡ [] → out.nodes ≡ [] → out.codes ≡ [] → after ≡ closed 0 0 nodes (emitted source (draft_block (outermost source) [] tree) out)
    → made.source ≡ source → made.main ≡ next_number source (emitted source (draft_block (outermost source) [] tree) out) → made.codes ≡ after.codes
    → Tables source tree made
resolves source tree out after nodes made b e c f g h k =
    let d : Draft = draft_block (outermost source) [] tree in
    let last : Output = emitted source d out in
    let code : Code = record { params = 0; captures = 0; nodes = last.nodes } in
    let w : IsDrafted d = (drafted_block (outermost source) [] tree).drafted in
    let s : Stands source d out last = stands source d w out in
    let main : Proc = main_proc source tree in
    let table : List Proc = s.procs ++ main ∷ [] in
    let fn : CodeNo → Option Proc = procs_of source table in
    let codes_are : made.codes ≡ last.codes ++ code ∷ [] = k ∙ ap (λ (o : Output). o.codes) f in
    let none : length out.codes ≡ 0 = ap length c in
    let all : Knows fn source 0 table = known source 0 [] table table refl refl in
    let inside : Knows fn source (length out.codes) s.procs = subst (λ j. Knows fn source j s.procs) (sym none) (knows_left fn source 0 s.procs (main ∷ []) all) in
    let last_are : last.codes ≡ s.codes = s.codes_are ∙ ap (λ (l : List Code). l ++ s.codes) c in
    let here : fn (next_number source last) ≡ Some main = (knows_right fn source 0 s.procs (main ∷ []) (length last.codes) (ap length last_are ∙ s.many ∙ bare (length s.procs)) all).0 in
    let it : IsNumbered fn (next_number source last) code main
    = record {
      proc_is = here;
      code_is = record { params_are = refl; captures_are = refl; reads = subst (λ (x : List Node). IsCode fn d x []) (append-nil s.nodes ∙ sym (s.nodes_are ∙ ap (λ z. z ++ s.nodes) e)) (s.reads fn inside []) };
      made = inl (record { source = source; outside = refl; group = refl });
    } in
    let empty : out ≡ record { codes = []; nodes = [] } = bare_output out e c in (
      record {
        bound = b;
        source_is = g;
        table = table;
        main = ap fn h ∙ here;
        codes = subst (λ (cs : List Code). AreCodes fn source 0 cs table) (sym (codes_are ∙ ap (λ z. z ++ code ∷ []) last_are))
            (codes_append fn source 0 s.codes (code ∷ []) s.procs (main ∷ []) (length last.codes) (ap length last_are ∙ bare (length s.codes)) (subst (λ j. AreCodes fn source j s.codes s.procs) none (s.stand fn inside)) (it, tt));
        once = λ j l.
            ap (λ (m : CodeNo). times j (m ∷ all_numbers made.codes)) h
            ∙ ap (λ (cs : List Code). times j (next_number source last ∷ all_numbers cs)) codes_are
            ∙ ap (λ i. (if length last.codes == j then 1 else 0) + i) (codes_push j last.codes code)
            ∙ once j source d w out e c (within j made.codes last.codes code codes_are l);
      },
      ap (λ ps. ps ++ main ∷ []) (s.procs_are ∙ ap (tabled source d) empty),
    ) where
      bare_output : (o : Output) → o.nodes ≡ [] → o.codes ≡ [] → o ≡ record { codes = []; nodes = [] }
      bare_output o n m = ap (λ (cs : List Code). with_parts cs o.nodes) m ∙ ap (λ (ns : List Node). with_parts [] ns) n

      bare : (l : ℕ) → l ≡ 0 + l
      bare l = omega arith

      within : (j : ℕ) (cs ds : List Code) (x : Code) → cs ≡ ds ++ x ∷ [] → j < length cs → j < suc (length ds)
      within j cs ds x q l = omega (arith, l, ap length q ∙ length_push ds x)
