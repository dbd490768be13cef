-- The procedures of a draft, in the order in which their codes are whole.
use Rattle.std.specs.Prelude.{List, [], length, suc, ℕ, ◌++◌, ◌∷◌, ◌≡◌}
use Rattle.obq_base.specs.declared.code.Node.TheVariants as n
use Rattle.obq_base.specs.declared.code.CodeNo.{CodeNo}
use Rattle.obq_base.specs.declared.code.SourceCode.{SourceCode}
use Rattle.obq_base.specs.Tree.{BlockTree, RecBindTrees, NoRecBinds, ARecBind}
use Rattle.obq_model.specs.Draft.{Draft, Done, Plain, Both, Closure, Method, Group, Members, NoMembers, AMember, count_params, draft_block}
use Rattle.obq_model.specs.Procedures.{Proc, main_proc, proc_in}
use Rattle.obq_model.specs.Resolved.{Resolves}
use Rattle.obq_model.specs.Scopes.{Outside, outermost}
use Rattle.obq_scope.specs.declared.output.Output.{Output}
use Rattle.obq_scope.specs.Emitted.{closed, emitted, member_numbers, next_number, opened, with_members, with_node}

abbrev mutual
  -- those of the draft behind this output
  pub tabled : ℕ → Draft → Output → List Proc
  tabled source Done out = []
  tabled source (Plain a d) out = tabled source d (with_node a out)
  tabled source (Both d e) out = tabled source d out ++ tabled source e (emitted source d out)
  tabled source (Closure from u p body d) out =
      tabled source body (opened out)
      ++ (proc_in u p [] 0
      ∷ tabled source d (with_node (n.Proc (next_number source (emitted source body (opened out))) from) (closed (length from) (count_params p) out.nodes (emitted source body (opened out)))))
  tabled source (Method from u p body d) out =
      tabled source body (opened out)
      ++ (proc_in u p [] 0
      ∷ tabled source d (with_node (n.Meth (next_number source (emitted source body (opened out))) from) (closed (length from) (count_params p) out.nodes (emitted source body (opened out)))))
  tabled source (Group from u bs bodies d) out =
      tabled_members source (length from) u bs (member_numbers source (length from) bs bodies out) 0 bodies out
      ++ tabled source d (with_node (n.LetRec (member_numbers source (length from) bs bodies out) from) (with_members source (length from) bs bodies out))

  -- those of a group's members, from the one with this index on
  pub tabled_members : ℕ → (captures : ℕ) → Outside → RecBindTrees → (group : List CodeNo) → (index : ℕ) → Members → Output → List Proc
  tabled_members source captures u NoRecBinds group index bodies out = []
  tabled_members source captures u (ARecBind x p place bs) group index NoMembers out = []
  tabled_members source captures u (ARecBind x p place bs) group index (AMember body bodies) out =
      tabled source body (opened out) ++ (proc_in u p group index ∷ tabled_members source captures u bs group (suc index) bodies (closed captures (count_params p) out.nodes (emitted source body (opened out))))

-- those of a source's block, the block last
abbrev pub table_of : ℕ → BlockTree → List Proc
table_of source tree = tabled source (draft_block (outermost source) [] tree) (record { codes = []; nodes = [] }) ++ main_proc source tree ∷ []

-- the code resolves the block, and its table is this one
abbrev pub Tables : ℕ → BlockTree → SourceCode → Type 0
Tables source tree made = (r : Resolves source tree made) × (r.table ≡ table_of source tree)
