-- The nodes and codes of a draft, where each code has its number by the order in which the codes are whole.
use Rattle.std.specs.Prelude.{List, [], length, ℕ, ◌++◌, ◌∷◌}
use Rattle.obq_base.specs.declared.code.Node.{Node}
use Rattle.obq_base.specs.declared.code.Node.TheVariants as n
use Rattle.obq_base.specs.declared.code.CodeNo.{CodeNo}
use Rattle.obq_base.specs.Tree.{RecBindTrees, NoRecBinds, ARecBind}
use Rattle.obq_model.specs.Draft.{Draft, Done, Plain, Both, Closure, Method, Group, Members, NoMembers, AMember, count_params}
use Rattle.obq_scope.specs.declared.output.Output.{Output}

-- one more node
abbrev pub with_node : Node → Output → Output
with_node a out = record { codes = out.codes; nodes = out.nodes ++ a ∷ [] }

-- a further code is begun
abbrev pub opened : Output → Output
opened out = record { codes = out.codes; nodes = [] }

-- that code is whole, and these are again the nodes of the one around it
abbrev pub closed : (captures params : ℕ) → List Node → Output → Output
closed captures params nodes out = record { codes = out.codes ++ record { params = params; captures = captures; nodes = out.nodes } ∷ []; nodes = nodes }

-- the number that a code gets when it is whole
abbrev pub next_number : ℕ → Output → CodeNo
next_number source out = record { source = source; n = length out.codes }

abbrev mutual
  pub emitted : ℕ → Draft → Output → Output
  emitted source Done out = out
  emitted source (Plain a d) out = emitted source d (with_node a out)
  emitted source (Both d e) out = emitted source e (emitted source d out)
  emitted source (Closure from u p body d) out =
      emitted source d (with_node (n.Proc (next_number source (emitted source body (opened out))) from) (closed (length from) (count_params p) out.nodes (emitted source body (opened out))))
  emitted source (Method from u p body d) out =
      emitted source d (with_node (n.Meth (next_number source (emitted source body (opened out))) from) (closed (length from) (count_params p) out.nodes (emitted source body (opened out))))
  emitted source (Group from u bs bodies d) out =
      emitted source d (with_node (n.LetRec (member_numbers source (length from) bs bodies out) from) (with_members source (length from) bs bodies out))

  -- the codes of a group's members
  pub with_members : ℕ → (captures : ℕ) → RecBindTrees → Members → Output → Output
  with_members source captures NoRecBinds bodies out = out
  with_members source captures (ARecBind x p place bs) NoMembers out = out
  with_members source captures (ARecBind x p place bs) (AMember body bodies) out =
      with_members source captures bs bodies (closed captures (count_params p) out.nodes (emitted source body (opened out)))

  -- their numbers
  pub member_numbers : ℕ → (captures : ℕ) → RecBindTrees → Members → Output → List CodeNo
  member_numbers source captures NoRecBinds bodies out = []
  member_numbers source captures (ARecBind x p place bs) NoMembers out = []
  member_numbers source captures (ARecBind x p place bs) (AMember body bodies) out =
      next_number source (emitted source body (opened out)) ∷ member_numbers source captures bs bodies (closed captures (count_params p) out.nodes (emitted source body (opened out)))
