-- Object literals: nodes and trees do the same.
use Rattle.std.specs.Prelude.{Bool, List, None, Option, Some, [], codes, false, if◌then◌else◌, nat_lt, not, refl, suc, true, ℕ, ◌++◌, ◌||◌, ◌∷◌, ◌≡◌}
use Rattle.obq_base.specs.declared.code.Node.TheVariants as n
use Rattle.std.proofs.Common.{ap, subst, sym, ◌∙◌, true≢false}
use Rattle.obq_base.specs.Tree.{AField, AProc, AliasOf, FieldTrees, MethodOf, NoFields, ProcedureTree, ValueOf}
use Rattle.obq_base.specs.declared.code.CodeNo.{CodeNo}
use Rattle.obq_base.specs.declared.code.Node.{Node}
use Rattle.obq_base.specs.declared.limits.TheConstants.{CLOSURE_LIMIT}
use Rattle.obq_base.specs.declared.trees.Flags.{Flags}
use Rattle.obq_model.specs.CodeLaws.{nodes_of}
use Rattle.obq_model.specs.Draft.{captured_by, draft_field, draft_fields, field_names}
use Rattle.obq_model.specs.Occurrences.{free_procedure}
use Rattle.obq_model.specs.Scopes.{slots_of}
use Rattle.obq_model.specs.Store.{twice}
use Rattle.obq_model.specs.Terms.{Array, Bytes, Condition, Engine, Object, Variable, Writer}
use Rattle.obq_model.proofs.Drafted.{drafted_field}
use Rattle.obq_model.proofs.Occurring.{captured_covered}
use Rattle.obq_windows.specs.Agrees.{Agrees, DoneIs, FramesAre, IsBound, Same, StandsAt, place_at}
use Rattle.obq_windows.specs.Complete.{PlaceLaw}
use Rattle.obq_windows.specs.Literals.{DoneAlias, DoneField, DoneMethod, DoneValue, are_objects, count_methods, done_names, done_with}
use Rattle.obq_windows.specs.Moves.{AreProcHints, are_deep_methods, begin_fields, captured_values, is_deep_method, literal_fields, make_tree, tree_makes}
use Rattle.obq_windows.specs.Places.{Bound, Place, bound_names, outside_at}
use Rattle.obq_windows.specs.Trees.{Asks, ExprTask, MethodBody, PendingObject, PlainCloning, PlainField, Silent, Stepped, TreeAct, TreeFrame, TreeHere, TreeMake, TreeRun, ValueBody, alias_of, field_of, push, tree_moved, tree_raises}
use Rattle.obq_windows.specs.Values.{ClosureValue, ExceptionValue, IntValue, LocationValue, OkayValue, PlainValue, PlainValues, Table, TextValue, ThreadValue, TruthValue, depth_of_values, new_closure}
use Rattle.obq_windows.specs.Windows.{Activation, NodeAct, NodeFrame, NodeHere, NodeMake, NodeMoved, NodeObject, NodeRun, Store, are_deep_nodes, capture, field_node, fields_node, make_node, method_captures, method_value, node_at, node_fields, node_makes, node_moved, node_raises}
use Rattle.obq_windows.proofs.Heads.{at_node, expr_head, plain_node}
use Rattle.obq_windows.proofs.Lists.{item_here}
use Rattle.obq_windows.proofs.Slots.{alike, capture_is, first_of, next_here, node_here, not_above, second_of}

module _ {R : Type 0} (T : Table R) (S : Store R) where
  -- more fields behind
  pub done_more : (p : Place R) (ns : List (DoneField R ℕ)) (done : List (DoneField R ProcedureTree)) (ms : List (DoneField R ℕ)) (more : List (DoneField R ProcedureTree)) → DoneIs T S p ns done → DoneIs T S p ms more → DoneIs T S p (ns ++ ms) (done ++ more)
  done_more p ns [] ms more h k = subst (λ (z : List (DoneField R ℕ)). DoneIs T S p (z ++ ms) more) (sym h) k
  done_more p ns (DoneValue x v ∷ done) ms more h k = (h.0 ++ ms, ap (λ l. l ++ ms) h.1, done_more p h.0 done ms more h.2 k)
  done_more p ns (DoneMethod x q ∷ done) ms more h k = (h.0, h.1 ++ ms, ap (λ l. l ++ ms) h.2, h.3, done_more p h.1 done ms more h.4 k)
  done_more p ns (DoneAlias x y v ∷ done) ms more h k = (h.0 ++ ms, ap (λ l. l ++ ms) h.1, done_more p h.0 done ms more h.2 k)

  done_one : (p : Place R) (x : Bytes) (other : Option Bytes) (v : PlainValue R) → DoneIs T S p (done_with x other v ∷ []) (done_with x other v ∷ [])
  done_one p x None v = ([], refl, refl)
  done_one p x (Some y) v = ([], refl, refl)

-- a node that is neither a method nor an alias is an operand
field_plain : {R : Type 0} → (S : Store R) (act : Activation R) (flags : Flags) (done : List (DoneField R ℕ)) (x : Bytes) (names : List Bytes) (child b : ℕ) (ns : List (NodeFrame R)) (behind : NodeMoved R) (a : Node) → plain_node a ≡ true
    → field_node S act flags done x names child b ns behind (Some a) ≡ node_moved Silent act (NodeObject flags done x None names (S.end act.code child) b ∷ ns) (NodeRun child b)
field_plain S act flags done x names child b ns behind (n.Meth number from) e = absurd (true≢false (sym e))
field_plain S act flags done x names child b ns behind (n.Alias y) e = absurd (true≢false (sym e))
field_plain S act flags done x names child b ns behind a e = refl

pub fields_alike : {R : Type 0} → (T : Table R) (S : Store R) → Agrees T S → (act : Activation R) (b : ℕ) (bound : List (Bound R)) → IsBound act b bound → (ns : List (NodeFrame R)) (fs : List (TreeFrame R)) → FramesAre T S act b ns fs → (flags : Flags) (nodes : List (DoneField R ℕ)) (done : List (DoneField R ProcedureTree)) (child : ℕ) (fields : FieldTrees)
    → DoneIs T S (place_at act bound) nodes done → StandsAt T S act.code (draft_fields (outside_at T (place_at act bound)) (bound_names bound) fields) child → Same T S (fields_node S act flags nodes (field_names fields) child b ns) (begin_fields (place_at act bound) flags done fields fs)
fields_alike T S g act b bound w ns fs fr flags nodes done child NoFields k h = alike T S Silent act b ns (NodeMake flags nodes) fs (TreeMake (place_at act bound) flags done) fr (nodes, refl, (bound, refl, w), k)
fields_alike {R} T S g act b bound w ns fs fr flags nodes done child (AField x (ValueOf e) place fields) k h =
    let hd = expr_head T S act.code _ _ child e (first_of T S h) in
    at_node T S act.code child hd.node (field_node S act flags nodes x (field_names fields) child b ns (fields_node S act flags (nodes ++ DoneMethod x child ∷ []) (field_names fields) (S.end act.code child) b ns)) _ hd.there
    (subst (λ (m : NodeMoved R). Same T S m (begin_fields (place_at act bound) flags done (AField x (ValueOf e) place fields) fs)) (sym (field_plain S act flags nodes x (field_names fields) child b ns (fields_node S act flags (nodes ++ DoneMethod x child ∷ []) (field_names fields) (S.end act.code child) b ns) hd.node hd.plain))
    (alike T S Silent act b (NodeObject flags nodes x None (field_names fields) (S.end act.code child) b ∷ ns) (NodeRun child b) (push (place_at act bound) (PendingObject flags done x None fields) fs) (TreeRun (place_at act bound) (ExprTask e))
    (NodeObject flags nodes x None (field_names fields) (S.end act.code child) b, ns, refl, (nodes, S.end act.code child, b, refl, not_above b, (bound, refl, w), k, second_of T S g (drafted_field (outside_at T (place_at act bound)) (bound_names bound) (ValueOf e)) h), fr)
    (child, refl, (bound, refl, w), first_of T S h)))
fields_alike {R} T S g act b bound w ns fs fr flags nodes done child (AField x (AliasOf y e place2) place fields) k h =
    at_node T S act.code child (n.Alias y) (field_node S act flags nodes x (field_names fields) child b ns (fields_node S act flags (nodes ++ DoneMethod x child ∷ []) (field_names fields) (S.end act.code child) b ns)) _ (node_here T S (first_of T S h))
    (alike T S Silent act b (NodeObject flags nodes x (Some y) (field_names fields) (S.end act.code child) b ∷ ns) (NodeRun (suc child) b) (push (place_at act bound) (PendingObject flags done x (Some y) fields) fs) (TreeRun (place_at act bound) (ExprTask e))
    (NodeObject flags nodes x (Some y) (field_names fields) (S.end act.code child) b, ns, refl, (nodes, S.end act.code child, b, refl, not_above b, (bound, refl, w), k, second_of T S g (drafted_field (outside_at T (place_at act bound)) (bound_names bound) (AliasOf y e place2)) h), fr)
    (suc child, refl, (bound, refl, w), next_here T S (first_of T S h)))
fields_alike {R} T S g act b bound w ns fs fr flags nodes done child (AField x (MethodOf q) place fields) k h =
    at_node T S act.code child (n.Meth (first_of T S h).nodes.0 (slots_of (outside_at T (place_at act bound)) (bound_names bound) (captured_by (outside_at T (place_at act bound)) (bound_names bound) q))) (field_node S act flags nodes x (field_names fields) child b ns (fields_node S act flags (nodes ++ DoneMethod x child ∷ []) (field_names fields) (S.end act.code child) b ns)) _
    (item_here (nodes_of (S.code act.code)) child _ (first_of T S h).nodes.1 (first_of T S h).nodes.2)
    (fields_alike T S g act b bound w ns fs fr flags (nodes ++ DoneMethod x child ∷ []) (done ++ DoneMethod x q ∷ []) (S.end act.code child) fields
    (done_more T S (place_at act bound) nodes done (DoneMethod x child ∷ []) (DoneMethod x q ∷ []) k (child, [], refl, first_of T S h, refl)) (second_of T S g (drafted_field (outside_at T (place_at act bound)) (bound_names bound) (MethodOf q)) h))

-- an operand has its value
pub operand_alike : {R : Type 0} → (T : Table R) (S : Store R) → Agrees T S → (act : Activation R) (b : ℕ) (bound : List (Bound R)) → IsBound act b bound → (ns : List (NodeFrame R)) (fs : List (TreeFrame R)) → FramesAre T S act b ns fs → (flags : Flags) (nodes : List (DoneField R ℕ)) (done : List (DoneField R ProcedureTree)) (x : Bytes) (other : Option Bytes) (child : ℕ) (fields : FieldTrees) (v : PlainValue R)
    → DoneIs T S (place_at act bound) nodes done → StandsAt T S act.code (draft_fields (outside_at T (place_at act bound)) (bound_names bound) fields) child → Same T S (fields_node S act flags (nodes ++ done_with x other v ∷ []) (field_names fields) child b ns) (begin_fields (place_at act bound) flags (done ++ done_with x other v ∷ []) fields fs)
operand_alike T S g act b bound w ns fs fr flags nodes done x other child fields v k h =
    fields_alike T S g act b bound w ns fs fr flags (nodes ++ done_with x other v ∷ []) (done ++ done_with x other v ∷ []) child fields (done_more T S (place_at act bound) nodes done (done_with x other v ∷ []) (done_with x other v ∷ []) k (done_one T S (place_at act bound) x other v)) h

-- ---- the object is made

-- what the nodes of fields tell is what their trees tell, with the codes' numbers
pub record DoneAlike {R : Type 0} (T : Table R) (S : Store R) (act : Activation R) (p : Place R) (nodes : List (DoneField R ℕ)) (done : List (DoneField R ProcedureTree)) : Type 0 where
  pub numbers : List CodeNo
  pub hint : AreProcHints T numbers p done
  pub names : done_names nodes ≡ done_names done
  pub objects : are_objects nodes ≡ are_objects done
  pub methods : count_methods nodes ≡ count_methods done
  pub deep : are_deep_nodes S act nodes ≡ are_deep_methods T p done
  pub fields : (thread count : ℕ) → node_fields S act thread count nodes ≡ literal_fields T thread count numbers p done

alias_objects : {R : Type 0} → (x y : Bytes) (v : PlainValue R) (nodes : List (DoneField R ℕ)) (done : List (DoneField R ProcedureTree)) → are_objects nodes ≡ are_objects done → are_objects (DoneAlias x y v ∷ nodes) ≡ are_objects (DoneAlias x y v ∷ done)
alias_objects x y (LocationValue Object o) nodes done e = e
alias_objects x y (IntValue z) nodes done e = refl
alias_objects x y (TruthValue z) nodes done e = refl
alias_objects x y OkayValue nodes done e = refl
alias_objects x y (TextValue z) nodes done e = refl
alias_objects x y (ExceptionValue z) nodes done e = refl
alias_objects x y (ThreadValue z) nodes done e = refl
alias_objects x y (LocationValue Array z) nodes done e = refl
alias_objects x y (LocationValue Variable z) nodes done e = refl
alias_objects x y (LocationValue Writer z) nodes done e = refl
alias_objects x y (LocationValue Condition z) nodes done e = refl
alias_objects x y (LocationValue Engine z) nodes done e = refl
alias_objects x y (ClosureValue t c group index cs) nodes done e = refl

-- the captures of a method
module _ {R : Type 0} (T : Table R) (S : Store R) (act : Activation R) (b : ℕ) (bound : List (Bound R)) (d : PlaceLaw T (place_at act bound)) (w : IsBound act b bound) where
  captures : (q : ProcedureTree) → capture S act (slots_of (outside_at T (place_at act bound)) (bound_names bound) (captured_by (outside_at T (place_at act bound)) (bound_names bound) q)) ≡ captured_values T (place_at act bound) (captured_by (outside_at T (place_at act bound)) (bound_names bound) q)
  captures q = capture_is T S act b bound w d.members (captured_by (outside_at T (place_at act bound)) (bound_names bound) q) (λ x e. captured_covered (outside_at T (place_at act bound)) (bound_names bound) (free_procedure [] q) x e)

  node_is : (q : ProcedureTree) (at : ℕ) (h : StandsAt T S act.code (draft_field (outside_at T (place_at act bound)) (bound_names bound) (MethodOf q)) at) → node_at S act.code at ≡ Some (n.Meth h.nodes.0 (slots_of (outside_at T (place_at act bound)) (bound_names bound) (captured_by (outside_at T (place_at act bound)) (bound_names bound) q)))
  node_is q at h = item_here (nodes_of (S.code act.code)) at _ h.nodes.1 h.nodes.2

  pub done_alike : (nodes : List (DoneField R ℕ)) (done : List (DoneField R ProcedureTree)) → DoneIs T S (place_at act bound) nodes done → DoneAlike T S act (place_at act bound) nodes done
  done_alike nodes [] h = subst (λ (z : List (DoneField R ℕ)). DoneAlike T S act (place_at act bound) z []) (sym h) (record { numbers = []; hint = tt; names = refl; objects = refl; methods = refl; deep = refl; fields = λ t c. refl })
  done_alike nodes (DoneValue x v ∷ done) h =
      let k = done_alike h.0 done h.2 in
      subst (λ (z : List (DoneField R ℕ)). DoneAlike T S act (place_at act bound) z (DoneValue x v ∷ done)) (sym h.1)
      (record { numbers = k.numbers; hint = k.hint; names = ap (λ l. x ∷ l) k.names; objects = k.objects; methods = k.methods; deep = k.deep; fields = λ t c. ap (λ l. field_of x (ValueBody v) ∷ l) (k.fields t c) })
  done_alike nodes (DoneAlias x y v ∷ done) h =
      let k = done_alike h.0 done h.2 in
      subst (λ (z : List (DoneField R ℕ)). DoneAlike T S act (place_at act bound) z (DoneAlias x y v ∷ done)) (sym h.1)
      (record { numbers = k.numbers; hint = k.hint; names = ap (λ l. x ∷ l) k.names; objects = alias_objects x y v h.0 done k.objects; methods = k.methods; deep = k.deep; fields = λ t c. ap (λ l. field_of x (alias_of y v) ∷ l) (k.fields t c) })
  done_alike nodes (DoneMethod x (AProc params block place) ∷ done) h =
      let k = done_alike h.1 done h.4 in
      subst (λ (z : List (DoneField R ℕ)). DoneAlike T S act (place_at act bound) z (DoneMethod x (AProc params block place) ∷ done)) (sym h.2)
      (record {
        numbers = h.3.nodes.0 ∷ k.numbers;
        hint = (h.3.nodes.3, k.hint);
        names = ap (λ l. x ∷ l) k.names;
        objects = k.objects;
        methods = ap suc k.methods;
        deep =
            ap (λ (o : Option Node). nat_lt CLOSURE_LIMIT (depth_of_values (method_captures S act o)) || are_deep_nodes S act h.1) (node_is (AProc params block place) h.0 h.3)
            ∙ ap (λ (vs : PlainValues R). nat_lt CLOSURE_LIMIT (depth_of_values vs) || are_deep_nodes S act h.1) (captures (AProc params block place))
            ∙ ap (λ (c : Bool). c || are_deep_nodes S act h.1) (d.proc params block place)
            ∙ ap (λ (c : Bool). is_deep_method T (place_at act bound) (AProc params block place) || c) k.deep;
        fields = λ t c.
            ap (λ (o : Option Node). field_of x (MethodBody (method_value S act t c o)) ∷ node_fields S act t (suc c) h.1) (node_is (AProc params block place) h.0 h.3)
            ∙ ap (λ (vs : PlainValues R). field_of x (MethodBody (new_closure t c (h.3.nodes.0 ∷ []) 0 vs)) ∷ node_fields S act t (suc c) h.1) (captures (AProc params block place))
            ∙ ap (λ l. field_of x (MethodBody (new_closure t c (h.3.nodes.0 ∷ []) 0 (captured_values T (place_at act bound) (captured_by (outside_at T (place_at act bound)) (bound_names bound) (AProc params block place))))) ∷ l) (k.fields t (suc c));
      })

pub make_alike : {R : Type 0} → (T : Table R) (S : Store R) (thread count : ℕ) (act : Activation R) (b : ℕ) (p : Place R) (ns : List (NodeFrame R)) (fs : List (TreeFrame R)) → FramesAre T S act b ns fs → (flags : Flags) (nodes : List (DoneField R ℕ)) (done : List (DoneField R ProcedureTree)) (k : DoneAlike T S act p nodes done)
    → Same T S (make_node S thread count act flags nodes ns) (make_tree T thread count k.numbers p flags done fs)
make_alike {R} T S thread count act b p ns fs fr flags nodes done k =
    subst (λ (m : NodeMoved R). Same T S m (make_tree T thread count k.numbers p flags done fs)) (sym as_tree) (at (twice (done_names done)) (are_objects done) (are_deep_methods T p done)) where
      -- as the trees say
      as_said : List Bytes → Bool → Bool → ℕ → List (PlainField R) → NodeMoved R
      as_said names c d k fields =
          if twice names then node_moved Stepped act ns (node_raises (codes "field_twice")) else
          if not c then node_moved Stepped act ns (node_raises (codes "type")) else
          if d then node_moved Stepped act ns (node_raises (codes "closure_limit")) else
          node_makes k (node_moved (Asks (PlainCloning (Some flags) fields [])) act ns (NodeAct (PlainCloning (Some flags) fields []) NodeHere))

      as_tree : make_node S thread count act flags nodes ns ≡ as_said (done_names done) (are_objects done) (are_deep_methods T p done) (count_methods done) (literal_fields T thread count k.numbers p done)
      as_tree =
          ap (λ (z : List Bytes). as_said z (are_objects nodes) (are_deep_nodes S act nodes) (count_methods nodes) (node_fields S act thread count nodes)) k.names
          ∙ ap (λ (z : Bool). as_said (done_names done) z (are_deep_nodes S act nodes) (count_methods nodes) (node_fields S act thread count nodes)) k.objects
          ∙ ap (λ (z : Bool). as_said (done_names done) (are_objects done) z (count_methods nodes) (node_fields S act thread count nodes)) k.deep
          ∙ ap (λ (z : ℕ). as_said (done_names done) (are_objects done) (are_deep_methods T p done) z (node_fields S act thread count nodes)) k.methods
          ∙ ap (λ (z : List (PlainField R)). as_said (done_names done) (are_objects done) (are_deep_methods T p done) (count_methods done) z) (k.fields thread count)

      at : (e c d : Bool) → Same T S (
          if e then node_moved Stepped act ns (node_raises (codes "field_twice")) else
          if not c then node_moved Stepped act ns (node_raises (codes "type")) else
          if d then node_moved Stepped act ns (node_raises (codes "closure_limit")) else
          node_makes (count_methods done) (node_moved (Asks (PlainCloning (Some flags) (literal_fields T thread count k.numbers p done) [])) act ns (NodeAct (PlainCloning (Some flags) (literal_fields T thread count k.numbers p done) []) NodeHere))
          ) (
          if e then tree_moved Stepped fs (tree_raises (codes "field_twice")) else
          if not c then tree_moved Stepped fs (tree_raises (codes "type")) else
          if d then tree_moved Stepped fs (tree_raises (codes "closure_limit")) else
          tree_makes (count_methods done) (tree_moved (Asks (PlainCloning (Some flags) (literal_fields T thread count k.numbers p done) [])) fs (TreeAct (PlainCloning (Some flags) (literal_fields T thread count k.numbers p done) []) TreeHere))
          )
      at true c d = alike T S Stepped act b ns (node_raises (codes "field_twice")) fs (tree_raises (codes "field_twice")) fr refl
      at false false d = alike T S Stepped act b ns (node_raises (codes "type")) fs (tree_raises (codes "type")) fr refl
      at false true true = alike T S Stepped act b ns (node_raises (codes "closure_limit")) fs (tree_raises (codes "closure_limit")) fr refl
      at false true false = record { tag = refl; makes = refl; height = b; frames = fr; focus = (NodeHere, refl, refl) }
