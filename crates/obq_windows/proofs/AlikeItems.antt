-- Items and blocks that begin, and values in frames: nodes and trees do the same.
use Rattle.std.specs.Prelude.{Bool, List, [], codes, false, if◌then◌else◌, length, nat_lt, refl, suc, true, ℕ, ◌++◌, ◌+◌, ◌∷◌, ◌≡◌, ◌≤◌}
use Rattle.obq_base.specs.declared.code.Node.TheVariants as n
use Rattle.std.proofs.Common.{ap, arith, subst, sym, ◌∙◌}
use Rattle.std.proofs.lemmas.List.{append-nil, append_assoc}
use Rattle.obq_base.specs.Tree.{ABind, ARecBind, AnExpr, AnItem, AssignItem, BindTrees, BlockOf, BlockTree, ExprTree, FieldItem, IndexItem, ItemTree, ItemTrees, LetItem, LetRecItem, NoBinds, NoExprs, NoItems, NoRecBinds, PlainItem, RecBindTrees, VarItem}
use Rattle.obq_base.specs.declared.code.CodeNo.{CodeNo}
use Rattle.obq_base.specs.declared.limits.TheConstants.{CLOSURE_LIMIT}
use Rattle.obq_model.specs.CodeLaws.{nodes_of}
use Rattle.obq_model.specs.Depth.{deepest_of}
use Rattle.obq_model.specs.Draft.{Draft, captured_by_group, count_binds, count_items, draft_binds, draft_block, draft_items}
use Rattle.obq_model.specs.Occurrences.{bind_names, free_members, item_names, member_names}
use Rattle.obq_model.specs.Procedures.{AreMembers}
use Rattle.obq_model.specs.Scopes.{Outside, inside, slot_of, slots_of}
use Rattle.obq_model.specs.Terms.{Bytes}
use Rattle.obq_model.proofs.Drafted.{drafted_expr, drafted_item}
use Rattle.obq_model.proofs.Occurring.{captured_covered}
use Rattle.obq_windows.specs.Agrees.{Agrees, FramesAre, IsBound, Same, StandsAt, place_at}
use Rattle.obq_windows.specs.Complete.{PlaceLaw}
use Rattle.obq_windows.specs.Moves.{HintItems, begin_binds, begin_block, begin_expr, begin_items, begin_letrec, begin_rest, begin_vars, captured_values, letrec_parts, member_values, tree_closed, with_items}
use Rattle.obq_windows.specs.Places.{Bound, Place, bound_names, bound_values, outside_at, with_bound}
use Rattle.obq_windows.specs.Trees.{ExprTask, ItemsTask, PendingAssign, PendingField, PendingLet, PendingThen, PendingVar, Silent, Stepped, Tag, ToSetIndex, TreeFrame, TreeMoved, TreeRun, TreeValue, push, tree_moved, tree_raises}
use Rattle.obq_windows.specs.Values.{OkayValue, PlainValues, Table, depth_of_values, new_closure}
use Rattle.obq_windows.specs.Windows.{Activation, NodeAssign, NodeField, NodeFrame, NodeItems, NodeLet, NodeMoved, NodeRun, NodeThen, NodeValue, NodeVar, Store, begin_node, bind, binds_node, group_values, item_node, items_node, node_at, node_closed, node_moved, node_raises, vars_node, with_item}
use Rattle.obq_windows.proofs.Alike.{expr_alike}
use Rattle.obq_windows.proofs.AlikeCalls.{args_alike, as_triple}
use Rattle.obq_windows.proofs.Closing.{member_bound_names, names_append}
use Rattle.obq_windows.proofs.Frames.{bound_all, frames_kept, frames_up}
use Rattle.obq_windows.proofs.Heads.{at_node, expr_head, item_plain}
use Rattle.obq_windows.proofs.Lists.{item_here}
use Rattle.obq_windows.proofs.Slots.{alike, capture_is, first_of, next_here, node_here, not_above, second_of}

-- ---- items

pub rest_alike : {R : Type 0} → (T : Table R) (S : Store R) (tag : Tag R) (act : Activation R) (b : ℕ) (bound : List (Bound R)) → IsBound act b bound → (ns : List (NodeFrame R)) (fs : List (TreeFrame R)) → FramesAre T S act b ns fs → (at : ℕ) (is : ItemTrees)
    → StandsAt T S act.code (draft_items (outside_at T (place_at act bound)) (bound_names bound) is) at → Same T S (items_node tag act ns at (count_items is) b) (begin_rest tag (place_at act bound) is fs)
rest_alike T S tag act b bound w ns fs fr at NoItems h = alike T S tag act b ns (NodeValue OkayValue) fs (TreeValue OkayValue) fr refl
rest_alike T S tag act b bound w ns fs fr at (AnItem i is) h = alike T S tag act b ns (NodeItems at (count_items is) b) fs (TreeRun (place_at act bound) (ItemsTask (AnItem i is))) fr (at, refl, (bound, refl, w), h)

-- the same trees under names that are spelled in another way
pub respelled : {R : Type 0} {T : Table R} {S : Store R} {number : CodeNo} {at : ℕ} → (mk : List Bytes → Draft) (xs ys : List Bytes) → xs ≡ ys → StandsAt T S number (mk xs) at → StandsAt T S number (mk ys) at
respelled {R} {T} {S} {number} {at} mk xs ys e h = subst (λ (z : List Bytes). StandsAt T S number (mk z) at) e h

pub binds_alike : {R : Type 0} → (T : Table R) (S : Store R) → Agrees T S → (tag : Tag R) (act : Activation R) (b : ℕ) (bound : List (Bound R)) → IsBound act b bound → (ns : List (NodeFrame R)) (fs : List (TreeFrame R)) → FramesAre T S act b ns fs → (child at : ℕ) (bs : BindTrees) (is : ItemTrees)
    → StandsAt T S act.code (draft_binds (outside_at T (place_at act bound)) (bound_names bound) bs) child → StandsAt T S act.code (draft_items (outside_at T (place_at act bound)) (bound_names bound ++ bind_names bs) is) at
    → Same T S (binds_node S tag act ns child (count_binds bs) at (count_items is) b) (begin_binds tag (place_at act bound) bs is fs)
binds_alike T S g tag act b bound w ns fs fr child at NoBinds is h k =
    rest_alike T S tag act b bound w ns fs fr at is (respelled (λ z. draft_items (outside_at T (place_at act bound)) z is) _ _ (append-nil (bound_names bound)) k)
binds_alike T S g tag act b bound w ns fs fr child at (ABind x e place bs) is h k =
    alike T S tag act b (NodeLet (S.end act.code child) (count_binds bs) at (count_items is) b ∷ ns) (NodeRun child b) (push (place_at act bound) (PendingLet x bs is) fs) (TreeRun (place_at act bound) (ExprTask e)) (
      NodeLet (S.end act.code child) (count_binds bs) at (count_items is) b,
      ns,
      refl,
      (
        S.end act.code child,
        at,
        b,
        refl,
        not_above b,
        (bound, refl, w),
        second_of T S g (drafted_expr _ _ e) h,
        respelled (λ z. draft_items (outside_at T (place_at act bound)) z is) _ _ (sym (append_assoc (bound_names bound) (x ∷ []) (bind_names bs))) k,
      ),
      fr,
    )
    (child, refl, (bound, refl, w), first_of T S h)

pub vars_alike : {R : Type 0} → (T : Table R) (S : Store R) → Agrees T S → (tag : Tag R) (act : Activation R) (b : ℕ) (bound : List (Bound R)) → IsBound act b bound → (ns : List (NodeFrame R)) (fs : List (TreeFrame R)) → FramesAre T S act b ns fs → (child at : ℕ) (bs : BindTrees) (is : ItemTrees)
    → StandsAt T S act.code (draft_binds (outside_at T (place_at act bound)) (bound_names bound) bs) child → StandsAt T S act.code (draft_items (outside_at T (place_at act bound)) (bound_names bound ++ bind_names bs) is) at
    → Same T S (vars_node S tag act ns child (count_binds bs) at (count_items is) b) (begin_vars tag (place_at act bound) bs is fs)
vars_alike T S g tag act b bound w ns fs fr child at NoBinds is h k =
    rest_alike T S tag act b bound w ns fs fr at is (respelled (λ z. draft_items (outside_at T (place_at act bound)) z is) _ _ (append-nil (bound_names bound)) k)
vars_alike T S g tag act b bound w ns fs fr child at (ABind x e place bs) is h k =
    alike T S tag act b (NodeVar (S.end act.code child) (count_binds bs) at (count_items is) b ∷ ns) (NodeRun child b) (push (place_at act bound) (PendingVar x bs is) fs) (TreeRun (place_at act bound) (ExprTask e)) (
      NodeVar (S.end act.code child) (count_binds bs) at (count_items is) b,
      ns,
      refl,
      (
        S.end act.code child,
        at,
        b,
        refl,
        not_above b,
        (bound, refl, w),
        second_of T S g (drafted_expr _ _ e) h,
        respelled (λ z. draft_items (outside_at T (place_at act bound)) z is) _ _ (sym (append_assoc (bound_names bound) (x ∷ []) (bind_names bs))) k,
      ),
      fr,
    )
    (child, refl, (bound, refl, w), first_of T S h)

-- ---- a group

group_are_bound : {R : Type 0} → (T : Table R) (u : Outside) (group numbers : List CodeNo) (i : ℕ) (bs : RecBindTrees) (thread count : ℕ) (cs : PlainValues R) → AreMembers T.procs u group numbers i bs → group_values thread count group i cs numbers ≡ bound_values (member_values thread count group i cs (member_names bs))
group_are_bound T u group [] i NoRecBinds thread count cs h = refl
group_are_bound T u group [] i (ARecBind x q place bs) thread count cs h = absurd h
group_are_bound T u group (number ∷ numbers) i NoRecBinds thread count cs h = absurd h
group_are_bound {R} T u group (number ∷ numbers) i (ARecBind x q place bs) thread count cs h = ap (λ l. new_closure thread count group i cs ∷ l) (group_are_bound T u group numbers (suc i) bs thread count cs h.1)

group_length : {R : Type 0} → (T : Table R) (u : Outside) (group numbers : List CodeNo) (i : ℕ) (bs : RecBindTrees) (thread count : ℕ) (cs : PlainValues R) → AreMembers T.procs u group numbers i bs → length (member_values thread count group i cs (member_names bs)) ≡ length numbers
group_length T u group [] i NoRecBinds thread count cs h = refl
group_length T u group [] i (ARecBind x q place bs) thread count cs h = absurd h
group_length T u group (number ∷ numbers) i NoRecBinds thread count cs h = absurd h
group_length T u group (number ∷ numbers) i (ARecBind x q place bs) thread count cs h = ap suc (group_length T u group numbers (suc i) bs thread count cs h.1)

-- the same with a group that is made
made_alike : {R : Type 0} → (T : Table R) (S : Store R) (m : NodeMoved R) (t : TreeMoved R) → Same T S m t → Same T S (node_closed m) (tree_closed t)
made_alike T S m t k = record { tag = k.tag; makes = refl; height = k.height; frames = k.frames; focus = k.focus }

letrec_alike : {R : Type 0} → (T : Table R) (S : Store R) → Agrees T S → (a thread count : ℕ) (act : Activation R) (b : ℕ) (bound : List (Bound R)) → PlaceLaw T (place_at act bound) → IsBound act b bound → (ns : List (NodeFrame R)) (fs : List (TreeFrame R)) → FramesAre T S act b ns fs → (at : ℕ) (bs : RecBindTrees) (place : ℕ) (is : ItemTrees)
    → (h : StandsAt T S act.code (draft_items (outside_at T (place_at act bound)) (bound_names bound) (AnItem (LetRecItem bs place) is)) at)
    → Same T S (item_node S a thread count act ns at (count_items is) b (node_at S act.code at)) (begin_letrec T thread count (first_of T S h).nodes.0 (place_at act bound) bs is fs)
letrec_alike {R} T S g a thread count act b bound d w ns fs fr at bs place is h =
    at_node T S act.code at (n.LetRec (first_of T S h).nodes.0 (slots_of (outside_at T (place_at act bound)) (bound_names bound) (captured_by_group (outside_at T (place_at act bound)) (bound_names bound) bs))) (item_node S a thread count act ns at (count_items is) b) _
    (item_here (nodes_of (S.code act.code)) at _ (first_of T S h).nodes.1 (first_of T S h).nodes.2)
    (subst (λ (vs : PlainValues R). Same T S (if nat_lt CLOSURE_LIMIT (depth_of_values vs) then node_moved Stepped act ns (node_raises (codes "closure_limit")) else node_closed (items_node Stepped (bind act b (group_values thread count (first_of T S h).nodes.0 0 vs (first_of T S h).nodes.0)) ns (S.end act.code at) (count_items is) (b + length (first_of T S h).nodes.0))) (begin_letrec T thread count (first_of T S h).nodes.0 (place_at act bound) bs is fs))
    (sym (capture_is T S act b bound w d.members (captured_by_group (outside_at T (place_at act bound)) (bound_names bound) bs) (λ x e. captured_covered (outside_at T (place_at act bound)) (bound_names bound) (free_members (member_names bs) bs) x e)))
    (subst (λ (c : Bool). Same T S (if c then node_moved Stepped act ns (node_raises (codes "closure_limit")) else node_closed (items_node Stepped (bind act b (group_values thread count (first_of T S h).nodes.0 0 (captured_values T (place_at act bound) (captured_by_group (outside_at T (place_at act bound)) (bound_names bound) bs)) (first_of T S h).nodes.0)) ns (S.end act.code at) (count_items is) (b + length (first_of T S h).nodes.0))) (begin_letrec T thread count (first_of T S h).nodes.0 (place_at act bound) bs is fs))
    (sym (d.group bs)) (by_depth (nat_lt CLOSURE_LIMIT (deepest_of (letrec_parts T (place_at act bound) bs)))))) where
      by_depth : (c : Bool) → Same T S (if c then node_moved Stepped act ns (node_raises (codes "closure_limit")) else node_closed (items_node Stepped (bind act b (group_values thread count (first_of T S h).nodes.0 0 (captured_values T (place_at act bound) (captured_by_group (outside_at T (place_at act bound)) (bound_names bound) bs)) (first_of T S h).nodes.0)) ns (S.end act.code at) (count_items is) (b + length (first_of T S h).nodes.0)))
          (if c then tree_moved Stepped fs (tree_raises (codes "closure_limit")) else tree_closed (begin_rest Stepped (with_bound (place_at act bound) (member_values thread count (first_of T S h).nodes.0 0 (captured_values T (place_at act bound) (captured_by_group (outside_at T (place_at act bound)) (bound_names bound) bs)) (member_names bs))) is fs))
      by_depth true = alike T S Stepped act b ns (node_raises (codes "closure_limit")) fs (tree_raises (codes "closure_limit")) fr refl
      by_depth false =
          made_alike T S (items_node Stepped (bind act b (group_values thread count (first_of T S h).nodes.0 0 (captured_values T (place_at act bound) (captured_by_group (outside_at T (place_at act bound)) (bound_names bound) bs)) (first_of T S h).nodes.0)) ns (S.end act.code at) (count_items is) (b + length (first_of T S h).nodes.0)) (begin_rest Stepped (with_bound (place_at act bound) (member_values thread count (first_of T S h).nodes.0 0 (captured_values T (place_at act bound) (captured_by_group (outside_at T (place_at act bound)) (bound_names bound) bs)) (member_names bs))) is fs) (rest_alike T S Stepped (bind act b (group_values thread count (first_of T S h).nodes.0 0 (captured_values T (place_at act bound) (captured_by_group (outside_at T (place_at act bound)) (bound_names bound) bs)) (first_of T S h).nodes.0)) (b + length (first_of T S h).nodes.0) (bound ++ (member_values thread count (first_of T S h).nodes.0 0 (captured_values T (place_at act bound) (captured_by_group (outside_at T (place_at act bound)) (bound_names bound) bs)) (member_names bs)))
          (bound_all act b (length (first_of T S h).nodes.0) bound (member_values thread count (first_of T S h).nodes.0 0 (captured_values T (place_at act bound) (captured_by_group (outside_at T (place_at act bound)) (bound_names bound) bs)) (member_names bs)) (group_values thread count (first_of T S h).nodes.0 0 (captured_values T (place_at act bound) (captured_by_group (outside_at T (place_at act bound)) (bound_names bound) bs)) (first_of T S h).nodes.0) w (group_are_bound T (inside (outside_at T (place_at act bound)) (member_names bs) (captured_by_group (outside_at T (place_at act bound)) (bound_names bound) bs)) (first_of T S h).nodes.0 (first_of T S h).nodes.0 0 bs thread count (captured_values T (place_at act bound) (captured_by_group (outside_at T (place_at act bound)) (bound_names bound) bs)) (first_of T S h).nodes.3) (group_length T (inside (outside_at T (place_at act bound)) (member_names bs) (captured_by_group (outside_at T (place_at act bound)) (bound_names bound) bs)) (first_of T S h).nodes.0 (first_of T S h).nodes.0 0 bs thread count (captured_values T (place_at act bound) (captured_by_group (outside_at T (place_at act bound)) (bound_names bound) bs)) (first_of T S h).nodes.3)) ns fs
          (frames_up T S (bind act b (group_values thread count (first_of T S h).nodes.0 0 (captured_values T (place_at act bound) (captured_by_group (outside_at T (place_at act bound)) (bound_names bound) bs)) (first_of T S h).nodes.0)) b (b + length (first_of T S h).nodes.0) ns fs (more_than b (length (first_of T S h).nodes.0)) (frames_kept T S act b b (group_values thread count (first_of T S h).nodes.0 0 (captured_values T (place_at act bound) (captured_by_group (outside_at T (place_at act bound)) (bound_names bound) bs)) (first_of T S h).nodes.0) ns fs (not_above b) fr)) (S.end act.code at) is
          (respelled (λ z. draft_items (outside_at T (place_at act bound)) z is) (bound_names bound ++ member_names bs) (bound_names (bound ++ (member_values thread count (first_of T S h).nodes.0 0 (captured_values T (place_at act bound) (captured_by_group (outside_at T (place_at act bound)) (bound_names bound) bs)) (member_names bs)))) (ap (λ (l : List Bytes). bound_names bound ++ l) (sym (member_bound_names thread count (first_of T S h).nodes.0 0 (captured_values T (place_at act bound) (captured_by_group (outside_at T (place_at act bound)) (bound_names bound) bs)) (member_names bs))) ∙ sym (names_append bound (member_values thread count (first_of T S h).nodes.0 0 (captured_values T (place_at act bound) (captured_by_group (outside_at T (place_at act bound)) (bound_names bound) bs)) (member_names bs)))) (second_of T S g (drafted_item (outside_at T (place_at act bound)) (bound_names bound) (LetRecItem bs place)) h))) where
            more_than : (x y : ℕ) → x ≤ x + y
            more_than x y = omega arith

pub record ItemsBegun {R : Type 0} (T : Table R) (S : Store R) (p : Place R) (is : ItemTrees) (m : NodeMoved R) (t : List CodeNo → TreeMoved R) : Type 0 where
  pub numbers : List CodeNo
  pub hint : HintItems T numbers p is
  pub same : Same T S m (t numbers)

plain_alike : {R : Type 0} → (T : Table R) (S : Store R) → Agrees T S → (a thread count : ℕ) (act : Activation R) (b : ℕ) (bound : List (Bound R)) → PlaceLaw T (place_at act bound) → IsBound act b bound → (ns : List (NodeFrame R)) (fs : List (TreeFrame R)) → FramesAre T S act b ns fs → (at : ℕ) (e : ExprTree) (is : ItemTrees)
    → StandsAt T S act.code (draft_items (outside_at T (place_at act bound)) (bound_names bound) (AnItem (PlainItem e) is)) at
    → ItemsBegun T S (place_at act bound) (AnItem (PlainItem e) is) (item_node S a thread count act ns at (count_items is) b (node_at S act.code at)) (λ numbers. begin_items T a thread count numbers (place_at act bound) (AnItem (PlainItem e) is) fs)
plain_alike {R} T S g a thread count act b bound d w ns fs fr at e NoItems h =
    let hd = expr_head T S act.code _ _ at e (first_of T S h) in
    let m = expr_alike T S g a thread count act b bound d w ns fs fr at e (first_of T S h) in
    record {
      numbers = m.numbers;
      hint = m.hint;
      same =
          subst (λ (z : NodeMoved R). Same T S z (begin_expr T a thread count m.numbers (place_at act bound) e fs))
          (ap (begin_node S a thread count act ns at b) hd.there ∙ sym (ap (item_node S a thread count act ns at 0 b) hd.there ∙ item_plain S a thread count act ns at 0 b hd.node hd.plain)) m.same;
    }
plain_alike {R} T S g a thread count act b bound d w ns fs fr at e (AnItem j is) h =
    let hd = expr_head T S act.code _ _ at e (first_of T S h) in
    let behind = respelled (λ z. draft_items (outside_at T (place_at act bound)) z (AnItem j is)) _ _ (append-nil (bound_names bound)) (second_of T S g (drafted_expr _ _ e) h) in
    let m = expr_alike T S g a thread count act b bound d w (NodeThen (S.end act.code at) (count_items is) b ∷ ns) (push (place_at act bound) (PendingThen (AnItem j is)) fs)
    (NodeThen (S.end act.code at) (count_items is) b, ns, refl, (S.end act.code at, b, refl, not_above b, (bound, refl, w), behind), fr) at e (first_of T S h) in
    record {
      numbers = m.numbers;
      hint = m.hint;
      same =
          subst (λ (z : NodeMoved R). Same T S z (begin_expr T a thread count m.numbers (place_at act bound) e (push (place_at act bound) (PendingThen (AnItem j is)) fs)))
          (ap (begin_node S a thread count act (NodeThen (S.end act.code at) (count_items is) b ∷ ns) at b) hd.there ∙ sym (ap (item_node S a thread count act ns at (suc (count_items is)) b) hd.there ∙ item_plain S a thread count act ns at (suc (count_items is)) b hd.node hd.plain)) m.same;
    }

-- the frame for the items behind one
item_frames : {R : Type 0} → (T : Table R) (S : Store R) (act : Activation R) (b : ℕ) (bound : List (Bound R)) → IsBound act b bound → (ns : List (NodeFrame R)) (fs : List (TreeFrame R)) → FramesAre T S act b ns fs → (at : ℕ) (is : ItemTrees)
    → StandsAt T S act.code (draft_items (outside_at T (place_at act bound)) (bound_names bound) is) at → FramesAre T S act b (with_item at (count_items is) b ns) (with_items (place_at act bound) is fs)
item_frames T S act b bound w ns fs fr at NoItems h = fr
item_frames T S act b bound w ns fs fr at (AnItem i is) h = (NodeThen at (count_items is) b, ns, refl, (at, b, refl, not_above b, (bound, refl, w), h), fr)

-- behind an item that binds no name
unbound_behind : {R : Type 0} → (T : Table R) (S : Store R) → Agrees T S → (number : CodeNo) (u : Outside) (names : List Bytes) (at : ℕ) (i : ItemTree) (is : ItemTrees) → item_names i ≡ [] → StandsAt T S number (draft_items u names (AnItem i is)) at → StandsAt T S number (draft_items u names is) (S.end number at)
unbound_behind T S g number u names at i is e h = respelled (λ z. draft_items u z is) _ _ (ap (λ l. names ++ l) e ∙ append-nil names) (second_of T S g (drafted_item u names i) h)

pub items_alike : {R : Type 0} → (T : Table R) (S : Store R) → Agrees T S → (a thread count : ℕ) (act : Activation R) (b : ℕ) (bound : List (Bound R)) → PlaceLaw T (place_at act bound) → IsBound act b bound → (ns : List (NodeFrame R)) (fs : List (TreeFrame R)) → FramesAre T S act b ns fs → (at : ℕ) (i : ItemTree) (is : ItemTrees)
    → StandsAt T S act.code (draft_items (outside_at T (place_at act bound)) (bound_names bound) (AnItem i is)) at
    → ItemsBegun T S (place_at act bound) (AnItem i is) (item_node S a thread count act ns at (count_items is) b (node_at S act.code at)) (λ numbers. begin_items T a thread count numbers (place_at act bound) (AnItem i is) fs)
items_alike T S g a thread count act b bound d w ns fs fr at (LetItem bs place) is h = record {
  numbers = [];
  hint = tt;
  same = at_node T S act.code at (n.Let (count_binds bs)) (item_node S a thread count act ns at (count_items is) b) _ (node_here T S (first_of T S h))
      (binds_alike T S g Silent act b bound w ns fs fr (suc at) (S.end act.code at) bs is (next_here T S (first_of T S h)) (second_of T S g (drafted_item _ _ (LetItem bs place)) h));
}
items_alike T S g a thread count act b bound d w ns fs fr at (LetRecItem bs place) is h = record { numbers = (first_of T S h).nodes.0; hint = (first_of T S h).nodes.3; same = letrec_alike T S g a thread count act b bound d w ns fs fr at bs place is h }
items_alike T S g a thread count act b bound d w ns fs fr at (PlainItem e) is h = plain_alike T S g a thread count act b bound d w ns fs fr at e is h
items_alike T S g a thread count act b bound d w ns fs fr at (VarItem bs place) is h = record {
  numbers = [];
  hint = tt;
  same = at_node T S act.code at (n.Var (count_binds bs)) (item_node S a thread count act ns at (count_items is) b) _ (node_here T S (first_of T S h))
      (vars_alike T S g Silent act b bound w ns fs fr (suc at) (S.end act.code at) bs is (next_here T S (first_of T S h)) (second_of T S g (drafted_item _ _ (VarItem bs place)) h));
}
items_alike T S g a thread count act b bound d w ns fs fr at (AssignItem x e place) is h = record {
  numbers = [];
  hint = tt;
  same = at_node T S act.code at (n.Assign (slot_of (outside_at T (place_at act bound)) (bound_names bound) x)) (item_node S a thread count act ns at (count_items is) b) _ (node_here T S (first_of T S h))
      (alike T S Silent act b _ (NodeRun (suc at) b) (push (place_at act bound) (PendingAssign x) (with_items (place_at act bound) is fs)) (TreeRun (place_at act bound) (ExprTask e))
      (NodeAssign (slot_of (outside_at T (place_at act bound)) (bound_names bound) x) b, _, refl, (b, refl, not_above b, (bound, refl, w)), item_frames T S act b bound w ns fs fr (S.end act.code at) is (unbound_behind T S g _ _ _ at (AssignItem x e place) is refl h))
      (suc at, refl, (bound, refl, w), next_here T S (first_of T S h)));
}
items_alike T S g a thread count act b bound d w ns fs fr at (FieldItem e x body place) is h = record {
  numbers = [];
  hint = tt;
  same = at_node T S act.code at (n.SetField x) (item_node S a thread count act ns at (count_items is) b) _ (node_here T S (first_of T S h))
      (alike T S Silent act b _ (NodeRun (suc at) b) (push (place_at act bound) (PendingField x body) (with_items (place_at act bound) is fs)) (TreeRun (place_at act bound) (ExprTask e))
      (NodeField x (S.end act.code (suc at)) b, _, refl, (S.end act.code (suc at), b, refl, not_above b, (bound, refl, w), second_of T S g (drafted_expr _ _ e) (next_here T S (first_of T S h))), item_frames T S act b bound w ns fs fr (S.end act.code at) is (unbound_behind T S g _ _ _ at (FieldItem e x body place) is refl h))
      (suc at, refl, (bound, refl, w), first_of T S (next_here T S (first_of T S h))));
}
items_alike T S g a thread count act b bound d w ns fs fr at (IndexItem e x i place) is h = record {
  numbers = [];
  hint = tt;
  same = at_node T S act.code at n.SetItem (item_node S a thread count act ns at (count_items is) b) _ (node_here T S (first_of T S h))
      (args_alike T S g a act b bound w _ _ (item_frames T S act b bound w ns fs fr (S.end act.code at) is (unbound_behind T S g _ _ _ at (IndexItem e x i place) is refl h)) ToSetIndex [] (suc at) (AnExpr e (AnExpr x (AnExpr i NoExprs))) (as_triple T S (next_here T S (first_of T S h))));
}

pub block_alike : {R : Type 0} → (T : Table R) (S : Store R) (a thread count : ℕ) (act : Activation R) (b : ℕ) (bound : List (Bound R)) → IsBound act b bound → (ns : List (NodeFrame R)) (fs : List (TreeFrame R)) → FramesAre T S act b ns fs → (at : ℕ) (block : BlockTree)
    → StandsAt T S act.code (draft_block (outside_at T (place_at act bound)) (bound_names bound) block) at → Same T S (begin_node S a thread count act ns at b (node_at S act.code at)) (begin_block (place_at act bound) block fs)
block_alike T S a thread count act b bound w ns fs fr at (BlockOf NoItems place) h = at_node T S act.code at (n.Block 0) (begin_node S a thread count act ns at b) _ (node_here T S h) (alike T S Stepped act b ns (NodeValue OkayValue) fs (TreeValue OkayValue) fr refl)
block_alike T S a thread count act b bound w ns fs fr at (BlockOf (AnItem i is) place) h =
    at_node T S act.code at (n.Block (suc (count_items is))) (begin_node S a thread count act ns at b) _ (node_here T S h)
    (alike T S Silent act b ns (NodeItems (suc at) (count_items is) b) fs (TreeRun (place_at act bound) (ItemsTask (AnItem i is))) fr (suc at, refl, (bound, refl, w), next_here T S h))
