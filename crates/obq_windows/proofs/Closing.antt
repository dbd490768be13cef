-- A closure that is made: what it captures is what its body reads.
use Rattle.std.specs.Prelude.{Bool, List, None, Option, Some, [], bytes_eq, codes, drop, false, if◌then◌else◌, is_some, nat_lt, option_map, refl, suc, true, ℕ, ◌++◌, ◌||◌, ◌∷◌, ◌≡◌}
use Rattle.std.proofs.Common.{ap, sym, ◌∙◌, true≢false}
use Rattle.std.proofs.lemmas.Slice.Eq.{bytes_eq-Decides}
use Rattle.obq_base.specs.Tree.{AProc, ARecBind, AnItem, BlockTree, ItemTrees, LetRecItem, NoItems, NoRecBinds, ProcTree, ProcedureTree, RecBindTrees}
use Rattle.obq_base.specs.declared.code.CodeNo.{CodeNo}
use Rattle.obq_base.specs.declared.limits.TheConstants.{CLOSURE_LIMIT}
use Rattle.obq_base.specs.declared.occurrences.Occurrence.{Occurrence}
use Rattle.obq_model.specs.Depth.{deepest_of, is_too_deep}
use Rattle.obq_model.specs.Draft.{captured_by, captured_by_group}
use Rattle.obq_model.specs.Exceptions.{closure_limit, wrong_type}
use Rattle.obq_model.specs.Occurrences.{free_members, free_procedure, member_names}
use Rattle.obq_model.specs.Opened.{open_block, open_items, open_members}
use Rattle.obq_model.specs.Procedures.{AreMembers, Proc}
use Rattle.obq_model.specs.Put.{among, put_members}
use Rattle.obq_model.specs.Reading.{Env, hide, or_some, read, read_parts, with_all, with_members}
use Rattle.obq_model.specs.Scopes.{Outside, captured_of, inside, is_covered, last_place, last_place_from}
use Rattle.obq_model.specs.Step.{Needs, Next, Self, Set, activations_at, find, plug, self_at}
use Rattle.obq_model.specs.Terms.{Array, Bytes, Closure, Condition, Const, End, Engine, Form, IsMethod, Loc, Member, Object, Part, Parts, SetMethod, Term, Under, Value, Variable, Writer}
use Rattle.obq_model.proofs.Among.{bytes_sym}
use Rattle.obq_model.proofs.Occurring.{Only, captured_covered, only_block}
use Rattle.obq_model.proofs.Places.{among_place, or_else, place_found}
use Rattle.obq_model.proofs.Substitution.{agree_read, members_read}
use Rattle.obq_windows.specs.Meanings.{Moves}
use Rattle.obq_windows.specs.Moves.{IsGroupHint, IsProcHint, begin_letrec, begin_proc, begin_rest, captured_values, letrec_parts, member_values, method_tree, set_method_tree, tree_closed, value_or_okay}
use Rattle.obq_windows.specs.Places.{Bound, Place, bound_names, env_at, last_bound, member_at, or_this, outside_at, proc_group, proc_outside, value_in, value_of, with_bound, writer_at}
use Rattle.obq_windows.specs.Trees.{Asks, ItemsTask, PlainSetMethod, Stepped, Tag, TreeAct, TreeFrame, TreeHere, TreeMethod, TreeRun, TreeValue, body_at, expr_at, frames_of, items_at, method_of, names_at, term_of, tree_made, tree_moved, tree_raises}
use Rattle.obq_windows.specs.Values.{ClosureValue, ExceptionValue, IntValue, IsMadeTable, LocationValue, OkayValue, PlainValue, PlainValues, Table, TextValue, ThreadValue, TruthValue, captured_at, captured_env, closure_of, group_of, member_part, new_closure, no_env, padded, proc_named, proc_of, read_value, read_values}
use Rattle.obq_windows.proofs.Around.{Starts, asks, here, stepped, to_here}
use Rattle.obq_windows.proofs.Calls.{members_none, members_some}
use Rattle.obq_windows.proofs.Envs.{fun_eq, others}
use Rattle.obq_windows.proofs.Lists.{behind_here, item_here}
use Rattle.obq_windows.proofs.Results.{closure_cases}

-- ---- what is covered has a value

bound_some : {R : Type 0} → (x : Bytes) (bs : List (Bound R)) → among x (bound_names bs) ≡ is_some (last_bound x bs)
bound_some x [] = refl
bound_some {R} x (b ∷ bs) = ap (λ c. bytes_eq x b.name || c) (bound_some x bs) ∙ ap (λ c. c || is_some (last_bound x bs)) (bytes_sym x b.name) ∙ joined (bytes_eq b.name x) (last_bound x bs) where
  joined : (c : Bool) (o : Option (PlainValue R)) → (c || is_some o) ≡ is_some (or_this o c b.value)
  joined true None = refl
  joined true (Some v) = refl
  joined false None = refl
  joined false (Some v) = refl

covered_some : {R : Type 0} → (u : Outside) (group : List CodeNo) (p : Place R) (x : Bytes) → is_covered u (bound_names p.bound) x ≡ true → is_some (value_in u group p x) ≡ true
covered_some {R} u group p x e =
    sym (three (last_bound x p.bound) (last_place x u.members) (last_place x u.captured))
    ∙ sym (ap (λ (c : Bool). c || (is_some (last_place x u.members) || is_some (last_place x u.captured))) (bound_some x p.bound)
    ) ∙ sym (ap (λ (c : Bool). among x (bound_names p.bound) || (c || is_some (last_place x u.captured))) (among_place 0 x u.members))
    ∙ sym (ap (λ (c : Bool). among x (bound_names p.bound) || (among x u.members || c)) (among_place 0 x u.captured)) ∙ e where
      three : (o : Option (PlainValue R)) (m c : Option ℕ) → (is_some o || (is_some m || is_some c)) ≡ is_some (or_else o (or_else (option_map (member_at group p) m) (option_map (captured_at p.captured) c)))
      three (Some v) m c = refl
      three None (Some k) c = refl
      three None None (Some k) = refl
      three None None None = refl

-- ---- capturing

captured_in : {R : Type 0} → (T : Table R) (p : Place R) (y : Bytes) (xs : List Bytes)
    → with_all (padded xs (read_values T (captured_values T p xs))) xs no_env y ≡ (if among y xs then Some (read_value T (value_or_okay (value_of T p y))) else None)
captured_in T p y [] = refl
captured_in {R} T p y (x ∷ xs) =
    ap (λ (o : Option (Value R)). or_some o (bytes_eq x y) (read_value T (value_or_okay (value_of T p x)))) (captured_in T p y xs)
    ∙ joined (bytes_eq x y) refl (among y xs)
    ∙ ap (λ (c : Bool). if c || among y xs then Some (read_value T (value_or_okay (value_of T p y))) else None) (bytes_sym x y) where
      joined : (c : Bool) → bytes_eq x y ≡ c → (b : Bool) → or_some (if b then Some (read_value T (value_or_okay (value_of T p y))) else None) c (read_value T (value_or_okay (value_of T p x))) ≡ (if c || b then Some (read_value T (value_or_okay (value_of T p y))) else None)
      joined true e true = refl
      joined false e true = refl
      joined true e false = ap (λ (z : Bytes). Some (read_value T (value_or_okay (value_of T p z)))) ((bytes_eq-Decides x y).0 e)
      joined false e false = refl

-- what a closure captures here is what its body reads here
pub closing_agrees : {R : Type 0} → (T : Table R) (p : Place R) (members : List Bytes) (us : List Occurrence) (params : List Bytes) (t : Term R)
    → Only (is_covered (inside (outside_at T p) members (captured_of (outside_at T p) (names_at p) us)) params) t
    → read (hide params (hide members (env_at T p))) t
    ≡ read (hide params (hide members (captured_env (inside (outside_at T p) members (captured_of (outside_at T p) (names_at p) us)) (read_values T (captured_values T p (captured_of (outside_at T p) (names_at p) us)))))) t
closing_agrees {R} T p members us params t h = agree_read t _ _ (λ x o. at x (among x params) refl (among x members) refl (h.only x o)) where
  value : (x : Bytes) → among x (captured_of (outside_at T p) (names_at p) us) ≡ true
      → env_at T p x ≡ captured_env (inside (outside_at T p) members (captured_of (outside_at T p) (names_at p) us)) (read_values T (captured_values T p (captured_of (outside_at T p) (names_at p) us))) x
  value x e =
      some (value_of T p x) (covered_some (proc_outside (T.procs p.code)) (proc_group (T.procs p.code)) p x (captured_covered (outside_at T p) (names_at p) us x e))
      ∙ sym (ap (λ (c : Bool). if c then Some (read_value T (value_or_okay (value_of T p x))) else None) e)
      ∙ sym (captured_in T p x (captured_of (outside_at T p) (names_at p) us)) where
        some : (o : Option (PlainValue R)) → is_some o ≡ true → option_map (read_value T) o ≡ Some (read_value T (value_or_okay o))
        some None q = absurd (true≢false (sym q))
        some (Some v) q = refl

  at : (x : Bytes) (c : Bool) → among x params ≡ c → (d : Bool) → among x members ≡ d → (among x params || (among x members || among x (captured_of (outside_at T p) (names_at p) us))) ≡ true
      → (if among x params then None else (if among x members then None else env_at T p x))
      ≡ (if among x params then None else (if among x members then None else captured_env (inside (outside_at T p) members (captured_of (outside_at T p) (names_at p) us)) (read_values T (captured_values T p (captured_of (outside_at T p) (names_at p) us))) x))
  at x true e d f o = ap (λ (c : Bool). if c then None else (if among x members then None else env_at T p x)) e ∙ sym (ap (λ (c : Bool). if c then None else (if among x members then None else captured_env (inside (outside_at T p) members (captured_of (outside_at T p) (names_at p) us)) (read_values T (captured_values T p (captured_of (outside_at T p) (names_at p) us))) x)) e)
  at x false e true f o = ap (λ (c : Bool). if among x params then None else (if c then None else env_at T p x)) f ∙ sym (ap (λ (c : Bool). if among x params then None else (if c then None else captured_env (inside (outside_at T p) members (captured_of (outside_at T p) (names_at p) us)) (read_values T (captured_values T p (captured_of (outside_at T p) (names_at p) us))) x)) f)
  at x false e false f o =
      ap (λ (z : Option (Value R)). if among x params then None else (if among x members then None else z))
      (value x (sym (ap (λ c. c || (among x members || among x (captured_of (outside_at T p) (names_at p) us))) e ∙ ap (λ c. c || among x (captured_of (outside_at T p) (names_at p) us)) f) ∙ o))

-- the closure of a procedure, as what it is made of
pub made_read : {R : Type 0} → (T : Table R) (number : CodeNo) (numbers : List CodeNo) (p : Place R) (params : List Bytes) (b : BlockTree) (place : ℕ) → IsProcHint T (number ∷ numbers) p (AProc params b place)
    → closure_of T (read_values T (captured_values T p (captured_by (outside_at T p) (names_at p) (AProc params b place)))) (T.procs number)
    ≡ Closure params (read (hide params (env_at T p)) (open_block (writer_at T p) (inside (outside_at T p) [] (captured_by (outside_at T p) (names_at p) (AProc params b place))) params b))
made_read {R} T number numbers p params b place h =
    ap (λ (o : Option Proc). closure_of T (read_values T (captured_values T p (captured_by (outside_at T p) (names_at p) (AProc params b place)))) o) h
    ∙ sym (ap (λ (u : Term R). Closure params u) (closing_agrees T p [] (free_procedure [] (AProc params b place)) params (open_block (writer_at T p) (inside (outside_at T p) [] (captured_by (outside_at T p) (names_at p) (AProc params b place))) params b) (only_block (writer_at T p) (inside (outside_at T p) [] (captured_by (outside_at T p) (names_at p) (AProc params b place))) params b)))

pub proc_begins : {R : Type 0} → (eq : R → R → Bool) (T : Table R) (a : ℕ) (s : Self R) (thread count : ℕ) (numbers : List CodeNo) (p : Place R) (q : ProcedureTree) (fs : List (TreeFrame R)) → IsProcHint T numbers p q
    → Moves eq T a s (plug (frames_of T fs) (expr_at T p (ProcTree q))) (begin_proc T thread count numbers p q fs)
proc_begins eq T a s thread count [] p q fs h = absurd h
proc_begins {R} eq T a s thread count (number ∷ numbers) p (AProc params b place) fs h = at (is_too_deep (read (hide params (env_at T p)) (open_block (writer_at T p) (inside (outside_at T p) [] (captured_by (outside_at T p) (names_at p) (AProc params b place))) params b))) refl where
  at : (d : Bool) → is_too_deep (read (hide params (env_at T p)) (open_block (writer_at T p) (inside (outside_at T p) [] (captured_by (outside_at T p) (names_at p) (AProc params b place))) params b)) ≡ d
      → Moves eq T a s (plug (frames_of T fs) (expr_at T p (ProcTree (AProc params b place))))
      (if d then tree_moved Stepped fs (tree_raises (codes "closure_limit")) else tree_made fs (TreeValue (new_closure thread count (number ∷ []) 0 (captured_values T p (captured_by (outside_at T p) (names_at p) (AProc params b place))))))
  at true e = to_here eq T a s fs _ (tree_raises (codes "closure_limit")) (ap (λ (d : Bool). Next (if d then closure_limit else Const (Closure params (read (hide params (env_at T p)) (open_block (writer_at T p) (inside (outside_at T p) [] (captured_by (outside_at T p) (names_at p) (AProc params b place))) params b))))) e)
  at false e =
      to_here eq T a s fs _ (TreeValue (new_closure thread count (number ∷ []) 0 (captured_values T p (captured_by (outside_at T p) (names_at p) (AProc params b place)))))
      (ap (λ (d : Bool). Next (if d then closure_limit else Const (Closure params (read (hide params (env_at T p)) (open_block (writer_at T p) (inside (outside_at T p) [] (captured_by (outside_at T p) (names_at p) (AProc params b place))) params b))))) e
      ∙ sym (ap (λ (m : Value R). Next (Const m)) (made_read T number numbers p params b place h)))

-- ---- a group

bound_append : {R : Type 0} → (y : Bytes) (xs ys : List (Bound R)) → last_bound y (xs ++ ys) ≡ or_else (last_bound y ys) (last_bound y xs)
bound_append {R} y [] ys = same (last_bound y ys) where
  same : (o : Option (PlainValue R)) → o ≡ or_else o None
  same None = refl
  same (Some v) = refl
bound_append {R} y (b ∷ xs) ys = ap (λ (o : Option (PlainValue R)). or_this o (bytes_eq b.name y) b.value) (bound_append y xs ys) ∙ joined (last_bound y ys) (last_bound y xs) where
  joined : (o r : Option (PlainValue R)) → or_this (or_else o r) (bytes_eq b.name y) b.value ≡ or_else o (or_this r (bytes_eq b.name y) b.value)
  joined None r = refl
  joined (Some v) r = refl

pub names_append : {R : Type 0} → (xs ys : List (Bound R)) → bound_names (xs ++ ys) ≡ bound_names xs ++ bound_names ys
names_append [] ys = refl
names_append (b ∷ xs) ys = ap (λ l. b.name ∷ l) (names_append xs ys)

pub member_bound_names : {R : Type 0} → (thread count : ℕ) (group : List CodeNo) (i : ℕ) (cs : PlainValues R) (xs : List Bytes) → bound_names (member_values thread count group i cs xs) ≡ xs
member_bound_names thread count group i cs [] = refl
member_bound_names thread count group i cs (x ∷ xs) = ap (λ l. x ∷ l) (member_bound_names thread count group (suc i) cs xs)

-- the values of all members by name, from the place i of the group on
members_bound : {R : Type 0} → (T : Table R) (u : Outside) (c2 : CodeNo) (g numbers : List CodeNo) (i : ℕ) (bs : RecBindTrees) (thread count : ℕ) (cs : PlainValues R) (y : Bytes) → AreMembers T.procs u (c2 ∷ g) numbers i bs → drop i (c2 ∷ g) ≡ numbers
    → option_map (read_value T) (last_bound y (member_values thread count (c2 ∷ g) i cs (member_names bs))) ≡ option_map (λ k. Member u.members (group_of T u (read_values T cs) (c2 ∷ g)) k) (last_place_from i None y (member_names bs))
members_bound T u c2 g [] i NoRecBinds thread count cs y h d = refl
members_bound T u c2 g [] i (ARecBind x q place bs) thread count cs y h d = absurd h
members_bound T u c2 g (number ∷ numbers) i NoRecBinds thread count cs y h d = absurd h
members_bound {R} T u c2 g (number ∷ numbers) i (ARecBind x q place bs) thread count cs y h d =
    first (bytes_eq x y) (last_bound y (member_values thread count (c2 ∷ g) (suc i) cs (member_names bs))) (last_place_from (suc i) None y (member_names bs)) (members_bound T u c2 g numbers (suc i) bs thread count cs y h.1 (behind_here (c2 ∷ g) i number numbers d))
    ∙ ap (λ (c : Bool). option_map (λ k. Member u.members (group_of T u (read_values T cs) (c2 ∷ g)) k) (or_else (last_place_from (suc i) None y (member_names bs)) (if c then Some i else None))) (bytes_sym x y)
    ∙ ap (option_map (λ k. Member u.members (group_of T u (read_values T cs) (c2 ∷ g)) k)) (sym (place_found (suc i) (if bytes_eq y x then Some i else None) y (member_names bs))) where
      one : closure_of T (read_values T cs) (proc_of T (c2 ∷ g) i) ≡ Member u.members (group_of T u (read_values T cs) (c2 ∷ g)) i
      one = ap (λ (o : Option CodeNo). closure_of T (read_values T cs) (proc_named T o)) (item_here (c2 ∷ g) i number numbers d) ∙ ap (closure_of T (read_values T cs)) h.0

      first : (c : Bool) (o : Option (PlainValue R)) (m : Option ℕ) → option_map (read_value T) o ≡ option_map (λ k. Member u.members (group_of T u (read_values T cs) (c2 ∷ g)) k) m
          → option_map (read_value T) (or_this o c (new_closure thread count (c2 ∷ g) i cs)) ≡ option_map (λ k. Member u.members (group_of T u (read_values T cs) (c2 ∷ g)) k) (or_else m (if c then Some i else None))
      first c (Some v) (Some k) e = e
      first c (Some v) None e = absurd (true≢false (ap is_some e))
      first c None (Some k) e = absurd (true≢false (sym (ap is_some e)))
      first true None None e = ap Some one
      first false None None e = refl

-- the group as its codes see it is the group here
group_read : {R : Type 0} → (T : Table R) (p : Place R) (members : List Bytes) (us : List Occurrence) (group numbers : List CodeNo) (i : ℕ) (bs : RecBindTrees)
    → AreMembers T.procs (inside (outside_at T p) members (captured_of (outside_at T p) (names_at p) us)) group numbers i bs
    → group_of T (inside (outside_at T p) members (captured_of (outside_at T p) (names_at p) us)) (read_values T (captured_values T p (captured_of (outside_at T p) (names_at p) us))) numbers
    ≡ read_parts (hide members (env_at T p)) (open_members (writer_at T p) (inside (outside_at T p) members (captured_of (outside_at T p) (names_at p) us)) bs)
group_read T p members us group [] i NoRecBinds h = refl
group_read T p members us group [] i (ARecBind x q place bs) h = absurd h
group_read T p members us group (number ∷ numbers) i NoRecBinds h = absurd h
group_read {R} T p members us group (number ∷ numbers) i (ARecBind x (AProc params b place2) place bs) h =
    let u : Outside = inside (outside_at T p) members (captured_of (outside_at T p) (names_at p) us) in
    let rv : List (Value R) = read_values T (captured_values T p (captured_of (outside_at T p) (names_at p) us)) in
    ap (λ (o : Option Proc). Part (member_part T u rv o) (group_of T u rv numbers)) h.0
    ∙ ap (λ (t : Term R). Part (Under params t) (group_of T u rv numbers)) (sym (closing_agrees T p members us params (open_block (writer_at T p) u params b) (only_block (writer_at T p) u params b)))
    ∙ ap (Part (Under params (read (hide params (hide members (env_at T p))) (open_block (writer_at T p) u params b)))) (group_read T p members us group numbers (suc i) bs h.1)

-- the names of a group, and what stands outside of it
group_at : {R : Type 0} → (T : Table R) (p : Place R) (names : List Bytes) (G : Parts R) (mv : List (Bound R)) → ((y : Bytes) → option_map (read_value T) (last_bound y mv) ≡ option_map (λ k. Member names G k) (last_place y names))
    → with_members names G 0 names (hide names (env_at T p)) ≡ env_at T (with_bound p mv)
group_at {R} T p names G mv h = fun_eq _ _ (λ y. at y (last_place y names) refl (last_bound y mv) refl ∙ ap (λ (o : Option (PlainValue R)). option_map (read_value T) (or_else o (others T p y))) (sym (bound_append y p.bound mv))) where
  at : (y : Bytes) (m : Option ℕ) → last_place y names ≡ m → (o : Option (PlainValue R)) → last_bound y mv ≡ o
      → with_members names G 0 names (hide names (env_at T p)) y ≡ option_map (read_value T) (or_else (or_else (last_bound y mv) (last_bound y p.bound)) (others T p y))
  at y (Some k) e (Some v) f =
      members_none names G 0 names (hide names (env_at T p)) y (ap (λ (c : Bool). if c then None else env_at T p y) (among_place 0 y names ∙ ap is_some e))
      ∙ sym (h y) ∙ ap (option_map (read_value T)) f ∙ sym (ap (λ (o : Option (PlainValue R)). option_map (read_value T) (or_else (or_else o (last_bound y p.bound)) (others T p y))) f)
  at y (Some k) e None f = absurd (true≢false (sym (ap is_some (sym (ap (option_map (read_value T)) f) ∙ h y ∙ ap (option_map (λ k. Member names G k)) e))))
  at y None e (Some v) f = absurd (true≢false (ap is_some (sym (ap (option_map (read_value T)) f) ∙ h y ∙ ap (option_map (λ k. Member names G k)) e)))
  at y None e None f =
      let hidden : hide names (env_at T p) y ≡ env_at T p y = ap (λ (c : Bool). if c then None else env_at T p y) (among_place 0 y names ∙ ap is_some e) in
      outer y (env_at T p y) hidden e
      ∙ sym (ap (λ (o : Option (PlainValue R)). option_map (read_value T) (or_else (or_else o (last_bound y p.bound)) (others T p y))) f) where
        outer : (y : Bytes) (z : Option (Value R)) → hide names (env_at T p) y ≡ z → last_place y names ≡ None → with_members names G 0 names (hide names (env_at T p)) y ≡ z
        outer y (Some v) e g = members_some names G 0 names (hide names (env_at T p)) y v e
        outer y None e g = members_none names G 0 names (hide names (env_at T p)) y e ∙ ap (option_map (λ k. Member names G k)) g

letrec_rest : {R : Type 0} → (T : Table R) (thread count : ℕ) (numbers : List CodeNo) (p : Place R) (bs : RecBindTrees) (is : ItemTrees) → IsGroupHint T numbers p bs
    → put_members (member_names bs) (letrec_parts T p bs) 0 (member_names bs) (read (hide (member_names bs) (env_at T p)) (open_items (writer_at T p) (outside_at T p) (names_at p ++ member_names bs) is))
    ≡ items_at T (with_bound p (member_values thread count numbers 0 (captured_values T p (captured_by_group (outside_at T p) (names_at p) bs)) (member_names bs))) is
letrec_rest {R} T thread count numbers p bs is h =
    members_read (member_names bs) (letrec_parts T p bs) 0 (member_names bs) (hide (member_names bs) (env_at T p)) (open_items (writer_at T p) (outside_at T p) (names_at p ++ member_names bs) is)
    ∙ ap (λ (env : Env R). read env (open_items (writer_at T p) (outside_at T p) (names_at p ++ member_names bs) is)) (group_at T p (member_names bs) (letrec_parts T p bs) _ (values numbers bs h))
    ∙ ap (λ (names : List Bytes). read (env_at T (with_bound p (member_values thread count numbers 0 (captured_values T p (captured_by_group (outside_at T p) (names_at p) bs)) (member_names bs)))) (open_items (writer_at T p) (outside_at T p) names is))
    (ap (λ (l : List Bytes). names_at p ++ l) (sym (member_bound_names thread count numbers 0 _ (member_names bs))) ∙ sym (names_append p.bound _)) where
      values : (numbers : List CodeNo) (bs : RecBindTrees) → IsGroupHint T numbers p bs → (y : Bytes)
          → option_map (read_value T) (last_bound y (member_values thread count numbers 0 (captured_values T p (captured_by_group (outside_at T p) (names_at p) bs)) (member_names bs))) ≡ option_map (λ k. Member (member_names bs) (letrec_parts T p bs) k) (last_place y (member_names bs))
      values [] NoRecBinds h y = refl
      values [] (ARecBind x q place bs) h y = absurd h
      values (number ∷ numbers) NoRecBinds h y = absurd h
      values (number ∷ numbers) (ARecBind x q place bs) h y =
          members_bound T (inside (outside_at T p) (x ∷ member_names bs) (captured_by_group (outside_at T p) (names_at p) (ARecBind x q place bs))) number numbers (number ∷ numbers) 0 (ARecBind x q place bs) thread count (captured_values T p (captured_by_group (outside_at T p) (names_at p) (ARecBind x q place bs))) y h refl
          ∙ ap (λ (G : Parts R). option_map (λ k. Member (x ∷ member_names bs) G k) (last_place y (x ∷ member_names bs)))
          (group_read T p (x ∷ member_names bs) (free_members (x ∷ member_names bs) (ARecBind x q place bs)) (number ∷ numbers) (number ∷ numbers) 0 (ARecBind x q place bs) h)

pub rest_starts : {R : Type 0} → (T : Table R) (fs : List (TreeFrame R)) (tag : Tag R) (p : Place R) (is : ItemTrees) → Starts T fs (items_at T p is) tag (begin_rest tag p is fs)
rest_starts T fs tag p NoItems = record { tag_is = refl; leads = here T fs (TreeValue OkayValue) _ refl }
rest_starts T fs tag p (AnItem i is) = record { tag_is = refl; leads = here T fs (TreeRun p (ItemsTask (AnItem i is))) _ refl }

pub letrec_begins : {R : Type 0} → (eq : R → R → Bool) (T : Table R) (a : ℕ) (s : Self R) → IsMadeTable T → (thread count : ℕ) (numbers : List CodeNo) (p : Place R) (bs : RecBindTrees) (place : ℕ) (is : ItemTrees) (fs : List (TreeFrame R)) → IsGroupHint T numbers p bs
    → Moves eq T a s (plug (frames_of T fs) (items_at T p (AnItem (LetRecItem bs place) is))) (begin_letrec T thread count numbers p bs is fs)
letrec_begins {R} eq T a s w thread count numbers p bs place is fs h = at (nat_lt CLOSURE_LIMIT (deepest_of (letrec_parts T p bs))) refl where
  at : (d : Bool) → nat_lt CLOSURE_LIMIT (deepest_of (letrec_parts T p bs)) ≡ d
      → Moves eq T a s (plug (frames_of T fs) (items_at T p (AnItem (LetRecItem bs place) is)))
      (if d then tree_moved Stepped fs (tree_raises (codes "closure_limit")) else tree_closed (begin_rest Stepped (with_bound p (member_values thread count numbers 0 (captured_values T p (captured_by_group (outside_at T p) (names_at p) bs)) (member_names bs))) is fs))
  at true e =
      to_here eq T a s fs _ (tree_raises (codes "closure_limit"))
      (ap (λ (d : Bool). Next (if d then closure_limit else put_members (member_names bs) (letrec_parts T p bs) 0 (member_names bs) (read (hide (member_names bs) (env_at T p)) (open_items (writer_at T p) (outside_at T p) (names_at p ++ member_names bs) is)))) e)
  at false e =
      stepped eq T a s fs _ _ (begin_rest Stepped (with_bound p (member_values thread count numbers 0 (captured_values T p (captured_by_group (outside_at T p) (names_at p) bs)) (member_names bs))) is fs)
      (ap (λ (d : Bool). Next (if d then closure_limit else put_members (member_names bs) (letrec_parts T p bs) 0 (member_names bs) (read (hide (member_names bs) (env_at T p)) (open_items (writer_at T p) (outside_at T p) (names_at p ++ member_names bs) is)))) e
      ∙ ap Next (letrec_rest T thread count numbers p bs is h))
      (rest_starts T fs Stepped (with_bound p (member_values thread count numbers 0 (captured_values T p (captured_by_group (outside_at T p) (names_at p) bs)) (member_names bs))) is)

-- a field of an object gets a method
method_begins : {R : Type 0} → (eq : R → R → Bool) (T : Table R) (a : ℕ) (s : Self R) (thread count : ℕ) (numbers : List CodeNo) (p : Place R) (o : R) (x : Bytes) (q : ProcedureTree) (fs : List (TreeFrame R)) → IsProcHint T numbers p q
    → Moves eq T a s (plug (frames_of T fs) (Form (SetMethod x) (Part (Const (Loc Object o)) (Part (body_at T p q) End)))) (method_tree T thread count numbers p o x q fs)
method_begins eq T a s thread count [] p o x q fs h = absurd h
method_begins {R} eq T a s thread count (number ∷ numbers) p o x (AProc params b place) fs h = at (is_too_deep body) refl where
  body : Term R
  body = read (hide params (env_at T p)) (open_block (writer_at T p) (inside (outside_at T p) [] (captured_by (outside_at T p) (names_at p) (AProc params b place))) params b)

  at : (d : Bool) → is_too_deep (read (hide params (env_at T p)) (open_block (writer_at T p) (inside (outside_at T p) [] (captured_by (outside_at T p) (names_at p) (AProc params b place))) params b)) ≡ d
      → Moves eq T a s (plug (frames_of T fs) (Form (SetMethod x) (Part (Const (Loc Object o)) (Part (body_at T p (AProc params b place)) End))))
      (if d then tree_moved Stepped fs (tree_raises (codes "closure_limit"))
      else tree_closed (tree_moved (Asks (PlainSetMethod o x (new_closure thread count (number ∷ []) 0 (captured_values T p (captured_by (outside_at T p) (names_at p) (AProc params b place)))))) fs
      (TreeAct (PlainSetMethod o x (new_closure thread count (number ∷ []) 0 (captured_values T p (captured_by (outside_at T p) (names_at p) (AProc params b place))))) TreeHere)))
  at true e = to_here eq T a s fs _ (tree_raises (codes "closure_limit")) (ap (λ (d : Bool). if d then Next closure_limit else Needs (Set o x (IsMethod params (read (hide params (env_at T p)) (open_block (writer_at T p) (inside (outside_at T p) [] (captured_by (outside_at T p) (names_at p) (AProc params b place))) params b)))) []) e)
  at false e =
      asks eq T a s fs _ (PlainSetMethod o x (new_closure thread count (number ∷ []) 0 (captured_values T p (captured_by (outside_at T p) (names_at p) (AProc params b place))))) TreeHere
      (ap (λ (d : Bool). if d then Next closure_limit else Needs (Set o x (IsMethod params (read (hide params (env_at T p)) (open_block (writer_at T p) (inside (outside_at T p) [] (captured_by (outside_at T p) (names_at p) (AProc params b place))) params b)))) []) e
      ∙ sym (ap (λ (m : Value R). Needs (Set o x (method_of m)) []) (made_read T number numbers p params b place h)))

pub set_method_begins : {R : Type 0} → (eq : R → R → Bool) (T : Table R) (a : ℕ) (s : Self R) (thread count : ℕ) (numbers : List CodeNo) (p : Place R) (v : PlainValue R) (x : Bytes) (q : ProcedureTree) (fs : List (TreeFrame R)) → IsProcHint T numbers p q
    → Moves eq T a s (term_of T fs (TreeMethod p v x q)) (set_method_tree T thread count numbers p v x q fs)
set_method_begins eq T a s thread count numbers p (LocationValue Object o) x q fs h = method_begins eq T a s thread count numbers p o x q fs h
set_method_begins eq T a s thread count numbers p (IntValue z) x (AProc params b place) fs h = to_here eq T a s fs _ (tree_raises (codes "type")) refl
set_method_begins eq T a s thread count numbers p (TruthValue z) x (AProc params b place) fs h = to_here eq T a s fs _ (tree_raises (codes "type")) refl
set_method_begins eq T a s thread count numbers p OkayValue x (AProc params b place) fs h = to_here eq T a s fs _ (tree_raises (codes "type")) refl
set_method_begins eq T a s thread count numbers p (TextValue z) x (AProc params b place) fs h = to_here eq T a s fs _ (tree_raises (codes "type")) refl
set_method_begins eq T a s thread count numbers p (ExceptionValue z) x (AProc params b place) fs h = to_here eq T a s fs _ (tree_raises (codes "type")) refl
set_method_begins eq T a s thread count numbers p (ThreadValue z) x (AProc params b place) fs h = to_here eq T a s fs _ (tree_raises (codes "type")) refl
set_method_begins eq T a s thread count numbers p (LocationValue Array z) x (AProc params b place) fs h = to_here eq T a s fs _ (tree_raises (codes "type")) refl
set_method_begins eq T a s thread count numbers p (LocationValue Variable z) x (AProc params b place) fs h = to_here eq T a s fs _ (tree_raises (codes "type")) refl
set_method_begins eq T a s thread count numbers p (LocationValue Writer z) x (AProc params b place) fs h = to_here eq T a s fs _ (tree_raises (codes "type")) refl
set_method_begins eq T a s thread count numbers p (LocationValue Condition z) x (AProc params b place) fs h = to_here eq T a s fs _ (tree_raises (codes "type")) refl
set_method_begins eq T a s thread count numbers p (LocationValue Engine z) x (AProc params b place) fs h = to_here eq T a s fs _ (tree_raises (codes "type")) refl
set_method_begins eq T a s thread count numbers p (ClosureValue t c group index cs) x (AProc params b place) fs h = to_here eq T a s fs _ (tree_raises (codes "type")) (closure_cases T (read_values T cs) (proc_of T group index) (λ f. find eq (activations_at a (frames_of T fs)) (self_at s (frames_of T fs)) (Form (SetMethod x) (Part (Const f) (Part (body_at T p (AProc params b place)) End))) ≡ Next wrong_type) (λ params2 body. refl) (λ names G i. refl))
