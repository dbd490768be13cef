-- A name that occurs in the term of a tree is covered there: so a closure need capture no other.
use Rattle.std.specs.Prelude.{Bool, List, None, Option, Some, [], bytes_eq, false, if◌then◌else◌, max, not, refl, true, ℕ, ◌&&◌, ◌++◌, ◌∷◌, ◌≡◌, ◌||◌}
use Rattle.std.proofs.lemmas.Slice.Eq.{bytes_eq-Decides}
use Rattle.std.proofs.Common.{inl, inr, ap, sym, ◌∙◌, true≢false}
use Rattle.obq_base.specs.declared.trees.Operator.{Operator}
use Rattle.obq_base.specs.declared.occurrences.Occurrence.{Occurrence}
use Rattle.obq_base.specs.Tree.{BlockTree, BlockOf, MaybeBlock, NoBlock, ABlock, ItemTrees, NoItems, AnItem, ItemTree, LetItem, VarItem, LetRecItem, AssignItem, FieldItem, IndexItem, PlainItem, BindTrees, NoBinds, ABind, RecBindTrees, NoRecBinds, ARecBind, ProcedureTree, AProc, FieldTree, ValueOf, MethodOf, AliasOf, ExprTree, IntTree, TextTree, TruthTree, OkTree, NameTree, ProcTree, ArrayTree, ObjectTree, IfTree, LoopTree, ExitTree, ForTree, ForeachTree, TryTree, FinallyTree, RaiseTree, WatchTree, RedirectTree, CloneTree, ChainTree, SuffixedTree, ExprTrees, NoExprs, AnExpr, LinkTrees, NoLinks, ALink, SuffixTree, ApplySuffix, SelectSuffix, InvokeSuffix, IndexSuffix, SuffixTrees, NoSuffixes, ASuffix, ArmTrees, NoArms, AnArm, FieldTrees, NoFields, AField}
use Rattle.obq_model.specs.Terms.{Bytes, Writer, Value, Loc, Kind, Let, Var, Group, Apply, Term, Const, Name, Under, Form, Parts, End, Part}
use Rattle.obq_model.specs.Put.{among}
use Rattle.obq_model.specs.Occurrences.{free_members, free_procedure, member_names}
use Rattle.obq_model.specs.Depth.{deepest, deepest_of, depth_in}
use Rattle.obq_model.specs.Reading.{occurs, occurs_in}
use Rattle.obq_model.specs.Scopes.{Outside, captured_from, captured_of, inside, is_covered}
use Rattle.obq_model.specs.Draft.{called_row}
use Rattle.obq_model.specs.Opened.{builtin_at, open_arms, open_binds, open_block, open_body, open_called, open_chain, open_expr, open_exprs, open_field, open_if, open_item, open_items, open_maybe, open_maybe_parts, open_members, open_methods, open_name, open_operands, open_suffix, open_suffixes}
use Rattle.obq_model.specs.Opening.{linked}
use Rattle.obq_model.proofs.Among.{among_append, either, left_of, right_of}

-- only such names occur in the term, and in the parts, and no closure stands there
pub record Only {R : Type 0} (P : Bytes → Bool) (t : Term R) : Type 0 where
  pub only : (x : Bytes) → occurs x t ≡ true → P x ≡ true
  pub flat : deepest t ≡ 0

pub record OnlyIn {R : Type 0} (P : Bytes → Bool) (ts : Parts R) : Type 0 where
  pub only : (x : Bytes) → occurs_in x ts ≡ true → P x ≡ true
  pub flat : deepest_of ts ≡ 0

nothing : {R : Type 0} → (P : Bytes → Bool) → OnlyIn {R = R} P End
nothing P = record { only = λ x e. absurd (true≢false (sym e)); flat = refl }

value : {R : Type 0} → (P : Bytes → Bool) (v : Value R) → depth_in v ≡ 0 → Only P (Const v)
value P v z = record { only = λ x e. absurd (true≢false (sym e)); flat = z }

one : {R : Type 0} {P : Bytes → Bool} {t : Term R} {ts : Parts R} → Only P t → OnlyIn P ts → OnlyIn P (Part t ts)
one {R} {P} {t} {ts} h k = record { only = λ x e. elim (either (occurs x t) (occurs_in x ts) e) [ inl f ↦ h.only x f | inr g ↦ k.only x g ]; flat = ap (λ n. max n (deepest_of ts)) h.flat ∙ ap (λ n. max 0 n) k.flat }

form : {R : Type 0} {P : Bytes → Bool} {ts : Parts R} (k : Kind R) → OnlyIn P ts → Only P (Form k ts)
form k h = record { only = λ x e. h.only x e; flat = h.flat }

named : {R : Type 0} → (w : R) (u : Outside) (names : List Bytes) (y : Bytes) → Only (is_covered u names) (open_name w u names y)
named {R} w u names y = record { only = λ x. at x (is_covered u names y) refl; flat = none (is_covered u names y) } where
  none : (b : Bool) → deepest (if b then Name y else Const (Loc Writer w)) ≡ 0
  none true = refl
  none false = refl

  at : (x : Bytes) (b : Bool) → is_covered u names y ≡ b → occurs x (if b then Name y else Const (Loc Writer w)) ≡ true → is_covered u names x ≡ true
  at x true e o = ap (is_covered u names) ((bytes_eq-Decides x y).0 o) ∙ e
  at x false e o = absurd (true≢false (sym o))

-- a name under binders
pub uncovered : (x : Bytes) (xs : List Bytes) {R : Type 0} (t : Term R) → occurs x (Under xs t) ≡ true → (among x xs ≡ false) × (occurs x t ≡ true)
uncovered x xs t e = at (among x xs) refl e where
  at : (b : Bool) → among x xs ≡ b → (not b && occurs x t) ≡ true → (among x xs ≡ false) × (occurs x t ≡ true)
  at true q e = absurd (true≢false (sym e))
  at false q e = (q, e)

under : {R : Type 0} (u : Outside) (names : List Bytes) {xs : List Bytes} {t : Term R} → Only (is_covered u (names ++ xs)) t → Only (is_covered u names) (Under xs t)
under {R} u names {xs} {t} h = record {
  only = λ x e.
      let o : (among x xs ≡ false) × (occurs x t ≡ true) = uncovered x xs t e in
      drop_false (among x names) (among x xs) (among x u.members || among x u.captured) o.0 (sym (ap (λ b. b || (among x u.members || among x u.captured)) (among_append x names xs)) ∙ h.only x o.1);
  flat = h.flat;
} where
  drop_false : (a b c : Bool) → b ≡ false → ((a || b) || c) ≡ true → (a || c) ≡ true
  drop_false true b c e h = refl
  drop_false false true c e h = absurd (true≢false e)
  drop_false false false c e h = h

-- what is captured is covered
pub captured_covered : (u : Outside) (names : List Bytes) (us : List Occurrence) (x : Bytes) → among x (captured_of u names us) ≡ true → is_covered u names x ≡ true
captured_covered u names us x e = from [] us (λ y f. absurd (true≢false (sym f))) e where
  from : (acc : List Bytes) (us : List Occurrence) → ((y : Bytes) → among y acc ≡ true → is_covered u names y ≡ true) → among x (captured_from u names acc us) ≡ true → is_covered u names x ≡ true
  from acc [] h e = h x e
  from acc (o ∷ us) h e = from (if is_covered u names o.name && not (among o.name acc) then acc ++ o.name ∷ [] else acc) us (λ y. more y (is_covered u names o.name) refl (among o.name acc)) e where
    added : (y : Bytes) → is_covered u names o.name ≡ true → among y (acc ++ o.name ∷ []) ≡ true → is_covered u names y ≡ true
    added y c f = elim (either (among y acc) (bytes_eq y o.name || false) (sym (among_append y acc (o.name ∷ [])) ∙ f)) [
      | inl g ↦ h y g
      | inr g ↦ elim (either (bytes_eq y o.name) false g) [ inl q ↦ ap (is_covered u names) ((bytes_eq-Decides y o.name).0 q) ∙ c | inr q ↦ absurd (true≢false (sym q)) ]
    ]

    more : (y : Bytes) (c : Bool) → is_covered u names o.name ≡ c → (d : Bool) → among y (if c && not d then acc ++ o.name ∷ [] else acc) ≡ true → is_covered u names y ≡ true
    more y true q false f = added y q f
    more y true q true f = h y f
    more y false q d f = h y f

-- a procedure's body under its parameters
pub enclosed : {R : Type 0} (u : Outside) (names members : List Bytes) {params : List Bytes} (us : List Occurrence) {t : Term R} → Only (is_covered (inside u members (captured_of u names us)) params) t → Only (λ x. among x members || is_covered u names x) (Under params t)
enclosed {R} u names members {params} us {t} h = record {
  only = λ x e.
      let o : (among x params ≡ false) × (occurs x t ≡ true) = uncovered x params t e in
      outer x (among x params) o.0 (h.only x o.1);
  flat = h.flat;
} where
  outer : (x : Bytes) (b : Bool) → b ≡ false → (b || (among x members || among x (captured_of u names us))) ≡ true → (among x members || is_covered u names x) ≡ true
  outer x true q e = absurd (true≢false q)
  outer x false q e = elim (either (among x members) (among x (captured_of u names us)) e) [ inl f ↦ left_of (among x members) _ f | inr f ↦ right_of (among x members) _ (captured_covered u names us x f) ]

-- a group's rest and its procedures, under its names
grouped : {R : Type 0} (u : Outside) (names : List Bytes) {members : List Bytes} {rest : Term R} {group : Parts R} → Only (is_covered u (names ++ members)) rest → OnlyIn (λ x. among x members || is_covered u names x) group → Only (is_covered u names) (Under members (Form Group (Part rest group)))
grouped {R} u names {members} {rest} {group} h k = record {
  only = λ x e.
      let o : (among x members ≡ false) × (occurs x (Form Group (Part rest group)) ≡ true) = uncovered x members (Form Group (Part rest group)) e in
      elim (either (occurs x rest) (occurs_in x group) o.1) [
        | inl f ↦ plain (among x names) (among x members) (among x u.members || among x u.captured) o.0 (sym (ap (λ b. b || (among x u.members || among x u.captured)) (among_append x names members)) ∙ h.only x f)
        | inr f ↦ drop (among x members) o.0 (k.only x f)
      ];
  flat = ap (λ n. max n (deepest_of group)) h.flat ∙ ap (λ n. max 0 n) k.flat;
} where
  drop : {c : Bool} (b : Bool) → b ≡ false → (b || c) ≡ true → c ≡ true
  drop true e h = absurd (true≢false e)
  drop false e h = h

  plain : (a b c : Bool) → b ≡ false → ((a || b) || c) ≡ true → (a || c) ≡ true
  plain true b c e h = refl
  plain false true c e h = absurd (true≢false e)
  plain false false c e h = h

linked_only : {R : Type 0} {P : Bytes → Bool} → (op : Operator) (t v : Term R) → Only P t → Only P v → Only P (linked op t v)
linked_only {R} {P} Operator.Orif t v h k = form _ (one h (one k (nothing P)))
linked_only {R} {P} Operator.Andif t v h k = form _ (one h (one k (nothing P)))
linked_only {R} {P} op t v h k = form _ (one h (one k (nothing P)))

-- with or without a built-in at the head
headed : {R : Type 0} {P : Bytes → Bool} → (t : Term R) (called : ℕ → Term R) → Only P t → ((r : ℕ) → Only P (called r)) → (o : Option ℕ) → Only P (elim o [ None ↦ t | Some r ↦ called r ])
headed t called h k None = h
headed t called h k (Some r) = k r

mutual
  pub only_block : {R : Type 0} → (w : R) (u : Outside) (names : List Bytes) (b : BlockTree) → Only (is_covered u names) (open_block w u names b)
  only_block w u names (BlockOf NoItems place) = form _ (nothing _)
  only_block w u names (BlockOf (AnItem i items) place) = only_items w u names (AnItem i items)

  pub only_maybe : {R : Type 0} → (w : R) (u : Outside) (names : List Bytes) (b : MaybeBlock) → Only (is_covered u names) (open_maybe w u names b)
  only_maybe w u names NoBlock = value _ _ refl
  only_maybe w u names (ABlock b) = only_block w u names b

  pub only_maybe_parts : {R : Type 0} → (w : R) (u : Outside) (names : List Bytes) (b : MaybeBlock) → OnlyIn (is_covered u names) (open_maybe_parts w u names b)
  only_maybe_parts w u names NoBlock = nothing _
  only_maybe_parts w u names (ABlock b) = one (only_block w u names b) (nothing _)

  pub only_items : {R : Type 0} → (w : R) (u : Outside) (names : List Bytes) (items : ItemTrees) → Only (is_covered u names) (open_items w u names items)
  only_items w u names NoItems = value _ _ refl
  only_items w u names (AnItem (LetItem bs place) items) = only_binds Let w u names bs (λ ns. open_items w u ns items) (λ ns. only_items w u ns items)
  only_items w u names (AnItem (VarItem bs place) items) = only_binds Var w u names bs (λ ns. open_items w u ns items) (λ ns. only_items w u ns items)
  only_items w u names (AnItem (LetRecItem bs place) items) = form _ (one (grouped u names (only_items w u (names ++ member_names bs) items) (only_group w u names (member_names bs) (free_members (member_names bs) bs) bs)) (nothing _))
  only_items w u names (AnItem (AssignItem x e place) NoItems) = only_item w u names (AssignItem x e place)
  only_items w u names (AnItem (FieldItem o x body place) NoItems) = only_item w u names (FieldItem o x body place)
  only_items w u names (AnItem (IndexItem a i e place) NoItems) = only_item w u names (IndexItem a i e place)
  only_items w u names (AnItem (PlainItem e) NoItems) = only_item w u names (PlainItem e)
  only_items w u names (AnItem (AssignItem x e place) (AnItem j items)) = form _ (one (only_item w u names (AssignItem x e place)) (one (only_items w u names (AnItem j items)) (nothing _)))
  only_items w u names (AnItem (FieldItem o x body place) (AnItem j items)) = form _ (one (only_item w u names (FieldItem o x body place)) (one (only_items w u names (AnItem j items)) (nothing _)))
  only_items w u names (AnItem (IndexItem a i e place) (AnItem j items)) = form _ (one (only_item w u names (IndexItem a i e place)) (one (only_items w u names (AnItem j items)) (nothing _)))
  only_items w u names (AnItem (PlainItem e) (AnItem j items)) = form _ (one (only_item w u names (PlainItem e)) (one (only_items w u names (AnItem j items)) (nothing _)))

  pub only_binds : {R : Type 0} → (k : Kind R) (w : R) (u : Outside) (names : List Bytes) (bs : BindTrees) (rest : List Bytes → Term R) → ((ns : List Bytes) → Only (is_covered u ns) (rest ns)) → Only (is_covered u names) (open_binds k w u names bs rest)
  only_binds k w u names NoBinds rest r = r names
  only_binds k w u names (ABind x e place bs) rest r = form _ (one (only_expr w u names e) (one (under u names (only_binds k w u (names ++ x ∷ []) bs rest r)) (nothing _)))

  pub only_group : {R : Type 0} → (w : R) (u : Outside) (names members : List Bytes) (us : List Occurrence) (bs : RecBindTrees) → OnlyIn (λ x. among x members || is_covered u names x) (open_members w (inside u members (captured_of u names us)) bs)
  only_group w u names members us NoRecBinds = nothing _
  only_group w u names members us (ARecBind x p place bs) = one (only_body w u names members us p) (only_group w u names members us bs)

  pub only_body : {R : Type 0} → (w : R) (u : Outside) (names members : List Bytes) (us : List Occurrence) (p : ProcedureTree) → Only (λ x. among x members || is_covered u names x) (open_body w (inside u members (captured_of u names us)) p)
  only_body w u names members us (AProc params b place) = enclosed u names members us (only_block w (inside u members (captured_of u names us)) params b)

  pub only_item : {R : Type 0} → (w : R) (u : Outside) (names : List Bytes) (i : ItemTree) → Only (is_covered u names) (open_item w u names i)
  only_item w u names (AssignItem x e place) = form _ (one (only_expr w u names e) (one (named w u names x) (nothing _)))
  only_item w u names (FieldItem o x body place) = only_field w u names x (open_expr w u names o) (only_expr w u names o) body
  only_item w u names (IndexItem a i e place) = form _ (one (only_expr w u names a) (one (only_expr w u names i) (one (only_expr w u names e) (nothing _))))
  only_item w u names (PlainItem e) = only_expr w u names e
  only_item w u names (LetItem bs place) = value _ _ refl
  only_item w u names (VarItem bs place) = value _ _ refl
  only_item w u names (LetRecItem bs place) = value _ _ refl

  pub only_field : {R : Type 0} → (w : R) (u : Outside) (names : List Bytes) (x : Bytes) (o : Term R) → Only (is_covered u names) o → (body : FieldTree) → Only (is_covered u names) (open_field w u names x o body)
  only_field w u names x o h (ValueOf e) = form _ (one h (one (only_expr w u names e) (nothing _)))
  only_field w u names x o h (MethodOf p) = form _ (one h (one (only_body w u names [] (free_procedure [] p) p) (nothing _)))
  only_field w u names x o h (AliasOf y e place) = form _ (one h (one (only_expr w u names e) (nothing _)))

  pub only_expr : {R : Type 0} → (w : R) (u : Outside) (names : List Bytes) (e : ExprTree) → Only (is_covered u names) (open_expr w u names e)
  only_expr w u names (IntTree n place) = value _ _ refl
  only_expr w u names (TextTree t place) = value _ _ refl
  only_expr w u names (TruthTree b place) = value _ _ refl
  only_expr w u names (OkTree place) = value _ _ refl
  only_expr w u names (NameTree x place) = named w u names x
  only_expr w u names (ProcTree p) = form _ (one (only_body w u names [] (free_procedure [] p) p) (nothing _))
  only_expr w u names (ArrayTree es place) = form _ (only_exprs w u names es)
  only_expr w u names (ObjectTree flags fs place) = form _ (only_field_parts w u names fs (open_methods w u names fs) (only_methods w u names fs))
  only_expr w u names (IfTree arms last place) = only_ifs w u names arms (open_maybe w u names last) (only_maybe w u names last)
  only_expr w u names (LoopTree b place) = form _ (one (only_block w u names b) (nothing _))
  only_expr w u names (ExitTree place) = form _ (nothing _)
  only_expr w u names (ForTree x m n b place) = form _ (one (only_expr w u names m) (one (only_expr w u names n) (one (under u names (only_block w u (names ++ x ∷ []) b)) (nothing _))))
  only_expr w u names (ForeachTree x e b place) = form _ (one (only_expr w u names e) (one (under u names (only_block w u (names ++ x ∷ []) b)) (nothing _)))
  only_expr w u names (TryTree b arms last place) = form _ (one (only_block w u names b) (only_arms w u names arms (open_maybe_parts w u names last) (only_maybe_parts w u names last)))
  only_expr w u names (FinallyTree b last place) = form _ (one (only_block w u names b) (one (only_block w u names last) (nothing _)))
  only_expr w u names (RaiseTree e place) = form _ (one (only_expr w u names e) (nothing _))
  only_expr w u names (WatchTree c g place) = form _ (one (only_expr w u names c) (one (only_expr w u names g) (nothing _)))
  only_expr w u names (RedirectTree o p place) = form _ (one (only_expr w u names o) (one (only_expr w u names p) (nothing _)))
  only_expr w u names (CloneTree es place) = form _ (only_exprs w u names es)
  only_expr w u names (ChainTree e links) = only_chain w u names (open_expr w u names e) (only_expr w u names e) links
  only_expr w u names (SuffixedTree e ss) =
      headed (open_suffixes w u names (open_expr w u names e) ss) (λ r. open_called w u names r ss) (only_suffixes w u names (open_expr w u names e) (only_expr w u names e) ss) (λ r. only_called w u names r ss) (called_row u names e ss)

  pub only_exprs : {R : Type 0} → (w : R) (u : Outside) (names : List Bytes) (es : ExprTrees) → OnlyIn (is_covered u names) (open_exprs w u names es)
  only_exprs w u names NoExprs = nothing _
  only_exprs w u names (AnExpr e es) = one (only_expr w u names e) (only_exprs w u names es)

  pub only_chain : {R : Type 0} → (w : R) (u : Outside) (names : List Bytes) (t : Term R) → Only (is_covered u names) t → (links : LinkTrees) → Only (is_covered u names) (open_chain w u names t links)
  only_chain w u names t h NoLinks = h
  only_chain w u names t h (ALink op e place links) = only_chain w u names (linked op t (open_expr w u names e)) (linked_only op t (open_expr w u names e) h (only_expr w u names e)) links

  pub only_suffixes : {R : Type 0} → (w : R) (u : Outside) (names : List Bytes) (t : Term R) → Only (is_covered u names) t → (ss : SuffixTrees) → Only (is_covered u names) (open_suffixes w u names t ss)
  only_suffixes w u names t h NoSuffixes = h
  only_suffixes w u names t h (ASuffix s ss) = only_suffixes w u names (open_suffix w u names t s) (only_suffix w u names t h s) ss

  pub only_called : {R : Type 0} → (w : R) (u : Outside) (names : List Bytes) (r : ℕ) (ss : SuffixTrees) → Only (is_covered u names) (open_called w u names r ss)
  only_called w u names r NoSuffixes = value _ _ refl
  only_called w u names r (ASuffix (ApplySuffix es place) ss) = only_suffixes w u names (Form (Apply (builtin_at r)) (open_exprs w u names es)) (form _ (only_exprs w u names es)) ss
  only_called w u names r (ASuffix (SelectSuffix x place) ss) = value _ _ refl
  only_called w u names r (ASuffix (InvokeSuffix x es place) ss) = value _ _ refl
  only_called w u names r (ASuffix (IndexSuffix e place) ss) = value _ _ refl

  pub only_suffix : {R : Type 0} → (w : R) (u : Outside) (names : List Bytes) (t : Term R) → Only (is_covered u names) t → (s : SuffixTree) → Only (is_covered u names) (open_suffix w u names t s)
  only_suffix w u names t h (ApplySuffix es place) = form _ (one h (only_exprs w u names es))
  only_suffix w u names t h (SelectSuffix x place) = form _ (one h (nothing _))
  only_suffix w u names t h (InvokeSuffix x es place) = form _ (one h (only_exprs w u names es))
  only_suffix w u names t h (IndexSuffix e place) = form _ (one h (one (only_expr w u names e) (nothing _)))

  pub only_ifs : {R : Type 0} → (w : R) (u : Outside) (names : List Bytes) (arms : ArmTrees) (otherwise : Term R) → Only (is_covered u names) otherwise → Only (is_covered u names) (open_if w u names arms otherwise)
  only_ifs w u names NoArms otherwise h = h
  only_ifs w u names (AnArm c b arms) otherwise h = form _ (one (only_expr w u names c) (one (only_block w u names b) (one (only_ifs w u names arms otherwise h) (nothing _))))

  pub only_arms : {R : Type 0} → (w : R) (u : Outside) (names : List Bytes) (arms : ArmTrees) (last : Parts R) → OnlyIn (is_covered u names) last → OnlyIn (is_covered u names) (open_arms w u names arms last)
  only_arms w u names NoArms last h = h
  only_arms w u names (AnArm guard b arms) last h = one (only_expr w u names guard) (one (only_block w u names b) (only_arms w u names arms last h))

  pub only_field_parts : {R : Type 0} → (w : R) (u : Outside) (names : List Bytes) (fs : FieldTrees) (methods : Parts R) → OnlyIn (is_covered u names) methods → OnlyIn (is_covered u names) (open_operands w u names fs methods)
  only_field_parts w u names NoFields methods h = h
  only_field_parts w u names (AField x (ValueOf e) place fs) methods h = one (only_expr w u names e) (only_field_parts w u names fs methods h)
  only_field_parts w u names (AField x (MethodOf p) place fs) methods h = only_field_parts w u names fs methods h
  only_field_parts w u names (AField x (AliasOf y e place2) place fs) methods h = one (only_expr w u names e) (only_field_parts w u names fs methods h)

  pub only_methods : {R : Type 0} → (w : R) (u : Outside) (names : List Bytes) (fs : FieldTrees) → OnlyIn (is_covered u names) (open_methods w u names fs)
  only_methods w u names NoFields = nothing _
  only_methods w u names (AField x (MethodOf p) place fs) = one (only_body w u names [] (free_procedure [] p) p) (only_methods w u names fs)
  only_methods w u names (AField x (ValueOf e) place fs) = only_methods w u names fs
  only_methods w u names (AField x (AliasOf y e place2) place fs) = only_methods w u names fs
