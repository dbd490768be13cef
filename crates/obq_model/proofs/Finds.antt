-- A name that is free in a tree and covered outside of it occurs in the tree's term: so a closure captures no name in vain.
use Rattle.std.specs.Prelude.{Bool, List, None, Option, Some, [], bytes_eq, false, if◌then◌else◌, is_some, not, refl, true, ℕ, ◌&&◌, ◌++◌, ◌⊎◌, ◌∷◌, ◌≡◌, ◌||◌}
use Rattle.std.proofs.lemmas.List.{append-nil, append_assoc}
use Rattle.std.proofs.lemmas.Slice.Eq.{bytes_eq-Decides}
use Rattle.std.proofs.Common.{inl, inr, subst, ap, sym, ◌∙◌, true≢false}
use Rattle.obq_base.specs.declared.trees.Operator.{Operator}
use Rattle.obq_base.specs.declared.occurrences.Occurrence.{Occurrence}
use Rattle.obq_base.specs.Tree.{BlockTree, BlockOf, MaybeBlock, NoBlock, ABlock, ItemTrees, NoItems, AnItem, ItemTree, LetItem, VarItem, LetRecItem, AssignItem, FieldItem, IndexItem, PlainItem, BindTrees, NoBinds, ABind, RecBindTrees, NoRecBinds, ARecBind, ProcedureTree, AProc, FieldTree, ValueOf, MethodOf, AliasOf, ExprTree, IntTree, TextTree, TruthTree, OkTree, NameTree, ProcTree, ArrayTree, ObjectTree, IfTree, LoopTree, ExitTree, ForTree, ForeachTree, TryTree, FinallyTree, RaiseTree, WatchTree, RedirectTree, CloneTree, ChainTree, SuffixedTree, ExprTrees, NoExprs, AnExpr, LinkTrees, NoLinks, ALink, SuffixTree, ApplySuffix, SelectSuffix, InvokeSuffix, IndexSuffix, SuffixTrees, NoSuffixes, ASuffix, ArmTrees, NoArms, AnArm, FieldTrees, NoFields, AField}
use Rattle.obq_model.specs.Terms.{Bytes, Writer, Loc, Kind, Let, Var, Group, Apply, Term, Const, Name, Under, Form, Parts, End, Part}
use Rattle.obq_model.specs.Put.{among}
use Rattle.obq_model.specs.Occurrences.{bind_names, builtin_row, free_arms, free_binds, free_block, free_expr, free_exprs, free_field, free_fields, free_item, free_items, free_links, free_maybe, free_members, free_procedure, free_suffix, free_suffixes, is_called, member_names, occurrence}
use Rattle.obq_model.specs.Reading.{occurs, occurs_in}
use Rattle.obq_model.specs.Scopes.{Outside, captured_from, captured_of, inside, is_covered}
use Rattle.obq_model.specs.Draft.{called_row, captured_by, captured_by_group}
use Rattle.obq_model.specs.Opened.{builtin_at, open_arms, open_binds, open_block, open_body, open_called, open_chain, open_expr, open_exprs, open_field, open_if, open_item, open_items, open_maybe, open_maybe_parts, open_members, open_methods, open_name, open_operands, open_suffix, open_suffixes}
use Rattle.obq_model.specs.Opening.{linked}
use Rattle.obq_model.proofs.Among.{among_append, either, left_of, right_of}
use Rattle.obq_model.proofs.Depends.{Depends, both, shifted, names_it, names_append, fewer, in_block, in_items, in_members, in_procedure, in_binds}

-- x is covered here, and bound where it is a name of the code
pub record Seen (x : Bytes) (u : Outside) (names bound : List Bytes) : Type 0 where
  pub covered : is_covered u names x ≡ true
  pub within : among x names ≡ true → among x bound ≡ true

pub record Finds {R : Type 0} (x : Bytes) (os : List Occurrence) (t : Term R) : Type 0 where
  pub finds : names_it x os ≡ true → occurs x t ≡ true

pub record FindsIn {R : Type 0} (x : Bytes) (os : List Occurrence) (ts : Parts R) : Type 0 where
  pub finds : names_it x os ≡ true → occurs_in x ts ≡ true

-- x is among the first or the other occurrences
parted : (x : Bytes) (a b : List Occurrence) → names_it x (a ++ b) ≡ true → (names_it x a ≡ true) ⊎ (names_it x b ≡ true)
parted x a b e = either (names_it x a) (names_it x b) (sym (names_append x a b) ∙ e)

nothing : {R : Type 0} (x : Bytes) (t : Term R) → Finds x [] t
nothing x t = record { finds = λ e. absurd (true≢false (sym e)) }

nothing_in : {R : Type 0} (x : Bytes) (ts : Parts R) → FindsIn x [] ts
nothing_in x ts = record { finds = λ e. absurd (true≢false (sym e)) }

one : {R : Type 0} {x : Bytes} {a b : List Occurrence} {t : Term R} {ts : Parts R} → Finds x a t → FindsIn x b ts → FindsIn x (a ++ b) (Part t ts)
one {R} {x} {a} {b} {t} {ts} h k = record { finds = λ e. elim (parted x a b e) [ inl f ↦ left_of (occurs x t) (occurs_in x ts) (h.finds f) | inr f ↦ right_of (occurs x t) (occurs_in x ts) (k.finds f) ] }

last : {R : Type 0} {x : Bytes} {a : List Occurrence} {t : Term R} → Finds x a t → FindsIn x a (Part t End)
last {R} {x} {a} {t} h = record { finds = λ e. left_of (occurs x t) false (h.finds e) }

form : {R : Type 0} {x : Bytes} {a : List Occurrence} {ts : Parts R} (k : Kind R) → FindsIn x a ts → Finds x a (Form k ts)
form k h = record { finds = h.finds }

-- under more binders
deeper : {x : Bytes} {u : Outside} {names bound : List Bytes} (xs : List Bytes) → Seen x u names bound → Seen x u (names ++ xs) (bound ++ xs)
deeper {x} {u} {names} {bound} xs s = record {
  covered = ap (λ b. b || (among x u.members || among x u.captured)) (among_append x names xs) ∙ more (among x names) (among x xs) (among x u.members || among x u.captured) s.covered;
  within = λ e. among_append x bound xs ∙ elim (either (among x names) (among x xs) (sym (among_append x names xs) ∙ e)) [ inl f ↦ left_of (among x bound) (among x xs) (s.within f) | inr f ↦ right_of (among x bound) (among x xs) f ];
} where
  more : (a b c : Bool) → (a || c) ≡ true → ((a || b) || c) ≡ true
  more true b c e = refl
  more false true c e = refl
  more false false c e = e

same_seen : {x : Bytes} {u : Outside} {names bound : List Bytes} → Seen x u names bound → Seen x u names (bound ++ [])
same_seen {x} {u} {names} {bound} s = record { covered = s.covered; within = λ e. ap (among x) (append-nil bound) ∙ s.within e }

under : {R : Type 0} {x : Bytes} {f : List Bytes → List Occurrence} {t : Term R} → Depends x f → (bound xs : List Bytes) → Finds x (f (bound ++ xs)) t → Finds x (f (bound ++ xs)) (Under xs t)
under {R} {x} {f} {t} d bound xs h = record { finds = λ e. at (among x xs) refl e } where
  at : (b : Bool) → among x xs ≡ b → names_it x (f (bound ++ xs)) ≡ true → (not (among x xs) && occurs x t) ≡ true
  at true q e = absurd (true≢false (sym e ∙ d.none (bound ++ xs) (among_append x bound xs ∙ right_of (among x bound) (among x xs) q)))
  at false q e = ap (λ b. not b && occurs x t) q ∙ h.finds e

-- what occurs and is covered is captured
pub captured_has : (x : Bytes) (u : Outside) (names : List Bytes) (us : List Occurrence) → is_covered u names x ≡ true → names_it x us ≡ true → among x (captured_of u names us) ≡ true
captured_has x u names us c e = from us [] (inr e) where
  keeps : (acc : List Bytes) (o : Occurrence) (b : Bool) → among x acc ≡ true → among x (if b then acc ++ o.name ∷ [] else acc) ≡ true
  keeps acc o true e = among_append x acc (o.name ∷ []) ∙ left_of (among x acc) _ e
  keeps acc o false e = e

  adds : (acc : List Bytes) (o : Occurrence) → bytes_eq x o.name ≡ true → (b d : Bool) → is_covered u names o.name ≡ b → among o.name acc ≡ d → among x (if b && not d then acc ++ o.name ∷ [] else acc) ≡ true
  adds acc o e true true q k = ap (λ z. among z acc) ((bytes_eq-Decides x o.name).0 e) ∙ k
  adds acc o e true false q k = among_append x acc (o.name ∷ []) ∙ right_of (among x acc) _ (left_of (bytes_eq x o.name) false e)
  adds acc o e false d q k = absurd (true≢false (sym c ∙ ap (is_covered u names) ((bytes_eq-Decides x o.name).0 e) ∙ q))

  from : (us : List Occurrence) (acc : List Bytes) → (among x acc ≡ true) ⊎ (names_it x us ≡ true) → among x (captured_from u names acc us) ≡ true
  from [] acc (inl e) = e
  from [] acc (inr e) = absurd (true≢false (sym e))
  from (o ∷ us) acc (inl e) = from us (if is_covered u names o.name && not (among o.name acc) then acc ++ o.name ∷ [] else acc) (inl (keeps acc o (is_covered u names o.name && not (among o.name acc)) e))
  from (o ∷ us) acc (inr e) = elim (either (bytes_eq x o.name) (names_it x us) e) [
    | inl f ↦ from us (if is_covered u names o.name && not (among o.name acc) then acc ++ o.name ∷ [] else acc) (inl (adds acc o f (is_covered u names o.name) (among o.name acc) refl refl))
    | inr f ↦ from us (if is_covered u names o.name && not (among o.name acc) then acc ++ o.name ∷ [] else acc) (inr f)
  ]

-- no name is called where there is no call, and none that is covered is a built-in's
pub row_called : (u : Outside) (names : List Bytes) (e : ExprTree) (ss : SuffixTrees) (row : ℕ) → called_row u names e ss ≡ Some row → is_called ss ≡ true
row_called u names (NameTree y place) (ASuffix (ApplySuffix es place2) ss) row k = refl
row_called u names e ss row k = absurd (true≢false (sym (ap is_some k)))

uncalled : (x : Bytes) (u : Outside) (names bound : List Bytes) (called : Bool) (e : ExprTree) (ss : SuffixTrees) (row : ℕ) → is_covered u names x ≡ true → called_row u names e ss ≡ Some row → names_it x (free_expr bound called e) ≡ true → ⊥
uncalled x u names bound called (NameTree y place) (ASuffix (ApplySuffix es place2) ss) row c k f = at (is_covered u names y) refl (among y bound) refl where
  at : (b : Bool) → is_covered u names y ≡ b → (d : Bool) → among y bound ≡ d → ⊥
  at true q d l = true≢false (sym (ap is_some k) ∙ ap (λ (b : Bool). is_some (if b then None else builtin_row y)) q)
  at false q true l = true≢false (sym f ∙ ap (λ (b : Bool). names_it x (if b then [] else record { name = y; place = place; called = called } ∷ [])) l)
  at false q false l =
      true≢false (sym c ∙ ap (is_covered u names) ((bytes_eq-Decides x y).0 (only (bytes_eq x y) (sym (ap (λ (b : Bool). names_it x (if b then [] else record { name = y; place = place; called = called } ∷ [])) l) ∙ f))) ∙ q) where
        only : (b : Bool) → (b || false) ≡ true → b ≡ true
        only true e = refl
        only false e = e
uncalled x u names bound called e ss row c k f = true≢false (sym (ap is_some k))

-- an item that binds nothing
abbrev is_plain : ItemTree → Bool
is_plain (LetItem bs place) = false
is_plain (VarItem bs place) = false
is_plain (LetRecItem bs place) = false
is_plain i = true

-- the occurrences in the methods of an object literal
abbrev method_os : List Bytes → FieldTrees → List Occurrence
method_os bound NoFields = []
method_os bound (AField y (MethodOf p) place fs) = free_procedure bound p ++ method_os bound fs
method_os bound (AField y body place fs) = method_os bound fs

module _ {R : Type 0} (w : R) (x : Bytes) where
  named : (u : Outside) (names bound : List Bytes) (called : Bool) (y : Bytes) (place : ℕ) → Seen x u names bound → Finds x (occurrence bound called y place) (open_name w u names y)
  named u names bound called y place s = record { finds = λ e. at e (among y bound) refl (is_covered u names y) refl } where
    at : names_it x (occurrence bound called y place) ≡ true → (d : Bool) → among y bound ≡ d → (b : Bool) → is_covered u names y ≡ b → occurs x (if is_covered u names y then Name y else Const (Loc Writer w)) ≡ true
    at e true l b q = absurd (true≢false (sym e ∙ ap (λ (b : Bool). names_it x (if b then [] else record { name = y; place = place; called = called } ∷ [])) l))
    at e false l true q = ap (λ (b : Bool). occurs x (if b then Name y else Const (Loc Writer w))) q ∙ only (bytes_eq x y) (sym (ap (λ (b : Bool). names_it x (if b then [] else record { name = y; place = place; called = called } ∷ [])) l) ∙ e) where
      only : (b : Bool) → (b || false) ≡ true → b ≡ true
      only true e = refl
      only false e = e
    at e false l false q =
        absurd (true≢false (sym s.covered ∙ ap (is_covered u names) ((bytes_eq-Decides x y).0 (only (bytes_eq x y) (sym (ap (λ (b : Bool). names_it x (if b then [] else record { name = y; place = place; called = called } ∷ [])) l) ∙ e))) ∙ q)) where
          only : (b : Bool) → (b || false) ≡ true → b ≡ true
          only true e = refl
          only false e = e

  linked_finds : (op : Operator) (a b : List Occurrence) (t v : Term R) → Finds x a t → Finds x b v → Finds x (a ++ b) (linked op t v)
  linked_finds Operator.Orif a b t v h k = form _ (one h (last k))
  linked_finds Operator.Andif a b t v h k = form _ (one h (last k))
  linked_finds op a b t v h k = form _ (one h (last k))

  regrouped : {t : Term R} (a b c : List Occurrence) → Finds x ((a ++ b) ++ c) t → Finds x (a ++ (b ++ c)) t
  regrouped {t} a b c h = subst (λ (os : List Occurrence). Finds x os t) (append_assoc a b c) h

  regrouped_back : {t : Term R} (a b c : List Occurrence) → Finds x (a ++ (b ++ c)) t → Finds x ((a ++ b) ++ c) t
  regrouped_back {t} a b c h = subst (λ (os : List Occurrence). Finds x os t) (sym (append_assoc a b c)) h

  parts_back : {ts : Parts R} (a b c : List Occurrence) → FindsIn x (a ++ (b ++ c)) ts → FindsIn x ((a ++ b) ++ c) ts
  parts_back {ts} a b c h = subst (λ (os : List Occurrence). FindsIn x os ts) (sym (append_assoc a b c)) h

  ended : {t : Term R} (a : List Occurrence) → Finds x a t → Finds x (a ++ []) t
  ended {t} a h = subst (λ (os : List Occurrence). Finds x os t) (sym (append-nil a)) h

  at_bound : {t : Term R} {a b : List Bytes} (f : List Bytes → List Occurrence) → a ≡ b → Finds x (f b) t → Finds x (f a) t
  at_bound {t} f e h = subst (λ (l : List Bytes). Finds x (f l) t) (sym e) h

  -- a closure's name is captured there
  inner : (u : Outside) (params bound : List Bytes) → among x u.captured ≡ true → Seen x u params (bound ++ params)
  inner u params bound e = record {
    covered = right_of (among x params) _ (right_of (among x u.members) _ e);
    within = λ f. among_append x bound params ∙ right_of (among x bound) _ f;
  }

  field_behind : (u : Outside) (names : List Bytes) (fs : FieldTrees) (methods : Parts R) → occurs_in x methods ≡ true → occurs_in x (open_operands w u names fs methods) ≡ true
  field_behind u names NoFields methods e = e
  field_behind u names (AField y (ValueOf v) place fs) methods e = right_of (occurs x (open_expr w u names v)) _ (field_behind u names fs methods e)
  field_behind u names (AField y (MethodOf p) place fs) methods e = field_behind u names fs methods e
  field_behind u names (AField y (AliasOf z v place2) place fs) methods e = right_of (occurs x (open_expr w u names v)) _ (field_behind u names fs methods e)

  -- a group's procedures, and the rest
  grouped : (u : Outside) (names bound members : List Bytes) (a b : List Occurrence) (rest : Term R) (group : Parts R) → FindsIn x a group → Finds x b rest → Finds x (a ++ b) (Form Group (Part rest group))
  grouped u names bound members a b rest group h k = record { finds = λ e. elim (parted x a b e) [ inl f ↦ right_of (occurs x rest) (occurs_in x group) (h.finds f) | inr f ↦ left_of (occurs x rest) (occurs_in x group) (k.finds f) ] }

  headed : (u : Outside) (names bound : List Bytes) → Seen x u names bound → (e : ExprTree) (ss : SuffixTrees) → Finds x (free_expr bound (is_called ss) e ++ free_suffixes bound ss) (open_suffixes w u names (open_expr w u names e) ss)
      → ((r : ℕ) → is_called ss ≡ true → Finds x (free_suffixes bound ss) (open_called w u names r ss)) → (o : Option ℕ) → called_row u names e ss ≡ o
      → Finds x (free_expr bound (is_called ss) e ++ free_suffixes bound ss) (elim o [ None ↦ open_suffixes w u names (open_expr w u names e) ss | Some row ↦ open_called w u names row ss ])
  headed u names bound s e ss h k None q = h
  headed u names bound s e ss h k (Some r) q = record {
    finds = λ f. elim (parted x (free_expr bound (is_called ss) e) (free_suffixes bound ss) f) [
      | inl g ↦ absurd (uncalled x u names bound (is_called ss) e ss r s.covered q g)
      | inr g ↦ (k r (row_called u names e ss r q)).finds g
    ];
  }

  -- the names of `let rec` are captured by its procedures, and those of a procedure by it
  group_captured : (u : Outside) (names bound : List Bytes) → Seen x u names bound → (bs : RecBindTrees) → (among x (captured_by_group u names bs) ≡ true → FindsIn x (free_members (bound ++ member_names bs) bs) (open_members w (inside u (member_names bs) (captured_by_group u names bs)) bs))
      → FindsIn x (free_members (bound ++ member_names bs) bs) (open_members w (inside u (member_names bs) (captured_by_group u names bs)) bs)
  group_captured u names bound s bs h = record {
    finds = λ e. (h (captured_has x u names (free_members (member_names bs) bs) s.covered (fewer (in_members x bs) (bound ++ member_names bs) (member_names bs) (λ f. among_append x bound (member_names bs) ∙ right_of (among x bound) _ f) e))).finds e;
  }

  procedure_captured : (u : Outside) (names bound : List Bytes) → Seen x u names bound → (p : ProcedureTree) → (among x (captured_by u names p) ≡ true → Finds x (free_procedure bound p) (open_body w (inside u [] (captured_by u names p)) p))
      → Finds x (free_procedure bound p) (open_body w (inside u [] (captured_by u names p)) p)
  procedure_captured u names bound s p h = record { finds = λ e. (h (captured_has x u names (free_procedure [] p) s.covered (fewer (in_procedure x p) bound [] (λ f. absurd (true≢false (sym f))) e))).finds e }

  mutual
    pub find_block : (u : Outside) (names bound : List Bytes) → Seen x u names bound → (b : BlockTree) → Finds x (free_block bound b) (open_block w u names b)
    find_block u names bound s (BlockOf NoItems place) = nothing x _
    find_block u names bound s (BlockOf (AnItem i items) place) = find_items u names bound s (AnItem i items)

    pub find_maybe : (u : Outside) (names bound : List Bytes) → Seen x u names bound → (b : MaybeBlock) → Finds x (free_maybe bound b) (open_maybe w u names b)
    find_maybe u names bound s NoBlock = nothing x _
    find_maybe u names bound s (ABlock b) = find_block u names bound s b

    pub find_maybe_parts : (u : Outside) (names bound : List Bytes) → Seen x u names bound → (b : MaybeBlock) → FindsIn x (free_maybe bound b) (open_maybe_parts w u names b)
    find_maybe_parts u names bound s NoBlock = nothing_in x _
    find_maybe_parts u names bound s (ABlock b) = last (find_block u names bound s b)

    pub find_items : (u : Outside) (names bound : List Bytes) → Seen x u names bound → (items : ItemTrees) → Finds x (free_items bound items) (open_items w u names items)
    find_items u names bound s NoItems = nothing x _
    find_items u names bound s (AnItem (LetItem bs place) items) = find_binds Let u names bound s bs (λ ns. open_items w u ns items) (λ b. free_items b items) (in_items x items) (λ ns b z. find_items u ns b z items)
    find_items u names bound s (AnItem (VarItem bs place) items) = find_binds Var u names bound s bs (λ ns. open_items w u ns items) (λ b. free_items b items) (in_items x items) (λ ns b z. find_items u ns b z items)
    find_items u names bound s (AnItem (LetRecItem bs place) items) =
        form _ (last (under {f = λ b. free_members b bs ++ free_items b items} (both (in_members x bs) (in_items x items)) bound (member_names bs)
        (grouped u names bound (member_names bs) (free_members (bound ++ member_names bs) bs) (free_items (bound ++ member_names bs) items) (open_items w u (names ++ member_names bs) items) (open_members w (inside u (member_names bs) (captured_by_group u names bs)) bs)
        (group_captured u names bound s bs (λ c. find_group (inside u (member_names bs) (captured_by_group u names bs)) (bound ++ member_names bs) c bs))
        (find_items u (names ++ member_names bs) (bound ++ member_names bs) (deeper (member_names bs) s) items))))
    find_items u names bound s (AnItem (AssignItem y e place) NoItems) = ended _ (find_item u names bound s (AssignItem y e place) refl)
    find_items u names bound s (AnItem (FieldItem o y body place) NoItems) = ended _ (find_item u names bound s (FieldItem o y body place) refl)
    find_items u names bound s (AnItem (IndexItem a i e place) NoItems) = ended _ (find_item u names bound s (IndexItem a i e place) refl)
    find_items u names bound s (AnItem (PlainItem e) NoItems) = ended _ (find_item u names bound s (PlainItem e) refl)
    find_items u names bound s (AnItem (AssignItem y e place) (AnItem j items)) = form _ (one (find_item u names bound s (AssignItem y e place) refl) (last (find_items u names (bound ++ []) (same_seen s) (AnItem j items))))
    find_items u names bound s (AnItem (FieldItem o y body place) (AnItem j items)) = form _ (one (find_item u names bound s (FieldItem o y body place) refl) (last (find_items u names (bound ++ []) (same_seen s) (AnItem j items))))
    find_items u names bound s (AnItem (IndexItem a i e place) (AnItem j items)) = form _ (one (find_item u names bound s (IndexItem a i e place) refl) (last (find_items u names (bound ++ []) (same_seen s) (AnItem j items))))
    find_items u names bound s (AnItem (PlainItem e) (AnItem j items)) = form _ (one (find_item u names bound s (PlainItem e) refl) (last (find_items u names (bound ++ []) (same_seen s) (AnItem j items))))

    pub find_binds : (k : Kind R) (u : Outside) (names bound : List Bytes) → Seen x u names bound → (bs : BindTrees) (rest : List Bytes → Term R) (F : List Bytes → List Occurrence) → Depends x F → ((ns b : List Bytes) → Seen x u ns b → Finds x (F b) (rest ns)) → Finds x (free_binds bound bs ++ F (bound ++ bind_names bs)) (open_binds k w u names bs rest)
    find_binds k u names bound s NoBinds rest F d r = at_bound F (append-nil bound) (r names bound s)
    find_binds k u names bound s (ABind y e place bs) rest F d r =
        at_bound (λ b. (free_expr bound false e ++ free_binds (bound ++ y ∷ []) bs) ++ F b) (sym (append_assoc bound (y ∷ []) (bind_names bs)))
        (regrouped_back (free_expr bound false e) (free_binds (bound ++ y ∷ []) bs) (F ((bound ++ y ∷ []) ++ bind_names bs))
        (form k (one (find_expr u names bound s false e) (last (under {f = λ b. free_binds b bs ++ F (b ++ bind_names bs)} (both (in_binds x bs) (shifted (bind_names bs) d)) bound (y ∷ [])
        (find_binds k u (names ++ y ∷ []) (bound ++ y ∷ []) (deeper (y ∷ []) s) bs rest F d r))))))

    pub find_group : (u : Outside) (bound : List Bytes) → among x u.captured ≡ true → (bs : RecBindTrees) → FindsIn x (free_members bound bs) (open_members w u bs)
    find_group u bound c NoRecBinds = nothing_in x _
    find_group u bound c (ARecBind y p place bs) = one (find_body u bound c p) (find_group u bound c bs)

    pub find_body : (u : Outside) (bound : List Bytes) → among x u.captured ≡ true → (p : ProcedureTree) → Finds x (free_procedure bound p) (open_body w u p)
    find_body u bound c (AProc params b place) = under (in_block x b) bound params (find_block u params (bound ++ params) (inner u params bound c) b)

    pub find_item : (u : Outside) (names bound : List Bytes) → Seen x u names bound → (i : ItemTree) → is_plain i ≡ true → Finds x (free_item bound i) (open_item w u names i)
    find_item u names bound s (AssignItem y e place) k = record {
      finds = λ f. elim (parted x (occurrence bound false y place) (free_expr bound false e) f) [
        | inl g ↦ right_of (occurs x (open_expr w u names e)) _ (left_of (occurs x (open_name w u names y)) false ((named u names bound false y place s).finds g))
        | inr g ↦ left_of (occurs x (open_expr w u names e)) _ ((find_expr u names bound s false e).finds g)
      ];
    }
    find_item u names bound s (FieldItem o y body place) k = find_field u names bound s y (open_expr w u names o) (free_expr bound false o) (find_expr u names bound s false o) body
    find_item u names bound s (IndexItem a i e place) k = form _ (one (find_expr u names bound s false a) (one (find_expr u names bound s false i) (last (find_expr u names bound s false e))))
    find_item u names bound s (PlainItem e) k = find_expr u names bound s false e
    find_item u names bound s (LetItem bs place) k = absurd (true≢false (sym k))
    find_item u names bound s (VarItem bs place) k = absurd (true≢false (sym k))
    find_item u names bound s (LetRecItem bs place) k = absurd (true≢false (sym k))

    pub find_field : (u : Outside) (names bound : List Bytes) → Seen x u names bound → (y : Bytes) (o : Term R) (os : List Occurrence) → Finds x os o → (body : FieldTree) → Finds x (os ++ free_field bound body) (open_field w u names y o body)
    find_field u names bound s y o os h (ValueOf e) = form _ (one h (last (find_expr u names bound s false e)))
    find_field u names bound s y o os h (MethodOf p) = form _ (one h (last (procedure_captured u names bound s p (λ c. find_body (inside u [] (captured_by u names p)) bound c p))))
    find_field u names bound s y o os h (AliasOf z e place) = form _ (one h (last (find_expr u names bound s false e)))

    pub find_expr : (u : Outside) (names bound : List Bytes) → Seen x u names bound → (called : Bool) (e : ExprTree) → Finds x (free_expr bound called e) (open_expr w u names e)
    find_expr u names bound s called (IntTree n place) = nothing x _
    find_expr u names bound s called (TextTree t place) = nothing x _
    find_expr u names bound s called (TruthTree b place) = nothing x _
    find_expr u names bound s called (OkTree place) = nothing x _
    find_expr u names bound s called (NameTree y place) = named u names bound called y place s
    find_expr u names bound s called (ProcTree p) = form _ (last (procedure_captured u names bound s p (λ c. find_body (inside u [] (captured_by u names p)) bound c p)))
    find_expr u names bound s called (ArrayTree es place) = form _ (find_exprs u names bound s es)
    find_expr u names bound s called (ObjectTree flags fs place) = form _ (find_fields u names bound s fs (open_methods w u names fs) (find_methods u names bound s fs))
    find_expr u names bound s called (IfTree arms last place) = find_ifs u names bound s arms (free_maybe bound last) (open_maybe w u names last) (find_maybe u names bound s last)
    find_expr u names bound s called (LoopTree b place) = form _ (last (find_block u names bound s b))
    find_expr u names bound s called (ExitTree place) = nothing x _
    find_expr u names bound s called (ForTree y m n b place) = form _ (one (find_expr u names bound s false m) (one (find_expr u names bound s false n) (last (under (in_block x b) bound (y ∷ []) (find_block u (names ++ y ∷ []) (bound ++ y ∷ []) (deeper (y ∷ []) s) b)))))
    find_expr u names bound s called (ForeachTree y e b place) = form _ (one (find_expr u names bound s false e) (last (under (in_block x b) bound (y ∷ []) (find_block u (names ++ y ∷ []) (bound ++ y ∷ []) (deeper (y ∷ []) s) b))))
    find_expr u names bound s called (TryTree b arms final place) = form _ (one (find_block u names bound s b) (find_arms u names bound s arms (free_maybe bound final) (open_maybe_parts w u names final) (find_maybe_parts u names bound s final)))
    find_expr u names bound s called (FinallyTree b final place) = form _ (one (find_block u names bound s b) (last (find_block u names bound s final)))
    find_expr u names bound s called (RaiseTree e place) = form _ (last (find_expr u names bound s false e))
    find_expr u names bound s called (WatchTree c g place) = form _ (one (find_expr u names bound s false c) (last (find_expr u names bound s false g)))
    find_expr u names bound s called (RedirectTree o p place) = form _ (one (find_expr u names bound s false o) (last (find_expr u names bound s false p)))
    find_expr u names bound s called (CloneTree es place) = form _ (find_exprs u names bound s es)
    find_expr u names bound s called (ChainTree e links) = find_chain u names bound s (free_expr bound false e) (open_expr w u names e) (find_expr u names bound s false e) links
    find_expr u names bound s called (SuffixedTree e ss) =
        headed u names bound s e ss (find_suffixes u names bound s (free_expr bound (is_called ss) e) (open_expr w u names e) (find_expr u names bound s (is_called ss) e) ss) (λ r k. find_called u names bound s r ss k) (called_row u names e ss) refl

    pub find_exprs : (u : Outside) (names bound : List Bytes) → Seen x u names bound → (es : ExprTrees) → FindsIn x (free_exprs bound es) (open_exprs w u names es)
    find_exprs u names bound s NoExprs = nothing_in x _
    find_exprs u names bound s (AnExpr e es) = one (find_expr u names bound s false e) (find_exprs u names bound s es)

    pub find_chain : (u : Outside) (names bound : List Bytes) → Seen x u names bound → (os : List Occurrence) (t : Term R) → Finds x os t → (links : LinkTrees) → Finds x (os ++ free_links bound links) (open_chain w u names t links)
    find_chain u names bound s os t h NoLinks = ended os h
    find_chain u names bound s os t h (ALink op e place links) = regrouped os (free_expr bound false e) (free_links bound links) (find_chain u names bound s (os ++ free_expr bound false e) (linked op t (open_expr w u names e)) (linked_finds op os (free_expr bound false e) t (open_expr w u names e) h (find_expr u names bound s false e)) links)

    pub find_suffixes : (u : Outside) (names bound : List Bytes) → Seen x u names bound → (os : List Occurrence) (t : Term R) → Finds x os t → (ss : SuffixTrees) → Finds x (os ++ free_suffixes bound ss) (open_suffixes w u names t ss)
    find_suffixes u names bound s os t h NoSuffixes = ended os h
    find_suffixes u names bound s os t h (ASuffix y ss) = regrouped os (free_suffix bound y) (free_suffixes bound ss) (find_suffixes u names bound s (os ++ free_suffix bound y) (open_suffix w u names t y) (find_suffix u names bound s os t h y) ss)

    pub find_called : (u : Outside) (names bound : List Bytes) → Seen x u names bound → (r : ℕ) (ss : SuffixTrees) → is_called ss ≡ true → Finds x (free_suffixes bound ss) (open_called w u names r ss)
    find_called u names bound s r NoSuffixes k = nothing x _
    find_called u names bound s r (ASuffix (ApplySuffix es place) ss) k = find_suffixes u names bound s (free_exprs bound es) (Form (Apply (builtin_at r)) (open_exprs w u names es)) (form _ (find_exprs u names bound s es)) ss
    find_called u names bound s r (ASuffix (SelectSuffix y place) ss) k = absurd (true≢false (sym k))
    find_called u names bound s r (ASuffix (InvokeSuffix y es place) ss) k = absurd (true≢false (sym k))
    find_called u names bound s r (ASuffix (IndexSuffix e place) ss) k = absurd (true≢false (sym k))

    pub find_suffix : (u : Outside) (names bound : List Bytes) → Seen x u names bound → (os : List Occurrence) (t : Term R) → Finds x os t → (s : SuffixTree) → Finds x (os ++ free_suffix bound s) (open_suffix w u names t s)
    find_suffix u names bound s os t h (ApplySuffix es place) = form _ (one h (find_exprs u names bound s es))
    find_suffix u names bound s os t h (SelectSuffix y place) = form _ (one h (nothing_in x _))
    find_suffix u names bound s os t h (InvokeSuffix y es place) = form _ (one h (find_exprs u names bound s es))
    find_suffix u names bound s os t h (IndexSuffix e place) = form _ (one h (last (find_expr u names bound s false e)))

    pub find_ifs : (u : Outside) (names bound : List Bytes) → Seen x u names bound → (arms : ArmTrees) (os : List Occurrence) (otherwise : Term R) → Finds x os otherwise → Finds x (free_arms bound arms ++ os) (open_if w u names arms otherwise)
    find_ifs u names bound s NoArms os otherwise h = h
    find_ifs u names bound s (AnArm c b arms) os otherwise h =
        regrouped_back (free_expr bound false c ++ free_block bound b) (free_arms bound arms) os (regrouped_back (free_expr bound false c) (free_block bound b) (free_arms bound arms ++ os)
        (form _ (one (find_expr u names bound s false c) (one (find_block u names bound s b) (last (find_ifs u names bound s arms os otherwise h))))))

    pub find_arms : (u : Outside) (names bound : List Bytes) → Seen x u names bound → (arms : ArmTrees) (os : List Occurrence) (final : Parts R) → FindsIn x os final → FindsIn x (free_arms bound arms ++ os) (open_arms w u names arms final)
    find_arms u names bound s NoArms os final h = h
    find_arms u names bound s (AnArm guard b arms) os final h =
        parts_back (free_expr bound false guard ++ free_block bound b) (free_arms bound arms) os (parts_back (free_expr bound false guard) (free_block bound b) (free_arms bound arms ++ os)
        (one (find_expr u names bound s false guard) (one (find_block u names bound s b) (find_arms u names bound s arms os final h))))

    pub find_fields : (u : Outside) (names bound : List Bytes) → Seen x u names bound → (fs : FieldTrees) (methods : Parts R) → FindsIn x (method_os bound fs) methods → FindsIn x (free_fields bound fs) (open_operands w u names fs methods)
    find_fields u names bound s NoFields methods h = nothing_in x _
    find_fields u names bound s (AField y (ValueOf e) place fs) methods h = one (find_expr u names bound s false e) (find_fields u names bound s fs methods h)
    find_fields u names bound s (AField y (MethodOf p) place fs) methods h = record {
      finds = λ e. elim (parted x (free_procedure bound p) (free_fields bound fs) e) [
        | inl f ↦ field_behind u names fs methods (h.finds (names_append x (free_procedure bound p) (method_os bound fs) ∙ left_of (names_it x (free_procedure bound p)) _ f))
        | inr f ↦ (find_fields u names bound s fs methods (record { finds = λ g. h.finds (names_append x (free_procedure bound p) (method_os bound fs) ∙ right_of (names_it x (free_procedure bound p)) _ g) })).finds f
      ];
    }
    find_fields u names bound s (AField y (AliasOf z e place2) place fs) methods h = one (find_expr u names bound s false e) (find_fields u names bound s fs methods h)

    pub find_methods : (u : Outside) (names bound : List Bytes) → Seen x u names bound → (fs : FieldTrees) → FindsIn x (method_os bound fs) (open_methods w u names fs)
    find_methods u names bound s NoFields = nothing_in x _
    find_methods u names bound s (AField y (MethodOf p) place fs) = one (procedure_captured u names bound s p (λ c. find_body (inside u [] (captured_by u names p)) bound c p)) (find_methods u names bound s fs)
    find_methods u names bound s (AField y (ValueOf e) place fs) = find_methods u names bound s fs
    find_methods u names bound s (AField y (AliasOf z e place2) place fs) = find_methods u names bound s fs
