-- The free occurrences of a name in a tree: none where it is bound, and of the bound names only that counts whether it is among them.
use Rattle.std.specs.Prelude.{Bool, List, [], bytes_eq, false, if◌then◌else◌, refl, true, ℕ, ◌++◌, ◌∷◌, ◌≡◌, ◌||◌}
use Rattle.std.proofs.lemmas.Slice.Eq.{bytes_eq-Decides}
use Rattle.std.proofs.Common.{ap, sym, ◌∙◌, true≢false}
use Rattle.obq_base.specs.declared.occurrences.Occurrence.{Occurrence}
use Rattle.obq_base.specs.Tree.{BlockTree, BlockOf, MaybeBlock, NoBlock, ABlock, ItemTrees, NoItems, AnItem, ItemTree, LetItem, VarItem, LetRecItem, AssignItem, FieldItem, IndexItem, PlainItem, BindTrees, NoBinds, ABind, RecBindTrees, NoRecBinds, ARecBind, ProcedureTree, AProc, FieldTree, ValueOf, MethodOf, AliasOf, ExprTree, IntTree, TextTree, TruthTree, OkTree, NameTree, ProcTree, ArrayTree, ObjectTree, IfTree, LoopTree, ExitTree, ForTree, ForeachTree, TryTree, FinallyTree, RaiseTree, WatchTree, RedirectTree, CloneTree, ChainTree, SuffixedTree, ExprTrees, NoExprs, AnExpr, LinkTrees, NoLinks, ALink, SuffixTree, ApplySuffix, SelectSuffix, InvokeSuffix, IndexSuffix, SuffixTrees, NoSuffixes, ASuffix, ArmTrees, NoArms, AnArm, FieldTrees, NoFields, AField}
use Rattle.obq_model.specs.Terms.{Bytes}
use Rattle.obq_model.specs.Put.{among}
use Rattle.obq_model.specs.Occurrences.{free_arms, free_binds, free_block, free_expr, free_exprs, free_field, free_fields, free_item, free_items, free_links, free_maybe, free_members, free_procedure, free_suffix, free_suffixes, is_called, item_names, member_names, occurrence}
use Rattle.obq_model.proofs.Among.{among_append}

-- one of these is an occurrence of x
abbrev pub names_it : Bytes → List Occurrence → Bool
names_it x [] = false
names_it x (o ∷ os) = bytes_eq x o.name || names_it x os

pub names_append : (x : Bytes) (xs ys : List Occurrence) → names_it x (xs ++ ys) ≡ (names_it x xs || names_it x ys)
names_append x [] ys = refl
names_append x (o ∷ xs) ys = ap (λ b. bytes_eq x o.name || b) (names_append x xs ys) ∙ or_assoc (bytes_eq x o.name) (names_it x xs) (names_it x ys) where
  or_assoc : (a b c : Bool) → (a || (b || c)) ≡ ((a || b) || c)
  or_assoc true b c = refl
  or_assoc false b c = refl

pub record Depends (x : Bytes) (f : List Bytes → List Occurrence) : Type 0 where
  pub none : (b : List Bytes) → among x b ≡ true → names_it x (f b) ≡ false
  pub same : (b c : List Bytes) → among x b ≡ among x c → names_it x (f b) ≡ names_it x (f c)

-- with fewer bound names no occurrence is lost
pub fewer : {x : Bytes} {f : List Bytes → List Occurrence} → Depends x f → (b c : List Bytes) → (among x c ≡ true → among x b ≡ true) → names_it x (f b) ≡ true → names_it x (f c) ≡ true
fewer {x} {f} d b c h e = at (among x b) refl (among x c) refl where
  at : (p : Bool) → among x b ≡ p → (q : Bool) → among x c ≡ q → names_it x (f c) ≡ true
  at true k q l = absurd (true≢false (sym e ∙ d.none b k))
  at false k true l = absurd (true≢false (sym (h l) ∙ k))
  at false k false l = d.same c b (l ∙ sym k) ∙ e

empty : (x : Bytes) → Depends x (λ b. [])
empty x = record { none = λ b e. refl; same = λ b c e. refl }

pub both : {x : Bytes} {f g : List Bytes → List Occurrence} → Depends x f → Depends x g → Depends x (λ b. f b ++ g b)
both {x} {f} {g} h k = record {
  none = λ b e. names_append x (f b) (g b) ∙ ap (λ c. c || names_it x (g b)) (h.none b e) ∙ k.none b e;
  same = λ b c e. names_append x (f b) (g b) ∙ ap (λ d. d || names_it x (g b)) (h.same b c e) ∙ ap (λ d. names_it x (f c) || d) (k.same b c e) ∙ sym (names_append x (f c) (g c));
}

pub shifted : {x : Bytes} {f : List Bytes → List Occurrence} (xs : List Bytes) → Depends x f → Depends x (λ b. f (b ++ xs))
shifted {x} {f} xs h = record {
  none = λ b e. h.none (b ++ xs) (among_append x b xs ∙ ap (λ c. c || among x xs) e);
  same = λ b c e. h.same (b ++ xs) (c ++ xs) (among_append x b xs ∙ ap (λ d. d || among x xs) e ∙ sym (among_append x c xs));
}

single : (x : Bytes) (called : Bool) (y : Bytes) (place : ℕ) → Depends x (λ b. occurrence b called y place)
single x called y place = record { none = λ b e. absent b e (among y b) refl; same = λ b c e. alike b c e (bytes_eq x y) refl (among y b) refl (among y c) refl } where
  row : Bool → List Occurrence
  row d = if d then [] else record { name = y; place = place; called = called } ∷ []

  other : (b : Bool) → bytes_eq x y ≡ b → (d : Bool) → b ≡ false → names_it x (row d) ≡ false
  other b e true q = refl
  other b e false q = ap (λ c. c || false) (e ∙ q)

  absent : (b : List Bytes) → among x b ≡ true → (d : Bool) → among y b ≡ d → names_it x (row (among y b)) ≡ false
  absent b e true q = ap (λ d. names_it x (row d)) q
  absent b e false q = ap (λ d. names_it x (row d)) q ∙ other (bytes_eq x y) refl false (differ (bytes_eq x y) refl) where
    differ : (c : Bool) → bytes_eq x y ≡ c → c ≡ false
    differ false k = refl
    differ true k = absurd (true≢false (sym e ∙ ap (λ z. among z b) ((bytes_eq-Decides x y).0 k) ∙ q))

  alike : (b c : List Bytes) → among x b ≡ among x c → (r : Bool) → bytes_eq x y ≡ r → (p : Bool) → among y b ≡ p → (q : Bool) → among y c ≡ q → names_it x (row (among y b)) ≡ names_it x (row (among y c))
  alike b c e true k p l q m = ap (λ d. names_it x (row d)) (ap (λ z. among z b) (sym ((bytes_eq-Decides x y).0 k)) ∙ e ∙ ap (λ z. among z c) ((bytes_eq-Decides x y).0 k))
  alike b c e false k p l q m = other (bytes_eq x y) refl (among y b) k ∙ sym (other (bytes_eq x y) refl (among y c) k)

module _ (x : Bytes) where
  mutual
    pub in_block : (b : BlockTree) → Depends x (λ bound. free_block bound b)
    in_block (BlockOf is place) = in_items is

    pub in_maybe : (b : MaybeBlock) → Depends x (λ bound. free_maybe bound b)
    in_maybe NoBlock = empty x
    in_maybe (ABlock b) = in_block b

    pub in_items : (is : ItemTrees) → Depends x (λ bound. free_items bound is)
    in_items NoItems = empty x
    in_items (AnItem i is) = both (in_item i) (shifted (item_names i) (in_items is))

    pub in_item : (i : ItemTree) → Depends x (λ bound. free_item bound i)
    in_item (LetItem bs place) = in_binds bs
    in_item (VarItem bs place) = in_binds bs
    in_item (LetRecItem bs place) = shifted (member_names bs) (in_members bs)
    in_item (AssignItem y e place) = both (single x false y place) (in_expr false e)
    in_item (FieldItem o y body place) = both (in_expr false o) (in_field body)
    in_item (IndexItem a i e place) = both (in_expr false a) (both (in_expr false i) (in_expr false e))
    in_item (PlainItem e) = in_expr false e

    pub in_binds : (bs : BindTrees) → Depends x (λ bound. free_binds bound bs)
    in_binds NoBinds = empty x
    in_binds (ABind y e place bs) = both (in_expr false e) (shifted (y ∷ []) (in_binds bs))

    pub in_members : (bs : RecBindTrees) → Depends x (λ bound. free_members bound bs)
    in_members NoRecBinds = empty x
    in_members (ARecBind y p place bs) = both (in_procedure p) (in_members bs)

    pub in_procedure : (p : ProcedureTree) → Depends x (λ bound. free_procedure bound p)
    in_procedure (AProc params b place) = shifted params (in_block b)

    pub in_field : (body : FieldTree) → Depends x (λ bound. free_field bound body)
    in_field (ValueOf e) = in_expr false e
    in_field (MethodOf p) = in_procedure p
    in_field (AliasOf y e place) = in_expr false e

    pub in_expr : (called : Bool) (e : ExprTree) → Depends x (λ bound. free_expr bound called e)
    in_expr called (IntTree z place) = empty x
    in_expr called (TextTree t place) = empty x
    in_expr called (TruthTree b place) = empty x
    in_expr called (OkTree place) = empty x
    in_expr called (NameTree y place) = single x called y place
    in_expr called (ProcTree p) = in_procedure p
    in_expr called (ArrayTree es place) = in_exprs es
    in_expr called (ObjectTree flags fs place) = in_fields fs
    in_expr called (IfTree arms last place) = both (in_arms arms) (in_maybe last)
    in_expr called (LoopTree b place) = in_block b
    in_expr called (ExitTree place) = empty x
    in_expr called (ForTree y m n b place) = both (in_expr false m) (both (in_expr false n) (shifted (y ∷ []) (in_block b)))
    in_expr called (ForeachTree y e b place) = both (in_expr false e) (shifted (y ∷ []) (in_block b))
    in_expr called (TryTree b arms last place) = both (in_block b) (both (in_arms arms) (in_maybe last))
    in_expr called (FinallyTree b last place) = both (in_block b) (in_block last)
    in_expr called (RaiseTree e place) = in_expr false e
    in_expr called (WatchTree c g place) = both (in_expr false c) (in_expr false g)
    in_expr called (RedirectTree o p place) = both (in_expr false o) (in_expr false p)
    in_expr called (CloneTree es place) = in_exprs es
    in_expr called (ChainTree e links) = both (in_expr false e) (in_links links)
    in_expr called (SuffixedTree e ss) = both (in_expr (is_called ss) e) (in_suffixes ss)

    pub in_exprs : (es : ExprTrees) → Depends x (λ bound. free_exprs bound es)
    in_exprs NoExprs = empty x
    in_exprs (AnExpr e es) = both (in_expr false e) (in_exprs es)

    pub in_links : (links : LinkTrees) → Depends x (λ bound. free_links bound links)
    in_links NoLinks = empty x
    in_links (ALink op e place links) = both (in_expr false e) (in_links links)

    pub in_suffix : (s : SuffixTree) → Depends x (λ bound. free_suffix bound s)
    in_suffix (ApplySuffix es place) = in_exprs es
    in_suffix (SelectSuffix y place) = empty x
    in_suffix (InvokeSuffix y es place) = in_exprs es
    in_suffix (IndexSuffix e place) = in_expr false e

    pub in_suffixes : (ss : SuffixTrees) → Depends x (λ bound. free_suffixes bound ss)
    in_suffixes NoSuffixes = empty x
    in_suffixes (ASuffix s ss) = both (in_suffix s) (in_suffixes ss)

    pub in_arms : (arms : ArmTrees) → Depends x (λ bound. free_arms bound arms)
    in_arms NoArms = empty x
    in_arms (AnArm e b arms) = both (both (in_expr false e) (in_block b)) (in_arms arms)

    pub in_fields : (fs : FieldTrees) → Depends x (λ bound. free_fields bound fs)
    in_fields NoFields = empty x
    in_fields (AField y body place fs) = both (in_field body) (in_fields fs)
