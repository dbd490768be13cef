-- The occurrences of names in a tree are leaves of it; so a tree that tokens derive has one first unbound name, where the places of the tokens ascend.
use Rattle.std.proofs.Common.{All, Bool, Contains, List, [], arith, filter, length, refl, slice_index_or, subst, suc, sym, true, false, zero, if◌then◌else◌, inl, inr, not, ℕ, ◌+◌, ◌<◌, ◌≡◌, ◌≤◌, ◌∙◌, ◌⊎◌, ◌++◌, ◌∷◌}
use Rattle.std.proofs.lemmas.List.Elements.{All-contains_itself}
use Rattle.obq_base.specs.declared.occurrences.Occurrence.{Occurrence}
use Rattle.obq_base.specs.declared.tokens.Token.{Token}
use Rattle.obq_base.specs.declared.tokens.TokenKind.{TokenKind}
use Rattle.obq_base.specs.declared.tokens.TokenKind.TheVariants as k
use Rattle.obq_base.specs.declared.trees.Block.{Block}
use Rattle.obq_base.specs.Tree.{BlockTree, BlockOf, MaybeBlock, NoBlock, ABlock, ItemTrees, NoItems, AnItem, ItemTree, LetItem, VarItem, LetRecItem, AssignItem, FieldItem, IndexItem, PlainItem, BindTrees, NoBinds, ABind, RecBindTrees, NoRecBinds, ARecBind, ProcedureTree, AProc, FieldTree, ValueOf, MethodOf, AliasOf, ExprTree, IntTree, TextTree, TruthTree, OkTree, NameTree, ProcTree, ArrayTree, ObjectTree, IfTree, LoopTree, ExitTree, ForTree, ForeachTree, TryTree, FinallyTree, RaiseTree, WatchTree, RedirectTree, CloneTree, ChainTree, SuffixedTree, ExprTrees, NoExprs, AnExpr, LinkTrees, NoLinks, ALink, SuffixTree, ApplySuffix, SelectSuffix, InvokeSuffix, IndexSuffix, SuffixTrees, NoSuffixes, ASuffix, ArmTrees, NoArms, AnArm, FieldTrees, NoFields, AField}
use Rattle.obq_base.specs.View.{block_tree}
use Rattle.obq_model.specs.Grammar.{Derives}
use Rattle.obq_model.specs.Nodes.{token}
use Rattle.obq_model.specs.Occurrences.{IsFirstUnbound, free_arms, free_binds, free_block, free_expr, free_exprs, free_field, free_fields, free_item, free_items, free_links, free_maybe, free_members, free_procedure, free_suffix, free_suffixes, is_called, is_predefined, item_names, member_names, occurrence, unbound}
use Rattle.obq_model.specs.Put.{among}
use Rattle.obq_model.specs.Terms.{Bytes}
use Rattle.obq_model.specs.Tokens.{IsAscending}
use Rattle.obq_model.specs.Leaves.{ArmsLeaves, BindsLeaves, BlockLeaves, ExprLeaves, ExprsLeaves, FieldLeaves, FieldsLeaves, ItemLeaves, ItemsLeaves, LinksLeaves, MaybeLeaves, MembersLeaves, ProcedureLeaves, SuffixLeaves, SuffixesLeaves}
use Rattle.obq_grammar.proofs.Leaves.{Each, told_block}

-- K holds of each occurrence, as the token of a name
abbrev Occur : (TokenKind → ℕ → Type 0) → List Occurrence → Type 0
Occur K [] = Unit {0}
Occur K (o ∷ os) = K (k.Name o.name) o.place × Occur K os

occur_append : (K : TokenKind → ℕ → Type 0) (xs ys : List Occurrence) → Occur K xs → Occur K ys → Occur K (xs ++ ys)
occur_append K [] ys p q = q
occur_append K (x ∷ xs) ys p q = (p.0, occur_append K xs ys p.1 q)

occur_one : (K : TokenKind → ℕ → Type 0) (bound : List Bytes) (called : Bool) (x : Bytes) (place : ℕ) → K (k.Name x) place → Occur K (occurrence bound called x place)
occur_one K bound called x place h = row (among x bound) where
  row : (b : Bool) → Occur K (if b then [] else record { name = x; place = place; called = called } ∷ [])
  row true = tt
  row false = (h, tt)

module _ (K : TokenKind → ℕ → Type 0) where
  mutual
    pub named_block : (bound : List Bytes) (a : BlockTree) → BlockLeaves K a → Occur K (free_block bound a)
    named_block bound (BlockOf is place) h = named_items bound is h

    pub named_maybe : (bound : List Bytes) (a : MaybeBlock) → MaybeLeaves K a → Occur K (free_maybe bound a)
    named_maybe bound NoBlock h = tt
    named_maybe bound (ABlock b) h = named_block bound b h

    pub named_items : (bound : List Bytes) (a : ItemTrees) → ItemsLeaves K a → Occur K (free_items bound a)
    named_items bound NoItems h = tt
    named_items bound (AnItem i is) h = occur_append K _ _ (named_item bound i h.0) (named_items (bound ++ item_names i) is h.1)

    pub named_item : (bound : List Bytes) (a : ItemTree) → ItemLeaves K a → Occur K (free_item bound a)
    named_item bound (LetItem bs place) h = named_binds bound bs h
    named_item bound (VarItem bs place) h = named_binds bound bs h
    named_item bound (LetRecItem bs place) h = named_members (bound ++ member_names bs) bs h
    named_item bound (AssignItem x e place) h = occur_append K _ _ (occur_one K bound false x place h.0) (named_expr bound false e h.1)
    named_item bound (FieldItem o x body place) h = occur_append K _ _ (named_expr bound false o h.0) (named_field bound body h.1)
    named_item bound (IndexItem a i e place) h = occur_append K _ _ (named_expr bound false a h.0) (occur_append K _ _ (named_expr bound false i h.1) (named_expr bound false e h.2))
    named_item bound (PlainItem e) h = named_expr bound false e h

    pub named_binds : (bound : List Bytes) (a : BindTrees) → BindsLeaves K a → Occur K (free_binds bound a)
    named_binds bound NoBinds h = tt
    named_binds bound (ABind x e place bs) h = occur_append K _ _ (named_expr bound false e h.0) (named_binds (bound ++ x ∷ []) bs h.1)

    pub named_members : (bound : List Bytes) (a : RecBindTrees) → MembersLeaves K a → Occur K (free_members bound a)
    named_members bound NoRecBinds h = tt
    named_members bound (ARecBind x p place bs) h = occur_append K _ _ (named_procedure bound p h.0) (named_members bound bs h.1)

    pub named_procedure : (bound : List Bytes) (a : ProcedureTree) → ProcedureLeaves K a → Occur K (free_procedure bound a)
    named_procedure bound (AProc params b place) h = named_block (bound ++ params) b h

    pub named_field : (bound : List Bytes) (a : FieldTree) → FieldLeaves K a → Occur K (free_field bound a)
    named_field bound (ValueOf e) h = named_expr bound false e h
    named_field bound (MethodOf p) h = named_procedure bound p h
    named_field bound (AliasOf x e place) h = named_expr bound false e h

    pub named_expr : (bound : List Bytes) (called : Bool) (e : ExprTree) → ExprLeaves K e → Occur K (free_expr bound called e)
    named_expr bound called (IntTree z place) h = tt
    named_expr bound called (TextTree t place) h = tt
    named_expr bound called (TruthTree b place) h = tt
    named_expr bound called (OkTree place) h = tt
    named_expr bound called (NameTree x place) h = occur_one K bound called x place h
    named_expr bound called (ProcTree p) h = named_procedure bound p h
    named_expr bound called (ArrayTree es place) h = named_exprs bound es h
    named_expr bound called (ObjectTree flags fs place) h = named_fields bound fs h
    named_expr bound called (IfTree arms last place) h = occur_append K _ _ (named_arms bound arms h.0) (named_maybe bound last h.1)
    named_expr bound called (LoopTree b place) h = named_block bound b h
    named_expr bound called (ExitTree place) h = tt
    named_expr bound called (ForTree x m n b place) h = occur_append K _ _ (named_expr bound false m h.0) (occur_append K _ _ (named_expr bound false n h.1) (named_block (bound ++ x ∷ []) b h.2))
    named_expr bound called (ForeachTree x e b place) h = occur_append K _ _ (named_expr bound false e h.0) (named_block (bound ++ x ∷ []) b h.1)
    named_expr bound called (TryTree b arms last place) h = occur_append K _ _ (named_block bound b h.0) (occur_append K _ _ (named_arms bound arms h.1) (named_maybe bound last h.2))
    named_expr bound called (FinallyTree b last place) h = occur_append K _ _ (named_block bound b h.0) (named_block bound last h.1)
    named_expr bound called (RaiseTree e place) h = named_expr bound false e h
    named_expr bound called (WatchTree c g place) h = occur_append K _ _ (named_expr bound false c h.0) (named_expr bound false g h.1)
    named_expr bound called (RedirectTree o p place) h = occur_append K _ _ (named_expr bound false o h.0) (named_expr bound false p h.1)
    named_expr bound called (CloneTree es place) h = named_exprs bound es h
    named_expr bound called (ChainTree e links) h = occur_append K _ _ (named_expr bound false e h.0) (named_links bound links h.1)
    named_expr bound called (SuffixedTree e ss) h = occur_append K _ _ (named_expr bound (is_called ss) e h.0) (named_suffixes bound ss h.1)

    pub named_exprs : (bound : List Bytes) (a : ExprTrees) → ExprsLeaves K a → Occur K (free_exprs bound a)
    named_exprs bound NoExprs h = tt
    named_exprs bound (AnExpr e es) h = occur_append K _ _ (named_expr bound false e h.0) (named_exprs bound es h.1)

    pub named_links : (bound : List Bytes) (a : LinkTrees) → LinksLeaves K a → Occur K (free_links bound a)
    named_links bound NoLinks h = tt
    named_links bound (ALink op e place links) h = occur_append K _ _ (named_expr bound false e h.0) (named_links bound links h.1)

    pub named_suffix : (bound : List Bytes) (a : SuffixTree) → SuffixLeaves K a → Occur K (free_suffix bound a)
    named_suffix bound (ApplySuffix es place) h = named_exprs bound es h
    named_suffix bound (SelectSuffix x place) h = tt
    named_suffix bound (InvokeSuffix x es place) h = named_exprs bound es h
    named_suffix bound (IndexSuffix e place) h = named_expr bound false e h

    pub named_suffixes : (bound : List Bytes) (a : SuffixTrees) → SuffixesLeaves K a → Occur K (free_suffixes bound a)
    named_suffixes bound NoSuffixes h = tt
    named_suffixes bound (ASuffix s ss) h = occur_append K _ _ (named_suffix bound s h.0) (named_suffixes bound ss h.1)

    pub named_arms : (bound : List Bytes) (a : ArmTrees) → ArmsLeaves K a → Occur K (free_arms bound a)
    named_arms bound NoArms h = tt
    named_arms bound (AnArm e b arms) h = occur_append K _ _ (occur_append K _ _ (named_expr bound false e h.0.0) (named_block bound b h.0.1)) (named_arms bound arms h.1)

    pub named_fields : (bound : List Bytes) (a : FieldTrees) → FieldsLeaves K a → Occur K (free_fields bound a)
    named_fields bound NoFields h = tt
    named_fields bound (AField x body place fs) h = occur_append K _ _ (named_field bound body h.0) (named_fields bound fs h.1)

occur_filter : (K : TokenKind → ℕ → Type 0) (p : Occurrence → Bool) (os : List Occurrence) → Occur K os → Occur K (filter p os)
occur_filter K p [] h = tt
occur_filter K p (o ∷ os) h = row (p o) (occur_filter K p os h.1) where
  row : (b : Bool) → Occur K (filter p os) → Occur K (if b then o ∷ filter p os else filter p os)
  row true rest = (h.0, rest)
  row false rest = rest

-- ---- tokens by their places

-- a token of this kind at this place is among these
abbrev Stands : List Token → TokenKind → ℕ → Type 0
Stands [] kind place = ⊥
Stands (t ∷ ts) kind place = ((t.kind ≡ kind) × (t.place ≡ place)) ⊎ Stands ts kind place

not_before : (p : ℕ) (ts : List Token) (kind : TokenKind) (place : ℕ) → IsAscending p ts → Stands ts kind place → p ≤ place
not_before p (t ∷ ts) kind place up (inl is) = subst (λ q. p ≤ q) is.1 up.0
not_before p (t ∷ ts) kind place up (inr later) = let l = not_before (t.place + 1) ts kind place up.1 later in let m = up.0 in omega (arith, l, m)
not_before p [] kind place up h = absurd h

one_kind : (p : ℕ) (ts : List Token) (a b : TokenKind) (place : ℕ) → IsAscending p ts → Stands ts a place → Stands ts b place → a ≡ b
one_kind p (t ∷ ts) a b place up (inl x) (inl y) = sym x.0 ∙ y.0
one_kind p (t ∷ ts) a b place up (inl x) (inr y) = let l = not_before (t.place + 1) ts b place up.1 y in let e = x.1 in absurd (omega (arith, l, e))
one_kind p (t ∷ ts) a b place up (inr x) (inl y) = let l = not_before (t.place + 1) ts a place up.1 x in let e = y.1 in absurd (omega (arith, l, e))
one_kind p (t ∷ ts) a b place up (inr x) (inr y) = one_kind (t.place + 1) ts a b place up.1 x y
one_kind p [] a b place up x y = absurd x

each_more : (K L : TokenKind → ℕ → Type 0) (ts : List Token) → ((kind : TokenKind) (place : ℕ) → K kind place → L kind place) → Each K ts → Each L ts
each_more K L [] f h = tt
each_more K L (t ∷ ts) f h = (f t.kind t.place h.0, each_more K L ts f h.1)

each_stands : (ts : List Token) → Each (Stands ts) ts
each_stands [] = tt
each_stands (t ∷ ts) = (inl (refl, refl), each_more (Stands ts) (Stands (t ∷ ts)) ts (λ kind place h. inr h) (each_stands ts))

-- ---- one first unbound name

-- what holds of each occurrence holds of one that is among them
occur_at : (K : TokenKind → ℕ → Type 0) (os : List Occurrence) (o : Occurrence) → Occur K os → Contains os o → K (k.Name o.name) o.place
occur_at K os o h (j, lt, is) = subst (λ u. K (k.Name u.name) u.place) is (at os j h lt) where
  at : (os : List Occurrence) (j : ℕ) → Occur K os → j < length os → K (k.Name (slice_index_or os j o).name) (slice_index_or os j o).place
  at (x ∷ xs) zero h lt = h.0
  at (x ∷ xs) (suc j) h lt = at xs j h.1 (omega (arith, lt))
  at [] j h lt = absurd (omega (arith, lt))

name_same : (n m : List ℕ) → k.Name n ≡ k.Name m → n ≡ m
name_same n m e = cc

-- where it holds of all tokens, it holds of each
each_all : (K : TokenKind → ℕ → Type 0) (ts : List Token) → All (λ t. K t.kind t.place) ts → Each K ts
each_all K [] h = tt
each_all K (t ∷ ts) h = (h 0 t (omega arith), each_all K ts (λ j d lt. h (suc j) d (omega (arith, lt))))

pub leaves_of : (tokens : List Token) (tree : Block) → Derives tokens tree → BlockLeaves (λ kind place. Contains tokens (token kind place)) (block_tree tree)
leaves_of tokens tree derived =
    let K : TokenKind → ℕ → Type 0 = λ kind place. Contains tokens (token kind place) in
    (told_block K derived.1 (each_all K tokens (All-contains_itself tokens))).0

pub one_first : (tokens : List Token) (tree : Block) (n m : List ℕ) (p q : ℕ) → IsAscending 0 tokens → Derives tokens tree → IsFirstUnbound (block_tree tree) n p → IsFirstUnbound (block_tree tree) m q → (n ≡ m) × (p ≡ q)
one_first tokens tree n m p q up derived first second =
    let K = Stands tokens in
    let of : Occur K (unbound (block_tree tree)) = occur_filter K (λ o. not (is_predefined o)) (free_block [] (block_tree tree)) (named_block K [] (block_tree tree) (told_block K derived.1 (each_stands tokens)).0) in
    let a : K (k.Name n) p = occur_at K (unbound (block_tree tree)) (record { name = n; place = p; called = first.called }) of first.found in
    let b : K (k.Name m) q = occur_at K (unbound (block_tree tree)) (record { name = m; place = q; called = second.called }) of second.found in
    let before : p ≤ q = first_before (unbound (block_tree tree)) p (record { name = m; place = q; called = second.called }) second.found first.first in
    let behind : q ≤ p = first_before (unbound (block_tree tree)) q (record { name = n; place = p; called = first.called }) first.found second.first in
    let same : p ≡ q = omega (arith, before, behind) in
    (name_same n m (one_kind 0 tokens (k.Name n) (k.Name m) q up (subst (λ r. K (k.Name n) r) same a) b), same)
  where
    first_before : (os : List Occurrence) (p : ℕ) (o : Occurrence) → Contains os o → All (λ u. p ≤ u.place) os → p ≤ o.place
    first_before os p o (j, lt, is) all = subst (λ u. p ≤ u.place) is (all j o lt)
