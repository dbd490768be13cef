-- What a walk over a tree finds: its free occurrences, and what its procedures capture.
use Rattle.std.proofs.Common.{◌≡◌, ◌∙◌, inl, inr, ℕ, Bool, true, false, not, ◌&&◌, ◌||◌, List, [], ◌∷◌, ◌++◌, Some, refl, ap, sym, subst, length, nat_lt, slice_set, take, append_assoc}
use Rattle.std.specs.List.{filter}
use Rattle.std.proofs.lemmas.Bool.{cases_Bool, true≢false}
use Rattle.std.proofs.lemmas.List.{append-nil, map-append}
use Rattle.std.proofs.lemmas.List.Elements.{filter-append}
use Rattle.std.proofs.Math.Seq.{set-append_seam, take-append_seam}
use Rattle.obq_base.specs.declared.occurrences.Occurrence.{Occurrence}
use Rattle.obq_base.specs.Tree.{BlockTree, BlockOf, MaybeBlock, NoBlock, ABlock, ItemTrees, NoItems, AnItem, ItemTree, LetItem, VarItem, LetRecItem, AssignItem, FieldItem, IndexItem, PlainItem, BindTrees, NoBinds, ABind, RecBindTrees, NoRecBinds, ARecBind, ProcedureTree, AProc, FieldTree, ValueOf, MethodOf, AliasOf, ExprTree, IntTree, TextTree, TruthTree, OkTree, NameTree, ProcTree, ArrayTree, ObjectTree, IfTree, LoopTree, ExitTree, ForTree, ForeachTree, TryTree, FinallyTree, RaiseTree, WatchTree, RedirectTree, CloneTree, ChainTree, SuffixedTree, ExprTrees, NoExprs, AnExpr, LinkTrees, NoLinks, ALink, SuffixTree, ApplySuffix, SelectSuffix, InvokeSuffix, IndexSuffix, SuffixTrees, NoSuffixes, ASuffix, ArmTrees, NoArms, AnArm, FieldTrees, NoFields, AField}
use Rattle.obq_model.specs.Put.{among}
use Rattle.obq_model.specs.Scopes.{last_place}
use Rattle.obq_model.specs.Occurrences.{bind_names, block_names, free_arms, free_binds, free_block, free_expr, free_exprs, free_field, free_fields, free_item, free_items, free_links, free_maybe, free_members, free_procedure, free_suffix, free_suffixes, is_called, item_names, member_names, occurrence}
use Rattle.obq_model.proofs.Among.{among_append}
use Rattle.obq_names.specs.declared.walker.Walker.{Walker}
use Rattle.obq_names.specs.Captures.{captures_arms, captures_binds, captures_block, captures_body, captures_expr, captures_exprs, captures_field, captures_fields, captures_item, captures_items, captures_links, captures_maybe, captures_members, captures_suffix, captures_suffixes}
use Rattle.obq_names.specs.Union.{covered_names, names_of, union}
use Rattle.obq_names.specs.Walked.{entered, left, outer_of, truncated, walk_arms, walk_binds, walk_block, walk_body, walk_expr, walk_exprs, walk_field, walk_fields, walk_item, walk_items, walk_links, walk_maybe, walk_members, walk_suffix, walk_suffixes, with_all_outer, with_binders, with_use}
use Rattle.obq_names.proofs.Less.{besides, less_members, less_procedure}
use Rattle.obq_names.proofs.Unions.{Names, filter_union, union-append, union_union}
use Rattle.obq_names.proofs.LastPlaces.{all_outer, is_outer, no_place, outer_place, own_place}

-- a walk inside a procedure with these binders outside of it and of its own
abbrev state : (outer own names : Names) → List Occurrence → List Names → Walker
state outer own names found captures = record { bound = outer ++ own; base = length outer; names = names; found = found; captures = captures }

-- of the free occurrences `us`, by the procedure's own binders, those with a binder outside are put in; without any binder are `vs`
record Moves (f : Walker → Walker) (outer own last : Names) (us vs : List Occurrence) (cs : List Names) : Type 0 where
  moves : (names : Names) (found : List Occurrence) (captures : List Names)
      → f (state outer own names found captures) ≡ state outer last (union names (covered_names outer us)) (found ++ vs) (captures ++ cs)

abbrev walk : Names → ℕ → Names → List Occurrence → List Names → Walker
walk b n x f c = record { bound = b; base = n; names = x; found = f; captures = c }

alike : (n : ℕ) (b b2 x x2 : Names) (f f2 : List Occurrence) (c c2 : List Names) → b ≡ b2 → x ≡ x2 → f ≡ f2 → c ≡ c2 → walk b n x f c ≡ walk b2 n x2 f2 c2
alike n b b2 x x2 f f2 c c2 e g h k =
    ap (λ (z : Names). walk z n x f c) e ∙ ap (λ (z : Names). walk b2 n z f c) g ∙ ap (λ (z : List Occurrence). walk b2 n x2 z c) h ∙ ap (λ (z : List Names). walk b2 n x2 f2 z) k

covered-append : (outer : Names) (us vs : List Occurrence) → covered_names outer (us ++ vs) ≡ covered_names outer us ++ covered_names outer vs
covered-append outer us vs = ap (λ (l : Names). filter (λ x. among x outer) l) (map-append (λ (u : Occurrence). u.name) us vs) ∙ filter-append (λ x. among x outer) (names_of us) (names_of vs)

both : {f g : Walker → Walker} {outer a b c : Names} {us us2 vs vs2 : List Occurrence} {cs cs2 : List Names}
    → Moves f outer a b us vs cs → Moves g outer b c us2 vs2 cs2 → Moves (λ w. g (f w)) outer a c (us ++ us2) (vs ++ vs2) (cs ++ cs2)
both {f} {g} {outer} {a} {b} {c} {us} {us2} {vs} {vs2} {cs} {cs2} m n = record {
  moves = λ names found captures.
      ap g (m.moves names found captures) ∙ n.moves (union names (covered_names outer us)) (found ++ vs) (captures ++ cs)
      ∙ alike (length outer) _ _ _ _ _ _ _ _ refl
      (sym (ap (λ (l : Names). union names l) (covered-append outer us us2) ∙ union-append names (covered_names outer us) (covered_names outer us2)))
      (append_assoc found vs vs2) (append_assoc captures cs cs2);
}

nothing : (outer own : Names) → Moves (λ w. w) outer own own [] [] []
nothing outer own = record { moves = λ names found captures. alike (length outer) _ _ _ _ _ _ _ _ refl refl (sym (append-nil found)) (sym (append-nil captures)) }

-- where the last binders are spelled in another way
ending : {f : Walker → Walker} {outer own last last2 : Names} {us vs : List Occurrence} {cs : List Names} → last ≡ last2 → Moves f outer own last us vs cs → Moves f outer own last2 us vs cs
ending {f} {outer} {own} {last} {last2} {us} {vs} {cs} e m = subst (λ (z : Names). Moves f outer own z us vs cs) e m

-- where the free occurrences are spelled in another way
of_names : {f : Walker → Walker} {outer own last : Names} {us us2 vs : List Occurrence} {cs : List Names} → us ≡ us2 → Moves f outer own last us vs cs → Moves f outer own last us2 vs cs
of_names {f} {outer} {own} {last} {us} {us2} {vs} {cs} e m = subst (λ (z : List Occurrence). Moves f outer own last z vs cs) e m

-- what follows is under more binders
deeper : {f : Walker → Walker} {outer last : Names} {us : List Occurrence} (own names : Names) (free : Names → List Occurrence) (captures : Names → List Names)
    → Moves f outer (own ++ names) last us (free (outer ++ (own ++ names))) (captures (outer ++ (own ++ names)))
    → Moves f outer (own ++ names) last us (free (outer ++ own ++ names)) (captures (outer ++ own ++ names))
deeper {f} {outer} {last} {us} own names free captures m = subst (λ (z : Names). Moves f outer (own ++ names) last us (free z) (captures z)) (sym (append_assoc outer own names)) m

binds_first : {f : Walker → Walker} {outer own last : Names} {us vs : List Occurrence} {cs : List Names} (names : Names)
    → Moves f outer (own ++ names) last us vs cs → Moves (λ w. f (with_binders names w)) outer own last us vs cs
binds_first {f} {outer} {own} names m = record {
  moves = λ xs found captures. ap f (alike (length outer) _ _ _ _ _ _ _ _ (append_assoc outer own names) refl refl refl) ∙ m.moves xs found captures;
}

binds_last : {f : Walker → Walker} {outer own last : Names} {us vs : List Occurrence} {cs : List Names} (names : Names)
    → Moves f outer own last us vs cs → Moves (λ w. with_binders names (f w)) outer own (last ++ names) us vs cs
binds_last {f} {outer} {own} {last} names m = record {
  moves = λ xs found captures. ap (with_binders names) (m.moves xs found captures) ∙ alike (length outer) _ _ _ _ _ _ _ _ (append_assoc outer last names) refl refl refl;
}

-- names are in force up to the end of a block
closes : {f : Walker → Walker} {outer : Names} (own names : Names) {us vs : List Occurrence} {cs : List Names}
    → Moves f outer own (own ++ names) us vs cs → Moves (λ w. truncated (length w.bound) (f w)) outer own own us vs cs
closes {f} {outer} own names m = record {
  moves = λ xs found captures.
      ap (truncated (length (outer ++ own))) (m.moves xs found captures)
      ∙ alike (length outer) _ _ _ _ _ _ _ _ (ap (take (length (outer ++ own))) (sym (append_assoc outer own names)) ∙ take-append_seam (outer ++ own) names) refl refl refl;
}

or_true : (b : Bool) → (b || true) ≡ true
or_true true = refl
or_true false = refl

and_false : (b : Bool) → (b && false) ≡ false
and_false true = refl
and_false false = refl

uses : (outer own : Names) (called : Bool) (x : List ℕ) (place : ℕ) → Moves (with_use called x place) outer own own (occurrence own called x place) (occurrence (outer ++ own) called x place) []
uses outer own called x place = record {
  moves = λ names found captures. elim (cases_Bool (among x own)) [
    | inl e ↦
        let p : (k : ℕ) × (last_place x (outer ++ own) ≡ Some k) × (nat_lt k (length outer) ≡ false) = own_place x outer own e in
        rw (p.1, among_append x outer own, e) (rw (p.2, or_true (among x outer)) (alike (length outer) _ _ _ _ _ _ _ _ refl refl (sym (append-nil found)) (sym (append-nil captures))))
    | inr e ↦ elim (cases_Bool (among x outer)) [
      | inl g ↦
          let p : (k : ℕ) × (last_place x (outer ++ own) ≡ Some k) × (nat_lt k (length outer) ≡ true) = outer_place x outer own e g in
          rw (p.1, among_append x outer own, e) (rw (p.2, g) (alike (length outer) _ _ _ _ _ _ _ _ refl refl (sym (append-nil found)) (sym (append-nil captures))))
      | inr g ↦ rw (no_place x outer own e g, among_append x outer own, e) (rw g (alike (length outer) _ _ _ _ _ _ _ _ refl refl refl (sym (append-nil captures))))
    ]
  ];
}

-- the names that the procedure around captures as well
outer_covered : (outer own : Names) (us : List Occurrence) → covered_names outer (besides own us) ≡ filter (is_outer outer own) (names_of us)
outer_covered outer own [] = refl
outer_covered outer own (u ∷ us) = elim (cases_Bool (among u.name own)) [
  | inl e ↦ rw e (outer_covered outer own us)
  | inr e ↦ elim (cases_Bool (among u.name outer)) [
    | inl g ↦ rw (e, g) (ap (λ (l : Names). u.name ∷ l) (outer_covered outer own us))
    | inr g ↦ rw (e, g) (outer_covered outer own us)
  ]
]

is_bound : (outer own : Names) (x : List ℕ) → is_outer outer own x ≡ true → among x (outer ++ own) ≡ true
is_bound outer own x h = elim (cases_Bool (among x outer)) [
  | inl g ↦ among_append x outer own ∙ rw g refl
  | inr g ↦ absurd (true≢false (sym h ∙ rw g (and_false (not (among x own)))))
]

goes_up : (outer own names : Names) (us : List Occurrence)
    → with_all_outer (outer ++ own) (length outer) names (union [] (covered_names (outer ++ own) us)) ≡ union names (covered_names outer (besides own us))
goes_up outer own names us =
    all_outer outer own names (union [] (covered_names (outer ++ own) us))
    ∙ ap (λ (l : Names). union names l) (filter_union (is_outer outer own) (λ x. among x (outer ++ own)) (is_bound outer own) [] (names_of us))
    ∙ union_union names [] (filter (is_outer outer own) (names_of us))
    ∙ ap (λ (l : Names). union names l) (sym (outer_covered outer own us))

-- a procedure inside another one
frame : {f : Walker → Walker} {outer own last : Names} {us : List Occurrence} (free : Names → List Occurrence) (captures : Names → List Names)
    → Moves f (outer ++ own) [] last us (free (outer ++ own ++ [])) (captures (outer ++ own ++ []))
    → Moves (λ w. left (outer_of w) (f (entered w))) outer own own (besides own us) (free (outer ++ own)) (union [] (covered_names (outer ++ own) us) ∷ captures (outer ++ own))
frame {f} {outer} {own} {last} {us} free caps m = record {
  moves = λ names found captures.
      let w : Walker = state outer own names found captures in
      let b : Names = outer ++ own in
      let inner : Names = union [] (covered_names b us) in
      let top : take (length b) (b ++ last) ≡ b = take-append_seam b last in
      ap (λ (v : Walker). left (outer_of w) (f v)) (alike (length b) _ _ _ _ _ _ _ _ (sym (append-nil b)) refl refl refl)
      ∙ ap (left (outer_of w)) (m.moves [] found (captures ++ [] ∷ []))
      ∙ alike (length outer) _ _ _ _ _ _ _ _ top
      (ap (λ (z : Names). with_all_outer z (length outer) names inner) top ∙ goes_up outer own names us)
      (ap (λ (z : Names). found ++ free z) (append-nil b))
      (ap (λ (z : List Names). slice_set z (length captures) inner) (append_assoc captures ([] ∷ []) (caps (b ++ [])))
      ∙ set-append_seam captures [] (caps (b ++ [])) inner ∙ ap (λ (z : Names). captures ++ inner ∷ caps z) (append-nil b));
}

-- a block under one more name
under : (outer own : Names) (x : List ℕ) (tree : BlockTree)
    → Moves (walk_block tree) outer (own ++ x ∷ []) (own ++ x ∷ []) (free_block (own ++ x ∷ []) tree) (free_block (outer ++ (own ++ x ∷ [])) tree) (captures_block (outer ++ (own ++ x ∷ [])) tree)
    → Moves (λ w. truncated (length w.bound) (walk_block tree (with_binders (x ∷ []) w))) outer own own (free_block (own ++ x ∷ []) tree) (free_block (outer ++ own ++ x ∷ []) tree) (captures_block (outer ++ own ++ x ∷ []) tree)
under a b x t m = closes b (x ∷ []) (binds_first (x ∷ []) (deeper b (x ∷ []) (λ z. free_block z t) (λ z. captures_block z t) m))

group : (outer own : Names) (tree : RecBindTrees)
    → Moves (walk_members tree) (outer ++ own) (member_names tree) (member_names tree) (free_members (member_names tree) tree) (free_members (outer ++ own ++ member_names tree) tree) (captures_members (outer ++ own ++ member_names tree) tree)
    → Moves (λ w. with_binders (member_names tree) (left (outer_of w) (walk_members tree (with_binders (member_names tree) (entered w))))) outer own (own ++ member_names tree)
    (free_members (own ++ member_names tree) tree) (free_members (outer ++ own ++ member_names tree) tree)
    (union [] (covered_names (outer ++ own) (free_members (member_names tree) tree)) ∷ captures_members (outer ++ own ++ member_names tree) tree)
group a b bs m =
    binds_last (member_names bs)
    (of_names (sym (less_members b (member_names bs) bs))
    (frame (λ z. free_members (z ++ member_names bs) bs) (λ z. captures_members (z ++ member_names bs) bs)
    (binds_first (member_names bs) (deeper [] (member_names bs) (λ z. free_members z bs) (λ z. captures_members z bs) m))))

procedure : (outer own : Names) (tree : ProcedureTree)
    → Moves (walk_body tree) (outer ++ own) [] [] (free_procedure [] tree) (free_procedure (outer ++ own ++ []) tree) (captures_body (outer ++ own ++ []) tree)
    → Moves (λ w. left (outer_of w) (walk_body tree (entered w))) outer own own (free_procedure own tree) (free_procedure (outer ++ own) tree)
    (union [] (covered_names (outer ++ own) (free_procedure [] tree)) ∷ captures_body (outer ++ own) tree)
procedure a b p m =
    of_names (sym (less_procedure b [] p) ∙ ap (λ z. free_procedure z p) (append-nil b))
    (frame (λ z. free_procedure z p) (λ z. captures_body z p) m)

mutual
  walks_block : (outer own : Names) (tree : BlockTree) → Moves (walk_block tree) outer own own (free_block own tree) (free_block (outer ++ own) tree) (captures_block (outer ++ own) tree)
  walks_block a b (BlockOf is place) = closes b (block_names is) (walks_items a b is)

  walks_maybe : (outer own : Names) (tree : MaybeBlock) → Moves (walk_maybe tree) outer own own (free_maybe own tree) (free_maybe (outer ++ own) tree) (captures_maybe (outer ++ own) tree)
  walks_maybe a b NoBlock = nothing a b
  walks_maybe a b (ABlock t) = walks_block a b t

  walks_items : (outer own : Names) (tree : ItemTrees)
      → Moves (walk_items tree) outer own (own ++ block_names tree) (free_items own tree) (free_items (outer ++ own) tree) (captures_items (outer ++ own) tree)
  walks_items a b NoItems = ending (sym (append-nil b)) (nothing a b)
  walks_items a b (AnItem i is) =
      ending (append_assoc b (item_names i) (block_names is))
      (both (walks_item a b i) (deeper b (item_names i) (λ z. free_items z is) (λ z. captures_items z is) (walks_items a (b ++ item_names i) is)))

  walks_item : (outer own : Names) (tree : ItemTree)
      → Moves (walk_item tree) outer own (own ++ item_names tree) (free_item own tree) (free_item (outer ++ own) tree) (captures_item (outer ++ own) tree)
  walks_item a b (LetItem bs place) = walks_binds a b bs
  walks_item a b (VarItem bs place) = walks_binds a b bs
  walks_item a b (LetRecItem bs place) = group a b bs (walks_members (a ++ b) (member_names bs) bs)
  walks_item a b (AssignItem x e place) = ending (sym (append-nil b)) (both (uses a b false x place) (walks_expr a b false e))
  walks_item a b (FieldItem o x body place) = ending (sym (append-nil b)) (both (walks_expr a b false o) (walks_field a b body))
  walks_item a b (IndexItem r i e place) = ending (sym (append-nil b)) (both (walks_expr a b false r) (both (walks_expr a b false i) (walks_expr a b false e)))
  walks_item a b (PlainItem e) = ending (sym (append-nil b)) (walks_expr a b false e)

  walks_binds : (outer own : Names) (tree : BindTrees)
      → Moves (walk_binds tree) outer own (own ++ bind_names tree) (free_binds own tree) (free_binds (outer ++ own) tree) (captures_binds (outer ++ own) tree)
  walks_binds a b NoBinds = ending (sym (append-nil b)) (nothing a b)
  walks_binds a b (ABind x e place bs) =
      ending (append_assoc b (x ∷ []) (bind_names bs))
      (both (walks_expr a b false e) (binds_first (x ∷ []) (deeper b (x ∷ []) (λ z. free_binds z bs) (λ z. captures_binds z bs) (walks_binds a (b ++ x ∷ []) bs))))

  walks_members : (outer own : Names) (tree : RecBindTrees)
      → Moves (walk_members tree) outer own own (free_members own tree) (free_members (outer ++ own) tree) (captures_members (outer ++ own) tree)
  walks_members a b NoRecBinds = nothing a b
  walks_members a b (ARecBind x p place bs) = both (walks_body a b p) (walks_members a b bs)

  walks_body : (outer own : Names) (tree : ProcedureTree)
      → Moves (walk_body tree) outer own own (free_procedure own tree) (free_procedure (outer ++ own) tree) (captures_body (outer ++ own) tree)
  walks_body a b (AProc params t place) = closes b params (binds_first params (deeper b params (λ z. free_block z t) (λ z. captures_block z t) (walks_block a (b ++ params) t)))

  walks_field : (outer own : Names) (tree : FieldTree) → Moves (walk_field tree) outer own own (free_field own tree) (free_field (outer ++ own) tree) (captures_field (outer ++ own) tree)
  walks_field a b (ValueOf e) = walks_expr a b false e
  walks_field a b (MethodOf p) = procedure a b p (walks_body (a ++ b) [] p)
  walks_field a b (AliasOf x e place) = walks_expr a b false e

  walks_expr : (outer own : Names) (called : Bool) (tree : ExprTree)
      → Moves (walk_expr called tree) outer own own (free_expr own called tree) (free_expr (outer ++ own) called tree) (captures_expr (outer ++ own) tree)
  walks_expr a b c (IntTree z place) = nothing a b
  walks_expr a b c (TextTree t place) = nothing a b
  walks_expr a b c (TruthTree t place) = nothing a b
  walks_expr a b c (OkTree place) = nothing a b
  walks_expr a b c (NameTree x place) = uses a b c x place
  walks_expr a b c (ProcTree p) = procedure a b p (walks_body (a ++ b) [] p)
  walks_expr a b c (ArrayTree es place) = walks_exprs a b es
  walks_expr a b c (ObjectTree flags fs place) = walks_fields a b fs
  walks_expr a b c (IfTree arms last place) = both (walks_arms a b arms) (walks_maybe a b last)
  walks_expr a b c (LoopTree t place) = walks_block a b t
  walks_expr a b c (ExitTree place) = nothing a b
  walks_expr a b c (ForTree x m n t place) = both (walks_expr a b false m) (both (walks_expr a b false n) (under a b x t (walks_block a (b ++ x ∷ []) t)))
  walks_expr a b c (ForeachTree x e t place) = both (walks_expr a b false e) (under a b x t (walks_block a (b ++ x ∷ []) t))
  walks_expr a b c (TryTree t arms last place) = both (walks_block a b t) (both (walks_arms a b arms) (walks_maybe a b last))
  walks_expr a b c (FinallyTree t last place) = both (walks_block a b t) (walks_block a b last)
  walks_expr a b c (RaiseTree e place) = walks_expr a b false e
  walks_expr a b c (WatchTree m n place) = both (walks_expr a b false m) (walks_expr a b false n)
  walks_expr a b c (RedirectTree m n place) = both (walks_expr a b false m) (walks_expr a b false n)
  walks_expr a b c (CloneTree es place) = walks_exprs a b es
  walks_expr a b c (ChainTree e links) = both (walks_expr a b false e) (walks_links a b links)
  walks_expr a b c (SuffixedTree e ss) = both (walks_expr a b (is_called ss) e) (walks_suffixes a b ss)

  walks_exprs : (outer own : Names) (tree : ExprTrees) → Moves (walk_exprs tree) outer own own (free_exprs own tree) (free_exprs (outer ++ own) tree) (captures_exprs (outer ++ own) tree)
  walks_exprs a b NoExprs = nothing a b
  walks_exprs a b (AnExpr e es) = both (walks_expr a b false e) (walks_exprs a b es)

  walks_links : (outer own : Names) (tree : LinkTrees) → Moves (walk_links tree) outer own own (free_links own tree) (free_links (outer ++ own) tree) (captures_links (outer ++ own) tree)
  walks_links a b NoLinks = nothing a b
  walks_links a b (ALink op e place links) = both (walks_expr a b false e) (walks_links a b links)

  walks_suffix : (outer own : Names) (tree : SuffixTree) → Moves (walk_suffix tree) outer own own (free_suffix own tree) (free_suffix (outer ++ own) tree) (captures_suffix (outer ++ own) tree)
  walks_suffix a b (ApplySuffix es place) = walks_exprs a b es
  walks_suffix a b (SelectSuffix x place) = nothing a b
  walks_suffix a b (InvokeSuffix x es place) = walks_exprs a b es
  walks_suffix a b (IndexSuffix e place) = walks_expr a b false e

  walks_suffixes : (outer own : Names) (tree : SuffixTrees)
      → Moves (walk_suffixes tree) outer own own (free_suffixes own tree) (free_suffixes (outer ++ own) tree) (captures_suffixes (outer ++ own) tree)
  walks_suffixes a b NoSuffixes = nothing a b
  walks_suffixes a b (ASuffix s ss) = both (walks_suffix a b s) (walks_suffixes a b ss)

  walks_arms : (outer own : Names) (tree : ArmTrees) → Moves (walk_arms tree) outer own own (free_arms own tree) (free_arms (outer ++ own) tree) (captures_arms (outer ++ own) tree)
  walks_arms a b NoArms = nothing a b
  walks_arms a b (AnArm e t arms) = both (both (walks_expr a b false e) (walks_block a b t)) (walks_arms a b arms)

  walks_fields : (outer own : Names) (tree : FieldTrees) → Moves (walk_fields tree) outer own own (free_fields own tree) (free_fields (outer ++ own) tree) (captures_fields (outer ++ own) tree)
  walks_fields a b NoFields = nothing a b
  walks_fields a b (AField x body place fs) = both (walks_field a b body) (walks_fields a b fs)

-- the walk over the block of a source
pub walks_source : (tree : BlockTree) (w : Walker) → w.bound ≡ [] → w.base ≡ 0 → w.names ≡ [] → w.found ≡ [] → w.captures ≡ []
    → ((walk_block tree w).found ≡ free_block [] tree) × ((walk_block tree w).captures ≡ captures_block [] tree)
walks_source tree w e g h k l =
    let m : Moves (walk_block tree) [] [] [] (free_block [] tree) (free_block [] tree) (captures_block [] tree) = walks_block [] [] tree in
    let start : w ≡ state [] [] [] [] [] = rw (e, g, h, k, l) refl in
    (ap (λ (v : Walker). (walk_block tree v).found) start ∙ ap (λ (v : Walker). v.found) (m.moves [] [] []), ap (λ (v : Walker). (walk_block tree v).captures) start ∙ ap (λ (v : Walker). v.captures) (m.moves [] [] []))
