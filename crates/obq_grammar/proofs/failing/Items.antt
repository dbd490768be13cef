-- Items that begin with a chain of suffixes, which is read first. Behind it stands a `:=` or it doesn't.
-- `plain_at_1`: the chain fails; `plain_at_2`: what makes an expression of it fails; `plain_end`: the expression ends where no item does.
-- `assign_at_3`, `set_field_at_3`, `set_item_at_3`: behind the chain and its `:=` (or a name and its `:=`), what is set fails; `C_end` as in `Bindings`.
-- `no_target_fails`: the `:=` stands behind something else.
use Rattle.std.proofs.Common.{◌≡◌, ℕ, List, [], ◌∷◌, ◌++◌, refl, sym, subst, ap, ◌∙◌}
use Rattle.obq_base.specs.declared.tokens.Token.{Token}
use Rattle.obq_base.specs.declared.tokens.TokenKind.{TokenKind}
use Rattle.obq_base.specs.declared.tokens.TokenKind.TheVariants as k
use Rattle.obq_base.specs.declared.trees.Item.{Item}
use Rattle.obq_base.specs.declared.trees.FieldExpr.{FieldExpr}
use Rattle.obq_base.specs.declared.trees.Expr.{Expr}
use Rattle.obq_base.specs.declared.trees.Suffix.{Suffix}
use Rattle.obq_model.specs.Words.{kw_let, kw_var, sym_assign}
use Rattle.obq_model.specs.Nodes.{token, next, place, suffixed}
use Rattle.obq_model.specs.Grammar.{IsNoOpen, IsItem, IsFieldBody, IsExpr, IsSuffixed, let_, var, assign, set_field, set_item, plain, expr, chain, no_suffix, name}
use Rattle.obq_grammar.specs.Fails.{there, Fails}
use Rattle.obq_grammar.specs.Follow.{No, is_word, EndsSuffixed, EndsExpr, EndsItem, BeginsName}
use Rattle.obq_grammar.proofs.Theory.{Begins, same_front, trans, after, fewer, narrow, move, upto, at, behind}
use Rattle.obq_grammar.proofs.Sets.{item_expr, expr_suffixed, no_open, suffixed_dotted}
use Rattle.obq_grammar.proofs.Firsts.{first_suffixed}
use Rattle.obq_grammar.proofs.Goods.{good_field_body, good_expr}
use Rattle.obq_grammar.proofs.Unique.{unique_suffixed}
use Rattle.obq_grammar.proofs.Local.{local_suffixed}
use Rattle.obq_grammar.specs.Parts.{then_, IsChain, IsRest}
use Rattle.obq_grammar.proofs.failing.Sequences.{also}
use Rattle.obq_grammar.proofs.Chains.{unwind, tail_ends, name_field, name_item, assigned}
use Rattle.obq_grammar.proofs.failing.Levels.{rest_before, rest_expr_join, good_rest, chain_expr, rest_of_expr}
use Rattle.obq_grammar.proofs.failing.Targets.{Ended, selected, indexed, bare_name, local_ended, chain_of, target_of, assigned_field, assigned_item, not_assigned_to, field_set, item_set, field_before, item_before, ended_field, ended_item, ended_of, no_suffixes, last_selection, last_index, Assigned}
use Rattle.obq_grammar.proofs.failing.Stops.{headed}
use Rattle.obq_base.specs.declared.trees.Item.TheVariants as i
use Rattle.obq_base.specs.declared.trees.Expr.TheVariants as e
use Rattle.obq_base.specs.declared.trees.Suffix.TheVariants as s

-- the productions

abbrev NoAssign : TokenKind → Type 0
NoAssign kind = No (is_word sym_assign kind)

at_assign : {q : ℕ} {r w : List Token} → r ≡ token sym_assign q ∷ w → NoAssign (next r) → ⊥
at_assign e n = subst (λ (l : List Token). NoAssign (next l)) e n

-- the chain in front of an item
item_begins : {a : Item} {y s : List Token} → No (is_word kw_let (next y)) → No (is_word kw_var (next y)) → IsItem a y s → EndsItem (next s) → Begins IsChain EndsSuffixed y
item_begins n m (let_ p) h = absurd n
item_begins n m (var p) h = absurd m
item_begins n m (assign {n = i} {p = p} v) h = ((e.Use i p, []), _, chain name no_suffix, tt)
item_begins n m (set_field f b) h = let c = chain_of (selected f (no_open sym_assign tt)) in ((c.0, c.1), _, c.2, tt)
item_begins n m (set_item f i v) h = let c = chain_of (indexed f i) in ((c.0, c.1), _, c.2, tt)
item_begins {s = s} n m (plain (expr l)) h = let u = unwind l in ((u.0, u.1), u.2, u.3, tail_ends u.4 (item_expr (next s) h))

item_chain : {c : Expr × List Suffix} {y r : List Token} → IsChain c y r → (a : Item) × IsItem a y r
item_chain p = let w = chain_expr p in (_, plain w.1)

pub plain_at_1 : {x z : List Token} → No (is_word kw_let (next x)) → No (is_word kw_var (next x)) → Fails IsChain EndsSuffixed x z → Fails IsItem EndsItem x z
plain_at_1 n m = after [] (λ a y s e l h. item_begins (subst (λ (t : TokenKind). No (is_word kw_let t)) (sym e) n) (subst (λ (t : TokenKind). No (is_word kw_var t)) (sym e) m) l h) (λ r h. (r, expr_suffixed (next r) (item_expr (next r) h), λ b y p. item_chain {c = b} p))

-- behind the chain of an item without `:=`

rest_of_item : {h : Expr} {ss : List Suffix} {a : Item} {y w s : List Token} → IsSuffixed h ss y w → EndsSuffixed (next w) → NoAssign (next w) → IsItem a y s → EndsItem (next s) → IsRest 0 tt w s
rest_of_item c u n (let_ p) h = absurd (first_suffixed c)
rest_of_item c u n (var p) h = absurd (first_suffixed c)
rest_of_item c u n (assign p) h = let m = unique_suffixed c u (chain name no_suffix) tt in absurd (at_assign m.2 n)
rest_of_item c u n (set_field f b) h = let m = unique_suffixed c u (chain_of (selected f (no_open sym_assign tt))).2 tt in absurd (at_assign m.2 n)
rest_of_item c u n (set_item f i v) h = let m = unique_suffixed c u (chain_of (indexed f i)).2 tt in absurd (at_assign m.2 n)
rest_of_item {s = s} c u n (plain p) h = rest_of_expr c u p (item_expr (next s) h)

rest_fails : {h : Expr} {ss : List Suffix} {x y z : List Token} → IsSuffixed h ss x y → EndsSuffixed (next y) → NoAssign (next y) → Fails (IsRest 0) EndsItem y z → Fails IsItem EndsItem x z
rest_fails c u n f = record {
  dead = λ v e.
      let d = f.dead v e in
      let same = same_front d.1 e in
      let ends = subst EndsSuffixed (sym same) u in
      let m = local_suffixed c d.0 (λ g. no_open (next d.0) (suffixed_dotted (next d.0) ends)) in (
        m.2,
        trans m.3 d.1,
        λ a s l h. d.2 tt s (rest_of_item m.4 ends (subst NoAssign (sym same) n) l h) h,
      );
  viable = λ r h.
      let w = f.viable r h in
      let ends = rest_before w.4 (item_expr (next r) h) in
      let m = local_suffixed c w.1 (λ g. no_open (next w.1) (suffixed_dotted (next w.1) ends)) in
      let p = rest_expr_join (then_ {a = (m.0, m.1)} m.4 w.4) in
      (_, m.2, w.2, trans m.3 w.3, plain p.1);
}

pub plain_at_2 : {h : Expr} {ss : List Suffix} {x x1 z : List Token} → IsSuffixed h ss x x1 → EndsSuffixed (next x1) → No (is_word sym_assign (next x1)) → Fails (IsRest 0) EndsExpr x1 z → Fails IsItem EndsItem x z
plain_at_2 c u n f = rest_fails c u n (fewer item_expr f)

pub plain_end : {h v : Expr} {ss : List Suffix} {x x1 x2 : List Token} → IsSuffixed h ss x x1 → EndsSuffixed (next x1) → No (is_word sym_assign (next x1)) → IsExpr v x x2 → EndsExpr (next x2) → (EndsItem (next x2) → ⊥) → Fails IsItem EndsItem x x2
plain_end c u n p h f = rest_fails c u n (narrow good_rest item_expr (rest_of_expr c u p h) h f)

-- a name and its `:=`

assign_split : {a : Item} {n : List ℕ} {p q : ℕ} {y s : List Token} → IsItem a (token (k.Name n) p ∷ token sym_assign q ∷ y) s → EndsItem (next s) → (v : Expr) × IsExpr v y s
assign_split (assign p) h = (_, p)
assign_split (set_field f b) h = absurd (name_field f)
assign_split (set_item f i v) h = absurd (name_item f)
assign_split (plain p) h = absurd (assigned p h)

assign_fails : {n : List ℕ} {p q : ℕ} {x z : List Token} → Fails IsExpr EndsItem x z → Fails IsItem EndsItem (token (k.Name n) p ∷ token sym_assign q ∷ x) z
assign_fails {n = n} {p = p} {q = q} = after (token (k.Name n) p ∷ token sym_assign q ∷ []) (λ a y s e l h. let w = assign_split l h in (w.0, s, w.1, h)) (λ r h. (r, h, λ b y m. (_, assign m)))

pub assign_at_3 : {n : List ℕ} {p q : ℕ} {x x1 x2 z : List Token} → x ≡ token (k.Name n) p ∷ x1 → x1 ≡ token sym_assign q ∷ x2 → Fails IsExpr EndsExpr x2 z → Fails IsItem EndsItem x z
assign_at_3 e1 e2 f = at (also e1 e2) (assign_fails (fewer item_expr f))

pub assign_end : {n : List ℕ} {v : Expr} {p q : ℕ} {x x1 x2 x3 : List Token} → x ≡ token (k.Name n) p ∷ x1 → x1 ≡ token sym_assign q ∷ x2 → IsExpr v x2 x3 → EndsExpr (next x3) → (EndsItem (next x3) → ⊥) → Fails IsItem EndsItem x x3
assign_end e1 e2 p3 h3 c = at (also e1 e2) (assign_fails (narrow good_expr item_expr p3 h3 c))

pub assign_of : {n : List ℕ} {v : Expr} {p q : ℕ} {x x1 x2 r : List Token} → x ≡ token (k.Name n) p ∷ x1 → x1 ≡ token sym_assign q ∷ x2 → IsExpr v x2 r → IsItem (i.Assign n v p) x r
assign_of e1 e2 p3 = move IsItem _ _ _ _ (also e1 e2) (assign p3)

chain_as : {h : Expr} {ts us : List Suffix} {x r : List Token} → IsSuffixed h ts x r → ts ≡ us → IsSuffixed h us x r
chain_as {h = h} {x = x} {r = r} c l = subst (λ (n : List Suffix). IsSuffixed h n x r) l c

-- a chain that is a name alone
pub name_target : {h : Expr} {ts : List Suffix} {n : List ℕ} {p : ℕ} {x y r : List Token} → IsSuffixed h ts x r → ts ≡ [] → x ≡ token (k.Name n) p ∷ y → x ≡ token (k.Name n) p ∷ r
name_target c l e = from_bare (chain_as c l) e where
  from_bare : {h : Expr} {n : List ℕ} {p : ℕ} {x y r : List Token} → IsSuffixed h [] x r → x ≡ token (k.Name n) p ∷ y → x ≡ token (k.Name n) p ∷ r
  from_bare (chain d no_suffix) e = also e (ap behind (sym e ∙ (bare_name d (ap next e)).1))

-- another target and its `:=`

target_fails : {B : Type 0} {M : B → List Token → List Token → Type 0} {c q : ℕ} {x y z : List Token} → Ended c x (token sym_assign q ∷ y) →
    ((w l s : List Token) → Assigned w c l s → (b : B) × M b l s) →
    ((b : B) (w l s : List Token) → Ended c w (token sym_assign q ∷ l) → M b l s → (a : Item) × IsItem a w s) →
    Fails M EndsItem y z → Fails IsItem EndsItem x z
target_fails {q = q} m back fore f = record {
  dead = λ v e.
      let d = f.dead v e in
      let n = local_ended m (token sym_assign q ∷ d.0) (λ g. g) in
      (n.0, trans n.1 (there d.1), λ a s l h. let b = back n.0 d.0 s (target_of n.2 refl l h) in d.2 b.0 s b.1 h);
  viable = λ r h.
      let w = f.viable r h in
      let n = local_ended m (token sym_assign q ∷ w.1) (λ g. g) in
      let l = fore w.0 n.0 w.1 r n.2 w.4 in
      (l.0, n.0, w.2, trans n.1 (there w.3), l.1);
}

ended_at : {c q : ℕ} {x r w : List Token} → r ≡ token sym_assign q ∷ w → Ended c x r → Ended c x (token sym_assign q ∷ w)
ended_at {c = c} {x = x} e m = subst (λ (l : List Token). Ended c x l) e m

field_fails : {h : Expr} {q : ℕ} {x x1 x2 z : List Token} (ss : List Suffix) (n : List ℕ) (p : ℕ) → IsSuffixed h (ss ++ s.Select n p ∷ []) x x1 → x1 ≡ token sym_assign q ∷ x2 → Fails IsFieldBody EndsItem x2 z → Fails IsItem EndsItem x z
field_fails ss n p c e = target_fails (ended_at e (ended_field ss n p c)) (λ w l s a. assigned_field a refl) (λ b w l s m f. field_set m refl f)

item_fails : {h : Expr} {q : ℕ} {x x1 x2 z : List Token} (ss : List Suffix) (j : Expr) (p : ℕ) → IsSuffixed h (ss ++ s.Index j p ∷ []) x x1 → x1 ≡ token sym_assign q ∷ x2 → Fails IsExpr EndsItem x2 z → Fails IsItem EndsItem x z
item_fails ss j p c e = target_fails (ended_at e (ended_item ss j p c)) (λ w l s a. assigned_item a refl) (λ b w l s m f. item_set m refl f)

pub set_field_at_3 : {h : Expr} {ts : List Suffix} {q : ℕ} {x x1 x2 z : List Token} (ss : List Suffix) (n : List ℕ) (p : ℕ) → IsSuffixed h ts x x1 → ts ≡ ss ++ s.Select n p ∷ [] → x1 ≡ token sym_assign q ∷ x2 → Fails IsFieldBody EndsExpr x2 z → Fails IsItem EndsItem x z
set_field_at_3 ss n p c l e f = field_fails ss n p (chain_as c l) e (fewer item_expr f)

pub set_field_end : {h : Expr} {ts : List Suffix} {b : FieldExpr} {q : ℕ} {x x1 x2 x3 : List Token} (ss : List Suffix) (n : List ℕ) (p : ℕ) → IsSuffixed h ts x x1 → ts ≡ ss ++ s.Select n p ∷ [] → x1 ≡ token sym_assign q ∷ x2 → IsFieldBody b x2 x3 → EndsExpr (next x3) → (EndsItem (next x3) → ⊥) → Fails IsItem EndsItem x x3
set_field_end ss n p c l e p3 h3 f = field_fails ss n p (chain_as c l) e (narrow good_field_body item_expr p3 h3 f)

pub set_field_of : {h : Expr} {ts : List Suffix} {b : FieldExpr} {q : ℕ} {x x1 x2 r : List Token} (ss : List Suffix) (n : List ℕ) (p : ℕ) → IsSuffixed h ts x x1 → ts ≡ ss ++ s.Select n p ∷ [] → x1 ≡ token sym_assign q ∷ x2 → IsFieldBody b x2 r → IsItem (i.SetField (suffixed h ss) n b (place x)) x r
set_field_of {h = h} ss n p c l e f = let m = field_before ss n p (upto (IsSuffixed h) e (chain_as c l)) in set_field m.1 f

pub set_item_at_3 : {h : Expr} {ts : List Suffix} {q : ℕ} {x x1 x2 z : List Token} (ss : List Suffix) (j : Expr) (p : ℕ) → IsSuffixed h ts x x1 → ts ≡ ss ++ s.Index j p ∷ [] → x1 ≡ token sym_assign q ∷ x2 → Fails IsExpr EndsExpr x2 z → Fails IsItem EndsItem x z
set_item_at_3 ss j p c l e f = item_fails ss j p (chain_as c l) e (fewer item_expr f)

pub set_item_end : {h v : Expr} {ts : List Suffix} {q : ℕ} {x x1 x2 x3 : List Token} (ss : List Suffix) (j : Expr) (p : ℕ) → IsSuffixed h ts x x1 → ts ≡ ss ++ s.Index j p ∷ [] → x1 ≡ token sym_assign q ∷ x2 → IsExpr v x2 x3 → EndsExpr (next x3) → (EndsItem (next x3) → ⊥) → Fails IsItem EndsItem x x3
set_item_end ss j p c l e p3 h3 f = item_fails ss j p (chain_as c l) e (narrow good_expr item_expr p3 h3 f)

pub set_item_of : {h v : Expr} {ts : List Suffix} {q : ℕ} {x x1 x2 r : List Token} (ss : List Suffix) (j : Expr) (p : ℕ) → IsSuffixed h ts x x1 → ts ≡ ss ++ s.Index j p ∷ [] → x1 ≡ token sym_assign q ∷ x2 → IsExpr v x2 r → IsItem (i.SetItem (suffixed h ss) j v (place x)) x r
set_item_of {h = h} ss j p c l e f = let m = item_before ss j p (upto (IsSuffixed h) e (chain_as c l)) in set_item m.2 m.3 f

-- no target

no_target : {c q : ℕ} {x y w : List Token} → Ended c x y → y ≡ token sym_assign q ∷ w → (c ≡ 0 → BeginsName (next x) → ⊥) → (c ≡ 1 → ⊥) → (c ≡ 2 → ⊥) → Fails IsItem EndsItem x y
no_target {x = x} {y = y} m e to_bare to_one to_other = record {
  dead = λ v i.
      let a = headed sym_assign v (λ k. subst NoAssign (sym k) tt) (i ∙ ap next e) in
      let n = local_ended m v (λ g. subst IsNoOpen (sym i) g) in (
        n.0,
        n.1,
        λ b s l h. not_assigned_to (target_of n.2 a.2 l h) (λ k o. to_bare k (subst BeginsName (same_front n.1 i) o)) to_one to_other,
      );
  viable = λ r h.
      let n = local_ended m r (λ g. no_open (next r) (suffixed_dotted (next r) (expr_suffixed (next r) (item_expr (next r) h)))) in
      let c = chain_of n.2 in
      let p = chain_expr c.2 in
      (_, n.0, r, n.1, plain p.1);
}

pub no_target_fails : {h : Expr} {ss : List Suffix} {q : ℕ} {x x1 x2 : List Token} → IsSuffixed h ss x x1 → x1 ≡ token sym_assign q ∷ x2 → (ss ≡ [] → BeginsName (next x) → ⊥) → ((ts : List Suffix) (n : List ℕ) (p : ℕ) → ss ≡ ts ++ s.Select n p ∷ [] → ⊥) → ((ts : List Suffix) (j : Expr) (p : ℕ) → ss ≡ ts ++ s.Index j p ∷ [] → ⊥) → Fails IsItem EndsItem x x1
no_target_fails c e n f i =
    let w = ended_of c in
    no_target w.1 e (λ k. n (no_suffixes w.2 k)) (λ k. let m = last_selection w.2 k in f m.0 m.1 m.2 m.3) (λ k. let m = last_index w.2 k in i m.0 m.1 m.2 m.3)
