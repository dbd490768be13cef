-- Each number that is given to a code is put into one node, or is that of the last code.
use Rattle.std.proofs.Common.{◌≡◌, ◌∙◌, ℕ, zero, suc, Bool, true, false, List, [], ◌∷◌, ◌++◌, ◌+◌, ◌<◌, ◌≤◌, ◌==◌, if◌then◌else◌, refl, ap, sym, subst, inl, inr, ◌⊎◌, length, arith}
use Rattle.std.proofs.lemmas.List.{length_push}
use Rattle.std.proofs.lemmas.Bool.{eqb-true, eq-eqb}
use Rattle.obq_base.specs.declared.code.Node.{Node}
use Rattle.obq_base.specs.declared.code.Node.TheVariants as n
use Rattle.obq_base.specs.declared.code.Code.{Code}
use Rattle.obq_base.specs.declared.code.CodeNo.{CodeNo}
use Rattle.obq_base.specs.Tree.{RecBindTrees, NoRecBinds, ARecBind}
use Rattle.obq_model.specs.Draft.{Draft, Done, Plain, Both, Closure, Method, Group, Members, NoMembers, AMember, count_params}
use Rattle.obq_model.specs.Resolved.{all_numbers, numbers_in, numbers_of, times}
use Rattle.obq_model.proofs.Drafted.{AreDrafted, IsDrafted}
use Rattle.obq_model.specs.Scopes.{Outside}
use Rattle.obq_scope.specs.declared.output.Output.{Output}
use Rattle.obq_scope.specs.Emitted.{closed, emitted, member_numbers, next_number, opened, with_members, with_node}

-- 1 where they are equal
abbrev pub equal : ℕ → ℕ → ℕ
equal m k = if m == k then 1 else 0

-- 1 where k is one of the first m numbers
abbrev below : ℕ → ℕ → ℕ
below k zero = 0
below k (suc m) = equal m k + below k m

-- how often k is among the numbers of the nodes and codes
abbrev total : ℕ → Output → ℕ
total k out = times k (numbers_in out.nodes) + times k (all_numbers out.codes)

plus_assoc : (a b c : ℕ) → a + (b + c) ≡ (a + b) + c
plus_assoc a b c = omega arith

none_more : (a : ℕ) → a ≡ 0 + a
none_more a = omega arith

and_none : (a : ℕ) → a + 0 ≡ a
and_none a = omega arith

times_append : (k : ℕ) (xs ys : List CodeNo) → times k (xs ++ ys) ≡ times k xs + times k ys
times_append k [] ys = none_more (times k ys)
times_append k (x ∷ xs) ys = ap (λ j. equal x.n k + j) (times_append k xs ys) ∙ plus_assoc (equal x.n k) (times k xs) (times k ys)

numbers_push : (k : ℕ) (nodes : List Node) (a : Node) → times k (numbers_in (nodes ++ a ∷ [])) ≡ times k (numbers_in nodes) + times k (numbers_of a)
numbers_push k [] a = times_append k (numbers_of a) [] ∙ and_none (times k (numbers_of a)) ∙ none_more (times k (numbers_of a))
numbers_push k (b ∷ nodes) a =
    times_append k (numbers_of b) (numbers_in (nodes ++ a ∷ [])) ∙ ap (λ j. times k (numbers_of b) + j) (numbers_push k nodes a) ∙ plus_assoc (times k (numbers_of b)) (times k (numbers_in nodes)) (times k (numbers_of a))
    ∙ ap (λ j. j + times k (numbers_of a)) (sym (times_append k (numbers_of b) (numbers_in nodes)))

pub codes_push : (k : ℕ) (codes : List Code) (c : Code) → times k (all_numbers (codes ++ c ∷ [])) ≡ times k (all_numbers codes) + times k (numbers_in c.nodes)
codes_push k [] c = times_append k (numbers_in c.nodes) [] ∙ and_none (times k (numbers_in c.nodes)) ∙ none_more (times k (numbers_in c.nodes))
codes_push k (b ∷ codes) c =
    times_append k (numbers_in b.nodes) (all_numbers (codes ++ c ∷ [])) ∙ ap (λ j. times k (numbers_in b.nodes) + j) (codes_push k codes c) ∙ plus_assoc (times k (numbers_in b.nodes)) (times k (all_numbers codes)) (times k (numbers_in c.nodes))
    ∙ ap (λ j. j + times k (numbers_in c.nodes)) (sym (times_append k (numbers_in b.nodes) (all_numbers codes)))

below_push : (k : ℕ) (codes : List Code) (c : Code) → below k (length (codes ++ c ∷ [])) ≡ equal (length codes) k + below k (length codes)
below_push k codes c = ap (below k) (length_push codes c ∙ next (length codes)) where
  next : (l : ℕ) → l + 1 ≡ suc l
  next l = omega arith

-- what is added to the nodes and codes has the numbers of the codes that are added, each once, but for these, which no node has yet
record Grows (k : ℕ) (waiting : List CodeNo) (before after : Output) : Type 0 where
  grows : (total k after + times k waiting) + below k (length before.codes) ≡ total k before + below k (length after.codes)

nothing : (k : ℕ) (out : Output) → Grows k [] out out
nothing k out = record { grows = ap (λ j. j + below k (length out.codes)) (and_none (total k out)) }

one_after : {k : ℕ} {a b c : Output} → Grows k [] a b → Grows k [] b c → Grows k [] a c
one_after {k} {a} {b} {c} g h = record { grows = added (total k a) (total k b) (total k c) (below k (length a.codes)) (below k (length b.codes)) (below k (length c.codes)) g.grows h.grows } where
  added : (ta tb tc la lb lc : ℕ) → (tb + 0) + la ≡ ta + lb → (tc + 0) + lb ≡ tb + lc → (tc + 0) + la ≡ ta + lc
  added ta tb tc la lb lc e f = omega (arith, e, f)

-- a node whose numbers these are
push : {k : ℕ} {before after : Output} (a : Node) → Grows k (numbers_of a) before after → Grows k [] before (with_node a after)
push {k} {before} {after} a g = record {
  grows = ap (λ j. ((j + times k (all_numbers after.codes)) + 0) + below k (length before.codes)) (numbers_push k after.nodes a)
      ∙ moved (times k (numbers_in after.nodes)) (times k (numbers_of a)) (times k (all_numbers after.codes)) (below k (length before.codes)) ∙ g.grows;
} where
  moved : (x y z l : ℕ) → ((((x + y) + z) + 0) + l) ≡ (((x + z) + y) + l)
  moved x y z l = omega arith

-- a node without numbers
plain : {k : ℕ} (a : Node) (out : Output) → numbers_of a ≡ [] → Grows k [] out (with_node a out)
plain {k} a out e = push a (subst (λ (l : List CodeNo). Grows k l out out) (sym e) (nothing k out))

-- a code that is whole; no node has its number yet
whole : {k : ℕ} (source captures params : ℕ) (before inner : Output) → Grows k [] (opened before) inner → Grows k (next_number source inner ∷ []) before (closed captures params before.nodes inner)
whole {k} source captures params before inner g = record {
  grows =
      ap (λ j. ((times k (numbers_in before.nodes) + j) + (equal (length inner.codes) k + 0)) + below k (length before.codes)) (codes_push k inner.codes code)
      ∙ added (times k (numbers_in before.nodes)) (times k (all_numbers inner.codes)) (times k (numbers_in inner.nodes)) (equal (length inner.codes) k) (below k (length before.codes)) (times k (all_numbers before.codes)) (below k (length inner.codes)) g.grows
      ∙ ap (λ j. (times k (numbers_in before.nodes) + times k (all_numbers before.codes)) + j) (sym (below_push k inner.codes code));
} where
  code : Code
  code = record { params = params; captures = captures; nodes = inner.nodes }

  added : (x a y e l z m : ℕ) → ((y + a) + 0) + l ≡ (0 + z) + m → (((x + (a + y)) + (e + 0)) + l) ≡ (x + z) + (e + m)
  added x a y e l z m h = omega (arith, h)

-- one more number waits
waits : {k : ℕ} {before mid after : Output} (number : CodeNo) (numbers : List CodeNo) → Grows k (number ∷ []) before mid → Grows k numbers mid after → Grows k (number ∷ numbers) before after
waits {k} {before} {mid} {after} number numbers g h = record {
  grows = added (total k before) (total k mid) (total k after) (equal number.n k) (times k numbers) (below k (length before.codes)) (below k (length mid.codes)) (below k (length after.codes)) g.grows h.grows;
} where
  added : (ta tb tc e w la lb lc : ℕ) → (tb + (e + 0)) + la ≡ ta + lb → (tc + w) + lb ≡ tb + lc → (tc + (e + w)) + la ≡ ta + lc
  added ta tb tc e w la lb lc g h = omega (arith, g, h)

mutual
  draft_grows : (k source : ℕ) (d : Draft) → IsDrafted d → (out : Output) → Grows k [] out (emitted source d out)
  draft_grows k source Done w out = nothing k out
  draft_grows k source (Plain a d) w out = one_after (plain a out w.1) (draft_grows k source d w.2 (with_node a out))
  draft_grows k source (Both d e) w out = one_after (draft_grows k source d w.0 out) (draft_grows k source e w.1 (emitted source d out))
  draft_grows k source (Closure from u p body d) w out =
      let inner : Output = emitted source body (opened out) in
      one_after (push (n.Proc (next_number source inner) from) (whole source (length from) (count_params p) out inner (draft_grows k source body w.2 (opened out)))) (draft_grows k source d w.3 _)
  draft_grows k source (Method from u p body d) w out =
      let inner : Output = emitted source body (opened out) in
      one_after (push (n.Meth (next_number source inner) from) (whole source (length from) (count_params p) out inner (draft_grows k source body w.2 (opened out)))) (draft_grows k source d w.3 _)
  draft_grows k source (Group from u bs bodies d) w out =
      one_after (push (n.LetRec (member_numbers source (length from) bs bodies out) from) (members_grow k source (length from) u bs bodies w.1 out)) (draft_grows k source d w.2 _)

  members_grow : (k source captures : ℕ) (u : Outside) (bs : RecBindTrees) (bodies : Members) → AreDrafted u bs bodies → (out : Output) → Grows k (member_numbers source captures bs bodies out) out (with_members source captures bs bodies out)
  members_grow k source captures u NoRecBinds NoMembers w out = nothing k out
  members_grow k source captures u NoRecBinds (AMember body bodies) w out = absurd w
  members_grow k source captures u (ARecBind x p place bs) NoMembers w out = absurd w
  members_grow k source captures u (ARecBind x p place bs) (AMember body bodies) w out =
      let inner : Output = emitted source body (opened out) in
      waits (next_number source inner) (member_numbers source captures bs bodies (closed captures (count_params p) out.nodes inner))
      (whole source captures (count_params p) out inner (draft_grows k source body w.1 (opened out))) (members_grow k source captures u bs bodies w.2 (closed captures (count_params p) out.nodes inner))

-- ---- all numbers of a source

equal_same : (m k : ℕ) → m ≡ k → equal m k ≡ 1
equal_same m k e = ap (λ (b : Bool). if b then 1 else 0) (eq-eqb m k e)

not_equal : (m k : ℕ) → (m ≡ k → ⊥) → equal m k ≡ 0
not_equal m k ne = at (m == k) refl where
  at : (b : Bool) → (m == k) ≡ b → ◌≡◌ {A = ℕ} (if b then 1 else 0) 0
  at true e = absurd (ne (eqb-true m k e))
  at false e = refl

not_below : (k m : ℕ) → m ≤ k → below k m ≡ 0
not_below k zero l = refl
not_below k (suc m) l = ap (λ j. j + below k m) (not_equal m k (λ e. omega (arith, l, e))) ∙ sum (below k m) (not_below k m (omega (arith, l))) where
  sum : (b : ℕ) → b ≡ 0 → 0 + b ≡ 0
  sum b e = omega (arith, e)

last_or : (k m : ℕ) → k < suc m → (m ≡ k) ⊎ (k < m)
last_or zero zero l = inl refl
last_or zero (suc m) l = inr (omega arith)
last_or (suc k) zero l = absurd (omega (arith, l))
last_or (suc k) (suc m) l = elim (last_or k m (omega (arith, l))) [ inl e ↦ inl (ap suc e) | inr f ↦ inr (omega (arith, f)) ]

is_below : (k m : ℕ) → k < m → below k m ≡ 1
is_below k zero l = absurd (omega (arith, l))
is_below k (suc m) l = elim (last_or k m l) [
  | inl e ↦ ap (λ j. j + below k m) (equal_same m k e) ∙ ap (λ j. 1 + j) (not_below k m (omega (arith, e)))
  | inr f ↦ ap (λ j. j + below k m) (not_equal m k (λ e. omega (arith, f, e))) ∙ ap (λ j. 0 + j) (is_below k m f)
]

-- the numbers of a source's codes, with that of its main code
pub once : (k source : ℕ) (d : Draft) → IsDrafted d → (out : Output) → out.nodes ≡ [] → out.codes ≡ [] → k < suc (length (emitted source d out).codes)
    → equal (length (emitted source d out).codes) k + (times k (all_numbers (emitted source d out).codes) + times k (numbers_in (emitted source d out).nodes)) ≡ 1
once k source d w out e f l =
    let g : Grows k [] out (emitted source d out) = draft_grows k source d w out in
    added (equal (length (emitted source d out).codes) k) (times k (all_numbers (emitted source d out).codes)) (times k (numbers_in (emitted source d out).nodes)) (below k (length (emitted source d out).codes))
    (ap (λ (cs : List Code). total k (emitted source d out) + 0 + below k (length cs)) (sym f) ∙ g.grows
    ∙ ap (λ (x : List Node). times k (numbers_in x) + times k (all_numbers out.codes) + below k (length (emitted source d out).codes)) e
    ∙ ap (λ (cs : List Code). 0 + times k (all_numbers cs) + below k (length (emitted source d out).codes)) f)
    ∙ is_below k (suc (length (emitted source d out).codes)) l where
      added : (e a x b : ℕ) → (x + a) + 0 + 0 ≡ 0 + 0 + b → e + (a + x) ≡ e + b
      added e a x b h = omega (arith, h)
