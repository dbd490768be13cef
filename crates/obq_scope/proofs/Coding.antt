-- Where the names that procedures capture lie ahead, and no number has more than 32 bits, a tree adds what its draft does.
use Rattle.std.proofs.Common.{◌≡◌, ◌∙◌, ◌+◌, ◌<◌, ◌≤◌, ℕ, List, [], ◌∷◌, ◌++◌, Option, None, Some, arith, refl, ap, sym, subst, length, append_assoc}
use Rattle.std.proofs.lemmas.List.{append-nil, length-append, length-map}
use Rattle.obq_base.specs.declared.code.CodeNo.{CodeNo}
use Rattle.obq_base.specs.declared.code.Node.{Node}
use Rattle.obq_base.specs.declared.code.Node.TheVariants as n
use Rattle.obq_base.specs.declared.code.Slot.{Slot}
use Rattle.obq_base.specs.Tree.{BlockTree, BlockOf, MaybeBlock, NoBlock, ABlock, ItemTrees, NoItems, AnItem, ItemTree, LetItem, VarItem, LetRecItem, AssignItem, FieldItem, IndexItem, PlainItem, BindTrees, NoBinds, ABind, RecBindTrees, NoRecBinds, ARecBind, ProcedureTree, AProc, FieldTree, ValueOf, MethodOf, AliasOf, ExprTree, IntTree, TextTree, TruthTree, OkTree, NameTree, ProcTree, ArrayTree, ObjectTree, IfTree, LoopTree, ExitTree, ForTree, ForeachTree, TryTree, FinallyTree, RaiseTree, WatchTree, RedirectTree, CloneTree, ChainTree, SuffixedTree, ExprTrees, NoExprs, AnExpr, LinkTrees, NoLinks, ALink, SuffixTree, ApplySuffix, SelectSuffix, InvokeSuffix, IndexSuffix, SuffixTrees, NoSuffixes, ASuffix, ArmTrees, NoArms, AnArm, FieldTrees, NoFields, AField}
use Rattle.obq_model.specs.Draft.{Draft, Plain, Both, behind_first, call_node, called_row, captured_by, captured_by_group, count_binds, count_exprs, count_items, count_params, count_suffixes, draft_arms, draft_binds, draft_block, draft_body, draft_expr, draft_exprs, draft_field, draft_fields, draft_item, draft_items, draft_links, draft_maybe, draft_members, draft_suffix, draft_suffixes, field_names, has_block, operators_of}
use Rattle.obq_model.specs.Occurrences.{bind_names, free_members, free_procedure, item_names, member_names}
use Rattle.obq_model.specs.Scopes.{Outside, inside, outermost, slot_of, slots_of}
use Rattle.obq_names.specs.Captures.{captured_names, captures_arms, captures_binds, captures_block, captures_body, captures_expr, captures_exprs, captures_field, captures_fields, captures_item, captures_items, captures_links, captures_maybe, captures_members, captures_suffix, captures_suffixes, group_names}
use Rattle.obq_names.proofs.Unions.{Names}
use Rattle.obq_scope.specs.declared.emitter.Emitter.{Emitter}
use Rattle.obq_scope.specs.declared.output.Output.{Output}
use Rattle.obq_scope.specs.Coded.{begun, captured, coded_arms, coded_binds, coded_block, coded_body, coded_expr, coded_exprs, coded_field, coded_fields, coded_item, coded_items, coded_links, coded_maybe, coded_members, coded_numbers, coded_suffix, coded_suffixes, emitter_with, past_captures, whole}
use Rattle.obq_scope.specs.Emitted.{closed, emitted, member_numbers, next_number, opened, with_members, with_node}
use Rattle.obq_scope.specs.Narrowed.{found_slot, found_slots, narrowed, numbered}
use Rattle.obq_scope.specs.Sizes.{size_arms, size_binds, size_block, size_body, size_expr, size_exprs, size_field, size_fields, size_item, size_items, size_links, size_maybe, size_members, size_suffix, size_suffixes}
use Rattle.obq_scope.proofs.Covered.{Covers, captures_are, covers_group, covers_inside, covers_more, covers_nothing}
use Rattle.obq_scope.proofs.Rooms.{Room, narrow_at, slot_at, slots_at}
use Rattle.obq_scope.proofs.Stepping.{Codes, Fits, armed, at, both, counted, fits, inside_block, joins, names_alone, nothing, one, pushes, puts, tried, under, wider}
use Rattle.obq_scope.proofs.Sized.{behind_fit, binds_fit, captured_fits, exprs_fit, items_fit, members_fit, occurs_members, occurs_procedure, params_fit, suffixes_fit}

-- the names that a procedure captures are at most so many
captures_fit : (o : Outside) (locals : Names) (p : ProcedureTree) → length (captured_by o locals p) ≤ size_body p
captures_fit o locals p = let a = captured_fits o locals [] (free_procedure [] p) in let b = occurs_procedure [] p in omega (arith, a, b)

-- a procedure or method
closure : (o : Outside) (locals bound : Names) (p : ProcedureTree) (make : CodeNo → List Slot → Node) (out : Output) → Covers o locals bound
    → Fits (inside o [] (captured_by o locals p)) [] (coded_body (inside o [] (captured_by o locals p)) p) (captures_body bound p) 0 (size_body p) (opened out)
    (emitted o.source (draft_body (inside o [] (captured_by o locals p)) p) (opened out))
    → Fits o locals (λ s. emitter_with (make (numbered o.source (coded_body (inside o [] (captured o locals s)) p (begun s)).output) (found_slots o locals (captured o locals s)))
    (whole (narrowed (length (captured o locals s))) (narrowed (count_params p)) s.output.nodes (coded_body (inside o [] (captured o locals s)) p (begun s))))
    (captured_names bound p ∷ captures_body bound p) 0 (1 + size_body p) out
    (with_node (make (next_number o.source (emitted o.source (draft_body (inside o [] (captured_by o locals p)) p) (opened out))) (slots_of o locals (captured_by o locals p)))
    (closed (length (slots_of o locals (captured_by o locals p))) (count_params p) out.nodes (emitted o.source (draft_body (inside o [] (captured_by o locals p)) p) (opened out))))
closure o locals bound p make out c body r =
    let room = r.room in
    let names : Names = captured_by o locals p in
    let caught : length names ≤ size_body p = captures_fit o locals p in
    let m = body (record { room = omega (arith, room); members = omega arith; captured = omega (arith, room, caught) }) in
    let last : Output = emitted o.source (draft_body (inside o [] names) p) (opened out) in
    let many = m.many in
    let few : length last.codes < 4294967296 = omega (arith, many, room) in
    let short : length names < 4294967296 = omega (arith, room, caught) in
    let own : count_params p < 4294967296 = let fit = params_fit p in omega (arith, room, fit) in
    record {
      codes = λ more.
          let start : Emitter = at (opened out) (captures_body bound p ++ more) in
          ap (λ (z : Names). emitter_with (make (numbered o.source (coded_body (inside o [] z) p start).output) (found_slots o locals z)) (whole (narrowed (length z)) (narrowed (count_params p)) out.nodes (coded_body (inside o [] z) p start)))
          (captures_are o locals bound (free_procedure [] p) c)
          ∙ ap (λ (v : Emitter). emitter_with (make (numbered o.source v.output) (found_slots o locals names)) (whole (narrowed (length names)) (narrowed (count_params p)) out.nodes v)) (m.codes more)
          ∙ ap (λ (k : ℕ). at (with_node (make (record { source = o.source; n = k }) (found_slots o locals names)) (closed (narrowed (length names)) (narrowed (count_params p)) out.nodes last)) more) (narrow_at (length last.codes) few)
          ∙ ap (λ (l : List Slot). at (with_node (make (next_number o.source last) l) (closed (narrowed (length names)) (narrowed (count_params p)) out.nodes last)) more) (slots_at r names)
          ∙ ap (λ (k : ℕ). at (with_node (make (next_number o.source last) (slots_of o locals names)) (closed (narrowed (length names)) k out.nodes last)) more) (narrow_at (count_params p) own)
          ∙ ap (λ (k : ℕ). at (with_node (make (next_number o.source last) (slots_of o locals names)) (closed k (count_params p) out.nodes last)) more) (narrow_at (length names) short)
          ∙ ap (λ (k : ℕ). at (with_node (make (next_number o.source last) (slots_of o locals names)) (closed k (count_params p) out.nodes last)) more) (sym (length-map names (slot_of o locals)));
      many = let push = length-append last.codes (record { params = count_params p; captures = length (slots_of o locals names); nodes = last.nodes } ∷ []) in omega (arith, many, push);
    }

-- the members of a `let rec`, and the numbers of their codes
record Group (o : Outside) (bs : RecBindTrees) (lists : List Names) (before after : Output) (numbers : List CodeNo) : Type 0 where
  codes : (more : List Names) → coded_members o bs (at before (lists ++ more)) ≡ at after more
  tells : (more : List Names) → coded_numbers o bs (at before (lists ++ more)) ≡ numbers
  many : length after.codes + length (member_names bs) ≤ length before.codes + size_members bs

abbrev Groups : Outside → RecBindTrees → List Names → (before after : Output) → List CodeNo → Type 0
Groups o bs lists before after numbers = Room o [] before (size_members bs) → Group o bs lists before after numbers

-- one more member
member : (o : Outside) (bound : Names) (x : List ℕ) (p : ProcedureTree) (place : ℕ) (bs : RecBindTrees) (out last after : Output) (numbers : List CodeNo)
    → Fits o [] (coded_body o p) (captures_body bound p) 0 (size_body p) (opened out) last
    → Groups o bs (captures_members bound bs) (closed (length o.captured) (count_params p) out.nodes last) after numbers
    → Groups o (ARecBind x p place bs) (captures_body bound p ++ captures_members bound bs) out after (next_number o.source last ∷ numbers)
member o bound x p place bs out last after numbers body group r =
    let room = r.room in
    let m = body (record { room = omega (arith, room); members = r.members; captured = r.captured }) in
    let first_many = m.many in
    let push = length-append last.codes (record { params = count_params p; captures = length o.captured; nodes = last.nodes } ∷ []) in
    let g = group (record { room = omega (arith, room, first_many, push); members = r.members; captured = r.captured }) in
    let then_many = g.many in
    let few : length last.codes < 4294967296 = omega (arith, first_many, room) in
    let own : count_params p < 4294967296 = let fit = params_fit p in omega (arith, room, fit) in
    let next : Emitter → Emitter = whole (length o.captured) (count_params p) out.nodes in
    let same : (v : Emitter) → whole (narrowed (length o.captured)) (narrowed (count_params p)) out.nodes v ≡ next v =
    λ v. ap (λ k. whole k (narrowed (count_params p)) out.nodes v) (narrow_at (length o.captured) r.captured) ∙ ap (λ k. whole (length o.captured) k out.nodes v) (narrow_at (count_params p) own) in
    let first : (more : List Names) → coded_body o p (at (opened out) ((captures_body bound p ++ captures_members bound bs) ++ more)) ≡ at last (captures_members bound bs ++ more) =
    λ more. ap (λ (z : List Names). coded_body o p (at (opened out) z)) (append_assoc (captures_body bound p) (captures_members bound bs) more) ∙ m.codes (captures_members bound bs ++ more) in
    record {
      codes = λ more.
          ap (λ (v : Emitter). coded_members o bs (whole (narrowed (length o.captured)) (narrowed (count_params p)) out.nodes v)) (first more)
          ∙ ap (coded_members o bs) (same (at last (captures_members bound bs ++ more))) ∙ g.codes more;
      tells = λ more.
          ap (λ (v : Emitter). numbered o.source v.output ∷ coded_numbers o bs (whole (narrowed (length o.captured)) (narrowed (count_params p)) out.nodes v)) (first more)
          ∙ ap (λ (v : Emitter). numbered o.source last ∷ coded_numbers o bs v) (same (at last (captures_members bound bs ++ more)))
          ∙ ap (λ (l : List CodeNo). numbered o.source last ∷ l) (g.tells more)
          ∙ ap (λ (k : ℕ). record { source = o.source; n = k } ∷ numbers) (narrow_at (length last.codes) few);
      many = omega (arith, first_many, then_many, push);
    }

-- a `let rec`
group : (o : Outside) (locals bound : Names) (bs : RecBindTrees) (out : Output) → Covers o locals bound
    → Groups (inside o (member_names bs) (captured_by_group o locals bs)) bs (captures_members (bound ++ member_names bs) bs) out
    (with_members o.source (length (captured_by_group o locals bs)) bs (draft_members (inside o (member_names bs) (captured_by_group o locals bs)) bs) out)
    (member_numbers o.source (length (captured_by_group o locals bs)) bs (draft_members (inside o (member_names bs) (captured_by_group o locals bs)) bs) out)
    → Fits o locals (λ s. emitter_with (n.LetRec (coded_numbers (inside o (member_names bs) (captured o locals s)) bs (past_captures s)) (found_slots o locals (captured o locals s)))
    (coded_members (inside o (member_names bs) (captured o locals s)) bs (past_captures s)))
    (group_names bound bs ∷ captures_members (bound ++ member_names bs) bs) (length (member_names bs)) (size_members bs) out
    (with_node
    (n.LetRec (member_numbers o.source (length (slots_of o locals (captured_by_group o locals bs))) bs (draft_members (inside o (member_names bs) (captured_by_group o locals bs)) bs) out)
    (slots_of o locals (captured_by_group o locals bs)))
    (with_members o.source (length (slots_of o locals (captured_by_group o locals bs))) bs (draft_members (inside o (member_names bs) (captured_by_group o locals bs)) bs) out))
group o locals bound bs out c members r =
    let room = r.room in
    let names : Names = captured_by_group o locals bs in
    let caught : length names ≤ size_members bs =
    (let a = captured_fits o locals [] (free_members (member_names bs) bs) in let b = occurs_members (member_names bs) bs in omega (arith, a, b)) in
    let own : length (member_names bs) ≤ size_members bs = members_fit bs in
    let g = members (record { room = omega (arith, room); members = omega (arith, room, own); captured = omega (arith, room, caught) }) in
    let many = g.many in
    record {
      codes = λ more.
          let start : Emitter = at out (captures_members (bound ++ member_names bs) bs ++ more) in
          let last : ℕ → Emitter = λ k. emitter_with (n.LetRec (member_numbers o.source k bs (draft_members (inside o (member_names bs) names) bs) out) (slots_of o locals names))
          (at (with_members o.source k bs (draft_members (inside o (member_names bs) names) bs) out) more) in
          ap (λ (z : Names). emitter_with (n.LetRec (coded_numbers (inside o (member_names bs) z) bs start) (found_slots o locals z)) (coded_members (inside o (member_names bs) z) bs start))
          (captures_are o locals bound (free_members (member_names bs) bs) c)
          ∙ ap (λ (l : List CodeNo). emitter_with (n.LetRec l (found_slots o locals names)) (coded_members (inside o (member_names bs) names) bs start)) (g.tells more)
          ∙ ap (λ (l : List Slot). emitter_with (n.LetRec (member_numbers o.source (length names) bs (draft_members (inside o (member_names bs) names) bs) out) l) (coded_members (inside o (member_names bs) names) bs start)) (slots_at r names)
          ∙ ap (λ (v : Emitter). emitter_with (n.LetRec (member_numbers o.source (length names) bs (draft_members (inside o (member_names bs) names) bs) out) (slots_of o locals names)) v) (g.codes more)
          ∙ ap last (sym (length-map names (slot_of o locals)));
      many = subst (λ j. length (with_members o.source j bs (draft_members (inside o (member_names bs) names) bs) out).codes + length (member_names bs) ≤ length out.codes + size_members bs) (sym (length-map names (slot_of o locals))) many;
    }

none : {row : ℕ} (bound : Names) (e : ExprTree) → None ≡ Some row → captures_expr bound e ≡ []
none bound e h = cc h

-- nothing is captured in the name of a built-in
in_called : (o : Outside) (locals bound : Names) (e : ExprTree) (ss : SuffixTrees) (row : ℕ) → called_row o locals e ss ≡ Some row → captures_expr bound e ≡ []
in_called o locals bound (IntTree z place) ss row h = refl
in_called o locals bound (TextTree t place) ss row h = refl
in_called o locals bound (TruthTree t place) ss row h = refl
in_called o locals bound (OkTree place) ss row h = refl
in_called o locals bound (NameTree x place) ss row h = refl
in_called o locals bound (ProcTree p) ss row h = none bound (ProcTree p) h
in_called o locals bound (ArrayTree es place) ss row h = none bound (ArrayTree es place) h
in_called o locals bound (ObjectTree flags fs place) ss row h = none bound (ObjectTree flags fs place) h
in_called o locals bound (IfTree arms last place) ss row h = none bound (IfTree arms last place) h
in_called o locals bound (LoopTree t place) ss row h = none bound (LoopTree t place) h
in_called o locals bound (ExitTree place) ss row h = refl
in_called o locals bound (ForTree x a b t place) ss row h = none bound (ForTree x a b t place) h
in_called o locals bound (ForeachTree x e t place) ss row h = none bound (ForeachTree x e t place) h
in_called o locals bound (TryTree t arms last place) ss row h = none bound (TryTree t arms last place) h
in_called o locals bound (FinallyTree t last place) ss row h = none bound (FinallyTree t last place) h
in_called o locals bound (RaiseTree e place) ss row h = none bound (RaiseTree e place) h
in_called o locals bound (WatchTree a b place) ss row h = none bound (WatchTree a b place) h
in_called o locals bound (RedirectTree a b place) ss row h = none bound (RedirectTree a b place) h
in_called o locals bound (CloneTree es place) ss row h = none bound (CloneTree es place) h
in_called o locals bound (ChainTree e links) ss row h = none bound (ChainTree e links) h
in_called o locals bound (SuffixedTree e rest) ss row h = none bound (SuffixedTree e rest) h

abbrev coded_by : Outside → Names → ExprTree → SuffixTrees → Emitter → Option ℕ → Emitter
coded_by o locals e ss s row =
    elim row [
      | None ↦ coded_suffixes o locals None ss (coded_expr o locals e (emitter_with (n.Suffixes (narrowed (count_suffixes ss))) s))
      | Some k ↦ coded_suffixes o locals (Some k) ss (emitter_with (n.Suffixes (narrowed (count_suffixes (behind_first ss)))) s)
    ]

abbrev draft_by : Outside → Names → ExprTree → SuffixTrees → Option ℕ → Draft
draft_by o locals e ss row =
    elim row [
      | None ↦ Plain (n.Suffixes (count_suffixes ss)) (Both (draft_expr o locals e) (draft_suffixes o locals None ss))
      | Some k ↦ Plain (n.Suffixes (count_suffixes (behind_first ss))) (draft_suffixes o locals (Some k) ss)
    ]

-- an expression with suffixes, whose first one may call a built-in
suffixed : (o : Outside) (locals bound : Names) (e : ExprTree) (ss : SuffixTrees) (out : Output) (row : Option ℕ) → called_row o locals e ss ≡ row
    → ((a : Output) → Fits o locals (coded_expr o locals e) (captures_expr bound e) 0 (size_expr e) a (emitted o.source (draft_expr o locals e) a))
    → ((r : Option ℕ) (a : Output) → Fits o locals (coded_suffixes o locals r ss) (captures_suffixes bound ss) 0 (size_suffixes ss) a (emitted o.source (draft_suffixes o locals r ss) a))
    → Fits o locals (λ s. coded_by o locals e ss s row) (captures_expr bound e ++ captures_suffixes bound ss) 0 (size_expr e + size_suffixes ss) out (emitted o.source (draft_by o locals e ss row) out)
suffixed o locals bound e ss out None h m p =
    pushes (n.Suffixes (narrowed (count_suffixes ss))) (n.Suffixes (count_suffixes ss)) out (λ r. ap n.Suffixes (fits (count_suffixes ss) (size_suffixes ss) (size_expr e) (suffixes_fit ss) r)) (both (m _) (p None _))
suffixed o locals bound e ss out (Some row) h m p =
    subst (λ (l : List Names). Fits o locals (λ s. coded_by o locals e ss s (Some row)) (l ++ captures_suffixes bound ss) 0 (size_expr e + size_suffixes ss) out (emitted o.source (draft_by o locals e ss (Some row)) out)) (sym (in_called o locals bound e ss row h))
    (pushes (n.Suffixes (narrowed (count_suffixes (behind_first ss)))) (n.Suffixes (count_suffixes (behind_first ss))) out
    (λ r. ap n.Suffixes (fits (count_suffixes (behind_first ss)) (size_suffixes ss) (size_expr e) (behind_fit ss) r)) (wider (size_expr e) (omega arith) (p (Some row) _)))

mutual
  codes_block : (o : Outside) (locals bound : Names) (tree : BlockTree) (out : Output) → Covers o locals bound
      → Fits o locals (coded_block o locals tree) (captures_block bound tree) 0 (size_block tree) out (emitted o.source (draft_block o locals tree) out)
  codes_block o l b (BlockOf is place) out c = counted n.Block (count_items is) (size_items is) out (items_fit is) (codes_items o l b is _ c)

  codes_maybe : (o : Outside) (locals bound : Names) (tree : MaybeBlock) (out : Output) → Covers o locals bound
      → Fits o locals (coded_maybe o locals tree) (captures_maybe bound tree) 0 (size_maybe tree) out (emitted o.source (draft_maybe o locals tree) out)
  codes_maybe o l b NoBlock out c = nothing out
  codes_maybe o l b (ABlock t) out c = codes_block o l b t out c

  codes_items : (o : Outside) (locals bound : Names) (tree : ItemTrees) (out : Output) → Covers o locals bound
      → Fits o locals (coded_items o locals tree) (captures_items bound tree) 0 (size_items tree) out (emitted o.source (draft_items o locals tree) out)
  codes_items o l b NoItems out c = nothing out
  codes_items o l b (AnItem i is) out c = joins (item_names i) (one (codes_item o l b i out c)) (codes_items o (l ++ item_names i) (b ++ item_names i) is _ (covers_more o l b (item_names i) c))

  codes_item : (o : Outside) (locals bound : Names) (tree : ItemTree) (out : Output) → Covers o locals bound
      → Fits o locals (coded_item o locals tree) (captures_item bound tree) (length (item_names tree)) (size_item tree) out (emitted o.source (draft_item o locals tree) out)
  codes_item o l b (LetItem bs place) out c = counted n.Let (count_binds bs) (size_binds bs) out (binds_fit bs) (codes_binds o l b bs _ c)
  codes_item o l b (VarItem bs place) out c = counted n.Var (count_binds bs) (size_binds bs) out (binds_fit bs) (codes_binds o l b bs _ c)
  codes_item o l b (LetRecItem bs place) out c =
      group o l b bs out c (codes_members (inside o (member_names bs) (captured_by_group o l bs)) (b ++ member_names bs) bs out (covers_group o l b (member_names bs) (free_members (member_names bs) bs) c))
  codes_item o l b (AssignItem x e place) out c = pushes (n.Assign (found_slot o l x)) (n.Assign (slot_of o l x)) out (λ r. ap n.Assign (slot_at r x)) (one (codes_expr o l b e _ c))
  codes_item o l b (FieldItem e x body place) out c = puts (n.SetField x) out (both (codes_expr o l b e _ c) (codes_field o l b body _ c))
  codes_item o l b (IndexItem a i e place) out c = puts n.SetItem out (both (codes_expr o l b a _ c) (both (codes_expr o l b i _ c) (codes_expr o l b e _ c)))
  codes_item o l b (PlainItem e) out c = codes_expr o l b e out c

  codes_binds : (o : Outside) (locals bound : Names) (tree : BindTrees) (out : Output) → Covers o locals bound
      → Fits o locals (coded_binds o locals tree) (captures_binds bound tree) (length (bind_names tree)) (size_binds tree) out (emitted o.source (draft_binds o locals tree) out)
  codes_binds o l b NoBinds out c = nothing out
  codes_binds o l b (ABind x e place bs) out c = both (codes_expr o l b e out c) (under x (codes_binds o (l ++ x ∷ []) (b ++ x ∷ []) bs _ (covers_more o l b (x ∷ []) c)))

  codes_members : (o : Outside) (bound : Names) (tree : RecBindTrees) (out : Output) → Covers o [] bound
      → Groups o tree (captures_members bound tree) out (with_members o.source (length o.captured) tree (draft_members o tree) out) (member_numbers o.source (length o.captured) tree (draft_members o tree) out)
  codes_members o b NoRecBinds out c = λ r. record { codes = λ more. refl; tells = λ more. refl; many = omega arith }
  codes_members o b (ARecBind x p place bs) out c = member o b x p place bs out _ _ _ (codes_body o b p (opened out) c) (codes_members o b bs _ c)

  codes_body : (o : Outside) (bound : Names) (tree : ProcedureTree) (out : Output) → Covers o [] bound
      → Fits o [] (coded_body o tree) (captures_body bound tree) 0 (size_body tree) out (emitted o.source (draft_body o tree) out)
  codes_body o b (AProc params t place) out c = joins params (names_alone params out) (codes_block o params (b ++ params) t out (covers_more o [] b params c))

  codes_field : (o : Outside) (locals bound : Names) (tree : FieldTree) (out : Output) → Covers o locals bound
      → Fits o locals (coded_field o locals tree) (captures_field bound tree) 0 (size_field tree) out (emitted o.source (draft_field o locals tree) out)
  codes_field o l b (ValueOf e) out c = codes_expr o l b e out c
  codes_field o l b (MethodOf p) out c = closure o l b p n.Meth out c (codes_body (inside o [] (captured_by o l p)) b p (opened out) (covers_inside o l b (free_procedure [] p) c))
  codes_field o l b (AliasOf x e place) out c = puts (n.Alias x) out (codes_expr o l b e _ c)

  codes_expr : (o : Outside) (locals bound : Names) (tree : ExprTree) (out : Output) → Covers o locals bound
      → Fits o locals (coded_expr o locals tree) (captures_expr bound tree) 0 (size_expr tree) out (emitted o.source (draft_expr o locals tree) out)
  codes_expr o l b (IntTree z place) out c = puts (n.Int z) out (nothing _)
  codes_expr o l b (TextTree t place) out c = puts (n.Str t) out (nothing _)
  codes_expr o l b (TruthTree t place) out c = puts (n.Truth t) out (nothing _)
  codes_expr o l b (OkTree place) out c = puts n.Okay out (nothing _)
  codes_expr o l b (NameTree x place) out c = pushes (n.Use (found_slot o l x)) (n.Use (slot_of o l x)) out (λ r. ap n.Use (slot_at r x)) (one (nothing _))
  codes_expr o l b (ProcTree p) out c = closure o l b p n.Proc out c (codes_body (inside o [] (captured_by o l p)) b p (opened out) (covers_inside o l b (free_procedure [] p) c))
  codes_expr o l b (ArrayTree es place) out c = counted n.Array (count_exprs es) (size_exprs es) out (exprs_fit es) (codes_exprs o l b es _ c)
  codes_expr o l b (ObjectTree flags fs place) out c = puts (n.Object flags (field_names fs)) out (codes_fields o l b fs _ c)
  codes_expr o l b (IfTree arms last place) out c = armed (λ k. n.If k (has_block last)) arms (size_maybe last) out (both (codes_arms o l b arms _ c) (codes_maybe o l b last _ c))
  codes_expr o l b (LoopTree t place) out c = puts n.Loop out (codes_block o l b t _ c)
  codes_expr o l b (ExitTree place) out c = puts n.Exit out (nothing _)
  codes_expr o l b (ForTree x first last t place) out c =
      puts n.For out (both (codes_expr o l b first _ c) (both (codes_expr o l b last _ c) (inside_block (under x (codes_block o (l ++ x ∷ []) (b ++ x ∷ []) t _ (covers_more o l b (x ∷ []) c))))))
  codes_expr o l b (ForeachTree x e t place) out c =
      puts n.Foreach out (both (codes_expr o l b e _ c) (inside_block (under x (codes_block o (l ++ x ∷ []) (b ++ x ∷ []) t _ (covers_more o l b (x ∷ []) c)))))
  codes_expr o l b (TryTree t arms last place) out c =
      tried (λ k. n.Try k (has_block last)) arms (size_block t) (size_maybe last) out (both (codes_block o l b t _ c) (both (codes_arms o l b arms _ c) (codes_maybe o l b last _ c)))
  codes_expr o l b (FinallyTree t last place) out c = puts n.Finally out (both (codes_block o l b t _ c) (codes_block o l b last _ c))
  codes_expr o l b (RaiseTree e place) out c = puts n.Raise out (codes_expr o l b e _ c)
  codes_expr o l b (WatchTree d g place) out c = puts n.Watch out (both (codes_expr o l b d _ c) (codes_expr o l b g _ c))
  codes_expr o l b (RedirectTree d g place) out c = puts n.Redirect out (both (codes_expr o l b d _ c) (codes_expr o l b g _ c))
  codes_expr o l b (CloneTree es place) out c = counted n.Clone (count_exprs es) (size_exprs es) out (exprs_fit es) (codes_exprs o l b es _ c)
  codes_expr o l b (ChainTree e links) out c = puts (n.Chain (operators_of links)) out (both (codes_expr o l b e _ c) (codes_links o l b links _ c))
  codes_expr o l b (SuffixedTree e ss) out c =
      suffixed o l b e ss out (called_row o l e ss) refl (λ a. codes_expr o l b e a c) (λ r a. codes_suffixes o l b r ss a c)

  codes_exprs : (o : Outside) (locals bound : Names) (tree : ExprTrees) (out : Output) → Covers o locals bound
      → Fits o locals (coded_exprs o locals tree) (captures_exprs bound tree) 0 (size_exprs tree) out (emitted o.source (draft_exprs o locals tree) out)
  codes_exprs o l b NoExprs out c = nothing out
  codes_exprs o l b (AnExpr e es) out c = both (one (codes_expr o l b e out c)) (codes_exprs o l b es _ c)

  codes_links : (o : Outside) (locals bound : Names) (tree : LinkTrees) (out : Output) → Covers o locals bound
      → Fits o locals (coded_links o locals tree) (captures_links bound tree) 0 (size_links tree) out (emitted o.source (draft_links o locals tree) out)
  codes_links o l b NoLinks out c = nothing out
  codes_links o l b (ALink op e place links) out c = both (codes_expr o l b e out c) (codes_links o l b links _ c)

  codes_suffix : (o : Outside) (locals bound : Names) (row : Option ℕ) (tree : SuffixTree) (out : Output) → Covers o locals bound
      → Fits o locals (coded_suffix o locals row tree) (captures_suffix bound tree) 0 (size_suffix tree) out (emitted o.source (draft_suffix o locals row tree) out)
  codes_suffix o l b row (ApplySuffix es place) out c = counted (call_node row) (count_exprs es) (size_exprs es) out (exprs_fit es) (codes_exprs o l b es _ c)
  codes_suffix o l b row (SelectSuffix x place) out c = puts (n.Select x) out (nothing _)
  codes_suffix o l b row (InvokeSuffix x es place) out c = counted (n.Invoke x) (count_exprs es) (size_exprs es) out (exprs_fit es) (codes_exprs o l b es _ c)
  codes_suffix o l b row (IndexSuffix e place) out c = puts n.Index out (codes_expr o l b e _ c)

  codes_suffixes : (o : Outside) (locals bound : Names) (row : Option ℕ) (tree : SuffixTrees) (out : Output) → Covers o locals bound
      → Fits o locals (coded_suffixes o locals row tree) (captures_suffixes bound tree) 0 (size_suffixes tree) out (emitted o.source (draft_suffixes o locals row tree) out)
  codes_suffixes o l b row NoSuffixes out c = nothing out
  codes_suffixes o l b row (ASuffix s ss) out c = both (one (codes_suffix o l b row s out c)) (codes_suffixes o l b None ss _ c)

  codes_arms : (o : Outside) (locals bound : Names) (tree : ArmTrees) (out : Output) → Covers o locals bound
      → Fits o locals (coded_arms o locals tree) (captures_arms bound tree) 0 (size_arms tree) out (emitted o.source (draft_arms o locals tree) out)
  codes_arms o l b NoArms out c = nothing out
  codes_arms o l b (AnArm e t arms) out c = both (one (both (codes_expr o l b e out c) (codes_block o l b t _ c))) (codes_arms o l b arms _ c)

  codes_fields : (o : Outside) (locals bound : Names) (tree : FieldTrees) (out : Output) → Covers o locals bound
      → Fits o locals (coded_fields o locals tree) (captures_fields bound tree) 0 (size_fields tree) out (emitted o.source (draft_fields o locals tree) out)
  codes_fields o l b NoFields out c = nothing out
  codes_fields o l b (AField x body place fs) out c = both (codes_field o l b body out c) (codes_fields o l b fs _ c)

-- the block of a source, and the number of its code
pub codes_source : (source : ℕ) (tree : BlockTree) (out : Output) (ahead : List Names) → ahead ≡ captures_block [] tree → out.codes ≡ [] → size_block tree < 4294967296
    → ((coded_block (outermost source) [] tree (at out ahead)).output ≡ emitted source (draft_block (outermost source) [] tree) out)
    × (numbered source (emitted source (draft_block (outermost source) [] tree) out) ≡ next_number source (emitted source (draft_block (outermost source) [] tree) out))
codes_source source tree out ahead e none small =
    let o : Outside = outermost source in
    let empty : length out.codes ≡ 0 = ap length none in
    let r : Room o [] out (size_block tree) = record { room = omega (arith, empty, small); members = omega arith; captured = omega arith } in
    let m : Codes (coded_block o [] tree) (captures_block [] tree) 0 (size_block tree) out (emitted source (draft_block o [] tree) out) = codes_block o [] [] tree out (covers_nothing source) r in
    let many = m.many in (
      ap (λ (z : List Names). (coded_block o [] tree (at out z)).output) (e ∙ sym (append-nil (captures_block [] tree))) ∙ ap (λ (s : Emitter). s.output) (m.codes []),
      ap (λ k. record { source = source; n = k }) (narrow_at (length (emitted source (draft_block o [] tree) out).codes) (omega (arith, many, empty, small))),
    )
