-- Where the whole ends.
use Rattle.std.proofs.Common.{◌≡◌, ℕ, ◌+◌, ◌-◌, Bool, List, [], ◌∷◌, ◌++◌, Option, take, length, refl, sym, subst, ap, ◌∙◌, append_assoc, append-nil, arith, length-append}
use Rattle.obq_base.specs.declared.tokens.TokenKind.{TokenKind}
use Rattle.obq_base.specs.declared.tokens.TokenKind.TheVariants as k
use Rattle.obq_base.specs.declared.tokens.Token.{Token}
use Rattle.obq_base.specs.declared.trees.Operator.{Operator}
use Rattle.obq_base.specs.declared.trees.Flags.{Flags}
use Rattle.obq_base.specs.declared.trees.Block.{Block}
use Rattle.obq_base.specs.declared.trees.Item.{Item}
use Rattle.obq_base.specs.declared.trees.Bind.{Bind}
use Rattle.obq_base.specs.declared.trees.RecBind.{RecBind}
use Rattle.obq_base.specs.declared.trees.Proc.{Proc}
use Rattle.obq_base.specs.declared.trees.FieldExpr.{FieldExpr}
use Rattle.obq_base.specs.declared.trees.Expr.{Expr}
use Rattle.obq_base.specs.declared.trees.Link.{Link}
use Rattle.obq_base.specs.declared.trees.Suffix.{Suffix}
use Rattle.obq_base.specs.declared.trees.Arm.{Arm}
use Rattle.obq_base.specs.declared.trees.Field.{Field}
use Rattle.obq_model.specs.Nodes.{token, next}
use Rattle.obq_model.specs.Grammar.{Operates, multiply, divide, remainder, add, subtract, join, is, isnot, less, less_equal, greater, greater_equal, andif, orif, IsBlock, IsMore, IsItem, IsLet, IsBinds, IsMoreBinds, IsBind, IsRecBinds, IsMoreRecBinds, IsRecBind, IsFieldBody, IsMeth, IsProc, IsParameters, IsNames, IsMoreNames, IsExpr, IsLevel, IsLinks, IsSuffixed, IsSuffixes, IsSuffix, IsDotted, IsCall, IsArgs, IsMoreArgs, IsPrim, IsArray, IsArm, IsElsifs, IsElse, IsTry, IsGuard, IsGuards, IsObject, IsFlagged, IsBothFlags, IsFields, IsMoreFields, IsField, empty, items, no_more, semicolon, more, let_, var, assign, set_field, set_item, plain, let_binds, let_rec, binds, no_bind, one_bind, bind_of, rec_binds, no_rec_bind, one_rec_bind, rec_bind_of, value, method, alias, meth, proc, no_parameter, parameters, names, no_name, one_name, expr, operand, level, no_link, one_link, chain, no_suffix, one_suffix, apply, dotted, index, select, invoke, no_argument, arguments, args, no_arg, one_arg, int, text, true_, false_, ok, name, proc_of, paren, array, object, if_, loop_, exit, for, foreach, try, raise, watch, redirect, clone, no_element, elements, arm_of, no_elsif, one_elsif, no_else, else_, finally, excepts, guard_of, no_guard, one_guard, no_field, unflagged, protected, serialized, flag_alone, flag_fields, other_flag, flags_alone, flags_fields, fields, no_further_field, one_field, field_of}
use Rattle.obq_model.specs.Grammar.{Derives}
use Rattle.obq_model.specs.Syntax.{IfEnd, IsEnded, IsFirstFault}
use Rattle.obq_grammar.specs.Fails.{Cut, here, there, Fails}
use Rattle.obq_grammar.specs.Follow.{EndsBlock, EndsProgram}
use Rattle.obq_grammar.proofs.Theory.{fewer, narrow, behind}
use Rattle.obq_grammar.proofs.Sets.{program_block}
use Rattle.obq_grammar.proofs.Goods.{good_block}

abbrev at_end : TokenKind → List Token → List Token → List Token
at_end k.EndOfSource last x = last
at_end _ last x = x

-- the tokens from the first end token on
abbrev pub from_end : List Token → List Token
from_end [] = []
from_end (t ∷ ts) = at_end t.kind (t ∷ ts) (from_end ts)

operator_passes : {l : ℕ} {kind : TokenKind} {f : Operator} (p : ℕ) (x : List Token) → Operates l kind f → from_end (token kind p ∷ x) ≡ from_end x
operator_passes p x multiply = refl
operator_passes p x divide = refl
operator_passes p x remainder = refl
operator_passes p x add = refl
operator_passes p x subtract = refl
operator_passes p x join = refl
operator_passes p x is = refl
operator_passes p x isnot = refl
operator_passes p x less = refl
operator_passes p x less_equal = refl
operator_passes p x greater = refl
operator_passes p x greater_equal = refl
operator_passes p x andif = refl
operator_passes p x orif = refl

-- no N consumes the end token
mutual
  pub end_block : {a : Block} {x r : List Token} → IsBlock a x r → from_end x ≡ from_end r
  end_block empty = refl
  end_block (items p1 p2) = end_item p1 ∙ end_more p2

  pub end_more : {a : List Item} {x r : List Token} → IsMore a x r → from_end x ≡ from_end r
  end_more no_more = refl
  end_more semicolon = refl
  end_more (more p1 p2) = end_item p1 ∙ end_more p2

  pub end_item : {a : Item} {x r : List Token} → IsItem a x r → from_end x ≡ from_end r
  end_item (let_ p1) = end_let p1
  end_item (var p1) = end_binds p1
  end_item (assign p1) = end_expr p1
  end_item (set_field p1 p2) = end_suffixed p1 ∙ end_field_body p2
  end_item (set_item p1 p2 p3) = end_suffixed p1 ∙ (end_expr p2 ∙ end_expr p3)
  end_item (plain p1) = end_expr p1

  pub end_let : {l : ℕ} {a : Item} {x r : List Token} → IsLet l a x r → from_end x ≡ from_end r
  end_let (let_binds p1) = end_binds p1
  end_let (let_rec p1) = end_rec_binds p1

  pub end_binds : {a : List Bind} {x r : List Token} → IsBinds a x r → from_end x ≡ from_end r
  end_binds (binds p1 p2) = end_bind p1 ∙ end_more_binds p2

  pub end_more_binds : {a : List Bind} {x r : List Token} → IsMoreBinds a x r → from_end x ≡ from_end r
  end_more_binds no_bind = refl
  end_more_binds (one_bind p1 p2) = end_bind p1 ∙ end_more_binds p2

  pub end_bind : {a : Bind} {x r : List Token} → IsBind a x r → from_end x ≡ from_end r
  end_bind (bind_of p1) = end_expr p1

  pub end_rec_binds : {a : List RecBind} {x r : List Token} → IsRecBinds a x r → from_end x ≡ from_end r
  end_rec_binds (rec_binds p1 p2) = end_rec_bind p1 ∙ end_more_rec_binds p2

  pub end_more_rec_binds : {a : List RecBind} {x r : List Token} → IsMoreRecBinds a x r → from_end x ≡ from_end r
  end_more_rec_binds no_rec_bind = refl
  end_more_rec_binds (one_rec_bind p1 p2) = end_rec_bind p1 ∙ end_more_rec_binds p2

  pub end_rec_bind : {a : RecBind} {x r : List Token} → IsRecBind a x r → from_end x ≡ from_end r
  end_rec_bind (rec_bind_of p1) = end_proc p1

  pub end_field_body : {a : FieldExpr} {x r : List Token} → IsFieldBody a x r → from_end x ≡ from_end r
  end_field_body (value p1) = end_expr p1
  end_field_body (method p1) = end_meth p1
  end_field_body (alias p1) = end_expr p1

  pub end_meth : {a : Proc} {x r : List Token} → IsMeth a x r → from_end x ≡ from_end r
  end_meth (meth p1 p2) = end_names p1 ∙ end_block p2

  pub end_proc : {a : Proc} {x r : List Token} → IsProc a x r → from_end x ≡ from_end r
  end_proc (proc p1 p2) = end_parameters p1 ∙ end_block p2

  pub end_parameters : {a : List (List ℕ)} {x r : List Token} → IsParameters a x r → from_end x ≡ from_end r
  end_parameters no_parameter = refl
  end_parameters (parameters p1) = end_names p1

  pub end_names : {a : List (List ℕ)} {x r : List Token} → IsNames a x r → from_end x ≡ from_end r
  end_names (names p1) = end_more_names p1

  pub end_more_names : {a : List (List ℕ)} {x r : List Token} → IsMoreNames a x r → from_end x ≡ from_end r
  end_more_names no_name = refl
  end_more_names (one_name p1) = end_more_names p1

  pub end_expr : {a : Expr} {x r : List Token} → IsExpr a x r → from_end x ≡ from_end r
  end_expr (expr p1) = end_level p1

  pub end_level : {l : ℕ} {a : Expr} {x r : List Token} → IsLevel l a x r → from_end x ≡ from_end r
  end_level (operand p1) = end_suffixed p1
  end_level (level p1 p2) = end_level p1 ∙ end_links p2

  pub end_links : {l : ℕ} {a : List Link} {x r : List Token} → IsLinks l a x r → from_end x ≡ from_end r
  end_links no_link = refl
  end_links (one_link {p = p} {x = x} p1 p2 p3) = operator_passes p x p1 ∙ (end_level p2 ∙ end_links p3)

  pub end_suffixed : {a : Expr} {c : List Suffix} {x r : List Token} → IsSuffixed a c x r → from_end x ≡ from_end r
  end_suffixed (chain p1 p2) = end_prim p1 ∙ end_suffixes p2

  pub end_suffixes : {a : List Suffix} {x r : List Token} → IsSuffixes a x r → from_end x ≡ from_end r
  end_suffixes no_suffix = refl
  end_suffixes (one_suffix p1 p2) = end_suffix p1 ∙ end_suffixes p2

  pub end_suffix : {a : Suffix} {x r : List Token} → IsSuffix a x r → from_end x ≡ from_end r
  end_suffix (apply p1) = end_call p1
  end_suffix (dotted p1) = end_dotted p1
  end_suffix (index p1) = end_expr p1

  pub end_dotted : {n : List ℕ} {p : ℕ} {a : Suffix} {x r : List Token} → IsDotted n p a x r → from_end x ≡ from_end r
  end_dotted (select p1) = refl
  end_dotted (invoke p1) = end_call p1

  pub end_call : {a : List Expr} {x r : List Token} → IsCall a x r → from_end x ≡ from_end r
  end_call no_argument = refl
  end_call (arguments p1) = end_args p1

  pub end_args : {a : List Expr} {x r : List Token} → IsArgs a x r → from_end x ≡ from_end r
  end_args (args p1 p2) = end_expr p1 ∙ end_more_args p2

  pub end_more_args : {a : List Expr} {x r : List Token} → IsMoreArgs a x r → from_end x ≡ from_end r
  end_more_args no_arg = refl
  end_more_args (one_arg p1 p2) = end_expr p1 ∙ end_more_args p2

  pub end_prim : {a : Expr} {x r : List Token} → IsPrim a x r → from_end x ≡ from_end r
  end_prim int = refl
  end_prim text = refl
  end_prim true_ = refl
  end_prim false_ = refl
  end_prim ok = refl
  end_prim name = refl
  end_prim (proc_of p1) = end_proc p1
  end_prim (paren p1) = end_expr p1
  end_prim (array p1) = end_array p1
  end_prim (object p1) = end_object p1
  end_prim (if_ p1 p2 p3) = end_arm p1 ∙ (end_elsifs p2 ∙ end_else p3)
  end_prim (loop_ p1) = end_block p1
  end_prim exit = refl
  end_prim (for p1 p2 p3) = end_expr p1 ∙ (end_expr p2 ∙ end_block p3)
  end_prim (foreach p1 p2) = end_expr p1 ∙ end_block p2
  end_prim (try p1 p2) = end_block p1 ∙ end_try p2
  end_prim (raise p1) = end_expr p1
  end_prim (watch p1 p2) = end_expr p1 ∙ end_expr p2
  end_prim (redirect p1 p2) = end_expr p1 ∙ end_expr p2
  end_prim (clone p1) = end_args p1

  pub end_array : {a : List Expr} {x r : List Token} → IsArray a x r → from_end x ≡ from_end r
  end_array no_element = refl
  end_array (elements p1) = end_args p1

  pub end_arm : {a : Arm} {x r : List Token} → IsArm a x r → from_end x ≡ from_end r
  end_arm (arm_of p1 p2) = end_expr p1 ∙ end_block p2

  pub end_elsifs : {a : List Arm} {x r : List Token} → IsElsifs a x r → from_end x ≡ from_end r
  end_elsifs no_elsif = refl
  end_elsifs (one_elsif p1 p2) = end_arm p1 ∙ end_elsifs p2

  pub end_else : {a : Option Block} {x r : List Token} → IsElse a x r → from_end x ≡ from_end r
  end_else no_else = refl
  end_else (else_ p1) = end_block p1

  pub end_try : {p : ℕ} {b : Block} {a : Expr} {x r : List Token} → IsTry p b a x r → from_end x ≡ from_end r
  end_try (finally p1) = end_block p1
  end_try (excepts p1 p2 p3) = end_guard p1 ∙ (end_guards p2 ∙ end_else p3)

  pub end_guard : {a : Arm} {x r : List Token} → IsGuard a x r → from_end x ≡ from_end r
  end_guard (guard_of p1 p2) = end_expr p1 ∙ end_block p2

  pub end_guards : {a : List Arm} {x r : List Token} → IsGuards a x r → from_end x ≡ from_end r
  end_guards no_guard = refl
  end_guards (one_guard p1 p2) = end_guard p1 ∙ end_guards p2

  pub end_object : {a : Flags} {c : List Field} {x r : List Token} → IsObject a c x r → from_end x ≡ from_end r
  end_object no_field = refl
  end_object (unflagged p1) = end_fields p1
  end_object (protected p1) = end_flagged p1
  end_object (serialized p1) = end_flagged p1

  pub end_flagged : {row : ℕ} {a : Bool} {c : List Field} {x r : List Token} → IsFlagged row a c x r → from_end x ≡ from_end r
  end_flagged flag_alone = refl
  end_flagged (flag_fields p1) = end_fields p1
  end_flagged (other_flag p1) = end_both_flags p1

  pub end_both_flags : {a : List Field} {x r : List Token} → IsBothFlags a x r → from_end x ≡ from_end r
  end_both_flags flags_alone = refl
  end_both_flags (flags_fields p1) = end_fields p1

  pub end_fields : {a : List Field} {x r : List Token} → IsFields a x r → from_end x ≡ from_end r
  end_fields (fields p1 p2) = end_field p1 ∙ end_more_fields p2

  pub end_more_fields : {a : List Field} {x r : List Token} → IsMoreFields a x r → from_end x ≡ from_end r
  end_more_fields no_further_field = refl
  end_more_fields (one_field p1 p2) = end_field p1 ∙ end_more_fields p2

  pub end_field : {a : Field} {x r : List Token} → IsField a x r → from_end x ≡ from_end r
  end_field (field_of p1) = end_field_body p1

ended_head : (kind : TokenKind) (p : ℕ) (ts : List Token) → (IsEnded ts → (q : ℕ) × (from_end ts ≡ token k.EndOfSource q ∷ [])) → IfEnd kind (ts ≡ []) (IsEnded ts) → (q : ℕ) × (from_end (token kind p ∷ ts) ≡ token k.EndOfSource q ∷ [])
ended_head k.EndOfSource p ts rest h = (p, ap (λ (l : List Token). token k.EndOfSource p ∷ l) h)
ended_head _ p ts rest h = rest h

ended : (x : List Token) → IsEnded x → (q : ℕ) × (from_end x ≡ token k.EndOfSource q ∷ [])
ended [] h = absurd h
ended (t ∷ ts) h = ended_head t.kind t.place ts (ended ts) h

append_head : (kind : TokenKind) (p : ℕ) (ts v : List Token) → (IsEnded ts → (q : ℕ) × (from_end (ts ++ v) ≡ token k.EndOfSource q ∷ v)) → IfEnd kind (ts ≡ []) (IsEnded ts) → (q : ℕ) × (from_end (token kind p ∷ (ts ++ v)) ≡ token k.EndOfSource q ∷ v)
append_head k.EndOfSource p ts v rest h = (p, ap (λ (l : List Token). token k.EndOfSource p ∷ (l ++ v)) h)
append_head _ p ts v rest h = rest h

ended_append : (x v : List Token) → IsEnded x → (q : ℕ) × (from_end (x ++ v) ≡ token k.EndOfSource q ∷ v)
ended_append [] v h = absurd h
ended_append (t ∷ ts) v h = append_head t.kind t.place ts v (ended_append ts v) h

starts_head : (kind : TokenKind) (p q : ℕ) (r : List Token) → EndsProgram kind → from_end (token kind p ∷ r) ≡ token k.EndOfSource q ∷ [] → token kind p ∷ r ≡ token k.EndOfSource q ∷ []
starts_head k.EndOfSource p q r e h = h
starts_head _ p q r e h = absurd e

starts_end : (q : ℕ) (r : List Token) → EndsProgram (next r) → from_end r ≡ token k.EndOfSource q ∷ [] → r ≡ token k.EndOfSource q ∷ []
starts_end q [] e h = h
starts_end q (t ∷ r) e h = starts_head t.kind t.place q r e h

-- a block up to the end token is the whole
pub whole : {a : Block} {x r : List Token} → IsBlock a x r → IsEnded x → EndsProgram (next r) → Derives x a
whole {a = a} {x = x} {r = r} l h e = let n = ended x h in (n.0, subst (λ (y : List Token). IsBlock a x y) (starts_end n.0 r e (sym (end_block l) ∙ n.1)) l)

pub cut_split : {x z y v : List Token} → Cut x z y v → (u : List Token) × (x ≡ u ++ z) × (y ≡ u ++ v)
cut_split here = ([], refl, refl)
cut_split (there {t = t} c) = let w = cut_split c in (t ∷ w.0, ap (λ (l : List Token). t ∷ l) w.1, ap (λ (l : List Token). t ∷ l) w.2)

take_all : (u z : List Token) (n : ℕ) → n ≡ length u → take n (u ++ z) ≡ u
take_all [] z n e = rw e refl
take_all (t ∷ u) z n e = rw e (ap (λ (l : List Token). t ∷ l) (take_all u z (length u) refl))

module _ (x : List Token) (z : List Token) where
  front : (u : List Token) → x ≡ u ++ z → take (length x - length z) x ≡ u
  front u e = rw e (take_all u z (length (u ++ z) - length z) (omega (arith, length-append u z)))

next_front : (x u z : List Token) (t : Token) → x ≡ u ++ t ∷ z → take (length x - length (t ∷ z) + 1) x ≡ u ++ t ∷ []
next_front x u z t e = let q : x ≡ (u ++ t ∷ []) ++ z = e ∙ sym (append_assoc u (t ∷ []) z) in rw q (take_all (u ++ t ∷ []) z (length ((u ++ t ∷ []) ++ z) - length (t ∷ z) + 1) (omega (arith, length-append (u ++ t ∷ []) z, length-append u (t ∷ []))))

nothing_left : {x : List Token} → Fails IsBlock EndsProgram x [] → IsEnded x → ⊥
nothing_left {x = x} f h =
    let w = f.viable (token k.EndOfSource 0 ∷ []) tt in
    let c = cut_split w.3 in
    let xu : x ≡ c.0 = c.1 ∙ append-nil c.0 in
    let yx : w.1 ≡ x ++ w.2 = c.2 ∙ ap (λ (l : List Token). l ++ w.2) (sym xu) in
    let n = ended_append x w.2 h in
    let ends : token k.EndOfSource n.0 ∷ w.2 ≡ token k.EndOfSource 0 ∷ [] = sym n.1 ∙ (sym (ap from_end yx) ∙ end_block w.4) in
    let none : w.2 ≡ [] = ap behind ends in
    let d = f.dead [] refl in
    let b = cut_split d.1 in
    let xv : x ≡ b.0 = b.1 ∙ append-nil b.0 in
    let same : d.0 ≡ w.1 = b.2 ∙ (ap (λ (l : List Token). l ++ []) (sym xv) ∙ (ap (λ (l : List Token). x ++ l) (sym none) ∙ sym yx)) in
    d.2 w.0 (token k.EndOfSource 0 ∷ []) (subst (λ (m : List Token). IsBlock w.0 m (token k.EndOfSource 0 ∷ [])) (sym same) w.4) tt

-- where the block fails is the first fault
pub first_fault : (x z : List Token) → Fails IsBlock EndsProgram x z → IsEnded x → IsFirstFault x (length x - length z)
first_fault x [] f h = absurd (nothing_left f h)
first_fault x (t ∷ z) f h =
    let w = f.viable (token k.EndOfSource 0 ∷ []) tt in
    let c = cut_split w.3 in
    record {
      within = let n : length x ≡ length (c.0 ++ t ∷ z) = ap length c.1 in omega (arith, length-append c.0 (t ∷ z));
      fits = (w.2, w.0, (0, subst (λ (n : List Token). IsBlock w.0 n (token k.EndOfSource 0 ∷ [])) (c.2 ∙ ap (λ (l : List Token). l ++ w.2) (sym (front x (t ∷ z) c.0 c.1))) w.4));
      sticks = λ p.
          let d = f.dead (t ∷ p.0) refl in
          let b = cut_split d.1 in
          let same : take (length x - length (t ∷ z) + 1) x ++ p.0 ≡ d.0 = ap (λ (l : List Token). l ++ p.0) (next_front x b.0 z t b.1) ∙ (append_assoc b.0 (t ∷ []) p.0 ∙ sym b.2) in
          d.2 p.1 (token k.EndOfSource p.2.0 ∷ []) (subst (λ (n : List Token). IsBlock p.1 n (token k.EndOfSource p.2.0 ∷ [])) same p.2.1) tt;
    }

pub whole_near : {x z : List Token} → Fails IsBlock EndsBlock x z → Fails IsBlock EndsProgram x z
whole_near = fewer program_block

pub whole_stop : {a : Block} {x y : List Token} → IsBlock a x y → EndsBlock (next y) → (EndsProgram (next y) → ⊥) → Fails IsBlock EndsProgram x y
whole_stop p h f = narrow good_block program_block p h f
