-- The grammar, one case for each production. `IsN tree x r`: the tokens x begin with an N of that tree, and r is what is left behind it.
-- Where two productions begin alike, what stands behind their common front has a family of its own.
use Rattle.std.specs.Prelude.{◌≡◌, ℕ, ℤ, suc, zero, Bool, true, false, List, [], ◌∷◌, Option, Some, None}
use Rattle.obq_base.specs.declared.tokens.TokenKind.{TokenKind}
use Rattle.obq_base.specs.declared.tokens.TokenKind.TheVariants as k
use Rattle.obq_base.specs.declared.tokens.Token.{Token}
use Rattle.obq_base.specs.declared.trees.Operator.{Operator}
use Rattle.obq_base.specs.declared.trees.Operator.TheVariants as o
use Rattle.obq_base.specs.declared.trees.Block.{Block}
use Rattle.obq_base.specs.declared.trees.Item.{Item}
use Rattle.obq_base.specs.declared.trees.Item.TheVariants as i
use Rattle.obq_base.specs.declared.trees.Bind.{Bind}
use Rattle.obq_base.specs.declared.trees.RecBind.{RecBind}
use Rattle.obq_base.specs.declared.trees.Proc.{Proc}
use Rattle.obq_base.specs.declared.trees.FieldExpr.{FieldExpr}
use Rattle.obq_base.specs.declared.trees.FieldExpr.TheVariants as b
use Rattle.obq_base.specs.declared.trees.Expr.{Expr}
use Rattle.obq_base.specs.declared.trees.Expr.TheVariants as e
use Rattle.obq_base.specs.declared.trees.Link.{Link}
use Rattle.obq_base.specs.declared.trees.Suffix.{Suffix}
use Rattle.obq_base.specs.declared.trees.Suffix.TheVariants as s
use Rattle.obq_base.specs.declared.trees.Arm.{Arm}
use Rattle.obq_base.specs.declared.trees.Field.{Field}
use Rattle.obq_base.specs.declared.trees.Flags.{Flags}
use Rattle.obq_model.specs.Words.{kw_alias, kw_andif, kw_clone, kw_do, kw_else, kw_elsif, kw_end, kw_except, kw_exit, kw_false, kw_finally, kw_for, kw_foreach, kw_if, kw_in, kw_is, kw_isnot, kw_let, kw_loop, kw_meth, kw_of, kw_ok, kw_orif, kw_proc, row_protected, kw_protected, kw_raise, kw_rec, kw_redirect, row_serialized, kw_serialized, kw_then, kw_to, kw_true, kw_try, kw_until, kw_var, kw_watch, sym_percent, sym_ampersand, sym_open, sym_close, sym_star, sym_plus, sym_comma, sym_minus, sym_dot, sym_slash, sym_assign, sym_semicolon, sym_less, sym_less_equal, sym_equals, sym_arrow, sym_greater, sym_greater_equal, sym_open_bracket, sym_close_bracket, sym_open_brace, sym_close_brace}
use Rattle.obq_model.specs.Nodes.{token, next, place, block, bind, rec_bind, procedure, arm, field, link, suffixed, chained}

-- The operators of each level, from 0, the strongest, to 4, the weakest.
pub data Operates : ℕ → TokenKind → Operator → Type 0 where
  multiply : Operates 0 sym_star o.Multiply
  divide : Operates 0 sym_slash o.Divide
  remainder : Operates 0 sym_percent o.Remainder
  add : Operates 1 sym_plus o.Add
  subtract : Operates 1 sym_minus o.Subtract
  join : Operates 1 sym_ampersand o.Join
  is : Operates 2 kw_is o.Is
  isnot : Operates 2 kw_isnot o.IsNot
  less : Operates 2 sym_less o.Less
  less_equal : Operates 2 sym_less_equal o.LessEqual
  greater : Operates 2 sym_greater o.Greater
  greater_equal : Operates 2 sym_greater_equal o.GreaterEqual
  andif : Operates 3 kw_andif o.Andif
  orif : Operates 4 kw_orif o.Orif

-- what may stand behind a selection
abbrev pub IsNoOpen : TokenKind → Type 0
IsNoOpen kind = kind ≡ sym_open → ⊥

abbrev pub flags : Bool → Bool → Flags
flags p s = record { protected = p; serialized = s }

mutual
  -- [ Item { ";" Item } [ ";" ] ]
  pub data IsBlock : Block → List Token → List Token → Type 0 where
    empty : {x : List Token} → IsBlock (block [] (place x)) x x
    items : {i : Item} {is : List Item} {x y r : List Token} → IsItem i x y → IsMore is y r → IsBlock (block (i ∷ is) (place x)) x r

  -- { ";" Item } [ ";" ]
  pub data IsMore : List Item → List Token → List Token → Type 0 where
    no_more : {x : List Token} → IsMore [] x x
    semicolon : {p : ℕ} {x : List Token} → IsMore [] (token sym_semicolon p ∷ x) x
    more : {i : Item} {is : List Item} {p : ℕ} {x y r : List Token} → IsItem i x y → IsMore is y r → IsMore (i ∷ is) (token sym_semicolon p ∷ x) r

  pub data IsItem : Item → List Token → List Token → Type 0 where
    let_ : {i : Item} {p : ℕ} {x r : List Token} → IsLet p i x r → IsItem i (token kw_let p ∷ x) r
    var : {bs : List Bind} {p : ℕ} {x r : List Token} → IsBinds bs x r → IsItem (i.Var bs p) (token kw_var p ∷ x) r
    assign : {n : List ℕ} {v : Expr} {p q : ℕ} {x r : List Token} → IsExpr v x r → IsItem (i.Assign n v p) (token (k.Name n) p ∷ token sym_assign q ∷ x) r
    set_field : {h : Expr} {ss : List Suffix} {n : List ℕ} {b : FieldExpr} {p q t : ℕ} {x y r : List Token} → IsSuffixed h ss x (token sym_dot p ∷ token (k.Name n) q ∷ token sym_assign t ∷ y) → IsFieldBody b y r → IsItem (i.SetField (suffixed h ss) n b (place x)) x r
    set_item : {h j v : Expr} {ss : List Suffix} {p q t : ℕ} {x y z r : List Token} → IsSuffixed h ss x (token sym_open_bracket p ∷ y) → IsExpr j y (token sym_close_bracket q ∷ token sym_assign t ∷ z) → IsExpr v z r → IsItem (i.SetItem (suffixed h ss) j v (place x)) x r
    plain : {v : Expr} {x r : List Token} → IsExpr v x r → IsItem (i.Plain v) x r

  -- behind the "let" at p: Bind { "," Bind } | "rec" RecBind { "," RecBind }
  pub data IsLet : ℕ → Item → List Token → List Token → Type 0 where
    let_binds : {p : ℕ} {bs : List Bind} {x r : List Token} → IsBinds bs x r → IsLet p (i.Let bs p) x r
    let_rec : {p : ℕ} {bs : List RecBind} {q : ℕ} {x r : List Token} → IsRecBinds bs x r → IsLet p (i.LetRec bs p) (token kw_rec q ∷ x) r

  -- Bind { "," Bind }
  pub data IsBinds : List Bind → List Token → List Token → Type 0 where
    binds : {b : Bind} {bs : List Bind} {x y r : List Token} → IsBind b x y → IsMoreBinds bs y r → IsBinds (b ∷ bs) x r

  -- { "," Bind }
  pub data IsMoreBinds : List Bind → List Token → List Token → Type 0 where
    no_bind : {x : List Token} → IsMoreBinds [] x x
    one_bind : {b : Bind} {bs : List Bind} {p : ℕ} {x y r : List Token} → IsBind b x y → IsMoreBinds bs y r → IsMoreBinds (b ∷ bs) (token sym_comma p ∷ x) r

  -- name "=" Expr
  pub data IsBind : Bind → List Token → List Token → Type 0 where
    bind_of : {n : List ℕ} {v : Expr} {p q : ℕ} {x r : List Token} → IsExpr v x r → IsBind (bind n v p) (token (k.Name n) p ∷ token sym_equals q ∷ x) r

  -- RecBind { "," RecBind }
  pub data IsRecBinds : List RecBind → List Token → List Token → Type 0 where
    rec_binds : {b : RecBind} {bs : List RecBind} {x y r : List Token} → IsRecBind b x y → IsMoreRecBinds bs y r → IsRecBinds (b ∷ bs) x r

  -- { "," RecBind }
  pub data IsMoreRecBinds : List RecBind → List Token → List Token → Type 0 where
    no_rec_bind : {x : List Token} → IsMoreRecBinds [] x x
    one_rec_bind : {b : RecBind} {bs : List RecBind} {p : ℕ} {x y r : List Token} → IsRecBind b x y → IsMoreRecBinds bs y r → IsMoreRecBinds (b ∷ bs) (token sym_comma p ∷ x) r

  -- name "=" Proc
  pub data IsRecBind : RecBind → List Token → List Token → Type 0 where
    rec_bind_of : {n : List ℕ} {f : Proc} {p q : ℕ} {x r : List Token} → IsProc f x r → IsRecBind (rec_bind n f p) (token (k.Name n) p ∷ token sym_equals q ∷ x) r

  -- Expr | Meth | "alias" name "of" Expr "end"
  pub data IsFieldBody : FieldExpr → List Token → List Token → Type 0 where
    value : {v : Expr} {x r : List Token} → IsExpr v x r → IsFieldBody (b.Value v) x r
    method : {m : Proc} {x r : List Token} → IsMeth m x r → IsFieldBody (b.Method m) x r
    alias : {n : List ℕ} {v : Expr} {p q t u : ℕ} {x r : List Token} → IsExpr v x (token kw_end u ∷ r) → IsFieldBody (b.Alias n v p) (token kw_alias p ∷ token (k.Name n) q ∷ token kw_of t ∷ x) r

  -- "meth" "(" name { "," name } ")" Block "end"
  pub data IsMeth : Proc → List Token → List Token → Type 0 where
    meth : {ns : List (List ℕ)} {b : Block} {p q t u : ℕ} {x y r : List Token} → IsNames ns x (token sym_close t ∷ y) → IsBlock b y (token kw_end u ∷ r) → IsMeth (procedure ns b p) (token kw_meth p ∷ token sym_open q ∷ x) r

  -- "proc" "(" [ name { "," name } ] ")" Block "end"
  pub data IsProc : Proc → List Token → List Token → Type 0 where
    proc : {ns : List (List ℕ)} {b : Block} {p q t : ℕ} {x y r : List Token} → IsParameters ns x y → IsBlock b y (token kw_end t ∷ r) → IsProc (procedure ns b p) (token kw_proc p ∷ token sym_open q ∷ x) r

  -- [ name { "," name } ] ")"
  pub data IsParameters : List (List ℕ) → List Token → List Token → Type 0 where
    no_parameter : {p : ℕ} {r : List Token} → IsParameters [] (token sym_close p ∷ r) r
    parameters : {ns : List (List ℕ)} {p : ℕ} {x r : List Token} → IsNames ns x (token sym_close p ∷ r) → IsParameters ns x r

  -- name { "," name }
  pub data IsNames : List (List ℕ) → List Token → List Token → Type 0 where
    names : {n : List ℕ} {ns : List (List ℕ)} {p : ℕ} {x r : List Token} → IsMoreNames ns x r → IsNames (n ∷ ns) (token (k.Name n) p ∷ x) r

  -- { "," name }
  pub data IsMoreNames : List (List ℕ) → List Token → List Token → Type 0 where
    no_name : {x : List Token} → IsMoreNames [] x x
    one_name : {n : List ℕ} {ns : List (List ℕ)} {p q : ℕ} {x r : List Token} → IsMoreNames ns x r → IsMoreNames (n ∷ ns) (token sym_comma p ∷ token (k.Name n) q ∷ x) r

  -- And { "orif" And }
  pub data IsExpr : Expr → List Token → List Token → Type 0 where
    expr : {v : Expr} {x r : List Token} → IsLevel 5 v x r → IsExpr v x r

  -- Level 0 is a chain of suffixes; level l + 1 is operands of level l joined by operators of level l. So 1 is Prod, 2 Sum, 3 Rel, 4 And.
  pub data IsLevel : ℕ → Expr → List Token → List Token → Type 0 where
    operand : {h : Expr} {ss : List Suffix} {x r : List Token} → IsSuffixed h ss x r → IsLevel zero (suffixed h ss) x r
    level : {l : ℕ} {a : Expr} {ls : List Link} {x y r : List Token} → IsLevel l a x y → IsLinks l ls y r → IsLevel (suc l) (chained a ls) x r

  -- { operator operand }
  pub data IsLinks : ℕ → List Link → List Token → List Token → Type 0 where
    no_link : {l : ℕ} {x : List Token} → IsLinks l [] x x
    one_link : {l : ℕ} {kind : TokenKind} {f : Operator} {a : Expr} {ls : List Link} {p : ℕ} {x y r : List Token} → Operates l kind f → IsLevel l a x y → IsLinks l ls y r → IsLinks l (link f a p ∷ ls) (token kind p ∷ x) r

  -- Prim { Suffix }
  pub data IsSuffixed : Expr → List Suffix → List Token → List Token → Type 0 where
    chain : {h : Expr} {ss : List Suffix} {x y r : List Token} → IsPrim h x y → IsSuffixes ss y r → IsSuffixed h ss x r

  -- { Suffix }
  pub data IsSuffixes : List Suffix → List Token → List Token → Type 0 where
    no_suffix : {x : List Token} → IsSuffixes [] x x
    one_suffix : {f : Suffix} {ss : List Suffix} {x y r : List Token} → IsSuffix f x y → IsSuffixes ss y r → IsSuffixes (f ∷ ss) x r

  -- "(" [ Args ] ")" | "." name | "." name "(" [ Args ] ")" | "[" Expr "]"
  pub data IsSuffix : Suffix → List Token → List Token → Type 0 where
    apply : {vs : List Expr} {p : ℕ} {x r : List Token} → IsCall vs x r → IsSuffix (s.Apply vs p) (token sym_open p ∷ x) r
    dotted : {n : List ℕ} {f : Suffix} {p q : ℕ} {x r : List Token} → IsDotted n p f x r → IsSuffix f (token sym_dot p ∷ token (k.Name n) q ∷ x) r
    index : {v : Expr} {p q : ℕ} {x r : List Token} → IsExpr v x (token sym_close_bracket q ∷ r) → IsSuffix (s.Index v p) (token sym_open_bracket p ∷ x) r

  -- behind the "." at p and the name n: a selection, which isn't followed by "(", or "(" [ Args ] ")"
  pub data IsDotted : List ℕ → ℕ → Suffix → List Token → List Token → Type 0 where
    select : {n : List ℕ} {p : ℕ} {x : List Token} → IsNoOpen (next x) → IsDotted n p (s.Select n p) x x
    invoke : {n : List ℕ} {p : ℕ} {vs : List Expr} {q : ℕ} {x r : List Token} → IsCall vs x r → IsDotted n p (s.Invoke n vs p) (token sym_open q ∷ x) r

  -- [ Args ] ")"
  pub data IsCall : List Expr → List Token → List Token → Type 0 where
    no_argument : {p : ℕ} {r : List Token} → IsCall [] (token sym_close p ∷ r) r
    arguments : {vs : List Expr} {p : ℕ} {x r : List Token} → IsArgs vs x (token sym_close p ∷ r) → IsCall vs x r

  -- Expr { "," Expr }
  pub data IsArgs : List Expr → List Token → List Token → Type 0 where
    args : {v : Expr} {vs : List Expr} {x y r : List Token} → IsExpr v x y → IsMoreArgs vs y r → IsArgs (v ∷ vs) x r

  -- { "," Expr }
  pub data IsMoreArgs : List Expr → List Token → List Token → Type 0 where
    no_arg : {x : List Token} → IsMoreArgs [] x x
    one_arg : {v : Expr} {vs : List Expr} {p : ℕ} {x y r : List Token} → IsExpr v x y → IsMoreArgs vs y r → IsMoreArgs (v ∷ vs) (token sym_comma p ∷ x) r

  pub data IsPrim : Expr → List Token → List Token → Type 0 where
    int : {z : ℤ} {p : ℕ} {r : List Token} → IsPrim (e.Int z p) (token (k.Int z) p ∷ r) r
    text : {t : List ℕ} {p : ℕ} {r : List Token} → IsPrim (e.Str t p) (token (k.Text t) p ∷ r) r
    true_ : {p : ℕ} {r : List Token} → IsPrim (e.Truth true p) (token kw_true p ∷ r) r
    false_ : {p : ℕ} {r : List Token} → IsPrim (e.Truth false p) (token kw_false p ∷ r) r
    ok : {p : ℕ} {r : List Token} → IsPrim (e.Okay p) (token kw_ok p ∷ r) r
    name : {n : List ℕ} {p : ℕ} {r : List Token} → IsPrim (e.Use n p) (token (k.Name n) p ∷ r) r
    proc_of : {f : Proc} {x r : List Token} → IsProc f x r → IsPrim (e.Procedure f) x r
    -- parentheses leave no node
    paren : {v : Expr} {p q : ℕ} {x r : List Token} → IsExpr v x (token sym_close q ∷ r) → IsPrim v (token sym_open p ∷ x) r
    array : {vs : List Expr} {p : ℕ} {x r : List Token} → IsArray vs x r → IsPrim (e.Array vs p) (token sym_open_bracket p ∷ x) r
    object : {f : Flags} {fs : List Field} {p : ℕ} {x r : List Token} → IsObject f fs x r → IsPrim (e.Object f fs p) (token sym_open_brace p ∷ x) r
    if_ : {a : Arm} {ms : List Arm} {l : Option Block} {p : ℕ} {x y z r : List Token} → IsArm a x y → IsElsifs ms y z → IsElse l z r → IsPrim (e.If (a ∷ ms) l p) (token kw_if p ∷ x) r
    loop_ : {b : Block} {p q : ℕ} {x r : List Token} → IsBlock b x (token kw_end q ∷ r) → IsPrim (e.Loop b p) (token kw_loop p ∷ x) r
    exit : {p : ℕ} {r : List Token} → IsPrim (e.Exit p) (token kw_exit p ∷ r) r
    for : {n : List ℕ} {v w : Expr} {b : Block} {p q t u c d : ℕ} {x y z r : List Token} → IsExpr v x (token kw_to u ∷ y) → IsExpr w y (token kw_do c ∷ z) → IsBlock b z (token kw_end d ∷ r) → IsPrim (e.For n v w b p) (token kw_for p ∷ token (k.Name n) q ∷ token sym_equals t ∷ x) r
    foreach : {n : List ℕ} {v : Expr} {b : Block} {p q t u c : ℕ} {x y r : List Token} → IsExpr v x (token kw_do u ∷ y) → IsBlock b y (token kw_end c ∷ r) → IsPrim (e.Foreach n v b p) (token kw_foreach p ∷ token (k.Name n) q ∷ token kw_in t ∷ x) r
    try : {b : Block} {v : Expr} {p : ℕ} {x y r : List Token} → IsBlock b x y → IsTry p b v y r → IsPrim v (token kw_try p ∷ x) r
    raise : {v : Expr} {p q t : ℕ} {x r : List Token} → IsExpr v x (token sym_close t ∷ r) → IsPrim (e.Raise v p) (token kw_raise p ∷ token sym_open q ∷ x) r
    watch : {v w : Expr} {p q t : ℕ} {x y r : List Token} → IsExpr v x (token kw_until q ∷ y) → IsExpr w y (token kw_end t ∷ r) → IsPrim (e.Watch v w p) (token kw_watch p ∷ x) r
    redirect : {v w : Expr} {p q t : ℕ} {x y r : List Token} → IsExpr v x (token kw_to q ∷ y) → IsExpr w y (token kw_end t ∷ r) → IsPrim (e.Redirect v w p) (token kw_redirect p ∷ x) r
    clone : {vs : List Expr} {p q t : ℕ} {x r : List Token} → IsArgs vs x (token sym_close t ∷ r) → IsPrim (e.Clone vs p) (token kw_clone p ∷ token sym_open q ∷ x) r

  -- [ Args ] "]"
  pub data IsArray : List Expr → List Token → List Token → Type 0 where
    no_element : {p : ℕ} {r : List Token} → IsArray [] (token sym_close_bracket p ∷ r) r
    elements : {vs : List Expr} {p : ℕ} {x r : List Token} → IsArgs vs x (token sym_close_bracket p ∷ r) → IsArray vs x r

  -- Expr "then" Block
  pub data IsArm : Arm → List Token → List Token → Type 0 where
    arm_of : {v : Expr} {b : Block} {p : ℕ} {x y r : List Token} → IsExpr v x (token kw_then p ∷ y) → IsBlock b y r → IsArm (arm v b) x r

  -- { "elsif" Expr "then" Block }
  pub data IsElsifs : List Arm → List Token → List Token → Type 0 where
    no_elsif : {x : List Token} → IsElsifs [] x x
    one_elsif : {a : Arm} {ms : List Arm} {p : ℕ} {x y r : List Token} → IsArm a x y → IsElsifs ms y r → IsElsifs (a ∷ ms) (token kw_elsif p ∷ x) r

  -- [ "else" Block ] "end"
  pub data IsElse : Option Block → List Token → List Token → Type 0 where
    no_else : {p : ℕ} {r : List Token} → IsElse None (token kw_end p ∷ r) r
    else_ : {b : Block} {p q : ℕ} {x r : List Token} → IsBlock b x (token kw_end q ∷ r) → IsElse (Some b) (token kw_else p ∷ x) r

  -- behind the "try" at p and the block b
  pub data IsTry : ℕ → Block → Expr → List Token → List Token → Type 0 where
    finally : {p : ℕ} {b l : Block} {q t : ℕ} {x r : List Token} → IsBlock l x (token kw_end t ∷ r) → IsTry p b (e.Finally b l p) (token kw_finally q ∷ x) r
    excepts : {p : ℕ} {b : Block} {a : Arm} {ms : List Arm} {l : Option Block} {q : ℕ} {x y z r : List Token} → IsGuard a x y → IsGuards ms y z → IsElse l z r → IsTry p b (e.Try b (a ∷ ms) l p) (token kw_except q ∷ x) r

  -- Expr "=>" Block
  pub data IsGuard : Arm → List Token → List Token → Type 0 where
    guard_of : {v : Expr} {b : Block} {p : ℕ} {x y r : List Token} → IsExpr v x (token sym_arrow p ∷ y) → IsBlock b y r → IsGuard (arm v b) x r

  -- { "except" Expr "=>" Block }
  pub data IsGuards : List Arm → List Token → List Token → Type 0 where
    no_guard : {x : List Token} → IsGuards [] x x
    one_guard : {a : Arm} {ms : List Arm} {p : ℕ} {x y r : List Token} → IsGuard a x y → IsGuards ms y r → IsGuards (a ∷ ms) (token kw_except p ∷ x) r

  -- behind "{": "}" | Fields "}" | Flags "}" | Flags "," Fields "}"
  pub data IsObject : Flags → List Field → List Token → List Token → Type 0 where
    no_field : {p : ℕ} {r : List Token} → IsObject (flags false false) [] (token sym_close_brace p ∷ r) r
    unflagged : {fs : List Field} {p : ℕ} {x r : List Token} → IsFields fs x (token sym_close_brace p ∷ r) → IsObject (flags false false) fs x r
    protected : {other : Bool} {fs : List Field} {p : ℕ} {x r : List Token} → IsFlagged row_serialized other fs x r → IsObject (flags true other) fs (token kw_protected p ∷ x) r
    serialized : {other : Bool} {fs : List Field} {p : ℕ} {x r : List Token} → IsFlagged row_protected other fs x r → IsObject (flags other true) fs (token kw_serialized p ∷ x) r

  -- behind the first flag; the other flag, which may follow, is the keyword of this row
  pub data IsFlagged : ℕ → Bool → List Field → List Token → List Token → Type 0 where
    flag_alone : {row : ℕ} {p : ℕ} {r : List Token} → IsFlagged row false [] (token sym_close_brace p ∷ r) r
    flag_fields : {row : ℕ} {fs : List Field} {p q : ℕ} {x r : List Token} → IsFields fs x (token sym_close_brace q ∷ r) → IsFlagged row false fs (token sym_comma p ∷ x) r
    other_flag : {row : ℕ} {fs : List Field} {p q : ℕ} {x r : List Token} → IsBothFlags fs x r → IsFlagged row true fs (token sym_comma p ∷ token (k.Keyword row) q ∷ x) r

  -- behind both flags
  pub data IsBothFlags : List Field → List Token → List Token → Type 0 where
    flags_alone : {p : ℕ} {r : List Token} → IsBothFlags [] (token sym_close_brace p ∷ r) r
    flags_fields : {fs : List Field} {p q : ℕ} {x r : List Token} → IsFields fs x (token sym_close_brace q ∷ r) → IsBothFlags fs (token sym_comma p ∷ x) r

  -- Field { "," Field }
  pub data IsFields : List Field → List Token → List Token → Type 0 where
    fields : {f : Field} {fs : List Field} {x y r : List Token} → IsField f x y → IsMoreFields fs y r → IsFields (f ∷ fs) x r

  -- { "," Field }
  pub data IsMoreFields : List Field → List Token → List Token → Type 0 where
    no_further_field : {x : List Token} → IsMoreFields [] x x
    one_field : {f : Field} {fs : List Field} {p : ℕ} {x y r : List Token} → IsField f x y → IsMoreFields fs y r → IsMoreFields (f ∷ fs) (token sym_comma p ∷ x) r

  -- name "=>" FieldBody
  pub data IsField : Field → List Token → List Token → Type 0 where
    field_of : {n : List ℕ} {b : FieldExpr} {p q : ℕ} {x r : List Token} → IsFieldBody b x r → IsField (field n b p) (token (k.Name n) p ∷ token sym_arrow q ∷ x) r

-- the tokens derive the tree: they are a block of it and the end token
abbrev pub Derives : List Token → Block → Type 0
Derives tokens tree = (p : ℕ) × IsBlock tree tokens (token k.EndOfSource p ∷ [])
