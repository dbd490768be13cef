-- Short words for syntax trees, with which the computed rows write their sources. All places are 0.
use Rattle.std.specs.Prelude.{Bool, List, [], codes, negsuc, pos, ℕ, ◌∷◌}
use Prim.Native.String.{String}
use Rattle.obq_base.specs.declared.trees.Flags.{Flags}
use Rattle.obq_base.specs.declared.trees.Operator.{Operator}
use Rattle.obq_base.specs.Tree.{BlockTree, BlockOf, NoBlock, ABlock, ItemTree, LetItem, VarItem, LetRecItem, AssignItem, FieldItem, IndexItem, PlainItem, NoBinds, ABind, NoRecBinds, ARecBind, AProc, ValueOf, MethodOf, AliasOf, ExprTree, IntTree, TextTree, TruthTree, OkTree, NameTree, ProcTree, ArrayTree, ObjectTree, IfTree, LoopTree, ExitTree, ForTree, ForeachTree, TryTree, FinallyTree, RaiseTree, WatchTree, RedirectTree, CloneTree, ChainTree, SuffixedTree, NoLinks, ALink, SuffixTree, ApplySuffix, SelectSuffix, InvokeSuffix, IndexSuffix}
use Rattle.obq_base.specs.View.{ArmPair, FieldPart, LinkPart, exprs_of, items_of, arms_of, fields_of, links_of, suffixes_of}
use Rattle.obq_model.specs.Terms.{Bytes}
use Rattle.obq_model.specs.Located.{links}

abbrev pub block : List ItemTree → BlockTree
block items = BlockOf (items_of items) 0

-- ---- items

abbrev pub then_run : ExprTree → ItemTree
then_run e = PlainItem e

abbrev pub bind_let : String → ExprTree → ItemTree
bind_let x e = LetItem (ABind (codes x) e 0 NoBinds) 0

abbrev pub bind_var : String → ExprTree → ItemTree
bind_var x e = VarItem (ABind (codes x) e 0 NoBinds) 0

abbrev pub bind_rec : String → List Bytes → List ItemTree → ItemTree
bind_rec x params items = LetRecItem (ARecBind (codes x) (AProc params (block items) 0) 0 NoRecBinds) 0

abbrev pub assign : String → ExprTree → ItemTree
assign x e = AssignItem (codes x) e 0

abbrev pub set_value : ExprTree → String → ExprTree → ItemTree
set_value o x e = FieldItem o (codes x) (ValueOf e) 0

abbrev pub set_method : ExprTree → String → List Bytes → List ItemTree → ItemTree
set_method o x params items = FieldItem o (codes x) (MethodOf (AProc params (block items) 0)) 0

abbrev pub set_alias : ExprTree → String → String → ExprTree → ItemTree
set_alias o x y e = FieldItem o (codes x) (AliasOf (codes y) e 0) 0

abbrev pub set_index : ExprTree → ExprTree → ExprTree → ItemTree
set_index a i e = IndexItem a i e 0

-- ---- expressions

abbrev pub int : ℕ → ExprTree
int n = IntTree (pos n) 0

-- the number below 0 that is one less than minus n
abbrev pub below_zero : ℕ → ExprTree
below_zero n = IntTree (negsuc n) 0

abbrev pub text : String → ExprTree
text t = TextTree (codes t) 0

abbrev pub truth : Bool → ExprTree
truth b = TruthTree b 0

abbrev pub okay : ExprTree
okay = OkTree 0

abbrev pub named : String → ExprTree
named x = NameTree (codes x) 0

abbrev pub procedure : List Bytes → List ItemTree → ExprTree
procedure params items = ProcTree (AProc params (block items) 0)

abbrev pub array : List ExprTree → ExprTree
array es = ArrayTree (exprs_of es) 0

abbrev pub flags : Bool → Bool → Flags
flags protected serialized = record { protected = protected; serialized = serialized }

abbrev pub object : Flags → List FieldPart → ExprTree
object f fields = ObjectTree f (fields_of fields) 0

abbrev pub value_field : String → ExprTree → FieldPart
value_field x e = (codes x, ValueOf e, 0)

abbrev pub method_field : String → List Bytes → List ItemTree → FieldPart
method_field x params items = (codes x, MethodOf (AProc params (block items) 0), 0)

abbrev pub alias_field : String → String → ExprTree → FieldPart
alias_field x y e = (codes x, AliasOf (codes y) e 0, 0)

abbrev pub arm : ExprTree → List ItemTree → ArmPair
arm e items = (e, block items)

abbrev pub choose_arm : List ArmPair → ExprTree
choose_arm arms = IfTree (arms_of arms) NoBlock 0

abbrev pub choose_arm_else : List ArmPair → List ItemTree → ExprTree
choose_arm_else arms last = IfTree (arms_of arms) (ABlock (block last)) 0

abbrev pub looped : List ItemTree → ExprTree
looped items = LoopTree (block items) 0

abbrev pub leave_loop : ExprTree
leave_loop = ExitTree 0

abbrev pub counted : String → ExprTree → ExprTree → List ItemTree → ExprTree
counted x m n items = ForTree (codes x) m n (block items) 0

abbrev pub for_each : String → ExprTree → List ItemTree → ExprTree
for_each x a items = ForeachTree (codes x) a (block items) 0

abbrev pub try_except : List ItemTree → List ArmPair → ExprTree
try_except items arms = TryTree (block items) (arms_of arms) NoBlock 0

abbrev pub try_except_else : List ItemTree → List ArmPair → List ItemTree → ExprTree
try_except_else items arms last = TryTree (block items) (arms_of arms) (ABlock (block last)) 0

abbrev pub try_finally : List ItemTree → List ItemTree → ExprTree
try_finally items last = FinallyTree (block items) (block last) 0

abbrev pub raise_it : ExprTree → ExprTree
raise_it e = RaiseTree e 0

abbrev pub watch_until : ExprTree → ExprTree → ExprTree
watch_until c guard = WatchTree c guard 0

abbrev pub redirect_to : ExprTree → ExprTree → ExprTree
redirect_to o target = RedirectTree o target 0

abbrev pub clone_of : List ExprTree → ExprTree
clone_of es = CloneTree (exprs_of es) 0

abbrev pub operated : ExprTree → Operator → ExprTree → ExprTree
operated e op f = ChainTree e (ALink op f 0 NoLinks)

abbrev pub then_operate : Operator → ExprTree → LinkPart
then_operate op e = (op, e, 0)

abbrev pub chained : ExprTree → List LinkPart → ExprTree
chained e links = ChainTree e (links_of links)

-- ---- suffixes

abbrev pub applied : List ExprTree → SuffixTree
applied es = ApplySuffix (exprs_of es) 0

abbrev pub selected : String → SuffixTree
selected x = SelectSuffix (codes x) 0

abbrev pub invoked : String → List ExprTree → SuffixTree
invoked x es = InvokeSuffix (codes x) (exprs_of es) 0

abbrev pub at_index : ExprTree → SuffixTree
at_index e = IndexSuffix e 0

abbrev pub suffixed : ExprTree → List SuffixTree → ExprTree
suffixed e ss = SuffixedTree e (suffixes_of ss)

abbrev pub call_of : ExprTree → List ExprTree → ExprTree
call_of f es = suffixed f (applied es ∷ [])

-- a call of what has this name
abbrev pub call_named : String → List ExprTree → ExprTree
call_named f es = call_of (named f) es

abbrev pub select : ExprTree → String → ExprTree
select o x = suffixed o (selected x ∷ [])

abbrev pub call_method : ExprTree → String → List ExprTree → ExprTree
call_method o x es = suffixed o (invoked x es ∷ [])

abbrev pub index : ExprTree → ExprTree → ExprTree
index a i = suffixed a (at_index i ∷ [])

-- `wr_putText(stdout, e)`
abbrev pub print : ExprTree → ExprTree
print e = call_named "wr_putText" (named "stdout" ∷ e ∷ [])

-- `exception("text")`
abbrev pub exception_named : String → ExprTree
exception_named t = call_named "exception" (text t ∷ [])
