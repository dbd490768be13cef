-- What an operation that came in a request does where it is served.
use Rattle.std.specs.Prelude.{Bool, List, None, Option, Some, [], codes, false, if◌then◌else◌, is_some, length, nat_lt, negsuc, not, option_map, pos, refl, slice_set, true, unwrap_or, ℕ, ℤ, ◌||◌, ◌∷◌, ◌≡◌}
use Rattle.std.proofs.Common.{ap, subst, sym, true≢false, ◌∙◌}
use Rattle.obq_base.specs.declared.acts.ActKind.{ActKind}
use Rattle.obq_base.specs.declared.code.SourceCode.{SourceCode}
use Rattle.obq_base.specs.declared.places.Ref.{Ref}
use Rattle.obq_base.specs.declared.trees.Flags.{Flags}
use Rattle.obq_model.specs.Cells.{cell_row, import_row, is_clear, is_free, is_refused, owned_cell}
use Rattle.obq_model.specs.Exceptions.{wrong_type}
use Rattle.obq_model.specs.Maps.{map_operation, map_self, map_term, map_value}
use Rattle.obq_model.specs.Procedures.{Proc}
use Rattle.obq_model.specs.Step.{Operation, Self, no_self, testing}
use Rattle.obq_model.specs.Store.{Cell}
use Rattle.obq_model.specs.Terms.{End, Form, Out, Part, Array, Bytes, Condition, Const, Engine, Loc, Object, Okay, Term, Value, Variable, Writer}
use Rattle.obq_model.proofs.NaturalCells.{map_cell_row}
use Rattle.obq_moves.specs.Store.{same_ref, store}
use Rattle.obq_answers.specs.Beginnings.{engine_shown, method_shown}
use Rattle.obq_answers.specs.Replies.{CompleteReply, PlainReply, ReplyHop, ReplyTaken, ReplyValue, seen_reply}
use Rattle.obq_answers.specs.Requests.{CellServed, IsServed, NameServed, RepliesBy, RetakeServed, ServedBy, ServedRow, form_reply}
use Rattle.obq_answers.specs.Worlds.{seen, seen_cell, seen_value}
use Rattle.obq_answers.proofs.Asking.{own_needs}
use Rattle.obq_answers.proofs.Edges.{first_reads}
use Rattle.obq_answers.proofs.Forms.{form_term}
use Rattle.obq_answers.proofs.Leaving.{owned_complete}
use Rattle.obq_answers.proofs.Seen.{seen_reads, tells}
use Rattle.obq_answers.proofs.SeenActs.{cells_seen, map_row}
use Rattle.obq_stands.specs.World.{Ends, Gives, Idle, Row, result_of}
use Rattle.obq_stands.specs.World as world
use Rattle.obq_windows.specs.Acts.{AnswerCalled, AnswerForm, AnswerMethod, AnswerRaising, AnswerTest, AnswerValue, CompleteAnswer, HasParameters, PlainAnswer, Takes, bottom_activation, left_by}
use Rattle.obq_windows.specs.Agrees.{Agrees}
use Rattle.obq_windows.specs.Complete.{CompleteOperation}
use Rattle.obq_windows.specs.Moves.{act_ends, tree_refused, with_a_parameter}
use Rattle.obq_windows.specs.Rows.{CompleteLeft, CompleteOutcome, PlainArray, PlainCell, PlainCondition, PlainEnds, PlainEngine, PlainObject, PlainOutcome, PlainVariable, PlainWaits, PlainWriter, StandsFor, again_plain, answer_raises, get_plain, invoke_plain, is_plain_free, item_plain, line_plain, object_plain, plain_field, plain_item_at, plain_items, plain_owned, plain_row, read_cell, read_outcome, set_here_plain, set_item_plain, set_plain, set_variable_plain, takes_count, write_plain}
use Rattle.obq_windows.specs.Trees.{AliasBody, MethodBody, NoScope, PlainAgain, ScopeKind, PlainBody, PlainBroadcast, PlainCloning, PlainEachItem, PlainEachSize, PlainExport, PlainField, PlainForkOff, PlainGet, PlainGiveUp, PlainImport, PlainInvoke, PlainItemOf, PlainJoin, PlainLeave, PlainLineUp, PlainNewArray, PlainNewCondition, PlainNewEngine, PlainNewVariable, PlainOperation, PlainRead, PlainRedirect, PlainRunEngine, PlainSetAlias, PlainSetItem, PlainSetMethod, PlainSetValue, PlainSetVariable, PlainSignal, PlainSize, PlainWrite, TreeAct, TreeHere, ValueBody, act_form, kind_of, read_operation, term_of}
use Rattle.obq_windows.specs.Values.{ClosureValue, ExceptionValue, IntValue, LocationValue, OkayValue, PlainValue, Table, TextValue, ThreadValue, TruthValue, count_in, proc_of, read_value, read_values, tree_params}
use Rattle.obq_windows.specs.Windows.{NodeHere, node_params}
use Rattle.obq_windows.proofs.ActRows.{rows_complete, rows_read}
use Rattle.obq_windows.proofs.Results.{closure_cases}
use Rattle.obq_windows.proofs.Whole.{made_of}

-- ---- rows leave nothing but values, raisings, bodies, and forms that a reply stands for

abbrev HasReply : PlainAnswer Ref → Type 0
HasReply (AnswerForm p) = (r : PlainReply) × (form_reply p ≡ Some r)
HasReply answer = Unit {0}

abbrev RowReplies : PlainOutcome Ref → Type 0
RowReplies PlainWaits = Unit {0}
RowReplies (PlainEnds kind left answer) = HasReply answer

has_if : (b : Bool) (x y : PlainOutcome Ref) → RowReplies x → RowReplies y → RowReplies (if b then x else y)
has_if true x y h i = h
has_if false x y h i = i

has_object : (s : Self Ref) (o : Ref) (f : Flags → Option ℕ → List (PlainField Ref) → PlainOutcome Ref) → ((flags : Flags) (owner : Option ℕ) (fields : List (PlainField Ref)) → RowReplies (f flags owner fields)) → (cell : Option (PlainCell Ref)) → RowReplies (object_plain same_ref s o f cell)
has_object s o f h (Some (PlainObject flags owner fields)) = has_if (is_clear same_ref s o flags owner) (f flags owner fields) PlainWaits (h flags owner fields) tt
has_object s o f h cell = tt

has_get : (b : Option (PlainBody Ref)) → RowReplies (get_plain b)
has_get None = tt
has_get (Some (ValueBody v)) = tt
has_get (Some (MethodBody m)) = tt
has_get (Some (AliasBody p y)) = (ReplyHop p y, refl)

has_invoke : (count : PlainValue Ref → Option ℕ) (t : ℕ) (s : Self Ref) (o : Ref) (flags : Flags) (owner : Option ℕ) (fields : List (PlainField Ref)) (vs : List (PlainValue Ref)) (b : Option (PlainBody Ref)) → RowReplies (invoke_plain count same_ref t s o flags owner fields vs b)
has_invoke count t s o flags owner fields vs None = tt
has_invoke count t s o flags owner fields vs (Some (ValueBody v)) = tt
has_invoke count t s o flags owner fields vs (Some (AliasBody p y)) = (ReplyHop p y, refl)
has_invoke count t s o flags owner fields vs (Some (MethodBody m)) = has_if (takes_count (count m) _) _ _ tt tt

has_set_here : (s : Self Ref) (o : Ref) (flags : Flags) (owner : Option ℕ) (fields : List (PlainField Ref)) (x : Bytes) (body : PlainBody Ref) → RowReplies (set_here_plain same_ref s o flags owner fields x body)
has_set_here s o flags owner fields x body = has_if (is_refused same_ref s o flags) _ _ tt tt

has_set : (s : Self Ref) (o : Ref) (flags : Flags) (owner : Option ℕ) (fields : List (PlainField Ref)) (x : Bytes) (body : PlainBody Ref) (old : Option (PlainBody Ref)) → RowReplies (set_plain same_ref s o flags owner fields x body old)
has_set s o flags owner fields x body None = tt
has_set s o flags owner fields x (ValueBody v) (Some (AliasBody p y)) = (ReplyHop p y, refl)
has_set s o flags owner fields x (MethodBody m) (Some (AliasBody p y)) = (ReplyHop p y, refl)
has_set s o flags owner fields x (AliasBody q z) (Some (AliasBody p y)) = has_set_here s o flags owner fields x (AliasBody q z)
has_set s o flags owner fields x body (Some (ValueBody v)) = has_set_here s o flags owner fields x body
has_set s o flags owner fields x body (Some (MethodBody m)) = has_set_here s o flags owner fields x body

has_item : (v : Option (PlainValue Ref)) → RowReplies (item_plain v)
has_item None = tt
has_item (Some v) = tt

has_set_item : (i : ℤ) (v : PlainValue Ref) (cell : Option (PlainCell Ref)) → RowReplies (set_item_plain i v cell)
has_set_item (pos i) v (Some (PlainArray vs)) = has_if (nat_lt i (length vs)) (PlainEnds ActKind.ArraySet (Some (PlainArray (slice_set vs i v))) (AnswerValue OkayValue)) (PlainEnds ActKind.ArraySet None (answer_raises (codes "array_index"))) tt tt
has_set_item (negsuc i) v (Some (PlainArray vs)) = tt
has_set_item i v cell = tt

has_set_variable : (v : PlainValue Ref) (cell : Option (PlainCell Ref)) → RowReplies (set_variable_plain v cell)
has_set_variable v (Some (PlainVariable old)) = tt
has_set_variable v cell = tt

has_write : (text : Bytes) (cell : Option (PlainCell Ref)) → RowReplies (write_plain text cell)
has_write text (Some (PlainWriter old)) = tt
has_write text cell = tt

has_line : (kind : ActKind) (f : List ℕ → List ℕ) (answer : PlainAnswer Ref) → HasReply answer → (cell : Option (PlainCell Ref)) → RowReplies (line_plain kind f answer cell)
has_line kind f answer h (Some (PlainCondition line)) = h
has_line kind f answer h cell = tt

has_row : (T : Table Ref) (count : PlainValue Ref → Option ℕ) (t : ℕ) (s : Self Ref) (op : PlainOperation Ref) → IsServed T op → (cell : Option (PlainCell Ref)) → RowReplies (plain_row count same_ref t s op cell)
has_row T count t s (PlainGet o x) h cell = has_object s o _ (λ flags owner fields. has_get (plain_field x fields)) cell
has_row T count t s (PlainRead r) h cell = tt
has_row T count t s (PlainWrite r t2) h cell = has_write t2 cell
has_row T count t s (PlainInvoke o x vs) h cell = has_object s o _ (λ flags owner fields. has_invoke count t s o flags owner fields vs (plain_field x fields)) cell
has_row T count t s (PlainItemOf r i) h cell = has_item (plain_item_at (plain_items cell) i)
has_row T count t s (PlainSize r) h cell = tt
has_row T count t s (PlainNewArray vs) h cell = absurd h
has_row T count t s PlainNewCondition h cell = absurd h
has_row T count t s (PlainNewVariable u) h cell = absurd h
has_row T count t s (PlainSetVariable r u) h cell = has_set_variable u cell
has_row T count t s (PlainSetItem r i u) h cell = has_set_item i u cell
has_row T count t s (PlainSetValue o x u) h cell = has_object s o _ (λ flags owner fields. has_set s o flags owner fields x (ValueBody u) (plain_field x fields)) cell
has_row T count t s (PlainSetAlias o x q z) h cell = has_object s o _ (λ flags owner fields. has_set s o flags owner fields x (AliasBody q z) (plain_field x fields)) cell
has_row T count t s (PlainSetMethod o x m) h cell = has_object s o _ (λ flags owner fields. has_set s o flags owner fields x (MethodBody m) (plain_field x fields)) cell
has_row T count t s (PlainRedirect o q) h cell = has_object s o _ (λ flags owner fields. has_if (is_refused same_ref s o flags) _ _ tt tt) cell
has_row T count t s (PlainLeave o k) h cell = absurd h
has_row T count t s (PlainForkOff f) h cell = absurd h
has_row T count t s (PlainRunEngine e f) h cell = tt
has_row T count t s (PlainExport x namer u) h cell = tt
has_row T count t s (PlainImport x namer engine) h cell = tt
has_row T count t s (PlainNewEngine x namer u) h cell = absurd h
has_row T count t s (PlainEachSize r) h cell = absurd h
has_row T count t s (PlainEachItem r i n) h cell = absurd h
has_row T count t s (PlainLineUp o d) h cell = has_line ActKind.Line _ (AnswerForm (PlainGiveUp o d)) (ReplyValue OkayValue, refl) cell
has_row T count t s (PlainGiveUp o d) h cell = (ReplyValue OkayValue, refl)
has_row T count t s (PlainAgain o d) h cell = tt
has_row T count t s (PlainCloning None fields (o ∷ rest)) h cell = has_object s o _ (λ flags owner gs. has_if (is_refused same_ref s o flags) _ _ tt (ReplyTaken _ _, refl)) cell
has_row T count t s (PlainCloning (Some first) fields (o ∷ rest)) h cell = has_object s o _ (λ flags owner gs. has_if (is_refused same_ref s o flags) _ _ tt (ReplyTaken _ _, refl)) cell
has_row T count t s (PlainCloning (Some flags) fields []) h cell = absurd h
has_row T count t s (PlainCloning None fields []) h cell = absurd h
has_row T count t s (PlainSignal d) h cell = has_line ActKind.Signal _ (AnswerValue OkayValue) tt cell
has_row T count t s (PlainBroadcast d) h cell = has_line ActKind.Broadcast _ (AnswerValue OkayValue) tt cell
has_row T count t s (PlainJoin n) h cell = tt

-- ---- what the answers leave, as results

value_left : (T : Table Ref) (op : PlainOperation Ref) (scope : Term Ref) (v : PlainValue Ref) → IsServed T op → left_by T (read_operation T op scope) (AnswerValue v) ≡ Const (read_value T v)
value_left T (PlainGet o x) scope v h = refl
value_left T (PlainRead r) scope v h = refl
value_left T (PlainWrite r t) scope v h = refl
value_left T (PlainInvoke o x vs) scope v h = refl
value_left T (PlainItemOf r i) scope v h = refl
value_left T (PlainSize r) scope v h = refl
value_left T (PlainNewArray vs) scope v h = absurd h
value_left T PlainNewCondition scope v h = absurd h
value_left T (PlainNewVariable u) scope v h = absurd h
value_left T (PlainSetVariable r u) scope v h = refl
value_left T (PlainSetItem r i u) scope v h = refl
value_left T (PlainSetValue o x u) scope v h = refl
value_left T (PlainSetAlias o x q z) scope v h = refl
value_left T (PlainSetMethod o x m) scope v h = refl
value_left T (PlainRedirect o q) scope v h = refl
value_left T (PlainLeave o k) scope v h = absurd h
value_left T (PlainForkOff f) scope v h = absurd h
value_left T (PlainRunEngine e f) scope v h = refl
value_left T (PlainExport x namer u) scope v h = refl
value_left T (PlainImport x namer engine) scope v h = refl
value_left T (PlainNewEngine x namer u) scope v h = absurd h
value_left T (PlainEachSize r) scope v h = absurd h
value_left T (PlainEachItem r i n) scope v h = absurd h
value_left T (PlainLineUp o d) scope v h = refl
value_left T (PlainGiveUp o d) scope v h = refl
value_left T (PlainAgain o d) scope v h = refl
value_left T (PlainCloning None fields (o ∷ rest)) scope v h = refl
value_left T (PlainCloning (Some flags) fields (o ∷ rest)) scope v h = refl
value_left T (PlainCloning (Some flags) fields []) scope v h = absurd h
value_left T (PlainCloning None fields []) scope v h = absurd h
value_left T (PlainSignal d) scope v h = refl
value_left T (PlainBroadcast d) scope v h = refl
value_left T (PlainJoin n) scope v h = refl

test_result : (T : Table Ref) (op : PlainOperation Ref) (scope : Term Ref) → IsServed T op → result_of (map_term seen (left_by T (read_operation T op scope) AnswerTest)) ≡ Gives (seen_reply T (ReplyValue OkayValue))
test_result T (PlainGet o x) scope h = refl
test_result T (PlainRead r) scope h = refl
test_result T (PlainWrite r t) scope h = refl
test_result T (PlainInvoke o x vs) scope h = refl
test_result T (PlainItemOf r i) scope h = refl
test_result T (PlainSize r) scope h = refl
test_result T (PlainNewArray vs) scope h = absurd h
test_result T PlainNewCondition scope h = absurd h
test_result T (PlainNewVariable u) scope h = absurd h
test_result T (PlainSetVariable r u) scope h = refl
test_result T (PlainSetItem r i u) scope h = refl
test_result T (PlainSetValue o x u) scope h = refl
test_result T (PlainSetAlias o x q z) scope h = refl
test_result T (PlainSetMethod o x m) scope h = refl
test_result T (PlainRedirect o q) scope h = refl
test_result T (PlainLeave o k) scope h = absurd h
test_result T (PlainForkOff f) scope h = absurd h
test_result T (PlainRunEngine e f) scope h = refl
test_result T (PlainExport x namer u) scope h = refl
test_result T (PlainImport x namer engine) scope h = refl
test_result T (PlainNewEngine x namer u) scope h = absurd h
test_result T (PlainEachSize r) scope h = absurd h
test_result T (PlainEachItem r i n) scope h = absurd h
test_result T (PlainLineUp o d) scope h = refl
test_result T (PlainGiveUp o d) scope h = refl
test_result T (PlainAgain o d) scope h = refl
test_result T (PlainCloning None fields (o ∷ rest)) scope h = refl
test_result T (PlainCloning (Some flags) fields (o ∷ rest)) scope h = refl
test_result T (PlainCloning (Some flags) fields []) scope h = absurd h
test_result T (PlainCloning None fields []) scope h = absurd h
test_result T (PlainSignal d) scope h = refl
test_result T (PlainBroadcast d) scope h = refl
test_result T (PlainJoin n) scope h = refl

some_reply : (p r : PlainReply) → Some p ≡ Some r → p ≡ r
some_reply p r e = ap (λ (o : Option PlainReply). unwrap_or o p) e

no_reply : {A : Type 0} (r : PlainReply) → ◌≡◌ {A = Option PlainReply} None (Some r) → A
no_reply r e = absurd (true≢false (sym (ap is_some e)))

form_result : (T : Table Ref) (p : PlainOperation Ref) (scope : Term Ref) (r : PlainReply) → form_reply p ≡ Some r → result_of (map_term seen (act_form T p scope)) ≡ Gives (seen_reply T r)
form_result T (PlainGet o x) scope reply q = ap (λ (z : PlainReply). Gives (seen_reply T z)) (some_reply (ReplyHop o x) reply q)
form_result T (PlainRead r) scope reply q = no_reply reply q
form_result T (PlainWrite r t) scope reply q = no_reply reply q
form_result T (PlainInvoke o x vs) scope reply q = ap (λ (z : PlainReply). Gives (seen_reply T z)) (some_reply (ReplyHop o x) reply q)
form_result T (PlainItemOf r i) scope reply q = no_reply reply q
form_result T (PlainSize r) scope reply q = no_reply reply q
form_result T (PlainNewArray vs) scope reply q = no_reply reply q
form_result T PlainNewCondition scope reply q = no_reply reply q
form_result T (PlainNewVariable u) scope reply q = no_reply reply q
form_result T (PlainSetVariable r u) scope reply q = no_reply reply q
form_result T (PlainSetItem r i u) scope reply q = no_reply reply q
form_result T (PlainSetValue o x u) scope reply q = ap (λ (z : PlainReply). Gives (seen_reply T z)) (some_reply (ReplyHop o x) reply q)
form_result T (PlainSetAlias o x p z) scope reply q = no_reply reply q
form_result T (PlainSetMethod o x m) scope reply q = ap (λ (z : PlainReply). Gives (seen_reply T z)) (some_reply (ReplyHop o x) reply q)
form_result T (PlainRedirect o p) scope reply q = no_reply reply q
form_result T (PlainLeave o k) scope reply q = no_reply reply q
form_result T (PlainForkOff f) scope reply q = no_reply reply q
form_result T (PlainRunEngine e f) scope reply q = no_reply reply q
form_result T (PlainExport x namer u) scope reply q = no_reply reply q
form_result T (PlainImport x namer engine) scope reply q = no_reply reply q
form_result T (PlainNewEngine x namer u) scope reply q = no_reply reply q
form_result T (PlainEachSize r) scope reply q = no_reply reply q
form_result T (PlainEachItem r i n) scope reply q = no_reply reply q
form_result T (PlainLineUp o d) scope reply q = no_reply reply q
form_result T (PlainGiveUp o d) scope reply q = ap (λ (z : PlainReply). Gives (seen_reply T z)) (some_reply (ReplyValue OkayValue) reply q)
form_result T (PlainAgain o d) scope reply q = ap (λ (z : PlainReply). Gives (seen_reply T z)) (some_reply (ReplyValue OkayValue) reply q)
form_result T (PlainSignal d) scope reply q = no_reply reply q
form_result T (PlainBroadcast d) scope reply q = no_reply reply q
form_result T (PlainJoin n) scope reply q = no_reply reply q
form_result T (PlainCloning (Some flags) fields rest) scope reply q = ap (λ (z : PlainReply). Gives (seen_reply T z)) (some_reply (ReplyTaken flags fields) reply q)
form_result T (PlainCloning None fields rest) scope reply q = no_reply reply q

form_complete : (T : Table Ref) (p : PlainOperation Ref) (r : PlainReply) → form_reply p ≡ Some r → CompleteOperation T p → CompleteReply T r
form_complete T (PlainGet o x) reply q c = subst (CompleteReply T) (some_reply (ReplyHop o x) reply q) tt
form_complete T (PlainRead r) reply q c = no_reply reply q
form_complete T (PlainWrite r t) reply q c = no_reply reply q
form_complete T (PlainInvoke o x vs) reply q c = subst (CompleteReply T) (some_reply (ReplyHop o x) reply q) tt
form_complete T (PlainItemOf r i) reply q c = no_reply reply q
form_complete T (PlainSize r) reply q c = no_reply reply q
form_complete T (PlainNewArray vs) reply q c = no_reply reply q
form_complete T PlainNewCondition reply q c = no_reply reply q
form_complete T (PlainNewVariable u) reply q c = no_reply reply q
form_complete T (PlainSetVariable r u) reply q c = no_reply reply q
form_complete T (PlainSetItem r i u) reply q c = no_reply reply q
form_complete T (PlainSetValue o x u) reply q c = subst (CompleteReply T) (some_reply (ReplyHop o x) reply q) tt
form_complete T (PlainSetAlias o x p z) reply q c = no_reply reply q
form_complete T (PlainSetMethod o x m) reply q c = subst (CompleteReply T) (some_reply (ReplyHop o x) reply q) tt
form_complete T (PlainRedirect o p) reply q c = no_reply reply q
form_complete T (PlainLeave o k) reply q c = no_reply reply q
form_complete T (PlainForkOff f) reply q c = no_reply reply q
form_complete T (PlainRunEngine e f) reply q c = no_reply reply q
form_complete T (PlainExport x namer u) reply q c = no_reply reply q
form_complete T (PlainImport x namer engine) reply q c = no_reply reply q
form_complete T (PlainNewEngine x namer u) reply q c = no_reply reply q
form_complete T (PlainEachSize r) reply q c = no_reply reply q
form_complete T (PlainEachItem r i n) reply q c = no_reply reply q
form_complete T (PlainLineUp o d) reply q c = no_reply reply q
form_complete T (PlainGiveUp o d) reply q c = subst (CompleteReply T) (some_reply (ReplyValue OkayValue) reply q) tt
form_complete T (PlainAgain o d) reply q c = subst (CompleteReply T) (some_reply (ReplyValue OkayValue) reply q) tt
form_complete T (PlainSignal d) reply q c = no_reply reply q
form_complete T (PlainBroadcast d) reply q c = no_reply reply q
form_complete T (PlainJoin n) reply q c = no_reply reply q
form_complete T (PlainCloning (Some flags) fields rest) reply q c = subst (CompleteReply T) (some_reply (ReplyTaken flags fields) reply q) c
form_complete T (PlainCloning None fields rest) reply q c = no_reply reply q

served_by : (parts : List SourceCode) (T : Table Ref) → Agrees T (store parts) → (op : PlainOperation Ref) → IsServed T op → (scope : Term Ref) (answer : PlainAnswer Ref) → CompleteAnswer T op answer → HasReply answer
    → ServedBy parts T answer (map_term seen (left_by T (read_operation T op scope) answer))
served_by parts T g op h scope (AnswerValue v) c k = (ap (λ (z : Term Ref). result_of (map_term seen z)) (value_left T op scope v h), c)
served_by parts T g op h scope (AnswerRaising r) c k = (refl, tt)
served_by parts T g op h scope AnswerTest c k = (test_result T op scope h, tt)
served_by parts T g op h scope (AnswerForm p) c k =
    subst (λ (z : Option PlainReply). RepliesBy T z (map_term seen (left_by T (read_operation T op scope) (AnswerForm p)))) (sym k.1) (form_result T p _ k.0 k.1, form_complete T p k.0 k.1 c.0)
served_by parts T g op h scope (AnswerMethod o m f vs) c k =
    (refl, λ outside. seen_reads parts T outside.activations outside.current (map_self seen outside.current) refl (method_shown o m f vs outside) _ ((first_reads parts T g f c.0 vs c.1 outside).method o m c.2) _ refl)
served_by parts T g op h scope (AnswerCalled f vs) c k =
    (refl, λ outside. seen_reads parts T outside.activations outside.current (map_self seen outside.current) refl (engine_shown f vs outside) _ ((first_reads parts T g f c.0 vs c.1 outside).engine c.2) _ refl)

-- ---- the row, with a window that stands at such a form

-- a closure that takes one argument has one parameter
takes_one : (T : Table Ref) (f : PlainValue Ref) → Takes T f (OkayValue ∷ []) → tree_params T f ≡ Some 1
takes_one T (ClosureValue origin count group index captured) h = at (proc_of T group index) h where
  at : (o : Option Proc) → HasParameters o 1 → count_in o ≡ Some 1
  at None e = absurd e
  at (Some q) e = ap Some e
takes_one T (IntValue z) h = absurd h
takes_one T (TruthValue z) h = absurd h
takes_one T OkayValue h = absurd h
takes_one T (TextValue z) h = absurd h
takes_one T (ExceptionValue z) h = absurd h
takes_one T (ThreadValue z) h = absurd h
takes_one T (LocationValue z r) h = absurd h

served_asks : (T : Table Ref) (op : PlainOperation Ref) → IsServed T op → CompleteOperation T op → act_ends (tree_params T) (tree_refused T) 0 op ≡ None
served_asks T (PlainGet o x) h c = refl
served_asks T (PlainRead r) h c = refl
served_asks T (PlainWrite r t) h c = refl
served_asks T (PlainInvoke o x vs) h c = refl
served_asks T (PlainItemOf r i) h c = refl
served_asks T (PlainSize r) h c = refl
served_asks T (PlainNewArray vs) h c = absurd h
served_asks T PlainNewCondition h c = absurd h
served_asks T (PlainNewVariable u) h c = absurd h
served_asks T (PlainSetVariable r u) h c = refl
served_asks T (PlainSetItem r i u) h c = refl
served_asks T (PlainSetValue o x u) h c = refl
served_asks T (PlainSetAlias o x q z) h c = refl
served_asks T (PlainSetMethod o x m) h c = c.1
served_asks T (PlainRedirect o q) h c = refl
served_asks T (PlainLeave o k) h c = absurd h
served_asks T (PlainForkOff f) h c = absurd h
served_asks T (PlainRunEngine e f) h c = ap with_a_parameter (takes_one T f h)
served_asks T (PlainExport x namer u) h c = refl
served_asks T (PlainImport x namer engine) h c = refl
served_asks T (PlainNewEngine x namer u) h c = absurd h
served_asks T (PlainEachSize r) h c = absurd h
served_asks T (PlainEachItem r i n) h c = absurd h
served_asks T (PlainLineUp o d) h c = refl
served_asks T (PlainGiveUp o d) h c = refl
served_asks T (PlainAgain o d) h c = refl
served_asks T (PlainCloning None fields (o ∷ rest)) h c = refl
served_asks T (PlainCloning (Some flags) fields (o ∷ rest)) h c = refl
served_asks T (PlainCloning (Some flags) fields []) h c = absurd h
served_asks T (PlainCloning None fields []) h c = absurd h
served_asks T (PlainSignal d) h c = refl
served_asks T (PlainBroadcast d) h c = refl
served_asks T (PlainJoin n) h c = refl

abbrev is_in_place : ScopeKind → Bool
is_in_place NoScope = true
is_in_place kind = false

not_there : (k : ScopeKind) → is_in_place k ≡ false → k ≡ NoScope → ⊥
not_there k e h = absurd (true≢false (sym (ap is_in_place h) ∙ e))

-- the operation is the same with any scope where its answer goes in place
any_scope : (T : Table Ref) (op : PlainOperation Ref) (one two : Term Ref) → kind_of op ≡ NoScope → read_operation T op one ≡ read_operation T op two
any_scope T (PlainGet o x) one two k = refl
any_scope T (PlainRead r) one two k = refl
any_scope T (PlainWrite r t) one two k = refl
any_scope T (PlainInvoke o x vs) one two k = refl
any_scope T (PlainItemOf r i) one two k = refl
any_scope T (PlainSize r) one two k = refl
any_scope T (PlainNewArray vs) one two k = refl
any_scope T PlainNewCondition one two k = refl
any_scope T (PlainNewVariable u) one two k = absurd (not_there _ refl k)
any_scope T (PlainSetVariable r u) one two k = refl
any_scope T (PlainSetItem r i u) one two k = refl
any_scope T (PlainSetValue o x u) one two k = refl
any_scope T (PlainSetAlias o x q z) one two k = refl
any_scope T (PlainSetMethod o x m) one two k = refl
any_scope T (PlainRedirect o q) one two k = refl
any_scope T (PlainLeave o out) one two k = refl
any_scope T (PlainForkOff f) one two k = refl
any_scope T (PlainRunEngine e f) one two k = refl
any_scope T (PlainExport x namer u) one two k = refl
any_scope T (PlainImport x namer engine) one two k = refl
any_scope T (PlainNewEngine x namer u) one two k = refl
any_scope T (PlainEachSize r) one two k = absurd (not_there _ refl k)
any_scope T (PlainEachItem r i n) one two k = absurd (not_there _ refl k)
any_scope T (PlainLineUp o d) one two k = absurd (not_there _ refl k)
any_scope T (PlainGiveUp o d) one two k = absurd (not_there _ refl k)
any_scope T (PlainAgain o d) one two k = absurd (not_there _ refl k)
any_scope T (PlainCloning None fields (o ∷ rest)) one two k = refl
any_scope T (PlainCloning (Some flags) fields (o ∷ rest)) one two k = refl
any_scope T (PlainCloning (Some flags) fields []) one two k = refl
any_scope T (PlainCloning None fields []) one two k = refl
any_scope T (PlainSignal d) one two k = refl
any_scope T (PlainBroadcast d) one two k = refl
any_scope T (PlainJoin n) one two k = refl

-- what is known of a row at a cell
record RowAt (T : Table Ref) (op : PlainOperation Ref) (scope : Term Ref) (outcome : PlainOutcome Ref) (row : Row Ref) : Type 0 where
  is : row ≡ read_outcome T Ends Idle (read_operation T op scope) outcome
  complete : CompleteOutcome T op outcome

in_place : (parts : List SourceCode) (T : Table Ref) → Agrees T (store parts) → (op : PlainOperation Ref) → CompleteOperation T op → IsServed T op → kind_of op ≡ NoScope → (scope : Term Ref) (thread : ℕ) (self : Self Ref) (cell : Option (PlainCell Ref)) → CompleteLeft T cell
    → RowAt T op scope (plain_row (node_params (store parts)) same_ref thread self op cell) (cell_row same_ref Ends Idle thread self (read_operation T op scope) (option_map (read_cell T) cell))
in_place parts T g op c h kind scope thread self cell l =
    let stands : StandsFor same_ref T (store parts) op (read_operation T op (Const Okay)) = (
      0,
      no_self,
      bottom_activation OkayValue,
      [],
      NodeHere,
      term_of T [] (TreeAct op TreeHere),
      form_term T (store parts) (bottom_activation OkayValue) 0 [] [] refl tt op NodeHere TreeHere refl c kind,
      [],
      own_needs same_ref T (made_of T (store parts) g) 0 no_self [] op TreeHere (served_asks T op h c),
    ) in
    record {
      is = subst (λ (z : Operation Ref). cell_row same_ref Ends Idle thread self z (option_map (read_cell T) cell) ≡ read_outcome T Ends Idle z (plain_row (node_params (store parts)) same_ref thread self op cell)) (any_scope T op (Const Okay) scope kind)
          (rows_read same_ref T (store parts) g op (read_operation T op (Const Okay)) stands Ends Idle thread self cell l);
      complete = rows_complete same_ref T (store parts) g op (read_operation T op (Const Okay)) stands thread self cell l;
    }

lined : (T : Table Ref) (o d : Ref) (scope : Term Ref) (thread : ℕ) (self : Self Ref) (count : PlainValue Ref → Option ℕ) (cell : Option (PlainCell Ref)) → CompleteLeft T cell
    → RowAt T (PlainLineUp o d) scope (plain_row count same_ref thread self (PlainLineUp o d) cell) (cell_row same_ref Ends Idle thread self (read_operation T (PlainLineUp o d) scope) (option_map (read_cell T) cell))
lined T o d scope thread self count None l = record { is = refl; complete = tt }
lined T o d scope thread self count (Some (PlainObject flags owner fields)) l = record { is = refl; complete = tt }
lined T o d scope thread self count (Some (PlainArray vs)) l = record { is = refl; complete = tt }
lined T o d scope thread self count (Some (PlainVariable v)) l = record { is = refl; complete = tt }
lined T o d scope thread self count (Some (PlainWriter bytes)) l = record { is = refl; complete = tt }
lined T o d scope thread self count (Some (PlainCondition line)) l = record { is = refl; complete = (tt, (tt, refl)) }
lined T o d scope thread self count (Some (PlainEngine v)) l = record { is = refl; complete = tt }

owned_read : (T : Table Ref) (owner : Option ℕ) (cell : Option (PlainCell Ref)) → owned_cell owner (option_map (read_cell T) cell) ≡ option_map (read_cell T) (plain_owned owner cell)
owned_read T owner None = refl
owned_read T owner (Some (PlainObject flags old fields)) = refl
owned_read T owner (Some (PlainArray vs)) = refl
owned_read T owner (Some (PlainVariable v)) = refl
owned_read T owner (Some (PlainWriter bytes)) = refl
owned_read T owner (Some (PlainCondition line)) = refl
owned_read T owner (Some (PlainEngine v)) = refl

given_up : (T : Table Ref) (o d : Ref) (scope : Term Ref) (thread : ℕ) (self : Self Ref) (count : PlainValue Ref → Option ℕ) (cell : Option (PlainCell Ref)) → CompleteLeft T cell
    → RowAt T (PlainGiveUp o d) scope (plain_row count same_ref thread self (PlainGiveUp o d) cell) (cell_row same_ref Ends Idle thread self (read_operation T (PlainGiveUp o d) scope) (option_map (read_cell T) cell))
given_up T o d scope thread self count cell l =
    record { is = ap (λ (z : Option (Cell Ref)). Ends ActKind.GiveUp z (Form (Out o d) (Part scope End))) (owned_read T None cell); complete = (owned_complete T None cell l, (tt, refl)) }

row_at : (parts : List SourceCode) (T : Table Ref) → Agrees T (store parts) → (op : PlainOperation Ref) → CompleteOperation T op → IsServed T op → (scope : Term Ref) (thread : ℕ) (self : Self Ref) (cell : Option (PlainCell Ref)) → CompleteLeft T cell
    → RowAt T op scope (plain_row (node_params (store parts)) same_ref thread self op cell) (cell_row same_ref Ends Idle thread self (read_operation T op scope) (option_map (read_cell T) cell))
row_at parts T g (PlainLineUp o d) c h scope thread self cell l = lined T o d scope thread self (node_params (store parts)) cell l
row_at parts T g (PlainGiveUp o d) c h scope thread self cell l = given_up T o d scope thread self (node_params (store parts)) cell l
row_at parts T g (PlainAgain o d) c h scope thread self cell l = record { is = refl; complete = tt }
row_at parts T g (PlainGet o x) c h scope thread self cell l = in_place parts T g (PlainGet o x) c h refl scope thread self cell l
row_at parts T g (PlainRead r) c h scope thread self cell l = in_place parts T g (PlainRead r) c h refl scope thread self cell l
row_at parts T g (PlainWrite r t) c h scope thread self cell l = in_place parts T g (PlainWrite r t) c h refl scope thread self cell l
row_at parts T g (PlainInvoke o x vs) c h scope thread self cell l = in_place parts T g (PlainInvoke o x vs) c h refl scope thread self cell l
row_at parts T g (PlainItemOf r i) c h scope thread self cell l = in_place parts T g (PlainItemOf r i) c h refl scope thread self cell l
row_at parts T g (PlainSize r) c h scope thread self cell l = in_place parts T g (PlainSize r) c h refl scope thread self cell l
row_at parts T g (PlainNewArray vs) c h scope thread self cell l = absurd h
row_at parts T g PlainNewCondition c h scope thread self cell l = absurd h
row_at parts T g (PlainNewVariable u) c h scope thread self cell l = absurd h
row_at parts T g (PlainSetVariable r u) c h scope thread self cell l = in_place parts T g (PlainSetVariable r u) c h refl scope thread self cell l
row_at parts T g (PlainSetItem r i u) c h scope thread self cell l = in_place parts T g (PlainSetItem r i u) c h refl scope thread self cell l
row_at parts T g (PlainSetValue o x u) c h scope thread self cell l = in_place parts T g (PlainSetValue o x u) c h refl scope thread self cell l
row_at parts T g (PlainSetAlias o x q z) c h scope thread self cell l = in_place parts T g (PlainSetAlias o x q z) c h refl scope thread self cell l
row_at parts T g (PlainSetMethod o x m) c h scope thread self cell l = in_place parts T g (PlainSetMethod o x m) c h refl scope thread self cell l
row_at parts T g (PlainRedirect o q) c h scope thread self cell l = in_place parts T g (PlainRedirect o q) c h refl scope thread self cell l
row_at parts T g (PlainLeave o k) c h scope thread self cell l = absurd h
row_at parts T g (PlainForkOff f) c h scope thread self cell l = absurd h
row_at parts T g (PlainRunEngine e f) c h scope thread self cell l = in_place parts T g (PlainRunEngine e f) c h refl scope thread self cell l
row_at parts T g (PlainExport x namer u) c h scope thread self cell l = in_place parts T g (PlainExport x namer u) c h refl scope thread self cell l
row_at parts T g (PlainImport x namer engine) c h scope thread self cell l = in_place parts T g (PlainImport x namer engine) c h refl scope thread self cell l
row_at parts T g (PlainNewEngine x namer u) c h scope thread self cell l = absurd h
row_at parts T g (PlainEachSize r) c h scope thread self cell l = absurd h
row_at parts T g (PlainEachItem r i n) c h scope thread self cell l = absurd h
row_at parts T g (PlainCloning None fields (o ∷ rest)) c h scope thread self cell l = in_place parts T g (PlainCloning None fields (o ∷ rest)) c h refl scope thread self cell l
row_at parts T g (PlainCloning (Some flags) fields (o ∷ rest)) c h scope thread self cell l = in_place parts T g (PlainCloning (Some flags) fields (o ∷ rest)) c h refl scope thread self cell l
row_at parts T g (PlainCloning (Some flags) fields []) c h scope thread self cell l = absurd h
row_at parts T g (PlainCloning None fields []) c h scope thread self cell l = absurd h
row_at parts T g (PlainSignal d) c h scope thread self cell l = in_place parts T g (PlainSignal d) c h refl scope thread self cell l
row_at parts T g (PlainBroadcast d) c h scope thread self cell l = in_place parts T g (PlainBroadcast d) c h refl scope thread self cell l
row_at parts T g (PlainJoin n) c h scope thread self cell l = in_place parts T g (PlainJoin n) c h refl scope thread self cell l

by_outcome : (parts : List SourceCode) (T : Table Ref) → Agrees T (store parts) → (op : PlainOperation Ref) → IsServed T op → (scope : Term Ref) (outcome : PlainOutcome Ref) (row : Row Ref) → RowAt T op scope outcome row → RowReplies outcome → (r : Row world.Ref) → r ≡ map_row row → ServedRow parts T outcome r
by_outcome parts T g op h scope PlainWaits row k has r e = e ∙ ap map_row k.is
by_outcome parts T g op h scope (PlainEnds kind left answer) row k has r e = (
  map_term seen (left_by T (read_operation T op scope) answer),
  e ∙ ap map_row k.is ∙ ap (λ z. Ends kind z (map_term seen (left_by T (read_operation T op scope) answer))) (cells_seen T left),
  k.complete.0,
  served_by parts T g op h scope answer k.complete.1 has,
)

pub cell_served : CellServed
cell_served parts T g op c h scope thread self cell l =
    by_outcome parts T g op h scope (plain_row (node_params (store parts)) same_ref thread self op cell) (cell_row same_ref Ends Idle thread self (read_operation T op scope) (option_map (read_cell T) cell)) (row_at parts T g op c h scope thread self cell l)
    (has_row T (node_params (store parts)) thread self op h cell) (cell_row world.same_ref Ends Idle thread (map_self seen self) (map_operation seen (read_operation T op scope)) (option_map (seen_cell T) cell))
    (ap (cell_row world.same_ref Ends Idle thread (map_self seen self) (map_operation seen (read_operation T op scope))) (sym (cells_seen T cell))
    ∙ sym (map_cell_row seen map_row same_ref world.same_ref Ends Ends Idle Idle tells (λ kind z u. refl) refl thread self (read_operation T op scope) (option_map (read_cell T) cell)))

-- ---- a mutex that is taken again, and a name that is read

free_seen : (T : Table Ref) (cell : Option (PlainCell Ref)) → is_free (option_map (seen_cell T) cell) ≡ is_plain_free cell
free_seen T None = refl
free_seen T (Some (PlainObject flags None fields)) = refl
free_seen T (Some (PlainObject flags (Some u) fields)) = refl
free_seen T (Some (PlainArray vs)) = refl
free_seen T (Some (PlainVariable v)) = refl
free_seen T (Some (PlainWriter bytes)) = refl
free_seen T (Some (PlainCondition line)) = refl
free_seen T (Some (PlainEngine v)) = refl

owned_seen : (T : Table Ref) (owner : Option ℕ) (cell : Option (PlainCell Ref)) → owned_cell owner (option_map (seen_cell T) cell) ≡ option_map (seen_cell T) (plain_owned owner cell)
owned_seen T owner None = refl
owned_seen T owner (Some (PlainObject flags old fields)) = refl
owned_seen T owner (Some (PlainArray vs)) = refl
owned_seen T owner (Some (PlainVariable v)) = refl
owned_seen T owner (Some (PlainWriter bytes)) = refl
owned_seen T owner (Some (PlainCondition line)) = refl
owned_seen T owner (Some (PlainEngine v)) = refl

pub retake_served : RetakeServed
retake_served parts T p c guard thread lined cell l =
    subst (λ (free : Bool). ServedRow parts T (again_plain thread lined cell) (if lined || not free then Idle else Ends ActKind.Again (owned_cell (Some thread) (option_map (seen_cell T) cell)) (testing (seen p) (seen c) guard))) (sym (free_seen T cell))
    (at (lined || not (is_plain_free cell))) where
      at : (b : Bool)
          → ServedRow parts T (if b then PlainWaits else PlainEnds ActKind.Again (plain_owned (Some thread) cell) AnswerTest) (if b then Idle else Ends ActKind.Again (owned_cell (Some thread) (option_map (seen_cell T) cell)) (testing (seen p) (seen c) guard))
      at true = refl
      at false = (testing (seen p) (seen c) guard, ap (λ (z : Option (Cell world.Ref)). Ends ActKind.Again z (testing (seen p) (seen c) guard)) (owned_seen T (Some thread) cell), owned_complete T (Some thread) cell l, (refl, tt))

pub name_served : NameServed
name_served parts T engine None c = refl
name_served parts T false (Some v) c = (Const (seen_value T v), refl, tt, (refl, c))
name_served parts T true (Some (LocationValue Engine e)) c = (Const (Loc Engine (seen e)), refl, tt, (refl, tt))
name_served parts T true (Some (IntValue z)) c = (wrong_type, refl, tt, (refl, tt))
name_served parts T true (Some (TruthValue z)) c = (wrong_type, refl, tt, (refl, tt))
name_served parts T true (Some OkayValue) c = (wrong_type, refl, tt, (refl, tt))
name_served parts T true (Some (TextValue z)) c = (wrong_type, refl, tt, (refl, tt))
name_served parts T true (Some (ExceptionValue z)) c = (wrong_type, refl, tt, (refl, tt))
name_served parts T true (Some (ThreadValue z)) c = (wrong_type, refl, tt, (refl, tt))
name_served parts T true (Some (LocationValue Object z)) c = (wrong_type, refl, tt, (refl, tt))
name_served parts T true (Some (LocationValue Array z)) c = (wrong_type, refl, tt, (refl, tt))
name_served parts T true (Some (LocationValue Variable z)) c = (wrong_type, refl, tt, (refl, tt))
name_served parts T true (Some (LocationValue Writer z)) c = (wrong_type, refl, tt, (refl, tt))
name_served parts T true (Some (LocationValue Condition z)) c = (wrong_type, refl, tt, (refl, tt))
name_served parts T true (Some (ClosureValue origin count group index cs)) c = (
  wrong_type,
  closure_cases T (read_values T cs) (proc_of T group index) (λ (f : Value Ref). import_row Ends Idle true (Some (map_value seen f)) ≡ Ends ActKind.Import None wrong_type) (λ params body. refl) (λ names G i. refl),
  tt,
  (refl, tt),
)
