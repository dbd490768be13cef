-- What the reply to a request leaves at the form that asked.
use Rattle.std.specs.Prelude.{List, None, Some, [], map, negsuc, pos, refl, unwrap_or, ◌++◌, ◌∷◌, ◌≡◌}
use Rattle.std.proofs.Common.{ap, subst, sym, ◌∙◌}
use Rattle.obq_base.specs.declared.places.Ref.{Ref}
use Rattle.obq_base.specs.declared.trees.Flags.{Flags}
use Rattle.obq_model.specs.Maps.{map_body, map_fields, map_operation, map_term, map_value}
use Rattle.obq_model.specs.Cells.{set_at_target}
use Rattle.obq_model.specs.Step.{EachSize, Operation, plug}
use Rattle.obq_model.specs.Store.{append_fields}
use Rattle.obq_model.specs.Terms.{Bare, Bytes, Cloning, Const, EachIn, End, Field, Fields, Form, Invoke, Loc, Object, Part, SetMethod, Term, Value}
use Rattle.obq_model.proofs.Naturality.{map_enter, map_values_before}
use Rattle.obq_answers.specs.Replies.{CompleteReply, PlainReply, ReplyHop, ReplyRaised, ReplySeen, ReplyTaken, ReplyValue, hop_answer, reply_answer, seen_reply, size_answer, taken_answer, value_answer}
use Rattle.obq_answers.specs.Worlds.{AnsweredSeen, FormShows, seen, seen_value}
use Rattle.obq_answers.proofs.SeenActs.{form_seen}
use Rattle.obq_stands.specs.World.{Answer, HopTo, MayAsk, Taken, answer_term}
use Rattle.obq_stands.specs.World as world
use Rattle.obq_windows.specs.Acts.{CompleteAnswer, left_by}
use Rattle.obq_windows.specs.Complete.{CompleteFields, CompleteOperation, IsClosed, IsComplete}
use Rattle.obq_windows.specs.Trees.{PlainAgain, PlainBroadcast, PlainCloning, PlainEachItem, PlainEachSize, PlainExport, PlainField, PlainForkOff, PlainGet, PlainGiveUp, PlainImport, PlainInvoke, PlainItemOf, PlainJoin, PlainLeave, PlainLineUp, PlainNewArray, PlainNewCondition, PlainNewEngine, PlainNewVariable, PlainOperation, PlainRead, PlainRedirect, PlainRunEngine, PlainSetAlias, PlainSetItem, PlainSetMethod, PlainSetValue, PlainSetVariable, PlainSignal, PlainSize, PlainWrite, method_of, method_part, read_body, read_fields, read_operation}
use Rattle.obq_windows.specs.Values.{ClosureValue, ExceptionValue, IntValue, LocationValue, OkayValue, PlainValue, Table, TextValue, ThreadValue, TruthValue, proc_of, read_all, read_value, read_values}
use Rattle.obq_windows.proofs.Results.{closure_cases}
use Rattle.obq_windows.proofs.Rows.{closed_cases, refused_closed}

-- ---- answers of replies are complete

fields_append : (T : Table Ref) (xs ys : List (PlainField Ref)) → CompleteFields T xs → CompleteFields T ys → CompleteFields T (xs ++ ys)
fields_append T [] ys h k = k
fields_append T (f ∷ xs) ys h k = (h.0, fields_append T xs ys h.1 k)

hop_complete : (T : Table Ref) (op : PlainOperation Ref) (p : Ref) (y : Bytes) → CompleteOperation T op → CompleteAnswer T op (hop_answer op p y)
hop_complete T (PlainGet o x) p y c = (tt, refl)
hop_complete T (PlainInvoke o x vs) p y c = (c, refl)
hop_complete T (PlainSetValue o x v) p y c = (c, refl)
hop_complete T (PlainSetMethod o x m) p y c = (c, refl)
hop_complete T (PlainSetAlias o x q z) p y c = (tt, refl)
hop_complete T op p y c = tt

taken_complete : (T : Table Ref) (op : PlainOperation Ref) (flags : Flags) (fields : List (PlainField Ref)) → CompleteOperation T op → CompleteFields T fields → CompleteAnswer T op (taken_answer op flags fields)
taken_complete T (PlainCloning first copied (o ∷ rest)) flags fields c d = (fields_append T copied fields c d, refl)
taken_complete T op flags fields c d = tt

size_complete : (T : Table Ref) (r : Ref) (v : PlainValue Ref) → IsComplete T v → CompleteAnswer T (PlainEachSize r) (size_answer r v)
size_complete T r (IntValue (pos n)) c = (tt, refl)
size_complete T r v c = c

value_complete : (T : Table Ref) (op : PlainOperation Ref) (v : PlainValue Ref) → IsComplete T v → CompleteAnswer T op (value_answer op v)
value_complete T (PlainEachSize r) v c = size_complete T r v c
value_complete T (PlainLineUp o d) v c = (tt, refl)
value_complete T (PlainGiveUp o d) v c = (tt, refl)
value_complete T (PlainAgain o d) v c = tt
value_complete T op v c = c

reply_complete : (T : Table Ref) (op : PlainOperation Ref) (reply : PlainReply) → CompleteOperation T op → CompleteReply T reply → CompleteAnswer T op (reply_answer op reply)
reply_complete T op (ReplyValue v) c d = value_complete T op v d
reply_complete T op (ReplyRaised r) c d = tt
reply_complete T op (ReplyHop p y) c d = hop_complete T op p y c
reply_complete T op (ReplyTaken flags fields) c d = taken_complete T op flags fields c d

-- ---- what they leave is what the World makes of the form

method_hop : (T : Table Ref) (p : Ref) (y : Bytes) (v : Value Ref) → IsClosed v → set_at_target (seen p) y (map_body seen (method_of v)) ≡ map_term seen (Form (SetMethod y) (Part (Const (Loc Object p)) (Part (method_part v) End)))
method_hop T p y v c = closed_cases (λ (z : Value Ref). set_at_target (seen p) y (map_body seen (method_of z)) ≡ map_term seen (Form (SetMethod y) (Part (Const (Loc Object p)) (Part (method_part z) End)))) (λ params body. refl) v c

hop_term : (T : Table Ref) (op : PlainOperation Ref) (scope : Term Ref) (p : Ref) (y : Bytes) → CompleteOperation T op → answer_term (map_operation seen (read_operation T op scope)) (HopTo (seen p) y) ≡ map_term seen (left_by T (read_operation T op scope) (hop_answer op p y))
hop_term T (PlainGet o x) scope p y c = refl
hop_term T (PlainRead r) scope p y c = refl
hop_term T (PlainWrite r t) scope p y c = refl
hop_term T (PlainInvoke o x vs) scope p y c = ap (Form (Invoke y)) (sym (map_values_before seen (Loc Object p ∷ read_all T vs) End))
hop_term T (PlainItemOf r i) scope p y c = refl
hop_term T (PlainSize r) scope p y c = refl
hop_term T (PlainNewArray vs) scope p y c = refl
hop_term T PlainNewCondition scope p y c = refl
hop_term T (PlainNewVariable u) scope p y c = refl
hop_term T (PlainSetVariable r u) scope p y c = refl
hop_term T (PlainSetItem r i u) scope p y c = refl
hop_term T (PlainSetValue o x u) scope p y c = refl
hop_term T (PlainSetAlias o x q z) scope p y c = refl
hop_term T (PlainSetMethod o x m) scope p y c = method_hop T p y (read_value T m) (refused_closed (read_value T m) c.1)
hop_term T (PlainRedirect o q) scope p y c = refl
hop_term T (PlainLeave o k) scope p y c = refl
hop_term T (PlainForkOff f) scope p y c = refl
hop_term T (PlainRunEngine e f) scope p y c = refl
hop_term T (PlainExport x namer u) scope p y c = refl
hop_term T (PlainImport x namer engine) scope p y c = refl
hop_term T (PlainNewEngine x namer u) scope p y c = refl
hop_term T (PlainEachSize r) scope p y c = refl
hop_term T (PlainEachItem r i n) scope p y c = refl
hop_term T (PlainLineUp o d) scope p y c = refl
hop_term T (PlainGiveUp o d) scope p y c = refl
hop_term T (PlainAgain o d) scope p y c = refl
hop_term T (PlainCloning flags fields (o ∷ rest)) scope p y c = refl
hop_term T (PlainCloning (Some flags) fields []) scope p y c = refl
hop_term T (PlainCloning None fields []) scope p y c = refl
hop_term T (PlainSignal d) scope p y c = refl
hop_term T (PlainBroadcast d) scope p y c = refl
hop_term T (PlainJoin n) scope p y c = refl

seen_append : (xs ys : Fields Ref) → append_fields (map_fields seen xs) (map_fields seen ys) ≡ map_fields seen (append_fields xs ys)
seen_append Bare ys = refl
seen_append (Field x body xs) ys = ap (Field x (map_body seen body)) (seen_append xs ys)

read_append : (T : Table Ref) (xs ys : List (PlainField Ref)) → append_fields (read_fields T xs) (read_fields T ys) ≡ read_fields T (xs ++ ys)
read_append T [] ys = refl
read_append T (f ∷ xs) ys = ap (Field f.name (read_body T f.body)) (read_append T xs ys)

taken_term : (T : Table Ref) (op : PlainOperation Ref) (scope : Term Ref) (flags : Flags) (fields : List (PlainField Ref))
    → answer_term (map_operation seen (read_operation T op scope)) (Taken flags (map_fields seen (read_fields T fields))) ≡ map_term seen (left_by T (read_operation T op scope) (taken_answer op flags fields))
taken_term T (PlainGet o x) scope flags fields = refl
taken_term T (PlainRead r) scope flags fields = refl
taken_term T (PlainWrite r t) scope flags fields = refl
taken_term T (PlainInvoke o x vs) scope flags fields = refl
taken_term T (PlainItemOf r i) scope flags fields = refl
taken_term T (PlainSize r) scope flags fields = refl
taken_term T (PlainNewArray vs) scope flags fields = refl
taken_term T PlainNewCondition scope flags fields = refl
taken_term T (PlainNewVariable u) scope flags fields = refl
taken_term T (PlainSetVariable r u) scope flags fields = refl
taken_term T (PlainSetItem r i u) scope flags fields = refl
taken_term T (PlainSetValue o x u) scope flags fields = refl
taken_term T (PlainSetAlias o x q z) scope flags fields = refl
taken_term T (PlainSetMethod o x m) scope flags fields = refl
taken_term T (PlainRedirect o q) scope flags fields = refl
taken_term T (PlainLeave o k) scope flags fields = refl
taken_term T (PlainForkOff f) scope flags fields = refl
taken_term T (PlainRunEngine e f) scope flags fields = refl
taken_term T (PlainExport x namer u) scope flags fields = refl
taken_term T (PlainImport x namer engine) scope flags fields = refl
taken_term T (PlainNewEngine x namer u) scope flags fields = refl
taken_term T (PlainEachSize r) scope flags fields = refl
taken_term T (PlainEachItem r i n) scope flags fields = refl
taken_term T (PlainLineUp o d) scope flags fields = refl
taken_term T (PlainGiveUp o d) scope flags fields = refl
taken_term T (PlainAgain o d) scope flags fields = refl
taken_term T (PlainCloning first copied (o ∷ rest)) scope flags fields = ap (λ (fs : Fields world.Ref). Form (Cloning (Some (unwrap_or first flags)) fs (map seen rest)) End) (seen_append (read_fields T copied) (read_fields T fields) ∙ ap (map_fields seen) (read_append T copied fields))
taken_term T (PlainCloning (Some first) copied []) scope flags fields = refl
taken_term T (PlainCloning None copied []) scope flags fields = refl
taken_term T (PlainSignal d) scope flags fields = refl
taken_term T (PlainBroadcast d) scope flags fields = refl
taken_term T (PlainJoin n) scope flags fields = refl

size_term : (T : Table Ref) (r : Ref) (scope : Term Ref) (v : PlainValue Ref) → answer_term (EachSize (seen r) (map_term seen scope)) (Answer (seen_value T v)) ≡ map_term seen (left_by T (EachSize r scope) (size_answer r v))
size_term T r scope (IntValue (pos n)) = refl
size_term T r scope (IntValue (negsuc n)) = refl
size_term T r scope (TruthValue b) = refl
size_term T r scope OkayValue = refl
size_term T r scope (TextValue t) = refl
size_term T r scope (ExceptionValue e) = refl
size_term T r scope (ThreadValue n) = refl
size_term T r scope (LocationValue k q) = refl
size_term T r scope (ClosureValue origin count group index vs) =
    closure_cases T (read_values T vs) (proc_of T group index) (λ (f : Value Ref). answer_term (EachSize (seen r) (map_term seen scope)) (Answer (map_value seen f)) ≡ Const (map_value seen f)) (λ params body. refl) (λ names G i. refl)

value_term : (T : Table Ref) (op : PlainOperation Ref) (scope : Term Ref) (v : PlainValue Ref) → MayAsk (map_operation seen (read_operation T op scope)) → answer_term (map_operation seen (read_operation T op scope)) (Answer (seen_value T v)) ≡ map_term seen (left_by T (read_operation T op scope) (value_answer op v))
value_term T (PlainGet o x) scope v may = refl
value_term T (PlainRead r) scope v may = refl
value_term T (PlainWrite r t) scope v may = refl
value_term T (PlainInvoke o x vs) scope v may = refl
value_term T (PlainItemOf r i) scope v may = refl
value_term T (PlainSize r) scope v may = refl
value_term T (PlainNewArray vs) scope v may = refl
value_term T PlainNewCondition scope v may = refl
value_term T (PlainNewVariable u) scope v may = absurd may
value_term T (PlainSetVariable r u) scope v may = refl
value_term T (PlainSetItem r i u) scope v may = refl
value_term T (PlainSetValue o x u) scope v may = refl
value_term T (PlainSetAlias o x q z) scope v may = refl
value_term T (PlainSetMethod o x m) scope v may = refl
value_term T (PlainRedirect o q) scope v may = refl
value_term T (PlainLeave o k) scope v may = refl
value_term T (PlainForkOff f) scope v may = refl
value_term T (PlainRunEngine e f) scope v may = refl
value_term T (PlainExport x namer u) scope v may = refl
value_term T (PlainImport x namer engine) scope v may = refl
value_term T (PlainNewEngine x namer u) scope v may = refl
value_term T (PlainEachSize r) scope v may = size_term T r scope v
value_term T (PlainEachItem r i n) scope v may = ap (λ (z : Term world.Ref). Form (EachIn (seen r) i n) (Part z (Part (map_term seen scope) End))) (sym (map_enter seen (read_value T v ∷ []) scope))
value_term T (PlainLineUp o d) scope v may = refl
value_term T (PlainGiveUp o d) scope v may = refl
value_term T (PlainAgain o d) scope v may = refl
value_term T (PlainCloning flags fields (o ∷ rest)) scope v may = refl
value_term T (PlainCloning (Some flags) fields []) scope v may = refl
value_term T (PlainCloning None fields []) scope v may = refl
value_term T (PlainSignal d) scope v may = refl
value_term T (PlainBroadcast d) scope v may = refl
value_term T (PlainJoin n) scope v may = refl

reply_term : (T : Table Ref) (op : PlainOperation Ref) (scope : Term Ref) (reply : PlainReply) → CompleteOperation T op → MayAsk (map_operation seen (read_operation T op scope))
    → answer_term (map_operation seen (read_operation T op scope)) (seen_reply T reply) ≡ map_term seen (left_by T (read_operation T op scope) (reply_answer op reply))
reply_term T op scope (ReplyValue v) c may = value_term T op scope v may
reply_term T op scope (ReplyRaised r) c may = refl
reply_term T op scope (ReplyHop p y) c may = hop_term T op scope p y c
reply_term T op scope (ReplyTaken flags fields) c may = taken_term T op scope flags fields

pub reply_seen : ReplySeen
reply_seen parts T g a self w t op after o around h may reply c =
    let f : FormShows parts T a self w op after o around = form_seen parts T g a self w t op after o around h in
    let e : answer_term o (seen_reply T reply) ≡ map_term seen (left_by T (read_operation T op f.scope) (reply_answer op reply)) =
    ap (λ (z : Operation world.Ref). answer_term z (seen_reply T reply)) f.operation ∙ reply_term T op f.scope reply f.complete (subst MayAsk f.operation may) in
    subst (λ (z : Term world.Ref). AnsweredSeen parts T a self w op after (reply_answer op reply) (plug around z)) (sym e) (f.answers (reply_answer op reply) (reply_complete T op reply f.complete c))
