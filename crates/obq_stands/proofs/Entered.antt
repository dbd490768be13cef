-- Every event keeps that a segment that answers a call is the activation that the call entered, or has been left.
use Prim.Native.String.{String}
use Rattle.std.specs.Prelude.{Bool, List, Option, Some, None, [], codes, false, if◌then◌else◌, length, option_map, refl, slice_get, suc, true, zero, ◌∷◌, ℕ, ◌+◌, ◌==◌, ◌≡◌, ◌⊎◌}
use Rattle.std.proofs.Common.{inl, inr, ap, sym, ◌∙◌, subst}
use Rattle.obq_base.specs.declared.acts.ActKind.{ActKind}
use Rattle.obq_base.specs.declared.trees.Flags.{Flags}
use Rattle.obq_model.specs.Terms.{Exn, Object, Mode, Plain, Held, Inner, Value, Thread, Loc, FieldBody, IsValue, IsMethod, IsAlias, Fields, Invoke, Raising, Called, Within, Term, Const, Form, End, Part}
use Rattle.obq_model.specs.Exceptions.{raising, arity, field_missing, not_method}
use Rattle.obq_model.specs.Put.{put_all}
use Rattle.obq_model.specs.Store.{Cell, ObjectCell, field}
use Rattle.obq_model.specs.Step.{Self, self_within, Operation, CallMethod, Leave, RunEngine, Frame, Pending, plug, Found, Next, Needs, Done, Uncaught, find, find_part, through, out_of_method, next_of, body_with}
use Rattle.obq_model.specs.Cells.{at_target, value_of, is_clear, mode_for, owner_for, cell_row, invoke_row, on_object_row}
use Rattle.obq_model.specs.Frames.{IsActivation}
use Rattle.obq_stands.specs.World.{at2, Ref, same_ref, Memory, Segment, Slot, Suspended, Outcome, Answer, RaisedUp, HopTo, Taken, answer_term, result_of, Row, Idle, Ends, Ending, Packet, World}
use Rattle.obq_stands.specs.World as result
use Rattle.obq_stands.specs.Stands.{IsCall, Does, OnCell, Makes, Retakes, Joins, Exports, Imports, TooMany, after_steps}
use Rattle.obq_stands.specs.Events.{with_window, moved, calling, answering, first_slot, Takes, OffLine, OffHold, Steps, Acted, Forks, Finishes, Asks, Serves, Enters, Holds, Returns, Resumes, Begin, Then}
use Rattle.obq_stands.specs.Begun.{IsLeft, IsEntered, HasBegun, AreBegun, BegunKept, EveryRunBegun}
use Rattle.obq_stands.proofs.Update.{at2_cases}

-- ---- what stands next in an activation

-- a step gives an activation, or leaves it
abbrev StepsTo : {R : Type 0} → Found R → Type 0
StepsTo {R} x = (u : Term R) → next_of x ≡ Some u → IsEntered u

steps_next : {R : Type 0} (t : Term R) → IsEntered t → StepsTo (Next t)
steps_next t h u e = let same : t ≡ u = cc e in subst IsEntered same h

out_steps : {R : Type 0} (o : R) (m : Mode) (out : Term R) → IsLeft out → StepsTo (out_of_method o m out)
out_steps o Held out h = λ u e. absurd (cc e)
out_steps o Plain out h = steps_next out (inr h)
out_steps o Inner out h = steps_next out (inr h)

called_steps : {R : Type 0} (eq : R → R → Bool) (a : ℕ) (s : Self R) (x : Found R) → StepsTo (through (Pending Called [] End) (λ v. find_part eq a s Called (v ∷ []) End) x)
called_steps eq a s (Next t) = steps_next (Form Called (Part t End)) (inl tt)
called_steps eq a s (Needs op fs) = λ u e. absurd (cc e)
called_steps eq a s (Done v) = steps_next (Const v) (inr tt)
called_steps eq a s (Uncaught r) = steps_next (raising r) (inr tt)

within_steps : {R : Type 0} (eq : R → R → Bool) (a : ℕ) (s : Self R) (o : R) (m : Mode) (x : Found R) → StepsTo (through (Pending (Within o m) [] End) (λ v. find_part eq a s (Within o m) (v ∷ []) End) x)
within_steps eq a s o m (Next t) = steps_next (Form (Within o m) (Part t End)) (inl tt)
within_steps eq a s o m (Needs op fs) = λ u e. absurd (cc e)
within_steps eq a s o m (Done v) = out_steps o m (Const v) tt
within_steps eq a s o m (Uncaught r) = out_steps o m (raising r) tt

activation_steps : {R : Type 0} (eq : R → R → Bool) (a : ℕ) (s : Self R) (t : Term R) → IsActivation t → StepsTo (find eq a s t)
activation_steps eq a s (Form Called (Part u End)) h = called_steps eq a s (find eq (suc a) s u)
activation_steps eq a s (Form (Within o m) (Part u End)) h = within_steps eq a s o m (find eq (suc a) (self_within o m) u)
activation_steps eq a s _ h = absurd h

left_steps : {R : Type 0} (eq : R → R → Bool) (a : ℕ) (s : Self R) (t : Term R) → IsLeft t → StepsTo (find eq a s t)
left_steps eq a s (Const v) h = λ u e. absurd (cc e)
left_steps eq a s (Form (Raising r) End) h = λ u e. absurd (cc e)
left_steps eq a s _ h = absurd h

pub entered_steps : {R : Type 0} (eq : R → R → Bool) (a : ℕ) (s : Self R) (t : Term R) → IsEntered t → StepsTo (find eq a s t)
entered_steps eq a s t (inl h) = activation_steps eq a s t h
entered_steps eq a s t (inr h) = left_steps eq a s t h

-- an act's form that leaves it, or that has it as the outermost form around it
abbrev Leaves : {R : Type 0} → Operation R → List (Frame R) → Type 0
Leaves {R} op fs = (o : R) × (out : Term R) × (op ≡ Leave o out) × (fs ≡ []) × IsLeft out

abbrev AsksIn : {R : Type 0} → Found R → Type 0
AsksIn {R} x = (op : Operation R) (fs : List (Frame R)) → x ≡ Needs op fs → ((t : Term R) → IsActivation (plug fs t)) ⊎ Leaves op fs

out_asks : {R : Type 0} (o : R) (m : Mode) (out : Term R) → IsLeft out → AsksIn (out_of_method o m out)
out_asks o Held out h = λ op fs e. let leave : Leave o out ≡ op = cc e in let none : [] ≡ fs = cc e in inr (o, out, sym leave, sym none, h)
out_asks o Plain out h = λ op fs e. absurd (cc e)
out_asks o Inner out h = λ op fs e. absurd (cc e)

called_asks : {R : Type 0} (eq : R → R → Bool) (a : ℕ) (s : Self R) (x : Found R) → AsksIn (through (Pending Called [] End) (λ v. find_part eq a s Called (v ∷ []) End) x)
called_asks eq a s (Next t) = λ op fs e. absurd (cc e)
called_asks eq a s (Needs q gs) = λ op fs e. inl (λ t. let same : Pending Called [] End ∷ gs ≡ fs = cc e in subst (λ l. IsActivation (plug l t)) same tt)
called_asks eq a s (Done v) = λ op fs e. absurd (cc e)
called_asks eq a s (Uncaught r) = λ op fs e. absurd (cc e)

within_asks : {R : Type 0} (eq : R → R → Bool) (a : ℕ) (s : Self R) (o : R) (m : Mode) (x : Found R) → AsksIn (through (Pending (Within o m) [] End) (λ v. find_part eq a s (Within o m) (v ∷ []) End) x)
within_asks eq a s o m (Next t) = λ op fs e. absurd (cc e)
within_asks eq a s o m (Needs q gs) = λ op fs e. inl (λ t. let same : Pending (Within o m) [] End ∷ gs ≡ fs = cc e in subst (λ l. IsActivation (plug l t)) same tt)
within_asks eq a s o m (Done v) = out_asks o m (Const v) tt
within_asks eq a s o m (Uncaught r) = out_asks o m (raising r) tt

activation_asks : {R : Type 0} (eq : R → R → Bool) (a : ℕ) (s : Self R) (t : Term R) → IsActivation t → AsksIn (find eq a s t)
activation_asks eq a s (Form Called (Part u End)) h = called_asks eq a s (find eq (suc a) s u)
activation_asks eq a s (Form (Within o m) (Part u End)) h = within_asks eq a s o m (find eq (suc a) (self_within o m) u)
activation_asks eq a s _ h = absurd h

left_asks : {R : Type 0} (eq : R → R → Bool) (a : ℕ) (s : Self R) (t : Term R) → IsLeft t → AsksIn (find eq a s t)
left_asks eq a s (Const v) h = λ op fs e. absurd (cc e)
left_asks eq a s (Form (Raising r) End) h = λ op fs e. absurd (cc e)
left_asks eq a s _ h = absurd h

entered_asks : {R : Type 0} (eq : R → R → Bool) (a : ℕ) (s : Self R) (t : Term R) → IsEntered t → AsksIn (find eq a s t)
entered_asks eq a s t (inl h) = activation_asks eq a s t h
entered_asks eq a s t (inr h) = left_asks eq a s t h

-- ---- segments

entered_after : (d : ℕ) (self : Self Ref) (n : ℕ) (t u : Term Ref) → IsEntered t → after_steps d self n t ≡ Some u → IsEntered u
entered_after d self zero t u h e = let same : t ≡ u = cc e in subst IsEntered same h
entered_after d self (suc n) t u h e = by (next_of (find same_ref d self t)) refl e (λ v. entered_after d self n v u)
  where
    by : (o : Option (Term Ref)) → next_of (find same_ref d self t) ≡ o → elim o [ None ↦ None | Some v ↦ after_steps d self n v ] ≡ Some u → ((v : Term Ref) → IsEntered v → after_steps d self n v ≡ Some u → IsEntered u) → IsEntered u
    by None q r next = absurd (cc r)
    by (Some v) q r next = next v (entered_steps same_ref d self t h v q) r

begun_after : (seg : Segment) (n : ℕ) (u : Term Ref) → HasBegun seg → after_steps seg.depth seg.self n seg.window ≡ Some u → HasBegun (with_window seg u)
begun_after seg n u (inl e) q = inl e
begun_after seg n u (inr h) q = inr (entered_after seg.depth seg.self n seg.window u h q)

-- what a Leave leaves is what went out
left_by_does : (m : Memory) (en : ℕ → ℕ → Option Ending) (threads t : ℕ) (s : Self Ref) (op : Operation Ref) (kind : ActKind) (loc : ℕ) (m2 : Memory) (x : Term Ref) → Does m en threads t s op kind loc m2 x → (o : Ref) (out : Term Ref) → op ≡ Leave o out → out ≡ x
left_by_does m en threads t s _ kind _ _ x (OnCell op r y _ c _ is here row) o out e =
    let left = sym (ap (λ z. cell_row same_ref Ends Idle t s z (Some y.cell)) e) ∙ row in cc left
left_by_does m en threads t s _ _ _ _ _ (Makes r cell after free) o out e = absurd (cc e)
left_by_does m en threads t s _ kind _ _ x (Retakes p q guard y z _ c _ is there row) o out e = absurd (cc e)
left_by_does m en threads t s _ _ _ _ _ (Joins u b ending is) o out e = absurd (cc e)
left_by_does m en threads t s _ _ _ _ _ (Exports y v) o out e = absurd (cc e)
left_by_does m en threads t s _ kind _ _ x (Imports y engine _ _ row) o out e = absurd (cc e)
left_by_does m en threads t s _ _ _ _ _ (TooMany v many) o out e = absurd (cc e)

-- the window behind an act
entered_act : (seg : Segment) (u : Term Ref) (op : Operation Ref) (hs : List (Frame Ref)) (x : Term Ref) → HasBegun (with_window seg u) → find same_ref seg.depth seg.self u ≡ Needs op hs → ((o : Ref) (out : Term Ref) → op ≡ Leave o out → IsLeft out → IsLeft x) → HasBegun (with_window seg (plug hs x))
entered_act seg u op hs x (inl e) q out = inl e
entered_act seg u op hs x (inr h) q out = inr (by (entered_asks same_ref seg.depth seg.self u h op hs q))
  where
    by : ((t : Term Ref) → IsActivation (plug hs t)) ⊎ Leaves op hs → IsEntered (plug hs x)
    by (inl all) = inl (all x)
    by (inr (o, left, is, none, h2)) = inr (subst (λ (fs : List (Frame Ref)). IsLeft (plug fs x)) (sym none) (out o left is h2))

-- a reply to a Leave, which is never asked for
left_answer : (o : Ref) (out : Term Ref) (outcome : Outcome Ref) → IsLeft (answer_term (Leave o out) outcome)
left_answer o out (Answer v) = tt
left_answer o out (RaisedUp r) = tt
left_answer o out (HopTo p y) = tt
left_answer o out (Taken flags fields) = tt

-- ---- the activation that a call enters

abbrev Begins : Term Ref → Type 0
Begins x = (y : Term Ref) → result_of x ≡ result.Enters y → IsActivation y

abbrev RowBegins : Row Ref → Type 0
RowBegins Idle = Unit {0}
RowBegins (Ends kind c x) = Begins x

begins_if : (b : Bool) (x y : Row Ref) → RowBegins x → RowBegins y → RowBegins (if b then x else y)
begins_if true x y h i = h
begins_if false x y h i = i

begins_not : (x : Term Ref) (o : Outcome Ref) → result_of x ≡ result.Gives o → Begins x
begins_not x o e y f = absurd (let gives : result.Gives o ≡ result.Enters y = sym e ∙ f in cc gives)

begins_here : (x : Term Ref) → result_of x ≡ result.Enters x → IsActivation x → Begins x
begins_here x e h y f = let enters : result.Enters x ≡ result.Enters y = sym e ∙ f in let same : x ≡ y = cc enters in subst IsActivation same h

abbrev raised_up : String → Outcome Ref
raised_up text = RaisedUp (Exn (codes text))

invoke_begins : (t : ℕ) (s : Self Ref) (o : Ref) (flags : Flags) (owner : Option ℕ) (fields : Fields Ref) (vs : List (Value Ref)) (b : Option (FieldBody Ref)) → RowBegins (invoke_row same_ref Ends t s o flags owner fields vs b)
invoke_begins t s o flags owner fields vs None = begins_not field_missing (raised_up "field_missing") refl
invoke_begins t s o flags owner fields vs (Some (IsValue v)) = begins_not not_method (raised_up "not_method") refl
invoke_begins t s o flags owner fields vs (Some (IsAlias p y)) = begins_not (at_target (Invoke y) p vs) (HopTo p y) refl
invoke_begins t s o flags owner fields vs (Some (IsMethod params body)) =
    let body_of : Term Ref = Form (Within o (mode_for same_ref s o flags)) (Part (put_all (Loc Object o ∷ vs) params body) End) in
    begins_if (length params == suc (length vs)) (Ends ActKind.Call (Some (ObjectCell flags (owner_for same_ref s o flags t owner) fields)) body_of) (Ends ActKind.Call None arity) (begins_here body_of refl tt) (begins_not arity (raised_up "arity") refl)

cell_begins : (t : ℕ) (s : Self Ref) (op : Operation Ref) (c : Cell Ref) → IsCall op → RowBegins (cell_row same_ref Ends Idle t s op (Some c))
cell_begins t s (CallMethod o x vs) (ObjectCell flags owner fields) h = begins_if (is_clear same_ref s o flags owner) (on_object_row same_ref Ends Idle t s o (CallMethod o x vs) flags owner fields) Idle (invoke_begins t s o flags owner fields vs (field x fields)) tt
cell_begins t s (CallMethod o x vs) c h = tt
cell_begins t s (RunEngine e f) c h = begins_here (Form Called (Part (body_with f (value_of (Some c) ∷ [])) End)) refl tt
cell_begins t s op c h = absurd h

call_begins : (m : Memory) (en : ℕ → ℕ → Option Ending) (threads t : ℕ) (s : Self Ref) (op : Operation Ref) (kind : ActKind) (loc : ℕ) (m2 : Memory) (x : Term Ref) → IsCall op → Does m en threads t s op kind loc m2 x → Begins x
call_begins m en threads t s _ kind _ _ x call (OnCell op r y _ c _ is here row) = subst RowBegins row (cell_begins t s op y.cell call)
call_begins m en threads t s _ _ _ _ _ call (Makes r cell after free) = absurd call
call_begins m en threads t s _ kind _ _ x call (Retakes p q guard y z _ c _ is there row) = absurd call
call_begins m en threads t s _ _ _ _ _ call (Joins u b ending is) = absurd call
call_begins m en threads t s _ _ _ _ _ call (Exports y v) = absurd call
call_begins m en threads t s _ kind _ _ x call (Imports y engine _ _ row) = absurd call
call_begins m en threads t s _ _ _ _ _ call (TooMany v many) = absurd call

-- ---- events

pub put_all_so : {X : Type 0} (P : X → Type 0) (f : ℕ → ℕ → Option X) (s t : ℕ) (x : X) → ((a u : ℕ) (z : X) → f a u ≡ Some z → P z) → P x → (a u : ℕ) (z : X) → at2 f s t (Some x) a u ≡ Some z → P z
put_all_so P f s t x old new a u z e = by (at2_cases f s t (Some x) a u)
  where
    by : ((a ≡ s) × (u ≡ t) × (at2 f s t (Some x) a u ≡ Some x)) ⊎ ((a ≡ s → u ≡ t → ⊥) × (at2 f s t (Some x) a u ≡ f a u)) → P z
    by (inl q) = let same : x ≡ z = let here = q.2 in cc (here, e) in subst P same new
    by (inr q) = old a u z (sym q.1 ∙ e)

pub drop_all_so : {X : Type 0} (P : X → Type 0) (f : ℕ → ℕ → Option X) (s t : ℕ) → ((a u : ℕ) (z : X) → f a u ≡ Some z → P z) → (a u : ℕ) (z : X) → at2 f s t None a u ≡ Some z → P z
drop_all_so P f s t old a u z e = by (at2_cases f s t None a u)
  where
    by : ((a ≡ s) × (u ≡ t) × (at2 f s t None a u ≡ None)) ⊎ ((a ≡ s → u ≡ t → ⊥) × (at2 f s t None a u ≡ f a u)) → P z
    by (inl q) = absurd (let here = q.2 in cc (here, e))
    by (inr q) = old a u z (sym q.1 ∙ e)

taken_begun : (w : World) (a b : ℕ) (p : Packet) (w1 : World) → Takes w a b p w1 → AreBegun w → AreBegun w1
taken_begun w a b p _ (OffLine ps is) h = record { runs = h.runs; pends = h.pends }
taken_begun w a b p _ (OffHold is) h = record { runs = h.runs; pends = h.pends }

abbrev BegunSlot : Slot → Type 0
BegunSlot slot = HasBegun slot.segment

abbrev BegunSuspended : Suspended → Type 0
BegunSuspended e = HasBegun e.segment

pub begun_kept : BegunKept
begun_kept turns w x h (Steps _ s t n slot u is few e) = record { runs = put_all_so BegunSlot w.running s t (moved slot n u) h.runs (begun_after slot.segment n u (h.runs s t slot is) e); pends = h.pends }
begun_kept turns w x h (Acted _ s t n slot u op hs kind loc m y is few e needs does) =
    let at : HasBegun (with_window slot.segment u) = begun_after slot.segment n u (h.runs s t slot is) e in
    let after : HasBegun (with_window slot.segment (plug hs y)) = entered_act slot.segment u op hs y at needs (λ o out is_leave left. subst IsLeft (left_by_does _ _ _ _ _ op kind loc m y does o out is_leave) left) in
    record { runs = put_all_so BegunSlot w.running s t (moved slot (n + 1) (plug hs y)) h.runs after; pends = h.pends }
begun_kept turns w x h (Forks _ s t n slot u v hs is few e needs room) =
    let y : Term Ref = Const (Thread w.threads) in
    let at : HasBegun (with_window slot.segment u) = begun_after slot.segment n u (h.runs s t slot is) e in
    let after : HasBegun (with_window slot.segment (plug hs y)) = entered_act slot.segment u _ hs y at needs (λ o out is_leave left. tt) in
    let first : Slot = moved slot (n + 1) (plug hs y) in
    record { runs = put_all_so BegunSlot (at2 w.running s t (Some first)) s w.threads (calling v) (put_all_so BegunSlot w.running s t first h.runs after) (inl refl); pends = h.pends }
begun_kept turns w x h (Finishes _ s t n slot u e is none few steps ends) = record { runs = drop_all_so BegunSlot w.running s t h.runs; pends = h.pends }
begun_kept turns w x h (Asks _ s t to k slot op hs is few needs free) =
    record { runs = drop_all_so BegunSlot w.running s t h.runs; pends = put_all_so BegunSuspended w.pending s k (record { thread = t; segment = slot.segment }) h.pends (h.runs s t slot is) }
begun_kept turns w x h (Serves _ w1 a b t k used depth self op kind loc m y o takes may does gives) = let g = taken_begun w a b _ w1 takes h in record { runs = g.runs; pends = g.pends }
begun_kept turns w x h (Enters _ w1 a b t k used depth self op kind loc m y z takes call does enters) =
    let g = taken_begun w a b _ w1 takes h in
    record { runs = put_all_so BegunSlot w1.running b t (answering a k used depth self z) g.runs (inr (inl (call_begins _ _ _ _ _ op kind loc m y call does z enters))); pends = g.pends }
begun_kept turns w x h (Holds _ w1 a b t k used depth self op takes) = let g = taken_begun w a b _ w1 takes h in record { runs = g.runs; pends = g.pends }
begun_kept turns w x h (Returns _ s t slot call o is answers out) = record { runs = drop_all_so BegunSlot w.running s t h.runs; pends = h.pends }
begun_kept turns w x h (Resumes _ w1 a b t k used o e op hs takes here needs) =
    let g = taken_begun w a b _ w1 takes h in
    let after : HasBegun (with_window e.segment (plug hs (answer_term op o))) =
    entered_act e.segment e.segment.window op hs (answer_term op o) (h.pends b k e here) needs (λ p out is_leave left. subst (λ q. IsLeft (answer_term q o)) (sym is_leave) (left_answer p out o)) in
    record {
      runs = put_all_so BegunSlot w1.running b t (record { segment = with_window e.segment (plug hs (answer_term op o)); used = used }) g.runs after;
      pends = drop_all_so BegunSuspended w1.pending b k g.pends;
    }

first_begun : (windows : List (Term Ref)) (s t : ℕ) (slot : Slot) (b : Bool) → (if b then option_map first_slot (slice_get windows t) else None) ≡ Some slot → HasBegun slot.segment
first_begun windows s t slot false e = absurd (cc e)
first_begun windows s t slot true e = by (slice_get windows t) e
  where
    by : (o : Option (Term Ref)) → option_map first_slot o ≡ Some slot → HasBegun slot.segment
    by None q = absurd (cc q)
    by (Some y) q = let same : first_slot y ≡ slot = cc q in inl (ap (λ (z : Slot). z.segment.answers) (sym same))

pub every_run_begun : EveryRunBegun
every_run_begun trees turns w Begin = record { runs = λ s t slot e. first_begun _ s t slot (s == t) e; pends = λ s k e is. absurd (cc is) }
every_run_begun trees turns w (Then {v = v} r s) = begun_kept turns v w (every_run_begun trees turns v r) s
