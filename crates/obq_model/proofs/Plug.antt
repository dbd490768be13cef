-- What stands next in a hole is what stands next in the whole, over any references.
use Rattle.std.specs.Prelude.{Bool, List, None, Option, Some, [], false, length, option_map, refl, suc, true, ℕ, ◌++◌, ◌+◌, ◌<◌, ◌∷◌, ◌≡◌}
use Rattle.std.proofs.Common.{subst, ap, sym, ◌∙◌, arith, length-append, true≢false}
use Rattle.std.proofs.lemmas.List.{append-nil, append_assoc}
use Rattle.obq_model.specs.Terms.{Raised, Exn, ExitUp, Mode, Plain, Held, Inner, Value, Kind, Try, Finally, Called, Within, Looping, Counting, EachIn, Choosing, Finishing, Testing, Term, Const, Form, Parts, End, Part}
use Rattle.obq_model.specs.Exceptions.{raising}
use Rattle.obq_model.specs.Step.{Self, Operation, is_operand, Frame, Pending, values_before, fill, plug, self_within, self_in, activations_in, Found, Next, Needs, Done, Uncaught, out_of_method, row, out_of_loop, out_of_try, at_raised, through, find, find_part, next_of, self_at, activations_at}
use Rattle.obq_model.specs.Frames.{IsFrame, AreFrames, lifted, lifted_all, IsBusy, FindPlug, IsActivation, PlugStep, is_stop, NearestStop, PassesAll}

through_busy : {R : Type 0} (f : Frame R) (g : Value R → Found R) (x : Found R) → IsBusy x → through f g x ≡ lifted f x
through_busy f g (Next t) h = refl
through_busy f g (Needs op fs) h = refl
through_busy f g (Done v) h = absurd h
through_busy f g (Uncaught r) h = absurd h

lifted_busy : {R : Type 0} (f : Frame R) (x : Found R) → IsBusy x → IsBusy (lifted f x)
lifted_busy f (Next t) h = tt
lifted_busy f (Needs op fs) h = tt
lifted_busy f (Done v) h = absurd h
lifted_busy f (Uncaught r) h = absurd h

lifted_all_busy : {R : Type 0} (fs : List (Frame R)) (x : Found R) → IsBusy x → IsBusy (lifted_all fs x)
lifted_all_busy [] x h = h
lifted_all_busy (f ∷ fs) x h = lifted_busy f (lifted_all fs x) (lifted_all_busy fs x h)

-- an operand is walked into
pub at_operand : {R : Type 0} (eq : R → R → Bool) (a : ℕ) (s : Self R) (k : Kind R) (before : List (Value R)) (t : Term R) (after : Parts R) → is_operand k (length before) ≡ true
    → find_part eq a s k before (Part t after) ≡ through (Pending k before after) (λ v. find_part eq a s k (before ++ v ∷ []) after) (find eq (activations_in a k) (self_in s k) t)
at_operand eq a s k before t after e =
    ap (λ (b : Bool). elim b [ true ↦ through (Pending k before after) (λ v. find_part eq a s k (before ++ v ∷ []) after) (find eq (activations_in a k) (self_in s k) t) | false ↦ row eq a s k before (Part t after) ]) e

-- operands that are values are passed
pub operands : {R : Type 0} (eq : R → R → Bool) (a : ℕ) (s : Self R) (k : Kind R) (acc vs : List (Value R)) (ts : Parts R) → ((i : ℕ) → i < length acc + length vs → is_operand k i ≡ true)
    → find_part eq a s k acc (values_before vs ts) ≡ find_part eq a s k (acc ++ vs) ts
operands eq a s k acc [] ts w = ap (λ l. find_part eq a s k l ts) (sym (append-nil acc))
operands eq a s k acc (v ∷ vs) ts w =
    let long : length (acc ++ v ∷ []) ≡ suc (length acc) = omega (arith, length-append acc (v ∷ [])) in
    at_operand eq a s k acc (Const v) (values_before vs ts) (w (length acc) (omega arith))
    ∙ operands eq a s k (acc ++ v ∷ []) vs ts (λ i l. w i (omega arith))
    ∙ ap (λ l. find_part eq a s k l ts) (append_assoc acc (v ∷ []) vs)

-- what stands next in a form is what it makes of what stands next in its hole
pub find_fill : {R : Type 0} (eq : R → R → Bool) (a : ℕ) (s : Self R) (k : Kind R) (before : List (Value R)) (after : Parts R) (t : Term R) → IsFrame (Pending k before after)
    → find eq a s (fill (Pending k before after) t) ≡ through (Pending k before after) (λ v. find_part eq a s k (before ++ v ∷ []) after) (find eq (activations_in a k) (self_in s k) t)
find_fill eq a s k before after t w =
    operands eq a s k [] before (Part t after) (λ i l. w i (omega arith)) ∙ at_operand eq a s k before t after (w (length before) (omega arith))

-- what stands next around a part that steps or asks is what stands next in the part
pub find_plug : {R : Type 0} → FindPlug R
find_plug eq a s [] t w h = refl
find_plug eq a s (Pending k before after ∷ fs) t w h =
    let inner : find eq (activations_in a k) (self_in s k) (plug fs t) ≡ lifted_all fs (find eq (activations_at (activations_in a k) fs) (self_at (self_in s k) fs) t) = find_plug eq (activations_in a k) (self_in s k) fs t w.1 h in
    find_fill eq a s k before after (plug fs t) w.0
    ∙ through_busy (Pending k before after) (λ v. find_part eq a s k (before ++ v ∷ []) after) _ (subst IsBusy (sym inner) (lifted_all_busy fs _ h))
    ∙ ap (lifted (Pending k before after)) inner

-- ---- one thing in a hole

-- where the same stands next in two holes the same does in the wholes
pub same_plug : {R : Type 0} (eq : R → R → Bool) (a : ℕ) (s : Self R) (fs : List (Frame R)) (t u : Term R) → AreFrames fs
    → find eq (activations_at a fs) (self_at s fs) t ≡ find eq (activations_at a fs) (self_at s fs) u → find eq a s (plug fs t) ≡ find eq a s (plug fs u)
same_plug eq a s [] t u w h = h
same_plug eq a s (Pending k before after ∷ fs) t u w h =
    find_fill eq a s k before after (plug fs t) w.0
    ∙ ap (through (Pending k before after) (λ v. find_part eq a s k (before ++ v ∷ []) after)) (same_plug eq (activations_in a k) (self_in s k) fs t u w.1 h)
    ∙ sym (find_fill eq a s k before after (plug fs u) w.0)

-- a step in the hole is a step of the whole
pub step_plug : {R : Type 0} (eq : R → R → Bool) (a : ℕ) (s : Self R) (fs : List (Frame R)) (t u : Term R) → AreFrames fs
    → find eq (activations_at a fs) (self_at s fs) t ≡ Next u → find eq a s (plug fs t) ≡ Next (plug fs u)
step_plug eq a s [] t u w h = h
step_plug eq a s (Pending k before after ∷ fs) t u w h =
    find_fill eq a s k before after (plug fs t) w.0
    ∙ ap (through (Pending k before after) (λ v. find_part eq a s k (before ++ v ∷ []) after)) (step_plug eq (activations_in a k) (self_in s k) fs t u w.1 h)

-- so is an act's form
pub needs_plug : {R : Type 0} (eq : R → R → Bool) (a : ℕ) (s : Self R) (fs : List (Frame R)) (t : Term R) (op : Operation R) (gs : List (Frame R)) → AreFrames fs
    → find eq (activations_at a fs) (self_at s fs) t ≡ Needs op gs → find eq a s (plug fs t) ≡ Needs op (fs ++ gs)
needs_plug eq a s [] t op gs w h = h
needs_plug eq a s (Pending k before after ∷ fs) t op gs w h =
    find_fill eq a s k before after (plug fs t) w.0
    ∙ ap (through (Pending k before after) (λ v. find_part eq a s k (before ++ v ∷ []) after)) (needs_plug eq (activations_in a k) (self_in s k) fs t op gs w.1 h)

-- ---- frames behind frames

pub plug_append : {R : Type 0} (fs gs : List (Frame R)) (t : Term R) → plug (fs ++ gs) t ≡ plug fs (plug gs t)
plug_append [] gs t = refl
plug_append (f ∷ fs) gs t = ap (fill f) (plug_append fs gs t)

pub frames_append : {R : Type 0} (fs gs : List (Frame R)) → AreFrames fs → AreFrames gs → AreFrames (fs ++ gs)
frames_append [] gs w v = v
frames_append (f ∷ fs) gs w v = (w.0, frames_append fs gs w.1 v)

pub activations_append : {R : Type 0} (a : ℕ) (fs gs : List (Frame R)) → activations_at a (fs ++ gs) ≡ activations_at (activations_at a fs) gs
activations_append a [] gs = refl
activations_append a (Pending k before after ∷ fs) gs = activations_append (activations_in a k) fs gs

pub self_append : {R : Type 0} (s : Self R) (fs gs : List (Frame R)) → self_at s (fs ++ gs) ≡ self_at (self_at s fs) gs
self_append s [] gs = refl
self_append s (Pending k before after ∷ fs) gs = self_append (self_in s k) fs gs

-- ---- activations

-- an activation always steps or asks
leave_busy : {R : Type 0} (o : R) (m : Mode) (t : Term R) → IsBusy (out_of_method o m t)
leave_busy o Plain t = tt
leave_busy o Held t = tt
leave_busy o Inner t = tt

called_busy : {R : Type 0} (eq : R → R → Bool) (a : ℕ) (s : Self R) (x : Found R) → IsBusy (through (Pending Called [] End) (λ v. find_part eq a s Called (v ∷ []) End) x)
called_busy eq a s (Next t) = tt
called_busy eq a s (Needs op fs) = tt
called_busy eq a s (Done v) = tt
called_busy eq a s (Uncaught r) = tt

within_busy : {R : Type 0} (eq : R → R → Bool) (a : ℕ) (s : Self R) (o : R) (m : Mode) (x : Found R) → IsBusy (through (Pending (Within o m) [] End) (λ v. find_part eq a s (Within o m) (v ∷ []) End) x)
within_busy eq a s o m (Next t) = tt
within_busy eq a s o m (Needs op fs) = tt
within_busy eq a s o m (Done v) = leave_busy o m (Const v)
within_busy eq a s o m (Uncaught r) = leave_busy o m (raising r)

pub activation_busy : {R : Type 0} (eq : R → R → Bool) (a : ℕ) (s : Self R) (t : Term R) → IsActivation t → IsBusy (find eq a s t)
activation_busy eq a s (Form Called (Part u End)) h = called_busy eq a s (find eq (suc a) s u)
activation_busy eq a s (Form (Within o m) (Part u End)) h = within_busy eq a s o m (find eq (suc a) (self_within o m) u)
activation_busy eq a s _ h = absurd h

lifted_next : {R : Type 0} (fs : List (Frame R)) (x : Found R) → next_of (lifted_all fs x) ≡ option_map (plug fs) (next_of x)
lifted_next {R} [] x = map_same (next_of x)
  where
    map_same : (o : Option (Term R)) → o ≡ option_map (λ t. t) o
    map_same None = refl
    map_same (Some t) = refl
lifted_next {R} (f ∷ fs) x = one_more (lifted_all fs x) ∙ ap (option_map (fill f)) (lifted_next fs x) ∙ twice_mapped (next_of x)
  where
    one_more : (y : Found R) → next_of (lifted f y) ≡ option_map (fill f) (next_of y)
    one_more (Next t) = refl
    one_more (Needs op gs) = refl
    one_more (Done v) = refl
    one_more (Uncaught r) = refl

    twice_mapped : (o : Option (Term R)) → option_map (fill f) (option_map (plug fs) o) ≡ option_map (plug (f ∷ fs)) o
    twice_mapped None = refl
    twice_mapped (Some t) = refl

pub plug_step : {R : Type 0} → PlugStep R
plug_step eq a s fs t w h =
    ap next_of (find_plug eq a s fs t w (activation_busy eq (activations_at a fs) (self_at s fs) t h)) ∙ lifted_next fs (find eq (activations_at a fs) (self_at s fs) t)

-- ---- a raising and its nearest stop

-- a form that is no stop lets a raising pass
passed : {R : Type 0} (k : Kind R) (before : List (Value R)) (after : Parts R) (r : Raised) → is_stop k ≡ false → at_raised (Pending k before after) r ≡ Uncaught r
passed Try before after r e = absurd (true≢false e)
passed Finally before after r e = absurd (true≢false e)
passed Called before after r e = absurd (true≢false e)
passed (Within o m) before after r e = absurd (true≢false e)
passed Looping before after r e = absurd (true≢false e)
passed (Counting i n) before after r e = absurd (true≢false e)
passed (EachIn q i n) before after r e = absurd (true≢false e)
passed (Choosing x) before after r e = absurd (true≢false e)
passed Finishing before after r e = absurd (true≢false e)
passed (Testing o c) before after r e = absurd (true≢false e)
passed _ before after r e = refl

pub passes_all : {R : Type 0} → PassesAll R
passes_all eq a s [] r w h = refl
passes_all eq a s (Pending k before after ∷ gs) r w h =
    find_fill eq a s k before after (plug gs (raising r)) w.0
    ∙ ap (through (Pending k before after) (λ v. find_part eq a s k (before ++ v ∷ []) after)) (passes_all eq (activations_in a k) (self_in s k) gs r w.1 h.1)
    ∙ passed k before after r h.0

loop_busy : (R : Type 0) (r : Raised) → IsBusy {R = R} (out_of_loop r)
loop_busy R ExitUp = tt
loop_busy R (Exn e) = tt

try_busy : {R : Type 0} (arms : Parts R) (r : Raised) → IsBusy (out_of_try arms r)
try_busy arms ExitUp = tt
try_busy arms (Exn e) = tt

-- a stop steps or asks
raised_busy : {R : Type 0} (k : Kind R) (before : List (Value R)) (after : Parts R) (r : Raised) → is_stop k ≡ true → IsBusy (at_raised (Pending k before after) r)
raised_busy Try before after r e = try_busy after r
raised_busy Finally before after r e = tt
raised_busy Called before after r e = tt
raised_busy (Within o m) before after r e = leave_busy o m (raising r)
raised_busy {R} Looping before after r e = loop_busy R r
raised_busy {R} (Counting i n) before after r e = loop_busy R r
raised_busy {R} (EachIn q i n) before after r e = loop_busy R r
raised_busy (Choosing x) before after r e = tt
raised_busy Finishing before after r e = tt
raised_busy (Testing o c) before after r e = tt
raised_busy _ before after r e = absurd (true≢false (sym e))

pub nearest_stop : {R : Type 0} → NearestStop R
nearest_stop eq a s fs (Pending k before after) gs r w v u i h =
    let hit : find eq (activations_at a fs) (self_at s fs) (fill (Pending k before after) (plug gs (raising r))) ≡ at_raised (Pending k before after) r =
    find_fill eq (activations_at a fs) (self_at s fs) k before after (plug gs (raising r)) v
    ∙ ap (through (Pending k before after) (λ w. find_part eq (activations_at a fs) (self_at s fs) k (before ++ w ∷ []) after)) (passes_all eq (activations_in (activations_at a fs) k) (self_in (self_at s fs) k) gs r u h) in
    ap (find eq a s) (plug_append fs (Pending k before after ∷ gs) (raising r))
    ∙ find_plug eq a s fs (fill (Pending k before after) (plug gs (raising r))) w (subst IsBusy (sym hit) (raised_busy k before after r i))
    ∙ ap (lifted_all fs) hit
