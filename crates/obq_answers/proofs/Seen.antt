-- Windows over the references of a World: what stands next there, and how windows end and begin.
use Rattle.std.specs.Prelude.{Bool, List, None, Option, Some, [], false, is_some, option_map, refl, suc, true, unwrap_or, zero, ℕ, ◌&&◌, ◌==◌, ◌∷◌, ◌≡◌}
use Rattle.std.proofs.Common.{ap, subst, sym, true≢false, ◌∙◌}
use Rattle.obq_base.specs.Tree.{AnItem, NoItems}
use Rattle.obq_base.specs.declared.code.SourceCode.{SourceCode}
use Rattle.obq_base.specs.declared.places.Ref.{Ref}
use Rattle.obq_builtin.specs.Reading.{kind_of}
use Rattle.obq_model.specs.Builtins.{kind_number}
use Rattle.obq_model.specs.Maps.{map_found, map_frames, map_operation, map_self, map_term}
use Rattle.obq_model.specs.Naturality.{Tells}
use Rattle.obq_model.specs.Step.{Done, Found, Frame, Needs, Next, Operation, Self, Uncaught, find, next_of, plug}
use Rattle.obq_model.specs.Terms.{Called, End, ExitUp, Exn, Form, Loc, Object, Part, Raised, Term, Within}
use Rattle.obq_model.proofs.Naturality.{map_body_with, map_find, map_plug}
use Rattle.obq_moves.specs.Store.{same_ref, store}
use Rattle.obq_moves.specs.Views.{Shown}
use Rattle.obq_answers.specs.Ends.{EndIs}
use Rattle.obq_answers.specs.Firsts.{BegunReads}
use Rattle.obq_answers.specs.Forms.{AnsweredReads, IsAtForm}
use Rattle.obq_answers.specs.Readings.{ReadsAs}
use Rattle.obq_answers.specs.Worlds.{AnsweredSeen, BottomIs, BottomSeen, EndSeen, FirstSeen, SeenAs, SeenForm, StepsSeen, ending_at, seen}
use Rattle.obq_answers.proofs.Edges.{end_reads, first_reads}
use Rattle.obq_answers.proofs.Forms.{form_reads}
use Rattle.obq_stands.specs.Events.{ends_as}
use Rattle.obq_stands.specs.Stands.{after_steps}
use Rattle.obq_stands.specs.World as world
use Rattle.obq_windows.specs.Acts.{PlainAnswer}
use Rattle.obq_windows.specs.Agrees.{Agrees, FocusIs, FramesAre}
use Rattle.obq_windows.specs.Complete.{CompleteFocus}
use Rattle.obq_windows.specs.Laws.{Reads}
use Rattle.obq_windows.specs.Runs.{pure_steps}
use Rattle.obq_windows.specs.Trees.{BlockTask, ExprTask, ItemsTask, PlainOperation, TreeAct, TreeCall, TreeFocus, TreeFrame, TreeMake, TreeMethod, TreeRaising, TreeRun, TreeUnmet, TreeValue, term_of}
use Rattle.obq_windows.specs.Values.{PlainValue, Table, read_all, read_value}
use Rattle.obq_windows.specs.Windows.{Activation, NodeAct, NodeAfter, NodeCall, NodeFocus, NodeFrame, NodeItems, NodeMake, NodeMethod, NodeRaising, NodeRun, NodeUnmet, NodeValue, Store}

and_swapped : (s n k : Bool) → (s && (k && n)) ≡ ((s && n) && k)
and_swapped false n k = refl
and_swapped true false true = refl
and_swapped true false false = refl
and_swapped true true true = refl
and_swapped true true false = refl

-- references are told apart as they were
pub tells : Tells seen same_ref world.same_ref
tells p q = and_swapped (p.site.0 == q.site.0) (p.n == q.n) (kind_number (kind_of p.kind) == kind_number (kind_of q.kind))

pub found_seen : (a : ℕ) (own : Self Ref) (t : Term Ref) → find world.same_ref a (map_self seen own) (map_term seen t) ≡ map_found seen (find same_ref a own t)
found_seen a own t = sym (map_find seen same_ref world.same_ref tells a own t)

-- what stands next in a term of a World is that of the window's
pub next_seen : (parts : List SourceCode) (T : Table Ref) (a : ℕ) (self : Self world.Ref) (w : Shown) (t : Term world.Ref) (k : SeenAs parts T a self w t) → find world.same_ref a self t ≡ map_found seen (find same_ref a k.own k.like.term)
next_seen parts T a self w t k =
    ap (λ (z : Self world.Ref). find world.same_ref a z t) k.self_is ∙ ap (find world.same_ref a (map_self seen k.own)) k.term_is ∙ found_seen a k.own k.term ∙ ap (map_found seen) k.like.next

-- ---- pure steps

none_is : {A : Type 0} (u : Term Ref) → ◌≡◌ {A = Option (Term Ref)} None (Some u) → A
none_is u h = absurd (true≢false (sym (ap is_some h)))

next_mapped : (x : Found Ref) → next_of (map_found seen x) ≡ option_map (map_term seen) (next_of x)
next_mapped (Next t) = refl
next_mapped (Needs o fs) = refl
next_mapped (Done v) = refl
next_mapped (Uncaught r) = refl

pub steps_seen : StepsSeen
steps_seen a own zero t u h = ap (option_map (map_term seen)) h
steps_seen a own (suc n) t u h = subst (Goes (next_of (find same_ref a own t)) h) (sym (ap next_of (found_seen a own t) ∙ next_mapped (find same_ref a own t))) (on (next_of (find same_ref a own t)) h (λ y k. steps_seen a own n y u k)) where
  Goes : (x : Option (Term Ref)) → ◌≡◌ {A = Option (Term Ref)} (elim x [ None ↦ None | Some y ↦ pure_steps same_ref a own n y ]) (Some u) → Option (Term world.Ref) → Type 0
  Goes x k z = ◌≡◌ {A = Option (Term world.Ref)} (elim z [ None ↦ None | Some y ↦ after_steps a (map_self seen own) n y ]) (Some (map_term seen u))

  on : (x : Option (Term Ref)) (k : ◌≡◌ {A = Option (Term Ref)} (elim x [ None ↦ None | Some y ↦ pure_steps same_ref a own n y ]) (Some u))
      → ((y : Term Ref) → pure_steps same_ref a own n y ≡ Some u → after_steps a (map_self seen own) n (map_term seen y) ≡ Some (map_term seen u)) → Goes x k (option_map (map_term seen) x)
  on None k ih = none_is u k
  on (Some y) k ih = ih y k

-- ---- a form in the references of a window

abbrev is_needed : {R : Type 0} → Found R → Bool
is_needed (Needs o fs) = true
is_needed found = false

abbrev operation_of : {R : Type 0} → Operation R → Found R → Operation R
operation_of other (Needs o fs) = o
operation_of other found = other

abbrev frames_found : {R : Type 0} → Found R → List (Frame R)
frames_found (Needs o fs) = fs
frames_found found = []

-- an operation that stands next in a term of a World is that of the window's
record Back (x : Found Ref) (o : Operation world.Ref) (around : List (Frame world.Ref)) : Type 0 where
  own : Operation Ref
  frames : List (Frame Ref)
  found : x ≡ Needs own frames
  operation : o ≡ map_operation seen own
  around_is : around ≡ map_frames seen frames

back : (x : Found Ref) (o : Operation world.Ref) (around : List (Frame world.Ref)) → map_found seen x ≡ Needs o around → Back x o around
back (Needs p fs) o around e = record { own = p; frames = fs; found = refl; operation = ap (operation_of o) (sym e); around_is = ap frames_found (sym e) }
back (Next t) o around e = absurd (true≢false (sym (ap is_needed e)))
back (Done v) o around e = absurd (true≢false (sym (ap is_needed e)))
back (Uncaught r) o around e = absurd (true≢false (sym (ap is_needed e)))

pub record OwnForm (parts : List SourceCode) (T : Table Ref) (a : ℕ) (self : Self world.Ref) (w : Shown) (op : PlainOperation Ref) (after : NodeAfter) (o : Operation world.Ref) (around : List (Frame world.Ref)) : Type 0 where
  pub own : Self Ref
  pub term : Term Ref
  pub needed : Operation Ref
  pub frames : List (Frame Ref)
  pub form : IsAtForm parts T a own w term op after needed frames
  pub self_is : self ≡ map_self seen own
  pub operation : o ≡ map_operation seen needed
  pub around_is : around ≡ map_frames seen frames

pub own_form : (parts : List SourceCode) (T : Table Ref) → Agrees T (store parts) → (a : ℕ) (self : Self world.Ref) (w : Shown) (t : Term world.Ref) (op : PlainOperation Ref) (after : NodeAfter) (o : Operation world.Ref) (around : List (Frame world.Ref)) → SeenForm parts T a self w t op after o around
    → OwnForm parts T a self w op after o around
own_form parts T g a self w t op after o around h =
    let k : SeenAs parts T a self w t = h.like in
    let b : Back (find same_ref a k.own k.like.term) o around = back (find same_ref a k.own k.like.term) o around (sym (next_seen parts T a self w t k) ∙ h.next) in
    record {
      own = k.own;
      term = k.like.term;
      needed = b.own;
      frames = b.frames;
      form = form_reads parts T g a k.own w k.like.term (record { term = k.like.term; reads = k.like.reads; next = refl }) op after h.form b.own b.frames b.found;
      self_is = k.self_is;
      operation = b.operation;
      around_is = b.around_is;
    }

-- what a window reads back as is seen over the World's references
pub seen_reads : (parts : List SourceCode) (T : Table Ref) (a : ℕ) (own : Self Ref) (self : Self world.Ref) → self ≡ map_self seen own → (w : Shown) (t : Term Ref) → ReadsAs parts T a own w t → (u : Term world.Ref) → u ≡ map_term seen t → SeenAs parts T a self w u
seen_reads parts T a own self e w t r u q = record { own = own; term = t; like = record { term = t; reads = r; next = refl }; self_is = e; term_is = q }

-- so the window behind an answer
pub answered_seen : (parts : List SourceCode) (T : Table Ref) (a : ℕ) (self : Self world.Ref) (w : Shown) (op : PlainOperation Ref) (after : NodeAfter) (o : Operation world.Ref) (around : List (Frame world.Ref)) (k : OwnForm parts T a self w op after o around) (answer : PlainAnswer Ref) (u : Term Ref)
    → AnsweredReads parts T a k.own w op after answer (plug k.frames u) → (x : Term world.Ref) → x ≡ map_term seen u → AnsweredSeen parts T a self w op after answer (plug around x)
answered_seen parts T a self w op after o around k answer u r x e focus =
    seen_reads parts T a k.own self k.self_is _ (plug k.frames u) (r focus) (plug around x) (ap (λ (z : List (Frame world.Ref)). plug z x) k.around_is ∙ ap (plug (map_frames seen k.frames)) e ∙ sym (map_plug seen k.frames u))

-- ---- ends

pub end_seen : EndSeen
end_seen parts T a own w t h = ap ends_as (found_seen a own t) ∙ at w.focus (end_reads parts T a own w t h) where
  at : (x : NodeFocus Ref) → EndIs T (find same_ref a own t) x → ends_as (map_found seen (find same_ref a own t)) ≡ ending_at T x
  at (NodeValue v) e = ap (λ (f : Found Ref). ends_as (map_found seen f)) e.0
  at (NodeRaising (Exn x)) e = ap (λ (f : Found Ref). ends_as (map_found seen f)) e
  at (NodeRaising ExitUp) e = ap (λ (f : Found Ref). ends_as (map_found seen f)) e
  at (NodeRun p height) e = absurd e
  at (NodeItems p left height) e = absurd e
  at (NodeUnmet x child last height) e = absurd e
  at (NodeMethod v x p height) e = absurd e
  at (NodeMake flags done) e = absurd e
  at (NodeCall f vs) e = absurd e
  at (NodeAct op after) e = absurd e

-- a window without frames reads back as its focus
pub no_frames : (T : Table Ref) (S : Store Ref) (act : Activation Ref) (b : ℕ) (ns : List (NodeFrame Ref)) (fs : List (TreeFrame Ref)) → ns ≡ [] → FramesAre T S act b ns fs → fs ≡ []
no_frames T S act b ns [] e h = refl
no_frames T S act b ns (f ∷ fs) e h = absurd (true≢false (ap has_one (sym h.2 ∙ e))) where
  has_one : List (NodeFrame Ref) → Bool
  has_one [] = false
  has_one (x ∷ xs) = true

abbrev value_in : NodeFocus Ref → Option (PlainValue Ref)
value_in (NodeValue v) = Some v
value_in x = None

abbrev raising_in : NodeFocus Ref → Option Raised
raising_in (NodeRaising r) = Some r
raising_in x = None

not_value : {A : Type 0} (v : PlainValue Ref) (x : NodeFocus Ref) → value_in x ≡ None → NodeValue v ≡ x → A
not_value v x e h = absurd (true≢false (ap (λ (z : NodeFocus Ref). is_some (value_in z)) h ∙ ap is_some e))

at_value : (T : Table Ref) (S : Store Ref) (act : Activation Ref) (b : ℕ) (v : PlainValue Ref) (x : TreeFocus Ref) → FocusIs T S act b (NodeValue v) x → x ≡ TreeValue v
at_value T S act b v (TreeValue u) h = ap TreeValue (ap (λ (z : NodeFocus Ref). unwrap_or (value_in z) v) (sym h))
at_value T S act b v (TreeRun p (ExprTask e)) h = not_value v _ refl h.1
at_value T S act b v (TreeRun p (BlockTask e)) h = not_value v _ refl h.1
at_value T S act b v (TreeRun p (ItemsTask NoItems)) h = absurd h
at_value T S act b v (TreeRun p (ItemsTask (AnItem i is))) h = not_value v _ refl h.1
at_value T S act b v (TreeRaising r) h = not_value v _ refl h
at_value T S act b v (TreeUnmet p e last) h = not_value v _ refl h.1
at_value T S act b v (TreeMethod p u x q) h = not_value v _ refl h.1
at_value T S act b v (TreeMake p flags done) h = not_value v _ refl h.1
at_value T S act b v (TreeCall p f vs) h = not_value v _ refl h.0
at_value T S act b v (TreeAct op after) h = not_value v _ refl h.1

not_raising : {A : Type 0} (r : Raised) (x : NodeFocus Ref) → raising_in x ≡ None → NodeRaising r ≡ x → A
not_raising r x e h = absurd (true≢false (ap (λ (z : NodeFocus Ref). is_some (raising_in z)) h ∙ ap is_some e))

at_raising : (T : Table Ref) (S : Store Ref) (act : Activation Ref) (b : ℕ) (r : Raised) (x : TreeFocus Ref) → FocusIs T S act b (NodeRaising r) x → x ≡ TreeRaising r
at_raising T S act b r (TreeRaising u) h = ap TreeRaising (ap (λ (z : NodeFocus Ref). unwrap_or (raising_in z) r) (sym h))
at_raising T S act b r (TreeRun p (ExprTask e)) h = not_raising r _ refl h.1
at_raising T S act b r (TreeRun p (BlockTask e)) h = not_raising r _ refl h.1
at_raising T S act b r (TreeRun p (ItemsTask NoItems)) h = absurd h
at_raising T S act b r (TreeRun p (ItemsTask (AnItem i is))) h = not_raising r _ refl h.1
at_raising T S act b r (TreeValue v) h = not_raising r _ refl h
at_raising T S act b r (TreeUnmet p e last) h = not_raising r _ refl h.1
at_raising T S act b r (TreeMethod p u x q) h = not_raising r _ refl h.1
at_raising T S act b r (TreeMake p flags done) h = not_raising r _ refl h.1
at_raising T S act b r (TreeCall p f vs) h = not_raising r _ refl h.0
at_raising T S act b r (TreeAct op after) h = not_raising r _ refl h.1

bottom_term : (parts : List SourceCode) (T : Table Ref) (w : Shown) (t : Term Ref) (r : Reads T (store parts) w.act w.frames w.focus t) → w.frames ≡ [] → (x : TreeFocus Ref) → r.focus ≡ x → t ≡ term_of T [] x
bottom_term parts T w t r e x q = r.term ∙ ap (λ (fs : List (TreeFrame Ref)). term_of T fs r.focus) (no_frames T (store parts) w.act r.height w.frames r.frames e r.are_frames) ∙ ap (term_of T []) q

pub bottom_seen : BottomSeen
bottom_seen parts T a self w t k e = at w.focus refl where
  r : Reads T (store parts) w.act w.frames w.focus k.like.term
  r = k.like.reads.reads

  at : (x : NodeFocus Ref) → w.focus ≡ x → BottomIs T (find world.same_ref a self t) x
  at (NodeValue v) q =
      let here : r.focus ≡ TreeValue v = at_value T (store parts) w.act r.height v r.focus (subst (λ (z : NodeFocus Ref). FocusIs T (store parts) w.act r.height z r.focus) q r.is_focus) in (
        next_seen parts T a self w t k ∙ ap (λ (z : Term Ref). map_found seen (find same_ref a k.own z)) (bottom_term parts T w k.like.term r e (TreeValue v) here),
        subst (λ (z : TreeFocus Ref). CompleteFocus T z) here r.complete.focus,
      )
  at (NodeRaising x) q =
      let here : r.focus ≡ TreeRaising x = at_raising T (store parts) w.act r.height x r.focus (subst (λ (z : NodeFocus Ref). FocusIs T (store parts) w.act r.height z r.focus) q r.is_focus) in
      next_seen parts T a self w t k ∙ ap (λ (z : Term Ref). map_found seen (find same_ref a k.own z)) (bottom_term parts T w k.like.term r e (TreeRaising x) here)
  at (NodeRun p height) q = tt
  at (NodeItems p left height) q = tt
  at (NodeUnmet x child last height) q = tt
  at (NodeMethod v x p height) q = tt
  at (NodeMake flags done) q = tt
  at (NodeCall f vs) q = tt
  at (NodeAct op after) q = tt

-- ---- windows that begin

pub first_seen : FirstSeen
first_seen parts T g f c vs d outside =
    let b : BegunReads parts T f vs outside = first_reads parts T g f c vs d outside in
    record {
      engine = λ k. seen_reads parts T outside.activations outside.current (map_self seen outside.current) refl _ _ (b.engine k) _ (ap (λ (z : Term world.Ref). Form Called (Part z End)) (sym (map_body_with seen (read_value T f) (read_all T vs))));
      method = λ o m k. seen_reads parts T outside.activations outside.current (map_self seen outside.current) refl _ _ (b.method o m k) _ (ap (λ (z : Term world.Ref). Form (Within (seen o) m) (Part z End)) (sym (map_body_with seen (read_value T f) (Loc Object o ∷ read_all T vs))));
    }
