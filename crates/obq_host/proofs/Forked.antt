-- Forks and joins as a World sees them.
use Rattle.std.specs.Prelude.{Bool, List, Option, Some, [], codes, false, if◌then◌else◌, nat_le, refl, true, unwrap_or, ℕ, ◌≡◌}
use Rattle.std.proofs.Common.{ap, subst, sym, true≢false, ◌∙◌}
use Rattle.obq_base.specs.declared.code.SourceCode.{SourceCode}
use Rattle.obq_base.specs.declared.limits.TheConstants.{THREAD_LIMIT}
use Rattle.obq_base.specs.declared.places.Ref.{Ref}
use Rattle.obq_answers.specs.Beginnings.{called_shown}
use Rattle.obq_answers.specs.Forms.{with_focus}
use Rattle.obq_answers.specs.Worlds.{ForkedSeen, JoinedSeen, SeenAs, seen_value}
use Rattle.obq_answers.proofs.SeenActs.{fork_seen, join_seen}
use Rattle.obq_host.specs.Endings.{EndingReads, PlainEnding, PlainFailed, PlainReturned}
use Rattle.obq_host.specs.Stops.{AtForm}
use Rattle.obq_host.specs.Threads.{DueFork, DueJoin, PlainDue, around_thread, due_at, due_by, forked_focus, joined_focus}
use Rattle.obq_host.proofs.Forms.{ByAct, ByStep, GoesSome, join_is_next, seen_goes}
use Rattle.obq_model.specs.Exceptions.{fork_limit}
use Rattle.obq_model.specs.Step.{ForkOff, Found, Frame, JoinWith, Needs, Next, Operation, Self, find, no_self, plug}
use Rattle.obq_model.specs.Terms.{Call, Const, End, Form, Part, Term, Thread}
use Rattle.obq_moves.specs.Store.{store}
use Rattle.obq_moves.specs.Views.{Shown}
use Rattle.obq_stands.specs.World as world
use Rattle.obq_windows.specs.Agrees.{Agrees}
use Rattle.obq_windows.specs.Trees.{PlainForkOff, PlainJoin, PlainOperation}
use Rattle.obq_windows.specs.Values.{PlainValue, Table, ThreadValue}
use Rattle.obq_windows.specs.Windows.{NodeAct, NodeAfter, NodeFocus, NodeValue, node_raises}

-- ---- the form that is due

-- no pure step stands next
abbrev pub NoStep : Found world.Ref → Type 0
NoStep found = (u : Term world.Ref) → found ≡ Next u → ⊥

needed : (parts : List SourceCode) (T : Table Ref) (a : ℕ) (self : Self world.Ref) (w : Shown) (t : Term world.Ref) (op : PlainOperation Ref) (after : NodeAfter) → SeenAs parts T a self w t → w.focus ≡ NodeAct op after
    → (found : Found world.Ref) → find world.same_ref a self t ≡ found → GoesSome found → NoStep found → AtForm parts T a self w t op after
needed parts T a self w t op after k e _ q (ByAct o around) no_step = record { needed = o; around = around; form = record { like = k; form = e; next = q } }
needed parts T a self w t op after k e _ q (ByStep u) no_step = absurd (no_step u refl)

pub at_form : (parts : List SourceCode) (T : Table Ref) → Agrees T (store parts) → (a : ℕ) (self : Self world.Ref) (w : Shown) (t : Term world.Ref) (op : PlainOperation Ref) (after : NodeAfter) → SeenAs parts T a self w t → w.focus ≡ NodeAct op after
    → NoStep (find world.same_ref a self t) → AtForm parts T a self w t op after
at_form parts T g a self w t op after k e no_step = needed parts T a self w t op after k e (find world.same_ref a self t) refl (seen_goes parts T g a self w t k op after e) no_step

-- a fork's form
abbrev IsFork : PlainDue → PlainValue Ref → NodeFocus Ref → Type 0
IsFork due f x = due ≡ DueFork f → (after : NodeAfter) × (x ≡ NodeAct (PlainForkOff f) after)

abbrev fork_in : PlainValue Ref → PlainDue → PlainValue Ref
fork_in other (DueFork f) = f
fork_in other due = other

abbrev is_fork : PlainDue → Bool
is_fork (DueFork f) = true
is_fork due = false

fork_form_in : (op : PlainOperation Ref) (after : NodeAfter) (f : PlainValue Ref) → IsFork (due_by op) f (NodeAct op after)
fork_form_in (PlainForkOff g) after f e = (after, ap (λ z. NodeAct (PlainForkOff z) after) (ap (fork_in f) e))
fork_form_in (PlainJoin v) after f e = absurd (true≢false (sym (ap is_fork e)))
fork_form_in op after f e = absurd (true≢false (sym (ap is_fork e)))

pub fork_form : (x : NodeFocus Ref) (f : PlainValue Ref) → IsFork (due_at x) f x
fork_form (NodeAct op after) f e = fork_form_in op after f e
fork_form x f e = absurd (true≢false (sym (ap is_fork e)))

-- a join's form
abbrev IsJoin : PlainDue → ℕ → NodeFocus Ref → Type 0
IsJoin due v x = due ≡ DueJoin v → (after : NodeAfter) × (x ≡ NodeAct (PlainJoin v) after)

abbrev joined_in : ℕ → PlainDue → ℕ
joined_in other (DueJoin v) = v
joined_in other due = other

abbrev is_join : PlainDue → Bool
is_join (DueJoin v) = true
is_join due = false

join_form_in : (op : PlainOperation Ref) (after : NodeAfter) (v : ℕ) → IsJoin (due_by op) v (NodeAct op after)
join_form_in (PlainForkOff g) after v e = absurd (true≢false (sym (ap is_join e)))
join_form_in (PlainJoin u) after v e = (after, ap (λ z. NodeAct (PlainJoin z) after) (ap (joined_in v) e))
join_form_in op after v e = absurd (true≢false (sym (ap is_join e)))

pub join_form : (x : NodeFocus Ref) (v : ℕ) → IsJoin (due_at x) v x
join_form (NodeAct op after) v e = join_form_in op after v e
join_form x v e = absurd (true≢false (sym (ap is_join e)))

-- ---- a fork

-- what the window that asked and the new window are seen as
pub record ForkMeans (parts : List SourceCode) (T : Table Ref) (a : ℕ) (self : Self world.Ref) (w : Shown) (t : Term world.Ref) (f : PlainValue Ref) : Type 0 where
  pub around : List (Frame world.Ref)
  pub next : find world.same_ref a self t ≡ Needs (ForkOff (seen_value T f)) around
  pub forked : (threads : ℕ) → nat_le THREAD_LIMIT threads ≡ false → SeenAs parts T a self (with_focus (forked_focus threads) w) (plug around (Const (Thread threads)))
  pub refused : (threads : ℕ) → nat_le THREAD_LIMIT threads ≡ true → SeenAs parts T a self (with_focus (forked_focus threads) w) (plug around fork_limit)
  pub begun : (threads : ℕ) → SeenAs parts T 0 no_self (called_shown f [] (around_thread threads)) (Form Call (Part (Const (seen_value T f)) End))

pub fork_means : (parts : List SourceCode) (T : Table Ref) → Agrees T (store parts) → (a : ℕ) (self : Self world.Ref) (w : Shown) (t : Term world.Ref) (f : PlainValue Ref) → SeenAs parts T a self w t → due_at w.focus ≡ DueFork f → NoStep (find world.same_ref a self t)
    → ForkMeans parts T a self w t f
fork_means parts T g a self w t f k due no_step =
    let form = fork_form w.focus f due in
    let at : AtForm parts T a self w t (PlainForkOff f) form.0 = at_form parts T g a self w t (PlainForkOff f) form.0 k form.1 no_step in
    let m : ForkedSeen parts T a self w f form.0 at.needed at.around = fork_seen parts T g a self w t f form.0 at.needed at.around at.form in
    record {
      around = at.around;
      next = at.form.next ∙ ap (λ (o : Operation world.Ref). Needs o at.around) m.operation;
      forked = λ threads room. subst (λ (b : Bool). SeenAs parts T a self (with_focus (if b then node_raises (codes "fork_limit") else NodeValue (ThreadValue threads)) w) (plug at.around (Const (Thread threads)))) (sym room) (m.forked threads w.focus);
      refused = λ threads full. subst (λ (b : Bool). SeenAs parts T a self (with_focus (if b then node_raises (codes "fork_limit") else NodeValue (ThreadValue threads)) w) (plug at.around fork_limit)) (sym full) (m.refused w.focus);
      begun = λ threads. m.thread (around_thread threads);
    }

-- ---- a join

pub record JoinMeans (parts : List SourceCode) (T : Table Ref) (a : ℕ) (self : Self world.Ref) (w : Shown) (t : Term world.Ref) (v : ℕ) : Type 0 where
  pub around : List (Frame world.Ref)
  pub next : find world.same_ref a self t ≡ Needs (JoinWith v) around
  pub joined : (kept : PlainEnding) (e : world.Ending) → EndingReads T (Some kept) (Some e) → SeenAs parts T a self (with_focus (joined_focus kept) w) (plug around (world.ending_term e))

some_ending : (x y : world.Ending) → ◌≡◌ {A = Option world.Ending} (Some x) (Some y) → y ≡ x
some_ending x y h = sym (ap (λ (o : Option world.Ending). unwrap_or o x) h)

by_ending : (parts : List SourceCode) (T : Table Ref) (a : ℕ) (self : Self world.Ref) (w : Shown) (v : ℕ) (after : NodeAfter) (o : Operation world.Ref) (around : List (Frame world.Ref)) → JoinedSeen parts T a self w v after o around
    → (kept : PlainEnding) (e : world.Ending) → EndingReads T (Some kept) (Some e) → SeenAs parts T a self (with_focus (joined_focus kept) w) (plug around (world.ending_term e))
by_ending parts T a self w v after o around m (PlainReturned u) e h = subst (λ (z : world.Ending). SeenAs parts T a self (with_focus (NodeValue u) w) (plug around (world.ending_term z))) (some_ending _ _ h.0) (m.returned u h.1 w.focus)
by_ending parts T a self w v after o around m (PlainFailed text) e h = subst (λ (z : world.Ending). SeenAs parts T a self (with_focus (node_raises text) w) (plug around (world.ending_term z))) (some_ending _ _ h) (m.failed text w.focus)

pub join_means : (parts : List SourceCode) (T : Table Ref) → Agrees T (store parts) → (a : ℕ) (self : Self world.Ref) (w : Shown) (t : Term world.Ref) (v : ℕ) → SeenAs parts T a self w t → due_at w.focus ≡ DueJoin v → JoinMeans parts T a self w t v
join_means parts T g a self w t v k due =
    let form = join_form w.focus v due in
    let at : AtForm parts T a self w t (PlainJoin v) form.0 = join_is_next parts T g a self w t v form.0 k form.1 in
    let m : JoinedSeen parts T a self w v form.0 at.needed at.around = join_seen parts T g a self w t v form.0 at.needed at.around at.form in
    record {
      around = at.around;
      next = at.form.next ∙ ap (λ (o : Operation world.Ref). Needs o at.around) m.operation;
      joined = by_ending parts T a self w v form.0 at.needed at.around m;
    }
