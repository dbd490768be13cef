-- Runs of pure steps over the references of a World.
use Rattle.std.specs.Prelude.{Bool, List, None, Option, Some, [], if◌then◌else◌, nat_lt, refl, suc, true, unwrap_or, zero, ℕ, ◌<◌, ◌∷◌, ◌≡◌}
use Rattle.std.proofs.Common.{ap, arith, subst, sym, ◌∙◌}
use Rattle.std.proofs.lemmas.Bool.Decides.{nat_tests}
use Rattle.obq_base.specs.declared.code.SourceCode.{SourceCode}
use Rattle.obq_base.specs.declared.places.Ref.{Ref}
use Rattle.obq_model.specs.Maps.{map_found, map_frames, map_operation, map_self, map_term}
use Rattle.obq_model.specs.Opening.{block_term}
use Rattle.obq_model.specs.Step.{Found, Needs, Self, activations_at, find, next_of, no_self}
use Rattle.obq_model.specs.Terms.{Term, Writer}
use Rattle.obq_model.proofs.NaturalOpening.{natural_opening}
use Rattle.obq_moves.specs.Moves.{Behind, asked, behind}
use Rattle.obq_moves.specs.Store.{same_ref, store, writer_of}
use Rattle.obq_moves.specs.Views.{Shown}
use Rattle.obq_moves.specs.declared.moves.Move.TheVariants as m
use Rattle.obq_answers.specs.Readings.{Counts, IsAtEnd, NeedsAct, ReadsLike}
use Rattle.obq_answers.specs.Worlds.{BottomIs, SeenAs, seen}
use Rattle.obq_answers.proofs.Asking.{counted_alike, own_needs}
use Rattle.obq_answers.proofs.Forms.{Own, form_term, own}
use Rattle.obq_answers.proofs.Seen.{bottom_seen, next_seen, no_frames, steps_seen}
use Rattle.obq_pure.specs.Laws.{StopMeans}
use Rattle.obq_pure.specs.Steps.{AtAct, AtBottom, AtMost, Ran, ToAct, ToEnd}
use Rattle.obq_pure.specs.Whole.{behind_move, move_shown}
use Rattle.obq_pure.specs.Worlds.{FormNext, LastIs, MainSeen, RunSeen, StopSeen}
use Rattle.obq_pure.specs.declared.steps.Stop.{Stop}
use Rattle.obq_pure.proofs.Asked.{IsLast, Tells, move_sound}
use Rattle.obq_pure.proofs.Meant.{run_reads}
use Rattle.obq_stands.specs.Events.{writer_at}
use Rattle.obq_stands.specs.Stands.{after_steps}
use Rattle.obq_stands.specs.World as world
use Rattle.obq_windows.specs.Agrees.{Agrees, FocusIs}
use Rattle.obq_windows.specs.Complete.{CompleteAfter, CompleteFocus, CompleteOperation}
use Rattle.obq_windows.specs.Laws.{Reads}
use Rattle.obq_windows.specs.Meanings.{IsEnd}
use Rattle.obq_windows.specs.Moves.{act_ends, none_refused, tree_refused}
use Rattle.obq_windows.specs.Runs.{pure_steps}
use Rattle.obq_windows.specs.Trees.{Asks, PlainCloning, PlainNewCondition, PlainOperation, PlainSetMethod, TreeAct, TreeCall, TreeFocus, TreeFrame, TreeMake, TreeMethod, TreeRaising, TreeRun, TreeUnmet, TreeValue, frames_of, read_operation, scope_after, term_of}
use Rattle.obq_windows.specs.Values.{PlainValue, Table, tree_params}
use Rattle.obq_windows.specs.Windows.{NodeAct, NodeAfter, NodeCall, NodeFocus, NodeItems, NodeMake, NodeMethod, NodeRaising, NodeRun, NodeUnmet, NodeValue, node_params}
use Rattle.obq_windows.proofs.AlikeCalls.{params_same}
use Rattle.obq_windows.proofs.Answering.{AtAct as AtForm, at_act}
use Rattle.obq_windows.proofs.Openings.{opening_reads}
use Rattle.obq_windows.proofs.Whole.{made_of}

-- ---- what a run that stops leaves

-- an act's form is in the focus, and asks
record AsksThere (parts : List SourceCode) (w : Shown) : Type 0 where
  op : PlainOperation Ref
  after : NodeAfter
  form : w.focus ≡ NodeAct op after
  goes_on : act_ends (node_params (store parts)) none_refused w.activations op ≡ None

asks_as : (parts : List SourceCode) (at new : Shown) (op : PlainOperation Ref) → Tells (store parts) at.activations (move_shown parts at) (Asks op) → new ≡ (behind_move parts at).left → AsksThere parts new
asks_as parts at new op h e = subst (AsksThere parts) (sym e) (record { op = op; after = h.1; form = h.2; goes_on = h.0 })

asks_by : (parts : List SourceCode) (at new : Shown) (x : NodeFocus Ref) → Tells (store parts) at.activations (move_shown parts at) (asked x) → new ≡ (behind_move parts at).left → AsksThere parts new
asks_by parts at new (NodeAct op after) h e = asks_as parts at new op h e
asks_by parts at new x h e = asks_as parts at new PlainNewCondition h e

asks_there : (parts : List SourceCode) (at new : Shown) → behind m.Asks new ≡ behind_move parts at → AsksThere parts new
asks_there parts at new e =
    asks_by parts at new new.focus (subst (Tells (store parts) at.activations (move_shown parts at)) (sym (ap (λ (b : Behind). b.tag) e)) (move_sound parts at).is) (ap (λ (b : Behind). b.left) e)

-- a value or a raising is outside of all frames
record EndsThere (w : Shown) : Type 0 where
  frames : w.frames ≡ []
  last : IsLast w.focus

ends_there : (parts : List SourceCode) (at new : Shown) → behind m.AtEnd new ≡ behind_move parts at → EndsThere new
ends_there parts at new e =
    let h : ((move_shown parts at).frames ≡ []) × IsLast (move_shown parts at).focus = subst (Tells (store parts) at.activations (move_shown parts at)) (sym (ap (λ (b : Behind). b.tag) e)) (move_sound parts at).is in
    subst EndsThere (sym (ap (λ (b : Behind). b.left) e)) (record { frames = h.0; last = h.1 })

-- ---- such a window's own term

-- over trees a method may be refused, which that of a complete operation isn't
asks_too : (T : Table Ref) (count : PlainValue Ref → Option ℕ) (n : ℕ) (op : PlainOperation Ref) → CompleteOperation T op → act_ends count none_refused n op ≡ None → act_ends count (tree_refused T) n op ≡ None
asks_too T count n (PlainSetMethod o x f) c h = c.1
asks_too T count n (PlainCloning None fields []) c h = h
asks_too T count n (PlainCloning None fields (o ∷ rest)) c h = h
asks_too T count n (PlainCloning (Some flags) fields []) c h = h
asks_too T count n (PlainCloning (Some flags) fields (o ∷ rest)) c h = h
asks_too T count n op c h = h

-- a reading of a window whose form asks needs the form's operation
asks_in : (parts : List SourceCode) (T : Table Ref) → Agrees T (store parts) → (w : Shown) (k : AsksThere parts w) (n : ℕ) → w.activations ≡ n → CompleteOperation T k.op → act_ends (tree_params T) (tree_refused T) n k.op ≡ None
asks_in parts T g w k n e c =
    asks_too T (tree_params T) n k.op c (subst (λ (z : ℕ). act_ends (tree_params T) none_refused z k.op ≡ None) e
    (subst (λ (count : PlainValue Ref → Option ℕ). act_ends count none_refused w.activations k.op ≡ None) (params_same T (store parts) g) k.goes_on))

needs_like : (parts : List SourceCode) (T : Table Ref) → Agrees T (store parts) → (a : ℕ) (mine : Self Ref) (w : Shown) (t : Term Ref) → NeedsAct parts T a mine w t → AsksThere parts w → ReadsLike parts T a mine w t
needs_like parts T g a mine w t n k =
    let o : Own parts T a mine w t k.op k.after (read_operation T n.op (scope_after T n.after)) (frames_of T n.frames) =
    own parts T a mine w t k.op k.after (read_operation T n.op (scope_after T n.after)) (frames_of T n.frames) (record { needs = n; form = k.form; next = n.next }) in
    record {
      term = term_of T o.frames (TreeAct k.op o.tree);
      reads = record {
        reads = subst (λ (x : NodeFocus Ref). Reads T (store parts) w.act w.frames x (term_of T o.frames (TreeAct k.op o.tree))) (sym k.form)
            (form_term T (store parts) w.act o.height w.frames o.frames o.are_frames o.complete k.op k.after o.tree o.is_after o.operands o.place);
        fits = n.fits;
      };
      next = o.next ∙ sym (own_needs same_ref T (made_of T (store parts) g) a mine o.frames k.op o.tree
          (asks_in parts T g w k (activations_at a (frames_of T o.frames)) (ap (λ (c : Counts). c.activations) n.fits ∙ counted_alike T (store parts) a w.act o.height w.frames o.frames o.are_frames) o.operands));
    }

end_like : (parts : List SourceCode) (T : Table Ref) (a : ℕ) (mine : Self Ref) (w : Shown) (t : Term Ref) → IsAtEnd parts T a mine w t → EndsThere w → ReadsLike parts T a mine w t
end_like parts T a mine w t h e = record {
  term = term_of T h.frames h.focus;
  reads = record { reads = record { frames = h.frames; focus = h.focus; height = h.height; are_frames = h.are_frames; is_focus = h.is_focus; complete = h.complete; term = refl }; fits = h.fits };
  next = at h.focus h.next ∙ ap (λ (fs : List (TreeFrame Ref)). find same_ref a mine (term_of T fs h.focus)) (sym (no_frames T (store parts) w.act h.height w.frames h.frames e.frames h.are_frames));
} where
  at : (x : TreeFocus Ref) → IsEnd T (find same_ref a mine t) x → find same_ref a mine t ≡ find same_ref a mine (term_of T [] x)
  at (TreeValue v) q = q
  at (TreeRaising r) q = q
  at (TreeRun p task) q = absurd q
  at (TreeUnmet p x last) q = absurd q
  at (TreeMethod p v x f) q = absurd q
  at (TreeMake p flags done) q = absurd q
  at (TreeCall p f vs) q = absurd q
  at (TreeAct op after) q = absurd q

-- the window behind a run reads back like the term behind its steps
stop_like : (parts : List SourceCode) (T : Table Ref) → Agrees T (store parts) → (a : ℕ) (mine : Self Ref) (u : Term Ref) (old new : Shown) (n : ℕ) (stop : Stop) → Ran parts old n stop new → StopMeans parts T a mine u stop new → ReadsLike parts T a mine new u
stop_like parts T g a mine u old new n stop (AtMost h) x = x
stop_like parts T g a mine u old new n stop (AtAct h (ToAct {at} k e)) x = needs_like parts T g a mine new u x (asks_there parts at new e)
stop_like parts T g a mine u old new n stop (AtBottom h (ToEnd {at} k e)) x = end_like parts T a mine new u x (ends_there parts at new e)

-- ---- runs and stops

steps_alike : (a : ℕ) (mine : Self Ref) (n : ℕ) (t v : Term Ref) → find same_ref a mine t ≡ find same_ref a mine v → pure_steps same_ref a mine (suc n) t ≡ pure_steps same_ref a mine (suc n) v
steps_alike a mine n t v e = ap (λ (f : Found Ref). elim (next_of f) [ None ↦ None | Some x ↦ pure_steps same_ref a mine n x ]) e

some_is : (t v : Term Ref) → Some t ≡ Some v → t ≡ v
some_is t v h = ap (λ (o : Option (Term Ref)). unwrap_or o t) h

pub run_seen : RunSeen
run_seen parts T g old new n stop ran a self t k =
    let r : (u : Term Ref) × (pure_steps same_ref a k.own n k.like.term ≡ Some u) × StopMeans parts T a k.own u stop new = run_reads parts T g a k.own old new k.like.term n stop k.like.reads ran in
    by_steps n r.0 r.1 (stop_like parts T g a k.own r.0 old new n stop ran r.2) where
      by_steps : (j : ℕ) (v : Term Ref) → pure_steps same_ref a k.own j k.like.term ≡ Some v → ReadsLike parts T a k.own new v → (u : Term world.Ref) × (after_steps a self j t ≡ Some u) × SeenAs parts T a self new u
      by_steps zero v e l = (
        t,
        refl,
        record { own = k.own; term = k.term; like = record { term = l.term; reads = l.reads; next = k.like.next ∙ ap (find same_ref a k.own) (some_is k.like.term v e) ∙ l.next }; self_is = k.self_is; term_is = k.term_is },
      )
      by_steps (suc j) v e l = (
        map_term seen v,
        ap (λ (z : Self world.Ref). after_steps a z (suc j) t) k.self_is ∙ ap (after_steps a (map_self seen k.own) (suc j)) k.term_is ∙ steps_seen a k.own (suc j) k.term v (steps_alike a k.own j k.term k.like.term k.like.next ∙ e),
        record { own = k.own; term = v; like = l; self_is = k.self_is; term_is = refl },
      )

form_next : (parts : List SourceCode) (T : Table Ref) → Agrees T (store parts) → (a : ℕ) (self : Self world.Ref) (w : Shown) (t : Term world.Ref) → SeenAs parts T a self w t → AsksThere parts w → FormNext parts T a self w t
form_next parts T g a self w t k f =
    let r : Reads T (store parts) w.act w.frames w.focus k.like.term = k.like.reads.reads in
    let at : AtForm T (store parts) w.act r.height f.op f.after r.focus = at_act T (store parts) w.act r.height f.op f.after r.focus (subst (λ (x : NodeFocus Ref). FocusIs T (store parts) w.act r.height x r.focus) f.form r.is_focus) in
    let l : CompleteOperation T f.op × CompleteAfter T f.op at.after = subst (λ (z : TreeFocus Ref). CompleteFocus T z) at.is_act r.complete.focus in
    let found : find same_ref a k.own k.like.term ≡ Needs (read_operation T f.op (scope_after T at.after)) (frames_of T r.frames) =
    ap (find same_ref a k.own) (r.term ∙ ap (term_of T r.frames) at.is_act)
    ∙ own_needs same_ref T (made_of T (store parts) g) a k.own r.frames f.op at.after
    (asks_in parts T g w f (activations_at a (frames_of T r.frames)) (ap (λ (c : Counts). c.activations) k.like.reads.fits ∙ counted_alike T (store parts) a w.act r.height w.frames r.frames r.are_frames) l.0) in
    record {
      op = f.op;
      after = f.after;
      needed = map_operation seen (read_operation T f.op (scope_after T at.after));
      around = map_frames seen (frames_of T r.frames);
      form = record { like = k; form = f.form; next = next_seen parts T a self w t k ∙ ap (map_found seen) found };
    }

last_is : (T : Table Ref) (found : Found world.Ref) (x : NodeFocus Ref) → IsLast x → BottomIs T found x → LastIs T found x
last_is T found (NodeValue v) l h = h
last_is T found (NodeRaising r) l h = h
last_is T found (NodeRun p height) l h = l
last_is T found (NodeItems p left height) l h = l
last_is T found (NodeUnmet x child last height) l h = l
last_is T found (NodeMethod v x p height) l h = l
last_is T found (NodeMake flags done) l h = l
last_is T found (NodeCall f vs) l h = l
last_is T found (NodeAct op after) l h = l

pub stop_seen : StopSeen
stop_seen parts T g old new n stop (AtMost h) a self t k = tt
stop_seen parts T g old new n stop (AtAct h (ToAct {at} q e)) a self t k = form_next parts T g a self new t k (asks_there parts at new e)
stop_seen parts T g old new n stop (AtBottom h (ToEnd {at} q e)) a self t k =
    let there : EndsThere new = ends_there parts at new e in
    (there.frames, last_is T (find world.same_ref a self t) new.focus there.last (bottom_seen parts T a self new t k there.frames))

-- ---- the window of a source's block

is_below : (source : ℕ) → source < 65536 → nat_lt source 65536 ≡ true
is_below source h = grind (arith, nat_tests)

writer_seen : (source : ℕ) → source < 65536 → seen (writer_of source) ≡ writer_at source
writer_seen source h = ap (λ (b : Bool). record { site = if b then source else 65535; kind = Writer; index = 0 }) (is_below source h)

pub main_seen : MainSeen
main_seen parts T g source below number tree e h thread = record {
  own = no_self;
  term = block_term (T.writer source) [] tree;
  like = record { term = block_term (T.writer source) [] tree; reads = record { reads = opening_reads T (store parts) g source number tree e h; fits = refl }; next = refl };
  self_is = refl;
  term_is = sym (natural_opening seen (T.writer source) [] tree ∙ ap (λ (r : world.Ref). block_term r [] tree) (ap seen (sym (g.writer source)) ∙ writer_seen source below));
}
