-- Windows that begin, and windows at their end.
use Rattle.std.specs.Prelude.{None, Option, Some, [], is_some, length, refl, suc, zero, ℕ, ◌∷◌, ◌≡◌}
use Rattle.std.proofs.Common.{ap, subst, sym, true≢false}
use Rattle.obq_base.specs.declared.places.Ref.{Ref}
use Rattle.obq_model.specs.Procedures.{Proc}
use Rattle.obq_model.specs.Step.{find}
use Rattle.obq_model.specs.Terms.{Object}
use Rattle.obq_moves.specs.Store.{same_ref, store}
use Rattle.obq_answers.specs.Beginnings.{begun_with}
use Rattle.obq_answers.specs.Ends.{EndIs, EndReads}
use Rattle.obq_answers.specs.Firsts.{FirstReads}
use Rattle.obq_answers.proofs.Fitting.{called_body_fits, method_body_fits}
use Rattle.obq_windows.specs.Acts.{FirstWindows, HasParameters, Takes, bottom_activation, enter_node_value}
use Rattle.obq_windows.specs.Agrees.{FocusIs}
use Rattle.obq_windows.specs.Complete.{CompleteFocus}
use Rattle.obq_windows.specs.Meanings.{IsEnd}
use Rattle.obq_windows.specs.Moves.{without_parameter}
use Rattle.obq_windows.specs.Trees.{Kept, TreeAct, TreeCall, TreeFocus, TreeMake, TreeMethod, TreeRaising, TreeRun, TreeUnmet, TreeValue}
use Rattle.obq_windows.specs.Values.{ClosureValue, ExceptionValue, IntValue, LocationValue, OkayValue, PlainValue, Table, TextValue, ThreadValue, TruthValue, count_in, proc_of, tree_params}
use Rattle.obq_windows.specs.Windows.{NodeFocus, NodeValue, NodeWithin}
use Rattle.obq_windows.proofs.FirstWindows.{windows_begin}

pub first_reads : FirstReads
first_reads parts T g f c vs d outside =
    let first : FirstWindows T (store parts) f = windows_begin T (store parts) g f c in
    record {
      called = λ k. record { reads = first.called vs d k; fits = refl };
      engine = λ k. record { reads = first.engine vs d k; fits = called_body_fits outside.activations outside.current (begun_with (bottom_activation f) (NodeValue OkayValue) outside) f vs refl };
      method = λ o m k. record {
        reads = first.method o m vs d k;
        fits = method_body_fits outside.activations outside.current (begun_with (bottom_activation f) (NodeValue OkayValue) outside) o m f (LocationValue Object o ∷ vs) refl
            (enter_node_value (NodeWithin (bottom_activation f) o m) f (LocationValue Object o ∷ vs) (bottom_activation f) []) refl;
      };
    }

-- ---- a closure that a thread runs has no parameters

some_none : {A : Type 0} → (k : Kept Ref) → Some k ≡ None → A
some_none k e = absurd (true≢false (ap is_some e))

no_parameters : (q : Proc) (n : ℕ) → length q.params ≡ n → without_parameter {R = Ref} (Some n) ≡ None → length q.params ≡ 0
no_parameters q zero e h = e
no_parameters q (suc n) e h = some_none _ h

pub takes_none : (T : Table Ref) (f : PlainValue Ref) → without_parameter {R = Ref} (tree_params T f) ≡ None → Takes T f []
takes_none T (ClosureValue origin count group index captured) h = at (proc_of T group index) h where
  at : (o : Option Proc) → without_parameter {R = Ref} (count_in o) ≡ None → HasParameters o 0
  at None e = some_none _ e
  at (Some q) e = no_parameters q (length q.params) refl e
takes_none T (IntValue z) h = some_none _ h
takes_none T (TruthValue z) h = some_none _ h
takes_none T OkayValue h = some_none _ h
takes_none T (TextValue z) h = some_none _ h
takes_none T (ExceptionValue z) h = some_none _ h
takes_none T (ThreadValue z) h = some_none _ h
takes_none T (LocationValue z r) h = some_none _ h

-- ---- ends

pub end_reads : EndReads
end_reads parts T a self w t h = at h.focus h.is_focus h.complete.focus h.next where
  at : (x : TreeFocus Ref) → FocusIs T (store parts) w.act h.height w.focus x → CompleteFocus T x → IsEnd T (find same_ref a self t) x → EndIs T (find same_ref a self t) w.focus
  at (TreeValue v) e c k = subst (λ (z : NodeFocus Ref). EndIs T (find same_ref a self t) z) (sym e) (k, c)
  at (TreeRaising r) e c k = subst (λ (z : NodeFocus Ref). EndIs T (find same_ref a self t) z) (sym e) k
  at (TreeRun p task) e c k = absurd k
  at (TreeUnmet p x last) e c k = absurd k
  at (TreeMethod p v x q) e c k = absurd k
  at (TreeMake p flags done) e c k = absurd k
  at (TreeCall p f vs) e c k = absurd k
  at (TreeAct op after) e c k = absurd k
