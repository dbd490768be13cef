-- New windows: of a thread, of a method and of an engine's closure.
use Rattle.std.specs.Prelude.{List, None, Option, Some, [], refl, slice_get, ◌∷◌}
use Rattle.std.proofs.Common.{sym}
use Rattle.obq_base.specs.declared.code.CodeNo.{CodeNo}
use Rattle.obq_model.specs.Terms.{Object, Term}
use Rattle.obq_windows.specs.Acts.{ReadsMoved, Takes, WindowsBegin, activation_in, bottom_activation}
use Rattle.obq_windows.specs.Agrees.{place_at}
use Rattle.obq_windows.specs.Complete.{CompletePlace, IsComplete, Knows}
use Rattle.obq_windows.specs.Trees.{PendingCalled, PendingWithin, TreeCall, TreeMoved}
use Rattle.obq_windows.specs.Values.{ClosureValue, ExceptionValue, IntValue, LocationValue, OkayValue, PlainValue, Table, TextValue, ThreadValue, TruthValue, proc_named}
use Rattle.obq_windows.specs.Windows.{NodeCalled, NodeMoved, NodeWithin, Store}
use Rattle.obq_windows.proofs.Answering.{Answered, entered_answer}

read_window : {R : Type 0} → (T : Table R) (S : Store R) (m : NodeMoved R) (t : TreeMoved R) (u : Term R) → Answered T S m t u → ReadsMoved T S m u
read_window T S m t u k = record {
  frames = t.frames;
  focus = t.focus;
  height = k.same.height;
  are_frames = k.same.frames;
  is_focus = k.same.focus;
  complete = record { frames = k.complete.frames; focus = k.complete.focus };
  term = sym k.term;
}

-- the place of a closure's own activation without arguments is complete
bottom_complete : {R : Type 0} → (T : Table R) (f : PlainValue R) (vs : List (PlainValue R)) → IsComplete T f → Takes T f vs → CompletePlace T (place_at (bottom_activation f) [])
bottom_complete {R} T (ClosureValue origin count group index captured) vs h k = by_code (slice_get group index) h.0 where
  by_code : (o : Option CodeNo) → Knows group captured (proc_named T o) → CompletePlace T (place_at (activation_in origin count group captured o) [])
  by_code None l = absurd l
  by_code (Some number) l = record { known = l; captured = h.1; depth = h.2; bound = tt }
bottom_complete T (IntValue z) vs h k = absurd k
bottom_complete T (TruthValue z) vs h k = absurd k
bottom_complete T OkayValue vs h k = absurd k
bottom_complete T (TextValue z) vs h k = absurd k
bottom_complete T (ExceptionValue z) vs h k = absurd k
bottom_complete T (ThreadValue z) vs h k = absurd k
bottom_complete T (LocationValue z r) vs h k = absurd k

pub windows_begin : {R : Type 0} → WindowsBegin R
windows_begin {R} T S g f h = record {
  called = λ vs k t. record {
    frames = [];
    focus = TreeCall (place_at (bottom_activation f) []) f vs;
    height = 0;
    are_frames = refl;
    is_focus = (refl, ([], refl, record { values = refl; many = refl }));
    complete = record { frames = tt; focus = (bottom_complete T f vs h t, h, k) };
    term = refl;
  };
  method = λ o m vs k t. read_window T S _ _ _
      (entered_answer T S g (bottom_activation f) 0 [] [] refl tt (NodeWithin (bottom_activation f) o m) (PendingWithin o m) (record { is_frame = λ z n p. (bottom_activation f, refl); back = λ z. refl; low = λ n. refl; complete = tt; same_frames = λ p q. refl })
      (place_at (bottom_activation f) []) f (LocationValue Object o ∷ vs) h (tt, k) t);
  engine = λ vs k t. read_window T S _ _ _
      (entered_answer T S g (bottom_activation f) 0 [] [] refl tt (NodeCalled (bottom_activation f)) PendingCalled (record { is_frame = λ z n p. (bottom_activation f, refl); back = λ z. refl; low = λ n. refl; complete = tt; same_frames = λ p q. refl })
      (place_at (bottom_activation f) []) f vs h k t);
}
