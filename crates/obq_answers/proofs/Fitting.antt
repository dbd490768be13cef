-- Behind an act's answer the counts of a window are again those of its frames.
use Rattle.std.specs.Prelude.{List, None, Option, Some, refl, slice_get, suc, zero, ℕ, ◌∷◌, ◌≡◌}
use Rattle.std.proofs.Common.{ap, subst, sym, ◌∙◌}
use Rattle.obq_base.specs.declared.code.CodeNo.{CodeNo}
use Rattle.obq_base.specs.declared.places.Ref.{Ref}
use Rattle.obq_model.specs.Step.{Self, self_within}
use Rattle.obq_model.specs.Terms.{Mode, Object}
use Rattle.obq_moves.specs.Views.{Shown}
use Rattle.obq_answers.specs.Answers.{answered_by, left_by, within}
use Rattle.obq_answers.specs.Readings.{Counts, Fits, counts_behind, counts_in, counts_of}
use Rattle.obq_windows.specs.Acts.{AnswerCalled, AnswerForm, AnswerMethod, AnswerRaising, AnswerTest, AnswerValue, PlainAnswer, answer_node, enter_node_code, enter_node_value, test_at_node, value_at_node}
use Rattle.obq_windows.specs.Trees.{PlainAgain, PlainEachItem, PlainNewVariable, PlainOperation, Silent}
use Rattle.obq_windows.specs.Values.{ClosureValue, LocationValue, Origin, PlainValue, PlainValues}
use Rattle.obq_windows.specs.Windows.{Activation, Change, Enters, NodeAfter, NodeCalled, NodeFrame, NodeMoved, NodeScope, NodeTest, NodeUnder, NodeWithin, Stays, Store, items_node, vars_node}

-- the frames have the same counts, and no activation begins or ends
record Keeps (a : ℕ) (u : Self Ref) (fs : List (NodeFrame Ref)) (m : NodeMoved Ref) : Type 0 where
  counts : counts_in a u m.frames ≡ counts_in a u fs
  change : m.change ≡ Stays

items_keep : (a : ℕ) (u : Self Ref) (act : Activation Ref) (fs : List (NodeFrame Ref)) (at left height : ℕ) → Keeps a u fs (items_node Silent act fs at left height)
items_keep a u act fs at zero height = record { counts = refl; change = refl }
items_keep a u act fs at (suc left) height = record { counts = refl; change = refl }

vars_keep : (a : ℕ) (u : Self Ref) (S : Store Ref) (act : Activation Ref) (fs : List (NodeFrame Ref)) (child left at items height : ℕ) → Keeps a u fs (vars_node S Silent act fs child left at items height)
vars_keep a u S act fs child zero at items height = items_keep a u act fs at items height
vars_keep a u S act fs child (suc left) at items height = record { counts = refl; change = refl }

value_keeps : (a : ℕ) (u : Self Ref) (S : Store Ref) (op : PlainOperation Ref) (after : NodeAfter) (v : PlainValue Ref) (act : Activation Ref) (fs : List (NodeFrame Ref)) → Keeps a u fs (value_at_node S op after v act fs)
value_keeps a u S (PlainNewVariable w) (NodeUnder child left at items height) v act fs = vars_keep a u S _ fs child left at items (suc height)
value_keeps a u S (PlainEachItem r i n) (NodeScope child height) v act fs = record { counts = refl; change = refl }
value_keeps a u S op after v act fs = record { counts = refl; change = refl }

test_keeps : (a : ℕ) (u : Self Ref) (op : PlainOperation Ref) (after : NodeAfter) (act : Activation Ref) (fs : List (NodeFrame Ref)) → Keeps a u fs (test_at_node op after act fs)
test_keeps a u (PlainAgain o c) (NodeTest child height) act fs = record { counts = refl; change = refl }
test_keeps a u op after act fs = record { counts = refl; change = refl }

-- so the window keeps what it has
kept_fits : (a : ℕ) (u : Self Ref) (s : Shown) (m : NodeMoved Ref) → Keeps a u s.frames m → Fits a u s → Fits a u (left_by m s)
kept_fits a u s m k h = ap (λ (c : Change). counts_behind c (counts_of s)) k.change ∙ h ∙ sym k.counts

-- the body of a closure that an engine calls
called_code_fits : (a : ℕ) (u : Self Ref) (s : Shown) (origin : Origin) (count : ℕ) (group : List CodeNo) (number : Option CodeNo) (captured : PlainValues Ref) (vs : List (PlainValue Ref)) → Fits a u s
    → Fits a u (left_by (enter_node_code (NodeCalled s.act) origin count group number captured vs s.act s.frames) s)
called_code_fits a u s origin count group None captured vs h = h
called_code_fits a u s origin count group (Some number) captured vs h = ap (counts_behind Enters) h

called_fits : (a : ℕ) (u : Self Ref) (s : Shown) (f : PlainValue Ref) (vs : List (PlainValue Ref)) → Fits a u s → Fits a u (left_by (enter_node_value (NodeCalled s.act) f vs s.act s.frames) s)
called_fits a u s (ClosureValue origin count group index captured) vs h = called_code_fits a u s origin count group (slice_get group index) captured vs h
called_fits a u s f vs h = h

-- the body of a method: around it is the current self of its caller
abbrev inside : Ref → Mode → Counts → Counts
inside o m c = record { activations = suc c.activations; current = self_within o m; selves = c.current ∷ c.selves }

method_code_fits : (a : ℕ) (u : Self Ref) (s : Shown) (o : Ref) (m : Mode) (origin : Origin) (count : ℕ) (group : List CodeNo) (number : Option CodeNo) (captured : PlainValues Ref) (vs : List (PlainValue Ref)) → Fits a u s
    → (n : NodeMoved Ref) → n ≡ enter_node_code (NodeWithin s.act o m) origin count group number captured vs s.act s.frames → Fits a u (left_by n (within n.change o m s))
method_code_fits a u s o m origin count group None captured vs h n e = subst (λ (z : NodeMoved Ref). Fits a u (left_by z (within z.change o m s))) (sym e) h
method_code_fits a u s o m origin count group (Some number) captured vs h n e = subst (λ (z : NodeMoved Ref). Fits a u (left_by z (within z.change o m s))) (sym e) (ap (inside o m) h)

method_fits : (a : ℕ) (u : Self Ref) (s : Shown) (o : Ref) (m : Mode) (f : PlainValue Ref) (vs : List (PlainValue Ref)) → Fits a u s
    → (n : NodeMoved Ref) → n ≡ enter_node_value (NodeWithin s.act o m) f vs s.act s.frames → Fits a u (left_by n (within n.change o m s))
method_fits a u s o m (ClosureValue origin count group index captured) vs h n e = method_code_fits a u s o m origin count group (slice_get group index) captured vs h n e
method_fits a u s o m f vs h n e = subst (λ (z : NodeMoved Ref). Fits a u (left_by z (within z.change o m s))) (sym e) h

-- the counts of the window that an answer leaves are those of its frames
pub answered_fits : (a : ℕ) (u : Self Ref) (S : Store Ref) (op : PlainOperation Ref) (after : NodeAfter) (answer : PlainAnswer Ref) (s : Shown) → Fits a u s → Fits a u (answered_by answer (answer_node S op after answer s.act s.frames) s)
answered_fits a u S op after (AnswerValue v) s h = kept_fits a u s (value_at_node S op after v s.act s.frames) (value_keeps a u S op after v s.act s.frames) h
answered_fits a u S op after (AnswerRaising r) s h = h
answered_fits a u S op after AnswerTest s h = kept_fits a u s (test_at_node op after s.act s.frames) (test_keeps a u op after s.act s.frames) h
answered_fits a u S op after (AnswerForm p) s h = h
answered_fits a u S op after (AnswerMethod o m f vs) s h = method_fits a u s o m f (LocationValue Object o ∷ vs) h (enter_node_value (NodeWithin s.act o m) f (LocationValue Object o ∷ vs) s.act s.frames) refl
answered_fits a u S op after (AnswerCalled f vs) s h = called_fits a u s f vs h

-- so are those of a body that begins where the caller's window lies elsewhere
pub called_body_fits : (a : ℕ) (u : Self Ref) (s : Shown) (f : PlainValue Ref) (vs : List (PlainValue Ref)) → Fits a u s → Fits a u (left_by (enter_node_value (NodeCalled s.act) f vs s.act s.frames) s)
called_body_fits = called_fits

pub method_body_fits : (a : ℕ) (u : Self Ref) (s : Shown) (o : Ref) (m : Mode) (f : PlainValue Ref) (vs : List (PlainValue Ref)) → Fits a u s
    → (n : NodeMoved Ref) → n ≡ enter_node_value (NodeWithin s.act o m) f vs s.act s.frames → Fits a u (left_by n (within n.change o m s))
method_body_fits = method_fits
