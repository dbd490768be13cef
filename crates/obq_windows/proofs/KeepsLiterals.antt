-- The fields of an object literal are complete where its operands are.
use Rattle.std.specs.Prelude.{List, None, Option, Some, [], refl, suc, ℕ, ◌++◌, ◌<◌, ◌∷◌}
use Rattle.std.proofs.Common.{arith, subst, sym}
use Rattle.obq_base.specs.Tree.{AProc, ProcedureTree}
use Rattle.obq_base.specs.declared.code.CodeNo.{CodeNo}
use Rattle.obq_model.specs.Draft.{captured_by}
use Rattle.obq_model.specs.Procedures.{Proc}
use Rattle.obq_model.specs.Terms.{Array, Bytes, Condition, Engine, Object, Value, Variable, Writer}
use Rattle.obq_windows.specs.Complete.{AllComplete, CompleteBody, CompleteFields, CompletePlace, IsClosed, IsComplete, Knows}
use Rattle.obq_windows.specs.Literals.{DoneAlias, DoneField, DoneMethod, DoneValue, done_values, done_with}
use Rattle.obq_windows.specs.Moves.{AreProcHints, captured_values, literal_fields}
use Rattle.obq_windows.specs.Places.{Place, outside_at}
use Rattle.obq_windows.specs.Trees.{alias_of, names_at}
use Rattle.obq_windows.specs.Values.{ClosureValue, ExceptionValue, IntValue, IsMadeTable, LocationValue, OkayValue, PlainValue, Table, TextValue, ThreadValue, TruthValue}
use Rattle.obq_windows.proofs.Closing.{made_read}
use Rattle.obq_windows.proofs.Depths.{captured_complete, captured_count}

module _ {R : Type 0} (T : Table R) where
  pub done_complete : (done more : List (DoneField R ProcedureTree)) → AllComplete T (done_values done) → AllComplete T (done_values more) → AllComplete T (done_values (done ++ more))
  done_complete [] more h k = k
  done_complete (DoneValue x v ∷ done) more h k = (h.0, done_complete done more h.1 k)
  done_complete (DoneMethod x q ∷ done) more h k = done_complete done more h k
  done_complete (DoneAlias x y v ∷ done) more h k = (h.0, done_complete done more h.1 k)

  pub operand_complete : (x : Bytes) (other : Option Bytes) (v : PlainValue R) → IsComplete T v → AllComplete T (done_values {R = R} {M = ProcedureTree} (done_with x other v ∷ []))
  operand_complete x None v h = (h, tt)
  operand_complete x (Some y) v h = (h, tt)

  alias_complete : (y : Bytes) (v : PlainValue R) → IsComplete T v → CompleteBody T (alias_of y v)
  alias_complete y (LocationValue Object o) h = tt
  alias_complete y (IntValue z) h = h
  alias_complete y (TruthValue z) h = h
  alias_complete y OkayValue h = h
  alias_complete y (TextValue z) h = h
  alias_complete y (ExceptionValue z) h = h
  alias_complete y (ThreadValue z) h = h
  alias_complete y (LocationValue Array z) h = h
  alias_complete y (LocationValue Variable z) h = h
  alias_complete y (LocationValue Writer z) h = h
  alias_complete y (LocationValue Condition z) h = h
  alias_complete y (LocationValue Engine z) h = h
  alias_complete y (ClosureValue t c group index cs) h = h

  none_below : (k : ℕ) → k < 0 → ⊥
  none_below k l = omega (arith, l)

  pub literal_complete : IsMadeTable T → (thread count : ℕ) (numbers : List CodeNo) (p : Place R) (done : List (DoneField R ProcedureTree)) → AreProcHints T numbers p done → CompletePlace T p → AllComplete T (done_values done) → CompleteFields T (literal_fields T thread count numbers p done)
  literal_complete w thread count numbers p [] h hp k = tt
  literal_complete w thread count numbers p (DoneValue x v ∷ done) h hp k = (k.0, literal_complete w thread count numbers p done h hp k.1)
  literal_complete w thread count numbers p (DoneAlias x y v ∷ done) h hp k = (alias_complete y v k.0, literal_complete w thread count numbers p done h hp k.1)
  literal_complete w thread count [] p (DoneMethod x q ∷ done) h hp k = absurd h
  literal_complete w thread count (number ∷ numbers) p (DoneMethod x (AProc params b place) ∷ done) h hp k = (
    (
      (
        subst (λ (o : Option Proc). Knows (number ∷ []) (captured_values T p (captured_by (outside_at T p) (names_at p) (AProc params b place))) o) (sym h.0) (captured_count T p (captured_by (outside_at T p) (names_at p) (AProc params b place)), λ j l. absurd (none_below j l)),
        captured_complete T w p hp (captured_by (outside_at T p) (names_at p) (AProc params b place)),
        refl,
      ),
      subst (λ (v : Value R). IsClosed v) (sym (made_read T number numbers p params b place h.0)) tt,
    ),
    literal_complete w thread (suc count) numbers p done h.1 hp k,
  )
