-- What a fork, a join and an export leave at the form of a window.
use Rattle.std.specs.Prelude.{List, [], codes, ℕ, ◌≡◌}
use Rattle.std.proofs.Common.{subst}
use Rattle.obq_base.specs.declared.places.Ref.{Ref}
use Rattle.obq_model.specs.Step.{Frame, Operation, plug}
use Rattle.obq_model.specs.Terms.{Term}
use Rattle.obq_moves.specs.Store.{store}
use Rattle.obq_moves.specs.Views.{Shown}
use Rattle.obq_answers.specs.Forms.{AnsweredReads, ExportReads, ForkReads, IsAtForm, JoinReads}
use Rattle.obq_answers.proofs.Edges.{first_reads, takes_none}
use Rattle.obq_answers.proofs.Forms.{Own, answer_reads, own, own_goes_on}
use Rattle.obq_windows.specs.Acts.{AnswerValue, CompleteAnswer, PlainAnswer, left_by}
use Rattle.obq_windows.specs.Agrees.{Agrees}
use Rattle.obq_windows.specs.Rows.{answer_raises}
use Rattle.obq_windows.specs.Trees.{PlainExport, PlainForkOff, PlainJoin, PlainOperation}
use Rattle.obq_windows.specs.Values.{OkayValue, Table, ThreadValue}
use Rattle.obq_windows.specs.Windows.{NodeAfter}
use Rattle.obq_base.specs.declared.code.SourceCode.{SourceCode}
use Rattle.obq_model.specs.Step.{Self}

-- an answer, where it is known what the operation is and so what the answer leaves
known_reads : (parts : List SourceCode) (T : Table Ref) → Agrees T (store parts) → (a : ℕ) (self : Self Ref) (w : Shown) (t : Term Ref) (op : PlainOperation Ref) (after : NodeAfter) (o : Operation Ref) (around : List (Frame Ref)) → IsAtForm parts T a self w t op after o around
    → (answer : PlainAnswer Ref) → CompleteAnswer T op answer → (z : Operation Ref) → o ≡ z → AnsweredReads parts T a self w op after answer (plug around (left_by T z answer))
known_reads parts T g a self w t op after o around h answer c z e = subst (λ (q : Operation Ref). AnsweredReads parts T a self w op after answer (plug around (left_by T q answer))) e (answer_reads parts T g a self w t op after o around h answer c)

pub fork_reads : ForkReads
fork_reads parts T g a self w t f after o around h =
    let k : Own parts T a self w t (PlainForkOff f) after o around = own parts T a self w t (PlainForkOff f) after o around h in
    record {
      operation = k.operation;
      complete = k.operands;
      forked = λ thread. known_reads parts T g a self w t (PlainForkOff f) after o around h (AnswerValue (ThreadValue thread)) tt _ k.operation;
      refused = known_reads parts T g a self w t (PlainForkOff f) after o around h (answer_raises (codes "fork_limit")) tt _ k.operation;
      thread = λ outside. (first_reads parts T g f k.operands [] tt outside).called (takes_none T f (own_goes_on parts T g a self w t (PlainForkOff f) after o around k tt));
    }

pub join_reads : JoinReads
join_reads parts T g a self w t thread after o around h =
    let k : Own parts T a self w t (PlainJoin thread) after o around = own parts T a self w t (PlainJoin thread) after o around h in
    record {
      operation = k.operation;
      returned = λ v c. known_reads parts T g a self w t (PlainJoin thread) after o around h (AnswerValue v) c _ k.operation;
      failed = λ e. known_reads parts T g a self w t (PlainJoin thread) after o around h (answer_raises e) tt _ k.operation;
    }

pub export_reads : ExportReads
export_reads parts T g a self w t x namer v after o around h =
    let k : Own parts T a self w t (PlainExport x namer v) after o around = own parts T a self w t (PlainExport x namer v) after o around h in
    record {
      operation = k.operation;
      complete = k.operands;
      reads = known_reads parts T g a self w t (PlainExport x namer v) after o around h (AnswerValue OkayValue) tt _ k.operation;
    }
