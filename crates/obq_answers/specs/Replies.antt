-- What the reply to a request leaves at the form that asked, in the window that was suspended there.
use Rattle.std.specs.Prelude.{List, Some, codes, pos, unwrap_or, ℕ, ◌++◌, ◌∷◌}
use Rattle.obq_base.specs.declared.code.SourceCode.{SourceCode}
use Rattle.obq_base.specs.declared.places.Ref.{Ref}
use Rattle.obq_base.specs.declared.trees.Flags.{Flags}
use Rattle.obq_model.specs.Maps.{map_fields}
use Rattle.obq_model.specs.Step.{Frame, Operation, Self, plug}
use Rattle.obq_model.specs.Terms.{Bytes, Raised, Term}
use Rattle.obq_moves.specs.Store.{store}
use Rattle.obq_moves.specs.Views.{Shown}
use Rattle.obq_answers.specs.Worlds.{AnsweredSeen, SeenForm, seen, seen_value}
use Rattle.obq_stands.specs.World.{Answer, HopTo, MayAsk, Outcome, RaisedUp, Taken, answer_term}
use Rattle.obq_stands.specs.World as world
use Rattle.obq_windows.specs.Acts.{AnswerForm, AnswerRaising, AnswerTest, AnswerValue, PlainAnswer}
use Rattle.obq_windows.specs.Agrees.{Agrees}
use Rattle.obq_windows.specs.Complete.{CompleteFields, IsComplete}
use Rattle.obq_windows.specs.Rows.{answer_raises}
use Rattle.obq_windows.specs.Trees.{PlainAgain, PlainCloning, PlainEachItem, PlainEachSize, PlainField, PlainGet, PlainGiveUp, PlainInvoke, PlainLineUp, PlainOperation, PlainSetAlias, PlainSetMethod, PlainSetValue, read_fields}
use Rattle.obq_windows.specs.Values.{IntValue, PlainValue, Table}
use Rattle.obq_windows.specs.Windows.{NodeAfter}

-- what a reply carries, over plain values
pub data PlainReply : Type 0 where
  ReplyValue : PlainValue Ref → PlainReply
  ReplyRaised : Raised → PlainReply
  ReplyHop : Ref → Bytes → PlainReply  -- the operation goes on at this field of this object
  ReplyTaken : Flags → List (PlainField Ref) → PlainReply  -- the flags and fields that a clone takes over

abbrev pub seen_reply : Table Ref → PlainReply → Outcome world.Ref
seen_reply T (ReplyValue v) = Answer (seen_value T v)
seen_reply T (ReplyRaised r) = RaisedUp r
seen_reply T (ReplyHop p y) = HopTo (seen p) y
seen_reply T (ReplyTaken flags fields) = Taken flags (map_fields seen (read_fields T fields))

abbrev pub CompleteReply : Table Ref → PlainReply → Type 0
CompleteReply T (ReplyValue v) = IsComplete T v
CompleteReply T (ReplyTaken flags fields) = CompleteFields T fields
CompleteReply T reply = Unit {0}

-- where an operation goes on, and where a clone does
abbrev pub hop_answer : PlainOperation Ref → Ref → Bytes → PlainAnswer Ref
hop_answer (PlainGet o x) p y = AnswerForm (PlainGet p y)
hop_answer (PlainInvoke o x vs) p y = AnswerForm (PlainInvoke p y vs)
hop_answer (PlainSetValue o x v) p y = AnswerForm (PlainSetValue p y v)
hop_answer (PlainSetMethod o x m) p y = AnswerForm (PlainSetMethod p y m)
hop_answer (PlainSetAlias o x q z) p y = AnswerForm (PlainSetAlias p y q z)
hop_answer op p y = answer_raises (codes "type")

abbrev pub taken_answer : PlainOperation Ref → Flags → List (PlainField Ref) → PlainAnswer Ref
taken_answer (PlainCloning first copied (o ∷ rest)) flags fields = AnswerForm (PlainCloning (Some (unwrap_or first flags)) (copied ++ fields) rest)
taken_answer op flags fields = answer_raises (codes "type")

-- the size of the array that a `foreach` goes over
abbrev pub size_answer : Ref → PlainValue Ref → PlainAnswer Ref
size_answer r (IntValue (pos n)) = AnswerForm (PlainEachItem r 0 n)
size_answer r v = AnswerValue v

abbrev pub value_answer : PlainOperation Ref → PlainValue Ref → PlainAnswer Ref
value_answer (PlainEachSize r) v = size_answer r v
value_answer (PlainLineUp o c) v = AnswerForm (PlainGiveUp o c)
value_answer (PlainGiveUp o c) v = AnswerForm (PlainAgain o c)
value_answer (PlainAgain o c) v = AnswerTest
value_answer op v = AnswerValue v

-- the answer that a reply is at this form
abbrev pub reply_answer : PlainOperation Ref → PlainReply → PlainAnswer Ref
reply_answer op (ReplyValue v) = value_answer op v
reply_answer op (ReplyRaised r) = AnswerRaising r
reply_answer op (ReplyHop p y) = hop_answer op p y
reply_answer op (ReplyTaken flags fields) = taken_answer op flags fields

abbrev pub ReplySeen : Type 0
ReplySeen =
    (parts : List SourceCode) (T : Table Ref) → Agrees T (store parts)
    → (a : ℕ) (self : Self world.Ref) (w : Shown) (t : Term world.Ref) (op : PlainOperation Ref) (after : NodeAfter) (o : Operation world.Ref) (around : List (Frame world.Ref)) → SeenForm parts T a self w t op after o around
    → MayAsk o → (reply : PlainReply) → CompleteReply T reply → AnsweredSeen parts T a self w op after (reply_answer op reply) (plug around (answer_term o (seen_reply T reply)))
