-- What a window reads back as, with the activations and the current selves that it keeps, and what stands next there.
use Rattle.std.specs.Prelude.{List, [], ℕ, ◌∷◌, ◌≡◌}
use Rattle.obq_base.specs.declared.code.SourceCode.{SourceCode}
use Rattle.obq_base.specs.declared.places.Ref.{Ref}
use Rattle.obq_model.specs.Step.{Needs, Self, find}
use Rattle.obq_model.specs.Terms.{Term}
use Rattle.obq_moves.specs.Moves.{activations_behind, current_behind, selves_behind}
use Rattle.obq_moves.specs.Store.{same_ref, store}
use Rattle.obq_moves.specs.Views.{Shown}
use Rattle.obq_windows.specs.Agrees.{FocusIs, FramesAre}
use Rattle.obq_windows.specs.Complete.{CompleteWindow}
use Rattle.obq_windows.specs.Laws.{Reads}
use Rattle.obq_windows.specs.Meanings.{IsEnd}
use Rattle.obq_windows.specs.Trees.{PlainOperation, TreeAct, TreeAfter, TreeFocus, TreeFrame, frames_of, read_operation, scope_after}
use Rattle.obq_windows.specs.Values.{Table}
use Rattle.obq_windows.specs.Windows.{Change, NodeFrame, NodeWithin, count_node_activations, node_self}

-- ---- the activations and the current selves that a window keeps are those of its frames

pub record Counts : Type 0 where
  pub activations : ℕ
  pub current : Self Ref
  pub selves : List (Self Ref)

abbrev pub counts_of : Shown → Counts
counts_of s = record { activations = s.activations; current = s.current; selves = s.selves }

-- the current self around a frame, if the frame is that of a method
abbrev pub selves_by : NodeFrame Ref → Self Ref → List (Self Ref) → List (Self Ref)
selves_by (NodeWithin act o m) outer selves = outer ∷ selves
selves_by f outer selves = selves

abbrev pub selves_in : Self Ref → List (NodeFrame Ref) → List (Self Ref)
selves_in self [] = []
selves_in self (f ∷ fs) = selves_by f (node_self self fs) (selves_in self fs)

-- with a activations and this current self around the window
abbrev pub counts_in : (a : ℕ) → Self Ref → List (NodeFrame Ref) → Counts
counts_in a self fs = record { activations = count_node_activations a fs; current = node_self self fs; selves = selves_in self fs }

-- those behind a change
abbrev pub counts_behind : Change → Counts → Counts
counts_behind change c = record { activations = activations_behind change c.activations; current = current_behind change c.current c.selves; selves = selves_behind change c.selves }

abbrev pub Fits : (a : ℕ) → Self Ref → Shown → Type 0
Fits a self s = counts_of s ≡ counts_in a self s.frames

-- ---- windows and terms

-- the window reads back as this term, with a activations and this current self around it
pub record ReadsAs (parts : List SourceCode) (T : Table Ref) (a : ℕ) (self : Self Ref) (w : Shown) (t : Term Ref) : Type 0 where
  pub reads : Reads T (store parts) w.act w.frames w.focus t
  pub fits : Fits a self w

-- the window reads back as a term in which the same stands next
pub record ReadsLike (parts : List SourceCode) (T : Table Ref) (a : ℕ) (self : Self Ref) (w : Shown) (t : Term Ref) : Type 0 where
  pub term : Term Ref
  pub reads : ReadsAs parts T a self w term
  pub next : find same_ref a self t ≡ find same_ref a self term

-- an act's form is in the focus, and stands next in the term
pub record NeedsAct (parts : List SourceCode) (T : Table Ref) (a : ℕ) (self : Self Ref) (w : Shown) (t : Term Ref) : Type 0 where
  pub frames : List (TreeFrame Ref)
  pub focus : TreeFocus Ref
  pub height : ℕ
  pub are_frames : FramesAre T (store parts) w.act height w.frames frames
  pub is_focus : FocusIs T (store parts) w.act height w.focus focus
  pub complete : CompleteWindow T frames focus
  pub fits : Fits a self w
  pub op : PlainOperation Ref
  pub after : TreeAfter Ref
  pub is_act : focus ≡ TreeAct op after
  pub next : find same_ref a self t ≡ Needs (read_operation T op (scope_after T after)) (frames_of T frames)

-- nothing stands next: a value, or what goes up
pub record IsAtEnd (parts : List SourceCode) (T : Table Ref) (a : ℕ) (self : Self Ref) (w : Shown) (t : Term Ref) : Type 0 where
  pub frames : List (TreeFrame Ref)
  pub focus : TreeFocus Ref
  pub height : ℕ
  pub are_frames : FramesAre T (store parts) w.act height w.frames frames
  pub is_focus : FocusIs T (store parts) w.act height w.focus focus
  pub complete : CompleteWindow T frames focus
  pub fits : Fits a self w
  pub next : IsEnd T (find same_ref a self t) focus
