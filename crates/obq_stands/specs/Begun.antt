-- A segment that answers a call is the activation that the call entered, or has been left.
use Rattle.std.specs.Prelude.{List, None, Some, ℕ, ◌≡◌, ◌⊎◌}
use Rattle.obq_base.specs.Tree.{BlockTree}
use Rattle.obq_model.specs.Terms.{Raising, Term, Const, Form, End}
use Rattle.obq_model.specs.Frames.{IsActivation}
use Rattle.obq_stands.specs.World.{Segment, Slot, Suspended, World}
use Rattle.obq_stands.specs.Events.{Step, Run, windows, world_at}

-- a value, or a raising
abbrev pub IsLeft : {R : Type 0} → Term R → Type 0
IsLeft (Const v) = Unit {0}
IsLeft (Form (Raising r) End) = Unit {0}
IsLeft t = ⊥

abbrev pub IsEntered : {R : Type 0} → Term R → Type 0
IsEntered t = IsActivation t ⊎ IsLeft t

-- it answers no call, or is so
abbrev pub HasBegun : Segment → Type 0
HasBegun seg = (seg.answers ≡ None) ⊎ IsEntered seg.window

-- so are all segments that run or are suspended
pub record AreBegun (w : World) : Type 0 where
  pub runs : (s t : ℕ) (slot : Slot) → w.running s t ≡ Some slot → HasBegun slot.segment
  pub pends : (s k : ℕ) (e : Suspended) → w.pending s k ≡ Some e → HasBegun e.segment

-- each event keeps it
abbrev pub BegunKept : Type 0
BegunKept = (turns : ℕ) (w x : World) → AreBegun w → Step turns w x → AreBegun x

-- so it is behind every list of events
abbrev pub EveryRunBegun : Type 0
EveryRunBegun = (trees : List BlockTree) (turns : ℕ) (w : World) → Run turns (world_at (windows 0 trees)) w → AreBegun w
