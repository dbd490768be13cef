-- How many activations the thread of a running segment has.
use Rattle.std.specs.Prelude.{List, Some, [], ◌∷◌, ℕ, ◌+◌, ◌≡◌}
use Rattle.obq_base.specs.Tree.{BlockTree}
use Rattle.obq_model.specs.Step.{Operation, Frame, Pending, Needs, find}
use Rattle.obq_model.specs.Config.{Config}
use Rattle.obq_model.specs.Located.{activations_of, activations_of_parts, thread_activations}
use Rattle.obq_stands.specs.World.{Ref, same_ref, Segment, Slot, Suspended, World}
use Rattle.obq_stands.specs.Stands.{Stands, StandsFor}
use Rattle.obq_stands.specs.Events.{Step, Run, windows, world_at}

-- no activation stands behind the holes of these frames
abbrev pub AreBare : {R : Type 0} → List (Frame R) → Type 0
AreBare [] = Unit {0}
AreBare (Pending k before after ∷ fs) = (activations_of_parts after ≡ 0) × AreBare fs

-- nor around the next act of a segment
abbrev pub IsBare : Segment → Type 0
IsBare seg = (op : Operation Ref) (hs : List (Frame Ref)) → find same_ref seg.depth seg.self seg.window ≡ Needs op hs → AreBare hs

-- so in all suspended segments
abbrev pub ArePendingBare : World → Type 0
ArePendingBare w = (s k : ℕ) (e : Suspended) → w.pending s k ≡ Some e → IsBare e.segment

-- each event keeps it
abbrev pub BareKept : Type 0
BareKept = (trees : List BlockTree) (turns : ℕ) (w x : World) → StandsFor trees turns w → ArePendingBare w → Step turns w x → ArePendingBare x

-- so behind every list of events the thread of a running segment has the activations with which the segment began and those of its window
abbrev pub SegmentActivations : Type 0
SegmentActivations =
    (trees : List BlockTree) (turns : ℕ) (w : World) (c : Config) (s t : ℕ) (slot : Slot) → Run turns (world_at (windows 0 trees)) w → Stands turns w c
    → w.running s t ≡ Some slot → thread_activations c t ≡ slot.segment.depth + activations_of slot.segment.window
