-- How threads end, as plain data, and what is kept of that.
use Rattle.std.specs.Prelude.{List, None, Option, Some, [], option_map, ℕ, ◌∷◌, ◌≡◌}
use Rattle.obq_base.specs.declared.places.Ref.{Ref}
use Rattle.obq_answers.specs.Worlds.{seen_value}
use Rattle.obq_host.specs.Places.{at_place}
use Rattle.obq_host.specs.declared.host.Ending.{Ending}
use Rattle.obq_host.specs.declared.host.Ending.TheVariants as e
use Rattle.obq_model.specs.Exceptions.{exit_outside}
use Rattle.obq_model.specs.Terms.{Bytes, ExitUp, Exn}
use Rattle.obq_moves.specs.Views.{Shown, plain_value}
use Rattle.obq_stands.specs.World as world
use Rattle.obq_windows.specs.Complete.{IsComplete}
use Rattle.obq_windows.specs.Values.{PlainValue, Table}
use Rattle.obq_windows.specs.Windows.{NodeFocus, NodeFrame, NodeRaising, NodeValue}

pub data PlainEnding : Type 0 where
  PlainReturned : PlainValue Ref → PlainEnding
  PlainFailed : Bytes → PlainEnding

abbrev pub plain_ending : Ending → PlainEnding
plain_ending (e.Returned v) = PlainReturned (plain_value v)
plain_ending (e.Failed text) = PlainFailed text

-- what is kept of the ending of this thread
abbrev pub kept_at : List (Option Ending) → ℕ → Option PlainEnding
kept_at endings thread = option_map plain_ending (at_place endings thread)

-- how a thread ends that has this in its focus outside of all frames
abbrev pub ending_in : NodeFocus Ref → Option PlainEnding
ending_in (NodeValue v) = Some (PlainReturned v)
ending_in (NodeRaising (Exn text)) = Some (PlainFailed text)
ending_in (NodeRaising ExitUp) = Some (PlainFailed exit_outside)
ending_in x = None

abbrev pub ending_under : List (NodeFrame Ref) → NodeFocus Ref → Option PlainEnding
ending_under [] x = ending_in x
ending_under (f ∷ fs) x = None

-- how the thread of a window ends; none where that isn't at its end
abbrev pub ending_of : Shown → Option PlainEnding
ending_of s = ending_under s.frames s.focus

-- what is kept reads back so
abbrev pub EndingReads : Table Ref → Option PlainEnding → Option world.Ending → Type 0
EndingReads T (Some (PlainReturned v)) o = (o ≡ Some (world.ByValue (seen_value T v))) × IsComplete T v
EndingReads T (Some (PlainFailed text)) o = o ≡ Some (world.ByException text)
EndingReads T None o = o ≡ None
