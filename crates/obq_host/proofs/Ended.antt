-- The end of a thread, as a World sees it.
use Rattle.std.specs.Prelude.{List, None, Option, Some, [], refl, ℕ, ◌∷◌, ◌≡◌}
use Rattle.std.proofs.Common.{ap, subst, sym}
use Rattle.obq_base.specs.declared.code.SourceCode.{SourceCode}
use Rattle.obq_base.specs.declared.places.Ref.{Ref}
use Rattle.obq_answers.specs.Worlds.{BottomIs, SeenAs, seen_value}
use Rattle.obq_answers.proofs.Seen.{bottom_seen}
use Rattle.obq_host.specs.Endings.{EndingReads, PlainEnding, PlainFailed, PlainReturned, ending_in, ending_of, ending_under}
use Rattle.obq_model.specs.Exceptions.{exit_outside}
use Rattle.obq_model.specs.Step.{Found, Self, find}
use Rattle.obq_model.specs.Terms.{ExitUp, Exn, Term}
use Rattle.obq_moves.specs.Views.{Shown}
use Rattle.obq_stands.specs.Events.{ends_as}
use Rattle.obq_stands.specs.World as world
use Rattle.obq_windows.specs.Values.{Table}
use Rattle.obq_windows.specs.Windows.{NodeAct, NodeCall, NodeFocus, NodeFrame, NodeItems, NodeMake, NodeMethod, NodeRaising, NodeRun, NodeUnmet, NodeValue}

-- the thread ends so, and that is what the ending that is kept reads back as
pub record EndsSo (T : Table Ref) (found : Found world.Ref) (kept : PlainEnding) : Type 0 where
  pub ending : world.Ending
  pub ends : ends_as found ≡ Some ending
  pub reads : EndingReads T (Some kept) (Some ending)

none_some : {A X : Type 0} → (x : X) → ◌≡◌ {A = Option X} None (Some x) → A
none_some x e = absurd (cc e)

by_focus : (T : Table Ref) (found : Found world.Ref) (x : NodeFocus Ref) (kept : PlainEnding) → BottomIs T found x → ending_in x ≡ Some kept → EndsSo T found kept
by_focus T found (NodeValue v) kept h e = let k : PlainReturned v ≡ kept = cc e in subst (EndsSo T found) k (record { ending = world.ByValue (seen_value T v); ends = ap ends_as h.0; reads = (refl, h.1) })
by_focus T found (NodeRaising (Exn text)) kept h e = let k : PlainFailed text ≡ kept = cc e in subst (EndsSo T found) k (record { ending = world.ByException text; ends = ap ends_as h; reads = refl })
by_focus T found (NodeRaising ExitUp) kept h e = let k : PlainFailed exit_outside ≡ kept = cc e in subst (EndsSo T found) k (record { ending = world.ByException exit_outside; ends = ap ends_as h; reads = refl })
by_focus T found (NodeRun at height) kept h e = none_some kept e
by_focus T found (NodeItems at left height) kept h e = none_some kept e
by_focus T found (NodeUnmet text child last height) kept h e = none_some kept e
by_focus T found (NodeMethod v x at height) kept h e = none_some kept e
by_focus T found (NodeMake flags done) kept h e = none_some kept e
by_focus T found (NodeCall f vs) kept h e = none_some kept e
by_focus T found (NodeAct op after) kept h e = none_some kept e

-- whatever the window of the thread is seen as
pub ends_seen : (parts : List SourceCode) (T : Table Ref) (a : ℕ) (self : Self world.Ref) (w : Shown) (t : Term world.Ref) → SeenAs parts T a self w t → (kept : PlainEnding) → ending_of w ≡ Some kept → EndsSo T (find world.same_ref a self t) kept
ends_seen parts T a self w t h kept = at w.frames refl
  where
    at : (fs : List (NodeFrame Ref)) → fs ≡ w.frames → ending_under fs w.focus ≡ Some kept → EndsSo T (find world.same_ref a self t) kept
    at [] q e = by_focus T (find world.same_ref a self t) w.focus kept (bottom_seen parts T a self w t h (sym q)) e
    at (f ∷ fs) q e = none_some kept e
