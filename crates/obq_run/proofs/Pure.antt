-- The pure machine's laws are what a site asks of pure steps.
use Rattle.std.specs.Prelude.{List, [], ℕ, ◌≡◌}
use Rattle.std.proofs.Common.{subst, sym}
use Rattle.obq_base.specs.declared.code.CodeNo.{CodeNo}
use Rattle.obq_base.specs.declared.code.SourceCode.{SourceCode}
use Rattle.obq_base.specs.declared.places.Ref.{Ref}
use Rattle.obq_answers.specs.Worlds.{SeenAs}
use Rattle.obq_host.specs.Running.{OpensSo, RunsSo, StopSays}
use Rattle.obq_model.specs.Opening.{block_term}
use Rattle.obq_model.specs.Step.{Self, no_self}
use Rattle.obq_model.specs.Terms.{Term}
use Rattle.obq_moves.specs.Views.{Shown}
use Rattle.obq_pure.specs.Opening.{opened}
use Rattle.obq_pure.specs.Steps.{Ran}
use Rattle.obq_pure.specs.Worlds as pure
use Rattle.obq_pure.specs.declared.steps.Stop.{Stop as Why}
use Rattle.obq_pure.specs.declared.steps.Stop.TheVariants as why
use Rattle.obq_pure.proofs.Runs.{main_seen, run_seen, stop_seen}
use Rattle.obq_stands.specs.Events.{writer_at}
use Rattle.obq_stands.specs.World as world
use Rattle.obq_windows.specs.Values.{Table}
use Rattle.obq_windows.specs.Windows.{NodeAct, NodeCall, NodeFocus, NodeItems, NodeMake, NodeMethod, NodeRaising, NodeRun, NodeUnmet, NodeValue}
use Rattle.obq_host.specs.Stops.{LastIs}
use Rattle.obq_model.specs.Step.{Found, find}
use Rattle.obq_run.specs.Stops.{stop_of}
use Rattle.obq_world.specs.declared.machine.Stop.{Stop}

pub opens_so : (number : CodeNo) (thread : ℕ) (w : Shown) → w ≡ opened number thread → OpensSo number w
opens_so number thread w e parts T g source below tree is bound = subst (λ (z : Shown). SeenAs parts T 0 no_self z (block_term (writer_at source) [] tree)) (sym e) (main_seen parts T g source below number tree is bound thread)

last : (T : Table Ref) (found : Found world.Ref) (x : NodeFocus Ref) → pure.LastIs T found x → LastIs T found x
last T found (NodeValue v) h = h
last T found (NodeRaising r) h = h
last T found (NodeRun at height) h = h
last T found (NodeItems at left height) h = h
last T found (NodeUnmet text child more height) h = h
last T found (NodeMethod v x at height) h = h
last T found (NodeMake flags done) h = h
last T found (NodeCall f vs) h = h
last T found (NodeAct op after) h = h

says : (parts : List SourceCode) (T : Table Ref) (a : ℕ) (self : Self world.Ref) (w : Shown) (t : Term world.Ref) (stop : Why) → pure.StopSays parts T a self w t stop → StopSays parts T a self w t (stop_of stop)
says parts T a self w t why.Most h = tt
says parts T a self w t why.Needs h = record { op = h.op; after = h.after; there = record { needed = h.needed; around = h.around; form = h.form } }
says parts T a self w t why.Bottom h = (h.0, last T (find world.same_ref a self t) w.focus h.1)

runs_so : (parts : List SourceCode) (old new : Shown) (n : ℕ) (stop : Why) → Ran parts old n stop new → RunsSo parts old n (stop_of stop) new
runs_so parts old new n stop ran = record {
  runs = λ T g a self t k. run_seen parts T g old new n stop ran a self t k;
  stops = λ T g a self t k. says parts T a self new t stop (stop_seen parts T g old new n stop ran a self t k);
}

pub runs_as : (parts : List SourceCode) (old new : Shown) (n : ℕ) (stop : Why) (shown_stop : Stop) → Ran parts old n stop new → shown_stop ≡ stop_of stop → RunsSo parts old n shown_stop new
runs_as parts old new n stop shown_stop ran e = subst (λ (z : Stop). RunsSo parts old n z new) (sym e) (runs_so parts old new n stop ran)
