-- What comes of acts on threads, put together.
use Rattle.std.specs.Prelude.{Bool, List, None, Option, Some, false, true, ℕ, ◌≡◌, ◌≤◌}
use Rattle.std.proofs.Common.{subst, sym}
use Rattle.obq_base.specs.declared.acts.Act.{Act}
use Rattle.obq_base.specs.declared.acts.ActKind.{ActKind}
use Rattle.obq_base.specs.declared.code.SourceCode.{SourceCode}
use Rattle.obq_base.specs.declared.limits.TheConstants.{THREAD_LIMIT}
use Rattle.obq_base.specs.declared.places.Ref.{Ref}
use Rattle.obq_base.specs.declared.values.Value.{Value as Held}
use Rattle.obq_except.specs.declared.windows.Window.{Window}
use Rattle.obq_host.specs.Places.{IsWith, at_place}
use Rattle.obq_host.specs.Running.{RunsSo}
use Rattle.obq_host.specs.Threads.{DueExport, DueFork, DueImport, DueJoin, due_at}
use Rattle.obq_host.specs.Turns.{ActsOnThreads, EndsHere, ExportsHere, ForksHere, HasEnded, HasExported, HasForked, HasImported, HasJoined, HasNoRoom, ImportsHere, IsSeeking, IsWaiting, JoinsHere, OfWindow, RunsHere, SameElse}
use Rattle.obq_host.specs.declared.host.Host.{Host}
use Rattle.obq_host.proofs.Placing.{put_back}
use Rattle.obq_host.proofs.Refocused.{same_window}
use Rattle.obq_model.specs.Config.{act}
use Rattle.obq_model.specs.Terms.{Bytes}
use Rattle.obq_moves.specs.Views.{plain_value, shown}
use Rattle.obq_windows.specs.Values.{PlainValue}
use Rattle.obq_world.specs.declared.machine.Made.{Made}
use Rattle.obq_world.specs.declared.machine.Slice.{Slice}
use Rattle.obq_world.specs.declared.machine.Tried.TheVariants as tried

pub has_ended : (old new : Host) (t threads : ℕ) (a : Act) → a ≡ act ActKind.End t → EndsHere old t new → ActsOnThreads old t threads new (tried.Did a Made.Nothing)
has_ended old new t threads a e h = subst (λ (z : Act). ActsOnThreads old t threads new (tried.Did z Made.Nothing)) (sym e) (HasEnded h)

pub has_forked : (old new : Host) (t threads : ℕ) (f : PlainValue Ref) (made : Bool) (a : Act) → a ≡ act ActKind.Fork threads → ForksHere old t f threads made new → made ≡ true → OfWindow old t (λ s. due_at s.focus ≡ DueFork f)
    → ActsOnThreads old t threads new (tried.Did a Made.Thread)
has_forked old new t threads f made a e h is due = subst (λ (z : Act). ActsOnThreads old t threads new (tried.Did z Made.Thread)) (sym e) (HasForked f due (subst (λ (b : Bool). ForksHere old t f threads b new) is h))

pub has_no_room : (old new : Host) (t threads : ℕ) (f : PlainValue Ref) (made : Bool) (a : Act) → a ≡ act ActKind.Fork THREAD_LIMIT → ForksHere old t f threads made new → made ≡ false → OfWindow old t (λ s. due_at s.focus ≡ DueFork f)
    → ActsOnThreads old t threads new (tried.Did a Made.Nothing)
has_no_room old new t threads f made a e h is due = subst (λ (z : Act). ActsOnThreads old t threads new (tried.Did z Made.Nothing)) (sym e) (HasNoRoom f due (subst (λ (b : Bool). ForksHere old t f threads b new) is h))

pub has_joined : (old new : Host) (t threads v : ℕ) (done : Bool) (a : Act) → a ≡ act ActKind.Join v → JoinsHere old t v done new → done ≡ true → OfWindow old t (λ s. due_at s.focus ≡ DueJoin v)
    → ActsOnThreads old t threads new (tried.Did a Made.Nothing)
has_joined old new t threads v done a e h is due = subst (λ (z : Act). ActsOnThreads old t threads new (tried.Did z Made.Nothing)) (sym e) (HasJoined v due (subst (λ (b : Bool). JoinsHere old t v b new) is h))

pub is_waiting : (old new : Host) (t threads v : ℕ) (done : Bool) → JoinsHere old t v done new → done ≡ false → OfWindow old t (λ s. due_at s.focus ≡ DueJoin v) → ActsOnThreads old t threads new tried.Waits
is_waiting old new t threads v done h is due = IsWaiting v due (subst (λ (b : Bool). JoinsHere old t v b new) is h)

pub has_exported : (old new : Host) (t threads : ℕ) (x : Bytes) (v : Held) (a : Act) → a ≡ act ActKind.Export 0 → ExportsHere old t x v new → OfWindow old t (λ s. due_at s.focus ≡ DueExport x (plain_value v)) → ActsOnThreads old t threads new (tried.Did a Made.Nothing)
has_exported old new t threads x v a e h due = subst (λ (z : Act). ActsOnThreads old t threads new (tried.Did z Made.Nothing)) (sym e) (HasExported x v due h)

pub has_imported : (old new : Host) (t threads : ℕ) (x : Bytes) (engine done : Bool) (a : Act) → a ≡ act ActKind.Import 0 → ImportsHere old t x engine done new → done ≡ true → OfWindow old t (λ s. due_at s.focus ≡ DueImport x engine)
    → ActsOnThreads old t threads new (tried.Did a Made.Nothing)
has_imported old new t threads x engine done a e h is due = subst (λ (z : Act). ActsOnThreads old t threads new (tried.Did z Made.Nothing)) (sym e) (HasImported x engine due (subst (λ (b : Bool). ImportsHere old t x engine b new) is h))

pub is_seeking : (old new : Host) (t threads : ℕ) (x : Bytes) (engine done : Bool) → ImportsHere old t x engine done new → done ≡ false → OfWindow old t (λ s. due_at s.focus ≡ DueImport x engine) → ActsOnThreads old t threads new tried.Waits
is_seeking old new t threads x engine done h is due = IsSeeking x engine due (subst (λ (b : Bool). ImportsHere old t x engine b new) is h)

-- pure steps of a window that was taken out of its place and put back
pub has_run : (parts : List SourceCode) (old new : Host) (mid : List (Option Window)) (t most : ℕ) (slice : Slice) (v w : Window)
    → Some v ≡ at_place old.windows.items t → IsWith old.windows.items t None mid → slice.steps ≤ most → RunsSo parts (shown v) slice.steps slice.stop (shown w) → IsWith mid t (Some w) new.windows.items → SameElse old new
    → RunsHere parts old t most slice new
has_run parts old new mid t most slice v w there out few runs into same =
    record {
      few = few;
      window = w;
      runs = λ x here. subst (λ (z : Window). RunsSo parts (shown z) slice.steps slice.stop (shown w)) (same_window (at_place old.windows.items t) v x there here) runs;
      windows = put_back old.windows.items mid new.windows.items t w out into;
      same = same;
    }
