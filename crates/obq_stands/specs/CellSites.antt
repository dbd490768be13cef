-- Where the cells and the threads of a World are in the located fold of its journal.
use Rattle.std.specs.Prelude.{List, None, Option, Some, [], replicate, slice_get, slice_index_or, ℕ, ◌++◌, ◌≡◌}
use Rattle.obq_base.specs.Tree.{BlockTree}
use Rattle.obq_model.specs.Terms.{Term}
use Rattle.obq_model.specs.Step.{Found, Next, Needs, Done, Uncaught, find}
use Rattle.obq_model.specs.Config.{Execution, Running, ThreadState}
use Rattle.obq_model.specs.Located.{Located, site_here, located_run, activations_of}
use Rattle.obq_stands.specs.World.{Ref, same_ref, Born, Memory, Slot, World}
use Rattle.obq_stands.specs.Stands.{after_steps}
use Rattle.obq_model.specs.Located as located
use Rattle.obq_stands.specs.Events.{Run, windows, world_at}

-- each cell of these heaps is at its site
abbrev pub AreAt : Memory → List ℕ → Type 0
AreAt m sites = (r : Ref) (x : Born) → m.heap r ≡ Some x → slice_get sites x.born ≡ Some r.site

-- the trail of thread t, which goes on so, behind n pure steps
abbrev pub trail_of_execution : Located → (t n : ℕ) → Execution → List ℕ
trail_of_execution l t n (Running u) = (located.after_steps n u (slice_index_or l.thread_sites t [], l.replies)).0
trail_of_execution l t n x = []

abbrev pub trail_of_state : Located → (t n : ℕ) → Option ThreadState → List ℕ
trail_of_state l t n None = []
trail_of_state l t n (Some s) = trail_of_execution l t n s.execution

-- the trail of thread t in the located fold behind n pure steps, and where the thread is then
abbrev pub trail_behind : Located → (t n : ℕ) → List ℕ
trail_behind l t n = trail_of_state l t n (slice_get l.config.threads t)

abbrev pub site_behind : Located → (t n : ℕ) → ℕ
site_behind l t n = site_here (trail_behind l t n)

-- ---- a running segment

-- a step or an act stands next
abbrev pub IsNext : {R : Type 0} → Found R → Type 0
IsNext (Next t) = Unit {0}
IsNext (Needs op fs) = Unit {0}
IsNext (Done v) = ⊥
IsNext (Uncaught r) = ⊥

-- Where the trail of its thread begins with a segment's site for each activation of its window, and at its bottom goes on with that site, pure steps change these alone; and
-- the thread is there while a step or an act stands next.
abbrev pub SegmentSites : Type 0
SegmentSites =
    (trees : List BlockTree) (turns : ℕ) (w : World) (l : Located) (s t n : ℕ) (slot : Slot) (x : Term Ref) (rest : List ℕ) → Run turns (world_at (windows 0 trees)) w → located_run trees turns w.journal ≡ Some l → w.running s t ≡ Some slot
    → slice_index_or l.thread_sites t [] ≡ replicate (activations_of slot.segment.window) s ++ rest → (slot.segment.answers ≡ None → site_here rest ≡ s) → after_steps slot.segment.depth slot.segment.self n slot.segment.window ≡ Some x
    → (trail_behind l t n ≡ replicate (activations_of x) s ++ rest) × (IsNext (find same_ref slot.segment.depth slot.segment.self x) → site_behind l t n ≡ s)
