-- A thread that goes on, over plain values.
use Rattle.std.specs.Prelude.{Bool, IsTrue, List, None, Option, Some, [], length, nat_lt, slice_get, slice_set, true, ℕ, ◌&&◌, ◌+◌, ◌++◌, ◌-◌, ◌<◌, ◌∷◌, ◌≡◌, ◌≤◌, ◌⊎◌, ◌^◌}
use Rattle.std.proofs.Common.{ap, arith, get_or, inl, inr, refl, subst, sym, ◌∙◌}
use Rattle.std.proofs.lemmas.Bool.Decides.{nat_tests}
use Rattle.std.proofs.lemmas.List.{append-nil}
use Rattle.std.proofs.lemmas.Option.{slice_get-get_or}
use Rattle.obq_base.specs.Tree.{BlockTree}
use Rattle.obq_base.specs.declared.acts.Act.{Act}
use Rattle.obq_base.specs.declared.acts.Entry.{Entry}
use Rattle.obq_laws.specs.Determinism.{entry_of}
use Rattle.obq_model.specs.Replay.{TakeTurns, act_turns}
use Rattle.obq_model.specs.Step.{Self}
use Rattle.obq_model.specs.Terms.{Bytes, Term, Value}
use Rattle.obq_stands.specs.World.{Ending, Heap, Ref, with_at}
use Rattle.obq_stands.proofs.Update.{same_or, with_at_other, with_at_same}
use Rattle.obq_world.specs.Acts.{CanAct, DidAct, DidIn, DoesRow, EndsHere, Exports, ForksOff, HasTooMany, Imports, IsDue, IsRunOn, JoinsWith, Leaves, MakesCell, Rewinds, cells_made}
use Rattle.obq_world.specs.Entries.{TakesMore, act_in, entries_of, made_in, slots_made, spent, stops_at_act, turns_of}
use Rattle.obq_world.specs.Going.{AskedCases, ComesOf, GoesOn, IsNoted, MayGo}
use Rattle.obq_world.specs.Meaning.{IsRunning, Meaning, Runs, StopsAs}
use Rattle.obq_world.specs.State.{State, WorldStands, used_in}
use Rattle.obq_world.specs.declared.going.Gone.{Gone}
use Rattle.obq_world.specs.declared.machine.Made.{Made}
use Rattle.obq_world.specs.declared.machine.Slice.{Slice}
use Rattle.obq_world.specs.declared.machine.Stop.{Stop}
use Rattle.obq_world.specs.declared.machine.Stop.TheVariants as stop
use Rattle.obq_world.specs.declared.machine.Tried.{Tried}
use Rattle.obq_world.specs.declared.machine.Tried.TheVariants as tried
use Rattle.obq_world.specs.declared.slots.ThreadSlot.{ThreadSlot}
use Rattle.obq_world.proofs.Keeps.{acts_keep, quiet_keeps, steps_keep}
use Rattle.obq_world.proofs.May.{can_act}
use Rattle.obq_world.proofs.Plain.{no_steps, some_steps}

-- ---- windows

-- thread t's entry is replaced twice
again : {A : Type 0} (f g : ℕ → A) (t : ℕ) (x y : A) → ((u : ℕ) → g u ≡ with_at f t x u) → (u : ℕ) → with_at g t y u ≡ with_at f t y u
again f g t x y is u = by (same_or u t)
  where
    by : ((u ≡ t) ⊎ (u ≡ t → ⊥)) → with_at g t y u ≡ with_at f t y u
    by (inl p) = ap (with_at g t y) p ∙ with_at_same g t y ∙ sym (with_at_same f t y) ∙ sym (ap (with_at f t y) p)
    by (inr ne) = with_at_other g t y u ne ∙ is u ∙ with_at_other f t x u ne ∙ sym (with_at_other f t y u ne)

-- functions that are alike, with another value at one place
alike_at : {A : Type 0} (f g : ℕ → A) (k : ℕ) (z : A) → ((u : ℕ) → g u ≡ f u) → (u : ℕ) → with_at g k z u ≡ with_at f k z u
alike_at f g k z is u = by (same_or u k)
  where
    by : ((u ≡ k) ⊎ (u ≡ k → ⊥)) → with_at g k z u ≡ with_at f k z u
    by (inl p) = ap (with_at g k z) p ∙ with_at_same g k z ∙ sym (with_at_same f k z) ∙ sym (ap (with_at f k z) p)
    by (inr ne) = with_at_other g k z u ne ∙ is u ∙ sym (with_at_other f k z u ne)

own : {A : Type 0} (f : ℕ → Option A) (t : ℕ) (x : A) → f t ≡ Some x → (u : ℕ) → f u ≡ with_at f t (Some x) u
own f t x e u = by (same_or u t)
  where
    by : ((u ≡ t) ⊎ (u ≡ t → ⊥)) → f u ≡ with_at f t (Some x) u
    by (inl p) = ap f p ∙ e ∙ sym (ap (with_at f t (Some x)) p ∙ with_at_same f t (Some x))
    by (inr ne) = sym (with_at_other f t (Some x) u ne)

-- ---- sites in which only thread t's window is another

pub stays : {C W S : Type 0} (m : Meaning C W S) (s : S) (t : ℕ) (w : W) → m.windows s t ≡ Some w → Rewinds m s t w s
stays m s t w here = record { heap = λ h k. k; size = refl; windows = own (m.windows s) t w here; ended = λ v o k. k; names = λ es k. k }

window_of : {C W S : Type 0} (m : Meaning C W S) (old : S) (t : ℕ) (v : W) (mid : S) → Rewinds m old t v mid → m.windows mid t ≡ Some v
window_of m old t v mid r = r.windows t ∙ with_at_same (m.windows old) t (Some v)

twice : {C W S : Type 0} (m : Meaning C W S) (old : S) (t : ℕ) (v w : W) (mid new : S) → Rewinds m old t v mid → Rewinds m mid t w new → Rewinds m old t w new
twice m old t v w mid new a b = record {
  heap = λ h k. b.heap h (a.heap h k);
  size = b.size ∙ a.size;
  windows = λ u. b.windows u ∙ again (m.windows old) (m.windows mid) t (Some v) (Some w) a.windows u;
  ended = λ u o k. b.ended u o (a.ended u o k);
  names = λ es k. b.names es (a.names es k);
}

leaves_by : {C W S : Type 0} (m : Meaning C W S) (old mid : S) (h : Heap) (ws ws2 : ℕ → Option W) (endings : ℕ → Option Ending → Option Ending) (named : List (Bytes × Value Ref) → List (Bytes × Value Ref)) (new : S)
    → ((v : ℕ) (o : Option Ending) → m.ended old v o → m.ended mid v o) → ((es : List (Bytes × Value Ref)) → m.names old es → m.names mid es) → ((u : ℕ) → ws u ≡ ws2 u) → Leaves m mid h ws endings named new → Leaves m old h ws2 endings named new
leaves_by m old mid h ws ws2 endings named new kept exports same l = record { heap = l.heap; windows = λ u. l.windows u ∙ same u; ended = λ v o k. l.ended v o (kept v o k); names = λ es k. l.names es (exports es k) }

-- an act behind such a change is an act of the site before it
did_behind : {C W S : Type 0} (m : Meaning C W S) (old mid : S) (t cells threads : ℕ) (v : W) (h : Heap) (depth : ℕ) (self : Self Ref) (u : Term Ref) (a : Act) (made : Made) (new : S)
    → Rewinds m old t v mid → DidAct m mid t cells threads h depth self u a made new → DidAct m old t cells threads h depth self u a made new
did_behind m old mid t cells threads v h depth self u a made new r (DoesRow op hs kind loc h2 x w _ needs did reads l) =
    DoesRow op hs kind loc h2 x w new needs did reads (leaves_by m old mid h2 _ _ _ _ new r.ended r.names (again (m.windows old) (m.windows mid) t (Some v) (Some w) r.windows) l)
did_behind m old mid t cells threads v h depth self u a made new r (MakesCell op hs kind loc h2 x w _ needs did reads l) =
    MakesCell op hs kind loc h2 x w new needs did reads (leaves_by m old mid h2 _ _ _ _ new r.ended r.names (again (m.windows old) (m.windows mid) t (Some v) (Some w) r.windows) l)
did_behind m old mid t cells threads v h depth self u a made new r (ForksOff value hs w begun _ needs room reads begins l) =
    ForksOff value hs w begun new needs room reads begins (leaves_by m old mid h _ _ _ _ new r.ended r.names
    (alike_at (with_at (m.windows old) t (Some w)) (with_at (m.windows mid) t (Some w)) threads (Some begun) (again (m.windows old) (m.windows mid) t (Some v) (Some w) r.windows)) l)
did_behind m old mid t cells threads v h depth self u a made new r (HasTooMany value hs w _ needs room reads l) =
    HasTooMany value hs w new needs room reads (leaves_by m old mid h _ _ _ _ new r.ended r.names (again (m.windows old) (m.windows mid) t (Some v) (Some w) r.windows) l)
did_behind m old mid t cells threads v h depth self u a made new r (JoinsWith k hs w _ needs ended reads l) =
    JoinsWith k hs w new needs (λ none. ended (r.ended k None none)) (λ e kept. reads e (r.ended k (Some e) kept))
    (leaves_by m old mid h _ _ _ _ new r.ended r.names (again (m.windows old) (m.windows mid) t (Some v) (Some w) r.windows) l)
did_behind m old mid t cells threads v h depth self u a made new r (EndsHere e _ ends l) =
    EndsHere e new ends (leaves_by m old mid h _ _ _ _ new r.ended r.names (again (m.windows old) (m.windows mid) t (Some v) None r.windows) l)
did_behind m old mid t cells threads v h depth self u a made new r (Exports name value hs w _ needs reads l) =
    Exports name value hs w new needs reads (leaves_by m old mid h _ _ _ _ new r.ended r.names (again (m.windows old) (m.windows mid) t (Some v) (Some w) r.windows) l)
did_behind m old mid t cells threads v h depth self u a made new r (Imports name engine hs w _ needs reads l) =
    Imports name engine hs w new needs (λ es k. reads es (r.names es k)) (leaves_by m old mid h _ _ _ _ new r.ended r.names (again (m.windows old) (m.windows mid) t (Some v) (Some w) r.windows) l)

did_in_behind : {C W S : Type 0} (m : Meaning C W S) (old mid : S) (t cells threads : ℕ) (v w : W) (a : Act) (made : Made) (new : S)
    → Rewinds m old t v mid → DidIn m mid t w cells threads a made new → DidIn m old t w cells threads a made new
did_in_behind m old mid t cells threads v w a made new r d h depth self u heap reads = did_behind m old mid t cells threads v h depth self u a made new r (d h depth self u (r.heap h heap) reads)

-- ---- what a site may rely on there

pub due_there : {C W S : Type 0} (m : Meaning C W S) (old : S) (t most left : ℕ) (slice : Slice) (mid : S) (wanted : Bool) → IsRunOn m old t most slice mid → wanted ≡ (nat_lt slice.steps left && stops_at_act slice.stop)
    → IsTrue wanted → (w : W) → m.windows mid t ≡ Some w → IsDue m w
due_there m old t most left slice mid wanted r is told w here =
    let v = window_of m old t r.window mid r.rewinds in
    let same : r.window ≡ w = cc (v, here) in
    subst (λ k. IsDue m k) same (due_by slice.stop r.stops (both (nat_lt slice.steps left) (stops_at_act slice.stop) (sym is ∙ told)).1)
  where
    both : (a b : Bool) → IsTrue (a && b) → (a ≡ true) × (b ≡ true)
    both true true h = (refl, refl)
    both a b h = absurd (cc h)

    due_by : (why : Stop) → StopsAs m why r.window → stops_at_act why ≡ true → IsDue m r.window
    due_by stop.Most says told = absurd (cc told)
    due_by stop.Needs says told = λ depth self u reads. inl (says depth self u reads)
    due_by stop.Bottom says told = λ depth self u reads. inr (says depth self u reads)

pub can_there : {C W S : Type 0} (m : Meaning C W S) (blocks : List BlockTree) (old : S) (t most left threads : ℕ) (slice : Slice) (mid : S) → IsRunning m old t → MayGo m blocks threads old t left → IsRunOn m old t most slice mid → most ≤ left
    → (w : W) → m.windows mid t ≡ Some w → CanAct m blocks threads mid t w
can_there m blocks old t most left threads slice mid running may r le w here =
    let v = window_of m old t r.window mid r.rewinds in
    let same : r.window ≡ w = cc (v, here) in
    let few = r.few in
    let c = may slice.steps running.0 r.window running.1 (r.runs running.0 running.1) (omega (arith, few, le)) in
    subst (λ k. CanAct m blocks threads mid t k) same (record { here = c.here; all = c.all; depth = c.depth; self = c.self; term = c.term; heap = r.rewinds.heap c.here c.heap; same = c.same; reads = c.reads; may = c.may })

pub runs_there : {C W S : Type 0} (m : Meaning C W S) (old : S) (t most : ℕ) (slice : Slice) (mid : S) → IsRunOn m old t most slice mid → IsRunning m mid t
runs_there m old t most slice mid r = (r.window, window_of m old t r.window mid r.rewinds)

pub room_there : {C W S : Type 0} (m : Meaning C W S) (old : S) (t most cells : ℕ) (slice : Slice) (mid : S) → IsRunOn m old t most slice mid → m.size old ≤ cells → m.size mid ≤ cells
room_there m old t most cells slice mid r le = subst (λ k. k ≤ cells) (sym r.rewinds.size) le

-- ---- what comes of it

told_left : (n left : ℕ) (b : Bool) → IsTrue (nat_lt n left && b) → n < left
told_left n left b told = let e = (both (nat_lt n left) b told).0 in grind (arith, nat_tests)
  where
    both : (a b : Bool) → IsTrue (a && b) → (a ≡ true) × (b ≡ true)
    both true true h = (refl, refl)
    both a b h = absurd (cc h)

pub goes_by : {C W S : Type 0} (m : Meaning C W S) (old : S) (t most left cells threads : ℕ) (slice : Slice) (mid : S) (wanted : Bool) (tr : Tried) (new : S)
    → IsRunOn m old t most slice mid → most ≤ left → wanted ≡ (nat_lt slice.steps left && stops_at_act slice.stop) → AskedCases m mid t cells threads wanted tr new
    → GoesOn m old t left cells threads (record { steps = slice.steps; stop = slice.stop; tried = tr }) new
goes_by m old t most left cells threads slice mid wanted tr new r le is asked =
    let few = r.few in
    record { few = omega (arith, few, le); window = r.window; runs = r.runs; comes = by tr asked }
  where
    by : (z : Tried) → AskedCases m mid t cells threads wanted z new → ComesOf m old t r.window cells threads (nat_lt slice.steps left && stops_at_act slice.stop) z new
    by (tried.Did a made) h =
        let v = window_of m old t r.window mid r.rewinds in
        (sym is ∙ h.0, did_in_behind m old mid t cells threads r.window r.window a made new r.rewinds (h.1 r.window v), h.2)
    by tried.Waits h =
        let v = window_of m old t r.window mid r.rewinds in
        (twice m old t r.window r.window mid new r.rewinds (h.0 r.window v), λ told. h.1 (is ∙ told))

-- ---- the World behind it

pub there : {C W S : Type 0} (m : Meaning C W S) (blocks : List BlockTree) (turns : ℕ) (w : State S) (t : ℕ) (x : ThreadSlot) → WorldStands m blocks turns w → t < length w.slots → x ≡ get_or w.slots t x → (slice_get w.slots t ≡ Some x) × (x.used ≤ turns)
there m blocks turns w t x inv lt is = (slice_get-get_or w.slots t x lt ∙ ap Some (sym is), subst (λ (y : ThreadSlot). y.used ≤ turns) (sym is) (inv.within t x lt))

pub may_go : {C W S : Type 0} (m : Meaning C W S) (blocks : List BlockTree) (turns : ℕ) (w : State S) (t : ℕ) (x : ThreadSlot) → WorldStands m blocks turns w → slice_get w.slots t ≡ Some x → x.used ≤ turns
    → MayGo m blocks (length w.slots) w.site t (turns - x.used)
may_go m blocks turns w t x inv at own n start window here runs le = can_act m blocks turns w t n x start window inv here runs at (omega (arith, own, le))

steps_or_none : {C W S : Type 0} (m : Meaning C W S) (blocks : List BlockTree) (turns : ℕ) (w : State S) (t n : ℕ) (x : ThreadSlot) (start window : W) (site : S)
    → WorldStands m blocks turns w → m.windows w.site t ≡ Some start → Runs m start n window → slice_get w.slots t ≡ Some x → x.used + n ≤ turns → Rewinds m w.site t window site
    → WorldStands m blocks turns (record { site = site; slots = slice_set w.slots t (spent x n); cells = w.cells; journal = w.journal ++ entries_of t n None })
steps_or_none m blocks turns w t n x start window site inv here runs at fits r = by (same_or n 0)
  where
    by : ((n ≡ 0) ⊎ (n ≡ 0 → ⊥)) → WorldStands m blocks turns (record { site = site; slots = slice_set w.slots t (spent x n); cells = w.cells; journal = w.journal ++ entries_of t n None })
    by (inl none) =
        let runs0 : Runs m start 0 window = subst (λ k. Runs m start k window) none runs in
        rw (← no_steps w.journal t n none, none) (quiet_keeps m blocks turns w t x start window site inv here runs0 at r)
    by (inr some) = rw (← some_steps t n some) (steps_keep m blocks turns w t n x start window site inv here runs at fits r)

pub gone_stands : {C W S : Type 0} (m : Meaning C W S) (blocks : List BlockTree) (turns : ℕ) (w : State S) (t : ℕ) (x : ThreadSlot) (gone : Gone) (site : S) (slots2 : List ThreadSlot) (journal2 : List Entry) (count : ℕ)
    → WorldStands m blocks turns w → IsRunning m w.site t → slice_get w.slots t ≡ Some x → x.used ≤ turns → GoesOn m w.site t (turns - x.used) w.cells (length w.slots) gone site → IsNoted w.slots w.journal w.cells t gone slots2 journal2 count
    → WorldStands m blocks turns (record { site = site; slots = slots2; cells = count; journal = journal2 })
gone_stands m blocks turns w t x gone site slots2 journal2 count inv running at own_turns goes noted =
    by gone.tried goes.comes (noted.slots_are x at) noted.journal_is noted.count_is
  where
    by : (z : Tried) → ComesOf m w.site t goes.window w.cells (length w.slots) (nat_lt gone.steps (turns - x.used) && stops_at_act gone.stop) z site → slots2 ≡ slice_set w.slots t (spent x (gone.steps + act_turns (act_in z))) ++ slots_made (made_in z)
        → journal2 ≡ w.journal ++ entries_of t gone.steps (act_in z) → count ≡ cells_made (made_in z) w.cells → WorldStands m blocks turns (record { site = site; slots = slots2; cells = count; journal = journal2 })
    by (tried.Did a made) h sl jn ct =
        let less = told_left gone.steps (turns - x.used) (stops_at_act gone.stop) h.0 in
        rw (sl, jn, ct) (acts_keep m blocks turns w t gone.steps x running.0 goes.window a made site inv running.1 (goes.runs running.0 running.1) at (omega (arith, less, own_turns)) h.1 h.2)
    by tried.Waits h sl jn ct =
        let few = goes.few in
        let same : gone.steps + 0 ≡ gone.steps = omega arith in
        let e : slots2 ≡ slice_set w.slots t (spent x gone.steps) = sl ∙ append-nil (slice_set w.slots t (spent x (gone.steps + 0))) ∙ ap (λ k. slice_set w.slots t (spent x k)) same in
        rw (e, jn, ct) (steps_or_none m blocks turns w t gone.steps x running.0 goes.window site inv running.1 (goes.runs running.0 running.1) at (omega (arith, few, own_turns)) h.0)

none_taken : (n : ℕ) (a : Option Act) → n + act_turns a ≡ 0 → (n ≡ 0) × (a ≡ None)
none_taken n None e = (omega (arith, e), refl)
none_taken n (Some a) e = absurd (omega (arith, e))

-- the journal behind what took no turn, and behind what took some
pub same_journal : (journal : List Entry) (t : ℕ) (gone : Gone) → turns_of gone ≡ 0 → journal ≡ journal ++ entries_of t gone.steps (act_in gone.tried)
same_journal journal t gone none =
    let e = none_taken gone.steps (act_in gone.tried) none in
    rw e.1 (no_steps journal t gone.steps e.0)

pub stays_noted : (slots slots2 : List ThreadSlot) (journal journal2 : List Entry) (cells t count : ℕ) (gone : Gone) → IsNoted slots journal cells t gone slots2 journal2 count → turns_of gone ≡ 0 → journal2 ≡ journal
stays_noted slots slots2 journal journal2 cells t count gone noted none = noted.journal_is ∙ sym (same_journal journal t gone none)

pub one_entry : (t n : ℕ) (a : Option Act) → (n + act_turns a ≡ 0 → ⊥) → entry_of t n a ∷ [] ≡ entries_of t n a
one_entry t n (Some a) some = refl
one_entry t n None some = some_steps t n (λ none. some (omega (arith, none)))

pub takes_more : (slots slots2 : List ThreadSlot) (journal journal2 : List Entry) (cells t count : ℕ) (gone : Gone) → IsNoted slots journal cells t gone slots2 journal2 count → (turns_of gone ≡ 0 → ⊥) → TakesMore journal journal2
takes_more slots slots2 journal journal2 cells t count gone noted some =
    (entry_of t gone.steps (act_in gone.tried), noted.journal_is ∙ ap (λ (es : List Entry). journal ++ es) (sym (one_entry t gone.steps (act_in gone.tried) some)), some)

-- so it is with the limit and the number of threads as the calls tell them
pub stands_behind : {C W S : Type 0} (m : Meaning C W S) (blocks : List BlockTree) (turns limit threads : ℕ) (w : State S) (t : ℕ) (x : ThreadSlot) (gone : Gone) (site : S) (slots2 : List ThreadSlot) (journal2 : List Entry) (count : ℕ)
    → WorldStands m blocks turns w → limit ≡ turns → threads ≡ length w.slots → t < length w.slots → x ≡ get_or w.slots t x → IsRunning m w.site t → GoesOn m w.site t (limit - x.used) w.cells threads gone site → IsNoted w.slots w.journal w.cells t gone slots2 journal2 count
    → WorldStands m blocks turns (record { site = site; slots = slots2; cells = count; journal = journal2 })
stands_behind m blocks turns limit threads w t x gone site slots2 journal2 count inv same many lt is running goes noted =
    let at = there m blocks turns w t x inv lt is in
    gone_stands m blocks turns w t x gone site slots2 journal2 count inv running at.0 at.1 (rw (same, many) at goes) noted

pub may_go_there : {C W S : Type 0} (m : Meaning C W S) (blocks : List BlockTree) (turns limit threads : ℕ) (w : State S) (t : ℕ) (x : ThreadSlot)
    → WorldStands m blocks turns w → limit ≡ turns → threads ≡ length w.slots → t < length w.slots → x ≡ get_or w.slots t x → MayGo m blocks threads w.site t (limit - x.used)
may_go_there m blocks turns limit threads w t x inv same many lt is =
    let at = there m blocks turns w t x inv lt is in
    rw (same, many) (may_go m blocks turns w t x inv at.0 at.1)

pub steps_fit : {C W S : Type 0} (m : Meaning C W S) (blocks : List BlockTree) (turns limit cells threads : ℕ) (w : State S) (t : ℕ) (x : ThreadSlot) (gone : Gone) (site : S)
    → WorldStands m blocks turns w → limit ≡ turns → t < length w.slots → x ≡ get_or w.slots t x → GoesOn m w.site t (limit - x.used) cells threads gone site → used_in (slice_get w.slots t) + (gone.steps + 1) < 2 ^ 32
steps_fit m blocks turns limit cells threads w t x gone site inv same lt is goes =
    let at = there m blocks turns w t x inv lt is in
    let used : used_in (slice_get w.slots t) ≡ x.used = ap used_in at.0 in
    let own = at.1 in
    let few = goes.few in
    let most : turns ≤ 1000000 = inv.limit in
    omega (arith, used, own, few, same, most)

-- ---- a run

-- each entry takes a turn, the new one too
pub turns_more : (old new : List Entry) → TakeTurns old → TakesMore old new → TakeTurns new
turns_more old new before more = subst TakeTurns (sym more.1) (longer old before)
  where
    longer : (es : List Entry) → TakeTurns es → TakeTurns (es ++ more.0 ∷ [])
    longer [] h = (more.2, tt)
    longer (e ∷ es) h = (h.0, longer es h.1)

-- each entry takes a turn behind what a thread did, too
pub turns_noted : (slots slots2 : List ThreadSlot) (journal journal2 : List Entry) (cells t count : ℕ) (gone : Gone) → TakeTurns journal → IsNoted slots journal cells t gone slots2 journal2 count → TakeTurns journal2
turns_noted slots slots2 journal journal2 cells t count gone before noted = by (same_or (turns_of gone) 0)
  where
    by : ((turns_of gone ≡ 0) ⊎ (turns_of gone ≡ 0 → ⊥)) → TakeTurns journal2
    by (inl none) = subst TakeTurns (same_journal journal t gone none ∙ sym noted.journal_is) before
    by (inr some) = turns_more journal journal2 before (takes_more slots slots2 journal journal2 cells t count gone noted some)
