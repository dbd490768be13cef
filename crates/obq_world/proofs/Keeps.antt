-- What a World stands for behind each of its events.
use Rattle.std.specs.Prelude.{All, Bool, List, None, Option, Some, [], if◌then◌else◌, length, option_map, refl, slice_get, slice_set, suc, true, false, zero, ℕ, ◌+◌, ◌++◌, ◌<◌, ◌==◌, ◌∷◌, ◌≡◌, ◌≤◌, ◌⊎◌, nat_le}
use Rattle.std.proofs.Common.{ap, arith, eqb, get_or, inl, inr, subst, sym, ◌∙◌}
use Rattle.std.proofs.lemmas.List.{append-nil}
use Rattle.std.proofs.lemmas.List.Elements.{All-append, All-set}
use Rattle.std.proofs.lemmas.Option.{get_or_from_slice_get, slice_get-get_or}
use Rattle.obq_base.specs.Tree.{BlockTree}
use Rattle.obq_base.specs.declared.acts.Act.{Act}
use Rattle.obq_base.specs.declared.acts.ActKind.{ActKind}
use Rattle.obq_base.specs.declared.acts.Entry.{Entry}
use Rattle.obq_base.specs.declared.limits.TheConstants.{THREAD_LIMIT, TURN_LIMIT}
use Rattle.obq_laws.specs.Determinism.{entry_of}
use Rattle.obq_model.specs.Config.{act}
use Rattle.obq_model.specs.Exceptions.{fork_limit}
use Rattle.obq_model.specs.Step.{Export, Import, no_self, plug, self_at}
use Rattle.obq_model.specs.Store.{export}
use Rattle.obq_model.specs.Terms.{Bytes, Const, Okay, Term, Thread, Value}
use Rattle.obq_model.proofs.Slices.{get_below, push_length, set_length, set_other, set_same}
use Rattle.obq_stands.specs.Events.{Step, calling, first_cell, first_running, first_slot, moved}
use Rattle.obq_stands.specs.Sites.{Did, ExportedHere, ImportedHere, Rest, Site, assembled, runs_at}
use Rattle.obq_stands.specs.Stands.{after_steps}
use Rattle.obq_stands.specs.World.{Ending, Heap, Parked, Ref, Slot, ending_term, with_at}
use Rattle.obq_stands.proofs.Assembled.{site_acts, site_ends, site_fork_refused, site_forks, site_joins, site_names, site_steps}
use Rattle.obq_stands.proofs.Kept.{step_keeps}
use Rattle.obq_stands.proofs.Opening.{begins_by}
use Rattle.obq_stands.proofs.Stays.{writers_begin, writers_kept}
use Rattle.obq_stands.proofs.Update.{same_or, test_no, test_same, with_at_other, with_at_same}
use Rattle.obq_world.specs.Acts.{BeginsWith, DidAct, DidIn, DoesRow, EndsHere, Exports, ForksOff, HasTooMany, Imports, JoinsWith, Leaves, MakesCell, Rewinds, cells_made, same_endings, same_names}
use Rattle.obq_world.specs.Entries.{new_slot, slots_made, spent}
use Rattle.obq_world.specs.Meaning.{Meaning, Opens, Runs}
use Rattle.obq_world.specs.State.{SegmentReads, SiteReads, State, ThreadReads, ThreadsRead, WorldStands, used_in}
use Rattle.obq_world.specs.declared.machine.Made.{Made}
use Rattle.obq_world.specs.declared.slots.ThreadSlot.{ThreadSlot}
use Rattle.obq_world.proofs.Reading.{adds, moves, reads_by, running}

-- ---- the start

abbrev nothing : Option Slot
nothing = None

either_none : (b : Bool) → (if b then nothing else None) ≡ None
either_none true = refl
either_none false = refl

none_behind : (x : Term Ref) (t : ℕ) → (t ≡ 0 → ⊥) → option_map first_slot (slice_get (x ∷ []) t) ≡ None
none_behind x zero ne = absurd (ne refl)
none_behind x (suc t) ne = refl

elsewhere : (x : Term Ref) (s t : ℕ) → (s ≡ 0 → ⊥) → first_running (x ∷ []) s t ≡ None
elsewhere x s t ne = by_test (eqb s t) refl
  where
    by_test : (b : Bool) → eqb s t ≡ b → (if b then option_map first_slot (slice_get (x ∷ []) t) else None) ≡ None
    by_test true e = none_behind x t (λ k. ne (test_same s t e ∙ k))
    by_test false e = refl

abbrev first_site : Term Ref → ℕ → Site
first_site x s = record { heap = first_cell 1; running = first_running (x ∷ []) s; pending = λ _. None; waiting = λ _. None; ended = λ _. None }

abbrev first_rest : Rest
first_rest = record { count = 1; names = []; threads = 1; lines = λ _ _. []; journal = [] }

first_threads : {C W S : Type 0} (m : Meaning C W S) (x : Term Ref) (w : W) → m.reads w 0 no_self x → ThreadsRead m (new_slot ∷ []) (λ t. if t == 0 then Some w else None) (first_running (x ∷ []) 0)
first_threads m x w reads zero = record { reads = reads; same = refl; bottom = refl }
first_threads m x w reads (suc t) = rw (test_no (suc t) 0 (λ e. cc e), test_no 0 (suc t) (λ e. cc e)) tt

pub begins : {C W S : Type 0} (m : Meaning C W S) (blocks : List BlockTree) (turns : ℕ) (w : W) (site : S) → length blocks ≡ 1 → turns ≤ TURN_LIMIT → Opens m blocks 0 w → BeginsWith m w site
    → WorldStands m blocks turns (record { site = site; slots = new_slot ∷ []; cells = 1; journal = [] })
begins m [] turns w site one limit opens b = absurd (cc one)
begins m (x ∷ y ∷ ys) turns w site one limit opens b = absurd (omega (arith, one))
begins m (tree ∷ []) turns w site one limit opens b =
    let o = opens tree refl in
    record {
      sites = first_site o.0;
      rest = first_rest;
      stands = begins_by (tree ∷ []) turns (o.0 ∷ []) (o.2, tt);
      reads = record { heap = b.heap; threads = reads_by m (new_slot ∷ []) (λ t. if t == 0 then Some w else None) (m.windows site) (first_running (o.0 ∷ []) 0) (first_running (o.0 ∷ []) 0) b.windows (λ u. refl) (first_threads m o.0 w o.1); ended = b.ended; names = b.names };
      alone = record { runs = elsewhere o.0; ends = λ s t ne. refl; waits = λ s t. refl; lines = λ a b. refl };
      writers = writers_begin (o.0 ∷ []);
      one = one;
      limit = limit;
      journal = refl;
      cells = refl;
      size = b.size;
      threads = refl;
      within = λ k d lt. within k lt d;
    }
  where
    within : (k : ℕ) → k < 1 → (d : ThreadSlot) → (get_or (new_slot ∷ []) k d).used ≤ turns
    within zero lt d = omega arith
    within (suc k) lt d = absurd (omega arith)

-- ---- one site changes

abbrev with_site : {S : Type 0} → State S → S → List ThreadSlot → ℕ → List Entry → State S
with_site w site slots cells entries = record { site = site; slots = slots; cells = cells; journal = w.journal ++ entries }

-- by an event of the World of all sites
wraps : {C W S : Type 0} (m : Meaning C W S) (blocks : List BlockTree) (turns : ℕ) (w : State S) (inv : WorldStands m blocks turns w) (z : Site) (names : List (Bytes × Value Ref)) (site : S) (slots : List ThreadSlot) (count threads cells : ℕ) (entries : List Entry)
    → Step turns (assembled inv.sites inv.rest) (assembled (with_at inv.sites 0 z) (record inv.rest { count = count; names = names; threads = threads; journal = inv.rest.journal ++ entries }))
    → SiteReads m z names site slots → z.waiting ≡ (inv.sites 0).waiting → count ≡ cells → m.size site ≤ cells → threads ≡ length slots → All (λ x. x.used ≤ turns) slots
    → WorldStands m blocks turns (with_site w site slots cells entries)
wraps m blocks turns w inv z names site slots count threads cells entries step reads waiting counted size there within =
    record {
      sites = with_at inv.sites 0 z;
      rest = record inv.rest { count = count; names = names; threads = threads; journal = inv.rest.journal ++ entries };
      stands = step_keeps blocks turns (assembled inv.sites inv.rest) _ inv.stands step;
      reads = reads;
      alone =
          record {
            runs = λ s t ne. ap (λ (y : Site). y.running t) (with_at_other inv.sites 0 z s ne) ∙ inv.alone.runs s t ne;
            ends = λ s t ne. ap (λ (y : Site). y.ended t) (with_at_other inv.sites 0 z s ne) ∙ inv.alone.ends s t ne;
            waits = λ s t. waits s t (same_or s 0);
            lines = inv.alone.lines;
          };
      writers = writers_kept turns 1 (assembled inv.sites inv.rest) _ inv.writers step;
      one = inv.one;
      limit = inv.limit;
      journal = ap (λ j. j ++ entries) inv.journal;
      cells = counted;
      size = size;
      threads = there;
      within = within;
    }
  where
    waits : (s t : ℕ) → ((s ≡ 0) ⊎ (s ≡ 0 → ⊥)) → (with_at inv.sites 0 z s).waiting t ≡ None
    waits s t (inl p) = ap (λ j. (with_at inv.sites 0 z j).waiting t) p ∙ ap (λ (f : ℕ → Option Parked). f t) waiting ∙ inv.alone.waits 0 t
    waits s t (inr ne) = ap (λ (y : Site). y.waiting t) (with_at_other inv.sites 0 z s ne) ∙ inv.alone.waits s t

-- thread t with the slot x stands n pure steps ahead, in this window
pub record Ahead {C W S : Type 0} (m : Meaning C W S) (blocks : List BlockTree) (turns : ℕ) (w : State S) (t n : ℕ) (x : ThreadSlot) (window : W) : Type 0 where
  pub inv : WorldStands m blocks turns w
  pub slot : Slot
  pub term : Term Ref
  pub here : (inv.sites 0).running t ≡ Some slot
  pub used : slot.used ≡ x.used
  pub lt : t < length w.slots
  pub bottom : slot.segment.answers ≡ None
  pub steps : after_steps slot.segment.depth slot.segment.self n slot.segment.window ≡ Some term
  pub reads : m.reads window slot.segment.depth slot.segment.self term

pub ahead : {C W S : Type 0} (m : Meaning C W S) (blocks : List BlockTree) (turns : ℕ) (w : State S) (t n : ℕ) (x : ThreadSlot) (start window : W)
    → WorldStands m blocks turns w → m.windows w.site t ≡ Some start → Runs m start n window → slice_get w.slots t ≡ Some x → Ahead m blocks turns w t n x window
ahead m blocks turns w t n x start window inv here runs at =
    let r = running m (used_in (slice_get w.slots t)) (m.windows w.site t) ((inv.sites 0).running t) start (inv.reads.threads t) here in
    let ran = runs r.slot.segment.depth r.slot.segment.self r.slot.segment.window r.segment.reads in
    record { inv = inv; slot = r.slot; term = ran.0; here = r.here; used = r.segment.same ∙ ap used_in at; lt = get_below w.slots t x at; bottom = r.segment.bottom; steps = ran.1; reads = ran.2 }

-- all slots but that of thread t stay, which has used no more turns than there are
still_within : (turns : ℕ) (slots : List ThreadSlot) (t : ℕ) (y : ThreadSlot) → y.used ≤ turns → All (λ x. x.used ≤ turns) slots → All (λ x. x.used ≤ turns) (slice_set slots t y)
still_within turns slots t y le h = All-set (λ (v : ThreadSlot). v.used ≤ turns) slots t y le h

-- n pure steps
pub steps_keep : {C W S : Type 0} (m : Meaning C W S) (blocks : List BlockTree) (turns : ℕ) (w : State S) (t n : ℕ) (x : ThreadSlot) (start window : W) (site : S)
    → WorldStands m blocks turns w → m.windows w.site t ≡ Some start → Runs m start n window → slice_get w.slots t ≡ Some x → x.used + n ≤ turns → Rewinds m w.site t window site
    → WorldStands m blocks turns (with_site w site (slice_set w.slots t (spent x n)) w.cells (entry_of t n None ∷ []))
steps_keep m blocks turns w t n x start window site inv here runs at fits r =
    let a = ahead m blocks turns w t n x start window inv here runs at in
    let i = a.inv in
    let slot2 : Slot = moved a.slot n a.term in
    let z : Site = runs_at i.sites 0 t (Some slot2) in
    let used : a.slot.used ≡ x.used = a.used in
    let segment : SegmentReads m (x.used + n) window slot2 = record { reads = a.reads; same = ap (λ k. k + n) used; bottom = a.bottom } in
    let step = (site_steps turns i.sites i.rest 0 t n a.slot a.term a.here (omega (arith, used, fits)) a.steps).0 in
    wraps m blocks turns w i z i.rest.names site (slice_set w.slots t (spent x n)) i.rest.count i.rest.threads w.cells (entry_of t n None ∷ []) step
    (record {
      heap = r.heap (i.sites 0).heap i.reads.heap;
      threads = reads_by m (slice_set w.slots t (spent x n)) (with_at (m.windows w.site) t (Some window)) (m.windows site) (with_at (i.sites 0).running t (Some slot2)) z.running r.windows (λ u. refl)
          (moves m w.slots (m.windows w.site) (i.sites 0).running t (spent x n) (Some window) (Some slot2) i.reads.threads a.lt segment);
      ended = λ v. r.ended v ((i.sites 0).ended v) (i.reads.ended v);
      names = r.names i.rest.names i.reads.names;
    })
    refl i.cells (subst (λ k. k ≤ w.cells) (sym r.size) i.size) (i.threads ∙ sym (set_length w.slots t (spent x n))) (still_within turns w.slots t (spent x n) fits i.within)

-- no step: the window is another that reads back as the same
pub quiet_keeps : {C W S : Type 0} (m : Meaning C W S) (blocks : List BlockTree) (turns : ℕ) (w : State S) (t : ℕ) (x : ThreadSlot) (start window : W) (site : S)
    → WorldStands m blocks turns w → m.windows w.site t ≡ Some start → Runs m start 0 window → slice_get w.slots t ≡ Some x → Rewinds m w.site t window site
    → WorldStands m blocks turns (record w { site = site; slots = slice_set w.slots t (spent x 0) })
quiet_keeps m blocks turns w t x start window site inv here runs at r =
    let a = ahead m blocks turns w t 0 x start window inv here runs at in
    let i = a.inv in
    let same : a.slot.segment.window ≡ a.term = cc a.steps in
    let segment : SegmentReads m (x.used + 0) window a.slot =
    record { reads = subst (λ u. m.reads window a.slot.segment.depth a.slot.segment.self u) (sym same) a.reads; same = let u = a.used in omega (arith, u); bottom = a.bottom } in
    let own : x.used ≤ turns = subst (λ (y : ThreadSlot). y.used ≤ turns) (get_or_from_slice_get w.slots t x x at) (i.within t x a.lt) in
    record {
      sites = i.sites;
      rest = i.rest;
      stands = i.stands;
      reads =
          record {
            heap = r.heap (i.sites 0).heap i.reads.heap;
            threads = reads_by m (slice_set w.slots t (spent x 0)) (with_at (m.windows w.site) t (Some window)) (m.windows site) (with_at (i.sites 0).running t (Some a.slot)) (i.sites 0).running r.windows (λ u. own_again (i.sites 0).running t a.slot a.here u (same_or u t))
                (moves m w.slots (m.windows w.site) (i.sites 0).running t (spent x 0) (Some window) (Some a.slot) i.reads.threads a.lt segment);
            ended = λ v. r.ended v ((i.sites 0).ended v) (i.reads.ended v);
            names = r.names i.rest.names i.reads.names;
          };
      alone = i.alone;
      writers = i.writers;
      one = i.one;
      limit = i.limit;
      journal = i.journal;
      cells = i.cells;
      size = subst (λ k. k ≤ w.cells) (sym r.size) i.size;
      threads = i.threads ∙ sym (set_length w.slots t (spent x 0));
      within = still_within turns w.slots t (spent x 0) (omega (arith, own)) i.within;
    }
  where
    own_again : (f : ℕ → Option Slot) (t : ℕ) (slot : Slot) → f t ≡ Some slot → (u : ℕ) → ((u ≡ t) ⊎ (u ≡ t → ⊥)) → f u ≡ with_at f t (Some slot) u
    own_again f t slot e u (inl p) = ap f p ∙ e ∙ sym (ap (with_at f t (Some slot)) p ∙ with_at_same f t (Some slot))
    own_again f t slot e u (inr ne) = sym (with_at_other f t (Some slot) u ne)

-- ---- acts

abbrev acted_state : {S : Type 0} → State S → ℕ → ℕ → ThreadSlot → Act → Made → S → State S
acted_state w t n x a made site = with_site w site (slice_set w.slots t (spent x (n + 1)) ++ slots_made made) (cells_made made w.cells) (entry_of t n (Some a) ∷ [])

no_more : {C W S : Type 0} (m : Meaning C W S) (blocks : List BlockTree) (turns : ℕ) (w : State S) (site : S) (slots : List ThreadSlot) (cells : ℕ) (es : List Entry)
    → WorldStands m blocks turns (with_site w site slots cells es) → WorldStands m blocks turns (with_site w site (slots ++ []) cells es)
no_more m blocks turns w site slots cells es h = subst (λ l. WorldStands m blocks turns (with_site w site l cells es)) (sym (append-nil slots)) h

-- an act by which the thread goes on with another term
goes_on : {C W S : Type 0} (m : Meaning C W S) (blocks : List BlockTree) (turns : ℕ) (w : State S) (t n : ℕ) (x : ThreadSlot) (window w2 : W) (a : Ahead m blocks turns w t n x window) (h : Heap) (names : List (Bytes × Value Ref)) (named : List (Bytes × Value Ref) → List (Bytes × Value Ref)) (focus : Term Ref) (count cells : ℕ) (e : Entry) (site : S)
    → x.used + n < turns
    → Step turns (assembled a.inv.sites a.inv.rest)
    (assembled (with_at a.inv.sites 0 (record (a.inv.sites 0) { heap = h; running = with_at (a.inv.sites 0).running t (Some (moved a.slot (n + 1) focus)) })) (record a.inv.rest { count = count; names = names; journal = a.inv.rest.journal ++ e ∷ [] }))
    → m.reads w2 a.slot.segment.depth a.slot.segment.self focus → Leaves m w.site h (with_at (m.windows w.site) t (Some w2)) same_endings named site → named a.inv.rest.names ≡ names → count ≡ cells → m.size site ≤ cells
    → WorldStands m blocks turns (with_site w site (slice_set w.slots t (spent x (n + 1)) ++ []) cells (e ∷ []))
goes_on m blocks turns w t n x window w2 a h names named focus count cells e site fits step reads l same counted size =
    let i = a.inv in
    let y : ThreadSlot = spent x (n + 1) in
    let slot2 : Slot = moved a.slot (n + 1) focus in
    let z : Site = record (i.sites 0) { heap = h; running = with_at (i.sites 0).running t (Some slot2) } in
    let used : a.slot.used ≡ x.used = a.used in
    let segment : SegmentReads m (x.used + (n + 1)) w2 slot2 = record { reads = reads; same = ap (λ k. k + (n + 1)) used; bottom = a.bottom } in
    no_more m blocks turns w site (slice_set w.slots t y) cells (e ∷ [])
    (wraps m blocks turns w i z names site (slice_set w.slots t y) count i.rest.threads cells (e ∷ []) step
    (record {
      heap = l.heap;
      threads = reads_by m (slice_set w.slots t y) (with_at (m.windows w.site) t (Some w2)) (m.windows site) (with_at (i.sites 0).running t (Some slot2)) z.running l.windows (λ u. refl)
          (moves m w.slots (m.windows w.site) (i.sites 0).running t y (Some w2) (Some slot2) i.reads.threads a.lt segment);
      ended = λ v. l.ended v ((i.sites 0).ended v) (i.reads.ended v);
      names = subst (m.names site) same (l.names i.rest.names i.reads.names);
    })
    refl counted size (i.threads ∙ sym (set_length w.slots t y)) (still_within turns w.slots t y (omega (arith, fits)) i.within))

-- an ending that is kept at the site
kept_ending : {C W S : Type 0} (m : Meaning C W S) (s : S) (v : ℕ) (o : Option Ending) → m.ended s v o → (m.ended s v None → ⊥) → (e : Ending) × (o ≡ Some e)
kept_ending m s v None h some = absurd (some h)
kept_ending m s v (Some e) h some = (e, refl)

within_one : (turns : ℕ) (slots : List ThreadSlot) → All (λ x. x.used ≤ turns) slots → All (λ x. x.used ≤ turns) (slots ++ new_slot ∷ [])
within_one turns slots h = All-append (λ (x : ThreadSlot). x.used ≤ turns) slots (new_slot ∷ []) h (λ k d lt. one k lt d)
  where
    one : (k : ℕ) → k < 1 → (d : ThreadSlot) → (get_or (new_slot ∷ []) k d).used ≤ turns
    one zero lt d = omega arith
    one (suc k) lt d = absurd (omega arith)

did : {C W S : Type 0} (m : Meaning C W S) (blocks : List BlockTree) (turns : ℕ) (w : State S) (t n : ℕ) (x : ThreadSlot) (window : W) (a : Ahead m blocks turns w t n x window) (b : Act) (made : Made) (site : S)
    → x.used + n < turns → m.size site ≤ cells_made made w.cells
    → DidAct m w.site t w.cells (length w.slots) (a.inv.sites 0).heap a.slot.segment.depth a.slot.segment.self a.term b made site
    → WorldStands m blocks turns (acted_state w t n x b made site)
did m blocks turns w t n x window a b made site fits size (DoesRow op hs kind loc h2 focus w2 _ needs does reads l) =
    let i = a.inv in
    let used : a.slot.used ≡ x.used = a.used in
    let does2 = subst (λ c. Did 0 (i.sites 0).heap c t (self_at a.slot.segment.self hs) op kind loc h2 c focus) (sym i.cells) does in
    goes_on m blocks turns w t n x window w2 a h2 i.rest.names same_names (plug hs focus) i.rest.count w.cells (entry_of t n (Some (act kind loc))) site fits
    (site_acts turns i.sites i.rest 0 t n a.slot a.term op hs kind loc h2 i.rest.count focus a.here (omega (arith, used, fits)) a.steps needs does2).0 reads l refl i.cells size
did m blocks turns w t n x window a b made site fits size (MakesCell op hs kind loc h2 focus w2 _ needs does reads l) =
    let i = a.inv in
    let used : a.slot.used ≡ x.used = a.used in
    let does2 = subst (λ c. Did 0 (i.sites 0).heap c t (self_at a.slot.segment.self hs) op kind loc h2 (suc c) focus) (sym i.cells) does in
    goes_on m blocks turns w t n x window w2 a h2 i.rest.names same_names (plug hs focus) (suc i.rest.count) (suc w.cells) (entry_of t n (Some (act kind loc))) site fits
    (site_acts turns i.sites i.rest 0 t n a.slot a.term op hs kind loc h2 (suc i.rest.count) focus a.here (omega (arith, used, fits)) a.steps needs does2).0 reads l refl (ap suc i.cells) size
did m blocks turns w t n x window a b made site fits size (HasTooMany v hs w2 _ needs many reads l) =
    let i = a.inv in
    let used : a.slot.used ≡ x.used = a.used in
    goes_on m blocks turns w t n x window w2 a (i.sites 0).heap i.rest.names same_names (plug hs fork_limit) i.rest.count w.cells (entry_of t n (Some (act ActKind.Fork THREAD_LIMIT))) site fits
    (site_fork_refused turns i.sites i.rest 0 t n a.slot a.term v hs a.here (omega (arith, used, fits)) a.steps needs (ap (λ k. nat_le THREAD_LIMIT k) i.threads ∙ many)).0 reads l refl i.cells size
did m blocks turns w t n x window a b made site fits size (JoinsWith v hs w2 _ needs some reads l) =
    let i = a.inv in
    let used : a.slot.used ≡ x.used = a.used in
    let kept = kept_ending m w.site v ((i.sites 0).ended v) (i.reads.ended v) some in
    let here : m.ended w.site v (Some kept.0) = subst (λ o. m.ended w.site v o) kept.1 (i.reads.ended v) in
    goes_on m blocks turns w t n x window w2 a (i.sites 0).heap i.rest.names same_names (plug hs (ending_term kept.0)) i.rest.count w.cells (entry_of t n (Some (act ActKind.Join v))) site fits
    (site_joins turns i.sites i.rest 0 t n v 0 kept.0 a.slot a.term hs a.here (omega (arith, used, fits)) a.steps needs kept.1).0 (reads kept.0 here) l refl i.cells size
did m blocks turns w t n x window a b made site fits size (EndsHere e _ over l) =
    let i = a.inv in
    let y : ThreadSlot = spent x (n + 1) in
    let used : a.slot.used ≡ x.used = a.used in
    let z : Site = record (i.sites 0) { running = with_at (i.sites 0).running t None; ended = with_at (i.sites 0).ended t (Some e) } in
    let entry : Entry = entry_of t n (Some (act ActKind.End t)) in
    no_more m blocks turns w site (slice_set w.slots t y) w.cells (entry ∷ [])
    (wraps m blocks turns w i z i.rest.names site (slice_set w.slots t y) i.rest.count i.rest.threads w.cells (entry ∷ [])
    (site_ends turns i.sites i.rest 0 t n a.slot a.term e a.here a.bottom (omega (arith, used, fits)) a.steps over).0
    (record {
      heap = l.heap;
      threads = reads_by m (slice_set w.slots t y) (with_at (m.windows w.site) t None) (m.windows site) (with_at (i.sites 0).running t None) z.running l.windows (λ u. refl)
          (moves m w.slots (m.windows w.site) (i.sites 0).running t y None None i.reads.threads a.lt tt);
      ended = λ v. l.ended v ((i.sites 0).ended v) (i.reads.ended v);
      names = l.names i.rest.names i.reads.names;
    })
    refl i.cells size (i.threads ∙ sym (set_length w.slots t y)) (still_within turns w.slots t y (omega (arith, fits)) i.within))
did {W = W} m blocks turns w t n x window a b made site fits size (ForksOff v hs w2 begun _ needs room reads begins l) =
    let i = a.inv in
    let used : a.slot.used ≡ x.used = a.used in
    let k : ℕ = length w.slots in
    let y : ThreadSlot = spent x (n + 1) in
    let slots2 : List ThreadSlot = slice_set w.slots t y in
    let long : length slots2 ≡ k = set_length w.slots t y in
    let slot2 : Slot = moved a.slot (n + 1) (plug hs (Const (Thread k))) in
    let segment : SegmentReads m (x.used + (n + 1)) w2 slot2 = record { reads = reads; same = ap (λ j. j + (n + 1)) used; bottom = a.bottom } in
    let first = moves m w.slots (m.windows w.site) (i.sites 0).running t y (Some w2) (Some slot2) i.reads.threads a.lt segment in
    let ws1 : ℕ → Option W = with_at (m.windows w.site) t (Some w2) in
    let rs1 : ℕ → Option Slot = with_at (i.sites 0).running t (Some slot2) in
    let new : SegmentReads m 0 begun (calling v) = record { reads = begins; same = refl; bottom = refl } in
    let both : ThreadsRead m (slots2 ++ new_slot ∷ []) (with_at ws1 k (Some begun)) (with_at rs1 k (Some (calling v))) =
    subst (λ j. ThreadsRead m (slots2 ++ new_slot ∷ []) (with_at ws1 j (Some begun)) (with_at rs1 j (Some (calling v)))) long (adds m slots2 ws1 rs1 (Some begun) (Some (calling v)) first new) in
    let z : Site = record (i.sites 0) { running = with_at rs1 k (Some (calling v)) } in
    let e : Entry = entry_of t n (Some (act ActKind.Fork k)) in
    let law = (site_forks turns i.sites i.rest 0 t n a.slot a.term v hs a.here (omega (arith, used, fits)) a.steps needs (ap (λ j. nat_le THREAD_LIMIT j) i.threads ∙ room)).0 in
    let law2 = subst (λ j. Step turns (assembled i.sites i.rest) (assembled (with_at i.sites 0 (record (i.sites 0) { running = with_at (with_at (i.sites 0).running t (Some (moved a.slot (n + 1) (plug hs (Const (Thread j)))))) j (Some (calling v)) }))
    (record i.rest { threads = suc j; journal = i.rest.journal ++ entry_of t n (Some (act ActKind.Fork j)) ∷ [] }))) i.threads law in
    wraps m blocks turns w i z i.rest.names site (slots2 ++ new_slot ∷ []) i.rest.count (suc k) w.cells (e ∷ []) law2
    (record { heap = l.heap; threads = reads_by m (slots2 ++ new_slot ∷ []) (with_at ws1 k (Some begun)) (m.windows site) (with_at rs1 k (Some (calling v))) z.running l.windows (λ u. refl) both; ended = λ u. l.ended u ((i.sites 0).ended u) (i.reads.ended u); names = l.names i.rest.names i.reads.names })
    refl i.cells size (ap suc (sym long) ∙ sym (push_length slots2 new_slot)) (within_one turns slots2 (still_within turns w.slots t y (omega (arith, fits)) i.within))
did m blocks turns w t n x window a b made site fits size (Exports name v hs w2 _ needs reads l) =
    let i = a.inv in
    let used : a.slot.used ≡ x.used = a.used in
    goes_on m blocks turns w t n x window w2 a (i.sites 0).heap (export name v i.rest.names) (export name v) (plug hs (Const Okay)) i.rest.count w.cells (entry_of t n (Some (act ActKind.Export 0))) site fits
    (site_names turns i.sites i.rest 0 t n a.slot a.term (Export name v) hs ActKind.Export 0 (export name v i.rest.names) (Const Okay) a.here (omega (arith, used, fits)) a.steps needs (ExportedHere name v)).0 reads l refl i.cells size
did m blocks turns w t n x window a b made site fits size (Imports name engine hs w2 _ needs reads l) =
    let i = a.inv in
    let used : a.slot.used ≡ x.used = a.used in
    let found = reads i.rest.names i.reads.names in
    goes_on m blocks turns w t n x window w2 a (i.sites 0).heap i.rest.names same_names (plug hs found.0) i.rest.count w.cells (entry_of t n (Some (act ActKind.Import 0))) site fits
    (site_names turns i.sites i.rest 0 t n a.slot a.term (Import name engine) hs ActKind.Import 0 i.rest.names found.0 a.here (omega (arith, used, fits)) a.steps needs (ImportedHere name engine ActKind.Import found.0 found.1)).0 found.2 l refl i.cells size

-- n pure steps and an act
pub acts_keep : {C W S : Type 0} (m : Meaning C W S) (blocks : List BlockTree) (turns : ℕ) (w : State S) (t n : ℕ) (x : ThreadSlot) (start window : W) (b : Act) (made : Made) (site : S)
    → WorldStands m blocks turns w → m.windows w.site t ≡ Some start → Runs m start n window → slice_get w.slots t ≡ Some x → x.used + n < turns
    → DidIn m w.site t window w.cells (length w.slots) b made site → m.size site ≤ cells_made made w.cells
    → WorldStands m blocks turns (acted_state w t n x b made site)
acts_keep m blocks turns w t n x start window b made site inv here runs at fits h size =
    let a = ahead m blocks turns w t n x start window inv here runs at in
    did m blocks turns w t n x window a b made site fits size (h (a.inv.sites 0).heap a.slot.segment.depth a.slot.segment.self a.term a.inv.reads.heap a.reads)

-- only which claims are out changes
pub claims_keep : {C W S : Type 0} (m : Meaning C W S) (blocks : List BlockTree) (turns : ℕ) (w : State S) (k : ℕ) (x y : ThreadSlot)
    → WorldStands m blocks turns w → k < length w.slots → x ≡ get_or w.slots k x → y.used ≡ x.used → WorldStands m blocks turns (record w { slots = slice_set w.slots k y })
claims_keep m blocks turns w k x y inv lt is same =
    let at : slice_get w.slots k ≡ Some x = slice_get-get_or w.slots k x lt ∙ ap Some (sym is) in
    let own : x.used ≤ turns = subst (λ (v : ThreadSlot). v.used ≤ turns) (sym is) (inv.within k x lt) in
    record {
      sites = inv.sites;
      rest = inv.rest;
      stands = inv.stands;
      reads = record { heap = inv.reads.heap; threads = λ t. subst (λ n. ThreadReads m n (m.windows w.site t) ((inv.sites 0).running t)) (kept t at (same_or t k)) (inv.reads.threads t); ended = inv.reads.ended; names = inv.reads.names };
      alone = inv.alone;
      writers = inv.writers;
      one = inv.one;
      limit = inv.limit;
      journal = inv.journal;
      cells = inv.cells;
      size = inv.size;
      threads = inv.threads ∙ sym (set_length w.slots k y);
      within = still_within turns w.slots k y (omega (arith, own, same)) inv.within;
    }
  where
    kept : (t : ℕ) → slice_get w.slots k ≡ Some x → ((t ≡ k) ⊎ (t ≡ k → ⊥)) → used_in (slice_get w.slots t) ≡ used_in (slice_get (slice_set w.slots k y) t)
    kept t at (inl p) = ap (λ j. used_in (slice_get w.slots j)) p ∙ ap used_in at ∙ sym same ∙ sym (ap used_in (ap (slice_get (slice_set w.slots k y)) p ∙ set_same w.slots k y lt))
    kept t at (inr ne) = sym (ap used_in (set_other w.slots k y t ne))
