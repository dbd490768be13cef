-- An act of a site is an act of the World.
use Rattle.std.specs.Prelude.{List, Option, Some, None, [], ◌∷◌, ◌++◌, ℕ, suc, refl, ◌+◌, ◌≡◌, ◌⊎◌}
use Rattle.std.proofs.Common.{inl, inr, ap, sym, ◌∙◌, subst}
use mathlib.Core.Path.{fun_ext}
use Rattle.obq_base.specs.declared.acts.ActKind.{ActKind}
use Rattle.obq_model.specs.Terms.{Bytes, Value, Thread, Term, Const}
use Rattle.obq_model.specs.Exceptions.{fork_limit}
use Rattle.obq_model.specs.Store.{Cell}
use Rattle.obq_model.specs.Step.{ForkOff, JoinWith, Operation, Self, plug, self_at, activations_at}
use Rattle.obq_model.specs.Config.{act}
use Rattle.obq_laws.specs.Determinism.{entry_of}
use Rattle.obq_stands.specs.World.{MayAsk, Request, Reply, wire, answer_term, with_line, park, Born, Ending, Heap, Memory, Parked, Ref, Slot, Suspended, World, at2, ending_term, with_at, with_left, with_made, with_ref}
use Rattle.obq_stands.specs.Stands.{TooMany, Does, OnCell, Makes, Retakes, Joins, Exports, Imports, Table}
use Rattle.obq_stands.specs.Events.{Step, moved, calling, with_window, answering, OffLine, OffHold, Holds, Steps, Acted, Forks, Finishes, Asks, Serves, Enters, Returns, Resumes}
use Rattle.obq_stands.specs.AtSites.{IsDoneAt, IsSited}
use Rattle.obq_stands.specs.Joined.{HasNoAct}
use Rattle.obq_stands.specs.Sites.{AtItsSite, AtNames, IsForNames, Quiet, SiteForkRefused, Site, Rest, assembled, left_at, Did, AtCell, Made, Retook, SiteActs, runs_at, SiteSteps, SiteJoins, SiteForks, SiteEnds, posted, SiteAsks, SiteServes, SiteEnters, SiteAnswers, SiteResumes, SiteHolds, SiteRetries, SiteRetriesEntering, Named, JoinedHere, ExportedHere, ImportedHere, SiteNames, SiteServesNames, SiteRetriesNames}
use Rattle.obq_stands.proofs.Update.{same_or, with_at_same, with_at_other}
use Rattle.obq_stands.proofs.Refs.{ref_or, with_ref_same, with_ref_other}
use Rattle.obq_base.specs.declared.limits.TheConstants.{THREAD_LIMIT}

-- the table of all sites
abbrev pub table_of : {S X : Type 0} → (ℕ → S) → (S → ℕ → X) → ℕ → ℕ → X
table_of sites get a u = get (sites a) u

-- a table of all sites in which one site's changes at one place
pub table_at : {S X : Type 0} (sites : ℕ → S) (get : S → ℕ → X) (s : ℕ) (site : S) (t : ℕ) (x : X) → get site ≡ with_at (get (sites s)) t x → at2 (λ a. get (sites a)) s t x ≡ table_of (with_at sites s site) get
table_at sites get s site t x e = fun_ext (λ a. fun_ext (λ u. by a u (same_or a s)))
  where
    by : (a u : ℕ) → ((a ≡ s) ⊎ (a ≡ s → ⊥)) → at2 (λ a. get (sites a)) s t x a u ≡ get (with_at sites s site a) u
    by a u (inl p) =
        ap (λ b. at2 (λ a. get (sites a)) s t x b u) p
        ∙ ap (λ g. g u) (with_at_same (λ a. get (sites a)) s (with_at (get (sites s)) t x))
        ∙ ap (λ g. g u) (sym e)
        ∙ ap (λ z. get z u) (sym (with_at_same sites s site))
        ∙ ap (λ b. get (with_at sites s site b) u) (sym p)
    by a u (inr ne) = ap (λ g. g u) (with_at_other (λ a. get (sites a)) s (with_at (get (sites s)) t x) a ne) ∙ ap (λ z. get z u) (sym (with_at_other sites s site a ne))

-- a table that a site keeps
pub table_kept : {S X : Type 0} (sites : ℕ → S) (get : S → ℕ → X) (s : ℕ) (site : S) → get site ≡ get (sites s) → table_of sites get ≡ table_of (with_at sites s site) get
table_kept sites get s site e = fun_ext (λ a. fun_ext (λ u. by a u (same_or a s)))
  where
    by : (a u : ℕ) → ((a ≡ s) ⊎ (a ≡ s → ⊥)) → get (sites a) u ≡ get (with_at sites s site a) u
    by a u (inl p) = ap (λ b. get (sites b) u) p ∙ ap (λ g. g u) (sym e) ∙ ap (λ z. get z u) (sym (with_at_same sites s site)) ∙ ap (λ b. get (with_at sites s site b) u) (sym p)
    by a u (inr ne) = ap (λ z. get z u) (sym (with_at_other sites s site a ne))

abbrev pub heap_of : (ℕ → Site) → Heap
heap_of sites r = (sites r.site).heap r

-- the heap of all sites in which one site's changes at one reference
heap_at : (sites : ℕ → Site) (s : ℕ) (site : Site) (r : Ref) (x : Option Born) → r.site ≡ s → site.heap ≡ with_ref (sites s).heap r x → with_ref (heap_of sites) r x ≡ heap_of (with_at sites s site)
heap_at sites s site r x at e = fun_ext (λ q. by q (ref_or q r) (same_or q.site s))
  where
    by : (q : Ref) → ((q ≡ r) ⊎ (q ≡ r → ⊥)) → ((q.site ≡ s) ⊎ (q.site ≡ s → ⊥)) → with_ref (heap_of sites) r x q ≡ heap_of (with_at sites s site) q
    by q (inl p) (inl i) =
        ap (with_ref (heap_of sites) r x) p ∙ with_ref_same (heap_of sites) r x ∙ sym (with_ref_same (sites s).heap r x) ∙ ap (with_ref (sites s).heap r x) (sym p)
        ∙ ap (λ (h : Heap). h q) (sym e) ∙ ap (λ (z : Site). z.heap q) (sym (with_at_same sites s site)) ∙ ap (λ b. (with_at sites s site b).heap q) (sym i)
    by q (inl p) (inr ne) = absurd (ne (ap (λ (z : Ref). z.site) p ∙ at))
    by q (inr np) (inl i) =
        with_ref_other (heap_of sites) r x q np ∙ ap (λ b. (sites b).heap q) i ∙ sym (with_ref_other (sites s).heap r x q np)
        ∙ ap (λ (h : Heap). h q) (sym e) ∙ ap (λ (z : Site). z.heap q) (sym (with_at_same sites s site)) ∙ ap (λ b. (with_at sites s site b).heap q) (sym i)
    by q (inr np) (inr ne) = with_ref_other (heap_of sites) r x q np ∙ ap (λ (z : Site). z.heap q) (sym (with_at_other sites s site q.site ne))

heap_kept : (sites : ℕ → Site) (s : ℕ) (site : Site) → site.heap ≡ (sites s).heap → heap_of sites ≡ heap_of (with_at sites s site)
heap_kept sites s site e = fun_ext (λ q. by q (same_or q.site s))
  where
    by : (q : Ref) → ((q.site ≡ s) ⊎ (q.site ≡ s → ⊥)) → heap_of sites q ≡ heap_of (with_at sites s site) q
    by q (inl i) = ap (λ b. (sites b).heap q) i ∙ ap (λ (h : Heap). h q) (sym e) ∙ ap (λ (z : Site). z.heap q) (sym (with_at_same sites s site)) ∙ ap (λ b. (with_at sites s site b).heap q) (sym i)
    by q (inr ne) = ap (λ (z : Site). z.heap q) (sym (with_at_other sites s site q.site ne))

-- an act of a site is one of the World's memory, which is left as the sites' heaps
pub record Global (sites : ℕ → Site) (rest : Rest) (s t : ℕ) (z : Self Ref) (op : Operation Ref) (kind : ActKind) (loc : ℕ) (site : Site) (count : ℕ) (x : Term Ref) : Type 0 where
  pub memory : Memory
  pub does : Does (assembled sites rest).memory (assembled sites rest).ended rest.threads t z op kind loc memory x
  pub is : memory ≡ record { count = count; heap = heap_of (with_at sites s site); names = rest.names }
  pub sited : (server : ℕ) → IsDoneAt server s does

pub memory_with : (sites : ℕ → Site) (rest : Rest) (s : ℕ) (site : Site) (r : Ref) (born : ℕ) (left : Option (Cell Ref)) → r.site ≡ s → site.heap ≡ left_at (sites s).heap r born left
    → with_left (assembled sites rest).memory r born left ≡ record { count = rest.count; heap = heap_of (with_at sites s site); names = rest.names }
memory_with sites rest s site r born None at e = ap (λ (h : Heap). record { count = rest.count; heap = h; names = rest.names }) (heap_kept sites s site e)
memory_with sites rest s site r born (Some cell) at e = ap (λ (h : Heap). record { count = rest.count; heap = h; names = rest.names }) (heap_at sites s site r (Some (record { born = born; cell = cell })) at e)

pub here_too : (sites : ℕ → Site) (s : ℕ) (r : Ref) (o : Option Born) → r.site ≡ s → (sites s).heap r ≡ o → heap_of sites r ≡ o
here_too sites s r o at e = ap (λ b. (sites b).heap r) at ∙ e

pub global : (sites : ℕ → Site) (rest : Rest) (s t : ℕ) (z : Self Ref) (op : Operation Ref) (kind : ActKind) (loc : ℕ) (h : Heap) (count : ℕ) (x : Term Ref) (site : Site) → site.heap ≡ h → Did s (sites s).heap rest.count t z op kind loc h count x → Global sites rest s t z op kind loc site count x
global sites rest s t z op kind loc h count x site e (AtCell _ r b _ left _ at of here row) =
    record { memory = with_left (assembled sites rest).memory r b.born left; does = OnCell op r b kind left x of (here_too sites s r (Some b) at here) row; is = memory_with sites rest s site r b.born left at e; sited = λ server. at }
global sites rest s t z op kind loc h count x site e (Made r cell after at none) =
    record {
      memory = with_made (assembled sites rest).memory r cell;
      does = Makes r cell after (here_too sites s r None at none);
      is = ap (λ (g : Heap). record { count = suc rest.count; heap = g; names = rest.names }) (heap_at sites s site r (Some (record { born = rest.count; cell = cell })) at e);
      sited = λ server. at;
    }
global sites rest s t z op kind loc h count x site e (Retook o c guard b y _ left _ at at2 here there row) =
    record {
      memory = with_left (assembled sites rest).memory o b.born left;
      does = Retakes o c guard b y kind left x (here_too sites s o (Some b) at here) (here_too sites s c (Some y) at2 there) row;
      is = memory_with sites rest s site o b.born left at e;
      sited = λ server. at;
    }

-- the World of the sites, of which one has changed, from its tables
pub reassembled_by : (P : World → Type 0) (sites : ℕ → Site) (s : ℕ) (site : Site) (rest : Rest) (m : Memory) (run : ℕ → ℕ → Option Slot) (en : ℕ → ℕ → Option Ending)
    → m ≡ record { count = rest.count; heap = heap_of (with_at sites s site); names = rest.names } → run ≡ table_of (with_at sites s site) (λ z. z.running) → en ≡ table_of (with_at sites s site) (λ z. z.ended)
    → site.pending ≡ (sites s).pending → site.waiting ≡ (sites s).waiting
    → P (record { memory = m; threads = rest.threads; pending = table_of sites (λ z. z.pending); running = run; waiting = table_of sites (λ z. z.waiting); ended = en; lines = rest.lines; journal = rest.journal })
    → P (assembled (with_at sites s site) rest)
reassembled_by P sites s site rest m run en em er ee ep ew h =
    let w : World = record { memory = m; threads = rest.threads; pending = table_of sites (λ z. z.pending); running = run; waiting = table_of sites (λ z. z.waiting); ended = en; lines = rest.lines; journal = rest.journal } in
    let m2 : Memory = record { count = rest.count; heap = heap_of (with_at sites s site); names = rest.names } in
    let run2 : ℕ → ℕ → Option Slot = table_of (with_at sites s site) (λ z. z.running) in
    let en2 : ℕ → ℕ → Option Ending = table_of (with_at sites s site) (λ z. z.ended) in
    let pend2 : ℕ → ℕ → Option Suspended = table_of (with_at sites s site) (λ z. z.pending) in
    let step1 = subst (λ (k : Memory). P (record w { memory = k })) em h in
    let step2 = subst (λ (r : ℕ → ℕ → Option Slot). P (record w { memory = m2; running = r })) er step1 in
    let step3 = subst (λ (x : ℕ → ℕ → Option Ending). P (record w { memory = m2; running = run2; ended = x })) ee step2 in
    let step4 = subst (λ (p : ℕ → ℕ → Option Suspended). P (record w { memory = m2; running = run2; ended = en2; pending = p })) (table_kept sites (λ z. z.pending) s site ep) step3 in
    subst (λ (p : ℕ → ℕ → Option Parked). P (record w { memory = m2; running = run2; ended = en2; pending = pend2; waiting = p })) (table_kept sites (λ z. z.waiting) s site ew) step4

pub same_memory : (sites : ℕ → Site) (rest : Rest) (s : ℕ) (site : Site) → site.heap ≡ (sites s).heap → (assembled sites rest).memory ≡ record { count = rest.count; heap = heap_of (with_at sites s site); names = rest.names }
same_memory sites rest s site e = ap (λ (h : Heap). record { count = rest.count; heap = h; names = rest.names }) (heap_kept sites s site e)

pub site_acts : SiteActs
site_acts turns sites rest s t n slot u op hs kind loc h count x is few e needs did =
    let slot2 : Slot = moved slot (n + 1) (plug hs x) in
    let site : Site = record (sites s) { heap = h; running = with_at (sites s).running t (Some slot2) } in
    let g = global sites rest s t (self_at slot.segment.self hs) op kind loc h count x site refl did in
    let w : World = assembled sites rest in
    reassembled_by (AtItsSite turns w) sites s site (record rest { count = count; journal = rest.journal ++ entry_of t n (Some (act kind loc)) ∷ [] }) g.memory (at2 w.running s t (Some slot2)) w.ended g.is
    (table_at sites (λ z. z.running) s site t (Some slot2) refl) (table_kept sites (λ z. z.ended) s site refl) refl refl
    ((Acted w s t n slot u op hs kind loc g.memory x is few e needs g.does), λ server. g.sited server)

pub site_steps : SiteSteps
site_steps turns sites rest s t n slot u is few e =
    let slot2 : Slot = moved slot n u in
    let site : Site = runs_at sites s t (Some slot2) in
    let w : World = assembled sites rest in
    reassembled_by (Quiet turns w) sites s site (record rest { journal = rest.journal ++ entry_of t n None ∷ [] }) w.memory (at2 w.running s t (Some slot2)) w.ended (same_memory sites rest s site refl)
    (table_at sites (λ z. z.running) s site t (Some slot2) refl) (table_kept sites (λ z. z.ended) s site refl) refl refl
    ((Steps w s t n slot u is few e), tt, λ server. tt)

pub site_joins : SiteJoins
site_joins turns sites rest s t n v b end slot u hs is few e needs there =
    let slot2 : Slot = moved slot (n + 1) (plug hs (ending_term end)) in
    let site : Site = runs_at sites s t (Some slot2) in
    let w : World = assembled sites rest in
    reassembled_by (λ x. (p : Step turns w x) × (b ≡ s → (server : ℕ) → IsSited server p)) sites s site (record rest { journal = rest.journal ++ entry_of t n (Some (act ActKind.Join v)) ∷ [] }) w.memory (at2 w.running s t (Some slot2)) w.ended (same_memory sites rest s site refl)
    (table_at sites (λ z. z.running) s site t (Some slot2) refl) (table_kept sites (λ z. z.ended) s site refl) refl refl
    ((Acted w s t n slot u (JoinWith v) hs ActKind.Join v w.memory (ending_term end) is few e needs (Joins v b end there)), λ here server. here)

pub site_forks : SiteForks
site_forks turns sites rest s t n slot u v hs is few e needs room =
    let k : ℕ = rest.threads in
    let first : Option Slot = Some (moved slot (n + 1) (plug hs (Const (Thread k)))) in
    let half : Site = runs_at sites s t first in
    let site : Site = record (sites s) { running = with_at (with_at (sites s).running t first) k (Some (calling v)) } in
    let w : World = assembled sites rest in
    reassembled_by (Quiet turns w) sites s site (record rest { threads = suc k; journal = rest.journal ++ entry_of t n (Some (act ActKind.Fork k)) ∷ [] }) w.memory (at2 (at2 w.running s t first) s k (Some (calling v))) w.ended (same_memory sites rest s site refl)
    (ap (λ r. at2 r s k (Some (calling v))) (table_at sites (λ z. z.running) s half t first refl) ∙ again sites s t k first (Some (calling v)))
    (table_kept sites (λ z. z.ended) s site refl) refl refl
    ((Forks w s t n slot u v hs is few e needs room), tt, λ server. tt)
  where
    again : (sites : ℕ → Site) (s t k : ℕ) (x y : Option Slot) → at2 (table_of (with_at sites s (runs_at sites s t x)) (λ z. z.running)) s k y ≡ table_of (with_at sites s (record (sites s) { running = with_at (with_at (sites s).running t x) k y })) (λ z. z.running)
    again sites s t k x y = fun_ext (λ a. fun_ext (λ u. by a u (same_or a s)))
      where
        by : (a u : ℕ) → ((a ≡ s) ⊎ (a ≡ s → ⊥)) → at2 (table_of (with_at sites s (runs_at sites s t x)) (λ z. z.running)) s k y a u ≡ table_of (with_at sites s (record (sites s) { running = with_at (with_at (sites s).running t x) k y })) (λ z. z.running) a u
        by a u (inl p) =
            ap (λ b. at2 (table_of (with_at sites s (runs_at sites s t x)) (λ z. z.running)) s k y b u) p
            ∙ ap (λ (g : ℕ → Option Slot). g u) (with_at_same (table_of (with_at sites s (runs_at sites s t x)) (λ z. z.running)) s (with_at ((with_at sites s (runs_at sites s t x) s).running) k y))
            ∙ ap (λ (z : Site). with_at z.running k y u) (with_at_same sites s (runs_at sites s t x))
            ∙ ap (λ (z : Site). z.running u) (sym (with_at_same sites s (record (sites s) { running = with_at (with_at (sites s).running t x) k y })))
            ∙ ap (λ b. table_of (with_at sites s (record (sites s) { running = with_at (with_at (sites s).running t x) k y })) (λ z. z.running) b u) (sym p)
        by a u (inr ne) =
            ap (λ (g : ℕ → Option Slot). g u) (with_at_other (table_of (with_at sites s (runs_at sites s t x)) (λ z. z.running)) s (with_at ((with_at sites s (runs_at sites s t x) s).running) k y) a ne)
            ∙ ap (λ (z : Site). z.running u) (with_at_other sites s (runs_at sites s t x) a ne)
            ∙ ap (λ (z : Site). z.running u) (sym (with_at_other sites s (record (sites s) { running = with_at (with_at (sites s).running t x) k y }) a ne))

pub site_ends : SiteEnds
site_ends turns sites rest s t n slot u end is none few e ends =
    let site : Site = record (sites s) { running = with_at (sites s).running t None; ended = with_at (sites s).ended t (Some end) } in
    let w : World = assembled sites rest in
    reassembled_by (Quiet turns w) sites s site (record rest { journal = rest.journal ++ entry_of t n (Some (act ActKind.End t)) ∷ [] }) w.memory (at2 w.running s t None) (at2 w.ended s t (Some end)) (same_memory sites rest s site refl)
    (table_at sites (λ z. z.running) s site t None refl) (table_at sites (λ z. z.ended) s site t (Some end) refl) refl refl
    ((Finishes w s t n slot u end is none few e ends), tt, λ server. tt)

-- ---- at packets

-- the same where pending calls change too
pub reassembled_calls : (P : World → Type 0) (sites : ℕ → Site) (s : ℕ) (site : Site) (rest : Rest) (m : Memory) (run : ℕ → ℕ → Option Slot) (p : Table)
    → m ≡ record { count = rest.count; heap = heap_of (with_at sites s site); names = rest.names } → run ≡ table_of (with_at sites s site) (λ z. z.running) → p ≡ table_of (with_at sites s site) (λ z. z.pending)
    → site.ended ≡ (sites s).ended → site.waiting ≡ (sites s).waiting
    → P (record { memory = m; threads = rest.threads; pending = p; running = run; waiting = table_of sites (λ z. z.waiting); ended = table_of sites (λ z. z.ended); lines = rest.lines; journal = rest.journal })
    → P (assembled (with_at sites s site) rest)
reassembled_calls P sites s site rest m run p em er ep ee ew h =
    let w : World = record { memory = m; threads = rest.threads; pending = p; running = run; waiting = table_of sites (λ z. z.waiting); ended = table_of sites (λ z. z.ended); lines = rest.lines; journal = rest.journal } in
    let m2 : Memory = record { count = rest.count; heap = heap_of (with_at sites s site); names = rest.names } in
    let run2 : ℕ → ℕ → Option Slot = table_of (with_at sites s site) (λ z. z.running) in
    let en2 : ℕ → ℕ → Option Ending = table_of (with_at sites s site) (λ z. z.ended) in
    let pend2 : ℕ → ℕ → Option Suspended = table_of (with_at sites s site) (λ z. z.pending) in
    let step1 = subst (λ (k : Memory). P (record w { memory = k })) em h in
    let step2 = subst (λ (r : ℕ → ℕ → Option Slot). P (record w { memory = m2; running = r })) er step1 in
    let step3 = subst (λ (x : ℕ → ℕ → Option Ending). P (record w { memory = m2; running = run2; ended = x })) (table_kept sites (λ z. z.ended) s site ee) step2 in
    let step4 = subst (λ (q : ℕ → ℕ → Option Suspended). P (record w { memory = m2; running = run2; ended = en2; pending = q })) ep step3 in
    subst (λ (q : ℕ → ℕ → Option Parked). P (record w { memory = m2; running = run2; ended = en2; pending = pend2; waiting = q })) (table_kept sites (λ z. z.waiting) s site ew) step4

pub site_asks : SiteAsks
site_asks turns sites rest s t to k slot op hs is few needs free =
    let x : Option Suspended = Some (record { thread = t; segment = slot.segment }) in
    let site : Site = record (sites s) { running = with_at (sites s).running t None; pending = with_at (sites s).pending k x } in
    let w : World = assembled sites rest in
    reassembled_calls (λ v. (p : Step turns w v) × HasNoAct p × (MayAsk op → (server : ℕ) → IsSited server p)) sites s site (record rest { lines = posted rest.lines s to (Request t k slot.used (activations_at slot.segment.depth hs) (self_at slot.segment.self hs) (wire op)) }) w.memory (at2 w.running s t None) (at2 w.pending s k x) (same_memory sites rest s site refl)
    (table_at sites (λ z. z.running) s site t None refl) (table_at sites (λ z. z.pending) s site k x refl) refl refl
    ((Asks w s t to k slot op hs is few needs free), tt, λ may server. may)

pub site_serves : SiteServes
site_serves turns sites rest a b t k used depth self op ps kind loc h count x o first may did gives =
    let site : Site = record (sites b) { heap = h } in
    let g = global sites rest b t self op kind loc h count x site refl did in
    let w : World = assembled sites rest in
    reassembled_by (AtItsSite turns w) sites b site (record rest { count = count; lines = posted (at2 rest.lines a b ps) b a (Reply t k (used + 1) o); journal = rest.journal ++ entry_of t 0 (Some (act kind loc)) ∷ [] }) g.memory w.running w.ended g.is
    (table_kept sites (λ z. z.running) b site refl) (table_kept sites (λ z. z.ended) b site refl) refl refl
    ((Serves w (with_line w a b ps) a b t k used depth self op kind loc g.memory x o (OffLine ps first) may g.does gives), λ server. g.sited server)

pub site_enters : SiteEnters
site_enters turns sites rest a b t k used depth self op ps kind loc h count x y first call did enters =
    let slot : Slot = answering a k used depth self y in
    let site : Site = record (sites b) { heap = h; running = with_at (sites b).running t (Some slot) } in
    let g = global sites rest b t self op kind loc h count x site refl did in
    let w : World = assembled sites rest in
    reassembled_by (AtItsSite turns w) sites b site (record rest { count = count; lines = at2 rest.lines a b ps; journal = rest.journal ++ entry_of t 0 (Some (act kind loc)) ∷ [] }) g.memory (at2 w.running b t (Some slot)) w.ended g.is
    (table_at sites (λ z. z.running) b site t (Some slot) refl) (table_kept sites (λ z. z.ended) b site refl) refl refl
    ((Enters w (with_line w a b ps) a b t k used depth self op kind loc g.memory x y (OffLine ps first) call g.does enters), λ server. g.sited server)

pub site_answers : SiteAnswers
site_answers turns sites rest s t slot call o is answers out =
    let site : Site = runs_at sites s t None in
    let w : World = assembled sites rest in
    reassembled_by (Quiet turns w) sites s site (record rest { lines = posted rest.lines s call.site (Reply t call.number slot.used o) }) w.memory (at2 w.running s t None) w.ended (same_memory sites rest s site refl)
    (table_at sites (λ z. z.running) s site t None refl) (table_kept sites (λ z. z.ended) s site refl) refl refl
    ((Returns w s t slot call o is answers out), tt, λ server. tt)

pub site_resumes : SiteResumes
site_resumes turns sites rest a b t k used o ps e op hs first here needs =
    let slot : Slot = record { segment = with_window e.segment (plug hs (answer_term op o)); used = used } in
    let site : Site = record (sites b) { running = with_at (sites b).running t (Some slot); pending = with_at (sites b).pending k None } in
    let w : World = assembled sites rest in
    reassembled_calls (Quiet turns w) sites b site (record rest { lines = at2 rest.lines a b ps }) w.memory (at2 w.running b t (Some slot)) (at2 w.pending b k None) (same_memory sites rest b site refl)
    (table_at sites (λ z. z.running) b site t (Some slot) refl) (table_at sites (λ z. z.pending) b site k None refl) refl refl
    ((Resumes w (with_line w a b ps) a b t k used o e op hs (OffLine ps first) here needs), tt, λ server. tt)

-- ---- waiting requests

-- the same where waiting requests change too
pub reassembled_waits : (P : World → Type 0) (sites : ℕ → Site) (s : ℕ) (site : Site) (rest : Rest) (m : Memory) (run : ℕ → ℕ → Option Slot) (wa : ℕ → ℕ → Option Parked)
    → m ≡ record { count = rest.count; heap = heap_of (with_at sites s site); names = rest.names } → run ≡ table_of (with_at sites s site) (λ z. z.running) → wa ≡ table_of (with_at sites s site) (λ z. z.waiting)
    → site.ended ≡ (sites s).ended → site.pending ≡ (sites s).pending
    → P (record { memory = m; threads = rest.threads; pending = table_of sites (λ z. z.pending); running = run; waiting = wa; ended = table_of sites (λ z. z.ended); lines = rest.lines; journal = rest.journal })
    → P (assembled (with_at sites s site) rest)
reassembled_waits P sites s site rest m run wa em er ew ee ep h =
    let w : World = record { memory = m; threads = rest.threads; pending = table_of sites (λ z. z.pending); running = run; waiting = wa; ended = table_of sites (λ z. z.ended); lines = rest.lines; journal = rest.journal } in
    let m2 : Memory = record { count = rest.count; heap = heap_of (with_at sites s site); names = rest.names } in
    let run2 : ℕ → ℕ → Option Slot = table_of (with_at sites s site) (λ z. z.running) in
    let en2 : ℕ → ℕ → Option Ending = table_of (with_at sites s site) (λ z. z.ended) in
    let pend2 : ℕ → ℕ → Option Suspended = table_of (with_at sites s site) (λ z. z.pending) in
    let step1 = subst (λ (k : Memory). P (record w { memory = k })) em h in
    let step2 = subst (λ (r : ℕ → ℕ → Option Slot). P (record w { memory = m2; running = r })) er step1 in
    let step3 = subst (λ (x : ℕ → ℕ → Option Ending). P (record w { memory = m2; running = run2; ended = x })) (table_kept sites (λ z. z.ended) s site ee) step2 in
    let step4 = subst (λ (q : ℕ → ℕ → Option Suspended). P (record w { memory = m2; running = run2; ended = en2; pending = q })) (table_kept sites (λ z. z.pending) s site ep) step3 in
    subst (λ (q : ℕ → ℕ → Option Parked). P (record w { memory = m2; running = run2; ended = en2; pending = pend2; waiting = q })) ew step4

pub site_holds : SiteHolds
site_holds turns sites rest a b t k used depth self op ps first =
    let x : Option Parked = Some (record { from = a; packet = Request t k used depth self op }) in
    let site : Site = record (sites b) { waiting = with_at (sites b).waiting t x } in
    let w : World = assembled sites rest in
    reassembled_waits (Quiet turns w) sites b site (record rest { lines = at2 rest.lines a b ps }) w.memory w.running (at2 w.waiting b t x) (same_memory sites rest b site refl)
    (table_kept sites (λ z. z.running) b site refl) (table_at sites (λ z. z.waiting) b site t x refl) refl refl
    ((Holds w (with_line w a b ps) a b t k used depth self op (OffLine ps first)), tt, λ server. tt)

pub site_retries : SiteRetries
site_retries turns sites rest a b t k used depth self op kind loc h count x o there may did gives =
    let site : Site = record (sites b) { heap = h; waiting = with_at (sites b).waiting t None } in
    let g = global sites rest b t self op kind loc h count x site refl did in
    let w : World = assembled sites rest in
    reassembled_waits (AtItsSite turns w) sites b site (record rest { count = count; lines = posted rest.lines b a (Reply t k (used + 1) o); journal = rest.journal ++ entry_of t 0 (Some (act kind loc)) ∷ [] }) g.memory w.running (at2 w.waiting b t None) g.is
    (table_kept sites (λ z. z.running) b site refl) (table_at sites (λ z. z.waiting) b site t None refl) refl refl
    ((Serves w (park w b t None) a b t k used depth self op kind loc g.memory x o (OffHold there) may g.does gives), λ server. g.sited server)

pub site_retries_entering : SiteRetriesEntering
site_retries_entering turns sites rest a b t k used depth self op kind loc h count x y there call did enters =
    let slot : Slot = answering a k used depth self y in
    let site : Site = record (sites b) { heap = h; running = with_at (sites b).running t (Some slot); waiting = with_at (sites b).waiting t None } in
    let g = global sites rest b t self op kind loc h count x site refl did in
    let w : World = assembled sites rest in
    reassembled_waits (AtItsSite turns w) sites b site (record rest { count = count; journal = rest.journal ++ entry_of t 0 (Some (act kind loc)) ∷ [] }) g.memory (at2 w.running b t (Some slot)) (at2 w.waiting b t None) g.is
    (table_at sites (λ z. z.running) b site t (Some slot) refl) (table_at sites (λ z. z.waiting) b site t None refl) refl refl
    ((Enters w (park w b t None) a b t k used depth self op kind loc g.memory x y (OffHold there) call g.does enters), λ server. g.sited server)

-- ---- endings and names

pub named_does : (sites : ℕ → Site) (rest : Rest) (s t : ℕ) (z : Self Ref) (op : Operation Ref) (kind : ActKind) (loc : ℕ) (names : List (Bytes × Value Ref)) (x : Term Ref) → Named (sites s).ended rest.names op kind loc names x
    → Does (assembled sites rest).memory (assembled sites rest).ended rest.threads t z op kind loc (record (assembled sites rest).memory { names = names }) x
named_does sites rest s t z op kind loc names x (JoinedHere u e is) = Joins u s e is
named_does sites rest s t z op kind loc names x (ExportedHere name v) = Exports name v
named_does sites rest s t z op kind loc names x (ImportedHere name engine _ _ row) = Imports name engine kind x row

pub named_sited : (sites : ℕ → Site) (rest : Rest) (s t server : ℕ) (z : Self Ref) (op : Operation Ref) (kind : ActKind) (loc : ℕ) (names : List (Bytes × Value Ref)) (x : Term Ref) (named : Named (sites s).ended rest.names op kind loc names x)
    → IsForNames op server s → IsDoneAt server s (named_does sites rest s t z op kind loc names x named)
unfolding named_does
named_sited sites rest s t server z op kind loc names x (JoinedHere u e is) h = refl
named_sited sites rest s t server z op kind loc names x (ExportedHere name v) h = h
named_sited sites rest s t server z op kind loc names x (ImportedHere name engine _ _ row) h = h

pub named_may : (en : ℕ → Option Ending) (old : List (Bytes × Value Ref)) (op : Operation Ref) (kind : ActKind) (loc : ℕ) (names : List (Bytes × Value Ref)) (x : Term Ref) → Named en old op kind loc names x → MayAsk op
named_may en old op kind loc names x (JoinedHere u e is) = tt
named_may en old op kind loc names x (ExportedHere name v) = tt
named_may en old op kind loc names x (ImportedHere name engine _ _ row) = tt

pub named_memory : (sites : ℕ → Site) (rest : Rest) (s : ℕ) (site : Site) (names : List (Bytes × Value Ref)) → site.heap ≡ (sites s).heap → record (assembled sites rest).memory { names = names } ≡ record { count = rest.count; heap = heap_of (with_at sites s site); names = names }
named_memory sites rest s site names e = ap (λ (h : Heap). record { count = rest.count; heap = h; names = names }) (heap_kept sites s site e)

pub site_names : SiteNames
site_names turns sites rest s t n slot u op hs kind loc names x is few e needs named =
    let slot2 : Slot = moved slot (n + 1) (plug hs x) in
    let site : Site = runs_at sites s t (Some slot2) in
    let w : World = assembled sites rest in
    let m : Memory = record w.memory { names = names } in
    reassembled_by (AtNames turns op s w) sites s site (record rest { names = names; journal = rest.journal ++ entry_of t n (Some (act kind loc)) ∷ [] }) m (at2 w.running s t (Some slot2)) w.ended (named_memory sites rest s site names refl)
    (table_at sites (λ z. z.running) s site t (Some slot2) refl) (table_kept sites (λ z. z.ended) s site refl) refl refl
    ((Acted w s t n slot u op hs kind loc m x is few e needs (named_does sites rest s t (self_at slot.segment.self hs) op kind loc names x named)), λ server. named_sited sites rest s t server (self_at slot.segment.self hs) op kind loc names x named)

pub site_serves_names : SiteServesNames
site_serves_names turns sites rest a b t k used depth self op ps kind loc names x o first named gives =
    let w : World = assembled sites rest in
    let m : Memory = record w.memory { names = names } in
    ((Serves w (with_line w a b ps) a b t k used depth self op kind loc m x o (OffLine ps first) (named_may (sites b).ended rest.names op kind loc names x named) (named_does sites rest b t self op kind loc names x named) gives), λ server. named_sited sites rest b t server (self) op kind loc names x named)

pub site_retries_names : SiteRetriesNames
site_retries_names turns sites rest a b t k used depth self op kind loc names x o there named gives =
    let site : Site = record (sites b) { waiting = with_at (sites b).waiting t None } in
    let w : World = assembled sites rest in
    let m : Memory = record w.memory { names = names } in
    reassembled_waits (AtNames turns op b w) sites b site (record rest { names = names; lines = posted rest.lines b a (Reply t k (used + 1) o); journal = rest.journal ++ entry_of t 0 (Some (act kind loc)) ∷ [] }) m w.running (at2 w.waiting b t None) (named_memory sites rest b site names refl)
    (table_kept sites (λ z. z.running) b site refl) (table_at sites (λ z. z.waiting) b site t None refl) refl refl
    ((Serves w (park w b t None) a b t k used depth self op kind loc m x o (OffHold there) (named_may (sites b).ended rest.names op kind loc names x named) (named_does sites rest b t self op kind loc names x named) gives), λ server. named_sited sites rest b t server (self) op kind loc names x named)

pub site_fork_refused : SiteForkRefused
site_fork_refused turns sites rest s t n slot u v hs is few e needs many =
    let slot2 : Slot = moved slot (n + 1) (plug hs fork_limit) in
    let site : Site = runs_at sites s t (Some slot2) in
    let w : World = assembled sites rest in
    reassembled_by (AtItsSite turns w) sites s site (record rest { journal = rest.journal ++ entry_of t n (Some (act ActKind.Fork THREAD_LIMIT)) ∷ [] }) w.memory (at2 w.running s t (Some slot2)) w.ended (same_memory sites rest s site refl)
    (table_at sites (λ z. z.running) s site t (Some slot2) refl) (table_kept sites (λ z. z.ended) s site refl) refl refl
    ((Acted w s t n slot u (ForkOff v) hs ActKind.Fork THREAD_LIMIT w.memory fork_limit is few e needs (TooMany v many)), λ server. tt)
