-- Every event keeps that a thread's bottom runs at its home, and its ending is kept there.
use Rattle.std.specs.Prelude.{Bool, true, false, Option, Some, None, ℕ, suc, option_map, slice_get, refl, ◌+◌, ◌<◌, ◌≡◌, ◌⊎◌, if◌then◌else◌}
use Rattle.std.proofs.Common.{inl, inr, ap, sym, ◌∙◌, subst, arith, eqb}
use Rattle.obq_model.specs.Terms.{Thread, Term, Const}
use Rattle.obq_model.specs.Step.{plug}
use Rattle.obq_model.specs.Config.{Config}
use Rattle.obq_stands.specs.World.{with_at, at2, Ref, Slot, Suspended, Request, Reply, Ending, World}
use Rattle.obq_stands.specs.Stands.{Stands, Table}
use Rattle.obq_stands.specs.Events.{with_window, moved, calling, answering, first_slot, Steps, Acted, Forks, Finishes, Asks, Serves, Enters, Holds, Returns, Resumes, Begin, Then, windows}
use Rattle.obq_stands.specs.Over.{JoinWaits, AtHome, homes_of, HomesKept, EveryRunAtHome, HomesBegin, JoinAtHome}
use Rattle.obq_stands.proofs.Update.{test_same, with_at_same, with_at_other, at2_cases}
use Rattle.obq_model.proofs.Options.{not_both, some_none}
use Rattle.obq_model.proofs.Slices.{get_below}
use Rattle.obq_stands.proofs.Moves.{out_running, out_packet, endings}
use Rattle.obq_stands.proofs.Abroad.{resumed_by}
use Rattle.obq_stands.proofs.Opening.{every_run_stands}

some_one : {X : Type 0} (z : Option X) (a b : X) → z ≡ Some a → z ≡ Some b → a ≡ b
some_one z a b e f = cc (e, f)

pub below_other : (u n : ℕ) → u < n → u ≡ n → ⊥
below_other u n l e = absurd (omega arith)

more : (u n : ℕ) → u < n → u < suc n
more u n l = omega arith

-- a thread in a table is one that is there
pub running_below : (turns : ℕ) (w : World) (c : Config) (s t : ℕ) (slot : Slot) → Stands turns w c → w.running s t ≡ Some slot → t < w.threads
running_below turns w c s t slot st is = let goes = (out_running turns w c s t slot st is).1 in subst (λ n. t < n) st.counted (get_below c.threads t _ goes.here)

ended_below : (turns : ℕ) (w : World) (c : Config) (s t : ℕ) (e : Ending) → Stands turns w c → w.ended s t ≡ Some e → t < w.threads
ended_below turns w c s t e st is = let k = endings turns w c st s t e is in subst (λ n. t < n) st.counted (get_below c.threads t _ k.here)

-- a table of running segments with one more
ran : (r : ℕ → ℕ → Option Slot) (home : ℕ → ℕ) (s t : ℕ) (slot : Slot) → ((a u : ℕ) (z : Slot) → r a u ≡ Some z → z.segment.answers ≡ None → a ≡ home u) → (slot.segment.answers ≡ None → s ≡ home t)
    → (a u : ℕ) (z : Slot) → at2 r s t (Some slot) a u ≡ Some z → z.segment.answers ≡ None → a ≡ home u
ran r home s t slot old own a u z e none = by (at2_cases r s t (Some slot) a u)
  where
    by : ((a ≡ s) × (u ≡ t) × (at2 r s t (Some slot) a u ≡ Some slot)) ⊎ ((a ≡ s → u ≡ t → ⊥) × (at2 r s t (Some slot) a u ≡ r a u)) → a ≡ home u
    by (inl q) =
        let same : slot ≡ z = some_one (at2 r s t (Some slot) a u) slot z q.2 e in
        q.0 ∙ own (ap (λ (x : Slot). x.segment.answers) same ∙ none) ∙ ap home (sym q.1)
    by (inr q) = old a u z (sym q.1 ∙ e) none

-- and with one less
stopped : (r : ℕ → ℕ → Option Slot) (home : ℕ → ℕ) (s t : ℕ) → ((a u : ℕ) (z : Slot) → r a u ≡ Some z → z.segment.answers ≡ None → a ≡ home u) → (a u : ℕ) (z : Slot) → at2 r s t None a u ≡ Some z → z.segment.answers ≡ None → a ≡ home u
stopped r home s t old a u z e none = by (at2_cases r s t None a u)
  where
    by : ((a ≡ s) × (u ≡ t) × (at2 r s t None a u ≡ None)) ⊎ ((a ≡ s → u ≡ t → ⊥) × (at2 r s t None a u ≡ r a u)) → a ≡ home u
    by (inl q) = absurd (not_both (at2 r s t None a u) z q.2 e)
    by (inr q) = old a u z (sym q.1 ∙ e) none

-- what an event that takes a packet leaves
same_home : (w w1 : World) (home : ℕ → ℕ) → w1.running ≡ w.running → w1.pending ≡ w.pending → w1.ended ≡ w.ended → w1.threads ≡ w.threads → AtHome w home → AtHome w1 home
same_home w w1 home r p en n h =
    record {
      runs = λ s t slot e. h.runs s t slot (ap (λ (f : ℕ → ℕ → Option Slot). f s t) (sym r) ∙ e);
      pends = λ s k x e. h.pends s k x (ap (λ (f : Table). f s k) (sym p) ∙ e);
      known = λ s k x e. subst (λ m. x.thread < m) (sym n) (h.known s k x (ap (λ (f : Table). f s k) (sym p) ∙ e));
      ends = λ s t x e. h.ends s t x (ap (λ (f : ℕ → ℕ → Option Ending). f s t) (sym en) ∙ e);
    }

pub homes_kept : HomesKept
homes_kept trees turns w x home inv h (Steps _ s t n slot u is few e) =
    (record { runs = ran w.running home s t (moved slot n u) h.runs (h.runs s t slot is); pends = h.pends; known = h.known; ends = h.ends }, λ v l. refl)
homes_kept trees turns w x home inv h (Acted _ s t n slot u op hs kind loc m y is few e needs does) =
    (record { runs = ran w.running home s t (moved slot (n + 1) (plug hs y)) h.runs (h.runs s t slot is); pends = h.pends; known = h.known; ends = h.ends }, λ v l. refl)
homes_kept trees turns w x home inv h (Forks _ s t n slot u v hs is few e needs room) =
    let home2 : ℕ → ℕ = with_at home w.threads s in
    let old : (z : ℕ) → z < w.threads → home2 z ≡ home z = λ z l. with_at_other home w.threads s z (below_other z w.threads l) in
    let runs2 : (a z : ℕ) (k : Slot) → w.running a z ≡ Some k → k.segment.answers ≡ None → a ≡ home2 z = λ a z k i none. h.runs a z k i none ∙ sym (old z (running_below turns w inv.config a z k inv.stands i)) in
    let first : Slot = moved slot (n + 1) (plug hs (Const (Thread w.threads))) in (
      record {
        runs = ran (at2 w.running s t (Some first)) home2 s w.threads (calling v) (ran w.running home2 s t first runs2 (runs2 s t slot is)) (λ none. sym (with_at_same home w.threads s));
        pends = λ a k z i none. h.pends a k z i none ∙ sym (old z.thread (h.known a k z i));
        known = λ a k z i. more z.thread w.threads (h.known a k z i);
        ends = λ a z k i. h.ends a z k i ∙ sym (old z (ended_below turns w inv.config a z k inv.stands i));
      },
      old,
    )
homes_kept trees turns w x home inv h (Finishes _ s t n slot u e is none few steps ends) =
    (record { runs = stopped w.running home s t h.runs; pends = h.pends; known = h.known; ends = λ a z k i. by (h.runs s t slot is none) a z k i (at2_cases w.ended s t (Some e) a z) }, λ v l. refl)
  where
    by : s ≡ home t → (a z : ℕ) (k : Ending) → at2 w.ended s t (Some e) a z ≡ Some k → (((a ≡ s) × (z ≡ t) × (at2 w.ended s t (Some e) a z ≡ Some e)) ⊎ ((a ≡ s → z ≡ t → ⊥) × (at2 w.ended s t (Some e) a z ≡ w.ended a z))) → a ≡ home z
    by own a z k i (inl q) = q.0 ∙ own ∙ ap home (sym q.1)
    by own a z k i (inr q) = h.ends a z k (sym q.1 ∙ i)
homes_kept trees turns w x home inv h (Asks _ s t to k slot op hs is few needs free) =
    let there : t < w.threads = running_below turns w inv.config s t slot inv.stands is in (
      record {
        runs = stopped w.running home s t h.runs;
        pends = λ a j z i none. by_home (h.runs s t slot is) a j z i none (at2_cases w.pending s k (Some (record { thread = t; segment = slot.segment })) a j);
        known = λ a j z i. by_known there a j z i (at2_cases w.pending s k (Some (record { thread = t; segment = slot.segment })) a j);
        ends = h.ends;
      },
      λ v l. refl,
    )
  where
    by_home : (slot.segment.answers ≡ None → s ≡ home t) → (a j : ℕ) (z : Suspended) → at2 w.pending s k (Some (record { thread = t; segment = slot.segment })) a j ≡ Some z → z.segment.answers ≡ None
        → (((a ≡ s) × (j ≡ k) × (at2 w.pending s k (Some (record { thread = t; segment = slot.segment })) a j ≡ Some (record { thread = t; segment = slot.segment }))) ⊎ ((a ≡ s → j ≡ k → ⊥) × (at2 w.pending s k (Some (record { thread = t; segment = slot.segment })) a j ≡ w.pending a j))) → a ≡ home z.thread
    by_home at a j z i none (inl q) =
        let same : record { thread = t; segment = slot.segment } ≡ z = some_one (at2 w.pending s k (Some (record { thread = t; segment = slot.segment })) a j) (record { thread = t; segment = slot.segment }) z q.2 i in
        q.0 ∙ at (ap (λ (y : Suspended). y.segment.answers) same ∙ none) ∙ ap (λ (y : Suspended). home y.thread) same
    by_home at a j z i none (inr q) = h.pends a j z (sym q.1 ∙ i) none

    by_known : t < w.threads → (a j : ℕ) (z : Suspended) → at2 w.pending s k (Some (record { thread = t; segment = slot.segment })) a j ≡ Some z
        → (((a ≡ s) × (j ≡ k) × (at2 w.pending s k (Some (record { thread = t; segment = slot.segment })) a j ≡ Some (record { thread = t; segment = slot.segment }))) ⊎ ((a ≡ s → j ≡ k → ⊥) × (at2 w.pending s k (Some (record { thread = t; segment = slot.segment })) a j ≡ w.pending a j))) → z.thread < w.threads
    by_known l a j z i (inl q) =
        let same : record { thread = t; segment = slot.segment } ≡ z = some_one (at2 w.pending s k (Some (record { thread = t; segment = slot.segment })) a j) (record { thread = t; segment = slot.segment }) z q.2 i in
        subst (λ (y : Suspended). y.thread < w.threads) same l
    by_known l a j z i (inr q) = h.known a j z (sym q.1 ∙ i)
homes_kept trees turns w x home inv h (Serves _ w1 a b t k used depth self op kind loc m y o takes may does gives) =
    let q = out_packet turns w inv.config a b (Request t k used depth self op) w1 inv.stands takes in
    let g = same_home w w1 home q.running q.pending q.ended q.threads h in
    (record { runs = g.runs; pends = g.pends; known = g.known; ends = g.ends }, λ v l. refl)
homes_kept trees turns w x home inv h (Enters _ w1 a b t k used depth self op kind loc m y z takes call does enters) =
    let q = out_packet turns w inv.config a b (Request t k used depth self op) w1 inv.stands takes in
    let g = same_home w w1 home q.running q.pending q.ended q.threads h in
    (record { runs = ran w1.running home b t (answering a k used depth self z) g.runs (λ none. absurd (some_none (record { site = a; number = k }) none)); pends = g.pends; known = g.known; ends = g.ends }, λ v l. refl)
homes_kept trees turns w x home inv h (Holds _ w1 a b t k used depth self op takes) =
    let q = out_packet turns w inv.config a b (Request t k used depth self op) w1 inv.stands takes in
    let g = same_home w w1 home q.running q.pending q.ended q.threads h in
    (record { runs = g.runs; pends = g.pends; known = g.known; ends = g.ends }, λ v l. refl)
homes_kept trees turns w x home inv h (Returns _ s t slot call o is answers out) =
    (record { runs = stopped w.running home s t h.runs; pends = h.pends; known = h.known; ends = h.ends }, λ v l. refl)
homes_kept trees turns w x home inv h (Resumes _ w1 a b t k used o e op hs takes here needs) =
    let q = out_packet turns w inv.config a b (Reply t k used o) w1 inv.stands takes in
    let g = same_home w w1 home q.running q.pending q.ended q.threads h in
    let here1 : w1.pending b k ≡ Some e = ap (λ (p : Table). p b k) q.pending ∙ here in
    let r = resumed_by w1.memory.heap w1.pending t b k q.carries.1.term e op hs o here1 needs q.carries.1.reads in (
      record {
        runs = ran w1.running home b t (record { segment = with_window e.segment _; used = used }) g.runs (λ none. g.pends b k e here1 none ∙ ap home r.of);
        pends = λ c j z i none. g.pends c j z (old c j z i) none;
        known = λ c j z i. g.known c j z (old c j z i);
        ends = g.ends;
      },
      λ v l. refl,
    )
  where
    old : (c j : ℕ) (z : Suspended) → at2 w1.pending b k None c j ≡ Some z → w1.pending c j ≡ Some z
    old c j z i = by (at2_cases w1.pending b k None c j)
      where
        by : (((c ≡ b) × (j ≡ k) × (at2 w1.pending b k None c j ≡ None)) ⊎ ((c ≡ b → j ≡ k → ⊥) × (at2 w1.pending b k None c j ≡ w1.pending c j))) → w1.pending c j ≡ Some z
        by (inl q) = absurd (not_both (at2 w1.pending b k None c j) z q.2 i)
        by (inr q) = sym q.1 ∙ i

pub homes_begin : HomesBegin
homes_begin windows =
    record {
      runs = λ s t slot e none. by s t slot (slice_get windows t) (eqb s t) refl e;
      pends = λ s k x e. absurd (cc e);
      known = λ s k x e. absurd (cc e);
      ends = λ s t x e. absurd (cc e);
    }
  where
    by : (s t : ℕ) (slot : Slot) (o : Option (Term Ref)) (b : Bool) → eqb s t ≡ b → (if b then option_map first_slot o else None) ≡ Some slot → s ≡ t
    by s t slot o true e f = test_same s t e
    by s t slot o false e f = absurd (cc f)

pub every_run_at_home : EveryRunAtHome
every_run_at_home trees turns w Begin = homes_begin (windows 0 trees)
every_run_at_home trees turns w (Then {v = v} r e) = (homes_kept trees turns v w (homes_of r) (every_run_stands trees turns v r) (every_run_at_home trees turns v r) e).0

pub join_at_home : JoinAtHome
join_at_home w home t u s h none = JoinWaits u (λ b. by b (w.ended b u) refl)
  where
    by : (b : ℕ) (z : Option Ending) → w.ended b u ≡ z → z ≡ None
    by b None e = refl
    by b (Some x) e = absurd (not_both (w.ended b u) x (ap (λ n. w.ended n u) (h.ends b u x e) ∙ none) e)
