-- Every event at its sites keeps that each trail of the located fold is that of its thread's chain.
use Rattle.std.specs.Prelude.{List, Option, Some, None, [], ◌∷◌, ◌++◌, ℕ, suc, zero, length, option_map, refl, replicate, slice_get, ◌+◌, ◌≡◌}
use Rattle.std.proofs.Common.{ap, sym, ◌∙◌, subst, arith}
use Rattle.obq_base.specs.declared.acts.Entry.{Entry}
use Rattle.obq_base.specs.Tree.{BlockTree}
use Rattle.obq_model.specs.Step.{Self, Frame, Pending, activations_in, activations_at}
use Rattle.obq_model.specs.Config.{ThreadState, Config}
use Rattle.obq_model.specs.Located.{Located, execution_activations, with_waiting, located_run}
use Rattle.obq_laws.specs.Trails.{TrailsFit}
use Rattle.obq_laws.proofs.Sites.{sites_law}
use Rattle.obq_stands.specs.World.{Ref, PendingCall, Suspended, Ending, World}
use Rattle.obq_stands.specs.Stands.{Link, Table, Chained, Place, Nowhere, Absent, At, InLine, WaitsAt, EndedAt, HasPlace, StandsAt, IsSomewhere, StandsFor}
use Rattle.obq_stands.specs.Pending.{call_in}
use Rattle.obq_stands.specs.AtSites.{sites_around, TrailIs, AreTrails}
use Rattle.obq_stands.proofs.BareFrames.{with_form}
use Rattle.obq_stands.proofs.CellsThere.{config_of}
use Rattle.obq_stands.proofs.PendingCalls.{OthersStay, fits_in}

-- ---- chains and their sites

-- a chain in a table that has less of its thread
pub chained_into : (p p2 : Table) (t d : ℕ) (self : Self Ref) (a : Option PendingCall) (ls : List Link) → ((s k : ℕ) (e : Suspended) → p s k ≡ Some e → e.thread ≡ t → p2 s k ≡ Some e) → Chained p t d self a ls → Chained p2 t d self a ls
chained_into p p2 t d self None [] f h = h
chained_into p p2 t d self None (l ∷ ls) f h = absurd h
chained_into p p2 t d self (Some c) [] f h = absurd h
chained_into p p2 t d self (Some c) (l ∷ ls) f h =
    (h.0, record { here = f l.key.site l.key.number (record { thread = t; segment = l.segment }) h.1.here refl; needs = h.1.needs }, h.2, h.3, h.4, chained_into p p2 t l.segment.depth l.segment.self l.segment.answers ls f h.5)

pub around_from : {R : Type 0} (a : ℕ) (fs : List (Frame R)) → activations_at a fs ≡ a + activations_at 0 fs
around_from {R} a [] = plus_none a
  where
    plus_none : (n : ℕ) → n ≡ n + 0
    plus_none n = omega arith
around_from {R} a (Pending k before after ∷ fs) =
    around_from (activations_in a k) fs ∙ with_form a (activations_at 0 fs) k ∙ ap (λ n. a + n) (sym (with_form 0 (activations_at 0 fs) k ∙ none_plus (activations_in (activations_at 0 fs) k))) ∙ ap (λ n. a + n) (sym (around_from (activations_in 0 k) fs))
  where
    none_plus : (n : ℕ) → 0 + n ≡ n
    none_plus n = omega arith

pub run_long : (n s : ℕ) (rest : List ℕ) → length (replicate n s ++ rest) ≡ n + length rest
run_long zero s rest = omega arith
run_long (suc n) s rest = let e = run_long n s rest in omega arith

pub sites_long : (p : Table) (t d : ℕ) (self : Self Ref) (a : Option PendingCall) (ls : List Link) (s : ℕ) → Chained p t d self a ls → length (sites_around s ls) ≡ suc d
sites_long p t d self None [] s h = ap suc (sym h.0)
sites_long p t d self None (l ∷ ls) s h = absurd h
sites_long p t d self (Some c) [] s h = absurd h
sites_long p t d self (Some c) (l ∷ ls) s h =
    run_long (activations_at 0 l.frames) l.key.site (sites_around l.key.site ls)
    ∙ by (activations_at 0 l.frames) l.segment.depth (length (sites_around l.key.site ls)) (activations_at l.segment.depth l.frames) d (sites_long p t l.segment.depth l.segment.self l.segment.answers ls l.key.site h.5) (around_from l.segment.depth l.frames) h.3
  where
    by : (m d0 n x d : ℕ) → n ≡ suc d0 → x ≡ d0 + m → d ≡ x → m + n ≡ suc d
    by m d0 n x d e f g = omega arith

-- ---- the trails of the located fold

pub trails_fit : (trees : List BlockTree) (turns : ℕ) (es : List Entry) (l : Located) → located_run trees turns es ≡ Some l → TrailsFit l.thread_sites l.config.threads
trails_fit trees turns es l r = (sites_law trees turns es (with_waiting (length trees) turns l) (ap (option_map (with_waiting (length trees) turns)) r)).1

pub fit_get : (trs : List (List ℕ)) (ts : List ThreadState) (t : ℕ) (s : ThreadState) → TrailsFit trs ts → slice_get ts t ≡ Some s → (tr : List ℕ) × (slice_get trs t ≡ Some tr) × (length tr ≡ suc (execution_activations s.execution))
fit_get [] [] t s h e = absurd (cc e)
fit_get [] (x ∷ ts) t s h e = absurd h
fit_get (tr ∷ trs) [] t s h e = absurd h
fit_get (tr ∷ trs) (x ∷ ts) zero s h e = let same : x ≡ s = cc e in (tr, refl, h.0 ∙ ap (λ (y : ThreadState). suc (execution_activations y.execution)) same)
fit_get (tr ∷ trs) (x ∷ ts) (suc t) s h e = fit_get trs ts t s h.1 e

pub fit_back : (trs : List (List ℕ)) (ts : List ThreadState) (t : ℕ) (tr : List ℕ) → TrailsFit trs ts → slice_get trs t ≡ Some tr → (s : ThreadState) × (slice_get ts t ≡ Some s)
fit_back [] [] t tr h e = absurd (cc e)
fit_back [] (x ∷ ts) t tr h e = absurd h
fit_back (y ∷ trs) [] t tr h e = absurd h
fit_back (y ∷ trs) (x ∷ ts) zero tr h e = (x, refl)
fit_back (y ∷ trs) (x ∷ ts) (suc t) tr h e = fit_back trs ts t tr h.1 e

-- ---- the other threads

abbrev pub PendingInto : Table → Table → ℕ → Type 0
PendingInto p p2 t = (s k : ℕ) (e : Suspended) → p s k ≡ Some e → e.thread ≡ t → p2 s k ≡ Some e

trail_into : (p p2 : Table) (t : ℕ) (place : Place) (tr : List ℕ) → PendingInto p2 p t → TrailIs p t place tr → TrailIs p2 t place tr
trail_into p p2 t (At s slot) tr f h = λ d self ls ch. h d self ls (chained_into p2 p t d self slot.segment.answers ls f ch)
trail_into p p2 t (InLine a b q) tr f h = λ d self ls ch. h d self ls (chained_into p2 p t d self (Some (call_in a b q)) ls f ch)
trail_into p p2 t (WaitsAt b x) tr f h = λ d self ls ch. h d self ls (chained_into p2 p t d self (Some (call_in x.from b x.packet)) ls f ch)
trail_into p p2 t (EndedAt s e) tr f h = h
trail_into p p2 t Nowhere tr f h = tt
trail_into p p2 t Absent tr f h = tt

-- endings that are kept stay
abbrev pub EndingsStay : World → World → Type 0
EndingsStay w x = (s v : ℕ) (e : Ending) → w.ended s v ≡ Some e → x.ended s v ≡ Some e

-- where an event leaves another thread
other_place : (trees : List BlockTree) (turns : ℕ) (w x : World) (inv : StandsFor trees turns w) (inv2 : StandsFor trees turns x) (t u : ℕ) (l : Located) (tr : List ℕ) → located_run trees turns w.journal ≡ Some l → slice_get l.thread_sites u ≡ Some tr
    → OthersStay w x t → EndingsStay w x → (u ≡ t → ⊥) → inv2.stands.place u ≡ inv.stands.place u
other_place trees turns w x inv inv2 t u l tr r here o ends ne = by (inv.stands.place u) (inv.stands.placed.back u) (inv.stands.threads u) (inv.stands.settled u)
  where
    there : slice_get inv.config.threads u ≡ None → ⊥
    there none =
        let s = fit_back l.thread_sites l.config.threads u tr (trails_fit trees turns w.journal l r) here in
        let some : slice_get inv.config.threads u ≡ Some s.0 = ap (λ (c : Config). slice_get c.threads u) (config_of trees turns w l inv r) ∙ s.1 in
        cc (none, some)

    by : (y : Place) → HasPlace w.running w.waiting w.ended w.lines u y → StandsAt turns w.memory.heap w.pending u (slice_get inv.config.threads u) y → IsSomewhere y → inv2.stands.place u ≡ y
    by (At s slot) h z i = inv2.stands.placed.runs s u slot (o.running s u slot ne h)
    by (InLine a b p) h z i = ap (λ n. inv2.stands.place n) (sym h.0) ∙ fits_in inv2.stands.place a b (x.lines a b) p (inv2.stands.placed.fits a b) (o.lines a b p (λ f. ne (sym h.0 ∙ f)) h.1)
    by (WaitsAt b y) h z i = inv2.stands.placed.waits b u y (o.waiting b u y ne h)
    by (EndedAt s e) h z i = inv2.stands.placed.ends s u e (ends s u e h)
    by Nowhere h z i = absurd i
    by Absent h z i = absurd (there z)

-- an event of thread t
pub trails_by : (trees : List BlockTree) (turns : ℕ) (w x : World) (inv : StandsFor trees turns w) (inv2 : StandsFor trees turns x) (t : ℕ) (l l2 : Located) → located_run trees turns w.journal ≡ Some l → AreTrails trees turns w inv l
    → OthersStay w x t → EndingsStay w x → ((u : ℕ) → (u ≡ t → ⊥) → PendingInto x.pending w.pending u) → (u : ℕ) (tr : List ℕ) → (u ≡ t → ⊥) → slice_get l2.thread_sites u ≡ slice_get l.thread_sites u
    → slice_get l2.thread_sites u ≡ Some tr → TrailIs x.pending u (inv2.stands.place u) tr
trails_by trees turns w x inv inv2 t l l2 r h o ends into u tr ne same here =
    let old : slice_get l.thread_sites u ≡ Some tr = sym same ∙ here in
    subst (λ y. TrailIs x.pending u y tr) (sym (other_place trees turns w x inv inv2 t u l tr r old o ends ne))
    (trail_into w.pending x.pending u (inv.stands.place u) tr (into u ne) (h u tr old))
