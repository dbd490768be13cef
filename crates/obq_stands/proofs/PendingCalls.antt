-- Every event keeps that each pending call is a link of its thread's chain.
use Rattle.std.specs.Prelude.{List, Option, Some, None, [], ◌∷◌, ◌++◌, ℕ, refl, ◌+◌, ◌≡◌, ◌⊎◌}
use Rattle.std.proofs.Common.{inl, inr, ap, sym, ◌∙◌, subst}
use Rattle.obq_model.specs.Terms.{Thread, Const}
use Rattle.obq_model.specs.Step.{Self, plug, self_at, activations_at}
use Rattle.obq_model.specs.Config.{Config}
use Rattle.obq_model.proofs.Options.{not_both}
use Rattle.obq_stands.specs.World.{at2, Ref, PendingCall, Segment, Slot, Suspended, answer_term, wire, Packet, Request, Reply, thread_of, Parked, World, without, start, post, park, pend, with_memory}
use Rattle.obq_stands.specs.Stands.{Table, Link, Fresh, Chained, Place, Nowhere, Absent, At, InLine, WaitsAt, EndedAt, Fits, IsIn, HasPlace, Stands}
use Rattle.obq_stands.specs.Events.{with_window, moved, calling, answering, Takes, OffLine, OffHold, Steps, Acted, Forks, Finishes, Asks, Serves, Enters, Holds, Returns, Resumes, Begin, Then}
use Rattle.obq_stands.specs.Pending.{Reaches, Here, Further, call_in, call_of, Linked, LinkedKept, EveryRunLinked}
use Rattle.obq_stands.proofs.Update.{same_or, at2_same, at2_other, at2_cases}
use Rattle.obq_stands.proofs.Moves.{out_packet}
use Rattle.obq_stands.proofs.Opening.{every_run_stands}
use Rattle.obq_stands.proofs.Homes.{running_below, below_other}

-- ---- along a chain

reaches_later : (p p2 : Table) (t : ℕ) (key : PendingCall) → ((s k : ℕ) (e : Suspended) → p s k ≡ Some e → e.thread ≡ t → p2 s k ≡ Some e) → (a : Option PendingCall) → Reaches p t key a → Reaches p2 t key a
reaches_later p p2 t key f _ (Here e is of) = Here e (f key.site key.number e is of) of
reaches_later p p2 t key f _ (Further k e is of r) = Further k e (f k.site k.number e is of) of (reaches_later p p2 t key f e.segment.answers r)

reaches_some : (p : Table) (t : ℕ) (key : PendingCall) (a : Option PendingCall) → Reaches p t key a → (k : PendingCall) × (a ≡ Some k)
reaches_some p t key _ (Here e is of) = (key, refl)
reaches_some p t key _ (Further k e is of r) = (k, refl)

-- a chain that a call isn't a link of stays where that call is no longer pending
reaches_past : (p : Table) (t b j : ℕ) (key : PendingCall) (d : ℕ) (self : Self Ref) (a : Option PendingCall) (ls : List Link) → Chained p t d self a ls → Fresh b j ls → Reaches p t key a → Reaches (at2 p b j None) t key a
reaches_past p t b j key d self a [] h fresh r = absurd (none_there a (reaches_some p t key a r).0 (reaches_some p t key a r).1 h)
  where
    none_there : (c : Option PendingCall) (k : PendingCall) → c ≡ Some k → Chained p t d self c [] → ⊥
    none_there None k e i = cc e
    none_there (Some c) k e i = i
reaches_past p t b j key d self _ (l ∷ ls) h fresh (Here e is of) =
    Here e (at2_other p b j None key.site key.number (subst (λ (c : PendingCall). c.site ≡ b → c.number ≡ j → ⊥) (sym h.0) fresh.0) ∙ is) of
reaches_past p t b j key d self _ (l ∷ ls) h fresh (Further k e is of r) =
    let there : p k.site k.number ≡ Some (record { thread = t; segment = l.segment }) = ap (λ (c : PendingCall). p c.site c.number) h.0 ∙ h.1.here in
    let same : e ≡ record { thread = t; segment = l.segment } = cc (is, there) in
    let rest : Reaches p t key l.segment.answers = subst (λ (x : Suspended). Reaches p t key x.segment.answers) same r in
    let past : Reaches (at2 p b j None) t key l.segment.answers = reaches_past p t b j key l.segment.depth l.segment.self l.segment.answers ls h.5 fresh.1 rest in
    Further k e (at2_other p b j None k.site k.number (subst (λ (c : PendingCall). c.site ≡ b → c.number ≡ j → ⊥) (sym h.0) fresh.0) ∙ is) of
    (subst (λ (x : Suspended). Reaches (at2 p b j None) t key x.segment.answers) (sym same) past)

-- ---- what an event leaves of the other threads

pub record OthersStay (w x : World) (t : ℕ) : Type 0 where
  pub running : (s u : ℕ) (slot : Slot) → (u ≡ t → ⊥) → w.running s u ≡ Some slot → x.running s u ≡ Some slot
  pub waiting : (b u : ℕ) (y : Parked) → (u ≡ t → ⊥) → w.waiting b u ≡ Some y → x.waiting b u ≡ Some y
  pub lines : (a b : ℕ) (q : Packet) → (thread_of q ≡ t → ⊥) → IsIn q (w.lines a b) → IsIn q (x.lines a b)

pub table_stays : {X : Type 0} (f : ℕ → ℕ → Option X) (s t : ℕ) (x : Option X) (a u : ℕ) (y : X) → (u ≡ t → ⊥) → f a u ≡ Some y → at2 f s t x a u ≡ Some y
table_stays f s t x a u y ne h = at2_other f s t x a u (λ _ e. ne e) ∙ h

pub all_stay : (w x : World) (t : ℕ) → x.running ≡ w.running → x.waiting ≡ w.waiting → x.lines ≡ w.lines → OthersStay w x t
all_stay w x t r wa l =
    record {
      running = λ s u slot ne h. ap (λ (f : ℕ → ℕ → Option Slot). f s u) r ∙ h;
      waiting = λ b u y ne h. ap (λ (f : ℕ → ℕ → Option Parked). f b u) wa ∙ h;
      lines = λ a b q ne h. subst (λ (f : ℕ → ℕ → List Packet). IsIn q (f a b)) (sym l) h;
    }

pub stay_then : (w x y : World) (t : ℕ) → OthersStay w x t → OthersStay x y t → OthersStay w y t
stay_then w x y t h i =
    record {
      running = λ s u slot ne e. i.running s u slot ne (h.running s u slot ne e);
      waiting = λ b u z ne e. i.waiting b u z ne (h.waiting b u z ne e);
      lines = λ a b q ne e. i.lines a b q ne (h.lines a b q ne e);
    }

pub stay_started : (w : World) (s t : ℕ) (slot : Slot) → OthersStay w (start w s t slot) t
stay_started w s t slot = record { running = λ a u z ne h. table_stays w.running s t (Some slot) a u z ne h; waiting = λ b u y ne h. h; lines = λ a b q ne h. h }

pub stay_without : (w : World) (s t : ℕ) → OthersStay w (without w s t) t
stay_without w s t = record { running = λ a u z ne h. table_stays w.running s t None a u z ne h; waiting = λ b u y ne h. h; lines = λ a b q ne h. h }

pub stay_parked : (w : World) (b t : ℕ) (x : Option Parked) → OthersStay w (park w b t x) t
stay_parked w b t x = record { running = λ a u z ne h. h; waiting = λ a u y ne h. table_stays w.waiting b t x a u y ne h; lines = λ a c q ne h. h }

in_before : (q p : Packet) (ps : List Packet) → IsIn q ps → IsIn q (ps ++ p ∷ [])
in_before q p [] h = absurd h
in_before q p (r ∷ ps) (inl e) = inl e
in_before q p (r ∷ ps) (inr h) = inr (in_before q p ps h)

pub in_last : (p : Packet) (ps : List Packet) → IsIn p (ps ++ p ∷ [])
in_last p [] = inl refl
in_last p (r ∷ ps) = inr (in_last p ps)

pub stay_posted : (w : World) (a b : ℕ) (p : Packet) (t : ℕ) → OthersStay w (post w a b p) t
stay_posted w a b p t = record { running = λ s u z ne h. h; waiting = λ s u y ne h. h; lines = λ c d q ne h. by c d q h (at2_cases w.lines a b (w.lines a b ++ p ∷ []) c d) }
  where
    by : (c d : ℕ) (q : Packet) → IsIn q (w.lines c d) → (((c ≡ a) × (d ≡ b) × (at2 w.lines a b (w.lines a b ++ p ∷ []) c d ≡ w.lines a b ++ p ∷ [])) ⊎ ((c ≡ a → d ≡ b → ⊥) × (at2 w.lines a b (w.lines a b ++ p ∷ []) c d ≡ w.lines c d)))
        → IsIn q (at2 w.lines a b (w.lines a b ++ p ∷ []) c d)
    by c d q h (inl e) = subst (IsIn q) (sym e.2) (in_before q p (w.lines a b) (subst (IsIn q) (ap (λ n. w.lines n d) e.0 ∙ ap (w.lines a) e.1) h))
    by c d q h (inr e) = subst (IsIn q) (sym e.1) h

pub stay_taken : (w : World) (a b : ℕ) (p : Packet) (w1 : World) → Takes w a b p w1 → OthersStay w w1 (thread_of p)
stay_taken w a b p _ (OffLine ps is) = record { running = λ s u z ne h. h; waiting = λ s u y ne h. h; lines = λ c d q ne h. by c d q ne h (at2_cases w.lines a b ps c d) }
  where
    rest : (q : Packet) → (thread_of q ≡ thread_of p → ⊥) → IsIn q (p ∷ ps) → IsIn q ps
    rest q ne (inl e) = absurd (ne (ap thread_of (sym e)))
    rest q ne (inr h) = h

    by : (c d : ℕ) (q : Packet) → (thread_of q ≡ thread_of p → ⊥) → IsIn q (w.lines c d) → (((c ≡ a) × (d ≡ b) × (at2 w.lines a b ps c d ≡ ps)) ⊎ ((c ≡ a → d ≡ b → ⊥) × (at2 w.lines a b ps c d ≡ w.lines c d))) → IsIn q (at2 w.lines a b ps c d)
    by c d q ne h (inl e) = subst (IsIn q) (sym e.2) (rest q ne (subst (IsIn q) (ap (λ n. w.lines n d) e.0 ∙ ap (w.lines a) e.1 ∙ is) h))
    by c d q ne h (inr e) = subst (IsIn q) (sym e.1) h
stay_taken w a b p _ (OffHold is) = stay_parked w b (thread_of p) None

-- ---- places

pub fits_in : (place : ℕ → Place) (a b : ℕ) (ls : List Packet) (q : Packet) → Fits place a b ls → IsIn q ls → place (thread_of q) ≡ InLine a b q
fits_in place a b [] q f h = absurd h
fits_in place a b (r ∷ ls) q f (inl e) = subst (λ z. place (thread_of z) ≡ InLine a b z) e f.0
fits_in place a b (r ∷ ls) q f (inr h) = fits_in place a b ls q f.2 h

-- the place of a packet that was taken
taken_call : (turns : ℕ) (w : World) (c : Config) (st : Stands turns w c) (a b : ℕ) (p : Packet) (w1 : World) → Takes w a b p w1 → call_of (st.place (thread_of p)) ≡ Some (call_in a b p)
taken_call turns w c st a b p _ (OffLine ps is) = ap call_of (fits_in st.place a b (w.lines a b) p (st.placed.fits a b) (subst (IsIn p) (sym is) (inl refl)))
taken_call turns w c st a b p _ (OffHold is) = ap call_of (st.placed.waits b (thread_of p) (record { from = a; packet = p }) is)

posted_call : (turns : ℕ) (w x : World) (d : Config) (st2 : Stands turns x d) (a b : ℕ) (p : Packet) → x.lines ≡ at2 w.lines a b (w.lines a b ++ p ∷ []) → call_of (st2.place (thread_of p)) ≡ Some (call_in a b p)
posted_call turns w x d st2 a b p l =
    let last : IsIn p (x.lines a b) = subst (IsIn p) (sym (ap (λ (f : ℕ → ℕ → List Packet). f a b) l ∙ at2_same w.lines a b (w.lines a b ++ p ∷ []))) (in_last p (w.lines a b)) in
    ap call_of (fits_in st2.place a b (x.lines a b) p (st2.placed.fits a b) last)

running_call : (turns : ℕ) (x : World) (d : Config) (st2 : Stands turns x d) (s t : ℕ) (slot : Slot) → x.running s t ≡ Some slot → call_of (st2.place t) ≡ slot.segment.answers
running_call turns x d st2 s t slot is = ap call_of (st2.placed.runs s t slot is)

-- another thread with a call is where it was
other_call : (turns : ℕ) (w x : World) (c d : Config) (st : Stands turns w c) (st2 : Stands turns x d) (t u : ℕ) (k : PendingCall) → OthersStay w x t → (u ≡ t → ⊥) → call_of (st.place u) ≡ Some k → call_of (st2.place u) ≡ call_of (st.place u)
other_call turns w x c d st st2 t u k o ne e = by (st.place u) (st.placed.back u) e
  where
    by : (y : Place) → HasPlace w.running w.waiting w.ended w.lines u y → call_of y ≡ Some k → call_of (st2.place u) ≡ call_of y
    by (At s slot) h q = ap call_of (st2.placed.runs s u slot (o.running s u slot ne h))
    by (InLine a b p) h q = subst (λ n. call_of (st2.place n) ≡ Some (call_in a b p)) h.0 (ap call_of (fits_in st2.place a b (x.lines a b) p (st2.placed.fits a b) (o.lines a b p (λ f. ne (sym h.0 ∙ f)) h.1)))
    by (WaitsAt b y) h q = ap call_of (st2.placed.waits b u y (o.waiting b u y ne h))
    by Nowhere h q = absurd (cc q)
    by Absent h q = absurd (cc q)
    by (EndedAt s y) h q = absurd (cc q)

-- ---- events

-- an event that leaves the pending calls, and its thread's call
linked_same : (turns : ℕ) (w x : World) (c d : Config) (st : Stands turns w c) (st2 : Stands turns x d) (t : ℕ) → OthersStay w x t → x.pending ≡ w.pending → call_of (st2.place t) ≡ call_of (st.place t) → Linked turns w c st → Linked turns x d st2
linked_same turns w x c d st st2 t o p own h s k e is =
    let was : w.pending s k ≡ Some e = ap (λ (f : Table). f s k) (sym p) ∙ is in
    let r : Reaches w.pending e.thread (record { site = s; number = k }) (call_of (st.place e.thread)) = h s k e was in
    subst (λ (f : Table). Reaches f e.thread (record { site = s; number = k }) (call_of (st2.place e.thread))) (sym p) (by r (same_or e.thread t))
  where
    by : Reaches w.pending e.thread (record { site = s; number = k }) (call_of (st.place e.thread)) → ((e.thread ≡ t) ⊎ (e.thread ≡ t → ⊥)) → Reaches w.pending e.thread (record { site = s; number = k }) (call_of (st2.place e.thread))
    by r (inl q) = subst (Reaches w.pending e.thread (record { site = s; number = k })) (ap (λ n. call_of (st.place n)) q ∙ sym own ∙ ap (λ n. call_of (st2.place n)) (sym q)) r
    by r (inr ne) =
        let some = reaches_some w.pending e.thread (record { site = s; number = k }) (call_of (st.place e.thread)) r in
        subst (Reaches w.pending e.thread (record { site = s; number = k })) (sym (other_call turns w x c d st st2 t e.thread some.0 o ne some.1)) r

-- a segment is suspended for a call
linked_more : (turns : ℕ) (w x : World) (c d : Config) (st : Stands turns w c) (st2 : Stands turns x d) (t s k : ℕ) (seg : Segment) → OthersStay w x t → w.pending s k ≡ None → x.pending ≡ at2 w.pending s k (Some (record { thread = t; segment = seg }))
    → call_of (st.place t) ≡ seg.answers → call_of (st2.place t) ≡ Some (record { site = s; number = k }) → Linked turns w c st → Linked turns x d st2
linked_more turns w x c d st st2 t s k seg o free p was now h a j e is =
    subst (λ (f : Table). Reaches f e.thread (record { site = a; number = j }) (call_of (st2.place e.thread))) (sym p) (by (at2_cases w.pending s k (Some new) a j))
  where
    new : Suspended
    new = record { thread = t; segment = seg }

    later : (s2 k2 : ℕ) (y : Suspended) → w.pending s2 k2 ≡ Some y → y.thread ≡ e.thread → at2 w.pending s k (Some new) s2 k2 ≡ Some y
    later s2 k2 y q mine = at2_other w.pending s k (Some new) s2 k2 (λ f g. not_both (w.pending s2 k2) y (ap (λ n. w.pending n k2) f ∙ ap (w.pending s) g ∙ free) q) ∙ q

    there : at2 w.pending s k (Some new) a j ≡ Some e
    there = ap (λ (f : Table). f a j) (sym p) ∙ is

    old : Reaches w.pending e.thread (record { site = a; number = j }) (call_of (st.place e.thread)) → ((e.thread ≡ t) ⊎ (e.thread ≡ t → ⊥)) → Reaches (at2 w.pending s k (Some new)) e.thread (record { site = a; number = j }) (call_of (st2.place e.thread))
    old r (inl q) =
        let r2 : Reaches (at2 w.pending s k (Some new)) e.thread (record { site = a; number = j }) (call_of (st.place e.thread)) = reaches_later w.pending (at2 w.pending s k (Some new)) e.thread (record { site = a; number = j }) later (call_of (st.place e.thread)) r in
        let r3 : Reaches (at2 w.pending s k (Some new)) e.thread (record { site = a; number = j }) seg.answers = subst (Reaches (at2 w.pending s k (Some new)) e.thread (record { site = a; number = j })) (ap (λ n. call_of (st.place n)) q ∙ was) r2 in
        subst (Reaches (at2 w.pending s k (Some new)) e.thread (record { site = a; number = j })) (sym now ∙ ap (λ n. call_of (st2.place n)) (sym q)) (Further (record { site = s; number = k }) new (at2_same w.pending s k (Some new)) (sym q) r3)
    old r (inr ne) =
        let first = reaches_some w.pending e.thread (record { site = a; number = j }) (call_of (st.place e.thread)) r in
        subst (Reaches (at2 w.pending s k (Some new)) e.thread (record { site = a; number = j })) (sym (other_call turns w x c d st st2 t e.thread first.0 o ne first.1))
        (reaches_later w.pending (at2 w.pending s k (Some new)) e.thread (record { site = a; number = j }) later (call_of (st.place e.thread)) r)

    by : (((a ≡ s) × (j ≡ k) × (at2 w.pending s k (Some new) a j ≡ Some new)) ⊎ ((a ≡ s → j ≡ k → ⊥) × (at2 w.pending s k (Some new) a j ≡ w.pending a j))) → Reaches (at2 w.pending s k (Some new)) e.thread (record { site = a; number = j }) (call_of (st2.place e.thread))
    by (inl q) =
        let same : new ≡ e = let first = q.2 in cc (first, there) in
        let of : e.thread ≡ t = ap (λ (y : Suspended). y.thread) (sym same) in
        let key : record { site = s; number = k } ≡ record { site = a; number = j } = ap (λ n. record { site = n; number = k }) (sym q.0) ∙ ap (λ n. record { site = a; number = n }) (sym q.1) in
        subst (Reaches (at2 w.pending s k (Some new)) e.thread (record { site = a; number = j })) (ap Some (sym key) ∙ sym now ∙ ap (λ n. call_of (st2.place n)) (sym of)) (Here e there refl)
    by (inr q) = old (h a j e (sym q.1 ∙ there)) (same_or e.thread t)

-- a segment goes on, and its call is no longer pending
linked_less : (turns : ℕ) (w x : World) (c d : Config) (st : Stands turns w c) (st2 : Stands turns x d) (t b k : ℕ) (y : Suspended) (depth : ℕ) (self : Self Ref) (l : Link) (ls : List Link) → OthersStay w x t → x.pending ≡ at2 w.pending b k None
    → w.pending b k ≡ Some y → Chained w.pending t depth self (Some (record { site = b; number = k })) (l ∷ ls) → call_of (st.place t) ≡ Some (record { site = b; number = k }) → call_of (st2.place t) ≡ y.segment.answers → Linked turns w c st → Linked turns x d st2
linked_less turns w x c d st st2 t b k y depth self l ls o p here ch was now h a j e is =
    subst (λ (f : Table). Reaches f e.thread (record { site = a; number = j }) (call_of (st2.place e.thread))) (sym p) (by (at2_cases w.pending b k None a j))
  where
    there : at2 w.pending b k None a j ≡ Some e
    there = ap (λ (f : Table). f a j) (sym p) ∙ is

    is_link : y ≡ record { thread = t; segment = l.segment }
    is_link = let found : w.pending b k ≡ Some (record { thread = t; segment = l.segment }) = ap (λ (z : PendingCall). w.pending z.site z.number) ch.0 ∙ ch.1.here in cc (found, here)

    fresh : Fresh b k ls
    fresh = subst (λ (z : PendingCall). Fresh z.site z.number ls) (sym ch.0) ch.2

    -- past the first link
    past : (key : PendingCall) (first : Option PendingCall) → first ≡ Some (record { site = b; number = k }) → ((key.site ≡ b) → (key.number ≡ k) → ⊥) → Reaches w.pending t key first → Reaches (at2 w.pending b k None) t key y.segment.answers
    past key _ q ne (Here z at mine) =
        let same : key ≡ record { site = b; number = k } = cc q in
        absurd (ne (ap (λ (v : PendingCall). v.site) same) (ap (λ (v : PendingCall). v.number) same))
    past key _ q ne (Further z v at mine r) =
        let same : z ≡ record { site = b; number = k } = cc q in
        let first_is : w.pending b k ≡ Some v = ap (λ (u : PendingCall). w.pending u.site u.number) (sym same) ∙ at in
        let v_is : v ≡ y = cc (first_is, here) in
        let rest : Reaches w.pending t key l.segment.answers = subst (λ (u : Suspended). Reaches w.pending t key u.segment.answers) (v_is ∙ is_link) r in
        subst (λ (u : Suspended). Reaches (at2 w.pending b k None) t key u.segment.answers) (sym is_link) (reaches_past w.pending t b k key l.segment.depth l.segment.self l.segment.answers ls ch.5 fresh rest)

    other : (z : Suspended) → w.pending b k ≡ Some z → z.thread ≡ t
    other z at = let same : z ≡ y = cc (at, here) in ap (λ (u : Suspended). u.thread) (same ∙ is_link)

    later : (e.thread ≡ t → ⊥) → (s2 k2 : ℕ) (z : Suspended) → w.pending s2 k2 ≡ Some z → z.thread ≡ e.thread → at2 w.pending b k None s2 k2 ≡ Some z
    later ne s2 k2 z at mine = at2_other w.pending b k None s2 k2 (λ f g. ne (sym mine ∙ other z (sym (ap (λ n. w.pending n k2) f ∙ ap (w.pending b) g) ∙ at))) ∙ at

    old : ((a ≡ b) → (j ≡ k) → ⊥) → Reaches w.pending e.thread (record { site = a; number = j }) (call_of (st.place e.thread)) → ((e.thread ≡ t) ⊎ (e.thread ≡ t → ⊥)) → Reaches (at2 w.pending b k None) e.thread (record { site = a; number = j }) (call_of (st2.place e.thread))
    old ne r (inl q) =
        let r2 : Reaches w.pending t (record { site = a; number = j }) (call_of (st.place t)) = subst (λ n. Reaches w.pending n (record { site = a; number = j }) (call_of (st.place n))) q r in
        subst (λ n. Reaches (at2 w.pending b k None) n (record { site = a; number = j }) (call_of (st2.place n))) (sym q)
        (subst (Reaches (at2 w.pending b k None) t (record { site = a; number = j })) (sym now) (past (record { site = a; number = j }) (call_of (st.place t)) was ne r2))
    old ne r (inr apart) =
        let first = reaches_some w.pending e.thread (record { site = a; number = j }) (call_of (st.place e.thread)) r in
        subst (Reaches (at2 w.pending b k None) e.thread (record { site = a; number = j })) (sym (other_call turns w x c d st st2 t e.thread first.0 o apart first.1)) (reaches_later w.pending (at2 w.pending b k None) e.thread (record { site = a; number = j }) (later apart) (call_of (st.place e.thread)) r)

    by : (((a ≡ b) × (j ≡ k) × (at2 w.pending b k None a j ≡ None)) ⊎ ((a ≡ b → j ≡ k → ⊥) × (at2 w.pending b k None a j ≡ w.pending a j))) → Reaches (at2 w.pending b k None) e.thread (record { site = a; number = j }) (call_of (st2.place e.thread))
    by (inl q) = absurd (not_both (at2 w.pending b k None a j) e q.2 there)
    by (inr q) = old q.0 (h a j e (sym q.1 ∙ there)) (same_or e.thread t)

-- a segment that goes on at its site
goes_on_linked : (turns : ℕ) (w x : World) (c d : Config) (st : Stands turns w c) (st2 : Stands turns x d) (s t : ℕ) (slot slot2 : Slot) → w.running s t ≡ Some slot → x.running s t ≡ Some slot2 → slot2.segment.answers ≡ slot.segment.answers → OthersStay w x t → x.pending ≡ w.pending → Linked turns w c st → Linked turns x d st2
goes_on_linked turns w x c d st st2 s t slot slot2 is is2 same o p h = linked_same turns w x c d st st2 t o p (running_call turns x d st2 s t slot2 is2 ∙ same ∙ sym (running_call turns w c st s t slot is)) h

pub linked_kept : LinkedKept
linked_kept turns w x c d st st2 h (Steps _ s t n slot u is few e) =
    goes_on_linked turns w x c d st st2 s t slot (moved slot n u) is (at2_same w.running s t (Some (moved slot n u))) refl (stay_then w (start w s t (moved slot n u)) x t (stay_started w s t (moved slot n u)) (all_stay (start w s t (moved slot n u)) x t refl refl refl)) refl h
linked_kept turns w x c d st st2 h (Acted _ s t n slot u op hs kind loc m y is few e needs does) =
    let slot2 : Slot = moved slot (n + 1) (plug hs y) in
    goes_on_linked turns w x c d st st2 s t slot slot2 is (at2_same w.running s t (Some slot2)) refl (stay_then w (start w s t slot2) x t (stay_started w s t slot2) (all_stay (start w s t slot2) x t refl refl refl)) refl h
linked_kept turns w x c d st st2 h (Forks _ s t n slot u v hs is few e needs room) =
    let slot2 : Slot = moved slot (n + 1) (plug hs (Const (Thread w.threads))) in
    let old : (a z : ℕ) (y : Slot) → w.running a z ≡ Some y → z ≡ w.threads → ⊥ = λ a z y i. below_other z w.threads (running_below turns w c a z y st i) in
    let there : at2 (at2 w.running s t (Some slot2)) s w.threads (Some (calling v)) s t ≡ Some slot2 = at2_other (at2 w.running s t (Some slot2)) s w.threads (Some (calling v)) s t (λ _ q. old s t slot is q) ∙ at2_same w.running s t (Some slot2) in
    goes_on_linked turns w x c d st st2 s t slot slot2 is there refl
    (record {
      running = λ a z y ne i. table_stays (at2 w.running s t (Some slot2)) s w.threads (Some (calling v)) a z y (old a z y i) (table_stays w.running s t (Some slot2) a z y ne i);
      waiting = λ b z y ne i. i;
      lines = λ a b q ne i. i;
    })
    refl h
linked_kept turns w x c d st st2 h (Finishes _ s t n slot u e is none few steps ends) =
    linked_same turns w x c d st st2 t (stay_then w (without w s t) x t (stay_without w s t) (all_stay (without w s t) x t refl refl refl)) refl
    (ap call_of (st2.placed.ends s t e (at2_same w.ended s t (Some e))) ∙ sym none ∙ sym (running_call turns w c st s t slot is)) h
linked_kept turns w x c d st st2 h (Asks _ s t to k slot op hs is few needs free) =
    let p : Packet = Request t k slot.used (activations_at slot.segment.depth hs) (self_at slot.segment.self hs) (wire op) in
    let w1 : World = without w s t in
    let w2 : World = pend w1 s k (Some (record { thread = t; segment = slot.segment })) in
    linked_more turns w x c d st st2 t s k slot.segment (stay_then w w1 x t (stay_without w s t) (stay_then w1 w2 x t (all_stay w1 w2 t refl refl refl) (stay_posted w2 s to p t))) free refl
    (running_call turns w c st s t slot is) (posted_call turns w2 x d st2 s to p refl) h
linked_kept turns w x c d st st2 h (Serves _ w1 a b t k used depth self op kind loc m y o takes may does gives) =
    let p : Packet = Request t k used depth self op in
    let r : Packet = Reply t k (used + 1) o in
    let w2 : World = with_memory w1 m in
    let w3 : World = post w2 b a r in
    linked_same turns w x c d st st2 t (stay_then w w1 x t (stay_taken w a b p w1 takes) (stay_then w1 w2 x t (all_stay w1 w2 t refl refl refl) (stay_then w2 w3 x t (stay_posted w2 b a r t) (all_stay w3 x t refl refl refl))))
    (out_packet turns w c a b p w1 st takes).pending (posted_call turns w2 x d st2 b a r refl ∙ sym (taken_call turns w c st a b p w1 takes)) h
linked_kept turns w x c d st st2 h (Enters _ w1 a b t k used depth self op kind loc m y z takes call does enters) =
    let p : Packet = Request t k used depth self op in
    let slot : Slot = answering a k used depth self z in
    let w2 : World = with_memory w1 m in
    let w3 : World = start w2 b t slot in
    linked_same turns w x c d st st2 t (stay_then w w1 x t (stay_taken w a b p w1 takes) (stay_then w1 w2 x t (all_stay w1 w2 t refl refl refl) (stay_then w2 w3 x t (stay_started w2 b t slot) (all_stay w3 x t refl refl refl))))
    (out_packet turns w c a b p w1 st takes).pending (running_call turns x d st2 b t slot (at2_same w1.running b t (Some slot)) ∙ sym (taken_call turns w c st a b p w1 takes)) h
linked_kept turns w x c d st st2 h (Holds _ w1 a b t k used depth self op takes) =
    let p : Packet = Request t k used depth self op in
    let y : Parked = record { from = a; packet = p } in
    linked_same turns w x c d st st2 t (stay_then w w1 x t (stay_taken w a b p w1 takes) (stay_parked w1 b t (Some y)))
    (out_packet turns w c a b p w1 st takes).pending (ap call_of (st2.placed.waits b t y (at2_same w1.waiting b t (Some y))) ∙ sym (taken_call turns w c st a b p w1 takes)) h
linked_kept turns w x c d st st2 h (Returns _ s t slot call o is answers out) =
    let p : Packet = Reply t call.number slot.used o in
    let w1 : World = without w s t in
    linked_same turns w x c d st st2 t (stay_then w w1 x t (stay_without w s t) (stay_posted w1 s call.site p t)) refl
    (posted_call turns w1 x d st2 s call.site p refl ∙ sym answers ∙ sym (running_call turns w c st s t slot is)) h
linked_kept turns w x c d st st2 h (Resumes _ w1 a b t k used o e op hs takes here needs) =
    let p : Packet = Reply t k used o in
    let q = out_packet turns w c a b p w1 st takes in
    let r = q.carries.1.reads in
    let slot : Slot = record { segment = with_window e.segment (plug hs (answer_term op o)); used = used } in
    let w2 : World = pend w1 b k None in
    linked_less turns w x c d st st2 t b k e r.depth r.self r.link r.links (stay_then w w1 x t (stay_taken w a b p w1 takes) (stay_then w1 w2 x t (all_stay w1 w2 t refl refl refl) (stay_started w2 b t slot)))
    (ap (λ (f : Table). at2 f b k None) q.pending) here (subst (λ (f : Table). Chained f t r.depth r.self (Some (record { site = b; number = k })) (r.link ∷ r.links)) q.pending r.chained)
    (taken_call turns w c st a b p w1 takes) (running_call turns x d st2 b t slot (at2_same w1.running b t (Some slot))) h

pub every_run_linked : EveryRunLinked
every_run_linked trees turns w c st Begin = λ s k e is. absurd (cc is)
every_run_linked trees turns w c st (Then {v = v} r s) =
    let before = every_run_stands trees turns v r in
    linked_kept turns v w before.config c before.stands st (every_run_linked trees turns v before.config before.stands r) s
