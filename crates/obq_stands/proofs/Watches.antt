-- What keeps the lines of conditions and the wakes: an act that changes no line, a GiveUp, an Again, a wake that arrives.
use Rattle.std.specs.Prelude.{Bool, true, false, List, Option, Some, None, [], ◌∷◌, ℕ, refl, ◌||◌, ◌≡◌, ◌⊎◌}
use Rattle.std.proofs.Common.{inl, inr, ap, sym, ◌∙◌, subst, eqb}
use Rattle.obq_model.specs.Config.{ThreadState}
use Rattle.obq_model.specs.Effect.{in_line, line_of}
use Rattle.obq_stands.specs.World.{with_at, at2, Ref, Born, Heap, Packet, thread_of, Parked}
use Rattle.obq_stands.specs.Stands.{Agrees, Place, Nowhere, Absent, At, InLine, WaitsAt, EndedAt, Fits, Placed}
use Rattle.obq_stands.specs.Watch.{Sleeps, Asleep, mark, Watch, LineFits, OutOf, Owed, no_slots, no_endings, Watched, SameLines}
use Rattle.obq_stands.proofs.Update.{same_or, test_refl, with_at_same, with_at_other}
use Rattle.obq_stands.proofs.Places.{IsFree, leave_waiting, leave_line, enter_waiting}
use Rattle.obq_stands.proofs.Sleeping.{one_watch}

-- ---- what is noted

-- where a wake of thread u is noted, u waits for that object at a condition of another site, and is out of its line
pub noted_is_out : (h : Heap) (f : Ref → ℕ) → Agrees f h → (states : ℕ → Option ThreadState) (x : Watch) (pl : ℕ → Place) (b u : ℕ) (k : Parked) (o q : Ref) (y : Born) → Watched h states x pl → x.noted b u ≡ Some k → Asleep h (states u) o q → h q ≡ Some y
    → (in_line u (line_of (Some y.cell)) ≡ false) × (k ≡ mark u o) × (o.site ≡ b)
noted_is_out h f g states x pl b u k o q y wd noted asleep here =
    let owed : Owed h (states u) u (WaitsAt b k) = subst (Owed h (states u) u) (wd.placed.waits b u k noted) (wd.owed u) in
    let out = owed.4 in
    let same = one_watch h f g (states u) o q owed.0 out.condition asleep out.asleep in
    let there : h q ≡ Some out.cell = ap h same.1 ∙ out.here in
    let cells : out.cell ≡ y = cc (there, here) in
    (ap (λ (z : Born). in_line u (line_of (Some z.cell))) (sym cells) ∙ out.out, owed.1 ∙ ap (mark u) (sym same.0), ap (λ (r : Ref). r.site) same.0 ∙ out.to)

-- ---- a change by which thread t, which is awake, changes, and no line

pub asleep_later : (h h2 : Heap) (s s2 : Option ThreadState) (o q : Ref) → ((f : Ref → ℕ) → Agrees f h2 → Agrees f h) → s2 ≡ s → Asleep h s o q → Asleep h2 s2 o q
asleep_later h h2 s s2 o q later same a = λ f g. subst (λ z. Sleeps z (f o) (f q)) (sym same) (a f (later f g))

pub line_later : (h h2 : Heap) (states states2 : ℕ → Option ThreadState) (notes notes2 : ℕ → Option Ref) (r : Ref) (line : List ℕ) → ((f : Ref → ℕ) → Agrees f h2 → Agrees f h)
    → ((u : ℕ) (o : Ref) → in_line u line ≡ true → Asleep h (states u) o r → (states2 u ≡ states u) × (notes2 u ≡ notes u)) → LineFits h states notes r line → LineFits h2 states2 notes2 r line
line_later h h2 states states2 notes notes2 r [] later same fits = tt
line_later h h2 states states2 notes notes2 r (u ∷ us) later same fits =
    let own = same u fits.0 (ap (λ b. b || in_line u us) (test_refl u)) fits.2 in
    (fits.0, own.1 ∙ fits.1, asleep_later h h2 (states u) (states2 u) fits.0 r later own.0 fits.2, fits.3, line_later h h2 states states2 notes notes2 r us later (λ v o i a. same v o (or_right (eqb v u) (in_line v us) i) a) fits.4)
  where
    or_right : (a b : Bool) → b ≡ true → (a || b) ≡ true
    or_right true b e = refl
    or_right false b e = e

out_later : (h h2 : Heap) → SameLines h h2 → (s s2 : Option ThreadState) (u : ℕ) (o : Ref) (a b : ℕ) → s2 ≡ s → OutOf h s u o a b → OutOf h2 s2 u o a b
out_later h h2 sl s s2 u o a b same out =
    let k = sl.kept out.condition out.cell out.here in
    record { condition = out.condition; cell = k.0; from = out.from; to = out.to; here = k.1; out = ap (in_line u) k.2 ∙ out.out; asleep = asleep_later h h2 s s2 o out.condition sl.later same out.asleep }

-- where its state is the same a thread's wake is owed as before
owed_later : (h h2 : Heap) → SameLines h h2 → (s s2 : Option ThreadState) (u : ℕ) (y : Place) → s2 ≡ s → Owed h s u y → Owed h2 s2 u y
owed_later h h2 sl s s2 u Nowhere same o = tt
owed_later h h2 sl s s2 u Absent same o = absurd o
owed_later h h2 sl s s2 u (At a b) same o = absurd o
owed_later h h2 sl s s2 u (InLine a b p) same o = (o.0, o.1, o.2, out_later h h2 sl s s2 u o.0 a b same o.3)
owed_later h h2 sl s s2 u (WaitsAt b k) same o = (o.0, o.1, o.2, o.3, out_later h h2 sl s s2 u o.0 o.2 b same o.4)
owed_later h h2 sl s s2 u (EndedAt a b) same o = absurd o

-- a thread that is awake has no wake
pub awake_owed : (h : Heap) (f : Ref → ℕ) → Agrees f h → (s : Option ThreadState) (u : ℕ) (y : Place) → ((o q : ℕ) → Sleeps s o q → ⊥) → Owed h s u y → y ≡ Nowhere
awake_owed h f g s u Nowhere aw o = refl
awake_owed h f g s u Absent aw o = absurd o
awake_owed h f g s u (At a b) aw o = absurd o
awake_owed h f g s u (InLine a b p) aw o = absurd (aw _ _ (o.3.asleep f g))
awake_owed h f g s u (WaitsAt b k) aw o = absurd (aw _ _ (o.4.asleep f g))
awake_owed h f g s u (EndedAt a b) aw o = absurd o

pub others_keep : (h : Heap) (f : Ref → ℕ) → Agrees f h → (h2 : Heap) (states states2 : ℕ → Option ThreadState) (x : Watch) (pl : ℕ → Place) (t : ℕ) → SameLines h h2 → ((u : ℕ) → (u ≡ t → ⊥) → states2 u ≡ states u) → ((o q : ℕ) → Sleeps (states t) o q → ⊥)
    → Watched h states x pl → Watched h2 states2 x pl
others_keep h f g h2 states states2 x pl t sl others aw wd =
    record {
      lines = λ r y2 e. by_line r y2 (sl.lines r y2 e);
      placed = wd.placed;
      owed = λ u. by_owed u (same_or u t);
    }
  where
    not_t : (u : ℕ) (o r : Ref) → Asleep h (states u) o r → u ≡ t → ⊥
    not_t u o r a e = aw _ _ (subst (λ v. Sleeps (states v) (f o) (f r)) e (a f g))

    by_line : (r : Ref) (y2 : Born) → ((line_of (Some y2.cell) ≡ []) ⊎ ((y : Born) × (h r ≡ Some y) × (line_of (Some y2.cell) ≡ line_of (Some y.cell)))) → LineFits h2 states2 (x.notes r.site) r (line_of (Some y2.cell))
    by_line r y2 (inl e) = subst (LineFits h2 states2 (x.notes r.site) r) (sym e) tt
    by_line r y2 (inr k) =
        subst (LineFits h2 states2 (x.notes r.site) r) (sym k.2)
        (line_later h h2 states states2 (x.notes r.site) (x.notes r.site) r (line_of (Some k.0.cell)) sl.later (λ u o i a. (others u (not_t u o r a), refl)) (wd.lines r k.0 k.1))

    by_owed : (u : ℕ) → ((u ≡ t) ⊎ (u ≡ t → ⊥)) → Owed h2 (states2 u) u (pl u)
    by_owed u (inl e) =
        let gone : pl u ≡ Nowhere = awake_owed h f g (states u) u (pl u) (subst (λ v. (o q : ℕ) → Sleeps (states v) o q → ⊥) (sym e) aw) (wd.owed u) in
        subst (Owed h2 (states2 u) u) (sym gone) tt
    by_owed u (inr ne) = owed_later h h2 sl (states u) (states2 u) u (pl u) (others u ne) (wd.owed u)

-- ---- a GiveUp: thread t stays asleep for the same object at the same condition

pub gives_up : (h : Heap) (f : Ref → ℕ) → Agrees f h → (h2 : Heap) (states states2 : ℕ → Option ThreadState) (x : Watch) (pl : ℕ → Place) (t : ℕ) (o q : Ref) → SameLines h h2 → ((u : ℕ) → (u ≡ t → ⊥) → states2 u ≡ states u) → Asleep h (states t) o q → Asleep h2 (states2 t) o q
    → Watched h states x pl → Watched h2 states2 x pl
gives_up h f g h2 states states2 x pl t o q sl others before after wd =
    record {
      lines = λ r y2 e. by_line r y2 (sl.lines r y2 e);
      placed = wd.placed;
      owed = λ u. by_owed u (pl u) (wd.owed u);
    }
  where
    asleep : (u : ℕ) (o2 r : Ref) → ((u ≡ t) ⊎ (u ≡ t → ⊥)) → Asleep h (states u) o2 r → Asleep h2 (states2 u) o2 r
    asleep u o2 r (inl e) a =
        let same = one_watch h f g (states t) o q o2 r before (subst (λ v. Asleep h (states v) o2 r) e a) in
        subst (λ v. Asleep h2 (states2 v) o2 r) (sym e) (subst (Asleep h2 (states2 t) o2) same.1 (subst (λ z. Asleep h2 (states2 t) z q) same.0 after))
    asleep u o2 r (inr ne) a = asleep_later h h2 (states u) (states2 u) o2 r sl.later (others u ne) a

    lines : (r : Ref) (line : List ℕ) → LineFits h states (x.notes r.site) r line → LineFits h2 states2 (x.notes r.site) r line
    lines r [] fits = tt
    lines r (u ∷ us) fits = (fits.0, fits.1, asleep u fits.0 r (same_or u t) fits.2, fits.3, lines r us fits.4)

    by_line : (r : Ref) (y2 : Born) → ((line_of (Some y2.cell) ≡ []) ⊎ ((y : Born) × (h r ≡ Some y) × (line_of (Some y2.cell) ≡ line_of (Some y.cell)))) → LineFits h2 states2 (x.notes r.site) r (line_of (Some y2.cell))
    by_line r y2 (inl e) = subst (LineFits h2 states2 (x.notes r.site) r) (sym e) tt
    by_line r y2 (inr k) = subst (LineFits h2 states2 (x.notes r.site) r) (sym k.2) (lines r (line_of (Some k.0.cell)) (wd.lines r k.0 k.1))

    out : (u : ℕ) (o2 : Ref) (a b : ℕ) → OutOf h (states u) u o2 a b → OutOf h2 (states2 u) u o2 a b
    out u o2 a b k =
        let c = sl.kept k.condition k.cell k.here in
        record { condition = k.condition; cell = c.0; from = k.from; to = k.to; here = c.1; out = ap (in_line u) c.2 ∙ k.out; asleep = asleep u o2 k.condition (same_or u t) k.asleep }

    by_owed : (u : ℕ) (y : Place) → Owed h (states u) u y → Owed h2 (states2 u) u y
    by_owed u Nowhere k = tt
    by_owed u Absent k = absurd k
    by_owed u (At a b) k = absurd k
    by_owed u (InLine a b p) k = (k.0, k.1, k.2, out u k.0 a b k.3)
    by_owed u (WaitsAt b p) k = (k.0, k.1, k.2, k.3, out u k.0 k.2 b k.4)
    by_owed u (EndedAt a b) k = absurd k

-- ---- an Again: thread t, which is out of the line, is asleep no more

wakes_up_lines : (h : Heap) (f : Ref → ℕ) → Agrees f h → (h2 : Heap) (states states2 : ℕ → Option ThreadState) (x : Watch) (pl : ℕ → Place) (t : ℕ) (o q : Ref) (y : Born) → SameLines h h2 → ((u : ℕ) → (u ≡ t → ⊥) → states2 u ≡ states u)
    → Asleep h (states t) o q → h q ≡ Some y → in_line t (line_of (Some y.cell)) ≡ false → Watched h states x pl → (r : Ref) (y2 : Born) → h2 r ≡ Some y2 → LineFits h2 states2 (x.notes r.site) r (line_of (Some y2.cell))
wakes_up_lines h f g h2 states states2 x pl t o q y sl others before here out wd r y2 e = by (sl.lines r y2 e)
  where
    true_false : (b : Bool) → b ≡ true → b ≡ false → ⊥
    true_false b e f = cc (e, f)

    some_one : (z : Option Born) (a b : Born) → z ≡ Some a → z ≡ Some b → a ≡ b
    some_one z a b e f = cc (e, f)

    not_t : (z : Born) → h r ≡ Some z → (u : ℕ) (o2 : Ref) → in_line u (line_of (Some z.cell)) ≡ true → Asleep h (states u) o2 r → u ≡ t → ⊥
    not_t z there u o2 i a same =
        let w = one_watch h f g (states t) o q o2 r before (subst (λ v. Asleep h (states v) o2 r) same a) in
        let cells : z ≡ y = some_one (h r) z y there (ap h (sym w.1) ∙ here) in
        true_false (in_line t (line_of (Some y.cell))) (ap (λ (b : Born). in_line t (line_of (Some b.cell))) (sym cells) ∙ ap (λ v. in_line v (line_of (Some z.cell))) (sym same) ∙ i) out

    by : ((line_of (Some y2.cell) ≡ []) ⊎ ((z : Born) × (h r ≡ Some z) × (line_of (Some y2.cell) ≡ line_of (Some z.cell)))) → LineFits h2 states2 (x.notes r.site) r (line_of (Some y2.cell))
    by (inl k) = subst (LineFits h2 states2 (x.notes r.site) r) (sym k) tt
    by (inr k) =
        subst (LineFits h2 states2 (x.notes r.site) r) (sym k.2)
        (line_later h h2 states states2 (x.notes r.site) (x.notes r.site) r (line_of (Some k.0.cell)) sl.later (λ u o2 i a. (others u (not_t k.0 k.1 u o2 i a), refl)) (wd.lines r k.0 k.1))

-- over two sites: the noted wake is used up
pub again_noted : (h : Heap) (f : Ref → ℕ) → Agrees f h → (h2 : Heap) (states states2 : ℕ → Option ThreadState) (x : Watch) (pl : ℕ → Place) (t b : ℕ) (k : Parked) (o q : Ref) (y : Born) → SameLines h h2 → ((u : ℕ) → (u ≡ t → ⊥) → states2 u ≡ states u)
    → Asleep h (states t) o q → h q ≡ Some y → in_line t (line_of (Some y.cell)) ≡ false → x.noted b t ≡ Some k → Watched h states x pl → Watched h2 states2 (record x { noted = at2 x.noted b t None }) (with_at pl t Nowhere)
again_noted h f g h2 states states2 x pl t b k o q y sl others before here out noted wd =
    record {
      lines = wakes_up_lines h f g h2 states states2 x pl t o q y sl others before here out wd;
      placed = leave_waiting no_slots x.noted no_endings x.wakes pl b t k wd.placed (wd.placed.waits b t k noted);
      owed = λ u. by u (same_or u t);
    }
  where
    by : (u : ℕ) → ((u ≡ t) ⊎ (u ≡ t → ⊥)) → Owed h2 (states2 u) u (with_at pl t Nowhere u)
    by u (inl e) = subst (λ v. Owed h2 (states2 v) v (with_at pl t Nowhere v)) (sym e) (subst (Owed h2 (states2 t) t) (sym (with_at_same pl t Nowhere)) tt)
    by u (inr ne) = subst (Owed h2 (states2 u) u) (sym (with_at_other pl t Nowhere u ne)) (owed_later h h2 sl (states u) (states2 u) u (pl u) (others u ne) (wd.owed u))

-- at one site there is no wake
pub again_home : (h : Heap) (f : Ref → ℕ) → Agrees f h → (h2 : Heap) (states states2 : ℕ → Option ThreadState) (x : Watch) (pl : ℕ → Place) (t : ℕ) (o q : Ref) (y : Born) → SameLines h h2 → ((u : ℕ) → (u ≡ t → ⊥) → states2 u ≡ states u)
    → Asleep h (states t) o q → h q ≡ Some y → in_line t (line_of (Some y.cell)) ≡ false → o.site ≡ q.site → Watched h states x pl → Watched h2 states2 x pl
again_home h f g h2 states states2 x pl t o q y sl others before here out home wd =
    record {
      lines = wakes_up_lines h f g h2 states states2 x pl t o q y sl others before here out wd;
      placed = wd.placed;
      owed = λ u. by u (same_or u t);
    }
  where
    same_sites : (o2 : Ref) (a b : ℕ) → OutOf h (states t) t o2 a b → a ≡ b
    same_sites o2 a b k =
        let w = one_watch h f g (states t) o q o2 k.condition before k.asleep in
        sym k.from ∙ ap (λ (r : Ref). r.site) (sym w.1) ∙ sym home ∙ ap (λ (r : Ref). r.site) w.0 ∙ k.to

    nowhere : (z : Place) → Owed h (states t) t z → z ≡ Nowhere
    nowhere Nowhere k = refl
    nowhere Absent k = absurd k
    nowhere (At a b) k = absurd k
    nowhere (InLine a b p) k = absurd (k.2 (same_sites k.0 a b k.3))
    nowhere (WaitsAt b p) k = absurd (k.3 (same_sites k.0 k.2 b k.4))
    nowhere (EndedAt a b) k = absurd k

    by : (u : ℕ) → ((u ≡ t) ⊎ (u ≡ t → ⊥)) → Owed h2 (states2 u) u (pl u)
    by u (inl e) = subst (λ v. Owed h2 (states2 v) v (pl v)) (sym e) (subst (Owed h2 (states2 t) t) (sym (nowhere (pl t) (wd.owed t))) tt)
    by u (inr ne) = owed_later h h2 sl (states u) (states2 u) u (pl u) (others u ne) (wd.owed u)

-- ---- a wake arrives and is noted

pub delivered : (h : Heap) (states : ℕ → Option ThreadState) (x : Watch) (pl : ℕ → Place) (a b : ℕ) (p : Packet) (ps : List Packet) → Watched h states x pl → x.wakes a b ≡ p ∷ ps
    → Watched h states (record x { wakes = at2 x.wakes a b ps; noted = at2 x.noted b (thread_of p) (Some (record { from = 0; packet = p })) }) (with_at (with_at pl (thread_of p) Nowhere) (thread_of p) (WaitsAt b (record { from = 0; packet = p })))
delivered h states x pl a b p ps wd first =
    let t : ℕ = thread_of p in
    let all : Fits pl a b (p ∷ ps) = subst (Fits pl a b) first (wd.placed.fits a b) in
    let owed : Owed h (states t) t (InLine a b p) = subst (Owed h (states t) t) all.0 (wd.owed t) in
    let k : Parked = record { from = 0; packet = p } in
    let gone : Placed no_slots x.noted no_endings (at2 x.wakes a b ps) (with_at pl t Nowhere) = leave_line no_slots x.noted no_endings x.wakes pl t a b p ps refl wd.placed first in
    record {
      lines = wd.lines;
      placed = enter_waiting no_slots x.noted no_endings (at2 x.wakes a b ps) (with_at pl t Nowhere) b t k gone (subst IsFree (sym (with_at_same pl t Nowhere)) tt);
      owed = λ u. by t k owed u (same_or u t);
    }
  where
    by : (t : ℕ) (k : Parked) → Owed h (states t) t (InLine a b p) → (u : ℕ) → ((u ≡ t) ⊎ (u ≡ t → ⊥)) → Owed h (states u) u (with_at (with_at pl t Nowhere) t (WaitsAt b (record { from = 0; packet = p })) u)
    by t k owed u (inl e) =
        subst (λ v. Owed h (states v) v (with_at (with_at pl t Nowhere) t (WaitsAt b (record { from = 0; packet = p })) v)) (sym e)
        (subst (Owed h (states t) t) (sym (with_at_same (with_at pl t Nowhere) t (WaitsAt b (record { from = 0; packet = p })))) (owed.0, ap (λ z. record { from = 0; packet = z }) owed.1, a, owed.2, owed.3))
    by t k owed u (inr ne) =
        subst (Owed h (states u) u) (sym (with_at_other (with_at pl t Nowhere) t (WaitsAt b (record { from = 0; packet = p })) u ne ∙ with_at_other pl t Nowhere u ne)) (wd.owed u)
