-- A Signal keeps the lines of conditions and the wakes.
use Rattle.std.specs.Prelude.{Bool, true, false, List, Option, Some, [], ◌∷◌, ◌++◌, ℕ, refl, ◌||◌, ◌≡◌, ◌⊎◌}
use Rattle.std.proofs.Common.{inl, inr, ap, sym, ◌∙◌, subst, eqb}
use Rattle.obq_model.specs.Store.{ConditionCell}
use Rattle.obq_model.specs.Config.{ThreadState}
use Rattle.obq_model.specs.Effect.{in_line, line_of}
use Rattle.obq_stands.specs.World.{with_at, at2, Ref, Born, Heap}
use Rattle.obq_stands.specs.Stands.{Agrees, Place, Nowhere, Absent, At, InLine, WaitsAt, EndedAt}
use Rattle.obq_stands.specs.Watch.{Sleeps, Asleep, wake, Watch, LineFits, OutOf, Owed, no_slots, no_endings, Watched, with_line_at}
use Rattle.obq_stands.proofs.Update.{same_or, test_refl, with_at_same, with_at_other}
use Rattle.obq_stands.proofs.Refs.{ref_or, with_ref_same, with_ref_other}
use Rattle.obq_stands.proofs.Places.{IsFree, enter_line}
use Rattle.obq_stands.proofs.Sleeping.{one_watch}
use Rattle.obq_stands.proofs.Watches.{asleep_later, line_later}
use Rattle.obq_stands.proofs.Lining.{some_born}

-- ---- a Signal by thread t: the first thread is taken out of the line of q

or_left : (a b : Bool) → (a || b) ≡ false → b ≡ false
or_left true b e = absurd (cc e)
or_left false b e = e

record Signalled (h h2 : Heap) (states states2 : ℕ → Option ThreadState) (x : Watch) (pl : ℕ → Place) (u : ℕ) (o q : Ref) (line : List ℕ) : Type 0 where
  lines : (r : Ref) (y2 : Born) → h2 r ≡ Some y2 → LineFits h2 states2 (x.notes r.site) r (line_of (Some y2.cell))
  free : pl u ≡ Nowhere
  there : Born
  here : h2 q ≡ Some there
  out : in_line u (line_of (Some there.cell)) ≡ false
  asleep : Asleep h2 (states2 u) o q
  owed : (v : ℕ) (z : Place) → Owed h (states v) v z → Owed h2 (states2 v) v z

signalled : (h : Heap) (f : Ref → ℕ) → Agrees f h → (h2 : Heap) (states states2 : ℕ → Option ThreadState) (x : Watch) (pl : ℕ → Place) (t u : ℕ) (us : List ℕ) (o q : Ref) (y : Born) → h q ≡ Some y → line_of (Some y.cell) ≡ u ∷ us → h2 ≡ with_line_at h q y.born us
    → ((k : Ref → ℕ) → Agrees k h2 → Agrees k h) → ((v : ℕ) → (v ≡ t → ⊥) → states2 v ≡ states v) → ((a b : ℕ) → Sleeps (states t) a b → ⊥) → x.notes q.site u ≡ Some o → (wd : Watched h states x pl) → Signalled h h2 states states2 x pl u o q us
signalled h f g h2 states states2 x pl t u us o q y here first is later others aw note wd =
    let new : Born = record { born = y.born; cell = ConditionCell us } in
    let fits : LineFits h states (x.notes q.site) q (u ∷ us) = subst (LineFits h states (x.notes q.site) q) first (wd.lines q y here) in
    let own : fits.0 ≡ o = some_ref fits.0 o (sym fits.1 ∙ note) in
    record {
      lines = λ r y2 e. by_line r y2 e (ref_or r q) fits.4;
      free = nowhere (pl u) (wd.owed u) fits.2;
      there = new;
      here = new_at q refl;
      out = fits.3;
      asleep = subst (λ k. Asleep h2 (states2 u) k q) own (asleep_later h h2 (states u) (states2 u) fits.0 q later (others u (not_t u fits.0 q fits.2)) fits.2);
      owed = owed;
    }
  where
    some_ref : (a b : Ref) → Some a ≡ Some b → a ≡ b
    some_ref a b e = cc e

    new_at : (r : Ref) → r ≡ q → h2 r ≡ Some (record { born = y.born; cell = ConditionCell us })
    new_at r p = ap (λ k. k r) is ∙ rw p (with_ref_same h q (Some (record { born = y.born; cell = ConditionCell us })))

    old_at : (r : Ref) → (r ≡ q → ⊥) → h2 r ≡ h r
    old_at r ne = ap (λ k. k r) is ∙ with_ref_other h q (Some (record { born = y.born; cell = ConditionCell us })) r ne

    not_t : (v : ℕ) (o2 r : Ref) → Asleep h (states v) o2 r → v ≡ t → ⊥
    not_t v o2 r a e = aw _ _ (subst (λ w. Sleeps (states w) (f o2) (f r)) e (a f g))

    old_line : (r : Ref) (line : List ℕ) → LineFits h states (x.notes r.site) r line → LineFits h2 states2 (x.notes r.site) r line
    old_line r line k = line_later h h2 states states2 (x.notes r.site) (x.notes r.site) r line later (λ v o2 i a. (others v (not_t v o2 r a), refl)) k

    by_line : (r : Ref) (y2 : Born) → h2 r ≡ Some y2 → ((r ≡ q) ⊎ (r ≡ q → ⊥)) → LineFits h states (x.notes q.site) q us → LineFits h2 states2 (x.notes r.site) r (line_of (Some y2.cell))
    by_line r y2 e (inl p) rest =
        let cells = some_born (h2 r) (record { born = y.born; cell = ConditionCell us }) y2 (new_at r p) e in
        subst (λ (b : Born). LineFits h2 states2 (x.notes r.site) r (line_of (Some b.cell))) cells (subst (λ k. LineFits h2 states2 (x.notes k.site) k us) (sym p) (old_line q us rest))
    by_line r y2 e (inr ne) rest = old_line r (line_of (Some y2.cell)) (wd.lines r y2 (sym (old_at r ne) ∙ e))

    in_line_there : (o2 : Ref) (a b : ℕ) → OutOf h (states u) u o2 a b → (o3 : Ref) → Asleep h (states u) o3 q → ⊥
    in_line_there o2 a b k o3 asleep =
        let w = one_watch h f g (states u) o3 q o2 k.condition asleep k.asleep in
        let cells : y ≡ k.cell = some_born (h k.condition) y k.cell (ap h (sym w.1) ∙ here) k.here in
        let gone : in_line u (u ∷ us) ≡ false = ap (in_line u) (sym first) ∙ ap (λ (b : Born). in_line u (line_of (Some b.cell))) cells ∙ k.out in
        let there : in_line u (u ∷ us) ≡ true = ap (λ b. b || in_line u us) (test_refl u) in
        apart (in_line u (u ∷ us)) there gone
      where
        apart : (b : Bool) → b ≡ true → b ≡ false → ⊥
        apart b e f = cc (e, f)

    nowhere : (z : Place) → Owed h (states u) u z → {o3 : Ref} → Asleep h (states u) o3 q → z ≡ Nowhere
    nowhere Nowhere k a = refl
    nowhere Absent k a = absurd k
    nowhere (At i j) k a = absurd k
    nowhere (InLine i j p) k {o3 = o3} a = absurd (in_line_there k.0 i j k.3 o3 a)
    nowhere (WaitsAt j p) k {o3 = o3} a = absurd (in_line_there k.0 k.2 j k.4 o3 a)
    nowhere (EndedAt i j) k a = absurd k

    out : (v : ℕ) (o2 : Ref) (a b : ℕ) (k : OutOf h (states v) v o2 a b) → ((k.condition ≡ q) ⊎ (k.condition ≡ q → ⊥)) → OutOf h2 (states2 v) v o2 a b
    out v o2 a b k (inl p) =
        let cells : y ≡ k.cell = some_born (h k.condition) y k.cell (rw p here) k.here in
        record {
          condition = k.condition;
          cell = record { born = y.born; cell = ConditionCell us };
          from = k.from;
          to = k.to;
          here = new_at k.condition p;
          out = or_left (eqb v u) (in_line v us) (ap (in_line v) (sym first) ∙ ap (λ (b : Born). in_line v (line_of (Some b.cell))) cells ∙ k.out);
          asleep = asleep_later h h2 (states v) (states2 v) o2 k.condition later (others v (not_t v o2 k.condition k.asleep)) k.asleep;
        }
    out v o2 a b k (inr p) =
        record { condition = k.condition; cell = k.cell; from = k.from; to = k.to; here = old_at k.condition p ∙ k.here; out = k.out; asleep = asleep_later h h2 (states v) (states2 v) o2 k.condition later (others v (not_t v o2 k.condition k.asleep)) k.asleep }

    owed : (v : ℕ) (z : Place) → Owed h (states v) v z → Owed h2 (states2 v) v z
    owed v Nowhere k = tt
    owed v Absent k = absurd k
    owed v (At a b) k = absurd k
    owed v (InLine a b p) k = (k.0, k.1, k.2, out v k.0 a b k.3 (ref_or k.3.condition q))
    owed v (WaitsAt b p) k = (k.0, k.1, k.2, k.3, out v k.0 k.2 b k.4 (ref_or k.4.condition q))
    owed v (EndedAt a b) k = absurd k

-- at one site no wake is needed
pub signal_home : (h : Heap) (f : Ref → ℕ) → Agrees f h → (h2 : Heap) (states states2 : ℕ → Option ThreadState) (x : Watch) (pl : ℕ → Place) (t u : ℕ) (us : List ℕ) (o q : Ref) (y : Born) → h q ≡ Some y → line_of (Some y.cell) ≡ u ∷ us → h2 ≡ with_line_at h q y.born us
    → ((k : Ref → ℕ) → Agrees k h2 → Agrees k h) → ((v : ℕ) → (v ≡ t → ⊥) → states2 v ≡ states v) → ((a b : ℕ) → Sleeps (states t) a b → ⊥) → x.notes q.site u ≡ Some o → Watched h states x pl → Watched h2 states2 x pl
signal_home h f g h2 states states2 x pl t u us o q y here first is later others aw note wd =
    let k = signalled h f g h2 states states2 x pl t u us o q y here first is later others aw note wd in
    record { lines = k.lines; placed = wd.placed; owed = λ v. k.owed v (pl v) (wd.owed v) }

-- over two sites a wake is posted
pub signal_away : (h : Heap) (f : Ref → ℕ) → Agrees f h → (h2 : Heap) (states states2 : ℕ → Option ThreadState) (x : Watch) (pl : ℕ → Place) (t u : ℕ) (us : List ℕ) (o q : Ref) (y : Born) → h q ≡ Some y → line_of (Some y.cell) ≡ u ∷ us → h2 ≡ with_line_at h q y.born us
    → ((k : Ref → ℕ) → Agrees k h2 → Agrees k h) → ((v : ℕ) → (v ≡ t → ⊥) → states2 v ≡ states v) → ((a b : ℕ) → Sleeps (states t) a b → ⊥) → x.notes q.site u ≡ Some o → (q.site ≡ o.site → ⊥) → Watched h states x pl
    → Watched h2 states2 (record x { wakes = at2 x.wakes q.site o.site (x.wakes q.site o.site ++ wake u o ∷ []) }) (with_at pl u (InLine q.site o.site (wake u o)))
signal_away h f g h2 states states2 x pl t u us o q y here first is later others aw note far wd =
    let k = signalled h f g h2 states states2 x pl t u us o q y here first is later others aw note wd in
    record {
      lines = k.lines;
      placed = enter_line no_slots x.noted no_endings x.wakes pl u q.site o.site (wake u o) refl wd.placed (subst IsFree (sym k.free) tt);
      owed = λ v. by (o, refl, far, record { condition = q; cell = k.there; from = refl; to = refl; here = k.here; out = k.out; asleep = k.asleep }) k.owed v (same_or v u);
    }
  where
    by : Owed h2 (states2 u) u (InLine q.site o.site (wake u o)) → ((v : ℕ) (z : Place) → Owed h (states v) v z → Owed h2 (states2 v) v z) → (v : ℕ) → ((v ≡ u) ⊎ (v ≡ u → ⊥)) → Owed h2 (states2 v) v (with_at pl u (InLine q.site o.site (wake u o)) v)
    by now old v (inl e) =
        subst (λ w. Owed h2 (states2 w) w (with_at pl u (InLine q.site o.site (wake u o)) w)) (sym e) (subst (Owed h2 (states2 u) u) (sym (with_at_same pl u (InLine q.site o.site (wake u o)))) now)
    by now old v (inr ne) = subst (Owed h2 (states2 v) v) (sym (with_at_other pl u (InLine q.site o.site (wake u o)) v ne)) (old v (pl v) (wd.owed v))
