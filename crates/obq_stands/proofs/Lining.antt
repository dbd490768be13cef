-- A Line keeps the lines of conditions and the wakes.
use Rattle.std.specs.Prelude.{Bool, true, false, List, Option, Some, [], ◌∷◌, ◌++◌, ℕ, refl, ◌||◌, ◌≡◌, ◌⊎◌}
use Rattle.std.proofs.Common.{inl, inr, ap, sym, ◌∙◌, subst, eqb}
use Rattle.obq_model.specs.Store.{ConditionCell}
use Rattle.obq_model.specs.Config.{ThreadState}
use Rattle.obq_model.specs.Effect.{in_line, line_of}
use Rattle.obq_stands.specs.World.{at2, Ref, Born, Heap}
use Rattle.obq_stands.specs.Stands.{Agrees, Place, Nowhere, Absent, At, InLine, WaitsAt, EndedAt}
use Rattle.obq_stands.specs.Watch.{Sleeps, Asleep, Watch, LineFits, OutOf, Owed, Watched, with_line_at}
use Rattle.obq_stands.proofs.Update.{same_or, test_refl, test_no, at2_same, at2_other}
use Rattle.obq_stands.proofs.Refs.{ref_or, with_ref_same, with_ref_other}
use Rattle.obq_stands.proofs.Watches.{asleep_later, awake_owed, line_later}

-- ---- a Line: thread t is last in the line of q

pub in_more : (u t : ℕ) (line : List ℕ) → in_line u (line ++ t ∷ []) ≡ (in_line u line || (eqb u t || false))
in_more u t [] = refl
in_more u t (v ∷ vs) = ap (λ b. eqb u v || b) (in_more u t vs) ∙ or_assoc (eqb u v) (in_line u vs) (eqb u t || false)
  where
    or_assoc : (a b c : Bool) → (a || (b || c)) ≡ ((a || b) || c)
    or_assoc true b c = refl
    or_assoc false b c = refl

not_in_more : (u t : ℕ) (line : List ℕ) → in_line u line ≡ false → (u ≡ t → ⊥) → in_line u (line ++ t ∷ []) ≡ false
not_in_more u t line e ne = in_more u t line ∙ ap (λ b. b || (eqb u t || false)) e ∙ ap (λ b. b || false) (test_no u t ne)

line_more : (h : Heap) (states : ℕ → Option ThreadState) (notes : ℕ → Option Ref) (r : Ref) (t : ℕ) (o : Ref) (line : List ℕ) → LineFits h states notes r line → ((u : ℕ) → in_line u line ≡ true → u ≡ t → ⊥) → notes t ≡ Some o → Asleep h (states t) o r
    → LineFits h states notes r (line ++ t ∷ [])
line_more h states notes r t o [] fits away n a = (o, n, a, refl, tt)
line_more h states notes r t o (u ∷ us) fits away n a =
    (fits.0, fits.1, fits.2, not_in_more u t us fits.3 (away u (ap (λ b. b || in_line u us) (test_refl u))), line_more h states notes r t o us fits.4 (λ v i. away v (or_right (eqb v u) (in_line v us) i)) n a)
  where
    or_right : (a b : Bool) → b ≡ true → (a || b) ≡ true
    or_right true b e = refl
    or_right false b e = e

-- every thread of a line that fits is asleep
in_line_asleep : (h : Heap) (states : ℕ → Option ThreadState) (notes : ℕ → Option Ref) (r : Ref) (line : List ℕ) (u : ℕ) → LineFits h states notes r line → in_line u line ≡ true → (o : Ref) × Asleep h (states u) o r
in_line_asleep h states notes r [] u fits i = absurd (cc i)
in_line_asleep h states notes r (v ∷ vs) u fits i = by (same_or u v) (λ k. in_line_asleep h states notes r vs u fits.4 k)
  where
    skip : (a b : Bool) → a ≡ false → (a || b) ≡ true → b ≡ true
    skip true b e f = absurd (cc e)
    skip false b e f = f

    by : ((u ≡ v) ⊎ (u ≡ v → ⊥)) → (in_line u vs ≡ true → (o : Ref) × Asleep h (states u) o r) → (o : Ref) × Asleep h (states u) o r
    by (inl e) again = (fits.0, subst (λ w. Asleep h (states w) fits.0 r) (sym e) fits.2)
    by (inr ne) again = again (skip (eqb u v) (in_line u vs) (test_no u v ne) i)

pub some_born : (z : Option Born) (a b : Born) → z ≡ Some a → z ≡ Some b → a ≡ b
some_born z a b e f = cc (e, f)

pub lines_up : (h : Heap) (f : Ref → ℕ) → Agrees f h → (h2 : Heap) (states states2 : ℕ → Option ThreadState) (x : Watch) (pl : ℕ → Place) (t : ℕ) (o q : Ref) (y : Born) → h q ≡ Some y → h2 ≡ with_line_at h q y.born (line_of (Some y.cell) ++ t ∷ []) → ((g : Ref → ℕ) → Agrees g h2 → Agrees g h)
    → ((u : ℕ) → (u ≡ t → ⊥) → states2 u ≡ states u) → ((a b : ℕ) → Sleeps (states t) a b → ⊥) → Asleep h2 (states2 t) o q → Watched h states x pl → Watched h2 states2 (record x { notes = at2 x.notes q.site t (Some o) }) pl
lines_up h f g h2 states states2 x pl t o q y here is later others aw after wd =
    record {
      lines = λ r y2 e. by_line r y2 e (ref_or r q);
      placed = wd.placed;
      owed = λ u. by_owed u (same_or u t);
    }
  where
    new : Born
    new = record { born = y.born; cell = ConditionCell (line_of (Some y.cell) ++ t ∷ []) }

    notes2 : ℕ → ℕ → Option Ref
    notes2 = at2 x.notes q.site t (Some o)

    new_at : (r : Ref) → r ≡ q → h2 r ≡ Some new
    new_at r p = ap (λ k. k r) is ∙ rw p (with_ref_same h q (Some new))

    old_at : (r : Ref) → (r ≡ q → ⊥) → h2 r ≡ h r
    old_at r ne = ap (λ k. k r) is ∙ with_ref_other h q (Some new) r ne

    not_t : (u : ℕ) (o2 r : Ref) → Asleep h (states u) o2 r → u ≡ t → ⊥
    not_t u o2 r a e = aw _ _ (subst (λ v. Sleeps (states v) (f o2) (f r)) e (a f g))

    old_line : (r : Ref) (line : List ℕ) → LineFits h states (x.notes r.site) r line → LineFits h2 states2 (notes2 r.site) r line
    old_line r line fits = line_later h h2 states states2 (x.notes r.site) (notes2 r.site) r line later (λ u o2 i a. (others u (not_t u o2 r a), at2_other x.notes q.site t (Some o) r.site u (λ _ e. not_t u o2 r a e))) fits

    away : (u : ℕ) → in_line u (line_of (Some y.cell)) ≡ true → u ≡ t → ⊥
    away u i e = let k = in_line_asleep h states (x.notes q.site) q (line_of (Some y.cell)) u (wd.lines q y here) i in not_t u k.0 q k.1 e

    by_line : (r : Ref) (y2 : Born) → h2 r ≡ Some y2 → ((r ≡ q) ⊎ (r ≡ q → ⊥)) → LineFits h2 states2 (notes2 r.site) r (line_of (Some y2.cell))
    by_line r y2 e (inl p) =
        let cells : new ≡ y2 = some_born (h2 r) new y2 (new_at r p) e in
        subst (λ (b : Born). LineFits h2 states2 (notes2 r.site) r (line_of (Some b.cell))) cells
        (subst (λ k. LineFits h2 states2 (notes2 k.site) k (line_of (Some y.cell) ++ t ∷ [])) (sym p)
        (line_more h2 states2 (notes2 q.site) q t o (line_of (Some y.cell)) (old_line q (line_of (Some y.cell)) (wd.lines q y here)) away (at2_same x.notes q.site t (Some o)) after))
    by_line r y2 e (inr ne) = old_line r (line_of (Some y2.cell)) (wd.lines r y2 (sym (old_at r ne) ∙ e))

    out : (u : ℕ) (o2 : Ref) (a b : ℕ) → (u ≡ t → ⊥) → (k : OutOf h (states u) u o2 a b) → ((k.condition ≡ q) ⊎ (k.condition ≡ q → ⊥)) → OutOf h2 (states2 u) u o2 a b
    out u o2 a b ne k (inl p) =
        let cells : y ≡ k.cell = some_born (h k.condition) y k.cell (rw p here) k.here in
        record {
          condition = k.condition;
          cell = new;
          from = k.from;
          to = k.to;
          here = new_at k.condition p;
          out = not_in_more u t (line_of (Some y.cell)) (ap (λ (b : Born). in_line u (line_of (Some b.cell))) cells ∙ k.out) ne;
          asleep = asleep_later h h2 (states u) (states2 u) o2 k.condition later (others u ne) k.asleep;
        }
    out u o2 a b ne k (inr p) =
        record { condition = k.condition; cell = k.cell; from = k.from; to = k.to; here = old_at k.condition p ∙ k.here; out = k.out; asleep = asleep_later h h2 (states u) (states2 u) o2 k.condition later (others u ne) k.asleep }

    owed : (u : ℕ) → (u ≡ t → ⊥) → (z : Place) → Owed h (states u) u z → Owed h2 (states2 u) u z
    owed u ne Nowhere k = tt
    owed u ne Absent k = absurd k
    owed u ne (At a b) k = absurd k
    owed u ne (InLine a b p) k = (k.0, k.1, k.2, out u k.0 a b ne k.3 (ref_or k.3.condition q))
    owed u ne (WaitsAt b p) k = (k.0, k.1, k.2, k.3, out u k.0 k.2 b ne k.4 (ref_or k.4.condition q))
    owed u ne (EndedAt a b) k = absurd k

    by_owed : (u : ℕ) → ((u ≡ t) ⊎ (u ≡ t → ⊥)) → Owed h2 (states2 u) u (pl u)
    by_owed u (inl e) =
        let gone : pl u ≡ Nowhere = awake_owed h f g (states u) u (pl u) (subst (λ v. (a b : ℕ) → Sleeps (states v) a b → ⊥) (sym e) aw) (wd.owed u) in
        subst (Owed h2 (states2 u) u) (sym gone) tt
    by_owed u (inr ne) = owed u ne (pl u) (wd.owed u)
