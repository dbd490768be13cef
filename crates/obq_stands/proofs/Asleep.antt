-- The other half: a thread that is asleep over two sites and has no wake is in the line, so its Again waits.
use Rattle.std.specs.Prelude.{Bool, true, false, List, Option, Some, None, [], ◌∷◌, ◌++◌, ℕ, option_map, refl, ◌||◌, ◌≡◌, ◌⊎◌}
use Rattle.std.proofs.Common.{inl, inr, ap, sym, ◌∙◌, subst, eqb}
use Rattle.obq_model.specs.Terms.{Term}
use Rattle.obq_model.specs.Store.{ConditionCell}
use Rattle.obq_model.specs.Step.{Self, Again}
use Rattle.obq_model.specs.Config.{ThreadState}
use Rattle.obq_model.specs.Effect.{in_line, line_of}
use Rattle.obq_model.specs.Cells.{again_row}
use Rattle.obq_model.proofs.Options.{not_both}
use Rattle.obq_stands.specs.World.{with_at, Ref, Born, Heap, Memory, Parked, Ending, Idle, Ends}
use Rattle.obq_stands.specs.Stands.{Agrees, Place, Nowhere, Absent, At, InLine, WaitsAt, EndedAt, IsIn, HasPlace}
use Rattle.obq_stands.specs.Over.{Waits, RetakeWaits}
use Rattle.obq_stands.specs.Watch.{Sleeps, Asleep, Watch, Owed, no_slots, no_endings, Watched, Slept, with_line_at, SameLines}
use Rattle.obq_stands.proofs.Update.{same_or, test_refl, test_no, with_at_same, with_at_other}
use Rattle.obq_stands.proofs.Refs.{ref_or, with_ref_same, with_ref_other}
use Rattle.obq_stands.proofs.Lining.{in_more, some_born}
use Rattle.obq_stands.proofs.Sleeping.{one_watch}
use Rattle.obq_stands.proofs.Watches.{asleep_later}

abbrev Sleep : Type 0
Sleep = Option (Ref × Ref)

some_one : (a b : Ref) → Some a ≡ Some b → a ≡ b
some_one a b e = cc e

some_pair : (s : Sleep) (o q o2 q2 : Ref) → s ≡ Some (o, q) → s ≡ Some (o2, q2) → (o ≡ o2) × (q ≡ q2)
some_pair s o q o2 q2 e f = (some_one o o2 (ap (option_map (λ (x : Ref × Ref). x.0)) (sym e ∙ f)), some_one q q2 (ap (option_map (λ (x : Ref × Ref). x.1)) (sym e ∙ f)))

-- ---- thread t is awake before and after a change that keeps the lines, or it wakes up

pub awake_keeps : (h h2 : Heap) (states states2 : ℕ → Option ThreadState) (pl pl2 : ℕ → Place) (t : ℕ) → SameLines h h2 → ((u : ℕ) → (u ≡ t → ⊥) → states2 u ≡ states u) → ((u : ℕ) → (u ≡ t → ⊥) → pl2 u ≡ pl u)
    → ((a b : ℕ) → Sleeps (states2 t) a b → ⊥) → Slept h states pl → Slept h2 states2 pl2
awake_keeps h h2 states states2 pl pl2 t sl others places aw s =
    record {
      sleep = with_at s.sleep t None;
      asleep = λ u o q e. by_asleep u o q e (same_or u t);
      awake = λ u e. by_awake u e (same_or u t);
      there = λ u o q e. by_there u o q e (same_or u t);
      lined = λ u o q y e far gone here. by_lined u o q y e far gone here (same_or u t);
    }
  where
    not_t : (u : ℕ) (p : Ref × Ref) → with_at s.sleep t None u ≡ Some p → u ≡ t → ⊥
    not_t u p e same = not_both (with_at s.sleep t None t) p (with_at_same s.sleep t None) (ap (with_at s.sleep t None) (sym same) ∙ e)

    old : (u : ℕ) (p : Ref × Ref) → (u ≡ t → ⊥) → with_at s.sleep t None u ≡ Some p → s.sleep u ≡ Some p
    old u p ne e = sym (with_at_other s.sleep t None u ne) ∙ e

    by_asleep : (u : ℕ) (o q : Ref) → with_at s.sleep t None u ≡ Some (o, q) → ((u ≡ t) ⊎ (u ≡ t → ⊥)) → Asleep h2 (states2 u) o q
    by_asleep u o q e (inl same) = absurd (not_t u (o, q) e same)
    by_asleep u o q e (inr ne) = asleep_later h h2 (states u) (states2 u) o q sl.later (others u ne) (s.asleep u o q (old u (o, q) ne e))

    by_awake : (u : ℕ) → with_at s.sleep t None u ≡ None → ((u ≡ t) ⊎ (u ≡ t → ⊥)) → (a b : ℕ) → Sleeps (states2 u) a b → ⊥
    by_awake u e (inl same) a b k = aw a b (subst (λ v. Sleeps (states2 v) a b) same k)
    by_awake u e (inr ne) a b k = s.awake u (sym (with_at_other s.sleep t None u ne) ∙ e) a b (subst (λ z. Sleeps z a b) (others u ne) k)

    by_there : (u : ℕ) (o q : Ref) → with_at s.sleep t None u ≡ Some (o, q) → ((u ≡ t) ⊎ (u ≡ t → ⊥)) → (y : Born) × (h2 q ≡ Some y)
    by_there u o q e (inl same) = absurd (not_t u (o, q) e same)
    by_there u o q e (inr ne) = let k = s.there u o q (old u (o, q) ne e) in let c = sl.kept q k.0 k.1 in (c.0, c.1)

    by_lined : (u : ℕ) (o q : Ref) (y : Born) → with_at s.sleep t None u ≡ Some (o, q) → (q.site ≡ o.site → ⊥) → pl2 u ≡ Nowhere → h2 q ≡ Some y → ((u ≡ t) ⊎ (u ≡ t → ⊥)) → in_line u (line_of (Some y.cell)) ≡ true
    by_lined u o q y e far gone here (inl same) = absurd (not_t u (o, q) e same)
    by_lined u o q y e far gone here (inr ne) =
        let k = s.there u o q (old u (o, q) ne e) in
        let c = sl.kept q k.0 k.1 in
        let cells : c.0 ≡ y = some_born (h2 q) c.0 y c.1 here in
        ap (λ (b : Born). in_line u (line_of (Some b.cell))) (sym cells) ∙ ap (in_line u) c.2 ∙ s.lined u o q k.0 (old u (o, q) ne e) far (sym (places u ne) ∙ gone) k.1

-- ---- a GiveUp: thread t stays asleep

pub gives_up_keeps : (h : Heap) (f : Ref → ℕ) → Agrees f h → (h2 : Heap) (states states2 : ℕ → Option ThreadState) (pl : ℕ → Place) (t : ℕ) (o q : Ref) → SameLines h h2 → ((u : ℕ) → (u ≡ t → ⊥) → states2 u ≡ states u) → Asleep h (states t) o q → Asleep h2 (states2 t) o q
    → Slept h states pl → Slept h2 states2 pl
gives_up_keeps h f g h2 states states2 pl t o q sl others before after s =
    record {
      sleep = s.sleep;
      asleep = λ u o2 q2 e. by_asleep u o2 q2 e (same_or u t);
      awake = λ u e. by_awake u e (same_or u t);
      there = λ u o2 q2 e. let k = s.there u o2 q2 e in let c = sl.kept q2 k.0 k.1 in (c.0, c.1);
      lined = λ u o2 q2 y e far gone here.
          let k = s.there u o2 q2 e in
          let c = sl.kept q2 k.0 k.1 in
          let cells : c.0 ≡ y = some_born (h2 q2) c.0 y c.1 here in
          ap (λ (b : Born). in_line u (line_of (Some b.cell))) (sym cells) ∙ ap (in_line u) c.2 ∙ s.lined u o2 q2 k.0 e far gone k.1;
    }
  where
    by_asleep : (u : ℕ) (o2 q2 : Ref) → s.sleep u ≡ Some (o2, q2) → ((u ≡ t) ⊎ (u ≡ t → ⊥)) → Asleep h2 (states2 u) o2 q2
    by_asleep u o2 q2 e (inl same) =
        let w = one_watch h f g (states t) o q o2 q2 before (subst (λ v. Asleep h (states v) o2 q2) same (s.asleep u o2 q2 e)) in
        subst (λ v. Asleep h2 (states2 v) o2 q2) (sym same) (subst (Asleep h2 (states2 t) o2) w.1 (subst (λ z. Asleep h2 (states2 t) z q) w.0 after))
    by_asleep u o2 q2 e (inr ne) = asleep_later h h2 (states u) (states2 u) o2 q2 sl.later (others u ne) (s.asleep u o2 q2 e)

    by_awake : (u : ℕ) → s.sleep u ≡ None → ((u ≡ t) ⊎ (u ≡ t → ⊥)) → (a b : ℕ) → Sleeps (states2 u) a b → ⊥
    by_awake u e (inl same) a b k = absurd (s.awake u e _ _ (subst (λ v. Sleeps (states v) (f o) (f q)) (sym same) (before f g)))
    by_awake u e (inr ne) a b k = s.awake u e a b (subst (λ z. Sleeps z a b) (others u ne) k)

-- ---- a Line

pub lines_up_keeps : (h h2 : Heap) (states states2 : ℕ → Option ThreadState) (pl : ℕ → Place) (t : ℕ) (o q : Ref) (y : Born) → h q ≡ Some y → h2 ≡ with_line_at h q y.born (line_of (Some y.cell) ++ t ∷ []) → ((g : Ref → ℕ) → Agrees g h2 → Agrees g h)
    → ((u : ℕ) → (u ≡ t → ⊥) → states2 u ≡ states u) → Asleep h2 (states2 t) o q → Slept h states pl → Slept h2 states2 pl
lines_up_keeps h h2 states states2 pl t o q y here is later others after s =
    record {
      sleep = with_at s.sleep t (Some (o, q));
      asleep = λ u o2 q2 e. by_asleep u o2 q2 e (same_or u t);
      awake = λ u e. by_awake u e (same_or u t);
      there = λ u o2 q2 e. by_there u o2 q2 e (same_or u t);
      lined = λ u o2 q2 z e far gone at. by_lined u o2 q2 z e far gone at (same_or u t);
    }
  where
    own : (u : ℕ) (o2 q2 : Ref) → with_at s.sleep t (Some (o, q)) u ≡ Some (o2, q2) → u ≡ t → (o ≡ o2) × (q ≡ q2)
    own u o2 q2 e same = some_pair (with_at s.sleep t (Some (o, q)) u) o q o2 q2 (rw same (with_at_same s.sleep t (Some (o, q)))) e

    old : (u : ℕ) (p : Ref × Ref) → (u ≡ t → ⊥) → with_at s.sleep t (Some (o, q)) u ≡ Some p → s.sleep u ≡ Some p
    old u p ne e = sym (with_at_other s.sleep t (Some (o, q)) u ne) ∙ e

    new_at : (r : Ref) → r ≡ q → h2 r ≡ Some (record { born = y.born; cell = ConditionCell (line_of (Some y.cell) ++ t ∷ []) })
    new_at r p = ap (λ k. k r) is ∙ rw p (with_ref_same h q (Some (record { born = y.born; cell = ConditionCell (line_of (Some y.cell) ++ t ∷ []) })))

    old_at : (r : Ref) → (r ≡ q → ⊥) → h2 r ≡ h r
    old_at r ne = ap (λ k. k r) is ∙ with_ref_other h q (Some (record { born = y.born; cell = ConditionCell (line_of (Some y.cell) ++ t ∷ []) })) r ne

    at_there : (r : Ref) (z : Born) → h r ≡ Some z → ((r ≡ q) ⊎ (r ≡ q → ⊥)) → (z2 : Born) × (h2 r ≡ Some z2)
    at_there r z e (inl p) = (record { born = y.born; cell = ConditionCell (line_of (Some y.cell) ++ t ∷ []) }, new_at r p)
    at_there r z e (inr ne) = (z, old_at r ne ∙ e)

    by_asleep : (u : ℕ) (o2 q2 : Ref) → with_at s.sleep t (Some (o, q)) u ≡ Some (o2, q2) → ((u ≡ t) ⊎ (u ≡ t → ⊥)) → Asleep h2 (states2 u) o2 q2
    by_asleep u o2 q2 e (inl same) =
        let w = own u o2 q2 e same in
        subst (λ v. Asleep h2 (states2 v) o2 q2) (sym same) (subst (Asleep h2 (states2 t) o2) w.1 (subst (λ z. Asleep h2 (states2 t) z q) w.0 after))
    by_asleep u o2 q2 e (inr ne) = asleep_later h h2 (states u) (states2 u) o2 q2 later (others u ne) (s.asleep u o2 q2 (old u (o2, q2) ne e))

    by_awake : (u : ℕ) → with_at s.sleep t (Some (o, q)) u ≡ None → ((u ≡ t) ⊎ (u ≡ t → ⊥)) → (a b : ℕ) → Sleeps (states2 u) a b → ⊥
    by_awake u e (inl same) a b k = not_both (with_at s.sleep t (Some (o, q)) u) (o, q) e (rw same (with_at_same s.sleep t (Some (o, q))))
    by_awake u e (inr ne) a b k = s.awake u (sym (with_at_other s.sleep t (Some (o, q)) u ne) ∙ e) a b (subst (λ z. Sleeps z a b) (others u ne) k)

    by_there : (u : ℕ) (o2 q2 : Ref) → with_at s.sleep t (Some (o, q)) u ≡ Some (o2, q2) → ((u ≡ t) ⊎ (u ≡ t → ⊥)) → (z : Born) × (h2 q2 ≡ Some z)
    by_there u o2 q2 e (inl same) = (record { born = y.born; cell = ConditionCell (line_of (Some y.cell) ++ t ∷ []) }, new_at q2 (sym (own u o2 q2 e same).1))
    by_there u o2 q2 e (inr ne) = let k = s.there u o2 q2 (old u (o2, q2) ne e) in at_there q2 k.0 k.1 (ref_or q2 q)

    or_more : (b c : Bool) → b ≡ true → (b || c) ≡ true
    or_more b c e = ap (λ x. x || c) e

    last_in : (b : Bool) → (b || true) ≡ true
    last_in true = refl
    last_in false = refl

    in_new : (u : ℕ) (r : Ref) (z : Born) → h2 r ≡ Some z → r ≡ q → in_line u (line_of (Some y.cell) ++ t ∷ []) ≡ true → in_line u (line_of (Some z.cell)) ≡ true
    in_new u r z at p i =
        let cells = some_born (h2 r) (record { born = y.born; cell = ConditionCell (line_of (Some y.cell) ++ t ∷ []) }) z (new_at r p) at in
        ap (λ (b : Born). in_line u (line_of (Some b.cell))) (sym cells) ∙ i

    in_old : (u : ℕ) (o2 q2 : Ref) (z : Born) → s.sleep u ≡ Some (o2, q2) → (q2.site ≡ o2.site → ⊥) → pl u ≡ Nowhere → h2 q2 ≡ Some z → ((q2 ≡ q) ⊎ (q2 ≡ q → ⊥)) → in_line u (line_of (Some z.cell)) ≡ true
    in_old u o2 q2 z e far gone at (inl p) = in_new u q2 z at p (in_more u t (line_of (Some y.cell)) ∙ or_more (in_line u (line_of (Some y.cell))) (eqb u t || false) (s.lined u o2 q2 y e far gone (rw p here)))
    in_old u o2 q2 z e far gone at (inr ne) = s.lined u o2 q2 z e far gone (sym (old_at q2 ne) ∙ at)

    by_lined : (u : ℕ) (o2 q2 : Ref) (z : Born) → with_at s.sleep t (Some (o, q)) u ≡ Some (o2, q2) → (q2.site ≡ o2.site → ⊥) → pl u ≡ Nowhere → h2 q2 ≡ Some z → ((u ≡ t) ⊎ (u ≡ t → ⊥)) → in_line u (line_of (Some z.cell)) ≡ true
    by_lined u o2 q2 z e far gone at (inl same) =
        let test : eqb u t ≡ true = rw same (test_refl t) in
        in_new u q2 z at (sym (own u o2 q2 e same).1) (in_more u t (line_of (Some y.cell)) ∙ ap (λ b. in_line u (line_of (Some y.cell)) || (b || false)) test ∙ last_in (in_line u (line_of (Some y.cell))))
    by_lined u o2 q2 z e far gone at (inr ne) = in_old u o2 q2 z (old u (o2, q2) ne e) far gone at (ref_or q2 q)

-- ---- a Signal: thread u is out of the line, at one site or with a wake

pub signal_keeps : (h : Heap) (f : Ref → ℕ) → Agrees f h → (h2 : Heap) (states states2 : ℕ → Option ThreadState) (pl pl2 : ℕ → Place) (t u : ℕ) (us : List ℕ) (o q : Ref) (y : Born) → h q ≡ Some y → line_of (Some y.cell) ≡ u ∷ us → h2 ≡ with_line_at h q y.born us
    → ((k : Ref → ℕ) → Agrees k h2 → Agrees k h) → ((v : ℕ) → (v ≡ t → ⊥) → states2 v ≡ states v) → ((a b : ℕ) → Sleeps (states2 t) a b → ⊥) → Asleep h (states u) o q → ((q.site ≡ o.site) ⊎ (pl2 u ≡ Nowhere → ⊥)) → ((v : ℕ) → (v ≡ u → ⊥) → pl2 v ≡ pl v)
    → Slept h states pl → Slept h2 states2 pl2
signal_keeps h f g h2 states states2 pl pl2 t u us o q y here first is later others aw asleep way places s =
    record {
      sleep = with_at s.sleep t None;
      asleep = λ v o2 q2 e. by_asleep v o2 q2 e (same_or v t);
      awake = λ v e. by_awake v e (same_or v t);
      there = λ v o2 q2 e. by_there v o2 q2 e (same_or v t);
      lined = λ v o2 q2 z e far gone at. by_lined v o2 q2 z e far gone at (same_or v t);
    }
  where
    not_t : (v : ℕ) (p : Ref × Ref) → with_at s.sleep t None v ≡ Some p → v ≡ t → ⊥
    not_t v p e same = not_both (with_at s.sleep t None t) p (with_at_same s.sleep t None) (ap (with_at s.sleep t None) (sym same) ∙ e)

    old : (v : ℕ) (p : Ref × Ref) → (v ≡ t → ⊥) → with_at s.sleep t None v ≡ Some p → s.sleep v ≡ Some p
    old v p ne e = sym (with_at_other s.sleep t None v ne) ∙ e

    new_at : (r : Ref) → r ≡ q → h2 r ≡ Some (record { born = y.born; cell = ConditionCell us })
    new_at r p = ap (λ k. k r) is ∙ rw p (with_ref_same h q (Some (record { born = y.born; cell = ConditionCell us })))

    old_at : (r : Ref) → (r ≡ q → ⊥) → h2 r ≡ h r
    old_at r ne = ap (λ k. k r) is ∙ with_ref_other h q (Some (record { born = y.born; cell = ConditionCell us })) r ne

    at_there : (r : Ref) (z : Born) → h r ≡ Some z → ((r ≡ q) ⊎ (r ≡ q → ⊥)) → (z2 : Born) × (h2 r ≡ Some z2)
    at_there r z e (inl p) = (record { born = y.born; cell = ConditionCell us }, new_at r p)
    at_there r z e (inr ne) = (z, old_at r ne ∙ e)

    by_asleep : (v : ℕ) (o2 q2 : Ref) → with_at s.sleep t None v ≡ Some (o2, q2) → ((v ≡ t) ⊎ (v ≡ t → ⊥)) → Asleep h2 (states2 v) o2 q2
    by_asleep v o2 q2 e (inl same) = absurd (not_t v (o2, q2) e same)
    by_asleep v o2 q2 e (inr ne) = asleep_later h h2 (states v) (states2 v) o2 q2 later (others v ne) (s.asleep v o2 q2 (old v (o2, q2) ne e))

    by_awake : (v : ℕ) → with_at s.sleep t None v ≡ None → ((v ≡ t) ⊎ (v ≡ t → ⊥)) → (a b : ℕ) → Sleeps (states2 v) a b → ⊥
    by_awake v e (inl same) a b k = aw a b (subst (λ w. Sleeps (states2 w) a b) same k)
    by_awake v e (inr ne) a b k = s.awake v (sym (with_at_other s.sleep t None v ne) ∙ e) a b (subst (λ z. Sleeps z a b) (others v ne) k)

    by_there : (v : ℕ) (o2 q2 : Ref) → with_at s.sleep t None v ≡ Some (o2, q2) → ((v ≡ t) ⊎ (v ≡ t → ⊥)) → (z : Born) × (h2 q2 ≡ Some z)
    by_there v o2 q2 e (inl same) = absurd (not_t v (o2, q2) e same)
    by_there v o2 q2 e (inr ne) = let k = s.there v o2 q2 (old v (o2, q2) ne e) in at_there q2 k.0 k.1 (ref_or q2 q)

    skip : (a b : Bool) → a ≡ false → (a || b) ≡ true → b ≡ true
    skip true b e k = absurd (cc e)
    skip false b e k = k

    in_rest : (v : ℕ) (o2 q2 : Ref) (z : Born) → s.sleep v ≡ Some (o2, q2) → (q2.site ≡ o2.site → ⊥) → pl v ≡ Nowhere → h2 q2 ≡ Some z → (v ≡ u → ⊥) → ((q2 ≡ q) ⊎ (q2 ≡ q → ⊥)) → in_line v (line_of (Some z.cell)) ≡ true
    in_rest v o2 q2 z e far gone at ne (inl p) =
        let cells = some_born (h2 q2) (record { born = y.born; cell = ConditionCell us }) z (new_at q2 p) at in
        ap (λ (b : Born). in_line v (line_of (Some b.cell))) (sym cells) ∙ skip (eqb v u) (in_line v us) (test_no v u ne) (ap (in_line v) (sym first) ∙ s.lined v o2 q2 y e far gone (rw p here))
    in_rest v o2 q2 z e far gone at ne (inr k) = s.lined v o2 q2 z e far gone (sym (old_at q2 k) ∙ at)

    removed : (v : ℕ) (o2 q2 : Ref) → s.sleep v ≡ Some (o2, q2) → (q2.site ≡ o2.site → ⊥) → pl2 v ≡ Nowhere → v ≡ u → ((q.site ≡ o.site) ⊎ (pl2 u ≡ Nowhere → ⊥)) → ⊥
    removed v o2 q2 e far gone same (inl sites) =
        let w = one_watch h f g (states u) o q o2 q2 asleep (subst (λ k. Asleep h (states k) o2 q2) same (s.asleep v o2 q2 e)) in
        far (ap (λ (r : Ref). r.site) (sym w.1) ∙ sites ∙ ap (λ (r : Ref). r.site) w.0)
    removed v o2 q2 e far gone same (inr some) = some (ap pl2 (sym same) ∙ gone)

    by_two : (v : ℕ) (o2 q2 : Ref) (z : Born) → s.sleep v ≡ Some (o2, q2) → (q2.site ≡ o2.site → ⊥) → pl2 v ≡ Nowhere → h2 q2 ≡ Some z → ((v ≡ u) ⊎ (v ≡ u → ⊥)) → in_line v (line_of (Some z.cell)) ≡ true
    by_two v o2 q2 z e far gone at (inl same) = absurd (removed v o2 q2 e far gone same way)
    by_two v o2 q2 z e far gone at (inr ne) = in_rest v o2 q2 z e far (sym (places v ne) ∙ gone) at ne (ref_or q2 q)

    by_lined : (v : ℕ) (o2 q2 : Ref) (z : Born) → with_at s.sleep t None v ≡ Some (o2, q2) → (q2.site ≡ o2.site → ⊥) → pl2 v ≡ Nowhere → h2 q2 ≡ Some z → ((v ≡ t) ⊎ (v ≡ t → ⊥)) → in_line v (line_of (Some z.cell)) ≡ true
    by_lined v o2 q2 z e far gone at (inl same) = absurd (not_t v (o2, q2) e same)
    by_lined v o2 q2 z e far gone at (inr ne) = by_two v o2 q2 z (old v (o2, q2) ne e) far gone at (same_or v u)

-- ---- a wake that arrives is still a wake

pub delivered_keeps : (h : Heap) (states : ℕ → Option ThreadState) (pl pl2 : ℕ → Place) (t : ℕ) → (pl2 t ≡ Nowhere → ⊥) → ((u : ℕ) → (u ≡ t → ⊥) → pl2 u ≡ pl u) → Slept h states pl → Slept h states pl2
delivered_keeps h states pl pl2 t some places s =
    record { sleep = s.sleep; asleep = s.asleep; awake = s.awake; there = s.there; lined = λ u o q y e far gone here. by u o q y e far gone here (same_or u t) }
  where
    by : (u : ℕ) (o q : Ref) (y : Born) → s.sleep u ≡ Some (o, q) → (q.site ≡ o.site → ⊥) → pl2 u ≡ Nowhere → h q ≡ Some y → ((u ≡ t) ⊎ (u ≡ t → ⊥)) → in_line u (line_of (Some y.cell)) ≡ true
    by u o q y e far gone here (inl same) = absurd (some (ap pl2 (sym same) ∙ gone))
    by u o q y e far gone here (inr ne) = s.lined u o q y e far (sym (places u ne) ∙ gone) here

-- ---- at rest

nowhere_by : (h : Heap) (f : Ref → ℕ) → Agrees f h → (states : ℕ → Option ThreadState) (x : Watch) (u : ℕ) (o q : Ref) → Asleep h (states u) o q → ((a b : ℕ) → x.wakes a b ≡ []) → x.noted o.site u ≡ None
    → (z : Place) → HasPlace no_slots x.noted no_endings x.wakes u z → Owed h (states u) u z → z ≡ Nowhere
nowhere_by h f g states x u o q asleep empty none Nowhere has k = refl
nowhere_by h f g states x u o q asleep empty none Absent has k = absurd k
nowhere_by h f g states x u o q asleep empty none (At a b) has k = absurd k
nowhere_by h f g states x u o q asleep empty none (InLine a b p) has k = absurd (subst (IsIn p) (empty a b) has.1)
nowhere_by h f g states x u o q asleep empty none (WaitsAt b p) has k =
    let w = one_watch h f g (states u) o q k.0 k.4.condition asleep k.4.asleep in
    let site : o.site ≡ b = ap (λ (r : Ref). r.site) w.0 ∙ k.4.to in
    let there : x.noted o.site u ≡ Some p = ap (λ n. x.noted n u) site ∙ has in
    absurd (apart (x.noted o.site u) none there)
  where
    apart : (y : Option Parked) → y ≡ None → y ≡ Some p → ⊥
    apart y e i = cc (e, i)
nowhere_by h f g states x u o q asleep empty none (EndedAt a b) has k = absurd k

-- no wake lies in a line and none is noted: an Again over two sites waits in the one-store machine too
pub quiet_waits : (m : Memory) (f : Ref → ℕ) → Agrees f m.heap → (en : ℕ → ℕ → Option Ending) (states : ℕ → Option ThreadState) (x : Watch) (pl : ℕ → Place) (u : ℕ) (s : Self Ref) (o q : Ref) (guard : Term Ref) (z y : Born) → Watched m.heap states x pl → Slept m.heap states pl
    → Asleep m.heap (states u) o q → (q.site ≡ o.site → ⊥) → ((a b : ℕ) → x.wakes a b ≡ []) → x.noted o.site u ≡ None → m.heap o ≡ Some z → m.heap q ≡ Some y → Waits m en u s (Again o q guard)
quiet_waits m f g en states x pl u s o q guard z y wd sl asleep far empty none there here =
    let gone : pl u ≡ Nowhere = nowhere_by m.heap f g states x u o q asleep empty none (pl u) (wd.placed.back u) (wd.owed u) in
    let in_it : in_line u (line_of (Some y.cell)) ≡ true = by (sl.sleep u) refl gone in
    RetakeWaits o q guard z y there here (ap (λ b. again_row Ends Idle u b o q guard (Some z.cell)) in_it)
  where
    by : (d : Option (Ref × Ref)) → sl.sleep u ≡ d → pl u ≡ Nowhere → in_line u (line_of (Some y.cell)) ≡ true
    by None e gone = absurd (sl.awake u e _ _ (asleep f g))
    by (Some p) e gone =
        let w = one_watch m.heap f g (states u) o q p.0 p.1 asleep (sl.asleep u p.0 p.1 e) in
        sl.lined u p.0 p.1 y e (λ k. far (ap (λ (r : Ref). r.site) w.1 ∙ k ∙ ap (λ (r : Ref). r.site) (sym w.0))) gone (ap m.heap (sym w.1) ∙ here)
