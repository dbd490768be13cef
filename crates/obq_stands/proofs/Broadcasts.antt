-- A Broadcast is a Signal for each thread of the line.
use Rattle.std.specs.Prelude.{Bool, true, false, List, Option, Some, [], ◌∷◌, ◌++◌, ℕ, refl, ◌==◌, ◌≡◌, ◌⊎◌, if◌then◌else◌}
use Rattle.std.proofs.Common.{inl, inr, ap, sym, ◌∙◌, subst, eqb}
use mathlib.Core.Path.{fun_ext}
use Rattle.obq_model.specs.Store.{ConditionCell}
use Rattle.obq_model.specs.Config.{ThreadState}
use Rattle.obq_stands.specs.World.{with_at, at2, Ref, Born, Heap}
use Rattle.obq_stands.specs.Stands.{Agrees, Place, Nowhere, InLine}
use Rattle.obq_stands.specs.Watch.{Sleeps, Asleep, wake, post_one, Watch, LineFits, Watched, Slept, with_line_at}
use Rattle.obq_stands.proofs.Update.{test_same, test_other, with_at_same, with_at_other}
use Rattle.obq_stands.proofs.Refs.{ref_or, with_ref_same, with_ref_other}
use Rattle.obq_stands.proofs.Memory.{left_later}
use Rattle.obq_stands.proofs.Signals.{signal_home, signal_away}
use Rattle.obq_stands.proofs.Asleep.{signal_keeps}
use Rattle.obq_model.specs.Effect.{line_of}

abbrev pub place_one : Ref → ℕ → Ref → (ℕ → Place) → ℕ → Place
place_one q u o pl = if q.site == o.site then pl else with_at pl u (InLine q.site o.site (wake u o))

-- a World's watches and what is known of its sleepers
pub record Whole (h : Heap) (states : ℕ → Option ThreadState) (x : Watch) (pl : ℕ → Place) : Type 0 where
  pub watched : Watched h states x pl
  pub slept : Slept h states pl

-- the threads of this line are woken, in its order; objects tells the object of each
pub data Woken (q : Ref) : List ℕ → Watch → (ℕ → Place) → Watch → (ℕ → Place) → Type 0 where
  NoneLeft : (x : Watch) (pl : ℕ → Place) → Woken q [] x pl x pl
  OneMore : (u : ℕ) (us : List ℕ) (o : Ref) (x x2 : Watch) (pl pl2 : ℕ → Place) → x.notes q.site u ≡ Some o → Woken q us (post_one q u o x) (place_one q u o pl) x2 pl2 → Woken q (u ∷ us) x pl x2 pl2

pub agrees_on : (h : Heap) (f : Ref → ℕ) → Agrees f h → (q : Ref) (y : Born) (line : List ℕ) → h q ≡ Some y → Agrees f (with_line_at h q y.born line)
agrees_on h f g q y line here = record { cells = λ r z e. by r z e (ref_or r q); tells = g.tells }
  where
    new : (r : Ref) → r ≡ q → with_line_at h q y.born line r ≡ Some (record { born = y.born; cell = ConditionCell line })
    new r p = rw p (with_ref_same h q (Some (record { born = y.born; cell = ConditionCell line })))

    one : (o : Option Born) (a b : Born) → o ≡ Some a → o ≡ Some b → a ≡ b
    one o a b e k = cc (e, k)

    by : (r : Ref) (z : Born) → with_line_at h q y.born line r ≡ Some z → ((r ≡ q) ⊎ (r ≡ q → ⊥)) → f r ≡ z.born
    by r z e (inl p) =
        let same = one (with_line_at h q y.born line r) (record { born = y.born; cell = ConditionCell line }) z (new r p) e in
        ap f p ∙ g.cells q y here ∙ ap (λ (b : Born). b.born) same
    by r z e (inr ne) = g.cells r z (sym (with_ref_other h q (Some (record { born = y.born; cell = ConditionCell line })) r ne) ∙ e)

twice : (h : Heap) (q : Ref) (n : ℕ) (a b : List ℕ) → with_line_at (with_line_at h q n a) q n b ≡ with_line_at h q n b
twice h q n a b = fun_ext (λ r. by r (ref_or r q))
  where
    by : (r : Ref) → ((r ≡ q) ⊎ (r ≡ q → ⊥)) → with_line_at (with_line_at h q n a) q n b r ≡ with_line_at h q n b r
    by r (inl p) =
        rw p (with_ref_same (with_line_at h q n a) q (Some (record { born = n; cell = ConditionCell b })) ∙ sym (with_ref_same h q (Some (record { born = n; cell = ConditionCell b }))))
    by r (inr ne) =
        with_ref_other (with_line_at h q n a) q (Some (record { born = n; cell = ConditionCell b })) r ne
        ∙ with_ref_other h q (Some (record { born = n; cell = ConditionCell a })) r ne
        ∙ sym (with_ref_other h q (Some (record { born = n; cell = ConditionCell b })) r ne)

-- the first thread is woken by a thread t that is awake, and no state changes
wake_one : (h : Heap) (f : Ref → ℕ) → Agrees f h → (states : ℕ → Option ThreadState) (x : Watch) (pl : ℕ → Place) (t u : ℕ) (us : List ℕ) (o q : Ref) (y : Born) → h q ≡ Some y → line_of (Some y.cell) ≡ u ∷ us → ((a b : ℕ) → Sleeps (states t) a b → ⊥) → x.notes q.site u ≡ Some o
    → Whole h states x pl → Whole (with_line_at h q y.born us) states (post_one q u o x) (place_one q u o pl)
wake_one h f g states x pl t u us o q y here first aw note w = by (eqb q.site o.site) refl
  where
    h1 : Heap
    h1 = with_line_at h q y.born us

    some_ref : (a b : Ref) → Some a ≡ Some b → a ≡ b
    some_ref a b e = cc e

    asleep : Asleep h (states u) o q
    asleep =
        let fits : LineFits h states (x.notes q.site) q (u ∷ us) = subst (LineFits h states (x.notes q.site) q) first (w.watched.lines q y here) in
        subst (λ k. Asleep h (states u) k q) (some_ref fits.0 o (sym fits.1 ∙ note)) fits.2

    later : (k : Ref → ℕ) → Agrees k (with_line_at h q y.born us) → Agrees k h
    later = left_later h q y (ConditionCell us) here

    busy : (pl2 : ℕ → Place) → pl2 u ≡ InLine q.site o.site (wake u o) → pl2 u ≡ Nowhere → ⊥
    busy pl2 e k = cc (e, k)

    by : (b : Bool) → eqb q.site o.site ≡ b
        → Whole (with_line_at h q y.born us) states (if b then x else record x { wakes = at2 x.wakes q.site o.site (x.wakes q.site o.site ++ wake u o ∷ []) }) (if b then pl else with_at pl u (InLine q.site o.site (wake u o)))
    by true e =
        record {
          watched = signal_home h f g (with_line_at h q y.born us) states states x pl t u us o q y here first refl later (λ v ne. refl) aw note w.watched;
          slept = signal_keeps h f g (with_line_at h q y.born us) states states pl pl t u us o q y here first refl later (λ v ne. refl) aw asleep (inl (test_same q.site o.site e)) (λ v ne. refl) w.slept;
        }
    by false e =
        record {
          watched = signal_away h f g (with_line_at h q y.born us) states states x pl t u us o q y here first refl later (λ v ne. refl) aw note (test_other q.site o.site e) w.watched;
          slept = signal_keeps h f g (with_line_at h q y.born us) states states pl (with_at pl u (InLine q.site o.site (wake u o))) t u us o q y here first refl later (λ v ne. refl) aw asleep
              (inr (busy (with_at pl u (InLine q.site o.site (wake u o))) (with_at_same pl u (InLine q.site o.site (wake u o))))) (λ v ne. with_at_other pl u (InLine q.site o.site (wake u o)) v ne) w.slept;
        }

-- all are woken: the line is empty. No state changes yet, that of the thread that broadcasts neither
pub all_woken : (q : Ref) (h : Heap) (f : Ref → ℕ) → Agrees f h → (states : ℕ → Option ThreadState) (x x2 : Watch) (pl pl2 : ℕ → Place) (t : ℕ) (line : List ℕ) (y : Born) → h q ≡ Some y → y.cell ≡ ConditionCell line → ((a b : ℕ) → Sleeps (states t) a b → ⊥)
    → Woken q line x pl x2 pl2 → Whole h states x pl → Whole (with_line_at h q y.born []) states x2 pl2
all_woken q h f g states x x2 pl pl2 t line y here is aw (NoneLeft _ _) w = subst (λ k. Whole k states x pl) (sym (same h q y here is)) w
  where
    same : (h : Heap) (q : Ref) (y : Born) → h q ≡ Some y → y.cell ≡ ConditionCell [] → with_line_at h q y.born [] ≡ h
    same h q y here is = fun_ext (λ r. by r (ref_or r q))
      where
        by : (r : Ref) → ((r ≡ q) ⊎ (r ≡ q → ⊥)) → with_line_at h q y.born [] r ≡ h r
        by r (inl p) = rw p (with_ref_same h q (Some (record { born = y.born; cell = ConditionCell [] })) ∙ ap (λ c. Some (record { born = y.born; cell = c })) (sym is) ∙ sym here)
        by r (inr ne) = with_ref_other h q (Some (record { born = y.born; cell = ConditionCell [] })) r ne
all_woken q h f g states x x2 pl pl2 t line y here is aw (OneMore u us o _ _ _ _ note more) w =
    let h1 : Heap = with_line_at h q y.born us in
    let y1 : Born = record { born = y.born; cell = ConditionCell us } in
    let w1 = wake_one h f g states x pl t u us o q y here (ap (λ c. line_of (Some c)) is) aw note w in
    let end = all_woken q h1 f (agrees_on h f g q y us here) states (post_one q u o x) x2 (place_one q u o pl) pl2 t us y1 (with_ref_same h q (Some y1)) refl aw more w1 in
    subst (λ k. Whole k states x2 pl2) (twice h q y.born us []) end
