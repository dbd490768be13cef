-- The first entry that isn't legal, and the first able thread.
use Rattle.std.specs.Prelude.{Bool, List, None, Option, Some, T, [], false, if◌then◌else◌, is_none, is_some, nat_lt, refl, slice_get, suc, take, true, unwrap_or, zero, ℕ, ◌+◌, ◌<◌, ◌∷◌, ◌≡◌}
use Rattle.std.proofs.Common.{subst, ap, sym, ◌∙◌, arith}
use Rattle.obq_base.specs.declared.acts.Act.{Act}
use Rattle.obq_base.specs.declared.acts.Entry.{Entry}
use Rattle.obq_model.specs.Terms.{Term}
use Rattle.obq_model.specs.Config.{Execution, Running, Returned, Failed, ThreadState, Config, with_execution}
use Rattle.obq_model.specs.Effect.{Effect, Does, Waits, Nothing, effect}
use Rattle.obq_model.specs.Opening.{opening}
use Rattle.obq_model.specs.Replay.{after_pure, act_same, with_turns, exactly, then_act, act_turns, take_of, take_execution, take_state, take_entry, replay_from, is_able_execution, first_able_of}
use Rattle.obq_model.specs.Refusals.{Why, WrongAct, why_by_effect, why_no_act, why_after_steps, why_of_execution, why_of_state, why_not, Refusal, first_refused}
use Rattle.obq_laws.specs.Refused.{WhyNot, IllegalOrReplays, FirstIllegal, FirstAble}
use Rattle.obq_laws.proofs.Over.{able_at, zero_plus, plus_suc, plus_zero}

-- ---- one entry

by_act : (a : Act) (b : Bool) (c : Act) (k : Config) (t : ℕ) → is_none (if b then None else Some (WrongAct (Some c))) ≡ is_some (elim (if b then Some k else None) as (λ o. Option Config) [ None ↦ None | Some k2 ↦ Some (with_turns t 1 k2) ])
by_act a true c k t = refl
by_act a false c k t = refl

by_effect : (a : Act) (e : Effect) (t : ℕ) → is_none (why_by_effect a e) ≡ is_some (elim (exactly a e) as (λ o. Option Config) [ None ↦ None | Some k2 ↦ Some (with_turns t 1 k2) ])
by_effect a (Does b k) t = by_act a (act_same a b) b k t
by_effect a Waits t = refl
by_effect a Nothing t = refl

by_named : (t : ℕ) (o : Option Act) (k : Config) → is_none (why_no_act t o k) ≡ is_some (then_act t o k)
by_named t None k = refl
by_named t (Some a) k = by_effect a (effect k t) t

by_steps : (k : Config) (e : Entry) (o : Option (Term ℕ)) → is_none (why_after_steps k e o) ≡ is_some (take_of k e o)
by_steps k e None = refl
by_steps k e (Some u) = by_named e.thread e.act (with_turns e.thread e.pure (with_execution k e.thread (Running u)))

by_limit : (b : Bool) (x y : Option Why) (o : Option Config) → is_none x ≡ false → is_none y ≡ is_some o → is_none (if b then x else y) ≡ is_some (if b then None else o)
by_limit true x y o h e = h
by_limit false x y o h e = e

by_execution : (turns : ℕ) (k : Config) (e : Entry) (state : ThreadState) (l : Execution) → is_none (why_of_execution turns k e state l) ≡ is_some (take_execution turns k e state l)
by_execution turns k e state (Running u) = by_limit (nat_lt turns (state.used + e.pure + act_turns e.act)) _ (why_after_steps k e (after_pure e.pure u)) (take_of k e (after_pure e.pure u)) refl (by_steps k e (after_pure e.pure u))
by_execution turns k e state (Returned v) = refl
by_execution turns k e state (Failed x) = refl

by_state : (turns : ℕ) (k : Config) (e : Entry) (o : Option ThreadState) → is_none (why_of_state turns k e o) ≡ is_some (take_state turns k e o)
by_state turns k e None = refl
by_state turns k e (Some state) = by_execution turns k e state state.execution

pub why_not_law : WhyNot
why_not_law turns k e = by_state turns k e (slice_get k.threads e.thread)

-- ---- the first of several

abbrev refused_next : ℕ → ℕ → List Entry → Option Config → Option Refusal
refused_next turns n es o = elim o [ None ↦ None | Some k2 ↦ first_refused turns k2 (suc n) es ]

abbrev refused_by : ℕ → ℕ → List Entry → Option Why → Option Config → Option Refusal
refused_by turns n es w o = elim w [ Some why ↦ Some (n, why) | None ↦ refused_next turns n es o ]

abbrev onward_of : ℕ → List Entry → Option Config → Option Config
onward_of turns es o = elim o [ None ↦ None | Some k2 ↦ replay_from turns k2 es ]

pub refused_or_replays : (turns : ℕ) (k : Config) (n : ℕ) (es : List Entry) → is_none (first_refused turns k n es) ≡ is_some (replay_from turns k es)
refused_or_replays turns k n [] = refl
refused_or_replays turns k n (e ∷ es) = by (why_not turns k e) (take_entry turns k e) (why_not_law turns k e) (λ k2. refused_or_replays turns k2 (suc n) es)
  where
    by : (w : Option Why) (o : Option Config) → is_none w ≡ is_some o → ((k2 : Config) → is_none (first_refused turns k2 (suc n) es) ≡ is_some (replay_from turns k2 es)) → is_none (refused_by turns n es w o) ≡ is_some (onward_of turns es o)
    by (Some why) None h next = refl
    by (Some why) (Some k2) h next = absurd (subst T (sym h) tt)
    by None None h next = absurd (subst T h tt)
    by None (Some k2) h next = next k2

pub illegal_or_replays : IllegalOrReplays
illegal_or_replays trees turns es = refused_or_replays turns (opening trees) 0 es

-- from a configuration, with the entries numbered from m on
abbrev StopsFrom : ℕ → Config → ℕ → List Entry → ℕ → Why → Type 0
StopsFrom turns k m es n why =
    (i : ℕ) × (n ≡ m + i) × ((k2 : Config) × (e : Entry) × (replay_from turns k (take i es) ≡ Some k2) × (slice_get es i ≡ Some e) × (why_not turns k2 e ≡ Some why))

number_of : (x y : Refusal) → Some x ≡ Some y → x.0 ≡ y.0
number_of x y e = ap (λ (o : Option Refusal). (unwrap_or o x).0) e

reason_of : (x y : Refusal) → Some x ≡ Some y → x.1 ≡ y.1
reason_of x y e = ap (λ (o : Option Refusal). (unwrap_or o x).1) e

none_refusal : (x : Refusal) → None ≡ Some x → ⊥
none_refusal x e = subst (λ o. T (is_none o)) e tt

stops_from : (turns : ℕ) (k : Config) (m : ℕ) (es : List Entry) (n : ℕ) (why : Why) → first_refused turns k m es ≡ Some (n, why) → StopsFrom turns k m es n why
stops_from turns k m [] n why h = absurd (none_refusal (n, why) h)
stops_from turns k m (e ∷ es) n why h = by (why_not turns k e) refl (take_entry turns k e) refl h (λ k2. stops_from turns k2 (suc m) es n why)
  where
    by : (w : Option Why) → why_not turns k e ≡ w → (o : Option Config) → take_entry turns k e ≡ o → refused_by turns m es w o ≡ Some (n, why)
        → ((k2 : Config) → first_refused turns k2 (suc m) es ≡ Some (n, why) → StopsFrom turns k2 (suc m) es n why) → StopsFrom turns k m (e ∷ es) n why
    by (Some w) q o r g next = (0, sym (number_of (m, w) (n, why) g) ∙ sym (plus_zero m), (k, e, refl, refl, q ∙ ap Some (reason_of (m, w) (n, why) g)))
    by None q None r g next = absurd (none_refusal (n, why) g)
    by None q (Some k2) r g next =
        let s : StopsFrom turns k2 (suc m) es n why = next k2 g in
        (suc s.0, s.1 ∙ sym (plus_suc m s.0), (s.2.0, s.2.1, ap (onward_of turns (take s.0 es)) r ∙ s.2.2, s.2.3, s.2.4))

pub first_illegal_law : FirstIllegal
first_illegal_law trees turns es n why h =
    let s : StopsFrom turns (opening trees) 0 es n why = stops_from turns (opening trees) 0 es n why h in
    let same : n ≡ s.0 = s.1 ∙ zero_plus s.0 in
    (s.2.0, s.2.1, ap (λ i. replay_from turns (opening trees) (take i es)) same ∙ s.2.2, ap (slice_get es) same ∙ s.2.3, s.2.4)

-- ---- the first able thread

abbrev FirstFrom : ℕ → Config → ℕ → List ThreadState → ℕ → Type 0
FirstFrom turns k m ss t = (i : ℕ) × (t ≡ m + i) × (able_at turns k (m + i) (slice_get ss i) ≡ true) × ((j : ℕ) → j < i → able_at turns k (m + j) (slice_get ss j) ≡ false)

some_number : (x y : ℕ) → Some x ≡ Some y → x ≡ y
some_number x y e = ap (λ o. unwrap_or o x) e

none_number : (x : ℕ) → None ≡ Some x → ⊥
none_number x e = subst (λ o. T (is_none o)) e tt

none_below : (j : ℕ) → j < 0 → ⊥
none_below j l = omega arith

below : (j i : ℕ) → suc j < suc i → j < i
below j i l = omega arith

first_from : (turns : ℕ) (k : Config) (m : ℕ) (ss : List ThreadState) (t : ℕ) → first_able_of turns k m ss ≡ Some t → FirstFrom turns k m ss t
first_from turns k m [] t h = absurd (none_number t h)
first_from turns k m (s ∷ ss) t h = by (is_able_execution turns k m s.used s.execution) refl h (first_from turns k (suc m) ss t)
  where
    at_first : is_able_execution turns k m s.used s.execution ≡ able_at turns k (m + 0) (Some s)
    at_first = ap (λ n. is_able_execution turns k n s.used s.execution) (sym (plus_zero m))

    by : (b : Bool) → is_able_execution turns k m s.used s.execution ≡ b → (if b then Some m else first_able_of turns k (suc m) ss) ≡ Some t → (first_able_of turns k (suc m) ss ≡ Some t → FirstFrom turns k (suc m) ss t) → FirstFrom turns k m (s ∷ ss) t
    by true q g next = (0, sym (some_number m t g) ∙ sym (plus_zero m), sym at_first ∙ q, (λ j l. absurd (none_below j l)))
    by false q g next =
        let f : FirstFrom turns k (suc m) ss t = next g in
        (suc f.0, f.1 ∙ sym (plus_suc m f.0), ap (λ n. able_at turns k n (slice_get ss f.0)) (plus_suc m f.0) ∙ f.2, earlier f.0 f.3)
      where
        earlier : (i : ℕ) → ((j : ℕ) → j < i → able_at turns k (suc m + j) (slice_get ss j) ≡ false) → (j : ℕ) → j < suc i → able_at turns k (m + j) (slice_get (s ∷ ss) j) ≡ false
        earlier i f zero l = sym at_first ∙ q
        earlier i f (suc j) l = ap (λ n. able_at turns k n (slice_get ss j)) (plus_suc m j) ∙ f j (below j i l)

pub first_able_law : FirstAble
first_able_law turns k t h =
    let f : FirstFrom turns k 0 k.threads t = first_from turns k 0 k.threads t h in
    let same : t ≡ f.0 = f.1 ∙ zero_plus f.0 in (
      ap (λ n. able_at turns k n (slice_get k.threads n)) same ∙ ap (λ n. able_at turns k n (slice_get k.threads f.0)) (sym (zero_plus f.0)) ∙ f.2,
      (λ u l. ap (λ n. able_at turns k n (slice_get k.threads u)) (sym (zero_plus u)) ∙ f.3 u (subst (λ n. u < n) same l)),
    )
