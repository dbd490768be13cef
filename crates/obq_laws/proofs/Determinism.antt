-- One step or one act at most stands next, and an entry may be cut between its pure steps.
use Rattle.std.specs.Prelude.{Bool, List, None, Option, Some, [], false, if◌then◌else◌, nat_lt, refl, slice_get, slice_index_or, slice_set, suc, true, unwrap_or, zero, ℕ, ◌+◌, ◌<◌, ◌∷◌, ◌≡◌}
use Rattle.std.proofs.Common.{ap, sym, ◌∙◌, arith}
use Rattle.std.proofs.lemmas.Option.{get_or_from_slice_get}
use Rattle.std.proofs.lemmas.Bool.{lt-ltb, ltb-true}
use Rattle.obq_base.specs.declared.acts.Act.{Act}
use Rattle.obq_model.specs.Terms.{Term, Const, Name}
use Rattle.obq_model.specs.Store.{same_loc}
use Rattle.obq_model.specs.Step.{no_self, Found, Next, Needs, Done, Uncaught, find, next_of, pure}
use Rattle.obq_model.specs.Config.{Execution, Running, Returned, Failed, ThreadState, Config, with_execution}
use Rattle.obq_model.specs.Effect.{Effect, Does, Waits, Nothing, effect_of, effect_of_execution, effect_of_state, effect}
use Rattle.obq_model.specs.Replay.{after_pure, act_same, spend, with_turns, exactly, then_act, act_turns, take_of, take_execution, take_state, take_entry}
use Rattle.obq_model.proofs.Options.{none_some}
use Rattle.obq_laws.specs.Determinism.{entry_of, StepOrAct, OneAct, CutEntry}
use Rattle.obq_laws.proofs.Exclusion.{act_same_eq, get_set, effect_after}

-- ---- a thread in a list

set_set : (ts : List ThreadState) (t : ℕ) (a b : ThreadState) → slice_set (slice_set ts t a) t b ≡ slice_set ts t b
set_set [] t a b = refl
set_set (s ∷ ts) zero a b = refl
set_set (s ∷ ts) (suc t) a b = ap (λ l. s ∷ l) (set_set ts t a b)

-- thread t goes on with v, and has used n more turns than old
abbrev pub stepped : Config → ℕ → ThreadState → ℕ → Term ℕ → Config
stepped k t old n v = record k { threads = slice_set k.threads t (record { execution = Running v; used = old.used + n }) }

pub steps_taken : (k : Config) (t n : ℕ) (old : ThreadState) (v : Term ℕ) → slice_get k.threads t ≡ Some old → with_turns t n (with_execution k t (Running v)) ≡ stepped k t old n v
steps_taken k t n old v e =
    let state : ThreadState = record { execution = Running v; used = (slice_index_or k.threads t (record { execution = Running v; used = 0 })).used } in
    ap (λ (o : Option ThreadState). record k { threads = elim o [ None ↦ slice_set k.threads t state | Some s ↦ slice_set (slice_set k.threads t state) t (spend n s) ] }) (get_set k.threads t state old e)
    ∙ ap (λ (l : List ThreadState). record k { threads = l }) (set_set k.threads t state (spend n state))
    ∙ ap (λ (s : ThreadState). record k { threads = slice_set k.threads t (record { execution = Running v; used = s.used + n }) }) (get_or_from_slice_get k.threads t old (record { execution = Running v; used = 0 }) e)

-- ---- pure steps

-- n more pure steps, if there is a term
abbrev more_of : ℕ → Option (Term ℕ) → Option (Term ℕ)
more_of n None = None
more_of n (Some u) = after_pure n u

after_suc : (n : ℕ) (o : Option (Term ℕ)) → elim o [ None ↦ None | Some x ↦ after_pure n x ] ≡ more_of n o
after_suc n None = refl
after_suc n (Some u) = refl

steps_then : (n m : ℕ) (u : Term ℕ) → after_pure (n + m) u ≡ more_of m (after_pure n u)
steps_then zero m u = ap (λ i. after_pure i u) (zero_plus m)
  where
    zero_plus : (m : ℕ) → 0 + m ≡ m
    zero_plus m = omega arith
steps_then (suc n) m u = ap (λ i. after_pure i u) (suc_plus n m) ∙ after_suc (n + m) (pure same_loc u) ∙ by_option (pure same_loc u) (steps_then n m) ∙ ap (more_of m) (sym (after_suc n (pure same_loc u)))
  where
    suc_plus : (n m : ℕ) → suc n + m ≡ suc (n + m)
    suc_plus n m = omega arith

    by_option : (o : Option (Term ℕ)) → ((x : Term ℕ) → after_pure (n + m) x ≡ more_of m (after_pure n x)) → more_of (n + m) o ≡ more_of m (more_of n o)
    by_option None h = refl
    by_option (Some x) h = h x

-- the number of pure steps to a term that has none is one
same_count : (n m : ℕ) (u v w : Term ℕ) → after_pure n u ≡ Some v → after_pure m u ≡ Some w → pure same_loc v ≡ None → pure same_loc w ≡ None → (n ≡ m) × (v ≡ w)
same_count zero zero u v w e f g h = (refl, ap (λ o. unwrap_or o u) (sym e ∙ f))
same_count zero (suc m) u v w e f g h = absurd (no_step (pure same_loc u) (ap (pure same_loc) (ap (λ o. unwrap_or o u) e) ∙ g) f)
  where
    no_step : (o : Option (Term ℕ)) → o ≡ None → elim o [ None ↦ None | Some x ↦ after_pure m x ] ≡ Some w → ⊥
    no_step None q r = none_some w r
    no_step (Some x) q r = none_some x (sym q)
same_count (suc n) zero u v w e f g h = absurd (no_step (pure same_loc u) (ap (pure same_loc) (ap (λ o. unwrap_or o u) f) ∙ h) e)
  where
    no_step : (o : Option (Term ℕ)) → o ≡ None → elim o [ None ↦ None | Some x ↦ after_pure n x ] ≡ Some v → ⊥
    no_step None q r = none_some v r
    no_step (Some x) q r = none_some x (sym q)
same_count (suc n) (suc m) u v w e f g h = by_option (pure same_loc u) e f (λ x. λ p q. same_count n m x v w p q g h)
  where
    by_option : (o : Option (Term ℕ)) → elim o [ None ↦ None | Some x ↦ after_pure n x ] ≡ Some v → elim o [ None ↦ None | Some x ↦ after_pure m x ] ≡ Some w → ((x : Term ℕ) → after_pure n x ≡ Some v → after_pure m x ≡ Some w → (n ≡ m) × (v ≡ w)) → (suc n ≡ suc m) × (v ≡ w)
    by_option None p q next = absurd (none_some v p)
    by_option (Some x) p q next = (ap suc (next x p q).0, (next x p q).1)

-- ---- what stands next

no_act : (k : Config) (t : ℕ) (x : Found ℕ) (v : Term ℕ) → next_of x ≡ Some v → effect_of k t x ≡ Nothing
no_act k t (Next u) v e = refl
no_act k t (Needs op fs) v e = absurd (none_some v e)
no_act k t (Done w) v e = absurd (none_some v e)
no_act k t (Uncaught r) v e = absurd (none_some v e)

pub step_or_act : StepOrAct
step_or_act k t state u v e f h = ap (effect_of_state k t) e ∙ ap (effect_of_execution k t) f ∙ no_act k t (find same_loc 0 no_self u) v h

-- where an act is done, no pure step stands next
exactly_last : (k : Config) (t : ℕ) (a : Act) (k2 : Config) (x : Found ℕ) → exactly a (effect_of k t x) ≡ Some k2 → next_of x ≡ None
exactly_last k t a k2 (Next u) e = absurd (none_some k2 e)
exactly_last k t a k2 (Needs op fs) e = refl
exactly_last k t a k2 (Done w) e = refl
exactly_last k t a k2 (Uncaught r) e = refl

exactly_one : (a b : Act) (e : Effect) (k1 k2 : Config) → exactly a e ≡ Some k1 → exactly b e ≡ Some k2 → (a ≡ b) × (k1 ≡ k2)
exactly_one a b (Does c k) k1 k2 e f = by_case (act_same a c) refl e (act_same b c) refl f
  where
    by_case : (x : Bool) → act_same a c ≡ x → (if x then Some k else None) ≡ Some k1 → (y : Bool) → act_same b c ≡ y → (if y then Some k else None) ≡ Some k2 → (a ≡ b) × (k1 ≡ k2)
    by_case true p q true r s = (sym (act_same_eq a c.kind c.loc p) ∙ act_same_eq b c.kind c.loc r, ap (λ o. unwrap_or o k) (sym q ∙ s))
    by_case true p q false r s = absurd (none_some k2 s)
    by_case false p q y r s = absurd (none_some k1 q)
exactly_one a b Waits k1 k2 e f = absurd (none_some k1 e)
exactly_one a b Nothing k1 k2 e f = absurd (none_some k1 e)

-- a legal entry with an act: its thread, its pure steps, and the act
pub record Taken (k : Config) (t n : ℕ) (a : Act) (k2 : Config) : Type 0 where
  pub old : ThreadState
  pub start : Term ℕ
  pub last : Term ℕ
  pub before_act : Config
  pub is_there : slice_get k.threads t ≡ Some old
  pub runs : old.execution ≡ Running start
  pub steps : after_pure n start ≡ Some last
  pub does : exactly a (effect (with_turns t n (with_execution k t (Running last))) t) ≡ Some before_act
  pub ends : with_turns t 1 before_act ≡ k2

taken_act : (k : Config) (t n : ℕ) (a : Act) (k2 : Config) (old : ThreadState) (u v : Term ℕ) → slice_get k.threads t ≡ Some old → old.execution ≡ Running u → after_pure n u ≡ Some v → then_act t (Some a) (with_turns t n (with_execution k t (Running v))) ≡ Some k2 → Taken k t n a k2
taken_act k t n a k2 old u v e f g h = by_option (exactly a (effect (with_turns t n (with_execution k t (Running v))) t)) refl h
  where
    by_option : (o : Option Config) → exactly a (effect (with_turns t n (with_execution k t (Running v))) t) ≡ o → elim o [ None ↦ None | Some k3 ↦ Some (with_turns t 1 k3) ] ≡ Some k2 → Taken k t n a k2
    by_option None q r = absurd (none_some k2 r)
    by_option (Some k3) q r =
        record {
          old = old;
          start = u;
          last = v;
          before_act = k3;
          is_there = e;
          runs = f;
          steps = g;
          does = q;
          ends = ap (λ o. unwrap_or o (with_turns t 1 k3)) r;
        }

taken_running : (turns : ℕ) (k : Config) (t n : ℕ) (a : Act) (k2 : Config) (old : ThreadState) (l : Execution) → slice_get k.threads t ≡ Some old → old.execution ≡ l → take_execution turns k (entry_of t n (Some a)) old l ≡ Some k2 → Taken k t n a k2
taken_running turns k t n a k2 old (Running u) e f h = by_bool (nat_lt turns (old.used + n + 1)) (after_pure n u) refl h
  where
    by_bool : (b : Bool) (o : Option (Term ℕ)) → after_pure n u ≡ o → (if b then None else take_of k (entry_of t n (Some a)) o) ≡ Some k2 → Taken k t n a k2
    by_bool true o q r = absurd (none_some k2 r)
    by_bool false None q r = absurd (none_some k2 r)
    by_bool false (Some v) q r = taken_act k t n a k2 old u v e f q r
taken_running turns k t n a k2 old (Returned v) e f h = absurd (none_some k2 h)
taken_running turns k t n a k2 old (Failed x) e f h = absurd (none_some k2 h)

pub taken : (turns : ℕ) (k : Config) (t n : ℕ) (a : Act) (k2 : Config) → take_entry turns k (entry_of t n (Some a)) ≡ Some k2 → Taken k t n a k2
taken turns k t n a k2 h = by_option (slice_get k.threads t) refl h
  where
    by_option : (o : Option ThreadState) → slice_get k.threads t ≡ o → take_state turns k (entry_of t n (Some a)) o ≡ Some k2 → Taken k t n a k2
    by_option None q r = absurd (none_some k2 r)
    by_option (Some old) q r = taken_running turns k t n a k2 old old.execution q refl r

running_term : Execution → Term ℕ
running_term (Running u) = u
running_term (Returned v) = Const v
running_term (Failed e) = Name e

running_same : (u v : Term ℕ) → Running u ≡ Running v → u ≡ v
unfolding running_term
running_same u v e = ap running_term e

-- the last term before a taken act has no pure step
taken_last : (k : Config) (t n : ℕ) (a : Act) (k2 : Config) (x : Taken k t n a k2) → pure same_loc x.last ≡ None
taken_last k t n a k2 x =
    exactly_last (with_turns t n (with_execution k t (Running x.last))) t a x.before_act (find same_loc 0 no_self x.last)
    (ap (exactly a) (sym (effect_after k t n x.last x.old x.is_there)) ∙ x.does)

pub one_act : OneAct
one_act turns k k1 k2 t n m a b e f =
    let x : Taken k t n a k1 = taken turns k t n a k1 e in
    let y : Taken k t m b k2 = taken turns k t m b k2 f in
    let same_state : x.old ≡ y.old = ap (λ o. unwrap_or o x.old) (sym x.is_there ∙ y.is_there) in
    let same_start : x.start ≡ y.start = running_same x.start y.start (sym x.runs ∙ ap (λ (s : ThreadState). s.execution) same_state ∙ y.runs) in
    let steps : (n ≡ m) × (x.last ≡ y.last) = same_count n m y.start x.last y.last (ap (after_pure n) (sym same_start) ∙ x.steps) y.steps (taken_last k t n a k1 x) (taken_last k t m b k2 y) in
    let same_config : with_turns t n (with_execution k t (Running x.last)) ≡ with_turns t m (with_execution k t (Running y.last)) = ap (λ i. with_turns t i (with_execution k t (Running x.last))) steps.0 ∙ ap (λ v. with_turns t m (with_execution k t (Running v))) steps.1 in
    let one : (a ≡ b) × (x.before_act ≡ y.before_act) = exactly_one a b (effect (with_turns t m (with_execution k t (Running y.last))) t) x.before_act y.before_act (ap (λ c. exactly a (effect c t)) (sym same_config) ∙ x.does) y.does in
    (steps.0, one.0, sym x.ends ∙ ap (with_turns t 1) one.1 ∙ y.ends)

-- ---- cutting an entry

over_limit : (turns used n m c : ℕ) → nat_lt turns (used + n + 0) ≡ true → nat_lt turns (used + (n + m) + c) ≡ true
over_limit turns used n m c e = lt-ltb turns (used + (n + m) + c) (more (ltb-true turns (used + n + 0) e))
  where
    more : turns < used + n + 0 → turns < used + (n + m) + c
    more h = omega arith

same_turns : (used n m : ℕ) → used + (n + m) ≡ used + n + m
same_turns used n m = omega arith

-- the two ways to the same configuration
cut_config : (k : Config) (t n m : ℕ) (old : ThreadState) (v w : Term ℕ) → slice_get k.threads t ≡ Some old → with_turns t (n + m) (with_execution k t (Running w)) ≡ with_turns t m (with_execution (stepped k t old n v) t (Running w))
cut_config k t n m old v w e =
    let state : ThreadState = record { execution = Running v; used = old.used + n } in
    steps_taken k t (n + m) old w e
    ∙ ap (λ i. record k { threads = slice_set k.threads t (record { execution = Running w; used = i }) }) (same_turns old.used n m)
    ∙ sym (ap (λ (l : List ThreadState). record k { threads = l }) (set_set k.threads t state (record { execution = Running w; used = old.used + n + m })))
    ∙ sym (steps_taken (stepped k t old n v) t m state w (get_set k.threads t state old e))

-- after the first part, the second is taken as the rest of the whole
cut_rest : (turns : ℕ) (k : Config) (t n m : ℕ) (a : Option Act) (old : ThreadState) (v : Term ℕ) → slice_get k.threads t ≡ Some old → (if nat_lt turns (old.used + (n + m) + act_turns a) then None else take_of k (entry_of t (n + m) a) (after_pure m v)) ≡ take_entry turns (with_turns t n (with_execution k t (Running v))) (entry_of t m a)
cut_rest turns k t n m a old v e =
    let state : ThreadState = record { execution = Running v; used = old.used + n } in
    ap (λ i. if nat_lt turns (i + act_turns a) then None else take_of k (entry_of t (n + m) a) (after_pure m v)) (same_turns old.used n m)
    ∙ ap (λ o. if nat_lt turns (old.used + n + m + act_turns a) then None else o) (by_option (after_pure m v))
    ∙ sym (ap (take_state turns (stepped k t old n v) (entry_of t m a)) (get_set k.threads t state old e))
    ∙ sym (ap (λ c. take_entry turns c (entry_of t m a)) (steps_taken k t n old v e))
  where
    by_option : (o : Option (Term ℕ)) → take_of k (entry_of t (n + m) a) o ≡ take_of (stepped k t old n v) (entry_of t m a) o
    by_option None = refl
    by_option (Some w) = ap (then_act t a) (cut_config k t n m old v w e)

none_if : (b : Bool) (o : Option Config) → o ≡ None → (if b then None else o) ≡ None
none_if true o e = refl
none_if false o e = e

cut_running : (turns : ℕ) (k : Config) (t n m : ℕ) (a : Option Act) (old : ThreadState) (u : Term ℕ) → slice_get k.threads t ≡ Some old → take_execution turns k (entry_of t (n + m) a) old (Running u) ≡ elim (take_execution turns k (entry_of t n None) old (Running u)) [ None ↦ None | Some k2 ↦ take_entry turns k2 (entry_of t m a) ]
cut_running turns k t n m a old u e =
    ap (λ o. if nat_lt turns (old.used + (n + m) + act_turns a) then None else take_of k (entry_of t (n + m) a) o) (steps_then n m u)
    ∙ by_case (nat_lt turns (old.used + n + 0)) refl (after_pure n u)
  where
    by_case : (b : Bool) → nat_lt turns (old.used + n + 0) ≡ b → (o : Option (Term ℕ)) → (if nat_lt turns (old.used + (n + m) + act_turns a) then None else take_of k (entry_of t (n + m) a) (more_of m o)) ≡ elim (if b then None else take_of k (entry_of t n None) o) [ None ↦ None | Some k2 ↦ take_entry turns k2 (entry_of t m a) ]
    by_case true q o = ap (λ b. if b then None else take_of k (entry_of t (n + m) a) (more_of m o)) (over_limit turns old.used n m (act_turns a) q)
    by_case false q None = none_if (nat_lt turns (old.used + (n + m) + act_turns a)) None refl
    by_case false q (Some v) = cut_rest turns k t n m a old v e

pub cut_entry : CutEntry
cut_entry turns k t n m a = by_option (slice_get k.threads t) refl
  where
    by_option : (o : Option ThreadState) → slice_get k.threads t ≡ o → take_state turns k (entry_of t (n + m) a) o ≡ elim (take_state turns k (entry_of t n None) o) [ None ↦ None | Some k2 ↦ take_entry turns k2 (entry_of t m a) ]
    by_option None q = refl
    by_option (Some old) q = by_execution old.execution
      where
        by_execution : (l : Execution) → take_execution turns k (entry_of t (n + m) a) old l ≡ elim (take_execution turns k (entry_of t n None) old l) [ None ↦ None | Some k2 ↦ take_entry turns k2 (entry_of t m a) ]
        by_execution (Running u) = cut_running turns k t n m a old u q
        by_execution (Returned v) = refl
        by_execution (Failed x) = refl
