-- No turn makes more closures than a literal of the program has methods.
use Rattle.std.specs.Prelude.{Bool, List, None, Option, Some, [], false, if◌then◌else◌, length, nat_lt, refl, slice_get, slice_set, suc, true, zero, ℕ, ◌++◌, ◌+◌, ◌*◌, ◌==◌, ◌∷◌, ◌≡◌, ◌≤◌}
use Rattle.std.proofs.Common.{subst, ap, sym, ◌∙◌, arith}
use Rattle.std.proofs.lemmas.Bool.{eqb-true, eqb-false}
use Rattle.obq_base.specs.declared.limits.TheConstants.{CLOSURE_LIMIT}
use Rattle.obq_base.specs.declared.acts.Act.{Act}
use Rattle.obq_base.specs.declared.acts.Entry.{Entry}
use Rattle.obq_base.specs.Tree.{BlockTree}
use Rattle.obq_model.specs.Terms.{Object, Value, Loc, Kind, LetRec, Group, Procedure, MakeObject, SetMethod, Term, Const, Name, Under, Form, Parts, End, Part}
use Rattle.obq_model.specs.Depth.{deepest_of, is_too_deep}
use Rattle.obq_model.specs.Shapes.{methods_of}
use Rattle.obq_model.specs.Store.{Store, same_loc}
use Rattle.obq_model.specs.Step.{no_self, is_operand, plug, Found, Next, Needs, Done, Uncaught, make_object, find, pure}
use Rattle.obq_model.specs.Config.{Execution, Running, Returned, ThreadState, Config}
use Rattle.obq_model.specs.Effect.{end_by}
use Rattle.obq_model.specs.Opening.{opening}
use Rattle.obq_model.specs.Replay.{after_pure, act_turns, take_of, take_entry, replay_from}
use Rattle.obq_model.proofs.Slices.{get_below, set_same, set_other}
use Rattle.obq_laws.specs.Closures.{made_if_needed, made_by, made, made_part, made_steps, made_act, made_state, made_entry, made_from, TurnMakesFew, ClosuresLaw}
use Rattle.obq_laws.specs.Known.{Places, Threads, IsKnown, AreKnown, IsKnownKind, IsPlace, Counted, IsKnownConfig}
use Rattle.obq_laws.specs.Literals.{AreNarrow}
use Rattle.obq_laws.specs.Turns.{state_of, changed, Turn, Steps, Acts, Forks, Ends, Raises, Turns, NoTurn, TheAct, AStep}
use Rattle.obq_laws.proofs.KnownActs.{IsKnownState, thread_known}
use Rattle.obq_laws.proofs.KnownReplay.{next_known, known_turn, known_opening, references_law}
use Rattle.obq_laws.proofs.KnownStep.{known_find}
use Rattle.obq_laws.proofs.Turns.{from_here, turn_by_turn, kept_by_entry}

-- ---- one turn

few_if : (n : ℕ) (b : Bool) (x y : ℕ) → x ≤ n → y ≤ n → (if b then x else y) ≤ n
few_if n true x y h i = h
few_if n false x y h i = i

none_or_one : (n : ℕ) (b : Bool) → 1 ≤ n → (if b then 0 else 1) ≤ n
none_or_one n b l = few_if n b 0 1 (omega arith) l

few_needed : {R : Type 0} (n m : ℕ) (x : Found R) → m ≤ n → made_if_needed m x ≤ n
few_needed n m (Next u) l = omega arith
few_needed n m (Needs op fs) l = l
few_needed n m (Done v) l = omega arith
few_needed n m (Uncaught r) l = omega arith

few_by : {R : Type 0} (L : Places R) (T : Threads) (n : ℕ) → 1 ≤ n → T.narrow n → (k : Kind R) (vs : List (Value R)) (parts : Parts R) → IsKnownKind L T k → made_by k vs parts ≤ n
few_by L T n l w LetRec [] (Part (Under names (Form Group (Part rest group))) End) h = none_or_one n (nat_lt CLOSURE_LIMIT (deepest_of group)) l
few_by L T n l w Procedure [] (Part (Under params body) End) h = none_or_one n (is_too_deep body) l
few_by L T n l w (MakeObject flags shape) vs methods h = few_needed n (methods_of shape) (make_object flags shape vs methods) (h n w)
few_by L T n l w (SetMethod x) (Loc Object o ∷ []) (Part (Under params body) End) h = none_or_one n (is_too_deep body) l
few_by L T n l w _ _ _ h = omega arith

few_operand : (n : ℕ) (b : Bool) (x y : ℕ) → x ≤ n → y ≤ n → elim b as (λ z. ℕ) [ true ↦ x | false ↦ y ] ≤ n
few_operand n true x y h i = h
few_operand n false x y h i = i

mutual
  -- the turn that stands next in a known term makes n closures at most
  pub few_made : {R : Type 0} (L : Places R) (T : Threads) (n : ℕ) → 1 ≤ n → T.narrow n → (t : Term R) → IsKnown L T t → made t ≤ n
  few_made L T n l w (Const v) h = omega arith
  few_made L T n l w (Name x) h = omega arith
  few_made L T n l w (Under names t) h = omega arith
  few_made L T n l w (Form k parts) h = few_part L T n l w k [] parts h.0 h.1

  few_part : {R : Type 0} (L : Places R) (T : Threads) (n : ℕ) → 1 ≤ n → T.narrow n → (k : Kind R) (before : List (Value R)) (parts : Parts R) → IsKnownKind L T k → AreKnown L T parts → made_part k before parts ≤ n
  few_part L T n l w k before End h p = few_by L T n l w k before End h
  few_part L T n l w k before (Part (Const v) after) h p =
      few_operand n (is_operand k (length before)) (made_part k (before ++ v ∷ []) after) (made_by k before (Part (Const v) after)) (few_part L T n l w k (before ++ v ∷ []) after h p.1) (few_by L T n l w k before (Part (Const v) after) h)
  few_part L T n l w k before (Part t after) h p =
      few_operand n (is_operand k (length before)) (made t) (made_by k before (Part t after)) (few_made L T n l w t p.0) (few_by L T n l w k before (Part t after) h)

-- ---- one entry

one_more : (a b m n : ℕ) → a ≤ n → b ≤ m * n → a + b ≤ suc m * n
one_more a b m n h i = grind (arith, h, i)

few_steps : (L : Places ℕ) (T : Threads) (n : ℕ) → 1 ≤ n → T.narrow n → (m : ℕ) (t u : Term ℕ) → IsKnown L T t → after_pure m t ≡ Some u → (made_steps m t ≤ m * n) × IsKnown L T u
few_steps L T n l w zero t u h e = let same : t ≡ u = cc e in (omega arith, subst (IsKnown L T) same h)
few_steps L T n l w (suc m) t u h e = by (pure same_loc t) refl e (λ v. few_steps L T n l w m v u)
  where
    by : (o : Option (Term ℕ)) → pure same_loc t ≡ o → elim o [ None ↦ None | Some v ↦ after_pure m v ] ≡ Some u → ((v : Term ℕ) → IsKnown L T v → after_pure m v ≡ Some u → (made_steps m v ≤ m * n) × IsKnown L T u)
        → (elim o as (λ x. ℕ) [ None ↦ 0 | Some v ↦ made t + made_steps m v ] ≤ suc m * n) × IsKnown L T u
    by None q r next = absurd (cc r)
    by (Some v) q r next =
        let rest = next v (next_known L T (find same_loc 0 no_self t) v (known_find L T same_loc 0 no_self t tt h) q) r in
        (one_more (made t) (made_steps m v) m n (few_made L T n l w t h) rest.0, rest.1)

few_act : (L : Places ℕ) (T : Threads) (n : ℕ) → 1 ≤ n → T.narrow n → (a : Option Act) (u : Term ℕ) → IsKnown L T u → made_act a (Some u) ≤ act_turns a * n
few_act L T n l w None u h = omega arith
few_act L T n l w (Some a) u h = by (made u) (few_made L T n l w u h)
  where
    by : (m : ℕ) → m ≤ n → m ≤ 1 * n
    by m i = omega arith

few_entry : (trees : List BlockTree) (turns n : ℕ) → 1 ≤ n → AreNarrow n trees → (k k2 : Config) (e : Entry) → IsKnownConfig trees k → take_entry turns k e ≡ Some k2 → made_state e (slice_get k.threads e.thread) ≤ (e.pure + act_turns e.act) * n
few_entry trees turns n l w k k2 e c r = by (from_here turns k k2 e r).0 (from_here turns k k2 e r).1 (from_here turns k k2 e r).2 (from_here turns k k2 e r).4
  where
    sum : (a b p q : ℕ) → a ≤ p * n → b ≤ q * n → a + b ≤ (p + q) * n
    sum a b p q h i = grind (arith, h, i)

    behind : (u : Term ℕ) → IsKnown (IsPlace k.store) (Counted trees k.threads) u → (o : Option (Term ℕ)) → after_pure e.pure u ≡ o → take_of k e o ≡ Some k2 → made_steps e.pure u + made_act e.act o ≤ (e.pure + act_turns e.act) * n
    behind u h None q s = absurd (cc s)
    behind u h (Some v) q s =
        let steps = few_steps (IsPlace k.store) (Counted trees k.threads) n l w e.pure u v h q in
        sum (made_steps e.pure u) (made_act e.act (Some v)) e.pure (act_turns e.act) steps.0 (few_act (IsPlace k.store) (Counted trees k.threads) n l w e.act v steps.1)

    by : (u : Term ℕ) (used : ℕ) → slice_get k.threads e.thread ≡ Some (state_of (Running u) used) → take_of k e (after_pure e.pure u) ≡ Some k2 → made_state e (slice_get k.threads e.thread) ≤ (e.pure + act_turns e.act) * n
    by u used here s =
        let h : IsKnown (IsPlace k.store) (Counted trees k.threads) u = subst (IsKnownState (IsPlace k.store) (Counted trees k.threads)) here (thread_known (IsPlace k.store) (Counted trees k.threads) k.threads e.thread c.1) in
        subst (λ o. made_state e o ≤ (e.pure + act_turns e.act) * n) (sym here) (behind u h (after_pure e.pure u) refl s)

-- ---- turns used

abbrev used_in : Option ThreadState → ℕ
used_in None = 0
used_in (Some s) = s.used

abbrev used_at : Config → ℕ → ℕ
used_at k t = used_in (slice_get k.threads t)

-- thread t has used m more turns, and no other has used more
abbrev UsedMore : Config → Config → ℕ → ℕ → Type 0
UsedMore k k2 t m = (used_at k2 t ≡ used_at k t + m) × ((u : ℕ) → (u ≡ t → ⊥) → used_at k2 u ≡ used_at k u)

used_changed : (k : Config) (t used : ℕ) (x y : Execution) (st : Store ℕ) → slice_get k.threads t ≡ Some (state_of x used) → UsedMore k (changed k t y (suc used) st) t 1
used_changed k t used x y st here = (
  one used (used_at (changed k t y (suc used) st) t) (used_at k t) (ap used_in (set_same k.threads t (state_of y (suc used)) (get_below k.threads t (state_of x used) here))) (ap used_in here),
  λ u ne. ap used_in (set_other k.threads t (state_of y (suc used)) u ne),
)
  where
    one : (a b c : ℕ) → b ≡ suc a → c ≡ a → b ≡ c + 1
    one a b c p q = omega arith

-- a thread that begins has used none
begun_used : (ts : List ThreadState) (s : ThreadState) → s.used ≡ 0 → (u : ℕ) → used_in (slice_get (ts ++ s ∷ []) u) ≡ used_in (slice_get ts u)
begun_used [] s e zero = e
begun_used [] s e (suc u) = refl
begun_used (x ∷ xs) s e zero = refl
begun_used (x ∷ xs) s e (suc u) = begun_used xs s e u

used_turn : (turns : ℕ) (k k2 : Config) (t : ℕ) (a : Option Act) → Turn turns k t a k2 → UsedMore k k2 t 1
used_turn turns k _ t _ (Steps {u} {used} {v} g e) = used_changed k t used (Running u) (Running v) k.store g.is_there
used_turn turns k _ t _ (Acts {u} {used} {op} {fs} {kind} {loc} {st} {focus} g f p) = used_changed k t used (Running u) (Running (plug fs focus)) st g.is_there
used_turn turns k _ t _ (Forks {u} {used} {op} {fs} {loc} {new} {focus} g f p) =
    let ts : List ThreadState = slice_set k.threads t (state_of (Running (plug fs focus)) (suc used)) in
    let same = begun_used ts (state_of (Running new) 0) refl in
    let more : UsedMore k (changed k t (Running (plug fs focus)) (suc used) k.store) t 1 = used_changed k t used (Running u) (Running (plug fs focus)) k.store g.is_there in
    (same t ∙ more.0, λ u2 ne. same u2 ∙ more.1 u2 ne)
used_turn turns k _ t _ (Ends {u} {used} {v} g f) = used_changed k t used (Running u) (Returned v) k.store g.is_there
used_turn turns k _ t _ (Raises {u} {used} {r} g f) = used_changed k t used (Running u) (end_by r) k.store g.is_there

used_turns : (turns t : ℕ) (k : Config) (m : ℕ) (a : Option Act) (k2 : Config) → Turns turns t k m a k2 → UsedMore k k2 t (m + act_turns a)
used_turns turns t k m a k2 NoTurn = (omega arith, λ u ne. refl)
used_turns turns t k m a k2 (TheAct {a = b} x) = used_turn turns k k2 t (Some b) x
used_turns turns t k m a k2 (AStep {k1} {n} x y) =
    let one = used_turn turns k k1 t None x in
    let rest = used_turns turns t k1 n a k2 y in
    (both (used_at k t) (used_at k1 t) (used_at k2 t) n (act_turns a) one.0 rest.0, λ u ne. rest.1 u ne ∙ one.1 u ne)
  where
    both : (x y z n c : ℕ) → y ≡ x + 1 → z ≡ y + (n + c) → z ≡ x + (suc n + c)
    both x y z n c e f = omega arith

-- ---- the fold

entry_grows : (trees : List BlockTree) (turns n : ℕ) → 1 ≤ n → AreNarrow n trees → (k k2 : Config) (t : ℕ) (e : Entry) → IsKnownConfig trees k → take_entry turns k e ≡ Some k2 → made_entry k t e + used_at k t * n ≤ used_at k2 t * n
entry_grows trees turns n l w k k2 t e c r = by (e.thread == t) refl
  where
    more : UsedMore k k2 e.thread (e.pure + act_turns e.act)
    more = used_turns turns e.thread k e.pure e.act k2 (turn_by_turn turns k k2 e r)

    grows : (x y z m : ℕ) → x ≤ m * n → z ≡ y + m → x + y * n ≤ z * n
    grows x y z m h q = rw q (grind (arith, h))

    stays : (y z : ℕ) → z ≡ y → 0 + y * n ≤ z * n
    stays y z q = rw q (omega arith)

    by : (b : Bool) → (e.thread == t) ≡ b → (if b then made_state e (slice_get k.threads e.thread) else 0) + used_at k t * n ≤ used_at k2 t * n
    by true q =
        subst (λ u. made_state e (slice_get k.threads e.thread) + used_at k u * n ≤ used_at k2 u * n) (eqb-true e.thread t q)
        (grows (made_state e (slice_get k.threads e.thread)) (used_at k e.thread) (used_at k2 e.thread) (e.pure + act_turns e.act) (few_entry trees turns n l w k k2 e c r) more.0)
    by false q = stays (used_at k t) (used_at k2 t) (more.1 t (λ s. eqb-false e.thread t q (sym s)))

made_grows : (trees : List BlockTree) (turns n : ℕ) → 1 ≤ n → AreNarrow n trees → (k k2 : Config) (t : ℕ) (es : List Entry) → IsKnownConfig trees k → replay_from turns k es ≡ Some k2 → made_from turns k t es + used_at k t * n ≤ used_at k2 t * n
made_grows trees turns n l w k k2 t [] c r = let same : k ≡ k2 = cc r in subst (λ x. 0 + used_at k t * n ≤ used_at x t * n) same (omega arith)
made_grows trees turns n l w k k2 t (e ∷ es) c r = by (take_entry turns k e) refl r (λ k1. made_grows trees turns n l w k1 k2 t es)
  where
    both : (a b x y z : ℕ) → a + x ≤ y → b + y ≤ z → a + b + x ≤ z
    both a b x y z h i = omega arith

    by : (o : Option Config) → take_entry turns k e ≡ o → elim o [ None ↦ None | Some k1 ↦ replay_from turns k1 es ] ≡ Some k2
        → ((k1 : Config) → IsKnownConfig trees k1 → replay_from turns k1 es ≡ Some k2 → made_from turns k1 t es + used_at k1 t * n ≤ used_at k2 t * n)
        → elim o as (λ x. ℕ) [ None ↦ 0 | Some k1 ↦ made_entry k t e + made_from turns k1 t es ] + used_at k t * n ≤ used_at k2 t * n
    by None q s next = absurd (cc s)
    by (Some k1) q s next =
        let c1 : IsKnownConfig trees k1 = kept_by_entry turns (IsKnownConfig trees) (λ x y u a p z. known_turn trees turns x y u a p z) e.thread e.pure e.act k k1 c (turn_by_turn turns k k1 e q) in
        both (made_entry k t e) (made_from turns k1 t es) (used_at k t * n) (used_at k1 t * n) (used_at k2 t * n) (entry_grows trees turns n l w k k1 t e c q) (next k1 c1 s)

pub closures_law : ClosuresLaw
closures_law trees turns es k t state n l w r here =
    by (made_from turns (opening trees) t es) (used_at (opening trees) t * n) (used_at k t) (made_grows trees turns n l w (opening trees) k t es (known_opening trees) r) (ap used_in here)
  where
    by : (a b u : ℕ) → a + b ≤ u * n → u ≡ state.used → a ≤ state.used * n
    by a b u h q = subst (λ m. a ≤ m * n) q (omega (arith, h))

pub turn_makes_few : TurnMakesFew
turn_makes_few trees turns es k t used u n l w r here =
    let c : IsKnownConfig trees k = references_law trees turns es k r in
    few_made (IsPlace k.store) (Counted trees k.threads) n l w u (subst (IsKnownState (IsPlace k.store) (Counted trees k.threads)) here (thread_known (IsPlace k.store) (Counted trees k.threads) k.threads t c.1))
