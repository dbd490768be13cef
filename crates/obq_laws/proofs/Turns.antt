-- An entry turn by turn, and what each turn keeps every replay keeps.
use Rattle.std.specs.Prelude.{Bool, List, None, Option, Some, [], false, if◌then◌else◌, length, nat_lt, refl, slice_get, slice_index_or, slice_set, suc, true, unwrap_or, zero, ℕ, ◌++◌, ◌+◌, ◌<◌, ◌∷◌, ◌≡◌}
use Rattle.std.proofs.Common.{subst, ap, sym, ◌∙◌, arith}
use Rattle.std.proofs.lemmas.Option.{get_or_from_slice_get}
use Rattle.std.proofs.lemmas.Bool.Decides.{nat_tests}
use Rattle.obq_base.specs.declared.acts.ActKind.{ActKind}
use Rattle.obq_base.specs.declared.acts.Act.{Act}
use Rattle.obq_base.specs.declared.acts.Entry.{Entry}
use Rattle.obq_base.specs.Tree.{BlockTree}
use Rattle.obq_model.specs.Terms.{Term}
use Rattle.obq_model.specs.Store.{same_loc}
use Rattle.obq_model.specs.Step.{no_self, plug, Found, Next, Needs, Done, Uncaught, find, pure, self_at}
use Rattle.obq_model.specs.Config.{Execution, Running, Returned, Failed, ThreadState, Config, act, with_execution}
use Rattle.obq_model.specs.Effect.{Outcome, Waiting, Acting, Forking, perform, Does, after_outcome, end_by, effect_of, effect_of_state, effect}
use Rattle.obq_model.specs.Opening.{opening}
use Rattle.obq_model.specs.Replay.{after_pure, kind_same, act_same, spend, with_turns, exactly, then_act, act_turns, take_of, take_execution, take_state, take_entry, replay_from, replay}
use Rattle.obq_model.proofs.Options.{none_some}
use Rattle.obq_model.proofs.Slices.{get_below, set_same, set_set, set_own, set_length, push_other, push_set}
use Rattle.obq_laws.specs.Determinism.{entry_of}
use Rattle.obq_laws.specs.Turns.{state_of, changed, with_thread, CanGo, Turn, Steps, Acts, Forks, Ends, Raises, Turns, NoTurn, TheAct, AStep, TurnByTurn, alone, TurnTaken}
use Rattle.obq_laws.proofs.OwnerTerms.{eq_refl}
use Rattle.obq_laws.proofs.Exclusion.{act_same_eq}
use Rattle.obq_laws.proofs.Determinism.{cut_entry}

-- ---- a turn that is counted

pub turns_counted : (k : Config) (t n : ℕ) (old : ThreadState) (l : Execution) → slice_get k.threads t ≡ Some old → with_turns t n (with_execution k t l) ≡ changed k t l (old.used + n) k.store
turns_counted k t n old l e =
    let used : ℕ = (slice_index_or k.threads t (state_of l 0)).used in
    let state : ThreadState = state_of l used in
    ap (λ (o : Option ThreadState). record k { threads = elim o [ None ↦ slice_set k.threads t state | Some s ↦ slice_set (slice_set k.threads t state) t (spend n s) ] }) (set_same k.threads t state (get_below k.threads t old e))
    ∙ ap (λ (ts : List ThreadState). record k { threads = ts }) (set_set k.threads t state (spend n state))
    ∙ ap (λ (s : ThreadState). record k { threads = slice_set k.threads t (state_of l (s.used + n)) }) (get_or_from_slice_get k.threads t old (state_of l 0) e)

one_more : (used : ℕ) → used + 1 ≡ suc used
one_more used = omega arith

no_more : (used : ℕ) → used + 0 ≡ used
no_more used = omega arith

turned_once : (k : Config) (t used : ℕ) (u : Term ℕ) (l : Execution) → slice_get k.threads t ≡ Some (state_of (Running u) used) → with_turns t 1 (with_execution k t l) ≡ changed k t l (suc used) k.store
turned_once k t used u l e = turns_counted k t 1 (state_of (Running u) used) l e ∙ ap (λ n. changed k t l n k.store) (one_more used)

-- an entry without steps begins where it is
pub stays : (k : Config) (t used : ℕ) (u : Term ℕ) → slice_get k.threads t ≡ Some (state_of (Running u) used) → with_turns t 0 (with_execution k t (Running u)) ≡ k
stays k t used u here =
    turns_counted k t 0 (state_of (Running u) used) (Running u) here
    ∙ ap (λ n. changed k t (Running u) n k.store) (no_more used)
    ∙ ap (λ (ts : List ThreadState). record k { threads = ts }) (set_own k.threads t (state_of (Running u) used) here)

below_other : (t n m : ℕ) → t < n → m ≡ n → t ≡ m → ⊥
below_other t n m l e f = absurd (omega arith)

below_same : (t n m : ℕ) → t < n → m ≡ n → t < m
below_same t n m l e = omega arith

turned_fork : (k : Config) (t used : ℕ) (u : Term ℕ) (l : Execution) (new : Term ℕ) → slice_get k.threads t ≡ Some (state_of (Running u) used)
    → with_turns t 1 (record k { threads = (with_execution k t l).threads ++ state_of (Running new) 0 ∷ [] }) ≡ with_thread (changed k t l (suc used) k.store) new
turned_fork k t used0 u l new e =
    let old : ThreadState = state_of (Running u) used0 in
    let used : ℕ = (slice_index_or k.threads t (state_of l 0)).used in
    let state : ThreadState = state_of l used in
    let ts : List ThreadState = slice_set k.threads t state in
    let last : ThreadState = state_of (Running new) 0 in
    let there : t < length k.threads = get_below k.threads t old e in
    let long : length ts ≡ length k.threads = set_length k.threads t state in
    ap (λ (o : Option ThreadState). record k { threads = elim o [ None ↦ ts ++ last ∷ [] | Some s ↦ slice_set (ts ++ last ∷ []) t (spend 1 s) ] })
    (push_other ts last t (below_other t (length k.threads) (length ts) there long) ∙ set_same k.threads t state there)
    ∙ ap (λ (l : List ThreadState). record k { threads = l }) (push_set ts last t (spend 1 state) (below_same t (length k.threads) (length ts) there long))
    ∙ ap (λ (l : List ThreadState). record k { threads = l ++ last ∷ [] }) (set_set k.threads t state (spend 1 state))
    ∙ ap (λ (s : ThreadState). record k { threads = slice_set k.threads t (state_of l (s.used + 1)) ++ last ∷ [] }) (get_or_from_slice_get k.threads t old (state_of l 0) e)
    ∙ ap (λ n. with_thread (changed k t l n k.store) new) (one_more used0)

-- ---- from an entry to its turns

some_config : (k k2 : Config) → Some k ≡ Some k2 → k ≡ k2
some_config k k2 e = ap (λ o. unwrap_or o k) e

left_step : (turns used : ℕ) → nat_lt turns (used + 1 + 0) ≡ false → used < turns
left_step turns used h = grind (arith, nat_tests)

left_act : (turns used : ℕ) → nat_lt turns (used + 0 + 1) ≡ false → used < turns
left_act turns used h = grind (arith, nat_tests)

-- a thread that goes on with this term
state_is : (old : ThreadState) (u : Term ℕ) → old.execution ≡ Running u → old ≡ state_of (Running u) old.used
state_is old u e = ap (λ x. state_of x old.used) e

-- a legal entry is one of a thread that is here and goes on
abbrev FromHere : ℕ → Config → Config → Entry → Type 0
FromHere turns k k2 e =
    (u : Term ℕ) × (used : ℕ) × (slice_get k.threads e.thread ≡ Some (state_of (Running u) used)) × (nat_lt turns (used + e.pure + act_turns e.act) ≡ false) × (take_of k e (after_pure e.pure u) ≡ Some k2)

pub from_here : (turns : ℕ) (k k2 : Config) (e : Entry) → take_entry turns k e ≡ Some k2 → FromHere turns k k2 e
from_here turns k k2 e h = by (slice_get k.threads e.thread) refl h
  where
    limit : (old : ThreadState) (u : Term ℕ) (b : Bool) → nat_lt turns (old.used + e.pure + act_turns e.act) ≡ b → slice_get k.threads e.thread ≡ Some old → old.execution ≡ Running u → (if b then None else take_of k e (after_pure e.pure u)) ≡ Some k2 → FromHere turns k k2 e
    limit old u true q here runs r = absurd (none_some k2 r)
    limit old u false q here runs r = (u, old.used, here ∙ ap Some (state_is old u runs), q, r)

    running : (old : ThreadState) (l : Execution) → slice_get k.threads e.thread ≡ Some old → old.execution ≡ l → take_execution turns k e old l ≡ Some k2 → FromHere turns k k2 e
    running old (Running u) here runs r = limit old u (nat_lt turns (old.used + e.pure + act_turns e.act)) refl here runs r
    running old (Returned v) here runs r = absurd (none_some k2 r)
    running old (Failed x) here runs r = absurd (none_some k2 r)

    by : (o : Option ThreadState) → slice_get k.threads e.thread ≡ o → take_state turns k e o ≡ Some k2 → FromHere turns k k2 e
    by None here r = absurd (none_some k2 r)
    by (Some old) here r = running old old.execution here refl r

to_turn : (turns : ℕ) (k : Config) (t : ℕ) (a : Option Act) (k3 k2 : Config) → Turn turns k t a k3 → k3 ≡ k2 → Turn turns k t a k2
to_turn turns k t a k3 k2 h e = subst (Turn turns k t a) e h

-- an entry of one pure step
step_turn : (turns : ℕ) (k k2 : Config) (t : ℕ) → take_entry turns k (entry_of t 1 None) ≡ Some k2 → Turn turns k t None k2
step_turn turns k k2 t h = by (from_here turns k k2 (entry_of t 1 None) h)
  where
    stepped : (u : Term ℕ) (used : ℕ) → slice_get k.threads t ≡ Some (state_of (Running u) used) → used < turns → (o : Option (Term ℕ)) → pure same_loc u ≡ o
        → take_of k (entry_of t 1 None) (elim o [ None ↦ None | Some v ↦ Some v ]) ≡ Some k2 → Turn turns k t None k2
    stepped u used here l None q r = absurd (none_some k2 r)
    stepped u used here l (Some v) q r =
        to_turn turns k t None (changed k t (Running v) (suc used) k.store) k2 (Steps (record { is_there = here; is_left = l }) q)
        (sym (turned_once k t used u (Running v) here) ∙ some_config (with_turns t 1 (with_execution k t (Running v))) k2 r)

    by : FromHere turns k k2 (entry_of t 1 None) → Turn turns k t None k2
    by (u, used, here, few, r) = stepped u used here (left_step turns used few) (pure same_loc u) refl r

-- what is exactly this act
pub exact : (a : Act) (kind : ActKind) (loc : ℕ) (k3 k2 : Config) (t : ℕ) (P : Act → Config → Type 0) → P (act kind loc) (with_turns t 1 k3)
    → elim (exactly a (Does (act kind loc) k3)) [ None ↦ None | Some k4 ↦ Some (with_turns t 1 k4) ] ≡ Some k2 → P a k2
exact a kind loc k3 k2 t P h e = by (act_same a (act kind loc)) refl e
  where
    by : (b : Bool) → act_same a (act kind loc) ≡ b → elim (if b then Some k3 else None) [ None ↦ None | Some k4 ↦ Some (with_turns t 1 k4) ] ≡ Some k2 → P a k2
    by true q r = subst (λ x. P x k2) (act_same_eq a kind loc q) (subst (P (act kind loc)) (some_config (with_turns t 1 k3) k2 r) h)
    by false q r = absurd (none_some k2 r)

-- the act of a thread in whose term this stands next
act_found : (turns : ℕ) (k k2 : Config) (t : ℕ) (a : Act) (u : Term ℕ) (used : ℕ) → CanGo turns k t u used → (x : Found ℕ) → find same_loc 0 no_self u ≡ x
    → elim (exactly a (effect_of k t x)) [ None ↦ None | Some k4 ↦ Some (with_turns t 1 k4) ] ≡ Some k2 → Turn turns k t (Some a) k2
act_found turns k k2 t a u used g (Next v) f r = absurd (none_some k2 r)
act_found turns k k2 t a u used g (Needs op fs) f r = by (perform k t (self_at no_self fs) op) refl r
  where
    by : (x : Outcome) → perform k t (self_at no_self fs) op ≡ x → elim (exactly a (after_outcome k t fs x)) [ None ↦ None | Some k4 ↦ Some (with_turns t 1 k4) ] ≡ Some k2 → Turn turns k t (Some a) k2
    by Waiting p q = absurd (none_some k2 q)
    by (Acting kind loc st focus) p q =
        exact a kind loc (with_execution (record k { store = st }) t (Running (plug fs focus))) k2 t (λ b c. Turn turns k t (Some b) c)
        (to_turn turns k t (Some (act kind loc)) (changed k t (Running (plug fs focus)) (suc used) st) _ (Acts g f p) (sym (turned_once (record k { store = st }) t used u (Running (plug fs focus)) g.is_there))) q
    by (Forking loc new focus) p q =
        exact a ActKind.Fork loc (record k { threads = (with_execution k t (Running (plug fs focus))).threads ++ state_of (Running new) 0 ∷ [] }) k2 t (λ b c. Turn turns k t (Some b) c)
        (to_turn turns k t (Some (act ActKind.Fork loc)) (with_thread (changed k t (Running (plug fs focus)) (suc used) k.store) new) _ (Forks g f p) (sym (turned_fork k t used u (Running (plug fs focus)) new g.is_there))) q
act_found turns k k2 t a u used g (Done v) f r =
    exact a ActKind.End t (with_execution k t (Returned v)) k2 t (λ b c. Turn turns k t (Some b) c)
    (to_turn turns k t (Some (act ActKind.End t)) (changed k t (Returned v) (suc used) k.store) _ (Ends g f) (sym (turned_once k t used u (Returned v) g.is_there))) r
act_found turns k k2 t a u used g (Uncaught x) f r =
    exact a ActKind.End t (with_execution k t (end_by x)) k2 t (λ b c. Turn turns k t (Some b) c)
    (to_turn turns k t (Some (act ActKind.End t)) (changed k t (end_by x) (suc used) k.store) _ (Raises g f) (sym (turned_once k t used u (end_by x) g.is_there))) r

-- an entry of an act alone
act_turn : (turns : ℕ) (k k2 : Config) (t : ℕ) (a : Act) → take_entry turns k (entry_of t 0 (Some a)) ≡ Some k2 → Turn turns k t (Some a) k2
act_turn turns k k2 t a h = by (from_here turns k k2 (entry_of t 0 (Some a)) h)
  where
    by : FromHere turns k k2 (entry_of t 0 (Some a)) → Turn turns k t (Some a) k2
    by (u, used, here, few, r) =
        let g : CanGo turns k t u used = record { is_there = here; is_left = left_act turns used few } in
        act_found turns k k2 t a u used g (find same_loc 0 no_self u) refl
        (sym (ap (λ c. then_act t (Some a) c) (stays k t used u here) ∙ ap (λ (o : Option ThreadState). elim (exactly a (effect_of_state k t o)) [ None ↦ None | Some k4 ↦ Some (with_turns t 1 k4) ]) here) ∙ r)

-- an entry of nothing
no_turn : (turns : ℕ) (k k2 : Config) (t : ℕ) → take_entry turns k (entry_of t 0 None) ≡ Some k2 → k ≡ k2
no_turn turns k k2 t h = by (from_here turns k k2 (entry_of t 0 None) h)
  where
    by : FromHere turns k k2 (entry_of t 0 None) → k ≡ k2
    by (u, used, here, few, r) = sym (stays k t used u here) ∙ some_config (with_turns t 0 (with_execution k t (Running u))) k2 r

one_plus : (n : ℕ) → suc n ≡ 1 + n
one_plus n = omega arith

entry_turns : (turns : ℕ) (t n : ℕ) (a : Option Act) (k k2 : Config) → take_entry turns k (entry_of t n a) ≡ Some k2 → Turns turns t k n a k2
entry_turns turns t zero None k k2 h = subst (Turns turns t k zero None) (no_turn turns k k2 t h) NoTurn
entry_turns turns t zero (Some a) k k2 h = TheAct (act_turn turns k k2 t a h)
entry_turns turns t (suc n) a k k2 h =
    by (take_entry turns k (entry_of t 1 None)) refl (sym (cut_entry turns k t 1 n a) ∙ ap (λ m. take_entry turns k (entry_of t m a)) (sym (one_plus n)) ∙ h) (λ k1. entry_turns turns t n a k1 k2)
  where
    by : (o : Option Config) → take_entry turns k (entry_of t 1 None) ≡ o → elim o [ None ↦ None | Some k1 ↦ take_entry turns k1 (entry_of t n a) ] ≡ Some k2 → ((k1 : Config) → take_entry turns k1 (entry_of t n a) ≡ Some k2 → Turns turns t k1 n a k2) → Turns turns t k (suc n) a k2
    by None q r next = absurd (none_some k2 r)
    by (Some k1) q r next = AStep (step_turn turns k k1 t q) (next k1 r)

pub turn_by_turn : TurnByTurn
turn_by_turn turns k k2 e h = entry_turns turns e.thread e.pure e.act k k2 h

-- ---- what each turn keeps

-- each turn keeps this of a configuration
abbrev pub KeptByTurns : ℕ → (Config → Type 0) → Type 0
KeptByTurns turns P = (k k2 : Config) (t : ℕ) (a : Option Act) → P k → Turn turns k t a k2 → P k2

pub kept_by_entry : (turns : ℕ) (P : Config → Type 0) → KeptByTurns turns P → (t n : ℕ) (a : Option Act) (k k2 : Config) → P k → Turns turns t k n a k2 → P k2
kept_by_entry turns P h t n a k k2 p (NoTurn) = p
kept_by_entry turns P h t n a k k2 p (TheAct x) = h k k2 t a p x
kept_by_entry turns P h t n a k k2 p (AStep x y) = kept_by_entry turns P h t _ a _ k2 (h k _ t None p x) y

pub kept_from : (turns : ℕ) (P : Config → Type 0) → KeptByTurns turns P → (k k2 : Config) (es : List Entry) → P k → replay_from turns k es ≡ Some k2 → P k2
kept_from turns P h k k2 [] p e = subst P (some_config k k2 e) p
kept_from turns P h k k2 (e ∷ es) p r = by (take_entry turns k e) refl r (λ k1. kept_from turns P h k1 k2 es)
  where
    by : (o : Option Config) → take_entry turns k e ≡ o → elim o [ None ↦ None | Some k1 ↦ replay_from turns k1 es ] ≡ Some k2 → ((k1 : Config) → P k1 → replay_from turns k1 es ≡ Some k2 → P k2) → P k2
    by None q s next = absurd (none_some k2 s)
    by (Some k1) q s next = next k1 (kept_by_entry turns P h e.thread e.pure e.act k k1 p (turn_by_turn turns k k1 e q)) s

-- what holds of an opening and is kept by each turn holds of every configuration that a journal replays to
pub kept_by_replay : (turns : ℕ) (P : Config → Type 0) → KeptByTurns turns P → (trees : List BlockTree) → P (opening trees) → (es : List Entry) (k : Config) → replay trees turns es ≡ Some k → P k
kept_by_replay turns P h trees p es k r = kept_from turns P h (opening trees) k es p r

-- ---- from a turn to its entry

pub one_left : (turns used : ℕ) → used < turns → nat_lt turns (used + 0 + 1) ≡ false
one_left turns used l = grind (arith, nat_tests)

one_left_step : (turns used : ℕ) → used < turns → nat_lt turns (used + 1 + 0) ≡ false
one_left_step turns used l = grind (arith, nat_tests)

kind_refl : (k : ActKind) → kind_same k k ≡ true
kind_refl ActKind.New = refl
kind_refl ActKind.Get = refl
kind_refl ActKind.Call = refl
kind_refl ActKind.Leave = refl
kind_refl ActKind.Hop = refl
kind_refl ActKind.Set = refl
kind_refl ActKind.Copy = refl
kind_refl ActKind.Redirect = refl
kind_refl ActKind.ArrayGet = refl
kind_refl ActKind.ArraySet = refl
kind_refl ActKind.VarGet = refl
kind_refl ActKind.VarSet = refl
kind_refl ActKind.Put = refl
kind_refl ActKind.Fork = refl
kind_refl ActKind.Join = refl
kind_refl ActKind.Line = refl
kind_refl ActKind.GiveUp = refl
kind_refl ActKind.Again = refl
kind_refl ActKind.Signal = refl
kind_refl ActKind.Broadcast = refl
kind_refl ActKind.Export = refl
kind_refl ActKind.Import = refl
kind_refl ActKind.Engine = refl
kind_refl ActKind.End = refl

-- an act is the same as itself
pub act_refl : (kind : ActKind) (loc : ℕ) → act_same (act kind loc) (act kind loc) ≡ true
act_refl kind loc = rw (kind_refl kind, eq_refl loc) refl

act_taken : (turns : ℕ) (k k2 : Config) (t : ℕ) (u : Term ℕ) (used : ℕ) (kind : ActKind) (loc : ℕ) → CanGo turns k t u used → effect k t ≡ Does (act kind loc) k2
    → take_entry turns k (alone t (Some (act kind loc))) ≡ Some (with_turns t 1 k2)
act_taken turns k k2 t u used kind loc g e =
    ap (take_state turns k (entry_of t 0 (Some (act kind loc)))) g.is_there
    ∙ ap (λ (b : Bool). if b then None else take_of k (entry_of t 0 (Some (act kind loc))) (Some u)) (one_left turns used g.is_left)
    ∙ ap (then_act t (Some (act kind loc))) (stays k t used u g.is_there)
    ∙ ap (λ x. elim (exactly (act kind loc) x) [ None ↦ None | Some k3 ↦ Some (with_turns t 1 k3) ]) e
    ∙ ap (λ (b : Bool). elim (if b then Some k2 else None) [ None ↦ None | Some k3 ↦ Some (with_turns t 1 k3) ]) (act_refl kind loc)

found_effect : (turns : ℕ) (k : Config) (t : ℕ) (u : Term ℕ) (used : ℕ) (x : Found ℕ) → CanGo turns k t u used → find same_loc 0 no_self u ≡ x → effect k t ≡ effect_of k t x
found_effect turns k t u used x g f = ap (effect_of_state k t) g.is_there ∙ ap (effect_of k t) f

pub turn_taken : TurnTaken
turn_taken turns k _ t _ (Steps {u} {used} {v} g e) =
    ap (take_state turns k (entry_of t 1 None)) g.is_there
    ∙ ap (λ (b : Bool). if b then None else take_of k (entry_of t 1 None) (after_pure 1 u)) (one_left_step turns used g.is_left)
    ∙ ap (λ (o : Option (Term ℕ)). take_of k (entry_of t 1 None) (elim o [ None ↦ None | Some w ↦ Some w ])) e
    ∙ ap Some (turned_once k t used u (Running v) g.is_there)
turn_taken turns k _ t _ (Acts {u} {used} {op} {fs} {kind} {loc} {st} {focus} g f p) =
    act_taken turns k (with_execution (record k { store = st }) t (Running (plug fs focus))) t u used kind loc g (found_effect turns k t u used (Needs op fs) g f ∙ ap (after_outcome k t fs) p)
    ∙ ap Some (turned_once (record k { store = st }) t used u (Running (plug fs focus)) g.is_there)
turn_taken turns k _ t _ (Forks {u} {used} {op} {fs} {loc} {new} {focus} g f p) =
    act_taken turns k (record k { threads = (with_execution k t (Running (plug fs focus))).threads ++ state_of (Running new) 0 ∷ [] }) t u used ActKind.Fork loc g (found_effect turns k t u used (Needs op fs) g f ∙ ap (after_outcome k t fs) p)
    ∙ ap Some (turned_fork k t used u (Running (plug fs focus)) new g.is_there)
turn_taken turns k _ t _ (Ends {u} {used} {v} g f) =
    act_taken turns k (with_execution k t (Returned v)) t u used ActKind.End t g (found_effect turns k t u used (Done v) g f)
    ∙ ap Some (turned_once k t used u (Returned v) g.is_there)
turn_taken turns k _ t _ (Raises {u} {used} {r} g f) =
    act_taken turns k (with_execution k t (end_by r)) t u used ActKind.End t g (found_effect turns k t u used (Uncaught r) g f)
    ∙ ap Some (turned_once k t used u (end_by r) g.is_there)
