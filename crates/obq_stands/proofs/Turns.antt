-- Entries at the end of a journal: pure steps, an act, an ending, a thread more.
use Rattle.std.specs.Prelude.{Bool, List, Option, Some, None, [], ◌∷◌, ◌++◌, ℕ, false, length, nat_lt, slice_get, slice_set, slice_index_or, refl, ◌+◌, ◌<◌, ◌≤◌, ◌≡◌, if◌then◌else◌}
use Rattle.std.proofs.Common.{ap, sym, ◌∙◌, arith}
use Rattle.std.proofs.lemmas.Option.{get_or_from_slice_get}
use Rattle.std.proofs.lemmas.Bool.Decides.{nat_tests}
use Rattle.obq_base.specs.declared.acts.ActKind.{ActKind}
use Rattle.obq_base.specs.declared.acts.Act.{Act}
use Rattle.obq_base.specs.declared.acts.Entry.{Entry}
use Rattle.obq_model.specs.Terms.{Value, Raised, Term}
use Rattle.obq_model.specs.Store.{Store, same_loc}
use Rattle.obq_model.specs.Step.{Operation, Frame, Needs, Done, Uncaught, no_self, plug, find, self_at}
use Rattle.obq_model.specs.Config.{Execution, Running, Returned, ThreadState, Config, act, with_execution}
use Rattle.obq_model.specs.Effect.{Acting, Forking, Does, perform, after_outcome, effect_of, effect_of_state, effect, end_by}
use Rattle.obq_model.specs.Replay.{after_pure, spend, with_turns, exactly, then_act, take_of, take_state, take_entry, replay_from}
use Rattle.obq_laws.specs.Determinism.{entry_of}
use Rattle.obq_laws.proofs.Determinism.{cut_entry}
use Rattle.obq_laws.proofs.Turns.{act_refl, one_left}
use Rattle.obq_model.proofs.Slices.{get_below, set_same, set_set, set_own, set_length, push_other, push_set}

abbrev pub state_of : Execution → ℕ → ThreadState
state_of ex used = record { execution = ex; used = used }

-- thread t goes on so, and the store is this one
abbrev pub changed : Config → ℕ → Execution → ℕ → Store ℕ → Config
changed c t ex used st = record { store = st; threads = slice_set c.threads t (state_of ex used) }

pub turned : (c : Config) (t n : ℕ) (old : ThreadState) (ex : Execution) → slice_get c.threads t ≡ Some old → with_turns t n (with_execution c t ex) ≡ changed c t ex (old.used + n) c.store
turned c t n old ex e =
    let used : ℕ = (slice_index_or c.threads t (state_of ex 0)).used in
    let state : ThreadState = state_of ex used in
    ap (λ (o : Option ThreadState). record c { threads = elim o [ None ↦ slice_set c.threads t state | Some s ↦ slice_set (slice_set c.threads t state) t (spend n s) ] }) (set_same c.threads t state (get_below c.threads t old e))
    ∙ ap (λ (l : List ThreadState). record c { threads = l }) (set_set c.threads t state (spend n state))
    ∙ ap (λ (s : ThreadState). record c { threads = slice_set c.threads t (state_of ex (s.used + n)) }) (get_or_from_slice_get c.threads t old (state_of ex 0) e)

not_over : (turns used n : ℕ) → used + n ≤ turns → nat_lt turns (used + n + 0) ≡ false
not_over turns used n l = grind (arith, nat_tests)

pub steps_entry : (turns : ℕ) (c : Config) (t n used : ℕ) (u v : Term ℕ) → slice_get c.threads t ≡ Some (state_of (Running u) used) → used + n ≤ turns → after_pure n u ≡ Some v
    → take_entry turns c (entry_of t n None) ≡ Some (changed c t (Running v) (used + n) c.store)
steps_entry turns c t n used u v here few e =
    ap (take_state turns c (entry_of t n None)) here
    ∙ ap (λ (b : Bool). if b then None else take_of c (entry_of t n None) (after_pure n u)) (not_over turns used n few)
    ∙ ap (take_of c (entry_of t n None)) e
    ∙ ap Some (turned c t n (state_of (Running u) used) (Running v) here)

nothing_more : (used : ℕ) → used + 0 ≡ used
nothing_more used = omega arith

-- an entry without steps begins where it is
stays : (c : Config) (t used : ℕ) (u : Term ℕ) → slice_get c.threads t ≡ Some (state_of (Running u) used) → with_turns t 0 (with_execution c t (Running u)) ≡ c
stays c t used u here =
    turned c t 0 (state_of (Running u) used) (Running u) here
    ∙ ap (λ n. changed c t (Running u) n c.store) (nothing_more used)
    ∙ ap (λ (l : List ThreadState). record c { threads = l }) (set_own c.threads t (state_of (Running u) used) here)

act_entry : (turns : ℕ) (c c2 : Config) (t used : ℕ) (u : Term ℕ) (kind : ActKind) (loc : ℕ) → slice_get c.threads t ≡ Some (state_of (Running u) used) → used < turns
    → effect c t ≡ Does (act kind loc) c2 → take_entry turns c (entry_of t 0 (Some (act kind loc))) ≡ Some (with_turns t 1 c2)
act_entry turns c c2 t used u kind loc here few e =
    ap (take_state turns c (entry_of t 0 (Some (act kind loc)))) here
    ∙ ap (λ (b : Bool). if b then None else take_of c (entry_of t 0 (Some (act kind loc))) (Some u)) (one_left turns used few)
    ∙ ap (then_act t (Some (act kind loc))) (stays c t used u here)
    ∙ ap (λ x. elim (exactly (act kind loc) x) [ None ↦ None | Some k2 ↦ Some (with_turns t 1 k2) ]) e
    ∙ ap (λ (b : Bool). elim (if b then Some c2 else None) [ None ↦ None | Some k2 ↦ Some (with_turns t 1 k2) ]) (act_refl kind loc)

pub acted_entry : (turns : ℕ) (c : Config) (t used : ℕ) (u : Term ℕ) (op : Operation ℕ) (fs : List (Frame ℕ)) (kind : ActKind) (loc : ℕ) (st : Store ℕ) (focus : Term ℕ)
    → slice_get c.threads t ≡ Some (state_of (Running u) used) → used < turns → find same_loc 0 no_self u ≡ Needs op fs → perform c t (self_at no_self fs) op ≡ Acting kind loc st focus
    → take_entry turns c (entry_of t 0 (Some (act kind loc))) ≡ Some (changed c t (Running (plug fs focus)) (used + 1) st)
acted_entry turns c t used u op fs kind loc st focus here few f p =
    let k : Config = record c { store = st } in
    let e : effect c t ≡ Does (act kind loc) (with_execution k t (Running (plug fs focus))) = ap (effect_of_state c t) here ∙ ap (effect_of c t) f ∙ ap (after_outcome c t fs) p in
    act_entry turns c (with_execution k t (Running (plug fs focus))) t used u kind loc here few e
    ∙ ap Some (turned k t 1 (state_of (Running u) used) (Running (plug fs focus)) here)

pub ended_entry : (turns : ℕ) (c : Config) (t used : ℕ) (u : Term ℕ) (v : Value ℕ) → slice_get c.threads t ≡ Some (state_of (Running u) used) → used < turns → find same_loc 0 no_self u ≡ Done v
    → take_entry turns c (entry_of t 0 (Some (act ActKind.End t))) ≡ Some (changed c t (Returned v) (used + 1) c.store)
ended_entry turns c t used u v here few f =
    act_entry turns c (with_execution c t (Returned v)) t used u ActKind.End t here few (ap (effect_of_state c t) here ∙ ap (effect_of c t) f)
    ∙ ap Some (turned c t 1 (state_of (Running u) used) (Returned v) here)

pub raised_entry : (turns : ℕ) (c : Config) (t used : ℕ) (u : Term ℕ) (r : Raised) → slice_get c.threads t ≡ Some (state_of (Running u) used) → used < turns → find same_loc 0 no_self u ≡ Uncaught r
    → take_entry turns c (entry_of t 0 (Some (act ActKind.End t))) ≡ Some (changed c t (end_by r) (used + 1) c.store)
raised_entry turns c t used u r here few f =
    act_entry turns c (with_execution c t (end_by r)) t used u ActKind.End t here few (ap (effect_of_state c t) here ∙ ap (effect_of c t) f)
    ∙ ap Some (turned c t 1 (state_of (Running u) used) (end_by r) here)

-- with one thread more
abbrev pub with_thread : Config → Term ℕ → Config
with_thread c u = record c { threads = c.threads ++ state_of (Running u) 0 ∷ [] }

below_other : (t n m : ℕ) → t < n → m ≡ n → t ≡ m → ⊥
below_other t n m l e f = absurd (omega arith)

below_same : (t n m : ℕ) → t < n → m ≡ n → t < m
below_same t n m l e = omega arith

turned_thread : (c : Config) (t : ℕ) (old : ThreadState) (ex : Execution) (new : Term ℕ) → slice_get c.threads t ≡ Some old
    → with_turns t 1 (record c { threads = (with_execution c t ex).threads ++ state_of (Running new) 0 ∷ [] }) ≡ with_thread (changed c t ex (old.used + 1) c.store) new
turned_thread c t old ex new e =
    let used : ℕ = (slice_index_or c.threads t (state_of ex 0)).used in
    let state : ThreadState = state_of ex used in
    let ts : List ThreadState = slice_set c.threads t state in
    let last : ThreadState = state_of (Running new) 0 in
    let there : t < length c.threads = get_below c.threads t old e in
    let long : length ts ≡ length c.threads = set_length c.threads t state in
    ap (λ (o : Option ThreadState). record c { threads = elim o [ None ↦ ts ++ last ∷ [] | Some s ↦ slice_set (ts ++ last ∷ []) t (spend 1 s) ] })
    (push_other ts last t (below_other t (length c.threads) (length ts) there long) ∙ set_same c.threads t state there)
    ∙ ap (λ (l : List ThreadState). record c { threads = l }) (push_set ts last t (spend 1 state) (below_same t (length c.threads) (length ts) there long))
    ∙ ap (λ (l : List ThreadState). record c { threads = l ++ last ∷ [] }) (set_set c.threads t state (spend 1 state))
    ∙ ap (λ (s : ThreadState). record c { threads = slice_set c.threads t (state_of ex (s.used + 1)) ++ last ∷ [] }) (get_or_from_slice_get c.threads t old (state_of ex 0) e)

pub forked_entry : (turns : ℕ) (c : Config) (t used : ℕ) (u : Term ℕ) (op : Operation ℕ) (fs : List (Frame ℕ)) (loc : ℕ) (new focus : Term ℕ)
    → slice_get c.threads t ≡ Some (state_of (Running u) used) → used < turns → find same_loc 0 no_self u ≡ Needs op fs → perform c t (self_at no_self fs) op ≡ Forking loc new focus
    → take_entry turns c (entry_of t 0 (Some (act ActKind.Fork loc))) ≡ Some (with_thread (changed c t (Running (plug fs focus)) (used + 1) c.store) new)
forked_entry turns c t used u op fs loc new focus here few f p =
    let k : Config = record c { threads = (with_execution c t (Running (plug fs focus))).threads ++ state_of (Running new) 0 ∷ [] } in
    let e : effect c t ≡ Does (act ActKind.Fork loc) k = ap (effect_of_state c t) here ∙ ap (effect_of c t) f ∙ ap (after_outcome c t fs) p in
    act_entry turns c k t used u ActKind.Fork loc here few e
    ∙ ap Some (turned_thread c t (state_of (Running u) used) (Running (plug fs focus)) new here)

-- ---- entries one behind another

-- n steps and then an act are one entry
pub then_entry : (turns : ℕ) (c c1 c2 : Config) (t n : ℕ) (a : Option Act) → take_entry turns c (entry_of t n None) ≡ Some c1 → take_entry turns c1 (entry_of t 0 a) ≡ Some c2 → take_entry turns c (entry_of t n a) ≡ Some c2
then_entry turns c c1 c2 t n a e f =
    ap (λ m. take_entry turns c (entry_of t m a)) (sym (nothing_more n)) ∙ cut_entry turns c t n 0 a
    ∙ ap (λ (o : Option Config). elim o [ None ↦ None | Some k2 ↦ take_entry turns k2 (entry_of t 0 a) ]) e ∙ f

alone : (o : Option Config) → elim o [ None ↦ None | Some k ↦ Some k ] ≡ o
alone None = refl
alone (Some k) = refl

pub replay_one : (turns : ℕ) (k : Config) (es : List Entry) (c : Config) (e : Entry) → replay_from turns k es ≡ Some c → replay_from turns k (es ++ e ∷ []) ≡ take_entry turns c e
replay_one turns k [] c e h = let same : k ≡ c = cc h in alone (take_entry turns k e) ∙ ap (λ x. take_entry turns x e) same
replay_one turns k (x ∷ es) c e h = by_option (take_entry turns k x) (λ k2. replay_one turns k2 es c e) h
  where
    by_option : (o : Option Config) → ((k2 : Config) → replay_from turns k2 es ≡ Some c → replay_from turns k2 (es ++ e ∷ []) ≡ take_entry turns c e)
        → elim o [ None ↦ None | Some k2 ↦ replay_from turns k2 es ] ≡ Some c → elim o [ None ↦ None | Some k2 ↦ replay_from turns k2 (es ++ e ∷ []) ] ≡ take_entry turns c e
    by_option None again q = absurd (cc q)
    by_option (Some k2) again q = again k2 q
