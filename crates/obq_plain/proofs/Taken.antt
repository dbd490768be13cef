-- What entries come to, and why they are refused.
use Prim.Native.Nat.{zero}
use Rattle.std.proofs.Common.{Bool, Err, List, None, Ok, Option, Result, Some, [], ap, arith, false, if◌then◌else◌, length, map, nat_le, nat_lt, refl, slice_get, slice_set, suc, sym, true, true≢false, ℕ, ◌+◌, ◌++◌, ◌<◌, ◌≤◌, ◌∙◌, ◌∷◌, ◌≡◌}
use Rattle.std.proofs.lemmas.Bool.Decides.{nat_tests}
use Rattle.std.proofs.lemmas.List.{length-map}
use Rattle.obq_base.specs.declared.limits.TheConstants.{THREAD_LIMIT}
use Rattle.obq_base.specs.declared.acts.ActKind.{ActKind}
use Rattle.obq_base.specs.declared.acts.Act.{Act}
use Rattle.obq_base.specs.declared.acts.Entry.{Entry}
use Rattle.obq_model.proofs.Options.{some_none}
use Rattle.obq_model.proofs.Slices.{get_below, push_length, push_set, set_length, set_same}
use Rattle.obq_model.specs.Config.{Config, Execution, Failed, Returned, Running, ThreadState, act, with_execution}
use Rattle.obq_model.specs.Effect.{Acting, Does, Forking, Outcome, Waiting, after_outcome, effect, effect_of, effect_of_state, joined, perform}
use Rattle.obq_model.specs.Exceptions.{fork_limit, raise}
use Rattle.obq_model.specs.Refusals as m
use Rattle.obq_model.specs.Refusals.{why_after_steps, why_by_effect, why_no_act, why_not, why_of_execution, why_of_state}
use Rattle.obq_model.specs.Replay.{act_same, act_turns, after_pure, take_entry, take_of, take_state, then_act, with_turns}
use Rattle.obq_model.specs.Step.{Self, Operation, Frame, ForkOff, JoinWith, find, no_self, plug, pure}
use Rattle.obq_model.specs.Store as c
use Rattle.obq_model.specs.Store.{same_loc}
use Rattle.obq_model.specs.Terms as t
use Rattle.obq_model.specs.Terms.{Call, Const, End, Form, Part, Term, Thread}
use Rattle.obq_plain.proofs.PutThread.{executed, executed_again, turned}
use Rattle.obq_plain.specs.Ahead.{act_of}
use Rattle.obq_plain.specs.Taking.{ActCases, EntryCases, ThenCases, behind_outcome, exactly_done, put_thread, runs, why_ahead}
use Rattle.obq_plain.specs.declared.refusals.TakeRefused.{TakeRefused}
use Rattle.obq_plain.specs.Threads.{thread_of}
use Rattle.obq_plain.specs.declared.threads.ThreadState.{ThreadState as Held}

-- ---- what a thread does doesn't depend on its own term

running : (state : ThreadState) → runs (Some state) ≡ true → (st : c.Store ℕ) (u : ℕ) → Waiting ≡ joined st u (Some state)
running state h st u = by_execution state.execution h where
  by_execution : (x : Execution) → elim x [ Running t ↦ true | Returned v ↦ false | Failed e ↦ false ] ≡ true
      → Waiting ≡ elim x [ Running t ↦ Waiting | Returned v ↦ Acting ActKind.Join u st (Const v) | Failed e ↦ Acting ActKind.Join u st (raise e) ]
  by_execution (Running t) h = refl
  by_execution (Returned v) h = absurd (true≢false (sym h))
  by_execution (Failed e) h = absurd (true≢false (sym h))

joined_set : (threads : List ThreadState) (t v u n : ℕ) (x : Term ℕ) (st : c.Store ℕ) → runs (slice_get threads t) ≡ true
    → joined st u (slice_get (slice_set threads t (record { execution = Running x; used = n })) v) ≡ joined st u (slice_get threads v)
joined_set [] t v u n x st h = refl
joined_set (y ∷ ys) zero zero u n x st h = running y h st u
joined_set (y ∷ ys) zero (suc v) u n x st h = refl
joined_set (y ∷ ys) (suc t) zero u n x st h = refl
joined_set (y ∷ ys) (suc t) (suc v) u n x st h = joined_set ys t v u n x st h

-- a thread is made, where there are so many
abbrev forked : c.Store ℕ → t.Value ℕ → ℕ → Outcome
forked st f n = if nat_le THREAD_LIMIT n then Acting ActKind.Fork THREAD_LIMIT st fork_limit else Forking n (Form Call (Part (Const f) End)) (Const (Thread n))

pub same_perform : (k : Config) (t n : ℕ) (x : Term ℕ) (me : Self ℕ) (op : Operation ℕ) → runs (slice_get k.threads t) ≡ true → perform (put_thread k t (Running x) n) t me op ≡ perform k t me op
same_perform k t n x me (ForkOff f) h = ap (forked k.store f) (set_length k.threads t (record { execution = Running x; used = n }))
same_perform k t n x me (JoinWith u) h = joined_set k.threads t u u n x k.store h
same_perform k t n x me op h = refl

pub in_range : (threads : List ThreadState) (t : ℕ) → runs (slice_get threads t) ≡ true → t < length threads
in_range threads t h = by_state (slice_get threads t) refl h where
  by_state : (o : Option ThreadState) → slice_get threads t ≡ o → runs o ≡ true → t < length threads
  by_state None e h = absurd (true≢false (sym h))
  by_state (Some state) e h = get_below threads t state e

pub in_machine : (threads : List Held) (t : ℕ) → runs (slice_get (map thread_of threads) t) ≡ true → t < length threads
in_machine threads t h = let n = length-map threads thread_of in let low = in_range (map thread_of threads) t h in omega (arith, n, low)

-- ---- acts

pub why_outcome : (a : Act) (k : Config) (t : ℕ) (fs : List (Frame ℕ)) (o : Outcome) → why_by_effect a (after_outcome k t fs o) ≡ why_ahead a (act_of o)
why_outcome a k t fs Waiting = refl
why_outcome a k t fs (Acting kind l st focus) = refl
why_outcome a k t fs (Forking l new focus) = refl

-- the named act is the one that stands next
named : {A : Type 0} (a b : Act) (x : A) → why_ahead a (Some b) ≡ None → (if act_same a b then Some x else None) ≡ Some x
named a b x e = by_case (act_same a b) e where
  by_case : (same : Bool) → (if same then None else Some (m.WrongAct (Some b))) ≡ None → (if same then Some x else None) ≡ Some x
  by_case true e = refl
  by_case false e = absurd (some_none _ e)

done : (a b : Act) (t : ℕ) (k2 k3 : Config) → why_ahead a (Some b) ≡ None → with_turns t 1 k2 ≡ k3 → exactly_done a t (Does b k2) ≡ Some k3
done a b t k2 k3 e f = ap (λ o. elim o [ None ↦ None | Some k ↦ Some (with_turns t 1 k) ]) (named a b k2 e) ∙ ap Some f

-- a thread that runs ends
pub ended : (a : Act) (k : Config) (t n : ℕ) (x y : Execution) → t < length k.threads → why_ahead a (Some (act ActKind.End t)) ≡ None
    → exactly_done a t (Does (act ActKind.End t) (with_execution (put_thread k t x n) t y)) ≡ Some (put_thread k t y (n + 1))
ended a k t n x y h e = done a (act ActKind.End t) t _ _ e (ap (with_turns t 1) (executed_again k t x y n h) ∙ turned k t y n 1 h)

forks : (k : Config) (t n : ℕ) (x y : Execution) (new : ThreadState) → t < length k.threads
    → with_turns t 1 (record (put_thread k t x n) { threads = (with_execution (put_thread k t x n) t y).threads ++ new ∷ [] }) ≡ put_thread (record k { threads = k.threads ++ new ∷ [] }) t y (n + 1)
forks k t n x y new h =
    let more : Config = record k { threads = k.threads ++ new ∷ [] } in
    let longer : length (k.threads ++ new ∷ []) ≡ suc (length k.threads) = push_length k.threads new in
    ap (λ made. with_turns t 1 (record k { threads = threads_of made ++ new ∷ [] })) (executed_again k t x y n h)
    ∙ ap (λ ss. with_turns t 1 (record k { threads = ss })) (sym (push_set k.threads new t (record { execution = y; used = n }) h))
    ∙ turned more t y n 1 (omega (arith, h, longer))
  where
    threads_of : Config → List ThreadState
    threads_of c = c.threads

pub acted : (a : Act) (k : Config) (t n : ℕ) (x : Execution) (fs : List (Frame ℕ)) (o : Outcome) → t < length k.threads → why_ahead a (act_of o) ≡ None
    → exactly_done a t (after_outcome (put_thread k t x n) t fs o) ≡ Some (behind_outcome k t (n + 1) (plug fs) o)
acted a k t n x fs Waiting h e = absurd (some_none _ e)
acted a k t n x fs (Acting kind l st focus) h e =
    let there : Config = record k { store = st } in
    done a (act kind l) t _ _ e (ap (with_turns t 1) (executed_again there t x (Running (plug fs focus)) n h) ∙ turned there t (Running (plug fs focus)) n 1 h)
acted a k t n x fs (Forking l new focus) h e = done a (act ActKind.Fork l) t _ _ e (forks k t n x (Running (plug fs focus)) (record { execution = Running new; used = 0 }) h)

-- ---- entries

-- what a thread that runs does next
pub next_effect : (k : Config) (t n : ℕ) (u : Term ℕ) → t < length k.threads → effect (put_thread k t (Running u) n) t ≡ effect_of (put_thread k t (Running u) n) t (find same_loc 0 no_self u)
next_effect k t n u h = ap (effect_of_state (put_thread k t (Running u) n) t) (set_same k.threads t (record { execution = Running u; used = n }) h)

pub then_some : {T : Type 0} (r : Result T TakeRefused) (a : Act) (t : ℕ) (k old new : Config) → ActCases a t (effect k t) old r new → ThenCases (Some a) t k old r new
then_some (Ok x) a t k old new h = h
then_some (Err (TakeRefused.NotLegal why)) a t k old new h = h
then_some (Err TakeRefused.NoMemory) a t k old new h = h

steps_done : (k : Config) (t n m : ℕ) (u v : Term ℕ) → slice_get k.threads t ≡ Some (record { execution = Running u; used = n })
    → with_turns t m (with_execution k t (Running v)) ≡ put_thread k t (Running v) (n + m)
steps_done k t n m u v e = ap (with_turns t m) (executed k t (record { execution = Running u; used = n }) (Running v) e) ∙ turned k t (Running v) n m (get_below k.threads t _ e)

-- one pure step more
pub pure_next : (n m : ℕ) (u v : Term ℕ) (whole : Option (Term ℕ)) → m ≡ suc n → Some v ≡ pure same_loc u → after_pure m u ≡ whole → after_pure n v ≡ whole
pure_next n m u v whole many same before = ap (λ o. elim o [ None ↦ None | Some w ↦ after_pure n w ]) same ∙ sym (ap (λ x. after_pure x u) many) ∙ before

pub no_thread : (turns : ℕ) (k : Config) (en : Entry) → runs (slice_get k.threads en.thread) ≡ false → why_not turns k en ≡ Some m.NoThread
no_thread turns k en h = by_state (slice_get k.threads en.thread) h where
  by_execution : (state : ThreadState) (x : Execution) → elim x [ Running t ↦ true | Returned v ↦ false | Failed e ↦ false ] ≡ false → why_of_execution turns k en state x ≡ Some m.NoThread
  by_execution state (Running t) h = absurd (true≢false h)
  by_execution state (Returned v) h = refl
  by_execution state (Failed e) h = refl

  by_state : (o : Option ThreadState) → runs o ≡ false → why_of_state turns k en o ≡ Some m.NoThread
  by_state None h = refl
  by_state (Some state) h = by_execution state state.execution h

module _ (turns : ℕ) (k : Config) (en : Entry) (u : Term ℕ) (n : ℕ) (there : slice_get k.threads en.thread ≡ Some (record { execution = Running u; used = n })) where
  pub at_limit : nat_lt turns (n + en.pure + act_turns en.act) ≡ true → why_not turns k en ≡ Some m.TooManyTurns
  at_limit h = ap (why_of_state turns k en) there ∙ ap (λ b. if b then Some m.TooManyTurns else why_after_steps k en (after_pure en.pure u)) h

  why_steps : nat_lt turns (n + en.pure + act_turns en.act) ≡ false → why_not turns k en ≡ why_after_steps k en (after_pure en.pure u)
  why_steps h = ap (why_of_state turns k en) there ∙ ap (λ b. if b then Some m.TooManyTurns else why_after_steps k en (after_pure en.pure u)) h

  take_steps : nat_lt turns (n + en.pure + act_turns en.act) ≡ false → take_entry turns k en ≡ take_of k en (after_pure en.pure u)
  take_steps h = ap (take_state turns k en) there ∙ ap (λ b. if b then None else take_of k en (after_pure en.pure u)) h

  pub no_pure : nat_lt turns (n + en.pure + act_turns en.act) ≡ false → after_pure en.pure u ≡ None → why_not turns k en ≡ Some m.NoPure
  no_pure h e = why_steps h ∙ ap (why_after_steps k en) e

  pub why_then : (v : Term ℕ) → nat_lt turns (n + en.pure + act_turns en.act) ≡ false → after_pure en.pure u ≡ Some v → why_not turns k en ≡ why_no_act en.thread en.act (put_thread k en.thread (Running v) (n + en.pure))
  why_then v h e = why_steps h ∙ ap (why_after_steps k en) e ∙ ap (why_no_act en.thread en.act) (steps_done k en.thread n en.pure u v there)

  pub take_then : (v : Term ℕ) → nat_lt turns (n + en.pure + act_turns en.act) ≡ false → after_pure en.pure u ≡ Some v → take_entry turns k en ≡ then_act en.thread en.act (put_thread k en.thread (Running v) (n + en.pure))
  take_then v h e = take_steps h ∙ ap (take_of k en) e ∙ ap (then_act en.thread en.act) (steps_done k en.thread n en.pure u v there)

  pub it_runs : runs (slice_get k.threads en.thread) ≡ true
  it_runs = ap runs there

  pub is_ready : (v : Term ℕ) (pure : ℕ) → pure ≡ en.pure → nat_lt turns (n + en.pure + act_turns en.act) ≡ false → after_pure en.pure u ≡ Some v
      → (take_entry turns k en ≡ then_act en.thread en.act (put_thread k en.thread (Running v) (n + pure)))
      × (why_not turns k en ≡ why_no_act en.thread en.act (put_thread k en.thread (Running v) (n + pure)))
      × (runs (slice_get k.threads en.thread) ≡ true)
      × (n + pure + act_turns en.act ≤ turns)
  is_ready v pure same low after =
      let there_then : put_thread k en.thread (Running v) (n + en.pure) ≡ put_thread k en.thread (Running v) (n + pure) = ap (λ x. put_thread k en.thread (Running v) (n + x)) (sym same) in
      let fits : n + en.pure + act_turns en.act ≤ turns = grind (arith, nat_tests) in
      (take_then v low after ∙ ap (then_act en.thread en.act) there_then, why_then v low after ∙ ap (why_no_act en.thread en.act) there_then, it_runs, omega (arith, fits, same))

-- an entry that is ready is taken or refused as its act is
pub entry_taken : {T : Type 0} (r : Result T TakeRefused) (turns : ℕ) (k kk new : Config) (en : Entry) → take_entry turns k en ≡ then_act en.thread en.act kk
    → why_not turns k en ≡ why_no_act en.thread en.act kk → ThenCases en.act en.thread kk k r new → EntryCases turns k en r new
entry_taken (Ok x) turns k kk new en taken refused h = taken ∙ h
entry_taken (Err (TakeRefused.NotLegal why)) turns k kk new en taken refused h = (refused ∙ h.0, h.1)
entry_taken (Err TakeRefused.NoMemory) turns k kk new en taken refused h = h
