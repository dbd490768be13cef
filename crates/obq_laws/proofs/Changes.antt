-- What an entry changes, and what the acts of owners need and keep.
use Rattle.std.specs.Prelude.{Bool, List, None, Option, Some, [], false, if◌then◌else◌, length, nat_le, not, refl, slice_get, slice_set, suc, true, zero, ℕ, ◌++◌, ◌<◌, ◌∷◌, ◌≡◌, ◌||◌, ◌⊎◌}
use Rattle.std.proofs.Common.{inl, inr, subst, ap, sym, ◌∙◌, arith}
use Rattle.obq_base.specs.declared.limits.TheConstants.{THREAD_LIMIT}
use Rattle.obq_base.specs.declared.acts.ActKind.{ActKind}
use Rattle.obq_base.specs.declared.acts.Act.{Act}
use Rattle.obq_model.specs.Terms.{Engine, Held, Value, Thread, Loc, Call, Term, Const, Form, Part, End}
use Rattle.obq_model.specs.Exceptions.{raise, fork_limit}
use Rattle.obq_model.specs.Store.{Cell, Store, same_loc, exported}
use Rattle.obq_model.specs.Step.{Self, self_of, no_self, Operation, New, Get, CallMethod, Leave, Set, Copy, RedirectTo, GetItem, GetSize, EachSize, EachItem, SetItem, ReadVariable, SetVariable, Write, ForkOff, JoinWith, LineUp, GiveUp, Again, Signal, Broadcast, Export, Import, RunEngine, Frame, plug, Needs, find, self_at, testing}
use Rattle.obq_model.specs.Forms.{Inside, LinedUp, marks_of}
use Rattle.obq_model.specs.Config.{Execution, Running, Returned, Failed, ThreadState, Config, cell_at}
use Rattle.obq_model.specs.Cells.{is_free, owned_cell}
use Rattle.obq_model.specs.Effect.{Outcome, Waiting, Acting, Forking, ends_at, on_cell, line_of, in_line, imported, joined, perform, end_by}
use Rattle.obq_model.specs.OneCell.{behind, SameKind, RowLeaves}
use Rattle.obq_model.proofs.Slices.{set_set}
use Rattle.obq_model.proofs.OneCell.{leaves_cell, owned_same}
use Rattle.obq_laws.specs.Keeping.{owner_at, holds, holds_now, is_owner, marks_at, IsFormedConfig, IsFormedIf, OwnersHold, OwnersHoldIf}
use Rattle.obq_laws.specs.Locality.{IsLocalStore, SameStore, OneCell, OneName, OneMore, IsLocal, Same, OneThread, OneBegins, Locality, OwnersKept, needs_owner, OwnerAtAct, OwnerIsThread}
use Rattle.obq_laws.specs.Turns.{state_of, Turn, Steps, Acts, Forks, Ends, Raises, Turns, NoTurn, TheAct, AStep}
use Rattle.obq_laws.proofs.Methods.{leaving, marks_around, AreSourceFrames, IsSourceOperation, IsGood, good_find}
use Rattle.obq_laws.proofs.Formed.{GoodThreadState, good_state, entry_formed, formed_replay}
use Rattle.obq_laws.proofs.OwnerTerms.{eq_refl, now_append, now_held, now_here, is_owner_some, frames_away, holds_self, nobody_of}
use Rattle.obq_laws.proofs.OwnerReplay.{marks_get, LawOf, owned_entry, owner_law}
use Rattle.obq_laws.proofs.Turns.{turn_by_turn}

-- ---- the store

abbrev pub LocalOutcome : Store ℕ → Outcome → Type 0
LocalOutcome st Waiting = Unit {0}
LocalOutcome st (Acting kind loc st2 focus) = IsLocalStore st st2
LocalOutcome st (Forking loc new focus) = Unit {0}

local_if : (st : Store ℕ) (b : Bool) (x y : Outcome) → LocalOutcome st x → LocalOutcome st y → LocalOutcome st (if b then x else y)
local_if st true x y h i = h
local_if st false x y h i = i

-- a cell that is left as another of its kind
local_left : (st : Store ℕ) (l : ℕ) (kind : ActKind) (left : Option (Cell ℕ)) (focus : Term ℕ) (cell : Option (Cell ℕ)) → cell_at st l ≡ cell → SameKind cell (behind cell left) → LocalOutcome st (ends_at st l kind left focus)
local_left st l kind None focus cell e h = SameStore
local_left st l kind (Some d) focus (Some c) e h = OneCell l c d e h
local_left st l kind (Some d) focus None e h = absurd h

local_row : (st : Store ℕ) (l t : ℕ) (op : Operation ℕ) (x : Outcome) → RowLeaves (ends_at st l) Waiting t op (cell_at st l) x → LocalOutcome st x
local_row st l t op x (inl e) = subst (LocalOutcome st) (sym e) tt
local_row st l t op x (inr (kind, left, focus, h, e)) = subst (LocalOutcome st) (sym e) (local_left st l kind left focus (cell_at st l) refl h.same_kind)

local_on_cell : (k : Config) (t : ℕ) (s : Self ℕ) (op : Operation ℕ) (l : ℕ) → LocalOutcome k.store (on_cell k t s op l)
local_on_cell k t s op l = local_row k.store l t op (on_cell k t s op l) (leaves_cell same_loc (ends_at k.store l) Waiting t s op (cell_at k.store l))

local_joined : (st : Store ℕ) (u : ℕ) (o : Option ThreadState) → LocalOutcome st (joined st u o)
local_joined st u None = tt
local_joined st u (Some state) = by state.execution
  where
    by : (l : Execution) → LocalOutcome st (elim l [ Running t ↦ Waiting | Returned v ↦ Acting ActKind.Join u st (Const v) | Failed e ↦ Acting ActKind.Join u st (raise e) ])
    by (Running t) = tt
    by (Returned v) = SameStore
    by (Failed e) = SameStore

local_imported : (st : Store ℕ) (engine : Bool) (v : Option (Value ℕ)) → LocalOutcome st (imported st engine v)
local_imported st engine None = tt
local_imported st false (Some v) = SameStore
local_imported st true (Some (Loc Engine e)) = SameStore
local_imported st true (Some _) = SameStore

pub local_perform : (k : Config) (t : ℕ) (s : Self ℕ) (op : Operation ℕ) → LocalOutcome k.store (perform k t s op)
local_perform k t s (New cell after) = OneMore cell
local_perform k t s (Get o x) = local_on_cell k t s (Get o x) o
local_perform k t s (CallMethod o x vs) = local_on_cell k t s (CallMethod o x vs) o
local_perform k t s (Leave o out) = local_on_cell k t s (Leave o out) o
local_perform k t s (Set o x body) = local_on_cell k t s (Set o x body) o
local_perform k t s (Copy o first copied rest) = local_on_cell k t s (Copy o first copied rest) o
local_perform k t s (RedirectTo o target) = local_on_cell k t s (RedirectTo o target) o
local_perform k t s (GetItem a i) = local_on_cell k t s (GetItem a i) a
local_perform k t s (GetSize a) = local_on_cell k t s (GetSize a) a
local_perform k t s (EachSize a scope) = local_on_cell k t s (EachSize a scope) a
local_perform k t s (EachItem a i n scope) = local_on_cell k t s (EachItem a i n scope) a
local_perform k t s (SetItem a i v) = local_on_cell k t s (SetItem a i v) a
local_perform k t s (ReadVariable l) = local_on_cell k t s (ReadVariable l) l
local_perform k t s (SetVariable l v) = local_on_cell k t s (SetVariable l v) l
local_perform k t s (Write w x) = local_on_cell k t s (Write w x) w
local_perform k t s (ForkOff f) = local_if k.store (nat_le THREAD_LIMIT (length k.threads)) (Acting ActKind.Fork THREAD_LIMIT k.store fork_limit) (Forking (length k.threads) (Form Call (Part (Const f) End)) (Const (Thread (length k.threads)))) SameStore tt
local_perform k t s (JoinWith u) = local_joined k.store u (slice_get k.threads u)
local_perform k t s (LineUp o c guard) = local_on_cell k t s (LineUp o c guard) c
local_perform k t s (GiveUp o c guard) = local_on_cell k t s (GiveUp o c guard) o
local_perform k t s (Again o c guard) =
    local_if k.store (in_line t (line_of (cell_at k.store c)) || not (is_free (cell_at k.store o))) Waiting (ends_at k.store o ActKind.Again (owned_cell (Some t) (cell_at k.store o)) (testing o c guard))
    tt (local_left k.store o ActKind.Again (owned_cell (Some t) (cell_at k.store o)) (testing o c guard) (cell_at k.store o) refl (owned_same (Some t) (cell_at k.store o)))
local_perform k t s (Signal c) = local_on_cell k t s (Signal c) c
local_perform k t s (Broadcast c) = local_on_cell k t s (Broadcast c) c
local_perform k t s (Export x v) = OneName x v
local_perform k t s (Import x engine) = local_imported k.store engine (exported x k.store.names)
local_perform k t s (RunEngine e f) = local_on_cell k t s (RunEngine e f) e

-- ---- entries

local_turn : (turns : ℕ) (k k2 : Config) (t : ℕ) (a : Option Act) → Turn turns k t a k2 → IsLocal t k k2
local_turn turns k _ t _ (Steps {u} {used} {v} g e) = OneThread (state_of (Running v) (suc used)) k.store SameStore
local_turn turns k _ t _ (Acts {u} {used} {op} {fs} {kind} {loc} {st} {focus} g f p) = OneThread (state_of (Running (plug fs focus)) (suc used)) st (subst (LocalOutcome k.store) p (local_perform k t (self_at no_self fs) op))
local_turn turns k _ t _ (Forks {u} {used} {op} {fs} {loc} {new} {focus} g f p) = OneBegins (state_of (Running (plug fs focus)) (suc used)) (state_of (Running new) 0)
local_turn turns k _ t _ (Ends {u} {used} {v} g f) = OneThread (state_of (Returned v) (suc used)) k.store SameStore
local_turn turns k _ t _ (Raises {u} {used} {r} g f) = OneThread (state_of (end_by r) (suc used)) k.store SameStore

-- a thread that was changed before
before_local : (t : ℕ) (k : Config) (old : ThreadState) (k2 : Config) → IsLocal t (record { store = k.store; threads = slice_set k.threads t old }) k2 → IsLocal t k k2
before_local t k old _ Same = OneThread old k.store SameStore
before_local t k old _ (OneThread state st h) = subst (λ (ts : List ThreadState). IsLocal t k (record { store = st; threads = ts })) (sym (set_set k.threads t old state)) (OneThread state st h)
before_local t k old _ (OneBegins state new) = subst (λ (ts : List ThreadState). IsLocal t k (record { store = k.store; threads = ts ++ new ∷ [] })) (sym (set_set k.threads t old state)) (OneBegins state new)

local_turns : (turns t : ℕ) (k : Config) (n : ℕ) (a : Option Act) (k2 : Config) → Turns turns t k n a k2 → IsLocal t k k2
local_turns turns t k n a k2 NoTurn = Same
local_turns turns t k n a k2 (TheAct x) = local_turn turns k k2 t a x
local_turns turns t k n a k2 (AStep (Steps {u} {used} {v} g e) y) = before_local t k (state_of (Running v) (suc used)) k2 (local_turns turns t _ _ a k2 y)

pub locality : Locality
locality turns k k2 e h = local_turns turns e.thread k e.pure e.act k2 (turn_by_turn turns k k2 e h)

-- ---- owners

pub owners_kept : OwnersKept
owners_kept turns k k2 e c law h = (subst IsFormedIf h (entry_formed turns k e c), subst OwnersHoldIf h (owned_entry turns k e c law))

-- where this operation stands next, its thread holds the object now
holds_next : (fs : List (Frame ℕ)) (op : Operation ℕ) (o : ℕ) → AreSourceFrames no_self fs → IsSourceOperation (self_at no_self fs) op → needs_owner op ≡ Some o → holds_now o (marks_around fs ++ leaving op) ≡ true
holds_next fs (Leave p out) o h i e = let same : p ≡ o = cc e in subst (λ q. holds_now q (marks_around fs ++ (p, Inside Held) ∷ []) ≡ true) same (now_held p (marks_around fs) (frames_away no_self fs p h))
holds_next fs (LineUp p c guard) o h i e =
    let same : p ≡ o = cc e in
    subst (λ q. holds_now q (marks_around fs ++ []) ≡ true) same (now_append p (marks_around fs) [] refl refl ∙ now_here p (marks_around fs) (frames_away no_self fs p h) ∙ in_held (holds_self no_self fs p h i.1))
  where
    in_held : (no_self ≡ self_of p false) ⊎ (holds p (marks_around fs) ≡ true) → holds p (marks_around fs) ≡ true
    in_held (inl q) = absurd (nobody_of p q)
    in_held (inr q) = q
holds_next fs (GiveUp p c guard) o h i e =
    let same : p ≡ o = cc e in
    subst (λ q. holds_now q (marks_around fs ++ (p, LinedUp) ∷ []) ≡ true) same (now_append p (marks_around fs) ((p, LinedUp) ∷ []) refl refl ∙ now_here p (marks_around fs) (frames_away no_self fs p h) ∙ in_held (holds_self no_self fs p h i.1))
  where
    in_held : (no_self ≡ self_of p false) ⊎ (holds p (marks_around fs) ≡ true) → holds p (marks_around fs) ≡ true
    in_held (inl q) = absurd (nobody_of p q)
    in_held (inr q) = q
holds_next fs (New cell after) o h i e = absurd (cc e)
holds_next fs (Get p x) o h i e = absurd (cc e)
holds_next fs (CallMethod p x vs) o h i e = absurd (cc e)
holds_next fs (Set p x body) o h i e = absurd (cc e)
holds_next fs (Copy p first copied rest) o h i e = absurd (cc e)
holds_next fs (RedirectTo p target) o h i e = absurd (cc e)
holds_next fs (GetItem a n) o h i e = absurd (cc e)
holds_next fs (GetSize a) o h i e = absurd (cc e)
holds_next fs (EachSize a scope) o h i e = absurd (cc e)
holds_next fs (EachItem a n m scope) o h i e = absurd (cc e)
holds_next fs (SetItem a n v) o h i e = absurd (cc e)
holds_next fs (ReadVariable l) o h i e = absurd (cc e)
holds_next fs (SetVariable l v) o h i e = absurd (cc e)
holds_next fs (Write w x) o h i e = absurd (cc e)
holds_next fs (ForkOff f) o h i e = absurd (cc e)
holds_next fs (JoinWith u) o h i e = absurd (cc e)
holds_next fs (Again p c guard) o h i e = absurd (cc e)
holds_next fs (Signal c) o h i e = absurd (cc e)
holds_next fs (Broadcast c) o h i e = absurd (cc e)
holds_next fs (Export x v) o h i e = absurd (cc e)
holds_next fs (Import x engine) o h i e = absurd (cc e)
holds_next fs (RunEngine p f) o h i e = absurd (cc e)

-- from any formed configuration in which threads own what they hold
pub owner_next : (k : Config) (t used : ℕ) (u : Term ℕ) (op : Operation ℕ) (fs : List (Frame ℕ)) (o : ℕ) → IsFormedConfig k → OwnersHold k.store k.threads → slice_get k.threads t ≡ Some (state_of (Running u) used) → find same_loc 0 no_self u ≡ Needs op fs
    → needs_owner op ≡ Some o → owner_at k.store o ≡ Some t
owner_next k t used u op fs o c law here found need =
    let good : GoodThreadState k.store (Some (state_of (Running u) used)) = subst (GoodThreadState k.store) here (good_state k.store k.threads t c.0.1 c.1) in
    let g : IsGood no_self (marks_of u) (Needs op fs) = subst (IsGood no_self (marks_of u)) found (good_find same_loc 0 no_self u good.0) in
    let l : LawOf k.store t (marks_of u) = subst (LawOf k.store t) (marks_get k.threads t (state_of (Running u) used) here) (law t) in
    is_owner_some t (owner_at k.store o) (l.1 o ∙ ap (holds_now o) g.0 ∙ holds_next fs op o g.1 g.2 need)

pub owner_at_act : OwnerAtAct
owner_at_act trees turns es k t used u op fs o r here found need =
    owner_next k t used u op fs o (subst IsFormedIf r (formed_replay trees turns es)) (subst OwnersHoldIf r (owner_law trees turns es)) here found need

-- what is held is held in the term of a thread
holding : (threads : List ThreadState) (t o : ℕ) → holds_now o (marks_at threads t) ≡ true → t < length threads
holding [] t o h = absurd (cc h)
holding (s ∷ ss) zero o h = omega arith
holding (s ∷ ss) (suc t) o h = let rest : t < length ss = holding ss t o h in omega arith

pub owner_is_thread : OwnerIsThread
owner_is_thread trees turns es k o t r e =
    let law : OwnersHold k.store k.threads = subst OwnersHoldIf r (owner_law trees turns es) in
    holding k.threads t o (sym ((law t).1 o) ∙ ap (is_owner t) e ∙ eq_refl t)
