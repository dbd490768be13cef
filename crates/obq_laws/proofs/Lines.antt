-- Which threads stand in the lines of conditions.
use Rattle.std.specs.Prelude.{Bool, List, None, Option, Some, [], drop, false, if◌then◌else◌, length, nat_le, not, refl, replicate, slice_get, slice_set, suc, true, zero, ℕ, ◌++◌, ◌<◌, ◌==◌, ◌∷◌, ◌≡◌, ◌||◌}
use Rattle.std.proofs.Common.{inl, inr, subst, ap, sym, ◌∙◌, arith, true≢false}
use Rattle.std.proofs.lemmas.Bool.{eqb-true, eqb-false}
use Rattle.obq_base.specs.declared.limits.TheConstants.{THREAD_LIMIT}
use Rattle.obq_base.specs.declared.acts.ActKind.{ActKind}
use Rattle.obq_base.specs.declared.acts.Act.{Act}
use Rattle.obq_base.specs.Tree.{BlockTree}
use Rattle.obq_model.specs.Terms.{Engine, Value, Thread, Loc, Call, Lined, Out, Term, Const, Form, Part, End}
use Rattle.obq_model.specs.Exceptions.{raise, fork_limit}
use Rattle.obq_model.specs.Store.{Cell, ObjectCell, ArrayCell, VariableCell, WriterCell, ConditionCell, EngineCell, Store, same_loc, exported}
use Rattle.obq_model.specs.Step.{Self, no_self, Operation, New, Get, CallMethod, Leave, Set, Copy, RedirectTo, GetItem, GetSize, EachSize, EachItem, SetItem, ReadVariable, SetVariable, Write, ForkOff, JoinWith, LineUp, GiveUp, Again, Signal, Broadcast, Export, Import, RunEngine, Frame, plug, Found, Next, Needs, Done, Uncaught, find, next_of, self_at, testing}
use Rattle.obq_model.specs.Config.{Execution, Running, Returned, Failed, ThreadState, Config, cell_at, with_cell}
use Rattle.obq_model.specs.Cells.{is_free, owned_cell}
use Rattle.obq_model.specs.Effect.{Outcome, Waiting, Acting, Forking, ends_at, on_cell, line_of, in_line, imported, joined, with_line, perform, end_by}
use Rattle.obq_model.specs.OneCell.{cell_of, behind, SameKind, line_behind, RowLeaves}
use Rattle.obq_model.specs.Opening.{opening_terms, opening}
use Rattle.obq_model.proofs.Slices.{get_below, set_same, set_other, push_other}
use Rattle.obq_model.proofs.OneCell.{leaves_cell, owned_same, owned_line}
use Rattle.obq_model.proofs.Plug.{needs_plug}
use Rattle.obq_model.proofs.Found.{needs_frames}
use Rattle.obq_laws.specs.Keeping.{IsFormedConfig, IsFormedIf}
use Rattle.obq_laws.specs.Lines.{count_in, line_at, lined_at, IsLinedAt, LinesHold, LinesLaw, OneLine}
use Rattle.obq_laws.specs.Turns.{state_of, changed, with_thread, alone, Turn, Steps, Acts, Forks, Ends, Raises}
use Rattle.obq_model.specs.Forms.{marks_of}
use Rattle.obq_laws.proofs.Methods.{IsSourceOperation, IsGood, good_find}
use Rattle.obq_laws.proofs.Formed.{GoodThreadState, good_state, entry_formed, opening_of_formed}
use Rattle.obq_laws.proofs.OwnerTerms.{eq_refl}
use Rattle.obq_laws.proofs.Turns.{turn_taken, kept_by_replay}

-- ---- what acts do to lines

-- the operation is on the cell p
abbrev is_at : ℕ → Option ℕ → Bool
is_at p None = false
is_at p (Some l) = p == l

-- each line is what the operation leaves of it, and only that of its cell changes
abbrev LinesLeft : ℕ → Operation ℕ → Store ℕ → Store ℕ → Type 0
LinesLeft t op st st2 = (p : ℕ) → line_at st2 p ≡ (if is_at p (cell_of op) then line_behind t op (line_at st p) else line_at st p)

abbrev LinesOutcome : ℕ → Operation ℕ → Store ℕ → Outcome → Type 0
LinesOutcome t op st Waiting = Unit {0}
LinesOutcome t op st (Acting kind loc st2 focus) = LinesLeft t op st st2
LinesOutcome t op st (Forking loc new focus) = Unit {0}

lines_if : (t : ℕ) (op : Operation ℕ) (st : Store ℕ) (b : Bool) (x y : Outcome) → LinesOutcome t op st x → LinesOutcome t op st y → LinesOutcome t op st (if b then x else y)
lines_if t op st true x y h i = h
lines_if t op st false x y h i = i

-- the line of one cell after the cell was left so
line_set : (st : Store ℕ) (l : ℕ) (c d : Cell ℕ) → cell_at st l ≡ Some c → (p : ℕ) (b : Bool) → (p == l) ≡ b → line_at (with_cell st l d) p ≡ (if b then line_of (Some d) else line_at st p)
line_set st l c d e p true q = ap (λ n. line_of (slice_get (slice_set st.cells l d) n)) (eqb-true p l q) ∙ ap line_of (set_same st.cells l d (get_below st.cells l c e))
line_set st l c d e p false q = ap line_of (set_other st.cells l d p (eqb-false p l q))

line_here : (t : ℕ) (op : Operation ℕ) (st : Store ℕ) (l : ℕ) (x : List ℕ) → x ≡ line_behind t op (line_at st l) → (p : ℕ) (b : Bool) → (p == l) ≡ b → (if b then x else line_at st p) ≡ (if b then line_behind t op (line_at st p) else line_at st p)
line_here t op st l x h p true q = h ∙ ap (λ n. line_behind t op (line_at st n)) (sym (eqb-true p l q))
line_here t op st l x h p false q = refl

line_stays : (t : ℕ) (op : Operation ℕ) (st : Store ℕ) (l : ℕ) → line_at st l ≡ line_behind t op (line_at st l) → (p : ℕ) (b : Bool) → (p == l) ≡ b → line_at st p ≡ (if b then line_behind t op (line_at st p) else line_at st p)
line_stays t op st l h p true q = ap (line_at st) (eqb-true p l q) ∙ h ∙ ap (λ n. line_behind t op (line_at st n)) (sym (eqb-true p l q))
line_stays t op st l h p false q = refl

lines_left : (t : ℕ) (op : Operation ℕ) (st : Store ℕ) (l : ℕ) (kind : ActKind) (left : Option (Cell ℕ)) (focus : Term ℕ) (cell : Option (Cell ℕ)) → cell_at st l ≡ cell → SameKind cell (behind cell left) → line_of (behind cell left) ≡ line_behind t op (line_of cell)
    → cell_of op ≡ Some l → LinesOutcome t op st (ends_at st l kind left focus)
lines_left t op st l kind None focus cell e h n q = λ p.
    line_stays t op st l (ap line_of e ∙ n ∙ ap (λ x. line_behind t op (line_of x)) (sym e)) p (p == l) refl
    ∙ ap (λ o. if is_at p o then line_behind t op (line_at st p) else line_at st p) (sym q)
lines_left t op st l kind (Some d) focus (Some c) e h n q = λ p.
    line_set st l c d e p (p == l) refl
    ∙ line_here t op st l (line_of (Some d)) (n ∙ ap (λ x. line_behind t op (line_of x)) (sym e)) p (p == l) refl
    ∙ ap (λ o. if is_at p o then line_behind t op (line_at st p) else line_at st p) (sym q)
lines_left t op st l kind (Some d) focus None e h n q = absurd h

lines_row : (t : ℕ) (op : Operation ℕ) (st : Store ℕ) (l : ℕ) (x : Outcome) → cell_of op ≡ Some l → RowLeaves (ends_at st l) Waiting t op (cell_at st l) x → LinesOutcome t op st x
lines_row t op st l x q (inl e) = subst (LinesOutcome t op st) (sym e) tt
lines_row t op st l x q (inr (kind, left, focus, h, e)) = subst (LinesOutcome t op st) (sym e) (lines_left t op st l kind left focus (cell_at st l) refl h.same_kind h.line q)

lines_on_cell : (k : Config) (t : ℕ) (s : Self ℕ) (op : Operation ℕ) (l : ℕ) → cell_of op ≡ Some l → LinesOutcome t op k.store (on_cell k t s op l)
lines_on_cell k t s op l q = lines_row t op k.store l (on_cell k t s op l) q (leaves_cell same_loc (ends_at k.store l) Waiting t s op (cell_at k.store l))

lines_joined : (t : ℕ) (st : Store ℕ) (u : ℕ) (o : Option ThreadState) → LinesOutcome t (JoinWith u) st (joined st u o)
lines_joined t st u None = tt
lines_joined t st u (Some state) = by state.execution
  where
    by : (l : Execution) → LinesOutcome t (JoinWith u) st (elim l [ Running v ↦ Waiting | Returned v ↦ Acting ActKind.Join u st (Const v) | Failed e ↦ Acting ActKind.Join u st (raise e) ])
    by (Running v) = tt
    by (Returned v) = λ p. refl
    by (Failed e) = λ p. refl

lines_imported : (t : ℕ) (x : List ℕ) (st : Store ℕ) (engine : Bool) (v : Option (Value ℕ)) → LinesOutcome t (Import x engine) st (imported st engine v)
lines_imported t x st engine None = tt
lines_imported t x st false (Some v) = λ p. refl
lines_imported t x st true (Some (Loc Engine e)) = λ p. refl
lines_imported t x st true (Some _) = λ p. refl

-- a new cell without a line
line_new : (cs : List (Cell ℕ)) (c : Cell ℕ) → line_of (Some c) ≡ [] → (p : ℕ) → line_of (slice_get (cs ++ c ∷ []) p) ≡ line_of (slice_get cs p)
line_new [] c h zero = h
line_new [] c h (suc p) = refl
line_new (d ∷ cs) c h zero = refl
line_new (d ∷ cs) c h (suc p) = line_new cs c h p

-- taking a mutex again changes no line
line_owned : (st : Store ℕ) (o : ℕ) (t : ℕ) (cell : Option (Cell ℕ)) → cell_at st o ≡ cell → SameKind cell (behind cell (owned_cell (Some t) cell)) → line_of (behind cell (owned_cell (Some t) cell)) ≡ line_of cell → (left : Option (Cell ℕ)) → owned_cell (Some t) cell ≡ left
    → (kind : ActKind) (focus : Term ℕ) (c : ℕ) (guard : Term ℕ) → LinesOutcome t (Again o c guard) st (ends_at st o kind left focus)
line_owned st o t cell e h n None q kind focus c guard = λ p. refl
line_owned st o t (Some a) e h n (Some d) q kind focus c guard = λ p. line_set st o a d e p (p == o) refl ∙ same p (p == o) refl
  where
    left_line : line_of (Some d) ≡ line_of (Some a)
    left_line = ap (λ x. line_of (behind (Some a) x)) (sym q) ∙ n

    same : (p : ℕ) (b : Bool) → (p == o) ≡ b → (if b then line_of (Some d) else line_at st p) ≡ line_at st p
    same p true r = left_line ∙ ap line_of (sym e) ∙ ap (line_at st) (sym (eqb-true p o r))
    same p false r = refl
line_owned st o t None e h n (Some d) q kind focus c guard = absurd (cc q)

-- a new cell of this operation has no line
abbrev BareNew : Operation ℕ → Type 0
BareNew (New cell after) = line_of (Some cell) ≡ []
BareNew op = Unit {0}

lines_perform : (k : Config) (t : ℕ) (s : Self ℕ) (op : Operation ℕ) → BareNew op → LinesOutcome t op k.store (perform k t s op)
lines_perform k t s (New cell after) h = line_new k.store.cells cell h
lines_perform k t s (Get o x) h = lines_on_cell k t s (Get o x) o refl
lines_perform k t s (CallMethod o x vs) h = lines_on_cell k t s (CallMethod o x vs) o refl
lines_perform k t s (Leave o out) h = lines_on_cell k t s (Leave o out) o refl
lines_perform k t s (Set o x body) h = lines_on_cell k t s (Set o x body) o refl
lines_perform k t s (Copy o first copied rest) h = lines_on_cell k t s (Copy o first copied rest) o refl
lines_perform k t s (RedirectTo o target) h = lines_on_cell k t s (RedirectTo o target) o refl
lines_perform k t s (GetItem a i) h = lines_on_cell k t s (GetItem a i) a refl
lines_perform k t s (GetSize a) h = lines_on_cell k t s (GetSize a) a refl
lines_perform k t s (EachSize a scope) h = lines_on_cell k t s (EachSize a scope) a refl
lines_perform k t s (EachItem a i n scope) h = lines_on_cell k t s (EachItem a i n scope) a refl
lines_perform k t s (SetItem a i v) h = lines_on_cell k t s (SetItem a i v) a refl
lines_perform k t s (ReadVariable l) h = lines_on_cell k t s (ReadVariable l) l refl
lines_perform k t s (SetVariable l v) h = lines_on_cell k t s (SetVariable l v) l refl
lines_perform k t s (Write w x) h = lines_on_cell k t s (Write w x) w refl
lines_perform k t s (ForkOff f) h = lines_if t (ForkOff f) k.store (nat_le THREAD_LIMIT (length k.threads)) (Acting ActKind.Fork THREAD_LIMIT k.store fork_limit) (Forking (length k.threads) (Form Call (Part (Const f) End)) (Const (Thread (length k.threads)))) (λ p. refl) tt
lines_perform k t s (JoinWith u) h = lines_joined t k.store u (slice_get k.threads u)
lines_perform k t s (LineUp o c guard) h = lines_on_cell k t s (LineUp o c guard) c refl
lines_perform k t s (GiveUp o c guard) h = lines_on_cell k t s (GiveUp o c guard) o refl
lines_perform k t s (Again o c guard) h =
    lines_if t (Again o c guard) k.store (in_line t (line_of (cell_at k.store c)) || not (is_free (cell_at k.store o))) Waiting (ends_at k.store o ActKind.Again (owned_cell (Some t) (cell_at k.store o)) (testing o c guard))
    tt (line_owned k.store o t (cell_at k.store o) refl (owned_same (Some t) (cell_at k.store o)) (owned_line (Some t) (cell_at k.store o)) (owned_cell (Some t) (cell_at k.store o)) refl ActKind.Again (testing o c guard) c guard)
lines_perform k t s (Signal c) h = lines_on_cell k t s (Signal c) c refl
lines_perform k t s (Broadcast c) h = lines_on_cell k t s (Broadcast c) c refl
lines_perform k t s (Export x v) h = λ p. refl
lines_perform k t s (Import x engine) h = lines_imported t x k.store engine (exported x k.store.names)
lines_perform k t s (RunEngine e f) h = lines_on_cell k t s (RunEngine e f) e refl

-- what stands at the focus of a watch, and that an Again is done by a thread that isn't in the line
abbrev WatchFocus : ℕ → Store ℕ → Operation ℕ → Outcome → Type 0
WatchFocus t st (LineUp o c guard) (Acting kind loc st2 focus) = focus ≡ Form (Lined o c) (Part guard End)
WatchFocus t st (GiveUp o c guard) (Acting kind loc st2 focus) = focus ≡ Form (Out o c) (Part guard End)
WatchFocus t st (Again o c guard) (Acting kind loc st2 focus) = in_line t (line_at st c) ≡ false
WatchFocus t st (GiveUp o c guard) (Forking loc new focus) = ⊥
WatchFocus t st (Again o c guard) (Forking loc new focus) = ⊥
WatchFocus t st op x = Unit {0}

lines_focus : (k : Config) (t : ℕ) (s : Self ℕ) (op : Operation ℕ) → WatchFocus t k.store op (perform k t s op)
lines_focus k t s (LineUp o c guard) = by (cell_at k.store c)
  where
    by : (x : Option (Cell ℕ)) → WatchFocus t k.store (LineUp o c guard) (with_line ActKind.Line k.store c (λ line. line ++ t ∷ []) (Form (Lined o c) (Part guard End)) x)
    by (Some (ConditionCell line)) = refl
    by None = tt
    by (Some (ObjectCell flags owner fields)) = tt
    by (Some (ArrayCell vs)) = tt
    by (Some (VariableCell v)) = tt
    by (Some (WriterCell w)) = tt
    by (Some (EngineCell v)) = tt
lines_focus k t s (GiveUp o c guard) = refl
lines_focus k t s (Again o c guard) = by (in_line t (line_of (cell_at k.store c))) refl (is_free (cell_at k.store o))
  where
    by : (b : Bool) → in_line t (line_of (cell_at k.store c)) ≡ b → (f : Bool) → WatchFocus t k.store (Again o c guard) (if b || not f then Waiting else ends_at k.store o ActKind.Again (owned_cell (Some t) (cell_at k.store o)) (testing o c guard))
    by true q f = tt
    by false q true = q
    by false q false = tt
lines_focus k t s op = tt

-- ---- counts in lines

-- whoever is in the later line was in the earlier one, and once if it was there once
abbrev IsLater : ℕ → List ℕ → List ℕ → Type 0
IsLater v old new = in_line v new ≡ true → (in_line v old ≡ true) × (count_in v old ≡ 1 → count_in v new ≡ 1)

later_same : (v : ℕ) (line : List ℕ) → IsLater v line line
later_same v line h = (h, (λ e. e))

some_in : (v : ℕ) (line : List ℕ) → in_line v line ≡ true → count_in v line ≡ 0 → ⊥
some_in v [] h e = absurd (true≢false (sym h))
some_in v (u ∷ us) h e = by (v == u) h e (some_in v us)
  where
    by : (b : Bool) → (b || in_line v us) ≡ true → (if b then suc (count_in v us) else count_in v us) ≡ 0 → (in_line v us ≡ true → count_in v us ≡ 0 → ⊥) → ⊥
    by true r z next = absurd (omega arith)
    by false r z next = next r z

-- behind the first
later_drop : (v : ℕ) (line : List ℕ) → IsLater v line (drop 1 line)
later_drop v [] h = (h, (λ e. e))
later_drop v (u ∷ us) h = (either (v == u), (λ e. by (v == u) e))
  where
    either : (b : Bool) → (b || in_line v us) ≡ true
    either true = refl
    either false = h

    by : (b : Bool) → (if b then suc (count_in v us) else count_in v us) ≡ 1 → count_in v us ≡ 1
    by true e = absurd (some_in v us h (omega arith))
    by false e = e

-- others than the one that lines up
others_count : (v t : ℕ) (us : List ℕ) → (v ≡ t → ⊥) → count_in v (us ++ t ∷ []) ≡ count_in v us
others_count v t [] ne = at (v == t) refl
  where
    at : (b : Bool) → (v == t) ≡ b → (if b then suc (count_in v []) else count_in v []) ≡ 0
    at true q = absurd (ne (eqb-true v t q))
    at false q = refl
others_count v t (w ∷ ws) ne = ap (λ n. if v == w then suc n else n) (others_count v t ws ne)

later_add : (v t : ℕ) (line : List ℕ) → (v ≡ t → ⊥) → IsLater v line (line ++ t ∷ [])
later_add v t [] ne h = absurd (by (v == t) refl h)
  where
    by : (b : Bool) → (v == t) ≡ b → (b || false) ≡ true → ⊥
    by true q r = ne (eqb-true v t q)
    by false q r = true≢false (sym r)
later_add v t (u ∷ us) ne h = by (v == u) h (later_add v t us ne)
  where
    by : (b : Bool) → (b || in_line v (us ++ t ∷ [])) ≡ true → IsLater v us (us ++ t ∷ []) → ((b || in_line v us) ≡ true) × ((if b then suc (count_in v us) else count_in v us) ≡ 1 → (if b then suc (count_in v (us ++ t ∷ [])) else count_in v (us ++ t ∷ [])) ≡ 1)
    by true r next = (refl, (λ e. ap suc (others_count v t us ne) ∙ e))
    by false r next = next r

-- the one that lines up, if it wasn't there
added_once : (t : ℕ) (line : List ℕ) → in_line t line ≡ false → count_in t (line ++ t ∷ []) ≡ 1
added_once t [] h = ap (λ b. if b then suc (count_in t []) else count_in t []) (eq_refl t)
added_once t (u ∷ us) h = by (t == u) h (added_once t us)
  where
    by : (b : Bool) → (b || in_line t us) ≡ false → (in_line t us ≡ false → count_in t (us ++ t ∷ []) ≡ 1) → (if b then suc (count_in t (us ++ t ∷ [])) else count_in t (us ++ t ∷ [])) ≡ 1
    by true r next = absurd (true≢false r)
    by false r next = next r

-- what an operation leaves of a line is later for all other threads
later_behind : (v t : ℕ) (op : Operation ℕ) (line : List ℕ) → (v ≡ t → ⊥) → IsLater v line (line_behind t op line)
later_behind v t (LineUp o c guard) line ne = later_add v t line ne
later_behind v t (Signal c) line ne = later_drop v line
later_behind v t (Broadcast c) line ne = λ h. absurd (true≢false (sym h))
later_behind v t op line ne = later_same v line

-- ---- threads

-- what a thread in the line of c has next
abbrev NextAt : Found ℕ → ℕ → Type 0
NextAt (Next u) c = ⊥
NextAt (Needs op fs) c = lined_at op ≡ Some c
NextAt (Done v) c = ⊥
NextAt (Uncaught r) c = ⊥

term_in : Execution → Term ℕ
term_in (Running u) = u
term_in (Returned v) = Const v
term_in (Failed e) = Const (Thread 0)

same_term : (u v : Term ℕ) (m n : ℕ) → Some (state_of (Running u) m) ≡ Some (state_of (Running v) n) → u ≡ v
unfolding term_in
same_term u v m n e = let same : state_of (Running u) m ≡ state_of (Running v) n = cc e in ap (λ (s : ThreadState). term_in s.execution) same

next_at : (k : Config) (t used : ℕ) (u : Term ℕ) (x : Found ℕ) → LinesHold k → slice_get k.threads t ≡ Some (state_of (Running u) used) → find same_loc 0 no_self u ≡ x → (c : ℕ) → in_line t (line_at k.store c) ≡ true → NextAt x c
next_at k t used u x law here found c i = by (law c t i).1
  where
    by : IsLinedAt (slice_get k.threads t) c → NextAt x c
    by (v, n, op, fs, there, needs, l) = subst (λ y. NextAt y c) (sym needs ∙ ap (find same_loc 0 no_self) (same_term v u n used (sym there ∙ here)) ∙ found) l

not_true : (b : Bool) → (b ≡ true → ⊥) → b ≡ false
not_true true h = absurd (h refl)
not_true false h = refl

-- thread t goes on so, and the lines are later ones
lines_after : (k : Config) (t used : ℕ) (u : Term ℕ) (l : Execution) (n : ℕ) (st : Store ℕ) → slice_get k.threads t ≡ Some (state_of (Running u) used) → LinesHold k
    → ((c v : ℕ) → (v ≡ t → ⊥) → IsLater v (line_at k.store c) (line_at st c))
    → ((c : ℕ) → in_line t (line_at st c) ≡ true → (count_in t (line_at st c) ≡ 1) × IsLinedAt (Some (state_of l n)) c)
    → LinesHold (changed k t l n st)
lines_after k t used u l n st here law later own c v i = by (v == t) refl
  where
    there : slice_get (slice_set k.threads t (state_of l n)) t ≡ Some (state_of l n)
    there = set_same k.threads t (state_of l n) (get_below k.threads t (state_of (Running u) used) here)

    mine : (w : ℕ) → w ≡ t → in_line w (line_at st c) ≡ true → (count_in w (line_at st c) ≡ 1) × IsLinedAt (slice_get (slice_set k.threads t (state_of l n)) w) c
    mine w e j =
        let o = own c (subst (λ z. in_line z (line_at st c) ≡ true) e j) in
        (subst (λ z. count_in z (line_at st c) ≡ 1) (sym e) o.0, subst (λ z. IsLinedAt (slice_get (slice_set k.threads t (state_of l n)) z) c) (sym e) (subst (λ o. IsLinedAt o c) (sym there) o.1))

    by : (b : Bool) → (v == t) ≡ b → (count_in v (line_at st c) ≡ 1) × IsLinedAt (slice_get (slice_set k.threads t (state_of l n)) v) c
    by true q = mine v (eqb-true v t q) i
    by false q =
        let a = later c v (eqb-false v t q) i in
        let b = law c v a.0 in
        (a.1 b.0, subst (λ o. IsLinedAt o c) (sym (set_other k.threads t (state_of l n) v (eqb-false v t q))) b.1)

-- the lines of all other threads
others_later : (k : Config) (t : ℕ) (op : Operation ℕ) (st : Store ℕ) → LinesLeft t op k.store st → (c v : ℕ) → (v ≡ t → ⊥) → IsLater v (line_at k.store c) (line_at st c)
others_later k t op st left c v ne = subst (IsLater v (line_at k.store c)) (sym (left c)) (by (is_at c (cell_of op)))
  where
    by : (b : Bool) → IsLater v (line_at k.store c) (if b then line_behind t op (line_at k.store c) else line_at k.store c)
    by true = later_behind v t op (line_at k.store c) ne
    by false = later_same v (line_at k.store c)

-- of a thread that isn't behind lining up
own_rest : (k : Config) (t used : ℕ) (u : Term ℕ) (op : Operation ℕ) (fs : List (Frame ℕ)) (st : Store ℕ) (focus : Term ℕ) (n : ℕ) → LinesHold k → slice_get k.threads t ≡ Some (state_of (Running u) used) → find same_loc 0 no_self u ≡ Needs op fs
    → LinesLeft t op k.store st → ((line : List ℕ) → IsLater t line (line_behind t op line)) → lined_at op ≡ None
    → (c : ℕ) → in_line t (line_at st c) ≡ true → (count_in t (line_at st c) ≡ 1) × IsLinedAt (Some (state_of (Running (plug fs focus)) n)) c
own_rest k t used u op fs st focus n law here found left later none c i =
    let old : in_line t (line_at k.store c) ≡ true = (subst (IsLater t (line_at k.store c)) (sym (left c)) (by (is_at c (cell_of op))) i).0 in
    absurd (none_is (sym none ∙ next_at k t used u (Needs op fs) law here found c old))
  where
    by : (b : Bool) → IsLater t (line_at k.store c) (if b then line_behind t op (line_at k.store c) else line_at k.store c)
    by true = later (line_at k.store c)
    by false = later_same t (line_at k.store c)

    none_is : None ≡ Some c → ⊥
    none_is e = absurd (cc e)

-- the next operation of what stands at the focus of a watch
next_in : (u : Term ℕ) (op : Operation ℕ) (fs : List (Frame ℕ)) (focus form : Term ℕ) (next : Operation ℕ) → find same_loc 0 no_self u ≡ Needs op fs → focus ≡ form → ((a : ℕ) (s : Self ℕ) → find same_loc a s form ≡ Needs next [])
    → find same_loc 0 no_self (plug fs focus) ≡ Needs next (fs ++ [])
next_in u op fs focus form next found e h =
    ap (λ x. find same_loc 0 no_self (plug fs x)) e ∙ needs_plug same_loc 0 no_self fs form next [] (needs_frames same_loc 0 no_self u op fs found).0 (h _ _)

-- the kind and the location don't matter
any_kind : (t : ℕ) (st : Store ℕ) (op : Operation ℕ) (kind : ActKind) (loc : ℕ) (st2 : Store ℕ) (focus : Term ℕ) → WatchFocus t st op (Acting kind loc st2 focus) → WatchFocus t st op (Acting ActKind.New 0 st2 focus)
any_kind t st (LineUp o c guard) kind loc st2 focus h = h
any_kind t st (GiveUp o c guard) kind loc st2 focus h = h
any_kind t st (Again o c guard) kind loc st2 focus h = h
any_kind t st op kind loc st2 focus h = tt

own_lines : (k : Config) (t used : ℕ) (u : Term ℕ) (op : Operation ℕ) (fs : List (Frame ℕ)) (st : Store ℕ) (focus : Term ℕ) (n : ℕ) → LinesHold k → slice_get k.threads t ≡ Some (state_of (Running u) used) → find same_loc 0 no_self u ≡ Needs op fs
    → LinesLeft t op k.store st → WatchFocus t k.store op (Acting ActKind.New 0 st focus) → (c : ℕ) → in_line t (line_at st c) ≡ true → (count_in t (line_at st c) ≡ 1) × IsLinedAt (Some (state_of (Running (plug fs focus)) n)) c
own_lines k t used u (LineUp o q guard) fs st focus n law here found left w c i = by (c == q) refl (left c)
  where
    nowhere : in_line t (line_at k.store c) ≡ true → ⊥
    nowhere j = let e : None ≡ Some c = next_at k t used u (Needs (LineUp o q guard) fs) law here found c j in absurd (cc e)

    by : (b : Bool) → (c == q) ≡ b → line_at st c ≡ (if b then line_at k.store c ++ t ∷ [] else line_at k.store c) → (count_in t (line_at st c) ≡ 1) × IsLinedAt (Some (state_of (Running (plug fs focus)) n)) c
    by true e l = (
      ap (count_in t) l ∙ added_once t (line_at k.store c) (not_true (in_line t (line_at k.store c)) nowhere),
      (plug fs focus, n, GiveUp o q guard, fs ++ [], refl, next_in u (LineUp o q guard) fs focus (Form (Lined o q) (Part guard End)) (GiveUp o q guard) found w (λ a s. refl), ap Some (sym (eqb-true c q e))),
    )
    by false e l = absurd (nowhere (sym (ap (in_line t) l) ∙ i))
own_lines k t used u (GiveUp o q guard) fs st focus n law here found left w c i =
    let same : line_at st c ≡ line_at k.store c = left c ∙ both (is_at c (Some o)) in
    let old : in_line t (line_at k.store c) ≡ true = sym (ap (in_line t) same) ∙ i in (
      ap (count_in t) same ∙ (law c t old).0,
      (plug fs focus, n, Again o q guard, fs ++ [], refl, next_in u (GiveUp o q guard) fs focus (Form (Out o q) (Part guard End)) (Again o q guard) found w (λ a s. refl), next_at k t used u (Needs (GiveUp o q guard) fs) law here found c old),
    )
  where
    both : (b : Bool) → (if b then line_at k.store c else line_at k.store c) ≡ line_at k.store c
    both true = refl
    both false = refl
own_lines k t used u (Again o q guard) fs st focus n law here found left w c i =
    let old : in_line t (line_at k.store c) ≡ true = sym (ap (in_line t) (left c)) ∙ i in
    let here_too : Some q ≡ Some c = next_at k t used u (Needs (Again o q guard) fs) law here found c old in
    let same : q ≡ c = cc here_too in
    absurd (true≢false (sym old ∙ ap (λ p. in_line t (line_at k.store p)) (sym same) ∙ w))
own_lines k t used u (New cell after) fs st focus n law here found left w c i = own_rest k t used u (New cell after) fs st focus n law here found left (λ line. later_same t line) refl c i
own_lines k t used u (Get p x) fs st focus n law here found left w c i = own_rest k t used u (Get p x) fs st focus n law here found left (λ line. later_same t line) refl c i
own_lines k t used u (CallMethod p x vs) fs st focus n law here found left w c i = own_rest k t used u (CallMethod p x vs) fs st focus n law here found left (λ line. later_same t line) refl c i
own_lines k t used u (Leave p out) fs st focus n law here found left w c i = own_rest k t used u (Leave p out) fs st focus n law here found left (λ line. later_same t line) refl c i
own_lines k t used u (Set p x body) fs st focus n law here found left w c i = own_rest k t used u (Set p x body) fs st focus n law here found left (λ line. later_same t line) refl c i
own_lines k t used u (Copy p first copied rest) fs st focus n law here found left w c i = own_rest k t used u (Copy p first copied rest) fs st focus n law here found left (λ line. later_same t line) refl c i
own_lines k t used u (RedirectTo p target) fs st focus n law here found left w c i = own_rest k t used u (RedirectTo p target) fs st focus n law here found left (λ line. later_same t line) refl c i
own_lines k t used u (GetItem a j) fs st focus n law here found left w c i = own_rest k t used u (GetItem a j) fs st focus n law here found left (λ line. later_same t line) refl c i
own_lines k t used u (GetSize a) fs st focus n law here found left w c i = own_rest k t used u (GetSize a) fs st focus n law here found left (λ line. later_same t line) refl c i
own_lines k t used u (EachSize a scope) fs st focus n law here found left w c i = own_rest k t used u (EachSize a scope) fs st focus n law here found left (λ line. later_same t line) refl c i
own_lines k t used u (EachItem a j m scope) fs st focus n law here found left w c i = own_rest k t used u (EachItem a j m scope) fs st focus n law here found left (λ line. later_same t line) refl c i
own_lines k t used u (SetItem a j v) fs st focus n law here found left w c i = own_rest k t used u (SetItem a j v) fs st focus n law here found left (λ line. later_same t line) refl c i
own_lines k t used u (ReadVariable l) fs st focus n law here found left w c i = own_rest k t used u (ReadVariable l) fs st focus n law here found left (λ line. later_same t line) refl c i
own_lines k t used u (SetVariable l v) fs st focus n law here found left w c i = own_rest k t used u (SetVariable l v) fs st focus n law here found left (λ line. later_same t line) refl c i
own_lines k t used u (Write z x) fs st focus n law here found left w c i = own_rest k t used u (Write z x) fs st focus n law here found left (λ line. later_same t line) refl c i
own_lines k t used u (ForkOff f) fs st focus n law here found left w c i = own_rest k t used u (ForkOff f) fs st focus n law here found left (λ line. later_same t line) refl c i
own_lines k t used u (JoinWith z) fs st focus n law here found left w c i = own_rest k t used u (JoinWith z) fs st focus n law here found left (λ line. later_same t line) refl c i
own_lines k t used u (Signal q) fs st focus n law here found left w c i = own_rest k t used u (Signal q) fs st focus n law here found left (λ line. later_drop t line) refl c i
own_lines k t used u (Broadcast q) fs st focus n law here found left w c i = own_rest k t used u (Broadcast q) fs st focus n law here found left (λ line. (λ h. absurd (true≢false (sym h)))) refl c i
own_lines k t used u (Export x v) fs st focus n law here found left w c i = own_rest k t used u (Export x v) fs st focus n law here found left (λ line. later_same t line) refl c i
own_lines k t used u (Import x engine) fs st focus n law here found left w c i = own_rest k t used u (Import x engine) fs st focus n law here found left (λ line. later_same t line) refl c i
own_lines k t used u (RunEngine r f) fs st focus n law here found left w c i = own_rest k t used u (RunEngine r f) fs st focus n law here found left (λ line. later_same t line) refl c i

no_fork : (t : ℕ) (st : Store ℕ) (op : Operation ℕ) (loc : ℕ) (new focus : Term ℕ) (c : ℕ) → WatchFocus t st op (Forking loc new focus) → lined_at op ≡ Some c → ⊥
no_fork t st (GiveUp p q guard) loc new focus c h e = absurd h
no_fork t st (Again p q guard) loc new focus c h e = absurd h
no_fork t st (New cell after) loc new focus c h e = absurd (cc e)
no_fork t st (Get p x) loc new focus c h e = absurd (cc e)
no_fork t st (CallMethod p x vs) loc new focus c h e = absurd (cc e)
no_fork t st (Leave p out) loc new focus c h e = absurd (cc e)
no_fork t st (Set p x body) loc new focus c h e = absurd (cc e)
no_fork t st (Copy p first copied rest) loc new focus c h e = absurd (cc e)
no_fork t st (RedirectTo p target) loc new focus c h e = absurd (cc e)
no_fork t st (GetItem a i) loc new focus c h e = absurd (cc e)
no_fork t st (GetSize a) loc new focus c h e = absurd (cc e)
no_fork t st (EachSize a scope) loc new focus c h e = absurd (cc e)
no_fork t st (EachItem a i m scope) loc new focus c h e = absurd (cc e)
no_fork t st (SetItem a i v) loc new focus c h e = absurd (cc e)
no_fork t st (ReadVariable l) loc new focus c h e = absurd (cc e)
no_fork t st (SetVariable l v) loc new focus c h e = absurd (cc e)
no_fork t st (Write w x) loc new focus c h e = absurd (cc e)
no_fork t st (ForkOff f) loc new focus c h e = absurd (cc e)
no_fork t st (JoinWith w) loc new focus c h e = absurd (cc e)
no_fork t st (Signal q) loc new focus c h e = absurd (cc e)
no_fork t st (Broadcast q) loc new focus c h e = absurd (cc e)
no_fork t st (Export x v) loc new focus c h e = absurd (cc e)
no_fork t st (Import x engine) loc new focus c h e = absurd (cc e)
no_fork t st (RunEngine r f) loc new focus c h e = absurd (cc e)
no_fork t st (LineUp p q guard) loc new focus c h e = absurd (cc e)

-- ---- turns

formed_turn : (turns : ℕ) (k k2 : Config) (t : ℕ) (a : Option Act) → IsFormedConfig k → Turn turns k t a k2 → IsFormedConfig k2
formed_turn turns k k2 t a c x = subst IsFormedIf (turn_taken turns k k2 t a x) (entry_formed turns k (alone t a) c)

bare_of : (s : Self ℕ) (op : Operation ℕ) → IsSourceOperation s op → BareNew op
bare_of s (New cell after) h = h.3
bare_of s op h = tt

bare_next : (k : Config) (t used : ℕ) (u : Term ℕ) (op : Operation ℕ) (fs : List (Frame ℕ)) → IsFormedConfig k → slice_get k.threads t ≡ Some (state_of (Running u) used) → find same_loc 0 no_self u ≡ Needs op fs → BareNew op
bare_next k t used u op fs c here found =
    let good : GoodThreadState k.store (Some (state_of (Running u) used)) = subst (GoodThreadState k.store) here (good_state k.store k.threads t c.0.1 c.1) in
    let g : IsGood no_self (marks_of u) (Needs op fs) = subst (IsGood no_self (marks_of u)) found (good_find same_loc 0 no_self u good.0) in
    bare_of (self_at no_self fs) op g.2

no_step : (x : Found ℕ) (c : ℕ) (v : Term ℕ) → NextAt x c → next_of x ≡ Some v → ⊥
no_step (Next u) c v h e = absurd h
no_step (Needs op fs) c v h e = absurd (cc e)
no_step (Done w) c v h e = absurd h
no_step (Uncaught r) c v h e = absurd h

-- with one thread more
lines_more : (k : Config) (new : Term ℕ) → LinesHold k → LinesHold (with_thread k new)
lines_more k new law c v i = let h = law c v i in (h.0, by h.1)
  where
    by : IsLinedAt (slice_get k.threads v) c → IsLinedAt (slice_get (k.threads ++ state_of (Running new) 0 ∷ []) v) c
    by (u, used, op, fs, here, found, l) =
        (u, used, op, fs, push_other k.threads (state_of (Running new) 0) v (below (get_below k.threads v (state_of (Running u) used) here)) ∙ here, found, l)
      where
        below : v < length k.threads → v ≡ length k.threads → ⊥
        below l e = absurd (omega arith)

abbrev IsLinedWell : Config → Type 0
IsLinedWell k = IsFormedConfig k × LinesHold k

lines_turn : (turns : ℕ) (k k2 : Config) (t : ℕ) (a : Option Act) → IsFormedConfig k → LinesHold k → Turn turns k t a k2 → LinesHold k2
lines_turn turns k _ t _ c law (Steps {u} {used} {v} g e) =
    lines_after k t used u (Running v) (suc used) k.store g.is_there law (λ q w ne. later_same w (line_at k.store q)) (λ q i. absurd (no_step (find same_loc 0 no_self u) q v (next_at k t used u (find same_loc 0 no_self u) law g.is_there refl q i) e))
lines_turn turns k _ t _ c law (Acts {u} {used} {op} {fs} {kind} {loc} {st} {focus} g f p) =
    let left : LinesLeft t op k.store st = subst (LinesOutcome t op k.store) p (lines_perform k t (self_at no_self fs) op (bare_next k t used u op fs c g.is_there f)) in
    let watch : WatchFocus t k.store op (Acting kind loc st focus) = subst (WatchFocus t k.store op) p (lines_focus k t (self_at no_self fs) op) in
    lines_after k t used u (Running (plug fs focus)) (suc used) st g.is_there law (others_later k t op st left) (own_lines k t used u op fs st focus (suc used) law g.is_there f left (any_kind t k.store op kind loc st focus watch))
lines_turn turns k _ t _ c law (Forks {u} {used} {op} {fs} {loc} {new} {focus} g f p) =
    let watch : WatchFocus t k.store op (Forking loc new focus) = subst (WatchFocus t k.store op) p (lines_focus k t (self_at no_self fs) op) in
    lines_more (changed k t (Running (plug fs focus)) (suc used) k.store) new
    (lines_after k t used u (Running (plug fs focus)) (suc used) k.store g.is_there law (λ q w ne. later_same w (line_at k.store q)) (λ q i. absurd (no_fork t k.store op loc new focus q watch (next_at k t used u (Needs op fs) law g.is_there f q i))))
lines_turn turns k _ t _ c law (Ends {u} {used} {v} g f) =
    lines_after k t used u (Returned v) (suc used) k.store g.is_there law (λ q w ne. later_same w (line_at k.store q)) (λ q i. absurd (next_at k t used u (Done v) law g.is_there f q i))
lines_turn turns k _ t _ c law (Raises {u} {used} {r} g f) =
    lines_after k t used u (end_by r) (suc used) k.store g.is_there law (λ q w ne. later_same w (line_at k.store q)) (λ q i. absurd (next_at k t used u (Uncaught r) law g.is_there f q i))

-- ---- the opening

no_lines : (n p : ℕ) → line_of {R = ℕ} (slice_get (replicate n (WriterCell [])) p) ≡ []
no_lines zero p = refl
no_lines (suc n) zero = refl
no_lines (suc n) (suc p) = no_lines n p

opening_lines : (trees : List BlockTree) → LinesHold (opening trees)
opening_lines trees c t i = absurd (true≢false (sym i ∙ ap (in_line t) (no_lines (length (opening_terms 0 trees)) c)))

pub lines_law : LinesLaw
lines_law trees turns es k r =
    (kept_by_replay turns IsLinedWell (λ k1 k2 t a p x. (formed_turn turns k1 k2 t a p.0 x, lines_turn turns k1 k2 t a p.0 p.1 x)) trees (opening_of_formed trees, opening_lines trees) es k r).1

pub one_line : OneLine
one_line trees turns es k c d t r i j = by (law c t i).1
  where
    law : LinesHold k
    law = lines_law trees turns es k r

    by : IsLinedAt (slice_get k.threads t) c → c ≡ d
    by (u, used, op, fs, here, found, l) = let m : lined_at op ≡ Some d = next_at k t used u (Needs op fs) law here found d j in cc (l, m)
