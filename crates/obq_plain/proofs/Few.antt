-- A thread is made only where there are fewer than 64.
use Rattle.std.proofs.Common.{Bool, Err, None, Ok, OnOk, Option, Result, Some, ap, arith, false, if◌then◌else◌, length, nat_le, not, refl, slice_get, sym, true, true≢false, ℕ, ◌<◌, ◌∙◌, ◌||◌, ◌≡◌}
use Rattle.std.proofs.lemmas.Bool.Decides.{nat_tests}
use Rattle.obq_base.specs.declared.acts.ActKind.{ActKind}
use Rattle.obq_base.specs.declared.limits.TheConstants.{THREAD_LIMIT}
use Rattle.obq_model.specs.Cells.{cell_row, is_free}
use Rattle.obq_model.specs.Config.{Config, Execution, Failed, Returned, Running, ThreadState, cell_at}
use Rattle.obq_model.specs.Effect.{Acting, Forking, Outcome, Waiting, again, ends_at, imported, in_line, joined, line_of, on_cell, perform}
use Rattle.obq_model.specs.Exceptions.{fork_limit}
use Rattle.obq_model.specs.Step.{Self, Operation, New, Get, CallMethod, Leave, Set, Copy, RedirectTo, GetItem, GetSize, EachSize, EachItem, SetItem, ReadVariable, SetVariable, Write, ForkOff, JoinWith, LineUp, GiveUp, Again, Signal, Broadcast, Export, Import, RunEngine}
use Rattle.obq_model.specs.Store as c
use Rattle.obq_model.specs.Store.{exported, same_loc}
use Rattle.obq_model.specs.Terms as m
use Rattle.obq_store.proofs.AnyEnds.{row_is_read}
use Rattle.obq_store.specs.Rows as r
use Rattle.obq_plain.specs.Taking.{is_forking}

by_data : (st : c.Store ℕ) (l : ℕ) (d : r.Outcome) → is_forking (r.read (ends_at st l) Waiting d) ≡ false
by_data st l r.Waits = refl
by_data st l (r.Ends kind left focus) = refl

-- no operation on a single cell makes a thread
on_one : (k : Config) (t : ℕ) (s : Self ℕ) (op : Operation ℕ) (l : ℕ) → is_forking (on_cell k t s op l) ≡ false
on_one k t s op l =
    ap is_forking (sym (row_is_read (ends_at k.store l) Waiting t s op (cell_at k.store l))) ∙ by_data k.store l (cell_row same_loc r.Ends r.Waits t s op (cell_at k.store l))

either : (b : Bool) (x y : Outcome) → is_forking x ≡ false → is_forking y ≡ false → is_forking (if b then x else y) ≡ false
either true x y e f = e
either false x y e f = f

on_import : (st : c.Store ℕ) (engine : Bool) (v : Option (m.Value ℕ)) → is_forking (imported st engine v) ≡ false
on_import st engine None = refl
on_import st false (Some v) = refl
on_import st true (Some (m.Loc m.Engine e)) = refl
on_import st true (Some v) = refl

on_execution : (st : c.Store ℕ) (u n : ℕ) (x : Execution) → is_forking (joined st u (Some (record { execution = x; used = n }))) ≡ false
on_execution st u n (Running t) = refl
on_execution st u n (Returned v) = refl
on_execution st u n (Failed e) = refl

on_join : (st : c.Store ℕ) (u : ℕ) (o : Option ThreadState) → is_forking (joined st u o) ≡ false
on_join st u None = refl
on_join st u (Some state) = on_execution st u state.used state.execution

never : (b : Bool) (A : Type 0) → b ≡ false → b ≡ true → A
never b A e h = absurd (true≢false (sym h ∙ e))

no_thread : (k : Config) (t : ℕ) (s : Self ℕ) (op : Operation ℕ) (l : ℕ) → is_forking (on_cell k t s op l) ≡ true → length k.threads < 64
no_thread k t s op l h = never (is_forking (on_cell k t s op l)) _ (on_one k t s op l) h

pub few : (k : Config) (t : ℕ) (s : Self ℕ) (op : Operation ℕ) → is_forking (perform k t s op) ≡ true → length k.threads < 64
few k t s (ForkOff f) h = by_case (nat_le THREAD_LIMIT (length k.threads)) refl h where
  by_case : (b : Bool) → nat_le THREAD_LIMIT (length k.threads) ≡ b
      → is_forking (if b then Acting ActKind.Fork THREAD_LIMIT k.store fork_limit else Forking (length k.threads) (m.Form m.Call (m.Part (m.Const f) m.End)) (m.Const (m.Thread (length k.threads)))) ≡ true → length k.threads < 64
  by_case true e h = absurd (true≢false (sym h))
  by_case false e h = grind (arith, nat_tests)
few k t s (New cell after) h = absurd (true≢false (sym h))
few k t s (Export x v) h = absurd (true≢false (sym h))
few k t s (JoinWith u) h = never (is_forking (joined k.store u (slice_get k.threads u))) _ (on_join k.store u (slice_get k.threads u)) h
few k t s (Import x engine) h = never (is_forking (imported k.store engine (exported x k.store.names))) _ (on_import k.store engine (exported x k.store.names)) h
few k t s (Again o c guard) h = never (is_forking (again k.store t o c guard)) _ (either (in_line t (line_of (cell_at k.store c)) || not (is_free (cell_at k.store o))) _ _ refl refl) h
few k t s (Get o x) h = no_thread k t s (Get o x) o h
few k t s (CallMethod o x vs) h = no_thread k t s (CallMethod o x vs) o h
few k t s (Leave o out) h = no_thread k t s (Leave o out) o h
few k t s (Set o x body) h = no_thread k t s (Set o x body) o h
few k t s (Copy o first copied rest) h = no_thread k t s (Copy o first copied rest) o h
few k t s (RedirectTo o target) h = no_thread k t s (RedirectTo o target) o h
few k t s (GetItem a i) h = no_thread k t s (GetItem a i) a h
few k t s (GetSize a) h = no_thread k t s (GetSize a) a h
few k t s (EachSize a scope) h = no_thread k t s (EachSize a scope) a h
few k t s (EachItem a i n scope) h = no_thread k t s (EachItem a i n scope) a h
few k t s (SetItem a i v) h = no_thread k t s (SetItem a i v) a h
few k t s (ReadVariable l) h = no_thread k t s (ReadVariable l) l h
few k t s (SetVariable l v) h = no_thread k t s (SetVariable l v) l h
few k t s (Write w text) h = no_thread k t s (Write w text) w h
few k t s (LineUp o c guard) h = no_thread k t s (LineUp o c guard) c h
few k t s (GiveUp o c guard) h = no_thread k t s (GiveUp o c guard) o h
few k t s (Signal c) h = no_thread k t s (Signal c) c h
few k t s (Broadcast c) h = no_thread k t s (Broadcast c) c h
few k t s (RunEngine e f) h = no_thread k t s (RunEngine e f) e h

pub at_ok : {X Y : Type 0} (r : Result X Y) (P Q : Type 0) → (P → Q) → OnOk r P → OnOk r Q
at_ok (Ok x) P Q f p = f p
at_ok (Err e) P Q f p = tt
