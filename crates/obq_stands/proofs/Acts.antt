-- Every operation done at its site is what the store's machine does.
use Rattle.std.specs.Prelude.{Bool, Option, Some, None, ℕ, ◌<◌, length, option_map, slice_get, refl, ◌≡◌, if◌then◌else◌, nat_le}
use Rattle.std.proofs.Common.{ap, sym, ◌∙◌}
use Rattle.obq_base.specs.declared.acts.ActKind.{ActKind}
use Rattle.obq_model.specs.Terms.{Bytes, Value, Okay, Thread, Call, Term, Const, Form, Part, End}
use Rattle.obq_model.specs.Exceptions.{raise, fork_limit}
use Rattle.obq_model.specs.Store.{Cell, Store, same_loc, exported, export}
use Rattle.obq_model.specs.Step.{Self, Operation, JoinWith}
use Rattle.obq_model.specs.Config.{Returned, Failed, Config, cell_at, with_cell, with_new_cell}
use Rattle.obq_model.specs.Effect.{Outcome, Waiting, Acting, Forking, kept, ends_at, on_cell, line_of, in_line, joined, imported, perform}
use Rattle.obq_model.specs.Cells.{cell_row, again_row, after_new}
use Rattle.obq_model.specs.Maps.{map_value, map_term, map_cell, map_self, map_after, map_operation, map_names}
use Rattle.obq_model.proofs.NaturalCells.{map_cell_row, map_again, map_import, map_after_new, map_cell_of, map_exported, map_export, map_line_of}
use Rattle.obq_stands.specs.World.{Ref, same_ref, Born, Memory, with_left, Ending, ByValue, ByException, ending_term, Row, Idle, Ends}
use Rattle.obq_stands.specs.Stands.{Agrees, MemoryStands, Ended, Does, OnCell, Makes, Retakes, Joins, Exports, Imports, TooMany}
use Rattle.obq_stands.proofs.Refs.{with_ref_same}
use Rattle.obq_model.proofs.Slices.{get_below, set_same}
use Rattle.obq_stands.proofs.Memory.{reading, reading_agrees, born_as, left_later, left_stands, made_later, made_stands}
use Rattle.obq_model.proofs.OneCell.{perform_cell}
use Rattle.obq_base.specs.declared.limits.TheConstants.{THREAD_LIMIT}

-- a row of a site, in the store
abbrev pub outcome : (Ref → ℕ) → Store ℕ → ℕ → Row Ref → Outcome
outcome f st l Idle = Waiting
outcome f st l (Ends kind c t) = ends_at st l kind (option_map (map_cell f) c) (map_term f t)

-- what an act at a site is in the store
pub record Done (c : Config) (t : ℕ) (s : Self ℕ) (op : Operation ℕ) (m : Memory) (kind : ActKind) (loc : ℕ) (m2 : Memory) (focus : Term Ref) : Type 0 where
  pub store : Store ℕ
  pub term : Term ℕ
  pub performed : perform c t s op ≡ Acting kind loc store term
  pub stands : MemoryStands m2 store
  pub later : (f : Ref → ℕ) → Agrees f m2.heap → Agrees f m.heap
  pub reads : (f : Ref → ℕ) → Agrees f m2.heap → map_term f focus ≡ term

acting_term : (k : ActKind) (l : ℕ) (st st2 : Store ℕ) (u v : Term ℕ) → Acting k l st u ≡ Acting k l st2 v → u ≡ v
acting_term k l st st2 u v e = cc e

acting_store : (k : ActKind) (l : ℕ) (st st2 : Store ℕ) (u v : Term ℕ) → Acting k l st u ≡ Acting k l st2 v → st ≡ st2
acting_store k l st st2 u v e = cc e

-- the cell at r is left so under every agreeing map
left_done : (c : Config) (t : ℕ) (s : Self ℕ) (op : Operation ℕ) (m : Memory) → MemoryStands m c.store → (r : Ref) (x : Born) → m.heap r ≡ Some x → (kind : ActKind) (left : Option (Cell Ref)) (focus : Term Ref)
    → ((f : Ref → ℕ) → Agrees f m.heap → perform c t s op ≡ Acting kind x.born (kept c.store x.born (option_map (map_cell f) left)) (map_term f focus)) → Done c t s op m kind x.born (with_left m r x.born left) focus
left_done c t s op m h r x here kind None focus p =
    let f0 : Ref → ℕ = reading m 0 in
    let a0 : Agrees f0 m.heap = reading_agrees m c.store h 0 in
    record {
      store = c.store;
      term = map_term f0 focus;
      performed = p f0 a0;
      stands = h;
      later = λ f a. a;
      reads = λ f a. acting_term kind x.born c.store c.store (map_term f focus) (map_term f0 focus) (sym (p f a) ∙ p f0 a0);
    }
left_done c t s op m h r x here kind (Some cell) focus p =
    let f0 : Ref → ℕ = reading m 0 in
    let a0 : Agrees f0 m.heap = reading_agrees m c.store h 0 in
    let st : Store ℕ = with_cell c.store x.born (map_cell f0 cell) in
    let l : x.born < length c.store.cells = get_below c.store.cells x.born (map_cell f0 x.cell) (h.cells r x here f0 a0) in
    let one : (f : Ref → ℕ) → Agrees f m.heap → map_cell f cell ≡ map_cell f0 cell = λ f a.
    let same : with_cell c.store x.born (map_cell f cell) ≡ st = acting_store kind x.born (with_cell c.store x.born (map_cell f cell)) st (map_term f focus) (map_term f0 focus) (sym (p f a) ∙ p f0 a0) in
    let e : Some (map_cell f cell) ≡ Some (map_cell f0 cell) = sym (set_same c.store.cells x.born (map_cell f cell) l) ∙ ap (λ (z : Store ℕ). slice_get z.cells x.born) same ∙ set_same c.store.cells x.born (map_cell f0 cell) l in
    cc e in
    record {
      store = st;
      term = map_term f0 focus;
      performed = p f0 a0;
      stands = left_stands m c.store h r x cell (map_cell f0 cell) here one;
      later = left_later m.heap r x cell here;
      reads = λ f a. acting_term kind x.born (with_cell c.store x.born (map_cell f cell)) st (map_term f focus) (map_term f0 focus) (sym (p f (left_later m.heap r x cell here f a)) ∙ p f0 a0);
    }

-- ---- the other operations

join_done : (c : Config) (t : ℕ) (s : Self ℕ) (m : Memory) → MemoryStands m c.store → (u : ℕ) (e : Ending) → Ended m.heap (slice_get c.threads u) e → Done c t s (JoinWith u) m ActKind.Join u m (ending_term e)
join_done c t s m h u (ByValue v) d =
    let f0 : Ref → ℕ = reading m 0 in
    let a0 : Agrees f0 m.heap = reading_agrees m c.store h 0 in
    let first : d.execution ≡ Returned (map_value f0 v) = d.same f0 a0 in
    record {
      store = c.store;
      term = Const (map_value f0 v);
      performed = ap (joined c.store u) (d.here ∙ ap (λ x. Some (record { execution = x; used = d.used })) first);
      stands = h;
      later = λ f a. a;
      reads = λ f a. let other : d.execution ≡ Returned (map_value f v) = d.same f a in let same : map_value f v ≡ map_value f0 v = cc (first, other) in ap Const same;
    }
join_done c t s m h u (ByException e) d =
    let first : d.execution ≡ Failed e = d.same (reading m 0) (reading_agrees m c.store h 0) in
    record {
      store = c.store;
      term = raise e;
      performed = ap (joined c.store u) (d.here ∙ ap (λ x. Some (record { execution = x; used = d.used })) first);
      stands = h;
      later = λ f a. a;
      reads = λ f a. refl;
    }

export_stands : (m : Memory) (st : Store ℕ) → MemoryStands m st → (x : Bytes) (v : Value Ref) (v2 : Value ℕ) → ((f : Ref → ℕ) → Agrees f m.heap → map_value f v ≡ v2)
    → MemoryStands (record m { names = export x v m.names }) (record st { names = export x v2 st.names })
export_stands m st h x v v2 one =
    record {
      counted = h.counted;
      below = h.below;
      apart = h.apart;
      covers = h.covers;
      cells = h.cells;
      names = λ f a. ap (export x v2) (h.names f a) ∙ ap (λ w. export x w (map_names f m.names)) (sym (one f a)) ∙ sym (map_export f x v m.names);
    }

-- a thread more that calls v
abbrev pub fork_more : Config → Value ℕ → Outcome
fork_more c v = Forking (length c.threads) (Form Call (Part (Const v) End)) (Const (Thread (length c.threads)))

-- ---- every operation

pub acts : (c : Config) (t threads : ℕ) (m : Memory) (en : ℕ → ℕ → Option Ending) (s : Self Ref) (s2 : Self ℕ) (op : Operation Ref) (op2 : Operation ℕ) (kind : ActKind) (loc : ℕ) (m2 : Memory) (focus : Term Ref)
    → MemoryStands m c.store → length c.threads ≡ threads → ((b u : ℕ) (e : Ending) → en b u ≡ Some e → Ended m.heap (slice_get c.threads u) e)
    → ((f : Ref → ℕ) → Agrees f m.heap → (op2 ≡ map_operation f op) × (s2 ≡ map_self f s)) → Does m en threads t s op kind loc m2 focus → Done c t s2 op2 m kind loc m2 focus
acts c t threads m en s s2 op op2 kind loc m2 focus h count ends one (OnCell _ r x _ left _ at here row) =
    left_done c t s2 op2 m h r x here kind left focus (λ f a.
    ap (λ o. perform c t o op2) (one f a).1
    ∙ ap (perform c t (map_self f s)) (one f a).0
    ∙ perform_cell c t (map_self f s) (map_operation f op) (f r) (map_cell_of f op ∙ ap (option_map f) at)
    ∙ ap (on_cell c t (map_self f s) (map_operation f op)) (a.cells r x here)
    ∙ ap (cell_row same_loc (ends_at c.store x.born) Waiting t (map_self f s) (map_operation f op)) (h.cells r x here f a)
    ∙ sym (map_cell_row f (outcome f c.store x.born) same_ref same_loc Ends (ends_at c.store x.born) Idle Waiting a.tells (λ k d u. refl) refl t s op (Some x.cell))
    ∙ ap (outcome f c.store x.born) row)
acts c t threads m en s s2 op op2 kind loc m2 focus h count ends one (Makes r cell after none) =
    let f0 : Ref → ℕ = reading m 0 in
    let a0 : Agrees f0 m.heap = reading_agrees m c.store h 0 in
    let is : (f : Ref → ℕ) → Agrees f m.heap → (map_cell f cell ≡ map_cell f0 cell) × (map_after f after ≡ map_after f0 after) = λ f a. let p = (one f a).0 in let q = (one f0 a0).0 in (cc (p, q), cc (p, q)) in
    record {
      store = with_new_cell c.store (map_cell f0 cell);
      term = after_new (map_after f0 after) m.count (map_cell f0 cell);
      performed = ap (perform c t s2) (one f0 a0).0 ∙ ap (λ n. Acting ActKind.New n (with_new_cell c.store (map_cell f0 cell)) (after_new (map_after f0 after) n (map_cell f0 cell))) h.counted;
      stands = made_stands m c.store h r cell (map_cell f0 cell) none (λ f a. (is f a).0);
      later = made_later m.heap r (born_as m.count cell) none;
      reads = λ f a.
          let both = is f (made_later m.heap r (born_as m.count cell) none f a) in
          map_after_new f after r cell
          ∙ ap (λ n. after_new (map_after f after) n (map_cell f cell)) (a.cells r (born_as m.count cell) (with_ref_same m.heap r (Some (born_as m.count cell))))
          ∙ ap (λ z. after_new z m.count (map_cell f cell)) both.1
          ∙ ap (after_new (map_after f0 after) m.count) both.0;
    }
acts c t threads m en s s2 op op2 kind loc m2 focus h count ends one (Retakes o q guard x y _ left _ here there row) =
    left_done c t s2 op2 m h o x here kind left focus (λ f a.
    ap (perform c t s2) (one f a).0
    ∙ ap (λ l. again_row (ends_at c.store l) Waiting t (in_line t (line_of (cell_at c.store (f q)))) (f o) (f q) (map_term f guard) (cell_at c.store l)) (a.cells o x here)
    ∙ ap (λ l. again_row (ends_at c.store x.born) Waiting t (in_line t (line_of (cell_at c.store l))) (f o) (f q) (map_term f guard) (cell_at c.store x.born)) (a.cells q y there)
    ∙ ap (λ z. again_row (ends_at c.store x.born) Waiting t (in_line t (line_of z)) (f o) (f q) (map_term f guard) (cell_at c.store x.born)) (h.cells q y there f a)
    ∙ ap (λ l. again_row (ends_at c.store x.born) Waiting t (in_line t l) (f o) (f q) (map_term f guard) (cell_at c.store x.born)) (map_line_of f (Some y.cell))
    ∙ ap (again_row (ends_at c.store x.born) Waiting t (in_line t (line_of (Some y.cell))) (f o) (f q) (map_term f guard)) (h.cells o x here f a)
    ∙ sym (map_again f (outcome f c.store x.born) Ends (ends_at c.store x.born) Idle Waiting (λ k d u. refl) refl t (in_line t (line_of (Some y.cell))) o q guard (Some x.cell))
    ∙ ap (outcome f c.store x.born) row)
acts c t threads m en s s2 op op2 kind loc m2 focus h count ends one (Joins u b e is) =
    let f0 : Ref → ℕ = reading m 0 in
    let d = join_done c t s2 m h u e (ends b u e is) in
    record { store = d.store; term = d.term; performed = ap (perform c t s2) (one f0 (reading_agrees m c.store h 0)).0 ∙ d.performed; stands = d.stands; later = d.later; reads = d.reads }
acts c t threads m en s s2 op op2 kind loc m2 focus h count ends one (Exports x v) =
    let f0 : Ref → ℕ = reading m 0 in
    let a0 : Agrees f0 m.heap = reading_agrees m c.store h 0 in
    record {
      store = record c.store { names = export x (map_value f0 v) c.store.names };
      term = Const Okay;
      performed = ap (perform c t s2) (one f0 a0).0;
      stands = export_stands m c.store h x v (map_value f0 v) (λ f a. let p = (one f a).0 in let q = (one f0 a0).0 in cc (p, q));
      later = λ f a. a;
      reads = λ f a. refl;
    }
acts c t threads m en s s2 op op2 kind loc m2 focus h count ends one (Imports x engine _ _ row) =
    let f0 : Ref → ℕ = reading m 0 in
    let a0 : Agrees f0 m.heap = reading_agrees m c.store h 0 in
    let p : (f : Ref → ℕ) → Agrees f m.heap → perform c t s2 op2 ≡ Acting kind 0 c.store (map_term f focus) = λ f a.
    ap (perform c t s2) (one f a).0
    ∙ ap (λ ns. imported c.store engine (exported x ns)) (h.names f a)
    ∙ ap (imported c.store engine) (sym (map_exported f x m.names))
    ∙ sym (map_import f (outcome f c.store 0) Ends (ends_at c.store 0) Idle Waiting (λ k d u. refl) refl engine (exported x m.names))
    ∙ ap (outcome f c.store 0) row in
    record {
      store = c.store;
      term = map_term f0 focus;
      performed = p f0 a0;
      stands = h;
      later = λ f a. a;
      reads = λ f a. acting_term kind 0 c.store c.store (map_term f focus) (map_term f0 focus) (sym (p f a) ∙ p f0 a0);
    }
acts c t threads m en s s2 op op2 kind loc m2 focus h count ends one (TooMany v many) =
    let f0 : Ref → ℕ = reading m 0 in
    let a0 : Agrees f0 m.heap = reading_agrees m c.store h 0 in
    record {
      store = c.store;
      term = fork_limit;
      performed = ap (perform c t s2) (one f0 a0).0 ∙ ap (λ (b : Bool). if b then Acting ActKind.Fork THREAD_LIMIT c.store fork_limit else fork_more c (map_value f0 v)) (ap (nat_le THREAD_LIMIT) count ∙ many);
      stands = h;
      later = λ f a. a;
      reads = λ f a. refl;
    }
