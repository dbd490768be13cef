-- An act of a thread, told of the one store, and what it does to watches.
use Rattle.std.specs.Prelude.{Bool, true, false, List, Option, Some, None, [], ◌∷◌, ◌++◌, ℕ, length, option_map, drop, slice_get, refl, ◌+◌, ◌<◌, ◌≡◌, if◌then◌else◌}
use Rattle.std.proofs.Common.{inl, inr, ap, sym, ◌∙◌, subst, eqb}
use Rattle.obq_base.specs.declared.acts.ActKind.{ActKind}
use Rattle.obq_model.specs.Terms.{Okay, Lined, Out, Term, Const, Form, Part, End}
use Rattle.obq_model.specs.Store.{Cell, ObjectCell, ArrayCell, VariableCell, WriterCell, ConditionCell, EngineCell, Store, same_loc}
use Rattle.obq_model.specs.Step.{Self, no_self, After, Operation, New, LineUp, GiveUp, Again, Signal, Broadcast, Frame, plug, Found, Needs, find, self_at}
use Rattle.obq_model.specs.Config.{Running, ThreadState, Config, act}
use Rattle.obq_model.specs.Cells.{line_row, owned_cell, again_row}
use Rattle.obq_model.specs.Effect.{Acting, perform, in_line, line_of}
use Rattle.obq_model.specs.Maps.{map_term, map_cell, map_after, map_self, map_operation}
use Rattle.obq_model.specs.Replay.{take_entry}
use Rattle.obq_laws.specs.Determinism.{entry_of}
use Rattle.obq_laws.specs.Keeping.{IsFormedConfig}
use Rattle.obq_laws.specs.Phases.{rests, IsAwake, IsAwakeState}
use Rattle.obq_laws.proofs.Phases.{lays, performed_awake, bare_new}
use Rattle.obq_stands.specs.World.{with_at, at2, Ref, Born, Heap, Memory, with_left, Ending, Idle, Ends}
use Rattle.obq_stands.specs.Stands.{Agrees, MemoryStands, Place, Nowhere, InLine, Ended, Does, OnCell, Retakes}
use Rattle.obq_stands.specs.Watch.{sleep_of, Sleeps, Asleep, Watch, LineFits, Watched, with_line_at, SameLines, KeepsLines, wake, post_one}
use Rattle.obq_stands.specs.Joined.{Wakened, WokeAll, WokeOne, IsApart, Beside, Apart, Notes, Frees, TakesHome, TakesNoted, SignalsNone, SignalsOne, SignalsAll}
use Rattle.obq_model.proofs.Slices.{get_below, set_same, set_other}
use Rattle.obq_stands.proofs.Update.{test_same, test_other, with_at_same, with_at_other}
use Rattle.obq_stands.proofs.Memory.{reading, reading_agrees}
use Rattle.obq_stands.proofs.Acts.{acts}
use Rattle.obq_stands.proofs.Turns.{state_of, changed, acted_entry}
use Rattle.obq_stands.proofs.SameLines.{unchanged, left_lines, act_keeps_lines}
use Rattle.obq_stands.proofs.Lining.{lines_up}
use Rattle.obq_stands.proofs.Signals.{signal_home, signal_away}
use Rattle.obq_stands.proofs.Sleeping.{map_sleep, running_one, lined_sleeps, out_sleeps}
use Rattle.obq_stands.proofs.Watches.{others_keep, gives_up, again_noted, again_home}
use Rattle.obq_stands.proofs.Asleep.{awake_keeps, gives_up_keeps, lines_up_keeps, signal_keeps}
use Rattle.obq_stands.proofs.Broadcasts.{place_one, Whole, Woken, NoneLeft, OneMore, agrees_on, all_woken}
use Rattle.obq_model.proofs.NaturalCells.{map_line_of}

abbrev pub states_of : Config → ℕ → Option ThreadState
states_of c u = slice_get c.threads u

-- thread t stands before this operation
pub record Stood (m : Memory) (c : Config) (t : ℕ) (op : Operation Ref) : Type 0 where
  pub term : Term ℕ
  pub used : ℕ
  pub op2 : Operation ℕ
  pub gs : List (Frame ℕ)
  pub here : slice_get c.threads t ≡ Some (state_of (Running term) used)
  pub found : find same_loc 0 no_self term ≡ Needs op2 gs
  pub one : (f : Ref → ℕ) → Agrees f m.heap → op2 ≡ map_operation f op

-- and does it, with this term at the focus behind it
pub record Turned (m : Memory) (c c2 : Config) (t : ℕ) (op : Operation Ref) (m2 : Memory) (x : Term Ref) : Type 0 where
  pub stood : Stood m c t op
  pub kind : ActKind
  pub loc : ℕ
  pub store : Store ℕ
  pub focus : Term ℕ
  pub performed : perform c t (self_at no_self stood.gs) stood.op2 ≡ Acting kind loc store focus
  pub after : slice_get c2.threads t ≡ Some (state_of (Running (plug stood.gs focus)) (stood.used + 1))
  pub reads : (f : Ref → ℕ) → Agrees f m2.heap → map_term f x ≡ focus
  pub later : (f : Ref → ℕ) → Agrees f m2.heap → Agrees f m.heap
  pub others : (u : ℕ) → (u ≡ t → ⊥) → slice_get c2.threads u ≡ slice_get c.threads u

some_config : (a b : Config) → Some a ≡ Some b → a ≡ b
some_config a b e = cc e

pub turned_by : (turns : ℕ) (c c2 : Config) (t threads : ℕ) (m : Memory) (en : ℕ → ℕ → Option Ending) (s : Self Ref) (op : Operation Ref) (kind : ActKind) (loc : ℕ) (m2 : Memory) (x : Term Ref) (d : Stood m c t op)
    → MemoryStands m c.store → length c.threads ≡ threads → ((b u : ℕ) (e : Ending) → en b u ≡ Some e → Ended m.heap (slice_get c.threads u) e)
    → ((f : Ref → ℕ) → Agrees f m.heap → (d.op2 ≡ map_operation f op) × (self_at no_self d.gs ≡ map_self f s)) → d.used < turns → Does m en threads t s op kind loc m2 x
    → take_entry turns c (entry_of t 0 (Some (act kind loc))) ≡ Some c2 → Turned m c c2 t op m2 x
turned_by turns c c2 t threads m en s op kind loc m2 x d st count ends one few does takes =
    let k = acts c t threads m en s (self_at no_self d.gs) op d.op2 kind loc m2 x st count ends one does in
    let taken = acted_entry turns c t d.used d.term d.op2 d.gs kind loc k.store k.term d.here few d.found k.performed in
    let same : changed c t (Running (plug d.gs k.term)) (d.used + 1) k.store ≡ c2 = some_config (changed c t (Running (plug d.gs k.term)) (d.used + 1) k.store) c2 (sym taken ∙ takes) in
    record {
      stood = d;
      kind = kind;
      loc = loc;
      store = k.store;
      focus = k.term;
      performed = k.performed;
      after = ap (λ (z : Config). slice_get z.threads t) (sym same) ∙ set_same c.threads t (state_of (Running (plug d.gs k.term)) (d.used + 1)) (get_below c.threads t (state_of (Running d.term) d.used) d.here);
      reads = k.reads;
      later = k.later;
      others = λ u ne. ap (λ (z : Config). slice_get z.threads u) (sym same) ∙ set_other c.threads t (state_of (Running (plug d.gs k.term)) (d.used + 1)) u ne;
    }

-- ---- asleep or awake, before and after

abbrev Pair : Type 0
Pair = ℕ × ℕ

rest_sleep : (op : Operation ℕ) (p : Pair) → rests op ≡ false → sleep_of op ≡ Some p → ⊥
rest_sleep (GiveUp o c guard) p r e = cc r
rest_sleep (Again o c guard) p r e = cc r
rest_sleep op p r e = cc e

pub not_asleep : (o : Option ThreadState) → IsAwakeState o → (a b : ℕ) → Sleeps o a b → ⊥
not_asleep o aw a b k =
    let now : IsAwakeState (Some (record { execution = Running k.term; used = k.used })) = subst IsAwakeState k.here aw in
    rest_sleep k.op (a, b) (now k.op k.frames k.found) k.is

one_op : (x : Found ℕ) (op op2 : Operation ℕ) (fs gs : List (Frame ℕ)) → x ≡ Needs op fs → x ≡ Needs op2 gs → op ≡ op2
one_op x op op2 fs gs e f = cc (e, f)

none_pair : (x : Option Pair) (p : Pair) → x ≡ None → x ≡ Some p → ⊥
none_pair x p e f = cc (e, f)

pub asleep_before : (m : Memory) (c : Config) (t : ℕ) (op : Operation Ref) (o q : Ref) → Stood m c t op → sleep_of op ≡ Some (o, q) → Asleep m.heap (slice_get c.threads t) o q
asleep_before m c t op o q d sleeps = λ f g. record {
  term = d.term;
  used = d.used;
  op = d.op2;
  frames = d.gs;
  here = d.here;
  found = d.found;
  is = ap sleep_of (d.one f g) ∙ map_sleep f op ∙ ap (option_map (λ (p : Ref × Ref). (f p.0, f p.1))) sleeps;
}

awake_before : (m : Memory) (c : Config) (t : ℕ) (op : Operation Ref) → MemoryStands m c.store → Stood m c t op → sleep_of op ≡ None → (a b : ℕ) → Sleeps (slice_get c.threads t) a b → ⊥
awake_before m c t op st d none a b k =
    let f : Ref → ℕ = reading m 0 in
    let g : Agrees f m.heap = reading_agrees m c.store st 0 in
    let terms : k.term ≡ d.term = running_one (slice_get c.threads t) k.term d.term k.used d.used k.here d.here in
    let ops : k.op ≡ d.op2 = one_op (find same_loc 0 no_self k.term) k.op d.op2 k.frames d.gs k.found (ap (find same_loc 0 no_self) terms ∙ d.found) in
    let gone : sleep_of d.op2 ≡ None = ap sleep_of (d.one f g) ∙ map_sleep f op ∙ ap (option_map (λ (p : Ref × Ref). (f p.0, f p.1))) none in
    let there : sleep_of d.op2 ≡ Some (a, b) = ap sleep_of (sym ops) ∙ k.is in
    none_pair (sleep_of d.op2) (a, b) gone there

awake_after : (m : Memory) (c c2 : Config) (t : ℕ) (op : Operation Ref) (m2 : Memory) (x : Term Ref) → MemoryStands m c.store → IsFormedConfig c → (k : Turned m c c2 t op m2 x) → ((f : Ref → ℕ) → lays (map_operation f op) ≡ false) → (a b : ℕ) → Sleeps (slice_get c2.threads t) a b → ⊥
awake_after m c c2 t op m2 x st formed k n =
    let f : Ref → ℕ = reading m 0 in
    let g : Agrees f m.heap = reading_agrees m c.store st 0 in
    let aw : IsAwake (Running (plug k.stood.gs k.focus)) = performed_awake c t k.stood.term k.stood.used k.stood.op2 k.stood.gs k.kind k.loc k.store k.focus formed k.stood.here k.stood.found k.performed (ap lays (k.stood.one f g) ∙ n f) in
    not_asleep (slice_get c2.threads t) (subst IsAwakeState (sym k.after) aw)

apart_lays : (op : Operation Ref) → IsApart op → (f : Ref → ℕ) → lays (map_operation f op) ≡ false
apart_lays (LineUp o c guard) h f = absurd h
apart_lays (GiveUp o c guard) h f = absurd h
apart_lays op h f = refl

apart_sleep : (op : Operation Ref) → IsApart op → sleep_of op ≡ None
apart_sleep (GiveUp o c guard) h = absurd h
apart_sleep (Again o c guard) h = absurd h
apart_sleep op h = refl

apart_keeps : (op : Operation Ref) → IsApart op → ((cell : Cell Ref) (after : After Ref) → op ≡ New cell after → line_of (Some cell) ≡ []) → KeepsLines op
apart_keeps (New cell after) h n = n cell after refl
apart_keeps (LineUp o c guard) h n = absurd h
apart_keeps (Signal c) h n = absurd h
apart_keeps (Broadcast c) h n = absurd h
apart_keeps op h n = tt

bare : (m : Memory) (c : Config) (t : ℕ) (op : Operation Ref) → MemoryStands m c.store → IsFormedConfig c → Stood m c t op → (cell : Cell Ref) (after : After Ref) → op ≡ New cell after → line_of (Some cell) ≡ []
bare m c t op st formed d cell after e =
    let f : Ref → ℕ = reading m 0 in
    let g : Agrees f m.heap = reading_agrees m c.store st 0 in
    let is : d.op2 ≡ New (map_cell f cell) (map_after f after) = d.one f g ∙ ap (map_operation f) e in
    sym (map_line_of f (Some cell)) ∙ bare_new c t d.term d.used (map_cell f cell) (map_after f after) d.gs formed d.here (d.found ∙ ap (λ (o : Operation ℕ). Needs o d.gs) is)

-- ---- rows on a condition

record OnLine (m : Memory) (q : Ref) (f : List ℕ → List ℕ) (u : Term Ref) (m2 : Memory) (x : Term Ref) : Type 0 where
  cell : Born
  here : m.heap q ≡ Some cell
  heap : m2.heap ≡ with_line_at m.heap q cell.born (f (line_of (Some cell.cell)))
  is : x ≡ u

idle_ends : (kind : ActKind) (left : Option (Cell Ref)) (x : Term Ref) → Idle ≡ Ends kind left x → ⊥
idle_ends kind left x e = cc e

ends_left : (kind kind2 : ActKind) (a b : Option (Cell Ref)) (x y : Term Ref) → Ends kind a x ≡ Ends kind2 b y → a ≡ b
ends_left kind kind2 a b x y e = cc e

ends_focus : (kind kind2 : ActKind) (a b : Option (Cell Ref)) (x y : Term Ref) → Ends kind a x ≡ Ends kind2 b y → x ≡ y
ends_focus kind kind2 a b x y e = cc e

line_inverse : (m : Memory) (q : Ref) (n : ℕ) (known : ActKind) (f : List ℕ → List ℕ) (u : Term Ref) (c : Cell Ref) (kind : ActKind) (left : Option (Cell Ref)) (x : Term Ref) → line_row Ends Idle known f u (Some c) ≡ Ends kind left x
    → ((with_left m q n left).heap ≡ with_line_at m.heap q n (f (line_of (Some c)))) × (x ≡ u)
line_inverse m q n known f u (ConditionCell line) kind left x e = (ap (λ (l : Option (Cell Ref)). (with_left m q n l).heap) (sym (ends_left known kind (Some (ConditionCell (f line))) left u x e)), sym (ends_focus known kind (Some (ConditionCell (f line))) left u x e))
line_inverse m q n known f u (ObjectCell flags owner fields) kind left x e = absurd (idle_ends kind left x e)
line_inverse m q n known f u (ArrayCell vs) kind left x e = absurd (idle_ends kind left x e)
line_inverse m q n known f u (VariableCell v) kind left x e = absurd (idle_ends kind left x e)
line_inverse m q n known f u (WriterCell b) kind left x e = absurd (idle_ends kind left x e)
line_inverse m q n known f u (EngineCell v) kind left x e = absurd (idle_ends kind left x e)

some_ref : (a b : Ref) → Some a ≡ Some b → a ≡ b
some_ref a b e = cc e

on_line : (m : Memory) (q r : Ref) (y : Born) (known : ActKind) (f : List ℕ → List ℕ) (u : Term Ref) (kind : ActKind) (left : Option (Cell Ref)) (x : Term Ref) → Some q ≡ Some r → m.heap r ≡ Some y → line_row Ends Idle known f u (Some y.cell) ≡ Ends kind left x → OnLine m q f u (with_left m r y.born left) x
on_line m q r y known f u kind left x at here row =
    let same : q ≡ r = some_ref q r at in
    let k = line_inverse m r y.born known f u y.cell kind left x row in
    record { cell = y; here = ap m.heap same ∙ here; heap = k.0 ∙ ap (λ z. with_line_at m.heap z y.born (f (line_of (Some y.cell)))) (sym same); is = k.1 }

lined_up : (m : Memory) (en : ℕ → ℕ → Option Ending) (n t : ℕ) (s : Self Ref) (o q : Ref) (guard : Term Ref) (kind : ActKind) (loc : ℕ) (m2 : Memory) (x : Term Ref) → Does m en n t s (LineUp o q guard) kind loc m2 x → OnLine m q (λ line. line ++ t ∷ []) (Form (Lined o q) (Part guard End)) m2 x
lined_up m en n t s o q guard kind loc m2 x (OnCell _ r y _ left _ at here row) = on_line m q r y ActKind.Line (λ line. line ++ t ∷ []) (Form (Lined o q) (Part guard End)) kind left x at here row

signalled : (m : Memory) (en : ℕ → ℕ → Option Ending) (n t : ℕ) (s : Self Ref) (q : Ref) (kind : ActKind) (loc : ℕ) (m2 : Memory) (x : Term Ref) → Does m en n t s (Signal q) kind loc m2 x → OnLine m q (drop 1) (Const Okay) m2 x
signalled m en n t s q kind loc m2 x (OnCell _ r y _ left _ at here row) = on_line m q r y ActKind.Signal (drop 1) (Const Okay) kind left x at here row

broadcast : (m : Memory) (en : ℕ → ℕ → Option Ending) (n t : ℕ) (s : Self Ref) (q : Ref) (kind : ActKind) (loc : ℕ) (m2 : Memory) (x : Term Ref) → Does m en n t s (Broadcast q) kind loc m2 x → OnLine m q (λ line. []) (Const Okay) m2 x
broadcast m en n t s q kind loc m2 x (OnCell _ r y _ left _ at here row) = on_line m q r y ActKind.Broadcast (λ line. []) (Const Okay) kind left x at here row

-- ---- a mutex that is taken again

record Retaken (m : Memory) (t : ℕ) (q : Ref) : Type 0 where
  cell : Born
  here : m.heap q ≡ Some cell
  out : in_line t (line_of (Some cell.cell)) ≡ false

not_lined : (t : ℕ) (lined : Bool) (o q : Ref) (guard : Term Ref) (c : Option (Cell Ref)) (kind : ActKind) (left : Option (Cell Ref)) (x : Term Ref) → again_row Ends Idle t lined o q guard c ≡ Ends kind left x → lined ≡ false
not_lined t true o q guard c kind left x e = absurd (idle_ends kind left x e)
not_lined t false o q guard c kind left x e = refl

retaken : (m : Memory) (en : ℕ → ℕ → Option Ending) (n t : ℕ) (s : Self Ref) (o q : Ref) (guard : Term Ref) (kind : ActKind) (loc : ℕ) (m2 : Memory) (x : Term Ref) → Does m en n t s (Again o q guard) kind loc m2 x → Retaken m t q
retaken m en n t s o q guard kind loc m2 x (Retakes _ _ _ a b _ left _ here there row) = record { cell = b; here = there; out = not_lined t (in_line t (line_of (Some b.cell))) o q guard (Some a.cell) kind left x row }
retaken m en n t s o q guard kind loc m2 x (OnCell _ r y _ left _ at here row) = absurd (cc at)

-- ---- wakes without places

pub record Placing (q : Ref) (line : List ℕ) (e : Watch) (pl : ℕ → Place) (e2 : Watch) : Type 0 where
  pub place : ℕ → Place
  pub woken : Woken q line e pl e2 place

placing : (q : Ref) (line : List ℕ) (e e2 : Watch) (pl : ℕ → Place) → Wakened q line e e2 → Placing q line e pl e2
placing q line e e2 pl (WokeAll _) = record { place = pl; woken = NoneLeft e pl }
placing q line e e2 pl (WokeOne u us o _ _ note more) =
    let k = placing q us (post_one q u o e) e2 (place_one q u o pl) more in
    record { place = k.place; woken = OneMore u us o e e2 pl k.place note k.woken }

-- ---- all that is kept beside an act

pub record After2 (h : Heap) (states : ℕ → Option ThreadState) (e : Watch) : Type 0 where
  pub place : ℕ → Place
  pub whole : Whole h states e place

-- the line of the condition stays, since it was empty
same_empty : (m m2 : Memory) (q : Ref) (y : Born) → m.heap q ≡ Some y → line_of (Some y.cell) ≡ [] → m2.heap ≡ with_line_at m.heap q y.born (drop 1 (line_of (Some y.cell))) → SameLines m.heap m2.heap
same_empty m m2 q y here empty is =
    subst (SameLines m.heap) (sym (is ∙ ap (λ l. with_line_at m.heap q y.born (drop 1 l)) empty))
    (left_lines m q y (Some (ConditionCell [])) ActKind.Signal (Const Okay) here (sym empty))

first_asleep : (h : Heap) (states : ℕ → Option ThreadState) (e : Watch) (pl : ℕ → Place) (q : Ref) (y : Born) (u : ℕ) (us : List ℕ) (o : Ref) → Watched h states e pl → h q ≡ Some y → line_of (Some y.cell) ≡ u ∷ us → e.notes q.site u ≡ Some o → Asleep h (states u) o q
first_asleep h states e pl q y u us o w here first note =
    let fits = subst (λ l. LineFits h states (e.notes q.site) q l) first (w.lines q y here) in
    subst (λ k. Asleep h (states u) k q) (some_ref fits.0 o (sym fits.1 ∙ note)) fits.2

pub act_whole : (c c2 : Config) (m : Memory) (en : ℕ → ℕ → Option Ending) (n t : ℕ) (s : Self Ref) (op : Operation Ref) (kind : ActKind) (loc : ℕ) (m2 : Memory) (x : Term Ref) (e e2 : Watch) (pl : ℕ → Place) → MemoryStands m c.store → IsFormedConfig c → Turned m c c2 t op m2 x
    → Does m en n t s op kind loc m2 x → Beside m.heap t op e e2 → Whole m.heap (states_of c) e pl → After2 m2.heap (states_of c2) e2
act_whole c c2 m en n t s op kind loc m2 x e e2 pl st formed k does (Apart _ _ apart) w =
    let f : Ref → ℕ = reading m 0 in
    let g : Agrees f m.heap = reading_agrees m c.store st 0 in
    let sl = act_keeps_lines m en n t s op kind loc m2 x (apart_keeps op apart (bare m c t op st formed k.stood)) does in
    record {
      place = pl;
      whole = record {
        watched = others_keep m.heap f g m2.heap (states_of c) (states_of c2) e pl t sl k.others (awake_before m c t op st k.stood (apart_sleep op apart)) w.watched;
        slept = awake_keeps m.heap m2.heap (states_of c) (states_of c2) pl pl t sl k.others (λ u ne. refl) (awake_after m c c2 t op m2 x st formed k (apart_lays op apart)) w.slept;
      };
    }
act_whole c c2 m en n t s op kind loc m2 x e e2 pl st formed k does (Notes o q guard _) w =
    let f : Ref → ℕ = reading m 0 in
    let g : Agrees f m.heap = reading_agrees m c.store st 0 in
    let l = lined_up m en n t s o q guard kind loc m2 x does in
    let asleep : Asleep m2.heap (states_of c2 t) o q = λ f g. subst (λ z. Sleeps z (f o) (f q)) (sym (k.after ∙ ap (λ v. Some (state_of (Running (plug k.stood.gs v)) (k.stood.used + 1))) (sym (k.reads f g) ∙ ap (map_term f) l.is))) (lined_sleeps k.stood.term k.stood.op2 k.stood.gs (k.stood.used + 1) (f o) (f q) (map_term f guard) k.stood.found) in
    record {
      place = pl;
      whole = record {
        watched = lines_up m.heap f g m2.heap (states_of c) (states_of c2) e pl t o q l.cell l.here l.heap k.later k.others (awake_before m c t op st k.stood refl) asleep w.watched;
        slept = lines_up_keeps m.heap m2.heap (states_of c) (states_of c2) pl t o q l.cell l.here l.heap k.later k.others asleep w.slept;
      };
    }
act_whole c c2 m en n t s op kind loc m2 x e e2 pl st formed k does (Frees o q guard _) w =
    let f : Ref → ℕ = reading m 0 in
    let g : Agrees f m.heap = reading_agrees m c.store st 0 in
    let sl = act_keeps_lines m en n t s op kind loc m2 x tt does in
    let is : x ≡ Form (Out o q) (Part guard End) = freed m en n t s o q guard kind loc m2 x does in
    let before : Asleep m.heap (states_of c t) o q = asleep_before m c t op o q k.stood refl in
    let asleep : Asleep m2.heap (states_of c2 t) o q = λ f g. subst (λ z. Sleeps z (f o) (f q)) (sym (k.after ∙ ap (λ v. Some (state_of (Running (plug k.stood.gs v)) (k.stood.used + 1))) (sym (k.reads f g) ∙ ap (map_term f) is))) (out_sleeps k.stood.term k.stood.op2 k.stood.gs (k.stood.used + 1) (f o) (f q) (map_term f guard) k.stood.found) in
    record {
      place = pl;
      whole = record {
        watched = gives_up m.heap f g m2.heap (states_of c) (states_of c2) e pl t o q sl k.others before asleep w.watched;
        slept = gives_up_keeps m.heap f g m2.heap (states_of c) (states_of c2) pl t o q sl k.others before asleep w.slept;
      };
    }
  where
    freed : (m : Memory) (en : ℕ → ℕ → Option Ending) (n t : ℕ) (s : Self Ref) (o q : Ref) (guard : Term Ref) (kind : ActKind) (loc : ℕ) (m2 : Memory) (x : Term Ref) → Does m en n t s (GiveUp o q guard) kind loc m2 x → x ≡ Form (Out o q) (Part guard End)
    freed m en n t s o q guard kind loc m2 x (OnCell _ r y _ left _ at here row) = sym (ends_focus ActKind.GiveUp kind (owned_cell None (Some y.cell)) left (Form (Out o q) (Part guard End)) x row)
act_whole c c2 m en n t s op kind loc m2 x e e2 pl st formed k does (TakesHome o q guard _ home) w =
    let f : Ref → ℕ = reading m 0 in
    let g : Agrees f m.heap = reading_agrees m c.store st 0 in
    let sl = act_keeps_lines m en n t s op kind loc m2 x tt does in
    let r = retaken m en n t s o q guard kind loc m2 x does in
    record {
      place = pl;
      whole = record {
        watched = again_home m.heap f g m2.heap (states_of c) (states_of c2) e pl t o q r.cell sl k.others (asleep_before m c t op o q k.stood refl) r.here r.out home w.watched;
        slept = awake_keeps m.heap m2.heap (states_of c) (states_of c2) pl pl t sl k.others (λ u ne. refl) (awake_after m c c2 t op m2 x st formed k (λ f. refl)) w.slept;
      };
    }
act_whole c c2 m en n t s op kind loc m2 x e e2 pl st formed k does (TakesNoted o q guard _ p noted) w =
    let f : Ref → ℕ = reading m 0 in
    let g : Agrees f m.heap = reading_agrees m c.store st 0 in
    let sl = act_keeps_lines m en n t s op kind loc m2 x tt does in
    let r = retaken m en n t s o q guard kind loc m2 x does in
    record {
      place = with_at pl t Nowhere;
      whole = record {
        watched = again_noted m.heap f g m2.heap (states_of c) (states_of c2) e pl t o.site p o q r.cell sl k.others (asleep_before m c t op o q k.stood refl) r.here r.out noted w.watched;
        slept = awake_keeps m.heap m2.heap (states_of c) (states_of c2) pl (with_at pl t Nowhere) t sl k.others (λ u ne. with_at_other pl t Nowhere u ne) (awake_after m c c2 t op m2 x st formed k (λ f. refl)) w.slept;
      };
    }
act_whole c c2 m en n t s op kind loc m2 x e e2 pl st formed k does (SignalsNone q _ y here empty) w =
    let f : Ref → ℕ = reading m 0 in
    let g : Agrees f m.heap = reading_agrees m c.store st 0 in
    let l = signalled m en n t s q kind loc m2 x does in
    let cells : y ≡ l.cell = born_one (m.heap q) y l.cell here l.here in
    let sl : SameLines m.heap m2.heap = same_empty m m2 q l.cell l.here (ap (λ (b : Born). line_of (Some b.cell)) (sym cells) ∙ empty) l.heap in
    record {
      place = pl;
      whole = record {
        watched = others_keep m.heap f g m2.heap (states_of c) (states_of c2) e pl t sl k.others (awake_before m c t op st k.stood refl) w.watched;
        slept = awake_keeps m.heap m2.heap (states_of c) (states_of c2) pl pl t sl k.others (λ u ne. refl) (awake_after m c c2 t op m2 x st formed k (λ f. refl)) w.slept;
      };
    }
  where
    born_one : (z : Option Born) (a b : Born) → z ≡ Some a → z ≡ Some b → a ≡ b
    born_one z a b e f = cc (e, f)
act_whole c c2 m en n t s op kind loc m2 x e e2 pl st formed k does (SignalsOne q _ y u us o here first note) w =
    let f : Ref → ℕ = reading m 0 in
    let g : Agrees f m.heap = reading_agrees m c.store st 0 in
    let l = signalled m en n t s q kind loc m2 x does in
    let cells : l.cell ≡ y = born_one (m.heap q) l.cell y l.here here in
    let heap : m2.heap ≡ with_line_at m.heap q y.born us = l.heap ∙ ap (λ (b : Born). with_line_at m.heap q b.born (drop 1 (line_of (Some b.cell)))) cells ∙ ap (λ z. with_line_at m.heap q y.born (drop 1 z)) first in
    by f g heap (first_asleep m.heap (states_of c) e pl q y u us o w.watched here first note) (awake_before m c t op st k.stood refl) (awake_after m c c2 t op m2 x st formed k (λ f. refl)) (eqb q.site o.site) refl
  where
    born_one : (z : Option Born) (a b : Born) → z ≡ Some a → z ≡ Some b → a ≡ b
    born_one z a b e f = cc (e, f)

    busy : (pl2 : ℕ → Place) → pl2 u ≡ InLine q.site o.site (wake u o) → pl2 u ≡ Nowhere → ⊥
    busy pl2 e k = cc (e, k)

    by : (f : Ref → ℕ) → Agrees f m.heap → m2.heap ≡ with_line_at m.heap q y.born us → Asleep m.heap (states_of c u) o q → ((a b : ℕ) → Sleeps (states_of c t) a b → ⊥) → ((a b : ℕ) → Sleeps (states_of c2 t) a b → ⊥) → (b : Bool) → eqb q.site o.site ≡ b
        → After2 m2.heap (states_of c2) (if b then e else record e { wakes = at2 e.wakes q.site o.site (e.wakes q.site o.site ++ wake u o ∷ []) })
    by f g heap asleep aw aw2 true same = record {
      place = pl;
      whole = record {
        watched = signal_home m.heap f g m2.heap (states_of c) (states_of c2) e pl t u us o q y here first heap k.later k.others aw note w.watched;
        slept = signal_keeps m.heap f g m2.heap (states_of c) (states_of c2) pl pl t u us o q y here first heap k.later k.others aw2 asleep (inl (test_same q.site o.site same)) (λ v ne. refl) w.slept;
      };
    }
    by f g heap asleep aw aw2 false same = record {
      place = with_at pl u (InLine q.site o.site (wake u o));
      whole = record {
        watched = signal_away m.heap f g m2.heap (states_of c) (states_of c2) e pl t u us o q y here first heap k.later k.others aw note (test_other q.site o.site same) w.watched;
        slept = signal_keeps m.heap f g m2.heap (states_of c) (states_of c2) pl (with_at pl u (InLine q.site o.site (wake u o))) t u us o q y here first heap k.later k.others aw2 asleep
            (inr (busy (with_at pl u (InLine q.site o.site (wake u o))) (with_at_same pl u (InLine q.site o.site (wake u o))))) (λ v ne. with_at_other pl u (InLine q.site o.site (wake u o)) v ne) w.slept;
      };
    }
act_whole c c2 m en n t s op kind loc m2 x e e2 pl st formed k does (SignalsAll q _ _ y line here is wakes) w =
    let f : Ref → ℕ = reading m 0 in
    let g : Agrees f m.heap = reading_agrees m c.store st 0 in
    let l = broadcast m en n t s q kind loc m2 x does in
    let cells : l.cell ≡ y = born_one (m.heap q) l.cell y l.here here in
    let heap : m2.heap ≡ with_line_at m.heap q y.born [] = l.heap ∙ ap (λ (b : Born). with_line_at m.heap q b.born []) cells in
    let p = placing q line e e2 pl wakes in
    let aw = awake_before m c t op st k.stood refl in
    let mid : Whole m2.heap (states_of c) e2 p.place = subst (λ h. Whole h (states_of c) e2 p.place) (sym heap) (all_woken q m.heap f g (states_of c) e e2 pl p.place t line y here is aw p.woken w) in
    record {
      place = p.place;
      whole = record {
        watched = others_keep m2.heap f (subst (Agrees f) (sym heap) (agrees_on m.heap f g q y [] here)) m2.heap (states_of c) (states_of c2) e2 p.place t (unchanged m2.heap) k.others aw mid.watched;
        slept = awake_keeps m2.heap m2.heap (states_of c) (states_of c2) p.place p.place t (unchanged m2.heap) k.others (λ u ne. refl) (awake_after m c c2 t op m2 x st formed k (λ f. refl)) mid.slept;
      };
    }
  where
    born_one : (z : Option Born) (a b : Born) → z ≡ Some a → z ≡ Some b → a ≡ b
    born_one z a b e f = cc (e, f)
