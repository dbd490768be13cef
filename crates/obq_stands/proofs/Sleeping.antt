-- Which threads sleep in a watch: a thread in phase Lined or Out, for one object at one condition.
use Rattle.std.specs.Prelude.{List, Option, Some, None, [], ◌∷◌, ◌++◌, ℕ, option_map, slice_get, refl, ◌≡◌}
use Rattle.std.proofs.Common.{ap, sym, ◌∙◌}
use Rattle.obq_model.specs.Terms.{Lined, Out, Term, Form, Part, End}
use Rattle.obq_model.specs.Store.{same_loc}
use Rattle.obq_model.specs.Step.{no_self, Operation, GiveUp, Again, Frame, plug, Found, Needs, find}
use Rattle.obq_model.specs.Config.{Running, Returned, Failed, ThreadState, Config}
use Rattle.obq_model.specs.Maps.{map_operation}
use Rattle.obq_model.specs.Frames.{lifted, lifted_all}
use Rattle.obq_model.proofs.Plug.{find_plug}
use Rattle.obq_stands.specs.World.{Ref, same_ref, Heap, Slot, World}
use Rattle.obq_stands.specs.Stands.{Agrees, Stands}
use Rattle.obq_stands.specs.Watch.{sleep_of, Sleeps, Asleep}
use Rattle.obq_stands.proofs.Update.{test_refl}
use Rattle.obq_stands.proofs.Refs.{ref_same}
use Rattle.obq_model.proofs.Found.{needs_frames}
use Rattle.obq_stands.proofs.Moves.{out_running}
use Rattle.obq_stands.proofs.Events.{found_op}

pub map_sleep : {R S : Type 0} (f : R → S) (op : Operation R) → sleep_of (map_operation f op) ≡ option_map (λ p. (f p.0, f p.1)) (sleep_of op)
map_sleep f (GiveUp o q guard) = refl
map_sleep f (Again p q guard) = refl
map_sleep f op = refl

abbrev term_in : Term ℕ → Option ThreadState → Term ℕ
term_in d None = d
term_in d (Some state) = elim state.execution [ Running u ↦ u | Returned v ↦ d | Failed e ↦ d ]

pub running_one : (s : Option ThreadState) (u v : Term ℕ) (a b : ℕ) → s ≡ Some (record { execution = Running u; used = a }) → s ≡ Some (record { execution = Running v; used = b }) → u ≡ v
running_one s u v a b e f = ap (term_in u) (sym e ∙ f)

pub needs_one : (x : Found ℕ) (op op2 : Operation ℕ) (fs gs : List (Frame ℕ)) → x ≡ Needs op fs → x ≡ Needs op2 gs → op ≡ op2
needs_one x op op2 fs gs e f = cc (e, f)

pub some_one : (a b : ℕ) → Some a ≡ Some b → a ≡ b
some_one a b e = cc e

abbrev Pair : Type 0
Pair = ℕ × ℕ

pair_one : (p r : Pair) → Some p ≡ Some r → (p.0 ≡ r.0) × (p.1 ≡ r.1)
pair_one p r e = (some_one p.0 r.0 (ap (option_map (λ (x : Pair). x.0)) e), some_one p.1 r.1 (ap (option_map (λ (x : Pair). x.1)) e))

-- a thread is in one phase
pub one_phase : (state : Option ThreadState) (o q o2 q2 : ℕ) → Sleeps state o q → Sleeps state o2 q2 → (o ≡ o2) × (q ≡ q2)
one_phase state o q o2 q2 a b =
    let terms : a.term ≡ b.term = running_one state a.term b.term a.used b.used a.here b.here in
    let ops : a.op ≡ b.op = needs_one (find same_loc 0 no_self b.term) a.op b.op a.frames b.frames (ap (find same_loc 0 no_self) (sym terms) ∙ a.found) b.found in
    pair_one (o, q) (o2, q2) (sym a.is ∙ ap sleep_of ops ∙ b.is)

refs_by : (f : Ref → ℕ) (h : Heap) → Agrees f h → (a b : Ref) → f a ≡ f b → a ≡ b
refs_by f h g a b e = ref_same a b (sym (g.tells a b) ∙ ap (λ n. same_loc (f a) n) (sym e) ∙ test_refl (f a))

pub one_watch : (h : Heap) (f : Ref → ℕ) → Agrees f h → (state : Option ThreadState) (o q o2 q2 : Ref) → Asleep h state o q → Asleep h state o2 q2 → (o ≡ o2) × (q ≡ q2)
one_watch h f g state o q o2 q2 a b =
    let e = one_phase state (f o) (f q) (f o2) (f q2) (a f g) (b f g) in
    (refs_by f h g o o2 e.0, refs_by f h g q q2 e.1)

-- the phase of a segment that runs
pub phase_of : (turns : ℕ) (w : World) (c : Config) (s t : ℕ) (slot : Slot) (op : Operation Ref) (hs : List (Frame Ref)) (o q : Ref) → Stands turns w c → w.running s t ≡ Some slot
    → find same_ref slot.segment.depth slot.segment.self slot.segment.window ≡ Needs op hs → sleep_of op ≡ Some (o, q) → Asleep w.memory.heap (slice_get c.threads t) o q
phase_of turns w c s t slot op hs o q st is e sleeps =
    let goes = (out_running turns w c s t slot st is).1 in
    let k = found_op w.memory c st.memory w.pending t goes.term slot.segment.window slot.segment.depth slot.segment.self slot.segment.answers goes.reads.links goes.reads.chained goes.reads.same op hs e in
    λ f g. record {
      term = goes.term;
      used = slot.used;
      op = k.op2;
      frames = k.gs;
      here = goes.here;
      found = k.found;
      is = ap sleep_of (k.one f g).0 ∙ map_sleep f op ∙ ap (option_map (λ (p : Ref × Ref). (f p.0, f p.1))) sleeps;
    }

lifted_asks : (gs : List (Frame ℕ)) (op : Operation ℕ) (fs : List (Frame ℕ)) → lifted_all gs (Needs op fs) ≡ Needs op (gs ++ fs)
lifted_asks [] op fs = refl
lifted_asks (g ∷ gs) op fs = ap (lifted g) (lifted_asks gs op fs)

-- behind a Line the thread is in phase Lined, and behind a GiveUp in phase Out
pub lined_sleeps : (u : Term ℕ) (op : Operation ℕ) (gs : List (Frame ℕ)) (used o q : ℕ) (g : Term ℕ) → find same_loc 0 no_self u ≡ Needs op gs → Sleeps (Some (record { execution = Running (plug gs (Form (Lined o q) (Part g End))); used = used })) o q
lined_sleeps u op gs used o q g e =
    record {
      term = plug gs (Form (Lined o q) (Part g End));
      used = used;
      op = GiveUp o q g;
      frames = gs ++ [];
      here = refl;
      found = find_plug same_loc 0 no_self gs (Form (Lined o q) (Part g End)) (needs_frames same_loc 0 no_self u op gs e).0 tt ∙ lifted_asks gs (GiveUp o q g) [];
      is = refl;
    }

pub out_sleeps : (u : Term ℕ) (op : Operation ℕ) (gs : List (Frame ℕ)) (used o q : ℕ) (g : Term ℕ) → find same_loc 0 no_self u ≡ Needs op gs → Sleeps (Some (record { execution = Running (plug gs (Form (Out o q) (Part g End))); used = used })) o q
out_sleeps u op gs used o q g e =
    record {
      term = plug gs (Form (Out o q) (Part g End));
      used = used;
      op = Again o q g;
      frames = gs ++ [];
      here = refl;
      found = find_plug same_loc 0 no_self gs (Form (Out o q) (Part g End)) (needs_frames same_loc 0 no_self u op gs e).0 tt ∙ lifted_asks gs (Again o q g) [];
      is = refl;
    }
