-- Each event keeps that the World stands for the replay of its journal.
use Rattle.std.specs.Prelude.{List, Option, Some, None, [], false, ◌∷◌, ◌++◌, ℕ, length, slice_get, refl, ◌+◌, ◌<◌, ◌≤◌, ◌≡◌, if◌then◌else◌, Bool, nat_le}
use Rattle.std.proofs.Common.{ap, sym, ◌∙◌, subst, arith}
use Rattle.obq_base.specs.declared.acts.ActKind.{ActKind}
use Rattle.obq_base.specs.declared.acts.Entry.{Entry}
use Rattle.obq_base.specs.Tree.{BlockTree}
use Rattle.obq_model.specs.Terms.{Exn, ExitUp, Value, Thread, Call, Term, Const, Form, Part, End}
use Rattle.obq_model.specs.Exceptions.{exit_outside, fork_limit}
use Rattle.obq_model.specs.Store.{same_loc}
use Rattle.obq_model.specs.Step.{Self, no_self, Operation, ForkOff, Frame, plug, Found, Next, Needs, Done, Uncaught, find, self_at}
use Rattle.obq_model.specs.Config.{Running, Returned, Failed, Config, act}
use Rattle.obq_model.specs.Effect.{Acting, Forking, perform}
use Rattle.obq_model.specs.Maps.{map_value, map_term, map_self, map_operation, map_frames, map_found}
use Rattle.obq_model.specs.Opening.{opening}
use Rattle.obq_model.specs.Replay.{after_pure, take_entry, replay_from}
use Rattle.obq_laws.specs.Determinism.{entry_of}
use Rattle.obq_model.proofs.Naturality.{map_plug, map_self_at}
use Rattle.obq_stands.specs.World.{Ref, same_ref, Memory, PendingCall, Slot, Ending, ByValue, ByException, World, without, start, settle, with_memory, one_thread_more, note}
use Rattle.obq_stands.specs.Stands.{Agrees, MemoryStands, Link, Table, Chained, around, Reads, At, StandsAt, Stands, StandsFor, Does, after_steps}
use Rattle.obq_stands.specs.Events.{with_window, moved, calling, ends_as}
use Rattle.obq_stands.proofs.Update.{at2_twice}
use Rattle.obq_model.proofs.Slices.{get_below, set_same, push_same}
use Rattle.obq_stands.proofs.Inside.{Base, needs_in, found_alone, steps_in}
use Rattle.obq_stands.proofs.Chains.{chained_base, bottom}
use Rattle.obq_stands.proofs.Memory.{reading, reading_agrees}
use Rattle.obq_stands.proofs.Acts.{acts, fork_more}
use Rattle.obq_stands.proofs.Turns.{state_of, changed, with_thread, steps_entry, acted_entry, ended_entry, raised_entry, forked_entry, then_entry, replay_one}
use Rattle.obq_stands.proofs.Moves.{Mid, out_running, out_new, mid_changes, in_running, in_ended, noted, endings}
use Rattle.obq_model.proofs.Plug.{self_append, plug_append}
use Rattle.obq_base.specs.declared.limits.TheConstants.{THREAD_LIMIT}

-- a legal entry, behind which the World stands for the configuration
pub record Took (turns : ℕ) (c : Config) (e : Entry) (w : World) : Type 0 where
  pub config : Config
  pub takes : take_entry turns c e ≡ Some config
  pub stands : Stands turns w config

-- thread t goes on with this term behind a change
pub goes_on : (c : Config) (t used used2 : ℕ) (u v : Term ℕ) (st : _) → slice_get c.threads t ≡ Some (state_of (Running u) used) → slice_get (changed c t (Running v) used2 st).threads t ≡ Some (state_of (Running v) used2)
goes_on c t used used2 u v st here = set_same c.threads t (state_of (Running v) used2) (get_below c.threads t (state_of (Running u) used) here)

-- ---- pure steps

pub record Stepped (m : Memory) (p : Table) (t n : ℕ) (before : Term ℕ) (x : Term Ref) (d : ℕ) (self : Self Ref) (an : Option PendingCall) : Type 0 where
  pub term : Term ℕ
  pub steps : after_pure n before ≡ Some term
  pub reads : Reads m.heap p t term x d self an

stepped : (m : Memory) (c : Config) → MemoryStands m c.store → (p : Table) (t n : ℕ) (before : Term ℕ) (y x : Term Ref) (d : ℕ) (self : Self Ref) (an : Option PendingCall) → Reads m.heap p t before y d self an → after_steps d self n y ≡ Some x → Stepped m p t n before x d self an
stepped m c st p t n before y x d self an r e =
    let f0 : Ref → ℕ = reading m 0 in
    let all : (f : Ref → ℕ) → Agrees f m.heap → after_pure n before ≡ Some (plug (around f r.links) (map_term f x)) = λ f g.
    ap (after_pure n) (r.same f g) ∙ steps_in f g.tells (around f r.links) d self (chained_base p t d self an r.links r.chained f) n y x e in
    let first : after_pure n before ≡ Some (plug (around f0 r.links) (map_term f0 x)) = all f0 (reading_agrees m c.store st 0) in
    record {
      term = plug (around f0 r.links) (map_term f0 x);
      steps = first;
      reads = record { links = r.links; chained = r.chained; calls = r.calls; same = λ f g. let other = all f g in cc (first, other) };
    }

restarted : (w : World) (s t : ℕ) (slot : Slot) → start (without w s t) s t slot ≡ start w s t slot
restarted w s t slot = ap (λ r. record w { running = r }) (at2_twice w.running s t None (Some slot))

pub steps_event : (turns : ℕ) (w : World) (c : Config) (s t n : ℕ) (slot : Slot) (u : Term Ref) → Stands turns w c → w.running s t ≡ Some slot → slot.used + n ≤ turns
    → after_steps slot.segment.depth slot.segment.self n slot.segment.window ≡ Some u → Took turns c (entry_of t n None) (start w s t (moved slot n u))
steps_event turns w c s t n slot u st is few e =
    let out = out_running turns w c s t slot st is in
    let goes = out.1 in
    let k = stepped w.memory c st.memory w.pending t n goes.term slot.segment.window u slot.segment.depth slot.segment.self slot.segment.answers goes.reads e in
    let c2 : Config = changed c t (Running k.term) (slot.used + n) c.store in
    let m : Mid turns (without w s t) c2 t = mid_changes turns (without w s t) c t w.memory (Running k.term) (slot.used + n) c.store out.0 st.memory (λ f g. g) in
    let now : StandsAt turns w.memory.heap w.pending t (slice_get c2.threads t) (At s (moved slot n u)) = record { term = k.term; here = goes_on c t slot.used (slot.used + n) goes.term k.term c.store goes.here; reads = k.reads } in
    record {
      config = c2;
      takes = steps_entry turns c t n slot.used goes.term k.term goes.here few k.steps;
      stands = subst (λ v. Stands turns v c2) (restarted w s t (moved slot n u)) (in_running turns (without w s t) c2 s t (moved slot n u) m now);
    }

-- ---- an operation at the focus of the innermost segment is that at the focus of the thread

pub record FoundIn (m : Memory) (u : Term ℕ) (links : List Link) (self : Self Ref) (op : Operation Ref) (hs : List (Frame Ref)) : Type 0 where
  pub op2 : Operation ℕ
  pub gs : List (Frame ℕ)
  pub found : find same_loc 0 no_self u ≡ Needs op2 gs
  pub one : (f : Ref → ℕ) → Agrees f m.heap → (op2 ≡ map_operation f op) × (self_at no_self gs ≡ map_self f (self_at self hs))
  pub frames : (f : Ref → ℕ) → Agrees f m.heap → gs ≡ around f links ++ map_frames f hs

pub found_op : (m : Memory) (c : Config) → MemoryStands m c.store → (p : Table) (t : ℕ) (u : Term ℕ) (y : Term Ref) (d : ℕ) (self : Self Ref) (an : Option PendingCall) (links : List Link) → Chained p t d self an links
    → ((f : Ref → ℕ) → Agrees f m.heap → u ≡ plug (around f links) (map_term f y)) → (op : Operation Ref) (hs : List (Frame Ref)) → find same_ref d self y ≡ Needs op hs → FoundIn m u links self op hs
found_op m c st p t u y d self an links chained same op hs e =
    let f0 : Ref → ℕ = reading m 0 in
    let a0 : Agrees f0 m.heap = reading_agrees m c.store st 0 in
    let base : (f : Ref → ℕ) → Base f (around f links) d self = chained_base p t d self an links chained in
    let all : (f : Ref → ℕ) → Agrees f m.heap → find same_loc 0 no_self u ≡ Needs (map_operation f op) (around f links ++ map_frames f hs) = λ f g.
    ap (find same_loc 0 no_self) (same f g) ∙ needs_in f g.tells (around f links) d self (base f) y op hs e in
    let first : find same_loc 0 no_self u ≡ Needs (map_operation f0 op) (around f0 links ++ map_frames f0 hs) = all f0 a0 in
    let frames : (f : Ref → ℕ) → Agrees f m.heap → around f0 links ++ map_frames f0 hs ≡ around f links ++ map_frames f hs = λ f g. let other = all f g in cc (first, other) in
    record {
      op2 = map_operation f0 op;
      gs = around f0 links ++ map_frames f0 hs;
      found = first;
      one = λ f g.
          let other = all f g in (
            cc (first, other),
            ap (self_at no_self) (frames f g) ∙ self_append no_self (around f links) (map_frames f hs) ∙ ap (λ z. self_at z (map_frames f hs)) (base f).self ∙ sym (map_self_at f self hs),
          );
      frames = frames;
    }

-- what the thread's term is behind an act
pub plugged_in : (h h2 : _) (links : List Link) (hs : List (Frame Ref)) (gs : List (Frame ℕ)) (x : Term Ref) (v : Term ℕ) → ((f : Ref → ℕ) → Agrees f h → gs ≡ around f links ++ map_frames f hs) → ((f : Ref → ℕ) → Agrees f h2 → Agrees f h)
    → ((f : Ref → ℕ) → Agrees f h2 → map_term f x ≡ v) → (f : Ref → ℕ) → Agrees f h2 → plug gs v ≡ plug (around f links ++ map_frames f hs) (map_term f x)
plugged_in h h2 links hs gs x v frames later reads f g = ap (λ l. plug l v) (frames f (later f g)) ∙ ap (plug (around f links ++ map_frames f hs)) (sym (reads f g))

pub inner : (f : Ref → ℕ) (links : List Link) (hs : List (Frame Ref)) (x : Term Ref) → plug (around f links ++ map_frames f hs) (map_term f x) ≡ plug (around f links) (map_term f (plug hs x))
inner f links hs x = plug_append (around f links) (map_frames f hs) (map_term f x) ∙ ap (plug (around f links)) (sym (map_plug f hs x))

-- ---- an act

pub act_event : (turns : ℕ) (w : World) (c : Config) (s t : ℕ) (slot : Slot) (op : Operation Ref) (hs : List (Frame Ref)) (kind : ActKind) (loc : ℕ) (m2 : Memory) (x : Term Ref) → Stands turns w c → w.running s t ≡ Some slot → slot.used < turns
    → find same_ref slot.segment.depth slot.segment.self slot.segment.window ≡ Needs op hs → Does w.memory w.ended w.threads t (self_at slot.segment.self hs) op kind loc m2 x
    → Took turns c (entry_of t 0 (Some (act kind loc))) (start (with_memory w m2) s t (moved slot 1 (plug hs x)))
act_event turns w c s t slot op hs kind loc m2 x st is few e does =
    let out = out_running turns w c s t slot st is in
    let goes = out.1 in
    let r = goes.reads in
    let k = found_op w.memory c st.memory w.pending t goes.term slot.segment.window slot.segment.depth slot.segment.self slot.segment.answers r.links r.chained r.same op hs e in
    let d = acts c t w.threads w.memory w.ended (self_at slot.segment.self hs) (self_at no_self k.gs) op k.op2 kind loc m2 x st.memory st.counted (endings turns w c st) k.one does in
    let v : Term ℕ = plug k.gs d.term in
    let c2 : Config = changed c t (Running v) (slot.used + 1) d.store in
    let m : Mid turns (with_memory (without w s t) m2) c2 t = mid_changes turns (without w s t) c t m2 (Running v) (slot.used + 1) d.store out.0 d.stands d.later in
    let now : StandsAt turns m2.heap w.pending t (slice_get c2.threads t) (At s (moved slot 1 (plug hs x))) = record {
      term = v;
      here = goes_on c t slot.used (slot.used + 1) goes.term v d.store goes.here;
      reads = record { links = r.links; chained = r.chained; calls = r.calls; same = λ f g. plugged_in w.memory.heap m2.heap r.links hs k.gs x d.term k.frames d.later d.reads f g ∙ inner f r.links hs x };
    } in
    record {
      config = c2;
      takes = acted_entry turns c t slot.used goes.term k.op2 k.gs kind loc d.store d.term goes.here few k.found d.performed;
      stands = subst (λ y. Stands turns y c2) (restarted (with_memory w m2) s t (moved slot 1 (plug hs x))) (in_running turns (with_memory (without w s t) m2) c2 s t (moved slot 1 (plug hs x)) m now);
    }

-- ---- a thread more

fork_performed : (c : Config) (t n : ℕ) (s : Self ℕ) (v : Value ℕ) → length c.threads ≡ n → nat_le THREAD_LIMIT n ≡ false → perform c t s (ForkOff v) ≡ Forking n (Form Call (Part (Const v) End)) (Const (Thread n))
fork_performed c t n s v count few =
    ap (λ (b : Bool). if b then Acting ActKind.Fork THREAD_LIMIT c.store fork_limit else fork_more c v) (ap (nat_le THREAD_LIMIT) count ∙ few)
    ∙ ap (λ k. Forking k (Form Call (Part (Const v) End)) (Const (Thread k))) count

pub fork_event : (turns : ℕ) (w : World) (c : Config) (s t : ℕ) (slot : Slot) (v : Value Ref) (hs : List (Frame Ref)) → Stands turns w c → w.running s t ≡ Some slot → slot.used < turns
    → find same_ref slot.segment.depth slot.segment.self slot.segment.window ≡ Needs (ForkOff v) hs → nat_le THREAD_LIMIT w.threads ≡ false
    → Took turns c (entry_of t 0 (Some (act ActKind.Fork w.threads))) (start (one_thread_more (start w s t (moved slot 1 (plug hs (Const (Thread w.threads)))))) s w.threads (calling v))
fork_event turns w c s t slot v hs st is few e room =
    let n : ℕ = w.threads in
    let out = out_running turns w c s t slot st is in
    let goes = out.1 in
    let r = goes.reads in
    let f0 : Ref → ℕ = reading w.memory 0 in
    let a0 : Agrees f0 w.memory.heap = reading_agrees w.memory c.store st.memory 0 in
    let k = found_op w.memory c st.memory w.pending t goes.term slot.segment.window slot.segment.depth slot.segment.self slot.segment.answers r.links r.chained r.same (ForkOff v) hs e in
    let x : Term ℕ = plug k.gs (Const (Thread n)) in
    let c1 : Config = changed c t (Running x) (slot.used + 1) c.store in
    let w1 : World = start w s t (moved slot 1 (plug hs (Const (Thread n)))) in
    let m : Mid turns (without w s t) c1 t = mid_changes turns (without w s t) c t w.memory (Running x) (slot.used + 1) c.store out.0 st.memory (λ f g. g) in
    let now : StandsAt turns w.memory.heap w.pending t (slice_get c1.threads t) (At s (moved slot 1 (plug hs (Const (Thread n))))) = record {
      term = x;
      here = goes_on c t slot.used (slot.used + 1) goes.term x c.store goes.here;
      reads = record { links = r.links; chained = r.chained; calls = r.calls; same = λ f g. plugged_in w.memory.heap w.memory.heap r.links hs k.gs (Const (Thread n)) (Const (Thread n)) k.frames (λ f g. g) (λ f g. refl) f g ∙ inner f r.links hs (Const (Thread n)) };
    } in
    let st1 : Stands turns w1 c1 = subst (λ y. Stands turns y c1) (restarted w s t (moved slot 1 (plug hs (Const (Thread n))))) (in_running turns (without w s t) c1 s t (moved slot 1 (plug hs (Const (Thread n)))) m now) in
    let new : Term ℕ = Form Call (Part (Const (map_value f0 v)) End) in
    let c2 : Config = with_thread c1 new in
    let last : StandsAt turns w.memory.heap w.pending n (slice_get c2.threads n) (At s (calling v)) = record {
      term = new;
      here = ap (slice_get c2.threads) (sym st1.counted) ∙ push_same c1.threads (state_of (Running new) 0);
      reads = record { links = []; chained = (refl, refl); calls = tt; same = λ f g. let p = (k.one f g).0 in let q = (k.one f0 a0).0 in let same : map_value f0 v ≡ map_value f v = cc (p, q) in ap (λ (z : Value ℕ). Form Call (Part (Const z) End)) same };
    } in
    record {
      config = c2;
      takes = forked_entry turns c t slot.used goes.term k.op2 k.gs n new (Const (Thread n)) goes.here few k.found (ap (perform c t (self_at no_self k.gs)) (k.one f0 a0).0 ∙ fork_performed c t n (self_at no_self k.gs) (map_value f0 v) st.counted room);
      stands = in_running turns (one_thread_more w1) c2 s n (calling v) (out_new turns w1 c1 new st1) last;
    }

-- ---- the end of a thread

-- what stands next in the only segment of a thread
found_at_bottom : (m : Memory) (p : Table) (t : ℕ) (u : Term ℕ) (x : Term Ref) (d : ℕ) (self : Self Ref) (an : Option PendingCall) → Reads m.heap p t u x d self an → an ≡ None → (f : Ref → ℕ) → Agrees f m.heap
    → find same_loc 0 no_self u ≡ map_found f (find same_ref d self x)
found_at_bottom m p t u x d self an r none f g =
    let b = bottom p t d self an r.links none r.chained in
    ap (find same_loc 0 no_self) (r.same f g ∙ ap (λ ls. plug (around f ls) (map_term f x)) b.0)
    ∙ found_alone f g.tells x
    ∙ ap (λ z. map_found f (find same_ref 0 z x)) (sym b.2)
    ∙ ap (λ n. map_found f (find same_ref n self x)) (sym b.1)

ended_by : (turns : ℕ) (w : World) (c : Config) (s t : ℕ) (slot : Slot) (u : Term ℕ) → MemoryStands w.memory c.store → Mid turns (without w s t) c t → slice_get c.threads t ≡ Some (state_of (Running u) slot.used) → slot.used < turns
    → (x : Found Ref) → ((f : Ref → ℕ) → Agrees f w.memory.heap → find same_loc 0 no_self u ≡ map_found f x) → (e : Ending) → ends_as x ≡ Some e → Took turns c (entry_of t 0 (Some (act ActKind.End t))) (settle (without w s t) s t e)
ended_by turns w c s t slot u st m here few (Next y) all e is = absurd (cc is)
ended_by turns w c s t slot u st m here few (Needs op fs) all e is = absurd (cc is)
ended_by turns w c s t slot u st m here few (Done v) all e is =
    let f0 : Ref → ℕ = reading w.memory 0 in
    let first : find same_loc 0 no_self u ≡ Done (map_value f0 v) = all f0 (reading_agrees w.memory c.store st 0) in
    let c2 : Config = changed c t (Returned (map_value f0 v)) (slot.used + 1) c.store in
    let same : ByValue v ≡ e = cc is in
    record {
      config = c2;
      takes = ended_entry turns c t slot.used u (map_value f0 v) here few first;
      stands = subst (λ k. Stands turns (settle (without w s t) s t k) c2) same (in_ended turns (without w s t) c2 s t (ByValue v) (mid_changes turns (without w s t) c t w.memory (Returned (map_value f0 v)) (slot.used + 1) c.store m st (λ f g. g)) (record {
        execution = Returned (map_value f0 v);
        used = slot.used + 1;
        here = set_same c.threads t (state_of (Returned (map_value f0 v)) (slot.used + 1)) (get_below c.threads t (state_of (Running u) slot.used) here);
        same = λ f g. let other = all f g in let k : map_value f0 v ≡ map_value f v = cc (first, other) in ap Returned k;
      }));
    }
ended_by turns w c s t slot u st m here few (Uncaught (Exn x)) all e is =
    let c2 : Config = changed c t (Failed x) (slot.used + 1) c.store in
    let same : ByException x ≡ e = cc is in
    record {
      config = c2;
      takes = raised_entry turns c t slot.used u (Exn x) here few (all (reading w.memory 0) (reading_agrees w.memory c.store st 0));
      stands = subst (λ k. Stands turns (settle (without w s t) s t k) c2) same (in_ended turns (without w s t) c2 s t (ByException x) (mid_changes turns (without w s t) c t w.memory (Failed x) (slot.used + 1) c.store m st (λ f g. g)) (record {
        execution = Failed x;
        used = slot.used + 1;
        here = set_same c.threads t (state_of (Failed x) (slot.used + 1)) (get_below c.threads t (state_of (Running u) slot.used) here);
        same = λ f g. refl;
      }));
    }
ended_by turns w c s t slot u st m here few (Uncaught ExitUp) all e is =
    let c2 : Config = changed c t (Failed exit_outside) (slot.used + 1) c.store in
    let same : ByException exit_outside ≡ e = cc is in
    record {
      config = c2;
      takes = raised_entry turns c t slot.used u ExitUp here few (all (reading w.memory 0) (reading_agrees w.memory c.store st 0));
      stands = subst (λ k. Stands turns (settle (without w s t) s t k) c2) same (in_ended turns (without w s t) c2 s t (ByException exit_outside) (mid_changes turns (without w s t) c t w.memory (Failed exit_outside) (slot.used + 1) c.store m st (λ f g. g)) (record {
        execution = Failed exit_outside;
        used = slot.used + 1;
        here = set_same c.threads t (state_of (Failed exit_outside) (slot.used + 1)) (get_below c.threads t (state_of (Running u) slot.used) here);
        same = λ f g. refl;
      }));
    }

pub end_event : (turns : ℕ) (w : World) (c : Config) (s t : ℕ) (slot : Slot) (e : Ending) → Stands turns w c → w.running s t ≡ Some slot → slot.segment.answers ≡ None → slot.used < turns
    → ends_as (find same_ref slot.segment.depth slot.segment.self slot.segment.window) ≡ Some e → Took turns c (entry_of t 0 (Some (act ActKind.End t))) (settle (without w s t) s t e)
end_event turns w c s t slot e st is none few ends =
    let out = out_running turns w c s t slot st is in
    let goes = out.1 in
    ended_by turns w c s t slot goes.term st.memory out.0 goes.here few (find same_ref slot.segment.depth slot.segment.self slot.segment.window)
    (found_at_bottom w.memory w.pending t goes.term slot.segment.window slot.segment.depth slot.segment.self slot.segment.answers goes.reads none) e ends

-- ---- steps and an act in one entry

pub started_twice : (w : World) (s t : ℕ) (a b : Slot) → start (start w s t a) s t b ≡ start w s t b
started_twice w s t a b = ap (λ r. record w { running = r }) (at2_twice w.running s t (Some a) (Some b))

pub gone_twice : (w : World) (s t : ℕ) (a : Slot) (e : Ending) → settle (without (start w s t a) s t) s t e ≡ settle (without w s t) s t e
gone_twice w s t a e = ap (λ r. record (settle w s t e) { running = r }) (at2_twice w.running s t (Some a) None)

pub plus : (u n : ℕ) → u + n + 1 ≡ u + (n + 1)
plus u n = omega arith

pub moved_on : (slot : Slot) (n : ℕ) (u x : Term Ref) → moved (moved slot n u) 1 x ≡ moved slot (n + 1) x
moved_on slot n u x = ap (λ k. record { segment = with_window slot.segment x; used = k }) (plus slot.used n)

pub less_is : (u n turns : ℕ) → u + n < turns → u + n ≤ turns
less_is u n turns l = omega arith

-- a legal entry is noted
pub kept_by : (trees : List BlockTree) (turns : ℕ) (w : World) (e : Entry) (x : World) (inv : StandsFor trees turns w) → x.journal ≡ w.journal → Took turns inv.config e x → StandsFor trees turns (note x e)
kept_by trees turns w e x inv j k =
    record {
      config = k.config;
      replays = ap (λ (es : List Entry). replay_from turns (opening trees) (es ++ e ∷ [])) j ∙ replay_one turns (opening trees) w.journal inv.config e inv.replays ∙ k.takes;
      stands = noted turns x k.config e k.stands;
    }

pub both : (turns : ℕ) (c : Config) (t n : ℕ) (w1 x y : World) (ac : _) (k : Took turns c (entry_of t n None) w1) → Took turns k.config (entry_of t 0 (Some ac)) x → x ≡ y → Took turns c (entry_of t n (Some ac)) y
both turns c t n w1 x y ac k l e = record { config = l.config; takes = then_entry turns c k.config l.config t n (Some ac) k.takes l.takes; stands = subst (λ z. Stands turns z l.config) e l.stands }
