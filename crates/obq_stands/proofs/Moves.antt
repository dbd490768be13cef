-- A thread is taken out of its place, something is done, and it is put into a place.
use Rattle.std.specs.Prelude.{List, Option, Some, None, ◌∷◌, ℕ, suc, length, slice_get, refl, ◌≡◌, ◌⊎◌}
use Rattle.std.proofs.Common.{inl, inr, ap, sym, ◌∙◌, subst}
use Rattle.obq_base.specs.declared.acts.Entry.{Entry}
use Rattle.obq_model.specs.Terms.{Term}
use Rattle.obq_model.specs.Store.{Store}
use Rattle.obq_model.specs.Step.{Self}
use Rattle.obq_model.specs.Config.{Execution, Running, ThreadState, Config}
use Rattle.obq_stands.specs.World.{with_at, at2, Ref, Heap, Memory, PendingCall, Slot, Suspended, Packet, Request, Reply, thread_of, Parked, Ending, World, without, start, settle, post, park, pend, with_memory, one_thread_more, note}
use Rattle.obq_stands.specs.Stands.{Agrees, MemoryStands, Link, Table, Chained, Place, Nowhere, Absent, At, InLine, WaitsAt, EndedAt, Carries, Ended, StandsAt, Fits, Placed, IsSomewhere, Stands}
use Rattle.obq_stands.specs.Events.{Takes, OffLine, OffHold}
use Rattle.obq_stands.proofs.Update.{same_or, with_at_same, with_at_other}
use Rattle.obq_model.proofs.Slices.{set_other, set_length, push_other, push_length, none_above}
use Rattle.obq_stands.proofs.Places.{IsFree, leave_running, leave_waiting, leave_line, enter_running, enter_waiting, enter_line, enter_ended, become_nowhere}
use Rattle.obq_stands.proofs.Turns.{state_of, changed, with_thread}

-- the World stands for c, but thread t is at no place
pub record Mid (turns : ℕ) (w : World) (c : Config) (t : ℕ) : Type 0 where
  pub place : ℕ → Place
  pub nowhere : place t ≡ Nowhere
  pub settled : (u : ℕ) → (u ≡ t → ⊥) → IsSomewhere (place u)
  pub counted : length c.threads ≡ w.threads
  pub memory : MemoryStands w.memory c.store
  pub threads : (u : ℕ) → (u ≡ t → ⊥) → StandsAt turns w.memory.heap w.pending u (slice_get c.threads u) (place u)
  pub placed : Placed w.running w.waiting w.ended w.lines place

-- ---- a thread's reading later

abbrev Safe : Table → Table → ℕ → Type 0
Safe p p2 t = (d : ℕ) (self : Self Ref) (a : Option PendingCall) (ls : List Link) → Chained p t d self a ls → Chained p2 t d self a ls

abbrev Later : Heap → Heap → Type 0
Later h h2 = (f : Ref → ℕ) → Agrees f h2 → Agrees f h

carries_later : (turns : ℕ) (h h2 : Heap) (p p2 : Table) (t : ℕ) (o : Option ThreadState) (a b : ℕ) (q : Packet) → Later h h2 → Safe p p2 t → Carries turns h p t o a b q → Carries turns h2 p2 t o a b q
carries_later turns h h2 p p2 t o a b (Request t2 k used depth self op) later safe r = (
  r.0,
  r.1,
  record {
    term = r.2.term;
    here = r.2.here;
    reads = record {
      link = r.2.reads.link;
      links = r.2.reads.links;
      chained = safe depth self (Some (record { site = a; number = k })) (r.2.reads.link ∷ r.2.reads.links) r.2.reads.chained;
      calls = r.2.reads.calls;
      asks = r.2.reads.asks;
      same = λ f g. r.2.reads.same f (later f g);
    };
  },
)
carries_later turns h h2 p p2 t o a b (Reply t2 k used outcome) later safe r = (
  r.0,
  record {
    term = r.1.term;
    here = r.1.here;
    reads = record {
      link = r.1.reads.link;
      links = r.1.reads.links;
      depth = r.1.reads.depth;
      self = r.1.reads.self;
      chained = safe r.1.reads.depth r.1.reads.self (Some (record { site = b; number = k })) (r.1.reads.link ∷ r.1.reads.links) r.1.reads.chained;
      calls = r.1.reads.calls;
      same = λ f g. r.1.reads.same f (later f g);
    };
  },
)

stands_later : (turns : ℕ) (h h2 : Heap) (p p2 : Table) (t : ℕ) (o : Option ThreadState) (y : Place) → Later h h2 → Safe p p2 t → StandsAt turns h p t o y → StandsAt turns h2 p2 t o y
stands_later turns h h2 p p2 t o Nowhere later safe r = tt
stands_later turns h h2 p p2 t o Absent later safe r = r
stands_later turns h h2 p p2 t o (At s slot) later safe r =
    record {
      term = r.term;
      here = r.here;
      reads = record { links = r.reads.links; chained = safe slot.segment.depth slot.segment.self slot.segment.answers r.reads.links r.reads.chained; calls = r.reads.calls; same = λ f g. r.reads.same f (later f g) };
    }
stands_later turns h h2 p p2 t o (InLine a b q) later safe r = carries_later turns h h2 p p2 t o a b q later safe r
stands_later turns h h2 p p2 t o (WaitsAt b x) later safe r = carries_later turns h h2 p p2 t o x.from b x.packet later safe r
stands_later turns h h2 p p2 t o (EndedAt s e) later safe r = record { execution = r.execution; used = r.used; here = r.here; same = λ f g. r.same f (later f g) }

-- ---- out

others : (turns : ℕ) (w : World) (c : Config) (s : Stands turns w c) (t u : ℕ) → (u ≡ t → ⊥) → StandsAt turns w.memory.heap w.pending u (slice_get c.threads u) (with_at s.place t Nowhere u)
others turns w c s t u ne = subst (StandsAt turns w.memory.heap w.pending u (slice_get c.threads u)) (sym (with_at_other s.place t Nowhere u ne)) (s.threads u)

somewhere : (turns : ℕ) (w : World) (c : Config) (s : Stands turns w c) (t u : ℕ) → (u ≡ t → ⊥) → IsSomewhere (with_at s.place t Nowhere u)
somewhere turns w c s t u ne = subst IsSomewhere (sym (with_at_other s.place t Nowhere u ne)) (s.settled u)

pub out_running : (turns : ℕ) (w : World) (c : Config) (s t : ℕ) (slot : Slot) → Stands turns w c → w.running s t ≡ Some slot → Mid turns (without w s t) c t × StandsAt turns w.memory.heap w.pending t (slice_get c.threads t) (At s slot)
out_running turns w c s t slot st is =
    let at : st.place t ≡ At s slot = st.placed.runs s t slot is in (
      record {
        place = with_at st.place t Nowhere;
        nowhere = with_at_same st.place t Nowhere;
        settled = somewhere turns w c st t;
        counted = st.counted;
        memory = st.memory;
        threads = others turns w c st t;
        placed = leave_running w.running w.waiting w.ended w.lines st.place s t slot st.placed at;
      },
      subst (StandsAt turns w.memory.heap w.pending t (slice_get c.threads t)) at (st.threads t),
    )

-- what is left where a packet of thread t was taken
pub record Taken (turns : ℕ) (w w1 : World) (c : Config) (t a b : ℕ) (p : Packet) : Type 0 where
  pub mid : Mid turns w1 c t
  pub carries : Carries turns w1.memory.heap w1.pending t (slice_get c.threads t) a b p
  pub memory : w1.memory ≡ w.memory
  pub threads : w1.threads ≡ w.threads
  pub ended : w1.ended ≡ w.ended
  pub pending : w1.pending ≡ w.pending
  pub running : w1.running ≡ w.running
  pub journal : w1.journal ≡ w.journal

pub out_packet : (turns : ℕ) (w : World) (c : Config) (a b : ℕ) (p : Packet) (w1 : World) → Stands turns w c → Takes w a b p w1 → Taken turns w w1 c (thread_of p) a b p
out_packet turns w c a b p w1 st (OffLine ps is) =
    let t : ℕ = thread_of p in
    let all : Fits st.place a b (p ∷ ps) = subst (Fits st.place a b) is (st.placed.fits a b) in
    record {
      mid = record {
        place = with_at st.place t Nowhere;
        nowhere = with_at_same st.place t Nowhere;
        settled = somewhere turns w c st t;
        counted = st.counted;
        memory = st.memory;
        threads = others turns w c st t;
        placed = leave_line w.running w.waiting w.ended w.lines st.place t a b p ps refl st.placed is;
      };
      carries = subst (StandsAt turns w.memory.heap w.pending t (slice_get c.threads t)) all.0 (st.threads t);
      memory = refl;
      threads = refl;
      ended = refl;
      pending = refl;
      running = refl;
      journal = refl;
    }
out_packet turns w c a b p w1 st (OffHold is) =
    let t : ℕ = thread_of p in
    let at : st.place t ≡ WaitsAt b (record { from = a; packet = p }) = st.placed.waits b t (record { from = a; packet = p }) is in
    record {
      mid = record {
        place = with_at st.place t Nowhere;
        nowhere = with_at_same st.place t Nowhere;
        settled = somewhere turns w c st t;
        counted = st.counted;
        memory = st.memory;
        threads = others turns w c st t;
        placed = leave_waiting w.running w.waiting w.ended w.lines st.place b t (record { from = a; packet = p }) st.placed at;
      };
      carries = subst (StandsAt turns w.memory.heap w.pending t (slice_get c.threads t)) at (st.threads t);
      memory = refl;
      threads = refl;
      ended = refl;
      pending = refl;
      running = refl;
      journal = refl;
    }

-- a thread that isn't there is in no table
absent_free : (turns : ℕ) (h : Heap) (p : Table) (t : ℕ) (o : Option ThreadState) (y : Place) → o ≡ None → IsSomewhere y → StandsAt turns h p t o y → IsFree y
absent_free turns h p t o Nowhere none some r = absurd some
absent_free turns h p t o Absent none some r = tt
absent_free turns h p t o (At s slot) none some r = absurd (let here = r.here in cc (none, here))
absent_free turns h p t o (InLine a b (Request t2 k used depth self op)) none some r = absurd (let here = r.2.here in cc (none, here))
absent_free turns h p t o (InLine a b (Reply t2 k used outcome)) none some r = absurd (let here = r.1.here in cc (none, here))
absent_free turns h p t o (WaitsAt b x) none some r = in_packet x.packet r
  where
    in_packet : (q : Packet) → Carries turns h p t o x.from b q → ⊥
    in_packet (Request t2 k used depth self op) q = let here = q.2.here in cc (none, here)
    in_packet (Reply t2 k used outcome) q = let here = q.1.here in cc (none, here)
absent_free turns h p t o (EndedAt s e) none some r = absurd (let here = r.here in cc (none, here))

-- a thread more, at no place yet
pub out_new : (turns : ℕ) (w : World) (c : Config) (u : Term ℕ) → Stands turns w c → Mid turns (one_thread_more w) (with_thread c u) w.threads
out_new turns w c u st =
    let n : ℕ = w.threads in
    let last : ThreadState = state_of (Running u) 0 in
    let none : slice_get c.threads n ≡ None = ap (slice_get c.threads) (sym st.counted) ∙ none_above c.threads in
    let free : IsFree (st.place n) = absent_free turns w.memory.heap w.pending n (slice_get c.threads n) (st.place n) none (st.settled n) (st.threads n) in
    record {
      place = with_at st.place n Nowhere;
      nowhere = with_at_same st.place n Nowhere;
      settled = somewhere turns w c st n;
      counted = push_length c.threads last ∙ ap suc st.counted;
      memory = st.memory;
      threads = λ v ne. subst (λ o. StandsAt turns w.memory.heap w.pending v o (with_at st.place n Nowhere v)) (sym (push_other c.threads last v (λ e. ne (e ∙ st.counted)))) (others turns w c st n v ne);
      placed = become_nowhere w.running w.waiting w.ended w.lines st.place n st.placed free;
    }

-- ---- in the middle

-- the store and thread t change
pub mid_changes : (turns : ℕ) (w : World) (c : Config) (t : ℕ) (m2 : Memory) (ex : Execution) (used : ℕ) (st2 : Store ℕ) → Mid turns w c t → MemoryStands m2 st2 → Later w.memory.heap m2.heap → Mid turns (with_memory w m2) (changed c t ex used st2) t
mid_changes turns w c t m2 ex used st2 m h later =
    record {
      place = m.place;
      nowhere = m.nowhere;
      settled = m.settled;
      counted = set_length c.threads t (state_of ex used) ∙ m.counted;
      memory = h;
      threads = λ u ne. subst (λ o. StandsAt turns m2.heap w.pending u o (m.place u)) (sym (set_other c.threads t (state_of ex used) u ne))
          (stands_later turns w.memory.heap m2.heap w.pending w.pending u (slice_get c.threads u) (m.place u) later (λ d z a ls k. k) (m.threads u ne));
      placed = m.placed;
    }

-- a pending call that is none of the others' changes
pub mid_pends : (turns : ℕ) (w : World) (c : Config) (t s k : ℕ) (x : Option Suspended) → Mid turns w c t → ((u : ℕ) → (u ≡ t → ⊥) → Safe w.pending (at2 w.pending s k x) u) → Mid turns (pend w s k x) c t
mid_pends turns w c t s k x m safe =
    record {
      place = m.place;
      nowhere = m.nowhere;
      settled = m.settled;
      counted = m.counted;
      memory = m.memory;
      threads = λ u ne. stands_later turns w.memory.heap w.memory.heap w.pending (at2 w.pending s k x) u (slice_get c.threads u) (m.place u) (λ f a. a) (safe u ne) (m.threads u ne);
      placed = m.placed;
    }

-- ---- in

all_threads : (turns : ℕ) (w : World) (c : Config) (t : ℕ) (m : Mid turns w c t) (x : Place) → StandsAt turns w.memory.heap w.pending t (slice_get c.threads t) x → (u : ℕ) → ((u ≡ t) ⊎ (u ≡ t → ⊥)) → StandsAt turns w.memory.heap w.pending u (slice_get c.threads u) (with_at m.place t x u)
all_threads turns w c t m x now u (inl e) =
    subst (λ v. StandsAt turns w.memory.heap w.pending v (slice_get c.threads v) (with_at m.place t x v)) (sym e) (subst (StandsAt turns w.memory.heap w.pending t (slice_get c.threads t)) (sym (with_at_same m.place t x)) now)
all_threads turns w c t m x now u (inr ne) = subst (StandsAt turns w.memory.heap w.pending u (slice_get c.threads u)) (sym (with_at_other m.place t x u ne)) (m.threads u ne)

all_settled : (turns : ℕ) (w : World) (c : Config) (t : ℕ) (m : Mid turns w c t) (x : Place) → IsSomewhere x → (u : ℕ) → ((u ≡ t) ⊎ (u ≡ t → ⊥)) → IsSomewhere (with_at m.place t x u)
all_settled turns w c t m x some u (inl e) = subst (λ v. IsSomewhere (with_at m.place t x v)) (sym e) (subst IsSomewhere (sym (with_at_same m.place t x)) some)
all_settled turns w c t m x some u (inr ne) = subst IsSomewhere (sym (with_at_other m.place t x u ne)) (m.settled u ne)

free : (turns : ℕ) (w : World) (c : Config) (t : ℕ) (m : Mid turns w c t) → IsFree (m.place t)
free turns w c t m = subst IsFree (sym m.nowhere) tt

pub in_running : (turns : ℕ) (w : World) (c : Config) (s t : ℕ) (slot : Slot) → Mid turns w c t → StandsAt turns w.memory.heap w.pending t (slice_get c.threads t) (At s slot) → Stands turns (start w s t slot) c
in_running turns w c s t slot m now =
    record {
      place = with_at m.place t (At s slot);
      settled = λ u. all_settled turns w c t m (At s slot) tt u (same_or u t);
      counted = m.counted;
      memory = m.memory;
      threads = λ u. all_threads turns w c t m (At s slot) now u (same_or u t);
      placed = enter_running w.running w.waiting w.ended w.lines m.place s t slot m.placed (free turns w c t m);
    }

pub in_ended : (turns : ℕ) (w : World) (c : Config) (s t : ℕ) (e : Ending) → Mid turns w c t → Ended w.memory.heap (slice_get c.threads t) e → Stands turns (settle w s t e) c
in_ended turns w c s t e m now =
    record {
      place = with_at m.place t (EndedAt s e);
      settled = λ u. all_settled turns w c t m (EndedAt s e) tt u (same_or u t);
      counted = m.counted;
      memory = m.memory;
      threads = λ u. all_threads turns w c t m (EndedAt s e) now u (same_or u t);
      placed = enter_ended w.running w.waiting w.ended w.lines m.place s t e m.placed (free turns w c t m);
    }

pub in_line : (turns : ℕ) (w : World) (c : Config) (t a b : ℕ) (p : Packet) → thread_of p ≡ t → Mid turns w c t → Carries turns w.memory.heap w.pending t (slice_get c.threads t) a b p → Stands turns (post w a b p) c
in_line turns w c t a b p of m now =
    record {
      place = with_at m.place t (InLine a b p);
      settled = λ u. all_settled turns w c t m (InLine a b p) tt u (same_or u t);
      counted = m.counted;
      memory = m.memory;
      threads = λ u. all_threads turns w c t m (InLine a b p) now u (same_or u t);
      placed = enter_line w.running w.waiting w.ended w.lines m.place t a b p of m.placed (free turns w c t m);
    }

pub in_waiting : (turns : ℕ) (w : World) (c : Config) (t b : ℕ) (x : Parked) → Mid turns w c t → Carries turns w.memory.heap w.pending t (slice_get c.threads t) x.from b x.packet → Stands turns (park w b t (Some x)) c
in_waiting turns w c t b x m now =
    record {
      place = with_at m.place t (WaitsAt b x);
      settled = λ u. all_settled turns w c t m (WaitsAt b x) tt u (same_or u t);
      counted = m.counted;
      memory = m.memory;
      threads = λ u. all_threads turns w c t m (WaitsAt b x) now u (same_or u t);
      placed = enter_waiting w.running w.waiting w.ended w.lines m.place b t x m.placed (free turns w c t m);
    }

-- the journal is no part of what the World stands for
pub noted : (turns : ℕ) (w : World) (c : Config) (e : Entry) → Stands turns w c → Stands turns (note w e) c
noted turns w c e s = record { place = s.place; settled = s.settled; counted = s.counted; memory = s.memory; threads = s.threads; placed = s.placed }

-- every ending that is kept is that of c
pub endings : (turns : ℕ) (w : World) (c : Config) → Stands turns w c → (b u : ℕ) (e : Ending) → w.ended b u ≡ Some e → Ended w.memory.heap (slice_get c.threads u) e
endings turns w c s b u e is = subst (StandsAt turns w.memory.heap w.pending u (slice_get c.threads u)) (s.placed.ends b u e is) (s.threads u)
