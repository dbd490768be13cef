-- The events of a World with its watches keep that it stands, and what its notes and wakes are.
use Rattle.std.specs.Prelude.{Bool, true, false, List, Option, Some, None, [], ◌∷◌, ◌++◌, ℕ, zero, suc, length, slice_get, refl, ◌+◌, ◌<◌, ◌≤◌, ◌≡◌, ◌⊎◌}
use Rattle.std.proofs.Common.{inl, inr, ap, sym, ◌∙◌, subst, arith}
use Rattle.obq_base.specs.declared.acts.ActKind.{ActKind}
use Rattle.obq_base.specs.declared.acts.Act.{Act}
use Rattle.obq_base.specs.declared.acts.Entry.{Entry}
use Rattle.obq_base.specs.Tree.{BlockTree}
use Rattle.obq_model.specs.Terms.{Value, Thread, Call, Term, Const, Form, Part, End}
use Rattle.obq_model.specs.Step.{Self, no_self, Operation, LineUp, GiveUp, Again, Signal, Broadcast, Frame, plug, Needs, find, self_at}
use Rattle.obq_model.specs.Forms.{marks_of}
use Rattle.obq_model.specs.Config.{Running, ThreadState, Config, act}
use Rattle.obq_model.specs.Cells.{again_row}
use Rattle.obq_model.specs.Maps.{map_value, map_self}
use Rattle.obq_model.specs.Opening.{opening}
use Rattle.obq_model.specs.Replay.{replay_from, take_entry}
use Rattle.obq_laws.specs.Determinism.{entry_of}
use Rattle.obq_laws.specs.Keeping.{AllInside, IsFormedConfig, IsFormedIf}
use Rattle.obq_laws.specs.Phases.{IsAwake, IsAwakeState, Stirs, Rouses, makes}
use Rattle.obq_laws.proofs.Determinism.{cut_entry}
use Rattle.obq_laws.proofs.Formed.{formed_replay}
use Rattle.obq_laws.proofs.Phases.{phase_entry, rouse_law, others_law, awake_state_of}
use Rattle.obq_stands.specs.World.{with_at, at2, Ref, same_ref, Heap, Memory, Slot, wire, result_of, result_term, MayAsk, Request, Reply, thread_of, Parked, Ending, World, start, note, Idle, Ends}
use Rattle.obq_stands.specs.Stands.{Agrees, MemoryStands, Link, Place, Nowhere, WaitsAt, around, Does, Retakes, Stands, StandsFor, after_steps}
use Rattle.obq_stands.specs.Events.{moved, calling, Takes, Step, Steps, Acted, Forks, Finishes, Asks, Serves, Enters, Holds, Returns, Resumes}
use Rattle.obq_stands.specs.AtSites.{IsDoneAt, IsSited}
use Rattle.obq_stands.specs.Counts.{Tally, tally_of}
use Rattle.obq_stands.specs.WatchRuns.{IsDoneBeside, IsSitedBeside, tally_beside}
use Rattle.obq_stands.specs.Watch.{sleep_of, Sleeps, Asleep, Watch, Owed, Watched}
use Rattle.obq_stands.specs.Joined.{WatchStep, IsApart, Beside, Apart, Notes, Frees, TakesHome, TakesNoted, SignalsNone, SignalsOne, SignalsAll, DoesBeside, ByStore, ByWake, HasNoAct, Plain, ActedBeside, ServesBeside, EntersBeside, Delivers, WatchStands, WatchStepKeeps, WatchStepIs}
use Rattle.obq_model.proofs.Slices.{get_below, set_own}
use Rattle.obq_stands.proofs.Update.{same_or, at2_same, with_at_same, with_at_other}
use Rattle.obq_stands.proofs.Chains.{bottom}
use Rattle.obq_stands.proofs.Memory.{reading, reading_agrees}
use Rattle.obq_stands.proofs.Turns.{state_of, changed, steps_entry, replay_one}
use Rattle.obq_stands.proofs.Moves.{out_running, out_packet, endings}
use Rattle.obq_stands.proofs.Events.{found_op, less_is}
use Rattle.obq_stands.proofs.Wired.{wired, may_wire, call_may}
use Rattle.obq_stands.proofs.Kept.{step_keeps}
use Rattle.obq_stands.proofs.SameLines.{unchanged}
use Rattle.obq_stands.proofs.Sleeping.{one_watch}
use Rattle.obq_stands.proofs.Watches.{others_keep, delivered}
use Rattle.obq_stands.proofs.Asleep.{awake_keeps, delivered_keeps}
use Rattle.obq_stands.proofs.Broadcasts.{Whole}
use Rattle.obq_stands.proofs.Turning.{states_of, Stood, turned_by, not_asleep, asleep_before, After2, act_whole}

-- ---- the configurations before and behind an event

some_config : (a b : Config) → Some a ≡ Some b → a ≡ b
some_config a b e = cc e

took : (trees : List BlockTree) (turns : ℕ) (w x : World) (inv : StandsFor trees turns w) (inv2 : StandsFor trees turns x) (e : Entry) → x.journal ≡ w.journal ++ e ∷ [] → take_entry turns inv.config e ≡ Some inv2.config
took trees turns w x inv inv2 e j = sym (replay_one turns (opening trees) w.journal inv.config e inv.replays) ∙ ap (replay_from turns (opening trees)) (sym j) ∙ inv2.replays

silent_config : (trees : List BlockTree) (turns : ℕ) (w x : World) (inv : StandsFor trees turns w) (inv2 : StandsFor trees turns x) → x.journal ≡ w.journal → inv.config ≡ inv2.config
silent_config trees turns w x inv inv2 j = some_config inv.config inv2.config (sym inv.replays ∙ ap (replay_from turns (opening trees)) (sym j) ∙ inv2.replays)

pub formed_of : (trees : List BlockTree) (turns : ℕ) (w : World) (inv : StandsFor trees turns w) → IsFormedConfig inv.config
formed_of trees turns w inv = subst IsFormedIf inv.replays (formed_replay trees turns w.journal)

plus_zero : (n : ℕ) → n + 0 ≡ n
plus_zero n = omega arith

cut_at : (turns : ℕ) (c c1 c2 : Config) (t n : ℕ) (a : Option Act) → take_entry turns c (entry_of t n None) ≡ Some c1 → take_entry turns c (entry_of t n a) ≡ Some c2 → take_entry turns c1 (entry_of t 0 a) ≡ Some c2
cut_at turns c c1 c2 t n a e f =
    sym (ap (λ (o : Option Config). elim o [ None ↦ None | Some k2 ↦ take_entry turns k2 (entry_of t 0 a) ]) e)
    ∙ sym (cut_entry turns c t n 0 a)
    ∙ ap (λ m. take_entry turns c (entry_of t m a)) (plus_zero n)
    ∙ f

-- ---- an entry of a thread that is awake before and behind it

entry_whole : (turns : ℕ) (c c2 : Config) (en : Entry) (h : Heap) (f : Ref → ℕ) (e : Watch) (pl : ℕ → Place) → IsFormedConfig c → Agrees f h → take_entry turns c en ≡ Some c2 → Rouses en.pure en.act → Stirs en.pure en.act → makes en.act ≡ false
    → Whole h (states_of c) e pl → Whole h (states_of c2) e pl
entry_whole turns c c2 en h f e pl formed g takes r s m w =
    let others : (u : ℕ) → (u ≡ en.thread → ⊥) → slice_get c2.threads u ≡ slice_get c.threads u = λ u ne. others_law turns en c c2 u takes ne (λ k l. apart (makes en.act) k m) in
    record {
      watched = others_keep h f g h (states_of c) (states_of c2) e pl en.thread (unchanged h) others (not_asleep (slice_get c.threads en.thread) (rouse_law turns en c c2 takes r)) w.watched;
      slept = awake_keeps h h (states_of c) (states_of c2) pl pl en.thread (unchanged h) others (λ u ne. refl) (not_asleep (slice_get c2.threads en.thread) (phase_entry turns c c2 en formed takes s)) w.slept;
    }
  where
    apart : (b : Bool) → b ≡ true → b ≡ false → ⊥
    apart b k m = cc (k, m)

suc_not : (n : ℕ) → suc n ≡ 0 → ⊥
suc_not n e = cc e

steps_whole : (turns : ℕ) (c c2 : Config) (t n used : ℕ) (u : Term ℕ) (h : Heap) (f : Ref → ℕ) (e : Watch) (pl : ℕ → Place) → IsFormedConfig c → Agrees f h → slice_get c.threads t ≡ Some (state_of (Running u) used) → used + n ≤ turns
    → take_entry turns c (entry_of t n None) ≡ Some c2 → Whole h (states_of c) e pl → Whole h (states_of c2) e pl
steps_whole turns c c2 t zero used u h f e pl formed g here few takes w =
    let back : changed c t (Running u) (used + 0) c.store ≡ c = ap (λ n. changed c t (Running u) n c.store) (plus_zero used) ∙ ap (λ (l : List ThreadState). record c { threads = l }) (set_own c.threads t (state_of (Running u) used) here) in
    let same : c ≡ c2 = some_config c c2 (sym (steps_entry turns c t 0 used u u here few refl ∙ ap Some back) ∙ takes) in
    subst (λ (z : Config). Whole h (states_of z) e pl) same w
steps_whole turns c c2 t (suc n) used u h f e pl formed g here few takes w = entry_whole turns c c2 (entry_of t (suc n) None) h f e pl formed g takes (suc_not n) (suc_not n) refl w

-- a fork: the new thread is awake too
fork_whole : (turns : ℕ) (c c2 : Config) (t k : ℕ) (a : Option Act) (h : Heap) (f : Ref → ℕ) (e : Watch) (pl : ℕ → Place) → IsFormedConfig c → Agrees f h → take_entry turns c (entry_of t k a) ≡ Some c2 → Rouses k a → Stirs k a
    → slice_get c.threads (length c.threads) ≡ None → (t ≡ length c.threads → ⊥) → IsAwakeState (slice_get c2.threads (length c.threads)) → Whole h (states_of c) e pl → Whole h (states_of c2) e pl
fork_whole turns c c2 t k a h f e pl formed g takes r s none ne aw w =
    let en : Entry = entry_of t k a in
    let n : ℕ = length c.threads in
    let before = not_asleep (slice_get c.threads t) (rouse_law turns en c c2 takes r) in
    let behind : (a b : ℕ) → Sleeps (mid t) a b → ⊥ = subst (λ z. (a b : ℕ) → Sleeps z a b → ⊥) (sym (with_at_other (states_of c2) n (slice_get c.threads n) t ne)) (not_asleep (slice_get c2.threads t) (phase_entry turns c c2 en formed takes s)) in
    let one : (u : ℕ) → (u ≡ t → ⊥) → mid u ≡ slice_get c.threads u = λ u other. by_one u other (same_or u n) in
    let two : (u : ℕ) → (u ≡ n → ⊥) → slice_get c2.threads u ≡ mid u = λ u other. sym (with_at_other (states_of c2) n (slice_get c.threads n) u other) in
    let gone : (a b : ℕ) → Sleeps (mid n) a b → ⊥ = λ a b z. none_running (subst (λ o. Sleeps o a b) (with_at_same (states_of c2) n (slice_get c.threads n) ∙ none) z) in
    record {
      watched = others_keep h f g h mid (states_of c2) e pl n (unchanged h) two gone (others_keep h f g h (states_of c) mid e pl t (unchanged h) one before w.watched);
      slept = awake_keeps h h mid (states_of c2) pl pl n (unchanged h) two (λ u z. refl) (not_asleep (slice_get c2.threads n) aw) (awake_keeps h h (states_of c) mid pl pl t (unchanged h) one (λ u z. refl) behind w.slept);
    }
  where
    mid : ℕ → Option ThreadState
    mid = with_at (states_of c2) (length c.threads) (slice_get c.threads (length c.threads))

    by_one : (u : ℕ) → (u ≡ t → ⊥) → ((u ≡ length c.threads) ⊎ (u ≡ length c.threads → ⊥)) → mid u ≡ slice_get c.threads u
    by_one u other (inl e) = ap mid e ∙ with_at_same (states_of c2) (length c.threads) (slice_get c.threads (length c.threads)) ∙ ap (states_of c) (sym e)
    by_one u other (inr z) = with_at_other (states_of c2) (length c.threads) (slice_get c.threads (length c.threads)) u z ∙ others_law turns (entry_of t k a) c c2 u takes other (λ m. z)

    none_running : {a b : ℕ} → Sleeps None a b → ⊥
    none_running z = let h = z.here in cc h

-- ---- an operation that stands next

-- with its current self, where a turn is left
pub record StoodIn (turns : ℕ) (m : Memory) (c : Config) (t : ℕ) (op : Operation Ref) (s : Self Ref) : Type 0 where
  pub stood : Stood m c t op
  pub selfs : (f : Ref → ℕ) → Agrees f m.heap → self_at no_self stood.gs ≡ map_self f s
  pub few : stood.used < turns

stood_running : (turns : ℕ) (w : World) (c : Config) (s t : ℕ) (slot : Slot) (op : Operation Ref) (hs : List (Frame Ref)) → Stands turns w c → w.running s t ≡ Some slot → slot.used < turns
    → find same_ref slot.segment.depth slot.segment.self slot.segment.window ≡ Needs op hs → StoodIn turns w.memory c t op (self_at slot.segment.self hs)
stood_running turns w c s t slot op hs st is few e =
    let goes = (out_running turns w c s t slot st is).1 in
    let k = found_op w.memory c st.memory w.pending t goes.term slot.segment.window slot.segment.depth slot.segment.self slot.segment.answers goes.reads.links goes.reads.chained goes.reads.same op hs e in
    record {
      stood = record { term = goes.term; used = slot.used; op2 = k.op2; gs = k.gs; here = goes.here; found = k.found; one = λ f g. (k.one f g).0 };
      selfs = λ f g. (k.one f g).1;
      few = few;
    }

-- of a request it is that of the segment that asked
pub record StoodFor (turns : ℕ) (m : Memory) (c : Config) (t : ℕ) (op : Operation Ref) (s : Self Ref) : Type 0 where
  pub own : Operation Ref
  pub self : Self Ref
  pub asks : wire own ≡ op
  pub same : s ≡ self
  pub stood : StoodIn turns m c t own self

pub stood_request : (turns : ℕ) (w w1 : World) (c : Config) (a b t k used depth : ℕ) (self : Self Ref) (op : Operation Ref) → Stands turns w c → Takes w a b (Request t k used depth self op) w1 → StoodFor turns w.memory c t op self
stood_request turns w w1 c a b t k used depth self op st takes =
    let q = out_packet turns w c a b (Request t k used depth self op) w1 st takes in
    let goes = q.carries.2 in
    let r = goes.reads in
    let l : Link = r.link in
    let f = found_op w.memory c st.memory w1.pending t goes.term l.segment.window l.segment.depth l.segment.self l.segment.answers r.links r.chained.5 (λ f g. r.same f (subst (λ (m : Memory). Agrees f m.heap) (sym q.memory) g)) l.op l.frames r.chained.1.needs in
    record {
      own = l.op;
      self = self_at l.segment.self l.frames;
      asks = r.asks;
      same = r.chained.4;
      stood = record {
        stood = record { term = goes.term; used = used; op2 = f.op2; gs = f.gs; here = goes.here; found = f.found; one = λ z g. (f.one z g).0 };
        selfs = λ z g. (f.one z g).1;
        few = q.carries.1;
      };
    }

-- ---- what is done by a noted wake is done by the store's row

plain_does : (c : Config) (m : Memory) (en : ℕ → ℕ → Option Ending) (n t : ℕ) (s : Self Ref) (e e2 : Watch) (pl : ℕ → Place) (op : Operation Ref) (kind : ActKind) (loc : ℕ) (m2 : Memory) (x : Term Ref) → MemoryStands m c.store → Watched m.heap (states_of c) e pl
    → ((o q : Ref) (guard : Term Ref) → op ≡ Again o q guard → Asleep m.heap (states_of c t) o q) → DoesBeside m en n t s e op kind loc m2 x e2 → Does m en n t s op kind loc m2 x × Beside m.heap t op e e2
plain_does c m en n t s e e2 pl op kind loc m2 x st wd asleep (ByStore _ _ _ _ _ _ does beside) = (does, beside)
plain_does c m en n t s e e2 pl op kind loc m2 x st wd asleep (ByWake o q guard y _ left _ k here noted row) =
    let f : Ref → ℕ = reading m 0 in
    let g : Agrees f m.heap = reading_agrees m c.store st 0 in
    let owed : Owed m.heap (states_of c t) t (WaitsAt o.site k) = subst (Owed m.heap (states_of c t) t) (wd.placed.waits o.site t k noted) (wd.owed t) in
    let out = owed.4 in
    let same = one_watch m.heap f g (states_of c t) o q owed.0 out.condition (asleep o q guard refl) out.asleep in
    (Retakes o q guard y out.cell kind left x here (ap m.heap same.1 ∙ out.here) (ap (λ b. again_row Ends Idle t b o q guard (Some y.cell)) out.out ∙ row), TakesNoted o q guard e k noted)

pub again_sleep : (op : Operation Ref) (o q : Ref) (guard : Term Ref) → op ≡ Again o q guard → sleep_of op ≡ Some (o, q)
again_sleep op o q guard e = ap sleep_of e

pub wire_again : (op : Operation Ref) (o q : Ref) (guard : Term Ref) → wire op ≡ Again o q guard → sleep_of op ≡ Some (o, q)
wire_again (Again a b g) o q guard e = ap sleep_of e
wire_again op o q guard e = absurd (cc e)

-- ---- what is beside a request is beside the operation that asked

apart_same : (h : Heap) (t : ℕ) (op : Operation Ref) (e e2 : Watch) → IsApart op → Beside h t op e e2 → e ≡ e2
apart_same h t op e e2 a (Apart _ _ _) = refl
apart_same h t op e e2 a (Notes _ _ _ _) = absurd a
apart_same h t op e e2 a (Frees _ _ _ _) = absurd a
apart_same h t op e e2 a (TakesHome _ _ _ _ _) = absurd a
apart_same h t op e e2 a (TakesNoted _ _ _ _ _ _) = absurd a
apart_same h t op e e2 a (SignalsNone _ _ _ _ _) = absurd a
apart_same h t op e e2 a (SignalsOne _ _ _ _ _ _ _ _ _) = absurd a
apart_same h t op e e2 a (SignalsAll _ _ _ _ _ _ _ _) = absurd a

beside_wired : (h : Heap) (t : ℕ) (op : Operation Ref) (e e2 : Watch) → Beside h t (wire op) e e2 → Beside h t op e e2
beside_wired h t (LineUp o q g) e e2 (Notes _ _ _ _) = Notes o q g e
beside_wired h t (LineUp o q g) e e2 (Apart _ _ a) = absurd a
beside_wired h t (GiveUp o q g) e e2 (Frees _ _ _ _) = Frees o q g e
beside_wired h t (GiveUp o q g) e e2 (Apart _ _ a) = absurd a
beside_wired h t (Again o q g) e e2 (TakesHome _ _ _ _ home) = TakesHome o q g e home
beside_wired h t (Again o q g) e e2 (TakesNoted _ _ _ _ k noted) = TakesNoted o q g e k noted
beside_wired h t (Again o q g) e e2 (Apart _ _ a) = absurd a
beside_wired h t (Signal q) e e2 b = b
beside_wired h t (Broadcast q) e e2 b = b
beside_wired h t op e e2 b = subst (λ z. Beside h t op e z) (apart_same h t (wire op) e e2 tt b) (Apart op e tt)

-- ---- a request

whole_of : (trees : List BlockTree) (turns : ℕ) (w : World) (e : Watch) (i : WatchStands trees turns w e) → Whole w.memory.heap (states_of i.stands.config) e i.place
whole_of trees turns w e i = record { watched = i.watched; slept = i.slept }

request_whole : (turns : ℕ) (w w1 : World) (c c2 : Config) (e e2 : Watch) (pl : ℕ → Place) (a b t k used depth : ℕ) (self : Self Ref) (op : Operation Ref) (kind : ActKind) (loc : ℕ) (m : Memory) (x : Term Ref) → Stands turns w c → IsFormedConfig c
    → Takes w a b (Request t k used depth self op) w1 → MayAsk op → Does w.memory w.ended w.threads t self op kind loc m x → Beside w.memory.heap t op e e2 → take_entry turns c (entry_of t 0 (Some (act kind loc))) ≡ Some c2
    → Whole w.memory.heap (states_of c) e pl → After2 m.heap (states_of c2) e2
request_whole turns w w1 c c2 e e2 pl a b t k used depth self op kind loc m x st formed takes may does beside taken wh =
    let d = stood_request turns w w1 c a b t k used depth self op st takes in
    let y : Term Ref = result_term d.own (result_of x) in
    let own : Does w.memory w.ended w.threads t d.self d.own kind loc m y =
    subst (λ z. Does w.memory w.ended w.threads t z d.own kind loc m y) d.same
    (wired w.memory w.ended w.threads t self d.own kind loc m x (may_wire d.own (subst MayAsk (sym d.asks) may)) (subst (λ o. Does w.memory w.ended w.threads t self o kind loc m x) (sym d.asks) does)) in
    let turned = turned_by turns c c2 t w.threads w.memory w.ended d.self d.own kind loc m y d.stood.stood st.memory st.counted (endings turns w c st) (λ f g. (d.stood.stood.one f g, d.stood.selfs f g)) d.stood.few own taken in
    act_whole c c2 w.memory w.ended w.threads t d.self d.own kind loc m y e e2 pl st.memory formed turned own (beside_wired w.memory.heap t d.own e e2 (subst (λ o. Beside w.memory.heap t o e e2) (sym d.asks) beside)) wh

request_does : (turns : ℕ) (w w1 : World) (c : Config) (e e2 : Watch) (pl : ℕ → Place) (a b t k used depth : ℕ) (self : Self Ref) (op : Operation Ref) (kind : ActKind) (loc : ℕ) (m : Memory) (x : Term Ref) → Stands turns w c
    → Takes w a b (Request t k used depth self op) w1 → Watched w.memory.heap (states_of c) e pl → DoesBeside w.memory w.ended w.threads t self e op kind loc m x e2 → Does w.memory w.ended w.threads t self op kind loc m x × Beside w.memory.heap t op e e2
request_does turns w w1 c e e2 pl a b t k used depth self op kind loc m x st takes wd does =
    let d = stood_request turns w w1 c a b t k used depth self op st takes in
    plain_does c w.memory w.ended w.threads t self e e2 pl op kind loc m x st.memory wd (λ o q guard is. asleep_before w.memory c t d.own o q d.stood.stood (wire_again d.own o q guard (d.asks ∙ is))) does

-- ---- an act at home, behind its steps

record Stepped (trees : List BlockTree) (turns : ℕ) (w : World) (s t n : ℕ) (slot : Slot) (u : Term Ref) (e : Watch) (pl : ℕ → Place) : Type 0 where
  stands : StandsFor trees turns (note (start w s t (moved slot n u)) (entry_of t n None))
  whole : Whole w.memory.heap (states_of stands.config) e pl

stepped : (trees : List BlockTree) (turns : ℕ) (w : World) (e : Watch) (s t n : ℕ) (slot : Slot) (u : Term Ref) (i : WatchStands trees turns w e) → w.running s t ≡ Some slot → slot.used + n ≤ turns
    → after_steps slot.segment.depth slot.segment.self n slot.segment.window ≡ Some u → Stepped trees turns w s t n slot u e i.place
stepped trees turns w e s t n slot u i is few steps =
    let c : Config = i.stands.config in
    let inv1 = step_keeps trees turns w (note (start w s t (moved slot n u)) (entry_of t n None)) i.stands (Steps w s t n slot u is few steps) in
    let goes = (out_running turns w c s t slot i.stands.stands is).1 in
    let f : Ref → ℕ = reading w.memory 0 in
    record {
      stands = inv1;
      whole = steps_whole turns c inv1.config t n slot.used goes.term w.memory.heap f e i.place (formed_of trees turns w i.stands) (reading_agrees w.memory c.store i.stands.stands.memory 0) goes.here few
          (took trees turns w (note (start w s t (moved slot n u)) (entry_of t n None)) i.stands inv1 (entry_of t n None) refl) (whole_of trees turns w e i);
    }

home_does : (trees : List BlockTree) (turns : ℕ) (w : World) (e e2 : Watch) (s t n : ℕ) (slot : Slot) (u : Term Ref) (op : Operation Ref) (hs : List (Frame Ref)) (kind : ActKind) (loc : ℕ) (m : Memory) (x : Term Ref) (i : WatchStands trees turns w e)
    → slot.used + n < turns → find same_ref slot.segment.depth slot.segment.self u ≡ Needs op hs → Stepped trees turns w s t n slot u e i.place → DoesBeside w.memory w.ended w.threads t (self_at slot.segment.self hs) e op kind loc m x e2
    → Does w.memory w.ended w.threads t (self_at slot.segment.self hs) op kind loc m x × Beside w.memory.heap t op e e2
home_does trees turns w e e2 s t n slot u op hs kind loc m x i few needs k does =
    let w1 : World = note (start w s t (moved slot n u)) (entry_of t n None) in
    let d = stood_running turns w1 k.stands.config s t (moved slot n u) op hs k.stands.stands (at2_same w.running s t (Some (moved slot n u))) few needs in
    plain_does k.stands.config w.memory w.ended w.threads t (self_at slot.segment.self hs) e e2 i.place op kind loc m x k.stands.stands.memory k.whole.watched (λ o q guard is. asleep_before w.memory k.stands.config t op o q d.stood (again_sleep op o q guard is)) does

-- ---- the events

-- an event without an entry
silent_keeps : (trees : List BlockTree) (turns : ℕ) (w x : World) (e : Watch) → WatchStands trees turns w e → StandsFor trees turns x → x.journal ≡ w.journal → x.memory ≡ w.memory → WatchStands trees turns x e
silent_keeps trees turns w x e i inv2 j m =
    let same : i.stands.config ≡ inv2.config = silent_config trees turns w x i.stands inv2 j in
    let wh : Whole x.memory.heap (states_of inv2.config) e i.place = subst (λ (z : Memory). Whole z.heap (states_of inv2.config) e i.place) (sym m) (subst (λ (c : Config). Whole w.memory.heap (states_of c) e i.place) same (whole_of trees turns w e i)) in
    record { stands = inv2; place = i.place; watched = wh.watched; slept = wh.slept }

with_whole : (trees : List BlockTree) (turns : ℕ) (x : World) (e : Watch) (pl : ℕ → Place) (inv : StandsFor trees turns x) → Whole x.memory.heap (states_of inv.config) e pl → WatchStands trees turns x e
with_whole trees turns x e pl inv w = record { stands = inv; place = pl; watched = w.watched; slept = w.slept }

none_above : (ts : List ThreadState) → slice_get ts (length ts) ≡ None
none_above [] = refl
none_above (s ∷ ts) = none_above ts

below_not : (t n : ℕ) → t < n → t ≡ n → ⊥
below_not t n l e = absurd (omega arith)

-- a thread that begins is awake
begun_awake : (trees : List BlockTree) (turns : ℕ) (x : World) (inv : StandsFor trees turns x) (s n : ℕ) (v : Value Ref) → x.running s n ≡ Some (calling v) → IsAwakeState (slice_get inv.config.threads n)
begun_awake trees turns x inv s n v is =
    let goes = (out_running turns x inv.config s n (calling v) inv.stands is).1 in
    let f : Ref → ℕ = reading x.memory 0 in
    let b = bottom x.pending n 0 no_self None goes.reads.links refl goes.reads.chained in
    let term : goes.term ≡ Form Call (Part (Const (map_value f v)) End) = goes.reads.same f (reading_agrees x.memory inv.config.store inv.stands.memory 0) ∙ ap (λ ls. plug (around f ls) (Form Call (Part (Const (map_value f v)) End))) b.0 in
    let aw : IsAwake (Running goes.term) = awake_state_of inv.config n goes.term 0 (formed_of trees turns x inv) goes.here (subst (λ z. AllInside (marks_of z)) (sym term) tt) in
    subst IsAwakeState (sym goes.here) aw

plain_keeps : (trees : List BlockTree) (turns : ℕ) (w x : World) (e : Watch) → WatchStands trees turns w e → (s : Step turns w x) → HasNoAct s → WatchStands trees turns x e
plain_keeps trees turns w x e i (Steps _ s t n slot u is few steps) quiet =
    let k = stepped trees turns w e s t n slot u i is few steps in
    with_whole trees turns x e i.place k.stands k.whole
plain_keeps trees turns w x e i (Acted _ s t n slot u op hs kind loc m y is few steps needs does) quiet = absurd quiet
plain_keeps trees turns w x e i (Forks _ s t n slot u v hs is few steps needs room) quiet =
    let inv2 = step_keeps trees turns w x i.stands (Forks w s t n slot u v hs is few steps needs room) in
    let c : Config = i.stands.config in
    let goes = (out_running turns w c s t slot i.stands.stands is).1 in
    let aw = begun_awake trees turns x inv2 s w.threads v (at2_same (at2 w.running s t (Some (moved slot (n + 1) (plug hs (Const (Thread w.threads)))))) s w.threads (Some (calling v))) in
    with_whole trees turns x e i.place inv2
    (fork_whole turns c inv2.config t n (Some (act ActKind.Fork w.threads)) w.memory.heap (reading w.memory 0) e i.place (formed_of trees turns w i.stands) (reading_agrees w.memory c.store i.stands.stands.memory 0)
    (took trees turns w x i.stands inv2 (entry_of t n (Some (act ActKind.Fork w.threads))) refl) refl refl (none_above c.threads) (below_not t (length c.threads) (get_below c.threads t (state_of (Running goes.term) slot.used) goes.here))
    (subst (λ k. IsAwakeState (slice_get inv2.config.threads k)) (sym i.stands.stands.counted) aw) (whole_of trees turns w e i))
plain_keeps trees turns w x e i (Finishes _ s t n slot u z is none few steps ends) quiet =
    let inv2 = step_keeps trees turns w x i.stands (Finishes w s t n slot u z is none few steps ends) in
    let c : Config = i.stands.config in
    with_whole trees turns x e i.place inv2
    (entry_whole turns c inv2.config (entry_of t n (Some (act ActKind.End t))) w.memory.heap (reading w.memory 0) e i.place (formed_of trees turns w i.stands) (reading_agrees w.memory c.store i.stands.stands.memory 0)
    (took trees turns w x i.stands inv2 (entry_of t n (Some (act ActKind.End t))) refl) refl refl refl (whole_of trees turns w e i))
plain_keeps trees turns w x e i (Asks _ s t to k slot op hs is few needs free) quiet = silent_keeps trees turns w x e i (step_keeps trees turns w x i.stands (Asks w s t to k slot op hs is few needs free)) refl refl
plain_keeps trees turns w x e i (Serves _ w1 a b t k used depth self op kind loc m y o takes may does gives) quiet = absurd quiet
plain_keeps trees turns w x e i (Enters _ w1 a b t k used depth self op kind loc m y z takes call does enters) quiet = absurd quiet
plain_keeps trees turns w x e i (Holds _ w1 a b t k used depth self op takes) quiet =
    let q = out_packet turns w i.stands.config a b (Request t k used depth self op) w1 i.stands.stands takes in
    silent_keeps trees turns w x e i (step_keeps trees turns w x i.stands (Holds w w1 a b t k used depth self op takes)) q.journal q.memory
plain_keeps trees turns w x e i (Returns _ s t slot call o is answers out) quiet = silent_keeps trees turns w x e i (step_keeps trees turns w x i.stands (Returns w s t slot call o is answers out)) refl refl
plain_keeps trees turns w x e i (Resumes _ w1 a b t k used o z op hs takes here needs) quiet =
    let q = out_packet turns w i.stands.config a b (Reply t k used o) w1 i.stands.stands takes in
    silent_keeps trees turns w x e i (step_keeps trees turns w x i.stands (Resumes w w1 a b t k used o z op hs takes here needs)) q.journal q.memory

pub watch_step_keeps : WatchStepKeeps
watch_step_keeps trees turns w x e e2 i (Plain _ _ _ s quiet) = plain_keeps trees turns w x e i s quiet
watch_step_keeps trees turns w x e e2 i (ActedBeside _ _ _ s t n slot u op hs kind loc m y is few steps needs does) =
    let k = stepped trees turns w e s t n slot u i is (less_is slot.used n turns few) steps in
    let w1 : World = note (start w s t (moved slot n u)) (entry_of t n None) in
    let c1 : Config = k.stands.config in
    let d = stood_running turns w1 c1 s t (moved slot n u) op hs k.stands.stands (at2_same w.running s t (Some (moved slot n u))) few needs in
    let p = home_does trees turns w e e2 s t n slot u op hs kind loc m y i few needs k does in
    let inv2 = step_keeps trees turns w x i.stands (Acted w s t n slot u op hs kind loc m y is few steps needs p.0) in
    let taken = cut_at turns i.stands.config c1 inv2.config t n (Some (act kind loc)) (took trees turns w w1 i.stands k.stands (entry_of t n None) refl) (took trees turns w x i.stands inv2 (entry_of t n (Some (act kind loc))) refl) in
    let turned = turned_by turns c1 inv2.config t w.threads w.memory w.ended (self_at slot.segment.self hs) op kind loc m y d.stood k.stands.stands.memory k.stands.stands.counted (endings turns w1 c1 k.stands.stands) (λ f g. (d.stood.one f g, d.selfs f g)) d.few p.0 taken in
    let res = act_whole c1 inv2.config w.memory w.ended w.threads t (self_at slot.segment.self hs) op kind loc m y e e2 i.place k.stands.stands.memory (formed_of trees turns w1 k.stands) turned p.0 p.1 k.whole in
    with_whole trees turns x e2 res.place inv2 res.whole
watch_step_keeps trees turns w x e e2 i (ServesBeside _ w1 _ _ a b t k used depth self op kind loc m y o takes may does gives) =
    let c : Config = i.stands.config in
    let q = out_packet turns w c a b (Request t k used depth self op) w1 i.stands.stands takes in
    let p = request_does turns w w1 c e e2 i.place a b t k used depth self op kind loc m y i.stands.stands takes i.watched does in
    let inv2 = step_keeps trees turns w x i.stands (Serves w w1 a b t k used depth self op kind loc m y o takes may p.0 gives) in
    let res = request_whole turns w w1 c inv2.config e e2 i.place a b t k used depth self op kind loc m y i.stands.stands (formed_of trees turns w i.stands) takes may p.0 p.1
    (took trees turns w x i.stands inv2 (entry_of t 0 (Some (act kind loc))) (ap (λ (l : List Entry). l ++ entry_of t 0 (Some (act kind loc)) ∷ []) q.journal)) (whole_of trees turns w e i) in
    with_whole trees turns x e2 res.place inv2 res.whole
watch_step_keeps trees turns w x e e2 i (EntersBeside _ w1 _ _ a b t k used depth self op kind loc m y z takes call does enters) =
    let c : Config = i.stands.config in
    let q = out_packet turns w c a b (Request t k used depth self op) w1 i.stands.stands takes in
    let p = request_does turns w w1 c e e2 i.place a b t k used depth self op kind loc m y i.stands.stands takes i.watched does in
    let inv2 = step_keeps trees turns w x i.stands (Enters w w1 a b t k used depth self op kind loc m y z takes call p.0 enters) in
    let res = request_whole turns w w1 c inv2.config e e2 i.place a b t k used depth self op kind loc m y i.stands.stands (formed_of trees turns w i.stands) takes (call_may op call) p.0 p.1
    (took trees turns w x i.stands inv2 (entry_of t 0 (Some (act kind loc))) (ap (λ (l : List Entry). l ++ entry_of t 0 (Some (act kind loc)) ∷ []) q.journal)) (whole_of trees turns w e i) in
    with_whole trees turns x e2 res.place inv2 res.whole
watch_step_keeps trees turns w x e e2 i (Delivers _ _ a b p ps first) =
    let h : Heap = w.memory.heap in
    let t : ℕ = thread_of p in
    let k : Parked = record { from = 0; packet = p } in
    let pl2 : ℕ → Place = with_at (with_at i.place t Nowhere) t (WaitsAt b k) in
    record {
      stands = i.stands;
      place = pl2;
      watched = delivered h (states_of i.stands.config) e i.place a b p ps i.watched first;
      slept = delivered_keeps h (states_of i.stands.config) i.place pl2 t (busy pl2 (with_at_same (with_at i.place t Nowhere) t (WaitsAt b k))) (λ u ne. with_at_other (with_at i.place t Nowhere) t (WaitsAt b k) u ne ∙ with_at_other i.place t Nowhere u ne) i.slept;
    }
  where
    busy : (pl2 : ℕ → Place) → pl2 (thread_of p) ≡ WaitsAt b (record { from = 0; packet = p }) → pl2 (thread_of p) ≡ Nowhere → ⊥
    busy pl2 e k = cc (e, k)

pub watch_step_is : WatchStepIs
watch_step_is trees turns w x e e2 i (Plain _ _ _ s quiet) = inl s
watch_step_is trees turns w x e e2 i (ActedBeside _ _ _ s t n slot u op hs kind loc m y is few steps needs does) =
    let k = stepped trees turns w e s t n slot u i is (less_is slot.used n turns few) steps in
    inl (Acted w s t n slot u op hs kind loc m y is few steps needs (home_does trees turns w e e2 s t n slot u op hs kind loc m y i few needs k does).0)
watch_step_is trees turns w x e e2 i (ServesBeside _ w1 _ _ a b t k used depth self op kind loc m y o takes may does gives) =
    inl (Serves w w1 a b t k used depth self op kind loc m y o takes may (request_does turns w w1 i.stands.config e e2 i.place a b t k used depth self op kind loc m y i.stands.stands takes i.watched does).0 gives)
watch_step_is trees turns w x e e2 i (EntersBeside _ w1 _ _ a b t k used depth self op kind loc m y z takes call does enters) =
    inl (Enters w w1 a b t k used depth self op kind loc m y z takes call (request_does turns w w1 i.stands.config e e2 i.place a b t k used depth self op kind loc m y i.stands.stands takes i.watched does).0 enters)
watch_step_is trees turns w x e e2 i (Delivers _ _ a b p ps first) = inr refl

-- ---- where an act is done

does_sited : (c : Config) (m : Memory) (en : ℕ → ℕ → Option Ending) (n t server site : ℕ) (s : Self Ref) (e e2 : Watch) (pl : ℕ → Place) (op : Operation Ref) (kind : ActKind) (loc : ℕ) (m2 : Memory) (x : Term Ref) (st : MemoryStands m c.store) (wd : Watched m.heap (states_of c) e pl)
    (asleep : (o q : Ref) (guard : Term Ref) → op ≡ Again o q guard → Asleep m.heap (states_of c t) o q) (does : DoesBeside m en n t s e op kind loc m2 x e2) → IsDoneBeside server site does → IsDoneAt server site (plain_does c m en n t s e e2 pl op kind loc m2 x st wd asleep does).0
unfolding plain_does
does_sited c m en n t server site s e e2 pl op kind loc m2 x st wd asleep (ByStore _ _ _ _ _ _ does beside) h = h
does_sited c m en n t server site s e e2 pl op kind loc m2 x st wd asleep (ByWake o q guard y _ left _ k here noted row) h = h

-- an event of the World, at the same site and with the same counts; or the World stays
abbrev pub IsOne : {turns : ℕ} {w x : World} {e e2 : Watch} → ℕ → WatchStep turns w e x e2 → Type 0
IsOne {turns} {w} {x} server s = ((p : Step turns w x) × IsSited server p × ((z : Tally) → tally_of p z ≡ tally_beside s z)) ⊎ ((x ≡ w) × ((z : Tally) → tally_beside s z ≡ z))

pub watch_step_sited : (trees : List BlockTree) (turns server : ℕ) (w x : World) (e e2 : Watch) → WatchStands trees turns w e → (s : WatchStep turns w e x e2) → IsSitedBeside server s → IsOne server s
unfolding home_does request_does
watch_step_sited trees turns server w x e e2 i (Plain _ _ _ s quiet) h = inl (s, h, λ z. refl)
watch_step_sited trees turns server w x e e2 i (ActedBeside _ _ _ s t n slot u op hs kind loc m y is few steps needs does) h =
    let k = stepped trees turns w e s t n slot u i is (less_is slot.used n turns few) steps in
    inl (Acted w s t n slot u op hs kind loc m y is few steps needs (home_does trees turns w e e2 s t n slot u op hs kind loc m y i few needs k does).0, does_sited _ w.memory w.ended w.threads t server s _ e e2 i.place op kind loc m y _ _ _ does h, λ z. refl)
watch_step_sited trees turns server w x e e2 i (ServesBeside _ w1 _ _ a b t k used depth self op kind loc m y o takes may does gives) h =
    inl (Serves w w1 a b t k used depth self op kind loc m y o takes may (request_does turns w w1 i.stands.config e e2 i.place a b t k used depth self op kind loc m y i.stands.stands takes i.watched does).0 gives, does_sited _ w.memory w.ended w.threads t server b self e e2 i.place op kind loc m y _ _ _ does h, λ z. refl)
watch_step_sited trees turns server w x e e2 i (EntersBeside _ w1 _ _ a b t k used depth self op kind loc m y z takes call does enters) h =
    inl (Enters w w1 a b t k used depth self op kind loc m y z takes call (request_does turns w w1 i.stands.config e e2 i.place a b t k used depth self op kind loc m y i.stands.stands takes i.watched does).0 enters, does_sited _ w.memory w.ended w.threads t server b self e e2 i.place op kind loc m y _ _ _ does h, λ z. refl)
watch_step_sited trees turns server w x e e2 i (Delivers _ _ a b p ps first) h = inr (refl, λ z. refl)
