-- No activation stands behind the holes of suspended segments, so the activations of a thread are those of its segments.
use Rattle.std.specs.Prelude.{List, Option, Some, None, [], ◌∷◌, ◌++◌, ℕ, refl, ◌+◌, ◌<◌, ◌≡◌}
use Rattle.std.proofs.Common.{ap, sym, ◌∙◌, subst, arith}
use Rattle.obq_base.specs.Tree.{BlockTree}
use Rattle.obq_model.specs.Terms.{Value, Kind, Empty, Called, Within, Term, Const, Name, Under, Form, Parts, End, Part}
use Rattle.obq_model.specs.Step.{Self, no_self, Frame, Pending, values_before, plug, self_in, activations_in, activations_at}
use Rattle.obq_model.specs.Forms.{AreSource}
use Rattle.obq_model.specs.Config.{ThreadState, Config}
use Rattle.obq_model.specs.Located.{activations_of, activations_of_parts, execution_activations, thread_activations}
use Rattle.obq_model.specs.Maps.{map_kind, map_term, map_parts, map_frames}
use Rattle.obq_laws.specs.Keeping.{IsFormedConfig, IsFormedIf}
use Rattle.obq_laws.specs.Turns.{CanGo}
use Rattle.obq_laws.proofs.Activated.{source_none}
use Rattle.obq_laws.proofs.FewActivations.{next_source}
use Rattle.obq_laws.proofs.Formed.{formed_replay}
use Rattle.obq_laws.proofs.Methods.{AreSourceFrames}
use Rattle.obq_stands.specs.World.{Ref, PendingCall, Slot, Suspended, Request, Reply, World}
use Rattle.obq_stands.specs.Stands.{Link, Table, Chained, around, Stands, StandsFor}
use Rattle.obq_stands.specs.Events.{Steps, Acted, Forks, Finishes, Asks, Serves, Enters, Holds, Returns, Resumes, Run, Begin, Then, windows, world_at}
use Rattle.obq_stands.specs.Around.{AreBare, IsBare, ArePendingBare, BareKept, SegmentActivations}
use Rattle.obq_stands.proofs.Chains.{chained_base}
use Rattle.obq_stands.proofs.Entered.{put_all_so, drop_all_so}
use Rattle.obq_stands.proofs.Events.{found_op}
use Rattle.obq_stands.proofs.Memory.{reading, reading_agrees}
use Rattle.obq_stands.proofs.Moves.{out_running, out_packet}
use Rattle.obq_stands.proofs.Opening.{every_run_stands}

-- ---- activations of a term in the hole of frames

zero_plus : (n : ℕ) → 0 + n ≡ n
zero_plus n = omega arith

plus_zero : (m n : ℕ) → n ≡ 0 → m + n ≡ m
plus_zero m n e = omega arith

pub none_before : {R : Type 0} (vs : List (Value R)) (parts : Parts R) → activations_of_parts (values_before vs parts) ≡ activations_of_parts parts
none_before [] parts = refl
none_before (v ∷ vs) parts = zero_plus (activations_of_parts (values_before vs parts)) ∙ none_before vs parts

-- those of a form, with a more around it
pub with_form : {R : Type 0} (a m : ℕ) (k : Kind R) → activations_in a k + m ≡ a + activations_in m k
with_form a m (Within o z) = omega arith
with_form a m Called = omega arith
with_form a m k = refl

pub activations_plug : {R : Type 0} (a : ℕ) (fs : List (Frame R)) (t : Term R) → AreBare fs → activations_at a fs + activations_of t ≡ a + activations_of (plug fs t)
activations_plug a [] t h = refl
activations_plug a (Pending k before after ∷ fs) t h =
    activations_plug (activations_in a k) fs t h.1
    ∙ with_form a (activations_of (plug fs t)) k
    ∙ ap (λ n. a + activations_in n k) (sym (plus_zero (activations_of (plug fs t)) (activations_of_parts after) h.0) ∙ sym (none_before before (Part (plug fs t) after)))

kind_in : {R S : Type 0} (f : R → S) (a : ℕ) (k : Kind R) → activations_in a (map_kind f k) ≡ activations_in a k
kind_in f a (Within o m) = refl
kind_in f a Called = refl
kind_in f a k = refl

mutual
  -- a reading of references keeps them
  pub map_activations : {R S : Type 0} (f : R → S) (t : Term R) → activations_of (map_term f t) ≡ activations_of t
  map_activations f (Const v) = refl
  map_activations f (Name x) = refl
  map_activations f (Under names t) = refl
  map_activations f (Form k parts) = kind_in f (activations_of_parts (map_parts f parts)) k ∙ ap (λ n. activations_in n k) (map_all f parts)

  map_all : {R S : Type 0} (f : R → S) (parts : Parts R) → activations_of_parts (map_parts f parts) ≡ activations_of_parts parts
  map_all f End = refl
  map_all f (Part t parts) = ap (λ n. n + activations_of_parts (map_parts f parts)) (map_activations f t) ∙ ap (λ n. activations_of t + n) (map_all f parts)

-- ---- bare frames

bare_map : {R S : Type 0} (f : R → S) (fs : List (Frame R)) → AreBare fs → AreBare (map_frames f fs)
bare_map f [] h = tt
bare_map f (Pending k before after ∷ fs) h = (map_all f after ∙ h.0, bare_map f fs h.1)

bare_back : {R S : Type 0} (f : R → S) (fs : List (Frame R)) → AreBare (map_frames f fs) → AreBare fs
bare_back f [] h = tt
bare_back f (Pending k before after ∷ fs) h = (sym (map_all f after) ∙ h.0, bare_back f fs h.1)

bare_append : {R : Type 0} (fs gs : List (Frame R)) → AreBare fs → AreBare gs → AreBare (fs ++ gs)
bare_append [] gs h i = i
bare_append (Pending k before after ∷ fs) gs h i = (h.0, bare_append fs gs h.1 i)

bare_behind : {R : Type 0} (fs gs : List (Frame R)) → AreBare (fs ++ gs) → AreBare gs
bare_behind [] gs h = h
bare_behind (Pending k before after ∷ fs) gs h = bare_behind fs gs h.1

source_bare : (s : Self ℕ) (fs : List (Frame ℕ)) → AreSourceFrames s fs → AreBare fs
source_bare s [] h = tt
source_bare s (Pending k before after ∷ fs) h = (none_in after h.0.3, source_bare (self_in s k) fs h.1)
  where
    none_in : (parts : Parts ℕ) → AreSource parts → activations_of_parts parts ≡ 0
    none_in parts i = source_none (Form Empty parts) (tt, i)

-- what lies around a segment
pub bare_around : (w : World) (t d : ℕ) (self : Self Ref) (a : Option PendingCall) (ls : List Link) → ArePendingBare w → Chained w.pending t d self a ls → (f : Ref → ℕ) → AreBare (around f ls)
bare_around w t d self None [] h ch f = tt
bare_around w t d self None (l ∷ ls) h ch f = absurd ch
bare_around w t d self (Some k) [] h ch f = absurd ch
bare_around w t d self (Some k) (l ∷ ls) h ch f =
    bare_append (around f ls) (map_frames f l.frames) (bare_around w t l.segment.depth l.segment.self l.segment.answers ls h ch.5 f)
    (bare_map f l.frames (h l.key.site l.key.number (record { thread = t; segment = l.segment }) ch.1.here l.op l.frames ch.1.needs))

-- ---- events

pub formed_of : (trees : List BlockTree) (turns : ℕ) (w : World) (inv : StandsFor trees turns w) → IsFormedConfig inv.config
formed_of trees turns w inv = subst IsFormedIf inv.replays (formed_replay trees turns w.journal)

-- a running segment whose thread has a turn left
runs_bare : (trees : List BlockTree) (turns : ℕ) (w : World) (s t : ℕ) (slot : Slot) → StandsFor trees turns w → w.running s t ≡ Some slot → slot.used < turns → IsBare slot.segment
runs_bare trees turns w s t slot inv is few op hs e =
    let c : Config = inv.config in
    let goes = (out_running turns w c s t slot inv.stands is).1 in
    let r = goes.reads in
    let f0 : Ref → ℕ = reading w.memory 0 in
    let k = found_op w.memory c inv.stands.memory w.pending t goes.term slot.segment.window slot.segment.depth slot.segment.self slot.segment.answers r.links r.chained r.same op hs e in
    let g : CanGo turns c t goes.term slot.used = record { is_there = goes.here; is_left = few } in
    let source = (next_source turns c t goes.term slot.used k.op2 k.gs (formed_of trees turns w inv) g k.found).0 in
    bare_back f0 hs (bare_behind (around f0 r.links) (map_frames f0 hs) (subst AreBare (k.frames f0 (reading_agrees w.memory c.store inv.stands.memory 0)) (source_bare no_self k.gs source)))

abbrev BareSuspended : Suspended → Type 0
BareSuspended e = IsBare e.segment

taken_bare : (w w1 : World) → w1.pending ≡ w.pending → ArePendingBare w → ArePendingBare w1
taken_bare w w1 p h s k e is = h s k e (ap (λ (f : Table). f s k) (sym p) ∙ is)

pub bare_kept : BareKept
bare_kept trees turns w x inv h (Steps _ s t n slot u is few e) = h
bare_kept trees turns w x inv h (Acted _ s t n slot u op hs kind loc m y is few e needs does) = h
bare_kept trees turns w x inv h (Forks _ s t n slot u v hs is few e needs room) = h
bare_kept trees turns w x inv h (Finishes _ s t n slot u e is none few steps ends) = h
bare_kept trees turns w x inv h (Asks _ s t to k slot op hs is few needs free) = put_all_so BareSuspended w.pending s k (record { thread = t; segment = slot.segment }) h (runs_bare trees turns w s t slot inv is few)
bare_kept trees turns w x inv h (Serves _ w1 a b t k used depth self op kind loc m y o takes may does gives) = taken_bare w w1 (out_packet turns w inv.config a b (Request t k used depth self op) w1 inv.stands takes).pending h
bare_kept trees turns w x inv h (Enters _ w1 a b t k used depth self op kind loc m y z takes call does enters) = taken_bare w w1 (out_packet turns w inv.config a b (Request t k used depth self op) w1 inv.stands takes).pending h
bare_kept trees turns w x inv h (Holds _ w1 a b t k used depth self op takes) = taken_bare w w1 (out_packet turns w inv.config a b (Request t k used depth self op) w1 inv.stands takes).pending h
bare_kept trees turns w x inv h (Returns _ s t slot call o is answers out) = h
bare_kept trees turns w x inv h (Resumes _ w1 a b t k used o e op hs takes here needs) =
    drop_all_so BareSuspended w1.pending b k (taken_bare w w1 (out_packet turns w inv.config a b (Reply t k used o) w1 inv.stands takes).pending h)

pub every_run_bare : (trees : List BlockTree) (turns : ℕ) (w : World) → Run turns (world_at (windows 0 trees)) w → ArePendingBare w
every_run_bare trees turns w Begin = λ s k e is. absurd (cc is)
every_run_bare trees turns w (Then {v = v} run e) = bare_kept trees turns v w (every_run_stands trees turns v run) (every_run_bare trees turns v run) e

-- ---- the activations of a running segment's thread

pub running_activations : (turns : ℕ) (w : World) (c : Config) (s t : ℕ) (slot : Slot) → ArePendingBare w → Stands turns w c → w.running s t ≡ Some slot → thread_activations c t ≡ slot.segment.depth + activations_of slot.segment.window
running_activations turns w c s t slot h st is =
    let goes = (out_running turns w c s t slot st is).1 in
    let r = goes.reads in
    let f0 : Ref → ℕ = reading w.memory 0 in
    let gs : List (Frame ℕ) = around f0 r.links in
    let bare : AreBare gs = bare_around w t slot.segment.depth slot.segment.self slot.segment.answers r.links h r.chained f0 in
    ap (λ (o : Option ThreadState). elim o [ None ↦ 0 | Some state ↦ execution_activations state.execution ]) goes.here
    ∙ ap activations_of (r.same f0 (reading_agrees w.memory c.store st.memory 0))
    ∙ sym (zero_plus (activations_of (plug gs (map_term f0 slot.segment.window))))
    ∙ sym (activations_plug 0 gs (map_term f0 slot.segment.window) bare)
    ∙ ap (λ n. n + activations_of (map_term f0 slot.segment.window)) (chained_base w.pending t slot.segment.depth slot.segment.self slot.segment.answers r.links r.chained f0).depth
    ∙ ap (λ n. slot.segment.depth + n) (map_activations f0 slot.segment.window)

pub segment_activations : SegmentActivations
segment_activations trees turns w c s t slot run st is = running_activations turns w c s t slot (every_run_bare trees turns w run) st is
