-- The report and the output of the configuration are those that the site and the slots tell.
use Rattle.std.specs.Prelude.{List, None, Option, Some, [], length, refl, slice_get, ℕ, ◌<◌, ◌∷◌, ◌≡◌, ◌⊎◌}
use Rattle.std.proofs.Common.{ap, arith, inl, inr, subst, sym, ◌∙◌}
use Rattle.std.proofs.lemmas.Option.{slice_get-get_or}
use Rattle.obq_base.specs.Tree.{BlockTree}
use Rattle.obq_base.specs.declared.acts.Report.{Report}
use Rattle.obq_model.specs.Cells.{written}
use Rattle.obq_model.specs.Config.{Failed, ThreadState}
use Rattle.obq_model.specs.Replay.{replay}
use Rattle.obq_model.specs.Terms.{Bytes}
use Rattle.obq_stands.specs.Facts.{IsAtPlace, report_from}
use Rattle.obq_stands.specs.Sites.{assembled}
use Rattle.obq_stands.specs.Stands.{Absent, At, EndedAt, HasPlace, InLine, IsIn, IsSomewhere, Nowhere, Place, StandsAt, WaitsAt}
use Rattle.obq_stands.specs.World.{Ending, Packet, Slot}
use Rattle.obq_stands.proofs.Reports.{output_known, report_known}
use Rattle.obq_stands.proofs.Update.{same_or}
use Rattle.obq_world.specs.Acts.{TellsText}
use Rattle.obq_world.specs.Meaning.{Meaning}
use Rattle.obq_world.specs.Reports.{IsShown, Outputs, Reports}
use Rattle.obq_world.specs.State.{State, WorldStands, used_in}
use Rattle.obq_world.proofs.Reading.{running, windowed}

-- a thread that is there is at a place that the site and the slots show
record Shown {C W S : Type 0} (m : Meaning C W S) (blocks : List BlockTree) (turns : ℕ) (w : State S) (inv : WorldStands m blocks turns w) (t : ℕ) (place : Place) : Type 0 where
  shown : IsShown m w.site w.slots t place
  at : IsAtPlace (assembled inv.sites inv.rest) t place

no_thread : (ts : List ThreadState) (t : ℕ) → t < length ts → slice_get ts t ≡ None → ⊥
no_thread ts t lt none = let some = slice_get-get_or ts t (record { execution = Failed []; used = 0 }) lt in cc (none, some)

one_ended : (o : Option Ending) → ((e : Ending) → o ≡ Some e → ⊥) → o ≡ None
one_ended None never = refl
one_ended (Some e) never = absurd (never e refl)

no_packet : (ps : List Packet) (p : Packet) → ps ≡ [] → IsIn p ps → ⊥
no_packet [] p e h = h
no_packet (q ∷ qs) p e h = absurd (cc e)

runs_at_home : {C W S : Type 0} (m : Meaning C W S) (blocks : List BlockTree) (turns : ℕ) (w : State S) (inv : WorldStands m blocks turns w) (s t : ℕ) (slot : Slot) → (inv.sites s).running t ≡ Some slot → ((s ≡ 0) ⊎ (s ≡ 0 → ⊥)) → (inv.sites 0).running t ≡ Some slot
runs_at_home m blocks turns w inv s t slot e (inl p) = sym (ap (λ k. (inv.sites k).running t) p) ∙ e
runs_at_home m blocks turns w inv s t slot e (inr ne) = let no = inv.alone.runs s t ne in absurd (cc (no, e))

ends_at_home : {C W S : Type 0} (m : Meaning C W S) (blocks : List BlockTree) (turns : ℕ) (w : State S) (inv : WorldStands m blocks turns w) (s t : ℕ) (e : Ending) → (inv.sites s).ended t ≡ Some e → ((s ≡ 0) ⊎ (s ≡ 0 → ⊥)) → (inv.sites 0).ended t ≡ Some e
ends_at_home m blocks turns w inv s t e at (inl p) = sym (ap (λ k. (inv.sites k).ended t) p) ∙ at
ends_at_home m blocks turns w inv s t e at (inr ne) = let no = inv.alone.ends s t ne in absurd (cc (no, at))

shown_at : {C W S : Type 0} (m : Meaning C W S) (blocks : List BlockTree) (turns : ℕ) (w : State S) (inv : WorldStands m blocks turns w) (t : ℕ) → t < length w.slots
    → (place : Place) → inv.stands.stands.place t ≡ place → IsSomewhere place → StandsAt turns (assembled inv.sites inv.rest).memory.heap (assembled inv.sites inv.rest).pending t (slice_get inv.stands.config.threads t) place
    → HasPlace (assembled inv.sites inv.rest).running (assembled inv.sites inv.rest).waiting (assembled inv.sites inv.rest).ended (assembled inv.sites inv.rest).lines t place → Shown m blocks turns w inv t place
shown_at m blocks turns w inv t lt Nowhere is some stands has = absurd some
shown_at m blocks turns w inv t lt Absent is some none has =
    let n = inv.stands.stands.counted in
    let k = inv.threads in
    absurd (no_thread inv.stands.config.threads t (omega (arith, lt, n, k)) none)
shown_at m blocks turns w inv t lt (At s slot) is some stands has =
    let here = runs_at_home m blocks turns w inv s t slot has (same_or s 0) in
    let at = windowed m (used_in (slice_get w.slots t)) (m.windows w.site t) ((inv.sites 0).running t) slot (inv.reads.threads t) here in
    let r = running m (used_in (slice_get w.slots t)) (m.windows w.site t) ((inv.sites 0).running t) at.0 (inv.reads.threads t) at.1 in
    let same : r.slot ≡ slot = let h = r.here in cc (h, here) in
    let none : (inv.sites 0).ended t ≡ None = one_ended ((inv.sites 0).ended t) (λ e kept. let p = inv.stands.stands.placed.ends 0 t e kept in cc (p, is)) in
    record { shown = (subst (m.ended w.site t) none (inv.reads.ended t), sym (ap (λ (y : Slot). y.used) same) ∙ r.segment.same); at = has }
shown_at m blocks turns w inv t lt (InLine a b q) is some stands has = absurd (no_packet (inv.rest.lines a b) q (inv.alone.lines a b) has.1)
shown_at m blocks turns w inv t lt (WaitsAt b x) is some stands has = let no = inv.alone.waits b t in absurd (cc (no, has))
shown_at m blocks turns w inv t lt (EndedAt s e) is some stands has =
    record { shown = subst (m.ended w.site t) (ends_at_home m blocks turns w inv s t e has (same_or s 0)) (inv.reads.ended t); at = has }

pub reported : {C W S : Type 0} (m : Meaning C W S) (blocks : List BlockTree) (turns limit : ℕ) (w : State S) (r : Report) → WorldStands m blocks turns w → limit ≡ turns
    → ((place : ℕ → Place) → ((t : ℕ) → t < length w.slots → IsShown m w.site w.slots t (place t)) → r ≡ report_from limit place 0 (length w.slots)) → Reports blocks turns w.journal r
reported m blocks turns limit w r inv same told =
    let s = inv.stands.stands in
    let counted = told s.place (λ t lt. (all t lt).shown) in
    let known = report_known turns (assembled inv.sites inv.rest) inv.stands.config s.place s (λ t lt. (all t (subst (λ n. t < n) inv.threads lt)).at) in (
      inv.stands.config,
      subst (λ j. replay blocks turns j ≡ Some inv.stands.config) inv.journal inv.stands.replays,
      known ∙ ap (report_from turns s.place 0) inv.threads ∙ sym (counted ∙ ap (λ n. report_from n s.place 0 (length w.slots)) same),
    )
  where
    all : (t : ℕ) → t < length w.slots → Shown m blocks turns w inv t (inv.stands.stands.place t)
    all t lt = let s = inv.stands.stands in shown_at m blocks turns w inv t lt (s.place t) refl (s.settled t) (s.threads t) (s.placed.back t)

pub put_out : {C W S : Type 0} (m : Meaning C W S) (blocks : List BlockTree) (turns sites k : ℕ) (w : State S) (text : Bytes) → WorldStands m blocks turns w → sites ≡ 1 → k < 1 → TellsText m w.site text → Outputs blocks turns sites w.journal k text
put_out m blocks turns sites k w text inv one lt tells =
    let first : k ≡ 0 = omega (arith, lt) in
    let own = inv.writers 0 (omega arith) in
    let known = output_known turns 1 (assembled inv.sites inv.rest) inv.stands.config 0 own.0 inv.stands.stands inv.writers (omega arith) own.1 in
    let same : text ≡ written (Some own.0.cell) = tells (inv.sites 0).heap own.0 inv.reads.heap own.1 in
    rw (one, first, same) (inv.stands.config, subst (λ j. replay blocks turns j ≡ Some inv.stands.config) inv.journal inv.stands.replays, known)
