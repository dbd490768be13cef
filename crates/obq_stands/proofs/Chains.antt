-- Chains of suspended segments when one pending call changes, and what lies around the innermost segment.
use Rattle.std.specs.Prelude.{List, Option, Some, None, [], ◌∷◌, ℕ, refl, ◌≡◌}
use Rattle.std.proofs.Common.{ap, sym, ◌∙◌}
use Rattle.obq_model.specs.Step.{Self, no_self, self_at, activations_at}
use Rattle.obq_model.specs.Maps.{map_self, map_frames}
use Rattle.obq_model.proofs.Naturality.{map_self_at, map_activations_at, map_are_frames}
use Rattle.obq_stands.specs.World.{at2, Ref, same_ref, PendingCall, Suspended}
use Rattle.obq_stands.specs.Stands.{Table, Link, Fresh, Chained, around}
use Rattle.obq_stands.proofs.Update.{at2_other}
use Rattle.obq_model.proofs.Found.{needs_frames}
use Rattle.obq_stands.proofs.Inside.{Base}
use Rattle.obq_model.proofs.Plug.{self_append, activations_append, frames_append}

-- a change at a call that is none of the links
pub chained_at2 : (p : Table) (s k : ℕ) (x : Option Suspended) (t d : ℕ) (self : Self Ref) (a : Option PendingCall) (ls : List Link) → Fresh s k ls → Chained p t d self a ls → Chained (at2 p s k x) t d self a ls
chained_at2 p s k x t d self None [] fresh h = h
chained_at2 p s k x t d self None (l ∷ ls) fresh h = absurd h
chained_at2 p s k x t d self (Some c) [] fresh h = absurd h
chained_at2 p s k x t d self (Some c) (l ∷ ls) fresh h =
    (h.0, record { here = at2_other p s k x l.key.site l.key.number fresh.0 ∙ h.1.here; needs = h.1.needs }, h.2, h.3, h.4, chained_at2 p s k x t l.segment.depth l.segment.self l.segment.answers ls fresh.1 h.5)

-- a call that isn't pending is no link
pub free_is_fresh : (p : Table) (s k : ℕ) → p s k ≡ None → (t d : ℕ) (self : Self Ref) (a : Option PendingCall) (ls : List Link) → Chained p t d self a ls → Fresh s k ls
free_is_fresh p s k none t d self None [] h = tt
free_is_fresh p s k none t d self None (l ∷ ls) h = absurd h
free_is_fresh p s k none t d self (Some c) [] h = absurd h
free_is_fresh p s k none t d self (Some c) (l ∷ ls) h =
    ((λ e f. let q : p s k ≡ Some (record { thread = t; segment = l.segment }) = sym (rw (e, f) refl) ∙ h.1.here in absurd (cc (q, none))), free_is_fresh p s k none t l.segment.depth l.segment.self l.segment.answers ls h.5)

-- a call of another thread is no link
pub other_is_fresh : (p : Table) (s k : ℕ) (e : Suspended) → p s k ≡ Some e → (t : ℕ) → (t ≡ e.thread → ⊥) → (d : ℕ) (self : Self Ref) (a : Option PendingCall) (ls : List Link) → Chained p t d self a ls → Fresh s k ls
other_is_fresh p s k e is t ne d self None [] h = tt
other_is_fresh p s k e is t ne d self None (l ∷ ls) h = absurd h
other_is_fresh p s k e is t ne d self (Some c) [] h = absurd h
other_is_fresh p s k e is t ne d self (Some c) (l ∷ ls) h =
    ((λ g f. let q : p s k ≡ Some (record { thread = t; segment = l.segment }) = sym (rw (g, f) refl) ∙ h.1.here in ne (cc (q, is))), other_is_fresh p s k e is t ne l.segment.depth l.segment.self l.segment.answers ls h.5)

-- the activations and the current self with which the innermost segment began are those at the hole of all that lies around
pub chained_base : (p : Table) (t d : ℕ) (self : Self Ref) (a : Option PendingCall) (ls : List Link) → Chained p t d self a ls → (f : Ref → ℕ) → Base f (around f ls) d self
chained_base p t d self None [] h f = record { frames = tt; depth = sym h.0; self = ap (map_self f) (sym h.1) }
chained_base p t d self None (l ∷ ls) h f = absurd h
chained_base p t d self (Some c) [] h f = absurd h
chained_base p t d self (Some c) (l ∷ ls) h f =
    let b : Base f (around f ls) l.segment.depth l.segment.self = chained_base p t l.segment.depth l.segment.self l.segment.answers ls h.5 f in
    record {
      frames = frames_append (around f ls) (map_frames f l.frames) b.frames (map_are_frames f l.frames (needs_frames same_ref l.segment.depth l.segment.self l.segment.window l.op l.frames h.1.needs).0);
      depth = activations_append 0 (around f ls) (map_frames f l.frames)
          ∙ ap (λ n. activations_at n (map_frames f l.frames)) b.depth
          ∙ map_activations_at f l.segment.depth l.frames
          ∙ sym h.3;
      self = self_append no_self (around f ls) (map_frames f l.frames)
          ∙ ap (λ z. self_at z (map_frames f l.frames)) b.self
          ∙ sym (map_self_at f l.segment.self l.frames)
          ∙ ap (map_self f) (sym h.4);
    }

-- a segment that answers nothing has nothing around it
pub bottom : (p : Table) (t d : ℕ) (self : Self Ref) (a : Option PendingCall) (ls : List Link) → a ≡ None → Chained p t d self a ls → (ls ≡ []) × (d ≡ 0) × (self ≡ no_self)
bottom p t d self None [] e h = (refl, h.0, h.1)
bottom p t d self None (l ∷ ls) e h = absurd h
bottom p t d self (Some c) ls e h = absurd (cc e)
