-- What stands next in a segment stands next in the whole term: gs are the frames around it, and a and s are the activations and the current self there.
use Rattle.std.specs.Prelude.{List, None, Some, [], zero, suc, refl, ℕ, ◌++◌, ◌∷◌, ◌≡◌}
use Rattle.std.proofs.Common.{subst, ap, sym, ◌∙◌}
use Rattle.obq_model.specs.Terms.{Term}
use Rattle.obq_model.specs.Store.{same_loc}
use Rattle.obq_model.specs.Step.{Self, no_self, Operation, Frame, plug, Found, Next, Needs, Done, Uncaught, find, next_of, self_at, activations_at}
use Rattle.obq_model.specs.Maps.{map_term, map_self, map_operation, map_frames, map_found}
use Rattle.obq_model.specs.Replay.{after_pure}
use Rattle.obq_model.specs.Frames.{AreFrames, lifted, lifted_all, IsBusy}
use Rattle.obq_model.specs.Naturality.{Tells}
use Rattle.obq_model.proofs.Plug.{find_plug}
use Rattle.obq_model.proofs.Naturality.{map_find}
use Rattle.obq_stands.specs.World.{Ref, same_ref}
use Rattle.obq_stands.specs.Stands.{after_steps}

-- where a segment is: what lies around it fits its activations and current self
pub record Base (f : Ref → ℕ) (gs : List (Frame ℕ)) (a : ℕ) (s : Self Ref) : Type 0 where
  pub frames : AreFrames gs
  pub depth : activations_at 0 gs ≡ a
  pub self : self_at no_self gs ≡ map_self f s

lifted_next : (gs : List (Frame ℕ)) (t : Term ℕ) → lifted_all gs (Next t) ≡ Next (plug gs t)
lifted_next [] t = refl
lifted_next (g ∷ gs) t = ap (lifted g) (lifted_next gs t)

lifted_needs : (gs : List (Frame ℕ)) (op : Operation ℕ) (fs : List (Frame ℕ)) → lifted_all gs (Needs op fs) ≡ Needs op (gs ++ fs)
lifted_needs [] op fs = refl
lifted_needs (g ∷ gs) op fs = ap (lifted g) (lifted_needs gs op fs)

found_in : (f : Ref → ℕ) → Tells f same_ref same_loc → (gs : List (Frame ℕ)) (a : ℕ) (s : Self Ref) → Base f gs a s → (t : Term Ref) → IsBusy (map_found f (find same_ref a s t))
    → find same_loc 0 no_self (plug gs (map_term f t)) ≡ lifted_all gs (map_found f (find same_ref a s t))
found_in f tells gs a s b t h =
    let k : find same_loc (activations_at 0 gs) (self_at no_self gs) (map_term f t) ≡ map_found f (find same_ref a s t) =
    ap (λ n. find same_loc n (self_at no_self gs) (map_term f t)) b.depth ∙ ap (λ z. find same_loc a z (map_term f t)) b.self ∙ sym (map_find f same_ref same_loc tells a s t) in
    find_plug same_loc 0 no_self gs (map_term f t) b.frames (subst IsBusy (sym k) h) ∙ ap (lifted_all gs) k

pub step_in : (f : Ref → ℕ) → Tells f same_ref same_loc → (gs : List (Frame ℕ)) (a : ℕ) (s : Self Ref) → Base f gs a s → (t u : Term Ref) → find same_ref a s t ≡ Next u
    → find same_loc 0 no_self (plug gs (map_term f t)) ≡ Next (plug gs (map_term f u))
step_in f tells gs a s b t u e = found_in f tells gs a s b t (subst (λ x. IsBusy (map_found f x)) (sym e) tt) ∙ ap (λ x. lifted_all gs (map_found f x)) e ∙ lifted_next gs (map_term f u)

pub needs_in : (f : Ref → ℕ) → Tells f same_ref same_loc → (gs : List (Frame ℕ)) (a : ℕ) (s : Self Ref) → Base f gs a s → (t : Term Ref) (op : Operation Ref) (fs : List (Frame Ref)) → find same_ref a s t ≡ Needs op fs
    → find same_loc 0 no_self (plug gs (map_term f t)) ≡ Needs (map_operation f op) (gs ++ map_frames f fs)
needs_in f tells gs a s b t op fs e =
    found_in f tells gs a s b t (subst (λ x. IsBusy (map_found f x)) (sym e) tt) ∙ ap (λ x. lifted_all gs (map_found f x)) e ∙ lifted_needs gs (map_operation f op) (map_frames f fs)

-- at the bottom of a thread
pub found_alone : (f : Ref → ℕ) → Tells f same_ref same_loc → (t : Term Ref) → find same_loc 0 no_self (map_term f t) ≡ map_found f (find same_ref 0 no_self t)
found_alone f tells t = sym (map_find f same_ref same_loc tells 0 no_self t)

-- ---- n pure steps

steps_by : (f : Ref → ℕ) → Tells f same_ref same_loc → (gs : List (Frame ℕ)) (a : ℕ) (s : Self Ref) → Base f gs a s → (n : ℕ) (t u : Term Ref)
    → ((w : Term Ref) → after_steps a s n w ≡ Some u → after_pure n (plug gs (map_term f w)) ≡ Some (plug gs (map_term f u)))
    → (x : Found Ref) → find same_ref a s t ≡ x → after_steps a s (suc n) t ≡ Some u → after_pure (suc n) (plug gs (map_term f t)) ≡ Some (plug gs (map_term f u))
steps_by f tells gs a s b n t u again (Next w) k e =
    let e2 : after_steps a s n w ≡ Some u = sym (ap (λ o. elim (next_of o) [ None ↦ None | Some v ↦ after_steps a s n v ]) k) ∙ e in
    ap (λ o. elim (next_of o) [ None ↦ None | Some v ↦ after_pure n v ]) (step_in f tells gs a s b t w k) ∙ again w e2
steps_by f tells gs a s b n t u again (Needs op fs) k e = absurd (let e2 : None ≡ Some u = sym (ap (λ o. elim (next_of o) [ None ↦ None | Some v ↦ after_steps a s n v ]) k) ∙ e in cc e2)
steps_by f tells gs a s b n t u again (Done v) k e = absurd (let e2 : None ≡ Some u = sym (ap (λ o. elim (next_of o) [ None ↦ None | Some v ↦ after_steps a s n v ]) k) ∙ e in cc e2)
steps_by f tells gs a s b n t u again (Uncaught r) k e = absurd (let e2 : None ≡ Some u = sym (ap (λ o. elim (next_of o) [ None ↦ None | Some v ↦ after_steps a s n v ]) k) ∙ e in cc e2)

pub steps_in : (f : Ref → ℕ) → Tells f same_ref same_loc → (gs : List (Frame ℕ)) (a : ℕ) (s : Self Ref) → Base f gs a s → (n : ℕ) (t u : Term Ref) → after_steps a s n t ≡ Some u
    → after_pure n (plug gs (map_term f t)) ≡ Some (plug gs (map_term f u))
steps_in f tells gs a s b zero t u e = let same : t ≡ u = cc e in ap (λ x. Some (plug gs (map_term f x))) same
steps_in f tells gs a s b (suc n) t u e = steps_by f tells gs a s b n t u (λ w. steps_in f tells gs a s b n w u) (find same_ref a s t) refl e
