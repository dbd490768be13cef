-- Frames with more binders in force behind them, and under more values.
use Rattle.std.specs.Prelude.{List, [], length, refl, suc, take, zero, ℕ, ◌++◌, ◌+◌, ◌∷◌, ◌≡◌, ◌≤◌, ◌⊎◌}
use Rattle.std.proofs.Common.{ap, arith, inl, inr, length-append, subst, sym, ◌∙◌}
use Rattle.std.proofs.lemmas.List.{take_all}
use Rattle.obq_base.specs.Tree.{AnItem, NoItems}
use Rattle.obq_model.specs.Effect.{kept}
use Rattle.obq_windows.specs.Agrees.{FrameIs, FramesAre, IsBound, PlaceIs, act_behind, height_behind}
use Rattle.obq_windows.specs.Places.{Bound, Place, bound_values}
use Rattle.obq_windows.specs.Trees.{PendingArguments, PendingAssign, PendingCalled, PendingChain, PendingCount, PendingEach, PendingField, PendingFirst, PendingForeach, PendingForm, PendingGuard, PendingHead, PendingIf, PendingKept, PendingLast, PendingLet, PendingLoop, PendingObject, PendingRaise, PendingRight, PendingTesting, PendingThen, PendingTo, PendingTry, PendingVar, PendingWatch, PendingWithin, TreeFrame}
use Rattle.obq_windows.specs.Values.{PlainValue, Table}
use Rattle.obq_windows.specs.Windows.{Activation, NodeArguments, NodeAssign, NodeCalled, NodeChain, NodeCount, NodeEach, NodeField, NodeFirst, NodeForeach, NodeFrame, NodeGuard, NodeHead, NodeIf, NodeKept, NodeLast, NodeLet, NodeLoop, NodeObject, NodeRaise, NodeRight, NodeTesting, NodeThen, NodeTo, NodeTry, NodeVar, NodeWatch, NodeWithin, Store, bind}

-- ---- more binders in force

at_most : (h b c : ℕ) → h ≤ b → b ≤ c → h ≤ c
at_most h b c k l = omega (arith, k, l)

frame_up : {R : Type 0} → (T : Table R) (S : Store R) (act : Activation R) (b c : ℕ) (f : NodeFrame R) (p : Place R) (pending : PendingForm R) → b ≤ c → FrameIs T S act b f p pending → FrameIs T S act c f p pending
frame_up T S act b c f p (PendingThen NoItems) l h = absurd h
frame_up T S act b c f p (PendingThen (AnItem i is)) l h = (h.0, h.1, h.2, at_most _ b c h.3 l, h.4, h.5)
frame_up T S act b c f p (PendingLet x bs is) l h = (h.0, h.1, h.2, h.3, at_most _ b c h.4 l, h.5, h.6, h.7)
frame_up T S act b c f p (PendingObject flags done x other rest) l h = (h.0, h.1, h.2, h.3, at_most _ b c h.4 l, h.5, h.6, h.7)
frame_up T S act b c f p (PendingVar x bs is) l h = (h.0, h.1, h.2, h.3, at_most _ b c h.4 l, h.5, h.6, h.7)
frame_up T S act b c f p (PendingIf block arms last) l h = (h.0, h.1, h.2, at_most _ b c h.3 l, h.4, h.5)
frame_up T S act b c f p (PendingChain op e links) l h = (h.0, h.1, h.2, h.3, h.4, at_most _ b c h.5 l, h.6, h.7, h.8, h.9, h.10)
frame_up T S act b c f p (PendingRight v op) l h = h
frame_up T S act b c f p (PendingHead x ss) l h = (h.0, h.1, h.2, at_most _ b c h.3 l, h.4, h.5)
frame_up T S act b c f p (PendingArguments callee done es) l h = (h.0, h.1, h.2, at_most _ b c h.3 l, h.4, h.5)
frame_up T S act b c f p PendingRaise l h = h
frame_up T S act b c f p PendingCalled l h = h
frame_up T S act b c f p (PendingWithin o m) l h = h
frame_up T S act b c f p (PendingTry arms last) l h = (h.0, h.1, h.2, at_most _ b c h.3 l, h.4, h.5)
frame_up T S act b c f p (PendingGuard e block arms last) l h = (h.0, h.1, h.2, at_most _ b c h.3 l, h.4, h.5)
frame_up T S act b c f p (PendingLast block) l h = (h.0, h.1, h.2, at_most _ b c h.3 l, h.4, h.5)
frame_up T S act b c f p (PendingTesting o d e) l h = (h.0, h.1, h.2, at_most _ b c h.3 l, h.4, h.5)
frame_up T S act b c f p (PendingWatch e) l h = (h.0, h.1, h.2, at_most _ b c h.3 l, h.4, h.5)
frame_up T S act b c f p (PendingField x body) l h = (h.0, h.1, h.2, at_most _ b c h.3 l, h.4, h.5)
frame_up T S act b c f p (PendingKept k) l h = h
frame_up T S act b c f p (PendingAssign x) l h = (h.0, h.1, at_most _ b c h.2 l, h.3)
frame_up T S act b c f p (PendingLoop block) l h = (h.0, h.1, h.2, at_most _ b c h.3 l, h.4, h.5)
frame_up T S act b c f p (PendingFirst x e block) l h = (h.0, h.1, h.2, at_most _ b c h.3 l, h.4, h.5)
frame_up T S act b c f p (PendingTo first x block) l h = (h.0, h.1, h.2, at_most _ b c h.3 l, h.4, h.5)
frame_up T S act b c f p (PendingCount i n x block) l h = (h.0, h.1, h.2, at_most _ b c h.3 l, h.4, h.5)
frame_up T S act b c f p (PendingEach r i n x block) l h = (h.0, h.1, h.2, at_most _ b c h.3 l, h.4, h.5)
frame_up T S act b c f p (PendingForeach x block) l h = (h.0, h.1, h.2, at_most _ b c h.3 l, h.4, h.5)

heights : {R : Type 0} → (b c : ℕ) (f : NodeFrame R) → (height_behind b f ≡ height_behind c f) ⊎ ((height_behind b f ≡ b) × (c ≡ height_behind c f))
heights b c (NodeThen at left h) = inl refl
heights b c (NodeLet child left at items h) = inl refl
heights b c (NodeObject flags done x other names child h) = inl refl
heights b c (NodeVar child left at items h) = inl refl
heights b c (NodeIf child arms last h) = inl refl
heights b c (NodeChain chain index child h) = inl refl
heights b c (NodeRight v op) = inr (refl, refl)
heights b c (NodeHead at left h) = inl refl
heights b c (NodeArguments callee done child left h) = inl refl
heights b c NodeRaise = inr (refl, refl)
heights b c (NodeCalled caller) = inl refl
heights b c (NodeWithin caller o m) = inl refl
heights b c (NodeTry child arms last h) = inl refl
heights b c (NodeGuard e child arms last h) = inl refl
heights b c (NodeLast child h) = inl refl
heights b c (NodeTesting o d child h) = inl refl
heights b c (NodeWatch child h) = inl refl
heights b c (NodeKept k) = inr (refl, refl)
heights b c (NodeLoop child h) = inl refl
heights b c (NodeAssign slot h) = inl refl
heights b c (NodeField x child h) = inl refl
heights b c (NodeFirst child h) = inl refl
heights b c (NodeTo first child h) = inl refl
heights b c (NodeCount i n child h) = inl refl
heights b c (NodeEach r i n child h) = inl refl
heights b c (NodeForeach child h) = inl refl

pub frames_up : {R : Type 0} → (T : Table R) (S : Store R) (act : Activation R) (b c : ℕ) (ns : List (NodeFrame R)) (fs : List (TreeFrame R)) → b ≤ c → FramesAre T S act b ns fs → FramesAre T S act c ns fs
frames_up T S act b c ns [] l h = h
frames_up {R} T S act b c ns (t ∷ fs) l h = (
  h.0,
  h.1,
  h.2,
  frame_up T S act b c h.0 t.place t.pending l h.3,
  elim (heights b c h.0) [
    | inl e ↦ subst (λ (n : ℕ). FramesAre T S (act_behind act h.0) n h.1 fs) e h.4
    | inr e ↦ subst (λ (n : ℕ). FramesAre T S (act_behind act h.0) n h.1 fs) e.1 (frames_up T S (act_behind act h.0) b c h.1 fs l (subst (λ (n : ℕ). FramesAre T S (act_behind act h.0) n h.1 fs) e.0 h.4))
  ],
)

-- ---- more values above

take_over : {A : Type 0} → (k h : ℕ) (l vs : List A) → k ≤ h → length (take k l) ≡ k → take k (take h l ++ vs) ≡ take k l
take_over zero h l vs e q = refl
take_over (suc k) zero l vs e q = absurd (none k e) where
  none : (k : ℕ) → suc k ≤ 0 → ⊥
  none k e = omega (arith, e)
take_over (suc k) (suc h) [] vs e q = absurd (none k q) where
  none : (k : ℕ) → 0 ≡ suc k → ⊥
  none k e = omega (arith, e)
take_over (suc k) (suc h) (x ∷ l) vs e q = ap (λ z. x ∷ z) (take_over k h l vs (omega (arith, e)) (omega (arith, q)))

pub length_values : {R : Type 0} → (bs : List (Bound R)) → length (bound_values bs) ≡ length bs
length_values [] = refl
length_values (b ∷ bs) = ap suc (length_values bs)

pub place_kept : {R : Type 0} → (act : Activation R) (k h : ℕ) (vs : List (PlainValue R)) (p : Place R) → k ≤ h → PlaceIs act k p → PlaceIs (bind act h vs) k p
place_kept {R} act k h vs p l w = (w.0, w.1, record { values = take_over k h act.locals vs l (ap length w.2.values ∙ length_values w.0 ∙ sym w.2.many) ∙ w.2.values; many = w.2.many })

frame_kept : {R : Type 0} → (T : Table R) (S : Store R) (act : Activation R) (b h : ℕ) (vs : List (PlainValue R)) (f : NodeFrame R) (p : Place R) (pending : PendingForm R) → b ≤ h → FrameIs T S act b f p pending → FrameIs T S (bind act h vs) b f p pending
frame_kept T S act b h vs f p (PendingThen NoItems) l k = absurd k
frame_kept T S act b h vs f p (PendingThen (AnItem i is)) l k = (k.0, k.1, k.2, k.3, place_kept act _ h vs p (at_most _ b h k.3 l) k.4, k.5)
frame_kept T S act b h vs f p (PendingLet x bs is) l k = (k.0, k.1, k.2, k.3, k.4, place_kept act _ h vs p (at_most _ b h k.4 l) k.5, k.6, k.7)
frame_kept T S act b h vs f p (PendingObject flags done x other rest) l k = (k.0, k.1, k.2, k.3, k.4, place_kept act _ h vs p (at_most _ b h k.4 l) k.5, k.6, k.7)
frame_kept T S act b h vs f p (PendingVar x bs is) l k = (k.0, k.1, k.2, k.3, k.4, place_kept act _ h vs p (at_most _ b h k.4 l) k.5, k.6, k.7)
frame_kept T S act b h vs f p (PendingIf block arms last) l k = (k.0, k.1, k.2, k.3, place_kept act _ h vs p (at_most _ b h k.3 l) k.4, k.5)
frame_kept T S act b h vs f p (PendingChain op e links) l k = (k.0, k.1, k.2, k.3, k.4, k.5, place_kept act _ h vs p (at_most _ b h k.5 l) k.6, k.7, k.8, k.9, k.10)
frame_kept T S act b h vs f p (PendingRight v op) l k = k
frame_kept T S act b h vs f p (PendingHead x ss) l k = (k.0, k.1, k.2, k.3, place_kept act _ h vs p (at_most _ b h k.3 l) k.4, k.5)
frame_kept T S act b h vs f p (PendingArguments callee done es) l k = (k.0, k.1, k.2, k.3, place_kept act _ h vs p (at_most _ b h k.3 l) k.4, k.5)
frame_kept T S act b h vs f p PendingRaise l k = k
frame_kept T S act b h vs f p PendingCalled l k = k
frame_kept T S act b h vs f p (PendingWithin o m) l k = k
frame_kept T S act b h vs f p (PendingTry arms last) l k = (k.0, k.1, k.2, k.3, place_kept act _ h vs p (at_most _ b h k.3 l) k.4, k.5)
frame_kept T S act b h vs f p (PendingGuard e block arms last) l k = (k.0, k.1, k.2, k.3, place_kept act _ h vs p (at_most _ b h k.3 l) k.4, k.5)
frame_kept T S act b h vs f p (PendingLast block) l k = (k.0, k.1, k.2, k.3, place_kept act _ h vs p (at_most _ b h k.3 l) k.4, k.5)
frame_kept T S act b h vs f p (PendingTesting o d e) l k = (k.0, k.1, k.2, k.3, place_kept act _ h vs p (at_most _ b h k.3 l) k.4, k.5)
frame_kept T S act b h vs f p (PendingWatch e) l k = (k.0, k.1, k.2, k.3, place_kept act _ h vs p (at_most _ b h k.3 l) k.4, k.5)
frame_kept T S act b h vs f p (PendingField x body) l k = (k.0, k.1, k.2, k.3, place_kept act _ h vs p (at_most _ b h k.3 l) k.4, k.5)
frame_kept T S act b h vs f p (PendingKept kept) l k = k
frame_kept T S act b h vs f p (PendingAssign x) l k = (k.0, k.1, k.2, place_kept act _ h vs p (at_most _ b h k.2 l) k.3)
frame_kept T S act b h vs f p (PendingLoop block) l k = (k.0, k.1, k.2, k.3, place_kept act _ h vs p (at_most _ b h k.3 l) k.4, k.5)
frame_kept T S act b h vs f p (PendingFirst x e block) l k = (k.0, k.1, k.2, k.3, place_kept act _ h vs p (at_most _ b h k.3 l) k.4, k.5)
frame_kept T S act b h vs f p (PendingTo first x block) l k = (k.0, k.1, k.2, k.3, place_kept act _ h vs p (at_most _ b h k.3 l) k.4, k.5)
frame_kept T S act b h vs f p (PendingCount i n x block) l k = (k.0, k.1, k.2, k.3, place_kept act _ h vs p (at_most _ b h k.3 l) k.4, k.5)
frame_kept T S act b h vs f p (PendingEach r i n x block) l k = (k.0, k.1, k.2, k.3, place_kept act _ h vs p (at_most _ b h k.3 l) k.4, k.5)
frame_kept T S act b h vs f p (PendingForeach x block) l k = (k.0, k.1, k.2, k.3, place_kept act _ h vs p (at_most _ b h k.3 l) k.4, k.5)

-- behind a frame of the same activation no more binders are in force
frame_low : {R : Type 0} → (T : Table R) (S : Store R) (act : Activation R) (b : ℕ) (f : NodeFrame R) (p : Place R) (pending : PendingForm R) → FrameIs T S act b f p pending → (height_behind b f ≤ b) ⊎ ((z : Activation R) → act_behind act f ≡ act_behind z f)
frame_low T S act b f p (PendingThen NoItems) k = absurd k
frame_low {R} T S act b f p (PendingThen (AnItem i is)) k = inl (subst (λ (z : NodeFrame R). height_behind b z ≤ b) (sym k.2) k.3)
frame_low {R} T S act b f p (PendingLet x bs is) k = inl (subst (λ (z : NodeFrame R). height_behind b z ≤ b) (sym k.3) k.4)
frame_low {R} T S act b f p (PendingObject flags done x other rest) k = inl (subst (λ (z : NodeFrame R). height_behind b z ≤ b) (sym k.3) k.4)
frame_low {R} T S act b f p (PendingVar x bs is) k = inl (subst (λ (z : NodeFrame R). height_behind b z ≤ b) (sym k.3) k.4)
frame_low {R} T S act b f p (PendingIf block arms last) k = inl (subst (λ (z : NodeFrame R). height_behind b z ≤ b) (sym k.2) k.3)
frame_low {R} T S act b f p (PendingChain op e links) k = inl (subst (λ (z : NodeFrame R). height_behind b z ≤ b) (sym k.4) k.5)
frame_low {R} T S act b f p (PendingRight v op) k = inl (subst (λ (z : NodeFrame R). height_behind b z ≤ b) (sym k) (omega arith))
frame_low {R} T S act b f p (PendingHead x ss) k = inl (subst (λ (z : NodeFrame R). height_behind b z ≤ b) (sym k.2) k.3)
frame_low {R} T S act b f p (PendingArguments callee done es) k = inl (subst (λ (z : NodeFrame R). height_behind b z ≤ b) (sym k.2) k.3)
frame_low {R} T S act b f p PendingRaise k = inl (subst (λ (z : NodeFrame R). height_behind b z ≤ b) (sym k) (omega arith))
frame_low {R} T S act b f p PendingCalled k = inr (λ z. ap (λ (g : NodeFrame R). act_behind act g) k.1 ∙ sym (ap (λ (g : NodeFrame R). act_behind z g) k.1))
frame_low {R} T S act b f p (PendingWithin o m) k = inr (λ z. ap (λ (g : NodeFrame R). act_behind act g) k.1 ∙ sym (ap (λ (g : NodeFrame R). act_behind z g) k.1))
frame_low {R} T S act b f p (PendingTry arms last) k = inl (subst (λ (z : NodeFrame R). height_behind b z ≤ b) (sym k.2) k.3)
frame_low {R} T S act b f p (PendingGuard e block arms last) k = inl (subst (λ (z : NodeFrame R). height_behind b z ≤ b) (sym k.2) k.3)
frame_low {R} T S act b f p (PendingLast block) k = inl (subst (λ (z : NodeFrame R). height_behind b z ≤ b) (sym k.2) k.3)
frame_low {R} T S act b f p (PendingTesting o d e) k = inl (subst (λ (z : NodeFrame R). height_behind b z ≤ b) (sym k.2) k.3)
frame_low {R} T S act b f p (PendingWatch e) k = inl (subst (λ (z : NodeFrame R). height_behind b z ≤ b) (sym k.2) k.3)
frame_low {R} T S act b f p (PendingField x body) k = inl (subst (λ (z : NodeFrame R). height_behind b z ≤ b) (sym k.2) k.3)
frame_low {R} T S act b f p (PendingKept kept) k = inl (subst (λ (z : NodeFrame R). height_behind b z ≤ b) (sym k) (omega arith))
frame_low {R} T S act b f p (PendingAssign x) k = inl (subst (λ (z : NodeFrame R). height_behind b z ≤ b) (sym k.1) k.2)
frame_low {R} T S act b f p (PendingLoop block) k = inl (subst (λ (z : NodeFrame R). height_behind b z ≤ b) (sym k.2) k.3)
frame_low {R} T S act b f p (PendingFirst x e block) k = inl (subst (λ (z : NodeFrame R). height_behind b z ≤ b) (sym k.2) k.3)
frame_low {R} T S act b f p (PendingTo first x block) k = inl (subst (λ (z : NodeFrame R). height_behind b z ≤ b) (sym k.2) k.3)
frame_low {R} T S act b f p (PendingCount i n x block) k = inl (subst (λ (z : NodeFrame R). height_behind b z ≤ b) (sym k.2) k.3)
frame_low {R} T S act b f p (PendingEach r i n x block) k = inl (subst (λ (z : NodeFrame R). height_behind b z ≤ b) (sym k.2) k.3)
frame_low {R} T S act b f p (PendingForeach x block) k = inl (subst (λ (z : NodeFrame R). height_behind b z ≤ b) (sym k.2) k.3)

acts : {R : Type 0} → (act : Activation R) (h : ℕ) (vs : List (PlainValue R)) (f : NodeFrame R) → ((act_behind act f ≡ act) × (bind act h vs ≡ act_behind (bind act h vs) f)) ⊎ (act_behind act f ≡ act_behind (bind act h vs) f)
acts act h vs (NodeThen at left hh) = inl (refl, refl)
acts act h vs (NodeLet child left at items hh) = inl (refl, refl)
acts act h vs (NodeObject flags done x other names child hh) = inl (refl, refl)
acts act h vs (NodeVar child left at items hh) = inl (refl, refl)
acts act h vs (NodeIf child arms last hh) = inl (refl, refl)
acts act h vs (NodeChain chain index child hh) = inl (refl, refl)
acts act h vs (NodeRight v op) = inl (refl, refl)
acts act h vs (NodeHead at left hh) = inl (refl, refl)
acts act h vs (NodeArguments callee done child left hh) = inl (refl, refl)
acts act h vs NodeRaise = inl (refl, refl)
acts act h vs (NodeCalled caller) = inr refl
acts act h vs (NodeWithin caller o m) = inr refl
acts act h vs (NodeTry child arms last hh) = inl (refl, refl)
acts act h vs (NodeGuard e child arms last hh) = inl (refl, refl)
acts act h vs (NodeLast child hh) = inl (refl, refl)
acts act h vs (NodeTesting o d child hh) = inl (refl, refl)
acts act h vs (NodeWatch child hh) = inl (refl, refl)
acts act h vs (NodeKept k) = inl (refl, refl)
acts act h vs (NodeLoop child hh) = inl (refl, refl)
acts act h vs (NodeAssign slot hh) = inl (refl, refl)
acts act h vs (NodeField x child hh) = inl (refl, refl)
acts act h vs (NodeFirst child hh) = inl (refl, refl)
acts act h vs (NodeTo first child hh) = inl (refl, refl)
acts act h vs (NodeCount i n child hh) = inl (refl, refl)
acts act h vs (NodeEach r i n child hh) = inl (refl, refl)
acts act h vs (NodeForeach child hh) = inl (refl, refl)

pub frames_kept : {R : Type 0} → (T : Table R) (S : Store R) (act : Activation R) (b h : ℕ) (vs : List (PlainValue R)) (ns : List (NodeFrame R)) (fs : List (TreeFrame R)) → b ≤ h → FramesAre T S act b ns fs → FramesAre T S (bind act h vs) b ns fs
frames_kept T S act b h vs ns [] l k = k
frames_kept {R} T S act b h vs ns (t ∷ fs) l k = (
  k.0,
  k.1,
  k.2,
  frame_kept T S act b h vs k.0 t.place t.pending l k.3,
  elim (frame_low T S act b k.0 t.place t.pending k.3) [
    | inr c ↦ subst (λ (z : Activation R). FramesAre T S z (height_behind b k.0) k.1 fs) (c (bind act h vs)) k.4
    | inl low ↦ elim (acts act h vs k.0) [
      | inr e ↦ subst (λ (z : Activation R). FramesAre T S z (height_behind b k.0) k.1 fs) e k.4
      | inl e ↦ subst (λ (z : Activation R). FramesAre T S z (height_behind b k.0) k.1 fs) e.1 (frames_kept T S act (height_behind b k.0) h vs k.1 fs (at_most _ b h low l) (subst (λ (z : Activation R). FramesAre T S z (height_behind b k.0) k.1 fs) e.0 k.4))
    ]
  ],
)

values_append : {R : Type 0} → (xs ys : List (Bound R)) → bound_values xs ++ bound_values ys ≡ bound_values (xs ++ ys)
values_append [] ys = refl
values_append (b ∷ xs) ys = ap (λ l. b.value ∷ l) (values_append xs ys)

-- further binders over those in force
pub bound_all : {R : Type 0} → (act : Activation R) (b m : ℕ) (bound mv : List (Bound R)) (vs : List (PlainValue R)) → IsBound act b bound → vs ≡ bound_values mv → length mv ≡ m → IsBound (bind act b vs) (b + m) (bound ++ mv)
bound_all {R} act b m bound mv vs w e l = record {
  values =
      ap (λ (z : List (PlainValue R)). take (b + m) (z ++ vs)) w.values ∙ ap (λ (z : List (PlainValue R)). take (b + m) (bound_values bound ++ z)) e ∙ ap (take (b + m)) (values_append bound mv)
      ∙ take_all (b + m) (bound_values (bound ++ mv)) (no_more (length_values (bound ++ mv) ∙ length-append bound mv ∙ sum (length bound) (length mv) w.many l));
  many = sym (length-append bound mv ∙ sum (length bound) (length mv) w.many l);
} where
  sum : (x y : ℕ) → b ≡ x → y ≡ m → x + y ≡ b + m
  sum x y e l = omega (arith, e, l)

  no_more : {x y : ℕ} → x ≡ y → x ≤ y
  no_more e = omega (arith, e)

-- ---- behind all values of the activation

-- the binders in force have their values
take_length : {A : Type 0} → (k : ℕ) (l : List A) → length (take k l) ≡ k → k ≤ length l
take_length zero l e = omega arith
take_length (suc k) [] e = absurd (none k e) where
  none : (k : ℕ) → 0 ≡ suc k → ⊥
  none k e = omega (arith, e)
take_length (suc k) (x ∷ l) e = up_one k (length l) (take_length k l (omega (arith, e))) where
  up_one : (k m : ℕ) → k ≤ m → suc k ≤ suc m
  up_one k m h = omega (arith, h)

pub in_force : {R : Type 0} → (act : Activation R) (b : ℕ) (bound : List (Bound R)) → IsBound act b bound → b ≤ length act.locals
in_force act b bound w = take_length b act.locals (ap length w.values ∙ length_values bound ∙ sym w.many)

frame_full : {R : Type 0} → (T : Table R) (S : Store R) (act : Activation R) (b : ℕ) (f : NodeFrame R) (p : Place R) (pending : PendingForm R) → FrameIs T S act b f p pending → FrameIs T S act (length act.locals) f p pending
frame_full T S act b f p (PendingThen NoItems) h = absurd h
frame_full T S act b f p (PendingThen (AnItem i is)) h = (h.0, h.1, h.2, in_force act _ h.4.0 h.4.2, h.4, h.5)
frame_full T S act b f p (PendingLet x bs is) h = (h.0, h.1, h.2, h.3, in_force act _ h.5.0 h.5.2, h.5, h.6, h.7)
frame_full T S act b f p (PendingObject flags done x other rest) h = (h.0, h.1, h.2, h.3, in_force act _ h.5.0 h.5.2, h.5, h.6, h.7)
frame_full T S act b f p (PendingVar x bs is) h = (h.0, h.1, h.2, h.3, in_force act _ h.5.0 h.5.2, h.5, h.6, h.7)
frame_full T S act b f p (PendingIf block arms last) h = (h.0, h.1, h.2, in_force act _ h.4.0 h.4.2, h.4, h.5)
frame_full T S act b f p (PendingChain op e links) h = (h.0, h.1, h.2, h.3, h.4, in_force act _ h.6.0 h.6.2, h.6, h.7, h.8, h.9, h.10)
frame_full T S act b f p (PendingRight v op) h = h
frame_full T S act b f p (PendingHead x ss) h = (h.0, h.1, h.2, in_force act _ h.4.0 h.4.2, h.4, h.5)
frame_full T S act b f p (PendingArguments callee done es) h = (h.0, h.1, h.2, in_force act _ h.4.0 h.4.2, h.4, h.5)
frame_full T S act b f p PendingRaise h = h
frame_full T S act b f p PendingCalled h = h
frame_full T S act b f p (PendingWithin o m) h = h
frame_full T S act b f p (PendingTry arms last) h = (h.0, h.1, h.2, in_force act _ h.4.0 h.4.2, h.4, h.5)
frame_full T S act b f p (PendingGuard e block arms last) h = (h.0, h.1, h.2, in_force act _ h.4.0 h.4.2, h.4, h.5)
frame_full T S act b f p (PendingLast block) h = (h.0, h.1, h.2, in_force act _ h.4.0 h.4.2, h.4, h.5)
frame_full T S act b f p (PendingTesting o d e) h = (h.0, h.1, h.2, in_force act _ h.4.0 h.4.2, h.4, h.5)
frame_full T S act b f p (PendingWatch e) h = (h.0, h.1, h.2, in_force act _ h.4.0 h.4.2, h.4, h.5)
frame_full T S act b f p (PendingField x body) h = (h.0, h.1, h.2, in_force act _ h.4.0 h.4.2, h.4, h.5)
frame_full T S act b f p (PendingKept k) h = h
frame_full T S act b f p (PendingAssign x) h = (h.0, h.1, in_force act _ h.3.0 h.3.2, h.3)
frame_full T S act b f p (PendingLoop block) h = (h.0, h.1, h.2, in_force act _ h.4.0 h.4.2, h.4, h.5)
frame_full T S act b f p (PendingFirst x e block) h = (h.0, h.1, h.2, in_force act _ h.4.0 h.4.2, h.4, h.5)
frame_full T S act b f p (PendingTo first x block) h = (h.0, h.1, h.2, in_force act _ h.4.0 h.4.2, h.4, h.5)
frame_full T S act b f p (PendingCount i n x block) h = (h.0, h.1, h.2, in_force act _ h.4.0 h.4.2, h.4, h.5)
frame_full T S act b f p (PendingEach r i n x block) h = (h.0, h.1, h.2, in_force act _ h.4.0 h.4.2, h.4, h.5)
frame_full T S act b f p (PendingForeach x block) h = (h.0, h.1, h.2, in_force act _ h.4.0 h.4.2, h.4, h.5)

heights_in : {R : Type 0} → (act : Activation R) (b c : ℕ) (f : NodeFrame R) → (height_behind b f ≡ height_behind c f) ⊎ ((height_behind b f ≡ b) × (c ≡ height_behind c f) × (act_behind act f ≡ act))
heights_in act b c (NodeThen at left h) = inl refl
heights_in act b c (NodeLet child left at items h) = inl refl
heights_in act b c (NodeObject flags done x other names child h) = inl refl
heights_in act b c (NodeVar child left at items h) = inl refl
heights_in act b c (NodeIf child arms last h) = inl refl
heights_in act b c (NodeChain chain index child h) = inl refl
heights_in act b c (NodeRight v op) = inr (refl, refl, refl)
heights_in act b c (NodeHead at left h) = inl refl
heights_in act b c (NodeArguments callee done child left h) = inl refl
heights_in act b c NodeRaise = inr (refl, refl, refl)
heights_in act b c (NodeCalled caller) = inl refl
heights_in act b c (NodeWithin caller o m) = inl refl
heights_in act b c (NodeTry child arms last h) = inl refl
heights_in act b c (NodeGuard e child arms last h) = inl refl
heights_in act b c (NodeLast child h) = inl refl
heights_in act b c (NodeTesting o d child h) = inl refl
heights_in act b c (NodeWatch child h) = inl refl
heights_in act b c (NodeKept k) = inr (refl, refl, refl)
heights_in act b c (NodeLoop child h) = inl refl
heights_in act b c (NodeAssign slot h) = inl refl
heights_in act b c (NodeField x child h) = inl refl
heights_in act b c (NodeFirst child h) = inl refl
heights_in act b c (NodeTo first child h) = inl refl
heights_in act b c (NodeCount i n child h) = inl refl
heights_in act b c (NodeEach r i n child h) = inl refl
heights_in act b c (NodeForeach child h) = inl refl

pub frames_full : {R : Type 0} → (T : Table R) (S : Store R) (act : Activation R) (b : ℕ) (ns : List (NodeFrame R)) (fs : List (TreeFrame R)) → FramesAre T S act b ns fs → FramesAre T S act (length act.locals) ns fs
frames_full T S act b ns [] h = h
frames_full {R} T S act b ns (t ∷ fs) h = (
  h.0,
  h.1,
  h.2,
  frame_full T S act b h.0 t.place t.pending h.3,
  elim (heights_in act b (length act.locals) h.0) [
    | inl e ↦ subst (λ (n : ℕ). FramesAre T S (act_behind act h.0) n h.1 fs) e h.4
    | inr e ↦ subst (λ (n : ℕ). FramesAre T S (act_behind act h.0) n h.1 fs) e.1 (subst (λ (z : Activation R). FramesAre T S z (length act.locals) h.1 fs) (sym e.2) (frames_full T S act b h.1 fs (subst (λ (z : Activation R). FramesAre T S z b h.1 fs) e.2 (subst (λ (n : ℕ). FramesAre T S (act_behind act h.0) n h.1 fs) e.0 h.4))))
  ],
)
