-- Names in slots: what a slot has is what its name stands for.
use Rattle.std.specs.Prelude.{Bool, List, None, Option, Some, [], bytes_eq, drop, false, if◌then◌else◌, is_some, length, option_map, refl, slice_get, suc, true, unwrap_or, ℕ, ◌+◌, ◌<◌, ◌||◌, ◌∷◌, ◌≡◌, ◌≤◌}
use Rattle.obq_base.specs.declared.code.Slot.TheVariants as s
use Rattle.std.proofs.Common.{ap, arith, subst, sym, ◌∙◌, true≢false}
use Rattle.std.proofs.lemmas.Slice.Eq.{bytes_eq-Decides}
use Rattle.obq_base.specs.declared.code.CodeNo.{CodeNo}
use Rattle.obq_base.specs.declared.code.Node.{Node}
use Rattle.obq_base.specs.declared.code.Slot.{Slot}
use Rattle.obq_model.specs.CodeLaws.{nodes_of}
use Rattle.obq_model.specs.Draft.{Both, Done, Draft, Plain}
use Rattle.obq_model.specs.Put.{among}
use Rattle.obq_model.specs.Resolved.{IsCode}
use Rattle.obq_model.specs.Scopes.{is_covered, last_place, last_place_from, slot_of, slot_or, slots_of}
use Rattle.obq_model.specs.Terms.{Array, Bytes, Condition, Engine, Object, Variable, Writer}
use Rattle.obq_model.proofs.Among.{bytes_sym}
use Rattle.obq_model.proofs.Drafted.{Drafted}
use Rattle.obq_model.proofs.Places.{among_place, or_else, place_below, place_found}
use Rattle.obq_model.proofs.Skips.{ends}
use Rattle.obq_windows.specs.Agrees.{Agrees, FocusIs, FramesAre, IsBound, Same, StandsAt, place_at}
use Rattle.obq_windows.specs.Moves.{begin_name, captured_values, target_value, used, value_or_okay}
use Rattle.obq_windows.specs.Places.{Bound, bound_names, bound_values, last_bound, member_at, or_this, outside_at, proc_group, proc_outside, value_of, writer_at}
use Rattle.obq_windows.specs.Trees.{Tag, TreeFocus, TreeFrame, TreeMoved, tree_moved}
use Rattle.obq_windows.specs.Values.{AValue, ClosureValue, ExceptionValue, IntValue, LocationValue, OkayValue, PlainValue, Table, TextValue, ThreadValue, TruthValue, captured_at}
use Rattle.obq_windows.specs.Windows.{Activation, Change, NodeFocus, NodeFrame, NodeHere, NodeMoved, NodeValue, Store, capture, node_at, node_changed, node_moved, slot_value, use_node, use_slot}
use Rattle.obq_windows.proofs.Lists.{behind_here, item_here, take_get}

-- the nodes here, and behind a first tree
module _ {R : Type 0} (T : Table R) (S : Store R) where
  pub node_here : {number : CodeNo} {a : Node} {d : Draft} {at : ℕ} → StandsAt T S number (Plain a d) at → node_at S number at ≡ Some a
  node_here {number} {a} {d} {at} h = item_here (nodes_of (S.code number)) at a h.nodes.0 h.nodes.1

  pub next_here : {number : CodeNo} {a : Node} {d : Draft} {at : ℕ} → StandsAt T S number (Plain a d) at → StandsAt T S number d (suc at)
  next_here {number} {a} {d} {at} h = record { rest = h.rest; nodes = subst (λ (l : List Node). IsCode T.procs d l h.rest) (sym (behind_here (nodes_of (S.code number)) at a h.nodes.0 h.nodes.1)) h.nodes.2 }

  pub end_here : Agrees T S → (number : CodeNo) (d : Draft) (at : ℕ) (x : List Node) → Drafted d 1 → IsCode T.procs d (drop at (nodes_of (S.code number))) x → drop (S.end number at) (nodes_of (S.code number)) ≡ x
  end_here g number d at x k h = g.end number at ∙ ends T.procs k (drop at (nodes_of (S.code number))) x h

  pub first_of : {number : CodeNo} {d e : Draft} {at : ℕ} → StandsAt T S number (Both d e) at → StandsAt T S number d at
  first_of {number} {d} {e} {at} h = record { rest = h.nodes.0; nodes = h.nodes.1 }

  pub second_of : Agrees T S → {number : CodeNo} {d e : Draft} {at : ℕ} → Drafted d 1 → StandsAt T S number (Both d e) at → StandsAt T S number e (S.end number at)
  second_of g {number} {d} {e} {at} k h = record { rest = h.rest; nodes = subst (λ (l : List Node). IsCode T.procs e l h.rest) (sym (end_here g number d at h.nodes.0 k h.nodes.1)) h.nodes.2 }

  -- the first two and the rest, and the first and the other two
  pub regrouped : {number : CodeNo} {d e f : Draft} {at : ℕ} → StandsAt T S number (Both (Both d e) f) at → StandsAt T S number (Both d (Both e f)) at
  regrouped {number} {d} {e} {f} {at} h = record { rest = h.rest; nodes = (h.nodes.1.0, h.nodes.1.1, (h.nodes.0, h.nodes.1.2, h.nodes.2)) }

  -- nothing stands before it
  pub behind_none : {number : CodeNo} {e : Draft} {at : ℕ} → StandsAt T S number (Both Done e) at → StandsAt T S number e at
  behind_none {number} {e} {at} h = record { rest = h.rest; nodes = subst (λ (l : List Node). IsCode T.procs e l h.rest) (sym h.nodes.1) h.nodes.2 }

-- the binders of a code by their last places
bound_place : {R : Type 0} → (x : Bytes) (bs : List (Bound R)) (i : ℕ) (g : ℕ → PlainValue R) → ((j k : ℕ) → j < length bs → k ≡ i + j → unwrap_or (slice_get (bound_values bs) j) OkayValue ≡ g k)
    → last_bound x bs ≡ option_map g (last_place_from i None x (bound_names bs))
bound_place x [] i g h = refl
bound_place {R} x (b ∷ bs) i g h =
    ap (λ (o : Option (PlainValue R)). or_this o (bytes_eq b.name x) b.value) (bound_place x bs (suc i) g (λ j k l e. h (suc j) k (up_one j (length bs) l) (omega (arith, e))))
    ∙ ap (λ (c : Bool). or_this (option_map g (last_place_from (suc i) None x (bound_names bs))) c b.value) (bytes_sym b.name x)
    ∙ joined (bytes_eq x b.name) (last_place_from (suc i) None x (bound_names bs)) (h 0 i (positive (length bs)) (omega arith))
    ∙ ap (option_map g) (sym (place_found (suc i) (if bytes_eq x b.name then Some i else None) x (bound_names bs))) where
      up_one : (j m : ℕ) → j < m → suc j < suc m
      up_one j m l = omega (arith, l)

      positive : (m : ℕ) → 0 < suc m
      positive m = omega arith

      joined : (c : Bool) (o : Option ℕ) → b.value ≡ g i → or_this (option_map g o) c b.value ≡ option_map g (or_else o (if c then Some i else None))
      joined true None e = ap Some e
      joined true (Some k) e = refl
      joined false None e = refl
      joined false (Some k) e = refl

pub local_value : {R : Type 0} → (act : Activation R) (b : ℕ) (bound : List (Bound R)) → IsBound act b bound → (x : Bytes) → last_bound x bound ≡ option_map (λ k. unwrap_or (slice_get act.locals k) OkayValue) (last_place x (bound_names bound))
local_value {R} act b bound w x =
    bound_place x bound 0 (λ k. unwrap_or (slice_get act.locals k) OkayValue) (λ j k l e.
    ap (λ (vs : List (PlainValue R)). unwrap_or (slice_get vs j) OkayValue) (sym w.values) ∙ ap (λ (o : Option (PlainValue R)). unwrap_or o OkayValue) (take_get b act.locals j (within j (length bound) l w.many))
    ∙ ap (λ (m : ℕ). unwrap_or (slice_get act.locals m) OkayValue) (same j k e)) where
      within : (j m : ℕ) → j < m → b ≡ m → j < b
      within j m l e = omega (arith, l, e)

      same : (j k : ℕ) → k ≡ 0 + j → j ≡ k
      same j k e = omega (arith, e)

-- what a covered name stands for is in its slot, and no slot of a covered name is `stdout`
pub slot_is : {R : Type 0} → (T : Table R) (S : Store R) (act : Activation R) (b : ℕ) (bound : List (Bound R)) → IsBound act b bound → ((k : ℕ) → k < length (outside_at T (place_at act bound)).members → act.group ≡ proc_group (T.procs act.code)) → (x : Bytes) → is_covered (outside_at T (place_at act bound)) (bound_names bound) x ≡ true
    → value_of T (place_at act bound) x ≡ Some (slot_value S act (slot_of (outside_at T (place_at act bound)) (bound_names bound) x))
slot_is {R} T S act b bound w mg x c =
    ap (λ (o : Option (PlainValue R)). or_else o (or_else (option_map (member_at (proc_group (T.procs act.code)) (place_at act bound)) (last_place x (proc_outside (T.procs act.code)).members)) (option_map (captured_at act.captured) (last_place x (proc_outside (T.procs act.code)).captured)))) (local_value act b bound w x)
    ∙ at (last_place x (bound_names bound)) (last_place x (proc_outside (T.procs act.code)).members) refl (last_place x (proc_outside (T.procs act.code)).captured)
    (sym (ap (λ d. d || (is_some (last_place x (proc_outside (T.procs act.code)).members) || is_some (last_place x (proc_outside (T.procs act.code)).captured))) (among_place 0 x (bound_names bound)))
    ∙ sym (ap (λ d. among x (bound_names bound) || (d || is_some (last_place x (proc_outside (T.procs act.code)).captured))) (among_place 0 x (proc_outside (T.procs act.code)).members))
    ∙ sym (ap (λ d. among x (bound_names bound) || (among x (proc_outside (T.procs act.code)).members || d)) (among_place 0 x (proc_outside (T.procs act.code)).captured)) ∙ c) where
      below : (j : ℕ) → last_place x (proc_outside (T.procs act.code)).members ≡ Some j → j < length (proc_outside (T.procs act.code)).members
      below j q = from_zero j (length (proc_outside (T.procs act.code)).members) (place_below 0 x (proc_outside (T.procs act.code)).members j q) where
        from_zero : (j m : ℕ) → j < 0 + m → j < m
        from_zero j m l = omega (arith, l)

      at : (o m : Option ℕ) → last_place x (proc_outside (T.procs act.code)).members ≡ m → (k : Option ℕ) → (is_some o || (is_some m || is_some k)) ≡ true
          → or_else (option_map (λ j. unwrap_or (slice_get act.locals j) OkayValue) o) (or_else (option_map (member_at (proc_group (T.procs act.code)) (place_at act bound)) m) (option_map (captured_at act.captured) k))
          ≡ Some (slot_value S act (slot_or s.Local o (slot_or s.Member m (slot_or s.Captured k (s.Stdout (proc_outside (T.procs act.code)).source)))))
      at (Some j) m q k e = refl
      at None (Some j) q k e = ap (λ (l : List CodeNo). Some (ClosureValue act.origin act.count l j act.captured)) (sym (mg j (below j q)))
      at None None q (Some j) e = refl
      at None None q None e = absurd (true≢false (sym e))

pub capture_is : {R : Type 0} → (T : Table R) (S : Store R) (act : Activation R) (b : ℕ) (bound : List (Bound R)) → IsBound act b bound → ((k : ℕ) → k < length (outside_at T (place_at act bound)).members → act.group ≡ proc_group (T.procs act.code)) → (xs : List Bytes)
    → ((x : Bytes) → among x xs ≡ true → is_covered (outside_at T (place_at act bound)) (bound_names bound) x ≡ true)
    → capture S act (slots_of (outside_at T (place_at act bound)) (bound_names bound) xs) ≡ captured_values T (place_at act bound) xs
capture_is T S act b bound w mg [] h = refl
capture_is {R} T S act b bound w mg (x ∷ xs) h =
    ap (λ (v : PlainValue R). AValue v (capture S act (slots_of (outside_at T (place_at act bound)) (bound_names bound) xs))) (sym (ap value_or_okay (slot_is T S act b bound w mg x (h x (own x xs)))))
    ∙ ap (AValue (value_or_okay (value_of T (place_at act bound) x))) (capture_is T S act b bound w mg xs (λ y e. h y (further y x xs e))) where
      own : (x : Bytes) (xs : List Bytes) → among x (x ∷ xs) ≡ true
      own x xs = ap (λ c. c || among x xs) ((bytes_eq-Decides x x).1 refl)

      further : (y x : Bytes) (xs : List Bytes) → among y xs ≡ true → among y (x ∷ xs) ≡ true
      further y x xs e = right (bytes_eq y x) (among y xs) e where
        right : (a c : Bool) → c ≡ true → (a || c) ≡ true
        right true c e = refl
        right false c e = e

-- what stands at a name that is assigned to is in its slot
pub target_alike : {R : Type 0} → (T : Table R) (S : Store R) → Agrees T S → (act : Activation R) (b : ℕ) (bound : List (Bound R)) → IsBound act b bound → ((k : ℕ) → k < length (outside_at T (place_at act bound)).members → act.group ≡ proc_group (T.procs act.code)) → (x : Bytes)
    → slot_value S act (slot_of (outside_at T (place_at act bound)) (bound_names bound) x) ≡ target_value T (place_at act bound) x
target_alike {R} T S g act b bound w mg x = at (is_covered (outside_at T (place_at act bound)) (bound_names bound) x) refl where
  none : (o : Option ℕ) → is_some o ≡ false → o ≡ None
  none None e = refl
  none (Some k) e = absurd (true≢false e)

  apart : (a c d : Bool) → (a || (c || d)) ≡ false → (a ≡ false) × (c ≡ false) × (d ≡ false)
  apart false false false e = (refl, refl, refl)
  apart true c d e = absurd (true≢false e)
  apart false true d e = absurd (true≢false e)
  apart false false true e = absurd (true≢false e)

  uncovered : is_covered (outside_at T (place_at act bound)) (bound_names bound) x ≡ false → slot_of (outside_at T (place_at act bound)) (bound_names bound) x ≡ s.Stdout (proc_outside (T.procs act.code)).source
  uncovered e =
      let f = apart _ _ _ e in
      ap (λ z. slot_or s.Local z (slot_or s.Member (last_place x (proc_outside (T.procs act.code)).members) (slot_or s.Captured (last_place x (proc_outside (T.procs act.code)).captured) (s.Stdout (proc_outside (T.procs act.code)).source)))) (none _ (sym (among_place 0 x (bound_names bound)) ∙ f.0))
      ∙ ap (λ z. slot_or s.Member z (slot_or s.Captured (last_place x (proc_outside (T.procs act.code)).captured) (s.Stdout (proc_outside (T.procs act.code)).source))) (none _ (sym (among_place 0 x (proc_outside (T.procs act.code)).members) ∙ f.1))
      ∙ ap (λ z. slot_or s.Captured z (s.Stdout (proc_outside (T.procs act.code)).source)) (none _ (sym (among_place 0 x (proc_outside (T.procs act.code)).captured) ∙ f.2))

  at : (c : Bool) → is_covered (outside_at T (place_at act bound)) (bound_names bound) x ≡ c
      → slot_value S act (slot_of (outside_at T (place_at act bound)) (bound_names bound) x) ≡ (if c then value_or_okay (value_of T (place_at act bound) x) else LocationValue Writer (writer_at T (place_at act bound)))
  at true e = sym (ap value_or_okay (slot_is T S act b bound w mg x e))
  at false e = ap (slot_value S act) (uncovered e) ∙ ap (LocationValue Writer) (g.writer (proc_outside (T.procs act.code)).source)

-- a value that is used
pub used_alike : {R : Type 0} → (T : Table R) (S : Store R) (act : Activation R) (b : ℕ) (ns : List (NodeFrame R)) (fs : List (TreeFrame R)) → FramesAre T S act b ns fs → (v : PlainValue R) → Same T S (use_slot true act ns v) (used (Some v) fs)
used_alike T S act b ns fs fr (LocationValue Variable r) = record { tag = refl; makes = refl; height = b; frames = fr; focus = (NodeHere, refl, refl) }
used_alike T S act b ns fs fr (LocationValue Object r) = record { tag = refl; makes = refl; height = b; frames = fr; focus = refl }
used_alike T S act b ns fs fr (LocationValue Array r) = record { tag = refl; makes = refl; height = b; frames = fr; focus = refl }
used_alike T S act b ns fs fr (LocationValue Writer r) = record { tag = refl; makes = refl; height = b; frames = fr; focus = refl }
used_alike T S act b ns fs fr (LocationValue Condition r) = record { tag = refl; makes = refl; height = b; frames = fr; focus = refl }
used_alike T S act b ns fs fr (LocationValue Engine r) = record { tag = refl; makes = refl; height = b; frames = fr; focus = refl }
used_alike T S act b ns fs fr (IntValue z) = record { tag = refl; makes = refl; height = b; frames = fr; focus = refl }
used_alike T S act b ns fs fr (TruthValue z) = record { tag = refl; makes = refl; height = b; frames = fr; focus = refl }
used_alike T S act b ns fs fr OkayValue = record { tag = refl; makes = refl; height = b; frames = fr; focus = refl }
used_alike T S act b ns fs fr (TextValue z) = record { tag = refl; makes = refl; height = b; frames = fr; focus = refl }
used_alike T S act b ns fs fr (ExceptionValue z) = record { tag = refl; makes = refl; height = b; frames = fr; focus = refl }
used_alike T S act b ns fs fr (ThreadValue z) = record { tag = refl; makes = refl; height = b; frames = fr; focus = refl }
used_alike T S act b ns fs fr (ClosureValue t c group index cs) = record { tag = refl; makes = refl; height = b; frames = fr; focus = refl }

pub name_alike : {R : Type 0} → (T : Table R) (S : Store R) → Agrees T S → (act : Activation R) (b : ℕ) (bound : List (Bound R)) → IsBound act b bound → ((k : ℕ) → k < length (outside_at T (place_at act bound)).members → act.group ≡ proc_group (T.procs act.code)) → (ns : List (NodeFrame R)) (fs : List (TreeFrame R)) → FramesAre T S act b ns fs → (x : Bytes)
    → Same T S (use_node S act ns (slot_of (outside_at T (place_at act bound)) (bound_names bound) x)) (begin_name T (place_at act bound) (is_covered (outside_at T (place_at act bound)) (bound_names bound) x) x fs)
name_alike {R} T S g act b bound w mg ns fs fr x =
    at (last_place x (bound_names bound)) refl (last_place x (proc_outside (T.procs act.code)).members) refl (last_place x (proc_outside (T.procs act.code)).captured) refl where
      cover : (o m k : Option ℕ) → last_place x (bound_names bound) ≡ o → last_place x (proc_outside (T.procs act.code)).members ≡ m → last_place x (proc_outside (T.procs act.code)).captured ≡ k
          → is_covered (outside_at T (place_at act bound)) (bound_names bound) x ≡ (is_some o || (is_some m || is_some k))
      cover o m k e f h =
          ap (λ d. d || (among x (proc_outside (T.procs act.code)).members || among x (proc_outside (T.procs act.code)).captured)) (among_place 0 x (bound_names bound) ∙ ap is_some e)
          ∙ ap (λ d. is_some o || (d || among x (proc_outside (T.procs act.code)).captured)) (among_place 0 x (proc_outside (T.procs act.code)).members ∙ ap is_some f)
          ∙ ap (λ d. is_some o || (is_some m || d)) (among_place 0 x (proc_outside (T.procs act.code)).captured ∙ ap is_some h)

      slot : (o m k : Option ℕ) → last_place x (bound_names bound) ≡ o → last_place x (proc_outside (T.procs act.code)).members ≡ m → last_place x (proc_outside (T.procs act.code)).captured ≡ k
          → slot_of (outside_at T (place_at act bound)) (bound_names bound) x ≡ slot_or s.Local o (slot_or s.Member m (slot_or s.Captured k (s.Stdout (proc_outside (T.procs act.code)).source)))
      slot o m k e f h =
          ap (λ z. slot_or s.Local z (slot_or s.Member (last_place x (proc_outside (T.procs act.code)).members) (slot_or s.Captured (last_place x (proc_outside (T.procs act.code)).captured) (s.Stdout (proc_outside (T.procs act.code)).source)))) e
          ∙ ap (λ z. slot_or s.Local o (slot_or s.Member z (slot_or s.Captured (last_place x (proc_outside (T.procs act.code)).captured) (s.Stdout (proc_outside (T.procs act.code)).source)))) f
          ∙ ap (λ z. slot_or s.Local o (slot_or s.Member m (slot_or s.Captured z (s.Stdout (proc_outside (T.procs act.code)).source)))) h

      with_value : (sl : Slot) → slot_of (outside_at T (place_at act bound)) (bound_names bound) x ≡ sl → use_node S act ns sl ≡ use_slot true act ns (slot_value S act sl) → is_covered (outside_at T (place_at act bound)) (bound_names bound) x ≡ true
          → Same T S (use_node S act ns (slot_of (outside_at T (place_at act bound)) (bound_names bound) x)) (begin_name T (place_at act bound) (is_covered (outside_at T (place_at act bound)) (bound_names bound) x) x fs)
      with_value sl e u c =
          subst (λ (m : NodeMoved R). Same T S m (begin_name T (place_at act bound) (is_covered (outside_at T (place_at act bound)) (bound_names bound) x) x fs)) (sym (ap (use_node S act ns) e ∙ u))
          (subst (λ (d : Bool). Same T S (use_slot true act ns (slot_value S act sl)) (begin_name T (place_at act bound) d x fs)) (sym c)
          (subst (λ (o : Option (PlainValue R)). Same T S (use_slot true act ns (slot_value S act sl)) (used o fs)) (sym (slot_is T S act b bound w mg x c ∙ ap (λ z. Some (slot_value S act z)) e)) (used_alike T S act b ns fs fr (slot_value S act sl))))

      at : (o : Option ℕ) → last_place x (bound_names bound) ≡ o → (m : Option ℕ) → last_place x (proc_outside (T.procs act.code)).members ≡ m → (k : Option ℕ) → last_place x (proc_outside (T.procs act.code)).captured ≡ k
          → Same T S (use_node S act ns (slot_of (outside_at T (place_at act bound)) (bound_names bound) x)) (begin_name T (place_at act bound) (is_covered (outside_at T (place_at act bound)) (bound_names bound) x) x fs)
      at (Some j) e m f k h = with_value _ (slot (Some j) m k e f h) refl (cover (Some j) m k e f h)
      at None e (Some j) f k h = with_value _ (slot None (Some j) k e f h) refl (cover None (Some j) k e f h)
      at None e None f (Some j) h = with_value _ (slot None None (Some j) e f h) refl (cover None None (Some j) e f h)
      at None e None f None h =
          subst (λ (sl : Slot). Same T S (use_node S act ns sl) (begin_name T (place_at act bound) (is_covered (outside_at T (place_at act bound)) (bound_names bound) x) x fs)) (sym (slot None None None e f h))
          (subst (λ (d : Bool). Same T S (use_node S act ns (s.Stdout (proc_outside (T.procs act.code)).source)) (begin_name T (place_at act bound) d x fs)) (sym (cover None None None e f h))
          (record { tag = refl; makes = refl; height = b; frames = fr; focus = ap (λ z. NodeValue (LocationValue Writer z)) (g.writer (proc_outside (T.procs act.code)).source) }))

pub alike : {R : Type 0} → (T : Table R) (S : Store R) (tag : Tag R) (act : Activation R) (b : ℕ) (ns : List (NodeFrame R)) (nf : NodeFocus R) (fs : List (TreeFrame R)) (tf : TreeFocus R) → FramesAre T S act b ns fs → FocusIs T S act b nf tf → Same T S (node_moved tag act ns nf) (tree_moved tag fs tf)
alike T S tag act b ns nf fs tf h k = record { tag = refl; makes = refl; height = b; frames = h; focus = k }

-- what a move does to the list of activations isn't looked at
pub changed_alike : {R : Type 0} → (T : Table R) (S : Store R) (c : Change) (m : NodeMoved R) (t : TreeMoved R) → Same T S m t → Same T S (node_changed c m) t
changed_alike T S c m t h = record { tag = h.tag; makes = h.makes; height = h.height; frames = h.frames; focus = h.focus }

pub not_above : (n : ℕ) → n ≤ n
not_above n = omega arith
