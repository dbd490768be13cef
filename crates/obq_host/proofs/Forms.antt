-- What stands next in a term where the form of an act is in the focus of its window.
use Rattle.std.specs.Prelude.{Bool, refl, List, None, Option, Some, [], ℕ, ◌≡◌}
use Rattle.std.proofs.Common.{ap, subst, sym, ◌∙◌}
use Rattle.obq_base.specs.declared.code.SourceCode.{SourceCode}
use Rattle.obq_base.specs.declared.places.Ref.{Ref}
use Rattle.obq_answers.specs.Worlds.{SeenAs, seen}
use Rattle.obq_answers.proofs.Asking.{own_needs}
use Rattle.obq_answers.proofs.Seen.{next_seen}
use Rattle.obq_host.specs.Stops.{AtForm}
use Rattle.obq_model.specs.Maps.{map_found, map_frames, map_operation, map_term}
use Rattle.obq_model.specs.Step.{Found, Frame, Needs, Next, Operation, Self, activations_at, find, self_at}
use Rattle.obq_model.specs.Terms.{Bytes, Term}
use Rattle.obq_model.proofs.Plug.{needs_plug, step_plug}
use Rattle.obq_moves.specs.Store.{same_ref, store}
use Rattle.obq_moves.specs.Views.{Shown}
use Rattle.obq_stands.specs.World as world
use Rattle.obq_windows.specs.Agrees.{Agrees, FocusIs}
use Rattle.obq_windows.specs.Laws.{Reads}
use Rattle.obq_windows.specs.Moves.{act_ends, tree_refused}
use Rattle.obq_windows.specs.Trees.{Kept, PlainImport, PlainJoin, PlainOperation, read_operation, TreeAct, TreeAfter, TreeFrame, act_form, frames_of, scope_after, term_of}
use Rattle.obq_windows.specs.Values.{IsMadeTable, Table, tree_params}
use Rattle.obq_windows.specs.Windows.{NodeAct, NodeAfter, NodeFocus}
use Rattle.obq_windows.proofs.Acts.{ActIs, act_is}
use Rattle.obq_windows.proofs.Answering.{AtAct, at_act}
use Rattle.obq_windows.proofs.Around.{are_frames}
use Rattle.obq_windows.proofs.Whole.{made_of}

-- an act is needed, or a pure step is done
pub data GoesSome {R : Type 0} : Found R → Type 0 where
  ByAct : (o : Operation R) (around : List (Frame R)) → GoesSome (Needs o around)
  ByStep : (t : Term R) → GoesSome (Next t)

-- a form in frames
form_goes : (T : Table Ref) → IsMadeTable T → (a : ℕ) (s : Self Ref) (fs : List (TreeFrame Ref)) (op : PlainOperation Ref) (after : TreeAfter Ref) → GoesSome (find same_ref a s (term_of T fs (TreeAct op after)))
form_goes T w a s fs op after =
    at (act_ends (tree_params T) (tree_refused T) n op) (act_is same_ref T w n (self_at s (frames_of T fs)) op (scope_after T after))
  where
    n : ℕ
    n = activations_at a (frames_of T fs)

    at : (z : Option (Kept Ref)) → ActIs T op (scope_after T after) (find same_ref n (self_at s (frames_of T fs)) (act_form T op (scope_after T after))) z → GoesSome (find same_ref a s (term_of T fs (TreeAct op after)))
    at None h = subst GoesSome (sym (needs_plug same_ref a s (frames_of T fs) _ _ [] (are_frames T fs) h)) (ByAct _ _)
    at (Some k) h = subst GoesSome (sym (step_plug same_ref a s (frames_of T fs) _ _ (are_frames T fs) h)) (ByStep _)

mapped : (x : Found Ref) → GoesSome x → GoesSome (map_found seen x)
mapped _ (ByAct o around) = ByAct (map_operation seen o) (map_frames seen around)
mapped _ (ByStep t) = ByStep (map_term seen t)

-- what stands next is the act of a form or a pure step, and no end
pub seen_goes : (parts : List SourceCode) (T : Table Ref) → Agrees T (store parts) → (a : ℕ) (self : Self world.Ref) (w : Shown) (t : Term world.Ref) → SeenAs parts T a self w t → (op : PlainOperation Ref) (after : NodeAfter) → w.focus ≡ NodeAct op after
    → GoesSome (find world.same_ref a self t)
seen_goes parts T g a self w t k op after e =
    let r : Reads T (store parts) w.act w.frames w.focus k.like.term = k.like.reads.reads in
    let at : AtAct T (store parts) w.act r.height op after r.focus = at_act T (store parts) w.act r.height op after r.focus (subst (λ (x : NodeFocus Ref). FocusIs T (store parts) w.act r.height x r.focus) e r.is_focus) in
    subst GoesSome (sym (next_seen parts T a self w t k ∙ ap (λ z. map_found seen (find same_ref a k.own z)) (r.term ∙ ap (term_of T r.frames) at.is_act)))
    (mapped _ (form_goes T (made_of T (store parts) g) a k.own r.frames op at.after))

-- an operation in the focus whose form ends in no other way always stands next
pub form_is_next : (parts : List SourceCode) (T : Table Ref) → Agrees T (store parts) → (a : ℕ) (self : Self world.Ref) (w : Shown) (t : Term world.Ref) (op : PlainOperation Ref) (after : NodeAfter) → SeenAs parts T a self w t → w.focus ≡ NodeAct op after
    → ((n : ℕ) → act_ends (tree_params T) (tree_refused T) n op ≡ None) → AtForm parts T a self w t op after
form_is_next parts T g a self w t op after k e none =
    let r : Reads T (store parts) w.act w.frames w.focus k.like.term = k.like.reads.reads in
    let at : AtAct T (store parts) w.act r.height op after r.focus = at_act T (store parts) w.act r.height op after r.focus (subst (λ (x : NodeFocus Ref). FocusIs T (store parts) w.act r.height x r.focus) e r.is_focus) in
    record {
      needed = map_operation seen (read_operation T op (scope_after T at.after));
      around = map_frames seen (frames_of T r.frames);
      form = record {
        like = k;
        form = e;
        next = next_seen parts T a self w t k ∙ ap (λ z. map_found seen (find same_ref a k.own z)) (r.term ∙ ap (term_of T r.frames) at.is_act) ∙ ap (map_found seen) (own_needs same_ref T (made_of T (store parts) g) a k.own r.frames op at.after (none (activations_at a (frames_of T r.frames))));
      };
    }

-- so do a join and an import
pub join_is_next : (parts : List SourceCode) (T : Table Ref) → Agrees T (store parts) → (a : ℕ) (self : Self world.Ref) (w : Shown) (t : Term world.Ref) (v : ℕ) (after : NodeAfter) → SeenAs parts T a self w t → w.focus ≡ NodeAct (PlainJoin v) after
    → AtForm parts T a self w t (PlainJoin v) after
join_is_next parts T g a self w t v after k e = form_is_next parts T g a self w t (PlainJoin v) after k e (λ n. refl)

pub import_is_next : (parts : List SourceCode) (T : Table Ref) → Agrees T (store parts) → (a : ℕ) (self : Self world.Ref) (w : Shown) (t : Term world.Ref) (x namer : Bytes) (engine : Bool) (after : NodeAfter) → SeenAs parts T a self w t → w.focus ≡ NodeAct (PlainImport x namer engine) after
    → AtForm parts T a self w t (PlainImport x namer engine) after
import_is_next parts T g a self w t x namer engine after k e = form_is_next parts T g a self w t (PlainImport x namer engine) after k e (λ n. refl)
