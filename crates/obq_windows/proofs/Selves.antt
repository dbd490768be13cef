-- The current self at a window's focus.
use Rattle.std.specs.Prelude.{List, [], refl, ◌∷◌, ◌≡◌}
use Rattle.std.proofs.Common.{ap, ◌∙◌}
use Rattle.obq_base.specs.Tree.{ALink, ASuffix, AliasOf, ApplySuffix, FieldTree, IndexSuffix, InvokeSuffix, LinkTrees, MethodOf, NoLinks, NoSuffixes, SelectSuffix, SuffixTree, SuffixTrees, ValueOf}
use Rattle.obq_base.specs.declared.trees.Operator.{Operator}
use Rattle.obq_model.specs.Step.{Self, self_at}
use Rattle.obq_model.specs.Terms.{Bytes}
use Rattle.obq_model.proofs.Plug.{self_append}
use Rattle.obq_windows.specs.Moves.{self_by, tree_self}
use Rattle.obq_windows.specs.Places.{Place}
use Rattle.obq_windows.specs.Trees.{PendingArguments, PendingAssign, PendingCalled, PendingChain, PendingCount, PendingEach, PendingField, PendingFirst, PendingForeach, PendingForm, PendingGuard, PendingHead, PendingIf, PendingKept, PendingLast, PendingLet, PendingLoop, PendingObject, PendingRaise, PendingRight, PendingTesting, PendingThen, PendingTo, PendingTry, PendingVar, PendingWatch, PendingWithin, ToArray, ToBuiltin, ToCall, ToClone, ToIndex, ToInvoke, ToRedirect, ToSetAlias, ToSetIndex, ToSetValue, TreeFrame, field_frame, frames_of, link_frame, links_around, pending_frames, suffix_frame, suffixes_around}
use Rattle.obq_windows.specs.Values.{Table}

selves_links : {R : Type 0} → (T : Table R) (a : Self R) (p : Place R) (links : LinkTrees) → self_at a (links_around T p links) ≡ a
selves_links T a p NoLinks = refl
selves_links {R} T a p (ALink op e place links) = self_append a (links_around T p links) (link_frame T p op e ∷ []) ∙ one op (self_at a (links_around T p links)) ∙ selves_links T a p links where
  one : (op : Operator) (n : Self R) → self_at n (link_frame T p op e ∷ []) ≡ n
  one Operator.Orif n = refl
  one Operator.Andif n = refl
  one op n = refl

one_suffix : {R : Type 0} → (T : Table R) (n : Self R) (p : Place R) (s : SuffixTree) → self_at n (suffix_frame T p s ∷ []) ≡ n
one_suffix T n p (ApplySuffix es place) = refl
one_suffix T n p (SelectSuffix x place) = refl
one_suffix T n p (InvokeSuffix x es place) = refl
one_suffix T n p (IndexSuffix e place) = refl

selves_suffixes_around : {R : Type 0} → (T : Table R) (a : Self R) (p : Place R) (ss : SuffixTrees) → self_at a (suffixes_around T p ss) ≡ a
selves_suffixes_around T a p NoSuffixes = refl
selves_suffixes_around T a p (ASuffix s ss) = self_append a (suffixes_around T p ss) (suffix_frame T p s ∷ []) ∙ one_suffix T (self_at a (suffixes_around T p ss)) p s ∙ selves_suffixes_around T a p ss

selves_field : {R : Type 0} → (T : Table R) (n : Self R) (p : Place R) (x : Bytes) (body : FieldTree) → self_at n (field_frame T p x body ∷ []) ≡ n
selves_field T n p x (ValueOf e) = refl
selves_field T n p x (MethodOf q) = refl
selves_field T n p x (AliasOf y e place) = refl

selves_pend : {R : Type 0} → (T : Table R) (a : Self R) (p : Place R) (pending : PendingForm R) → self_at a (pending_frames T p pending) ≡ self_by pending a
selves_pend T a p (PendingThen is) = refl
selves_pend T a p (PendingLet x bs is) = refl
selves_pend T a p (PendingObject flags done x other rest) = refl
selves_pend T a p (PendingVar x bs is) = refl
selves_pend T a p (PendingIf b arms last) = refl
selves_pend T a p (PendingChain op e links) = selves_links T a p (ALink op e 0 links)
selves_pend T a p (PendingRight v op) = refl
selves_pend T a p (PendingHead s ss) = selves_suffixes_around T a p (ASuffix s ss)
selves_pend T a p (PendingArguments (ToCall f) done es) = refl
selves_pend T a p (PendingArguments (ToBuiltin row) done es) = refl
selves_pend T a p (PendingArguments ToArray done es) = refl
selves_pend T a p (PendingArguments ToIndex done es) = refl
selves_pend T a p (PendingArguments ToClone done es) = refl
selves_pend T a p (PendingArguments ToSetIndex done es) = refl
selves_pend T a p (PendingArguments (ToSetValue x) done es) = refl
selves_pend T a p (PendingArguments (ToSetAlias x y) done es) = refl
selves_pend T a p (PendingArguments ToRedirect done es) = refl
selves_pend T a p (PendingArguments (ToInvoke x) done es) = refl
selves_pend T a p PendingRaise = refl
selves_pend T a p (PendingWatch e) = refl
selves_pend T a p (PendingTesting o c e) = refl
selves_pend T a p PendingCalled = refl
selves_pend T a p (PendingWithin o m) = refl
selves_pend T a p (PendingTry arms last) = refl
selves_pend T a p (PendingGuard e b arms last) = refl
selves_pend T a p (PendingLast b) = refl
selves_pend T a p (PendingKept k) = refl
selves_pend T a p (PendingAssign x) = refl
selves_pend T a p (PendingField x body) = selves_field T a p x body
selves_pend T a p (PendingLoop b) = refl
selves_pend T a p (PendingFirst x e b) = refl
selves_pend T a p (PendingTo first x b) = refl
selves_pend T a p (PendingCount i n x b) = refl
selves_pend T a p (PendingForeach x b) = refl
selves_pend T a p (PendingEach r i n x b) = refl

pub selfed : {R : Type 0} → (T : Table R) (a : Self R) (fs : List (TreeFrame R)) → self_at a (frames_of T fs) ≡ tree_self a fs
selfed T a [] = refl
selfed T a (f ∷ fs) =
    self_append a (frames_of T fs) (pending_frames T f.place f.pending) ∙ selves_pend T (self_at a (frames_of T fs)) f.place f.pending
    ∙ ap (self_by f.pending) (selfed T a fs)
