-- How many activations lie around a window's focus.
use Rattle.std.specs.Prelude.{List, [], if◌then◌else◌, refl, suc, ℕ, ◌∷◌, ◌≡◌}
use Rattle.std.proofs.Common.{ap, ◌∙◌}
use Rattle.obq_base.specs.Tree.{ALink, ASuffix, AliasOf, ApplySuffix, FieldTree, IndexSuffix, InvokeSuffix, LinkTrees, MethodOf, NoLinks, NoSuffixes, SelectSuffix, SuffixTree, SuffixTrees, ValueOf}
use Rattle.obq_base.specs.declared.trees.Operator.{Operator}
use Rattle.obq_model.specs.Step.{activations_at}
use Rattle.obq_model.specs.Terms.{Bytes}
use Rattle.obq_model.proofs.Plug.{activations_append}
use Rattle.obq_windows.specs.Moves.{count_activations, is_activation}
use Rattle.obq_windows.specs.Places.{Place}
use Rattle.obq_windows.specs.Trees.{PendingArguments, PendingAssign, PendingCalled, PendingChain, PendingCount, PendingEach, PendingField, PendingFirst, PendingForeach, PendingForm, PendingGuard, PendingHead, PendingIf, PendingKept, PendingLast, PendingLet, PendingLoop, PendingObject, PendingRaise, PendingRight, PendingTesting, PendingThen, PendingTo, PendingTry, PendingVar, PendingWatch, PendingWithin, ToArray, ToBuiltin, ToCall, ToClone, ToIndex, ToInvoke, ToRedirect, ToSetAlias, ToSetIndex, ToSetValue, TreeFrame, field_frame, frames_of, link_frame, links_around, pending_frames, suffix_frame, suffixes_around}
use Rattle.obq_windows.specs.Values.{Table}

count_links : {R : Type 0} → (T : Table R) (a : ℕ) (p : Place R) (links : LinkTrees) → activations_at a (links_around T p links) ≡ a
count_links T a p NoLinks = refl
count_links {R} T a p (ALink op e place links) = activations_append a (links_around T p links) (link_frame T p op e ∷ []) ∙ one op (activations_at a (links_around T p links)) ∙ count_links T a p links where
  one : (op : Operator) (n : ℕ) → activations_at n (link_frame T p op e ∷ []) ≡ n
  one Operator.Orif n = refl
  one Operator.Andif n = refl
  one op n = refl

one_suffix : {R : Type 0} → (T : Table R) (n : ℕ) (p : Place R) (s : SuffixTree) → activations_at n (suffix_frame T p s ∷ []) ≡ n
one_suffix T n p (ApplySuffix es place) = refl
one_suffix T n p (SelectSuffix x place) = refl
one_suffix T n p (InvokeSuffix x es place) = refl
one_suffix T n p (IndexSuffix e place) = refl

count_suffixes_around : {R : Type 0} → (T : Table R) (a : ℕ) (p : Place R) (ss : SuffixTrees) → activations_at a (suffixes_around T p ss) ≡ a
count_suffixes_around T a p NoSuffixes = refl
count_suffixes_around T a p (ASuffix s ss) = activations_append a (suffixes_around T p ss) (suffix_frame T p s ∷ []) ∙ one_suffix T (activations_at a (suffixes_around T p ss)) p s ∙ count_suffixes_around T a p ss

count_field : {R : Type 0} → (T : Table R) (n : ℕ) (p : Place R) (x : Bytes) (body : FieldTree) → activations_at n (field_frame T p x body ∷ []) ≡ n
count_field T n p x (ValueOf e) = refl
count_field T n p x (MethodOf q) = refl
count_field T n p x (AliasOf y e place) = refl

count_pend : {R : Type 0} → (T : Table R) (a : ℕ) (p : Place R) (pending : PendingForm R) → activations_at a (pending_frames T p pending) ≡ (if is_activation pending then suc a else a)
count_pend T a p (PendingThen is) = refl
count_pend T a p (PendingLet x bs is) = refl
count_pend T a p (PendingObject flags done x other rest) = refl
count_pend T a p (PendingVar x bs is) = refl
count_pend T a p (PendingIf b arms last) = refl
count_pend T a p (PendingChain op e links) = count_links T a p (ALink op e 0 links)
count_pend T a p (PendingRight v op) = refl
count_pend T a p (PendingHead s ss) = count_suffixes_around T a p (ASuffix s ss)
count_pend T a p (PendingArguments (ToCall f) done es) = refl
count_pend T a p (PendingArguments (ToBuiltin row) done es) = refl
count_pend T a p (PendingArguments ToArray done es) = refl
count_pend T a p (PendingArguments ToIndex done es) = refl
count_pend T a p (PendingArguments ToClone done es) = refl
count_pend T a p (PendingArguments ToSetIndex done es) = refl
count_pend T a p (PendingArguments (ToSetValue x) done es) = refl
count_pend T a p (PendingArguments (ToSetAlias x y) done es) = refl
count_pend T a p (PendingArguments ToRedirect done es) = refl
count_pend T a p (PendingArguments (ToInvoke x) done es) = refl
count_pend T a p PendingRaise = refl
count_pend T a p (PendingWatch e) = refl
count_pend T a p (PendingTesting o c e) = refl
count_pend T a p PendingCalled = refl
count_pend T a p (PendingWithin o m) = refl
count_pend T a p (PendingTry arms last) = refl
count_pend T a p (PendingGuard e b arms last) = refl
count_pend T a p (PendingLast b) = refl
count_pend T a p (PendingKept k) = refl
count_pend T a p (PendingAssign x) = refl
count_pend T a p (PendingField x body) = count_field T a p x body
count_pend T a p (PendingLoop b) = refl
count_pend T a p (PendingFirst x e b) = refl
count_pend T a p (PendingTo first x b) = refl
count_pend T a p (PendingCount i n x b) = refl
count_pend T a p (PendingForeach x b) = refl
count_pend T a p (PendingEach r i n x b) = refl

pub counted : {R : Type 0} → (T : Table R) (a : ℕ) (fs : List (TreeFrame R)) → activations_at a (frames_of T fs) ≡ count_activations a fs
counted T a [] = refl
counted T a (f ∷ fs) =
    activations_append a (frames_of T fs) (pending_frames T f.place f.pending) ∙ count_pend T (activations_at a (frames_of T fs)) f.place f.pending
    ∙ ap (λ n. if is_activation f.pending then suc n else n) (counted T a fs)
