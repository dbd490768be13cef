-- The activations of a term as a list, and at which sites those of methods are in the located fold.
use Rattle.std.specs.Prelude.{Bool, List, None, Option, Some, [], length, slice_get, suc, true, ℕ, ◌++◌, ◌+◌, ◌<◌, ◌∷◌, ◌≡◌, ◌≤◌, ◌⊎◌}
use Rattle.obq_base.specs.declared.acts.Entry.{Entry}
use Rattle.obq_base.specs.declared.limits.TheConstants.{CALL_LIMIT}
use Rattle.obq_base.specs.Tree.{BlockTree}
use Rattle.obq_model.specs.Terms.{Kind, Called, Within, Term, Const, Name, Under, Form, Parts, End, Part}
use Rattle.obq_model.specs.Step.{Self, Operation, Leave, Frame, Pending, Found, Next, Needs, Done, Uncaught, find}
use Rattle.obq_model.specs.Forms.{IsFormed}
use Rattle.obq_model.specs.Config.{Execution, Running, Returned, Failed, ThreadState}
use Rattle.obq_model.specs.Located.{Located, located_replay}
use Rattle.obq_laws.specs.Activations.{may_enter}

-- ---- the activations of a term, innermost first: a method's has its object, a closure's none

-- with the form around them, where it is one
abbrev pub objects_in : {R : Type 0} → List (Option R) → Kind R → List (Option R)
objects_in os (Within o m) = os ++ Some o ∷ []
objects_in os Called = os ++ None ∷ []
objects_in os k = os

abbrev mutual
  pub objects_of : {R : Type 0} → Term R → List (Option R)
  objects_of (Const v) = []
  objects_of (Name x) = []
  objects_of (Under names t) = []
  objects_of (Form k parts) = objects_in (objects_of_parts parts) k

  pub objects_of_parts : {R : Type 0} → Parts R → List (Option R)
  objects_of_parts End = []
  objects_of_parts (Part t parts) = objects_of t ++ objects_of_parts parts

-- with the frames around them
abbrev pub objects_around : {R : Type 0} → List (Frame R) → List (Option R) → List (Option R)
objects_around [] os = os
objects_around (Pending k before after ∷ fs) os = objects_in (objects_around fs os) k

-- the activation that an act leaves
abbrev pub left_objects : {R : Type 0} → Operation R → List (Option R)
left_objects (Leave o out) = Some o ∷ []
left_objects op = []

-- what is found in a term with these activations, with `a` more around it: a step keeps them, begins a closure's where there are fewer than 1,000, or leaves
-- the innermost; an act's form has all of them around it but the one that it leaves, and fewer than 1,000 where it may begin one
abbrev pub Listed : {R : Type 0} → (a : ℕ) → List (Option R) → Found R → Type 0
Listed {R} a os (Next u) = (objects_of u ≡ os) ⊎ ((objects_of u ≡ None ∷ os) × (a + suc (length os) ≤ CALL_LIMIT)) ⊎ ((x : Option R) × (os ≡ x ∷ objects_of u))
Listed a os (Needs op fs) = (os ≡ objects_around fs (left_objects op)) × (may_enter op ≡ true → a + length os < CALL_LIMIT)
Listed a os (Done v) = os ≡ []
Listed a os (Uncaught r) = os ≡ []

-- so in every formed term
abbrev pub FoundObjects : Type 0 → Type 0
FoundObjects R = (eq : R → R → Bool) (a : ℕ) (s : Self R) (t : Term R) → IsFormed s t → Listed a (objects_of t) (find eq a s t)

-- ---- in the located fold

-- each method's activation is at a site where P says that its object is; sites and activations with the innermost first
abbrev pub AreAt : (ℕ → ℕ → Type 0) → List ℕ → List (Option ℕ) → Type 0
AreAt P sites [] = Unit {0}
AreAt P [] (o ∷ os) = ⊥
AreAt P (s ∷ ss) (None ∷ os) = AreAt P ss os
AreAt P (s ∷ ss) (Some o ∷ os) = P o s × AreAt P ss os

-- cell o is at site s
abbrev pub IsSiteOf : (cells : List ℕ) → ℕ → ℕ → Type 0
IsSiteOf cells o s = slice_get cells o ≡ Some s

abbrev pub execution_objects : Execution → List (Option ℕ)
execution_objects (Running t) = objects_of t
execution_objects (Returned v) = []
execution_objects (Failed e) = []

-- the trail of each thread has a site for each of its activations, and one more, its home; each method's is where P says that its object is
abbrev pub TrailsAre : (ℕ → ℕ → Type 0) → List (List ℕ) → List ThreadState → Type 0
TrailsAre P [] [] = Unit {0}
TrailsAre P (tr ∷ trs) (s ∷ ss) = ((length tr ≡ suc (length (execution_objects s.execution))) × AreAt P tr (execution_objects s.execution)) × TrailsAre P trs ss
TrailsAre P trs ss = ⊥

-- in every located replay each method's activation is at the site of its object
abbrev pub MethodsAtObjects : Type 0
MethodsAtObjects =
    (trees : List BlockTree) (turns : ℕ) (es : List Entry) (l : Located) → located_replay trees turns es ≡ Some l → TrailsAre (IsSiteOf l.cell_sites) l.thread_sites l.config.threads
