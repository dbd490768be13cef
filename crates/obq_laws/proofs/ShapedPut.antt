-- Putting in keeps the shape of terms.
use Rattle.std.specs.Prelude.{Bool, List, [], bytes_eq, false, if◌then◌else◌, length, suc, true, zero, ℕ, ◌∷◌}
use Rattle.obq_model.specs.Terms.{Bytes, Object, Variable, Value, Closure, Member, Loc, Group, Read, Term, Const, Name, Under, Form, Parts, End, Part}
use Rattle.obq_model.specs.Put.{among, occurrence, put, put_parts, put_all, enter, put_members}
use Rattle.obq_model.specs.Step.{part_at, body_with}
use Rattle.obq_model.specs.Shapes.{Pattern, NoParts, ATerm, AScope, OneName, ATarget, Terms, AtMostOne, AGroup, scopes, pattern_of, IsTarget, IsShaped, AreShaped, IsShapedScope, IsShapedUnderOne, IsShapedGroup, IsShapedValue}
use Rattle.obq_laws.specs.Shaping.{AllShaped, PutShaped}

if_shaped : {R : Type 0} (b : Bool) (t u : Term R) → IsShaped t → IsShaped u → IsShaped (if b then t else u)
if_shaped true t u h k = h
if_shaped false t u h k = k

if_target : {R : Type 0} (b : Bool) (t u : Term R) → IsTarget t → IsTarget u → IsTarget (if b then t else u)
if_target true t u h k = h
if_target false t u h k = k

if_group : {R : Type 0} (b : Bool) (names : List Bytes) (t u : Term R) → IsShapedGroup (Under names t) → IsShapedGroup (Under names u) → IsShapedGroup (Under names (if b then t else u))
if_group true names t u h k = h
if_group false names t u h k = k

shaped_occurrence : {R : Type 0} (v : Value R) → IsShapedValue v → IsShaped (occurrence v)
shaped_occurrence (Loc Variable l) h = (tt, tt)
shaped_occurrence (Loc Object l) h = tt
shaped_occurrence v h = h

target_occurrence : {R : Type 0} (v : Value R) → IsTarget (occurrence v)
target_occurrence (Loc Variable l) = tt
target_occurrence (Loc Object l) = tt
target_occurrence _ = tt

target_put : {R : Type 0} (v : Value R) (x : Bytes) (t : Term R) → IsTarget t → IsTarget (put v x t)
target_put v x (Name y) h = if_target (bytes_eq x y) (occurrence v) (Name y) (target_occurrence v) tt
target_put v x (Const w) h = tt
target_put v x (Form (Read l) End) h = tt
target_put v x _ h = absurd h

mutual
  pub shaped_put : {R : Type 0} (v : Value R) (x : Bytes) (t : Term R) → IsShapedValue v → IsShaped t → IsShaped (put v x t)
  shaped_put v x (Const w) h k = k
  shaped_put v x (Name y) h k = if_shaped (bytes_eq x y) (occurrence v) (Name y) (shaped_occurrence v h) tt
  shaped_put v x (Under names t) h k = absurd k
  shaped_put v x (Form q parts) h k = (k.0, shaped_put_parts (pattern_of q) v x parts h k.1)

  shaped_put_parts : {R : Type 0} (p : Pattern) (v : Value R) (x : Bytes) (parts : Parts R) → IsShapedValue v → AreShaped p parts → AreShaped p (put_parts v x parts)
  shaped_put_parts NoParts v x End h k = tt
  shaped_put_parts (ATerm p) v x (Part t ts) h k = (shaped_put v x t h k.0, shaped_put_parts p v x ts h k.1)
  shaped_put_parts (AScope p) v x (Part t ts) h k = (shaped_put_scope v x t h k.0, shaped_put_parts p v x ts h k.1)
  shaped_put_parts (OneName p) v x (Part t ts) h k = (shaped_put_one v x t h k.0, shaped_put_parts p v x ts h k.1)
  shaped_put_parts (ATarget p) v x (Part t ts) h k = (target_put v x t k.0, shaped_put v x t h k.1, shaped_put_parts p v x ts h k.2)
  shaped_put_parts Terms v x End h k = tt
  shaped_put_parts Terms v x (Part t ts) h k = (shaped_put v x t h k.0, shaped_put_parts Terms v x ts h k.1)
  shaped_put_parts AtMostOne v x End h k = tt
  shaped_put_parts AtMostOne v x (Part t End) h k = shaped_put v x t h k
  shaped_put_parts AGroup v x (Part t End) h k = shaped_put_group v x t h k
  shaped_put_parts _ v x _ h k = absurd k

  shaped_put_scope : {R : Type 0} (v : Value R) (x : Bytes) (t : Term R) → IsShapedValue v → IsShapedScope t → IsShapedScope (put v x t)
  shaped_put_scope v x (Under names t) h k = if_shaped (among x names) t (put v x t) k (shaped_put v x t h k)
  shaped_put_scope v x (Const w) h k = absurd k
  shaped_put_scope v x (Name y) h k = absurd k
  shaped_put_scope v x (Form q parts) h k = absurd k

  shaped_put_one : {R : Type 0} (v : Value R) (x : Bytes) (t : Term R) → IsShapedValue v → IsShapedUnderOne t → IsShapedUnderOne (put v x t)
  shaped_put_one v x (Under (y ∷ []) t) h k = if_shaped (among x (y ∷ [])) t (put v x t) k (shaped_put v x t h k)
  shaped_put_one v x (Under [] t) h k = absurd k
  shaped_put_one v x (Under (y ∷ z ∷ zs) t) h k = absurd k
  shaped_put_one v x (Const w) h k = absurd k
  shaped_put_one v x (Name y) h k = absurd k
  shaped_put_one v x (Form q parts) h k = absurd k

  shaped_put_group : {R : Type 0} (v : Value R) (x : Bytes) (t : Term R) → IsShapedValue v → IsShapedGroup t → IsShapedGroup (put v x t)
  shaped_put_group v x (Under names (Form Group (Part rest group))) h k =
      if_group (among x names) names (Form Group (Part rest group)) (put v x (Form Group (Part rest group))) k
      (shaped_put v x rest h k.0, shaped_put_parts (scopes (length names)) v x group h k.1)
  shaped_put_group v x _ h k = absurd k

pub put_shaped : {R : Type 0} → PutShaped R
put_shaped v x t h k = shaped_put v x t h k

pub shaped_put_all : {R : Type 0} (vs : List (Value R)) (xs : List Bytes) (t : Term R) → AllShaped vs → IsShaped t → IsShaped (put_all vs xs t)
shaped_put_all [] xs t h k = k
shaped_put_all (v ∷ vs) [] t h k = k
shaped_put_all (v ∷ vs) (x ∷ xs) t h k = shaped_put v x (put_all vs xs t) h.0 (shaped_put_all vs xs t h.1 k)

pub shaped_enter : {R : Type 0} (vs : List (Value R)) (t : Term R) → AllShaped vs → IsShapedScope t → IsShaped (enter vs t)
shaped_enter vs (Under names t) h k = shaped_put_all vs names t h k
shaped_enter vs (Const w) h k = absurd k
shaped_enter vs (Name y) h k = absurd k
shaped_enter vs (Form q parts) h k = absurd k

pub one_scope : {R : Type 0} (t : Term R) → IsShapedUnderOne t → IsShapedScope t
one_scope (Under (y ∷ []) t) k = k
one_scope (Under [] t) k = absurd k
one_scope (Under (y ∷ z ∷ zs) t) k = absurd k
one_scope (Const w) k = absurd k
one_scope (Name y) k = absurd k
one_scope (Form q parts) k = absurd k

pub shaped_put_members : {R : Type 0} (names : List Bytes) (group : Parts R) (i : ℕ) (xs : List Bytes) (t : Term R) → AreShaped (scopes (length names)) group → IsShaped t → IsShaped (put_members names group i xs t)
shaped_put_members names group i [] t h k = k
shaped_put_members names group i (x ∷ xs) t h k = shaped_put (Member names group i) x (put_members names group (suc i) xs t) h (shaped_put_members names group (suc i) xs t h k)

-- a procedure of a group, entered; where it isn't there, a name
shaped_member : {R : Type 0} (n : ℕ) (group : Parts R) (i : ℕ) (vs : List (Value R)) → AreShaped (scopes n) group → AllShaped vs → IsShaped (enter vs (part_at group i))
shaped_member n End i vs h k = tt
shaped_member zero (Part t ts) i vs h k = absurd h
shaped_member (suc n) (Part t ts) zero vs h k = shaped_enter vs t k h.0
shaped_member (suc n) (Part t ts) (suc i) vs h k = shaped_member n ts i vs h.1 k

pub shaped_body : {R : Type 0} (f : Value R) (vs : List (Value R)) → IsShapedValue f → AllShaped vs → IsShaped (body_with f vs)
shaped_body (Closure params body) vs h k = shaped_put_all vs params body k h
shaped_body (Member names group i) vs h k = shaped_put_members names group 0 names (enter vs (part_at group i)) h (shaped_member (length names) group i vs h k)
shaped_body _ vs h k = (tt, tt)
