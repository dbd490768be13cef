-- Reading with one more value is putting it in.
use Rattle.std.specs.Prelude.{Bool, List, None, Option, Some, bytes_eq, false, if◌then◌else◌, refl, true, ◌≡◌}
use Rattle.std.proofs.lemmas.Slice.Eq.{bytes_eq-Decides}
use Rattle.std.proofs.Common.{ap, sym, ◌∙◌, true≢false}
use Rattle.obq_model.specs.Terms.{Bytes, Value, Term, Const, Name, Under, Form, Parts, End, Part}
use Rattle.obq_model.specs.Put.{among, occurrence, put, put_parts}
use Rattle.obq_model.specs.Reading.{Env, hide, name_or, read, read_parts, or_some, also}
use Rattle.obq_model.proofs.PutTwice.{occurrence_stays}

fun_eq : {A B : Type 0} (f g : A → B) → ((x : A) → f x ≡ g x) → f ≡ g
fun_eq f g h = λ i x. h x i

among_same : (names : List Bytes) (x y : Bytes) → bytes_eq x y ≡ true → among x names ≡ among y names
among_same names x y e = ap (λ z. among z names) ((bytes_eq-Decides x y).0 e)

hide_in : {R : Type 0} → (names : List Bytes) (env : Env R) (x : Bytes) (v : Value R) → among x names ≡ true → hide names (also env x v) ≡ hide names env
hide_in {R} names env x v h = fun_eq _ _ (λ z. at z (among z names) refl (bytes_eq x z) refl (env z)) where
  at : (z : Bytes) (b : Bool) → among z names ≡ b → (c : Bool) → bytes_eq x z ≡ c → (o : Option (Value R)) → (if b then None else or_some o c v) ≡ (if b then None else o)
  at z true e c f o = refl
  at z false e true f o = absurd (true≢false (sym h ∙ among_same names x z f ∙ e))
  at z false e false f None = refl
  at z false e false f (Some w) = refl

hide_out : {R : Type 0} → (names : List Bytes) (env : Env R) (x : Bytes) (v : Value R) → among x names ≡ false → also (hide names env) x v ≡ hide names (also env x v)
hide_out {R} names env x v h = fun_eq _ _ (λ z. at z (among z names) refl (bytes_eq x z) refl (env z)) where
  at : (z : Bytes) (b : Bool) → among z names ≡ b → (c : Bool) → bytes_eq x z ≡ c → (o : Option (Value R)) → or_some (if b then None else o) c v ≡ (if b then None else or_some o c v)
  at z true e true f o = absurd (true≢false (sym (sym h ∙ among_same names x z f ∙ e)))
  at z true e false f o = refl
  at z false e c f o = refl

at_name : {R : Type 0} → (v : Value R) (x y : Bytes) (o : Option (Value R)) → put v x (name_or y o) ≡ name_or y (or_some o (bytes_eq x y) v)
at_name v x y (Some w) = occurrence_stays v w x
at_name {R} v x y None = by_case (bytes_eq x y) where
  by_case : (b : Bool) → (if b then occurrence v else Name y) ≡ name_or y (or_some None b v)
  by_case true = refl
  by_case false = refl

under : {R : Type 0} → (names : List Bytes) (t : Term R) (env : Env R) (x : Bytes) (v : Value R) → put v x (read (hide names env) t) ≡ read (also (hide names env) x v) t → (if among x names then read (hide names env) t else put v x (read (hide names env) t)) ≡ read (hide names (also env x v)) t
under {R} names t env x v ih = at (among x names) refl where
  at : (b : Bool) → among x names ≡ b → (if b then read (hide names env) t else put v x (read (hide names env) t)) ≡ read (hide names (also env x v)) t
  at true e = ap (λ r. read r t) (sym (hide_in names env x v e))
  at false e = ih ∙ ap (λ r. read r t) (hide_out names env x v e)

mutual
  pub put_read : {R : Type 0} → (t : Term R) (env : Env R) (v : Value R) (x : Bytes) → put v x (read env t) ≡ read (also env x v) t
  put_read (Const w) env v x = refl
  put_read (Name y) env v x = at_name v x y (env y)
  put_read (Under names t) env v x = ap (Under names) (under names t env x v (put_read t (hide names env) v x))
  put_read (Form k parts) env v x = ap (Form k) (put_read_parts parts env v x)

  pub put_read_parts : {R : Type 0} → (parts : Parts R) (env : Env R) (v : Value R) (x : Bytes) → put_parts v x (read_parts env parts) ≡ read_parts (also env x v) parts
  put_read_parts End env v x = refl
  put_read_parts (Part t parts) env v x = rw (put_read t env v x, put_read_parts parts env v x)
