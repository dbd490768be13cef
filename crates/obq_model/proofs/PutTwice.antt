-- After a value was put in for a name, no occurrence of that name is left.
use Rattle.std.specs.Prelude.{Bool, bytes_eq, false, if◌then◌else◌, refl, true, ◌≡◌}
use Rattle.std.proofs.Common.{ap}
use Rattle.obq_model.specs.Terms.{Bytes, Object, Variable, Value, Loc, Term, Const, Name, Under, Form, Parts, End, Part}
use Rattle.obq_model.specs.Put.{among, occurrence, put, put_parts}

-- a value's occurrence has no names
pub occurrence_stays : {R : Type 0} → (v w : Value R) (x : Bytes) → put v x (occurrence w) ≡ occurrence w
occurrence_stays v (Loc Variable l) x = refl
occurrence_stays v (Loc Object l) x = refl
occurrence_stays v _ x = refl

at_name : {R : Type 0} → (v w : Value R) (x y : Bytes) (b : Bool) → bytes_eq x y ≡ b → put v x (if b then occurrence w else Name y) ≡ (if b then occurrence w else Name y)
at_name v w x y true e = occurrence_stays v w x
at_name v w x y false e = ap (λ b. if b then occurrence v else Name y) e

-- a part that a binder covers or not
covered : {R : Type 0} → (b : Bool) (v w : Value R) (x : Bytes) (t : Term R) → put v x (put w x t) ≡ put w x t → (if b then (if b then t else put w x t) else put v x (if b then t else put w x t)) ≡ (if b then t else put w x t)
covered true v w x t e = refl
covered false v w x t e = e

mutual
  pub put_twice : {R : Type 0} → (v w : Value R) (x : Bytes) (t : Term R) → put v x (put w x t) ≡ put w x t
  put_twice v w x (Const u) = refl
  put_twice v w x (Name y) = at_name v w x y (bytes_eq x y) refl
  put_twice v w x (Under names t) = ap (Under names) (covered (among x names) v w x t (put_twice v w x t))
  put_twice v w x (Form k parts) = ap (Form k) (put_twice_parts v w x parts)

  pub put_twice_parts : {R : Type 0} → (v w : Value R) (x : Bytes) (parts : Parts R) → put_parts v x (put_parts w x parts) ≡ put_parts w x parts
  put_twice_parts v w x End = refl
  put_twice_parts v w x (Part t parts) = rw (put_twice v w x t, put_twice_parts v w x parts)
