-- Values put in for two different names may be put in in either order.
use Rattle.std.specs.Prelude.{Bool, bytes_eq, false, if◌then◌else◌, refl, true, ◌≡◌}
use Rattle.std.proofs.lemmas.Slice.Eq.{bytes_eq-Decides}
use Rattle.std.proofs.Common.{ap, sym, ◌∙◌}
use Rattle.obq_model.specs.Terms.{Bytes, Value, Term, Const, Name, Under, Form, Parts, End, Part}
use Rattle.obq_model.specs.Put.{among, occurrence, put, put_parts}
use Rattle.obq_model.proofs.PutTwice.{occurrence_stays}

two_names : (x y z : Bytes) → (x ≡ y → ⊥) → bytes_eq x z ≡ true → bytes_eq y z ≡ true → ⊥
two_names x y z ne b c = ne ((bytes_eq-Decides x z).0 b ∙ sym ((bytes_eq-Decides y z).0 c))

at_name : {R : Type 0} → (v w : Value R) (x y : Bytes) (ne : x ≡ y → ⊥) (z : Bytes) (b c : Bool) → bytes_eq x z ≡ b → bytes_eq y z ≡ c → put v x (if c then occurrence w else Name z) ≡ put w y (if b then occurrence v else Name z)
at_name v w x y ne z true true e f = absurd (two_names x y z ne e f)
at_name v w x y ne z true false e f = ap (λ b. if b then occurrence v else Name z) e ∙ sym (occurrence_stays w v y)
at_name v w x y ne z false true e f = occurrence_stays v w x ∙ sym (ap (λ b. if b then occurrence w else Name z) f)
at_name v w x y ne z false false e f = ap (λ b. if b then occurrence v else Name z) e ∙ sym (ap (λ b. if b then occurrence w else Name z) f)

covered : {R : Type 0} → (b c : Bool) (v w : Value R) (x y : Bytes) (t : Term R) → put v x (put w y t) ≡ put w y (put v x t) → (if b then (if c then t else put w y t) else put v x (if c then t else put w y t)) ≡ (if c then (if b then t else put v x t) else put w y (if b then t else put v x t))
covered true true v w x y t e = refl
covered true false v w x y t e = refl
covered false true v w x y t e = refl
covered false false v w x y t e = e

mutual
  pub put_commute : {R : Type 0} → (v w : Value R) (x y : Bytes) (ne : x ≡ y → ⊥) (t : Term R) → put v x (put w y t) ≡ put w y (put v x t)
  put_commute v w x y ne (Const u) = refl
  put_commute v w x y ne (Name z) = at_name v w x y ne z (bytes_eq x z) (bytes_eq y z) refl refl
  put_commute v w x y ne (Under names t) = ap (Under names) (covered (among x names) (among y names) v w x y t (put_commute v w x y ne t))
  put_commute v w x y ne (Form k parts) = ap (Form k) (put_commute_parts v w x y ne parts)

  pub put_commute_parts : {R : Type 0} → (v w : Value R) (x y : Bytes) (ne : x ≡ y → ⊥) (parts : Parts R) → put_parts v x (put_parts w y parts) ≡ put_parts w y (put_parts v x parts)
  put_commute_parts v w x y ne End = refl
  put_commute_parts v w x y ne (Part t parts) = rw (put_commute v w x y ne t, put_commute_parts v w x y ne parts)
