-- Formats: how a part is spelled, what may be spelled, and how it is read. A format is exact where what is read is what was
-- spelled, and what is spelled is read.
use Rattle.std.proofs.Common.{◌≡◌, ℕ, suc, ◌+◌, ◌<◌, Bool, true, false, cond, List, [], ◌∷◌, ◌++◌, length, get_or, take, drop, Option, Some, None, Result, Ok, Err, refl, sym, ap, subst, ◌∙◌, append_assoc, arith, ◌⊎◌, inl, inr}
use Rattle.std.specs.List.{AllByRecursion}
use Rattle.std.specs.Prelude.{◌==◌}
use Rattle.std.proofs.lemmas.Bool.{cases_lt, eqb-true}
use Rattle.std.proofs.lemmas.List.{length-take, get_or-drop, get_or-take, get_or_past}
use Rattle.obq_wire.specs.Reading.{Reader, ◌>>=◌, found, in_range, no_parts, one_part, two_parts, three_parts, behind_tag, tagged}

abbrev pub IsBytes : List ℕ → Type 0
IsBytes bytes = (i : ℕ) → get_or bytes i 0 < 256

pub IsBytes-drop : (n : ℕ) (bytes : List ℕ) → IsBytes bytes → IsBytes (drop n bytes)
IsBytes-drop n bytes h i = rw get_or-drop (h (n + i))

pub IsBytes-take : (n : ℕ) (bytes : List ℕ) → IsBytes bytes → IsBytes (take n bytes)
IsBytes-take n bytes h i =
    elim (cases_lt i n) [
      | inl lt ↦ rw (get_or-take n bytes i 0 lt) (h i)
      | inr le ↦ rw (get_or_past (take n bytes) i 0 (omega (arith, length-take n bytes))) (omega arith)
    ]

pub IsBytes-rest : (b : ℕ) (bytes : List ℕ) → IsBytes (b ∷ bytes) → IsBytes bytes
IsBytes-rest b bytes h i = h (suc i)

-- the value of a step that did not fail
pub bind_ok : {A B : Type 0} (r : Result A ℕ) (f : A → Result B ℕ) (y : B) → (r >>= f) ≡ Ok y → (x : A) × (r ≡ Ok x) × (f x ≡ Ok y)
bind_ok (Ok x) f y e = (x, refl, e)
bind_ok (Err d) f y e = absurd cc

-- a test that did not fail
pub guard_ok : {A : Type 0} (b : Bool) (d : ℕ) (x : Result A ℕ) (z : A) → cond b (Err d) x ≡ Ok z → (b ≡ false) × (x ≡ Ok z)
guard_ok true d x z e = absurd cc
guard_ok false d x z e = (refl, e)

abbrev done : {A : Type 0} → A → Result A ℕ
done x = Ok x

pub ok_is : {A : Type 0} (x y : A) → done x ≡ done y → x ≡ y
ok_is x y e = cc

-- what a reader took from the front
pub record Takes (bytes text rest : List ℕ) : Type 0 where
  pub parts : bytes ≡ text ++ rest
  pub rest_fits : IsBytes rest

pub Takes-then : {a x b y c : List ℕ} → Takes a x b → Takes b y c → Takes a (x ++ y) c
Takes-then {a} {x} {b} {y} {c} p q = record { parts = p.parts ∙ ap (λ (t : List ℕ). x ++ t) q.parts ∙ sym (append_assoc x y c); rest_fits = q.rest_fits }

-- a reader, with what it reads and the spelling of that
pub record Exact {A : Type 0} (read : Reader A) (spell : A → List ℕ) (May : A → Type 0) : Type 0 where
  pub takes : (bytes : List ℕ) (x : A) (rest : List ℕ) → IsBytes bytes → read bytes ≡ Ok (x, rest) → Takes bytes (spell x) rest × May x
  pub again : (x : A) (rest : List ℕ) → May x → read (spell x ++ rest) ≡ Ok (x, rest)

-- ---- parts one behind the other

-- what stands behind some parts: what was read from them, in three cases
module _ {A X : Type 0} {r : Reader A} {s : A → List ℕ} {F : A → Type 0} (first : Exact r s F) (make : A → X) where
  pub one_takes : (bytes : List ℕ) (x : X) (rest : List ℕ) → IsBytes bytes → one_part r make bytes ≡ Ok (x, rest) → (a : A) × (make a ≡ x) × Takes bytes (s a) rest × F a
  one_takes bytes x rest fits e =
      let p = bind_ok (r bytes) (λ a. Ok (make a.0, a.1)) (x, rest) e in
      let i = ok_is (make p.0.0, p.0.1) (x, rest) p.2 in
      let t = first.takes bytes p.0.0 p.0.1 fits p.1 in
      (p.0.0, ap (λ (q : X × List ℕ). q.0) i, subst (λ (q : X × List ℕ). Takes bytes (s p.0.0) q.1) i t.0, t.1)

  pub one_again : (a : A) (rest : List ℕ) → F a → one_part r make (s a ++ rest) ≡ Ok (make a, rest)
  one_again a rest fits = rw (first.again a rest fits) refl

module _ {A B X : Type 0} {r : Reader A} {s : A → List ℕ} {F : A → Type 0} (first : Exact r s F)
    {r2 : Reader B} {s2 : B → List ℕ} {G : B → Type 0} (second : Exact r2 s2 G) (make : A → B → X) where
  pub two_takes : (bytes : List ℕ) (x : X) (rest : List ℕ) → IsBytes bytes → two_parts r r2 make bytes ≡ Ok (x, rest)
      → (a : A) × (b : B) × (make a b ≡ x) × Takes bytes (s a ++ s2 b) rest × F a × G b
  two_takes bytes x rest fits e =
      let p = bind_ok (r bytes) (λ a. r2 a.1 >>= λ b. Ok (make a.0 b.0, b.1)) (x, rest) e in
      let q = bind_ok (r2 p.0.1) (λ b. Ok (make p.0.0 b.0, b.1)) (x, rest) p.2 in
      let i = ok_is (make p.0.0 q.0.0, q.0.1) (x, rest) q.2 in
      let t = first.takes bytes p.0.0 p.0.1 fits p.1 in
      let u = second.takes p.0.1 q.0.0 q.0.1 t.0.rest_fits q.1 in
      (p.0.0, q.0.0, ap (λ (z : X × List ℕ). z.0) i, subst (λ (z : X × List ℕ). Takes bytes (s p.0.0 ++ s2 q.0.0) z.1) i (Takes-then t.0 u.0), t.1, u.1)

  pub two_again : (a : A) (b : B) (rest : List ℕ) → F a → G b → two_parts r r2 make ((s a ++ s2 b) ++ rest) ≡ Ok (make a b, rest)
  two_again a b rest f g = rw (append_assoc (s a) (s2 b) rest, first.again a (s2 b ++ rest) f, second.again b rest g) refl

module _ {A B C X : Type 0} {r : Reader A} {s : A → List ℕ} {F : A → Type 0} (first : Exact r s F)
    {r2 : Reader B} {s2 : B → List ℕ} {G : B → Type 0} (second : Exact r2 s2 G)
    {r3 : Reader C} {s3 : C → List ℕ} {H : C → Type 0} (third : Exact r3 s3 H) (make : A → B → C → X) where
  pub three_takes : (bytes : List ℕ) (x : X) (rest : List ℕ) → IsBytes bytes → three_parts r r2 r3 make bytes ≡ Ok (x, rest)
      → (a : A) × (b : B) × (c : C) × (make a b c ≡ x) × Takes bytes (s a ++ (s2 b ++ s3 c)) rest × F a × G b × H c
  three_takes bytes x rest fits e =
      let p = bind_ok (r bytes) (λ a. r2 a.1 >>= λ b. r3 b.1 >>= λ c. Ok (make a.0 b.0 c.0, c.1)) (x, rest) e in
      let q = bind_ok (r2 p.0.1) (λ b. r3 b.1 >>= λ c. Ok (make p.0.0 b.0 c.0, c.1)) (x, rest) p.2 in
      let w = bind_ok (r3 q.0.1) (λ c. Ok (make p.0.0 q.0.0 c.0, c.1)) (x, rest) q.2 in
      let i = ok_is (make p.0.0 q.0.0 w.0.0, w.0.1) (x, rest) w.2 in
      let t = first.takes bytes p.0.0 p.0.1 fits p.1 in
      let u = second.takes p.0.1 q.0.0 q.0.1 t.0.rest_fits q.1 in
      let v = third.takes q.0.1 w.0.0 w.0.1 u.0.rest_fits w.1 in
      (p.0.0, q.0.0, w.0.0, ap (λ (z : X × List ℕ). z.0) i, subst (λ (z : X × List ℕ). Takes bytes (s p.0.0 ++ (s2 q.0.0 ++ s3 w.0.0)) z.1) i (Takes-then t.0 (Takes-then u.0 v.0)), t.1, u.1, v.1)

  pub three_again : (a : A) (b : B) (c : C) (rest : List ℕ) → F a → G b → H c → three_parts r r2 r3 make ((s a ++ (s2 b ++ s3 c)) ++ rest) ≡ Ok (make a b c, rest)
  three_again a b c rest f g h =
      rw (append_assoc (s a) (s2 b ++ s3 c) rest, append_assoc (s2 b) (s3 c) rest, first.again a (s2 b ++ (s3 c ++ rest)) f, second.again b (s3 c ++ rest) g, third.again c rest h) refl

-- ---- a field in its range

module _ {A B : Type 0} {r : Reader A} {s : A → List ℕ} {F : A → Type 0} (first : Exact r s F) (range : A → Option B) where
  pub range_takes : (bytes : List ℕ) (x : B) (rest : List ℕ) → IsBytes bytes → in_range r range bytes ≡ Ok (x, rest)
      → (a : A) × (range a ≡ Some x) × Takes bytes (s a) rest × F a
  range_takes bytes x rest fits e =
      let p = bind_ok (r bytes) (λ a. found (range a.0) a.1 (length bytes)) (x, rest) e in
      let t = first.takes bytes p.0.0 p.0.1 fits p.1 in
      let i = found_ok (range p.0.0) p.0.1 (length bytes) x rest p.2 in
      (p.0.0, i.0, subst (λ (z : List ℕ). Takes bytes (s p.0.0) z) i.1 t.0, t.1)
    where
      found_ok : {C : Type 0} (o : Option C) (left_over : List ℕ) (left : ℕ) (x : C) (rest : List ℕ) → found o left_over left ≡ Ok (x, rest) → (o ≡ Some x) × (left_over ≡ rest)
      found_ok None left_over left x rest e = absurd cc
      found_ok {C} (Some y) left_over left x rest e =
          let i = ok_is (y, left_over) (x, rest) e in
          (ap (λ (z : C × List ℕ). Some z.0) i, ap (λ (z : C × List ℕ). z.1) i)

  pub range_again : (a : A) (x : B) (rest : List ℕ) → F a → range a ≡ Some x → in_range r range (s a ++ rest) ≡ Ok (x, rest)
  range_again a x rest f e = rw (first.again a rest f, e) refl

-- ---- what stands behind a tag

-- each arm reads what is spelled with its tag
abbrev pub ArmTakes : {X : Type 0} → (X → List ℕ) → (X → Type 0) → ℕ × Reader X → Type 0
ArmTakes {X} spell May arm = (bytes : List ℕ) (x : X) (rest : List ℕ) → IsBytes bytes → arm.1 bytes ≡ Ok (x, rest) → Takes (arm.0 ∷ bytes) (spell x) rest × May x

pub behind : {tag : ℕ} {bytes text rest : List ℕ} → Takes bytes text rest → Takes (tag ∷ bytes) (tag ∷ text) rest
behind {tag} t = record { parts = ap (λ (x : List ℕ). tag ∷ x) t.parts; rest_fits = t.rest_fits }

pub behind_tag_takes : {X : Type 0} (spell : X → List ℕ) (May : X → Type 0) (arms : List (ℕ × Reader X)) → AllByRecursion (ArmTakes spell May) arms
    → (left tag : ℕ) (bytes : List ℕ) (x : X) (rest : List ℕ) → IsBytes bytes → behind_tag arms left tag bytes ≡ Ok (x, rest) → Takes (tag ∷ bytes) (spell x) rest × May x
behind_tag_takes spell May [] all left tag bytes x rest fits e = absurd cc
behind_tag_takes spell May (arm ∷ arms) all left tag bytes x rest fits e =
    elim (split (tag == arm.0) (arm.1 bytes) (behind_tag arms left tag bytes) (Ok (x, rest)) e) [
      | inl p ↦ subst (λ (n : ℕ). Takes (n ∷ bytes) (spell x) rest × May x) (sym (eqb-true tag arm.0 p.0)) (all.0 bytes x rest fits p.1)
      | inr p ↦ behind_tag_takes spell May arms all.1 left tag bytes x rest fits p.1
    ]
  where
    split : {Y : Type 0} (b : Bool) (x y z : Y) → cond b x y ≡ z → ((b ≡ true) × (x ≡ z)) ⊎ ((b ≡ false) × (y ≡ z))
    split true x y z e = inl (refl, e)
    split false x y z e = inr (refl, e)

pub tagged_takes : {X : Type 0} (spell : X → List ℕ) (May : X → Type 0) (arms : List (ℕ × Reader X)) → AllByRecursion (ArmTakes spell May) arms
    → (bytes : List ℕ) (x : X) (rest : List ℕ) → IsBytes bytes → tagged arms bytes ≡ Ok (x, rest) → Takes bytes (spell x) rest × May x
tagged_takes spell May arms all [] x rest fits e = absurd cc
tagged_takes spell May arms all (tag ∷ bytes) x rest fits e =
    behind_tag_takes spell May arms all (length (tag ∷ bytes)) tag bytes x rest (IsBytes-rest tag bytes fits) e

-- ---- structs, by their parts

module _ {A X : Type 0} {r : Reader A} {s : A → List ℕ} {F : A → Type 0} (first : Exact r s F) (make : A → X) (a_of : X → A)
    (made : (x : X) → make (a_of x) ≡ x) (a_is : (a : A) → a_of (make a) ≡ a) where
  pub exact_one : Exact (one_part r make) (λ x. s (a_of x)) (λ x. F (a_of x))
  exact_one = record {
    takes = λ bytes x rest fits e.
        let t = one_takes first make bytes x rest fits e in
        subst (λ (y : X). Takes bytes (s (a_of y)) rest × F (a_of y)) t.1 (subst (λ (y : A). Takes bytes (s y) rest × F y) (sym (a_is t.0)) (t.2, t.3));
    again = λ x rest fits. subst (λ (y : X). one_part r make (s (a_of x) ++ rest) ≡ Ok (y, rest)) (made x) (one_again first make (a_of x) rest fits);
  }

module _ {A B X : Type 0} {r : Reader A} {s : A → List ℕ} {F : A → Type 0} (first : Exact r s F)
    {r2 : Reader B} {s2 : B → List ℕ} {G : B → Type 0} (second : Exact r2 s2 G) (make : A → B → X) (a_of : X → A) (b_of : X → B)
    (made : (x : X) → make (a_of x) (b_of x) ≡ x) (a_is : (a : A) (b : B) → a_of (make a b) ≡ a) (b_is : (a : A) (b : B) → b_of (make a b) ≡ b) where
  pub exact_two : Exact (two_parts r r2 make) (λ x. s (a_of x) ++ s2 (b_of x)) (λ x. F (a_of x) × G (b_of x))
  exact_two = record {
    takes = λ bytes x rest fits e.
        let t = two_takes first second make bytes x rest fits e in
        subst (λ (y : X). Takes bytes (s (a_of y) ++ s2 (b_of y)) rest × (F (a_of y) × G (b_of y))) t.2
        (rw (a_is t.0 t.1, b_is t.0 t.1) (t.3, (t.4, t.5)));
    again = λ x rest fits. subst (λ (y : X). two_parts r r2 make ((s (a_of x) ++ s2 (b_of x)) ++ rest) ≡ Ok (y, rest)) (made x) (two_again first second make (a_of x) (b_of x) rest fits.0 fits.1);
  }

module _ {A B C X : Type 0} {r : Reader A} {s : A → List ℕ} {F : A → Type 0} (first : Exact r s F)
    {r2 : Reader B} {s2 : B → List ℕ} {G : B → Type 0} (second : Exact r2 s2 G)
    {r3 : Reader C} {s3 : C → List ℕ} {H : C → Type 0} (third : Exact r3 s3 H)
    (make : A → B → C → X) (a_of : X → A) (b_of : X → B) (c_of : X → C) (made : (x : X) → make (a_of x) (b_of x) (c_of x) ≡ x)
    (a_is : (a : A) (b : B) (c : C) → a_of (make a b c) ≡ a) (b_is : (a : A) (b : B) (c : C) → b_of (make a b c) ≡ b) (c_is : (a : A) (b : B) (c : C) → c_of (make a b c) ≡ c) where
  pub exact_three : Exact (three_parts r r2 r3 make) (λ x. s (a_of x) ++ (s2 (b_of x) ++ s3 (c_of x))) (λ x. F (a_of x) × (G (b_of x) × H (c_of x)))
  exact_three = record {
    takes = λ bytes x rest fits e.
        let t = three_takes first second third make bytes x rest fits e in
        subst (λ (y : X). Takes bytes (s (a_of y) ++ (s2 (b_of y) ++ s3 (c_of y))) rest × (F (a_of y) × (G (b_of y) × H (c_of y)))) t.3
        (rw (a_is t.0 t.1 t.2, b_is t.0 t.1 t.2, c_is t.0 t.1 t.2) (t.4, (t.5, (t.6, t.7))));
    again = λ x rest fits. subst (λ (y : X). three_parts r r2 r3 make ((s (a_of x) ++ (s2 (b_of x) ++ s3 (c_of x))) ++ rest) ≡ Ok (y, rest)) (made x)
        (three_again first second third make (a_of x) (b_of x) (c_of x) rest fits.0 fits.1.0 fits.1.1);
  }

-- ---- arms

module _ {X : Type 0} (spell : X → List ℕ) (May : X → Type 0) where
  pub arm_none : (tag : ℕ) (x : X) → spell x ≡ tag ∷ [] → May x → ArmTakes spell May (tag, no_parts x)
  arm_none tag x is may bytes y rest fits e =
      let i = ok_is (x, bytes) (y, rest) e in
      subst (λ (z : X × List ℕ). Takes (tag ∷ bytes) (spell z.0) z.1 × May z.0) i
      (rw is (record { parts = refl; rest_fits = fits }), may)

  pub arm_one : {A : Type 0} {r : Reader A} {s : A → List ℕ} {F : A → Type 0} (first : Exact r s F) (tag : ℕ) (make : A → X)
      → ((a : A) → spell (make a) ≡ tag ∷ s a) → ((a : A) → F a → May (make a)) → ArmTakes spell May (tag, one_part r make)
  arm_one first tag make is may bytes x rest fits e =
      let t = one_takes first make bytes x rest fits e in
      subst (λ (z : X). Takes (tag ∷ bytes) (spell z) rest × May z) t.1 (rw (is t.0) (behind t.2), may t.0 t.3)

  pub arm_two : {A B : Type 0} {r : Reader A} {s : A → List ℕ} {F : A → Type 0} (first : Exact r s F)
      {r2 : Reader B} {s2 : B → List ℕ} {G : B → Type 0} (second : Exact r2 s2 G) (tag : ℕ) (make : A → B → X)
      → ((a : A) (b : B) → spell (make a b) ≡ tag ∷ (s a ++ s2 b)) → ((a : A) (b : B) → F a → G b → May (make a b)) → ArmTakes spell May (tag, two_parts r r2 make)
  arm_two first second tag make is may bytes x rest fits e =
      let t = two_takes first second make bytes x rest fits e in
      subst (λ (z : X). Takes (tag ∷ bytes) (spell z) rest × May z) t.2 (rw (is t.0 t.1) (behind t.3), may t.0 t.1 t.4 t.5)

  pub arm_three : {A B C : Type 0} {r : Reader A} {s : A → List ℕ} {F : A → Type 0} (first : Exact r s F)
      {r2 : Reader B} {s2 : B → List ℕ} {G : B → Type 0} (second : Exact r2 s2 G)
      {r3 : Reader C} {s3 : C → List ℕ} {H : C → Type 0} (third : Exact r3 s3 H) (tag : ℕ) (make : A → B → C → X)
      → ((a : A) (b : B) (c : C) → spell (make a b c) ≡ tag ∷ (s a ++ (s2 b ++ s3 c))) → ((a : A) (b : B) (c : C) → F a → G b → H c → May (make a b c))
      → ArmTakes spell May (tag, three_parts r r2 r3 make)
  arm_three first second third tag make is may bytes x rest fits e =
      let t = three_takes first second third make bytes x rest fits e in
      subst (λ (z : X). Takes (tag ∷ bytes) (spell z) rest × May z) t.3 (rw (is t.0 t.1 t.2) (behind t.4), may t.0 t.1 t.2 t.5 t.6 t.7)
