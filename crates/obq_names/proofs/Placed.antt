-- Last places in a list that grows and shrinks at its end.
use Rattle.std.proofs.Common.{◌≡◌, ◌∙◌, inl, inr, ℕ, suc, ◌+◌, Bool, true, false, ◌||◌, cond, List, [], ◌∷◌, ◌++◌, Option, None, Some, is_some, refl, ap, sym, subst, length, bytes_eq, arith, append_assoc}
use Rattle.std.specs.BTreeMap.{BTreeMap}
use Rattle.std.specs.Global.{Vec}
use Rattle.std.specs.Cmp.Lexicographic.{bytes_decides, nat_list_eq_equiv}
use Rattle.std.proofs.lemmas.Bool.{cases_Bool, cond-true, cond-false}
use Rattle.std.proofs.lemmas.List.{append-nil}
use Rattle.obq_model.specs.Put.{among}
use Rattle.obq_model.specs.Scopes.{last_place, last_place_from}
use Rattle.obq_names.specs.Indexed.{IsIndexed, earlier_places}
use Rattle.obq_names.specs.PlaceAt.{place_at}

last_from-push : (k : ℕ) (found : Option ℕ) (q x : List ℕ) (xs : List (List ℕ)) → last_place_from k found q (xs ++ x ∷ []) ≡ cond (bytes_eq q x) (Some (k + length xs)) (last_place_from k found q xs)
last_from-push k found q x [] = let e : k ≡ k + length {A = List ℕ} [] = omega arith in ap (λ (n : ℕ). cond (bytes_eq q x) (Some n) found) e
last_from-push k found q x (y ∷ ys) =
    let e : suc k + length ys ≡ k + length (y ∷ ys) = omega arith in
    last_from-push (suc k) (cond (bytes_eq q y) (Some k) found) q x ys ∙ ap (λ (n : ℕ). cond (bytes_eq q x) (Some n) (last_place_from (suc k) (cond (bytes_eq q y) (Some k) found) q ys)) e

-- one more name
pub last_place-push : (q x : List ℕ) (xs : List (List ℕ)) → last_place q (xs ++ x ∷ []) ≡ cond (bytes_eq q x) (Some (length xs)) (last_place q xs)
last_place-push q x xs =
    let e : 0 + length xs ≡ length xs = omega arith in
    last_from-push 0 None q x xs ∙ ap (λ (n : ℕ). cond (bytes_eq q x) (Some n) (last_place q xs)) e

some_of : (e : Bool) (k : ℕ) (found : Option ℕ) → is_some (cond e (Some k) found) ≡ (e || is_some found)
some_of true k found = refl
some_of false k found = refl

shift : (a e f : Bool) → (a || (e || f)) ≡ ((e || a) || f)
shift true true true = refl
shift true true false = refl
shift true false true = refl
shift true false false = refl
shift false true true = refl
shift false true false = refl
shift false false true = refl
shift false false false = refl

or_false : (a : Bool) → (a || false) ≡ a
or_false true = refl
or_false false = refl

last_from-among : (k : ℕ) (found : Option ℕ) (x : List ℕ) (xs : List (List ℕ)) → is_some (last_place_from k found x xs) ≡ (among x xs || is_some found)
last_from-among k found x [] = refl
last_from-among k found x (y ∷ ys) =
    last_from-among (suc k) (cond (bytes_eq x y) (Some k) found) x ys ∙ ap (λ (b : Bool). among x ys || b) (some_of (bytes_eq x y) k found) ∙ shift (among x ys) (bytes_eq x y) (is_some found)

-- a name is among others where it has a last place
pub last_place-among : (x : List ℕ) (xs : List (List ℕ)) → is_some (last_place x xs) ≡ among x xs
last_place-among x xs = last_from-among 0 None x xs ∙ or_false (among x xs)

earlier-push : (p xs : List (List ℕ)) (x : List ℕ) → earlier_places p (xs ++ x ∷ []) ≡ earlier_places p xs ++ last_place x (p ++ xs) ∷ []
earlier-push p [] x = ap (λ (l : List (List ℕ)). last_place x l ∷ []) (sym (append-nil p))
earlier-push p (y ∷ ys) x =
    ap (λ (l : List (Option ℕ)). last_place y p ∷ l) (earlier-push (p ++ y ∷ []) ys x ∙ ap (λ (l : List (List ℕ)). earlier_places (p ++ y ∷ []) ys ++ last_place x l ∷ []) (append_assoc p (y ∷ []) ys))

same_way : (x q : List ℕ) → bytes_eq x q ≡ bytes_eq q x
same_way x q = nat_list_eq_equiv.symm x q

pushed : (m n : BTreeMap (Vec ℕ) ℕ) (earlier : List (Option ℕ)) (names : List (List ℕ)) (x : List ℕ) (w : Option ℕ) (place : ℕ) → IsIndexed m earlier names → place ≡ length names
    → ((q : List ℕ) → place_at n q ≡ cond (bytes_eq x q) (Some place) (place_at m q)) → w ≡ place_at m x → IsIndexed n (earlier ++ w ∷ []) (names ++ x ∷ [])
pushed m n earlier names x w place i f h e = record {
  places = λ q. h q ∙ ap (λ (k : ℕ). cond (bytes_eq x q) (Some k) (place_at m q)) f ∙ ap (λ (b : Bool). cond b (Some (length names)) (place_at m q)) (same_way x q)
      ∙ ap (λ (o : Option ℕ). cond (bytes_eq q x) (Some (length names)) o) (i.places q) ∙ sym (last_place-push q x names);
  befores = ap (λ (l : List (Option ℕ)). l ++ w ∷ []) i.befores ∙ ap (λ (o : Option ℕ). earlier_places [] names ++ o ∷ []) (e ∙ i.places x) ∙ sym (earlier-push [] names x);
}

-- a name is bound
pub indexed_push : (m n : BTreeMap (Vec ℕ) ℕ) (earlier more : List (Option ℕ)) (names all : List (List ℕ)) (x key : List ℕ) (w : Option ℕ) (place : ℕ) → IsIndexed m earlier names
    → key ≡ x → place ≡ length names → ((q : List ℕ) → place_at n q ≡ cond (bytes_eq key q) (Some place) (place_at m q)) → w ≡ place_at m key
    → more ≡ earlier ++ w ∷ [] → all ≡ names ++ x ∷ [] → IsIndexed n more all
indexed_push m n earlier more names all x key w place i k f h e a b =
    subst (λ (l : List (Option ℕ)). IsIndexed n l all) (sym a) (subst (λ (l : List (List ℕ)). IsIndexed n (earlier ++ w ∷ []) l) (ap (λ (y : List ℕ). names ++ y ∷ []) k ∙ sym b) (pushed m n earlier names key w place i f h e))

-- two lists that end with one more are equal in both parts
abbrev init_from : {A : Type 0} → A → List A → List A
init_from x [] = []
init_from x (y ∷ ys) = x ∷ init_from y ys

abbrev init : {A : Type 0} → List A → List A
init [] = []
init (x ∷ xs) = init_from x xs

abbrev last_or : {A : Type 0} → A → List A → A
last_or d [] = d
last_or d (x ∷ xs) = last_or x xs

init_from-push : {A : Type 0} (y : A) (ys : List A) (x : A) → init_from y (ys ++ x ∷ []) ≡ y ∷ ys
init_from-push y [] x = refl
init_from-push y (z ∷ zs) x = ap (λ l. y ∷ l) (init_from-push z zs x)

init-push : {A : Type 0} (ys : List A) (x : A) → init (ys ++ x ∷ []) ≡ ys
init-push [] x = refl
init-push (y ∷ ys) x = init_from-push y ys x

last_or-push : {A : Type 0} (d : A) (ys : List A) (x : A) → last_or d (ys ++ x ∷ []) ≡ x
last_or-push d [] x = refl
last_or-push d (y ∷ ys) x = last_or-push y ys x

list_of : {A : Type 0} (xs ys : List A) (x y : A) → xs ++ x ∷ [] ≡ ys ++ y ∷ [] → (xs ≡ ys) × (x ≡ y)
list_of xs ys x y e = (sym (init-push xs x) ∙ ap init e ∙ init-push ys y, sym (last_or-push x xs x) ∙ ap (last_or x) e ∙ last_or-push x ys y)

-- a name is taken away
pub indexed_pop : (m n : BTreeMap (Vec ℕ) ℕ) (earlier before_pop : List (Option ℕ)) (names all : List (List ℕ)) (x key : List ℕ) (w : Option ℕ) → IsIndexed m before_pop all → key ≡ x
    → before_pop ≡ earlier ++ w ∷ [] → all ≡ names ++ x ∷ []
    → ((q : List ℕ) → place_at n q ≡ cond (bytes_eq key q) w (place_at m q)) → IsIndexed n earlier names
indexed_pop m n earlier before_pop names all x key w i k e a g =
    let h : (q : List ℕ) → place_at n q ≡ cond (bytes_eq x q) w (place_at m q) = λ q. g q ∙ ap (λ (y : List ℕ). cond (bytes_eq y q) w (place_at m q)) k in
    let parts : (earlier ≡ earlier_places [] names) × (w ≡ last_place x names)
    = list_of earlier (earlier_places [] names) w (last_place x names) (sym e ∙ i.befores ∙ ap (λ (l : List (List ℕ)). earlier_places [] l) a ∙ earlier-push [] names x) in
    record {
      places = λ q. elim (cases_Bool (bytes_eq x q)) [
        | inl y ↦ h q ∙ cond-true (bytes_eq x q) w (place_at m q) y ∙ parts.1 ∙ ap (λ (z : List ℕ). last_place z names) ((bytes_decides x q).0 y)
        | inr d ↦ h q ∙ cond-false (bytes_eq x q) w (place_at m q) d ∙ i.places q ∙ ap (λ (l : List (List ℕ)). last_place q l) a ∙ last_place-push q x names
            ∙ cond-false (bytes_eq q x) (Some (length names)) (last_place q names) (sym (same_way x q) ∙ d)
      ];
      befores = parts.0;
    }
