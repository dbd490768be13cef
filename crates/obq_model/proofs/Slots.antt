-- The slot of a name is in range, and is the innermost binder of that name.
use Rattle.std.specs.Prelude.{Bool, List, None, Option, Some, [], bytes_eq, false, if◌then◌else◌, is_some, length, refl, suc, true, ℕ, ◌+◌, ◌<◌, ◌∷◌, ◌≡◌, ◌||◌}
use Rattle.std.proofs.Common.{ap, sym, ◌∙◌, arith, subst, true≢false}
use Rattle.std.proofs.lemmas.Slice.Eq.{bytes_eq-Decides}
use Rattle.obq_base.specs.declared.code.Slot.TheVariants as s
use Rattle.obq_model.specs.CodeLaws.{IsInnermost, IsLast, IsWithin}
use Rattle.obq_model.specs.Terms.{Bytes}
use Rattle.obq_model.specs.Put.{among}
use Rattle.obq_model.specs.Scopes.{Outside, last_place, last_place_from, slot_of, slot_or}
use Rattle.obq_model.proofs.Options.{some_same}
use Rattle.obq_model.proofs.Places.{among_place, or_else, place_below, place_found}

-- at its last place stands the name, and it stands at no later one
pub record IsAt (i : ℕ) (y : Bytes) (xs : List Bytes) (k : ℕ) : Type 0 where
  pub place : ℕ
  pub counted : k ≡ i + place
  pub last : IsLast place y xs

pub place_last : (i : ℕ) (y : Bytes) (xs : List Bytes) (k : ℕ) → last_place_from i None y xs ≡ Some k → IsAt i y xs k
place_last i y [] k e = absurd (true≢false (sym (ap is_some e)))
place_last i y (x ∷ xs) k e = by_case (bytes_eq y x) refl (last_place_from (suc i) None y xs) refl (sym (place_found (suc i) (if bytes_eq y x then Some i else None) y xs) ∙ e) (place_last (suc i) y xs) where
  by_case : (c : Bool) → bytes_eq y x ≡ c → (o : Option ℕ) → last_place_from (suc i) None y xs ≡ o → or_else (last_place_from (suc i) None y xs) (if c then Some i else None) ≡ Some k
      → ((k : ℕ) → last_place_from (suc i) None y xs ≡ Some k → IsAt (suc i) y xs k) → IsAt i y (x ∷ xs) k
  by_case c w (Some n) q f ih =
      let found : IsAt (suc i) y xs k = ih k (q ∙ sym (ap (λ (z : Option ℕ). or_else z (if c then Some i else None)) q) ∙ f) in
      record { place = suc found.place; counted = further i found.place k found.counted; last = found.last } where
        further : (i j k : ℕ) → k ≡ suc i + j → k ≡ i + suc j
        further i j k e = omega (arith, e)
  by_case true w None q f ih = record {
    place = 0;
    counted = here i k (some_same i k (sym (ap (λ (z : Option ℕ). or_else z (Some i)) q) ∙ f));
    last = (ap Some (sym ((bytes_eq-Decides y x).0 w)), among_place (suc i) y xs ∙ ap is_some q);
  } where
    here : (i k : ℕ) → i ≡ k → k ≡ i + 0
    here i k e = omega (arith, e)
  by_case false w None q f ih = absurd (true≢false (sym (ap is_some (sym (ap (λ (z : Option ℕ). or_else z None) q) ∙ f))))

below : (y : Bytes) (xs : List Bytes) (k : ℕ) → last_place y xs ≡ Some k → k < length xs
below y xs k e = bare k (length xs) (place_below 0 y xs k e) where
  bare : (k n : ℕ) → k < 0 + n → k < n
  bare k n l = omega (arith, l)

last : (y : Bytes) (xs : List Bytes) (k : ℕ) → last_place y xs ≡ Some k → IsLast k y xs
last y xs k e =
    let found : IsAt 0 y xs k = place_last 0 y xs k e in
    subst (λ j. IsLast j y xs) (sym (bare k found.place found.counted)) found.last where
      bare : (k j : ℕ) → k ≡ 0 + j → k ≡ j
      bare k j e = omega (arith, e)

not_among : (y : Bytes) (xs : List Bytes) → last_place y xs ≡ None → among y xs ≡ false
not_among y xs e = among_place 0 y xs ∙ ap is_some e

pub slot_within : (o : Outside) (locals : List Bytes) (x : Bytes) → IsWithin o (length locals) (slot_of o locals x)
slot_within o locals x = at (last_place x locals) (last_place x o.members) (last_place x o.captured) refl refl refl where
  at : (a b c : Option ℕ) → last_place x locals ≡ a → last_place x o.members ≡ b → last_place x o.captured ≡ c → IsWithin o (length locals) (slot_or s.Local a (slot_or s.Member b (slot_or s.Captured c (s.Stdout o.source))))
  at (Some k) b c e f g = below x locals k e
  at None (Some k) c e f g = below x o.members k f
  at None None (Some k) e f g = below x o.captured k g
  at None None None e f g = refl

pub slot_innermost : (o : Outside) (locals : List Bytes) (x : Bytes) → IsInnermost o locals (slot_of o locals x) x
slot_innermost o locals x = at (last_place x locals) (last_place x o.members) (last_place x o.captured) refl refl refl where
  at : (a b c : Option ℕ) → last_place x locals ≡ a → last_place x o.members ≡ b → last_place x o.captured ≡ c
      → IsInnermost o locals (slot_or s.Local a (slot_or s.Member b (slot_or s.Captured c (s.Stdout o.source)))) x
  at (Some k) b c e f g = last x locals k e
  at None (Some k) c e f g = (not_among x locals e, last x o.members k f)
  at None None (Some k) e f g = (not_among x locals e, not_among x o.members f, last x o.captured k g)
  at None None None e f g =
      ap (λ (b : Bool). b || (among x o.members || among x o.captured)) (not_among x locals e) ∙ ap (λ (b : Bool). b || among x o.captured) (not_among x o.members f) ∙ not_among x o.captured g
