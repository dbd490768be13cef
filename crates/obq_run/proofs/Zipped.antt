-- The outputs of sites, by their names.
use Rattle.std.proofs.Common.{List, None, Option, Some, [], ap, arith, drop, length, map, refl, slice_get, subst, suc, sym, take, zero, ℕ, ◌++◌, ◌≡◌, ◌≤◌, ◌∙◌, ◌∷◌}
use Rattle.std.specs.Io.KnownBytes.{Appends}
use Rattle.std.specs.List.{zip}
use Rattle.obq_io.specs.Known.{GetsPrefix}
use Rattle.std.proofs.lemmas.Grind.{flat_map-append}
use Rattle.std.proofs.lemmas.List.{take-map}
use Rattle.obq_model.specs.Config.{Config}
use Rattle.obq_model.specs.Output.{site_text}
use Rattle.obq_model.specs.Cells.{written}
use Rattle.obq_model.specs.Replay.{output}
use Rattle.obq_model.specs.Store.{Cell}
use Rattle.std.specs.Global.{Vec}
use Rattle.std.specs.Option.{option_map}
use Rattle.std.proofs.lemmas.Option.{slice_get-map}
use Rattle.obq_run.specs.Played.{sites_text, texts_of}

-- a site's name and what it wrote
abbrev pub pair : List ℕ → List ℕ → List ℕ × List ℕ
pair n b = (n, b)

-- what stands in both lists at one place stands there in the list of pairs
pub both_at : (names outs : List (List ℕ)) (k : ℕ) (n b : List ℕ) → slice_get names k ≡ Some n → slice_get outs k ≡ Some b → slice_get (zip names outs) k ≡ Some (pair n b)
both_at [] outs k n b h g = absurd cc
both_at (x ∷ xs) [] k n b h g = absurd cc
both_at (x ∷ xs) (y ∷ ys) zero n b h g = joined x y n b h g
  where
    joined : (x y n b : List ℕ) → Some x ≡ Some n → Some y ≡ Some b → Some (pair x y) ≡ Some (pair n b)
    joined x y n b h g = cc
both_at (x ∷ xs) (y ∷ ys) (suc k) n b h g = both_at xs ys k n b h g

pub past_names : (names outs : List (List ℕ)) (k : ℕ) → length names ≤ k → take k (zip names outs) ≡ zip names outs
past_names [] outs zero h = refl
past_names [] outs (suc k) h = refl
past_names (x ∷ xs) [] zero h = refl
past_names (x ∷ xs) [] (suc k) h = refl
past_names (x ∷ xs) (y ∷ ys) zero h = absurd (omega (arith, h))
past_names (x ∷ xs) (y ∷ ys) (suc k) h = ap (λ zs. (x, y) ∷ zs) (past_names xs ys k (omega (arith, h)))

pub past_outs : (names outs : List (List ℕ)) (k : ℕ) → slice_get outs k ≡ None → take k (zip names outs) ≡ zip names outs
past_outs [] outs zero h = refl
past_outs [] outs (suc k) h = refl
past_outs (x ∷ xs) [] zero h = refl
past_outs (x ∷ xs) [] (suc k) h = refl
past_outs (x ∷ xs) (y ∷ ys) zero h = absurd cc
past_outs (x ∷ xs) (y ∷ ys) (suc k) h = ap (λ zs. (x, y) ∷ zs) (past_outs xs ys k h)

taken_at : (zs : List (List ℕ × List ℕ)) (k : ℕ) (z : List ℕ × List ℕ) → slice_get zs k ≡ Some z → take (suc k) zs ≡ take k zs ++ z ∷ []
taken_at [] k z h = absurd cc
taken_at (x ∷ xs) zero z h = head x z h
  where
    head : (x z : List ℕ × List ℕ) → Some x ≡ Some z → x ∷ [] ≡ z ∷ []
    head x z h = cc
taken_at (x ∷ xs) (suc k) z h = ap (λ zs. x ∷ zs) (taken_at xs k z h)

whole_at : (zs : List (List ℕ × List ℕ)) (k : ℕ) (z : List ℕ × List ℕ) → slice_get zs k ≡ Some z → zs ≡ take k zs ++ (z ∷ drop (suc k) zs)
whole_at [] k z h = absurd cc
whole_at (x ∷ xs) zero z h = head x z h
  where
    head : (x z : List ℕ × List ℕ) → Some x ≡ Some z → x ∷ xs ≡ z ∷ xs
    head x z h = cc
whole_at (x ∷ xs) (suc k) z h = ap (λ zs. x ∷ zs) (whole_at xs k z h)

-- one site more
pub text_next : (zs : List (List ℕ × List ℕ)) (k : ℕ) (n b : List ℕ) → slice_get zs k ≡ Some (pair n b) → sites_text (take (suc k) zs) ≡ sites_text (take k zs) ++ site_text n b
text_next zs k n b h = ap sites_text (taken_at zs k (pair n b) h) ∙ (flat_map-append (λ (s : List ℕ × List ℕ). site_text s.0 s.1) (take k zs) (pair n b ∷ []) ∙ ap (λ t. sites_text (take k zs) ++ t) (nothing_more (site_text n b)))
  where
    nothing_more : (t : List ℕ) → t ++ [] ≡ t
    nothing_more [] = refl
    nothing_more (x ∷ xs) = ap (λ ys. x ∷ ys) (nothing_more xs)

-- the sites before one, that one, and those behind it
pub text_cut : (zs : List (List ℕ × List ℕ)) (k : ℕ) (n b : List ℕ) → slice_get zs k ≡ Some (pair n b) → sites_text zs ≡ sites_text (take k zs) ++ (site_text n b ++ sites_text (drop (suc k) zs))
text_cut zs k n b h = ap sites_text (whole_at zs k (pair n b) h) ∙ flat_map-append (λ (s : List ℕ × List ℕ). site_text s.0 s.1) (take k zs) (pair n b ∷ drop (suc k) zs)

take_all : (xs : List ℕ) → take (length xs) xs ≡ xs
take_all [] = refl
take_all (x ∷ xs) = ap (λ ys. x ∷ ys) (take_all xs)

-- what got a whole text got a prefix of it
pub whole_prefix : (a b : Option (List ℕ)) (t : List ℕ) → Appends a b t → GetsPrefix a b t
whole_prefix a b t h = (length t, omega arith, subst (λ x. Appends a b x) (sym (take_all t)) h)

-- ---- lists up to a place

pub past_none : {X : Type 0} (xs : List X) (k : ℕ) → slice_get xs k ≡ None → take k xs ≡ xs
past_none [] zero h = refl
past_none [] (suc k) h = refl
past_none (x ∷ xs) zero h = absurd cc
past_none (x ∷ xs) (suc k) h = ap (λ ys. x ∷ ys) (past_none xs k h)

take_twice : {X : Type 0} (n k : ℕ) (xs : List X) → n ≤ k → take k (take n xs) ≡ take n xs
take_twice zero zero xs h = refl
take_twice zero (suc k) xs h = refl
take_twice (suc n) zero xs h = absurd (omega (arith, h))
take_twice (suc n) (suc k) [] h = refl
take_twice (suc n) (suc k) (x ∷ xs) h = ap (λ ys. x ∷ ys) (take_twice n k xs (omega (arith, h)))

-- as many outputs as sites are all
pub past_end : (n : ℕ) (c : Config) (k : ℕ) → n ≤ k → take k (output n c) ≡ output n c
past_end n c k h = take-map (λ (cell : Cell ℕ). written (Some cell)) k (take n c.store.cells) ∙ ap (map (λ (cell : Cell ℕ). written (Some cell))) (take_twice n k c.store.cells h)

pub take_more : {X : Type 0} (xs : List X) (k : ℕ) (x : X) → slice_get xs k ≡ Some x → take (suc k) xs ≡ take k xs ++ x ∷ []
take_more [] k x h = absurd cc
take_more (y ∷ ys) zero x h = head y x h
  where
    head : {X : Type 0} (y x : X) → Some y ≡ Some x → y ∷ [] ≡ x ∷ []
    head y x h = cc
take_more (y ∷ ys) (suc k) x h = ap (λ zs. y ∷ zs) (take_more ys k x h)

pub text_at : (texts : List (Vec ℕ)) (k : ℕ) → slice_get (texts_of texts) k ≡ option_map (λ t. t.items) (slice_get texts k)
text_at texts k = slice_get-map (λ t. t.items) texts k
