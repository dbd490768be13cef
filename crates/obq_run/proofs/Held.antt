-- Sources that were read are as many as their sites, and within the limit.
use Rattle.std.proofs.Common.{List, None, Option, Some, [], ap, arith, drop, get_or, length, map, refl, slice_get, subst, suc, sym, take, ℕ, ◌+◌, ◌++◌, ◌<◌, ◌≡◌, ◌≤◌, ◌∙◌, ◌∷◌}
use Rattle.std.specs.Prelude.{IsSomeAnd}
use Rattle.std.specs.Option.{option_map}
use Rattle.std.proofs.Math.Seq.{drop-cons, take-suc}
use Rattle.std.proofs.lemmas.List.{length-map, take-map}
use Rattle.std.proofs.lemmas.Option.{slice_get-get_or, slice_get-map}
use Rattle.std.specs.String.{string_bytes}
use Rattle.obq_front.specs.Contents.{AllWithin, contents}
use Rattle.obq_front.specs.declared.program.Source.{Source}
use Rattle.obq_io.specs.Causes.{Rose}
use Rattle.obq_io.specs.Known.{IsIt, WhereTold}
use Rattle.obq_io.specs.Reads.{MatchReadRefused}
use Rattle.obq_io.specs.declared.reading.ReadRefused.{ReadRefused}
use Rattle.obq_io.specs.declared.reading.ReadRefused.TheVariants.{Fault, NoMemory, TooLong}
use Rattle.obq_run.specs.Held.{AreHeld, AreWithinLimit, IsFaultAt, IsTooLongAt, PathRose}
use Rattle.obq_words.specs.declared.words.SiteWord.{SiteWord}
use Rattle.obq_words.specs.Words.{paths_of}

pub held_length : (holds : List ℕ → Option (List ℕ)) (limit : ℕ) (paths sources : List (List ℕ)) → AreHeld holds limit paths sources → length sources ≡ length paths
held_length holds limit [] [] h = refl
held_length holds limit (p ∷ ps) (s ∷ ss) h = ap suc (held_length holds limit ps ss h.2)
held_length holds limit [] (s ∷ ss) h = absurd h
held_length holds limit (p ∷ ps) [] h = absurd h

-- the sources that were read are as many as the sites
pub as_many : (holds : List ℕ → Option (List ℕ)) (limit : ℕ) (sites : List SiteWord) (sources : List Source) → AreHeld holds limit (paths_of sites) (contents sources) → length sources ≡ length sites
as_many holds limit sites sources h = sym (length-map sources (λ s. s.bytes.items)) ∙ (held_length holds limit (paths_of sites) (contents sources) h ∙ length-map sites (λ s. string_bytes s.path))

-- a list of one
pub only_one : {A B : Type 0} (f : A → B) (xs : List A) (x : A) → length xs ≡ 1 → x ≡ get_or xs 0 x → map f xs ≡ f x ∷ []
only_one f [] x one is = absurd (omega (arith, one))
only_one f (y ∷ []) x one is = ap (λ v. f v ∷ []) (sym is)
only_one f (y ∷ z ∷ ys) x one is = absurd (omega (arith, one))

-- where there is a site and no second source, the bytes are those of the one source
pub one_source : (holds : List ℕ → Option (List ℕ)) (limit : ℕ) (sites : List SiteWord) (sources : List Source) (x : Source) → AreHeld holds limit (paths_of sites) (contents sources) → 1 ≤ length sites
    → length sources ≤ 1 → x ≡ get_or sources 0 x → contents sources ≡ x.bytes.items ∷ []
one_source holds limit sites sources x held some few is =
    let many : length sources ≡ length sites = as_many holds limit sites sources held in
    let single : length sources ≡ 1 = omega (arith, many, some, few) in
    only_one (λ s. s.bytes.items) sources x single is

-- each source is within the limit
pub within_held : (holds : List ℕ → Option (List ℕ)) (limit : ℕ) (paths sources : List (List ℕ)) → AreHeld holds limit paths sources → AllWithin limit sources
within_held holds limit [] [] held = tt
within_held holds limit (p ∷ ps) (s ∷ ss) held = (held.1, within_held holds limit ps ss held.2)
within_held holds limit [] (s ∷ ss) held = absurd held
within_held holds limit (p ∷ ps) [] held = absurd held

-- ---- the file at which reading stopped

within_told : (held : Option (List ℕ)) (bytes : List ℕ) (limit : ℕ) → IsIt held bytes → length bytes ≤ limit → WhereTold held (λ xs. length xs ≤ limit)
within_told None bytes limit is h = tt
within_told (Some xs) bytes limit is h = subst (λ ys. length ys ≤ limit) is h

within_push : (holds : List ℕ → Option (List ℕ)) (limit : ℕ) (xs : List SiteWord) (y : SiteWord) → AreWithinLimit holds limit (paths_of xs) → WhereTold (holds (string_bytes y.path)) (λ bytes. length bytes ≤ limit)
    → AreWithinLimit holds limit (paths_of (xs ++ y ∷ []))
within_push holds limit [] y before here = (here, tt)
within_push holds limit (x ∷ xs) y before here = (before.0, within_push holds limit xs y before.1 here)

one_more : (i : ℕ) → suc i ≡ i + 1
one_more i = omega arith

pub taken_next : (sites : List SiteWord) (i : ℕ) (site : SiteWord) → i < length sites → site ≡ get_or sites i site → take (i + 1) sites ≡ take i sites ++ site ∷ []
taken_next sites i site lt is = subst (λ n. take n sites ≡ take i sites ++ site ∷ []) (one_more i) (take-suc sites i site lt ∙ ap (λ s. take i sites ++ s ∷ []) (sym is))

pub left_next : (sites : List SiteWord) (i : ℕ) (site : SiteWord) → i < length sites → site ≡ get_or sites i site → drop i sites ≡ site ∷ drop (i + 1) sites
left_next sites i site lt is = subst (λ n. drop i sites ≡ site ∷ drop n sites) (one_more i) (drop-cons sites i site lt ∙ ap (λ s. s ∷ drop (suc i) sites) (sym is))

-- one more file was read
pub within_next : (holds : List ℕ → Option (List ℕ)) (limit : ℕ) (sites : List SiteWord) (i : ℕ) (site : SiteWord) (held : Option (List ℕ)) (bytes : List ℕ) → i < length sites → site ≡ get_or sites i site
    → AreWithinLimit holds limit (paths_of (take i sites)) → held ≡ holds (string_bytes site.path) → IsIt held bytes → length bytes ≤ limit → AreWithinLimit holds limit (paths_of (take (i + 1) sites))
within_next holds limit sites i site held bytes lt is before same it short =
    let here : WhereTold (holds (string_bytes site.path)) (λ xs. length xs ≤ limit) = subst (λ o. WhereTold o (λ xs. length xs ≤ limit)) same (within_told held bytes limit it short) in
    subst (λ ss. AreWithinLimit holds limit (paths_of ss)) (sym (taken_next sites i site lt is)) (within_push holds limit (take i sites) site before here)

at_site : (P : List ℕ → Type 0) (sites : List SiteWord) (i : ℕ) (site : SiteWord) → i < length sites → site ≡ get_or sites i site → P (string_bytes site.path) → IsSomeAnd (slice_get (paths_of sites) i) P
at_site P sites i site lt is here =
    let found : slice_get sites i ≡ Some site = slice_get-get_or sites i site lt ∙ ap Some (sym is) in
    let path : slice_get (paths_of sites) i ≡ Some (string_bytes site.path) = slice_get-map (λ s. string_bytes s.path) sites i ∙ ap (option_map (λ s. string_bytes s.path)) found in
    subst (λ o. IsSomeAnd o P) (sym path) here

rose_since : (start mid now : ℕ) → start ≤ mid → Rose mid now → Rose start now
rose_since start mid now le rose = omega (arith, le, rose)

-- why the file of this site wasn't read, as those before it were
pub unread_at : (holds before : List ℕ → Option (List ℕ)) (limit : ℕ) (start mid now : List ℕ → ℕ) (sites : List SiteWord) (i : ℕ) (site : SiteWord) (why : ReadRefused) → i < length sites → site ≡ get_or sites i site
    → AreWithinLimit holds limit (paths_of (take i sites)) → ((n : List ℕ) → before n ≡ holds n) → ((n : List ℕ) → start n ≤ mid n)
    → MatchReadRefused why (Rose (mid (string_bytes site.path)) (now (string_bytes site.path))) (WhereTold (before (string_bytes site.path)) (λ xs. limit < length xs))
    → MatchReadRefused why (IsFaultAt holds limit (PathRose start now) (paths_of sites) i) (IsTooLongAt holds limit (paths_of sites) i)
unread_at holds before limit start mid now sites i site Fault lt is within same later h = (
  subst (AreWithinLimit holds limit) (sym (take-map (λ s. string_bytes s.path) i sites)) within,
  at_site (PathRose start now) sites i site lt is (rose_since (start (string_bytes site.path)) (mid (string_bytes site.path)) (now (string_bytes site.path)) (later (string_bytes site.path)) h),
)
unread_at holds before limit start mid now sites i site TooLong lt is within same later h = (
  subst (AreWithinLimit holds limit) (sym (take-map (λ s. string_bytes s.path) i sites)) within,
  at_site (λ p. WhereTold (holds p) (λ xs. limit < length xs)) sites i site lt is (subst (λ o. WhereTold o (λ xs. limit < length xs)) (same (string_bytes site.path)) h),
)
unread_at holds before limit start mid now sites i site NoMemory lt is within same later h = tt
