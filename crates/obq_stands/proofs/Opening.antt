-- The World at the start stands for the opening configuration.
use Rattle.std.specs.Prelude.{Bool, true, false, List, Option, Some, None, [], ◌∷◌, ℕ, zero, suc, length, nat_lt, option_map, replicate, slice_get, refl, ◌+◌, ◌<◌, ◌&&◌, ◌≡◌, if◌then◌else◌}
use Rattle.std.proofs.Common.{ap, sym, ◌∙◌, subst, arith, eqb}
use Rattle.std.proofs.lemmas.Bool.Decides.{nat_tests}
use Rattle.obq_base.specs.Tree.{BlockTree}
use Rattle.obq_model.specs.Terms.{Term}
use Rattle.obq_model.specs.Store.{Cell, WriterCell}
use Rattle.obq_model.specs.Config.{Running, ThreadState}
use Rattle.obq_model.specs.Maps.{map_term, map_cell}
use Rattle.obq_model.specs.Opening.{block_term, opening_terms, new_threads, opening}
use Rattle.obq_stands.specs.World.{Ref, same_ref, Born, Slot}
use Rattle.obq_stands.specs.Stands.{Place, Absent, At, StandsAt, IsSomewhere, HasPlace}
use Rattle.obq_stands.specs.Events.{writer_at, Opens, windows, first_cell, first_slot, first_running, Begin, Then, BeginsBy, Begins, EveryRunStands}
use Rattle.obq_stands.proofs.Windows.{opens}
use Rattle.obq_stands.proofs.Update.{test_refl, test_same}
use Rattle.obq_stands.proofs.Refs.{ref_same, ref_refl}
use Rattle.obq_model.proofs.Slices.{get_below}
use Rattle.obq_stands.proofs.Turns.{state_of}
use Rattle.obq_stands.proofs.Kept.{step_keeps}

pub record First (n : ℕ) (r : Ref) (x : Born) : Type 0 where
  pub site : r.site < n
  pub is : r ≡ writer_at r.site
  pub cell : x ≡ record { born = r.site; cell = WriterCell [] }

first_by : (n : ℕ) (r : Ref) (x : Born) (a b : Bool) → nat_lt r.site n ≡ a → same_ref r (writer_at r.site) ≡ b → (if a && b then Some (record { born = r.site; cell = WriterCell [] }) else None) ≡ Some x → First n r x
first_by n r x true true lt e is = record { site = grind (arith, nat_tests); is = ref_same r (writer_at r.site) e; cell = cc is }
first_by n r x true false lt e is = absurd (cc is)
first_by n r x false b lt e is = absurd (cc is)

pub first : (n : ℕ) (r : Ref) (x : Born) → first_cell n r ≡ Some x → First n r x
first n r x e = first_by n r x (nat_lt r.site n) (same_ref r (writer_at r.site)) refl refl e

below_test : (k n : ℕ) → k < n → nat_lt k n ≡ true
below_test k n l = grind (arith, nat_tests)

is_first : (n k : ℕ) → k < n → first_cell n (writer_at k) ≡ Some (record { born = k; cell = WriterCell [] })
is_first n k l = ap (λ (b : Bool). if b && same_ref (writer_at k) (writer_at k) then Some (record { born = k; cell = WriterCell [] }) else None) (below_test k n l) ∙ ap (λ (b : Bool). if b then Some (record { born = k; cell = WriterCell [] }) else None) (ref_refl (writer_at k))

replicated : (n k : ℕ) (x : Cell ℕ) → k < n → slice_get (replicate n x) k ≡ Some x
replicated zero k x l = absurd (omega arith)
replicated (suc n) zero x l = refl
replicated (suc n) (suc k) x l = replicated n k x (omega arith)

replicate_length : (n : ℕ) (x : Cell ℕ) → length (replicate n x) ≡ n
replicate_length zero x = refl
replicate_length (suc n) x = ap suc (replicate_length n x)

terms_length : (k : ℕ) (xs : List (Term Ref)) (bs : List BlockTree) → Opens k xs bs → length (opening_terms k bs) ≡ length xs
terms_length k [] [] h = refl
terms_length k (x ∷ xs) (b ∷ bs) h = ap suc (terms_length (suc k) xs bs h.1)
terms_length k [] (b ∷ bs) h = absurd h
terms_length k (x ∷ xs) [] h = absurd h

threads_length : (ts : List (Term ℕ)) → length (new_threads ts) ≡ length ts
threads_length [] = refl
threads_length (t ∷ ts) = ap suc (threads_length ts)

-- thread i at the opening
record Opened (k i : ℕ) (o : Option ThreadState) (x : Term Ref) : Type 0 where
  term : Term ℕ
  here : o ≡ Some (state_of (Running term) 0)
  reads : (f : Ref → ℕ) → f (writer_at (k + i)) ≡ k + i → term ≡ map_term f x

next_place : (k i : ℕ) → suc k + i ≡ k + suc i
next_place k i = omega arith

first_place : (k : ℕ) → k + 0 ≡ k
first_place k = omega arith

from_zero : (k : ℕ) → 0 + k ≡ k
from_zero k = omega arith

opened : (k : ℕ) (xs : List (Term Ref)) (bs : List BlockTree) → Opens k xs bs → (i : ℕ) (x : Term Ref) → slice_get xs i ≡ Some x → Opened k i (slice_get (new_threads (opening_terms k bs)) i) x
opened k [] [] h i x e = absurd (cc e)
opened k (y ∷ ys) (b ∷ bs) h zero x e =
    let same : y ≡ x = cc e in
    record {
      term = block_term k [] b;
      here = refl;
      reads = λ f g. sym (h.0 f (subst (λ n. f (writer_at n) ≡ n) (first_place k) g)) ∙ ap (map_term f) same;
    }
opened k (y ∷ ys) (b ∷ bs) h (suc i) x e =
    let o = opened (suc k) ys bs h.1 i x e in
    record { term = o.term; here = o.here; reads = λ f g. o.reads f (subst (λ n. f (writer_at n) ≡ n) (sym (next_place k i)) g) }
opened k [] (b ∷ bs) h i x e = absurd h
opened k (y ∷ ys) [] h i x e = absurd h

not_opened : (k : ℕ) (xs : List (Term Ref)) (bs : List BlockTree) → Opens k xs bs → (i : ℕ) → slice_get xs i ≡ None → slice_get (new_threads (opening_terms k bs)) i ≡ None
not_opened k [] [] h i e = refl
not_opened k (y ∷ ys) (b ∷ bs) h zero e = absurd (cc e)
not_opened k (y ∷ ys) (b ∷ bs) h (suc i) e = not_opened (suc k) ys bs h.1 i e
not_opened k [] (b ∷ bs) h i e = absurd h
not_opened k (y ∷ ys) [] h i e = absurd h

abbrev place_of : ℕ → Option (Term Ref) → Place
place_of t None = Absent
place_of t (Some x) = At t (first_slot x)

place_some : (t : ℕ) (o : Option (Term Ref)) → IsSomewhere (place_of t o)
place_some t None = tt
place_some t (Some x) = tt

stands_by : (trees : List BlockTree) (turns : ℕ) (windows : List (Term Ref)) → Opens 0 windows trees → (t : ℕ) (o : Option (Term Ref)) → slice_get windows t ≡ o
    → StandsAt turns (first_cell (length windows)) (λ _ _. None) t (slice_get (new_threads (opening_terms 0 trees)) t) (place_of t o)
stands_by trees turns windows h t None e = not_opened 0 windows trees h t e
stands_by trees turns windows h t (Some x) e =
    let o = opened 0 windows trees h t x e in
    record {
      term = o.term;
      here = o.here;
      reads = record { links = []; chained = (refl, refl); calls = tt; same = λ f a. o.reads f (subst (λ n. f (writer_at n) ≡ n) (sym (from_zero t)) (a.cells (writer_at t) (record { born = t; cell = WriterCell [] }) (is_first (length windows) t (get_below windows t x e)))) };
    }

runs_by : (windows : List (Term Ref)) (s t : ℕ) (slot : Slot) (o : Option (Term Ref)) (b : Bool) → eqb s t ≡ b → (if b then option_map first_slot o else None) ≡ Some slot → place_of t o ≡ At s slot
runs_by windows s t slot None true e h = absurd (cc h)
runs_by windows s t slot (Some x) true e h = let p : s ≡ t = test_same s t e in let q : first_slot x ≡ slot = cc h in rw (p, q) refl
runs_by windows s t slot o false e h = absurd (cc h)

back_by : (windows : List (Term Ref)) (t : ℕ) (o : Option (Term Ref)) → slice_get windows t ≡ o → HasPlace (first_running windows) (λ _ _. None) (λ _ _. None) (λ _ _. []) t (place_of t o)
back_by windows t None e = tt
back_by windows t (Some x) e = ap (λ (b : Bool). if b then option_map first_slot (slice_get windows t) else None) (test_refl t) ∙ ap (option_map first_slot) e

pub begins_by : BeginsBy
begins_by trees turns windows h =
    let n : ℕ = length windows in
    let long : length (opening_terms 0 trees) ≡ n = terms_length 0 windows trees h in
    record {
      config = opening trees;
      replays = refl;
      stands = record {
        place = λ t. place_of t (slice_get windows t);
        settled = λ t. place_some t (slice_get windows t);
        counted = threads_length (opening_terms 0 trees) ∙ long;
        memory = record {
          counted = replicate_length (length (opening_terms 0 trees)) (WriterCell []) ∙ long;
          below = λ r x e. let q = first n r x e in subst (λ (b : Born). b.born < n) (sym q.cell) q.site;
          apart = λ r q x y e f b.
              let i = first n r x e in
              let j = first n q y f in
              i.is ∙ ap writer_at (sym (ap (λ (z : Born). z.born) i.cell) ∙ b ∙ ap (λ (z : Born). z.born) j.cell) ∙ sym j.is;
          covers = λ k l. (writer_at k, record { born = k; cell = WriterCell [] }, is_first n k l, refl);
          cells = λ r x e f a.
              let q = first n r x e in
              ap (λ m. slice_get (replicate m (WriterCell [])) x.born) long
              ∙ replicated n x.born (WriterCell []) (subst (λ (b : Born). b.born < n) (sym q.cell) q.site)
              ∙ ap (λ (b : Born). Some (map_cell f b.cell)) (sym q.cell);
          names = λ f a. refl;
        };
        threads = λ t. stands_by trees turns windows h t (slice_get windows t) refl;
        placed = record {
          runs = λ s t slot e. runs_by windows s t slot (slice_get windows t) (eqb s t) refl e;
          waits = λ s t x e. absurd (cc e);
          ends = λ s t x e. absurd (cc e);
          fits = λ a b. tt;
          back = λ t. back_by windows t (slice_get windows t) refl;
        };
      };
    }

pub begins : Begins
begins trees turns = begins_by trees turns (windows 0 trees) (opens 0 trees)

pub every_run_stands : EveryRunStands
every_run_stands trees turns w Begin = begins trees turns
every_run_stands trees turns w (Then {v = v} r s) = step_keeps trees turns v w (every_run_stands trees turns v r) s
