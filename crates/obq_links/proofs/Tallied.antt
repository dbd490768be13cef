-- One message more in a table of messages.
use Rattle.std.proofs.Common.{Bool, List, [], ap, arith, false, if◌then◌else◌, map, refl, replicate, slice_index_or, slice_set, suc, sym, true, zero, ℕ, ◌&&◌, ◌+◌, ◌++◌, ◌<◌, ◌==◌, ◌∙◌, ◌∷◌, ◌≡◌}
use Rattle.std.proofs.lemmas.Bool.Decides.{nat_tests}
use Rattle.obq_model.specs.Located.{Message, first_sites, message, sent}
use Rattle.obq_links.specs.Tables.{count_at, counted, counted_to, no_messages, row_of, table_of, with_message}

-- ---- lists over the first sites

-- a list that differs at no site from this one on
same_from : {A : Type 0} (f g : ℕ → A) (m : ℕ) → ((i : ℕ) → (i ≡ m → ⊥) → f i ≡ g i) → (k n : ℕ) → m < k → map f (first_sites k n) ≡ map g (first_sites k n)
same_from f g m other k zero h = refl
same_from f g m other k (suc n) h =
    let apart : k ≡ m → ⊥ = λ e. omega (arith, e, h) in
    let above : m < suc k = omega (arith, h) in
    ap (λ x. x ∷ map f (first_sites (suc k) n)) (other k apart) ∙ ap (λ xs. g k ∷ xs) (same_from f g m other (suc k) n above)

-- what is set at one site, where nothing else differs
set_site : {A : Type 0} (f g : ℕ → A) (m : ℕ) → ((i : ℕ) → (i ≡ m → ⊥) → f i ≡ g i) → (k j n : ℕ) → m ≡ k + j → (x : A) → (j < n → x ≡ g m) → slice_set (map f (first_sites k n)) j x ≡ map g (first_sites k n)
set_site f g m other k j zero e x same = refl
set_site f g m other k zero (suc n) e x same =
    let here : m ≡ k = omega (arith, e) in
    let low : 0 < suc n = omega arith in
    let above : m < suc k = omega (arith, e) in
    ap (λ y. y ∷ map f (first_sites (suc k) n)) (same low ∙ ap g here) ∙ ap (λ xs. g k ∷ xs) (same_from f g m other (suc k) n above)
set_site f g m other k (suc j) (suc n) e x same =
    let apart : k ≡ m → ⊥ = λ i. omega (arith, e, i) in
    let there : m ≡ suc k + j = omega (arith, e) in
    ap (λ y. y ∷ slice_set (map f (first_sites (suc k) n)) j x) (other k apart) ∙ ap (λ xs. g k ∷ xs) (set_site f g m other (suc k) j n there x (λ h. let low : suc j < suc n = omega (arith, h) in same low))

-- what stands at a site
at_site : {A : Type 0} (f : ℕ → A) (d : A) (k j n : ℕ) → j < n → slice_index_or (map f (first_sites k n)) j d ≡ f (k + j)
at_site f d k j zero h = absurd (omega (arith, h))
at_site f d k zero (suc n) h = let e : k ≡ k + 0 = omega arith in ap f e
at_site f d k (suc j) (suc n) h =
    let e : suc k + j ≡ k + suc j = omega arith in
    let low : j < n = omega (arith, h) in
    at_site f d (suc k) j n low ∙ ap f e

-- ---- one message more

from_none : (n : ℕ) → n ≡ 0 + n
from_none n = omega arith

at_first : {A : Type 0} (f : ℕ → A) (d : A) (j n : ℕ) → j < n → slice_index_or (map f (first_sites 0 n)) j d ≡ f j
at_first f d j n h = at_site f d 0 j n h ∙ ap f (sym (from_none j))

is_itself : (n : ℕ) → (n == n) ≡ true
is_itself n = grind (arith, nat_tests)

is_apart : (a b : ℕ) → (b ≡ a → ⊥) → (a == b) ≡ false
is_apart a b h = grind (arith, nat_tests)

by_both : (x y b c : Bool) (k n : ℕ) → x ≡ b → y ≡ c → (if x && y then k else n) ≡ (if b && c then k else n)
by_both x y b c k n e f = ap (λ z. if z && y then k else n) e ∙ ap (λ z. if b && z then k else n) f

never_second : (b : Bool) (k n : ℕ) → (if b && false then k else n) ≡ n
never_second true k n = refl
never_second false k n = refl

-- the message is counted between its sites
sent_here : (from to : ℕ) (ms : List Message) → sent from to ((from, to) ∷ ms) ≡ sent from to ms + 1
sent_here from to ms =
    let one : suc (sent from to ms) ≡ sent from to ms + 1 = omega arith in
    by_both (from == from) (to == to) true true (suc (sent from to ms)) (sent from to ms) (is_itself from) (is_itself to) ∙ one

-- and nowhere else
sent_to_other : (from to i : ℕ) (ms : List Message) → (i ≡ to → ⊥) → sent from i ms ≡ sent from i ((from, to) ∷ ms)
sent_to_other from to i ms h =
    sym (by_both (from == from) (to == i) (from == from) false (suc (sent from i ms)) (sent from i ms) refl (is_apart to i h) ∙ never_second (from == from) (suc (sent from i ms)) (sent from i ms))

sent_from_other : (from to i j : ℕ) (ms : List Message) → (i ≡ from → ⊥) → sent i j ms ≡ sent i j ((from, to) ∷ ms)
sent_from_other from to i j ms h = sym (by_both (from == i) (to == j) false (to == j) (suc (sent i j ms)) (sent i j ms) (is_apart from i h) refl)

alike : {A : Type 0} (f g : ℕ → A) → ((i : ℕ) → f i ≡ g i) → (ks : List ℕ) → map f ks ≡ map g ks
alike f g h [] = refl
alike f g h (k ∷ ks) = ap (λ x. x ∷ map f ks) (h k) ∙ ap (λ xs. g k ∷ xs) (alike f g h ks)

row_kept : (n from to i : ℕ) (ms : List Message) → (i ≡ from → ⊥) → row_of n ms i ≡ row_of n ((from, to) ∷ ms) i
row_kept n from to i ms h = alike (λ j. sent i j ms) (λ j. sent i j ((from, to) ∷ ms)) (λ j. sent_from_other from to i j ms h) (first_sites 0 n)

row_counted : (n from to : ℕ) (ms : List Message) → counted_to to (row_of n ms from) ≡ row_of n ((from, to) ∷ ms) from
row_counted n from to ms =
    set_site (λ j. sent from j ms) (λ j. sent from j ((from, to) ∷ ms)) to (λ i h. sent_to_other from to i ms h) 0 to n (from_none to) (slice_index_or (row_of n ms from) to 0 + 1)
    (λ h. ap (λ k. k + 1) (at_first (λ j. sent from j ms) 0 to n h) ∙ sym (sent_here from to ms))

pub table_counted : (n from to : ℕ) (ms : List Message) → counted from to (table_of n ms) ≡ table_of n ((from, to) ∷ ms)
table_counted n from to ms =
    set_site (row_of n ms) (row_of n ((from, to) ∷ ms)) from (λ i h. row_kept n from to i ms h) 0 from n (from_none from) (counted_to to (slice_index_or (table_of n ms) from []))
    (λ h. ap (counted_to to) (at_first (row_of n ms) [] from n h) ∙ row_counted n from to ms)

by_test : (n from to : ℕ) (ms : List Message) (b : Bool) → (if b then table_of n ms else counted from to (table_of n ms)) ≡ table_of n ((if b then [] else (from, to) ∷ []) ++ ms)
by_test n from to ms true = refl
by_test n from to ms false = table_counted n from to ms

-- a message in front of others is counted, where its sites differ
pub table_with : (n from to : ℕ) (ms : List Message) → with_message from to (table_of n ms) ≡ table_of n (message from to ++ ms)
table_with n from to ms = by_test n from to ms (from == to)

always : {A : Type 0} (x : A) (k n : ℕ) → replicate n x ≡ map (λ i. x) (first_sites k n)
always x k zero = refl
always x k (suc n) = ap (λ xs. x ∷ xs) (always x (suc k) n)

-- no message
pub table_empty : (n : ℕ) → no_messages n ≡ table_of n []
table_empty n = ap (λ row. replicate n row) (always 0 0 n) ∙ always (row_of n [] 0) 0 n

-- how many messages went between two of the sites
pub count_sent : (n from to : ℕ) (ms : List Message) → from < n → to < n → count_at from to (table_of n ms) ≡ sent from to ms
count_sent n from to ms h g = ap (λ row. slice_index_or row to 0) (at_first (row_of n ms) [] from n h) ∙ at_first (λ j. sent from j ms) 0 to n g
