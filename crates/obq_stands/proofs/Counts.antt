-- Requests and replies are counted.
use Rattle.std.specs.Prelude.{Bool, List, Option, Some, None, [], true, false, ◌∷◌, ◌++◌, ℕ, zero, suc, length, slice_get, refl, ◌+◌, ◌<◌, ◌==◌, ◌&&◌, ◌≡◌, ◌⊎◌, if◌then◌else◌}
use Rattle.std.proofs.Common.{inl, inr, ap, sym, ◌∙◌, subst, arith, eqb}
use Rattle.obq_model.specs.Config.{Config}
use Rattle.obq_stands.specs.World.{at2, Packet, Request, Reply, thread_of, Parked, World, post, park}
use Rattle.obq_stands.specs.Stands.{Place, Nowhere, WaitsAt, Carries, StandsAt, Stands}
use Rattle.obq_stands.specs.Events.{Begin, Then, windows, Takes, OffLine, OffHold, Steps, Acted, Forks, Finishes, Asks, Serves, Enters, Holds, Returns, Resumes}
use Rattle.obq_stands.specs.Counts.{sum_to, one_if, is_request, is_reply, count_in, parked_in, open_of, Tally, one_more, Counted, CountsKept, no_tally, tally_run, EveryRunCounted, RestCounted}
use Rattle.obq_model.proofs.Slices.{get_below}
use Rattle.obq_stands.proofs.Update.{same_or, test_refl, test_no, at2_same, at2_other, at2_cases}
use Rattle.obq_stands.proofs.Moves.{out_packet}
use Rattle.obq_stands.proofs.Opening.{every_run_stands}

-- ---- sums

pub sum_same : (n : ℕ) (f g : ℕ → ℕ) → ((u : ℕ) → u < n → g u ≡ f u) → sum_to n g ≡ sum_to n f
sum_same zero f g e = refl
sum_same (suc n) f g e =
    let a = e n (last n) in
    let b = sum_same n f g (λ u l. e u (before u n l)) in
    omega (arith, a, b)
  where
    last : (n : ℕ) → n < suc n
    last n = omega arith

    before : (u n : ℕ) → u < n → u < suc n
    before u n l = omega arith

pub sum_changes : (n t : ℕ) (f g : ℕ → ℕ) → t < n → ((u : ℕ) → u < n → (u ≡ t → ⊥) → g u ≡ f u) → sum_to n g + f t ≡ sum_to n f + g t
sum_changes zero t f g l e = absurd (omega arith)
sum_changes (suc n) t f g l e = by (same_or n t) (λ k. sum_changes n t f g k (λ u m ne. e u (before u n m) ne))
  where
    before : (u n : ℕ) → u < n → u < suc n
    before u n l = omega arith

    last : (n : ℕ) → n < suc n
    last n = omega arith

    not_it : (n t u : ℕ) → n ≡ t → u < n → u ≡ t → ⊥
    not_it n t u q k r = absurd (omega arith)

    by : ((n ≡ t) ⊎ (n ≡ t → ⊥)) → (t < n → sum_to n g + f t ≡ sum_to n f + g t) → sum_to (suc n) g + f t ≡ sum_to (suc n) f + g t
    by (inl q) again =
        let b = sum_same n f g (λ u m. e u (before u n m) (not_it n t u q m)) in
        let c : g n ≡ g t = ap g q in
        let d : f n ≡ f t = ap f q in
        omega (arith, b, c, d)
    by (inr ne) again =
        let a = e n (last n) ne in
        let b = again (below n t l ne) in
        omega (arith, a, b)
      where
        below : (n t : ℕ) → t < suc n → (n ≡ t → ⊥) → t < n
        below n t l ne = grind (arith, ne)

-- ---- what a change adds for the pair c, d

pub gain : Bool → ℕ → ℕ → ℕ → ℕ → ℕ
gain g c d a b = if c == a && d == b then one_if g else 0

gain_none : (c d a b : ℕ) → gain false c d a b ≡ 0
unfolding gain
gain_none c d a b = by (c == a && d == b)
  where
    by : (x : Bool) → (if x then one_if false else 0) ≡ 0
    by true = refl
    by false = refl

pub gain_here : (g : Bool) (c d a b : ℕ) → c ≡ a → d ≡ b → gain g c d a b ≡ one_if g
unfolding gain
gain_here g c d a b e f = rw (e, f, test_refl a, test_refl b) refl

pub gain_other : (g : Bool) (c d a b : ℕ) → (c ≡ a → d ≡ b → ⊥) → gain g c d a b ≡ 0
unfolding gain
gain_other g c d a b ne = by (same_or c a) (same_or d b)
  where
    by : ((c ≡ a) ⊎ (c ≡ a → ⊥)) → ((d ≡ b) ⊎ (d ≡ b → ⊥)) → (if eqb c a && eqb d b then one_if g else 0) ≡ 0
    by (inl e) (inl f) = absurd (ne e f)
    by (inl e) (inr f) = ap (λ x. if eqb c a && x then one_if g else 0) (test_no d b f) ∙ last (eqb c a)
      where
        last : (x : Bool) → (if x && false then one_if g else 0) ≡ 0
        last true = refl
        last false = refl
    by (inr e) f = ap (λ x. if x && eqb d b then one_if g else 0) (test_no c a e)

pub more : (f : ℕ → ℕ → ℕ) (a b c d : ℕ) → one_more f a b c d ≡ f c d + gain true c d a b
more f a b c d = by (at2_cases f a b (suc (f a b)) c d)
  where
    plus : (n : ℕ) → suc n ≡ n + 1
    plus n = omega arith

    none : (n : ℕ) → n ≡ n + 0
    none n = omega arith

    by : ((c ≡ a) × (d ≡ b) × (at2 f a b (suc (f a b)) c d ≡ suc (f a b))) ⊎ ((c ≡ a → d ≡ b → ⊥) × (at2 f a b (suc (f a b)) c d ≡ f c d)) → one_more f a b c d ≡ f c d + gain true c d a b
    by (inl q) =
        let g = gain_here true c d a b q.0 q.1 in
        let v : f c d ≡ f a b = ap (λ i. f i d) q.0 ∙ ap (f a) q.1 in
        q.2 ∙ plus (f a b) ∙ ap (λ n. n + 1) (sym v) ∙ ap (λ n. f c d + n) (sym g)
    by (inr q) = q.1 ∙ none (f c d) ∙ ap (λ n. f c d + n) (sym (gain_other true c d a b q.0))

-- ---- packets posted, taken and held

count_last : (k : Packet → Bool) (ps : List Packet) (p : Packet) → count_in k (ps ++ p ∷ []) ≡ count_in k ps + one_if (k p)
count_last k [] p = omega arith
count_last k (q ∷ ps) p = let b = count_last k ps p in omega (arith, b)

abbrev Waiting : Type 0
Waiting = ℕ → ℕ → Option Parked

abbrev held : (Packet → Bool) → Waiting → ℕ → ℕ → ℕ → ℕ
held k wa n c d = sum_to n (λ u. parked_in k c (wa d u))

-- a line with one packet more
line_more : (k : Packet → Bool) (ls : ℕ → ℕ → List Packet) (a b : ℕ) (p : Packet) (c d : ℕ) → count_in k (at2 ls a b (ls a b ++ p ∷ []) c d) ≡ count_in k (ls c d) + gain (k p) c d a b
line_more k ls a b p c d = by (at2_cases ls a b (ls a b ++ p ∷ []) c d)
  where
    none : (n : ℕ) → n ≡ n + 0
    none n = omega arith

    by : ((c ≡ a) × (d ≡ b) × (at2 ls a b (ls a b ++ p ∷ []) c d ≡ ls a b ++ p ∷ [])) ⊎ ((c ≡ a → d ≡ b → ⊥) × (at2 ls a b (ls a b ++ p ∷ []) c d ≡ ls c d)) → count_in k (at2 ls a b (ls a b ++ p ∷ []) c d) ≡ count_in k (ls c d) + gain (k p) c d a b
    by (inl q) =
        let v : ls c d ≡ ls a b = ap (λ i. ls i d) q.0 ∙ ap (ls a) q.1 in
        ap (count_in k) q.2 ∙ count_last k (ls a b) p ∙ ap (λ l. count_in k l + one_if (k p)) (sym v) ∙ ap (λ n. count_in k (ls c d) + n) (sym (gain_here (k p) c d a b q.0 q.1))
    by (inr q) = ap (count_in k) q.1 ∙ none (count_in k (ls c d)) ∙ ap (λ n. count_in k (ls c d) + n) (sym (gain_other (k p) c d a b q.0))

-- a line with its first packet taken
line_less : (k : Packet → Bool) (ls : ℕ → ℕ → List Packet) (a b : ℕ) (p : Packet) (ps : List Packet) (c d : ℕ) → ls a b ≡ p ∷ ps → count_in k (ls c d) ≡ count_in k (at2 ls a b ps c d) + gain (k p) c d a b
line_less k ls a b p ps c d is = by (at2_cases ls a b ps c d)
  where
    none : (n : ℕ) → n ≡ n + 0
    none n = omega arith

    turn : (m n : ℕ) → m + n ≡ n + m
    turn m n = omega arith

    by : ((c ≡ a) × (d ≡ b) × (at2 ls a b ps c d ≡ ps)) ⊎ ((c ≡ a → d ≡ b → ⊥) × (at2 ls a b ps c d ≡ ls c d)) → count_in k (ls c d) ≡ count_in k (at2 ls a b ps c d) + gain (k p) c d a b
    by (inl q) =
        let v : ls c d ≡ ls a b = ap (λ i. ls i d) q.0 ∙ ap (ls a) q.1 in
        ap (count_in k) (v ∙ is) ∙ turn (one_if (k p)) (count_in k ps) ∙ ap (λ l. count_in k l + one_if (k p)) (sym q.2) ∙ ap (λ n. count_in k (at2 ls a b ps c d) + n) (sym (gain_here (k p) c d a b q.0 q.1))
    by (inr q) = none (count_in k (ls c d)) ∙ ap (λ n. count_in k (ls c d) + n) (sym (gain_other (k p) c d a b q.0)) ∙ ap (λ l. count_in k l + gain (k p) c d a b) (sym q.1)

-- what a parked packet counts
pub parked_gain : (k : Packet → Bool) (a b c d : ℕ) (p : Packet) → d ≡ b → parked_in k c (Some (record { from = a; packet = p })) ≡ gain (k p) c d a b
parked_gain k a b c d p e = by (same_or c a)
  where
    by : ((c ≡ a) ⊎ (c ≡ a → ⊥)) → one_if (eqb c a && k p) ≡ gain (k p) c d a b
    by (inl q) = ap (λ x. one_if (x && k p)) (ap (λ i. eqb i a) q ∙ test_refl a) ∙ sym (gain_here (k p) c d a b q e)
    by (inr ne) = ap (λ x. one_if (x && k p)) (test_no c a ne) ∙ sym (gain_other (k p) c d a b (λ q f. ne q))

-- a waiting packet less
hold_less : (k : Packet → Bool) (wa : Waiting) (n a b t : ℕ) (p : Packet) (c d : ℕ) → t < n → wa b t ≡ Some (record { from = a; packet = p }) → held k wa n c d ≡ held k (at2 wa b t None) n c d + gain (k p) c d a b
hold_less k wa n a b t p c d l is = by (same_or d b)
  where
    none : (m : ℕ) → m ≡ m + 0
    none m = omega arith

    drop_zero : (x y g : ℕ) → x + g ≡ y + 0 → y ≡ x + g
    drop_zero x y g e = omega (arith, e)

    by : ((d ≡ b) ⊎ (d ≡ b → ⊥)) → held k wa n c d ≡ held k (at2 wa b t None) n c d + gain (k p) c d a b
    by (inl e) =
        let old : parked_in k c (wa d t) ≡ gain (k p) c d a b = ap (λ i. parked_in k c (wa i t)) e ∙ ap (parked_in k c) is ∙ parked_gain k a b c d p e in
        let new : parked_in k c (at2 wa b t None d t) ≡ 0 = ap (λ i. parked_in k c (at2 wa b t None i t)) e ∙ ap (parked_in k c) (at2_same wa b t None) in
        let s = sum_changes n t (λ u. parked_in k c (wa d u)) (λ u. parked_in k c (at2 wa b t None d u)) l (λ u _ ne. ap (parked_in k c) (at2_other wa b t None d u (λ _ q. ne q))) in
        drop_zero (held k (at2 wa b t None) n c d) (held k wa n c d) (gain (k p) c d a b) (ap (λ m. held k (at2 wa b t None) n c d + m) (sym old) ∙ s ∙ ap (λ m. held k wa n c d + m) new)
    by (inr ne) =
        sym (sum_same n (λ u. parked_in k c (wa d u)) (λ u. parked_in k c (at2 wa b t None d u)) (λ u _. ap (parked_in k c) (at2_other wa b t None d u (λ q _. ne q)))) ∙ none (held k (at2 wa b t None) n c d)
        ∙ ap (λ m. held k (at2 wa b t None) n c d + m) (sym (gain_other (k p) c d a b (λ _ q. ne q)))

-- and one more
hold_more : (k : Packet → Bool) (wa : Waiting) (n a b t : ℕ) (p : Packet) (c d : ℕ) → t < n → wa b t ≡ None → held k (at2 wa b t (Some (record { from = a; packet = p }))) n c d ≡ held k wa n c d + gain (k p) c d a b
hold_more k wa n a b t p c d l is = by (same_or d b)
  where
    x : Option Parked
    x = Some (record { from = a; packet = p })

    none : (m : ℕ) → m ≡ m + 0
    none m = omega arith

    drop_zero : (x y g : ℕ) → x + 0 ≡ y + g → x ≡ y + g
    drop_zero x y g e = omega (arith, e)

    by : ((d ≡ b) ⊎ (d ≡ b → ⊥)) → held k (at2 wa b t (Some (record { from = a; packet = p }))) n c d ≡ held k wa n c d + gain (k p) c d a b
    by (inl e) =
        let old : parked_in k c (wa d t) ≡ 0 = ap (λ i. parked_in k c (wa i t)) e ∙ ap (parked_in k c) is in
        let new : parked_in k c (at2 wa b t (Some (record { from = a; packet = p })) d t) ≡ gain (k p) c d a b = ap (λ i. parked_in k c (at2 wa b t (Some (record { from = a; packet = p })) i t)) e ∙ ap (parked_in k c) (at2_same wa b t (Some (record { from = a; packet = p }))) ∙ parked_gain k a b c d p e in
        let s = sum_changes n t (λ u. parked_in k c (wa d u)) (λ u. parked_in k c (at2 wa b t (Some (record { from = a; packet = p })) d u)) l (λ u _ ne. ap (parked_in k c) (at2_other wa b t (Some (record { from = a; packet = p })) d u (λ _ q. ne q))) in
        drop_zero (held k (at2 wa b t (Some (record { from = a; packet = p }))) n c d) (held k wa n c d) (gain (k p) c d a b) (ap (λ m. held k (at2 wa b t (Some (record { from = a; packet = p }))) n c d + m) (sym old) ∙ s ∙ ap (λ m. held k wa n c d + m) new)
    by (inr ne) =
        sum_same n (λ u. parked_in k c (wa d u)) (λ u. parked_in k c (at2 wa b t (Some (record { from = a; packet = p })) d u)) (λ u _. ap (parked_in k c) (at2_other wa b t (Some (record { from = a; packet = p })) d u (λ q _. ne q))) ∙ none (held k wa n c d)
        ∙ ap (λ m. held k wa n c d + m) (sym (gain_other (k p) c d a b (λ _ q. ne q)))

-- ---- on Worlds

posted_open : (k : Packet → Bool) (w : World) (a b : ℕ) (p : Packet) (c d : ℕ) → open_of k (post w a b p) c d ≡ open_of k w c d + gain (k p) c d a b
posted_open k w a b p c d = let l = line_more k w.lines a b p c d in sums (count_in k (w.lines c d)) (held k w.waiting w.threads c d) (gain (k p) c d a b) (count_in k (at2 w.lines a b (w.lines a b ++ p ∷ []) c d)) l
  where
    sums : (x y g z : ℕ) → z ≡ x + g → z + y ≡ x + y + g
    sums x y g z e = omega (arith, e)

taken_open : (k : Packet → Bool) (w : World) (a b : ℕ) (p : Packet) (w1 : World) (c d : ℕ) → thread_of p < w.threads → Takes w a b p w1 → open_of k w c d ≡ open_of k w1 c d + gain (k p) c d a b
taken_open k w a b p w1 c d l (OffLine ps is) = let e = line_less k w.lines a b p ps c d is in sums (count_in k (at2 w.lines a b ps c d)) (held k w.waiting w.threads c d) (gain (k p) c d a b) (count_in k (w.lines c d)) e
  where
    sums : (x y g z : ℕ) → z ≡ x + g → z + y ≡ x + y + g
    sums x y g z e = omega (arith, e)
taken_open k w a b p w1 c d l (OffHold is) = let e = hold_less k w.waiting w.threads a b (thread_of p) p c d l is in sums (count_in k (w.lines c d)) (held k (at2 w.waiting b (thread_of p) None) w.threads c d) (gain (k p) c d a b) (held k w.waiting w.threads c d) e
  where
    sums : (x y g z : ℕ) → z ≡ y + g → x + z ≡ x + y + g
    sums x y g z e = omega (arith, e)

held_open : (k : Packet → Bool) (w : World) (a b t : ℕ) (p : Packet) (c d : ℕ) → t < w.threads → w.waiting b t ≡ None → open_of k (park w b t (Some (record { from = a; packet = p }))) c d ≡ open_of k w c d + gain (k p) c d a b
held_open k w a b t p c d l is = let e = hold_more k w.waiting w.threads a b t p c d l is in sums (count_in k (w.lines c d)) (held k w.waiting w.threads c d) (gain (k p) c d a b) (held k (at2 w.waiting b t (Some (record { from = a; packet = p }))) w.threads c d) e
  where
    sums : (x y g z : ℕ) → z ≡ y + g → x + z ≡ x + y + g
    sums x y g z e = omega (arith, e)

-- ---- the threads of packets are there

pub carried_below : (turns : ℕ) (w w1 : World) (c : Config) (a b : ℕ) (p : Packet) → Stands turns w c → Takes w a b p w1 → thread_of p < w.threads
carried_below turns w w1 c a b (Request t k used depth self op) st takes =
    let q = out_packet turns w c a b (Request t k used depth self op) w1 st takes in
    subst (λ n. t < n) st.counted (get_below c.threads t _ q.carries.2.here)
carried_below turns w w1 c a b (Reply t k used o) st takes =
    let q = out_packet turns w c a b (Reply t k used o) w1 st takes in
    subst (λ n. t < n) st.counted (get_below c.threads t _ q.carries.1.here)

-- nothing waits for a thread that isn't there
none_waits : (turns : ℕ) (w : World) (c : Config) → Stands turns w c → (b : ℕ) → w.waiting b w.threads ≡ None
none_waits turns w c st b = by (w.waiting b w.threads) refl
  where
    not_below : (n : ℕ) → n < n → ⊥
    not_below n l = absurd (omega arith)

    carried : (t a : ℕ) (p : Packet) → Carries turns w.memory.heap w.pending t (slice_get c.threads t) a b p → t < w.threads
    carried t a (Request t2 k used depth self op) r = subst (λ n. t < n) st.counted (get_below c.threads t _ r.2.here)
    carried t a (Reply t2 k used o) r = subst (λ n. t < n) st.counted (get_below c.threads t _ r.1.here)

    by : (o : Option Parked) → w.waiting b w.threads ≡ o → o ≡ None
    by None e = refl
    by (Some x) e =
        let at : StandsAt turns w.memory.heap w.pending w.threads (slice_get c.threads w.threads) (WaitsAt b x) = subst (StandsAt turns w.memory.heap w.pending w.threads (slice_get c.threads w.threads)) (st.placed.waits b w.threads x e) (st.threads w.threads) in
        absurd (not_below w.threads (carried w.threads x.from x.packet at))

-- ---- each event

unmoved : (w x : World) (z : Tally) → ((k : Packet → Bool) (c d : ℕ) → open_of k x c d ≡ open_of k w c d) → Counted w z → Counted x z
unmoved w x z same h = record { requests = λ a b. h.requests a b ∙ ap (λ n. z.done a b + n) (sym (same is_request a b)); replies = λ a b. h.replies a b ∙ ap (λ n. z.taken a b + n) (sym (same is_reply a b)) }

-- posted p, done d, before o, behind o2
grows : (p p2 d o o2 g : ℕ) → p2 ≡ p + g → o2 ≡ o + g → p ≡ d + o → p2 ≡ d + o2
grows p p2 d o o2 g e f h = omega (arith, e, f, h)

moves : (p d d2 o o2 g : ℕ) → d2 ≡ d + g → o ≡ o2 + g → p ≡ d + o → p ≡ d2 + o2
moves p d d2 o o2 g e f h = omega (arith, e, f, h)

equal : (o o1 o2 g : ℕ) → o ≡ o1 + g → o2 ≡ o1 + g → o2 ≡ o
equal o o1 o2 g e f = omega (arith, e, f)

zero_more : (o o1 g : ℕ) → o ≡ o1 + g → g ≡ 0 → o ≡ o1
zero_more o o1 g e f = omega (arith, e, f)

no_more : (m n : ℕ) → m + (0 + n) ≡ m + n
no_more m n = omega arith

fork_open : (k : Packet → Bool) (w x : World) → x.lines ≡ w.lines → x.waiting ≡ w.waiting → x.threads ≡ suc w.threads → ((b : ℕ) → w.waiting b w.threads ≡ None) → (c d : ℕ) → open_of k x c d ≡ open_of k w c d
fork_open k w x l wa n none c d =
    ap (λ (f : ℕ → ℕ → List Packet). count_in k (f c d) + held k x.waiting x.threads c d) l
    ∙ ap (λ (f : Waiting). count_in k (w.lines c d) + held k f x.threads c d) wa
    ∙ ap (λ m. count_in k (w.lines c d) + held k w.waiting m c d) n
    ∙ ap (λ (o : Option Parked). count_in k (w.lines c d) + (parked_in k c o + held k w.waiting w.threads c d)) (none d)
    ∙ no_more (count_in k (w.lines c d)) (held k w.waiting w.threads c d)

pub counts_kept : CountsKept
counts_kept trees turns w x z inv h (Steps _ s t n slot u is few e) = unmoved w x z (λ k c d. refl) h
counts_kept trees turns w x z inv h (Acted _ s t n slot u op hs kind loc m y is few e needs does) = unmoved w x z (λ k c d. refl) h
counts_kept trees turns w x z inv h (Forks _ s t n slot u v hs is few e needs room) = unmoved w x z (λ k c d. fork_open k w x refl refl refl (none_waits turns w inv.config inv.stands) c d) h
counts_kept trees turns w x z inv h (Finishes _ s t n slot u e is none few steps ends) = unmoved w x z (λ k c d. refl) h
counts_kept trees turns w x z inv h (Asks _ s t to k slot op hs is few needs free) =
    record {
      requests = λ c d. grows (z.posted c d) (one_more z.posted s to c d) (z.done c d) (open_of is_request w c d) (open_of is_request x c d) (gain true c d s to) (more z.posted s to c d) (posted_open is_request w s to _ c d) (h.requests c d);
      replies = λ c d. h.replies c d ∙ ap (λ n. z.taken c d + n) (sym (zero_more (open_of is_reply x c d) (open_of is_reply w c d) (gain false c d s to) (posted_open is_reply w s to _ c d) (gain_none c d s to)));
    }
counts_kept trees turns w x z inv h (Serves _ w1 a b t k used depth self op kind loc m y o takes may does gives) =
    let p : Packet = Request t k used depth self op in
    let l = carried_below turns w w1 inv.config a b p inv.stands takes in
    record {
      requests = λ c d. moves (z.posted c d) (z.done c d) (one_more z.done a b c d) (open_of is_request w c d) (open_of is_request x c d) (gain true c d a b) (more z.done a b c d)
          (taken_open is_request w a b p w1 c d l takes ∙ ap (λ n. n + gain true c d a b) (sym (zero_more (open_of is_request x c d) (open_of is_request w1 c d) (gain false c d b a) (posted_open is_request w1 b a (Reply t k (used + 1) o) c d) (gain_none c d b a)))) (h.requests c d);
      replies = λ c d. grows (z.replied c d) (one_more z.replied b a c d) (z.taken c d) (open_of is_reply w c d) (open_of is_reply x c d) (gain true c d b a) (more z.replied b a c d)
          (posted_open is_reply w1 b a (Reply t k (used + 1) o) c d ∙ ap (λ n. n + gain true c d b a) (sym (zero_more (open_of is_reply w c d) (open_of is_reply w1 c d) (gain false c d a b) (taken_open is_reply w a b p w1 c d l takes) (gain_none c d a b)))) (h.replies c d);
    }
counts_kept trees turns w x z inv h (Enters _ w1 a b t k used depth self op kind loc m y v takes call does enters) =
    let p : Packet = Request t k used depth self op in
    let l = carried_below turns w w1 inv.config a b p inv.stands takes in
    record {
      requests = λ c d. moves (z.posted c d) (z.done c d) (one_more z.done a b c d) (open_of is_request w c d) (open_of is_request x c d) (gain true c d a b) (more z.done a b c d) (taken_open is_request w a b p w1 c d l takes) (h.requests c d);
      replies = λ c d. h.replies c d ∙ ap (λ n. z.taken c d + n) (zero_more (open_of is_reply w c d) (open_of is_reply w1 c d) (gain false c d a b) (taken_open is_reply w a b p w1 c d l takes) (gain_none c d a b));
    }
counts_kept trees turns w x z inv h (Holds _ w1 a b t k used depth self op takes) =
    let p : Packet = Request t k used depth self op in
    let l = carried_below turns w w1 inv.config a b p inv.stands takes in
    let q = out_packet turns w inv.config a b p w1 inv.stands takes in
    let l1 : t < w1.threads = subst (λ n. t < n) (sym q.threads) l in
    let free : w1.waiting b t ≡ None = none_at (w1.waiting b t) (λ y e. nowhere (q.mid.place t) y q.mid.nowhere (q.mid.placed.waits b t y e)) in
    unmoved w x z (λ kk c d. equal (open_of kk w c d) (open_of kk w1 c d) (open_of kk x c d) (gain (kk p) c d a b) (taken_open kk w a b p w1 c d l takes) (held_open kk w1 a b t p c d l1 free)) h
  where
    none_at : (o : Option Parked) → ((y : Parked) → o ≡ Some y → ⊥) → o ≡ None
    none_at None f = refl
    none_at (Some y) f = absurd (f y refl)

    nowhere : (y : Place) (p : Parked) → y ≡ Nowhere → y ≡ WaitsAt b p → ⊥
    nowhere y p e f = cc (e, f)
counts_kept trees turns w x z inv h (Returns _ s t slot call o is answers out) =
    record {
      requests = λ c d. h.requests c d ∙ ap (λ n. z.done c d + n) (sym (zero_more (open_of is_request x c d) (open_of is_request w c d) (gain false c d s call.site) (posted_open is_request w s call.site _ c d) (gain_none c d s call.site)));
      replies = λ c d. grows (z.replied c d) (one_more z.replied s call.site c d) (z.taken c d) (open_of is_reply w c d) (open_of is_reply x c d) (gain true c d s call.site) (more z.replied s call.site c d) (posted_open is_reply w s call.site _ c d) (h.replies c d);
    }
counts_kept trees turns w x z inv h (Resumes _ w1 a b t k used o e op hs takes here needs) =
    let p : Packet = Reply t k used o in
    let l = carried_below turns w w1 inv.config a b p inv.stands takes in
    record {
      requests = λ c d. h.requests c d ∙ ap (λ n. z.done c d + n) (zero_more (open_of is_request w c d) (open_of is_request w1 c d) (gain false c d a b) (taken_open is_request w a b p w1 c d l takes) (gain_none c d a b));
      replies = λ c d. moves (z.replied c d) (z.taken c d) (one_more z.taken a b c d) (open_of is_reply w c d) (open_of is_reply x c d) (gain true c d a b) (more z.taken a b c d) (taken_open is_reply w a b p w1 c d l takes) (h.replies c d);
    }

-- ---- from the start

pub sum_zero : (n : ℕ) → sum_to n (λ u. 0) ≡ 0
sum_zero zero = refl
sum_zero (suc n) = let e = sum_zero n in omega (arith, e)

all_zero : (n : ℕ) → 0 ≡ 0 + (0 + sum_to n (λ u. 0))
all_zero n = let e = sum_zero n in omega (arith, e)

pub every_run_counted : EveryRunCounted
every_run_counted trees turns w Begin = record { requests = λ a b. all_zero (length (windows 0 trees)); replies = λ a b. all_zero (length (windows 0 trees)) }
every_run_counted trees turns w (Then {v = v} r s) = counts_kept trees turns v w (tally_run r no_tally) (every_run_stands trees turns v r) (every_run_counted trees turns v r) s

pub rest_counted : RestCounted
rest_counted w z h empty a b = h.requests a b ∙ ap (λ l. z.done a b + (count_in is_request l + held is_request w.waiting w.threads a b)) (empty a b) ∙ plain (z.done a b) (held is_request w.waiting w.threads a b)
  where
    plain : (m n : ℕ) → m + (0 + n) ≡ m + n
    plain m n = omega arith
