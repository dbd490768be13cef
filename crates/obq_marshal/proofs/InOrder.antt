-- The table of what is packed stands in its one order.
use Rattle.std.proofs.Common.{◌≡◌, ℕ, suc, ◌+◌, ◌<◌, ◌≤◌, Bool, true, false, cond, List, [], ◌∷◌, ◌++◌, map, fold, length, Option, Some, None, slice_get, is_some, refl, sym, ap, subst, ◌∙◌, true≢false, rules, arith}
use Rattle.std.specs.Prelude.{⊤, ◌||◌, ◌&&◌, ◌==◌, max}
use Rattle.std.specs.List.{AllByRecursion, list_any}
use Rattle.std.specs.Map.{lookup, values_of}
use Rattle.std.proofs.Math.Nat.{le-max_left, le-max_right}
use Rattle.std.proofs.lemmas.Bool.{eqb-true, eq-eqb}
use Rattle.std.proofs.lemmas.Grind.{flat_map-append}
use Rattle.std.proofs.lemmas.List.{append-nil, append_assoc, map_push, map-append, length_push, length-append, length-map}
use Rattle.std.proofs.lemmas.List.Sums.{fold-append}
use Rattle.indexmap.specs.IndexMap.{insert_entry}
use Rattle.indexmap.proofs.MapLemmas.{absent_from_lookup, insert_entry-absent, some_index, Found-position}
use Rattle.obq_base.specs.declared.values.Group.{Group}
use Rattle.obq_base.specs.declared.values.GroupNo.{GroupNo}
use Rattle.obq_base.specs.declared.values.Value.{Value, the_lemmas}
use Rattle.obq_base.specs.declared.values.Value.TheVariants as v
use Rattle.obq_wire.specs.declared.values.TableEntry.{TableEntry}
use Rattle.obq_wire.specs.declared.values.WireValue.{WireValue}
use Rattle.obq_wire.specs.declared.values.WireValue.TheVariants as w
use Rattle.obq_wire.specs.Order.{captured_of, entry_needs, is_needed_there, misplaced_from, needs, order, placed, same_number, value_needs}
use Rattle.obq_wire.specs.Walk.{numbers_below}
use Rattle.obq_wire.proofs.WalkLaws.{agrees_all, all_push, has_below, lacks_from, placed_at}
use Rattle.obq_marshal.specs.Groups.{depth_of, greatest_depth, same_key}
use Rattle.obq_marshal.specs.Meaning.{AreMeant, Meaning, nothing, int, truth, okay, text, exception, closure, reference, thread}
use Rattle.obq_marshal.specs.Packing.{After, Placed, after, as_closure, entered, in_turn, index_of, pack_value, pack_values, packed, place, with_made}
use Rattle.obq_marshal.proofs.Travel.{IsKeyed, both, key_is, is_none, has_one}

all_append : {X : Type 0} (P : X → Type 0) (xs ys : List X) → AllByRecursion P xs → AllByRecursion P ys → AllByRecursion P (xs ++ ys)
all_append P [] ys p q = q
all_append P (x ∷ xs) ys p q = (p.0, all_append P xs ys p.1 q)

fold_ge : (d : ℕ) (xs : List Value) → d ≤ fold (λ d x. max d (depth_of x)) d xs
fold_ge d [] = omega arith
fold_ge d (x ∷ xs) = omega (arith, fold_ge (max d (depth_of x)) xs, le-max_left d (depth_of x))

all_below : (d : ℕ) (xs : List Value) → AllByRecursion (λ x. depth_of x ≤ fold (λ d x. max d (depth_of x)) d xs) xs
all_below d [] = tt
all_below d (x ∷ xs) = (omega (arith, fold_ge (max d (depth_of x)) xs, le-max_right d (depth_of x)), all_below (max d (depth_of x)) xs)

lookup_behind : (k : ℕ × ℕ) (ps qs : Placed) → lookup (same_key k) ps ≡ None → lookup (same_key k) (ps ++ qs) ≡ lookup (same_key k) qs
lookup_behind k [] qs h = refl
lookup_behind k (p ∷ ps) qs h = by (lookup_behind k ps qs) (same_key k p.0) h
  where
    by : (lookup (same_key k) ps ≡ None → lookup (same_key k) (ps ++ qs) ≡ lookup (same_key k) qs) → (b : Bool) → cond b (Some p.1) (lookup (same_key k) ps) ≡ None
        → cond b (Some p.1) (lookup (same_key k) (ps ++ qs)) ≡ lookup (same_key k) qs
    by rest true h2 = absurd (true≢false (ap is_some h2))
    by rest false h2 = rest h2

pub get_here : (ps : Placed) (e : TableEntry) (more : List TableEntry) → slice_get (values_of ps ++ e ∷ more) (length ps) ≡ Some e
get_here [] e more = refl
get_here (p ∷ ps) e more = get_here ps e more

-- no entry has the number of one before it
abbrev Apart : List TableEntry → List TableEntry → Type 0
Apart earlier [] = ⊤
Apart earlier (e ∷ es) = (list_any (λ d. same_number d.number e.number) earlier ≡ false) × Apart (earlier ++ e ∷ []) es

apart_push : (earlier es : List TableEntry) (e : TableEntry) → Apart earlier es → list_any (λ d. same_number d.number e.number) (earlier ++ es) ≡ false → Apart earlier (es ++ e ∷ [])
apart_push earlier [] e all new = (ap (list_any (λ d. same_number d.number e.number)) (sym (append-nil earlier)) ∙ new, tt)
apart_push earlier (d ∷ ds) e all new = (all.0, apart_push (earlier ++ d ∷ []) ds e all.1 (ap (list_any (λ d. same_number d.number e.number)) (append_assoc earlier (d ∷ []) ds) ∙ new))

is_new : (n : GroupNo) (ps : Placed) → AllByRecursion IsKeyed ps → lookup (same_key (n.thread, n.n)) ps ≡ None → list_any (λ (d : TableEntry). same_number d.number n) (values_of ps) ≡ false
is_new n [] all h = refl
is_new n (p ∷ ps) all h = by (is_new n ps all.1) (same_key (n.thread, n.n) p.0) refl h
  where
    other : (b : Bool) → same_number p.1.number n ≡ b → same_key (n.thread, n.n) p.0 ≡ false → same_number p.1.number n ≡ false
    other false e apart = e
    other true e apart =
        let same = both (p.1.number.thread == n.thread) (p.1.number.n == n.n) e in
        let t : (n.thread == p.0.0) ≡ true = eq-eqb n.thread p.0.0 (sym (eqb-true p.1.number.thread n.thread same.0) ∙ sym (ap (λ (q : ℕ × ℕ). q.0) all.0)) in
        let u : (n.n == p.0.1) ≡ true = eq-eqb n.n p.0.1 (sym (eqb-true p.1.number.n n.n same.1) ∙ sym (ap (λ (q : ℕ × ℕ). q.1) all.0)) in
        absurd (true≢false (sym (ap (λ b. b && (n.n == p.0.1)) t ∙ u) ∙ apart))

    by : (lookup (same_key (n.thread, n.n)) ps ≡ None → list_any (λ (d : TableEntry). same_number d.number n) (values_of ps) ≡ false) → (b : Bool) → same_key (n.thread, n.n) p.0 ≡ b
        → cond b (Some p.1) (lookup (same_key (n.thread, n.n)) ps) ≡ None → (same_number p.1.number n || list_any (λ (d : TableEntry). same_number d.number n) (values_of ps)) ≡ false
    by rest true e h2 = absurd (true≢false (ap is_some h2))
    by rest false e h2 = ap (λ b. b || list_any (λ (d : TableEntry). same_number d.number n) (values_of ps)) (other (same_number p.1.number n) refl e) ∙ rest h2

none_misplaced : (needed : List ℕ) (earlier es : List TableEntry) → Apart earlier es → ((k : ℕ) → k < length earlier + length es → is_needed_there needed k ≡ true)
    → misplaced_from needed earlier es ≡ None
none_misplaced needed earlier [] apart there = refl
none_misplaced needed earlier (e ∷ es) apart there =
    rw (apart.0, there (length earlier) (omega arith))
    (none_misplaced needed (earlier ++ e ∷ []) es apart.1 (λ k lt. there k (omega (arith, lt, length_push earlier e))))

module _ (M : Meaning) where
  -- its group is no deeper
  abbrev Low : ℕ → (ℕ × ℕ) × TableEntry → Type 0
  Low d p = (M p.0.0 p.0.1).depth ≤ d

  low_on : (c d : ℕ) → c ≤ d → (ps : Placed) → AllByRecursion (Low c) ps → AllByRecursion (Low d) ps
  low_on c d le [] all = tt
  low_on c d le (p ∷ ps) all = (omega (arith, le, all.0), low_on c d le ps all.1)

  low_found : (d : ℕ) (k : ℕ × ℕ) (ps : Placed) (e : TableEntry) → AllByRecursion (Low d) ps → lookup (same_key k) ps ≡ Some e → (M k.0 k.1).depth ≤ d
  low_found d k [] e all h = absurd (true≢false (ap is_some (sym h)))
  low_found d k (p ∷ ps) e all h = by (low_found d k ps e all.1) (same_key k p.0) refl h
    where
      by : (lookup (same_key k) ps ≡ Some e → (M k.0 k.1).depth ≤ d) → (b : Bool) → same_key k p.0 ≡ b → cond b (Some p.1) (lookup (same_key k) ps) ≡ Some e → (M k.0 k.1).depth ≤ d
      by rest true t h2 =
          let same = key_is k p.0 t in
          subst (λ g. g.depth ≤ d) (ap (λ t2. M t2 p.0.1) (sym same.0) ∙ ap (λ n. M k.0 n) (sym same.1)) all.0
      by rest false t h2 = rest h2

  -- the indices that they need are placed in order behind those below n, however the table goes on
  abbrev Orders : ℕ → Placed → List WireValue → Type 0
  Orders n ps ws = (more : List TableEntry) (bound : ℕ) → length ps ≤ bound → fold (placed (values_of ps ++ more) bound) (numbers_below n) (needs ws) ≡ numbers_below (length ps)

  abbrev OrdersOne : ℕ → Placed → ℕ → Type 0
  OrdersOne n ps i = (more : List TableEntry) (bound : ℕ) → length ps ≤ bound → placed (values_of ps ++ more) bound (numbers_below n) i ≡ numbers_below (length ps)

  record Comes (base : Placed) (d : ℕ) (ps : Placed) : Type 0 where
    new : Placed
    is : ps ≡ base ++ new
    low : AllByRecursion (Low d) new
    keyed : AllByRecursion IsKeyed ps
    apart : Apart [] (values_of ps)

  record Walks (base : Placed) (d : ℕ) (r : After (List WireValue)) : Type 0 where
    comes : Comes base d r.placed
    orders : Orders (length base) r.placed r.made

  record WalksTo (base : Placed) (d : ℕ) (s : After ℕ) : Type 0 where
    comes : Comes base d s.placed
    orders : OrdersOne (length base) s.placed s.made

  comes_then : (base ps qs : Placed) (d : ℕ) → Comes base d ps → Comes ps d qs → Comes base d qs
  comes_then base ps qs d p q = record {
    new = p.new ++ q.new;
    is = q.is ∙ ap (λ z. z ++ q.new) p.is ∙ append_assoc base p.new q.new;
    low = all_append (Low d) p.new q.new p.low q.low;
    keyed = q.keyed;
    apart = q.apart;
  }

  no_shorter : (base ps : Placed) (d : ℕ) → Comes base d ps → length base ≤ length ps
  no_shorter base ps d p = omega (arith, ap length p.is, length-append base p.new)

  with_plain : (base : Placed) (d : ℕ) (r : After (List WireValue)) (x : WireValue) → Walks base d r → value_needs x ≡ [] → Walks base d (with_made r (after r.placed x))
  with_plain base d r x h is = record {
    comes = h.comes;
    orders = λ more bound le.
        ap (fold (placed (values_of r.placed ++ more) bound) (numbers_below (length base)))
        (flat_map-append value_needs r.made (x ∷ []) ∙ ap (λ ns. needs r.made ++ (ns ++ [])) is ∙ append-nil (needs r.made))
        ∙ h.orders more bound le;
  }

  with_closure : (base : Placed) (d : ℕ) (r : After (List WireValue)) (member : ℕ) (s : After ℕ) → Walks base d r → WalksTo r.placed d s → Walks base d (with_made r (as_closure member s))
  with_closure base d r member s h at = record {
    comes = comes_then base r.placed s.placed d h.comes at.comes;
    orders = λ more bound le.
        let x : WireValue = w.Clo (record { index = s.made; member = member }) in
        let n = numbers_below (length base) in
        let table : values_of s.placed ++ more ≡ values_of r.placed ++ (values_of at.comes.new ++ more) =
        ap (λ ps. values_of ps ++ more) at.comes.is ∙ ap (λ t. t ++ more) (map-append (λ (p : (ℕ × ℕ) × TableEntry). p.1) r.placed at.comes.new)
        ∙ append_assoc (values_of r.placed) (values_of at.comes.new) more in
        let below : length r.placed ≤ bound = omega (arith, le, no_shorter r.placed s.placed d at.comes) in
        ap (fold (placed (values_of s.placed ++ more) bound) n) (flat_map-append value_needs r.made (x ∷ []))
        ∙ fold-append (placed (values_of s.placed ++ more) bound) n (needs r.made) (s.made ∷ [])
        ∙ ap (λ q. placed (values_of s.placed ++ more) bound q s.made) (ap (λ t. fold (placed t bound) n (needs r.made)) table ∙ h.orders (values_of at.comes.new ++ more) bound below)
        ∙ at.orders more bound le;
  }

  found : (d : ℕ) (n : GroupNo) (i : ℕ) (ps : Placed) → AllByRecursion IsKeyed ps → Apart [] (values_of ps) → index_of n ps ≡ Some i → WalksTo ps d (after ps i)
  found d n i ps keyed apart e =
      let below : i < length ps = (Found-position (same_key (n.thread, n.n)) ps i e).within in
      record {
        comes = record { new = []; is = sym (append-nil ps); low = tt; keyed = keyed; apart = apart };
        orders = λ more bound le.
            placed_at (values_of ps ++ more) bound (numbers_below (length ps)) i (omega (arith, below, le))
            ∙ ap (λ b. cond b (numbers_below (length ps)) (fold (placed (values_of ps ++ more) i) (numbers_below (length ps)) (entry_needs (values_of ps ++ more) i) ++ i ∷ [])) (has_below (length ps) i below);
      }

  -- the entry behind what its group captured
  appends : (ps : Placed) (c d : ℕ) (g : Group) (r : After (List WireValue)) (entry : TableEntry) → entry.number ≡ g.number → entry.captured ≡ r.made → M g.number.thread g.number.n ≡ g → c ≤ d → g.depth ≤ d → Walks ps c r
      → lookup (same_key (g.number.thread, g.number.n)) r.placed ≡ None
      → WalksTo ps d (after (r.placed ++ ((g.number.thread, g.number.n), entry) ∷ []) (length r.placed))
  appends ps c d g r entry number captured is le deep h none =
      let p : (ℕ × ℕ) × TableEntry = ((g.number.thread, g.number.n), entry) in
      let table : values_of (r.placed ++ p ∷ []) ≡ values_of r.placed ++ entry ∷ [] = map_push (λ (q : (ℕ × ℕ) × TableEntry). q.1) r.placed p in
      let longer : length (r.placed ++ p ∷ []) ≡ length r.placed + 1 = length_push r.placed p in
      let n = length ps in
      let m = length r.placed in
      record {
        comes = record {
          new = h.comes.new ++ p ∷ [];
          is = ap (λ z. z ++ p ∷ []) h.comes.is ∙ append_assoc ps h.comes.new (p ∷ []);
          low = all_push (Low d) h.comes.new p (low_on c d le h.comes.new h.comes.low) (subst (λ x. x.depth ≤ d) (sym is) deep);
          keyed = all_push IsKeyed r.placed p h.comes.keyed (ap (λ (x : GroupNo). (x.thread, x.n)) (sym number));
          apart = subst (Apart []) (sym table)
              (apart_push [] (values_of r.placed) entry h.comes.apart
              (is_new entry.number r.placed h.comes.keyed (ap (λ (x : GroupNo). lookup (same_key (x.thread, x.n)) r.placed) number ∙ none)));
        };
        orders = λ more bound big.
            let t = values_of r.placed ++ (entry ∷ more) in
            ap (λ z. placed z bound (numbers_below n) m) (ap (λ z. z ++ more) table ∙ append_assoc (values_of r.placed) (entry ∷ []) more)
            ∙ placed_at t bound (numbers_below n) m (omega (arith, big, longer))
            ∙ ap (λ b. cond b (numbers_below n) (fold (placed t m) (numbers_below n) (entry_needs t m) ++ m ∷ [])) (lacks_from n m (no_shorter ps r.placed c h.comes))
            ∙ ap (λ o. fold (placed t m) (numbers_below n) (needs (captured_of o)) ++ m ∷ []) (get_here r.placed entry more)
            ∙ ap (λ ws. fold (placed t m) (numbers_below n) (needs ws) ++ m ∷ []) captured
            ∙ ap (λ q. q ++ m ∷ []) (h.orders (entry ∷ more) m (omega arith))
            ∙ ap numbers_below (let e : suc m ≡ length (r.placed ++ p ∷ []) = omega (arith, longer) in e);
      }

  -- a group isn't among those that its captured values need
  enters : (ps : Placed) (d : ℕ) (g : Group) (r : After (List WireValue)) → M g.number.thread g.number.n ≡ g → g.depth ≡ greatest_depth g.captured + 1 → g.depth ≤ d
      → lookup (same_key (g.number.thread, g.number.n)) ps ≡ None → Walks ps (greatest_depth g.captured) r → WalksTo ps d (entered g.number g.codes r (index_of g.number r.placed))
  enters ps d g r is deep le new h = by (index_of g.number r.placed) refl
    where
      by : (o : Option ℕ) → index_of g.number r.placed ≡ o → WalksTo ps d (entered g.number g.codes r o)
      by (Some i) e =
          let k : ℕ × ℕ = (g.number.thread, g.number.n) in
          let one = has_one (lookup (same_key k) r.placed) (sym (some_index (same_key k) r.placed) ∙ ap is_some e) in
          let there = sym (lookup_behind k ps h.comes.new new) ∙ ap (lookup (same_key k)) (sym h.comes.is) ∙ one.1 in
          let low : (M g.number.thread g.number.n).depth ≤ greatest_depth g.captured = low_found (greatest_depth g.captured) k h.comes.new one.0 h.comes.low there in
          let lower : g.depth ≤ greatest_depth g.captured = subst (λ x. x.depth ≤ greatest_depth g.captured) is low in
          absurd (omega (arith, lower, deep))
      by None e =
          let k : ℕ × ℕ = (g.number.thread, g.number.n) in
          let entry : TableEntry = record { number = g.number; codes = g.codes; captured = r.made } in
          let none = is_none (lookup (same_key k) r.placed) (sym (some_index (same_key k) r.placed) ∙ ap is_some e) in
          let last : insert_entry same_key r.placed k entry ≡ r.placed ++ (k, entry) ∷ [] = insert_entry-absent same_key k entry r.placed (absent_from_lookup (same_key k) r.placed none) in
          subst (λ qs. WalksTo ps d (after qs (length r.placed))) (sym last)
          (appends ps (greatest_depth g.captured) d g r entry refl refl is (omega (arith, le, deep)) le h none)

  abbrev Packs : List Value → Type 0
  Packs xs = (base : Placed) (d : ℕ) (r : After (List WireValue)) → AllByRecursion (λ x. depth_of x ≤ d) xs → Walks base d r → Walks base d (fold (λ r step. with_made r (step r.placed)) r (map pack_value xs))

  places : (ps : Placed) (d : ℕ) (g : Group) → M g.number.thread g.number.n ≡ g → g.depth ≡ greatest_depth g.captured + 1 → g.depth ≤ d → Packs g.captured
      → AllByRecursion IsKeyed ps → Apart [] (values_of ps) → WalksTo ps d (place g.number g.codes (map pack_value g.captured) ps (index_of g.number ps))
  places ps d g is deep le packs keyed apart = by (index_of g.number ps) refl
    where
      by : (o : Option ℕ) → index_of g.number ps ≡ o → WalksTo ps d (place g.number g.codes (map pack_value g.captured) ps o)
      by (Some i) e = found d g.number i ps keyed apart e
      by None e =
          let k : ℕ × ℕ = (g.number.thread, g.number.n) in
          enters ps d g (in_turn (map pack_value g.captured) ps) is deep le (is_none (lookup (same_key k) ps) (sym (some_index (same_key k) ps) ∙ ap is_some e))
          (packs ps (greatest_depth g.captured) (after ps []) (all_below 0 g.captured)
          (record { comes = record { new = []; is = sym (append-nil ps); low = tt; keyed = keyed; apart = apart }; orders = λ more bound le. refl }))

  plain : (x : Value) (y : WireValue) (xs : List Value) → ((ps : Placed) → pack_value x ps ≡ after ps y) → value_needs y ≡ [] → Packs xs → Packs (x ∷ xs)
  plain x y xs is none rest = λ base d r all h.
      rest base d (with_made r (pack_value x r.placed)) all.1 (subst (λ q. Walks base d (with_made r q)) (sym (is r.placed)) (with_plain base d r y h none))

  packs : (xs : List Value) → AreMeant M xs → Packs xs
  packs xs nothing = λ base d r all h. h
  packs xs (int z rest m) = plain (v.Int z) (w.Int z) rest (λ ps. search (rules, the_lemmas)) refl (packs rest m)
  packs xs (truth t rest m) = plain (v.Bool t) (w.Bool t) rest (λ ps. search (rules, the_lemmas)) refl (packs rest m)
  packs xs (okay rest m) = plain v.Okay w.Okay rest (λ ps. search (rules, the_lemmas)) refl (packs rest m)
  packs xs (text t rest m) = plain (v.Text t) (w.Text t) rest (λ ps. search (rules, the_lemmas)) refl (packs rest m)
  packs xs (exception t rest m) = plain (v.Exn t) (w.Exn t) rest (λ ps. search (rules, the_lemmas)) refl (packs rest m)
  packs xs (reference r rest m) = plain (v.Ref r) (w.Ref r) rest (λ ps. search (rules, the_lemmas)) refl (packs rest m)
  packs xs (thread t home rest m) = plain (v.Thread t home) (w.Thread t home) rest (λ ps. search (rules, the_lemmas)) refl (packs rest m)
  packs xs (closure g member rest is deep limit captured m) =
      packs_closure (packs g.captured captured) (packs rest m)
    where
      at_closure : (ps : Placed) → pack_value (v.Clo g member) ps ≡ as_closure member (place g.number g.codes (map pack_value g.captured) ps (index_of g.number ps))
      at_closure ps = search (rules, the_lemmas)

      deep_is : depth_of (v.Clo g member) ≡ g.depth
      deep_is = search (rules, the_lemmas)

      packs_closure : Packs g.captured → Packs rest → Packs (v.Clo g member ∷ rest)
      packs_closure inner more base d r all h =
          more base d (with_made r (pack_value (v.Clo g member) r.placed)) all.1
          (subst (λ q. Walks base d (with_made r q)) (sym (at_closure r.placed))
          (with_closure base d r member (place g.number g.codes (map pack_value g.captured) r.placed (index_of g.number r.placed)) h
          (places r.placed d g is deep (subst (λ n. n ≤ d) deep_is all.0) inner h.comes.keyed h.comes.apart)))

  pub in_order : (xs : List Value) → AreMeant M xs → misplaced_from (order (packed xs).table (needs (packed xs).values)) [] (packed xs).table ≡ None
  in_order xs m =
      let r = pack_values xs [] in
      let h = packs xs m [] (greatest_depth xs) (after [] []) (all_below 0 xs)
      (record { comes = record { new = []; is = refl; low = tt; keyed = tt; apart = tt }; orders = λ more bound le. refl }) in
      let long : length (values_of r.placed) ≡ length r.placed = length-map r.placed (λ (p : (ℕ × ℕ) × TableEntry). p.1) in
      let all : order (packed xs).table (needs (packed xs).values) ≡ numbers_below (length r.placed) =
      ap (λ t. fold (placed t (length (values_of r.placed))) [] (needs r.made)) (sym (append-nil (values_of r.placed)))
      ∙ h.orders [] (length (values_of r.placed)) (omega (arith, long)) in
      none_misplaced (order (packed xs).table (needs (packed xs).values)) [] (packed xs).table h.comes.apart
      (λ k lt. (agrees_all (length r.placed) (order (packed xs).table (needs (packed xs).values)) all).below k (omega (arith, lt, long)))
