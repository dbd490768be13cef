-- What is packed has each field in its range.
use Rattle.std.proofs.Common.{◌≡◌, ℕ, zero, suc, ◌+◌, ◌<◌, ◌^◌, Bool, true, false, cond, List, [], ◌∷◌, ◌++◌, map, fold, length, Option, Some, None, slice_get, is_some, refl, sym, ap, subst, ◌∙◌, true≢false, rules, arith, IfSome, FitsSigned}
use Rattle.std.specs.Prelude.{⊤}
use Rattle.std.specs.Int.{w64}
use Rattle.std.specs.List.{AllByRecursion}
use Rattle.std.specs.Map.{lookup, values_of}
use Rattle.std.proofs.lemmas.List.{append-nil, append_assoc, map_push, length_push, length-append}
use Rattle.std.proofs.lemmas.Option.{slice_get_within}
use Rattle.indexmap.specs.IndexMap.{insert_entry}
use Rattle.indexmap.proofs.MapLemmas.{absent_from_lookup, insert_entry-absent, some_index, value_index}
use Rattle.obq_base.specs.declared.values.Group.{Group}
use Rattle.obq_base.specs.declared.values.Value.{Value, the_lemmas}
use Rattle.obq_base.specs.declared.values.Value.TheVariants as v
use Rattle.obq_wire.specs.declared.values.TableEntry.{TableEntry}
use Rattle.obq_wire.specs.declared.values.TableMember.{TableMember}
use Rattle.obq_wire.specs.declared.values.WireValue.{WireValue}
use Rattle.obq_wire.specs.declared.values.WireValue.TheVariants as w
use Rattle.obq_wire.specs.Fits.{Each, IsCodeNumber, IsEntry, IsGroupNumber, IsList, IsReference, IsSite, IsTable, IsText, IsThread, IsValue, code_count, codes_at}
use Rattle.obq_wire.proofs.WalkLaws.{all_push}
use Rattle.obq_marshal.specs.Groups.{same_key}
use Rattle.obq_marshal.specs.Meaning as meaning
use Rattle.obq_marshal.specs.Meaning.{AreMeant, Meaning}
use Rattle.obq_marshal.specs.Packing.{After, Placed, after, as_closure, entered, in_turn, index_of, pack_value, packed, place, with_made}
use Rattle.obq_marshal.specs.Sendable.{AreSendable, IsGroupOf, nothing, int, truth, okay, text, exception, closure, reference, thread}
use Rattle.obq_marshal.proofs.InOrder.{get_here}
use Rattle.obq_marshal.proofs.Travel.{key_is, is_none, has_one}

get_within : (xs ys : List TableEntry) (i : ℕ) → i < length xs → slice_get (xs ++ ys) i ≡ slice_get xs i
get_within [] ys i lt = absurd (omega (arith, lt))
get_within (x ∷ xs) ys zero lt = refl
get_within (x ∷ xs) ys (suc i) lt = get_within xs ys i (omega (arith, lt))

-- a closure of one of these entries; its index has any width
record IsNearClosure (table : List TableEntry) (m : TableMember) : Type 0 where
  index : m.index < length table
  member : m.member < codes_at table m.index
  fits : m.member < 2 ^ 32

abbrev IsNear : List TableEntry → WireValue → Type 0
IsNear table (w.Int z) = FitsSigned w64 z
IsNear table (w.Bool t) = ⊤
IsNear table w.Okay = ⊤
IsNear table (w.Text t) = IsText t
IsNear table (w.Exn t) = IsText t
IsNear table (w.Clo m) = IsNearClosure table m
IsNear table (w.Ref r) = IsReference r
IsNear table (w.Thread t home) = IsThread t × IsSite home

abbrev IsNearEntry : List TableEntry → TableEntry → Type 0
IsNearEntry earlier e = IsGroupNumber e.number × (IsList IsCodeNumber e.codes × IsList (IsNear earlier) e.captured)

near_on : (table more : List TableEntry) (x : WireValue) → IsNear table x → IsNear (table ++ more) x
near_on table more (w.Int z) h = h
near_on table more (w.Bool t) h = h
near_on table more w.Okay h = h
near_on table more (w.Text t) h = h
near_on table more (w.Exn t) h = h
near_on table more (w.Clo m) h = record {
  index = omega (arith, h.index, length-append table more);
  member = subst (λ o. m.member < code_count o) (sym (get_within table more m.index h.index)) h.member;
  fits = h.fits;
}
near_on table more (w.Ref r) h = h
near_on table more (w.Thread t home) h = h

all_near_on : (table more : List TableEntry) (xs : List WireValue) → AllByRecursion (IsNear table) xs → AllByRecursion (IsNear (table ++ more)) xs
all_near_on table more [] all = tt
all_near_on table more (x ∷ xs) all = (near_on table more x all.0, all_near_on table more xs all.1)

value_from : (table : List TableEntry) (x : WireValue) → length table < 2 ^ 32 → IsNear table x → IsValue table x
value_from table (w.Int z) few h = h
value_from table (w.Bool t) few h = h
value_from table w.Okay few h = h
value_from table (w.Text t) few h = h
value_from table (w.Exn t) few h = h
value_from table (w.Clo m) few h = record { index = h.index; member = h.member; index_fits = omega (arith, h.index, few); member_fits = h.fits }
value_from table (w.Ref r) few h = h
value_from table (w.Thread t home) few h = h

values_from : (table : List TableEntry) (xs : List WireValue) → length table < 2 ^ 32 → AllByRecursion (IsNear table) xs → AllByRecursion (IsValue table) xs
values_from table [] few all = tt
values_from table (x ∷ xs) few all = (value_from table x few all.0, values_from table xs few all.1)

entries_from : (before es : List TableEntry) → length before + length es < 2 ^ 32 → Each IsNearEntry before es → Each IsEntry before es
entries_from before [] few all = tt
entries_from before (e ∷ es) few all =
    let h = all.0 in (
      (h.0, (h.1.0, (h.1.1.0, values_from before e.captured (omega (arith, few)) h.1.1.1))),
      entries_from (before ++ e ∷ []) es (omega (arith, few, length_push before e)) all.1,
    )

each_push : (before es : List TableEntry) (e : TableEntry) → Each IsNearEntry before es → IsNearEntry (before ++ es) e → Each IsNearEntry before (es ++ e ∷ [])
each_push before [] e all h = (subst (λ t. IsNearEntry t e) (append-nil before) h, tt)
each_push before (d ∷ ds) e all h = (all.0, each_push (before ++ d ∷ []) ds e all.1 (subst (λ t. IsNearEntry t e) (sym (append_assoc before (d ∷ []) ds)) h))

module _ (M : Meaning) where
  meant_from : (xs : List Value) → AreSendable M xs → AreMeant M xs
  meant_from xs nothing = meaning.nothing
  meant_from xs (int z rest h m) = meaning.int z rest (meant_from rest m)
  meant_from xs (truth t rest m) = meaning.truth t rest (meant_from rest m)
  meant_from xs (okay rest m) = meaning.okay rest (meant_from rest m)
  meant_from xs (text t rest h m) = meaning.text t rest (meant_from rest m)
  meant_from xs (exception t rest h m) = meaning.exception t rest (meant_from rest m)
  meant_from xs (reference r rest h m) = meaning.reference r rest (meant_from rest m)
  meant_from xs (thread t home rest h i m) = meaning.thread t home rest (meant_from rest m)
  meant_from xs (closure g member rest is lt captured m) = meaning.closure g member rest is.meant is.deep is.limit (meant_from g.captured captured) (meant_from rest m)

  abbrev HasCodes : (ℕ × ℕ) × TableEntry → Type 0
  HasCodes p = p.1.codes ≡ (M p.0.0 p.0.1).codes

  codes_found : (k : ℕ × ℕ) (ps : Placed) (e : TableEntry) → AllByRecursion HasCodes ps → lookup (same_key k) ps ≡ Some e → e.codes ≡ (M k.0 k.1).codes
  codes_found k [] e all h = absurd (true≢false (ap is_some (sym h)))
  codes_found k (p ∷ ps) e all h = by (codes_found k ps e all.1) (same_key k p.0) refl h
    where
      by : (lookup (same_key k) ps ≡ Some e → e.codes ≡ (M k.0 k.1).codes) → (b : Bool) → same_key k p.0 ≡ b → cond b (Some p.1) (lookup (same_key k) ps) ≡ Some e → e.codes ≡ (M k.0 k.1).codes
      by rest true t h2 =
          let same = key_is k p.0 t in
          ap (λ o. elim o [ None ↦ e.codes | Some x ↦ TableEntry.codes x ]) (sym h2) ∙ all.0 ∙ ap (λ t2. (M t2 p.0.1).codes) (sym same.0) ∙ ap (λ n. (M k.0 n).codes) (sym same.1)
      by rest false t h2 = rest h2

  record Comes (base ps : Placed) : Type 0 where
    more : List TableEntry
    grown : values_of ps ≡ values_of base ++ more
    codes : AllByRecursion HasCodes ps
    entries : Each IsNearEntry [] (values_of ps)

  record Walks (base : Placed) (n : ℕ) (r : After (List WireValue)) : Type 0 where
    comes : Comes base r.placed
    values : AllByRecursion (IsNear (values_of r.placed)) r.made
    count : length r.made ≡ n

  record WalksTo (base : Placed) (g : Group) (s : After ℕ) : Type 0 where
    comes : Comes base s.placed
    index : s.made < length (values_of s.placed)
    there : codes_at (values_of s.placed) s.made ≡ length g.codes

  comes_then : (base ps qs : Placed) → Comes base ps → Comes ps qs → Comes base qs
  comes_then base ps qs p q = record {
    more = p.more ++ q.more;
    grown = q.grown ∙ ap (λ z. z ++ q.more) p.grown ∙ append_assoc (values_of base) p.more q.more;
    codes = q.codes;
    entries = q.entries;
  }

  with_value : (base : Placed) (n : ℕ) (r : After (List WireValue)) (ps : Placed) (x : WireValue) → Walks base n r → Comes r.placed ps → IsNear (values_of ps) x
      → Walks base (n + 1) (with_made r (after ps x))
  with_value base n r ps x h p near = record {
    comes = comes_then base r.placed ps h.comes p;
    values = all_push (IsNear (values_of ps)) r.made x (subst (λ t. AllByRecursion (IsNear t) r.made) (sym p.grown) (all_near_on (values_of r.placed) p.more r.made h.values)) near;
    count = length_push r.made x ∙ ap (λ m. m + 1) h.count;
  }

  stays : (ps : Placed) → AllByRecursion HasCodes ps → Each IsNearEntry [] (values_of ps) → Comes ps ps
  stays ps codes entries = record { more = []; grown = sym (append-nil (values_of ps)); codes = codes; entries = entries }

  found : (base : Placed) (g : Group) (i : ℕ) (ps : Placed) → M g.number.thread g.number.n ≡ g → Comes base ps → index_of g.number ps ≡ Some i → WalksTo base g (after ps i)
  found base g i ps is p e =
      let k : ℕ × ℕ = (g.number.thread, g.number.n) in
      let one = has_one (lookup (same_key k) ps) (sym (some_index (same_key k) ps) ∙ ap is_some e) in
      let at : slice_get (values_of ps) i ≡ Some one.0 = subst (λ o. IfSome o (λ j. slice_get (values_of ps) j ≡ lookup (same_key k) ps)) e (value_index (same_key k) ps) ∙ one.1 in
      record {
        comes = p;
        index = slice_get_within (values_of ps) i one.0 at;
        there = ap code_count at ∙ ap length (codes_found k ps one.0 p.codes one.1 ∙ ap (λ (x : Group). x.codes) is);
      }

  enters : (ps : Placed) (g : Group) (r : After (List WireValue)) → IsGroupOf M g → Walks ps (length g.captured) r → WalksTo ps g (entered g.number g.codes r (index_of g.number r.placed))
  enters ps g r is h = by (index_of g.number r.placed) refl
    where
      by : (o : Option ℕ) → index_of g.number r.placed ≡ o → WalksTo ps g (entered g.number g.codes r o)
      by (Some i) e = found ps g i r.placed is.meant h.comes e
      by None e =
          let k : ℕ × ℕ = (g.number.thread, g.number.n) in
          let entry : TableEntry = record { number = g.number; codes = g.codes; captured = r.made } in
          let none = is_none (lookup (same_key k) r.placed) (sym (some_index (same_key k) r.placed) ∙ ap is_some e) in
          let last : insert_entry same_key r.placed k entry ≡ r.placed ++ (k, entry) ∷ [] = insert_entry-absent same_key k entry r.placed (absent_from_lookup (same_key k) r.placed none) in
          let table : values_of (r.placed ++ (k, entry) ∷ []) ≡ values_of r.placed ++ entry ∷ [] = map_push (λ (q : (ℕ × ℕ) × TableEntry). q.1) r.placed (k, entry) in
          let near : IsNearEntry (values_of r.placed) entry = (is.number, (is.codes, (subst (λ n. n < 2 ^ 32) (sym h.count) is.count, h.values))) in
          let here : slice_get (values_of (r.placed ++ (k, entry) ∷ [])) (length r.placed) ≡ Some entry = ap (λ t. slice_get t (length r.placed)) table ∙ get_here r.placed entry [] in
          subst (λ qs. WalksTo ps g (after qs (length r.placed))) (sym last) (record {
            comes = record {
              more = h.comes.more ++ entry ∷ [];
              grown = table ∙ ap (λ z. z ++ entry ∷ []) h.comes.grown ∙ append_assoc (values_of ps) h.comes.more (entry ∷ []);
              codes = all_push HasCodes r.placed (k, entry) h.comes.codes (ap (λ (x : Group). x.codes) (sym is.meant));
              entries = subst (Each IsNearEntry []) (sym table) (each_push [] (values_of r.placed) entry h.comes.entries near);
            };
            index = slice_get_within (values_of (r.placed ++ (k, entry) ∷ [])) (length r.placed) entry here;
            there = ap code_count here;
          })

  abbrev Packs : List Value → Type 0
  Packs xs = (base : Placed) (n : ℕ) (r : After (List WireValue)) → Walks base n r → Walks base (n + length xs) (fold (λ r step. with_made r (step r.placed)) r (map pack_value xs))

  places : (ps : Placed) (g : Group) → IsGroupOf M g → Packs g.captured → Comes ps ps → WalksTo ps g (place g.number g.codes (map pack_value g.captured) ps (index_of g.number ps))
  places ps g is packs p = by (index_of g.number ps) refl
    where
      by : (o : Option ℕ) → index_of g.number ps ≡ o → WalksTo ps g (place g.number g.codes (map pack_value g.captured) ps o)
      by (Some i) e = found ps g i ps is.meant p e
      by None e =
          let all : 0 + length g.captured ≡ length g.captured = omega arith in
          enters ps g (in_turn (map pack_value g.captured) ps) is
          (subst (λ n. Walks ps n (in_turn (map pack_value g.captured) ps)) all (packs ps 0 (after ps []) (record { comes = p; values = tt; count = refl })))

  then_more : (x : Value) (xs : List Value) → ((base : Placed) (n : ℕ) (r : After (List WireValue)) → Walks base n r → Walks base (n + 1) (with_made r (pack_value x r.placed))) → Packs xs → Packs (x ∷ xs)
  then_more x xs one rest = λ base n r h.
      let count : (n + 1) + length xs ≡ n + suc (length xs) = omega arith in
      subst (λ m. Walks base m (fold (λ r step. with_made r (step r.placed)) (with_made r (pack_value x r.placed)) (map pack_value xs))) count
      (rest base (n + 1) (with_made r (pack_value x r.placed)) (one base n r h))

  plain : (x : Value) (y : WireValue) → ((ps : Placed) → pack_value x ps ≡ after ps y) → ((table : List TableEntry) → IsNear table y)
      → (base : Placed) (n : ℕ) (r : After (List WireValue)) → Walks base n r → Walks base (n + 1) (with_made r (pack_value x r.placed))
  plain x y is near base n r h =
      subst (λ q. Walks base (n + 1) (with_made r q)) (sym (is r.placed)) (with_value base n r r.placed y h (stays r.placed h.comes.codes h.comes.entries) (near (values_of r.placed)))

  packs : (xs : List Value) → AreSendable M xs → Packs xs
  packs xs nothing = λ base n r h. subst (λ m. Walks base m r) (let e : n ≡ n + 0 = omega arith in e) h
  packs xs (int z rest h m) = then_more (v.Int z) rest (plain (v.Int z) (w.Int z) (λ ps. search (rules, the_lemmas)) (λ table. h)) (packs rest m)
  packs xs (truth t rest m) = then_more (v.Bool t) rest (plain (v.Bool t) (w.Bool t) (λ ps. search (rules, the_lemmas)) (λ table. tt)) (packs rest m)
  packs xs (okay rest m) = then_more v.Okay rest (plain v.Okay w.Okay (λ ps. search (rules, the_lemmas)) (λ table. tt)) (packs rest m)
  packs xs (text t rest h m) = then_more (v.Text t) rest (plain (v.Text t) (w.Text t) (λ ps. search (rules, the_lemmas)) (λ table. h)) (packs rest m)
  packs xs (exception t rest h m) = then_more (v.Exn t) rest (plain (v.Exn t) (w.Exn t) (λ ps. search (rules, the_lemmas)) (λ table. h)) (packs rest m)
  packs xs (reference r rest h m) = then_more (v.Ref r) rest (plain (v.Ref r) (w.Ref r) (λ ps. search (rules, the_lemmas)) (λ table. h)) (packs rest m)
  packs xs (thread t home rest h i m) = then_more (v.Thread t home) rest (plain (v.Thread t home) (w.Thread t home) (λ ps. search (rules, the_lemmas)) (λ table. (h, i))) (packs rest m)
  packs xs (closure g member rest is lt captured m) = then_more (v.Clo g member) rest (at (packs g.captured captured)) (packs rest m)
    where
      at_closure : (ps : Placed) → pack_value (v.Clo g member) ps ≡ as_closure member (place g.number g.codes (map pack_value g.captured) ps (index_of g.number ps))
      at_closure ps = search (rules, the_lemmas)

      at : Packs g.captured → (base : Placed) (n : ℕ) (r : After (List WireValue)) → Walks base n r → Walks base (n + 1) (with_made r (pack_value (v.Clo g member) r.placed))
      at inner base n r h =
          let s = place g.number g.codes (map pack_value g.captured) r.placed (index_of g.number r.placed) in
          let to = places r.placed g is inner (stays r.placed h.comes.codes h.comes.entries) in
          subst (λ q. Walks base (n + 1) (with_made r q)) (sym (at_closure r.placed))
          (with_value base n r s.placed (w.Clo (record { index = s.made; member = member })) h to.comes (record {
            index = to.index;
            member = subst (λ c. member < c) (sym to.there) lt;
            fits = omega (arith, lt, is.codes.0);
          }))

  pub in_range : (xs : List Value) → AreSendable M xs → length (packed xs).table < 2 ^ 32 → IsTable (packed xs).table × AllByRecursion (IsValue (packed xs).table) (packed xs).values
  in_range xs m few =
      let h = packs xs m [] 0 (after [] []) (record { comes = record { more = []; grown = refl; codes = tt; entries = tt }; values = tt; count = refl }) in
      ((few, entries_from [] (packed xs).table (omega (arith, few)) h.comes.entries), values_from (packed xs).table (packed xs).values few h.values)

  pub count_is : (xs : List Value) → AreSendable M xs → length (packed xs).values ≡ length xs
  count_is xs m =
      let all : 0 + length xs ≡ length xs = omega arith in
      (packs xs m [] 0 (after [] []) (record { comes = record { more = []; grown = refl; codes = tt; entries = tt }; values = tt; count = refl })).count ∙ all

  pub is_meant : (xs : List Value) → AreSendable M xs → AreMeant M xs
  is_meant xs m = meant_from xs m
