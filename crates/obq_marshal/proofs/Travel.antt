-- What is packed is unpacked as it was.
use Rattle.std.proofs.Common.{◌≡◌, ℕ, zero, suc, Bool, true, false, cond, List, [], ◌∷◌, ◌++◌, map, fold, length, Option, Some, None, slice_get, is_some, refl, sym, ap, subst, ◌∙◌, true≢false, if◌then◌else◌, rules, IfSome}
use Rattle.std.specs.Prelude.{◌≤◌, ◌+◌, min, ⊤, ◌&&◌, ◌==◌, option_map}
use Rattle.std.specs.List.{AllByRecursion}
use Rattle.std.specs.Map.{lookup, values_of}
use Rattle.std.proofs.Common.{arith}
use Rattle.std.proofs.Math.Nat.{min-eq_right}
use Rattle.std.proofs.lemmas.Bool.{eqb-true}
use Rattle.obq_base.specs.declared.limits.TheConstants.{CLOSURE_LIMIT}
use Rattle.std.proofs.lemmas.List.{append-nil, append_assoc, map_push}
use Rattle.std.proofs.lemmas.Option.{slice_get-map}
use Rattle.indexmap.specs.IndexMap.{insert_entry}
use Rattle.indexmap.proofs.MapLemmas.{absent_from_lookup, insert_entry-absent, some_index, value_index}
use Rattle.obq_base.specs.declared.values.Group.{Group}
use Rattle.obq_base.specs.declared.values.GroupNo.{GroupNo}
use Rattle.obq_base.specs.declared.values.Value.{Value, the_lemmas}
use Rattle.obq_base.specs.declared.values.Value.TheVariants as v
use Rattle.obq_wire.specs.declared.values.TableEntry.{TableEntry}
use Rattle.obq_wire.specs.declared.values.WireValue.{WireValue}
use Rattle.obq_wire.specs.declared.values.WireValue.TheVariants as w
use Rattle.obq_wire.proofs.WalkLaws.{all_push}
use Rattle.obq_marshal.specs.Groups.{Cached, Unpacked, cached, closure_of, depth_over, greatest_depth, group_of, same_key, so_far, unpacked, unpacked_entry, unpacked_group, value_of, with_group}
use Rattle.obq_marshal.specs.Meaning.{Agrees, AreMeant, Meaning, nothing, int, truth, okay, text, exception, closure, reference, thread}
use Rattle.obq_marshal.specs.Packing.{After, Placed, after, as_closure, entered, in_turn, index_of, pack_value, pack_values, packed, place, with_made}

pub both : (a b : Bool) → (a && b) ≡ true → (a ≡ true) × (b ≡ true)
both true b h = (refl, h)
both false b h = absurd (true≢false (sym h))

pub key_is : (a b : ℕ × ℕ) → same_key a b ≡ true → (a.0 ≡ b.0) × (a.1 ≡ b.1)
key_is a b h = let h2 = both (a.0 == b.0) (a.1 == b.1) h in (eqb-true a.0 b.0 h2.0, eqb-true a.1 b.1 h2.1)

pub is_none : {X : Type 0} (o : Option X) → is_some o ≡ false → o ≡ None
is_none None h = refl
is_none (Some x) h = absurd (true≢false h)

pub has_one : {X : Type 0} (o : Option X) → is_some o ≡ true → (x : X) × (o ≡ Some x)
has_one None h = absurd (true≢false (sym h))
has_one (Some x) h = (x, refl)

get_front : {X : Type 0} (xs ys : List X) (i : ℕ) (x : X) → slice_get xs i ≡ Some x → slice_get (xs ++ ys) i ≡ Some x
get_front [] ys i x h = absurd (true≢false (ap is_some (sym h)))
get_front (z ∷ zs) ys zero x h = h
get_front (z ∷ zs) ys (suc i) x h = get_front zs ys i x h

get_last : {X Y : Type 0} (f : X → Y) (xs : List X) (y : Y) → slice_get (map f xs ++ y ∷ []) (length xs) ≡ Some y
get_last f [] y = refl
get_last f (x ∷ xs) y = get_last f xs y

abbrev with_parts : Group → List Value → ℕ → Group
with_parts g captured depth = record { number = g.number; codes = g.codes; captured = captured; depth = depth }

depth_is : (g : Group) → g.depth ≡ greatest_depth g.captured + 1 → g.depth ≤ CLOSURE_LIMIT → depth_over g.captured ≡ g.depth
depth_is g deep limit = ap (min 65535) (sym deep) ∙ min-eq_right (omega (arith, limit))

-- the key of an entry is its group's number
abbrev pub IsKeyed : (ℕ × ℕ) × TableEntry → Type 0
IsKeyed p = p.0 ≡ (p.1.number.thread, p.1.number.n)

module _ (M : Meaning) where
  abbrev number_meant : TableEntry → Group
  number_meant e = M e.number.thread e.number.n

  -- the groups of entries
  abbrev meant : List TableEntry → List Group
  meant es = map number_meant es

  -- each entry stands for the group of its number, over those before it
  abbrev Makes : List Group → List TableEntry → Type 0
  Makes before [] = ⊤
  Makes before (e ∷ es) = (group_of before e ≡ number_meant e) × Makes (before ++ number_meant e ∷ []) es

  makes_push : (before : List Group) (es : List TableEntry) (e : TableEntry) → Makes before es → group_of (before ++ meant es) e ≡ number_meant e → Makes before (es ++ e ∷ [])
  makes_push before [] e all is = (subst (λ gs. group_of gs e ≡ number_meant e) (append-nil before) is, tt)
  makes_push before (d ∷ ds) e all is =
      (all.0, makes_push (before ++ number_meant d ∷ []) ds e all.1 (subst (λ gs. group_of gs e ≡ number_meant e) (sym (append_assoc before (number_meant d ∷ []) (meant ds))) is))

  -- ---- unpacking

  found_cached : (cache : Cached) (k : ℕ × ℕ) (g : Group) → Agrees M cache → lookup (same_key k) cache ≡ Some g → g ≡ M k.0 k.1
  found_cached [] k g all h = absurd (true≢false (ap is_some (sym h)))
  found_cached (c ∷ cs) k g all h = by (found_cached cs k g all.1) (same_key k c.0) refl h
    where
      by : (lookup (same_key k) cs ≡ Some g → g ≡ M k.0 k.1) → (b : Bool) → same_key k c.0 ≡ b → cond b (Some c.1) (lookup (same_key k) cs) ≡ Some g → g ≡ M k.0 k.1
      by rest true e h2 =
          let same = key_is k c.0 e in
          ap (λ o. elim o [ None ↦ g | Some x ↦ x ]) (sym h2) ∙ all.0 ∙ ap (λ t. M t c.0.1) (sym same.0) ∙ ap (λ n. M k.0 n) (sym same.1)
      by rest false e h2 = rest h2

  agrees_put : (cache : Cached) (k : ℕ × ℕ) → Agrees M cache → Agrees M (insert_entry same_key cache k (M k.0 k.1))
  agrees_put [] k all = (refl, tt)
  agrees_put (c ∷ cs) k all = by (agrees_put cs k all.1) (same_key k c.0) refl
    where
      by : Agrees M (insert_entry same_key cs k (M k.0 k.1)) → (b : Bool) → same_key k c.0 ≡ b → Agrees M (if b then (c.0, M k.0 k.1) ∷ cs else c ∷ insert_entry same_key cs k (M k.0 k.1))
      by rest true e = let same = key_is k c.0 e in (ap (λ t. M t k.1) same.0 ∙ ap (λ n. M c.0.0 n) same.1, all.1)
      by rest false e = (all.0, rest)

  unpacks_entry : (e : TableEntry) (u : Unpacked) → Agrees M u.cache → group_of u.groups e ≡ number_meant e
      → ((unpacked_entry u e).groups ≡ u.groups ++ number_meant e ∷ []) × Agrees M (unpacked_entry u e).cache
  unpacks_entry e u agrees is = by (cached u.cache e.number) refl
    where
      by : (o : Option Group) → cached u.cache e.number ≡ o → ((unpacked_group u e o).groups ≡ u.groups ++ number_meant e ∷ []) × Agrees M (unpacked_group u e o).cache
      by None h = (ap (λ g. u.groups ++ g ∷ []) is, subst (λ g. Agrees M (with_group u.cache e.number g)) (sym is) (agrees_put u.cache (e.number.thread, e.number.n) agrees))
      by (Some g) h = (ap (λ x. u.groups ++ x ∷ []) (found_cached u.cache (e.number.thread, e.number.n) g agrees h), agrees)

  unpacks : (es : List TableEntry) (u : Unpacked) → Agrees M u.cache → Makes u.groups es
      → ((fold unpacked_entry u es).groups ≡ u.groups ++ meant es) × Agrees M (fold unpacked_entry u es).cache
  unpacks [] u agrees makes = (sym (append-nil u.groups), agrees)
  unpacks (e ∷ es) u agrees makes =
      let step = unpacks_entry e u agrees makes.0 in
      let rest = unpacks es (unpacked_entry u e) step.1 (subst (λ gs. Makes gs es) (sym step.0) makes.1) in
      (rest.0 ∙ ap (λ gs. gs ++ meant es) step.0 ∙ append_assoc u.groups (number_meant e ∷ []) (meant es), rest.1)

  -- ---- packing

  abbrev groups : Placed → List Group
  groups placed = meant (values_of placed)

  record Sound (placed : Placed) : Type 0 where
    keyed : AllByRecursion IsKeyed placed
    makes : Makes [] (values_of placed)

  abbrev Grows : List Group → List Group → Type 0
  Grows base gs = (more : List Group) × (gs ≡ base ++ more)

  grows_on : (a b c : List Group) → Grows a b → Grows b c → Grows a c
  grows_on a b c ab bc = (ab.0 ++ bc.0, bc.1 ∙ ap (λ gs. gs ++ bc.0) ab.1 ∙ append_assoc a ab.0 bc.0)

  -- carried values stand for these, however the table goes on
  abbrev Stands : List Group → List WireValue → List Value → Type 0
  Stands gs ws xs = (tail : List Group) → map (value_of (gs ++ tail)) ws ≡ xs

  stands_on : (a b : List Group) (ws : List WireValue) (xs : List Value) → Grows a b → Stands a ws xs → Stands b ws xs
  stands_on a b ws xs ab stands tail = ap (λ gs. map (value_of (gs ++ tail)) ws) ab.1 ∙ ap (λ gs. map (value_of gs) ws) (append_assoc a ab.0 tail) ∙ stands (ab.0 ++ tail)

  record Holds (base : List Group) (xs : List Value) (r : After (List WireValue)) : Type 0 where
    sound : Sound r.placed
    grown : Grows base (groups r.placed)
    stands : Stands (groups r.placed) r.made xs

  -- a group stands at an index
  record IsAt (base : List Group) (g : Group) (s : After ℕ) : Type 0 where
    sound : Sound s.placed
    grown : Grows base (groups s.placed)
    there : slice_get (groups s.placed) s.made ≡ Some g

  with_plain : (base : List Group) (xs : List Value) (r : After (List WireValue)) (x : WireValue) (y : Value) → Holds base xs r → ((gs : List Group) → value_of gs x ≡ y)
      → Holds base (xs ++ y ∷ []) (with_made r (after r.placed x))
  with_plain base xs r x y h is = record {
    sound = h.sound;
    grown = h.grown;
    stands = λ tail. map_push (value_of (groups r.placed ++ tail)) r.made x ∙ ap (λ ys. ys ++ value_of (groups r.placed ++ tail) x ∷ []) (h.stands tail) ∙ ap (λ z. xs ++ z ∷ []) (is (groups r.placed ++ tail));
  }

  with_closure : (base : List Group) (xs : List Value) (r : After (List WireValue)) (g : Group) (member : ℕ) (s : After ℕ) → Holds base xs r → IsAt (groups r.placed) g s
      → Holds base (xs ++ v.Clo g member ∷ []) (with_made r (as_closure member s))
  with_closure base xs r g member s h at = record {
    sound = at.sound;
    grown = grows_on base (groups r.placed) (groups s.placed) h.grown at.grown;
    stands = λ tail.
        let x : WireValue = w.Clo (record { index = s.made; member = member }) in
        map_push (value_of (groups s.placed ++ tail)) r.made x
        ∙ ap (λ ys. ys ++ value_of (groups s.placed ++ tail) x ∷ []) (stands_on (groups r.placed) (groups s.placed) r.made xs at.grown h.stands tail)
        ∙ ap (λ o. xs ++ closure_of o member ∷ []) (get_front (groups s.placed) tail s.made g at.there);
  }

  found_entry : (placed : Placed) (k : ℕ × ℕ) (e : TableEntry) → AllByRecursion IsKeyed placed → lookup (same_key k) placed ≡ Some e → number_meant e ≡ M k.0 k.1
  found_entry [] k e all h = absurd (true≢false (ap is_some (sym h)))
  found_entry (p ∷ ps) k e all h = by (found_entry ps k e all.1) (same_key k p.0) refl h
    where
      by : (lookup (same_key k) ps ≡ Some e → number_meant e ≡ M k.0 k.1) → (b : Bool) → same_key k p.0 ≡ b → cond b (Some p.1) (lookup (same_key k) ps) ≡ Some e → number_meant e ≡ M k.0 k.1
      by rest true t h2 =
          let same = key_is k p.0 t in
          ap (λ o. elim o [ None ↦ number_meant e | Some x ↦ number_meant x ]) (sym h2) ∙ ap (λ (q : ℕ × ℕ). M q.0 q.1) (sym all.0) ∙ ap (λ t2. M t2 p.0.1) (sym same.0) ∙ ap (λ n. M k.0 n) (sym same.1)
      by rest false t h2 = rest h2

  is_there : (placed : Placed) (n : GroupNo) (i : ℕ) → Sound placed → index_of n placed ≡ Some i → slice_get (groups placed) i ≡ Some (M n.thread n.n)
  is_there placed n i sound h =
      let k : ℕ × ℕ = (n.thread, n.n) in
      let one = has_one (lookup (same_key k) placed) (sym (some_index (same_key k) placed) ∙ ap is_some h) in
      let at : slice_get (values_of placed) i ≡ lookup (same_key k) placed = subst (λ o. IfSome o (λ j. slice_get (values_of placed) j ≡ lookup (same_key k) placed)) h (value_index (same_key k) placed) in
      slice_get-map number_meant (values_of placed) i ∙ ap (option_map number_meant) (at ∙ one.1) ∙ ap (λ g. Some g) (found_entry placed k one.0 sound.keyed one.1)

  abbrev entry_of : (g : Group) → List WireValue → TableEntry
  entry_of g ws = record { number = g.number; codes = g.codes; captured = ws }

  is_group : (g : Group) (ws : List WireValue) (gs : List Group) → M g.number.thread g.number.n ≡ g → depth_over g.captured ≡ g.depth → map (value_of gs) ws ≡ g.captured
      → group_of gs (entry_of g ws) ≡ number_meant (entry_of g ws)
  is_group g ws gs is deep same =
      ap (λ c. with_parts g c (depth_over c)) same ∙ ap (with_parts g g.captured) deep ∙ sym is

  enters : (base : List Group) (g : Group) (r : After (List WireValue)) → M g.number.thread g.number.n ≡ g → depth_over g.captured ≡ g.depth → Holds base g.captured r
      → IsAt base g (entered g.number g.codes r (index_of g.number r.placed))
  enters base g r is deep h = by (index_of g.number r.placed) refl
    where
      by : (o : Option ℕ) → index_of g.number r.placed ≡ o → IsAt base g (entered g.number g.codes r o)
      by (Some i) e = record { sound = h.sound; grown = h.grown; there = is_there r.placed g.number i h.sound e ∙ ap (λ x. Some x) is }
      by None e =
          let k : ℕ × ℕ = (g.number.thread, g.number.n) in
          let entry : TableEntry = entry_of g r.made in
          let none = is_none (lookup (same_key k) r.placed) (sym (some_index (same_key k) r.placed) ∙ ap is_some e) in
          let last : insert_entry same_key r.placed k entry ≡ r.placed ++ (k, entry) ∷ [] = insert_entry-absent same_key k entry r.placed (absent_from_lookup (same_key k) r.placed none) in
          let made : group_of (groups r.placed) entry ≡ number_meant entry =
          is_group g r.made (groups r.placed) is deep (ap (λ gs. map (value_of gs) r.made) (sym (append-nil (groups r.placed))) ∙ h.stands []) in
          let table : values_of (r.placed ++ (k, entry) ∷ []) ≡ values_of r.placed ++ entry ∷ [] = map_push (λ (p : (ℕ × ℕ) × TableEntry). p.1) r.placed (k, entry) in
          let all : groups (r.placed ++ (k, entry) ∷ []) ≡ groups r.placed ++ g ∷ [] = ap meant table ∙ map_push number_meant (values_of r.placed) entry ∙ ap (λ x. groups r.placed ++ x ∷ []) is in
          subst (λ ps. IsAt base g (after ps (length r.placed))) (sym last) (record {
            sound = record {
              keyed = all_push IsKeyed r.placed (k, entry) h.sound.keyed refl;
              makes = subst (Makes []) (sym table) (makes_push [] (values_of r.placed) entry h.sound.makes made);
            };
            grown = grows_on base (groups r.placed) (groups (r.placed ++ (k, entry) ∷ [])) h.grown (g ∷ [], all);
            there = ap (λ gs. slice_get gs (length r.placed)) all ∙ last_of r.placed;
          })
        where
          last_of : (ps : Placed) → slice_get (groups ps ++ g ∷ []) (length ps) ≡ Some g
          last_of [] = refl
          last_of (p ∷ ps) = last_of ps

  -- values, behind others
  abbrev Packs : List Value → Type 0
  Packs xs = (base : List Group) (ys : List Value) (r : After (List WireValue)) → Holds base ys r → Holds base (ys ++ xs) (fold (λ r step. with_made r (step r.placed)) r (map pack_value xs))

  places : (g : Group) → M g.number.thread g.number.n ≡ g → depth_over g.captured ≡ g.depth → Packs g.captured → (placed : Placed) → Sound placed
      → IsAt (groups placed) g (place g.number g.codes (map pack_value g.captured) placed (index_of g.number placed))
  places g is deep packs placed sound = by (index_of g.number placed) refl
    where
      by : (o : Option ℕ) → index_of g.number placed ≡ o → IsAt (groups placed) g (place g.number g.codes (map pack_value g.captured) placed o)
      by (Some i) e = record { sound = sound; grown = ([], sym (append-nil (groups placed))); there = is_there placed g.number i sound e ∙ ap (λ x. Some x) is }
      by None e =
          enters (groups placed) g (in_turn (map pack_value g.captured) placed) is deep
          (packs (groups placed) [] (after placed []) (record { sound = sound; grown = ([], sym (append-nil (groups placed))); stands = λ tail. refl }))

  then_more : (x : Value) (xs : List Value) → Packs xs
      → ((base : List Group) (ys : List Value) (r : After (List WireValue)) → Holds base ys r → Holds base (ys ++ x ∷ []) (with_made r (pack_value x r.placed))) → Packs (x ∷ xs)
  then_more x xs rest one base ys r h =
      subst (λ zs. Holds base zs (fold (λ r step. with_made r (step r.placed)) (with_made r (pack_value x r.placed)) (map pack_value xs))) (append_assoc ys (x ∷ []) xs)
      (rest base (ys ++ x ∷ []) (with_made r (pack_value x r.placed)) (one base ys r h))

  plain : (x : Value) (y : WireValue) → ((placed : Placed) → pack_value x placed ≡ after placed y) → ((gs : List Group) → value_of gs y ≡ x)
      → (base : List Group) (ys : List Value) (r : After (List WireValue)) → Holds base ys r → Holds base (ys ++ x ∷ []) (with_made r (pack_value x r.placed))
  plain x y is stands base ys r h = subst (λ q. Holds base (ys ++ x ∷ []) (with_made r q)) (sym (is r.placed)) (with_plain base ys r y x h stands)

  packs : (xs : List Value) → AreMeant M xs → Packs xs
  packs xs nothing = λ base ys r h. subst (λ zs. Holds base zs r) (sym (append-nil ys)) h
  packs xs (int z rest m) = then_more (v.Int z) rest (packs rest m) (plain (v.Int z) (w.Int z) (λ placed. search (rules, the_lemmas)) (λ gs. refl))
  packs xs (truth t rest m) = then_more (v.Bool t) rest (packs rest m) (plain (v.Bool t) (w.Bool t) (λ placed. search (rules, the_lemmas)) (λ gs. refl))
  packs xs (okay rest m) = then_more v.Okay rest (packs rest m) (plain v.Okay w.Okay (λ placed. search (rules, the_lemmas)) (λ gs. refl))
  packs xs (text t rest m) = then_more (v.Text t) rest (packs rest m) (plain (v.Text t) (w.Text t) (λ placed. search (rules, the_lemmas)) (λ gs. refl))
  packs xs (exception t rest m) = then_more (v.Exn t) rest (packs rest m) (plain (v.Exn t) (w.Exn t) (λ placed. search (rules, the_lemmas)) (λ gs. refl))
  packs xs (reference r rest m) = then_more (v.Ref r) rest (packs rest m) (plain (v.Ref r) (w.Ref r) (λ placed. search (rules, the_lemmas)) (λ gs. refl))
  packs xs (thread t home rest m) = then_more (v.Thread t home) rest (packs rest m) (plain (v.Thread t home) (w.Thread t home) (λ placed. search (rules, the_lemmas)) (λ gs. refl))
  packs xs (closure g member rest is deep limit captured m) =
      then_more (v.Clo g member) rest (packs rest m)
      (λ base ys r h.
      subst (λ q. Holds base (ys ++ v.Clo g member ∷ []) (with_made r q)) (sym (packs_closure g member r.placed))
      (with_closure base ys r g member (place g.number g.codes (map pack_value g.captured) r.placed (index_of g.number r.placed)) h
      (places g is (depth_is g deep limit) (packs g.captured captured) r.placed h.sound)))
    where
      packs_closure : (g : Group) (member : ℕ) (placed : Placed)
          → pack_value (v.Clo g member) placed ≡ as_closure member (place g.number g.codes (map pack_value g.captured) placed (index_of g.number placed))
      packs_closure g member placed = search (rules, the_lemmas)

  pub travel : (cache : Cached) (xs : List Value) → AreMeant M xs → Agrees M cache
      → (map (value_of (unpacked cache (packed xs).table).groups) (packed xs).values ≡ xs) × Agrees M (unpacked cache (packed xs).table).cache
  travel cache xs m agrees =
      let h = packs xs m [] [] (after [] []) (record { sound = record { keyed = tt; makes = tt }; grown = ([], refl); stands = λ tail. refl }) in
      let there = unpacks (packed xs).table (so_far cache []) agrees h.sound.makes in
      (ap (λ gs. map (value_of gs) (packed xs).values) (there.0 ∙ sym (append-nil (groups (pack_values xs []).placed))) ∙ h.stands [], there.1)
