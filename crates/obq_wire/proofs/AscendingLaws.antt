-- A table whose numbers ascend has none twice.
use Rattle.std.proofs.Common.{◌≡◌, ℕ, suc, ◌+◌, ◌<◌, ◌≤◌, Bool, true, false, ltb, eqb, List, [], ◌∷◌, ◌++◌, length, refl, ap, ◌∙◌, arith}
use Rattle.std.specs.Prelude.{nat_lt, ◌||◌, ◌&&◌, ◌==◌}
use Rattle.std.specs.List.{list_any}
use Rattle.std.proofs.lemmas.Bool.{and_left, and_parts, and_right, eq-eqb, eqb-false, eqb-true, le-ltb, lt-ltb, ltb-true, or_from, or_left, or_right}
use Rattle.std.proofs.lemmas.List.{length-append}
use Rattle.obq_base.specs.declared.values.GroupNo.{GroupNo}
use Rattle.obq_wire.specs.declared.values.TableEntry.{TableEntry}
use Rattle.obq_wire.specs.Ascending.{ascend, ascend_from, is_before, needless}
use Rattle.obq_wire.specs.Order.{misplaced_from, same_number}
use Rattle.obq_wire.specs.Walk.{IsAgreement}
use Rattle.obq_wire.proofs.WalkLaws.{eqb_apart}

data IsBefore (g h : GroupNo) : Type 0 where
  ByThread : g.thread < h.thread → IsBefore g h
  ByCount : g.thread ≡ h.thread → g.n < h.n → IsBefore g h

means : (g h : GroupNo) → is_before g h ≡ true → IsBefore g h
means g h e = by (ltb g.thread h.thread) refl e
  where
    by : (t : Bool) → ltb g.thread h.thread ≡ t → (t || ((g.thread == h.thread) && nat_lt g.n h.n)) ≡ true → IsBefore g h
    by true is e = ByThread (ltb-true g.thread h.thread is)
    by false is e =
        let two = and_parts (g.thread == h.thread) (nat_lt g.n h.n) e in
        ByCount (eqb-true g.thread h.thread two.0) (ltb-true g.n h.n two.1)

told : (g h : GroupNo) → IsBefore g h → is_before g h ≡ true
told g h (ByThread lt) = or_left (nat_lt g.thread h.thread) ((g.thread == h.thread) && nat_lt g.n h.n) (lt-ltb g.thread h.thread lt)
told g h (ByCount e lt) =
    or_right (nat_lt g.thread h.thread) ((g.thread == h.thread) && nat_lt g.n h.n)
    (rw (eq-eqb g.thread h.thread e, lt-ltb g.n h.n lt) refl)

through : (g h k : GroupNo) → IsBefore g h → IsBefore h k → IsBefore g k
through g h k (ByThread lt) (ByThread lu) = ByThread (omega (arith, lt, lu))
through g h k (ByThread lt) (ByCount e lu) = ByThread (omega (arith, lt, e))
through g h k (ByCount d lt) (ByThread lu) = ByThread (omega (arith, d, lu))
through g h k (ByCount d lt) (ByCount e lu) = ByCount (d ∙ e) (omega (arith, lt, lu))

apart : (g h : GroupNo) → IsBefore g h → same_number g h ≡ false
apart g h (ByThread lt) = and_left (g.thread == h.thread) (g.n == h.n) (eqb_apart g.thread h.thread (omega (arith, lt)))
apart g h (ByCount e lt) = and_right (g.thread == h.thread) (g.n == h.n) (eqb_apart g.n h.n (omega (arith, lt)))

-- all of these stand before this number
abbrev AreBefore : GroupNo → List TableEntry → Type 0
AreBefore h [] = Unit {0}
AreBefore h (d ∷ ds) = (IsBefore d.number h) × AreBefore h ds

before_more : (g h : GroupNo) (ds : List TableEntry) → AreBefore g ds → IsBefore g h → AreBefore h ds
before_more g h [] all lt = tt
before_more g h (d ∷ ds) all lt = (through d.number g h all.0 lt, before_more g h ds all.1 lt)

before_last : (h : GroupNo) (ds : List TableEntry) (e : TableEntry) → AreBefore h ds → IsBefore e.number h → AreBefore h (ds ++ e ∷ [])
before_last h [] e all lt = (lt, tt)
before_last h (d ∷ ds) e all lt = (all.0, before_last h ds e all.1 lt)

none_same : (h : GroupNo) (ds : List TableEntry) → AreBefore h ds → list_any (λ d. same_number d.number h) ds ≡ false
none_same h [] all = refl
none_same h (d ∷ ds) all = or_from (same_number d.number h) (list_any (λ d. same_number d.number h) ds) (apart d.number h all.0) (none_same h ds all.1)

module _ (needed : List ℕ) (agreed : ℕ) (agrees : IsAgreement needed agreed) where
  step : (earlier : List TableEntry) (e : TableEntry) (es : List TableEntry) → AreBefore e.number earlier → length earlier ≤ agreed
      → (length earlier < agreed → misplaced_from needed (earlier ++ e ∷ []) es ≡ needless agreed (suc (length earlier + length es)))
      → misplaced_from needed earlier (e ∷ es) ≡ needless agreed (suc (length earlier + length es))
  step earlier e es all le behind = by (eqb (length earlier) agreed) refl
    where
      none : list_any (λ d. same_number d.number e.number) earlier ≡ false
      none = none_same e.number earlier all

      by : (t : Bool) → eqb (length earlier) agreed ≡ t → misplaced_from needed earlier (e ∷ es) ≡ needless agreed (suc (length earlier + length es))
      by true is =
          let at : length earlier ≡ agreed = eqb-true (length earlier) agreed is in
          rw (none, at, agrees.there, lt-ltb agreed (suc (agreed + length es)) (omega arith)) refl
      by false is =
          let lt : length earlier < agreed = omega (arith, le, eqb-false (length earlier) agreed is) in
          rw (none, agrees.below (length earlier) lt) (behind lt)

  from_here : (earlier : List TableEntry) (e : TableEntry) (es : List TableEntry) → AreBefore e.number earlier → ascend_from e.number es ≡ true
      → length earlier ≤ agreed → misplaced_from needed earlier (e ∷ es) ≡ needless agreed (suc (length earlier + length es))
  from_here earlier e [] all up le = step earlier e [] all le (λ lt. rw (le-ltb agreed (suc (length earlier + 0)) (omega (arith, lt))) refl)
  from_here earlier e (f ∷ fs) all up le =
      let two = and_parts (is_before e.number f.number) (ascend_from f.number fs) up in
      let lt = means e.number f.number two.0 in
      let longer : length (earlier ++ e ∷ []) ≡ suc (length earlier) = omega (arith, length-append earlier (e ∷ [])) in
      step earlier e (f ∷ fs) all le
      (λ lu. from_here (earlier ++ e ∷ []) f fs (before_last f.number earlier e (before_more e.number f.number earlier all lt) lt) two.1 (omega (arith, longer, lu))
      ∙ ap (needless agreed) (omega (arith, longer)))

pub ascending_misplaced : (needed : List ℕ) (agreed : ℕ) (table : List TableEntry) → IsAgreement needed agreed → ascend table ≡ true
    → misplaced_from needed [] table ≡ needless agreed (length table)
ascending_misplaced needed agreed [] agrees up = rw (le-ltb agreed 0 (omega arith)) refl
ascending_misplaced needed agreed (e ∷ es) agrees up = from_here needed agreed agrees [] e es tt up (omega arith) ∙ ap (needless agreed) (omega arith)
