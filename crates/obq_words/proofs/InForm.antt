-- The sites that a command line gives are in form.
use Rattle.std.proofs.Common.{Bool, List, None, Option, Some, [], ap, append_assoc, arith, bytes_eq, cond, false, length, length-append, not, refl, suc, sym, true, ℕ, ◌&&◌, ◌||◌, ◌+◌, ◌++◌, ◌==◌, ◌≡◌, ◌≤◌, ◌∙◌, ◌∷◌}
use Rattle.std.proofs.lemmas.Bool.Decides.{nat_tests}
use Rattle.std.proofs.lemmas.List.{append-nil, length-map}
use Rattle.std.proofs.lemmas.List.Folds.{list_all-append}
use Rattle.std.proofs.lemmas.Map.Keys.{IsDistinct-push}
use Rattle.std.proofs.lemmas.Cmp.{nat_list_eq_equiv}
use Rattle.std.specs.List.{IsDistinct, list_all, list_any}
use Rattle.obq_words.specs.CommandLine.{BadAt, RunWords, Sites, UsageAt, WordFault, bad_behind_replay, bad_behind_sites, bad_in_run, bad_sites, bad_word, behind_path, behind_run, is_check, is_from, is_replay, is_run, is_site_name, name_part, sites_in}
use Rattle.obq_model.specs.Put.{among}
use Rattle.obq_words.specs.declared.words.SiteWord.{SiteWord}
use Rattle.obq_words.specs.Words.{AreInForm, AreSites, given_names, names_in}

-- names as sites may have them
record AreNames (names : List (List ℕ)) : Type 0 where
  most : length names ≤ 16
  named : list_all is_site_name names ≡ true
  different : IsDistinct bytes_eq names

fault_no : (fault : WordFault) → Some fault ≡ None → ⊥
fault_no fault e = cc

-- a choice that isn't the second
first_chosen : (b : Bool) (x : Option WordFault) (fault : WordFault) → cond b x (Some fault) ≡ None → (b ≡ true) × (x ≡ None)
first_chosen true x fault e = (refl, e)
first_chosen false x fault e = absurd cc

-- a choice that isn't the first
second_chosen : (b : Bool) (x : Option WordFault) (fault : WordFault) → cond b (Some fault) x ≡ None → (b ≡ false) × (x ≡ None)
second_chosen true x fault e = absurd cc
second_chosen false x fault e = (refl, e)

-- of three tests that pass the second passes
second_passes : (a b c : Bool) → (a && b && c) ≡ true → b ≡ true
second_passes true true c e = refl
second_passes true false c e = absurd cc
second_passes false b c e = absurd cc

both_pass : (a b : Bool) → (a && not b) ≡ true → (a ≡ true) × (b ≡ false)
both_pass true true e = absurd cc
both_pass true false e = (refl, refl)
both_pass false b e = absurd cc

-- the test among names as std writes it
among_any : (name : List ℕ) (names : List (List ℕ)) → list_any (bytes_eq name) names ≡ among name names
among_any name [] = refl
among_any name (n ∷ ns) = ap (λ b. bytes_eq name n || b) (among_any name ns)

at_most : (n m : ℕ) → n ≤ 16 → (n == 16) ≡ false → m ≡ n + 1 → m ≤ 16
at_most n m within few more = grind (arith, nat_tests)

-- one more name that is new
one_more : (names : List (List ℕ)) (name : List ℕ) → AreNames names → is_site_name name ≡ true → among name names ≡ false → (length names == 16) ≡ false → AreNames (names ++ name ∷ [])
one_more names name are good new few = record {
  most = at_most (length names) (length (names ++ name ∷ [])) are.most few (length-append names (name ∷ []));
  named = list_all-append is_site_name names (name ∷ []) ∙ rw (are.named, good) refl;
  different = IsDistinct-push nat_list_eq_equiv names name are.different (among_any name names ∙ new);
}

-- where no word behind these names is bad, all names are in form
all_names : (k : ℕ) (names words : List (List ℕ)) → bad_behind_sites k names words ≡ None → AreNames names → AreNames (names ++ names_in words)
all_names k names [] good are = rw append-nil are
all_names k names (word ∷ words) good are =
    let stands = first_chosen _ _ _ good in
    let fits = second_chosen _ _ _ stands.1 in
    let two = both_pass _ _ stands.0 in
    let more : AreNames (names ++ name_part word ∷ []) = one_more names (name_part word) are (second_passes _ _ _ two.0) two.1 fits.0 in
    rw (← append_assoc names (name_part word ∷ []) (names_in words)) (all_names (suc k) (names ++ name_part word ∷ []) words fits.1 more)

no_names : AreNames []
unfolding IsDistinct
no_names = record { most = omega arith; named = refl; different = tt }

-- names of 1 to 16 sites
record AreSome (names : List (List ℕ)) : Type 0 where
  some : 1 ≤ length names
  are : AreNames names

some_sites : (k : ℕ) (words : List (List ℕ)) → bad_sites k words ≡ None → AreSome (names_in words)
some_sites k [] e = absurd (fault_no _ e)
some_sites k (s ∷ words) e = record { some = omega arith; are = all_names k [] (s ∷ words) e no_names }

behind_options : (read : RunWords) → bad_in_run read ≡ None → AreSome (names_in (sites_in read))
behind_options (Sites options k words) e = some_sites k words e
behind_options (BadAt k) e = absurd (fault_no _ e)

behind_journal : (words : List (List ℕ)) → bad_behind_replay words ≡ None → AreSome (names_in (behind_path words))
behind_journal [] e = absurd (fault_no _ e)
behind_journal (word ∷ []) e = absurd (fault_no _ (first_chosen (is_from word) (Some (UsageAt 2)) _ e).1)
behind_journal (word ∷ path ∷ words) e = some_sites 3 words (second_chosen _ _ _ (first_chosen _ _ _ e).1).1

-- the sites by which command it is
behind : (run check replay : Bool) (words : List (List ℕ))
    → cond run (bad_in_run (behind_run words)) (cond check (bad_sites 1 words) (cond replay (bad_behind_replay words) (Some (UsageAt 0)))) ≡ None
    → AreSome (names_in (cond run (sites_in (behind_run words)) (cond check words (behind_path words))))
behind true check replay words e = behind_options (behind_run words) e
behind false true replay words e = some_sites 1 words e
behind false false true words e = behind_journal words e
behind false false false words e = absurd (fault_no _ e)

given : (words : List (List ℕ)) → bad_word words ≡ None → AreSome (given_names words)
given [] e = absurd (fault_no _ e)
given (c ∷ words) e = behind (is_run c) (is_check c) (is_replay c) words e

pub in_form : (words : List (List ℕ)) (sites : List SiteWord) → bad_word words ≡ None → AreSites words sites → AreInForm sites
in_form words sites good are =
    let names = given words good in
    let same : length sites ≡ length (given_names words) = sym (length-map sites (λ s. s.name)) ∙ ap length are.names in
    record {
      some = omega (arith, same, names.some);
      most = omega (arith, same, names.are.most);
      named = rw are.names names.are.named;
      different = rw are.names names.are.different;
    }
