-- Command lines, and what the definition says of them.
use Rattle.std.proofs.Common.{List, None, Some, [], codes, false, refl, true, ℕ, ◌++◌, ◌∷◌, ◌≡◌}
use Rattle.obq_words.specs.CommandLine.{TooManyAt, UsageAt, bad_word, is_checking, is_replaying, journal_path, site_words, turns_of, wants_journal, wants_links, workers_of}
use Rattle.obq_words.specs.Words.{given_names, given_paths}

-- a site that may stand
abbrev a_site : List ℕ
a_site = codes "A=a"

-- ---- words that can't stand

no_words : bad_word [] ≡ Some (UsageAt 0)
no_words = refl

another_command : bad_word (codes "walk" ∷ a_site ∷ []) ≡ Some (UsageAt 0)
another_command = refl

run_alone : bad_word (codes "run" ∷ []) ≡ Some (UsageAt 1)
run_alone = refl

no_turns : bad_word (codes "run" ∷ codes "--turns" ∷ codes "0" ∷ a_site ∷ []) ≡ Some (UsageAt 2)
no_turns = refl

leading_zeros : bad_word (codes "run" ∷ codes "--turns" ∷ codes "007" ∷ a_site ∷ []) ≡ Some (UsageAt 2)
leading_zeros = refl

a_sign : bad_word (codes "run" ∷ codes "--turns" ∷ codes "+7" ∷ a_site ∷ []) ≡ Some (UsageAt 2)
a_sign = refl

no_number : bad_word (codes "run" ∷ codes "--turns" ∷ a_site ∷ []) ≡ Some (UsageAt 2)
no_number = refl

no_word_for_the_number : bad_word (codes "run" ∷ codes "--turns" ∷ []) ≡ Some (UsageAt 2)
no_word_for_the_number = refl

too_many_turns : bad_word (codes "run" ∷ codes "--journal" ∷ codes "--turns" ∷ codes "1000001" ∷ a_site ∷ []) ≡ Some (UsageAt 3)
too_many_turns = refl

turns_twice : bad_word (codes "run" ∷ codes "--turns" ∷ codes "5" ∷ codes "--turns" ∷ codes "6" ∷ a_site ∷ []) ≡ Some (UsageAt 3)
turns_twice = refl

journal_twice : bad_word (codes "run" ∷ codes "--journal" ∷ codes "--journal" ∷ a_site ∷ []) ≡ Some (UsageAt 2)
journal_twice = refl

no_site_behind_options : bad_word (codes "run" ∷ codes "--journal" ∷ codes "--turns" ∷ codes "5" ∷ []) ≡ Some (UsageAt 4)
no_site_behind_options = refl

option_behind_a_site : bad_word (codes "run" ∷ a_site ∷ codes "--journal" ∷ []) ≡ Some (UsageAt 2)
option_behind_a_site = refl

links_behind_a_site : bad_word (codes "run" ∷ a_site ∷ codes "--links" ∷ []) ≡ Some (UsageAt 2)
links_behind_a_site = refl

no_workers : bad_word (codes "run" ∷ codes "--workers" ∷ codes "0" ∷ a_site ∷ []) ≡ Some (UsageAt 2)
no_workers = refl

too_many_workers : bad_word (codes "run" ∷ codes "--workers" ∷ codes "17" ∷ a_site ∷ []) ≡ Some (UsageAt 2)
too_many_workers = refl

workers_with_a_leading_zero : bad_word (codes "run" ∷ codes "--workers" ∷ codes "02" ∷ a_site ∷ []) ≡ Some (UsageAt 2)
workers_with_a_leading_zero = refl

a_site_for_the_workers : bad_word (codes "run" ∷ codes "--workers" ∷ a_site ∷ []) ≡ Some (UsageAt 2)
a_site_for_the_workers = refl

an_option_for_the_workers : bad_word (codes "run" ∷ codes "--workers" ∷ codes "--links" ∷ a_site ∷ []) ≡ Some (UsageAt 2)
an_option_for_the_workers = refl

no_word_for_the_workers : bad_word (codes "run" ∷ codes "--links" ∷ codes "--workers" ∷ []) ≡ Some (UsageAt 3)
no_word_for_the_workers = refl

workers_twice : bad_word (codes "run" ∷ codes "--workers" ∷ codes "2" ∷ codes "--links" ∷ codes "--workers" ∷ codes "2" ∷ a_site ∷ []) ≡ Some (UsageAt 4)
workers_twice = refl

links_twice : bad_word (codes "run" ∷ codes "--links" ∷ codes "--links" ∷ a_site ∷ []) ≡ Some (UsageAt 2)
links_twice = refl

no_site_behind_all_options : bad_word (codes "run" ∷ codes "--links" ∷ codes "--workers" ∷ codes "2" ∷ codes "--journal" ∷ codes "--turns" ∷ codes "5" ∷ []) ≡ Some (UsageAt 7)
no_site_behind_all_options = refl

workers_behind_a_site : bad_word (codes "run" ∷ a_site ∷ codes "--workers" ∷ codes "2" ∷ []) ≡ Some (UsageAt 2)
workers_behind_a_site = refl

two_sites_of_one_name : bad_word (codes "run" ∷ a_site ∷ codes "A=b" ∷ []) ≡ Some (UsageAt 2)
two_sites_of_one_name = refl

check_with_an_option : bad_word (codes "check" ∷ codes "--journal" ∷ a_site ∷ []) ≡ Some (UsageAt 1)
check_with_an_option = refl

replay_alone : bad_word (codes "replay" ∷ []) ≡ Some (UsageAt 1)
replay_alone = refl

replay_without_from : bad_word (codes "replay" ∷ a_site ∷ []) ≡ Some (UsageAt 1)
replay_without_from = refl

from_behind_a_site : bad_word (codes "replay" ∷ a_site ∷ codes "--from" ∷ codes "j" ∷ []) ≡ Some (UsageAt 1)
from_behind_a_site = refl

no_word_for_the_path : bad_word (codes "replay" ∷ codes "--from" ∷ []) ≡ Some (UsageAt 2)
no_word_for_the_path = refl

empty_path : bad_word (codes "replay" ∷ codes "--from" ∷ [] ∷ a_site ∷ []) ≡ Some (UsageAt 2)
empty_path = refl

no_site_behind_the_path : bad_word (codes "replay" ∷ codes "--from" ∷ codes "j" ∷ []) ≡ Some (UsageAt 3)
no_site_behind_the_path = refl

from_twice : bad_word (codes "replay" ∷ codes "--from" ∷ codes "j" ∷ codes "--from" ∷ codes "k" ∷ a_site ∷ []) ≡ Some (UsageAt 3)
from_twice = refl

-- ---- the 17th site

abbrev sixteen_sites : List (List ℕ)
sixteen_sites =
    codes "A=a" ∷ codes "B=b" ∷ codes "C=c" ∷ codes "D=d" ∷ codes "E=e" ∷ codes "F=f" ∷ codes "G=g" ∷ codes "H=h" ∷ codes "I=i" ∷ codes "J=j" ∷ codes "K=k" ∷ codes "L=l" ∷ codes "M=m"
    ∷ codes "N=n" ∷ codes "O=o" ∷ codes "P=p" ∷ []

sixteen_are_allowed : bad_word (codes "run" ∷ sixteen_sites) ≡ None
sixteen_are_allowed = refl

seventeen_sites : bad_word (codes "run" ∷ (sixteen_sites ++ codes "Q=q" ∷ [])) ≡ Some (TooManyAt 17)
seventeen_sites = refl

seventeenth_of_an_earlier_name : bad_word (codes "run" ∷ (sixteen_sites ++ codes "P=q" ∷ [])) ≡ Some (UsageAt 17)
seventeenth_of_an_earlier_name = refl

seventeenth_without_a_path : bad_word (codes "run" ∷ (sixteen_sites ++ codes "Q" ∷ [])) ≡ Some (UsageAt 17)
seventeenth_without_a_path = refl

seventeen_behind_options : bad_word (codes "run" ∷ codes "--turns" ∷ codes "5" ∷ codes "--journal" ∷ (sixteen_sites ++ codes "Q=q" ∷ [])) ≡ Some (TooManyAt 20)
seventeen_behind_options = refl

seventeen_behind_all_options : bad_word (codes "run" ∷ codes "--links" ∷ codes "--turns" ∷ codes "5" ∷ codes "--workers" ∷ codes "16" ∷ codes "--journal" ∷ (sixteen_sites ++ codes "Q=q" ∷ [])) ≡ Some (TooManyAt 23)
seventeen_behind_all_options = refl

seventeen_behind_the_path : bad_word (codes "replay" ∷ codes "--from" ∷ codes "j" ∷ (sixteen_sites ++ codes "Q=q" ∷ [])) ≡ Some (TooManyAt 19)
seventeen_behind_the_path = refl

-- ---- words that stand

longest_turns : bad_word (codes "run" ∷ codes "--journal" ∷ codes "--turns" ∷ codes "1000000" ∷ a_site ∷ []) ≡ None
longest_turns = refl

least_turns : bad_word (codes "run" ∷ codes "--turns" ∷ codes "1" ∷ a_site ∷ []) ≡ None
least_turns = refl

turns_are_said : turns_of (codes "run" ∷ codes "--turns" ∷ codes "1000000" ∷ a_site ∷ []) ≡ 1000000
turns_are_said = refl

turns_behind_the_journal : turns_of (codes "run" ∷ codes "--journal" ∷ codes "--turns" ∷ codes "5" ∷ a_site ∷ []) ≡ 5
turns_behind_the_journal = refl

default_turns : turns_of (codes "run" ∷ codes "--journal" ∷ a_site ∷ []) ≡ 100000
default_turns = refl

journal_is_wanted : wants_journal (codes "run" ∷ codes "--turns" ∷ codes "5" ∷ codes "--journal" ∷ a_site ∷ []) ≡ true
journal_is_wanted = refl

journal_is_not_wanted : wants_journal (codes "run" ∷ codes "--turns" ∷ codes "5" ∷ codes "J=--journal" ∷ []) ≡ false
journal_is_not_wanted = refl

most_workers : bad_word (codes "run" ∷ codes "--workers" ∷ codes "16" ∷ a_site ∷ []) ≡ None
most_workers = refl

least_workers : bad_word (codes "run" ∷ codes "--workers" ∷ codes "1" ∷ a_site ∷ []) ≡ None
least_workers = refl

workers_are_said : workers_of (codes "run" ∷ codes "--links" ∷ codes "--workers" ∷ codes "16" ∷ codes "--turns" ∷ codes "5" ∷ a_site ∷ []) ≡ 16
workers_are_said = refl

default_workers : workers_of (codes "run" ∷ codes "--turns" ∷ codes "5" ∷ a_site ∷ []) ≡ 2
default_workers = refl

turns_between_others : turns_of (codes "run" ∷ codes "--links" ∷ codes "--workers" ∷ codes "16" ∷ codes "--turns" ∷ codes "5" ∷ a_site ∷ []) ≡ 5
turns_between_others = refl

links_are_wanted : wants_links (codes "run" ∷ codes "--workers" ∷ codes "1" ∷ codes "--links" ∷ codes "--journal" ∷ a_site ∷ []) ≡ true
links_are_wanted = refl

links_are_not_wanted : wants_links (codes "run" ∷ codes "--workers" ∷ codes "1" ∷ codes "--journal" ∷ a_site ∷ []) ≡ false
links_are_not_wanted = refl

journal_behind_links : wants_journal (codes "run" ∷ codes "--workers" ∷ codes "1" ∷ codes "--links" ∷ codes "--journal" ∷ a_site ∷ []) ≡ true
journal_behind_links = refl

sites_behind_options : site_words (codes "run" ∷ codes "--turns" ∷ codes "5" ∷ codes "--journal" ∷ a_site ∷ codes "E=e" ∷ []) ≡ a_site ∷ codes "E=e" ∷ []
sites_behind_options = refl

sites_behind_all_options : site_words (codes "run" ∷ codes "--links" ∷ codes "--turns" ∷ codes "5" ∷ codes "--workers" ∷ codes "3" ∷ codes "--journal" ∷ a_site ∷ codes "E=e" ∷ []) ≡ a_site ∷ codes "E=e" ∷ []
sites_behind_all_options = refl

names_behind_options : given_names (codes "run" ∷ codes "--journal" ∷ a_site ∷ codes "E=e=f" ∷ []) ≡ codes "A" ∷ codes "E" ∷ []
names_behind_options = refl

paths_behind_options : given_paths (codes "run" ∷ codes "--journal" ∷ a_site ∷ codes "E=e=f" ∷ []) ≡ codes "a" ∷ codes "e=f" ∷ []
paths_behind_options = refl

check_stands : bad_word (codes "check" ∷ a_site ∷ []) ≡ None
check_stands = refl

check_is_checking : is_checking (codes "check" ∷ a_site ∷ []) ≡ true
check_is_checking = refl

checked_sites : site_words (codes "check" ∷ a_site ∷ []) ≡ a_site ∷ []
checked_sites = refl

replay_stands : bad_word (codes "replay" ∷ codes "--from" ∷ codes "j" ∷ a_site ∷ []) ≡ None
replay_stands = refl

replay_is_replaying : is_replaying (codes "replay" ∷ codes "--from" ∷ codes "j" ∷ a_site ∷ []) ≡ true
replay_is_replaying = refl

replayed_journal : journal_path (codes "replay" ∷ codes "--from" ∷ codes " j=k " ∷ a_site ∷ []) ≡ codes " j=k "
replayed_journal = refl

journal_named_as_the_option : bad_word (codes "replay" ∷ codes "--from" ∷ codes "--from" ∷ a_site ∷ []) ≡ None
journal_named_as_the_option = refl

replayed_sites : site_words (codes "replay" ∷ codes "--from" ∷ codes "j" ∷ a_site ∷ codes "E=e" ∷ []) ≡ a_site ∷ codes "E=e" ∷ []
replayed_sites = refl
