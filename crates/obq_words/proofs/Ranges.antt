-- The turns and the workers that a command line says are within their limits.
use Rattle.std.proofs.Common.{Bool, List, None, Option, Some, [], arith, cond, false, refl, rules, subst, suc, true, unwrap_or, ℕ, ◌∷◌, ◌≡◌, ◌≤◌}
use Rattle.obq_model.specs.JournalText.{number_from}
use Rattle.obq_words.specs.CommandLine.{BadAt, Expected, OptionOrSite, Sites, WordOfOption, behind_run, is_run, no_options, options_in, options_of, run_words, turns_in, turns_of, with_turns, with_workers, workers_in, workers_of}
use Rattle.obq_words.specs.declared.options.RunOptions.{RunOptions}

-- a number from 1 to most, where it is given
abbrev pub IsWithin : ℕ → Option ℕ → Type 0
IsWithin most None = Unit {0}
IsWithin most (Some n) = (1 ≤ n) × (n ≤ most)

-- both numbers of these options
pub record AreWithin (options : RunOptions) : Type 0 where
  pub turns_are : IsWithin 1000000 options.turns
  pub workers_are : IsWithin 16 options.workers

-- so of the options that what stands next gives
abbrev AreNext : Option RunOptions → Type 0
AreNext None = Unit {0}
AreNext (Some options) = AreWithin options

abbrev AreExpected : Expected → Type 0
AreExpected (OptionOrSite options) = AreWithin options
AreExpected (WordOfOption take) = (word : List ℕ) → AreNext (take word)

abbrev AreBehind : Option Expected → Type 0
AreBehind None = Unit {0}
AreBehind (Some expected) = AreExpected expected

chosen : (most : ℕ) (b : Bool) (n : ℕ) → (b ≡ true → (1 ≤ n) × (n ≤ most)) → IsWithin most (cond b (Some n) None)
chosen most true n h = h (search rules)
chosen most false n h = tt

number : (most : ℕ) (word : List ℕ) → IsWithin most (number_from 1 most word)
number most word = chosen most _ _ (λ e. search (rules, e))

given_turns : (options : RunOptions) (turns : Option ℕ) → AreWithin options → IsWithin 1000000 turns
    → AreNext (elim turns [ None ↦ None | Some n ↦ Some (record options { turns = Some n }) ])
given_turns options None are is = tt
given_turns options (Some n) are is = record { turns_are = is; workers_are = are.workers_are }

given_workers : (options : RunOptions) (workers : Option ℕ) → AreWithin options → IsWithin 16 workers
    → AreNext (elim workers [ None ↦ None | Some n ↦ Some (record options { workers = Some n }) ])
given_workers options None are is = tt
given_workers options (Some n) are is = record { turns_are = are.turns_are; workers_are = is }

with_flag : (options more : RunOptions) → options.turns ≡ more.turns → options.workers ≡ more.workers → AreWithin options → AreWithin more
with_flag options more turns workers are = record { turns_are = subst (IsWithin 1000000) turns are.turns_are; workers_are = subst (IsWithin 16) workers are.workers_are }

behind : (turns workers journal links : Bool) (options : RunOptions) → AreWithin options
    → AreBehind (cond turns (Some (WordOfOption (with_turns options)))
    (cond workers (Some (WordOfOption (with_workers options)))
    (cond journal (Some (OptionOrSite (record options { journal = true }))) (cond links (Some (OptionOrSite (record options { links = true }))) None))))
behind true workers journal links options are = λ word. given_turns options (turns_in word) are (number 1000000 word)
behind false true journal links options are = λ word. given_workers options (workers_in word) are (number 16 word)
behind false false true links options are = with_flag options (record options { journal = true }) refl refl are
behind false false false true options are = with_flag options (record options { links = true }) refl refl are
behind false false false false options are = tt

-- the words behind one more, by what that one gives
go_on : (k : ℕ) (options : RunOptions) (words more : List (List ℕ)) (expected : Option Expected) → AreWithin options → AreBehind expected
    → ((x : Expected) → AreExpected x → AreWithin (options_in (run_words (suc k) x more)))
    → AreWithin (options_in (elim expected [ None ↦ Sites options k words | Some x ↦ run_words (suc k) x more ]))
go_on k options words more None are is go = are
go_on k options words more (Some x) are is go = go x is

no_options_are : AreWithin no_options
no_options_are = record { turns_are = tt; workers_are = tt }

take_on : (k : ℕ) (more : List (List ℕ)) (taken : Option RunOptions) → AreNext taken
    → ((x : Expected) → AreExpected x → AreWithin (options_in (run_words (suc k) x more)))
    → AreWithin (options_in (elim taken [ None ↦ BadAt k | Some options ↦ run_words (suc k) (OptionOrSite options) more ]))
take_on k more None are go = no_options_are
take_on k more (Some options) are go = go (OptionOrSite options) are

read : (words : List (List ℕ)) (k : ℕ) (expected : Expected) → AreExpected expected → AreWithin (options_in (run_words k expected words))
read [] k (OptionOrSite options) are = are
read [] k (WordOfOption take) are = no_options_are
read (word ∷ words) k (OptionOrSite options) are = go_on k options (word ∷ words) words _ are (behind _ _ _ _ options are) (λ x is. read words (suc k) x is)
read (word ∷ words) k (WordOfOption take) are = take_on k words (take word) (are word) (λ x is. read words (suc k) x is)

by_command : (run : Bool) (words : List (List ℕ)) → AreWithin (cond run (options_in (behind_run words)) no_options)
by_command true words = read words 1 (OptionOrSite no_options) no_options_are
by_command false words = no_options_are

options_are : (words : List (List ℕ)) → AreWithin (options_of words)
options_are [] = no_options_are
options_are (command ∷ words) = by_command (is_run command) words

default : (most least : ℕ) (given : Option ℕ) → 1 ≤ least → least ≤ most → IsWithin most given → (1 ≤ unwrap_or given least) × (unwrap_or given least ≤ most)
default most least None positive few are = (positive, few)
default most least (Some n) positive few are = are

pub turns_in_range : (words : List (List ℕ)) → (1 ≤ turns_of words) × (turns_of words ≤ 1000000)
turns_in_range words = default 1000000 100000 (options_of words).turns (omega arith) (omega arith) (options_are words).turns_are

pub workers_in_range : (words : List (List ℕ)) → (1 ≤ workers_of words) × (workers_of words ≤ 16)
workers_in_range words = default 16 2 (options_of words).workers (omega arith) (omega arith) (options_are words).workers_are
