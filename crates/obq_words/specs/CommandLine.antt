-- The words behind the program's name: `run`, `check` or `replay`, its options, and site words with different names.
use Rattle.std.specs.Prelude.{Bool, List, None, Option, Some, [], bytes_eq, codes, false, if◌then◌else◌, is_none, length, nat_le, nat_lt, not, suc, true, unwrap_or, ℕ, ◌&&◌, ◌++◌, ◌==◌, ◌||◌, ◌∷◌}
use Rattle.std.specs.Char.{is_ascii_alphabetic, is_ascii_alphanumeric}
use Rattle.std.specs.List.{after_first, before_first, list_all, position_or_len}
use Rattle.obq_base.specs.declared.limits.TheConstants.{DEFAULT_TURNS, TURN_LIMIT, WORKER_LIMIT}
use Rattle.obq_model.specs.JournalText.{number_from}
use Rattle.obq_model.specs.Put.{among}
use Rattle.obq_words.specs.declared.options.RunOptions.{RunOptions}
use Rattle.obq_words.specs.declared.options.TheConstants.{DEFAULT_WORKERS}

-- ---- commands

abbrev pub is_run : List ℕ → Bool
is_run word = bytes_eq word (codes "run")

abbrev pub is_check : List ℕ → Bool
is_check word = bytes_eq word (codes "check")

abbrev pub is_replay : List ℕ → Bool
is_replay word = bytes_eq word (codes "replay")

-- the command is `check`
abbrev pub is_checking : List (List ℕ) → Bool
is_checking [] = false
is_checking (word ∷ words) = is_check word

-- the command is `replay`
abbrev pub is_replaying : List (List ℕ) → Bool
is_replaying [] = false
is_replaying (word ∷ words) = is_replay word

-- a word that can't stand in its place, or that gives one site too many
pub data WordFault : Type 0 where
  UsageAt : ℕ → WordFault
  TooManyAt : ℕ → WordFault

-- ---- site words

-- a letter, a digit or `_`
abbrev pub is_name_byte : ℕ → Bool
is_name_byte b = is_ascii_alphanumeric b || b == 95

-- a letter, then at most 31 letters, digits and `_`
abbrev pub is_site_name : List ℕ → Bool
is_site_name [] = false
is_site_name (b ∷ bs) = is_ascii_alphabetic b && list_all is_name_byte bs && nat_le (length bs) 31

-- a site word is NAME, `=` and PATH, cut at the first `=`
abbrev pub is_cut : ℕ → Bool
is_cut b = b == 61

abbrev pub name_part : List ℕ → List ℕ
name_part word = before_first is_cut word

abbrev pub path_part : List ℕ → List ℕ
path_part word = after_first is_cut word

-- it has an `=`, its name is well formed, and its path isn't empty
abbrev pub is_site_word : List ℕ → Bool
is_site_word word = nat_lt (position_or_len is_cut word) (length word) && is_site_name (name_part word) && not (length (path_part word) == 0)

-- so many sites at most
abbrev pub most_sites : ℕ
most_sites = 16

-- the first fault of these words, the first of which is word k, behind sites of these names: each is a site word with a name that wasn't
-- given before, and they aren't too many
abbrev pub bad_behind_sites : ℕ → List (List ℕ) → List (List ℕ) → Option WordFault
bad_behind_sites k names [] = None
bad_behind_sites k names (word ∷ words) =
    if is_site_word word && not (among (name_part word) names)
    then if length names == most_sites then Some (TooManyAt k) else bad_behind_sites (suc k) (names ++ name_part word ∷ []) words
    else Some (UsageAt k)

-- the first fault of the words from word k on, where the sites begin: there is one at least
abbrev pub bad_sites : ℕ → List (List ℕ) → Option WordFault
bad_sites k [] = Some (UsageAt k)
bad_sites k (word ∷ words) = bad_behind_sites k [] (word ∷ words)

-- ---- the options of `run`

abbrev pub is_turns : List ℕ → Bool
is_turns word = bytes_eq word (codes "--turns")

abbrev pub is_workers : List ℕ → Bool
is_workers word = bytes_eq word (codes "--workers")

abbrev pub is_journal : List ℕ → Bool
is_journal word = bytes_eq word (codes "--journal")

abbrev pub is_links : List ℕ → Bool
is_links word = bytes_eq word (codes "--links")

-- the turns that a word says
abbrev pub turns_in : List ℕ → Option ℕ
turns_in word = number_from 1 TURN_LIMIT word

-- the workers that a word says
abbrev pub workers_in : List ℕ → Option ℕ
workers_in word = number_from 1 WORKER_LIMIT word

abbrev pub no_options : RunOptions
no_options = record { turns = None; workers = None; journal = false; links = false }

-- what may stand next
pub data Expected : Type 0 where
  -- behind these options: an option that wasn't given yet, or the first site word
  OptionOrSite : RunOptions → Expected
  -- the word that an option takes, and the options that it then gives, if it can stand
  WordOfOption : (List ℕ → Option RunOptions) → Expected

abbrev pub with_turns : RunOptions → List ℕ → Option RunOptions
with_turns options word = elim (turns_in word) [ None ↦ None | Some turns ↦ Some (record options { turns = Some turns }) ]

abbrev pub with_workers : RunOptions → List ℕ → Option RunOptions
with_workers options word = elim (workers_in word) [ None ↦ None | Some workers ↦ Some (record options { workers = Some workers }) ]

-- what may stand behind this word, where it is an option that wasn't given yet; each option has a line
abbrev pub behind_option : RunOptions → List ℕ → Option Expected
behind_option options word =
    if is_turns word && is_none options.turns then Some (WordOfOption (with_turns options))
    else if is_workers word && is_none options.workers then Some (WordOfOption (with_workers options))
    else if is_journal word && not options.journal then Some (OptionOrSite (record options { journal = true }))
    else if is_links word && not options.links then Some (OptionOrSite (record options { links = true }))
    else None

-- what words behind `run` come to
pub data RunWords : Type 0 where
  -- these options and these words, the first of which is word k
  Sites : RunOptions → ℕ → List (List ℕ) → RunWords
  -- word k can't stand, or is missing
  BadAt : ℕ → RunWords

-- the words from word k on, from left to right
abbrev pub run_words : ℕ → Expected → List (List ℕ) → RunWords
run_words k (OptionOrSite options) [] = Sites options k []
run_words k (OptionOrSite options) (word ∷ words) = elim (behind_option options word) [ None ↦ Sites options k (word ∷ words) | Some expected ↦ run_words (suc k) expected words ]
run_words k (WordOfOption take) [] = BadAt k
run_words k (WordOfOption take) (word ∷ words) = elim (take word) [ None ↦ BadAt k | Some options ↦ run_words (suc k) (OptionOrSite options) words ]

-- the words behind `run`
abbrev pub behind_run : List (List ℕ) → RunWords
behind_run words = run_words 1 (OptionOrSite no_options) words

abbrev pub bad_in_run : RunWords → Option WordFault
bad_in_run (Sites options k words) = bad_sites k words
bad_in_run (BadAt k) = Some (UsageAt k)

abbrev pub options_in : RunWords → RunOptions
options_in (Sites options k words) = options
options_in (BadAt k) = no_options

abbrev pub sites_in : RunWords → List (List ℕ)
sites_in (Sites options k words) = words
sites_in (BadAt k) = []

-- ---- the option of `replay`

abbrev pub is_from : List ℕ → Bool
is_from word = bytes_eq word (codes "--from")

-- the first fault of the words behind `--from`: a path that isn't empty, and sites
abbrev pub bad_behind_from : List (List ℕ) → Option WordFault
bad_behind_from [] = Some (UsageAt 2)
bad_behind_from (path ∷ words) = if length path == 0 then Some (UsageAt 2) else bad_sites 3 words

-- the first fault of the words behind `replay`: `--from` stands first
abbrev pub bad_behind_replay : List (List ℕ) → Option WordFault
bad_behind_replay [] = Some (UsageAt 1)
bad_behind_replay (word ∷ words) = if is_from word then bad_behind_from words else Some (UsageAt 1)

abbrev pub path_from : List (List ℕ) → List ℕ
path_from (word ∷ path ∷ words) = path
path_from words = []

abbrev pub behind_path : List (List ℕ) → List (List ℕ)
behind_path (word ∷ path ∷ words) = words
behind_path words = []

-- ---- the whole line

-- the first fault of the words behind this command
abbrev pub bad_behind : List ℕ → List (List ℕ) → Option WordFault
bad_behind command words =
    if is_run command then bad_in_run (behind_run words)
    else if is_check command then bad_sites 1 words
    else if is_replay command then bad_behind_replay words
    else Some (UsageAt 0)

-- the first word that can't stand in its place; a missing word is the number of words
abbrev pub bad_word : List (List ℕ) → Option WordFault
bad_word [] = Some (UsageAt 0)
bad_word (command ∷ words) = bad_behind command words

-- what the options of `run` say; there are none behind another command
abbrev pub options_of : List (List ℕ) → RunOptions
options_of [] = no_options
options_of (command ∷ words) = if is_run command then options_in (behind_run words) else no_options

-- how many turns each thread has
abbrev pub turns_of : List (List ℕ) → ℕ
turns_of words = unwrap_or (options_of words).turns DEFAULT_TURNS

-- how many workers run the threads
abbrev pub workers_of : List (List ℕ) → ℕ
workers_of words = unwrap_or (options_of words).workers DEFAULT_WORKERS

-- whether the journal is printed, too
abbrev pub wants_journal : List (List ℕ) → Bool
wants_journal words = (options_of words).journal

-- whether the links are printed, too
abbrev pub wants_links : List (List ℕ) → Bool
wants_links words = (options_of words).links

-- the path of the journal that `replay` reads
abbrev pub journal_path : List (List ℕ) → List ℕ
journal_path [] = []
journal_path (command ∷ words) = if is_replay command then path_from words else []

-- the site words, behind the options
abbrev pub site_words : List (List ℕ) → List (List ℕ)
site_words [] = []
site_words (command ∷ words) =
    if is_run command then sites_in (behind_run words)
    else if is_check command then words
    else behind_path words
