-- The words of the command line as bytes, and their sites.
use Rattle.std.specs.Prelude.{Err, List, None, Ok, Option, Result, Some, String, Vec, bytes_eq, false, length, map, true, ℕ, ◌≡◌, ◌≤◌}
use Rattle.std.specs.List.{IsDistinct, list_all}
use Rattle.std.specs.declared.alloc.Global.{Global}
use Rattle.std.specs.String.{string_bytes}
use Rattle.obq_words.specs.CommandLine.{BadAt, RunWords, Sites, TooManyAt, UsageAt, WordFault, bad_sites, bad_word, is_checking, is_replaying, is_site_name, journal_path, name_part, path_part, site_words, turns_of, wants_journal, wants_links, workers_of}
use Rattle.obq_words.specs.declared.options.OptionsRead.{OptionsRead}
use Rattle.obq_words.specs.declared.words.Order.{Order}
use Rattle.obq_words.specs.declared.words.Order.TheVariants.{Check, Replay, Run}
use Rattle.obq_words.specs.declared.words.SiteWord.{SiteWord}
use Rattle.obq_words.specs.declared.words.WordsRefused.{WordsRefused}
use Rattle.obq_words.specs.declared.words.WordsRefused.TheVariants.{NoMemory, TooManySites, Usage}

abbrev pub bytes_of : List (String Global) → List (List ℕ)
bytes_of words = map string_bytes words

abbrev pub names_of : List SiteWord → List (List ℕ)
names_of sites = map (λ s. s.name) sites

abbrev pub paths_of : List SiteWord → List (List ℕ)
paths_of sites = map (λ s. string_bytes s.path) sites

-- the names that site words begin with
abbrev pub names_in : List (List ℕ) → List (List ℕ)
names_in words = map name_part words

-- the paths that stand behind them
abbrev pub paths_in : List (List ℕ) → List (List ℕ)
paths_in words = map path_part words

-- the names and paths that a command line gives
abbrev pub given_names : List (List ℕ) → List (List ℕ)
given_names words = names_in (site_words words)

abbrev pub given_paths : List (List ℕ) → List (List ℕ)
given_paths words = paths_in (site_words words)

-- these are the sites of the words
pub record AreSites (words : List (List ℕ)) (sites : List SiteWord) : Type 0 where
  pub names : names_of sites ≡ given_names words
  pub paths : paths_of sites ≡ given_paths words

-- sites as a command line gives them: 1 to 16, each name well formed, and no two equal
pub record AreInForm (sites : List SiteWord) : Type 0 where
  pub some : 1 ≤ length sites
  pub most : length sites ≤ 16
  pub named : list_all is_site_name (names_of sites) ≡ true
  pub different : IsDistinct bytes_eq (names_of sites)

-- a refusal that tells this fault, or memory was wanting where there is none
abbrev pub Tells : Option WordFault → WordsRefused → Type 0
Tells fault (Usage word) = fault ≡ Some (UsageAt word)
Tells fault (TooManySites word) = fault ≡ Some (TooManyAt word)
Tells fault NoMemory = fault ≡ None

-- a refusal that tells this fault, and not that memory was wanting
abbrev pub TellsWord : Option WordFault → WordsRefused → Type 0
TellsWord fault (Usage word) = fault ≡ Some (UsageAt word)
TellsWord fault (TooManySites word) = fault ≡ Some (TooManyAt word)
TellsWord fault NoMemory = ⊥

-- the sites of words that begin at word k, or the first that can't stand
abbrev pub GivesSites : ℕ → List (List ℕ) → Result (Vec SiteWord Global) WordsRefused → Type 0
GivesSites k words (Ok sites) = (bad_sites k words ≡ None) × (names_of sites.items ≡ names_in words) × (paths_of sites.items ≡ paths_in words)
GivesSites k words (Err refused) = Tells (bad_sites k words) refused

-- what the words behind `run` come to: the options and the words behind them, or the word that can't stand
abbrev pub ReadsOptions : RunWords → Result OptionsRead ℕ → Type 0
ReadsOptions words (Ok read) = words ≡ Sites read.options read.place (bytes_of read.words.now)
ReadsOptions words (Err word) = words ≡ BadAt word

-- what reading the words answers: the command with what stood behind it, or exactly the first word that can't stand
abbrev pub Answers : List (List ℕ) → Result Order WordsRefused → Type 0
Answers words (Ok (Run turns workers journal links sites)) =
    (bad_word words ≡ None) × (is_checking words ≡ false) × (is_replaying words ≡ false) × (turns ≡ turns_of words)
    × (workers ≡ workers_of words) × (1 ≤ workers) × (workers ≤ 16) × (journal ≡ wants_journal words) × (links ≡ wants_links words)
    × AreSites words sites.items
Answers words (Ok (Check sites)) = (bad_word words ≡ None) × (is_checking words ≡ true) × AreSites words sites.items × (is_replaying words ≡ false)
Answers words (Ok (Replay from sites)) =
    (bad_word words ≡ None) × (is_checking words ≡ false) × (is_replaying words ≡ true) × (string_bytes from ≡ journal_path words)
    × AreSites words sites.items
Answers words (Err refused) = Tells (bad_word words) refused
