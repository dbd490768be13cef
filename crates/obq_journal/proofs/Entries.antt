-- Entries that are read line by line.
use Rattle.std.proofs.Common.{Bool, Err, List, None, Ok, Result, Some, [], ap, arith, bytes_eq, length, false, refl, rules, suc, sym, true, true≢false, ℕ, ◌++◌, ◌∷◌, ◌≡◌, ◌≤◌, ◌+◌, ◌==◌, ◌∙◌}
use Rattle.std.specs.List.{slice_split}
use Rattle.std.proofs.lemmas.List.Splits.{length-slice_split}
use Rattle.obq_base.specs.declared.acts.Entry.{Entry}
use Rattle.obq_model.specs.JournalText.{ends_line, entries_in, entry_before, entry_in, first_words, journal_in, journal_of_parts, journal_with, turns_in}

-- entries that were read, before what the rest of the text gives
abbrev pub read_before : List Entry → Result (List Entry) ℕ → Result (List Entry) ℕ
read_before [] r = r
read_before (e ∷ es) r = entry_before e (read_before es r)

pub read_more : (es : List Entry) (e : Entry) (r : Result (List Entry) ℕ) → read_before (es ++ e ∷ []) r ≡ read_before es (entry_before e r)
read_more [] e r = refl
read_more (x ∷ es) e r = ap (entry_before x) (read_more es e r)

pub read_end : (es : List Entry) → read_before es (Ok []) ≡ Ok es
read_end [] = refl
read_end (e ∷ es) = ap (entry_before e) (read_end es)

pub read_bad : (es : List Entry) (k : ℕ) → read_before es (Err k) ≡ Err k
read_bad [] k = refl
read_bad (e ∷ es) k = ap (entry_before e) (read_bad es k)

-- the text behind a line has a part at least
step : (k : ℕ) (line : List ℕ) (parts : List (List ℕ)) → 1 ≤ length parts → entries_in k (line ∷ parts) ≡ elim (entry_in line) [ None ↦ Err k | Some e ↦ entry_before e (entries_in (suc k) parts) ]
step k line [] l = absurd (omega (arith, l))
step k [] (part ∷ parts) l = refl
step k (b ∷ bs) (part ∷ parts) l = refl

pub line_step : (k : ℕ) (line behind : List ℕ) → entries_in k (line ∷ slice_split ends_line behind) ≡ elim (entry_in line) [ None ↦ Err k | Some e ↦ entry_before e (entries_in (suc k) (slice_split ends_line behind)) ]
line_step k line behind = step k line (slice_split ends_line behind) (omega (arith, length-slice_split ends_line behind))

-- a line without its end
pub no_end : (k : ℕ) (rest : List ℕ) → (length rest == 0) ≡ false → slice_split ends_line rest ≡ rest ∷ [] → entries_in k (slice_split ends_line rest) ≡ Err k
no_end k [] l e = absurd (true≢false l)
no_end k (b ∷ bs) l e = ap (entries_in k) e

-- a line that is no entry's
pub bad_line : (k : ℕ) (rest line behind : List ℕ) → slice_split ends_line rest ≡ line ∷ slice_split ends_line behind → None ≡ entry_in line → entries_in k (slice_split ends_line rest) ≡ Err k
bad_line k rest line behind e none = ap (entries_in k) e ∙ (line_step k line behind ∙ ap (λ entry. elim entry [ None ↦ Err k | Some e ↦ entry_before e (entries_in (suc k) (slice_split ends_line behind)) ]) (sym none))

-- the line of an entry
pub good_line : (k : ℕ) (rest line behind : List ℕ) (e : Entry) → slice_split ends_line rest ≡ line ∷ slice_split ends_line behind → Some e ≡ entry_in line → entries_in k (slice_split ends_line rest) ≡ entry_before e (entries_in (k + 1) (slice_split ends_line behind))
good_line k rest line behind e is some = ap (entries_in k) is ∙ (line_step k line behind ∙ ap (λ entry. elim entry [ None ↦ Err k | Some e ↦ entry_before e (entries_in (suc k) (slice_split ends_line behind)) ]) (sym some) ∙ ap (λ n. entry_before e (entries_in n (slice_split ends_line behind))) (omega arith))

-- so the whole text's first bad line is k
pub bad_at : (turns k : ℕ) (es : List Entry) (r whole : Result (List Entry) ℕ) → read_before es r ≡ whole → r ≡ Err k → journal_with turns whole ≡ Err k
bad_at turns k es r whole so_far bad = ap (journal_with turns) (sym so_far ∙ (ap (read_before es) bad ∙ read_bad es k))

-- one entry more is read
pub one_more : (k : ℕ) (es new : List Entry) (e : Entry) (r behind whole : Result (List Entry) ℕ) → read_before es r ≡ whole → r ≡ entry_before e behind → new ≡ es ++ e ∷ [] → read_before new behind ≡ whole
one_more k es new e r behind whole so_far is grown = ap (λ es. read_before es behind) grown ∙ (read_more es e behind ∙ (ap (read_before es) (sym is) ∙ so_far))

-- the text is read to its end
pub all_read : (turns k : ℕ) (es : List Entry) (rest : List ℕ) (whole : Result (List Entry) ℕ) → read_before es (entries_in k (slice_split ends_line rest)) ≡ whole → length rest ≡ 0 → journal_with turns whole ≡ Ok (record { turns = turns; entries = es })
all_read turns k es [] whole so_far none = ap (journal_with turns) (sym so_far ∙ read_end es)
all_read turns k es (b ∷ bs) whole so_far none = absurd (omega (arith, none))

-- the first two lines are as they must be
of_lines : (first second : List ℕ) (parts : List (List ℕ)) (turns : ℕ) → 1 ≤ length parts → bytes_eq first first_words ≡ true → Some turns ≡ turns_in second → journal_of_parts (first ∷ second ∷ parts) ≡ journal_with turns (entries_in 3 parts)
of_lines first second [] turns l is some = absurd (omega (arith, l))
of_lines first second (part ∷ parts) turns l is some = search (rules, is, sym some)

pub behind_two : (text first behind second rest : List ℕ) (turns : ℕ) → slice_split ends_line text ≡ first ∷ slice_split ends_line behind → bytes_eq first first_words ≡ true → slice_split ends_line behind ≡ second ∷ slice_split ends_line rest → Some turns ≡ turns_in second → journal_in text ≡ journal_with turns (entries_in 3 (slice_split ends_line rest))
behind_two text first behind second rest turns one is two some =
    ap journal_of_parts (one ∙ ap (λ parts. first ∷ parts) two) ∙ of_lines first second (slice_split ends_line rest) turns (omega (arith, length-slice_split ends_line rest)) is some
