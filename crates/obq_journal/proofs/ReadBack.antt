-- A journal comes back from its text.
use Rattle.std.proofs.Common.{Bool, Err, List, None, Ok, Option, Result, Some, [], ap, arith, bytes_eq, codes, decimal, false, get_or, length, nat_le, not, refl, rules, suc, sym, true, zero, ℕ, ◌&&◌, ◌++◌, ◌<◌, ◌==◌, ◌^◌, ◌∙◌, ◌∷◌, ◌≡◌, ◌≤◌}
use Rattle.std.specs.Char.{is_ascii_digit}
use Rattle.std.specs.List.{flat_map, list_all, slice_split}
use Rattle.std.specs.Str.Parse.{AllDigits, IsNumeral, digits_value}
use Rattle.std.proofs.lemmas.Fmt.{decimal_digit, decimal_is_IsNumeral, first_decimal}
use Rattle.std.proofs.lemmas.List.{append_assoc}
use Rattle.obq_base.specs.declared.acts.Act.{Act}
use Rattle.obq_base.specs.declared.acts.ActKind.{ActKind}
use Rattle.obq_base.specs.declared.acts.Entry.{Entry}
use Rattle.obq_model.specs.Journal.{Journal}
use Rattle.obq_model.specs.JournalText.{AreInRange, InActRange, InRange, IsWritable, act_with, act_words, ends_line, entries_in, entry_before, entry_in, entry_line, entry_of_words, entry_with, entry_words, first_words, is_number, is_space, journal_behind, journal_in, journal_of_parts, journal_text, journal_with, kind_name, kind_named, no_act, number_from, turns_in, turns_of_words, turns_word}
use Rattle.obq_model.specs.Output.{newline}
use Rattle.obq_journal.proofs.Entries.{behind_two, line_step}
use Rattle.obq_journal.proofs.Numbers.{numerals}
use Rattle.obq_journal.proofs.Parts.{digit_no_end, digit_no_space, none_append, none_of, none_of_digits, split_here, split_whole}

-- ---- numbers

-- digits, of which the first is no zero or the only one
is_number_of : (ds : List ℕ) → list_all is_ascii_digit ds ≡ true → 0 < length ds → (get_or ds 0 0 ≡ 48 → length ds ≡ 1) → is_number ds ≡ true
is_number_of [] digits some first = absurd (omega (arith, some))
is_number_of (d ∷ []) digits some first = search (rules, digits)
is_number_of (d ∷ e ∷ ds) digits some first = search (rules, digits, not_zero) where
  not_zero : (d == 48) ≡ false
  not_zero = search (rules, first)

decimal_digits : (n : ℕ) → n < 2 ^ 64 → AllDigits 10 (decimal n)
decimal_digits n small = search (rules, (decimal_is_IsNumeral n small).0)

decimal_some : (n : ℕ) → n < 2 ^ 64 → 0 < length (decimal n)
decimal_some n small = search (rules, arith, (decimal_is_IsNumeral n small).0)

-- the only decimal with a zero in front is that of 0
decimal_first : (n : ℕ) → n < 2 ^ 64 → get_or (decimal n) 0 0 ≡ 48 → length (decimal n) ≡ 1
decimal_first zero small e = ap length (decimal_digit 0 (omega arith))
decimal_first (suc n) small e = absurd (omega (arith, first_decimal (suc n) (omega arith) small, e))

decimal_number : (n : ℕ) → n < 2 ^ 64 → is_number (decimal n) ≡ true
decimal_number n small = is_number_of (decimal n) (numerals.from (decimal n) (decimal_digits n small)) (decimal_some n small) (decimal_first n small)

number_back : (least most n : ℕ) → least ≤ n → n ≤ most → most < 2 ^ 64 → number_from least most (decimal n) ≡ Some n
number_back least most n low high small =
    let value : digits_value 10 (decimal n) ≡ n = (decimal_is_IsNumeral n (omega (arith, high, small))).1 in
    let is : is_number (decimal n) ≡ true = decimal_number n (omega (arith, high, small)) in
    search (rules, value, is, low, high)

decimal_no_space : (n : ℕ) → n < 2 ^ 64 → none_of is_space (decimal n) ≡ true
decimal_no_space n small = none_of_digits is_space (decimal n) digit_no_space (decimal_digits n small)

decimal_no_end : (n : ℕ) → n < 2 ^ 64 → none_of ends_line (decimal n) ≡ true
decimal_no_end n small = none_of_digits ends_line (decimal n) digit_no_end (decimal_digits n small)

-- ---- names of acts

name_back : (kind : ActKind) → kind_named (kind_name kind) ≡ Some kind
name_back ActKind.New = refl
name_back ActKind.Get = refl
name_back ActKind.Call = refl
name_back ActKind.Leave = refl
name_back ActKind.Hop = refl
name_back ActKind.Set = refl
name_back ActKind.Copy = refl
name_back ActKind.Redirect = refl
name_back ActKind.ArrayGet = refl
name_back ActKind.ArraySet = refl
name_back ActKind.VarGet = refl
name_back ActKind.VarSet = refl
name_back ActKind.Put = refl
name_back ActKind.Fork = refl
name_back ActKind.Join = refl
name_back ActKind.Line = refl
name_back ActKind.GiveUp = refl
name_back ActKind.Again = refl
name_back ActKind.Signal = refl
name_back ActKind.Broadcast = refl
name_back ActKind.Export = refl
name_back ActKind.Import = refl
name_back ActKind.Engine = refl
name_back ActKind.End = refl

name_no_space : (kind : ActKind) → none_of is_space (kind_name kind) ≡ true
name_no_space ActKind.New = refl
name_no_space ActKind.Get = refl
name_no_space ActKind.Call = refl
name_no_space ActKind.Leave = refl
name_no_space ActKind.Hop = refl
name_no_space ActKind.Set = refl
name_no_space ActKind.Copy = refl
name_no_space ActKind.Redirect = refl
name_no_space ActKind.ArrayGet = refl
name_no_space ActKind.ArraySet = refl
name_no_space ActKind.VarGet = refl
name_no_space ActKind.VarSet = refl
name_no_space ActKind.Put = refl
name_no_space ActKind.Fork = refl
name_no_space ActKind.Join = refl
name_no_space ActKind.Line = refl
name_no_space ActKind.GiveUp = refl
name_no_space ActKind.Again = refl
name_no_space ActKind.Signal = refl
name_no_space ActKind.Broadcast = refl
name_no_space ActKind.Export = refl
name_no_space ActKind.Import = refl
name_no_space ActKind.Engine = refl
name_no_space ActKind.End = refl

name_no_end : (kind : ActKind) → none_of ends_line (kind_name kind) ≡ true
name_no_end ActKind.New = refl
name_no_end ActKind.Get = refl
name_no_end ActKind.Call = refl
name_no_end ActKind.Leave = refl
name_no_end ActKind.Hop = refl
name_no_end ActKind.Set = refl
name_no_end ActKind.Copy = refl
name_no_end ActKind.Redirect = refl
name_no_end ActKind.ArrayGet = refl
name_no_end ActKind.ArraySet = refl
name_no_end ActKind.VarGet = refl
name_no_end ActKind.VarSet = refl
name_no_end ActKind.Put = refl
name_no_end ActKind.Fork = refl
name_no_end ActKind.Join = refl
name_no_end ActKind.Line = refl
name_no_end ActKind.GiveUp = refl
name_no_end ActKind.Again = refl
name_no_end ActKind.Signal = refl
name_no_end ActKind.Broadcast = refl
name_no_end ActKind.Export = refl
name_no_end ActKind.Import = refl
name_no_end ActKind.Engine = refl
name_no_end ActKind.End = refl

-- ---- lines

-- the words of an entry, its act's in place
words_of : (t n : ℕ) (act : List ℕ) → t < 2 ^ 64 → n < 2 ^ 64 → slice_split is_space (decimal t ++ (codes " " ++ (decimal n ++ (codes " " ++ act)))) ≡ decimal t ∷ decimal n ∷ slice_split is_space act
words_of t n act small few =
    split_here is_space (decimal t) 32 (decimal n ++ (codes " " ++ act)) (decimal_no_space t small) refl
    ∙ ap (λ ws. decimal t ∷ ws) (split_here is_space (decimal n) 32 act (decimal_no_space n few) refl)

pub entry_back : (e : Entry) → InRange e → entry_in (entry_words e) ≡ Some e
entry_back e h = by_act e.act h.2 where
  by_act : (act : Option Act) → InActRange e.pure act → entry_in (entry_words (record { thread = e.thread; pure = e.pure; act = act })) ≡ Some (record { thread = e.thread; pure = e.pure; act = act })
  by_act None some =
      ap entry_of_words (words_of e.thread e.pure (codes "-") (omega (arith, h.0)) (omega (arith, h.1)))
      ∙ (ap (λ t. entry_with t (number_from 1 1000000 (decimal e.pure)) (Some None)) (number_back 0 63 e.thread (omega arith) h.0 (omega arith))
      ∙ ap (λ n. entry_with (Some e.thread) n (Some None)) (number_back 1 1000000 e.pure some h.1 (omega arith)))
  by_act (Some a) within =
      let act : slice_split is_space (act_words (Some a)) ≡ kind_name a.kind ∷ decimal a.loc ∷ [] =
      split_here is_space (kind_name a.kind) 32 (decimal a.loc) (name_no_space a.kind) refl ∙ ap (λ ws. kind_name a.kind ∷ ws) (split_whole is_space (decimal a.loc) (decimal_no_space a.loc (omega (arith, within)))) in
      ap entry_of_words (words_of e.thread e.pure (act_words (Some a)) (omega (arith, h.0)) (omega (arith, h.1)) ∙ ap (λ ws. decimal e.thread ∷ decimal e.pure ∷ ws) act)
      ∙ (ap (λ t. entry_with t (number_from 0 1000000 (decimal e.pure)) (act_with (kind_named (kind_name a.kind)) (number_from 0 18446744073709551615 (decimal a.loc)))) (number_back 0 63 e.thread (omega arith) h.0 (omega arith))
      ∙ (ap (λ n. entry_with (Some e.thread) n (act_with (kind_named (kind_name a.kind)) (number_from 0 18446744073709551615 (decimal a.loc)))) (number_back 0 1000000 e.pure (omega arith) h.1 (omega arith))
      ∙ (ap (λ kind. entry_with (Some e.thread) (Some e.pure) (act_with kind (number_from 0 18446744073709551615 (decimal a.loc)))) (name_back a.kind)
      ∙ ap (λ loc. entry_with (Some e.thread) (Some e.pure) (act_with (Some a.kind) loc)) (number_back 0 18446744073709551615 a.loc (omega arith) within (omega arith)))))

act_no_end : (pure : ℕ) (act : Option Act) → InActRange pure act → none_of ends_line (act_words act) ≡ true
act_no_end pure None h = refl
act_no_end pure (Some a) h = none_append ends_line (kind_name a.kind) (codes " " ++ decimal a.loc) (name_no_end a.kind) (none_append ends_line (codes " ") (decimal a.loc) refl (decimal_no_end a.loc (omega (arith, h))))

words_no_end : (e : Entry) → InRange e → none_of ends_line (entry_words e) ≡ true
words_no_end e h =
    none_append ends_line (decimal e.thread) (codes " " ++ (decimal e.pure ++ (codes " " ++ act_words e.act))) (decimal_no_end e.thread (omega (arith, h.0)))
    (none_append ends_line (codes " ") (decimal e.pure ++ (codes " " ++ act_words e.act)) refl
    (none_append ends_line (decimal e.pure) (codes " " ++ act_words e.act) (decimal_no_end e.pure (omega (arith, h.1)))
    (none_append ends_line (codes " ") (act_words e.act) refl (act_no_end e.pure e.act h.2))))

pub entries_back : (k : ℕ) (es : List Entry) → AreInRange es → entries_in k (slice_split ends_line (flat_map entry_line es)) ≡ Ok es
entries_back k [] h = refl
entries_back k (e ∷ es) h =
    ap (λ text. entries_in k (slice_split ends_line text)) (append_assoc (entry_words e) newline (flat_map entry_line es))
    ∙ (ap (entries_in k) (split_here ends_line (entry_words e) 10 (flat_map entry_line es) (words_no_end e h.0) refl)
    ∙ (line_step k (entry_words e) (flat_map entry_line es)
    ∙ (ap (λ entry. elim entry [ None ↦ Err k | Some e ↦ entry_before e (entries_in (suc k) (slice_split ends_line (flat_map entry_line es))) ]) (entry_back e h.0)
    ∙ ap (entry_before e) (entries_back (suc k) es h.1))))

-- ---- the whole

turns_back : (turns : ℕ) → 1 ≤ turns → turns ≤ 1000000 → turns_in (turns_word ++ (codes " " ++ decimal turns)) ≡ Some turns
turns_back turns low high =
    ap turns_of_words (split_here is_space turns_word 32 (decimal turns) refl refl ∙ ap (λ ws. turns_word ∷ ws) (split_whole is_space (decimal turns) (decimal_no_space turns (omega (arith, high)))))
    ∙ number_back 1 1000000 turns low high (omega arith)

pub written_is_read : (j : Journal) → IsWritable j → journal_in (journal_text j) ≡ Ok j
written_is_read j h =
    let second = turns_word ++ (codes " " ++ decimal j.turns) in
    let rest = flat_map entry_line j.entries in
    let one : slice_split ends_line (journal_text j) ≡ first_words ∷ slice_split ends_line (second ++ 10 ∷ rest) = split_here ends_line first_words 10 (second ++ 10 ∷ rest) refl refl in
    let no_end : none_of ends_line second ≡ true = none_append ends_line (codes "turns ") (decimal j.turns) refl (decimal_no_end j.turns (omega (arith, h.1))) in
    let two : slice_split ends_line (second ++ 10 ∷ rest) ≡ second ∷ slice_split ends_line rest = split_here ends_line second 10 rest no_end refl in
    behind_two (journal_text j) first_words (second ++ 10 ∷ rest) second rest j.turns one refl two (sym (turns_back j.turns h.0 h.1)) ∙ ap (journal_with j.turns) (entries_back 3 j.entries h.2)
