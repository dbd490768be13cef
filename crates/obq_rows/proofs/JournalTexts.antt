-- The text of a journal, both ways, and the first bad line of texts that aren't so.
use Rattle.std.specs.Prelude.{Err, List, None, Ok, Result, Some, [], codes, refl, ℕ, ◌++◌, ◌∷◌, ◌≡◌}
use Rattle.std.specs.Fmt.{digits}
use Rattle.obq_base.specs.declared.acts.ActKind.{ActKind}
use Rattle.obq_base.specs.declared.acts.Entry.{Entry}
use Rattle.obq_model.specs.Config.{act}
use Rattle.obq_model.specs.Journal.{Journal}
use Rattle.obq_model.specs.Located.{Sent}
use Rattle.obq_model.specs.JournalText.{act_kinds, journal_in, journal_text}
use Rattle.obq_model.specs.Output.{bad_journal_line, journal_heading, journal_too_long_line, links_text, newline, not_legal_line, unfinished_line}
use Rattle.obq_rows.specs.Schedule.{entry}

-- each line with its end
abbrev lines : List (List ℕ) → List ℕ
lines [] = []
lines (line ∷ more) = line ++ (newline ++ lines more)

abbrev hello_journal : Journal
hello_journal = record { turns = 100000; entries = entry 0 0 (Some (act ActKind.Put 0)) ∷ entry 0 0 (Some (act ActKind.End 0)) ∷ [] }

abbrev hello_lines : List (List ℕ)
hello_lines = codes "obliq-journal 1" ∷ codes "turns 100000" ∷ codes "0 0 Put 0" ∷ codes "0 0 End 0" ∷ []

hello_is_written : journal_text hello_journal ≡ lines hello_lines
unfolding digits
hello_is_written = refl

hello_is_read : journal_in (lines hello_lines) ≡ Ok hello_journal
hello_is_read = refl

-- an entry of each kind of act
abbrev each_kind : List ActKind → List Entry
each_kind [] = []
each_kind (kind ∷ kinds) = entry 63 1000000 (Some (act kind 18446744073709551615)) ∷ each_kind kinds

abbrev every_kind : Journal
every_kind = record { turns = 1; entries = entry 0 1 None ∷ each_kind act_kinds }

every_kind_is_read_again : journal_in (journal_text every_kind) ≡ Ok every_kind
unfolding digits
every_kind_is_read_again = refl

-- what follows the first two lines is the third
abbrev third : List ℕ → Result Journal ℕ
third line = journal_in (lines (codes "obliq-journal 1" ∷ codes "turns 7" ∷ line ∷ []))

nothing_is_read : journal_in [] ≡ Err 1
nothing_is_read = refl

no_second_line : journal_in (lines (codes "obliq-journal 1" ∷ [])) ≡ Err 2
no_second_line = refl

no_entries : journal_in (lines (codes "obliq-journal 1" ∷ codes "turns 1000000" ∷ [])) ≡ Ok (record { turns = 1000000; entries = [] })
no_entries = refl

too_many_turns : journal_in (lines (codes "obliq-journal 1" ∷ codes "turns 1000001" ∷ [])) ≡ Err 2
too_many_turns = refl

no_turns : journal_in (lines (codes "obliq-journal 1" ∷ codes "turns 0" ∷ [])) ≡ Err 2
no_turns = refl

another_version : journal_in (lines (codes "obliq-journal 2" ∷ codes "turns 7" ∷ [])) ≡ Err 1
another_version = refl

a_line_without_its_end : journal_in (codes "obliq-journal 1" ++ (newline ++ codes "turns 7")) ≡ Err 2
a_line_without_its_end = refl

an_entry_without_its_end : journal_in (lines (codes "obliq-journal 1" ∷ codes "turns 7" ∷ []) ++ codes "0 0 End 0") ≡ Err 3
an_entry_without_its_end = refl

a_line_that_was_cut : journal_in (lines (codes "obliq-journal 1" ∷ codes "turns 100000" ∷ codes "0 0 Put 0" ∷ codes "0 0 En" ∷ [])) ≡ Err 4
a_line_that_was_cut = refl

an_empty_line : third [] ≡ Err 3
an_empty_line = refl

no_steps_and_no_act : third (codes "0 0 -") ≡ Err 3
no_steps_and_no_act = refl

a_leading_zero : third (codes "0 01 -") ≡ Err 3
a_leading_zero = refl

two_spaces : third (codes "0  1 -") ≡ Err 3
two_spaces = refl

a_space_at_the_end : third (codes "0 1 - ") ≡ Err 3
a_space_at_the_end = refl

a_64th_thread : third (codes "64 1 -") ≡ Err 3
a_64th_thread = refl

too_many_steps : third (codes "0 1000001 -") ≡ Err 3
too_many_steps = refl

a_location_of_65_bits : third (codes "0 0 Get 18446744073709551616") ≡ Err 3
a_location_of_65_bits = refl

no_such_kind : third (codes "0 0 get 0") ≡ Err 3
no_such_kind = refl

an_act_without_location : third (codes "0 1 Get") ≡ Err 3
an_act_without_location = refl

a_location_without_act : third (codes "0 1 - 0") ≡ Err 3
a_location_without_act = refl

a_carriage_return : third (codes "0 1 -" ++ 13 ∷ []) ≡ Err 3
a_carriage_return = refl

-- ---- the lines about links and journals

the_table_of_links : links_text (codes "A" ∷ codes "B" ∷ []) (Sent 0 1 3 1 ∷ Sent 0 2 1 0 ∷ Sent 2 1 0 12 ∷ [])
    ≡ lines (codes "== links ==" ∷ codes "A -> B requests 3 replies 1" ∷ codes "A -> * requests 1 replies 0" ∷ codes "* -> B requests 0 replies 12" ∷ [])
unfolding digits
the_table_of_links = refl

the_heading_of_a_journal : journal_heading ≡ lines (codes "== journal ==" ∷ [])
the_heading_of_a_journal = refl

the_lines_that_refuse_a_journal : journal_too_long_line ++ (bad_journal_line 4 ++ (not_legal_line 0 ++ unfinished_line 63))
    ≡ lines (codes "journal too long" ∷ codes "journal line 4" ∷ codes "journal entry 0 not legal" ∷ codes "journal stops before thread 63" ∷ [])
unfolding digits
the_lines_that_refuse_a_journal = refl
