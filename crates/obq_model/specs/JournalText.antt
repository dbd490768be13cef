-- The text of a journal, both ways: how a journal is written, and how a text is read, up to the first bad line.
use Rattle.std.specs.Prelude.{Bool, Err, List, None, Ok, Option, Result, Some, [], bytes_eq, codes, false, if◌then◌else◌, nat_le, not, suc, ℕ, ◌&&◌, ◌++◌, ◌==◌, ◌∷◌, ◌≤◌}
use Rattle.std.specs.List.{flat_map, list_all, slice_split}
use Rattle.std.specs.Char.{is_ascii_digit}
use Rattle.std.specs.Fmt.{decimal}
use Rattle.std.specs.Str.Parse.{digits_value}
use Rattle.obq_base.specs.declared.acts.ActKind.{ActKind}
use Rattle.obq_base.specs.declared.acts.Act.{Act}
use Rattle.obq_base.specs.declared.acts.Entry.{Entry}
use Rattle.obq_model.specs.Journal.{Journal}
use Rattle.obq_model.specs.Output.{newline}

-- ---- writing

-- the name of a kind of act
abbrev pub kind_name : ActKind → List ℕ
kind_name ActKind.New = codes "New"
kind_name ActKind.Get = codes "Get"
kind_name ActKind.Call = codes "Call"
kind_name ActKind.Leave = codes "Leave"
kind_name ActKind.Hop = codes "Hop"
kind_name ActKind.Set = codes "Set"
kind_name ActKind.Copy = codes "Copy"
kind_name ActKind.Redirect = codes "Redirect"
kind_name ActKind.ArrayGet = codes "ArrayGet"
kind_name ActKind.ArraySet = codes "ArraySet"
kind_name ActKind.VarGet = codes "VarGet"
kind_name ActKind.VarSet = codes "VarSet"
kind_name ActKind.Put = codes "Put"
kind_name ActKind.Fork = codes "Fork"
kind_name ActKind.Join = codes "Join"
kind_name ActKind.Line = codes "Line"
kind_name ActKind.GiveUp = codes "GiveUp"
kind_name ActKind.Again = codes "Again"
kind_name ActKind.Signal = codes "Signal"
kind_name ActKind.Broadcast = codes "Broadcast"
kind_name ActKind.Export = codes "Export"
kind_name ActKind.Import = codes "Import"
kind_name ActKind.Engine = codes "Engine"
kind_name ActKind.End = codes "End"

-- an act with its location, or `-` where there is none
abbrev pub act_words : Option Act → List ℕ
act_words None = codes "-"
act_words (Some a) = kind_name a.kind ++ (codes " " ++ decimal a.loc)

-- the line of an entry without its end
abbrev pub entry_words : Entry → List ℕ
entry_words e = decimal e.thread ++ (codes " " ++ (decimal e.pure ++ (codes " " ++ act_words e.act)))

-- the line of an entry
abbrev pub entry_line : Entry → List ℕ
entry_line e = entry_words e ++ newline

-- the first line without its end
abbrev pub first_words : List ℕ
first_words = codes "obliq-journal 1"

-- what stands before the turn limit
abbrev pub turns_word : List ℕ
turns_word = codes "turns"

-- the text of a journal
abbrev pub journal_text : Journal → List ℕ
journal_text j = first_words ++ (newline ++ (turns_word ++ (codes " " ++ (decimal j.turns ++ (newline ++ flat_map entry_line j.entries)))))

-- ---- ranges

-- an act's location is a number of 64 bits; an entry without act has a pure step
abbrev pub InActRange : ℕ → Option Act → Type 0
InActRange pure None = 1 ≤ pure
InActRange pure (Some a) = a.loc ≤ 18446744073709551615

-- the entry's numbers are those that a line can have
abbrev pub InRange : Entry → Type 0
InRange e = (e.thread ≤ 63) × (e.pure ≤ 1000000) × InActRange e.pure e.act

-- so of all entries
abbrev pub AreInRange : List Entry → Type 0
AreInRange [] = Unit {0}
AreInRange (e ∷ es) = InRange e × AreInRange es

-- the journal has a text that is read
abbrev pub IsWritable : Journal → Type 0
IsWritable j = (1 ≤ j.turns) × (j.turns ≤ 1000000) × AreInRange j.entries

-- ---- reading

-- digits without a leading zero
abbrev pub is_number : List ℕ → Bool
is_number [] = false
is_number (d ∷ []) = is_ascii_digit d
is_number (d ∷ ds) = not (d == 48) && list_all is_ascii_digit (d ∷ ds)

-- a decimal number within these bounds
abbrev pub number_from : (least : ℕ) → (most : ℕ) → List ℕ → Option ℕ
number_from least most ds =
    if is_number ds && (nat_le least (digits_value 10 ds) && nat_le (digits_value 10 ds) most) then Some (digits_value 10 ds) else None

-- the kinds of acts
abbrev pub act_kinds : List ActKind
act_kinds =
    ActKind.New ∷ ActKind.Get ∷ ActKind.Call ∷ ActKind.Leave ∷ ActKind.Hop ∷ ActKind.Set ∷ ActKind.Copy ∷ ActKind.Redirect ∷ ActKind.ArrayGet ∷ ActKind.ArraySet ∷ ActKind.VarGet ∷ ActKind.VarSet
    ∷ ActKind.Put ∷ ActKind.Fork ∷ ActKind.Join ∷ ActKind.Line ∷ ActKind.GiveUp ∷ ActKind.Again ∷ ActKind.Signal ∷ ActKind.Broadcast ∷ ActKind.Export ∷ ActKind.Import ∷ ActKind.Engine ∷ ActKind.End ∷ []

-- the one of these kinds that has this name
abbrev pub kind_among : List ActKind → List ℕ → Option ActKind
kind_among [] word = None
kind_among (kind ∷ kinds) word = if bytes_eq word (kind_name kind) then Some kind else kind_among kinds word

-- the kind of act that has this name
abbrev pub kind_named : List ℕ → Option ActKind
kind_named word = kind_among act_kinds word

-- the entry of these numbers and this act, if all are there
abbrev pub entry_with : Option ℕ → Option ℕ → Option (Option Act) → Option Entry
entry_with (Some t) (Some n) (Some a) = Some (record { thread = t; pure = n; act = a })
entry_with t n a = None

-- the act of this kind and location, if both are there
abbrev pub act_with : Option ActKind → Option ℕ → Option (Option Act)
act_with (Some kind) (Some loc) = Some (Some (record { kind = kind; loc = loc }))
act_with kind loc = None

-- `-`: no act
abbrev pub no_act : List ℕ → Option (Option Act)
no_act word = if bytes_eq word (codes "-") then Some None else None

-- the entry of a line's words
abbrev pub entry_of_words : List (List ℕ) → Option Entry
entry_of_words (t ∷ n ∷ a ∷ []) = entry_with (number_from 0 63 t) (number_from 1 1000000 n) (no_act a)
entry_of_words (t ∷ n ∷ kind ∷ loc ∷ []) = entry_with (number_from 0 63 t) (number_from 0 1000000 n) (act_with (kind_named kind) (number_from 0 18446744073709551615 loc))
entry_of_words words = None

-- one space stands between words
abbrev pub is_space : ℕ → Bool
is_space b = b == 32

-- the entry of a line without its end
abbrev pub entry_in : List ℕ → Option Entry
entry_in line = entry_of_words (slice_split is_space line)

-- the turn limit of a line's words
abbrev pub turns_of_words : List (List ℕ) → Option ℕ
turns_of_words (word ∷ n ∷ []) = if bytes_eq word turns_word then number_from 1 1000000 n else None
turns_of_words words = None

-- the turn limit of a line without its end
abbrev pub turns_in : List ℕ → Option ℕ
turns_in line = turns_of_words (slice_split is_space line)

-- an entry before others, or their first bad line
abbrev pub entry_before : Entry → Result (List Entry) ℕ → Result (List Entry) ℕ
entry_before e (Ok es) = Ok (e ∷ es)
entry_before e (Err k) = Err k

-- the entries of these parts of a text, of which the first is line k and the last stands behind the end of the last line; or the first bad line
abbrev pub entries_in : ℕ → List (List ℕ) → Result (List Entry) ℕ
entries_in k [] = Ok []
entries_in k ([] ∷ []) = Ok []
entries_in k (line ∷ []) = Err k
entries_in k (line ∷ part ∷ parts) = elim (entry_in line) [ None ↦ Err k | Some e ↦ entry_before e (entries_in (suc k) (part ∷ parts)) ]

-- the journal with this turn limit and these entries, or their first bad line
abbrev pub journal_with : ℕ → Result (List Entry) ℕ → Result Journal ℕ
journal_with turns (Ok es) = Ok (record { turns = turns; entries = es })
journal_with turns (Err k) = Err k

-- the journal of the parts behind the first line, or the first bad line
abbrev pub journal_behind : List (List ℕ) → Result Journal ℕ
journal_behind (line ∷ part ∷ parts) = elim (turns_in line) [ None ↦ Err 2 | Some turns ↦ journal_with turns (entries_in 3 (part ∷ parts)) ]
journal_behind parts = Err 2

-- the journal of the parts of a text, or the first bad line
abbrev pub journal_of_parts : List (List ℕ) → Result Journal ℕ
journal_of_parts (line ∷ part ∷ parts) = if bytes_eq line first_words then journal_behind (part ∷ parts) else Err 1
journal_of_parts parts = Err 1

-- byte 10 ends a line
abbrev pub ends_line : ℕ → Bool
ends_line b = b == 10

-- the journal of a text, or its first bad line, from 1; a line without its end and a missing line 1 or 2 are bad
abbrev pub journal_in : List ℕ → Result Journal ℕ
journal_in text = journal_of_parts (slice_split ends_line text)
