-- The texts that a call writes: the output of a run, the lines of accepted sources, and the lines that tell a refusal.
use Rattle.std.specs.Prelude.{List, [], codes, length, slice_index_or, ℕ, ◌++◌, ◌∷◌}
use Rattle.std.specs.List.{flat_map}
use Rattle.std.specs.Fmt.{decimal}
use Rattle.obq_base.specs.declared.acts.Report.{Report}
use Rattle.obq_base.specs.declared.faults.LexKind.{LexKind}
use Rattle.obq_base.specs.declared.faults.LexKind.TheVariants as kind
use Rattle.obq_base.specs.declared.faults.SourceFault.{SourceFault}
use Rattle.obq_base.specs.declared.faults.SourceFault.TheVariants as fault
use Rattle.obq_model.specs.Located.{Link, Sent}

-- a line's end
abbrev pub newline : List ℕ
newline = 10 ∷ []

-- what one site wrote: a line with the site's name and the number of bytes, and the bytes
abbrev pub site_text : List ℕ → List ℕ → List ℕ
site_text name bytes = codes "== " ++ (name ++ (codes " " ++ (decimal (length bytes) ++ (codes " ==" ++ (newline ++ (bytes ++ newline))))))

-- how many threads ended by a value, ended by an exception, wait, have spent their turns
abbrev pub report_line : Report → List ℕ
report_line r =
    codes "threads ended " ++ (decimal r.ended ++ (codes " raised " ++ (decimal r.raised ++ (codes " waiting " ++ (decimal r.waiting ++ (codes " spent " ++ (decimal r.spent ++ newline)))))))

-- the output of a run: each site in order, and the threads
abbrev pub run_text : List (List ℕ × List ℕ) → Report → List ℕ
run_text sites r = flat_map (λ s. site_text s.0 s.1) sites ++ report_line r

-- the name of a site of the table of links, of which the last is the name server
abbrev pub link_name : List (List ℕ) → ℕ → List ℕ
link_name names site = slice_index_or (names ++ codes "*" ∷ []) site []

-- how many requests and replies one site sent to another
abbrev pub link_line : List (List ℕ) → Link → List ℕ
link_line names (Sent from to requests replies) =
    link_name names from ++ (codes " -> " ++ (link_name names to ++ (codes " requests " ++ (decimal requests ++ (codes " replies " ++ (decimal replies ++ newline))))))

-- the table of requests and replies, behind the threads
abbrev pub links_text : List (List ℕ) → List Link → List ℕ
links_text names rows = codes "== links ==" ++ (newline ++ flat_map (link_line names) rows)

-- what stands before the journal's text, behind the threads or the table of links
abbrev pub journal_heading : List ℕ
journal_heading = codes "== journal ==" ++ newline

-- the source of this site is accepted
abbrev pub ok_line : List ℕ → List ℕ
ok_line name = name ++ (codes " ok" ++ newline)

-- the sources of all these sites are
abbrev pub check_text : List (List ℕ) → List ℕ
check_text names = flat_map ok_line names

-- the kind of a lexical fault, as it is told
abbrev pub kind_text : LexKind → List ℕ
kind_text kind.Stray = codes "Stray"
kind_text kind.OpenText = codes "OpenText"
kind_text kind.LongText = codes "LongText"
kind_text kind.OpenComment = codes "OpenComment"
kind_text kind.BadEscape = codes "BadEscape"
kind_text kind.IntRange = codes "IntRange"
kind_text kind.Real = codes "Real"
kind_text kind.NotAscii = codes "NotAscii"
kind_text kind.TooDeep = codes "TooDeep"

-- the lines that tell why a call did not run
abbrev pub lexical_line : List ℕ → List ℕ → ℕ → List ℕ
lexical_line name kind_name place = name ++ (codes ": lexical " ++ (kind_name ++ (codes " at byte " ++ (decimal place ++ newline))))

abbrev pub syntax_line : List ℕ → ℕ → List ℕ
syntax_line name token = name ++ (codes ": syntax at token " ++ (decimal token ++ newline))

abbrev pub unbound_line : List ℕ → List ℕ → ℕ → List ℕ
unbound_line name word place = name ++ (codes ": unbound " ++ (word ++ (codes " at byte " ++ (decimal place ++ newline))))

abbrev pub refused_line : List ℕ → SourceFault → List ℕ
refused_line name (fault.Lexical kind place) = lexical_line name (kind_text kind) place
refused_line name (fault.Syntax token) = syntax_line name token
refused_line name (fault.Unbound word place) = unbound_line name word place

abbrev pub usage_line : ℕ → List ℕ
usage_line word = codes "usage: word " ++ (decimal word ++ newline)

abbrev pub too_many_line : ℕ → List ℕ
too_many_line word = codes "too many sites: word " ++ (decimal word ++ newline)

abbrev pub too_long_line : List ℕ → List ℕ
too_long_line name = name ++ (codes ": source too long" ++ newline)

-- the journal file is over its limit; a line of it is bad; an entry isn't legal; this thread can still go
abbrev pub journal_too_long_line : List ℕ
journal_too_long_line = codes "journal too long" ++ newline

abbrev pub bad_journal_line : ℕ → List ℕ
bad_journal_line line = codes "journal line " ++ (decimal line ++ newline)

abbrev pub not_legal_line : ℕ → List ℕ
not_legal_line entry = codes "journal entry " ++ (decimal entry ++ (codes " not legal" ++ newline))

abbrev pub unfinished_line : ℕ → List ℕ
unfinished_line thread = codes "journal stops before thread " ++ (decimal thread ++ newline)

-- the source is accepted, and this token is the first of what doesn't run yet
abbrev pub not_yet_line : List ℕ → ℕ → List ℕ
not_yet_line name token = name ++ (codes ": not yet at token " ++ (decimal token ++ newline))

abbrev pub read_fault_line : ℕ → List ℕ
read_fault_line file = codes "read fault at file " ++ (decimal file ++ newline)

abbrev pub write_fault_line : List ℕ
write_fault_line = codes "write fault" ++ newline

abbrev pub no_memory_line : List ℕ
no_memory_line = codes "no memory" ++ newline
