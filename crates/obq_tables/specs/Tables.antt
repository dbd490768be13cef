-- The tables of the language, in byte order of their keys.
use Rattle.std.specs.Prelude.{ℕ, Bool, true, false, ◌&&◌, ◌||◌, ◌==◌, nat_lt, List, [], ◌∷◌, codes, if◌then◌else◌}
use Rattle.std.specs.List.{list_any}
use Rattle.std.specs.Str.{bytes_eq}
use Rattle.obq_tables.specs.declared.nesting.Nesting.{Nesting}
use Rattle.obq_tables.specs.declared.nesting.Nesting.TheVariants.{Opens, Closes, Stays}

-- the first text stands before the second in byte order
abbrev pub is_before : List ℕ → List ℕ → Bool
is_before [] [] = false
is_before [] (y ∷ ys) = true
is_before (x ∷ xs) [] = false
is_before (x ∷ xs) (y ∷ ys) = nat_lt x y || ((x == y) && is_before xs ys)

-- each key stands before the next
abbrev pub are_ordered : List (List ℕ) → Bool
are_ordered [] = true
are_ordered (k ∷ []) = true
are_ordered (k ∷ l ∷ ks) = is_before k l && are_ordered (l ∷ ks)

-- the keywords of the language
abbrev pub keywords : List (List ℕ)
keywords =
    codes "alias" ∷
    codes "andif" ∷
    codes "clone" ∷
    codes "do" ∷
    codes "else" ∷
    codes "elsif" ∷
    codes "end" ∷
    codes "except" ∷
    codes "exit" ∷
    codes "false" ∷
    codes "finally" ∷
    codes "for" ∷
    codes "foreach" ∷
    codes "if" ∷
    codes "in" ∷
    codes "is" ∷
    codes "isnot" ∷
    codes "let" ∷
    codes "loop" ∷
    codes "meth" ∷
    codes "of" ∷
    codes "ok" ∷
    codes "orif" ∷
    codes "proc" ∷
    codes "protected" ∷
    codes "raise" ∷
    codes "rec" ∷
    codes "redirect" ∷
    codes "serialized" ∷
    codes "then" ∷
    codes "to" ∷
    codes "true" ∷
    codes "try" ∷
    codes "until" ∷
    codes "var" ∷
    codes "watch" ∷ []

-- the symbols of the language
abbrev pub symbols : List (List ℕ)
symbols =
    codes "%" ∷
    codes "&" ∷
    codes "(" ∷
    codes ")" ∷
    codes "*" ∷
    codes "+" ∷
    codes "," ∷
    codes "-" ∷
    codes "." ∷
    codes "/" ∷
    codes ":=" ∷
    codes ";" ∷
    codes "<" ∷
    codes "<=" ∷
    codes "=" ∷
    codes "=>" ∷
    codes ">" ∷
    codes ">=" ∷
    codes "[" ∷
    codes "]" ∷
    codes "{" ∷
    codes "}" ∷ []

-- the built-in procedures
abbrev pub builtins : List (List ℕ)
builtins =
    codes "array_new" ∷
    codes "array_size" ∷
    codes "broadcast" ∷
    codes "condition" ∷
    codes "exception" ∷
    codes "fmt_bool" ∷
    codes "fmt_int" ∷
    codes "fork" ∷
    codes "join" ∷
    codes "net_export" ∷
    codes "net_exportEngine" ∷
    codes "net_import" ∷
    codes "net_importEngine" ∷
    codes "not" ∷
    codes "signal" ∷
    codes "text_length" ∷
    codes "text_sub" ∷
    codes "wr_putText" ∷ []

-- how many arguments each of them takes
abbrev pub builtin_arguments : List ℕ
builtin_arguments = 2 ∷ 1 ∷ 1 ∷ 0 ∷ 1 ∷ 1 ∷ 1 ∷ 1 ∷ 1 ∷ 3 ∷ 3 ∷ 2 ∷ 2 ∷ 1 ∷ 1 ∷ 1 ∷ 3 ∷ 2 ∷ []

-- the texts of the exceptions that the machine raises
abbrev pub exceptions : List (List ℕ)
exceptions =
    codes "arity" ∷
    codes "array_index" ∷
    codes "array_limit" ∷
    codes "call_limit" ∷
    codes "closure_limit" ∷
    codes "compare" ∷
    codes "exit_outside" ∷
    codes "field_missing" ∷
    codes "field_twice" ∷
    codes "fork_limit" ∷
    codes "int_divide" ∷
    codes "int_overflow" ∷
    codes "not_method" ∷
    codes "not_serialized" ∷
    codes "not_value" ∷
    codes "not_var" ∷
    codes "protected" ∷
    codes "text_limit" ∷
    codes "text_range" ∷
    codes "type" ∷ []

-- the names of acts in a journal
abbrev pub acts : List (List ℕ)
acts =
    codes "Again" ∷
    codes "ArrayGet" ∷
    codes "ArraySet" ∷
    codes "Broadcast" ∷
    codes "Call" ∷
    codes "Copy" ∷
    codes "End" ∷
    codes "Engine" ∷
    codes "Export" ∷
    codes "Fork" ∷
    codes "Get" ∷
    codes "GiveUp" ∷
    codes "Hop" ∷
    codes "Import" ∷
    codes "Join" ∷
    codes "Leave" ∷
    codes "Line" ∷
    codes "New" ∷
    codes "Put" ∷
    codes "Redirect" ∷
    codes "Set" ∷
    codes "Signal" ∷
    codes "VarGet" ∷
    codes "VarSet" ∷ []

-- the operations that a request may ask for
abbrev pub wire_operations : List (List ℕ)
wire_operations =
    codes "Again" ∷
    codes "ArrayItem" ∷
    codes "ArraySet" ∷
    codes "ArraySize" ∷
    codes "Broadcast" ∷
    codes "Call" ∷
    codes "Copy" ∷
    codes "Engine" ∷
    codes "Export" ∷
    codes "Get" ∷
    codes "GiveUp" ∷
    codes "Import" ∷
    codes "Join" ∷
    codes "Line" ∷
    codes "Put" ∷
    codes "Redirect" ∷
    codes "Set" ∷
    codes "Signal" ∷
    codes "VarGet" ∷
    codes "VarSet" ∷ []

-- the number of each in a frame
abbrev pub wire_numbers : List ℕ
wire_numbers = 15 ∷ 6 ∷ 8 ∷ 7 ∷ 17 ∷ 2 ∷ 4 ∷ 20 ∷ 18 ∷ 1 ∷ 14 ∷ 19 ∷ 12 ∷ 13 ∷ 11 ∷ 5 ∷ 3 ∷ 16 ∷ 9 ∷ 10 ∷ []

-- what opens a part of a source that a closer ends
abbrev pub openers : List (List ℕ)
openers =
    codes "(" ∷
    codes "[" ∷
    codes "{" ∷
    codes "proc" ∷
    codes "meth" ∷
    codes "if" ∷
    codes "loop" ∷
    codes "for" ∷
    codes "foreach" ∷
    codes "try" ∷
    codes "watch" ∷
    codes "redirect" ∷
    codes "alias" ∷ []

-- what ends such a part
abbrev pub closers : List (List ℕ)
closers =
    codes ")" ∷
    codes "]" ∷
    codes "}" ∷
    codes "end" ∷ []

-- what a keyword or symbol does to the nesting
abbrev pub nesting_of : List ℕ → Nesting
nesting_of key =
    if list_any (λ k. bytes_eq k key) openers then Opens
    else (if list_any (λ k. bytes_eq k key) closers then Closes
    else Stays)
