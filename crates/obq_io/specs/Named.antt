-- Files in memory: what a name holds, and what the file at a place holds.
use Rattle.std.specs.Prelude.{ℕ, List, [], ◌∷◌, Option, None, Some, if◌then◌else◌, slice_get, String}
use Rattle.std.specs.declared.alloc.Global.{Global}
use Rattle.std.specs.Global.{Vec}
use Rattle.std.specs.String.{string_bytes}
use Rattle.std.specs.Str.{bytes_eq}

-- a name, and what it holds
abbrev pub NamedFile : Type 0
NamedFile = String Global × Vec ℕ

-- what the first file of that name holds
abbrev pub held : List NamedFile → List ℕ → Option (List ℕ)
held [] name = None
held (f ∷ fs) name = if bytes_eq (string_bytes f.0) name then Some f.1.items else held fs name

abbrev pub content : Option NamedFile → List ℕ
content None = []
content (Some f) = f.1.items

-- what the file at a place holds, and nothing where there is no such file
abbrev pub content_at : List NamedFile → ℕ → List ℕ
content_at files at = content (slice_get files at)
