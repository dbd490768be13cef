-- How reading a file ended.
use Rattle.std.specs.Prelude.{⊤}
use Rattle.obq_io.specs.declared.reading.ReadRefused.{ReadRefused}
use Rattle.obq_io.specs.declared.reading.ReadRefused.TheVariants.{Fault, NoMemory, TooLong}

-- a file wasn't read because of a fault, or because it is too long, as P and Q say; for want of memory anything may hold
abbrev pub MatchReadRefused : ReadRefused → Type 0 → Type 0 → Type 0
MatchReadRefused Fault P Q = P
MatchReadRefused TooLong P Q = Q
MatchReadRefused NoMemory P Q = ⊤
