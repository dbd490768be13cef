-- Causes of a refusal.
use Rattle.std.specs.Prelude.{ℕ}
use Rattle.obq_base.specs.declared.faults.SourceFault.{SourceFault}
use Rattle.obq_front.specs.declared.program.FrontRefused.{FrontRefused}
use Rattle.obq_front.specs.declared.program.FrontRefused.TheVariants as front
use Rattle.obq_front.specs.declared.single.SourceRefused.{SourceRefused}
use Rattle.obq_front.specs.declared.single.SourceRefused.TheVariants as single

-- P holds of the fault of a source that isn't accepted
abbrev pub IfFault : SourceRefused → (SourceFault → Type 0) → Type 0
IfFault (single.Fault fault) P = P fault
IfFault single.NoMemory P = Unit {0}

-- P holds of the source that is refused, and of its fault
abbrev pub IfRefused : FrontRefused → (ℕ → SourceFault → Type 0) → Type 0
IfRefused (front.Refused source fault) P = P source fault
IfRefused front.NoMemory P = Unit {0}

abbrev pub refused_at : ℕ → SourceRefused → FrontRefused
refused_at source (single.Fault fault) = front.Refused source fault
refused_at source single.NoMemory = front.NoMemory
