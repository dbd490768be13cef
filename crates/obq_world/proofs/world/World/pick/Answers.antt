use Rattle.std.proofs.Common.{arith, refl, ◌∙◌}
use Rattle.obq_world.proofs.Idle.{seen_over}
use Rattle.obq_world.proofs.Keeps.{claims_keep}
use Rattle.obq_world.proofs.May.{few_threads}
use Rattle.obq_world.proofs.world.World.pick.Goals as goal

pub first_able-requires : goal.first_able-requires
first_able-requires g c =
    rw c.deref.ensures.value (few_threads g.M.Machine.meaning g.J.Naming.program g.J.Naming.turns (record { site = c.self.inside.site; slots = c.self.inside.slots.items; cells = c.self.inside.cells; journal = c.self.inside.journal.entries }) c.self.invariant.0)

pub overflow_cast-thread : goal.overflow_cast-thread
overflow_cast-thread g c =
    let few = few_threads g.M.Machine.meaning g.J.Naming.program g.J.Naming.turns (record { site = c.self.inside.site; slots = c.self.inside.slots.items; cells = c.self.inside.cells; journal = c.self.inside.journal.entries }) c.self.invariant.0 in
    let able = rw c.deref.ensures.value at c.in-Some.ensures in
    omega (arith, few, able.0)

pub invariant_of-self : goal.invariant_of-self
invariant_of-self g c =
    let able = rw c.deref.ensures.value at c.in-Some.ensures in (
      claims_keep g.M.Machine.meaning g.J.Naming.program g.J.Naming.turns (record { site = c.self.inside.site; slots = c.self.inside.slots.items; cells = c.self.inside.cells; journal = c.self.inside.journal.entries }) c.in-Some.k c.index-slot.result.now _ c.self.invariant.0 able.0 c.index-slot.ensures refl,
      c.self.invariant.1,
      c.self.invariant.2,
      c.self.invariant.3,
      c.self.invariant.4,
    )

pub invariant_of-result-else-any_claim : goal.invariant_of-result-else-any_claim
invariant_of-result-else-any_claim g c =
    let rest = rw c.deref.ensures.value at c.in-None.ensures in
    let out = rw c.deref-in-None.ensures.value at c.any_claim.ensures in
    seen_over g.M.Machine.meaning g.J.Naming.program g.J.Naming.turns c.turns.result (record { site = c.self.inside.site; slots = c.self.inside.slots.items; cells = c.self.inside.cells; journal = c.self.inside.journal.entries }) c.any_claim.result c.len.result
    c.self.invariant.0 (c.turns.ensures ∙ c.self.invariant.1) rest out c.if-any_claim.false c.len.ensures
