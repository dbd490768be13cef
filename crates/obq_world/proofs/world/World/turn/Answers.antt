use Rattle.std.proofs.Common.{arith, refl, ◌∙◌}
use Rattle.obq_world.specs.State.{State}
use Rattle.obq_world.proofs.Idle.{over_told, seen_over}
use Rattle.obq_world.proofs.May.{few_threads}
use Rattle.obq_world.proofs.world.World.turn.Goals as goal

pub next_able-requires : goal.next_able-requires
next_able-requires g c = rw c.deref.ensures.value (few_threads g.M.Machine.meaning g.J.Naming.program g.J.Naming.turns (record { site = c.self.inside.site; slots = c.self.inside.slots.items; cells = c.self.inside.cells; journal = c.self.inside.journal.entries }) c.self.invariant.0)

pub overflow_cast-k : goal.overflow_cast-k
overflow_cast-k g c =
    let few = few_threads g.M.Machine.meaning g.J.Naming.program g.J.Naming.turns (record { site = c.self.inside.site; slots = c.self.inside.slots.items; cells = c.self.inside.cells; journal = c.self.inside.journal.entries }) c.self.invariant.0 in
    let able = rw c.deref.ensures.value at c.in-Some.ensures in
    omega (arith, few, able.0)

pub returns-else-any_claim : goal.returns-else-any_claim
returns-else-any_claim g c =
    let w : State _ = record { site = c.self.inside.site; slots = c.self.inside.slots.items; cells = c.self.inside.cells; journal = c.self.inside.journal.entries } in
    let rest = rw c.deref.ensures.value at c.in-None.ensures in
    let out = rw c.deref-in-None.ensures.value at c.any_claim.ensures in
    rw (← c.self.view_is) (refl, over_told g.M.Machine.meaning g.J.Naming.program g.J.Naming.turns c.turns.result w c.any_claim.result c.self.invariant.0 (c.turns.ensures ∙ c.self.invariant.1) rest out c.if-any_claim.false, c.len.ensures)

pub invariant_of-seen : goal.invariant_of-seen
invariant_of-seen g c =
    let rest = rw c.deref.ensures.value at c.in-None.ensures in
    let out = rw c.deref-in-None.ensures.value at c.any_claim.ensures in
    seen_over g.M.Machine.meaning g.J.Naming.program g.J.Naming.turns c.turns.result (record { site = c.self.inside.site; slots = c.self.inside.slots.items; cells = c.self.inside.cells; journal = c.self.inside.journal.entries }) c.any_claim.result c.len.result
    c.self.invariant.0 (c.turns.ensures ∙ c.self.invariant.1) rest out c.if-any_claim.false c.len.ensures
