use Rattle.std.proofs.Common.{arith, ◌-◌, ◌∙◌}
use Rattle.obq_world.specs.State.{State}
use Rattle.obq_world.specs.Work.{WorkState}
use Rattle.obq_world.proofs.Taking.{cut_commits, cut_fits, fits_for, stale_by_number, stale_by_window, turns_left_at}
use Rattle.obq_world.proofs.world.World.commit.Goals as goal

pub returns-then-k-len : goal.returns-then-k-len
returns-then-k-len g c =
    let w : State _ = record { site = c.self.inside.site; slots = c.self.inside.slots.items; cells = c.self.inside.cells; journal = c.self.inside.journal.entries } in
    let k : WorkState _ = record { thread = c.work.inside.thread.0; start = c.work.inside.start; done = c.work.inside.done } in
    let many = c.if-k-len.true in
    rw (← c.self.view_is, ← c.work.view_is) (stale_by_number g.M.Machine.meaning g.J.Naming.program g.J.Naming.turns w k c.self.invariant.0 (omega (arith, many)))

pub returns-then-not-is_at : goal.returns-then-not-is_at
returns-then-not-is_at g c =
    let w : State _ = record { site = c.self.inside.site; slots = c.self.inside.slots.items; cells = c.self.inside.cells; journal = c.self.inside.journal.entries } in
    let k : WorkState _ = record { thread = c.work.inside.thread.0; start = c.work.inside.start; done = c.work.inside.done } in
    let few = c.if-k-len.false in
    rw (← c.self.view_is, ← c.work.view_is) (stale_by_window g.M.Machine.meaning g.J.Naming.program g.J.Naming.turns w k c.index-slot.result.now c.self.invariant.0 (omega (arith, few)) c.index-slot.ensures c.if-not-is_at.ensures)

pub take_in-requires-clause-fits : goal.take_in-requires-clause-fits
take_in-requires-clause-fits g c =
    let w : State _ = record { site = c.self.inside.site; slots = c.self.inside.slots.items; cells = c.self.inside.cells; journal = c.self.inside.journal.entries } in
    let few = c.if-k-len.false in
    let steps = rw (← c.work.view_is) at c.steps.ensures in
    let le = c.if-steps-left.true in
    rw (← c.self.view_is, ← c.work.view_is, ← steps) (fits_for g.M.Machine.meaning g.J.Naming.program g.J.Naming.turns c.turns.result w c.work.inside.thread.0 c.index-slot.result.now c.steps.result c.self.invariant.0 (c.turns.ensures ∙ c.self.invariant.1) (omega (arith, few)) c.index-slot.ensures (omega (arith, le)))

pub take_in-requires-2-clause-fits : goal.take_in-requires-2-clause-fits
take_in-requires-2-clause-fits g c =
    let w : State _ = record { site = c.self.inside.site; slots = c.self.inside.slots.items; cells = c.self.inside.cells; journal = c.self.inside.journal.entries } in
    let k : WorkState _ = record { thread = c.work.inside.thread.0; start = c.work.inside.start; done = c.work.inside.done } in
    let few = c.if-k-len.false in
    rw (← c.self.view_is)
    (cut_fits g.M.Machine.meaning g.J.Naming.program g.J.Naming.turns c.turns.result w k c.in_ok-short.short c.index-slot.result.now c.self.invariant.0 (c.turns.ensures ∙ c.self.invariant.1) (omega (arith, few)) c.index-slot.ensures (rw (← c.work.view_is) at c.in_ok-short.ensures))

pub returns : goal.returns
returns g c =
    let w : State _ = record { site = c.self.inside.site; slots = c.self.inside.slots.items; cells = c.self.inside.cells; journal = c.self.inside.journal.entries } in
    let k : WorkState _ = record { thread = c.work.inside.thread.0; start = c.work.inside.start; done = c.work.inside.done } in
    let few = c.if-k-len.false in
    let more = c.if-steps-left.false in
    let left = turns_left_at g.M.Machine.meaning g.J.Naming.program g.J.Naming.turns c.turns.result w c.work.inside.thread.0 c.index-slot.result.now c.self.invariant.0 (c.turns.ensures ∙ c.self.invariant.1) (omega (arith, few)) c.index-slot.ensures in
    let steps = rw (← c.work.view_is) at c.steps.ensures in
    rw (← c.self.view_is, ← c.work.view_is)
    (cut_commits g.M.Machine.meaning g.J.Naming.turns (c.turns.result - c.index-slot.result.now.used) w k c.in_ok-short.short c.in_ok-world-2.world left (rw (← c.work.view_is) at c.in_ok-short.ensures) (omega (arith, steps, more)) (rw (← c.self.view_is) at c.in_ok-world-2.ensures))
