use Rattle.std.proofs.Common.{arith, length, ◌≡◌, ◌∙◌}
use Rattle.obq_world.specs.Entries.{turns_of}
use Rattle.obq_world.specs.State.{State}
use Rattle.obq_world.proofs.May.{few_cells, few_threads}
use Rattle.obq_world.proofs.Onward.{may_go_there, stands_behind, stays_noted, steps_fit, takes_more, turns_noted}
use Rattle.obq_world.proofs.world.World.go.Goals as goal

pub overflow_cast-len : goal.overflow_cast-len
overflow_cast-len g c =
    let few = few_threads g.M.Machine.meaning g.J.Naming.program g.J.Naming.turns (record { site = c.self.inside.site; slots = c.self.inside.slots.items; cells = c.self.inside.cells; journal = c.self.inside.journal.entries }) c.self.invariant.0 in
    omega (arith, few)

pub go_on-requires-clause-can : goal.go_on-requires-clause-can
go_on-requires-clause-can g c =
    let w : State _ = record { site = c.self.inside.site; slots = c.self.inside.slots.items; cells = c.self.inside.cells; journal = c.self.inside.journal.entries } in
    let many : c.len.result ≡ length c.self.inside.slots.items = omega arith in
    may_go_there g.M.Machine.meaning g.J.Naming.program g.J.Naming.turns c.turns.result c.len.result w c.args.thread.0 c.index.result.now c.self.invariant.0 (c.turns.ensures ∙ c.self.invariant.1) many (rw (← c.self.view_is) at c.requires.there) c.index.ensures

pub go_on-requires-clause-room : goal.go_on-requires-clause-room
go_on-requires-clause-room g c = (c.self.invariant.0.size, few_cells g.M.Machine.meaning g.J.Naming.program g.J.Naming.turns (record { site = c.self.inside.site; slots = c.self.inside.slots.items; cells = c.self.inside.cells; journal = c.self.inside.journal.entries }) c.self.invariant.0)

pub go_on-requires-clause-threads : goal.go_on-requires-clause-threads
go_on-requires-clause-threads g c =
    let few = few_threads g.M.Machine.meaning g.J.Naming.program g.J.Naming.turns (record { site = c.self.inside.site; slots = c.self.inside.slots.items; cells = c.self.inside.cells; journal = c.self.inside.journal.entries }) c.self.invariant.0 in
    omega (arith, few)

pub note-requires-clause-fits : goal.note-requires-clause-fits
note-requires-clause-fits g c =
    let w : State _ = record { site = c.self.inside.site; slots = c.self.inside.slots.items; cells = c.self.inside.cells; journal = c.self.inside.journal.entries } in
    steps_fit g.M.Machine.meaning g.J.Naming.program g.J.Naming.turns c.turns.result c.self.inside.cells c.len.result w c.args.thread.0 c.index.result.now c.in_ok-gone.gone c.go_on.new.site c.self.invariant.0 (c.turns.ensures ∙ c.self.invariant.1) (rw (← c.self.view_is) at c.requires.there) c.index.ensures c.in_ok-gone.ensures

pub note-requires-clause-cells : goal.note-requires-clause-cells
note-requires-clause-cells g c =
    let few = few_cells g.M.Machine.meaning g.J.Naming.program g.J.Naming.turns (record { site = c.self.inside.site; slots = c.self.inside.slots.items; cells = c.self.inside.cells; journal = c.self.inside.journal.entries }) c.self.invariant.0 in
    omega (arith, few)

pub invariant_of-world : goal.invariant_of-world
invariant_of-world g c =
    let w : State _ = record { site = c.self.inside.site; slots = c.self.inside.slots.items; cells = c.self.inside.cells; journal = c.self.inside.journal.entries } in
    let many : c.len.result ≡ length c.self.inside.slots.items = omega arith in (
      stands_behind g.M.Machine.meaning g.J.Naming.program g.J.Naming.turns c.turns.result c.len.result w c.args.thread.0 c.index.result.now c.in_ok-gone.gone c.go_on.new.site c.note.new.slots.items c.note.new.journal.entries c.in_ok-cells.cells
          c.self.invariant.0 (c.turns.ensures ∙ c.self.invariant.1) many (rw (← c.self.view_is) at c.requires.there) c.index.ensures (rw (← c.self.view_is) at c.requires.running) c.in_ok-gone.ensures c.in_ok-cells.ensures.noted,
      c.in_ok-cells.ensures.turns ∙ c.self.invariant.1,
      c.self.invariant.2,
      c.self.invariant.3,
      turns_noted c.self.inside.slots.items c.note.new.slots.items c.self.inside.journal.entries c.note.new.journal.entries c.self.inside.cells c.args.thread.0 c.in_ok-cells.cells c.in_ok-gone.gone c.self.invariant.4 c.in_ok-cells.ensures.noted,
    )

pub invariant_of-world-2 : goal.invariant_of-world-2
invariant_of-world-2 g c =
    let w : State _ = record { site = c.self.inside.site; slots = c.self.inside.slots.items; cells = c.self.inside.cells; journal = c.self.inside.journal.entries } in
    let many : c.len.result ≡ length c.self.inside.slots.items = omega arith in (
      stands_behind g.M.Machine.meaning g.J.Naming.program g.J.Naming.turns c.turns.result c.len.result w c.args.thread.0 c.index.result.now c.in_ok-gone.gone c.go_on.new.site c.note.new.slots.items c.note.new.journal.entries c.in_ok-cells.cells
          c.self.invariant.0 (c.turns.ensures ∙ c.self.invariant.1) many (rw (← c.self.view_is) at c.requires.there) c.index.ensures (rw (← c.self.view_is) at c.requires.running) c.in_ok-gone.ensures c.in_ok-cells.ensures.noted,
      c.in_ok-cells.ensures.turns ∙ c.self.invariant.1,
      c.self.invariant.2,
      c.self.invariant.3,
      turns_noted c.self.inside.slots.items c.note.new.slots.items c.self.inside.journal.entries c.note.new.journal.entries c.self.inside.cells c.args.thread.0 c.in_ok-cells.cells c.in_ok-gone.gone c.self.invariant.4 c.in_ok-cells.ensures.noted,
    )

pub returns-then-turns_taken-eq0 : goal.returns-then-turns_taken-eq0
returns-then-turns_taken-eq0 g c =
    let none = c.if-turns_taken-eq0.true in
    let taken = c.turns_taken.ensures in
    let no_turns : turns_of c.in_ok-gone.gone ≡ 0 = omega (arith, none, taken) in
    rw (← c.self.view_is) (stays_noted c.self.inside.slots.items c.note.new.slots.items c.self.inside.journal.entries c.note.new.journal.entries c.self.inside.cells c.args.thread.0 c.in_ok-cells.cells c.in_ok-gone.gone c.in_ok-cells.ensures.noted no_turns)

pub returns : goal.returns
returns g c =
    let some = c.if-turns_taken-eq0.false in
    let taken = c.turns_taken.ensures in
    rw (← c.self.view_is) (takes_more c.self.inside.slots.items c.note.new.slots.items c.self.inside.journal.entries c.note.new.journal.entries c.self.inside.cells c.args.thread.0 c.in_ok-cells.cells c.in_ok-gone.gone c.in_ok-cells.ensures.noted (λ none. omega (arith, some, taken, none)))
