use Rattle.std.proofs.Common.{◌<◌, List, length, sym, subst}
use Rattle.std.proofs.lemmas.List.Elements.{All-from_recursion}
use Rattle.obq_wire.specs.declared.values.TableEntry.{TableEntry}
use Rattle.obq_wire.specs.Order.{packet_needs}
use Rattle.obq_wire.specs.Spelling.{table_of}
use Rattle.obq_wire.specs.Walk.{NeedsEarlier}
use Rattle.obq_wire.proofs.Earlier.{needs_earlier, roots_below}
use Rattle.obq_wire.proofs.misplaced.first_misplaced.Goals as goal

pub agreement-requires-clause-earlier : goal.agreement-requires-clause-earlier
agreement-requires-clause-earlier c = subst (λ (table : List TableEntry). NeedsEarlier table) (sym c.entries-table.ensures) (needs_earlier c.args.packet.now c.requires)

pub agreement-requires-clause-roots : goal.agreement-requires-clause-roots
agreement-requires-clause-roots c =
    rw (c.entries-table.ensures, c.as_slice.ensures.value, c.in_ok-roots.ensures)
    (All-from_recursion (λ i. i < length (table_of c.args.packet.now)) (packet_needs c.args.packet.now) (roots_below c.args.packet.now c.requires))
