use Rattle.std.proofs.Common.{Err, List, ap, arith, length, subst, sym, ◌≡◌, ◌≤◌}
use Rattle.std.proofs.lemmas.List.{length-map}
use Rattle.obq_base.specs.declared.trees.Block.{Block}
use Rattle.obq_front.specs.Contents.{contents}
use Rattle.obq_front.specs.declared.program.Source.{Source}
use Rattle.obq_run.specs.Ends.{refusal_cause}
use Rattle.obq_run.specs.Played.{SourcesReplay}
use Rattle.obq_run.proofs.Replayed.{refused_sources, trees_as_many}
use Rattle.obq_run.proofs.replay.replay_given.Goals as goal

pub returns-in-Err : goal.returns-in-Err
returns-in-Err c =
    let given = c.args.given.now in
    let at_slice : SourcesReplay (contents c.deref.result.now) given.journal.items (Err (refusal_cause c.in-Err.refused)) = refused_sources (contents c.deref.result.now) given.journal.items c.in-Err.refused c.in-Err.ensures.refused in
    subst (λ why. SourcesReplay (contents given.sources.items) given.journal.items (Err why)) (sym c.cause_of_refusal.ensures)
    (subst (λ (ss : List Source). SourcesReplay (contents ss) given.journal.items (Err (refusal_cause c.in-Err.refused))) c.deref.ensures.value at_slice)

pub replay_text-requires-clause-blocks : goal.replay_text-requires-clause-blocks
replay_text-requires-clause-blocks c =
    let items : List Source = c.args.given.now.sources.items in
    let read : List Source = c.deref.result.now in
    let blocks : List Block = c.in-Ok.program.blocks.items in
    let trees : length blocks ≡ length (contents read) = trees_as_many (contents read) blocks c.in-Ok.ensures.accepted.accepted in
    let few : length blocks ≤ 16 = omega (arith, trees, length-map read (λ s. s.bytes.items), ap length c.deref.ensures.value, c.requires.sources) in
    subst (λ (bs : List Block). length bs ≤ 16) (sym c.deref-2.ensures.value) few
