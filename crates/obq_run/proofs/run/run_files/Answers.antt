use Rattle.std.proofs.Common.{List, arith, length, ◌≡◌, ◌≤◌}
use Rattle.std.proofs.lemmas.List.{length-map}
use Rattle.obq_base.specs.declared.limits.TheConstants.{SOURCE_LIMIT}
use Rattle.obq_base.specs.declared.trees.Block.{Block}
use Rattle.obq_front.specs.Contents.{contents}
use Rattle.obq_run.proofs.Held.{as_many}
use Rattle.obq_run.proofs.Replayed.{trees_as_many}
use Rattle.obq_run.proofs.run.run_files.Goals as goal

pub run_program-requires-clause-few : goal.run_program-requires-clause-few
run_program-requires-clause-few g c =
    let holds = g.F.Files.holds c.args.files.now in
    let accepted = c.in-Ok.accepted in
    let items = accepted.sources.items in
    let blocks : List Block = accepted.program.blocks.items in
    let trees : length blocks ≡ length (contents items) = trees_as_many (contents items) blocks c.in-Ok.ensures.program.accepted in
    let many : length items ≡ length c.args.sites.now = as_many holds SOURCE_LIMIT c.args.sites.now items c.in-Ok.ensures.held in
    let few : length blocks ≤ 16 = omega (arith, trees, length-map items (λ s. s.bytes.items), many, c.requires) in
    few

pub returns-in-Ok-run_program-clause-ran : goal.returns-in-Ok-run_program-clause-ran
returns-in-Ok-run_program-clause-ran g c =
    let accepted = c.in-Ok.accepted in
    record {
      sources = contents accepted.sources.items;
      held = c.in-Ok.ensures.held;
      trees = accepted.program.blocks.items;
      accepted = c.in-Ok.ensures.program.accepted;
      is_run = c.in-Ok-run_program.ensures;
    }

pub run_program-requires-clause-codes : goal.run_program-requires-clause-codes
run_program-requires-clause-codes g c = c.in-Ok.ensures.program.resolved
