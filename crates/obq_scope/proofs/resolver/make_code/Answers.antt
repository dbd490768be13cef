use Rattle.std.proofs.Common.{◌≡◌, ◌∙◌, [], arith, length, refl, ap}
use Rattle.obq_base.specs.View.{block_tree}
use Rattle.obq_model.specs.Draft.{draft_block}
use Rattle.obq_model.specs.Scopes.{Outside, outermost}
use Rattle.obq_scope.specs.declared.coder.Coder.{Coder}
use Rattle.obq_scope.specs.declared.output.Output.{Output}
use Rattle.obq_scope.specs.Coded.{coded_block, inner}
use Rattle.obq_scope.specs.Emitted.{closed, emitted, opened}
use Rattle.obq_scope.specs.Narrowed.{narrowed, numbered}
use Rattle.obq_scope.specs.Outsides.{outside_of}
use Rattle.obq_scope.proofs.Coding.{codes_source}
use Rattle.obq_scope.proofs.Resolving.{resolves}
use Rattle.obq_scope.proofs.Rooms.{narrow_at}
use Rattle.obq_scope.proofs.resolver.make_code.Goals as goal

pub returns : goal.returns
returns c =
    let source = c.args.source in
    let tree = block_tree c.args.block.now in
    let first = c.new-coder.result.emitter in
    let known : outside_of c.new-coder.result.outside ≡ outermost source = c.new-coder.ensures.outside in
    let last : Output = emitted source (draft_block (outermost source) [] tree) (opened first.output) in
    let made = codes_source source tree (opened first.output) first.ahead (c.new-coder.ensures.ahead ∙ c.requires.captured) c.new-coder.ensures.codes c.requires.small in
    let coded : (coded_block (outermost source) [] tree (inner first)).output ≡ last = made.0 in
    resolves source tree (opened first.output) c.emit_body.new.coder.emitter.output first.output.nodes _ c.requires.bound refl c.new-coder.ensures.codes
    (ap (λ (s : Coder). s.emitter.output) c.in_ok-main.ensures.made ∙ ap (λ (z : Outside). closed (narrowed (length z.captured)) (narrowed 0) first.output.nodes (coded_block z [] tree (inner first)).output) known
    ∙ ap (λ k. closed k k first.output.nodes (coded_block (outermost source) [] tree (inner first)).output) (narrow_at 0 (omega arith))
    ∙ ap (λ (z : Output). closed 0 0 first.output.nodes z) coded) refl
    (c.in_ok-main.ensures.number ∙ ap (λ (z : Outside). numbered z.source (coded_block z [] tree (inner first)).output) known ∙ ap (λ (z : Output). numbered source z) coded ∙ made.1) refl
