use Rattle.obq_model.specs.Grammar.{no_more}
use Rattle.obq_grammar.proofs.failing.Stops.{semicolon_of}
use Rattle.obq_parts.proofs.Ends.{is_true, item_block, not_true}
use Rattle.obq_parts.proofs.blocks.behind_item.Goals as goal

pub returns-in_default-clause-onward : goal.returns-in_default-clause-onward
returns-in_default-clause-onward c = (no_more, item_block c.args.tokens.now c.requires c.in_default.ensures.found)

pub returns-then-ends_block-clause-onward : goal.returns-then-ends_block-clause-onward
returns-then-ends_block-clause-onward c = (semicolon_of c.in-Some.ensures.found, is_true c.if-ends_block.true c.ends_block.ensures)

pub returns-clause-onward : goal.returns-clause-onward
returns-clause-onward c = (_, c.in-Some.ensures.found, not_true c.if-ends_block.false c.ends_block.ensures)
