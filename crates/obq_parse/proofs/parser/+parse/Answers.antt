use Rattle.std.proofs.Common.{◌+◌}
use Rattle.obq_parts.specs.declared.targets.Target.TheVariants as target
use Rattle.obq_grammar.proofs.failing.Bindings as procs
use Rattle.obq_grammar.proofs.Theory.{as_tree, done, move, re, upto}
use Rattle.obq_grammar.specs.Follow.{Anything, EndsArgs, EndsExpr, EndsItem, EndsLevel, EndsNames}
use Rattle.obq_model.specs.Grammar.{IsArgs, IsArray, IsBind, IsBinds, IsBlock, IsCall, IsDotted, IsElse, IsExpr, IsField, IsFieldBody, IsFields, IsItem, IsLevel, IsPrim, IsRecBind, IsRecBinds, IsSuffix, IsTry, chain, empty, items, let_binds, level, method, no_argument, no_element, no_else, no_elsif, no_guard, no_link, no_suffix, plain, proc_of, select, value}
use Rattle.obq_model.specs.Nodes.{next}
use Rattle.obq_parse.proofs.Joins.{as_block, ended_fault, ended_ok, ends_links, ends_up, field_end, field_fails, field_item, first_level, level_by, level_fails, rest_fault, rest_more, rest_ok, rest_top, targets_as, top_level, value_end, value_fails, value_item}
use Rattle.obq_parse.proofs.Tests.{begun, block_elsifs, block_guards, dotted_reads, empty_object, if_arms, no_paren, no_suffix_word, not_begun, opened_by, paren_reads, prim_proc, try_arms, try_reads, up}
use Rattle.obq_parts.proofs.Again.{args_again, args_last, binds_again, binds_last, ends_args, fields_again, fields_last, rec_binds_again, rec_binds_last}
use Rattle.obq_parts.proofs.Ends.{is_true, not_true}
use Rattle.obq_parts.proofs.Pass.{close_cases, pass, reads_at}
use Rattle.obq_parts.specs.Closed.{inside, unclosed}
use Rattle.obq_parts.specs.Targets.{IsNoTarget}
use Rattle.obq_grammar.proofs.failing.Bindings.{bind_of_at_1, bind_of_at_2, bind_of_at_3, bind_of_of, binds_at_1, meth_at_2, meth_at_3, meth_at_4, meth_at_5, meth_at_6, meth_of, proc_at_2, proc_at_3, proc_at_4, proc_at_5, rec_bind_of_at_1, rec_bind_of_at_2, rec_bind_of_at_3, rec_bind_of_of, rec_binds_at_1}
use Rattle.obq_grammar.proofs.failing.Blocks.{arm_of_at_1, arm_of_at_2, arm_of_at_3, arm_of_of, else_at_2, else_at_3, else_of, guard_of_at_1, guard_of_at_2, guard_of_at_3, guard_of_of, items_at_1, items_at_2, one_elsif_at_2, one_elsif_step, one_guard_at_2, one_guard_step}
use Rattle.obq_grammar.proofs.failing.Fields.{alias_at_2, alias_at_3, alias_at_4, alias_at_5, alias_end, alias_of, args_at_1, arguments_at_1, arguments_at_2, arguments_of, elements_at_1, elements_at_2, elements_of, field_of_at_1, field_of_at_2, field_of_at_3, field_of_of, fields_at_1, method_at_1, method_end, value_at_1}
use Rattle.obq_grammar.proofs.failing.Items.{no_target_fails, plain_at_1, plain_at_2, plain_end}
use Rattle.obq_grammar.proofs.failing.Lets.{excepts_at_2, excepts_at_3, excepts_at_4, excepts_of, finally_at_2, finally_at_3, finally_of, let_at_2, let_binds_at_1, let_binds_end, let_of, let_rec_at_2, let_rec_end, let_rec_of, try_at_2, var_at_2, var_end, var_of}
use Rattle.obq_grammar.proofs.failing.Levels.{level_at_1, level_at_2, one_link_at_2, one_link_step, operand_at_1, rest_at_1}
use Rattle.obq_grammar.proofs.failing.Objects.{object_at_2, object_of}
use Rattle.obq_grammar.proofs.failing.Primaries.{array_at_2, array_of, clone_at_2, clone_at_3, clone_at_4, clone_of, for_at_2, for_at_3, for_at_4, for_at_5, for_at_6, for_at_7, for_at_8, for_at_9, for_of, foreach_at_2, foreach_at_3, foreach_at_4, foreach_at_5, foreach_at_6, foreach_at_7, foreach_of, if_at_2, if_at_3, if_at_4, if_of, loop_at_2, loop_at_3, loop_of, raise_at_2, raise_at_3, raise_at_4, raise_of, redirect_at_2, redirect_at_3, redirect_at_4, redirect_at_5, redirect_of, watch_at_2, watch_at_3, watch_at_4, watch_at_5, watch_of}
use Rattle.obq_grammar.proofs.failing.Stops.{else_stop, more_at_2, more_step, proc_at_1, try_stop}
use Rattle.obq_grammar.proofs.failing.Suffixes.{apply_at_2, apply_of, chain_at_1, chain_at_2, dotted_at_2, index_at_2, index_at_3, index_of, invoke_at_2, invoke_of, one_suffix_at_1, one_suffix_step, suffix_stop}
use Rattle.std.proofs.Common.{arith, refl, rules, sym}
use Rattle.obq_parse.proofs.parser.+parse.Goals as goal

pub read_until-returns-in-Err-clause-read : goal.read_until-returns-in-Err-clause-read
read_until-returns-in-Err-clause-read size c = pass c.in-Err.refused (λ z f. inside f) c.in-Err.ensures.read

pub read_until-returns-in-None-clause-read : goal.read_until-returns-in-None-clause-read
read_until-returns-in-None-clause-read size c = unclosed _ c.in-Ok.ensures.read.0 c.in-Ok.ensures.read.1 c.in-None.ensures.found

pub read_until-returns-clause-read : goal.read_until-returns-clause-read
read_until-returns-clause-read size c = (_, upto IsExpr c.in-Some.ensures.found c.in-Ok.ensures.read.0)

pub read_body-returns-in-Err-clause-read : goal.read_body-returns-in-Err-clause-read
read_body-returns-in-Err-clause-read size c = pass c.in-Err.refused (λ z f. inside f) c.in-Err.ensures.read

pub read_body-returns-in-None-clause-read : goal.read_body-returns-in-None-clause-read
read_body-returns-in-None-clause-read size c = unclosed _ c.in-Ok.ensures.read.0 c.in-Ok.ensures.read.1 c.in-None.ensures.found

pub read_body-returns-clause-read : goal.read_body-returns-clause-read
read_body-returns-clause-read size c = (_, upto IsBlock c.in-Some.ensures.found c.in-Ok.ensures.read.0)

pub read_block-returns-then-ends_block-clause-read : goal.read_block-returns-then-ends_block-clause-read
read_block-returns-then-ends_block-clause-read size c = (as_block c.new-items.ensures c.place_of-place.ensures empty, is_true c.if-ends_block.true c.ends_block.ensures)

pub read_block-returns-in-Err-clause-read : goal.read_block-returns-in-Err-clause-read
read_block-returns-in-Err-clause-read size c = pass c.in-Err.refused (λ z f. items_at_1 (not_true c.if-ends_block.false c.ends_block.ensures) f) c.in-Err.ensures.read

pub read_block-returns-in-Err-read_more-clause-read : goal.read_block-returns-in-Err-read_more-clause-read
read_block-returns-in-Err-read_more-clause-read size c = pass c.in-Err-read_more.refused (λ z f. items_at_2 c.in-Ok.ensures.read.0 c.in-Ok.ensures.read.1 f) c.in-Err-read_more.ensures.read

pub read_block-returns-clause-read : goal.read_block-returns-clause-read
read_block-returns-clause-read size c = (as_block c.in-Ok-front.ensures c.place_of-place.ensures (items c.in-Ok.ensures.read.0 c.in-Ok-read_more.ensures.read.0), c.in-Ok-read_more.ensures.read.1)

pub read_more-returns-in-End-clause-read : goal.read_more-returns-in-End-clause-read
read_more-returns-in-End-clause-read size c = (done c.loop-behind.invariant.leads c.in-End.ensures.onward.0, c.in-End.ensures.onward.1)

pub read_more-returns-in-Err-clause-read : goal.read_more-returns-in-Err-clause-read
read_more-returns-in-Err-clause-read size c = pass c.in-Err.refused (λ z f. c.loop-behind.invariant.leads.fails z (more_at_2 c.in-Item.ensures.onward.1 c.in-Item.ensures.onward.2 f)) c.in-Err.ensures.read

pub read_more-loop-behind-preserved : goal.read_more-loop-behind-preserved
read_more-loop-behind-preserved size c = record {
  leads = re c.in-Ok-push.ensures.ok (more_step c.loop-behind.invariant.leads c.in-Item.ensures.onward.1 c.in-Ok.ensures.read.0 c.in-Ok.ensures.read.1);
  ends = c.in-Ok.ensures.read.1;
  shorter = omega (arith, c.in-Item.ensures.shorter, c.in-Ok.ensures.shorter, c.loop-behind.invariant.shorter);
}

pub read_item-returns-in-Some-clause-read : goal.read_item-returns-in-Some-clause-read
read_item-returns-in-Some-clause-read size c = reads_at IsItem EndsItem _ c.in-Some.ensures.found c.read_let.ensures.read

pub read_item-returns-in-Err-clause-read : goal.read_item-returns-in-Err-clause-read
read_item-returns-in-Err-clause-read size c = ended_fault _ _ c.in-Err.ensures c.read_binds.ensures.read (λ z f. var_at_2 c.in-Some-take_word.ensures.found f) (λ a z d u n. var_end c.in-Some-take_word.ensures.found d u n)

pub read_item-returns-in-Some-take_word-clause-read : goal.read_item-returns-in-Some-take_word-clause-read
read_item-returns-in-Some-take_word-clause-read size c = let d : IsBinds c.in-Ok.found.0 _ _ × EndsItem (next c.in-Ok.found.1.now) = ended_ok IsBinds EndsArgs _ _ _ c.in-Ok.ensures c.read_binds.ensures.read in (var_of c.in-Some-take_word.ensures.found d.0, d.1)

pub read_let-returns-in-Err-clause-read : goal.read_let-returns-in-Err-clause-read
read_let-returns-in-Err-clause-read size c = ended_fault _ _ c.in-Err.ensures c.read_rec_binds.ensures.read (λ z f. let_at_2 {o = 0} refl (let_rec_at_2 c.in-Some.ensures.found f)) (λ a z d u n. let_at_2 {o = 0} refl (let_rec_end c.in-Some.ensures.found d u n))

pub read_let-returns-in-Some-clause-read : goal.read_let-returns-in-Some-clause-read
read_let-returns-in-Some-clause-read size c = let d : IsRecBinds c.in-Ok.found.0 _ _ × EndsItem (next c.in-Ok.found.1.now) = ended_ok IsRecBinds EndsNames _ _ _ c.in-Ok.ensures c.read_rec_binds.ensures.read in (let_of refl (let_rec_of c.in-Some.ensures.found d.0), d.1)

pub read_let-returns-in-Err-ended-clause-read : goal.read_let-returns-in-Err-ended-clause-read
read_let-returns-in-Err-ended-clause-read size c = ended_fault _ _ c.in-Err-ended.ensures c.read_binds.ensures.read (λ z f. let_at_2 {o = 0} refl (let_binds_at_1 c.in_default.ensures.found f)) (λ a z d u n. let_at_2 {o = 0} refl (let_binds_end d u n))

pub read_let-returns-clause-read : goal.read_let-returns-clause-read
read_let-returns-clause-read size c = let d : IsBinds c.in-Ok-ended.found.0 _ _ × EndsItem (next c.in-Ok-ended.found.1.now) = ended_ok IsBinds EndsArgs _ _ _ c.in-Ok-ended.ensures c.read_binds.ensures.read in (let_of refl (let_binds d.0), d.1)

pub read_binds-returns-in-Err-clause-read : goal.read_binds-returns-in-Err-clause-read
read_binds-returns-in-Err-clause-read size c = pass c.in-Err.refused (λ z f. c.loop-found.invariant.leads.fails z (binds_at_1 f)) c.in-Err.ensures.read

pub read_binds-loop-found-preserved : goal.read_binds-loop-found-preserved
read_binds-loop-found-preserved size c = record {
  leads = re c.in-Ok-push.ensures.ok (binds_again c.loop-found.invariant.leads c.in-Ok.ensures.read.0 c.in-Ok.ensures.read.1 c.in-Some.ensures.found);
  shorter = omega (arith, c.in-Ok.ensures.shorter, c.in-Some.ensures.shorter, c.loop-found.invariant.shorter);
}

pub read_binds-returns-in-None-clause-read : goal.read_binds-returns-in-None-clause-read
read_binds-returns-in-None-clause-read size c = (as_tree IsBinds c.in-Ok-push.ensures.ok (binds_last c.loop-found.invariant.leads c.in-Ok.ensures.read.0), ends_args c.in-Ok.found.1.now c.in-Ok.ensures.read.1 c.in-None.ensures.found)

pub read_rec_binds-returns-in-Err-clause-read : goal.read_rec_binds-returns-in-Err-clause-read
read_rec_binds-returns-in-Err-clause-read size c = pass c.in-Err.refused (λ z f. c.loop-found.invariant.leads.fails z (rec_binds_at_1 f)) c.in-Err.ensures.read

pub read_rec_binds-loop-found-preserved : goal.read_rec_binds-loop-found-preserved
read_rec_binds-loop-found-preserved size c = record {
  leads = re c.in-Ok-push.ensures.ok (rec_binds_again c.loop-found.invariant.leads c.in-Ok.ensures.read.0 c.in-Some.ensures.found);
  shorter = omega (arith, c.in-Ok.ensures.shorter, c.in-Some.ensures.shorter, c.loop-found.invariant.shorter);
}

pub read_rec_binds-returns-in-None-clause-read : goal.read_rec_binds-returns-in-None-clause-read
read_rec_binds-returns-in-None-clause-read size c = (as_tree IsRecBinds c.in-Ok-push.ensures.ok (rec_binds_last c.loop-found.invariant.leads c.in-Ok.ensures.read.0), c.in-None.ensures.found)

pub read_args-returns-in-Err-clause-read : goal.read_args-returns-in-Err-clause-read
read_args-returns-in-Err-clause-read size c = pass c.in-Err.refused (λ z f. c.loop-found.invariant.leads.fails z (args_at_1 f)) c.in-Err.ensures.read

pub read_args-loop-found-preserved : goal.read_args-loop-found-preserved
read_args-loop-found-preserved size c = record {
  leads = re c.in-Ok-push.ensures.ok (args_again c.loop-found.invariant.leads c.in-Ok.ensures.read.0 c.in-Ok.ensures.read.1 c.in-Some.ensures.found);
  shorter = omega (arith, c.in-Ok.ensures.shorter, c.in-Some.ensures.shorter, c.loop-found.invariant.shorter);
}

pub read_args-returns-in-None-clause-read : goal.read_args-returns-in-None-clause-read
read_args-returns-in-None-clause-read size c = (as_tree IsArgs c.in-Ok-push.ensures.ok (args_last c.loop-found.invariant.leads c.in-Ok.ensures.read.0), ends_args c.in-Ok.found.1.now c.in-Ok.ensures.read.1 c.in-None.ensures.found)

pub read_fields-returns-in-Err-clause-read : goal.read_fields-returns-in-Err-clause-read
read_fields-returns-in-Err-clause-read size c = pass c.in-Err.refused (λ z f. c.loop-found.invariant.leads.fails z (fields_at_1 f)) c.in-Err.ensures.read

pub read_fields-loop-found-preserved : goal.read_fields-loop-found-preserved
read_fields-loop-found-preserved size c = record {
  leads = re c.in-Ok-push.ensures.ok (fields_again c.loop-found.invariant.leads c.in-Ok.ensures.read.0 c.in-Ok.ensures.read.1 c.in-Some.ensures.found);
  shorter = omega (arith, c.in-Ok.ensures.shorter, c.in-Some.ensures.shorter, c.loop-found.invariant.shorter);
}

pub read_fields-returns-in-None-clause-read : goal.read_fields-returns-in-None-clause-read
read_fields-returns-in-None-clause-read size c = (as_tree IsFields c.in-Ok-push.ensures.ok (fields_last c.loop-found.invariant.leads c.in-Ok.ensures.read.0), ends_args c.in-Ok.found.1.now c.in-Ok.ensures.read.1 c.in-None.ensures.found)

pub read_bind-returns-in-None-clause-read : goal.read_bind-returns-in-None-clause-read
read_bind-returns-in-None-clause-read size c = bind_of_at_1 c.in-None.ensures.found

pub read_bind-returns-in-None-take_word-clause-read : goal.read_bind-returns-in-None-take_word-clause-read
read_bind-returns-in-None-take_word-clause-read size c = bind_of_at_2 c.in-Some.ensures.found c.in-None-take_word.ensures.found

pub read_bind-returns-in-Err-clause-read : goal.read_bind-returns-in-Err-clause-read
read_bind-returns-in-Err-clause-read size c = pass c.in-Err.refused (λ z f. bind_of_at_3 c.in-Some.ensures.found c.in-Some-take_word.ensures.found f) c.in-Err.ensures.read

pub read_bind-returns-clause-read : goal.read_bind-returns-clause-read
read_bind-returns-clause-read size c = (as_tree IsBind c.in-Ok-bind_node.ensures (bind_of_of c.in-Some.ensures.found c.in-Some-take_word.ensures.found c.in-Ok.ensures.read.0), c.in-Ok.ensures.read.1)

pub read_rec_bind-returns-in-None-clause-read : goal.read_rec_bind-returns-in-None-clause-read
read_rec_bind-returns-in-None-clause-read size c = rec_bind_of_at_1 c.in-None.ensures.found

pub read_rec_bind-returns-in-None-take_word-clause-read : goal.read_rec_bind-returns-in-None-take_word-clause-read
read_rec_bind-returns-in-None-take_word-clause-read size c = rec_bind_of_at_2 c.in-Some.ensures.found c.in-None-take_word.ensures.found

pub read_rec_bind-returns-in-Err-clause-read : goal.read_rec_bind-returns-in-Err-clause-read
read_rec_bind-returns-in-Err-clause-read size c = pass c.in-Err.refused (λ z f. rec_bind_of_at_3 c.in-Some.ensures.found c.in-Some-take_word.ensures.found f) c.in-Err.ensures.read

pub read_rec_bind-returns-clause-read : goal.read_rec_bind-returns-clause-read
read_rec_bind-returns-clause-read size c = (as_tree IsRecBind c.in-Ok-rec_bind_node.ensures (rec_bind_of_of c.in-Some.ensures.found c.in-Some-take_word.ensures.found c.in-Ok.ensures.read.0), tt)

pub read_field-returns-in-None-clause-read : goal.read_field-returns-in-None-clause-read
read_field-returns-in-None-clause-read size c = field_of_at_1 c.in-None.ensures.found

pub read_field-returns-in-None-take_word-clause-read : goal.read_field-returns-in-None-take_word-clause-read
read_field-returns-in-None-take_word-clause-read size c = field_of_at_2 c.in-Some.ensures.found c.in-None-take_word.ensures.found

pub read_field-returns-in-Err-clause-read : goal.read_field-returns-in-Err-clause-read
read_field-returns-in-Err-clause-read size c = pass c.in-Err.refused (λ z f. field_of_at_3 c.in-Some.ensures.found c.in-Some-take_word.ensures.found f) c.in-Err.ensures.read

pub read_field-returns-clause-read : goal.read_field-returns-clause-read
read_field-returns-clause-read size c = (as_tree IsField c.in-Ok-field_node.ensures (field_of_of c.in-Some.ensures.found c.in-Some-take_word.ensures.found c.in-Ok.ensures.read.0), c.in-Ok.ensures.read.1)

pub read_other-returns-in-Err-clause-read : goal.read_other-returns-in-Err-clause-read
read_other-returns-in-Err-clause-read size c = pass c.in-Err.refused (λ z f. plain_at_1 c.requires.no_let c.requires.no_var f) c.in-Err.ensures.read

pub read_other-returns-in-Err-ended-clause-read : goal.read_other-returns-in-Err-ended-clause-read
read_other-returns-in-Err-ended-clause-read size c = rest_fault _ _ c.in-Err-ended.ensures c.read_rest.ensures.read (λ z f. plain_at_2 c.in-Ok.ensures.read.0 c.in-Ok.ensures.read.1 c.in_default.ensures.found f) (λ v z h u n. plain_end c.in-Ok.ensures.read.0 c.in-Ok.ensures.read.1 c.in_default.ensures.found (h _ (first_level c.in-Ok-suffixed.ensures c.in-Ok.ensures.read.0)) u n)

pub read_other-returns-in_default-clause-read : goal.read_other-returns-in_default-clause-read
read_other-returns-in_default-clause-read size c = let d : IsExpr c.in-Ok-ended.found.0 _ _ × EndsItem (next c.in-Ok-ended.found.1.now) = rest_ok _ _ c.in-Ok-ended.ensures c.read_rest.ensures.read (first_level c.in-Ok-suffixed.ensures c.in-Ok.ensures.read.0) in (plain d.0, d.1)

pub read_other-returns-in-Err-ended-2-clause-read : goal.read_other-returns-in-Err-ended-2-clause-read
read_other-returns-in-Err-ended-2-clause-read size c = ended_fault _ _ c.in-Err-ended-2.ensures c.read_field_body.ensures.read (λ z f. field_fails c.args.tokens.now c.in-Ok.found.0 c.in-Field.target (targets_as c.args.tokens.now c.in-Ok.found.0 {u = target.Field c.in-Field.target} c.in-Field.is c.in-Ok-target_of.ensures) c.in-Ok.ensures.read.0 c.in-Some.ensures.found f) (λ b z d u n. field_end c.args.tokens.now c.in-Ok.found.0 c.in-Field.target (targets_as c.args.tokens.now c.in-Ok.found.0 {u = target.Field c.in-Field.target} c.in-Field.is c.in-Ok-target_of.ensures) c.in-Ok.ensures.read.0 c.in-Some.ensures.found d u n)

pub read_other-returns-in-Ok-field_assignment-clause-read : goal.read_other-returns-in-Ok-field_assignment-clause-read
read_other-returns-in-Ok-field_assignment-clause-read size c = let d : IsFieldBody c.in-Ok-ended-2.found.0 _ _ × EndsItem (next c.in-Ok-ended-2.found.1.now) = ended_ok IsFieldBody EndsExpr _ _ _ c.in-Ok-ended-2.ensures c.read_field_body.ensures.read in (as_tree IsItem c.in-Ok-field_assignment.ensures (field_item c.args.tokens.now c.in-Ok.found.0 c.in-Field.target (targets_as c.args.tokens.now c.in-Ok.found.0 {u = target.Field c.in-Field.target} c.in-Field.is c.in-Ok-target_of.ensures) c.in-Ok.ensures.read.0 c.in-Some.ensures.found c.place_of-place.ensures d.0), d.1)

pub read_other-returns-in-Err-ended-3-clause-read : goal.read_other-returns-in-Err-ended-3-clause-read
read_other-returns-in-Err-ended-3-clause-read size c = ended_fault _ _ c.in-Err-ended-3.ensures c.read_expr.ensures.read (λ z f. value_fails c.args.tokens.now c.in-Ok.found.0 c.in-Value.target (targets_as c.args.tokens.now c.in-Ok.found.0 {u = target.Value c.in-Value.target} c.in-Value.is c.in-Ok-target_of.ensures) c.in-Ok.ensures.read.0 c.in-Some.ensures.found f) (λ b z d u n. value_end c.args.tokens.now c.in-Ok.found.0 c.in-Value.target (targets_as c.args.tokens.now c.in-Ok.found.0 {u = target.Value c.in-Value.target} c.in-Value.is c.in-Ok-target_of.ensures) c.in-Ok.ensures.read.0 c.in-Some.ensures.found d u n)

pub read_other-returns-in-Ok-assignment-clause-read : goal.read_other-returns-in-Ok-assignment-clause-read
read_other-returns-in-Ok-assignment-clause-read size c = let d : IsExpr c.in-Ok-ended-3.found.0 _ _ × EndsItem (next c.in-Ok-ended-3.found.1.now) = ended_ok IsExpr EndsExpr _ _ _ c.in-Ok-ended-3.ensures c.read_expr.ensures.read in (as_tree IsItem c.in-Ok-assignment.ensures (value_item c.args.tokens.now c.in-Ok.found.0 c.in-Value.target (targets_as c.args.tokens.now c.in-Ok.found.0 {u = target.Value c.in-Value.target} c.in-Value.is c.in-Ok-target_of.ensures) c.in-Ok.ensures.read.0 c.in-Some.ensures.found c.place_of-place.ensures d.0), d.1)

pub read_other-returns-in-Fixed-clause-read : goal.read_other-returns-in-Fixed-clause-read
read_other-returns-in-Fixed-clause-read size c = let g : IsNoTarget c.args.tokens.now c.in-Ok.found.0.suffixes = targets_as c.args.tokens.now c.in-Ok.found.0 {u = target.Fixed} c.in-Fixed.is c.in-Ok-target_of.ensures in no_target_fails c.in-Ok.ensures.read.0 c.in-Some.ensures.found g.no_name g.no_field g.no_item

pub read_field_body-returns-in-Some-clause-read : goal.read_field_body-returns-in-Some-clause-read
read_field_body-returns-in-Some-clause-read size c = reads_at IsFieldBody EndsExpr _ c.in-Some.ensures.found c.read_method.ensures.read

pub read_field_body-returns-in-Some-take_word-clause-read : goal.read_field_body-returns-in-Some-take_word-clause-read
read_field_body-returns-in-Some-take_word-clause-read size c = reads_at IsFieldBody EndsExpr _ c.in-Some-take_word.ensures.found c.read_alias.ensures.read

pub read_field_body-returns-in-Err-clause-read : goal.read_field_body-returns-in-Err-clause-read
read_field_body-returns-in-Err-clause-read size c = pass c.in-Err.refused (λ z f. value_at_1 c.in_default.ensures.found c.in_default-take_word.ensures.found f) c.in-Err.ensures.read

pub read_field_body-returns-clause-read : goal.read_field_body-returns-clause-read
read_field_body-returns-clause-read size c = (as_tree IsFieldBody c.value_node.ensures (value c.in-Ok.ensures.read.0), c.in-Ok.ensures.read.1)

pub read_method-returns-in-None-clause-read : goal.read_method-returns-in-None-clause-read
read_method-returns-in-None-clause-read size c = method_at_1 refl (meth_at_2 refl c.in-None.ensures.found)

pub read_method-returns-in-Err-clause-read : goal.read_method-returns-in-Err-clause-read
read_method-returns-in-Err-clause-read size c = pass c.in-Err.refused (λ z f. close_cases (λ i. method_at_1 refl (meth_at_3 refl c.in-Some.ensures.found i)) (λ a d u n. method_at_1 refl (meth_at_4 refl c.in-Some.ensures.found d u n)) f) c.in-Err.ensures.read

pub read_method-returns-in-Err-read_body-clause-read : goal.read_method-returns-in-Err-read_body-clause-read
read_method-returns-in-Err-read_body-clause-read size c = pass c.in-Err-read_body.refused (λ z f. close_cases (λ i. method_at_1 refl (meth_at_5 refl c.in-Some.ensures.found c.in-Ok.ensures.read.1 tt refl i)) (λ a d u n. method_at_1 refl (meth_at_6 refl c.in-Some.ensures.found c.in-Ok.ensures.read.1 tt refl d u n)) f) c.in-Err-read_body.ensures.read

pub read_method-returns-then-not-ends_expr-clause-read : goal.read_method-returns-then-not-ends_expr-clause-read
read_method-returns-then-not-ends_expr-clause-read size c = method_end refl (meth_of refl c.in-Some.ensures.found c.in-Ok.ensures.read.1 refl c.in-Ok-read_body.ensures.read.1 refl) (not_true c.if-not-ends_expr.true c.ends_expr.ensures)

pub read_method-returns-clause-read : goal.read_method-returns-clause-read
read_method-returns-clause-read size c = (as_tree IsFieldBody c.method_node.ensures (method (meth_of refl c.in-Some.ensures.found c.in-Ok.ensures.read.1 refl c.in-Ok-read_body.ensures.read.1 refl)), (is_true c.if-not-ends_expr.false c.ends_expr.ensures))

pub read_alias-returns-in-None-clause-read : goal.read_alias-returns-in-None-clause-read
read_alias-returns-in-None-clause-read size c = alias_at_2 refl c.in-None.ensures.found

pub read_alias-returns-in-None-take_word-clause-read : goal.read_alias-returns-in-None-take_word-clause-read
read_alias-returns-in-None-take_word-clause-read size c = alias_at_3 refl c.in-Some.ensures.found c.in-None-take_word.ensures.found

pub read_alias-returns-in-Err-clause-read : goal.read_alias-returns-in-Err-clause-read
read_alias-returns-in-Err-clause-read size c = pass c.in-Err.refused (λ z f. close_cases (λ i. alias_at_4 refl c.in-Some.ensures.found c.in-Some-take_word.ensures.found i) (λ a d u n. alias_at_5 refl c.in-Some.ensures.found c.in-Some-take_word.ensures.found d u n) f) c.in-Err.ensures.read

pub read_alias-returns-then-not-ends_expr-clause-read : goal.read_alias-returns-then-not-ends_expr-clause-read
read_alias-returns-then-not-ends_expr-clause-read size c = alias_end refl c.in-Some.ensures.found c.in-Some-take_word.ensures.found c.in-Ok.ensures.read.1 tt refl (not_true c.if-not-ends_expr.true c.ends_expr.ensures)

pub read_alias-returns-clause-read : goal.read_alias-returns-clause-read
read_alias-returns-clause-read size c = (as_tree IsFieldBody c.in-Ok-alias_node.ensures (alias_of refl c.in-Some.ensures.found c.in-Some-take_word.ensures.found c.in-Ok.ensures.read.1 refl), (is_true c.if-not-ends_expr.false c.ends_expr.ensures))

pub read_proc-returns-in_default-clause-read : goal.read_proc-returns-in_default-clause-read
read_proc-returns-in_default-clause-read size c = proc_at_1 c.in_default.ensures.found

pub read_proc-returns-in-None-clause-read : goal.read_proc-returns-in-None-clause-read
read_proc-returns-in-None-clause-read size c = proc_at_2 c.in-Some.ensures.found c.in-None.ensures.found

pub read_proc-returns-in-Err-clause-read : goal.read_proc-returns-in-Err-clause-read
read_proc-returns-in-Err-clause-read size c = pass c.in-Err.refused (λ z f. proc_at_3 c.in-Some.ensures.found c.in-Some-take_word.ensures.found f) c.in-Err.ensures.read

pub read_proc-returns-in-Err-read_body-clause-read : goal.read_proc-returns-in-Err-read_body-clause-read
read_proc-returns-in-Err-read_body-clause-read size c = pass c.in-Err-read_body.refused (λ z f. close_cases (λ i. proc_at_4 c.in-Some.ensures.found c.in-Some-take_word.ensures.found c.in-Ok.ensures.read.0 i) (λ a d u n. proc_at_5 c.in-Some.ensures.found c.in-Some-take_word.ensures.found c.in-Ok.ensures.read.0 d u n) f) c.in-Err-read_body.ensures.read

pub read_proc-returns-clause-read : goal.read_proc-returns-clause-read
read_proc-returns-clause-read size c = (procs.proc_of c.in-Some.ensures.found c.in-Some-take_word.ensures.found c.in-Ok.ensures.read.0 c.in-Ok-read_body.ensures.read.1 refl, tt)

pub read_expr-returns-clause-read : goal.read_expr-returns-clause-read
read_expr-returns-clause-read size c = top_level _ _ c.read_level.ensures.read

pub read_level-returns-in-Err-clause-read : goal.read_level-returns-in-Err-clause-read
read_level-returns-in-Err-clause-read size c = pass c.in-Err.refused (λ z f. level_fails c.if-level-eq0.true (operand_at_1 f)) c.in-Err.ensures.read

pub read_level-returns-then-level-eq0-clause-read : goal.read_level-returns-then-level-eq0-clause-read
read_level-returns-then-level-eq0-clause-read size c = level_by c.if-level-eq0.true (first_level c.in-Ok-suffixed.ensures c.in-Ok.ensures.read.0, c.in-Ok.ensures.read.1)

pub read_level-returns-in-Err-read_level-clause-read : goal.read_level-returns-in-Err-read_level-clause-read
read_level-returns-in-Err-read_level-clause-read size c = pass c.in-Err-read_level.refused (λ z f. level_fails (up c.if-level-eq0.false) (level_at_1 f)) c.in-Err-read_level.ensures.read

pub read_level-returns-in-Err-read_links-clause-read : goal.read_level-returns-in-Err-read_links-clause-read
read_level-returns-in-Err-read_links-clause-read size c = pass c.in-Err-read_links.refused (λ z f. level_fails (up c.if-level-eq0.false) (level_at_2 c.in-Ok-read_level.ensures.read.0 c.in-Ok-read_level.ensures.read.1 f)) c.in-Err-read_links.ensures.read

pub read_level-returns-clause-read : goal.read_level-returns-clause-read
read_level-returns-clause-read size c = level_by (up c.if-level-eq0.false) (as_tree (IsLevel _) c.in-Ok-chained.ensures (level c.in-Ok-read_level.ensures.read.0 c.in-Ok-read_links.ensures.read.0), c.in-Ok-read_links.ensures.read.1)

pub read_rest-read_rest-requires : goal.read_rest-read_rest-requires
read_rest-read_rest-requires size c = let e : EndsLevel (c.args.level + 1) (next c.in-Ok.found.1.now) = ends_up c.args.level c.in-Ok.found.1.now c.in-Ok.ensures.read.1 in search rules

pub read_links-returns-in-Err-clause-read : goal.read_links-returns-in-Err-clause-read
read_links-returns-in-Err-clause-read size c = pass c.in-Err.refused (λ z f. c.loop-operator.invariant.leads.fails z (one_link_at_2 c.in-Some.ensures.found.2 c.in-Some.ensures.found.1 (level_fails (sym c.operand_level.ensures) f))) c.in-Err.ensures.read

pub read_links-loop-operator-preserved : goal.read_links-loop-operator-preserved
read_links-loop-operator-preserved size c = record {
  leads = let d = level_by (sym c.operand_level.ensures) c.in-Ok.ensures.read in re c.in-Ok-push.ensures.ok (one_link_step c.loop-operator.invariant.leads c.in-Some.ensures.found.2 c.in-Some.ensures.found.1 d.0 d.1);
  ends = (level_by (sym c.operand_level.ensures) c.in-Ok.ensures.read).1;
  shorter = omega (arith, c.in-Some.ensures.shorter, c.in-Ok.ensures.shorter, c.loop-operator.invariant.shorter);
}

pub read_links-returns-clause-read : goal.read_links-returns-clause-read
read_links-returns-clause-read size c = (done c.loop-operator.invariant.leads no_link, ends_links c.args.level c.loop-operator.rest.now c.loop-operator.invariant.ends c.in_default.ensures.found)

pub read_rest-returns-then-level-eq5-clause-read : goal.read_rest-returns-then-level-eq5-clause-read
read_rest-returns-then-level-eq5-clause-read size c = rest_top _ _ _ c.if-level-eq5.true c.requires.ends

pub read_rest-returns-in-Err-clause-read : goal.read_rest-returns-in-Err-clause-read
read_rest-returns-in-Err-clause-read size c = pass c.in-Err.refused (λ z f. rest_at_1 (omega (arith, c.requires.small, c.if-level-eq5.false)) f) c.in-Err.ensures.read

pub read_rest-returns-clause-read : goal.read_rest-returns-clause-read
read_rest-returns-clause-read size c = rest_more _ _ _ _ _ _ _ _ (omega (arith, c.requires.small, c.if-level-eq5.false)) (omega arith) c.in-Ok-chained.ensures c.in-Ok.ensures.read.0 c.in-Ok.ensures.read.1 c.read_rest.ensures.read

pub read_chain-returns-in-Err-clause-read : goal.read_chain-returns-in-Err-clause-read
read_chain-returns-in-Err-clause-read size c = pass c.in-Err.refused (λ z f. chain_at_1 f) c.in-Err.ensures.read

pub read_chain-returns-in-Err-read_suffixes-clause-read : goal.read_chain-returns-in-Err-read_suffixes-clause-read
read_chain-returns-in-Err-read_suffixes-clause-read size c = pass c.in-Err-read_suffixes.refused (λ z f. chain_at_2 c.in-Ok.ensures.read.0 f) c.in-Err-read_suffixes.ensures.read

pub read_chain-returns-clause-read : goal.read_chain-returns-clause-read
read_chain-returns-clause-read size c = (chain c.in-Ok.ensures.read.0 c.in-Ok-read_suffixes.ensures.read.0, c.in-Ok-read_suffixes.ensures.read.1)

pub read_suffixes-returns-in-Err-clause-read : goal.read_suffixes-returns-in-Err-clause-read
read_suffixes-returns-in-Err-clause-read size c = pass c.in-Err.refused (λ z f. c.loop-alloc.invariant.leads.fails z (one_suffix_at_1 (begun c.loop-alloc-test.true c.begins_suffix.ensures) f)) c.in-Err.ensures.read

pub read_suffixes-loop-alloc-preserved : goal.read_suffixes-loop-alloc-preserved
read_suffixes-loop-alloc-preserved size c = record {
  leads = re c.in-Ok-push.ensures.ok (one_suffix_step c.loop-alloc.invariant.leads c.in-Ok.ensures.read.0);
  shorter = omega (arith, c.in-Ok.ensures.shorter, c.loop-alloc.invariant.shorter);
}

pub read_suffixes-returns-clause-read : goal.read_suffixes-returns-clause-read
read_suffixes-returns-clause-read size c = (done c.loop-alloc.invariant.leads no_suffix, not_begun c.loop-alloc-test.false c.begins_suffix.ensures)

pub read_suffix-returns-in-Err-clause-read : goal.read_suffix-returns-in-Err-clause-read
read_suffix-returns-in-Err-clause-read size c = pass c.in-Err.refused (λ z f. apply_at_2 c.in-Some.ensures.found f) c.in-Err.ensures.read

pub read_suffix-returns-in-Some-clause-read : goal.read_suffix-returns-in-Some-clause-read
read_suffix-returns-in-Some-clause-read size c = (as_tree IsSuffix c.application.ensures (apply_of c.in-Some.ensures.found c.in-Ok.ensures.read.0), tt)

pub read_suffix-returns-in-None-clause-read : goal.read_suffix-returns-in-None-clause-read
read_suffix-returns-in-None-clause-read size c = dotted_at_2 c.in-Some-take_word.ensures.found c.in-None.ensures.found

pub read_suffix-returns-in-Some-take_word-clause-read : goal.read_suffix-returns-in-Some-take_word-clause-read
read_suffix-returns-in-Some-take_word-clause-read size c = dotted_reads _ _ c.in-Some-take_word.ensures.found c.in-Some-take_name.ensures.found c.read_dotted.ensures.read

pub read_suffix-returns-in_default-take_word-2-clause-read : goal.read_suffix-returns-in_default-take_word-2-clause-read
read_suffix-returns-in_default-take_word-2-clause-read size c = suffix_stop (no_suffix_word c.args.tokens.now c.in_default.ensures.found c.in_default-take_word.ensures.found c.in_default-take_word-2.ensures.found)

pub read_suffix-returns-in-Err-read_until-clause-read : goal.read_suffix-returns-in-Err-read_until-clause-read
read_suffix-returns-in-Err-read_until-clause-read size c = pass c.in-Err-read_until.refused (λ z f. close_cases (λ i. index_at_2 c.in-Some-take_word-2.ensures.found i) (λ a d u n. index_at_3 c.in-Some-take_word-2.ensures.found d u n) f) c.in-Err-read_until.ensures.read

pub read_suffix-returns-clause-read : goal.read_suffix-returns-clause-read
read_suffix-returns-clause-read size c = (as_tree IsSuffix c.index_node.ensures (index_of c.in-Some-take_word-2.ensures.found c.in-Ok-read_until.ensures.read.1 refl), tt)

pub read_dotted-returns-in_default-clause-read : goal.read_dotted-returns-in_default-clause-read
read_dotted-returns-in_default-clause-read size c = (as_tree (IsDotted c.args.name.now c.args.place) c.in-Ok.ensures (select (no_paren c.args.tokens.now c.in_default.ensures.found)), tt)

pub read_dotted-returns-in-Err-read_call-clause-read : goal.read_dotted-returns-in-Err-read_call-clause-read
read_dotted-returns-in-Err-read_call-clause-read size c = pass c.in-Err-read_call.refused (λ z f. invoke_at_2 c.in-Some.ensures.found f) c.in-Err-read_call.ensures.read

pub read_dotted-returns-clause-read : goal.read_dotted-returns-clause-read
read_dotted-returns-clause-read size c = (as_tree (IsDotted c.args.name.now c.args.place) c.in-Ok-invocation.ensures (invoke_of c.in-Some.ensures.found c.in-Ok-read_call.ensures.read.0), tt)

pub read_call-returns-in-Some-clause-read : goal.read_call-returns-in-Some-clause-read
read_call-returns-in-Some-clause-read size c = (as_tree IsCall c.new.ensures (move IsCall _ _ _ _ c.in-Some.ensures.found no_argument), tt)

pub read_call-returns-in-Err-clause-read : goal.read_call-returns-in-Err-clause-read
read_call-returns-in-Err-clause-read size c = pass c.in-Err.refused (λ z f. arguments_at_1 c.in_default.ensures.found f) c.in-Err.ensures.read

pub read_call-returns-in-None-clause-read : goal.read_call-returns-in-None-clause-read
read_call-returns-in-None-clause-read size c = arguments_at_2 c.in-Ok.ensures.read.0 c.in-Ok.ensures.read.1 c.in-None.ensures.found

pub read_call-returns-clause-read : goal.read_call-returns-clause-read
read_call-returns-clause-read size c = (arguments_of c.in-Ok.ensures.read.0 c.in-Some-take_word.ensures.found, tt)

pub read_array-returns-in-Some-clause-read : goal.read_array-returns-in-Some-clause-read
read_array-returns-in-Some-clause-read size c = (as_tree IsArray c.new.ensures (move IsArray _ _ _ _ c.in-Some.ensures.found no_element), tt)

pub read_array-returns-in-Err-clause-read : goal.read_array-returns-in-Err-clause-read
read_array-returns-in-Err-clause-read size c = pass c.in-Err.refused (λ z f. elements_at_1 c.in_default.ensures.found f) c.in-Err.ensures.read

pub read_array-returns-in-None-clause-read : goal.read_array-returns-in-None-clause-read
read_array-returns-in-None-clause-read size c = elements_at_2 c.in-Ok.ensures.read.0 c.in-Ok.ensures.read.1 c.in-None.ensures.found

pub read_array-returns-clause-read : goal.read_array-returns-clause-read
read_array-returns-clause-read size c = (elements_of c.in-Ok.ensures.read.0 c.in-Some-take_word.ensures.found, tt)

pub read_prim-returns-in-Procedure-clause-read : goal.read_prim-returns-in-Procedure-clause-read
read_prim-returns-in-Procedure-clause-read size c = c.read_procedure.ensures.read

pub read_prim-returns-in-Paren-clause-read : goal.read_prim-returns-in-Paren-clause-read
read_prim-returns-in-Paren-clause-read size c = reads_at IsPrim Anything _ (opened_by c.in-Some.ensures.found c.in-Paren.is) c.read_paren.ensures.read

pub read_prim-returns-in-Clone-clause-read : goal.read_prim-returns-in-Clone-clause-read
read_prim-returns-in-Clone-clause-read size c = reads_at IsPrim Anything _ (opened_by c.in-Some.ensures.found c.in-Clone.is) c.read_clone.ensures.read

pub read_prim-returns-in-For-clause-read : goal.read_prim-returns-in-For-clause-read
read_prim-returns-in-For-clause-read size c = reads_at IsPrim Anything _ (opened_by c.in-Some.ensures.found c.in-For.is) c.read_for.ensures.read

pub read_prim-returns-in-Foreach-clause-read : goal.read_prim-returns-in-Foreach-clause-read
read_prim-returns-in-Foreach-clause-read size c = reads_at IsPrim Anything _ (opened_by c.in-Some.ensures.found c.in-Foreach.is) c.read_foreach.ensures.read

pub read_prim-returns-in-If-clause-read : goal.read_prim-returns-in-If-clause-read
read_prim-returns-in-If-clause-read size c = reads_at IsPrim Anything _ (opened_by c.in-Some.ensures.found c.in-If.is) c.read_if.ensures.read

pub read_prim-returns-in-Loop-clause-read : goal.read_prim-returns-in-Loop-clause-read
read_prim-returns-in-Loop-clause-read size c = reads_at IsPrim Anything _ (opened_by c.in-Some.ensures.found c.in-Loop.is) c.read_loop.ensures.read

pub read_prim-returns-in-Raise-clause-read : goal.read_prim-returns-in-Raise-clause-read
read_prim-returns-in-Raise-clause-read size c = reads_at IsPrim Anything _ (opened_by c.in-Some.ensures.found c.in-Raise.is) c.read_raise.ensures.read

pub read_prim-returns-in-Redirect-clause-read : goal.read_prim-returns-in-Redirect-clause-read
read_prim-returns-in-Redirect-clause-read size c = reads_at IsPrim Anything _ (opened_by c.in-Some.ensures.found c.in-Redirect.is) c.read_redirect.ensures.read

pub read_prim-returns-in-Try-clause-read : goal.read_prim-returns-in-Try-clause-read
read_prim-returns-in-Try-clause-read size c = reads_at IsPrim Anything _ (opened_by c.in-Some.ensures.found c.in-Try.is) c.read_try.ensures.read

pub read_prim-returns-in-Watch-clause-read : goal.read_prim-returns-in-Watch-clause-read
read_prim-returns-in-Watch-clause-read size c = reads_at IsPrim Anything _ (opened_by c.in-Some.ensures.found c.in-Watch.is) c.read_watch.ensures.read

pub read_prim-returns-in-Bracket-clause-read : goal.read_prim-returns-in-Bracket-clause-read
read_prim-returns-in-Bracket-clause-read size c = reads_at IsPrim Anything _ (opened_by c.in-Some.ensures.found c.in-Bracket.is) c.read_array_at.ensures.read

pub read_prim-returns-in-Brace-clause-read : goal.read_prim-returns-in-Brace-clause-read
read_prim-returns-in-Brace-clause-read size c = reads_at IsPrim Anything _ (opened_by c.in-Some.ensures.found c.in-Brace.is) c.read_object.ensures.read

pub read_procedure-returns-in-Err-clause-read : goal.read_procedure-returns-in-Err-clause-read
read_procedure-returns-in-Err-clause-read size c = pass c.in-Err.refused (λ z f. prim_proc _ c.requires f) c.in-Err.ensures.read

pub read_procedure-returns-clause-read : goal.read_procedure-returns-clause-read
read_procedure-returns-clause-read size c = (as_tree IsPrim c.in-Ok-procedure_node.ensures (proc_of c.in-Ok.ensures.read.0), tt)

pub read_paren-returns-clause-read : goal.read_paren-returns-clause-read
read_paren-returns-clause-read size c = paren_reads _ _ _ c.read_until.ensures.read

pub read_array_at-returns-in-Err-clause-read : goal.read_array_at-returns-in-Err-clause-read
read_array_at-returns-in-Err-clause-read size c = pass c.in-Err.refused (λ z f. array_at_2 refl f) c.in-Err.ensures.read

pub read_array_at-returns-clause-read : goal.read_array_at-returns-clause-read
read_array_at-returns-clause-read size c = (as_tree IsPrim c.array_node.ensures (array_of refl c.in-Ok.ensures.read.0), tt)

pub read_object-returns-in-Closed-clause-read : goal.read_object-returns-in-Closed-clause-read
read_object-returns-in-Closed-clause-read size c = (as_tree IsPrim c.object_node.ensures (object_of refl (empty_object c.new.ensures c.in-Closed.ensures.head)), tt)

pub read_object-returns-in-Err-clause-read : goal.read_object-returns-in-Err-clause-read
read_object-returns-in-Err-clause-read size c = pass c.in-Err.refused (λ z f. object_at_2 refl (c.in-Fields.ensures.head.fails z f)) c.in-Err.ensures.read

pub read_object-returns-in-None-clause-read : goal.read_object-returns-in-None-clause-read
read_object-returns-in-None-clause-read size c = object_at_2 refl (c.in-Fields.ensures.head.unclosed _ _ c.in-Ok.ensures.read.0 c.in-Ok.ensures.read.1 c.in-None.ensures.found)

pub read_object-returns-in-Some-clause-read : goal.read_object-returns-in-Some-clause-read
read_object-returns-in-Some-clause-read size c = (as_tree IsPrim c.object_node-in-Fields.ensures (object_of refl (c.in-Fields.ensures.head.found _ _ _ (upto IsFields c.in-Some.ensures.found c.in-Ok.ensures.read.0))), tt)

pub read_object-returns-in-Fault-clause-read : goal.read_object-returns-in-Fault-clause-read
read_object-returns-in-Fault-clause-read size c = object_at_2 refl c.in-Fault.ensures.head

pub read_if-returns-in-Err-clause-read : goal.read_if-returns-in-Err-clause-read
read_if-returns-in-Err-clause-read size c = pass c.in-Err.refused (λ z f. if_at_2 refl f) c.in-Err.ensures.read

pub read_if-returns-in-Err-read_elsifs-clause-read : goal.read_if-returns-in-Err-read_elsifs-clause-read
read_if-returns-in-Err-read_elsifs-clause-read size c = pass c.in-Err-read_elsifs.refused (λ z f. if_at_3 refl c.in-Ok.ensures.read.0 c.in-Ok.ensures.read.1 f) c.in-Err-read_elsifs.ensures.read

pub read_if-returns-in-Err-read_else-clause-read : goal.read_if-returns-in-Err-read_else-clause-read
read_if-returns-in-Err-read_else-clause-read size c = pass c.in-Err-read_else.refused (λ z f. if_at_4 refl c.in-Ok.ensures.read.0 c.in-Ok.ensures.read.1 c.in-Ok-read_elsifs.ensures.read.0 c.in-Ok-read_elsifs.ensures.read.1 f) c.in-Err-read_else.ensures.read

pub read_if-returns-clause-read : goal.read_if-returns-clause-read
read_if-returns-clause-read size c = (as_tree IsPrim c.if_node.ensures (if_arms c.in-Ok-read_else.found.0 c.in-Ok-front.ensures (if_of refl c.in-Ok.ensures.read.0 c.in-Ok-read_elsifs.ensures.read.0 c.in-Ok-read_else.ensures.read.0)), tt)

pub read_arm-returns-in-Err-clause-read : goal.read_arm-returns-in-Err-clause-read
read_arm-returns-in-Err-clause-read size c = pass c.in-Err.refused (λ z f. close_cases (λ i. arm_of_at_1 i) (λ a d u n. arm_of_at_2 d u n) f) c.in-Err.ensures.read

pub read_arm-returns-in-Err-read_block-clause-read : goal.read_arm-returns-in-Err-read_block-clause-read
read_arm-returns-in-Err-read_block-clause-read size c = pass c.in-Err-read_block.refused (λ z f. arm_of_at_3 c.in-Ok.ensures.read.1 tt refl f) c.in-Err-read_block.ensures.read

pub read_arm-returns-clause-read : goal.read_arm-returns-clause-read
read_arm-returns-clause-read size c = (arm_of_of c.in-Ok.ensures.read.1 refl c.in-Ok-read_block.ensures.read.0, c.in-Ok-read_block.ensures.read.1)

pub read_guard-returns-in-Err-clause-read : goal.read_guard-returns-in-Err-clause-read
read_guard-returns-in-Err-clause-read size c = pass c.in-Err.refused (λ z f. close_cases (λ i. guard_of_at_1 i) (λ a d u n. guard_of_at_2 d u n) f) c.in-Err.ensures.read

pub read_guard-returns-in-Err-read_block-clause-read : goal.read_guard-returns-in-Err-read_block-clause-read
read_guard-returns-in-Err-read_block-clause-read size c = pass c.in-Err-read_block.refused (λ z f. guard_of_at_3 c.in-Ok.ensures.read.1 tt refl f) c.in-Err-read_block.ensures.read

pub read_guard-returns-clause-read : goal.read_guard-returns-clause-read
read_guard-returns-clause-read size c = (guard_of_of c.in-Ok.ensures.read.1 refl c.in-Ok-read_block.ensures.read.0, c.in-Ok-read_block.ensures.read.1)

pub read_elsifs-returns-in-Err-clause-read : goal.read_elsifs-returns-in-Err-clause-read
read_elsifs-returns-in-Err-clause-read size c = pass c.in-Err.refused (λ z f. c.loop-behind.invariant.leads.fails z (one_elsif_at_2 c.in-Some.ensures.found f)) c.in-Err.ensures.read

pub read_elsifs-loop-behind-preserved : goal.read_elsifs-loop-behind-preserved
read_elsifs-loop-behind-preserved size c = record {
  leads = re c.in-Ok-with_arm.ensures (one_elsif_step c.loop-behind.invariant.leads c.in-Some.ensures.found c.in-Ok.ensures.read.0 c.in-Ok.ensures.read.1);
  ends = c.in-Ok.ensures.read.1;
  shorter = omega (arith, c.in-Some.ensures.shorter, c.in-Ok.ensures.shorter, c.loop-behind.invariant.shorter);
}

pub read_elsifs-returns-clause-read : goal.read_elsifs-returns-clause-read
read_elsifs-returns-clause-read size c = (done c.loop-behind.invariant.leads no_elsif, block_elsifs c.loop-behind.rest.now c.loop-behind.invariant.ends c.in_default.ensures.found)

pub read_guards-returns-in-Err-clause-read : goal.read_guards-returns-in-Err-clause-read
read_guards-returns-in-Err-clause-read size c = pass c.in-Err.refused (λ z f. c.loop-behind.invariant.leads.fails z (one_guard_at_2 c.in-Some.ensures.found f)) c.in-Err.ensures.read

pub read_guards-loop-behind-preserved : goal.read_guards-loop-behind-preserved
read_guards-loop-behind-preserved size c = record {
  leads = re c.in-Ok-with_arm.ensures (one_guard_step c.loop-behind.invariant.leads c.in-Some.ensures.found c.in-Ok.ensures.read.0 c.in-Ok.ensures.read.1);
  ends = c.in-Ok.ensures.read.1;
  shorter = omega (arith, c.in-Some.ensures.shorter, c.in-Ok.ensures.shorter, c.loop-behind.invariant.shorter);
}

pub read_guards-returns-clause-read : goal.read_guards-returns-clause-read
read_guards-returns-clause-read size c = (done c.loop-behind.invariant.leads no_guard, block_guards c.loop-behind.rest.now c.loop-behind.invariant.ends c.in_default.ensures.found)

pub read_else-returns-in-Some-clause-read : goal.read_else-returns-in-Some-clause-read
read_else-returns-in-Some-clause-read size c = (move IsElse _ _ _ _ c.in-Some.ensures.found no_else, tt)

pub read_else-returns-in-None-clause-read : goal.read_else-returns-in-None-clause-read
read_else-returns-in-None-clause-read size c = else_stop c.in_default.ensures.found c.in-None.ensures.found

pub read_else-returns-in-Err-clause-read : goal.read_else-returns-in-Err-clause-read
read_else-returns-in-Err-clause-read size c = pass c.in-Err.refused (λ z f. close_cases (λ i. else_at_2 c.in-Some-take_word.ensures.found i) (λ a d u n. else_at_3 c.in-Some-take_word.ensures.found d u n) f) c.in-Err.ensures.read

pub read_else-returns-clause-read : goal.read_else-returns-clause-read
read_else-returns-clause-read size c = (else_of c.in-Some-take_word.ensures.found c.in-Ok.ensures.read.1 refl, tt)

pub read_loop-returns-in-Err-clause-read : goal.read_loop-returns-in-Err-clause-read
read_loop-returns-in-Err-clause-read size c = pass c.in-Err.refused (λ z f. close_cases (λ i. loop_at_2 refl i) (λ a d u n. loop_at_3 refl d u n) f) c.in-Err.ensures.read

pub read_loop-returns-clause-read : goal.read_loop-returns-clause-read
read_loop-returns-clause-read size c = (as_tree IsPrim c.loop_node.ensures (loop_of refl c.in-Ok.ensures.read.1 refl), tt)

pub read_for-returns-in-None-clause-read : goal.read_for-returns-in-None-clause-read
read_for-returns-in-None-clause-read size c = for_at_2 refl c.in-None.ensures.found

pub read_for-returns-in-None-take_word-clause-read : goal.read_for-returns-in-None-take_word-clause-read
read_for-returns-in-None-take_word-clause-read size c = for_at_3 refl c.in-Some.ensures.found c.in-None-take_word.ensures.found

pub read_for-returns-in-Err-clause-read : goal.read_for-returns-in-Err-clause-read
read_for-returns-in-Err-clause-read size c = pass c.in-Err.refused (λ z f. close_cases (λ i. for_at_4 refl c.in-Some.ensures.found c.in-Some-take_word.ensures.found i) (λ a d u n. for_at_5 refl c.in-Some.ensures.found c.in-Some-take_word.ensures.found d u n) f) c.in-Err.ensures.read

pub read_for-returns-in-Err-read_until-clause-read : goal.read_for-returns-in-Err-read_until-clause-read
read_for-returns-in-Err-read_until-clause-read size c = pass c.in-Err-read_until.refused (λ z f. close_cases (λ i. for_at_6 refl c.in-Some.ensures.found c.in-Some-take_word.ensures.found c.in-Ok.ensures.read.1 tt refl i) (λ a d u n. for_at_7 refl c.in-Some.ensures.found c.in-Some-take_word.ensures.found c.in-Ok.ensures.read.1 tt refl d u n) f) c.in-Err-read_until.ensures.read

pub read_for-returns-in-Err-read_body-clause-read : goal.read_for-returns-in-Err-read_body-clause-read
read_for-returns-in-Err-read_body-clause-read size c = pass c.in-Err-read_body.refused (λ z f. close_cases (λ i. for_at_8 refl c.in-Some.ensures.found c.in-Some-take_word.ensures.found c.in-Ok.ensures.read.1 tt refl c.in-Ok-read_until.ensures.read.1 tt refl i) (λ a d u n. for_at_9 refl c.in-Some.ensures.found c.in-Some-take_word.ensures.found c.in-Ok.ensures.read.1 tt refl c.in-Ok-read_until.ensures.read.1 tt refl d u n) f) c.in-Err-read_body.ensures.read

pub read_for-returns-clause-read : goal.read_for-returns-clause-read
read_for-returns-clause-read size c = (as_tree IsPrim c.in-Ok-for_node.ensures (for_of refl c.in-Some.ensures.found c.in-Some-take_word.ensures.found c.in-Ok.ensures.read.1 refl c.in-Ok-read_until.ensures.read.1 refl c.in-Ok-read_body.ensures.read.1 refl), tt)

pub read_foreach-returns-in-None-clause-read : goal.read_foreach-returns-in-None-clause-read
read_foreach-returns-in-None-clause-read size c = foreach_at_2 refl c.in-None.ensures.found

pub read_foreach-returns-in-None-take_word-clause-read : goal.read_foreach-returns-in-None-take_word-clause-read
read_foreach-returns-in-None-take_word-clause-read size c = foreach_at_3 refl c.in-Some.ensures.found c.in-None-take_word.ensures.found

pub read_foreach-returns-in-Err-clause-read : goal.read_foreach-returns-in-Err-clause-read
read_foreach-returns-in-Err-clause-read size c = pass c.in-Err.refused (λ z f. close_cases (λ i. foreach_at_4 refl c.in-Some.ensures.found c.in-Some-take_word.ensures.found i) (λ a d u n. foreach_at_5 refl c.in-Some.ensures.found c.in-Some-take_word.ensures.found d u n) f) c.in-Err.ensures.read

pub read_foreach-returns-in-Err-read_body-clause-read : goal.read_foreach-returns-in-Err-read_body-clause-read
read_foreach-returns-in-Err-read_body-clause-read size c = pass c.in-Err-read_body.refused (λ z f. close_cases (λ i. foreach_at_6 refl c.in-Some.ensures.found c.in-Some-take_word.ensures.found c.in-Ok.ensures.read.1 tt refl i) (λ a d u n. foreach_at_7 refl c.in-Some.ensures.found c.in-Some-take_word.ensures.found c.in-Ok.ensures.read.1 tt refl d u n) f) c.in-Err-read_body.ensures.read

pub read_foreach-returns-clause-read : goal.read_foreach-returns-clause-read
read_foreach-returns-clause-read size c = (as_tree IsPrim c.in-Ok-foreach_node.ensures (foreach_of refl c.in-Some.ensures.found c.in-Some-take_word.ensures.found c.in-Ok.ensures.read.1 refl c.in-Ok-read_body.ensures.read.1 refl), tt)

pub read_try-returns-in-Err-clause-read : goal.read_try-returns-in-Err-clause-read
read_try-returns-in-Err-clause-read size c = pass c.in-Err.refused (λ z f. try_at_2 refl f) c.in-Err.ensures.read

pub read_try-returns-clause-read : goal.read_try-returns-clause-read
read_try-returns-clause-read size c = try_reads _ _ _ _ c.in-Ok.ensures.read.0 c.in-Ok.ensures.read.1 c.read_tried.ensures.read

pub read_tried-returns-in-Err-clause-read : goal.read_tried-returns-in-Err-clause-read
read_tried-returns-in-Err-clause-read size c = pass c.in-Err.refused (λ z f. close_cases (λ i. finally_at_2 c.in-Some.ensures.found i) (λ a d u n. finally_at_3 c.in-Some.ensures.found d u n) f) c.in-Err.ensures.read

pub read_tried-returns-in-Some-clause-read : goal.read_tried-returns-in-Some-clause-read
read_tried-returns-in-Some-clause-read size c = (as_tree (IsTry c.args.place c.args.body) c.finally_node.ensures (finally_of c.in-Some.ensures.found c.in-Ok.ensures.read.1 refl), tt)

pub read_tried-returns-in-None-clause-read : goal.read_tried-returns-in-None-clause-read
read_tried-returns-in-None-clause-read size c = try_stop c.in_default.ensures.found c.in-None.ensures.found

pub read_tried-returns-in-Err-read_guard-clause-read : goal.read_tried-returns-in-Err-read_guard-clause-read
read_tried-returns-in-Err-read_guard-clause-read size c = pass c.in-Err-read_guard.refused (λ z f. excepts_at_2 c.in-Some-take_word.ensures.found f) c.in-Err-read_guard.ensures.read

pub read_tried-returns-in-Err-read_guards-clause-read : goal.read_tried-returns-in-Err-read_guards-clause-read
read_tried-returns-in-Err-read_guards-clause-read size c = pass c.in-Err-read_guards.refused (λ z f. excepts_at_3 c.in-Some-take_word.ensures.found c.in-Ok-read_guard.ensures.read.0 c.in-Ok-read_guard.ensures.read.1 f) c.in-Err-read_guards.ensures.read

pub read_tried-returns-in-Err-read_else-clause-read : goal.read_tried-returns-in-Err-read_else-clause-read
read_tried-returns-in-Err-read_else-clause-read size c = pass c.in-Err-read_else.refused (λ z f. excepts_at_4 c.in-Some-take_word.ensures.found c.in-Ok-read_guard.ensures.read.0 c.in-Ok-read_guard.ensures.read.1 c.in-Ok-read_guards.ensures.read.0 c.in-Ok-read_guards.ensures.read.1 f) c.in-Err-read_else.ensures.read

pub read_tried-returns-clause-read : goal.read_tried-returns-clause-read
read_tried-returns-clause-read size c = (as_tree (IsTry c.args.place c.args.body) c.try_node.ensures (try_arms c.in-Ok-read_else.found.0 c.in-Ok-front.ensures (excepts_of c.in-Some-take_word.ensures.found c.in-Ok-read_guard.ensures.read.0 c.in-Ok-read_guards.ensures.read.0 c.in-Ok-read_else.ensures.read.0)), tt)

pub read_raise-returns-in-None-clause-read : goal.read_raise-returns-in-None-clause-read
read_raise-returns-in-None-clause-read size c = raise_at_2 refl c.in-None.ensures.found

pub read_raise-returns-in-Err-clause-read : goal.read_raise-returns-in-Err-clause-read
read_raise-returns-in-Err-clause-read size c = pass c.in-Err.refused (λ z f. close_cases (λ i. raise_at_3 refl c.in-Some.ensures.found i) (λ a d u n. raise_at_4 refl c.in-Some.ensures.found d u n) f) c.in-Err.ensures.read

pub read_raise-returns-clause-read : goal.read_raise-returns-clause-read
read_raise-returns-clause-read size c = (as_tree IsPrim c.in-Ok-raise_node.ensures (raise_of refl c.in-Some.ensures.found c.in-Ok.ensures.read.1 refl), tt)

pub read_watch-returns-in-Err-clause-read : goal.read_watch-returns-in-Err-clause-read
read_watch-returns-in-Err-clause-read size c = pass c.in-Err.refused (λ z f. close_cases (λ i. watch_at_2 refl i) (λ a d u n. watch_at_3 refl d u n) f) c.in-Err.ensures.read

pub read_watch-returns-in-Err-read_until-clause-read : goal.read_watch-returns-in-Err-read_until-clause-read
read_watch-returns-in-Err-read_until-clause-read size c = pass c.in-Err-read_until.refused (λ z f. close_cases (λ i. watch_at_4 refl c.in-Ok.ensures.read.1 tt refl i) (λ a d u n. watch_at_5 refl c.in-Ok.ensures.read.1 tt refl d u n) f) c.in-Err-read_until.ensures.read

pub read_watch-returns-clause-read : goal.read_watch-returns-clause-read
read_watch-returns-clause-read size c = (as_tree IsPrim c.in-Ok-watch_node.ensures (watch_of refl c.in-Ok.ensures.read.1 refl c.in-Ok-read_until.ensures.read.1 refl), tt)

pub read_redirect-returns-in-Err-clause-read : goal.read_redirect-returns-in-Err-clause-read
read_redirect-returns-in-Err-clause-read size c = pass c.in-Err.refused (λ z f. close_cases (λ i. redirect_at_2 refl i) (λ a d u n. redirect_at_3 refl d u n) f) c.in-Err.ensures.read

pub read_redirect-returns-in-Err-read_until-clause-read : goal.read_redirect-returns-in-Err-read_until-clause-read
read_redirect-returns-in-Err-read_until-clause-read size c = pass c.in-Err-read_until.refused (λ z f. close_cases (λ i. redirect_at_4 refl c.in-Ok.ensures.read.1 tt refl i) (λ a d u n. redirect_at_5 refl c.in-Ok.ensures.read.1 tt refl d u n) f) c.in-Err-read_until.ensures.read

pub read_redirect-returns-clause-read : goal.read_redirect-returns-clause-read
read_redirect-returns-clause-read size c = (as_tree IsPrim c.in-Ok-redirect_node.ensures (redirect_of refl c.in-Ok.ensures.read.1 refl c.in-Ok-read_until.ensures.read.1 refl), tt)

pub read_clone-returns-in-None-clause-read : goal.read_clone-returns-in-None-clause-read
read_clone-returns-in-None-clause-read size c = clone_at_2 refl c.in-None.ensures.found

pub read_clone-returns-in-Err-clause-read : goal.read_clone-returns-in-Err-clause-read
read_clone-returns-in-Err-clause-read size c = pass c.in-Err.refused (λ z f. clone_at_3 refl c.in-Some.ensures.found f) c.in-Err.ensures.read

pub read_clone-returns-in-None-take_word-clause-read : goal.read_clone-returns-in-None-take_word-clause-read
read_clone-returns-in-None-take_word-clause-read size c = clone_at_4 refl c.in-Some.ensures.found c.in-Ok.ensures.read.0 c.in-Ok.ensures.read.1 c.in-None-take_word.ensures.found

pub read_clone-returns-clause-read : goal.read_clone-returns-clause-read
read_clone-returns-clause-read size c = (as_tree IsPrim c.clone_node.ensures (clone_of refl c.in-Some.ensures.found c.in-Ok.ensures.read.0 c.in-Some-take_word.ensures.found), tt)
