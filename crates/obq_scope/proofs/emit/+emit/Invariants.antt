use Rattle.std.proofs.Common.{◌≡◌, ◌++◌, drop}
use Rattle.obq_base.specs.View.{arm_trees, bind_trees, expr_trees, field_trees, item_trees, link_trees, rec_bind_trees, suffix_trees}
use Rattle.obq_model.specs.Occurrences.{bind_names, block_names}
use Rattle.obq_scope.specs.Coded.{coded_arms, coded_binds, coded_exprs, coded_fields, coded_items, coded_links, coded_members, coded_numbers, coded_suffixes}
use Rattle.obq_scope.specs.Coders.{after, under}
use Rattle.obq_scope.specs.Outsides.{outside_of}
use Rattle.obq_scope.proofs.emit.+emit.Given as goal

abbrev pub invariant-emit_exprs-loop-value : goal.invariant-emit_exprs-loop-value
invariant-emit_exprs-loop-value l = after (λ o locals. coded_exprs o locals (expr_trees (drop l.value-index l.values))) l.coder ≡ after (λ o locals. coded_exprs o locals (expr_trees l.values)) l.fn.coder

abbrev pub invariant-emit_links-loop-link : goal.invariant-emit_links-loop-link
invariant-emit_links-loop-link l = after (λ o locals. coded_links o locals (link_trees (drop l.link-index l.links))) l.coder ≡ after (λ o locals. coded_links o locals (link_trees l.links)) l.fn.coder

abbrev pub invariant-emit_arms-loop-arm : goal.invariant-emit_arms-loop-arm
invariant-emit_arms-loop-arm l = after (λ o locals. coded_arms o locals (arm_trees (drop l.arm-index l.arms))) l.coder ≡ after (λ o locals. coded_arms o locals (arm_trees l.arms)) l.fn.coder

abbrev pub invariant-emit_fields-loop-field : goal.invariant-emit_fields-loop-field
invariant-emit_fields-loop-field l = after (λ o locals. coded_fields o locals (field_trees (drop l.field-index l.fields))) l.coder ≡ after (λ o locals. coded_fields o locals (field_trees l.fields)) l.fn.coder

abbrev pub invariant-emit_suffixes-loop-suffix : goal.invariant-emit_suffixes-loop-suffix
invariant-emit_suffixes-loop-suffix l = after (λ o locals. coded_suffixes o locals l.row (suffix_trees (drop l.suffix-index l.suffixes))) l.coder ≡ after (λ o locals. coded_suffixes o locals l.fn.row (suffix_trees l.suffixes)) l.fn.coder

abbrev pub invariant-emit_items-loop-item : goal.invariant-emit_items-loop-item
invariant-emit_items-loop-item l = under (block_names (item_trees (drop l.item-index l.items))) (after (λ o locals. coded_items o locals (item_trees (drop l.item-index l.items))) l.coder) ≡ under (block_names (item_trees l.items)) (after (λ o locals. coded_items o locals (item_trees l.items)) l.fn.coder)

abbrev pub invariant-emit_binds-loop-bind : goal.invariant-emit_binds-loop-bind
invariant-emit_binds-loop-bind l = under (bind_names (bind_trees (drop l.bind-index l.binds))) (after (λ o locals. coded_binds o locals (bind_trees (drop l.bind-index l.binds))) l.coder) ≡ under (bind_names (bind_trees l.binds)) (after (λ o locals. coded_binds o locals (bind_trees l.binds)) l.fn.coder)

abbrev pub invariant-emit_members-loop-bind : goal.invariant-emit_members-loop-bind
invariant-emit_members-loop-bind l = record {
  alloc : l.coder.alloc ≡ l.fn.coder.alloc;
  outside : l.coder.outside ≡ l.fn.coder.outside;
  locals : l.coder.locals ≡ l.fn.coder.locals;
  made : coded_members (outside_of l.fn.coder.outside) (rec_bind_trees (drop l.bind-index l.binds)) l.coder.emitter ≡ coded_members (outside_of l.fn.coder.outside) (rec_bind_trees l.binds) l.fn.coder.emitter;
  told : l.numbers ++ coded_numbers (outside_of l.fn.coder.outside) (rec_bind_trees (drop l.bind-index l.binds)) l.coder.emitter ≡ coded_numbers (outside_of l.fn.coder.outside) (rec_bind_trees l.binds) l.fn.coder.emitter;
}
