use Rattle.std.proofs.Common.{◌≡◌, drop}
use Rattle.obq_base.specs.View.{arm_trees, bind_trees, expr_trees, field_trees, item_trees, link_trees, rec_bind_trees, suffix_trees}
use Rattle.obq_names.specs.Walked.{walk_arms, walk_binds, walk_exprs, walk_fields, walk_items, walk_links, walk_members, walk_suffixes}
use Rattle.obq_names.proofs.walk.+walk.Given as goal

abbrev pub invariant-walk_exprs-loop-value : goal.invariant-walk_exprs-loop-value
invariant-walk_exprs-loop-value l = walk_exprs (expr_trees (drop l.value-index l.values)) l.walker ≡ walk_exprs (expr_trees l.values) l.fn.walker

abbrev pub invariant-walk_links-loop-link : goal.invariant-walk_links-loop-link
invariant-walk_links-loop-link l = walk_links (link_trees (drop l.link-index l.links)) l.walker ≡ walk_links (link_trees l.links) l.fn.walker

abbrev pub invariant-walk_suffixes-loop-suffix : goal.invariant-walk_suffixes-loop-suffix
invariant-walk_suffixes-loop-suffix l = walk_suffixes (suffix_trees (drop l.suffix-index l.suffixes)) l.walker ≡ walk_suffixes (suffix_trees l.suffixes) l.fn.walker

abbrev pub invariant-walk_arms-loop-arm : goal.invariant-walk_arms-loop-arm
invariant-walk_arms-loop-arm l = walk_arms (arm_trees (drop l.arm-index l.arms)) l.walker ≡ walk_arms (arm_trees l.arms) l.fn.walker

abbrev pub invariant-walk_fields-loop-field : goal.invariant-walk_fields-loop-field
invariant-walk_fields-loop-field l = walk_fields (field_trees (drop l.field-index l.fields)) l.walker ≡ walk_fields (field_trees l.fields) l.fn.walker

abbrev pub invariant-walk_members-loop-bind : goal.invariant-walk_members-loop-bind
invariant-walk_members-loop-bind l = walk_members (rec_bind_trees (drop l.bind-index l.binds)) l.walker ≡ walk_members (rec_bind_trees l.binds) l.fn.walker

abbrev pub invariant-walk_items-loop-item : goal.invariant-walk_items-loop-item
invariant-walk_items-loop-item l = walk_items (item_trees (drop l.item-index l.items)) l.walker ≡ walk_items (item_trees l.items) l.fn.walker

abbrev pub invariant-walk_binds-loop-bind : goal.invariant-walk_binds-loop-bind
invariant-walk_binds-loop-bind l = walk_binds (bind_trees (drop l.bind-index l.binds)) l.walker ≡ walk_binds (bind_trees l.binds) l.fn.walker
