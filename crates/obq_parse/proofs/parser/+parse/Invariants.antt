use Rattle.std.proofs.Common.{◌≤◌, length, suc, ◌+◌, ◌-◌, ◌*◌}
use Rattle.obq_model.specs.Nodes.{next}
use Rattle.obq_model.specs.Grammar.{IsArgs, IsBinds, IsElsifs, IsFields, IsGuards, IsLinks, IsMore, IsRecBinds, IsSuffixes}
use Rattle.obq_grammar.specs.Follow.{EndsArgs, EndsBlock, EndsElsifs, EndsGuards, EndsItem, EndsLevel, EndsNames, EndsSuffixed}
use Rattle.obq_grammar.proofs.Theory.{Leads}
use Rattle.obq_parse.proofs.parser.+parse.Given as goal

abbrev pub decreases-read_alias : goal.decreases-read_alias
decreases-read_alias l = 16 * length l.tokens.now + 0

abbrev pub decreases-read_args : goal.decreases-read_args
decreases-read_args l = 16 * length l.tokens.now + 11

abbrev pub decreases-read_arm : goal.decreases-read_arm
decreases-read_arm l = 16 * length l.tokens.now + 12

abbrev pub decreases-read_array : goal.decreases-read_array
decreases-read_array l = 16 * length l.tokens.now + 12

abbrev pub decreases-read_array_at : goal.decreases-read_array_at
decreases-read_array_at l = 16 * length l.tokens.now + 13

abbrev pub decreases-read_bind : goal.decreases-read_bind
decreases-read_bind l = 16 * length l.tokens.now + 0

abbrev pub decreases-read_binds : goal.decreases-read_binds
decreases-read_binds l = 16 * length l.tokens.now + 1

abbrev pub decreases-read_block : goal.decreases-read_block
decreases-read_block l = 16 * length l.tokens.now + 6

abbrev pub decreases-read_body : goal.decreases-read_body
decreases-read_body l = 16 * length l.tokens.now + 7

abbrev pub decreases-read_call : goal.decreases-read_call
decreases-read_call l = 16 * length l.tokens.now + 12

abbrev pub decreases-read_chain : goal.decreases-read_chain
decreases-read_chain l = 16 * length l.tokens.now + 3

abbrev pub decreases-read_clone : goal.decreases-read_clone
decreases-read_clone l = 16 * length l.tokens.now + 0

abbrev pub decreases-read_dotted : goal.decreases-read_dotted
decreases-read_dotted l = 16 * length l.tokens.now + 0

abbrev pub decreases-read_else : goal.decreases-read_else
decreases-read_else l = 16 * length l.tokens.now + 0

abbrev pub decreases-read_elsifs : goal.decreases-read_elsifs
decreases-read_elsifs l = 16 * length l.tokens.now + 0

abbrev pub decreases-read_expr : goal.decreases-read_expr
decreases-read_expr l = 16 * length l.tokens.now + 10

abbrev pub decreases-read_field : goal.decreases-read_field
decreases-read_field l = 16 * length l.tokens.now + 0

abbrev pub decreases-read_field_body : goal.decreases-read_field_body
decreases-read_field_body l = 16 * length l.tokens.now + 11

abbrev pub decreases-read_fields : goal.decreases-read_fields
decreases-read_fields l = 16 * length l.tokens.now + 1

abbrev pub decreases-read_for : goal.decreases-read_for
decreases-read_for l = 16 * length l.tokens.now + 0

abbrev pub decreases-read_foreach : goal.decreases-read_foreach
decreases-read_foreach l = 16 * length l.tokens.now + 0

abbrev pub decreases-read_guard : goal.decreases-read_guard
decreases-read_guard l = 16 * length l.tokens.now + 12

abbrev pub decreases-read_guards : goal.decreases-read_guards
decreases-read_guards l = 16 * length l.tokens.now + 0

abbrev pub decreases-read_if : goal.decreases-read_if
decreases-read_if l = 16 * length l.tokens.now + 13

abbrev pub decreases-read_item : goal.decreases-read_item
decreases-read_item l = 16 * length l.tokens.now + 5

abbrev pub decreases-read_let : goal.decreases-read_let
decreases-read_let l = 16 * length l.tokens.now + 3

abbrev pub decreases-read_level : goal.decreases-read_level
decreases-read_level l = 16 * length l.tokens.now + (4 + l.level)

abbrev pub decreases-read_links : goal.decreases-read_links
decreases-read_links l = 16 * length l.tokens.now + 0

abbrev pub decreases-read_loop : goal.decreases-read_loop
decreases-read_loop l = 16 * length l.tokens.now + 8

abbrev pub decreases-read_method : goal.decreases-read_method
decreases-read_method l = 16 * length l.tokens.now + 0

abbrev pub decreases-read_more : goal.decreases-read_more
decreases-read_more l = 16 * length l.tokens.now + 0

abbrev pub decreases-read_object : goal.decreases-read_object
decreases-read_object l = 16 * length l.tokens.now + 2

abbrev pub decreases-read_other : goal.decreases-read_other
decreases-read_other l = 16 * length l.tokens.now + 4

abbrev pub decreases-read_paren : goal.decreases-read_paren
decreases-read_paren l = 16 * length l.tokens.now + 12

abbrev pub decreases-read_prim : goal.decreases-read_prim
decreases-read_prim l = 16 * length l.tokens.now + 2

abbrev pub decreases-read_proc : goal.decreases-read_proc
decreases-read_proc l = 16 * length l.tokens.now + 0

abbrev pub decreases-read_procedure : goal.decreases-read_procedure
decreases-read_procedure l = 16 * length l.tokens.now + 1

abbrev pub decreases-read_raise : goal.decreases-read_raise
decreases-read_raise l = 16 * length l.tokens.now + 0

abbrev pub decreases-read_rec_bind : goal.decreases-read_rec_bind
decreases-read_rec_bind l = 16 * length l.tokens.now + 0

abbrev pub decreases-read_rec_binds : goal.decreases-read_rec_binds
decreases-read_rec_binds l = 16 * length l.tokens.now + 1

abbrev pub decreases-read_redirect : goal.decreases-read_redirect
decreases-read_redirect l = 16 * length l.tokens.now + 12

abbrev pub decreases-read_rest : goal.decreases-read_rest
decreases-read_rest l = 16 * length l.tokens.now + (1 + (5 - l.level))

abbrev pub decreases-read_suffix : goal.decreases-read_suffix
decreases-read_suffix l = 16 * length l.tokens.now + 0

abbrev pub decreases-read_suffixes : goal.decreases-read_suffixes
decreases-read_suffixes l = 16 * length l.tokens.now + 1

abbrev pub decreases-read_tried : goal.decreases-read_tried
decreases-read_tried l = 16 * length l.tokens.now + 0

abbrev pub decreases-read_try : goal.decreases-read_try
decreases-read_try l = 16 * length l.tokens.now + 7

abbrev pub decreases-read_until : goal.decreases-read_until
decreases-read_until l = 16 * length l.tokens.now + 11

abbrev pub decreases-read_watch : goal.decreases-read_watch
decreases-read_watch l = 16 * length l.tokens.now + 12

abbrev pub invariant-read_more-loop-behind : goal.invariant-read_more-loop-behind
invariant-read_more-loop-behind l = record {
  leads : Leads IsMore EndsBlock l.items l.tokens l.rest;
  ends : EndsItem (next l.rest);
  shorter : length l.rest ≤ length l.tokens;
}

abbrev pub decreases-read_more-loop-behind : goal.decreases-read_more-loop-behind
decreases-read_more-loop-behind l = length l.rest

abbrev pub invariant-read_binds-loop-found : goal.invariant-read_binds-loop-found
invariant-read_binds-loop-found l = record {
  leads : Leads IsBinds EndsArgs l.items l.tokens l.rest;
  shorter : length l.rest ≤ length l.tokens;
}

abbrev pub decreases-read_binds-loop-found : goal.decreases-read_binds-loop-found
decreases-read_binds-loop-found l = length l.rest

abbrev pub invariant-read_rec_binds-loop-found : goal.invariant-read_rec_binds-loop-found
invariant-read_rec_binds-loop-found l = record {
  leads : Leads IsRecBinds EndsNames l.items l.tokens l.rest;
  shorter : length l.rest ≤ length l.tokens;
}

abbrev pub decreases-read_rec_binds-loop-found : goal.decreases-read_rec_binds-loop-found
decreases-read_rec_binds-loop-found l = length l.rest

abbrev pub invariant-read_args-loop-found : goal.invariant-read_args-loop-found
invariant-read_args-loop-found l = record {
  leads : Leads IsArgs EndsArgs l.items l.tokens l.rest;
  shorter : length l.rest ≤ length l.tokens;
}

abbrev pub decreases-read_args-loop-found : goal.decreases-read_args-loop-found
decreases-read_args-loop-found l = length l.rest

abbrev pub invariant-read_fields-loop-found : goal.invariant-read_fields-loop-found
invariant-read_fields-loop-found l = record {
  leads : Leads IsFields EndsArgs l.items l.tokens l.rest;
  shorter : length l.rest ≤ length l.tokens;
}

abbrev pub decreases-read_fields-loop-found : goal.decreases-read_fields-loop-found
decreases-read_fields-loop-found l = length l.rest

abbrev pub invariant-read_links-loop-operator : goal.invariant-read_links-loop-operator
invariant-read_links-loop-operator l = record {
  leads : Leads (IsLinks l.level) (EndsLevel (suc l.level)) l.links l.tokens l.rest;
  ends : EndsLevel l.level (next l.rest);
  shorter : length l.rest ≤ length l.tokens;
}

abbrev pub decreases-read_links-loop-operator : goal.decreases-read_links-loop-operator
decreases-read_links-loop-operator l = length l.rest

abbrev pub invariant-read_suffixes-loop-alloc : goal.invariant-read_suffixes-loop-alloc
invariant-read_suffixes-loop-alloc l = record {
  leads : Leads IsSuffixes EndsSuffixed l.suffixes l.tokens l.rest;
  shorter : length l.rest ≤ length l.tokens;
}

abbrev pub decreases-read_suffixes-loop-alloc : goal.decreases-read_suffixes-loop-alloc
decreases-read_suffixes-loop-alloc l = length l.rest

abbrev pub invariant-read_elsifs-loop-behind : goal.invariant-read_elsifs-loop-behind
invariant-read_elsifs-loop-behind l = record {
  leads : Leads IsElsifs EndsElsifs l.arms l.tokens l.rest;
  ends : EndsBlock (next l.rest);
  shorter : length l.rest ≤ length l.tokens;
}

abbrev pub decreases-read_elsifs-loop-behind : goal.decreases-read_elsifs-loop-behind
decreases-read_elsifs-loop-behind l = length l.rest

abbrev pub invariant-read_guards-loop-behind : goal.invariant-read_guards-loop-behind
invariant-read_guards-loop-behind l = record {
  leads : Leads IsGuards EndsGuards l.arms l.tokens l.rest;
  ends : EndsBlock (next l.rest);
  shorter : length l.rest ≤ length l.tokens;
}

abbrev pub decreases-read_guards-loop-behind : goal.decreases-read_guards-loop-behind
decreases-read_guards-loop-behind l = length l.rest
