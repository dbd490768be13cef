-- Which journals are legal.
use Rattle.std.specs.Prelude.{None, Some, [], codes, false, is_some, option_map, refl, true, ◌∷◌, ◌≡◌}
use Rattle.obq_base.specs.declared.acts.ActKind.{ActKind}
use Rattle.obq_model.specs.Config.{act}
use Rattle.obq_model.specs.Replay.{replay, first_able}
use Rattle.obq_model.specs.Refusals.{NoThread, TooManyTurns, NoPure, ActWaits, WrongAct, first_illegal}
use Rattle.obq_rows.specs.Schedule.{entry, NotOver, Printed, result}
use Rattle.obq_rows.proofs.OneThread.{hello, nothing}
use Rattle.obq_rows.proofs.Objects.{two_wait_for_each_other}
use Rattle.obq_rows.proofs.Sites.{import_waits}

a_call_that_waits_is_not_over : is_some (replay two_wait_for_each_other 100000 (entry 0 0 (Some (act ActKind.New 1)) ∷ entry 0 1 (Some (act ActKind.New 2)) ∷ entry 0 1 (Some (act ActKind.Call 1)) ∷ [])) ≡ true
a_call_that_waits_is_not_over = refl

each_method_is_entered_once : is_some (replay two_wait_for_each_other 100000 (entry 0 0 (Some (act ActKind.New 1)) ∷ entry 0 1 (Some (act ActKind.New 2)) ∷ entry 0 1 (Some (act ActKind.Call 1)) ∷ entry 0 0 (Some (act ActKind.Call 2)) ∷ [])) ≡ true
each_method_is_entered_once = refl

the_text_is_put_once : is_some (replay hello 100000 (entry 0 0 (Some (act ActKind.Put 0)) ∷ entry 0 0 (Some (act ActKind.Put 0)) ∷ [])) ≡ false
the_text_is_put_once = refl

no_pure_step_stands_before_it : is_some (replay hello 100000 (entry 0 1 (Some (act ActKind.Put 0)) ∷ [])) ≡ false
no_pure_step_stands_before_it = refl

another_act_stands_next : is_some (replay hello 100000 (entry 0 0 (Some (act ActKind.Get 0)) ∷ [])) ≡ false
another_act_stands_next = refl

the_same_act_elsewhere : is_some (replay hello 100000 (entry 0 0 (Some (act ActKind.Put 1)) ∷ [])) ≡ false
the_same_act_elsewhere = refl

no_such_thread : is_some (replay hello 100000 (entry 1 0 (Some (act ActKind.End 1)) ∷ [])) ≡ false
no_such_thread = refl

beyond_the_turn_limit : is_some (replay hello 1 (entry 0 0 (Some (act ActKind.Put 0)) ∷ entry 0 0 (Some (act ActKind.End 0)) ∷ [])) ≡ false
beyond_the_turn_limit = refl

within_the_turn_limit : is_some (replay hello 2 (entry 0 0 (Some (act ActKind.Put 0)) ∷ [])) ≡ true
within_the_turn_limit = refl

the_empty_block_takes_a_step : is_some (replay nothing 100000 (entry 0 1 (Some (act ActKind.End 0)) ∷ [])) ≡ true
the_empty_block_takes_a_step = refl

the_step_in_an_entry_of_its_own : is_some (replay nothing 100000 (entry 0 1 None ∷ entry 0 0 (Some (act ActKind.End 0)) ∷ [])) ≡ true
the_step_in_an_entry_of_its_own = refl

an_entry_of_nothing_is_legal : is_some (replay nothing 100000 (entry 0 0 None ∷ [])) ≡ true
an_entry_of_nothing_is_legal = refl

but_not_for_a_thread_that_ended : is_some (replay nothing 100000 (entry 0 1 (Some (act ActKind.End 0)) ∷ entry 0 0 None ∷ [])) ≡ false
but_not_for_a_thread_that_ended = refl

an_import_that_waits : is_some (replay import_waits 100000 (entry 0 0 (Some (act ActKind.Import 0)) ∷ [])) ≡ false
an_import_that_waits = refl

entries_exchanged : is_some (replay hello 100000 (entry 0 0 (Some (act ActKind.End 0)) ∷ entry 0 0 (Some (act ActKind.Put 0)) ∷ [])) ≡ false
entries_exchanged = refl

the_whole_journal : result hello 100000 (entry 0 0 (Some (act ActKind.Put 0)) ∷ entry 0 0 (Some (act ActKind.End 0)) ∷ []) ≡ Printed (codes "hi" ∷ []) 1 0 0 0 0
the_whole_journal = refl

not_over_without_its_end : result hello 100000 (entry 0 0 (Some (act ActKind.Put 0)) ∷ []) ≡ NotOver
not_over_without_its_end = refl

its_first_able_thread : option_map (first_able 100000) (replay hello 100000 (entry 0 0 (Some (act ActKind.Put 0)) ∷ [])) ≡ Some (Some 0)
its_first_able_thread = refl

-- ---- why an entry isn't legal

why_no_thread : first_illegal hello 100000 (entry 1 0 (Some (act ActKind.End 1)) ∷ []) ≡ Some (0, NoThread)
why_no_thread = refl

why_ended : first_illegal hello 100000 (entry 0 0 (Some (act ActKind.Put 0)) ∷ entry 0 0 (Some (act ActKind.End 0)) ∷ entry 0 0 None ∷ []) ≡ Some (2, NoThread)
why_ended = refl

why_no_pure : first_illegal hello 100000 (entry 0 1 (Some (act ActKind.Put 0)) ∷ []) ≡ Some (0, NoPure)
why_no_pure = refl

why_another_act : first_illegal hello 100000 (entry 0 0 (Some (act ActKind.Get 0)) ∷ []) ≡ Some (0, WrongAct (Some (act ActKind.Put 0)))
why_another_act = refl

why_twice : first_illegal hello 100000 (entry 0 0 (Some (act ActKind.Put 0)) ∷ entry 0 0 (Some (act ActKind.Put 0)) ∷ []) ≡ Some (1, WrongAct (Some (act ActKind.End 0)))
why_twice = refl

why_a_step : first_illegal nothing 100000 (entry 0 0 (Some (act ActKind.End 0)) ∷ []) ≡ Some (0, WrongAct None)
why_a_step = refl

why_too_many_turns : first_illegal hello 1 (entry 0 0 (Some (act ActKind.Put 0)) ∷ entry 0 0 (Some (act ActKind.End 0)) ∷ []) ≡ Some (1, TooManyTurns)
why_too_many_turns = refl

the_limit_comes_before_the_steps : first_illegal hello 1 (entry 0 2 (Some (act ActKind.Put 0)) ∷ []) ≡ Some (0, TooManyTurns)
the_limit_comes_before_the_steps = refl

why_it_waits : first_illegal import_waits 100000 (entry 0 0 (Some (act ActKind.Import 0)) ∷ []) ≡ Some (0, ActWaits)
why_it_waits = refl

a_wait_comes_before_another_act : first_illegal import_waits 100000 (entry 0 0 (Some (act ActKind.Get 7)) ∷ []) ≡ Some (0, ActWaits)
a_wait_comes_before_another_act = refl

no_reason : first_illegal hello 2 (entry 0 0 (Some (act ActKind.Put 0)) ∷ entry 0 0 (Some (act ActKind.End 0)) ∷ []) ≡ None
no_reason = refl
