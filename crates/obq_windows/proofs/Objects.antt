-- Object literals by hand, as runs compute: a method and a value, and a name twice.
use Rattle.std.specs.Prelude.{List, Some, [], codes, false, pos, refl, suc, true, zero, ℕ, ◌∷◌, ◌≡◌}
use Rattle.obq_base.specs.declared.code.Node.TheVariants as n
use Rattle.obq_base.specs.declared.code.CodeNo.{CodeNo}
use Rattle.obq_base.specs.declared.code.Node.{Node}
use Rattle.obq_base.specs.declared.trees.Flags.{Flags}
use Rattle.obq_model.specs.Step.{no_self}
use Rattle.obq_model.specs.Store.{same_loc}
use Rattle.obq_model.specs.Terms.{Bytes, Exn}
use Rattle.obq_windows.specs.Runs.{Ran, Wants, run_nodes}
use Rattle.obq_windows.specs.Trees.{MethodBody, PlainCloning, ValueBody, field_of}
use Rattle.obq_windows.specs.Values.{IntValue, NoValues, new_closure, no_origin}
use Rattle.obq_windows.specs.Windows.{NodeRaising, NodeRun, Store, activation_of}

flags : Flags
flags = record { protected = false; serialized = true }

numbered : ℕ → CodeNo
numbered k = record { source = 0; n = k }

-- the fields m, a method without more parameters than its self, and a field of this name
nodes : Bytes → List Node
unfolding flags numbered
nodes name = n.Block 1 ∷ n.Object flags ((109 ∷ []) ∷ name ∷ []) ∷ n.Meth (numbered 1) [] ∷ n.Int (pos 7) ∷ []

end_of : ℕ → ℕ
end_of zero = 4
end_of (suc zero) = 4
end_of (suc (suc zero)) = 3
end_of (suc (suc (suc k))) = 4

store : Bytes → Store ℕ
unfolding nodes end_of
store name = record { code = λ number. Some (record { params = 0; captures = 0; nodes = nodes name }); end = λ number at. end_of at; writer = λ source. source }

ran : Bytes → Ran ℕ
unfolding store nodes end_of numbered
ran name = run_nodes same_loc (store name) 0 no_self 0 40 0 (activation_of (numbered 0) no_origin 0 [] NoValues []) [] (NodeRun 0 0)

-- no pure step, and the method's closure is the thread's first
asked : (ran (97 ∷ [])).stop ≡ Wants (PlainCloning (Some flags) (field_of (109 ∷ []) (MethodBody (new_closure 0 0 (numbered 1 ∷ []) 0 NoValues)) ∷ field_of (97 ∷ []) (ValueBody (IntValue (pos 7))) ∷ []) [])
unfolding ran store nodes end_of flags numbered
asked = refl

no_step : (ran (97 ∷ [])).steps ≡ 0
unfolding ran store nodes end_of flags numbered
no_step = refl

one_closure : (ran (97 ∷ [])).count ≡ 1
unfolding ran store nodes end_of flags numbered
one_closure = refl

-- with m twice it raises, by one pure step, and no closure is made
raised : (ran (109 ∷ [])).focus ≡ NodeRaising (Exn (codes "field_twice"))
unfolding ran store nodes end_of flags numbered
raised = refl

one_step : (ran (109 ∷ [])).steps ≡ 1
unfolding ran store nodes end_of flags numbered
one_step = refl

no_closure : (ran (109 ∷ [])).count ≡ 0
unfolding ran store nodes end_of flags numbered
no_closure = refl
