-- The laws on one small source, `for i := 1 to 2 do end`: its table and store are as the laws ask, and its run computes.
use Rattle.std.specs.Prelude.{List, Some, [], drop, pos, refl, suc, zero, ℕ, ◌∷◌, ◌≡◌}
use Rattle.obq_base.specs.declared.code.Node.TheVariants as n
use Rattle.std.proofs.Common.{inl}
use Rattle.obq_base.specs.Tree.{AnItem, BlockOf, BlockTree, ForTree, IntTree, NoItems, PlainItem}
use Rattle.obq_base.specs.declared.code.Node.{Node}
use Rattle.obq_model.specs.Opening.{block_term}
use Rattle.obq_model.specs.Procedures.{main_proc}
use Rattle.obq_model.specs.Skipped.{skipped}
use Rattle.obq_model.specs.Step.{no_self}
use Rattle.obq_model.specs.Store.{same_loc}
use Rattle.obq_model.specs.Terms.{Const, Okay}
use Rattle.obq_windows.specs.Agrees.{Agrees}
use Rattle.obq_windows.specs.Laws.{RunReads}
use Rattle.obq_windows.specs.Runs.{AtBottom, Ran, pure_steps, run_nodes}
use Rattle.obq_windows.specs.Values.{NoValues, Table, no_origin}
use Rattle.obq_windows.specs.Windows.{NodeRun, Store, activation_of}
use Rattle.obq_windows.proofs.Openings.{opening_runs}

tree : BlockTree
tree = BlockOf (AnItem (PlainItem (ForTree (105 ∷ []) (IntTree (pos 1) 0) (IntTree (pos 2) 0) (BlockOf NoItems 0) 0)) NoItems) 0

nodes : List Node
nodes = n.Block 1 ∷ n.For ∷ n.Int (pos 1) ∷ n.Int (pos 2) ∷ n.Block 0 ∷ []

end_of : ℕ → ℕ
end_of zero = 5
end_of (suc zero) = 5
end_of (suc (suc zero)) = 3
end_of (suc (suc (suc zero))) = 4
end_of (suc (suc (suc (suc zero)))) = 5
end_of (suc (suc (suc (suc (suc k))))) = 5

table : Table ℕ
unfolding tree
table = record { procs = λ number. Some (main_proc 0 tree); writer = λ source. source }

store : Store ℕ
unfolding nodes end_of
store = record { code = λ number. Some (record { params = 0; captures = 0; nodes = nodes }); end = λ number at. end_of at; writer = λ source. source }

behind : (k : ℕ) → [] ≡ skipped 1 (drop {A = Node} k [])
behind zero = refl
behind (suc k) = refl

agree : Agrees table store
unfolding table store tree nodes end_of
agree = record {
  code = λ number. (
    main_proc 0 tree,
    record {
      proc_is = refl;
      code_is = record {
        params_are = refl;
        captures_are = refl;
        reads = (
          n.For ∷ n.Int (pos 1) ∷ n.Int (pos 2) ∷ n.Block 0 ∷ [],
          refl,
          (
            [],
            (n.Int (pos 1) ∷ n.Int (pos 2) ∷ n.Block 0 ∷ [], refl, (n.Int (pos 2) ∷ n.Block 0 ∷ [], (n.Int (pos 2) ∷ n.Block 0 ∷ [], refl, refl), (n.Block 0 ∷ [], (n.Block 0 ∷ [], refl, refl), ([], refl, refl)))),
            refl,
          ),
        );
      };
      made = inl (record { source = 0; outside = refl; group = refl });
    },
  );
  end = λ number at. ends at;
  writer = λ source. refl;
} where
  ends : (at : ℕ) → drop (end_of at) nodes ≡ skipped 1 (drop at nodes)
  ends zero = refl
  ends (suc zero) = refl
  ends (suc (suc zero)) = refl
  ends (suc (suc (suc zero))) = refl
  ends (suc (suc (suc (suc zero)))) = refl
  ends (suc (suc (suc (suc (suc k))))) = behind k

-- five pure steps, and the window is at its bottom
ran : Ran ℕ
unfolding store nodes end_of
ran = run_nodes same_loc store 0 no_self 0 40 0 (activation_of (record { source = 0; n = 0 }) no_origin 0 [] NoValues []) [] (NodeRun 0 0)

five : ran.steps ≡ 5
unfolding ran store nodes end_of
five = refl

bottom : ran.stop ≡ AtBottom
unfolding ran store nodes end_of
bottom = refl

-- so are those of the opening
opened : pure_steps same_loc 0 no_self 5 (block_term 0 [] tree) ≡ Some (Const Okay)
unfolding tree
opened = refl

reads : RunReads same_loc table store 0 no_self (block_term 0 [] tree) ran
unfolding ran table store tree
reads = opening_runs same_loc table store agree 0 (record { source = 0; n = 0 }) tree refl refl 0 40
