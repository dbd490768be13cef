-- A program over two sites under small turn limits.
use Rattle.std.specs.Prelude.{[], codes, refl, ◌∷◌, ◌≡◌}
use Rattle.std.specs.Fmt.{digits}
use Rattle.obq_rows.specs.Schedule.{LowestFirst, Printed, run}
use Rattle.obq_rows.proofs.Sites.{migration}

turns_1 : run LowestFirst 300 1 migration ≡ Printed ([] ∷ [] ∷ []) 0 0 1 1 12
unfolding digits
turns_1 = refl

turns_2 : run LowestFirst 300 2 migration ≡ Printed ([] ∷ [] ∷ []) 0 0 0 2 12
unfolding digits
turns_2 = refl

turns_3 : run LowestFirst 300 3 migration ≡ Printed ([] ∷ [] ∷ []) 1 0 0 1 12
unfolding digits
turns_3 = refl

turns_31 : run LowestFirst 300 31 migration ≡ Printed ([] ∷ [] ∷ []) 1 0 0 1 12
unfolding digits
turns_31 = refl

turns_32 : run LowestFirst 300 32 migration ≡ Printed (codes "2" ∷ [] ∷ []) 1 0 0 1 12
unfolding digits
turns_32 = refl

turns_33 : run LowestFirst 300 33 migration ≡ Printed (codes "2" ∷ [] ∷ []) 2 0 0 0 0
unfolding digits
turns_33 = refl
