-- Rows of tables.
use Rattle.std.proofs.Common.{◌≡◌, ℕ, ◌<◌, ◌≤◌, List, length, get_or, map, sym, ap, ◌∙◌, arith}
use Rattle.std.specs.Prelude.{slice_get, unwrap_or}
use Rattle.std.proofs.lemmas.Option.{unwrap_or-slice_get}
use Rattle.std.proofs.lemmas.List.{get_or-map, get_or_past, length-map}

pub row_at : {X Y : Type 0} (f : X → Y) (rows : List X) (k : ℕ) (d : X) (e : Y) (all : List Y) → map f rows ≡ all → k < length rows → unwrap_or (slice_get all k) e ≡ f (get_or rows k d)
row_at f rows k d e all m l = unwrap_or-slice_get all k e ∙ ap (λ ys. get_or ys k e) (sym m) ∙ get_or-map f rows k d e l

pub row_past : {X Y : Type 0} (f : X → Y) (rows : List X) (k : ℕ) (e : Y) (all : List Y) → map f rows ≡ all → length rows ≤ k → unwrap_or (slice_get all k) e ≡ e
row_past f rows k e all m l = unwrap_or-slice_get all k e ∙ get_or_past all k e (let n = ap length m in omega (arith, length-map rows f))
