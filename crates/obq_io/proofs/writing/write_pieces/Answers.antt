use Rattle.std.proofs.Common.{◌≡◌, ◌<◌, ◌++◌, Bor, List, [], ap, arith, drop, get_or, length, suc, sym, take, ◌∙◌, ℕ}
use Rattle.std.proofs.Math.Seq.{drop-cons}
use Rattle.std.proofs.lemmas.Grind.{flat_map-append}
use Rattle.std.proofs.lemmas.List.{take-append-drop}
use Rattle.std.specs.List.{flat_map}
use Rattle.obq_io.proofs.Told.{prefix_behind}
use Rattle.obq_io.proofs.writing.write_pieces.Goals as goal

abbrev joined : List (Bor (List ℕ)) → List ℕ
joined ps = flat_map (λ p. p.now) ps

-- the pieces before one, that piece, and those behind it
cut_at : (ps : List (Bor (List ℕ))) (i : ℕ) (d : Bor (List ℕ)) → i < length ps → joined ps ≡ joined (take i ps) ++ ((get_or ps i d).now ++ joined (drop (suc i) ps))
cut_at ps i d lt =
    ap joined (sym (take-append-drop i ps)) ∙ (flat_map-append (λ p. p.now) (take i ps) (drop i ps) ∙ ap (λ qs. joined (take i ps) ++ joined qs) (drop-cons ps i d lt))

pub returns-in_err-write_text-clause-prefix : goal.returns-in_err-write_text-clause-prefix
returns-in_err-write_text-clause-prefix g c =
    let ps = c.args.pieces.now in
    let i = c.loop-piece.piece-index in
    let d : Bor (List ℕ) = record { ref_ptr = (0, 0); now = [] } in
    let lt : i < length ps = omega arith in
    rw (cut_at ps i d lt) (prefix_behind _ _ _ (joined (take i ps)) (get_or ps i d).now (joined (drop (suc i) ps)) c.loop-piece.invariant.got c.write_text.ensures.prefix)
