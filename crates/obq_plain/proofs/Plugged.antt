-- Parts in the holes of frames, and frames from the outermost on.
use Prim.Native.Nat.{zero}
use Rattle.std.proofs.Common.{List, [], ap, arith, length, refl, slice_set, suc, sym, ℕ, ◌++◌, ◌-◌, ◌∙◌, ◌∷◌, ◌≡◌}
use Rattle.obq_model.specs.Step as s
use Rattle.obq_model.specs.Step.{fill, plug, values_before}
use Rattle.obq_model.specs.Terms as m
use Rattle.obq_plain.specs.Holes.{plugged, replaced}
use Rattle.obq_reduce.proofs.Parts.{next_part}
use Rattle.obq_reduce.specs.Founds.{around, frame_of}
use Rattle.obq_reduce.specs.declared.finding.Frame.{Frame}
use Rattle.obq_terms.specs.Behind.{behind}

last_set : {A : Type 0} (xs : List A) (x y : A) (k : ℕ) → k ≡ length xs → slice_set (xs ++ x ∷ []) k y ≡ xs ++ y ∷ []
last_set [] x y zero e = refl
last_set [] x y (suc k) e = absurd (omega (arith, e))
last_set (z ∷ zs) x y zero e = absurd (omega (arith, e))
last_set (z ∷ zs) x y (suc k) e = let f : k ≡ length zs = omega (arith, e) in ap (λ ys. z ∷ ys) (last_set zs x y k f)

one_more : {A : Type 0} (xs : List A) (x : A) → length (xs ++ x ∷ []) ≡ suc (length xs)
one_more [] x = refl
one_more (y ∷ ys) x = ap suc (one_more ys x)

-- another term takes the place of the part that was put last
pub part_replaced : (rest : List (m.Term ℕ)) (x t : m.Term ℕ) → behind (slice_set (rest ++ x ∷ []) (length (rest ++ x ∷ []) - 1) t) m.End ≡ m.Part t (behind rest m.End)
part_replaced rest x t =
    let n : length (rest ++ x ∷ []) ≡ suc (length rest) = one_more rest x in
    let at : length (rest ++ x ∷ []) - 1 ≡ length rest = omega (arith, n) in
    ap (λ ts. behind ts m.End) (last_set rest x t (length (rest ++ x ∷ []) - 1) at) ∙ next_part rest t m.End

-- where no part is none is replaced
pub none_replaced : (rest : List (m.Term ℕ)) (k : ℕ) (t : m.Term ℕ) → length rest ≡ 0 → slice_set rest k t ≡ rest
none_replaced [] k t e = refl
none_replaced (u ∷ us) k t e = absurd (omega (arith, e))

-- the last of the frames is the outermost
pub last_around : (fs : List Frame) (f : Frame) (inner : List (s.Frame ℕ)) → around (fs ++ f ∷ []) inner ≡ frame_of f ∷ around fs inner
last_around [] f inner = refl
last_around (g ∷ gs) f inner = last_around gs f (frame_of g ∷ inner)

-- the last of the frames is the innermost
pub last_plugged : (fs : List Frame) (f : Frame) (t : m.Term ℕ) → plugged (fs ++ f ∷ []) t ≡ plugged fs (replaced f t)
last_plugged [] f t = refl
last_plugged (g ∷ gs) f t = ap (replaced g) (last_plugged gs f t)

-- one frame more is occupied
pub occupied_next : (frames left : List Frame) (f g : Frame) (all more : List Frame) (t whole : m.Term ℕ) → frames ≡ left ++ f ∷ [] → more ≡ all ++ g ∷ []
    → ((u : m.Term ℕ) → replaced g u ≡ fill (frame_of f) u) → plugged all (plug (around frames []) t) ≡ whole → plugged more (plug (around left []) t) ≡ whole
occupied_next frames left f g all more t whole popped pushed same before =
    ap (λ fs. plugged fs (plug (around left []) t)) pushed
    ∙ last_plugged all g (plug (around left []) t)
    ∙ ap (plugged all) (same (plug (around left []) t) ∙ sym (ap (λ fs. plug fs t) (ap (λ fs. around fs []) popped ∙ last_around left f [])))
    ∙ before

-- one frame more is around the term
pub plugged_next : (frames left : List Frame) (f : Frame) (t u whole : m.Term ℕ) → frames ≡ left ++ f ∷ [] → u ≡ replaced f t → plugged frames t ≡ whole → plugged left u ≡ whole
plugged_next frames left f t u whole popped same before = ap (plugged left) same ∙ sym (last_plugged left f t) ∙ ap (λ fs. plugged fs t) (sym popped) ∙ before
