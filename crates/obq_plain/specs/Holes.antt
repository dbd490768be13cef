-- Frames with a part in their holes, which another term takes the place of.
use Rattle.std.specs.Prelude.{List, [], length, slice_set, ℕ, ◌-◌, ◌∷◌}
use Rattle.obq_model.specs.Step.{values_before}
use Rattle.obq_model.specs.Terms as m
use Rattle.obq_reduce.specs.declared.finding.Frame.{Frame}
use Rattle.obq_terms.specs.Behind.{behind}
use Rattle.obq_terms.specs.Values.{kind_of, values_of}

-- the form of a frame with this term in place of its next part, which is the last one of `rest`
abbrev pub replaced : Frame → m.Term ℕ → m.Term ℕ
replaced f t = m.Form (kind_of f.kind) (values_before (values_of f.done) (behind (slice_set f.rest (length f.rest - 1) t) m.End))

-- all of these frames, the outermost first, around a term
abbrev pub plugged : List Frame → m.Term ℕ → m.Term ℕ
plugged [] t = t
plugged (f ∷ fs) t = replaced f (plugged fs t)
