-- Steps of the pass that makes codes: each takes lists of captured names from those ahead, adds codes and may bind names. They compose where there
-- is room for what they add.
use Rattle.std.proofs.Common.{List, [], ap, append_assoc, arith, length, refl, subst, suc, ℕ, ◌+◌, ◌++◌, ◌≡◌, ◌≤◌, ◌∙◌, ◌∷◌}
use Rattle.std.proofs.lemmas.List.{append-nil, length-append}
use Rattle.obq_base.specs.declared.code.Node.{Node}
use Rattle.obq_base.specs.Tree.{ArmTrees}
use Rattle.obq_model.specs.Draft.{count_arms}
use Rattle.obq_model.specs.Scopes.{Outside}
use Rattle.obq_names.proofs.Unions.{Names}
use Rattle.obq_scope.specs.declared.emitter.Emitter.{Emitter}
use Rattle.obq_scope.specs.declared.output.Output.{Output}
use Rattle.obq_scope.specs.Coded.{emitter_with}
use Rattle.obq_scope.specs.Emitted.{with_node}
use Rattle.obq_scope.specs.Narrowed.{narrowed}
use Rattle.obq_scope.specs.Sizes.{size_arms}
use Rattle.obq_scope.proofs.Rooms.{Room, narrow_at}
use Rattle.obq_scope.proofs.Sized.{arms_fit}

abbrev pub at : Output → List Names → Emitter
at out ahead = record { output = out; ahead = ahead }

-- from the one output to the other one, past these lists; the codes that are added, and k names that are bound behind, are at most so many
pub record Codes (f : Emitter → Emitter) (lists : List Names) (k size : ℕ) (before after : Output) : Type 0 where
  pub codes : (more : List Names) → f (at before (lists ++ more)) ≡ at after more
  pub many : length after.codes + k ≤ length before.codes + size

-- so it is where there is room for a tree of that size
abbrev pub Fits : Outside → Names → (Emitter → Emitter) → List Names → (k size : ℕ) → (before after : Output) → Type 0
Fits o locals f lists k size before after = Room o locals before size → Codes f lists k size before after

pub nothing : {o : Outside} {locals : Names} (out : Output) → Fits o locals (λ s. s) [] 0 0 out out
nothing out r = record { codes = λ more. refl; many = omega arith }

-- a node, which is the draft's where there is room
pub pushes : {o : Outside} {locals : Names} {f : Emitter → Emitter} {lists : List Names} {k size : ℕ} {after : Output} (a b : Node) (out : Output) → (Room o locals out size → a ≡ b)
    → Fits o locals f lists k size (with_node b out) after → Fits o locals (λ s. f (emitter_with a s)) lists k size out after
pushes {f = f} {lists = lists} a b out e c r =
    let m = c (record { room = r.room; members = r.members; captured = r.captured }) in
    record { codes = λ more. ap (λ z. f (emitter_with z (at out (lists ++ more)))) (e r) ∙ m.codes more; many = m.many }

pub puts : {o : Outside} {locals : Names} {f : Emitter → Emitter} {lists : List Names} {k size : ℕ} {after : Output} (a : Node) (out : Output)
    → Fits o locals f lists k size (with_node a out) after → Fits o locals (λ s. f (emitter_with a s)) lists k size out after
puts a out c = pushes a a out (λ r. refl) c

-- a size may be larger
pub wider : {o : Outside} {locals : Names} {f : Emitter → Emitter} {lists : List Names} {k j size : ℕ} {before after : Output} (more : ℕ) → j ≤ k + more
    → Fits o locals f lists k size before after → Fits o locals f lists j (more + size) before after
wider more le c r =
    let room = r.room in
    let m = c (record { room = omega (arith, room); members = r.members; captured = r.captured }) in
    let many = m.many in
    record { codes = m.codes; many = omega (arith, many, le) }

pub one : {o : Outside} {locals : Names} {f : Emitter → Emitter} {lists : List Names} {k size : ℕ} {before after : Output}
    → Fits o locals f lists k size before after → Fits o locals f lists k (1 + size) before after
one {k = k} c = wider 1 (less k) c where
  less : (k : ℕ) → k ≤ k + 1
  less k = omega arith

-- the second under names that the first binds
pub joins : {o : Outside} {locals : Names} {f g : Emitter → Emitter} {lists further : List Names} {v w j : ℕ} {a b c : Output} (names : Names)
    → Fits o locals f lists (length names) v a b → Fits o (locals ++ names) g further j w b c → Fits o locals (λ s. g (f s)) (lists ++ further) j (v + w) a c
joins {locals = locals} {f = f} {g = g} {lists = lists} {further = further} {a = a} {b = b} names m p r =
    let room = r.room in
    let first = m (record { room = omega (arith, room); members = r.members; captured = r.captured }) in
    let fewer = first.many in
    let second = p (record { room = omega (arith, room, fewer, length-append locals names); members = r.members; captured = r.captured }) in
    let many = second.many in
    record {
      codes = λ more. ap (λ (z : List Names). g (f (at a z))) (append_assoc lists further more) ∙ ap g (first.codes (further ++ more)) ∙ second.codes more;
      many = omega (arith, fewer, many);
    }

pub both : {o : Outside} {locals : Names} {f g : Emitter → Emitter} {lists further : List Names} {v w j : ℕ} {a b c : Output}
    → Fits o locals f lists 0 v a b → Fits o locals g further j w b c → Fits o locals (λ s. g (f s)) (lists ++ further) j (v + w) a c
both {o} {locals} {g = g} {further = further} {w = w} {j = j} {b = b} {c = c} m p = joins [] m (λ r. p (subst (λ (l : Names). Room o l b w) (append-nil locals) r))

-- under one more name
pub under : {o : Outside} {locals : Names} {f : Emitter → Emitter} {lists : List Names} {k size : ℕ} {before after : Output} (x : List ℕ)
    → Fits o (locals ++ x ∷ []) f lists k size before after → Fits o locals f lists (suc k) (1 + size) before after
under {locals = locals} x c r =
    let room = r.room in
    let m = c (record { room = omega (arith, room, length-append locals (x ∷ [])); members = r.members; captured = r.captured }) in
    let many = m.many in
    record { codes = m.codes; many = omega (arith, many) }

-- in a block the name is bound no longer behind it
pub inside_block : {o : Outside} {locals : Names} {f : Emitter → Emitter} {lists : List Names} {k size : ℕ} {before after : Output}
    → Fits o locals f lists k size before after → Fits o locals f lists 0 size before after
inside_block c r = let m = c r in let many = m.many in record { codes = m.codes; many = omega (arith, many) }

-- a count that is at most a size fits
pub fits : {o : Outside} {locals : Names} {out : Output} (count size : ℕ) (more : ℕ) → count ≤ size → Room o locals out (more + size) → narrowed count ≡ count
fits count size more le r = let room = r.room in narrow_at count (omega (arith, room, le))

-- a node with a count
pub counted : {o : Outside} {locals : Names} {f : Emitter → Emitter} {lists : List Names} {k : ℕ} {after : Output} (make : ℕ → Node) (count size : ℕ) (out : Output) → count ≤ size
    → Fits o locals f lists k size (with_node (make count) out) after → Fits o locals (λ s. f (emitter_with (make (narrowed count)) s)) lists k size out after
counted make count size out le c = pushes (make (narrowed count)) (make count) out (λ r. ap make (let room = r.room in narrow_at count (omega (arith, room, le)))) c

-- with a count of arms, before them and a block, and behind a block too
pub armed : {o : Outside} {locals : Names} {f : Emitter → Emitter} {lists : List Names} {after : Output} (make : ℕ → Node) (arms : ArmTrees) (last : ℕ) (out : Output)
    → Fits o locals f lists 0 (size_arms arms + last) (with_node (make (count_arms arms)) out) after → Fits o locals (λ s. f (emitter_with (make (narrowed (count_arms arms))) s)) lists 0 (size_arms arms + last) out after
armed make arms last out c = pushes (make (narrowed (count_arms arms))) (make (count_arms arms)) out (λ r. ap make (let room = r.room in let le = arms_fit arms in narrow_at (count_arms arms) (omega (arith, room, le)))) c

pub tried : {o : Outside} {locals : Names} {f : Emitter → Emitter} {lists : List Names} {after : Output} (make : ℕ → Node) (arms : ArmTrees) (first last : ℕ) (out : Output)
    → Fits o locals f lists 0 (first + (size_arms arms + last)) (with_node (make (count_arms arms)) out) after
    → Fits o locals (λ s. f (emitter_with (make (narrowed (count_arms arms))) s)) lists 0 (first + (size_arms arms + last)) out after
tried make arms first last out c = pushes (make (narrowed (count_arms arms))) (make (count_arms arms)) out (λ r. ap make (let room = r.room in let le = arms_fit arms in narrow_at (count_arms arms) (omega (arith, room, le)))) c

-- parameters alone
pub names_alone : {o : Outside} (names : Names) (out : Output) → Fits o [] (λ s. s) [] (length names) (length names) out out
names_alone names out r = record { codes = λ more. refl; many = omega arith }
