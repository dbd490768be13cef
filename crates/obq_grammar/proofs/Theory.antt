-- Sequences of languages, apart from this grammar.
use Rattle.std.proofs.Common.{◌≡◌, List, [], ◌∷◌, ◌++◌, refl, sym, subst, ap, ◌∙◌, append_assoc, append-nil}
use Rattle.obq_base.specs.declared.tokens.TokenKind.{TokenKind}
use Rattle.obq_base.specs.declared.tokens.Token.{Token}
use Rattle.obq_model.specs.Nodes.{next, token}
use Rattle.obq_grammar.specs.Fails.{Cut, here, there, Fails}

pub same_front : {y z w v : List Token} → Cut y z w v → next v ≡ next z → next w ≡ next y
same_front here e = e
same_front (there k) e = refl

pub trans : {x y z u w v : List Token} → Cut x y u w → Cut y z w v → Cut x z u v
trans here k = k
trans (there j) k = there (trans j k)

-- An L that ends before a token of S begins in one way. It doesn't depend on what stands behind it, but for the place of an empty block at its end.
pub record Good {A : Type 0} (L : A → List Token → List Token → Type 0) (S : TokenKind → Type 0) : Type 0 where
  pub unique : (a b : A) (x r s : List Token) → L a x r → S (next r) → L b x s → S (next s) → (a ≡ b) × (r ≡ s)
  pub local : (a : A) (x r : List Token) → L a x r → (v : List Token) → S (next v) → (b : A) × (y : List Token) × Cut x r y v × L b y v

-- a token of this kind alone
pub data IsToken (kind : TokenKind) : Unit {0} → List Token → List Token → Type 0 where
  the_token : {p : _} {r : List Token} → IsToken kind tt (token kind p ∷ r) r

-- y begins with an M; with a K, and an M behind it
abbrev pub Begins : {B : Type 0} → (B → List Token → List Token → Type 0) → (TokenKind → Type 0) → List Token → Type 0
Begins {B = B} M T y = (b : B) × (r : List Token) × M b y r × T (next r)

abbrev pub Both : {C B : Type 0} → (C → List Token → List Token → Type 0) → (TokenKind → Type 0) → (B → List Token → List Token → Type 0) → (TokenKind → Type 0) → List Token → Type 0
Both {C = C} {B = B} K U M T w = (c : C) × (b : B) × (m : List Token) × (r : List Token) × K c w m × U (next m) × M b m r × T (next r)

pub under : (p : List Token) {x z y v : List Token} → Cut x z y v → Cut (p ++ x) z (p ++ y) v
under [] k = k
under (t ∷ p) k = there (under p k)

-- an M that stands behind the tokens p in an L fails
pub after : {A B : Type 0} {L : A → List Token → List Token → Type 0} {M : B → List Token → List Token → Type 0} {S T : TokenKind → Type 0} {x z : List Token} (p : List Token) →
    ((a : A) (y s : List Token) → next y ≡ next x → L a (p ++ y) s → S (next s) → Begins M T y) →
    ((r : List Token) → S (next r) → (q : List Token) × T (next q) × ((b : B) (y : List Token) → M b y q → (a : A) × L a (p ++ y) r)) →
    Fails M T x z → Fails L S (p ++ x) z
after p back fore f = record {
  dead = λ v e.
      let d = f.dead v e in (
        p ++ d.0,
        under p d.1,
        λ a s l h.
            let b = back a d.0 s (same_front d.1 e) l h in
            d.2 b.0 b.1 b.2 b.3,
      );
  viable = λ r h.
      let q = fore r h in
      let w = f.viable q.0 q.1 in
      let l = q.2 w.0 w.1 w.4 in
      (l.0, p ++ w.1, w.2, under p w.3, l.1);
}

-- an M that stands behind the tokens p and a K in an L fails
pub past : {A B C : Type 0} {L : A → List Token → List Token → Type 0} {K : C → List Token → List Token → Type 0} {M : B → List Token → List Token → Type 0} {S T U : TokenKind → Type 0} {c : C} {x y z : List Token} (p : List Token) →
    Good K U → K c x y → U (next y) →
    ((b : B) (m s : List Token) → M b m s → T (next s) → U (next m)) →
    ((d : C) (a : A) (w m s : List Token) → K d w m → L a (p ++ w) s → S (next s) → Both K U M T w) →
    ((r : List Token) → S (next r) → (q : List Token) × T (next q) × ((d : C) (b : B) (w m : List Token) → K d w m → M b m q → (a : A) × L a (p ++ w) r)) →
    Fails M T y z → Fails L S (p ++ x) z
past {M = M} {U = U} {c = c} {x = x} {y = y} p g k u before back fore f = record {
  dead = λ v e.
      let d = f.dead v e in
      let u' = subst U (sym (same_front d.1 e)) u in
      let n = g.local c x y k d.0 u' in (
        p ++ n.1,
        under p (trans n.2 d.1),
        λ a s l h.
            let b = back n.0 a n.1 d.0 s n.3 l h in
            let same = g.unique n.0 b.0 n.1 d.0 b.2 n.3 u' b.4 b.5 in
            d.2 b.1 b.3 (subst (λ (i : List Token). M b.1 i b.3) (sym same.1) b.6) b.7,
      );
  viable = λ r h.
      let q = fore r h in
      let w = f.viable q.0 q.1 in
      let n = g.local c x y k w.1 (before w.0 w.1 q.0 w.4 q.1) in
      let l = q.2 n.0 w.0 n.1 w.1 n.3 w.4 in
      (l.0, p ++ n.1, w.2, under p (trans n.2 w.3), l.1);
}

-- no M begins with the next token
pub stop : {B : Type 0} {M : B → List Token → List Token → Type 0} {T : TokenKind → Type 0} {x : List Token} →
    ((b : B) (y s : List Token) → next y ≡ next x → M b y s → T (next s) → ⊥) →
    ((r : List Token) → T (next r) → (b : B) × (y : List Token) × M b y r) →
    Fails M T x x
stop none some = record {
  dead = λ v e. (v, here, λ b s m h. none b v s e m h);
  viable = λ r h. let w = some r h in (w.0, w.1, w.1, here, w.2);
}

-- fewer tokens may stand behind
pub fewer : {A : Type 0} {L : A → List Token → List Token → Type 0} {S T : TokenKind → Type 0} {x z : List Token} → ((t : TokenKind) → T t → S t) → Fails L S x z → Fails L T x z
fewer sub f = record {
  dead = λ v e. let d = f.dead v e in (d.0, d.1, λ a s l h. d.2 a s l (sub (next s) h));
  viable = λ r h. f.viable r (sub (next r) h);
}

-- and the one behind is none of them
pub narrow : {A : Type 0} {L : A → List Token → List Token → Type 0} {S T : TokenKind → Type 0} {a : A} {x z : List Token} → Good L S → ((t : TokenKind) → T t → S t) → L a x z → S (next z) → (T (next z) → ⊥) → Fails L T x z
narrow {S = S} {T = T} {a = a} {x = x} {z = z} g sub l h not = record {
  dead = λ v e.
      let h' = subst S (sym e) h in
      let n = g.local a x z l v h' in (
        n.1,
        n.2,
        λ b s m k.
            let same = g.unique n.0 b n.1 v s n.3 h' m (sub (next s) k) in
            not (subst T (ap next (sym same.1) ∙ e) k),
      );
  viable = λ r h. let n = g.local a x z l r (sub (next r) h) in (n.0, n.1, r, n.2, n.3);
}

-- the same, where the tokens are known by an equation
pub at : {A : Type 0} {L : A → List Token → List Token → Type 0} {S : TokenKind → Type 0} {x y z : List Token} → x ≡ y → Fails L S y z → Fails L S x z
at {L = L} {S = S} {z = z} e f = subst (λ (n : List Token). Fails L S n z) (sym e) f

-- the items of a list so far, from x up to y
pub record Leads {B : Type 0} (M : List B → List Token → List Token → Type 0) (S : TokenKind → Type 0) (ls : List B) (x y : List Token) : Type 0 where
  pub found : (bs : List B) (r : List Token) → M bs y r → M (ls ++ bs) x r
  pub fails : (z : List Token) → Fails M S y z → Fails M S x z

pub step : {B : Type 0} {M : List B → List Token → List Token → Type 0} {S : TokenKind → Type 0} {ls : List B} {x y z : List Token} (b : B) → Leads M S ls x y → ((bs : List B) (r : List Token) → M bs z r → M (b ∷ bs) y r) → ((w : List Token) → Fails M S z w → Fails M S y w) → Leads M S (ls ++ b ∷ []) x z
step {M = M} {ls = ls} {x = x} b l found fails = record {
  found = λ bs r m. subst (λ (n : List _). M n x r) (sym (append_assoc ls (b ∷ []) bs)) (l.found (b ∷ bs) r (found bs r m));
  fails = λ w f. l.fails w (fails w f);
}

pub done : {B : Type 0} {M : List B → List Token → List Token → Type 0} {S : TokenKind → Type 0} {ls : List B} {x y r : List Token} → Leads M S ls x y → M [] y r → M ls x r
done {M = M} {ls = ls} {x = x} {r = r} l m = subst (λ (n : List _). M n x r) (append-nil ls) (l.found [] r m)

-- the same list by another name
pub re : {B : Type 0} {M : List B → List Token → List Token → Type 0} {S : TokenKind → Type 0} {ls ks : List B} {x y : List Token} → ks ≡ ls → Leads M S ls x y → Leads M S ks x y
re {M = M} {S = S} {x = x} {y = y} e l = subst (λ (n : List _). Leads M S n x y) (sym e) l

pub upto : {A : Type 0} (L : A → List Token → List Token → Type 0) {a : A} {x y z : List Token} → y ≡ z → L a x y → L a x z
upto L {a = a} {x = x} e l = subst (λ (n : List Token). L a x n) e l

-- the same tree by another name
pub as_tree : {A : Type 0} (L : A → List Token → List Token → Type 0) {a b : A} {x r : List Token} → a ≡ b → L b x r → L a x r
as_tree L {x = x} {r = r} e l = subst (λ (n : _). L n x r) (sym e) l

-- what begins at y begins at x, which is the same
pub move : {A : Type 0} (L : A → List Token → List Token → Type 0) (a : A) (x y r : List Token) → x ≡ y → L a y r → L a x r
move L a x y r e l = subst (λ (n : List Token). L a n r) (sym e) l

abbrev pub behind : List Token → List Token
behind [] = []
behind (t ∷ ts) = ts

-- every L that begins at x, and ends before a token of S, is a and ends at r
abbrev pub Agrees : {A : Type 0} → (A → List Token → List Token → Type 0) → (TokenKind → Type 0) → A → List Token → List Token → Type 0
Agrees {A = A} L S a x r = (d : A) (s : List Token) → L d x s → S (next s) → (a ≡ d) × (r ≡ s)

abbrev pub Agrees2 : {A B : Type 0} → (A → B → List Token → List Token → Type 0) → A → B → List Token → List Token → Type 0
Agrees2 {A = A} {B = B} L a b x r = (d : A) (g : B) (s : List Token) → L d g x s → (a ≡ d) × (b ≡ g) × (r ≡ s)

-- Two readings of one list of tokens agree on their trees and on what is left: what is built of them does.
pub shut : {A : Type 0} {a d : A} {t u : Token} {y z : List Token} → (a ≡ d) × (t ∷ y ≡ u ∷ z) → (a ≡ d) × (y ≡ z)
shut e = (e.0, ap behind e.1)

pub node1 : {A C : Type 0} {a d : A} {y z : List Token} (f : A → C) → (a ≡ d) × (y ≡ z) → (f a ≡ f d) × (y ≡ z)
node1 f e = (ap f e.0, e.1)

pub node2 : {A B C : Type 0} {a d : A} {b g : B} {y z r s o : List Token} (M : B → List Token → List Token → Type 0) (f : A → B → C) → (a ≡ d) × (y ≡ z) → M g z o → (M g y o → (b ≡ g) × (r ≡ s)) → (f a b ≡ f d g) × (r ≡ s)
node2 {d = d} {b = b} {g = g} {y = y} {z = z} {o = o} M f e q then =
    let w = then (move M g y z o e.1 q) in
    (ap (λ a. f a b) e.0 ∙ ap (λ b. f d b) w.0, w.1)

pub node3 : {A B C D : Type 0} {a d : A} {b g : B} {c h : C} {v w y z r s o u : List Token} (M : B → List Token → List Token → Type 0) (N : C → List Token → List Token → Type 0) (f : A → B → C → D) → (a ≡ d) × (v ≡ w) → M g w o → (M g v o → (b ≡ g) × (y ≡ z)) → N h z u → (N h y u → (c ≡ h) × (r ≡ s)) → (f a b c ≡ f d g h) × (r ≡ s)
node3 {d = d} {b = b} {g = g} {c = c} {h = h} {v = v} {w = w} {y = y} {z = z} {o = o} {u = u} M N f e q then n last =
    let m = then (move M g v w o e.1 q) in
    let k = last (move N h y z u m.1 n) in
    (ap (λ a. f a b c) e.0 ∙ (ap (λ b. f d b c) m.0 ∙ ap (λ c. f d g c) k.0), k.1)

-- of readings of two trees
pub pair_node : {A B C : Type 0} {a d : A} {b g : B} {y z : List Token} (f : A → B → C) → (a ≡ d) × (b ≡ g) × (y ≡ z) → (f a b ≡ f d g) × (y ≡ z)
pair_node {d = d} {b = b} f e = (ap (λ a. f a b) e.0 ∙ ap (λ b. f d b) e.1, e.2)

pub pair_first : {A B C : Type 0} {a d : A} {b g : B} {y z : List Token} (f : A → C) → (a ≡ d) × (b ≡ g) × (y ≡ z) → (f a ≡ f d) × (b ≡ g) × (y ≡ z)
pair_first f e = (ap f e.0, e.1, e.2)

pub beside : {A B : Type 0} (a : A) {b g : B} {y z : List Token} → (b ≡ g) × (y ≡ z) → (a ≡ a) × (b ≡ g) × (y ≡ z)
beside a e = (refl, e.0, e.1)

pub lead : {A B C : Type 0} {a d : A} {b g : B} {y z : List Token} (f : A → B → C) → a ≡ d → (b ≡ g) × (y ≡ z) → (f a b ≡ f d g) × (y ≡ z)
lead {d = d} {b = b} f e u = (ap (λ a. f a b) e ∙ ap (λ b. f d b) u.0, u.1)
