-- Sequences of parts and where they fail, apart from this grammar.
use Rattle.std.proofs.Common.{◌≡◌, ℕ, List, [], ◌∷◌, refl, sym, subst, ap, ◌∙◌}
use Rattle.obq_base.specs.declared.tokens.TokenKind.{TokenKind}
use Rattle.obq_base.specs.declared.tokens.TokenKind.TheVariants as k
use Rattle.obq_base.specs.declared.tokens.Token.{Token}
use Rattle.obq_model.specs.Nodes.{token, next}
use Rattle.obq_grammar.specs.Fails.{Cut, here, there, Fails}
use Rattle.obq_grammar.specs.Follow.{No, Yes, is_word, Anything, BeginsName}
use Rattle.obq_grammar.proofs.Theory.{Good, Begins, Both, behind, after, past, stop}
use Rattle.obq_grammar.proofs.Sets.{no_yes}
use Rattle.obq_grammar.specs.Parts.{IsWord, the_word, IsName, the_name, Then, then_}

-- What begins with an M that ends before a token of T may stand behind what ends before a token of U; and there is an M before any tokens.
pub record Behind {B : Type 0} (U : TokenKind → Type 0) (M : B → List Token → List Token → Type 0) (T : TokenKind → Type 0) : Type 0 where
  pub before : (b : B) (x r : List Token) → M b x r → T (next r) → U (next x)
  pub some : (r : List Token) → (b : B) × (x : List Token) × M b x r

pub anything : {B : Type 0} {M : B → List Token → List Token → Type 0} {T : TokenKind → Type 0} → ((r : List Token) → (b : B) × (x : List Token) × M b x r) → Behind Anything M T
anything some = record { before = λ b x r m h. tt; some = some }

word_before : (U : TokenKind → Type 0) {kind : TokenKind} {t : Unit {0}} {x r : List Token} → U kind → IsWord kind t x r → U (next x)
word_before U u the_word = u

pub word_behind : {U T : TokenKind → Type 0} {kind : TokenKind} → U kind → Behind U (IsWord kind) T
word_behind {U = U} {kind = kind} u = record { before = λ b x r m h. word_before U u m; some = λ r. (tt, token kind 0 ∷ r, the_word) }

then_before : {A B : Type 0} {K : A → List Token → List Token → Type 0} {M : B → List Token → List Token → Type 0} {U V T : TokenKind → Type 0} {t : Unit {0}} {x r : List Token} → Behind U K V → Behind V M T → Then K M t x r → T (next r) → U (next x)
then_before f s (then_ p q) h = f.before _ _ _ p (s.before _ _ _ q h)

pub then_behind : {A B : Type 0} {K : A → List Token → List Token → Type 0} {M : B → List Token → List Token → Type 0} {U V T : TokenKind → Type 0} → Behind U K V → Behind V M T → Behind U (Then K M) T
then_behind f s = record {
  before = λ b x r m h. then_before f s m h;
  some = λ r.
      let q = s.some r in
      let p = f.some q.1 in
      (tt, p.1, then_ p.2 q.2);
}

first_of : {A B : Type 0} {K : A → List Token → List Token → Type 0} {M : B → List Token → List Token → Type 0} {U T : TokenKind → Type 0} {t : Unit {0}} {x r : List Token} → Behind U M T → Then K M t x r → T (next r) → Begins K U x
first_of n (then_ p q) h = (_, _, p, n.before _ _ _ q h)

both_of : {A B : Type 0} {K : A → List Token → List Token → Type 0} {M : B → List Token → List Token → Type 0} {U T : TokenKind → Type 0} {t : Unit {0}} {x r : List Token} → Behind U M T → Then K M t x r → T (next r) → Both K U M T x
both_of n (then_ p q) h = (_, _, _, _, p, n.before _ _ _ q h, q, h)

-- the first part fails
pub first : {A B : Type 0} {K : A → List Token → List Token → Type 0} {M : B → List Token → List Token → Type 0} {U T : TokenKind → Type 0} {x z : List Token} → Behind U M T → Fails K U x z → Fails (Then K M) T x z
first n f = after [] (λ a y s e l h. first_of n l h) (λ r h. let w = n.some r in (w.1, n.before w.0 w.1 r w.2 h, λ b y p. (tt, then_ p w.2))) f

-- the first part goes up to y, and what stands behind it fails
pub second : {A B : Type 0} {K : A → List Token → List Token → Type 0} {M : B → List Token → List Token → Type 0} {U T : TokenKind → Type 0} {a : A} {x y z : List Token} → Good K U → Behind U M T → K a x y → U (next y) → Fails M T y z → Fails (Then K M) T x z
second g n p u f = past [] g p u (λ b m s q h. n.before b m s q h) (λ d a w m s p l h. both_of n l h) (λ r h. (r, h, λ d b w m p q. (tt, then_ p q))) f

-- A production is a sequence M of parts: each L that begins with a token of P and ends before one of S is such a sequence, and the sequences are Ls.
pub production : {A B : Type 0} {L : A → List Token → List Token → Type 0} {M : B → List Token → List Token → Type 0} {S : TokenKind → Type 0} {x z : List Token} (P : TokenKind → Type 0) →
    ((a : A) (y s : List Token) → P (next y) → L a y s → S (next s) → (b : B) × M b y s) →
    ((b : B) (y s : List Token) → M b y s → (a : A) × L a y s) →
    P (next x) → Fails M S x z → Fails L S x z
production P back fore c f = after [] (λ a y s e l h. let w = back a y s (subst P (sym e) c) l h in (w.0, s, w.1, h)) (λ r h. (r, h, λ b y m. fore b y r m)) f

-- one that begins with a word
pub opened : {A B : Type 0} {L : A → List Token → List Token → Type 0} {M : B → List Token → List Token → Type 0} {S : TokenKind → Type 0} {kind : TokenKind} {t : Unit {0}} {x y z : List Token} →
    ((p : ℕ) (a : A) (y s : List Token) → L a (token kind p ∷ y) s → S (next s) → (b : B) × M b y s) →
    ((p : ℕ) (b : B) (y s : List Token) → M b y s → (a : A) × L a (token kind p ∷ y) s) →
    IsWord kind t x y → Fails M S y z → Fails L S x z
opened {kind = kind} back fore (the_word {p = p}) f = after (token kind p ∷ []) (λ a y s e l h. let w = back p a y s l h in (w.0, s, w.1, h)) (λ r h. (r, h, λ b y m. fore p b y r m)) f

-- and where it begins so and then with a token of P
pub opened_by : {A B : Type 0} {L : A → List Token → List Token → Type 0} {M : B → List Token → List Token → Type 0} {S : TokenKind → Type 0} {kind : TokenKind} {t : Unit {0}} {x y z : List Token} (P : TokenKind → Type 0) →
    ((p : ℕ) (a : A) (y s : List Token) → P (next y) → L a (token kind p ∷ y) s → S (next s) → (b : B) × M b y s) →
    ((p : ℕ) (b : B) (y s : List Token) → M b y s → (a : A) × L a (token kind p ∷ y) s) →
    IsWord kind t x y → P (next y) → Fails M S y z → Fails L S x z
opened_by {kind = kind} P back fore (the_word {p = p}) c f = after (token kind p ∷ []) (λ a y s e l h. let w = back p a y s (subst P (sym e) c) l h in (w.0, s, w.1, h)) (λ r h. (r, h, λ b y m. fore p b y r m)) f

-- nothing that begins with a token of P
pub nothing : {A : Type 0} {L : A → List Token → List Token → Type 0} {S : TokenKind → Type 0} {x : List Token} (P : TokenKind → Type 0) →
    ((a : A) (y s : List Token) → P (next y) → L a y s → S (next s) → ⊥) →
    ((r : List Token) → (a : A) × (y : List Token) × L a y r) → P (next x) → Fails L S x x
nothing P none some c = stop (λ b y s e m h. none b y s (subst P (sym e) c) m h) (λ r h. some r)

-- words and names

word_list : {kind : TokenKind} {t : Unit {0}} {x r : List Token} → IsWord kind t x r → (p : ℕ) × (x ≡ token kind p ∷ r)
word_list (the_word {p = p}) = (p, refl)

one_word : {kind : TokenKind} {t u : Unit {0}} {x r s : List Token} → IsWord kind t x r → IsWord kind u x s → r ≡ s
one_word p q = ap behind (sym (word_list p).1 ∙ (word_list q).1)

pub good_word : {kind : TokenKind} → Good (IsWord kind) Anything
good_word {kind = kind} = record { unique = λ a b x r s p h q i. (refl, one_word p q); local = λ a x r p v h. local_word p v } where
  local_word : {t : Unit {0}} {x r : List Token} → IsWord kind t x r → (v : List Token) → (b : Unit {0}) × (y : List Token) × Cut x r y v × IsWord kind b y v
  local_word (the_word {p = p}) v = (tt, token kind p ∷ v, there here, the_word)

one_name : {m n : List ℕ} {x r s : List Token} → IsName m x r → IsName n x s → (m ≡ n) × (r ≡ s)
one_name the_name the_name = (refl, refl)

local_name : {n : List ℕ} {x r : List Token} → IsName n x r → (v : List Token) → (m : List ℕ) × (y : List Token) × Cut x r y v × IsName m y v
local_name (the_name {n = n} {p = p}) v = (n, token (k.Name n) p ∷ v, there here, the_name)

pub good_name : Good IsName Anything
good_name = record { unique = λ a b x r s p h q i. one_name p q; local = λ a x r p v h. local_name p v }

word_next : {kind : TokenKind} {t : Unit {0}} {x r : List Token} → IsWord kind t x r → next x ≡ kind
word_next the_word = refl

same_word : (kind : TokenKind) → Yes (is_word kind kind) → (other : TokenKind) → No (is_word kind other) → other ≡ kind → ⊥
same_word kind y other n e = no_yes (is_word kind kind) (subst (λ (w : TokenKind). No (is_word kind w)) e n) y

-- the next token isn't the word
-- the next token is another
pub other_word : {kind : TokenKind} {x : List Token} → Yes (is_word kind kind) → No (is_word kind (next x)) → Fails (IsWord kind) Anything x x
other_word {kind = kind} {x = x} same other = stop (λ b y s e m h. same_word kind same (next x) other (sym e ∙ word_next m)) (λ r h. (tt, token kind 0 ∷ r, the_word))

name_begins : {n : List ℕ} {x r : List Token} → IsName n x r → BeginsName (next x)
name_begins the_name = tt

pub other_name : {x : List Token} → (BeginsName (next x) → ⊥) → Fails IsName Anything x x
other_name other = stop (λ b y s e m h. other (subst BeginsName e (name_begins m))) (λ r h. ([], token (k.Name []) 0 ∷ r, the_name))

-- a word or a name that was read
pub word : {kind : TokenKind} {p : ℕ} {x y : List Token} → x ≡ token kind p ∷ y → IsWord kind tt x y
word {kind = kind} {y = y} e = subst (λ (l : List Token). IsWord kind tt l y) (sym e) the_word

pub named : {n : List ℕ} {p : ℕ} {x y : List Token} → x ≡ token (k.Name n) p ∷ y → IsName n x y
named {n = n} {y = y} e = subst (λ (l : List Token). IsName n l y) (sym e) the_name

-- one token, and more behind it
pub also : {t : Token} {x y z : List Token} → x ≡ t ∷ y → y ≡ z → x ≡ t ∷ z
also {t = t} e f = e ∙ ap (λ (l : List Token). t ∷ l) f

-- the same language over other trees
pub renamed : {A B : Type 0} {L : A → List Token → List Token → Type 0} {M : B → List Token → List Token → Type 0} {S : TokenKind → Type 0} {x z : List Token} →
    ((b : B) (y r : List Token) → M b y r → (a : A) × L a y r) →
    ((a : A) (y r : List Token) → L a y r → (b : B) × M b y r) →
    Fails L S x z → Fails M S x z
renamed back fore f = after [] (λ b y s e m h. let w = back b y s m in (w.0, s, w.1, h)) (λ r h. (r, h, λ a y l. fore a y r l)) f
