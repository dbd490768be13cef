-- A source has at most one reading and at most one first fault, and not both; what its tokens are like.
use Rattle.std.proofs.Common.{◌≡◌, ℕ, ◌+◌, ◌<◌, ◌≤◌, List, [], ◌∷◌, ◌++◌, length, Option, Some, None, refl, sym, ap, ◌∙◌, arith, subst}
use Rattle.std.specs.Prelude.{position}
use Rattle.std.specs.Str.{bytes_eq}
use Rattle.obq_base.specs.declared.tokens.Token.{Token}
use Rattle.obq_base.specs.declared.faults.LexKind.{LexKind}
use Rattle.obq_tables.specs.Tables.{keywords}
use Rattle.obq_model.specs.Tokens.{Lexeme, Word, Number, Literal, Mark, IsComment, IsBlank, remark, IsFault, real, int_range, IsToken, IsRead, done, blank, token, IsReading, reading, IsFirstFault, fault, too_deep, kind_of, word_kind, nested_by, place_of, token_at, end_token, IfEnd, IsEnded, IsShallow, IsAscending}
use Rattle.obq_model.proofs.Readings.{spelled_length, blank_length}
use Rattle.obq_model.proofs.Faults.{view, same_view, same_blank, blank_token, blank_view, token_view, same_token}

-- nothing can be read here
record Stuck (x : List ℕ) (d : ℕ) : Type 0 where
  no_blank : (r : List ℕ) → IsBlank x r → ⊥
  no_token : (l : Lexeme) (r : List ℕ) → IsToken l x r → nested_by l d ≤ 200 → ⊥

record Same (ts us : List Token) (d e : ℕ) (x y : List ℕ) : Type 0 where
  tokens : ts ≡ us
  depths : d ≡ e
  rests : x ≡ y

same_read : {n : ℕ} {ts us : List Token} {d e f : ℕ} {x y z : List ℕ} → IsRead n ts d x e y → Stuck y e → IsRead n us d x f z → Stuck z f → Same ts us e f y z
same_read done p done q = record { tokens = refl; depths = refl; rests = refl }
same_read done p (blank {y = y} b h) q = absurd (p.no_blank y b)
same_read done p (token {l = l} {y = y} t s h) q = absurd (p.no_token l y t s)
same_read (blank {y = y} b h) p done q = absurd (q.no_blank y b)
same_read (token {l = l} {y = y} t s h) p done q = absurd (q.no_token l y t s)
same_read {n = n} {us = us} {d = d} {f = f} {z = z} (blank a g) p (blank b h) q = same_read g p (subst (λ w. IsRead n us d w f z) (sym (same_blank a b)) h) q
same_read (blank a g) p (token t s h) q = absurd (blank_token a t)
same_read (token t s h) p (blank a g) q = absurd (blank_token a t)
same_read {n = n} {d = d} {f = f} {x = x} {z = z} (token {l = l} {ts = vs} {y = y} t s g) p (token {l = m} {ts = us} {y = w} u r h) q =
    let same = same_token t u in
    let moved = subst (λ v. IsRead n us (nested_by l d) v f z) (sym same.1) (subst (λ k. IsRead n us (nested_by k d) w f z) (sym same.0) h) in
    let rest = same_read g p moved q in
    record {
      tokens = ap (λ k. token_at n (kind_of k) x ∷ vs) same.0 ∙ ap (λ v. token_at n (kind_of m) x ∷ v) rest.tokens;
      depths = rest.depths;
      rests = rest.rests;
    }

no_comment : {r : List ℕ} → IsComment [] r → ⊥
no_comment c = elim c [ ]

no_blank_at_end : {r : List ℕ} → IsBlank [] r → ⊥
no_blank_at_end (remark c) = no_comment c

no_token_at_end : {l : Lexeme} {r : List ℕ} → IsToken l [] r → ⊥
no_token_at_end t = let n = spelled_length t.there.spelled in omega arith

stuck_at_end : (d : ℕ) → Stuck [] d
stuck_at_end d = record { no_blank = λ r b. no_blank_at_end b; no_token = λ l r t s. no_token_at_end t }

stuck_at_fault : {k : LexKind} {x z : List ℕ} (d : ℕ) → IsFault k x z → Stuck x d
stuck_at_fault d f = record { no_blank = λ r b. blank_view b (view f); no_token = λ l r t s. token_view t (view f) }

stuck_too_deep : {l : Lexeme} {x y : List ℕ} (d : ℕ) → IsToken l x y → 200 < nested_by l d → Stuck x d
stuck_too_deep d t h = record {
  no_blank = λ r b. blank_token b t;
  no_token = λ m r u s. let e = ap (λ k. nested_by k d) (same_token t u).0 in omega arith;
}

pub one_reading : (source : List ℕ) (ts us : List Token) → IsReading source ts → IsReading source us → ts ≡ us
one_reading source ts us (reading {e = d} g) (reading {e = e} h) = ap (λ v. v ++ end_token source ∷ []) (same_read g (stuck_at_end d) h (stuck_at_end e)).tokens

pub one_first_fault : (source : List ℕ) (j k : LexKind) (p q : ℕ) → IsFirstFault source j p → IsFirstFault source k q → (j ≡ k) × (p ≡ q)
one_first_fault source j k p q (fault {e = d} g f) (fault {e = e} {z = z} h i) =
    let same = same_read g (stuck_at_fault d f) h (stuck_at_fault e i) in
    let v = same_view (view f) (view (subst (λ w. IsFault k w z) (sym same.rests) i)) in
    (v.0, ap (place_of (length source)) v.1)
one_first_fault source j k p q (fault {e = d} {x = x} g f) (too_deep {l = l} {e = e} {y = y} h t s) =
    let same = same_read g (stuck_at_fault d f) h (stuck_too_deep e t s) in
    absurd (token_view (subst (λ w. IsToken l w y) (sym same.rests) t) (view f))
one_first_fault source j k p q (too_deep {l = l} {e = e} {y = y} h t s) (fault {e = d} {x = x} g f) =
    let same = same_read g (stuck_at_fault d f) h (stuck_too_deep e t s) in
    absurd (token_view (subst (λ w. IsToken l w y) (sym same.rests) t) (view f))
one_first_fault source j k p q (too_deep {e = d} g t s) (too_deep {e = e} h u r) =
    let same = same_read g (stuck_too_deep d t s) h (stuck_too_deep e u r) in
    (refl, ap (place_of (length source)) same.rests)

no_view_at_end : {k : LexKind} {z : List ℕ} → IsFault k [] z → ⊥
no_view_at_end (real s h) = let n = spelled_length s in omega arith
no_view_at_end (int_range l h i) = let n = spelled_length l.spelled in omega arith

pub no_fault_of_a_reading : (source : List ℕ) (ts : List Token) (k : LexKind) (p : ℕ) → IsReading source ts → IsFirstFault source k p → ⊥
no_fault_of_a_reading source ts k p (reading {e = d} g) (fault {e = e} {z = z} h f) =
    let same = same_read g (stuck_at_end d) h (stuck_at_fault e f) in
    no_view_at_end (subst (λ w. IsFault k w z) (sym same.rests) f)
no_fault_of_a_reading source ts k p (reading {e = d} g) (too_deep {l = l} {e = e} {y = y} h t s) =
    let same = same_read g (stuck_at_end d) h (stuck_too_deep e t s) in
    no_token_at_end (subst (λ w. IsToken l w y) (sym same.rests) t)

word_not_end : (w : List ℕ) (o : Option ℕ) (A B : Type 0) → B → IfEnd (word_kind w o) A B
word_not_end w None A B b = b
word_not_end w (Some k) A B b = b

not_end : (l : Lexeme) (A B : Type 0) → B → IfEnd (kind_of l) A B
not_end (Word w) A B b = word_not_end w (position (λ k. bytes_eq k w) keywords) A B b
not_end (Number m ds) A B b = b
not_end (Literal v) A B b = b
not_end (Mark k) A B b = b

read_ended : {n : ℕ} {ts : List Token} {d e : ℕ} {x y : List ℕ} (source : List ℕ) → IsRead n ts d x e y → IsEnded (ts ++ end_token source ∷ [])
read_ended source done = refl
read_ended source (blank b r) = read_ended source r
read_ended source (token {l = l} t s r) = not_end l _ _ (read_ended source r)

pub ended : (source : List ℕ) (ts : List Token) → IsReading source ts → IsEnded ts
ended source ts (reading g) = read_ended source g

read_shallow : {n : ℕ} {ts : List Token} {d e : ℕ} {x y : List ℕ} (source : List ℕ) → d ≤ 200 → IsRead n ts d x e y → IsShallow d (ts ++ end_token source ∷ [])
read_shallow source l done = (l, tt)
read_shallow source l (blank b r) = read_shallow source l r
read_shallow source l (token t s r) = (s, read_shallow source s r)

pub shallow : (source : List ℕ) (ts : List Token) → IsReading source ts → IsShallow 0 ts
shallow source ts (reading g) = read_shallow source (omega arith) g

read_ascending : (source : List ℕ) {ts : List Token} {d e : ℕ} {x y : List ℕ} → IsRead (length source) ts d x e y → (p : ℕ) → p + length x ≤ length source → IsAscending p (ts ++ end_token source ∷ [])
read_ascending source done p l = (omega arith, tt)
read_ascending source (blank b r) p l = let n = blank_length b in read_ascending source r p (omega arith)
read_ascending source (token {x = x} t s r) p l =
    let n = spelled_length t.there.spelled in
    let q = place_of (length source) x in
    (omega arith, read_ascending source r (q + 1) (omega arith))

pub ascending : (source : List ℕ) (ts : List Token) → IsReading source ts → IsAscending 0 ts
ascending source ts (reading g) = read_ascending source g 0 (omega arith)
