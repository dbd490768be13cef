-- Readings grow at their end, and pieces have at least one byte.
use Rattle.std.proofs.Common.{◌≡◌, ℕ, ◌<◌, ◌≤◌, List, [], ◌∷◌, ◌++◌, length, true, ap, arith, length-append}
use Rattle.obq_base.specs.declared.tokens.Token.{Token}
use Rattle.obq_model.specs.Tokens.{Lexeme, Spells, word, number, minus, literal, mark, IsBlank, white, remark, IsToken, IsRead, done, blank, token, kind_of, nested_by, token_at}
use Rattle.obq_model.proofs.Contents.{content_length}
use Rattle.obq_model.proofs.Comments.{comment_length}
use Rattle.obq_model.proofs.Spellings.{is_key, symbol_is_key}

pub read_blank : {n : ℕ} {ts : List Token} {d e : ℕ} {x y z : List ℕ} → IsRead n ts d x e y → IsBlank y z → IsRead n ts d x e z
read_blank done b = blank b done
read_blank (blank a r) b = blank a (read_blank r b)
read_blank (token t l r) b = token t l (read_blank r b)

pub read_token : {n : ℕ} {ts : List Token} {d e : ℕ} {x y z : List ℕ} {l : Lexeme} → IsRead n ts d x e y → IsToken l y z → nested_by l e ≤ 200 → IsRead n (ts ++ token_at n (kind_of l) y ∷ []) d x (nested_by l e) z
read_token done t h = token t h done
read_token (blank a r) t h = blank a (read_token r t h)
read_token (token u g r) t h = token u g (read_token r t h)

-- less is left behind a spelling
pub spelled_length : {l : Lexeme} {x r : List ℕ} → Spells l x r → length r < length x
spelled_length (word {w = []} h e) = cc
spelled_length (word {w = b ∷ w} {r = r} h e) = let n = ap length e in omega (arith, length-append w r)
spelled_length (number {ds = []} h e) = cc
spelled_length (number {ds = b ∷ w} {r = r} h e) = let n = ap length e in omega (arith, length-append w r)
spelled_length (minus {ds = ds} {r = r} h e) = let n = ap length e in omega (arith, length-append ds r)
spelled_length (literal g) = let n = content_length g in omega arith
spelled_length (mark {k = k} [] h e) = let never : is_key [] ≡ true = symbol_is_key k [] h in cc
spelled_length (mark (b ∷ w) {r = r} h e) = let n = ap length e in omega (arith, length-append w r)

pub blank_length : {x r : List ℕ} → IsBlank x r → length r < length x
blank_length (white h) = omega arith
blank_length (remark c) = comment_length c
