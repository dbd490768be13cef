-- Steps of a reading, as the lexer takes them.
use Rattle.std.proofs.Common.{◌≡◌, ℕ, ◌-◌, ◌<◌, ◌≤◌, List, [], ◌∷◌, ◌++◌, length, Err, sym, ap, ◌∙◌, subst}
use Rattle.obq_base.specs.declared.limits.TheConstants.{NESTING_LIMIT}
use Rattle.obq_base.specs.declared.tokens.Token.{Token}
use Rattle.obq_base.specs.declared.tokens.TokenKind.{TokenKind}
use Rattle.obq_base.specs.declared.faults.LexKind.TheVariants.{TooDeep}
use Rattle.obq_model.specs.Tokens.{IsRead, IsFirstFault, fault, too_deep, IsReading, reading, IsToken, Lexeme, kind_of, nested_by, token_at, end_token}
use Rattle.obq_model.proofs.Readings.{read_token, spelled_length}
use Rattle.obq_lex.specs.declared.stops.Stop.{Stop}
use Rattle.obq_lex.specs.declared.stops.Stop.TheVariants as stop
use Rattle.obq_lex.specs.Scans.{Fails}
use Rattle.obq_lex.specs.Lexes.{Lexes, refused_at}

-- a token that stands there, by its kind
abbrev pub Reads : List ℕ → TokenKind → List ℕ → Type 0
Reads x kind r = (l : Lexeme) × IsToken l x r × (kind ≡ kind_of l)

pub pushed : {ts us : List Token} {d e : ℕ} {source x r : List ℕ} (t : Token) → IsRead (length source) ts 0 source d x → (h : Reads x t.kind r) → e ≡ nested_by h.0 d → e ≤ NESTING_LIMIT → t.place ≡ length source - length x → us ≡ ts ++ t ∷ [] → IsRead (length source) us 0 source e r
pushed {ts = ts} {us = us} {d = d} {e = e} {source = source} {x = x} {r = r} t i h n s p u =
    let step = read_token i h.1 (subst (λ m. m ≤ NESTING_LIMIT) n s) in
    let same : t ≡ token_at (length source) (kind_of h.0) x = ap (λ k. record t { kind = k; place = t.place }) h.2 ∙ ap (λ q. record t { kind = kind_of h.0; place = q }) p in
    subst (λ m. IsRead (length source) us 0 source m r) (sym n) (subst (λ v. IsRead (length source) v 0 source (nested_by h.0 d) r) (sym (u ∙ ap (λ z. ts ++ z ∷ []) same)) step)

pub deeper_fault : {ts : List Token} {d e : ℕ} {source x r : List ℕ} {kind : TokenKind} → IsRead (length source) ts 0 source d x → (h : Reads x kind r) → e ≡ nested_by h.0 d → NESTING_LIMIT < e → IsFirstFault source TooDeep (length source - length x)
deeper_fault i h n s = too_deep i h.1 (subst (λ m. NESTING_LIMIT < m) n s)

pub stopped : {ts : List Token} {d : ℕ} {source x : List ℕ} (s : Stop) → IsRead (length source) ts 0 source d x → Fails x s → Lexes source (Err (refused_at (length source) s))
stopped {source = source} (stop.Fault kind left) i f = subst (λ n. IsFirstFault source kind (length source - n)) (sym f.2) (fault i f.1)
stopped stop.NoMemory i f = tt

pub whole : {ts us : List Token} {d : ℕ} {source x : List ℕ} → IsRead (length source) ts 0 source d x → x ≡ [] → us ≡ ts ++ end_token source ∷ [] → IsReading source us
whole {ts = ts} {d = d} {source = source} i e u = subst (λ v. IsReading source v) (sym u) (reading (subst (λ z. IsRead (length source) ts 0 source d z) e i))

pub token_length : {x r : List ℕ} {kind : TokenKind} → Reads x kind r → length r < length x
token_length h = spelled_length h.1.there.spelled
