-- What stands in a text.
use Rattle.std.proofs.Common.{◌≡◌, ℕ, ◌<◌, ◌≤◌, true, false, List, [], ◌∷◌, length, Some, None, sym, ap, ◌∙◌, subst, is_some}
use Rattle.obq_base.specs.declared.limits.TheConstants.{TEXT_LIMIT}
use Rattle.obq_base.specs.declared.faults.LexKind.TheVariants.{BadEscape, NotAscii, Stray, OpenText}
use Rattle.obq_model.specs.Tokens.{IsContent, nothing, plain, escaped, escape, is_plain, begins_escape, IsFault, bad_escape, high_in_text, stray_in_text, open_line, open_end}
use Rattle.obq_lex.specs.Scans.{IsRefused}

pub content_plain : (b : ℕ) (x r : List ℕ) → is_plain b ≡ true → x ≡ b ∷ r → IsContent (b ∷ []) x r
content_plain b x r p e = subst (λ y. IsContent (b ∷ []) y r) (sym e) (plain p nothing)

pub content_escaped : (c b : ℕ) (x r : List ℕ) → escape c ≡ Some b → x ≡ c ∷ r → IsContent (b ∷ []) (92 ∷ x) r
content_escaped c b x r h e = subst (λ y. IsContent (b ∷ []) (92 ∷ y) r) (sym e) (escaped h nothing)

pub escape_cut : (x : List ℕ) → x ≡ [] → IsRefused BadEscape (92 ∷ x)
escape_cut x e v y g l = bad_escape g l (ap begins_escape e)

pub escape_bad : (c : ℕ) (x r : List ℕ) → escape c ≡ None → x ≡ c ∷ r → IsRefused BadEscape (92 ∷ x)
escape_bad c x r h e v y g l = bad_escape g l (ap begins_escape e ∙ ap is_some h)

pub refused_high : (b : ℕ) (x r : List ℕ) → 128 ≤ b → x ≡ b ∷ r → IsRefused NotAscii x
refused_high b x r h e = subst (λ z. IsRefused NotAscii z) (sym e) (λ v y g l. high_in_text g l h)

pub refused_stray : (b : ℕ) (x r : List ℕ) → b < 128 → is_plain b ≡ false → (b ≡ 10 → ⊥) → (b ≡ 34 → ⊥) → (b ≡ 92 → ⊥) → x ≡ b ∷ r → IsRefused Stray x
refused_stray b x r h p i j k e = subst (λ z. IsRefused Stray z) (sym e) (λ v y g l. stray_in_text g l h p i j k)

pub line_open : (v y x r : List ℕ) → IsContent v y x → length v ≤ TEXT_LIMIT → x ≡ 10 ∷ r → IsFault OpenText (34 ∷ y) (34 ∷ y)
line_open v y x r g l e = open_line (subst (λ z. IsContent v y z) e g) l

pub end_open : (v y x : List ℕ) → IsContent v y x → length v ≤ TEXT_LIMIT → x ≡ [] → IsFault OpenText (34 ∷ y) (34 ∷ y)
end_open v y x g l e = open_end (subst (λ z. IsContent v y z) e g) l
