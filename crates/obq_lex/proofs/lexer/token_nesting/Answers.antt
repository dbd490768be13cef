use Rattle.std.proofs.Common.{sym, ap, ◌∙◌}
use Rattle.std.proofs.lemmas.Bool.{ltb-true, ltb-false}
use Rattle.obq_tables.specs.declared.nesting.Nesting.TheVariants.{Stays}
use Rattle.obq_tables.specs.declared.tables.Keyword.{Keyword}
use Rattle.obq_tables.specs.declared.tables.Symbol.{Symbol}
use Rattle.obq_model.specs.Tokens.{token_nesting}
use Rattle.obq_lex.proofs.Rows.{row_at, row_past}
use Rattle.obq_lex.proofs.lexer.token_nesting.Goals as goal

pub returns-in-Some : goal.returns-in-Some
returns-in-Some c =
    let h = c.in-Some.ensures.lookup in
    ap (λ (k : Keyword). k.nesting) h.1 ∙ sym (row_at (λ (k : Keyword). k.nesting) c.keyword_rows.result.now c.in-Keyword.row c.in-Some.keyword.now Stays _ c.keyword_rows.ensures.nesting (ltb-true _ _ (sym h.0))) ∙ ap token_nesting (sym c.in-Keyword.is)

pub returns-in-None : goal.returns-in-None
returns-in-None c =
    let h = c.in-None.ensures.lookup in
    sym (row_past (λ (k : Keyword). k.nesting) c.keyword_rows.result.now c.in-Keyword.row Stays _ c.keyword_rows.ensures.nesting (ltb-false _ _ (sym h.0))) ∙ ap token_nesting (sym c.in-Keyword.is)

pub returns-in-Some-get : goal.returns-in-Some-get
returns-in-Some-get c =
    let h = c.in-Some-get.ensures.lookup in
    ap (λ (k : Symbol). k.nesting) h.1 ∙ sym (row_at (λ (k : Symbol). k.nesting) c.symbol_rows.result.now c.in-Symbol.row c.in-Some-get.symbol.now Stays _ c.symbol_rows.ensures.nesting (ltb-true _ _ (sym h.0))) ∙ ap token_nesting (sym c.in-Symbol.is)
