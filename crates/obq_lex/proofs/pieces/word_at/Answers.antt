use Rattle.std.proofs.Common.{ap, ◌∙◌}
use Rattle.std.specs.Prelude.{position}
use Rattle.std.specs.Str.{bytes_eq}
use Rattle.obq_base.specs.declared.tokens.TokenKind.TheVariants as t
use Rattle.obq_model.specs.Tokens.{Word, word_kind}
use Rattle.obq_lex.proofs.Spelled.{word_cut}
use Rattle.obq_lex.proofs.pieces.word_at.Goals as goal

pub returns-in-Some : goal.returns-in-Some
returns-in-Some c =
    let s = c.split_at in
    let token = word_cut _ c.args.x.now s.result.0.now s.result.1.now s.ensures.front s.ensures.back c.word_len.ensures.all c.word_len.ensures.ends c.requires in
    let row = c.in-Some.ensures.first ∙ ap (position (λ k. bytes_eq k s.result.0.now)) c.keyword_rows.ensures.texts in
    (Word s.result.0.now, token, ap (word_kind s.result.0.now) row)

pub returns-in-Ok : goal.returns-in-Ok
returns-in-Ok c =
    let s = c.split_at in
    let token = word_cut _ c.args.x.now s.result.0.now s.result.1.now s.ensures.front s.ensures.back c.word_len.ensures.all c.word_len.ensures.ends c.requires in
    let row = c.in_default.ensures.first ∙ ap (position (λ k. bytes_eq k s.result.0.now)) c.keyword_rows.ensures.texts in
    (Word s.result.0.now, token, ap t.Name (c.new.ensures ∙ c.in-Ok.ensures.items) ∙ ap (word_kind s.result.0.now) row)
