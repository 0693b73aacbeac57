-- `preview` meets its contract: each return is a refusal, or the preview of five words (`Previewing`).
use mathlib.Core.Path.{sym, ◌∙◌}
use Rattle.calls.proofs.Previewing.{preview-denied, preview-unsized, preview-made}
use borrow.Author.Rules.{rules}
use Rattle.calls.proofs.previews.preview.Statement.{statement}
use Rattle.calls.proofs.previews.preview.Tie as tie

returns : tie.Need-returns-in-Denied
returns c = preview-denied _ _ _ (sym c.ready-checked.ensures.verdict ∙ c.in-Denied.is)

returns-2 : tie.Need-returns-then-mv-ne5
returns-2 c = preview-unsized _ _ _ (sym c.ready-checked.ensures.verdict ∙ c.in_default.is) c.if-mv-ne5.true

preview-words-requires : tie.Need-preview_words-requires
preview-words-requires c κs =
    let said = c.ready-checked.ensures in
    said.ready (sym said.verdict ∙ c.in_default.is)

returns-3 : tie.Need-returns
returns-3 c =
    preview-made _ _ _ (sym c.ready-checked.ensures.verdict ∙ c.in_default.is) c.if-mv-ne5.false
    c.preview_words.ensures

pub preview_spec : {M : Type 1} → statement M
preview_spec =
    tie.close
    (tie.spec
    (λ c κs. search rules) (λ c. search rules) returns (λ c. search rules) returns-2
    (λ c. search rules) (λ c. search rules) (λ c. search rules) (λ c. search rules) (λ c. search rules) preview-words-requires returns-3)
