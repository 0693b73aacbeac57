-- `preview_words` meets its contract: the form, then the preview on the loaded columns (`Deciding`).
use borrow.Author.Rules.{rules}
use borrow.Author.Tests.{not-true, not-false}
use mathlib.Core.Path.{sym, ◌∙◌}
use Rattle.state.specs.Parts.{loadable}
use Rattle.ready.specs.Ready.{ready-table}
use Rattle.preview.specs.Asked.{preview-malformed}
use Rattle.preview.proofs.Deciding.{preview-loaded}
use Rattle.preview.proofs.preview_words.Statement.{statement}
use Rattle.preview.proofs.preview_words.Tie as tie

returns : tie.Need-returns-then-not-form_ok
returns c = preview-malformed _ _ _ _ (sym c.form_ok.ensures ∙ not-true _ c.if-not-form_ok.true-raw)

load-requires : tie.Need-load-at-requires
load-requires c κs =
    let p = c.requires in
    (loadable _ _ p.accepted, search rules)

preview-formed-requires : tie.Need-preview_formed-requires
preview-formed-requires c κs =
    let loaded = c.load-at.ensures in
    let p = c.requires in (
      p.starts,
      record {
        table = ready-table p;
        columns = record { owners = loaded.arrays.owners; items = loaded.arrays.items; fits = loaded.holds.fits };
        fits = loaded.holds.fits;
        form = sym c.form_ok.ensures ∙ not-false _ c.if-not-form_ok.false-raw;
      },
    )

returns-2 : tie.Need-returns
returns-2 c = preview-loaded _ _ _ c.load-at.ensures c.preview_formed.ensures

pub preview_words_spec : {M : Type 1} → statement M
preview_words_spec =
    tie.close
    (tie.spec
    (λ c κs. let p = c.requires in record { table = ready-table p; starts = p.starts })
    returns (λ c κs. search rules) load-requires preview-formed-requires returns-2)
