-- `make_move` meets its contract: each return is a fault at a place of `move_faults`, or the move made (`Moving`).
use mathlib.Core.Logic.{inl}
use mathlib.Core.Path.{sym, ◌∙◌}
use borrow.Author.Tests.{not-true, not-false}
use Rattle.ready.specs.Ready.{ready-table}
use Rattle.calls.proofs.Moving.{five, form-read, move-fault, move-unsized, move-malformed, move-short, move-done}
use borrow.Author.Rules.{rules}
use Rattle.calls.proofs.moves.make_move.Statement.{statement}
use Rattle.calls.proofs.moves.make_move.Tie as tie

returns : tie.Need-returns-in-Denied
returns c = move-fault _ _ _ _ _ (inl (sym c.ready-checked.ensures.verdict ∙ c.in-Denied.is))

returns-2 : tie.Need-returns-then-mv-ne5
returns-2 c = move-unsized _ _ _ _ (sym c.ready-checked.ensures.verdict ∙ c.in_default.is) c.if-mv-ne5.true

form-ok-requires : tie.Need-form_ok-requires
form-ok-requires c κs =
    let said = c.ready-checked.ensures in
    let r = said.ready (sym said.verdict ∙ c.in_default.is) in
    record { table = ready-table r; starts = r.starts }

returns-3 : tie.Need-returns-then-not-form_ok
returns-3 c =
    let a = c.args in
    move-malformed _ _ _ _ (sym c.ready-checked.ensures.verdict ∙ c.in_default.is)
    (form-read a.table.now a.mv.now c.if-mv-ne5.false c.form_ok.ensures) (not-true _ c.if-not-form_ok.true-raw)

returns-4 : tie.Need-returns-then-target-lt-MAX_WORDS
returns-4 c =
    let a = c.args in
    move-short _ _ _ _ (sym c.ready-checked.ensures.verdict ∙ c.in_default.is)
    (form-read a.table.now a.mv.now c.if-mv-ne5.false c.form_ok.ensures) (not-false _ c.if-not-form_ok.false-raw)
    c.if-target-lt-MAX_WORDS.true

make-and-store-requires : tie.Need-make_and_store-requires
make-and-store-requires c κs =
    let said = c.ready-checked.ensures in
    record { ready = said.ready (sym said.verdict ∙ c.in_default.is); room = c.if-target-lt-MAX_WORDS.false }

returns-5 : tie.Need-returns
returns-5 c =
    let a = c.args in
    move-done _ _ _ _ (sym c.ready-checked.ensures.verdict ∙ c.in_default.is)
    (form-read a.table.now a.mv.now c.if-mv-ne5.false c.form_ok.ensures) (not-false _ c.if-not-form_ok.false-raw)
    c.if-target-lt-MAX_WORDS.false (rw (five a.mv.now c.if-mv-ne5.false) at c.make_and_store.ensures)

pub make_move_spec : {M : Type 1} → statement M
make_move_spec =
    tie.close
    (tie.spec
    (λ c κs. search rules)
    (λ c. search rules)
    returns
    (λ c. search rules)
    returns-2
    (λ c. search rules)
    (λ c. search rules)
    (λ c. search rules)
    (λ c. search rules)
    (λ c. search rules)
    form-ok-requires
    returns-3
    returns-4
    make-and-store-requires
    (λ c. search rules)
    returns-5)
