-- `make_end` meets its contract: the form, the verdict and the step of `Moving`.
use borrow.Author.Rules.{rules}
use borrow.Author.Tests.{not-true, not-false}
use mathlib.Core.Path.{◌≡◌, refl, sym, ap, ◌∙◌}
use native.Mathlib.Omega.{arith}
use lib.ListN.{length}
use Rattle.semantics.specs.Words.{head_kind, head_number}
use Rattle.semantics.specs.Table.{table_of}
use Rattle.wellformed.specs.Tables.{well-formed}
use Rattle.semantics.specs.declared.Sizes.{Sizes}
use Rattle.step.specs.Moves.{form-end}
use Rattle.step.specs.Make.{made-malformed}
use Rattle.step.proofs.Moving.{Ending, end-formed, end_refused, end-made}
use Rattle.step.proofs.make.make_end.Statement.{statement}
use Rattle.step.proofs.make.make_end.Tie as tie

four : (c : tie.Start) → length c.args.mv.picks ≡ 4
four c = search rules

returns : tie.Need-returns-then-not-end_form
returns c maker =
    let m = c.args.mv in
    rw c.refused.ensures
    (made-malformed c.requires.1.0 refl refl
    (sym (form-end (table_of c.args.table.now) m.head m.picks (four c.before.before.before.before) c.requires.1.1)
    ∙ sym c.end_form.ensures ∙ not-true _ c.if-not-end_form.true-raw))

-- where a well-formed end began, and where its verdict was asked
abbrev start : tie.Else-not-end_form → tie.Start
start c = c.before.before.before

abbrev sizes-at : tie.After-end_verdict-verdict → tie.After-sizes_of-sizes
sizes-at c = c.before.before

abbrev formed-at : tie.After-end_verdict-verdict → tie.Else-not-end_form
formed-at c = (sizes-at c).before.before.before

formed : (c : tie.Else-not-end_form) → Ending (table_of (start c).args.table.now) (start c).args.mv.head (start c).args.mv.picks
formed c =
    let m = (start c).args.mv in
    end-formed _ m.head m.picks (four (start c)) (start c).requires.1.1 c.end_form.ensures (not-false _ c.if-not-end_form.false-raw)

globals : (c : tie.After-sizes_of-sizes) → c.sizes_of-sizes.result.globals ≡ (table_of (start c.before.before.before).args.table.now).sizes.globals
unfolding table_of
globals c = ap (λ (z : Sizes). z.globals) c.sizes_of-sizes.ensures

kind-is : (c : tie.After-end_verdict-verdict) → (sizes-at c).kind_of-kind.result ≡ head_kind (start (formed-at c)).args.mv.head
kind-is c = (sizes-at c).kind_of-kind.ensures

id-is : (c : tie.After-end_verdict-verdict) → (sizes-at c).id_of-id.result ≡ head_number (start (formed-at c)).args.mv.head
id-is c = (sizes-at c).id_of-id.ensures

end-verdict-requires : tie.Need-end_verdict-verdict-requires
end-verdict-requires c κs =
    let w = (start c.before.before.before.before).requires.1.0 in (
      record { owners = w.arrays.owners; items = w.arrays.items; fits = omega (arith, w.bounds.fits, w.limit) },
      c.first_owned-from.ensures.0,
    )

returns-2 : tie.Need-returns-in-Denied
returns-2 c maker =
    rw c.refused-in-Denied.ensures
    (end_refused (formed (formed-at c.before.before)) (start (formed-at c.before.before)).requires.1.0 (globals (sizes-at c.before.before))
    (kind-is c.before.before) (id-is c.before.before)
    (c.end_verdict-verdict.ensures (start (formed-at c.before.before)).args.origins.now) maker refl refl c.in-Denied.is)

sub-kind : tie.Need-overflow_sub-kind
sub-kind c =
    omega (arith, kind-is c.before.before.before.before, (start (formed-at c.before.before.before.before)).requires.1.1)

end-transaction-requires : tie.Need-end_transaction-ended-requires
end-transaction-requires c κs =
    let w = (start (formed-at c.before.before.before.before)).requires.1.0 in (
      w.arrays,
      omega (arith, w.bounds.fits, w.limit),
      c.first_owned-from.ensures.0,
      omega (arith, kind-is c.before.before.before.before, (formed (formed-at c.before.before.before.before)).small),
    )

returns-3 : tie.Need-returns
returns-3 c maker =
    rw (c.allowed.ensures, c.kept-left.ensures, c.less_by-gone.ensures)
    (end-made (formed (formed-at c.before.before.before.before.before.before.before.before.before))
    (start (formed-at c.before.before.before.before.before.before.before.before.before)).requires.1.0
    (globals (sizes-at c.before.before.before.before.before.before.before.before.before))
    (kind-is c.before.before.before.before.before.before.before.before.before) (id-is c.before.before.before.before.before.before.before.before.before)
    (c.end_verdict-verdict.ensures (start (formed-at c.before.before.before.before.before.before.before.before.before)).args.origins.now) maker refl
    c.end_transaction-ended.ensures.1
    c.in_default.is c.end_transaction-ended.ensures.0)

pub make_end_spec : {M : Type 1} → statement M
make_end_spec =
    tie.close
    (tie.spec
    (λ c κs. search rules) (λ c κs. search rules) returns (λ c κs. search rules) (λ c κs. (formed c.before).narrow)
    (λ c κs. (well-formed _ c.requires.0).sizes.long)
    (λ c κs. let w = (start c.before.before.before).requires.1.0 in (omega (arith, w.bounds.fits, w.limit), w.arrays.owners))
    end-verdict-requires (λ c. search rules) (λ c κs. search rules) returns-2
    (λ c. search rules) sub-kind end-transaction-requires (λ c κs. search rules) (λ c κs. search rules) (λ c κs. search rules) returns-3)
