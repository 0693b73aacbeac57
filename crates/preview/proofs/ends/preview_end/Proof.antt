-- `preview_end` meets its contract: the verdict, and what is counted (`Deciding`).
use borrow.Author.Rules.{rules}
use mathlib.Core.Path.{◌≡◌, ap}
use native.Mathlib.Omega.{arith}
use Rattle.semantics.specs.Table.{table_of}
use Rattle.semantics.specs.declared.Sizes.{Sizes}
use Rattle.wellformed.specs.Tables.{well-formed}
use Rattle.wellformed.specs.Preservation.{end-id}
use Rattle.ending.specs.End.{NoneBefore}
use Rattle.preview.proofs.Counting.{none_before}
use Rattle.preview.proofs.Deciding.{EndAsked, end-rejected, end-accepted}
use Rattle.preview.proofs.ends.preview_end.Statement.{statement}
use Rattle.preview.proofs.ends.preview_end.Tie as tie

abbrev start : tie.After-verdict_by_kind-verdict → tie.Start
start c = c.before.before.before.before.before.before

id-of-requires : tie.Need-id_of-id-requires
id-of-requires c κs =
    omega (arith, end-id _ _ c.requires.0.form c.requires.1)

globals : (c : tie.After-sizes_of-sizes) → c.sizes_of-sizes.result.globals ≡ (table_of c.args.table.now).sizes.globals
unfolding table_of
globals c = ap (λ (z : Sizes). z.globals) c.sizes_of-sizes.ensures

none_owned : (c : tie.After-chunk_of-from)
    → NoneBefore c.args.owners.now c.id_of-id.result
    c.args.at.len c.chunk_of-from.result
none_owned c = none_before _ _ _ c.chunk_of-from.ensures.0 c.chunk_of-from.ensures.1

asked : (c : tie.After-verdict_by_kind-verdict)
    → EndAsked (table_of (start c).args.table.now) (start c).args.mv.head (start c).args.mv.picks
    (start c).args.ceiling (start c).args.owners.now (start c).args.items.now (start c).args.at c.verdict_by_kind-verdict.result
asked c =
    record {
      kind = (start c).requires.1;
      form = (start c).requires.0.form;
      fits = (start c).requires.0.fits;
      verdict = λ gs. rw (globals c.before.before, c.kind_of-kind.ensures, c.id_of-id.ensures) at (c.verdict_by_kind-verdict.ensures gs);
    }

sub-kind : tie.Need-overflow_sub-kind
sub-kind c =
    omega (arith, c.kind_of-kind.ensures, c.requires.1)

returns-2 : tie.Need-returns
returns-2 c =
    end-accepted (asked c.before.before) c.in_default.is c.id_of-id.ensures c.kind_of-kind.ensures
    c.counts_after-counts.ensures.0 c.counts_after-counts.ensures.1

pub preview_end_spec : {M : Type 1} → statement M
preview_end_spec =
    tie.close
    (tie.spec
    (λ c κs. search rules) id-of-requires (λ c κs. (well-formed _ c.requires.0.table).sizes.long)
    (λ c κs. let w = c.requires.0.columns in (w.fits, w.owners))
    (λ c κs. (c.requires.0.columns, none_owned c))
    (λ c. search rules) (λ c. end-rejected (asked c.before) c.in-Denied.is) (λ c. search rules)
    sub-kind
    (λ c κs. (c.requires.0.columns, none_owned c.before.before))
    (λ c. search rules) returns-2)
