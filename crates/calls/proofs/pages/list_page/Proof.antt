-- `list_page` meets its contract: the open moves' page, counted in words.
use Prim.Native.Nat.{◌≤◌}
use mathlib.Core.Path.{refl}
use native.Mathlib.Omega.{arith}
use Rattle.lists.specs.Pages.{paged-le, paged-length}
use Rattle.calls.specs.Lists.{all_open}
use Rattle.calls.proofs.Listing.{page-written}
use Rattle.calls.proofs.pages.list_page.Statement.{statement}
use Rattle.calls.proofs.pages.list_page.Tie as tie

few : (c : tie.After-open_moves-part) → c.open_moves-part.result.written ≤ 256
few c = let p = c.requires in omega (arith, paged-le _ 5 c.open_moves-part.ensures.paged, p.1)

returns : tie.Need-returns
returns c =
    page-written (all_open c.args.table.now c.args.state.now) c.args.first c.args.count c.args.target.now c.requires.2
    c.open_moves-part.ensures refl

pub list_page_spec : {M : Type 1} → statement M
list_page_spec =
    tie.close
    (tie.spec
    (λ c κs. let p = c.requires in (p.0, (p.1, p.2)))
    (λ c. omega (arith, few c.before.before.before))
    (λ c. omega (arith, few c.before.before.before))
    (λ c. paged-length _ 5 c.open_moves-part.ensures.paged)
    returns)
