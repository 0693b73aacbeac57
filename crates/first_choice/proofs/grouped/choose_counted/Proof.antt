-- `choose_counted`: where the counts of its group rule it out there is no choice.
use Prim.Native.Nat.{◌%◌, ◌<◌}
use mathlib.Core.Path.{◌≡◌, sym, ap, ◌∙◌}
use mathlib.Core.List.{List}
use native.Mathlib.Omega.{arith}
use borrow.Author.Rules.{rules}
use borrow.Author.Tests.{eqb-true}
use lib.ListN.{length, get_or, take}
use lib.Seq.{get_or-take}
use Rattle.groups.specs.Left.{grouped-sized}
use Rattle.first_choice.specs.Choice.{first_choice}
use Rattle.first_choice.proofs.Buckets.{ruled_out}
use Rattle.first_choice.proofs.grouped.choose_counted.Statement.{statement}
use Rattle.first_choice.proofs.grouped.choose_counted.Tie as tie

returns : tie.Need-returns-then-below-eq0
returns c =
    let a = c.args in
    let b = c.requires.0 in
    let q = c.requires.1.1 in
    let ks = take a.n a.keys.now in
    let low : a.p < length ks = omega (arith, b.grouped.size, q.0) in
    let own : get_or ks a.p 0 ≡ get_or a.keys.now a.p 0 = get_or-take a.n a.keys.now a.p 0 q.0 in
    let on : get_or ks a.p 0 % 512 ≡ get_or a.takes.now 0 0 = eqb-true _ _ (b.grouped.first a.p q.0 ∙ q.1) in
    let zero = sym (ap (λ (l : List _). get_or l 0 0) c.widths_in-below.ensures) ∙ c.if-below-eq0.true in
    ap first_choice (sym (ruled_out ks a.takes.now b.four a.k b.some b.most b.low c.requires.1.0 a.p low on (rw own zero)))

pub choose_counted_spec : {M : Type 1} → statement M
choose_counted_spec =
    tie.close
    (tie.spec
    (λ c. let p = c.requires in omega (arith, p.1.1.0, p.0.columns.fits))
    (λ c. let p = c.requires in omega (arith, p.1.1.0, p.0.columns.fits, p.0.long))
    (λ c κs. (grouped-sized c.requires.1.0, omega arith))
    (λ c. search rules)
    returns
    (λ c κs. let b = c.requires.0 in (b.columns, b.some, b.most, c.requires.1.1.0, b.four, c.requires.1.1.1))
    (λ c. c.choose_within.ensures _ c.requires.0.grouped))
