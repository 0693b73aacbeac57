-- `some_aborting` meets its contract (`Aborting`).
use Prim.Native.Nat.{ℕ}
use mathlib.Core.Path.{sym, ap, ◌∙◌}
use mathlib.Core.Bool.{not}
use mathlib.Core.List.{List}
use borrow.Author.Rules.{rules}
use lib.ListN.{take}
use Rattle.state.specs.Lent.{state_from}
use Rattle.reaction.specs.Places.{column}
use Rattle.reaction.proofs.Aborting.{unmarked-part, inner-part}
use Rattle.reaction.proofs.Picking.{same-found}
use Rattle.reaction.proofs.verdict.some_aborting.Statement.{statement}
use Rattle.reaction.proofs.verdict.some_aborting.Tie as tie

abbrev os : tie.Start → List ℕ
os c = column c.args.owners.now (take c.args.k c.args.picks)

returns-2 : tie.Need-returns
returns-2 c gs =
    let a = c.args in
    let r = c.repeated-ids in
    c.any_aborting.ensures gs
    ∙ inner-part (state_from a.owners.now a.items.now gs a.at) (os c.before.before.before.before.before) c.requires.5 r.result (search rules)
    (same-found r.result a.owners.now a.picks a.k (search rules) c.owners_at-found.ensures r.ensures)

pub some_aborting_spec : {M : Type 1} → statement M
some_aborting_spec =
    tie.close
    (tie.spec
    (λ c gs. let a = c.args in
    ap not (sym (unmarked-part a.owners.now a.items.now gs a.at c.requires.1 c.if-at-unmarked.true (os c.before.before))))
    (λ c κs. search rules) (λ c κs. search rules) (λ c. search rules) (λ c. search rules) (λ c. search rules) (λ c. search rules) (λ c κs. search rules)
    returns-2)
