-- `on_ports` meets its contract: `all` of the picks ahead is `all` of them.
use Prim.Native.Nat.{ℕ}
use mathlib.Core.Path.{◌≡◌, sym, ◌∙◌}
use mathlib.Core.Bool.{Bool}
use mathlib.Core.List.{List, map}
use native.Mathlib.Omega.{arith}
use borrow.Author.Rules.{rules}
use borrow.Author.Tests.{not-true, not-false}
use lib.ListN.{length, take}
use Rattle.lists.specs.Lists.{all}
use Rattle.lists.specs.Choices.{by_bool}
use Rattle.lists.specs.Ahead.{Ahead, ahead-start, ahead-done, each-fails, each_next}
use Rattle.lists.specs.Rows.{rows_from, rows-tails}
use Rattle.semantics.specs.Move.{entry_at, on_ports}
use Rattle.reaction.specs.Places.{entries}
use Rattle.reaction.proofs.Picking.{pick_fits, ports-each}
use Rattle.reaction.proofs.verdict.on_ports.Statement.{statement}
use Rattle.reaction.proofs.verdict.on_ports.Tie as tie

abbrev fits : tie.Start → List ℕ → List ℕ → ℕ → Bool
fits c os gs = pick_fits os c.args.items.now gs c.args.n c.args.ports c.args.picks

abbrev each : tie.Start → List ℕ → List ℕ → Bool
each c os gs = all (fits c os gs) (rows_from (λ j. j) c.args.k 0)

-- the picks before i fit
abbrev To : ℕ → tie.Start → List ℕ → List ℕ → Type 0
To i c os gs = Ahead (rows_from (λ j. j) c.args.k) c.args.k (all (fits c os gs)) i (each c os gs)

one : (c : tie.Else-not-message_on) (os gs : List ℕ) → To 1 c.before.before os gs
one c os gs =
    each_next (fits c.before.before os gs) (rows-tails _ _) (ahead-start _ _ _) (omega (arith, c.requires))
    (sym (c.message_on.ensures os gs) ∙ not-false _ c.if-not-message_on.false-raw)

two : (c : tie.Else-not-message_on-2) (os gs : List ℕ) → To 2 c.before.before.before.before.before os gs
two c os gs =
    each_next (fits c.before.before.before.before.before os gs) (rows-tails _ _) (one c.before.before.before os gs) (omega (arith, c.if-k-lt2.false))
    (sym (c.message_on-2.ensures os gs) ∙ not-false _ c.if-not-message_on-2.false-raw)

three : (c : tie.Else-not-message_on-3) (os gs : List ℕ) → To 3 c.before.before.before.before.before.before.before.before os gs
three c os gs =
    each_next (fits c.before.before.before.before.before.before.before.before os gs) (rows-tails _ _) (two c.before.before.before os gs)
    (omega (arith, c.if-k-lt3.false))
    (sym (c.message_on-3.ensures os gs) ∙ not-false _ c.if-not-message_on-3.false-raw)

ports : (c : tie.Start) (os gs : List ℕ) → each c os gs ≡ on_ports (take c.args.k c.args.ports)
    (map (entry_at (entries os c.args.items.now gs c.args.n)) (take c.args.k c.args.picks))
ports c os gs =
    let a = c.args in
    let ports : length a.ports ≡ 4 = search rules in
    let picks : length a.picks ≡ 4 = search rules in
    ports-each os a.items.now gs a.n a.ports a.picks a.k (omega (arith, c.requires)) (omega (arith, c.requires))

-- ---- a pick that does not fit, or the last of those that do

returns : tie.Need-returns-then-not-message_on
returns c os gs =
    each-fails (fits c.before.before os gs) (rows-tails _ _) (ahead-start _ _ _) (omega (arith, c.requires))
    (sym (c.message_on.ensures os gs) ∙ not-true _ c.if-not-message_on.true-raw)
    ∙ ports c.before.before os gs

returns-2 : tie.Need-returns-then-k-lt2
returns-2 c os gs = ahead-done (rows-tails _ _) (one c.before os gs) (omega (arith, c.if-k-lt2.true)) ∙ ports c.before.before.before os gs

returns-3 : tie.Need-returns-then-not-message_on-2
returns-3 c os gs =
    each-fails (fits c.before.before.before.before.before os gs) (rows-tails _ _) (one c.before.before.before os gs) (omega (arith, c.if-k-lt2.false))
    (sym (c.message_on-2.ensures os gs) ∙ not-true _ c.if-not-message_on-2.true-raw)
    ∙ ports c.before.before.before.before.before os gs

returns-4 : tie.Need-returns-then-k-lt3
returns-4 c os gs =
    ahead-done (rows-tails _ _) (two c.before os gs) (omega (arith, c.if-k-lt3.true)) ∙ ports c.before.before.before.before.before.before os gs

returns-5 : tie.Need-returns-then-not-message_on-3
returns-5 c os gs =
    each-fails (fits c.before.before.before.before.before.before.before.before os gs) (rows-tails _ _) (two c.before.before.before os gs)
    (omega (arith, c.if-k-lt3.false))
    (sym (c.message_on-3.ensures os gs) ∙ not-true _ c.if-not-message_on-3.true-raw)
    ∙ ports c.before.before.before.before.before.before.before.before os gs

returns-6 : tie.Need-returns-then-k-lt4
returns-6 c os gs =
    ahead-done (rows-tails _ _) (three c.before os gs) (omega (arith, c.if-k-lt4.true))
    ∙ ports c.before.before.before.before.before.before.before.before.before os gs

returns-7 : tie.Need-returns
returns-7 c os gs =
    let start = c.before.before.before.before.before.before.before.before.before.before in
    let more = c.if-k-lt4.false in
    by_bool c.message_on-4.result
    (λ e. e ∙ ahead-done (rows-tails _ _) (each_next (fits start os gs) (rows-tails _ _) (three c.before.before os gs) (omega (arith, more))
    (sym (c.message_on-4.ensures os gs) ∙ e)) (omega (arith, start.requires)))
    (λ e. e ∙ each-fails (fits start os gs) (rows-tails _ _) (three c.before.before os gs) (omega (arith, more)) (sym (c.message_on-4.ensures os gs) ∙ e))
    ∙ ports start os gs

pub on_ports_spec : {M : Type 1} → statement M
on_ports_spec =
    tie.close
    (tie.spec
    (λ c. search rules) (λ c. search rules) (λ c. search rules) (λ c κs. search rules) returns returns-2
    (λ c. search rules) (λ c. search rules) (λ c. search rules) (λ c κs. search rules) returns-3 returns-4
    (λ c. search rules) (λ c. search rules) (λ c. search rules) (λ c κs. search rules) returns-5 returns-6
    (λ c. search rules) (λ c. search rules) (λ c. search rules) (λ c κs. search rules) returns-7)
