-- `append_products` meets its contract: the products made, followed by those ahead, are the products.
use Prim.Native.Nat.{◌+◌, ◌-◌, ◌<◌}
use mathlib.Core.List.{◌++◌, map}
use native.Mathlib.Omega.{arith}
use borrow.Author.Rules.{rules}
use Rattle.lists.specs.Rows.{rows}
use Rattle.semantics.specs.Words.{value_of}
use Rattle.state.specs.Working.{row_of}
use Rattle.products.specs.Products.{products_from}
use Rattle.reaction.specs.Decoded.{consumes-within, atom-among, product-among, begins-by, making_atoms}
use Rattle.products.proofs.Appending.{Making, few-made, making-start, making-next, making-done}
use Rattle.products.proofs.append.append_products.Statement.{statement}
use Rattle.products.proofs.append.append_products.Tie as tie

abbrev Inv : tie.invariant-loop-q
Inv owners₀ items₀ origins₀ home maker rule received n next class from made q₀ owners items origins q =
    Making rule next home maker (map value_of received) n q owners items origins
    (rows (row_of owners₀ items₀ origins₀) 0 n ++ products_from rule.class next home (map value_of received) maker 0 (making_atoms rule))

abbrev μ : tie.decreases-loop-q
μ owners₀ items₀ origins₀ home maker rule received n next class from made q₀ owners items origins q = made - q

sub-made : tie.Need-overflow_sub-made Inv μ
sub-made c = omega (arith, consumes-within c.args.rule c.requires.1.1.0.rule)

loop-holds : tie.Need-loop-q-init Inv μ
loop-holds c = making-start c.args.rule _ c.args.home c.args.maker _ _ _ _ _ c.requires.1.1.0 c.requires.0 c.requires.1.0

-- the atom at hand is one of the rule's
within : (c : tie.In-loop-q Inv μ) → let x = c.args.rule in x.consumes + c.loop-q.q < x.count
within c =
    let x = c.args.rule in
    omega (arith, consumes-within x c.requires.1.1.0.rule, c.loop-q-test.true)

owner-made-requires : tie.Need-owner_made-requires Inv μ
owner-made-requires c κs =
    let ready = c.requires.1.1.0 in
    λ global other. c.requires.1.1.1 (ready.begun _ (product-among c.args.rule ready.rule _ (within c.before)) global other)

item-made-requires : tie.Need-item_made-requires Inv μ
item-made-requires c κs =
    let x = c.args.rule in
    let ready = c.requires.1.1.0 in
    let m = atom-among x ready.rule _ (within c.before.before.before.before) in
    (ready.narrow _ m, (λ e. c.requires.1.1.1 (begins-by x ready.rule _ m e)), search rules)

loop-again : tie.Need-loop-q-preserved Inv μ
loop-again c =
    let a = c.args in
    rw c.origin_of.ensures
    (making-next a.rule _ a.home a.maker _ c.loop-q.invariant c.loop-q-test.true _ _
    c.owner_made.ensures c.item_made.ensures)

returns : tie.Need-returns Inv μ
returns c =
    let a = c.args in
    rw c.next_after.ensures (making-done a.rule _ a.home a.maker _ c.loop-q.invariant c.loop-q-test.false _)

pub append_products_spec : {M : Type 1} → statement M
append_products_spec =
    tie.close
    (tie.spec Inv μ sub-made loop-holds (λ c. search rules) (λ c. search rules) (λ c. search rules) (λ c. search rules) owner-made-requires
    (λ c. search rules) (λ c. search rules) item-made-requires (λ c. search rules) (λ c. search rules) (λ c. search rules)
    (λ c κs. let start = c in
    let ready = start.requires.1.1.0 in
    (ready.makers, few-made ready c.loop-q-test.true))
    (λ c. search rules) (λ c. search rules) (λ c. search rules) (λ c. search rules) loop-again (λ c. search rules)
    (λ c κs. c.requires.1.1.0.limit) returns)
