-- `index::index_rules` meets its contract: the numbers left go on from where the pass is, and the index holds what was read.
use borrow.Author.Rules.{rules}
use Prim.Native.Nat.{◌-◌, ◌≤◌}
use mathlib.Core.Path.{◌≡◌, refl, sym, ◌∙◌}
use mathlib.Core.Bool.{false, false≢true}
use native.Mathlib.Omega.{arith}
use borrow.Author.Tests.{not-true, not-false, eqb-true}
use lib.ListN.{length, get_or, drop}
use Rattle.lists.specs.Walk.{done}
use Rattle.semantics.specs.Table.{numbers_ok}
use Rattle.table.proofs.Numbers.{NextNumber, follows-true, dense, dense-step, numbers-dense, Marked, marked_start, marked_next, marked-done}
use Rattle.table.proofs.index.index_rules.Statement.{statement}
use Rattle.table.proofs.index.index_rules.Tie as tie
use Rattle.table.proofs.index.index_rules.Reads as reads
use Rattle.table.proofs.index.index_rules.Lts as lts

abbrev invariant-loop : tie.invariant-loop-i
invariant-loop numbers rules starts₀ limit seen₀ i₀ starts seen i = (i ≤ length numbers) × (numbers_ok rules numbers ≡ dense rules seen (drop i numbers))
    × Marked numbers i seen starts

abbrev decreases-loop : tie.decreases-loop-i
decreases-loop numbers rules starts₀ limit seen₀ i₀ starts seen i = length numbers - i

loop-holds : tie.Need-loop-i-init invariant-loop decreases-loop
loop-holds c = (search rules, numbers-dense _ _, marked_start _ c.args.starts.now c.requires.2)

cast-n : tie.Need-overflow_cast-n invariant-loop decreases-loop
cast-n c = omega (arith, c.shared_slice_known-1.given c.loop-i.i)

add-if1 : tie.Need-overflow_add-n invariant-loop decreases-loop
add-if1 c = omega (arith, c.shared_slice_known-1.given c.loop-i.i)

returns : tie.Need-returns-then-not-n-limit invariant-loop decreases-loop
returns c =
    let a = c.args in
    let l = c.loop-i in
    let no : false ≡ numbers_ok a.rules a.numbers.now =
    sym (l.invariant.1 ∙ dense-step a.rules l.seen a.numbers.now l.i (search rules) (not-true _ c.if-not-n-limit.true-raw)) in
    record { answer = no; room = l.invariant.2.room; right = λ yes. absurd (false≢true (no ∙ yes)) }

-- what the test says of the number at hand
followed :
    (c : lts.Else-not-n-limit reads.Pre reads.Post invariant-loop decreases-loop)
    → let a = c.args in
    let l = c.loop-i in
    NextNumber a.rules l.seen (get_or a.numbers.now l.i 0)
followed c =
    let a = c.args in
    let l = c.loop-i in
    follows-true a.rules l.seen (get_or a.numbers.now l.i 0) (not-false _ c.if-not-n-limit.false-raw)

add-seen : tie.Need-overflow_add-seen invariant-loop decreases-loop
add-seen c = omega (arith, (followed c).under)

mul-starts : tie.Need-offset_bounds-starts-seen invariant-loop decreases-loop
mul-starts c = omega (arith, (followed c).under)

write-starts : tie.Need-bounds-starts-seen invariant-loop decreases-loop
write-starts c = omega (arith, (followed c.before).under)

loop-again : tie.Need-loop-i-preserved invariant-loop decreases-loop
loop-again c =
    let a = c.args in
    let l = c.loop-i in (
      search rules,
      l.invariant.1 ∙ dense-step a.rules l.seen a.numbers.now l.i (search rules) (not-false _ c.if-not-n-limit.false-raw),
      marked_next _ _ _ _ l.invariant.2 _ refl (search rules) a.rules (search rules) (followed c.before),
    )

returns-2 : tie.Need-returns invariant-loop decreases-loop
returns-2 c =
    let a = c.args in
    let l = c.loop-i in
    let end = l.invariant.1 ∙ done (dense a.rules l.seen) a.numbers.now l.i (search rules) in
    record { answer = sym end; room = l.invariant.2.room; right = λ yes. marked-done _ _ _ _ l.invariant.2 _ (search rules) (eqb-true _ _ (sym end ∙ yes)) }

pub index_rules_spec : {M : Type 1} → statement M
index_rules_spec =
    tie.close
    (tie.spec
    invariant-loop
    decreases-loop
    (λ c. search rules)
    loop-holds
    (λ c. search rules)
    (λ c. search rules)
    cast-n
    add-if1
    returns
    add-seen
    (λ c. search rules)
    (λ c. search rules)
    mul-starts
    write-starts
    (λ c. search rules)
    loop-again
    returns-2)
