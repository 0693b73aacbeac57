-- `replay` meets its contract: before turn j the first j moves are written, and the columns hold the state that they leave.
use Prim.Native.Nat.{◌-◌, ◌<◌}
use mathlib.Core.Path.{refl, ◌∙◌}
use native.Mathlib.Omega.{arith}
use borrow.Author.Rules.{rules}
use lib.ListN.{get_or, length-set}
use Rattle.state.specs.Working.{state_in, held}
use Rattle.replay.proofs.Turns.{Going, going_start, going-room, going-denied, going_next, going_end}
use Rattle.replay.proofs.replay.Statement.{statement}
use Rattle.replay.proofs.replay.Tie as tie

abbrev Inv : tie.invariant-loop-j
Inv table starts owners₀ items₀ origins₀ log order wanted members ceiling out₀ k left₀ j₀ owners items origins out left j =
    Going table starts (held owners₀ items₀ origins₀ left₀) log order wanted members ceiling out₀ j (held owners items origins left) out

abbrev μ : tie.decreases-loop-j
μ table starts owners₀ items₀ origins₀ log order wanted members ceiling out₀ k left₀ j₀ owners items origins out left j = k - j

-- the place read in a turn is one of the log
place-small : (c : tie.In-loop-j Inv μ) → get_or c.args.order.now c.loop-j.j 0 < 1024
place-small c = let g = c.loop-j.invariant.given in omega (arith, g.places _ c.loop-j-test.true, g.read.log.few)

-- the turn in which a move is made
abbrev turn-of : tie.After-make-arg-in-loop-j-2-1 Inv μ → tie.In-loop-j Inv μ
turn-of c = c.before.before.before.before.before.before.before.before.before.before

again-at-requires : tie.Need-again_at-mv-requires Inv μ
again-at-requires c κs =
    let g = c.loop-j.invariant in
    let a = g.workable.arrays in (
      g.given.read,
      record { owners = a.owners; items = a.origins; fits = omega (arith, g.workable.bounds.fits, g.workable.limit) },
      g.given.places _ c.loop-j-test.true,
    )

put-move-requires : tie.Need-put_move-requires Inv μ
put-move-requires c κs =
    let g = c.loop-j.invariant in
    (c.loop-j-test.true, g.given.read.log.few, going-room g)

make-requires : tie.Need-make-made-requires Inv μ
make-requires c κs =
    let turn = turn-of c in
    let g = turn.loop-j.invariant in
    record { indexed = g.given.read.indexed; maker-fits = (omega arith, omega (arith, place-small turn)); workable = g.workable }

same_length : tie.Need-shape_of-out-in-Denied Inv μ
same_length c =
    let l = c.loop-j in
    c.put_move.ensures.size ∙ length-set l.out _ _ ∙ simp length-set at l.invariant.size

returns : tie.Need-returns-in-Denied Inv μ
unfolding state_in
returns c =
    let l = c.loop-j in
    going-denied l.invariant c.loop-j-test.true (c.again_at-mv.ensures l.items) c.put_move.ensures c.make-made.ensures
    c.in-Denied.is refl

loop-again : tie.Need-loop-j-preserved Inv μ
unfolding state_in
loop-again c =
    let l = c.loop-j in
    going_next l.invariant c.loop-j-test.true (c.again_at-mv.ensures l.items) c.put_move.ensures c.make-made.ensures
    c.in_default.is

returns-2 : tie.Need-returns Inv μ
returns-2 c = going_end c.loop-j.invariant c.loop-j-test.false refl

pub replay_spec : {M : Type 1} → statement M
replay_spec =
    tie.close
    (tie.spec Inv μ (λ c. search rules) (λ c. search rules) (λ c. search rules) (λ c. search rules)
    (λ c. going_start c.requires)
    (λ c. search rules) (λ c. search rules) (λ c. omega (arith, place-small c.before.before)) again-at-requires put-move-requires
    (λ c. omega (arith, place-small (turn-of c))) (λ c. omega (arith, place-small (turn-of c))) make-requires
    (λ c. search rules) same_length returns (λ c. search rules)
    (λ c. omega (
      arith,
      (turn-of c.before.before.before).loop-j-test.true,
      (turn-of c.before.before.before).loop-j.invariant.given.read.log.few,
    ))
    (λ c. omega (arith, (turn-of c.before.before.before).loop-j-test.true)) loop-again
    (λ c. simp length-set at c.loop-j.invariant.size) returns-2)
