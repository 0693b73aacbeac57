-- `make_at` meets its contract: the words are those of the move at place i.
use native.Mathlib.Omega.{arith}
use borrow.Author.Rules.{rules}
use Rattle.run.proofs.make_at.Statement.{statement}
use Rattle.run.proofs.make_at.Tie as tie

move-at-requires : tie.Need-move_at-mv-requires
move-at-requires c κs =
    let p = c.requires.0 in
    record { sizes = p.0.log; within = p.1 }

cast-by : tie.Need-overflow_cast-by
cast-by c =
    let p = c.requires.0 in
    omega (arith, p.1, p.0.log.few)

make-requires : tie.Need-make-made-requires
make-requires c κs =
    let p = c.requires in
    record { indexed = p.0.0.indexed; maker-fits = (omega arith, omega (arith, p.0.1, p.0.0.log.few)); workable = p.1 }

returns : tie.Need-returns
returns c = rw c.move_at-mv.ensures at c.make-made.ensures

pub make_at_spec : {M : Type 1} → statement M
make_at_spec = tie.close (tie.spec move-at-requires (λ c. search rules) cast-by make-requires returns)
