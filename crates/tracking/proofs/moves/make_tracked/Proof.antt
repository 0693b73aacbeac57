-- `make_tracked` meets its contract: what is kept when the move is about to be made leads to what is kept when it is made (`Making`).
use borrow.Author.Rules.{rules}
use Rattle.tracking.proofs.Making.{made_after}
use Rattle.tracking.proofs.moves.make_tracked.Statement.{statement}
use Rattle.tracking.proofs.moves.make_tracked.Tie as tie

after-move-requires : tie.Need-after_move-requires
after-move-requires c κs =
    let g = c.requires in
    made_after g (c.before_move.ensures _ _ _ _ _ _ g) c.make_next-made.ensures

pub make_tracked_spec : {M : Type 1} → statement M
make_tracked_spec =
    tie.close
    (tie.spec
    (λ c κs. (_, _, _, _, _, _, c.requires)) (λ c κs. search rules) after-move-requires (λ c. search rules))
