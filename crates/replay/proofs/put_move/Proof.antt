use native.Mathlib.Omega.{arith}
use borrow.Author.Rules.{rules}
use lib.ListN.{length-set}
use Rattle.replay.proofs.put_move.Statement.{statement}
use Rattle.replay.proofs.put_move.Tie as tie

put-picks-requires : tie.Need-put_picks-requires
put-picks-requires c κs = simp length-set (omega arith)

same_length : tie.Need-shape_of-out
same_length c = simp length-set at c.put_picks.ensures.size

pub put_move_spec : {M : Type 1} → statement M
put_move_spec =
    tie.close
    (tie.spec (λ c. search rules) (λ c. search rules) (λ c. search rules) (λ c. search rules) (λ c. search rules) (λ c. search rules)
    put-picks-requires same_length (λ c. c.put_picks.ensures))
