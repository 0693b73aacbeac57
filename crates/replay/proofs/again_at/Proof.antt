use borrow.Author.Rules.{rules}
use Rattle.replay.proofs.WordsAgain.{words-made}
use Rattle.replay.proofs.again_at.Statement.{statement}
use Rattle.replay.proofs.again_at.Tie as tie

returns : tie.Need-returns
returns c ws =
    words-made c.head_at-was.ensures (c.head_again-head.ensures ws) c.picks_used-k.ensures
    c.wanted_at-picked.ensures
    (c.places_of-picks.ensures c.args.owners.now ws)

pub again_at_spec : {M : Type 1} → statement M
again_at_spec =
    tie.close
    (tie.spec
    (λ c κs. search rules) (λ c. search rules) (λ c. search rules) (λ c κs. search rules) (λ c κs. search rules) (λ c κs. search rules)
    (λ c κs. search rules) returns)
