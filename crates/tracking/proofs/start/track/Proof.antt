-- `track` meets its contract.
use borrow.Author.Rules.{rules}
use Rattle.tracking.proofs.start.track.Statement.{statement}
use Rattle.tracking.proofs.start.track.Tie as tie

pub track_spec : {M : Type 1} → statement M
track_spec = tie.close (tie.spec (λ c κs. search rules) (λ c κs. search rules) (λ c. search rules))
