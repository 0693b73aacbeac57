-- `unstop` meets its contract: the end of a transaction takes its abort marks with it.
use Rattle.stopped.specs.Ended.{abort-removes}
use Rattle.stopped.proofs.LastEntry.{member-small}
use Rattle.stopped.proofs.after.unstop.Statement.{statement}
use Rattle.stopped.proofs.after.unstop.Tie as tie

remove-requires : tie.Need-remove-requires
remove-requires c κs =
    let (size, there) = c.requires in
    (member-small _ _ size there, size, there)

pub unstop_spec : {M : Type 1} → statement M
unstop_spec = tie.close (tie.spec remove-requires (λ c t i s are. abort-removes t s _ are c.remove.ensures i))
