-- `enter_if` meets its contract: the owner is put in where the entry blocks.
use borrow.Author.Rules.{rules}
use Rattle.first_end.proofs.pass.enter_if.Statement.{statement}
use Rattle.first_end.proofs.pass.enter_if.Tie as tie

pub enter_if_spec : {M : Type 1} → statement M
enter_if_spec =
    tie.close
    (tie.spec (λ c κs. search rules) (λ c κs. search rules) (λ c origin. rw (c.blocks-2.ensures 0 origin) at c.insert_if.ensures))
