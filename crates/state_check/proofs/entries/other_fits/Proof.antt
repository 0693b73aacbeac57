-- `other_fits` meets its contract: the code is the definition.
use borrow.Author.Rules.{rules}
use Rattle.state_check.specs.Check.{other_fits}
use Rattle.state_check.proofs.entries.other_fits.Statement.{statement}
use Rattle.state_check.proofs.entries.other_fits.Tie as tie

returns : tie.Need-returns
unfolding other_fits
returns c = λ place. rw (c.value_of-value.ensures, c.port_of-port.ensures, c.kind_of-kind.ensures)

pub other_fits_spec : {M : Type 1} → statement M
other_fits_spec = tie.close (tie.spec (λ c κs. search rules) (λ c κs. search rules) (λ c κs. search rules) returns)
