-- `message_fits` meets its contract: the owner chooses the ports.
use borrow.Author.Rules.{rules}
use borrow.Author.Tests.{eq-eqb, ne_eqb}
use Rattle.state_check.specs.Check.{message_fits}
use Rattle.state_check.proofs.entries.message_fits.Statement.{statement}
use Rattle.state_check.proofs.entries.message_fits.Tie as tie

returns : tie.Need-returns-then-owner-eq0
unfolding message_fits
returns c = λ place. rw (eq-eqb _ 0 c.if-owner-eq0.true) (c.messages_end.ensures _)

returns-2 : tie.Need-returns
unfolding message_fits
returns-2 c = λ place. rw (ne_eqb _ 0 c.if-owner-eq0.false) (c.messages_end-2.ensures _)

pub message_fits_spec : {M : Type 1} → statement M
message_fits_spec =
    tie.close
    (tie.spec (λ c. search rules) (λ c κs. search rules) returns (λ c. search rules) (λ c. search rules)
    (λ c. search rules) (λ c. search rules) (λ c. search rules) (λ c κs. search rules) returns-2)
