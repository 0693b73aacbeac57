-- `ports_of` reads four ports (`ports-taken`).
use Rattle.semantics.specs.Words.{port_of}
use Rattle.next_move.proofs.Firsts.{ports-taken, four-small}
use Rattle.next_move.proofs.rule.ports_of.Statement.{statement}
use Rattle.next_move.proofs.rule.ports_of.Tie as tie

returns : tie.Need-returns
returns c =
    let (a, la) = c.port_at-a.ensures in
    let (b, lb) = c.port_at-b.ensures in
    let (d, ld) = c.port_at-c.ensures in
    let (e, le) = c.port_at-d.ensures in
    (rw (a, b, d, e) (ports-taken port_of c.args.ws.now c.args.k c.requires.0 c.requires.1), four-small _ _ _ _ la lb ld le)

pub ports_of_spec : {M : Type 1} → statement M
ports_of_spec =
    tie.close
    (tie.spec
    (λ c κs. c.requires.1)
    (λ c κs. c.requires.1)
    (λ c κs. c.requires.1)
    (λ c κs. c.requires.1)
    returns)
