-- `group_widths`: the counts out of the group's word.
use native.Mathlib.Omega.{arith}
use Rattle.groups.proofs.pages.group_widths.Statement.{statement}
use Rattle.groups.proofs.pages.group_widths.Tie as tie

pub group_widths_spec : {M : Type 1} → statement M
group_widths_spec =
    tie.close
    (tie.spec
    (λ c. omega (arith, c.requires.1))
    (λ c. omega (arith, c.requires.1, c.requires.0.size))
    (λ c κs. let p = c.requires in p.0.few c.args.g p.1)
    (λ c. c.widths.ensures))
