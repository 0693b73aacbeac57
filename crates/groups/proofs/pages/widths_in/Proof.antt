-- `widths_in`: the ways of the key's group.
use native.Mathlib.Omega.{arith}
use Rattle.groups.proofs.pages.widths_in.Statement.{statement}
use Rattle.groups.proofs.pages.widths_in.Tie as tie

pub widths_in_spec : {M : Type 1} → statement M
widths_in_spec =
    tie.close
    (tie.spec (λ c. omega (arith, c.requires.1)) (λ c κs. (c.requires.0, omega (arith, c.requires.1))) (λ c. c.group_widths.ensures))
