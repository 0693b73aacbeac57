-- `widths` computes the figures of `widths_of`.
use native.Mathlib.Nat.{mul-le-mul, lt_of_le_of_lt}
use lib.Dec.{lit<}
use Rattle.choices.specs.Widths.{widths-as}
use borrow.Author.Rules.{rules}
use Rattle.choices.proofs.ways.widths.Statement.{statement}
use Rattle.choices.proofs.ways.widths.Tie as tie

mul-pair : tie.Need-overflow_mul-pair
mul-pair c = record { fits = lt_of_le_of_lt (mul-le-mul c.ways_at-third.ensures.1 c.ways_at-fourth.ensures.1) (lit< tt) }

mul-t26 : tie.Need-overflow_mul-result
mul-t26 c = record {
  fits = lt_of_le_of_lt
      (mul-le-mul c.ways_at-second.ensures.1 (mul-le-mul c.ways_at-third.ensures.1 c.ways_at-fourth.ensures.1))
      (lit< tt);
}

returns : tie.Need-returns
returns c =
    let a = c.args in
    widths-as a.wanted a.left a.k _ _ _
    (rw c.one_if.ensures.0 at c.ways_at-second.ensures.0)
    (rw c.two_of.ensures.0 at c.ways_at-third.ensures.0)
    (rw c.three_of.ensures.0 at c.ways_at-fourth.ensures.0)

pub widths_spec : {M : Type 1} → statement M
widths_spec =
    tie.close
    (tie.spec
    (λ c. search rules)
    (λ c. search rules)
    (λ c. search rules)
    (λ c. search rules)
    (λ c. search rules)
    (λ c κs. search rules)
    (λ c κs. c.requires 1)
    (λ c. search rules)
    (λ c κs. search rules)
    (λ c κs. c.requires 2)
    (λ c. search rules)
    (λ c κs. search rules)
    (λ c κs. c.requires 3)
    mul-pair
    mul-t26
    returns)
