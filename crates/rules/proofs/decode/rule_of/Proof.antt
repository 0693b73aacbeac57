-- `decode::rule_of` meets its contract: i words are decoded (`Decoding`).
use Prim.Native.Nat.{◌-◌}
use mathlib.Core.Path.{refl}
use lib.ListN.{length}
use native.Mathlib.Omega.{arith}
use borrow.Author.Rules.{rules}
use Rattle.rules.proofs.Decoding.{Decoding, decoding-start, decoding-few, decoding-next, decoding-done}
use Rattle.rules.proofs.decode.rule_of.Statement.{statement}
use Rattle.rules.proofs.decode.rule_of.Tie as tie

abbrev Inv : tie.invariant-loop-i
Inv ws rule₀ consumes₀ begins₀ i₀ rule consumes begins i = Decoding ws rule₀.class rule consumes begins i

abbrev μ : tie.decreases-loop-i
μ ws rule₀ consumes₀ begins₀ i₀ rule consumes begins i = length ws - i

loop-holds : tie.Need-loop-i-init Inv μ
loop-holds c = decoding-start _ _ refl refl

add-consumes : tie.Need-overflow_add-consumes Inv μ
add-consumes c =
    omega (arith, c.one_if-consumes.ensures.1, decoding-few c.requires c.loop-i.invariant)

loop-again : tie.Need-loop-i-preserved Inv μ
loop-again c =
    decoding-next c.requires c.loop-i.invariant c.loop-i-test.true
    c.atom_of.ensures c.role_of-role.ensures c.one_if-consumes.ensures.0

returns : tie.Need-returns Inv μ
returns c =
    decoding-done c.requires c.loop-i.invariant c.loop-i-test.false c.rule_class.ensures

pub rule_of_spec : {M : Type 1} → statement M
rule_of_spec =
    tie.close
    (tie.spec
    Inv μ (λ c κs. search rules) (λ c κs. search rules) loop-holds (λ c. search rules) (λ c. search rules)
    (λ c κs. search rules) (λ c κs. search rules) (λ c. search rules) (λ c. search rules) (λ c κs. search rules) add-consumes
    (λ c. search rules) (λ c. search rules) loop-again returns)
