-- `key_if` meets its contract: the code is the definition, but for how a local port is told.
use borrow.Author.Rules.{rules}
use Prim.Native.Nat.{◌<◌}
use mathlib.Core.Path.{refl, ◌∙◌}
use native.Mathlib.Omega.{arith}
use Rattle.state.specs.Working.{entry_from}
use Rattle.offers.proofs.KeyCase.{key-told, key-small}
use Rattle.offers.proofs.keys.key_if.Statement.{statement}
use Rattle.offers.proofs.keys.key_if.Tie as tie

returns : tie.Need-returns
returns c =
    let a = c.args in
    let told = rw (c.either.ensures, c.port_of-port.ensures, c.kind_of-kind.ensures) at c.either-2.ensures in
    let few : a.owner < 65536 = search rules in (
      λ parts origin h. told ∙ key-told a.z parts (entry_from a.owner a.item origin) h,
      rw (told ∙ key-told a.z (λ o. a.part) (entry_from a.owner a.item 0) refl)
          (key-small a.z (λ o. a.part) (entry_from a.owner a.item 0) few (omega arith)),
    )

pub key_if_spec : {M : Type 1} → statement M
key_if_spec =
    tie.close
    (tie.spec
    (λ c κs. search rules) (λ c κs. search rules) (λ c. search rules) (λ c. search rules) (λ c. search rules)
    (λ c κs. search rules) (λ c κs. search rules) returns)
