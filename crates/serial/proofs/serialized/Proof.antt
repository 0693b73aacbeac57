use mathlib.Core.Path.{refl}
use native.Mathlib.Omega.{arith}
use borrow.Author.Rules.{rules}
use Rattle.state.specs.Parts.{loadable}
use Rattle.serial.proofs.FirstPass.{recordable, record-room, ran-refused, ran_open, ran-closed, reorder-asked}
use Rattle.serial.proofs.serialized.Statement.{statement}
use Rattle.serial.proofs.serialized.Tie as tie

load-requires : tie.Need-load-at-requires
load-requires c κs = (
  loadable _ _ c.requires.0.state,
  search rules,
)

record-requires : tie.Need-record-ran-requires
record-requires c κs =
    let p = c.requires in
    (recordable _ _ _ _ _ p.0 c.load-at.ensures, record-room _ _ _ p.1)

returns : tie.Need-returns-in-Denied
returns c =
    let p = c.requires in
    ran-refused _ _ _ _ _ p.0 c.load-at.ensures c.record-ran.ensures.0 c.in-Denied.is

any-owned-requires : tie.Need-any_owned-requires
any-owned-requires c κs =
    let w = c.record-ran.ensures.0.ran.workable in
    omega (arith, w.bounds.fits, w.arrays.owners)

returns-2 : tie.Need-returns-then-any_owned
returns-2 c =
    let p = c.requires in
    ran_open _ _ _ _ _ p.0 c.load-at.ensures c.record-ran.ensures.0 c.in_default.is
    c.any_owned.ensures c.if-any_owned.true

reordered-requires : tie.Need-reordered-requires
reordered-requires c κs =
    let p = c.requires in (
      reorder-asked _ _ _ _ _ p.0 c.load-at.ensures c.record-ran.ensures.0 c.in_default.is
          c.any_owned.ensures c.if-any_owned.false refl c.record-ran.ensures.1,
      c.record-ran.ensures.0.ran.workable.arrays,
      p.1.words,
    )

returns-3 : tie.Need-returns
returns-3 c =
    let p = c.requires in
    ran-closed _ _ _ _ _ p.0 c.load-at.ensures c.record-ran.ensures.0 c.in_default.is
    c.any_owned.ensures c.if-any_owned.false c.reordered.ensures

pub serialized_spec : {M : Type 1} → statement M
serialized_spec =
    tie.close
    (tie.spec (λ c κs. search rules) load-requires record-requires (λ c. search rules) (λ c. search rules) returns (λ c. search rules)
    (λ c. search rules) any-owned-requires (λ c. search rules) returns-2 reordered-requires (λ c. search rules) (λ c. search rules)
    (λ c. search rules) returns-3)
