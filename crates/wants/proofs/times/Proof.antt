use Rattle.wants.proofs.Four.{times-four}
use borrow.Author.Rules.{rules}
use Rattle.wants.proofs.times.Statement.{statement}
use Rattle.wants.proofs.times.Tie as tie

array-read-one-if : tie.Need-bounds-takes-0
array-read-one-if c = search rules

one-if-requires : tie.Need-one_if-a-requires
one-if-requires c κs = search rules

array-read-one-if-2 : tie.Need-bounds-takes-1
array-read-one-if-2 c = search rules

one-if-requires-2 : tie.Need-one_if-b-requires
one-if-requires-2 c κs = search rules

array-read-one-if-3 : tie.Need-bounds-takes-2
array-read-one-if-3 c = search rules

one-if-requires-3 : tie.Need-one_if-c-requires
one-if-requires-3 c κs = search rules

array-read-one-if-4 : tie.Need-bounds-takes-3
array-read-one-if-4 c = search rules

one-if-requires-4 : tie.Need-one_if-d-requires
one-if-requires-4 c κs = search rules

add-result : tie.Need-overflow_add-result
add-result c = search rules

add-result-2 : tie.Need-overflow_add-result-2
add-result-2 c = search rules

add-result-3 : tie.Need-overflow_add-result-3
add-result-3 c = search rules

returns : tie.Need-returns
returns c =
    let a = c.args in
    let l = c.requires in (
      rw (c.one_if-a.ensures.0, c.one_if-b.ensures.0, c.one_if-c.ensures.0, c.one_if-d.ensures.0)
          (times-four a.takes (search rules) a.k l a.port),
      search rules,
    )

pub times_spec : {M : Type 1} → statement M
times_spec =
    tie.close
    (tie.spec
    array-read-one-if
    one-if-requires
    array-read-one-if-2
    one-if-requires-2
    array-read-one-if-3
    one-if-requires-3
    array-read-one-if-4
    one-if-requires-4
    add-result
    add-result-2
    add-result-3
    returns)
