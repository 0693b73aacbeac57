use lib.ListN.{get_or, take}
use Rattle.wants.proofs.Four.{wanted-word}
use borrow.Author.Rules.{rules}
use Rattle.wants.proofs.wants_of.Statement.{statement}
use Rattle.wants.proofs.wants_of.Tie as tie

array-read-want : tie.Need-bounds-takes-0
array-read-want c = search rules

want-requires : tie.Need-want-a-requires
want-requires c κs = (c.requires.0, c.requires.1 0)

array-read-want-2 : tie.Need-bounds-takes-1
array-read-want-2 c = search rules

want-requires-2 : tie.Need-want-b-requires
want-requires-2 c κs = (c.requires.0, c.requires.1 1)

array-read-want-3 : tie.Need-bounds-takes-2
array-read-want-3 c = search rules

want-requires-3 : tie.Need-want-c-requires
want-requires-3 c κs = (c.requires.0, c.requires.1 2)

array-read-want-4 : tie.Need-bounds-takes-3
array-read-want-4 c = search rules

want-requires-4 : tie.Need-want-d-requires
want-requires-4 c κs = (c.requires.0, c.requires.1 3)

mul-result : tie.Need-overflow_mul-result
mul-result c = search rules

add-result : tie.Need-overflow_add-result
add-result c = search rules

mul-result-2 : tie.Need-overflow_mul-result-2
mul-result-2 c = search rules

add-result-2 : tie.Need-overflow_add-result-2
add-result-2 c = search rules

mul-result-3 : tie.Need-overflow_mul-result-3
mul-result-3 c = search rules

add-result-3 : tie.Need-overflow_add-result-3
add-result-3 c = search rules

returns : tie.Need-returns
returns c =
    let a = c.args in
    let small = c.requires.1 in
    wanted-word (take a.k a.takes) (get_or a.takes 0 0) (get_or a.takes 1 0) (get_or a.takes 2 0) (get_or a.takes 3 0) _ _ _ _
    (small 0) (small 1) (small 2) (small 3)
    c.want-a.ensures c.want-b.ensures c.want-c.ensures c.want-d.ensures

pub wants_of_spec : {M : Type 1} → statement M
wants_of_spec =
    tie.close
    (tie.spec
    array-read-want
    want-requires
    array-read-want-2
    want-requires-2
    array-read-want-3
    want-requires-3
    array-read-want-4
    want-requires-4
    mul-result
    add-result
    mul-result-2
    add-result-2
    mul-result-3
    add-result-3
    returns)
