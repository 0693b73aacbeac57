-- `has_room` asks for an id and for room.
use borrow.Author.Rules.{rules}
use native.Mathlib.Omega.{arith}
use Rattle.next_move.proofs.rule.has_room.Statement.{statement}
use Rattle.next_move.proofs.rule.has_room.Tie as tie

pub has_room_spec : {M : Type 1} → statement M
has_room_spec =
    tie.close
    (tie.spec
    (λ c κs. search rules)
    (λ c. let p = c.requires in omega (arith, p.1, p.2))
    (λ c. let p = c.requires in omega (arith, p.0))
    (λ c. let p = c.requires in omega (arith, p.0, p.3))
    (λ c. rw c.has_role-begins.ensures))
