-- The moves that blocks are made of: a move of an accepted log is inner exactly if it begins a transaction or is made in some.
use Rattle.std.specs.Prelude.{◌≡◌, refl, false, not, ◌&&◌, ◌||◌, List, ◌∷◌, ◌++◌, ℕ, ◌+◌, eqb, length}
use Rattle.std.proofs.Common.{ap, ◌∙◌}
use Rattle.lists.specs.Lists.{is_empty, least}
use Rattle.semantics.specs.Table.{Table, rule_at, consumed, begins}
use Rattle.semantics.specs.Move.{Move, react, commit, abort}
use Rattle.semantics.specs.Serial.{is_end, is_begin, is_inner}
use Rattle.cells.specs.Rules.{Shape, plain, begin, inner, Shaped, owners, touched-plain, touched-begin, touched-inner}
use Rattle.cells.specs.Deeds.{Deed, act_of}
use Rattle.cells.specs.Actions.{Seen, Tests, Ok}
use Rattle.cells.specs.Simulation.{Good}
use Rattle.serializability.specs.Statement.{is_made_inside}
use Rattle.serializability.specs.SameKey.{MembersMarked, LogRuns}
use Rattle.serializability.specs.FollowMark.{log-rest}
use Rattle.serializability.specs.LogOnCells.{ports-some}

inner-deed : (t : Table) → Shaped t → (F : Seen) (a : Deed) → Ok t F a → MembersMarked t F a
    → is_inner (act_of a) ≡ is_begin t a.move || is_made_inside t a.move
inner-deed t sd F a k marked = go a.move k.tests (λ h. (marked h).1)
  where
    go : (m : Move) → Tests t a k.es m → (is_end m ≡ false → is_empty a.members ≡ is_empty a.touched)
        → not (is_end m) && not (is_empty a.members) ≡ is_begin t m || is_made_inside t m
    go (commit b) T e = refl
    go (abort b) T e = refl
    go (react r ps) T e = ap not (e refl) ∙ shape (sd r)
      where
        touches : {bs : List ℕ} → a.touched ≡ bs → not (is_empty a.touched) ≡ not (is_empty bs)
        touches h = ap (λ (l : List ℕ). not (is_empty l)) h

        shape : Shape (rule_at t r) → not (is_empty a.touched) ≡ begins (rule_at t r) || not (eqb (rule_at t r).class 0)
        shape (plain c b h) = touches (T.2 ∙ touched-plain (rule_at t r) (least a.touched) (owners k.es) c b) ∙ rw (b, c)
        shape (begin c b h m rest q w x) = touches (T.2 ∙ touched-begin (rule_at t r) (least a.touched) (owners k.es) b) ∙ rw b
        shape (inner c b h x) =
            touches (T.2 ∙ touched-inner (rule_at t r) (least a.touched) (owners k.es) c b)
            ∙ rw (ports-some (consumed (rule_at t r)) k.es h T.0, b, c)

pub inner-is : (t : Table) (sd : Shaped t) (F G : Seen) (xs : List Deed) (x : Deed) (ys : List Deed) → Good 0 F → LogRuns t 0 F (xs ++ x ∷ ys) G
    → is_inner (act_of x) ≡ is_begin t x.move || is_made_inside t x.move
inner-is t sd F G xs x ys g r =
    let rest = log-rest t sd 0 F G xs (x ∷ ys) g r (0 + length xs) refl in
    inner-deed t sd _ x rest.0.0.step.ok rest.0.0.marked
