-- A set to which the owner of the last entry is added, if that is its abort mark: the set after a reaction.
use Prim.Native.Nat.{ℕ, ◌<◌}
use mathlib.Core.Bool.{Bool, true, false, ◌||◌}
use mathlib.Core.List.{List}
use mathlib.Core.Path.{◌≡◌, sym, ap, ◌∙◌}
use lib.Dec.{ltb}
use lib.ListN.{length}
use borrow.Author.Tests.{ltb-true, ltb-false}
use Rattle.lists.specs.Lists.{any}
use Rattle.lists.specs.Choices.{by_bool, clash}
use Rattle.semantics.specs.Table.{Table, rule_at, has_role}
use Rattle.semantics.specs.State.{Entry, State}
use Rattle.semantics.specs.Move.{react, nothing, applied}
use Rattle.idset.specs.IdSet.{has, beyond}
use Rattle.transactions.specs.Sets.{stops}
use Rattle.stopped.specs.Stopped.{StoppedIn}
use Rattle.stopped.specs.Last.{last_or}
use Rattle.stopped.specs.Reacted.{stops_of, Reacting, reacted-stops, no_abort}

module _ {t : Table} {s : State} {r : ℕ} {ps : List ℕ} (h : Reacting t s r ps) (i : ℕ) {es : List Entry} (e : (applied t i s (react r ps)).entries ≡ es)
    {last : Entry} (ends : last_or nothing es ≡ last) where
  pub last-added : {before left : List ℕ} → StoppedIn s.entries before → length left ≡ 1024
      → ((v : ℕ) → has left v ≡ stops_of v last || has before v) → StoppedIn es left
  last-added {before} are size holds = record {
    size = size;
    are = λ v. holds v ∙ ap (λ (b : Bool). stops_of v last || b) (are.are v) ∙ sym (rw (e, ends) at (reacted-stops h i v));
  }

  pub last-tells : {b : Bool} → b ≡ stops last → b ≡ false → any (has_role 5) (rule_at t r).atoms ≡ false
  last-tells q n = no_abort h i (rw (e, ends) (sym q ∙ n))

-- a member of a set is below 65,536
pub member-small : (ws : List ℕ) (v : ℕ) → length ws ≡ 1024 → has ws v ≡ true → v < 65536
member-small ws v size there = by_bool (ltb v 65536) (ltb-true v 65536) (λ q. absurd (clash there (beyond ws v size (ltb-false v 65536 q))))
