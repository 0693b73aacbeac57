-- The verdict of a reaction, test by test.
use Prim.Native.Nat.{ℕ, ◌≤◌, ◌<◌}
use mathlib.Core.Path.{◌≡◌, refl}
use mathlib.Core.Bool.{Bool, true, false, ◌&&◌, ◌||◌, not}
use mathlib.Core.List.{List}
use borrow.Author.Tests.{leb-true, lt-ltb, le-ltb, leb-false, lt-leb, le-leb}
use lib.Dec.{leb, ltb}
use lib.ListN.{length}
use Rattle.lists.specs.Lists.{all, distinct}
use Rattle.lists.specs.Tests.{and_both}
use Rattle.lists.specs.Choices.{by_bool}
use Rattle.semantics.specs.Table.{consumed, begins}
use Rattle.semantics.specs.Move.{picked, on_ports, picks_ok, owners_at, owners_fit, takes_part, has_id, reacted}
use Rattle.semantics.specs.declared.Refusal.TheVariants.{WrongPick, WrongOwner, NoMoreIds, TooManyEntries, TransactionAborting}
use Rattle.semantics.specs.declared.Verdict.TheVariants.{Allowed, Denied}
use Rattle.wellformed.specs.Picks.{ReactGiven}
use Rattle.reaction.specs.Verdict.{react_verdict}
use Rattle.semantics.specs.Table as rules
use Rattle.semantics.specs.State as semantics

pub picks-found : (r : rules.Rule) (s : semantics.State) (ps : List ℕ) {a b : Bool} {ports : List ℕ} → a ≡ distinct ps
    → b ≡ on_ports ports (picked s ps) → ports ≡ consumed r
    → a && b ≡ picks_ok r s ps
picks-found r s ps p q e = rw (p, q, e)

pub picks-parts : (r : rules.Rule) (s : semantics.State) (ps : List ℕ) → picks_ok r s ps ≡ true
    → (distinct ps ≡ true) × (on_ports (consumed r) (picked s ps) ≡ true)
picks-parts r s ps h = and_both (distinct ps) (on_ports (consumed r) (picked s ps)) h

module _ (ceiling : ℕ) (r : rules.Rule) (s : semantics.State) (ps : List ℕ) where
  pub wrong_pick : picks_ok r s ps ≡ false → Denied WrongPick ≡ react_verdict ceiling r s ps
  unfolding react_verdict
  wrong_pick h = rw h

  pub wrong-owner : picks_ok r s ps ≡ true → owners_fit r.class (owners_at s ps) ≡ false → Denied WrongOwner ≡ react_verdict ceiling r s ps
  unfolding react_verdict
  wrong-owner h k = rw (h, k)

  pub some-aborting : picks_ok r s ps ≡ true → owners_fit r.class (owners_at s ps) ≡ true → all (takes_part s) (owners_at s ps) ≡ false
      → Denied TransactionAborting ≡ react_verdict ceiling r s ps
  unfolding react_verdict
  some-aborting h k p = rw (h, k, p)

  pub no-more-ids : picks_ok r s ps ≡ true → owners_fit r.class (owners_at s ps) ≡ true → all (takes_part s) (owners_at s ps) ≡ true → has_id r s ≡ false
      → Denied NoMoreIds ≡ react_verdict ceiling r s ps
  unfolding react_verdict
  no-more-ids h k p l = rw (h, k, p, l)

  pub too_many : ReactGiven r s ps → ceiling < length (reacted r 0 s ps).entries → Denied TooManyEntries ≡ react_verdict ceiling r s ps
  unfolding react_verdict
  too_many g h = rw (g.different, g.ports, g.owners, g.part, g.ids, lt-leb _ _ h)

  pub allowed-is : ReactGiven r s ps → length (reacted r 0 s ps).entries ≤ ceiling → Allowed ≡ react_verdict ceiling r s ps
  unfolding react_verdict
  allowed-is g h = rw (g.different, g.ports, g.owners, g.part, g.ids, le-leb _ _ h)

-- 11: the code's test, and the definition's
pub id-test : (r : rules.Rule) (b : Bool) → b ≡ begins r → (s : semantics.State) → has_id r s ≡ not (b && leb 65536 s.next)
id-test r b e s = rw (← e) (go b)
  where
    go : (b : Bool) → not b || ltb s.next 65536 ≡ not (b && leb 65536 s.next)
    go false = refl
    go true = by_bool (leb 65536 s.next) (λ e. rw (e, le-ltb s.next 65536 (leb-true _ _ e))) (λ e. rw (e, lt-ltb s.next 65536 (leb-false _ _ e)))
