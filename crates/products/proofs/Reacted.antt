-- What an allowed reaction leaves of columns: what its verdict gives to the code that makes it, and the parts made put together.
use Prim.Native.Nat.{ℕ, ◌-◌, ◌+◌, ◌≤◌, ◌<◌}
use mathlib.Core.Path.{◌≡◌, sym, ap, subst, ◌∙◌}
use mathlib.Core.Bool.{true}
use mathlib.Core.List.{List, ◌++◌, map}
use native.Mathlib.Omega.{arith}
use borrow.Author.Tests.{ltb-true}
use lib.Dec.{ltb}
use lib.ListN.{length, get_or, take}
use Rattle.lists.specs.Lists.{distinct, least, without}
use Rattle.lists.specs.Choices.{given_holds}
use Rattle.lists.specs.Rows.{rows}
use Rattle.semantics.specs.Words.{value_of}
use Rattle.semantics.specs.Table.{product_atoms, begins}
use Rattle.semantics.specs.State.{Entry, State}
use Rattle.semantics.specs.Move.{picked, owners_at, merged, products, reacted}
use Rattle.semantics.specs.declared.Verdict.TheVariants.{Allowed}
use Rattle.wellformed.specs.Picks.{ReactGiven}
use Rattle.rules.specs.declared.decode.Rule.{Rule}
use Rattle.rules.specs.Decode.{Decodes}
use Rattle.state.specs.declared.Extent.{Extent}
use Rattle.state.specs.Working.{row_of, held, state_in}
use Rattle.state.specs.Arrays.{HoldsIn}
use Rattle.reaction.specs.Decoded.{rule_in, making_atoms, making_count}
use Rattle.state.specs.Lent.{state_from}
use Rattle.reaction.specs.Verdict.{react_verdict, verdict-allowed, picks-fit, count_left}
use Rattle.reaction.specs.Places.{Places, four_at, places, owners-found, column, values-at}
use Rattle.products.specs.Products.{merged_owner, next_after, products_from, products-from, products-same}
use Rattle.products.proofs.Merging.{merged-rows}
use Rattle.lists.specs.Padded.{get_or-padded, map-padded}
use Rattle.state.specs.declared.State as columns

pub record Reactable (x : Rule) (picks : List ℕ) (n next : ℕ) : Type 0 where
  pub different : distinct (take x.consumes picks) ≡ true
  pub in_place : Places n (take x.consumes picks)
  pub enough : x.consumes ≤ n
  pub room : n - x.consumes + making_count x ≤ 1024
  pub id : x.begins ≡ true → next < 65536

module _ (x : Rule) (d : Decodes x (rule_in x)) (picks : List ℕ) (four : length picks ≡ 4) (os ws gs : List ℕ) (at : Extent)
    (v : react_verdict 1024 (rule_in x) (state_in (held os ws gs at)) (take x.consumes picks) ≡ Allowed) where
  abbrev ps : List ℕ
  ps = take x.consumes picks

  abbrev n : ℕ
  n = at.len

  abbrev next : ℕ
  next = at.next

  abbrev σ : State
  σ = state_from os ws gs at

  given : ReactGiven (rule_in x) σ ps × (length (reacted (rule_in x) 0 σ ps).entries ≤ 1024)
  unfolding state_in
  given = verdict-allowed 1024 (rule_in x) σ ps v

  pub reactable : Reactable x picks n next
  reactable =
      let (g, room) = given in
      record {
        different = g.different;
        in_place = places x d picks four os ws gs at g.ports;
        enough = picks-fit x d picks four os ws gs at g;
        room = omega (arith, count_left x d picks four os ws gs at 0 g);
        id = λ h. ltb-true next 65536 (given_holds (begins (rule_in x)) (ltb next 65536) g.ids (sym d.begins ∙ h));
      }

  -- the values received; what the array has after them is not read otherwise
  values-found : {found : List ℕ} → found ≡ four_at ws ps → Places n ps → (i : ℕ)
      → get_or (map value_of found) i 0 ≡ get_or (map (λ e. e.value) (picked σ ps)) i 0
  values-found e h i = rw (e, map-padded value_of 4 0 (column ws ps), get_or-padded 4 0 (map value_of (column ws ps)) i, values-at os ws gs n ps h)

  -- the products
  products-found : (i home : ℕ) {found : List ℕ} → found ≡ four_at ws ps → Places n ps → home ≡ least (owners_at σ ps)
      → products_from x.class next home (map value_of found) i 0 (making_atoms x) ≡ products (rule_in x) σ (picked σ ps) i 0 (product_atoms (rule_in x))
  products-found i home {found} e h least-is =
      rw (products-from (rule_in x) σ (picked σ ps) i 0 (product_atoms (rule_in x)), d.legal.products, least-is)
      (products-same x.class next (least (owners_at σ ps)) (map value_of found) (map (λ e. e.value) (picked σ ps)) (values-found e h) i 0 (making_atoms x))

  reacted-is : (i home : ℕ) {found received : List ℕ} {es : List Entry} → found ≡ four_at os ps → received ≡ four_at ws ps
      → home ≡ least (take x.consumes found)
      → es ≡ map (merged (take x.consumes found)) (without ps 0 (rows (row_of os ws gs) 0 n))
      → ◌≡◌ {A = State} (record {
        next = next_after x.begins next;
        entries =
            es ++ products_from x.class next home (map value_of received) i 0 (making_atoms x);
      })
      (reacted (rule_in x) i (state_in (held os ws gs at)) ps)
  unfolding state_in reacted
  reacted-is i home {received = received} {es = es} ef er home-is left =
      let placed = places x d picks four os ws gs at given.0.ports in
      let owners = owners-found x d picks four os ws gs at ef placed in
      let kept : es ≡ map (merged (owners_at σ ps)) (without ps 0 σ.entries) = left
      ∙ ap (λ (fs : List ℕ). map (merged fs) (without ps 0 σ.entries)) owners in
      let new : products_from x.class next home (map value_of received) i 0 (making_atoms x)
      ≡ products (rule_in x) σ (picked σ ps) i 0 (product_atoms (rule_in x)) =
      products-found i home er placed (home-is ∙ ap least owners) in
      λ j. record { next = next_after (d.begins j) next; entries = kept j ++ new j }

  -- the picks taken out (os₁ ws₁ gs₁), the owners merged (os₂), the products appended
  pub reacted-holds : (i home : ℕ) {found received : List ℕ} (os₁ ws₁ gs₁ os₂ : List ℕ) {s : columns.State} → found ≡ four_at os ps
      → received ≡ four_at ws ps → home ≡ least (take x.consumes found)
      → rows (row_of os₁ ws₁ gs₁) 0 (n - x.consumes) ≡ without ps 0 (rows (row_of os ws gs) 0 n)
      → ((j : ℕ) → j < n - x.consumes → get_or os₂ j 0 ≡ merged_owner (take x.consumes found) home (get_or os₁ j 0))
      → HoldsIn s (record {
        next = next_after x.begins next;
        entries =
            rows (row_of os₂ ws₁ gs₁) 0 (n - x.consumes) ++ products_from x.class next home (map value_of received) i 0 (making_atoms x);
      })
      → HoldsIn s (reacted (rule_in x) i (state_in (held os ws gs at)) ps)
  reacted-holds i home {found} os₁ ws₁ gs₁ os₂ {s} ef er home-is out same h =
      let left = merged-rows os₁ os₂ ws₁ gs₁ (take x.consumes found) home (n - x.consumes) home-is same
      ∙ ap (map (merged (take x.consumes found))) out in
      subst (λ (τ : State). HoldsIn s τ) (reacted-is i home ef er home-is left) h
