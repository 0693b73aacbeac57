-- `outline_verdict` meets its contract: the first fault counts, and the tests are the definition's (`Refusing`), for every rule of this outline.
use Prim.Native.Nat.{ℕ, ◌+◌, ◌-◌, ◌≤◌}
use mathlib.Core.Path.{◌≡◌, sym, ap, ◌∙◌}
use mathlib.Core.Bool.{true, ◌&&◌, not}
use mathlib.Core.List.{List, []}
use native.Mathlib.Omega.{arith}
use borrow.Author.Rules.{rules}
use borrow.Author.Tests.{not-true, not-false}
use lib.ListN.{length, take}
use Rattle.lists.specs.Lists.{all}
use Rattle.semantics.specs.Table.{Rule, consumed}
use Rattle.semantics.specs.State.{State}
use Rattle.semantics.specs.Move.{picks_ok, owners_at, owners_fit, takes_part, reacted}
use Rattle.wellformed.specs.Picks.{ReactGiven}
use Rattle.reaction.specs.Outlines.{Outlines}
use Rattle.state.specs.Lent.{state_from}
use Rattle.reaction.specs.Places.{Places, owners-at, places-on}
use Rattle.reaction.proofs.Refusing.{picks-found, picks-parts, wrong_pick, wrong-owner, some-aborting, no-more-ids, too_many, allowed-is, id-test}
use Rattle.reaction.specs.Verdict.{consumes-fit, entries-left}
use Rattle.reaction.proofs.verdict.outline_verdict.Statement.{statement}
use Rattle.reaction.proofs.verdict.outline_verdict.Tie as tie

-- the state, whatever its origins, and the picks in use
abbrev σ : tie.Start → List ℕ → State
σ c gs = state_from c.args.owners.now c.args.items.now gs c.args.at

abbrev ps : tie.Start → List ℕ
ps c = take c.args.outline.consumes c.args.picks

abbrev Of : tie.Start → Rule → Type 0
Of c x = Outlines c.args.outline x

four : (c : tie.Start) → length c.args.picks ≡ 4
four c = search rules

-- where the tests began
abbrev tested : tie.After-on_ports → tie.Start
tested c = c.before.before.before

abbrev placed : tie.After-owners_fit → tie.Start
placed c = tested c.before.before

abbrev asked : tie.After-picks_aborting → tie.Start
asked c = placed c.before.before

abbrev allowed : tie.Else-outline-at → tie.Start
allowed c = asked c.before.before.before.before

-- ---- what each test says

picks : (c : tie.After-on_ports) (x : Rule) → Of (tested c) x → (gs : List ℕ)
    → c.all_differ.result && c.on_ports.result ≡ picks_ok x (σ (tested c) gs) (ps (tested c))
picks c x f gs = picks-found x (σ (tested c) gs) (ps (tested c)) c.all_differ.ensures
    (c.on_ports.ensures (tested c).args.owners.now gs) f.ports

picks-pass : (c : tie.Else-not-all_differ-on_ports) (x : Rule) → Of (tested c.before) x → (gs : List ℕ)
    → picks_ok x (σ (tested c.before) gs) (ps (tested c.before)) ≡ true
picks-pass c x f gs = sym (picks c.before x f gs) ∙ not-false _ c.if-not-all_differ-on_ports.false-raw

in_place : (c : tie.Else-not-all_differ-on_ports) → Places (tested c.before).args.at.len (ps (tested c.before))
in_place c =
    let start = tested c.before in
    let a = start.args in
    let (x, f) = start.requires.1 in
    places-on a.owners.now a.items.now [] a.at.len (consumed x) (ps start) (picks-parts x (σ start []) (ps start) (picks-pass c x f [])).1

owners : (c : tie.After-owners_fit) (x : Rule) → Of (placed c) x → (gs : List ℕ)
    → c.owners_fit.result ≡ owners_fit x.class (owners_at (σ (placed c) gs) (ps (placed c)))
owners c x f gs =
    let a = (placed c).args in
    c.owners_fit.ensures ∙ ap (owners_fit a.outline.class) (sym
    (owners-at a.owners.now a.items.now gs a.at.len (ps (placed c)) (in_place c.before)))
    ∙ ap (λ (class : ℕ). owners_fit class (owners_at (σ (placed c) gs) (ps (placed c)))) f.class

owners-pass : (c : tie.Else-not-owners_fit) (x : Rule) → Of (placed c.before) x → (gs : List ℕ)
    → owners_fit x.class (owners_at (σ (placed c.before) gs) (ps (placed c.before))) ≡ true
owners-pass c x f gs = sym (owners c.before x f gs) ∙ not-false _ c.if-not-owners_fit.false-raw

taking : (c : tie.After-picks_aborting) (x : Rule) → Of (asked c) x → (gs : List ℕ)
    → c.picks_aborting.result ≡ not (all (takes_part (σ (asked c) gs)) (owners_at (σ (asked c) gs) (ps (asked c))))
taking c x f gs =
    let a = (asked c).args in
    c.picks_aborting.ensures gs ∙ ap (λ (os : List ℕ). not (all (takes_part (σ (asked c) gs)) os)) (sym
    (owners-at a.owners.now a.items.now gs a.at.len (ps (asked c)) (in_place c.before.before.before)))

part-pass : (c : tie.Else-picks_aborting) (x : Rule) → Of (asked c.before) x → (gs : List ℕ)
    → all (takes_part (σ (asked c.before) gs)) (owners_at (σ (asked c.before) gs) (ps (asked c.before))) ≡ true
part-pass c x f gs = not-false _ (sym (taking c.before x f gs) ∙ c.if-picks_aborting.false)

given : (c : tie.Else-outline-at) (x : Rule) → Of (allowed c) x → (gs : List ℕ) → ReactGiven x (σ (allowed c) gs) (ps (allowed c))
given c x f gs =
    let start = allowed c in
    let (a, b) = picks-parts x (σ start gs) (ps start) (picks-pass c.before.before.before.before.before.before.before x f gs) in
    record {
      different = a;
      ports = b;
      owners = owners-pass c.before.before.before.before.before x f gs;
      part = part-pass c.before.before.before x f gs;
      ids = id-test x _ f.begins (σ start gs) ∙ ap not c.if-outline-at.false;
    }

left : (c : tie.Else-outline-at) (x : Rule) → Of (allowed c) x → (gs : List ℕ)
    → length (reacted x 0 (σ (allowed c) gs) (ps (allowed c))).entries
    ≡ (allowed c).args.at.len - (allowed c).args.outline.consumes + ((allowed c).args.outline.count - (allowed c).args.outline.consumes)
left c x f gs =
    let a = (allowed c).args in
    entries-left a.outline.consumes x f.legal a.picks (four (allowed c)) a.owners.now a.items.now gs a.at 0 (given c x f gs)
    ∙ ap (λ (m : ℕ). a.at.len - a.outline.consumes + (m - a.outline.consumes)) (sym f.count)

-- ---- needs

few : (c : tie.Start) → (1 ≤ c.args.outline.consumes) × (c.args.outline.consumes ≤ 4)
few c = let (x, f) = c.requires.1 in (f.legal.some, f.legal.most)

returns : tie.Need-returns-then-not-all_differ-on_ports
returns c = λ x f gs. wrong_pick _ _ _ _ (sym (picks c.before x f gs) ∙ not-true _ c.if-not-all_differ-on_ports.true-raw)

owners-fit-requires : tie.Need-owners_fit-requires
owners-fit-requires c κs =
    let start = tested c.before in
    ((few start).0, (few start).1, search rules, λ p m. let l = in_place c p m in omega (arith, start.requires.0.fits))

returns-2 : tie.Need-returns-then-not-owners_fit
returns-2 c = λ x f gs. wrong-owner _ _ _ _ (picks-pass c.before.before x f gs) (sym (owners c.before x f gs) ∙ not-true _ c.if-not-owners_fit.true-raw)

picks-aborting-requires : tie.Need-picks_aborting-requires
picks-aborting-requires c κs =
    let start = placed c.before in
    let (a, b, _, p) = owners-fit-requires c.before.before κs in
    (start.requires.0, start.requires.2, a, b, p, sym c.owners_fit.ensures ∙ not-false _ c.if-not-owners_fit.false-raw)

returns-3 : tie.Need-returns-then-picks_aborting
returns-3 c = λ x f gs.
    some-aborting _ _ _ _ (picks-pass c.before.before.before.before x f gs) (owners-pass c.before.before x f gs)
    (not-true _ (sym (taking c.before x f gs) ∙ c.if-picks_aborting.true))

returns-4 : tie.Need-returns-then-outline-at
returns-4 c = λ x f gs.
    no-more-ids _ _ _ _ (picks-pass c.before.before.before.before.before.before.before x f gs) (owners-pass c.before.before.before.before.before x f gs)
    (part-pass c.before.before.before x f gs)
    (id-test x _ f.begins (σ (asked c.before.before.before.before) gs) ∙ ap not c.if-outline-at.true)

fits : (c : tie.Else-outline-at) → (allowed c).args.outline.consumes ≤ (allowed c).args.at.len
fits c =
    let a = (allowed c).args in
    let (x, f) = (allowed c).requires.1 in
    consumes-fit a.outline.consumes x f.legal a.picks (four (allowed c)) a.owners.now a.items.now [] a.at (given c x f [])

within : (c : tie.Else-outline-at) → (allowed c).args.outline.consumes ≤ (allowed c).args.outline.count
within c = let (x, f) = (allowed c).requires.1 in omega (arith, f.count, f.legal.within)

pub outline_verdict_spec : {M : Type 1} → statement M
outline_verdict_spec =
    tie.close
    (tie.spec (λ c κs. search rules) (λ c κs. search rules) returns owners-fit-requires returns-2 picks-aborting-requires returns-3
    returns-4 (λ c. omega (arith, fits c)) (λ c. omega (arith, within c)) (λ c. let f = (allowed c).requires.1.1 in search (rules, f.few))
    (λ c x f gs. too_many _ _ _ _ (given c.before x f gs) (omega (arith, left c.before x f gs, c.if-ceiling-n.true)))
    (λ c x f gs. allowed-is _ _ _ _ (given c.before x f gs) (omega (arith, left c.before x f gs, c.if-ceiling-n.false))))
