-- `places_of` meets its contract: the places of the first i origins stand at the front.
use Prim.Native.Nat.{ℕ, ◌-◌, ◌≤◌}
use mathlib.Core.List.{List, map}
use mathlib.Core.Path.{◌≡◌, ap, ◌∙◌}
use native.Mathlib.Omega.{arith}
use borrow.Author.Rules.{rules}
use lib.ListN.{length, take, set, length-set}
use Rattle.lists.specs.Padded.{padded, padded-none, fill-padded}
use Rattle.lists.specs.Rows.{rows}
use Rattle.state.specs.Working.{row_of}
use Rattle.replay.specs.Replay.{place_in}
use Rattle.replay.proofs.places_of.Statement.{statement}
use Rattle.replay.proofs.places_of.Tie as tie

abbrev Inv : tie.invariant-loop-i
Inv origins n k wanted places₀ i₀ places i =
    (length wanted ≡ 4) × (i ≤ k) × (length places ≡ 4)
    × ((os ws : List ℕ) → places ≡ padded 4 0 (map (place_in (rows (row_of os ws origins) 0 n)) (take i wanted)))

abbrev μ : tie.decreases-loop-i
μ origins n k wanted places₀ i₀ places i = k - i

loop-holds : tie.Need-loop-i-init Inv μ
loop-holds c =
    let four : length c.args.wanted ≡ 4 = search rules in
    (four, omega arith, search rules, λ os ws. padded-none 4 0)

loop-again : tie.Need-loop-i-preserved Inv μ
loop-again c =
    let a = c.args in
    let l = c.loop-i in
    let four = l.invariant.0 in
    let more = c.loop-i-test.true in
    let few = c.requires.2 in (
      four,
      omega arith,
      length-set l.places l.i c.place_of-place.result ∙ l.invariant.2,
      λ os ws.
          ap (set l.places l.i) (c.place_of-place.ensures.0 os ws)
          ∙ fill-padded (place_in (rows (row_of os ws a.origins.now) 0 a.n)) a.wanted 4 l.i 0 0 (omega arith) (omega arith) (l.invariant.3 os ws),
    )

returns : tie.Need-returns Inv μ
returns c os ws =
    let a = c.args in
    let l = c.loop-i in
    let e : l.i ≡ a.k = omega (arith, l.invariant.1, c.loop-i-test.false) in
    l.invariant.3 os ws ∙ ap (λ (j : ℕ). padded 4 0 (map (place_in (rows (row_of os ws a.origins.now) 0 a.n)) (take j a.wanted))) e

pub places_of_spec : {M : Type 1} → statement M
places_of_spec =
    tie.close
    (tie.spec Inv μ loop-holds (λ c. search rules) (λ c. search rules) (λ c κs. search rules) (λ c. search rules) (λ c. search rules)
    (λ c. search rules) (λ c. search rules) (λ c. search rules) loop-again returns)
