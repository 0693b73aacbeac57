-- `place_of` meets its contract: no entry before i is of that origin.
use Prim.Native.Nat.{ℕ, ◌-◌, ◌≤◌}
use mathlib.Core.Path.{◌≡◌}
use mathlib.Core.List.{List}
use native.Mathlib.Omega.{arith}
use borrow.Author.Rules.{rules}
use lib.ListN.{length}
use Rattle.replay.proofs.Places.{Seeking, seek-from, seek-here, seek-next, seek-none}
use Rattle.replay.proofs.place_of.Statement.{statement}
use Rattle.replay.proofs.place_of.Tie as tie

abbrev Inv : tie.invariant-loop-i
Inv origins n origin i₀ i = (n ≤ 1024) × (length origins ≡ 1024) × (i ≤ n) × ((os ws : List ℕ) → Seeking os ws origins n origin i)

abbrev μ : tie.decreases-loop-i
μ origins n origin i₀ i = n - i

loop-holds : tie.Need-loop-i-init Inv μ
loop-holds c =
    let a = c.args in
    let p = c.requires in
    let r = c.chunk_of-i.ensures in
    (p.0, p.1, r.0, λ os ws. seek-from os ws a.origins.now a.n a.origin c.chunk_of-i.result r.0 r.1)

returns : tie.Need-returns-then-origins-i Inv μ
returns c =
    let a = c.args in
    let l = c.loop-i in
    let more = c.loop-i-test.true in
    (λ os ws. seek-here os ws a.origins.now a.n a.origin l.i (l.invariant.3 os ws) more c.if-origins-i.true, omega arith)

loop-again : tie.Need-loop-i-preserved Inv μ
loop-again c =
    let a = c.args in
    let l = c.loop-i in
    let more = c.loop-i-test.true in
    (l.invariant.0, l.invariant.1, omega arith, λ os ws. seek-next os ws a.origins.now a.n a.origin l.i (l.invariant.3 os ws) more c.if-origins-i.false)

returns-2 : tie.Need-returns Inv μ
returns-2 c =
    let a = c.args in
    let l = c.loop-i in
    (λ os ws. seek-none os ws a.origins.now a.n a.origin l.i (l.invariant.3 os ws) c.loop-i-test.false, omega arith)

pub place_of_spec : {M : Type 1} → statement M
place_of_spec =
    tie.close
    (tie.spec Inv μ (λ c κs. c.requires) loop-holds (λ c. search rules) (λ c. search rules) returns (λ c. search rules)
    (λ c. search rules) loop-again returns-2)
