-- `fill` by the numbers still wanted: at each level the loop pages the choices branch by branch (`Level`).
use Prim.Native.Nat.{ℕ, ◌-◌, ◌≤◌, ◌<◌}
use native.Mathlib.Omega.{arith}
use lib.ListN.{take}
use Rattle.lists.specs.Pages.{paged-empty, paged-le, paged-length}
use Rattle.choices.proofs.Branches.{leaf-past, leaf-one}
use Rattle.choices.proofs.Level.{Stands, level-at, level-start, level-full, level-end}
use Rattle.choices.proofs.Level.{level-picked, level-skipped, level-last, level-below, below-used}
use borrow.Author.Rules.{rules}
use borrow.Fn.Kinds.{In}
use borrow.Fn.PlainCycle.{Measures, is, falls, and}
use Rattle.choices.proofs.page.fill.Reads as fill
use Rattle.choices.proofs.page.fill.Kinds as fill-kinds
use Rattle.choices.proofs.page.+fill.Lts-fill as fill-lts
use Rattle.choices.proofs.page.is_picked.Reads as is-picked-reads
use Rattle.choices.proofs.find.next_with.Reads as next-with-reads
use Rattle.choices.proofs.page.put.Reads as put_reads
use Rattle.choices.proofs.page.+fill.{statement}
use Rattle.choices.proofs.page.+fill.Tie.{close}

-- the numbers still wanted
abbrev μ-fill : Measures 2 fill-kinds.ps ℕ
μ-fill κs a = a.1.1.1.1.0 - a.1.1.1.1.1.1.1.0

abbrev fill-at : ℕ → In 2 fill-kinds.ps
fill-at t = and 2 fill-kinds.ps (is 2 fill-kinds.ps μ-fill t) fill.Pre

abbrev fill-below : ℕ → In 2 fill-kinds.ps
fill-below t = and 2 fill-kinds.ps (falls 2 fill-kinds.ps ◌<◌ μ-fill t) fill.Pre

abbrev fill-Inv-loop : fill-lts.invariant-loop-p
fill-Inv-loop keys n k head picks i first count target₀ at wanted widths t width skip₀ done₀ p₀ target skip done p =
    Stands keys wanted picks n k i head first count at target₀ skip done p target

abbrev fill-μ-loop : fill-lts.decreases-loop-p
fill-μ-loop keys n k head picks i first count target₀ at wanted widths t width skip₀ done₀ p₀ target skip done p =
    n - p

pub +fill_spec : {M : Type 1} → statement M
+fill_spec = close μ-fill λ t. fill-lts.spec (
  put_reads.Asked,
  put_reads.Learnt,
  next-with-reads.Asked,
  next-with-reads.Learnt,
  is-picked-reads.Asked,
  is-picked-reads.Learnt,
  fill-below t,
  fill.Post,
)
    (fill-at t)
    fill.Post
    fill-Inv-loop
    fill-μ-loop
    (λ c. rw c.if-count-eq0.true (paged-empty _ 5 _ _ _ _))
    (λ c.
    let a = c.args in
    leaf-past (take a.n a.keys.now) a.wanted (take a.i a.picks) a.k a.i c.if-i-k.true a.head a.first a.at
    a.picks a.target.now a.count c.if-first-ne0.true)
    (λ c κs. search rules)
    (λ c. search rules)
    (λ c.
    let a = c.args in
    leaf-one (take a.n a.keys.now) a.wanted (take a.i a.picks) a.k a.i c.if-i-k.true
    a.head a.first a.at a.picks a.target.now a.count
    (omega (arith, c.if-first-ne0.false)) c.if-count-eq0.false c.put.ensures)
    (λ c. search rules)
    (λ c. search rules)
    (λ c. search rules)
    (λ c. search rules)
    (λ c κs. search rules)
    (λ c.
    let p = c.requires.1 in
    let v = level-at p.0 p.1.1 (search rules) (search rules) c.if-i-k.false in
    let a = c.args in
    level-start v a.head a.first a.count a.at a.target.now c.next_with-p.ensures)
    (λ c. paged-length _ 5 c.loop-p.invariant.paging.paged)
    (λ c.
    let p = c.requires.1 in
    let v = level-at p.0 p.1.1 (search rules) (search rules) c.if-i-k.false in
    let a = c.args in
    let l = c.loop-p in
    level-full v a.head a.first a.count a.at a.target.now l.invariant c.if-done-count.true)
    (λ c. search rules)
    (λ c κs. search rules)
    (λ c. search rules)
    (λ c κs. search rules)
    (λ c. omega (arith, c.next_with-p-then-is_picked.ensures.low, c.loop-p-test.true))
    (λ c.
    let p = c.requires.1 in
    let v = level-at p.0 p.1.1 (search rules) (search rules) c.if-i-k.false in
    let a = c.args in
    let l = c.loop-p in
    level-picked v a.head a.first a.count a.at a.target.now l.invariant c.loop-p-test.true
    c.is_picked.ensures c.if-is_picked.true
    c.next_with-p-then-is_picked.ensures)
    (λ c. search rules)
    (λ c κs. search rules)
    (λ c. omega (arith, c.next_with-p-then-width-skip.ensures.low, c.loop-p-test.true))
    (λ c.
    let p = c.requires.1 in
    let v = level-at p.0 p.1.1 (search rules) (search rules) c.if-i-k.false in
    let a = c.args in
    let l = c.loop-p in
    level-skipped v a.head a.first a.count a.at a.target.now l.invariant c.loop-p-test.true
    c.is_picked.ensures c.if-is_picked.false
    c.if-width-skip.true c.next_with-p-then-width-skip.ensures)
    (λ c. search rules)
    (λ c. search rules)
    (λ c. search rules)
    (λ c. search rules)
    (λ c. let d = paged-le _ 5 c.loop-p.invariant.paging.paged in search rules)
    (λ c. let d = paged-le _ 5 c.loop-p.invariant.paging.paged in search rules)
    (λ c κs.
    let g = c.loop-p.invariant.paging.paged in
    let d = paged-le _ 5 g in
    let z = paged-length _ 5 g in
    omega (arith, c.if-done-count.false, c.requires.1.1.0))
    (λ c.
    omega (arith, paged-le _ 5 c.loop-p.invariant.paging.paged, c.requires.1.1.0))
    (λ c. search rules)
    (λ c κs. search rules)
    (λ c. omega (arith, c.next_with-p-then-i-k-2.ensures.low, c.loop-p-test.true))
    (λ c.
    let p = c.requires.1 in
    let v = level-at p.0 p.1.1 (search rules) (search rules)
    c.if-i-k.false in
    let a = c.args in
    let l = c.loop-p in
    let room : 1 ≤ a.count - l.done = omega
    (arith, paged-le _ 5 l.invariant.paging.paged, c.if-done-count.false) in
    level-last v a.head a.first a.count a.at a.target.now l.invariant c.loop-p-test.true
    c.is_picked.ensures
    c.if-is_picked.false (omega (arith, c.if-width-skip.false))
    c.if-i-k-2.true room c.put-then-i-k-2.ensures c.next_with-p-then-i-k-2.ensures)
    (λ c. search rules)
    (λ c. search rules)
    (λ c. search rules)
    (λ c. search rules)
    (λ c. let d = paged-le _ 5 c.loop-p.invariant.paging.paged in search rules)
    (λ c. let d = paged-le _ 5 c.loop-p.invariant.paging.paged in search rules)
    (λ c. let d = paged-le _ 5 c.loop-p.invariant.paging.paged in search rules)
    (λ c κs.
    let p = c.requires.1 in
    let v = level-at p.0 p.1.1 (search rules) (search rules) c.if-i-k.false in
    let a = c.args in
    let l = c.loop-p in
    let z = paged-length _ 5 l.invariant.paging.paged in
    let d = paged-le _ 5 l.invariant.paging.paged in (
      omega arith,
      (
        (omega arith, omega arith, omega arith, p.0.3),
        (
          (omega (arith, p.1.0), omega (arith, p.1.0)),
          (
            p.1.1.0,
            below-used v a.head a.first a.count a.at a.target.now l.invariant c.loop-p-test.true
                c.is_picked.ensures
                c.if-is_picked.false,
          ),
        ),
      ),
    ))
    (λ c.
    let d = paged-le _ 5 c.fill-done.ensures in
    omega (arith, paged-le _ 5 c.loop-p.invariant.paging.paged, c.requires.1.1.0.0))
    (λ c. search rules)
    (λ c κs. search rules)
    (λ c. omega (arith, c.next_with-p-else-i-k-2.ensures.low, c.loop-p-test.true))
    (λ c.
    let p = c.requires.1 in
    let v = level-at p.0 p.1.1 (search rules) (search rules)
    c.if-i-k.false in
    let a = c.args in
    let l = c.loop-p in
    level-below v a.head a.first a.count a.at a.target.now l.invariant c.loop-p-test.true
    c.is_picked.ensures
    c.if-is_picked.false (omega (arith, c.if-width-skip.false))
    c.fill-done.ensures c.next_with-p-else-i-k-2.ensures)
    (λ c. paged-length _ 5 c.loop-p.invariant.paging.paged)
    (λ c.
    let p = c.requires.1 in
    let v = level-at p.0 p.1.1 (search rules) (search rules) c.if-i-k.false in
    let a = c.args in
    level-end v a.head a.first a.count a.at a.target.now c.loop-p.invariant c.loop-p-test.false)
