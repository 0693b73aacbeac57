-- `walk` meets its contract, move by move (`Walking`).
use Prim.Native.Nat.{ℕ, ◌-◌}
use mathlib.Core.List.{List, ◌∷◌}
use mathlib.Core.Path.{◌≡◌, refl, sym, ap, ◌∙◌}
use native.Mathlib.Omega.{arith}
use borrow.Author.Tests.{not-true, not-false}
use lib.ListN.{length}
use Rattle.semantics.specs.Table.{sizes_of, table_of}
use Rattle.semantics.specs.Log.{head_of}
use Rattle.semantics.specs.Enabled.{enabled, move_words}
use Rattle.wellformed.specs.Held.{Held}
use Rattle.enabled.specs.Alone.{still-empty}
use Rattle.state.specs.Working.{held, state_in}
use Rattle.step.specs.Make.{Workable}
use Rattle.unattended.proofs.Walking.{first_found, first-none, still-found, Running, running-start}
use Rattle.unattended.proofs.Walking.{running-length, running_more, running-done, none_made, spent-made}
use Rattle.tracking.specs.Tracked.{TrackedIn}
use Rattle.tracking.specs.Given.{first-open}
use Rattle.unattended.proofs.Moves.{searchable, searched, made-first}
use borrow.Author.Rules.{rules}
use Rattle.unattended.proofs.walk.walk.Statement.{statement}
use Rattle.unattended.proofs.walk.walk.Tie as tie

abbrev Inv : tie.invariant-loop-i
Inv table starts wants owners₀ items₀ origins₀ budget ceiling stopped₀ totals₀ picks₀ target₀ keys₀ left₀ i₀ owners items origins stopped totals picks target
    keys left i =
    Running ceiling (table_of table) budget (state_in (held owners₀ items₀ origins₀ left₀)) i (state_in (held owners items origins left)) picks target₀ target
    × Workable (held owners items origins left) ceiling × Held (sizes_of table) (state_in (held owners items origins left))
    × (length keys ≡ 1024) × (length picks ≡ length picks₀) × TrackedIn (sizes_of table) owners items left stopped totals

abbrev μ : tie.decreases-loop-i
μ table starts wants owners₀ items₀ origins₀ budget ceiling stopped₀ totals₀ picks₀ target₀ keys₀ left₀ i₀ owners items origins stopped totals picks target keys
    left i = budget - i

loop-holds : tie.Need-loop-i-init Inv μ
loop-holds c =
    let a = c.args in
    let start = state_in (held a.owners.now a.items.now a.origins.now a.start) in (
      running-start a.ceiling (table_of a.table.now) a.budget start a.picks.now a.target.now,
      c.requires.1.0,
      c.requires.1.1,
      search rules,
      refl,
      c.requires.1.2,
    )

-- the search in a turn of the loop
next-move-requires : tie.Need-next_move-first-requires Inv μ
next-move-requires c κs =
    let l = c.loop-i in
    searchable l.owners l.items l.origins l.at c.args.ceiling l.invariant.1 l.invariant.2 c.requires.0.0 c.requires.0.1 refl l.invariant.5 l.invariant.3

returns : tie.Need-returns-then-not-first Inv μ
returns c =
    let l = c.loop-i in
    let a = c.args in
    let T = table_of a.table.now in
    let now = state_in (held l.owners l.items l.origins l.at) in
    let start = state_in (held a.owners.now a.items.now a.origins.now a.start) in
    let f = searched l.owners l.items l.origins l.at a.ceiling l.invariant.1 l.invariant.2 T c.next_move-first.ensures.0 in
    let none = first-none (enabled a.ceiling T now) c.next_move-first.result f (not-true _ c.if-not-first.true) in
    let (made, same) = none_made a.ceiling T a.budget start l.i (a.budget - l.i) now none in
    (running-done a.ceiling T a.budget start l.invariant.0 made same (sym ((still-empty a.ceiling T now).1 none)), l.invariant.4)

-- a c, after the search has found a move
loop-again : tie.Need-loop-i-preserved Inv μ
loop-again c =
    let l = c.loop-i in
    let test = c.loop-i-test.true in
    let a = c.args in
    let T = table_of a.table.now in
    let now = state_in (held l.owners l.items l.origins l.at) in
    let start = state_in (held a.owners.now a.items.now a.origins.now a.start) in
    let f = searched l.owners l.items l.origins l.at a.ceiling l.invariant.1 l.invariant.2 T c.next_move-first.ensures.0 in
    let (m, ms, first, head, picks) = first_found (enabled a.ceiling T now) c.next_move-first.result f (not-false _ c.if-not-first.false) in
    let columns = c.note.ensures in
    let (made, kept) = c.make_tracked-made.ensures in
    let words : c.next_move-first.result.mv.head ∷ c.next_move-first.result.mv.picks ≡ move_words m =
    ap (λ (h : ℕ). h ∷ c.next_move-first.result.mv.picks) head ∙ ap (λ (l : List ℕ). head_of m ∷ l) picks in
    let (same, sound) = made-first a.table.now c.requires.0.0.table a.ceiling l.invariant.1.limit l.i l.invariant.2 made m ms first words in
    let run = running_more a.ceiling T a.budget start l.invariant.0 test first head picks (omega (arith, test, c.requires.0.3, l.invariant.4)) in
    (rw (same, columns.0.value, columns.1) run, made.workable, sound, c.next_move-first.ensures.1, columns.0.size ∙ l.invariant.4, kept)

note-requires : tie.Need-note-requires Inv μ
note-requires c κs =
    let l = c.loop-i in
    let test = c.loop-i-test.true in
    let p = c.requires.0 in
    let size = running-length _ _ _ _ l.invariant.0 in
    (omega (arith, test, p.2), omega (arith, test, p.3, l.invariant.4), omega (arith, test, p.4, size))

make-tracked-requires : tie.Need-make_tracked-made-requires Inv μ
make-tracked-requires c κs =
    let l = c.loop-i in
    let test = c.loop-i-test.true in
    let a = c.args in
    let T = table_of a.table.now in
    let now = state_in (held l.owners l.items l.origins l.at) in
    let f = searched l.owners l.items l.origins l.at a.ceiling l.invariant.1 l.invariant.2 T c.next_move-first.ensures.0 in
    let (m, ms, first, head, picks) = first_found (enabled a.ceiling T now) c.next_move-first.result f (not-false _ c.if-not-first.false) in
    let words : c.next_move-first.result.mv.head ∷ c.next_move-first.result.mv.picks ≡ move_words m =
    ap (λ (h : ℕ). h ∷ c.next_move-first.result.mv.picks) head ∙ ap (λ (l : List ℕ). head_of m ∷ l) picks in
    record {
      indexed = c.requires.0.0;
      place = omega (arith, test, c.requires.0.2);
      workable = l.invariant.1;
      sound = l.invariant.2;
      opened = first-open a.ceiling a.table.now c.requires.0.0.table now l.invariant.2 m ms first words;
      tracked = l.invariant.5;
    }

next-move-requires-2 : tie.Need-next_move-first-requires-2 Inv μ
next-move-requires-2 c κs =
    let l = c.loop-i in
    searchable l.owners l.items l.origins l.at c.args.ceiling l.invariant.1 l.invariant.2 c.requires.0.0 c.requires.0.1 refl l.invariant.5 l.invariant.3

returns-2 : tie.Need-returns Inv μ
returns-2 c =
    let l = c.loop-i in
    let a = c.args in
    let T = table_of a.table.now in
    let now = state_in (held l.owners l.items l.origins l.at) in
    let start = state_in (held a.owners.now a.items.now a.origins.now a.start) in
    let f = searched l.owners l.items l.origins l.at a.ceiling l.invariant.1 l.invariant.2 T c.next_move-first-2.ensures.0 in
    let none : a.budget - l.i ≡ 0 = omega (arith, c.loop-i-test.false) in
    let (made, same) = spent-made a.ceiling T a.budget start l.i (a.budget - l.i) now none in
    (running-done a.ceiling T a.budget start l.invariant.0 made same (still-found a.ceiling T now f), l.invariant.4)

pub walk_spec : {M : Type 1} → statement M
walk_spec =
    tie.close
    (tie.spec
    Inv
    μ
    loop-holds
    next-move-requires
    (λ c. c.loop-i.invariant.4)
    (λ c. running-length _ _ _ _ c.loop-i.invariant.0)
    returns
    note-requires
    make-tracked-requires
    (λ c. let noted = c in
    omega (arith, noted.loop-i-test.true, noted.requires.0.2))
    (λ c. let noted = c in
    omega (arith, noted.loop-i-test.true))
    loop-again
    next-move-requires-2
    (λ c. c.loop-i.invariant.4)
    (λ c. running-length _ _ _ _ c.loop-i.invariant.0)
    returns-2)
