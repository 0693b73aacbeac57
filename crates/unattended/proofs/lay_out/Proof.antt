-- `lay_out` meets its contract (`Together`).
use Prim.Native.Nat.{ℕ, ◌+◌, ◌*◌}
use mathlib.Core.List.{List}
use mathlib.Core.Path.{ap, ◌∙◌}
use native.Mathlib.Omega.{arith}
use lib.ListN.{length, set, length-set}
use lib.Seq.{paste, length-sets}
use Rattle.unattended.proofs.Together.{laid}
use borrow.Author.Rules.{rules}
use Rattle.unattended.proofs.lay_out.Statement.{statement}
use Rattle.unattended.proofs.lay_out.Tie as tie

copy-words-at-requires : tie.Need-copy_words_at-requires
copy-words-at-requires c κs =
    (c.requires.1, omega (arith, c.requires.2, length-set c.args.target.now 0 c.args.k))

returns : tie.Need-returns
returns c =
    let a = c.args in
    let e = c.copy_words_at.ensures in
    let ps = a.picks.now in
    let k = a.k in
    λ t hs q size.
    e.value ∙ ap (λ (d : List ℕ). paste (set d 0 k) (1 + k) ps (4 * k)) q
    ∙ laid t hs ps k size c.requires.1 (omega (arith, c.requires.2, ap length q, length-sets t 1 hs))

pub lay_out_spec : {M : Type 1} → statement M
lay_out_spec =
    tie.close
    (tie.spec
    (λ c. search rules)
    (λ c. search rules)
    (λ c. search rules)
    (λ c. search rules)
    copy-words-at-requires
    (λ c. let a = c.args in c.copy_words_at.ensures.size
    ∙ length-set a.target.now 0 a.k)
    returns)
