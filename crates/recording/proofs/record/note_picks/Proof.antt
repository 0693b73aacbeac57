use Prim.Native.Nat.{ℕ, ◌*◌}
use mathlib.Core.List.{List, [], ◌∷◌}
use mathlib.Core.Path.{◌≡◌, subst}
use borrow.Author.Rules.{rules}
use lib.ListN.{length}
use Rattle.lists.specs.Over.{Pasted}
use Rattle.recording.specs.Recordings.{words_at}
use Rattle.recording.proofs.Copying.{four-words}
use Rattle.recording.proofs.record.note_picks.Statement.{statement}
use Rattle.recording.proofs.record.note_picks.Tie as tie

four-picks : (c : tie.Start) → length c.args.picks ≡ 4
four-picks c = search rules

returns : tie.Need-returns
returns c =
    let a = c.args in
    let e : c.half_at.result ∷ c.half_at-2.result ∷ c.half_at-3.result ∷ c.half_at-4.result ∷ [] ≡ words_at a.column.now a.picks =
    rw (c.half_at.ensures, c.half_at-2.ensures, c.half_at-3.ensures, c.half_at-4.ensures)
    (four-words a.column.now a.picks (four-picks c.before.before.before.before.before.before.before.before.before)) in
    subst (λ (found : List ℕ). Pasted a.wanted.now (4 * a.i) found 4 c.put_origins.new.out) e c.put_origins.ensures

pub note_picks_spec : {M : Type 1} → statement M
note_picks_spec =
    tie.close
    (tie.spec
    (λ c. search rules) (λ c κs. search rules) (λ c. search rules) (λ c κs. search rules) (λ c. search rules) (λ c κs. search rules)
    (λ c. search rules) (λ c κs. search rules) (λ c. search rules) (λ c κs. search rules) (λ c. c.put_origins.ensures.size) returns)
