use mathlib.Core.Path.{ap, ◌∙◌}
use borrow.Author.Rules.{rules}
use lib.ListN.{set}
use Rattle.recording.specs.Recordings.{mark_by}
use Rattle.recording.proofs.record.note_move.Statement.{statement}
use Rattle.recording.proofs.record.note_move.Tie as tie

returns : tie.Need-returns
returns c =
    let a = c.args in
    record {
      picked = c.note_picks.ensures;
      member = ap (set a.members.now a.i) (c.mark_of.ensures ∙ ap (mark_by a.begun.now a.first) c.concerned.ensures);
      ends = c.note_if_end.ensures;
    }

pub note_move_spec : {M : Type 1} → statement M
note_move_spec =
    tie.close
    (tie.spec (λ c κs. search rules) (λ c κs. search rules) (λ c κs. search rules) (λ c. search rules) (λ c. search rules) (λ c κs. search rules)
    (λ c. c.note_picks.ensures.size) returns)
