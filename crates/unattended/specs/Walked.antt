-- What is said of a plant that went on alone.
use Rattle.std.specs.Prelude.{ℕ, ◌*◌, ◌≤◌, List, map, ◌≡◌, length, take}
use Rattle.std.proofs.lemmas.List.Edits.{sets}
use Rattle.lists.specs.Lists.{over}
use Rattle.semantics.specs.Table.{Table, table_of}
use Rattle.semantics.specs.State.{State}
use Rattle.semantics.specs.Log.{head_of, all_picks, log_words}
use Rattle.semantics.specs.Unattended.{moves_alone, reached_alone, is_still}
use Rattle.semantics.specs.Answers.{line_ceiling, alone_moves, alone_reached}
use Rattle.semantics.specs.declared.LeftAlone.{LeftAlone}
use Rattle.semantics.specs.declared.Outcome.TheVariants.{Written}
use Rattle.unattended.specs.declared.Gone.{Gone}

-- from the state s: the count and the ending, the heads from place 1 on, and the picks aside
pub record WalkedAs (r : Gone) (ceiling : ℕ) (t : Table) (budget : ℕ) (s : State) (picks before after : List ℕ) : Type 0 where
  pub count : r.made ≡ length (moves_alone ceiling t 0 budget s)
  pub still : r.still ≡ is_still ceiling t (reached_alone ceiling t 0 budget s)
  pub heads : after ≡ sets before 1 (map head_of (moves_alone ceiling t 0 budget s))
  pub picks-are : take (4 * length (moves_alone ceiling t 0 budget s)) picks ≡ all_picks (moves_alone ceiling t 0 budget s)

-- from the words of a state, with the log in the target
pub record LeftAs (r : Gone) (t s : List ℕ) (budget : ℕ) (before after : List ℕ) : Type 0 where
  pub few : r.made ≤ budget
  pub count : r.made ≡ length (alone_moves line_ceiling t s budget)
  pub still : r.still ≡ is_still line_ceiling (table_of t) (alone_reached line_ceiling t s budget)
  pub log : after ≡ over (log_words (alone_moves line_ceiling t s budget)) before

-- the same as the call tells it
pub record ToldAs (r : LeftAlone) (t s : List ℕ) (budget : ℕ) (before after : List ℕ) : Type 0 where
  pub outcome : r.outcome ≡ Written (length (log_words (alone_moves line_ceiling t s budget)))
  pub moves : r.moves ≡ length (alone_moves line_ceiling t s budget)
  pub still : r.still ≡ is_still line_ceiling (table_of t) (alone_reached line_ceiling t s budget)
  pub log : after ≡ over (log_words (alone_moves line_ceiling t s budget)) before
