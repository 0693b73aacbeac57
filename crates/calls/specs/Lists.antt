-- What a page of the list of open moves comes to.
use Rattle.std.specs.Prelude.{ℕ, ◌≡◌, List, length}
use Rattle.lists.specs.Lists.{each}
use Rattle.lists.specs.Pages.{page}
use Rattle.semantics.specs.Move.{Move}
use Rattle.semantics.specs.Enabled.{move_words}
use Rattle.semantics.specs.Answers.{write, line_ceiling, enabled_in}
use Rattle.semantics.specs.declared.Listed.{Listed}
use Rattle.calls.specs.Results.{ComesTo}

-- every open move
abbrev pub all_open : List ℕ → List ℕ → List Move
all_open t s = enabled_in line_ceiling t s

abbrev pub page_words : List Move → ℕ → ℕ → List ℕ
page_words ms first count = each move_words (page first count ms)

-- a page of the moves ms, and their number
pub record ListComesTo (ms : List Move) (first count : ℕ) (before after : List ℕ) (r : Listed) : Type 0 where
  pub result : ComesTo (write (page_words ms first count)) before after r.outcome
  pub total : r.length ≡ length ms
