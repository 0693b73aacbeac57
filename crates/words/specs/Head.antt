-- A move's words as code passes them.
use Rattle.std.specs.Prelude.{ℕ, List, ◌∷◌}
use Rattle.words.specs.declared.head.MoveWords.{MoveWords}

-- the five words: head, then four picks
abbrev pub words_in : MoveWords → List ℕ
words_in m = m.head ∷ m.picks
