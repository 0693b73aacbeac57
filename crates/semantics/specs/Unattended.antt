-- 02, M-130: a plant that goes on alone, within a budget of moves.
use Rattle.std.specs.Prelude.{ℕ, zero, suc, Bool, true, false, List, [], ◌∷◌}
use Rattle.semantics.specs.Table.{Table}
use Rattle.semantics.specs.State.{State}
use Rattle.semantics.specs.Move.{Move, applied}
use Rattle.semantics.specs.Enabled.{enabled}

-- what goes by the first move of a list, where there is one
abbrev pub by_first : {A : Type 0} → List Move → A → (Move → A) → A
by_first [] none some = none
by_first (m ∷ ms) none some = some m

-- The moves made with this budget: each is the first of the list of open moves (M-100) in the state that the one before it left. They end where that list
-- is empty, or with the budget. The first has the place i in the log, and so the maker i + 1.
unfoldable pub moves_alone : ℕ → Table → ℕ → ℕ → State → List Move
moves_alone ceiling t i zero s = []
moves_alone ceiling t i (suc budget) s = by_first (enabled ceiling t s) [] (λ m. m ∷ moves_alone ceiling t (suc i) budget (applied t (suc i) s m))

-- the state that they reach
unfoldable pub reached_alone : ℕ → Table → ℕ → ℕ → State → State
reached_alone ceiling t i zero s = s
reached_alone ceiling t i (suc budget) s = by_first (enabled ceiling t s) s (λ m. reached_alone ceiling t (suc i) budget (applied t (suc i) s m))

-- Nothing is open: the plant is still. Else the budget is spent, for only that or an empty list ends the moves.
unfoldable pub is_still : ℕ → Table → State → Bool
is_still ceiling t s = by_first (enabled ceiling t s) true (λ m. false)
