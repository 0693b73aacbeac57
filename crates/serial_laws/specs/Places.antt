-- The acts of a log stand at their places, with the log's moves.
use Rattle.std.specs.Prelude.{ℕ, zero, suc, ◌+◌, ◌≤◌, ◌<◌, List, [], ◌∷◌, map, ◌≡◌, refl, length, get_or}
use Rattle.std.proofs.lemmas.Simd.{map-map}
use Rattle.std.proofs.Common.{ap, ◌∙◌, not-suc-le-zero, arith}
use Rattle.lists.specs.Lists.{up_from}
use Rattle.lists.specs.Tabled.{get_or-up_from}
use Rattle.lists.specs.Each.{All}
use Rattle.semantics.specs.Table.{Table}
use Rattle.semantics.specs.State.{State}
use Rattle.semantics.specs.Move.{Move, move_of}
use Rattle.semantics.specs.Log.{move_count, move_at, moves_of}
use Rattle.semantics.specs.Serial.{Act, after, acts}
use Rattle.serializability.specs.Statement.{no_move}

-- stands past the last act
abbrev pub no_act : Act
no_act = record { place = 0; move = no_move; picks = []; members = [] }

pub acts-length : (t : Table) (i : ℕ) (s : State) (ms : List Move) → length (acts t i s ms) ≡ length ms
unfolding acts
acts-length t i s [] = refl
acts-length t i s (m ∷ ms) = ap suc (acts-length t (suc i) (after t (suc i) s m) ms)

pub act-place : (t : Table) (i : ℕ) (s : State) (ms : List Move) (j : ℕ) → j < length ms → (get_or (acts t i s ms) j no_act).place ≡ i + j
unfolding acts
act-place t i s [] j h = absurd (not-suc-le-zero h)
act-place t i s (m ∷ ms) zero h = omega arith
act-place t i s (m ∷ ms) (suc j) h = let w = act-place t (suc i) (after t (suc i) s m) ms j (omega arith) in omega arith

pub acts-places : (t : Table) (i : ℕ) (s : State) (ms : List Move) → map (λ a. a.place) (acts t i s ms) ≡ up_from i (length ms)
unfolding acts
acts-places t i s [] = refl
acts-places t i s (m ∷ ms) = λ j. i ∷ acts-places t (suc i) (after t (suc i) s m) ms j

pub places-below : (t : Table) (n i : ℕ) (s : State) (ms : List Move) → i + length ms ≤ n → All (λ a. a.place < n) (acts t i s ms)
unfolding acts
places-below t n i s [] h = tt
places-below t n i s (m ∷ ms) h = (omega arith, places-below t n (suc i) (after t (suc i) s m) ms (omega arith))

pub act-move : (t : Table) (i : ℕ) (s : State) (ms : List Move) (j : ℕ) → (get_or (acts t i s ms) j no_act).move ≡ get_or ms j no_move
unfolding acts
act-move t i s [] j = refl
act-move t i s (m ∷ ms) zero = refl
act-move t i s (m ∷ ms) (suc j) = act-move t (suc i) (after t (suc i) s m) ms j

-- ---- the moves that a log's words hold

pub move-in : (t : Table) (L : List ℕ) (j : ℕ) → j < move_count L → get_or (map (move_of t) (moves_of L)) j no_move ≡ move_of t (move_at L j)
move-in t L j h = let w : 0 + j ≡ j = omega arith in
    ap (λ (l : List Move). get_or l j no_move) (map-map (move_of t) (move_at L) (up_from 0 (move_count L)))
    ∙ get_or-up_from (λ i. move_of t (move_at L i)) no_move 0 (move_count L) j h ∙ ap (λ (i : ℕ). move_of t (move_at L i)) w

-- ---- the places of acts picked by place

pub places-back : (xs : List Act) (k : ℕ) → ((i : ℕ) → i < k → (get_or xs i no_act).place ≡ i) → (ps : List ℕ) → All (λ p. p < k) ps
    → map (λ a. a.place) (map (λ p. get_or xs p no_act) ps) ≡ ps
places-back xs k h [] b = refl
places-back xs k h (p ∷ ps) b = λ j. h p b.0 j ∷ places-back xs k h ps b.1 j
