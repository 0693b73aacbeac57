-- The words of a log hold its moves: decoding gives them back.
use Rattle.std.specs.Prelude.{◌≡◌, refl, true, ◌&&◌, List, [], ◌∷◌, ◌++◌, map, ℕ, suc, ◌+◌, ◌*◌, ◌≤◌, ◌<◌, eqb, leb, length, get_or, take, drop}
use Rattle.std.proofs.Common.{ap, ◌∙◌, arith, one-add, eq-eqb, le-leb, leb-true, length-append, take_at}
use Rattle.std.proofs.lemmas.List.{length-map}
use Rattle.std.proofs.Math.ListN.{get_or-append}
use Rattle.std.proofs.Math.Seq.{drop-append-add}
use Rattle.lists.specs.Lists.{up_from}
use Rattle.lists.specs.Choices.{and_left, and_right, and_intro}
use Rattle.lists.specs.Tabled.{length-tabled}
use Rattle.lists.specs.UpFrom.{map-up, map-shift}
use Rattle.semantics.specs.Move.{Move}
use Rattle.semantics.specs.Log.{move_count, log_sizes_ok, move_at, moves_of, head_of, four_picks, all_picks, log_words}
use Rattle.semantics.specs.Enabled.{move_words}
use Rattle.wellformed.specs.MoveWords.{four_picks-length}

-- ---- the columns of a log

-- the words of the move at place i, from the two columns
abbrev from_columns : List Move → ℕ → List ℕ
from_columns ms i = get_or (map head_of ms) i 0 ∷ take 4 (drop (4 * i) (all_picks ms))

columns : (ms : List Move) → map (from_columns ms) (up_from 0 (length ms)) ≡ map move_words ms
columns [] = refl
columns (m ∷ ms) = λ j. (head_of m ∷ take_at (four_picks m) (all_picks ms) 4 (four_picks-length m) j) ∷ rest (columns ms) j
  where
    shifted : (i : ℕ) → from_columns (m ∷ ms) (suc i) ≡ from_columns ms i
    shifted i = λ j. get_or (map head_of ms) i 0 ∷ take 4 (drops j)
      where
        drops : drop (4 * suc i) (four_picks m ++ all_picks ms) ≡ drop (4 * i) (all_picks ms)
        drops = ap (λ (n : ℕ). drop n (four_picks m ++ all_picks ms)) number ∙ drop-append-add (four_picks m) (all_picks ms) (4 * i)
          where
            number : 4 * suc i ≡ length (four_picks m) + 4 * i
            number = let w = four_picks-length m in omega arith

    rest : map (from_columns ms) (up_from 0 (length ms)) ≡ map move_words ms → map (from_columns (m ∷ ms)) (up_from 1 (length ms)) ≡ map move_words ms
    rest ih =
        map-shift (from_columns (m ∷ ms)) (length ms) 0 ∙ map-up (λ x. from_columns (m ∷ ms) (suc x)) (from_columns ms) (length ms) 0 (λ x l. shifted x) ∙ ih

pub all_picks-length : (ms : List Move) → length (all_picks ms) ≡ 4 * length ms
all_picks-length [] = refl
all_picks-length (m ∷ ms) = let a = length-append (four_picks m) (all_picks ms) in let b = four_picks-length m in let c = all_picks-length ms in omega arith

pub log-length : (ms : List Move) → length (log_words ms) ≡ 1 + 5 * length ms
unfolding log_words
log-length ms = let a = length-append (map head_of ms) (all_picks ms) in let b = length-map ms head_of in let c = all_picks-length ms in omega arith

log-count : (ms : List Move) → move_count (log_words ms) ≡ length ms
unfolding log_words
log-count ms = refl

pub log-ok : (ms : List Move) → length ms ≤ 1024 → log_sizes_ok (log_words ms) ≡ true
unfolding log_sizes_ok
log-ok ms h =
    let k = log-length ms in
    and_intro (le-leb 1 (length (log_words ms)) (omega arith))
    (rw (log-count ms) (and_intro (le-leb (length ms) 1024 h) (eq-eqb (length (log_words ms)) (1 + 5 * length ms) k)))

pub moves-back : (ms : List Move) → moves_of (log_words ms) ≡ map move_words ms
unfolding log_words
moves-back ms = map-up (move_at (log_words ms)) (from_columns ms) (length ms) 0 (λ i h. at i (omega arith)) ∙ columns ms
  where
    at : (i : ℕ) → i < length ms → move_at (log_words ms) i ≡ from_columns ms i
    at i h = λ j. head j ∷ take 4 (picks j)
      where
        head : get_or (log_words ms) (1 + i) 0 ≡ get_or (map head_of ms) i 0
        head = ap (λ (n : ℕ). get_or (log_words ms) n 0) (one-add i)
            ∙ get_or-append (map head_of ms) (all_picks ms) 0 i (let w = length-map ms head_of in omega arith)

        picks : drop (1 + length ms + 4 * i) (log_words ms) ≡ drop (4 * i) (all_picks ms)
        picks = ap (λ (n : ℕ). drop n (log_words ms)) number ∙ drop-append-add (map head_of ms) (all_picks ms) (4 * i)
          where
            number : 1 + length ms + 4 * i ≡ suc (length (map head_of ms) + 4 * i)
            number = let w = length-map ms head_of in omega arith

-- as many moves as the log's first word says
pub moves-count : (L : List ℕ) → length (moves_of L) ≡ move_count L
moves-count L = length-tabled (move_at L) 0 (move_count L)

pub count-1024 : (L : List ℕ) → log_sizes_ok L ≡ true → move_count L ≤ 1024
unfolding log_sizes_ok
count-1024 L h =
    let e = eqb (length L) (1 + 5 * move_count L) in
    leb-true (move_count L) 1024 (and_left (leb (move_count L) 1024) e (and_right (leb 1 (length L)) (leb (move_count L) 1024 && e) h))
