-- What the second pass asks and says.
use Rattle.std.specs.Prelude.{ℕ, ◌+◌, ◌*◌, ◌≤◌, ◌<◌, Bool, true, false, cond, List, ◌∷◌, ◌++◌, map, ◌≡◌, eqb, length, get_or, take, drop}
use Rattle.lists.specs.Lists.{over}
use Rattle.lists.specs.Each.{All}
use Rattle.lists.specs.Padded.{padded}
use Rattle.semantics.specs.Words.{head_kind, head_word}
use Rattle.semantics.specs.Table.{Table}
use Rattle.semantics.specs.State as semantics
use Rattle.semantics.specs.State.{Entry}
use Rattle.semantics.specs.Move.{Move, picks_used, entry_at}
use Rattle.semantics.specs.Log.{move_count, head_of, all_picks, log_words}
use Rattle.semantics.specs.Serial.{Act, place_of, replayed}
use Rattle.state.specs.declared.State.{State}
use Rattle.words.specs.Origin.{origin_of}
use Rattle.step.specs.Make.{Indexed, Workable}
use Rattle.move_log.specs.Form.{LogSized}
use Rattle.serial_laws.specs.Acts.{Recorded, Replays, replay_fits}

-- the place of the first entry of the origin in a word
abbrev pub place_in : List Entry → ℕ → ℕ
place_in es w = place_of es (origin_of w)

-- the head of a recorded move among these entries
unfoldable pub head_again : List Entry → ℕ → ℕ → ℕ
head_again es head member =
    cond (eqb (head_kind head) 0) head
    (head_word (cond (eqb (head_kind head) 1) 1 2) (entry_at es (place_in es member)).owner)

-- the head and the picks of the recorded move at place p among these entries
pub record Words (t : Table) (es : List Entry) (l origins members : List ℕ) (p head : ℕ) (picks : List ℕ) : Type 0 where
  pub used : picks_used t (get_or l (1 + p) 0) ≤ 4
  pub head-now : head ≡ head_again es (get_or l (1 + p) 0) (get_or members p 0)
  pub picks-now : picks ≡ padded 4 0 (map (place_in es) (take (picks_used t (get_or l (1 + p) 0)) (take 4 (drop (4 * p) origins))))

-- what is read in every turn
pub record Readable (t index l origins members : List ℕ) : Type 0 where
  pub indexed : Indexed t index
  pub log : LogSized l
  pub picked : 4 * move_count l ≤ length origins
  pub marked : length members ≡ 1024

-- what a replay asks: any arrays will do whose order has places of the log
pub record Replayable (t index : List ℕ) (s : State) (l order origins members : List ℕ) (ceiling : ℕ) (target : List ℕ) : Type 0 where
  pub read : Readable t index l origins members
  pub workable : Workable s ceiling
  pub places : (j : ℕ) → j < move_count l → get_or order j 0 < move_count l
  pub ordered : length order ≡ 1024
  pub room : 1 + 5 * move_count l ≤ length target

-- acts in this order that the arrays hold and that can be made again
pub record Arranged (t : Table) (s : semantics.State) (l order origins members : List ℕ) (xs : List Act) : Type 0 where
  pub places : map (λ a. a.place) xs ≡ take (move_count l) order
  pub recorded : All (Recorded t l origins members) xs
  pub replays : Replays t s xs

-- the first j rows of a log of k moves are those of `whole`
pub record PartWritten (k j : ℕ) (whole : List Move) (out : List ℕ) : Type 0 where
  pub heads : (hs : List ℕ) × (take (1 + j) out ++ hs ≡ k ∷ map head_of whole)
  pub picks : (ps : List ℕ) × (take (4 * j) (drop (1 + k) out) ++ ps ≡ all_picks whole)

-- r and the target are what the replay of such acts gives: the whole log, or its moves up to the one that does not fit
pub record ReplayedAs (r : Bool) (ceiling : ℕ) (t : Table) (s : semantics.State) (l order origins members before after : List ℕ) : Type 0 where
  pub fits : (xs : List Act) → Arranged t s l order origins members xs → r ≡ replay_fits ceiling t s xs
  pub target : (xs : List Act) → Arranged t s l order origins members xs → r ≡ true → after ≡ over (log_words (replayed t s xs)) before
  pub part : (xs : List Act) → Arranged t s l order origins members xs → r ≡ false
      → (j : ℕ) × (replay_fits ceiling t s (take j xs) ≡ false) × PartWritten (move_count l) j (replayed t s xs) after
  pub beyond : drop (1 + 5 * move_count l) after ≡ drop (1 + 5 * move_count l) before
  pub size : length after ≡ length before
