-- A state's words read back are the state with its origins numbered anew, and a state read from words has those words.
use Rattle.std.specs.Prelude.{ℕ, suc, ◌+◌, ◌-◌, ◌*◌, min, ◌<◌, true, List, [], ◌∷◌, ◌++◌, map, ◌≡◌, refl, length, take, drop}
use Rattle.std.proofs.Common.{inl, inr, sym, ap, ◌∙◌, arith, length-append, length-take, length-drop, take-append-drop, take_at, drop_at}
use Rattle.std.proofs.lemmas.List.{length-map}
use Rattle.lists.specs.Members.{Among}
use Rattle.semantics.specs.Words.{item_kind, item_word, port_of, value_of}
use Rattle.semantics.specs.State.{Entry, State, entry_count, next_of, owners_of, items_of, entries_of, state_of, state_words, state_sizes_ok}
use Rattle.wellformed.specs.States.{state-sized}
use Rattle.wellformed.specs.Entries.{Small}
use Rattle.wellformed.specs.Bare.{bare}

-- ---- a single item

module _ (kind port value : ℕ) (p : port < 256) (v : value < 65536) where
  pub item_kind-item_word : item_kind (item_word kind port value) ≡ kind
  item_kind-item_word = omega arith

  pub port_of-item_word : port_of (item_word kind port value) ≡ port
  port_of-item_word = omega arith

  pub value_of-item_word : value_of (item_word kind port value) ≡ value
  value_of-item_word = omega arith

pub item_word-fields : (w : ℕ) → item_word (item_kind w) (port_of w) (value_of w) ≡ w
item_word-fields w = omega arith

-- ---- a state's words, read back

-- the entries with origins as read from words: the first has the place q
abbrev pub numbered : ℕ → List Entry → List Entry
numbered q [] = []
numbered q (e ∷ es) =
    record { origin = record { maker = 0; index = q }; owner = e.owner; kind = e.kind; port = e.port; value = e.value } ∷ numbered (suc q) es

pub bare-numbered : (q : ℕ) (es : List Entry) → map bare (numbered q es) ≡ map bare es
bare-numbered q [] = refl
bare-numbered q (e ∷ es) = rw (bare-numbered (suc q) es)

abbrev pub item_of : Entry → ℕ
item_of e = item_word e.kind e.port e.value

-- ports and values fit their fields
abbrev pub Fits : List Entry → Type 0
Fits es = (e : Entry) → Among e es → (e.port < 256) × (e.value < 65536)

entries_of-columns : (q : ℕ) (es : List Entry) → Fits es → entries_of q (map (λ e. e.owner) es) (map item_of es) ≡ numbered q es
entries_of-columns q [] f = refl
entries_of-columns q (e ∷ es) f = λ k.
    record {
      origin = record { maker = 0; index = q };
      owner = e.owner;
      kind = item_kind-item_word e.kind e.port e.value (f e (inl refl)).0 (f e (inl refl)).1 k;
      port = port_of-item_word e.kind e.port e.value (f e (inl refl)).0 (f e (inl refl)).1 k;
      value = value_of-item_word e.kind e.port e.value (f e (inl refl)).0 (f e (inl refl)).1 k;
    } ∷ entries_of-columns (suc q) es (λ x m. f x (inr m)) k

pub state_of-state_words : (s : State) → Fits s.entries → state_of (state_words s) ≡ record { next = s.next; entries = numbered 0 s.entries }
unfolding state_of state_words
state_of-state_words s f = λ k. record { next = s.next; entries = entries k }
  where
    owners : take (length s.entries) (map (λ e. e.owner) s.entries ++ map item_of s.entries) ≡ map (λ e. e.owner) s.entries
    owners = take_at (map (λ e. e.owner) s.entries) (map item_of s.entries) (length s.entries) (length-map s.entries (λ e. e.owner))

    two : (m : ℕ) → 2 + m ≡ suc (suc m)
    two m = omega arith

    items : drop (2 + length s.entries) (length s.entries ∷ s.next ∷ map (λ e. e.owner) s.entries ++ map item_of s.entries) ≡ map item_of
        s.entries
    items = rw (two (length s.entries))
        (drop_at (map (λ e. e.owner) s.entries) (map item_of s.entries) (length s.entries) (length-map s.entries (λ e. e.owner)))

    entries : entries_of 0 (take (length s.entries) (map (λ e. e.owner) s.entries ++ map item_of s.entries))
        (drop (2 + length s.entries) (length s.entries ∷ s.next ∷ map (λ e. e.owner) s.entries ++ map item_of s.entries)) ≡ numbered 0 s.entries
    entries = (λ k. entries_of 0 (owners k) (items k)) ∙ entries_of-columns 0 s.entries f

pub length-state_words : (s : State) → length (state_words s) ≡ 2 + 2 * length s.entries
unfolding state_words
length-state_words s =
    let a = length-append (map (λ e. e.owner) s.entries) (map item_of s.entries) in
    let b = length-map s.entries (λ e. e.owner) in
    let c = length-map s.entries item_of in
    omega arith

pub entry_count-state_words : (s : State) → entry_count (state_words s) ≡ length s.entries
unfolding state_words
entry_count-state_words s = refl

pub next_of-state_words : (s : State) → next_of (state_words s) ≡ s.next
unfolding state_words
next_of-state_words s = refl

-- ---- words, read and written again

pub next-state_of : (S : List ℕ) → (state_of S).next ≡ next_of S
unfolding state_of
next-state_of S = refl

pub owners-entries_of : (q : ℕ) (os ws : List ℕ) → length os ≡ length ws → map (λ e. e.owner) (entries_of q os ws) ≡ os
owners-entries_of q [] ws h = refl
owners-entries_of q (o ∷ os) [] h = absurd (omega arith)
owners-entries_of q (o ∷ os) (w ∷ ws) h = rw (owners-entries_of (suc q) os ws (omega arith))

words-entries_of : (q : ℕ) (os ws : List ℕ) → length os ≡ length ws → map item_of (entries_of q os ws) ≡ ws
words-entries_of q [] [] h = refl
words-entries_of q [] (w ∷ ws) h = absurd (omega arith)
words-entries_of q (o ∷ os) [] h = absurd (omega arith)
words-entries_of q (o ∷ os) (w ∷ ws) h = λ k. item_word-fields w k ∷ words-entries_of (suc q) os ws (omega arith) k

pub state_words-state_of : (S : List ℕ) → state_sizes_ok S ≡ true → state_words (state_of S) ≡ S
unfolding state_of state_words
state_words-state_of S h = go S (state-sized S h).size
  where
    go : (S : List ℕ) → length S ≡ 2 + 2 * entry_count S → state_words (state_of S) ≡ S
    go [] h = absurd (omega arith)
    go (n ∷ []) h = absurd (omega arith)
    go (n ∷ next ∷ rest) h =
        let l : length (take n rest) ≡ n = length-take n rest ∙ shorter in
        let e : length (take n rest) ≡ length (drop n rest) = l ∙ sym (length-drop n rest ∙ other) in
        let two : 2 + n ≡ suc (suc n) = omega arith in
        let es = entries_of 0 (take n rest) (drop n rest) in
        rw two (λ k. count l e k ∷ next ∷
        ((λ k. owners-entries_of 0 (take n rest) (drop n rest) e k ++ words-entries_of 0 (take n rest) (drop n rest) e k) ∙ take-append-drop n rest) k)
      where
        shorter : min n (length rest) ≡ n
        shorter = omega arith

        other : length rest - n ≡ n
        other = omega arith

        count : length (take n rest) ≡ n → length (take n rest) ≡ length (drop n rest) → length (entries_of 0 (take n rest) (drop n rest)) ≡ n
        count l e =
            sym (length-map (entries_of 0 (take n rest) (drop n rest)) (λ e. e.owner)) ∙ ap length (owners-entries_of 0 (take n rest) (drop n rest) e) ∙ l

-- a value read from words fits its field
pub state_of-small : (S : List ℕ) → Small (state_of S).entries
unfolding state_of
state_of-small S = go 0 (owners_of S) (items_of S)
  where
    go : (q : ℕ) (os ws : List ℕ) → Small (entries_of q os ws)
    go q [] ws e m = absurd m
    go q (o ∷ os) [] e m = absurd m
    go q (o ∷ os) (w ∷ ws) e (inl h) = let k = ap (λ (x : Entry). x.value) h in omega arith
    go q (o ∷ os) (w ∷ ws) e (inr m) = go (suc q) os ws e m
