-- The moves of a log with the transactions that they touch and a key: the place of the commit or abort that ends these, or the move's own place.
use Rattle.std.specs.Prelude.{◌≡◌, refl, Bool, true, false, cond, ◌⊎◌, List, [], ◌∷◌, map, ℕ, suc, ◌≤◌, length}
use Rattle.std.proofs.Common.{ap, true≢false, inl, inr, arith}
use Rattle.std.proofs.lemmas.Bool.{false≢true}
use Rattle.lists.specs.Lists.{is_empty, is_in, least, up_from}
use Rattle.lists.specs.Numbers.{least-in}
use Rattle.semantics.specs.Table.{Table}
use Rattle.semantics.specs.State.{State}
use Rattle.semantics.specs.Move.{Move, react, commit, abort}
use Rattle.semantics.specs.Serial.{members_of, picks_of, after, acts, is_end}
use Rattle.cells.specs.Deeds.{Deed, touched, handled, deed_at, picks_by, act_of}

-- picks: of a commit or abort, the origins of the member marks that it removes
-- the place of the commit or abort that ends transaction b, in the moves from the place i on; merged transactions go on under the smallest id
abbrev pub ender : ℕ → List Deed → ℕ → ℕ
ender i [] b = i
ender i (a ∷ xs) b = cond (is_in b a.touched) (cond (is_end a.move) i (ender (suc i) xs (least a.touched))) (ender (suc i) xs b)

abbrev pub key_of : Bool → ℕ → List ℕ → List Deed → ℕ
key_of true i bs xs = i
key_of false i [] xs = i
key_of false i (b ∷ bs) xs = ender (suc i) xs (least (b ∷ bs))

unfoldable pub deeds : Table → ℕ → State → List Move → List Deed
deeds t i s [] = []
deeds t i s (m ∷ ms) =
    let xs = deeds t (suc i) (after t (suc i) s m) ms in
    deed_at t i (key_of (is_end m) i (touched t s m) xs) s m ∷ xs

-- ---- the same moves as acts

pub acts-deeds : (t : Table) (i : ℕ) (s : State) (ms : List Move) → acts t i s ms ≡ map act_of (deeds t i s ms)
unfolding acts deeds handled
acts-deeds t i s [] = refl
acts-deeds t i s (m ∷ ms) =
    λ j. record { place = i; move = m; picks = same m j; members = members_of t i s m } ∷ acts-deeds t (suc i) (after t (suc i) s m) ms j
  where
    same : (m : Move) → picks_of s m ≡ picks_by m (handled s m)
    same (react r ps) = refl
    same (commit b) = refl
    same (abort b) = refl

pub deeds-length : (t : Table) (i : ℕ) (s : State) (ms : List Move) → length (deeds t i s ms) ≡ length ms
unfolding deeds
deeds-length t i s [] = refl
deeds-length t i s (m ∷ ms) = ap suc (deeds-length t (suc i) (after t (suc i) s m) ms)

pub deeds-places : (t : Table) (i : ℕ) (s : State) (ms : List Move) → map (λ a. a.place) (deeds t i s ms) ≡ up_from i (length ms)
unfolding deeds
deeds-places t i s [] = refl
deeds-places t i s (m ∷ ms) = λ j. i ∷ deeds-places t (suc i) (after t (suc i) s m) ms j

-- ---- keys

pub ender-ge : (i : ℕ) (xs : List Deed) (b : ℕ) → i ≤ ender i xs b
ender-ge i [] b = omega arith
ender-ge i (a ∷ xs) b = go (is_in b a.touched) (is_end a.move) (ender-ge (suc i) xs (least a.touched)) (ender-ge (suc i) xs b)
  where
    go : (c d : Bool) → suc i ≤ ender (suc i) xs (least a.touched) → suc i ≤ ender (suc i) xs b
        → i ≤ cond c (cond d i (ender (suc i) xs (least a.touched))) (ender (suc i) xs b)
    go true true p q = omega arith
    go true false p q = omega arith
    go false d p q = omega arith

pub key-in : (e : Bool) (i v : ℕ) (bs : List ℕ) (xs : List Deed) → is_in v bs ≡ true → key_of e i bs xs ≡ cond e i (ender (suc i) xs (least bs))
key-in true i v bs xs h = refl
key-in false i v [] xs h = absurd (false≢true h)
key-in false i v (b ∷ bs) xs h = refl

pub key-full : (e : Bool) (i : ℕ) (bs : List ℕ) (xs : List Deed) → e ≡ false → is_empty bs ≡ false → key_of e i bs xs ≡ ender (suc i) xs (least bs)
key-full true i bs xs p h = absurd (true≢false p)
key-full false i [] xs p h = absurd (true≢false h)
key-full false i (b ∷ bs) xs p h = refl

abbrev pub KeyCases : Bool → ℕ → List ℕ → List Deed → Type 0
KeyCases e i bs xs = (key_of e i bs xs ≡ i) ⊎ ((e ≡ false) × (is_in (least bs) bs ≡ true) × (key_of e i bs xs ≡ ender (suc i) xs (least bs)))

pub key-cases : (e : Bool) (i : ℕ) (bs : List ℕ) (xs : List Deed) → KeyCases e i bs xs
key-cases true i bs xs = inl refl
key-cases false i [] xs = inl refl
key-cases false i (b ∷ bs) xs = inr (refl, least-in b bs, refl)
