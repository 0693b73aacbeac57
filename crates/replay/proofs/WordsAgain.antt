-- The words of a recorded act made again: what the code computes of them is what `again` says.
use Prim.Native.Nat.{ℕ, ◌+◌, ◌*◌, ◌≤◌}
use mathlib.Core.Bool.{Bool, true, false, cond}
use mathlib.Core.List.{List, [], ◌∷◌, ◌++◌, map, map-map}
use mathlib.Core.Path.{◌≡◌, refl, sym, ap, subst, ◌∙◌}
use native.Mathlib.Omega.{arith}
use lib.Dec.{eqb}
use lib.ListN.{length, get_or, take, drop, replicate, length-append, length-replicate, length-map}
use lib.Seq.{length-take-le, take-take}
use borrow.Author.Tests.{eqb-true, eq-eqb, ne_eqb}
use Rattle.lists.specs.Padded.{padded, padded-cut}
use Rattle.semantics.specs.Words.{head_kind, head_number, head_word}
use Rattle.semantics.specs.Table.{Table}
use Rattle.semantics.specs.State.{Origin, Entry, State}
use Rattle.semantics.specs.Move.{Move, react, commit, abort, picks_used, move_of, entry_at}
use Rattle.semantics.specs.Log.{head_of, four_picks}
use Rattle.semantics.specs.Serial.{Act, is_end, place_of, again}
use Rattle.words.specs.Origin.{origin_of}
use Rattle.serial_laws.specs.Acts.{Recorded, ActsAgain, id_of, words_of_move}
use Rattle.replay.specs.Replay.{place_in, head_again, Words}

-- ---- the head that the code makes

module _ (es : List Entry) (head member : ℕ) where
  pub head-react : head_kind head ≡ 0 → head ≡ head_again es head member
  unfolding head_again
  head-react k = rw (eq-eqb (head_kind head) 0 k)

  module _ (k : head_kind head ≡ 0 → ⊥) {owner place : ℕ} (e : owner ≡ (entry_at es place).owner) (p : place ≡ place_in es member) where
    owner-now : owner ≡ (entry_at es (place_in es member)).owner
    owner-now = e ∙ ap (λ (n : ℕ). (entry_at es n).owner) p

    pub head-commit : head_kind head ≡ 1 → head_word 1 owner ≡ head_again es head member
    unfolding head_again
    head-commit h = rw (ne_eqb (head_kind head) 0 k, eq-eqb (head_kind head) 1 h, ← owner-now)

    pub head-abort : (head_kind head ≡ 1 → ⊥) → head_word 2 owner ≡ head_again es head member
    unfolding head_again
    head-abort h = rw (ne_eqb (head_kind head) 0 k, ne_eqb (head_kind head) 1 h, ← owner-now)

-- ---- the words of an act

-- as the code puts them together
pub words-made : {t : Table} {es : List Entry} {l origins members : List ℕ} {p : ℕ} {was head k : ℕ} {wanted picks : List ℕ} → was ≡ get_or l (1 + p) 0
    → head ≡ head_again es was (get_or members p 0) → (k ≡ picks_used t was) × (k ≤ 4) → wanted ≡ take 4 (drop (4 * p) origins)
    → picks ≡ padded 4 0 (map (place_in es) (take k wanted)) → Words t es l origins members p head picks
words-made {t} {es} {l} {origins} {members} {p} w h (u, le) v q =
    let used = u ∙ ap (picks_used t) w in
    record {
      used = rw (← used) le;
      head-now = h ∙ ap (λ (n : ℕ). head_again es n (get_or members p 0)) w;
      picks-now = q ∙ rw (used, v);
    }

abbrev picks_in : Move → List ℕ
picks_in (react r ps) = ps
picks_in (commit b) = []
picks_in (abort b) = []

-- a reaction in words has as many picks as its head uses
react-picks : (t : Table) (w : ℕ) (ps : List ℕ) (m : Move) → head_kind w ≡ 0 → move_of t (w ∷ ps) ≡ m → take (picks_used t w) ps ≡ picks_in m
unfolding move_of
react-picks t w ps m k h = let e = eq-eqb (head_kind w) 0 k in rw e (ap picks_in (rw e at h))

-- places are looked up of as many origins as there are picks
places_same : (es : List Entry) (ws : List ℕ) (os : List Origin) (u : ℕ) → u ≤ 4 → os ≡ map origin_of (take (length os) ws)
    → take u (take 4 (map (place_of es) os ++ replicate 4 0)) ≡ map (place_of es) os
    → padded 4 0 (map (place_in es) (take u (take 4 ws))) ≡ take 4 (map (place_of es) os ++ replicate 4 0)
places_same es ws os u le rec used =
    let qs = map (place_of es) os in
    let long = length-take-le 4 (qs ++ replicate 4 0) (omega (arith, length-append qs (replicate 4 0), length-replicate {A = ℕ} 4 0)) in
    let count : u ≡ length os = omega (arith, length-take-le u (take 4 (qs ++ replicate 4 0)) (omega arith), ap length used, length-map os (place_of es)) in
    let few : length qs ≤ 4 = omega (arith, length-map os (place_of es)) in
    let same : map (place_in es) (take u (take 4 ws)) ≡ qs =
    ap (map (place_in es)) (take-take u 4 ws le ∙ ap (λ (n : ℕ). take n ws) count) ∙ sym (map-map (place_of es) origin_of (take (length os) ws))
    ∙ ap (map (place_of es)) (sym rec) in
    ap (padded 4 0) same ∙ padded-cut 4 0 qs few

module _ {t : Table} {l origins members : List ℕ} {c : State} {a : Act} (r : Recorded t l origins members a) (g : ActsAgain t c a) where
  abbrev was : ℕ
  was = get_or l (1 + a.place) 0

  owner-now-is : is_end a.move ≡ true → (entry_at c.entries (place_in c.entries (get_or members a.place 0))).owner ≡ id_of (again c a a.move)
  owner-now-is h = g.owner h (origin_of (get_or members a.place 0)) (r.some (g.present h))

  head-same : head_again c.entries was (get_or members a.place 0) ≡ head_of (again c a a.move)
  unfolding head_again move_of again
  head-same = go (entry_at c.entries (place_in c.entries (get_or members a.place 0))).owner (eqb (head_kind was) 0) (eqb (head_kind was) 1) a.move _
      (eqb-true (head_kind was) 0) r.move owner-now-is
    where
      go : (owner : ℕ) (k one : Bool) (m : Move) (ps : List ℕ) → (k ≡ true → head_kind was ≡ 0)
          → m ≡ cond k (react (head_number was) ps) (cond one (commit (head_number was)) (abort (head_number was)))
          → (is_end m ≡ true → owner ≡ id_of (again c a m))
          → cond k was (head_word (cond one 1 2) owner) ≡ head_of (again c a m)
      go owner true one m ps z e o = let k = z refl in rw e (omega arith)
      go owner false true m ps z e o =
          let p = (rw e at o) refl in
          rw e (omega arith)
      go owner false false m ps z e o =
          let p = (rw e at o) refl in
          rw e (omega arith)

  picks-same : picks_used t was ≤ 4 → padded 4 0 (map (place_in c.entries) (take (picks_used t was) (take 4 (drop (4 * a.place) origins)))) ≡ four_picks
      (again c a a.move)
  unfolding move_of again
  picks-same u = go (eqb (head_kind was) 0) refl (eqb (head_kind was) 1) a.move _ r.move g.words
    where
      go : (k : Bool) → eqb (head_kind was) 0 ≡ k → (one : Bool) (m : Move) (ps : List ℕ)
          → m ≡ cond k (react (head_number was) ps) (cond one (commit (head_number was)) (abort (head_number was)))
          → move_of t (words_of_move (again c a m)) ≡ again c a m
          → padded 4 0 (map (place_in c.entries) (take (picks_used t was) (take 4 (drop (4 * a.place) origins)))) ≡ four_picks (again c a m)
      go true k one m ps e words =
          let kind = eqb-true (head_kind was) 0 k in
          let head : was ≡ head_word 0 (head_number was) = omega arith in
          let now = react (head_number was) (map (place_of c.entries) a.picks) in
          let used = react-picks t was (four_picks now) now kind (ap (λ (w : ℕ). move_of t (w ∷ four_picks now)) head ∙ (rw e at words)) in
          rw e (places_same c.entries (drop (4 * a.place) origins) a.picks (picks_used t was) u r.picks used)
      go false k true m ps e words = rw (k, e)
      go false k false m ps e words = rw (k, e)

-- the words that the code computes are those of the act made again
pub again-words : {t : Table} {l origins members : List ℕ} {c : State} {a : Act} → Recorded t l origins members a → ActsAgain t c a
    → {p head : ℕ} {picks : List ℕ} → p ≡ a.place → Words t c.entries l origins members p head picks → head ∷ picks ≡ words_of_move (again c a a.move)
again-words {t} {l} {origins} {members} {c} {a} r g {p} {head} {picks} e w =
    let v = subst (λ (q : ℕ). Words t c.entries l origins members q head picks) e w in
    rw (v.head-now ∙ head-same r g, v.picks-now ∙ picks-same r g v.used)
