-- The five words of a move hold it: decoding gives it back, and five words in order are those of the move in them.
use Rattle.std.specs.Prelude.{◌≡◌, refl, Bool, true, false, ◌&&◌, cond, List, [], ◌∷◌, ◌++◌, ℕ, zero, suc, ◌≤◌, ◌<◌, eqb, leb, ltb, length, take, drop, replicate}
use Rattle.std.proofs.Common.{ap, ◌∙◌, arith, eqb-true, eq-eqb, lt-ltb, le-leb, leb-true, ltb-true, length-append, length-take, take_at, take-take}
use Rattle.std.proofs.lemmas.Bool.{eqb-false}
use Rattle.lists.specs.Lists.{all, any}
use Rattle.lists.specs.Choices.{and_left, and_right, and_intro, and-three}
use Rattle.lists.specs.Each.{All-map, All-of}
use Rattle.lists.specs.Members.{any_some}
use Rattle.lists.specs.Padded.{cut-back}
use Rattle.semantics.specs.Words.{head_kind, head_number, head_word}
use Rattle.semantics.specs.Table.{Table, rule_at, consumed}
use Rattle.semantics.specs.State.{State, owned}
use Rattle.semantics.specs.Move.{Move, react, commit, abort, is_zero, picks_used, head_ok, move_ok, move_of, is_open}
use Rattle.semantics.specs.Log.{four_picks}
use Rattle.semantics.specs.Enabled.{move_words}
use Rattle.semantics.specs.declared.Sizes.{Sizes}
use Rattle.wellformed.specs.Entries.{Sound}

-- a move that words can hold
abbrev pub Holdable : Table → Move → Type 0
Holdable t (react r ps) = (r < length t.rules) × (r < 65536) × (length ps ≡ length (consumed (rule_at t r))) × (length ps ≤ 4)
Holdable t (commit b) = (1 ≤ b) × (b ≤ 65535)
Holdable t (abort b) = (1 ≤ b) × (b ≤ 65535)

-- ---- heads

head-kind : (k n : ℕ) → head_number n ≡ n → head_kind (head_word k n) ≡ k
head-kind k n h = omega arith

head-number : (k n : ℕ) → head_number n ≡ n → head_number (head_word k n) ≡ n
head-number k n h = omega arith

head-again : (k h : ℕ) → head_kind h ≡ k → head_word k (head_number h) ≡ h
head-again k h e = omega arith

-- ---- picks

four-length : (ps : List ℕ) → length (take 4 (ps ++ replicate 4 0)) ≡ 4
four-length ps = let a = length-take 4 (ps ++ replicate 4 0) in let b = length-append ps (replicate 4 0) in omega arith

pub four_picks-length : (m : Move) → length (four_picks m) ≡ 4
four_picks-length (react r ps) = four-length ps
four_picks-length (commit b) = refl
four_picks-length (abort b) = refl

pub move_words-length : (m : Move) → length (move_words m) ≡ 5
move_words-length m = let e = four_picks-length m in omega arith

zeros-take : (k j : ℕ) → all is_zero (take k (replicate j 0)) ≡ true
zeros-take zero j = refl
zeros-take (suc k) zero = refl
zeros-take (suc k) (suc j) = zeros-take k j

rest-zero : (ps : List ℕ) (k j : ℕ) → all is_zero (drop (length ps) (take k (ps ++ replicate j 0))) ≡ true
rest-zero [] k j = zeros-take k j
rest-zero (p ∷ ps) zero j = refl
rest-zero (p ∷ ps) (suc k) j = rest-zero ps k j

picks-back : (ps : List ℕ) → length ps ≤ 4 → take (length ps) (take 4 (ps ++ replicate 4 0)) ≡ ps
picks-back ps h = take-take (length ps) 4 (ps ++ replicate 4 0) h ∙ take_at ps (replicate 4 0) (length ps) refl

-- four picks of which those from place u on are 0
picks-again : (u : ℕ) (ps : List ℕ) → length ps ≡ 4 → all is_zero (drop u ps) ≡ true → take 4 (take u ps ++ replicate 4 0) ≡ ps
picks-again u ps l h =
    cut-back 0 u 4 4 ps (omega arith) l
    (All-map {P = λ p. is_zero p ≡ true} {Q = λ p. p ≡ 0} (λ p e. eqb-true p 0 e) (drop u ps) (All-of is_zero (drop u ps) h))

-- ---- a move's words

pub words-ok : (t : Table) (m : Move) → Holdable t m → move_ok t (move_words m) ≡ true
unfolding move_ok
words-ok t (react r ps) (l, s, n, f) =
    let k = head-kind 0 r (omega arith) in let q = head-number 0 r (omega arith) in
    and_intro (and_intro (eq-eqb (suc (length (take 4 (ps ++ replicate 4 0)))) 5 (ap suc (four-length ps))) (rw (k, q) (lt-ltb r (length t.rules) l)))
    (rw (k, q, ← n) (rest-zero ps 4 4))
words-ok t (commit b) (l, h) = let k = head-kind 1 b (omega arith) in let q = head-number 1 b (omega arith) in rw (k, q, le-leb 1 b l, le-leb b 65535 h)
words-ok t (abort b) (l, h) = let k = head-kind 2 b (omega arith) in let q = head-number 2 b (omega arith) in rw (k, q, le-leb 1 b l, le-leb b 65535 h)

pub words_back : (t : Table) (m : Move) → Holdable t m → move_of t (move_words m) ≡ m
unfolding move_of
words_back t (react r ps) (l, s, n, f) =
    let k = head-kind 0 r (omega arith) in let q = head-number 0 r (omega arith) in
    rw (k, q, ← n) (ap (react r) (picks-back ps f))
words_back t (commit b) (l, h) = let k = head-kind 1 b (omega arith) in let q = head-number 1 b (omega arith) in rw (k, q)
words_back t (abort b) (l, h) = let k = head-kind 2 b (omega arith) in let q = head-number 2 b (omega arith) in rw (k, q)

-- the other way: five words in order are those of their move
pub words-again : (t : Table) (m : List ℕ) → move_ok t m ≡ true → move_words (move_of t m) ≡ m
unfolding move_ok move_of
words-again t [] h = absurd (let z = eqb-true 0 5 (and-three (eqb 0 5) (head_ok t 0) (all is_zero (drop (picks_used t 0) [])) h).0 in omega arith)
words-again t (head ∷ ps) h =
    let (l, ok, z) = and-three (eqb (suc (length ps)) 5) (head_ok t head) (all is_zero (drop (picks_used t head) ps)) h in
    go (eqb-true (suc (length ps)) 5 l) (eqb (head_kind head) 0) refl (eqb (head_kind head) 1) refl ok z
  where
    n : ℕ
    n = head_number head

    used : ℕ
    used = length (consumed (rule_at t (head_number head)))

    go : suc (length ps) ≡ 5 → (a : Bool) → eqb (head_kind head) 0 ≡ a → (b : Bool) → eqb (head_kind head) 1 ≡ b
        → cond a (ltb n (length t.rules)) (leb (head_kind head) 2 && leb 1 n && leb n 65535) ≡ true → all is_zero (drop (cond a used 0) ps) ≡ true
        → move_words (cond a (react n (take (cond a used 0) ps)) (cond b (commit n) (abort n))) ≡ head ∷ ps
    go l true e b f ok z = λ j. head-again 0 head (eqb-true (head_kind head) 0 e) j ∷ picks-again used ps (omega arith) z j
    go l false e true f ok z = λ j. head-again 1 head (eqb-true (head_kind head) 1 f) j ∷ picks-again 0 ps (omega arith) z j
    go l false e false f ok z =
        let a = eqb-false (head_kind head) 0 e in
        let b = eqb-false (head_kind head) 1 f in
        let c = leb-true (head_kind head) 2 (and-three (leb (head_kind head) 2) (leb 1 n) (leb n 65535) ok).0 in
        λ j. head-again 2 head (omega arith) j ∷ picks-again 0 ps (omega arith) z j

-- ---- ids

-- the id of an open transaction of a well-formed state is that of a member
pub open-id : {z : Sizes} (b : ℕ) (s : State) → Sound z s → is_open b s ≡ true → (1 ≤ b) × (b < s.next)
open-id b s sound o =
    let l = ltb-true 0 b (and_left (ltb 0 b) (any (owned b) s.entries) o) in
    let (e, m, w) = any_some (owned b) s.entries (and_right (ltb 0 b) (any (owned b) s.entries) o) in
    let q = eqb-true e.owner b w in
    let (d, n, k, x, v) = sound.right.own e m (λ z. omega arith) in
    let y = ((sound.right.each d n).member-mark k).value-lt in (omega arith, omega arith)
