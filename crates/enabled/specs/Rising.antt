-- 02, M-100: the list strictly rises by head and then by picks, so that no move stands in it twice.
use Rattle.std.specs.Prelude.{ℕ, zero, suc, ◌-◌, ◌≤◌, ◌<◌, true, false, ◌&&◌, ◌||◌, List, [], ◌∷◌, ◌++◌, map, ◌⊎◌, ◌≡◌, refl, ltb, eqb, length, get_or, take, replicate}
use Rattle.std.proofs.Math.Bool.{Bool}
use Rattle.std.proofs.lemmas.Bool.{false≢true}
use Rattle.std.proofs.Common.{inl, inr, sym, arith, lt-ltb, le-ltb, eq-eqb}
use Rattle.std.proofs.lemmas.List.{length-map}
use Rattle.lists.specs.Lists.{all, keep, up_from, tuples}
use Rattle.lists.specs.Tests.{true-or, or-right-true}
use Rattle.lists.specs.Choices.{clash, and_intro, and_left, and_right, or_cases}
use Rattle.lists.specs.Rising.{Order, before, equal, after, order}
use Rattle.lists.specs.Members.{Among, all-intro, among-append, among-map}
use Rattle.lists.specs.TupleMembers.{among-up, among-tuples}
use Rattle.lists.specs.Pairwise.{Pairwise, pairwise-weaker, pairwise_append, pairwise-keep, pairwise-at, pairwise_map, pairwise-each, pairwise-up}
use Rattle.semantics.specs.Words.{head_word}
use Rattle.semantics.specs.Table.{Table, rule_at, consumed}
use Rattle.semantics.specs.State.{State}
use Rattle.semantics.specs.Move.{Move, react, commit, abort, move_verdict}
use Rattle.semantics.specs.Log.{head_of, four_picks}
use Rattle.semantics.specs.Enabled.{reactions_of, candidates, is_allowed, enabled, move_words}
use Rattle.semantics.specs.Answers.{state_verdict, enabled_in}
use Rattle.semantics.specs.declared.Verdict.TheVariants.{Allowed}
use Rattle.enabled.specs.Candidates.{all_reactions, all_ids, among-reactions, among-ends, FromWords, from-words}

-- one list of words before another: the first place at which they differ decides
abbrev pub precedes : List ℕ → List ℕ → Bool
precedes [] [] = false
precedes [] (y ∷ ys) = true
precedes (x ∷ xs) [] = false
precedes (x ∷ xs) (y ∷ ys) = ltb x y || eqb x y && precedes xs ys

-- each list of words is before all that follow it
abbrev pub strictly_rises : List (List ℕ) → Bool
strictly_rises [] = true
strictly_rises (m ∷ ms) = all (precedes m) ms && strictly_rises ms

-- ---- the order

abbrev Less : List ℕ → List ℕ → Type 0
Less xs ys = precedes xs ys ≡ true

precedes-head : (x y : ℕ) (xs ys : List ℕ) → x < y → Less (x ∷ xs) (y ∷ ys)
precedes-head x y xs ys h = true-or (eqb x y && precedes xs ys) (lt-ltb x y h)

precedes-tail : (x : ℕ) (xs ys : List ℕ) → Less xs ys → Less (x ∷ xs) (x ∷ ys)
precedes-tail x xs ys h = or-right-true (ltb x x) (and_intro (eq-eqb x x refl) h)

precedes-self : (xs : List ℕ) → precedes xs xs ≡ false
precedes-self [] = refl
precedes-self (x ∷ xs) = rw (le-ltb x x (omega arith), eq-eqb x x refl, precedes-self xs)

-- lists of one length, followed by the same
precedes-padded : (n : ℕ) (ps qs zs : List ℕ) → length ps ≡ length qs → length ps ≤ n → Less ps qs → Less (take n (ps ++ zs)) (take n (qs ++ zs))
precedes-padded n [] [] zs e l h = absurd (false≢true h)
precedes-padded n [] (q ∷ qs) zs e l h = absurd (omega arith)
precedes-padded n (p ∷ ps) [] zs e l h = absurd (omega arith)
precedes-padded zero (p ∷ ps) (q ∷ qs) zs e l h = absurd (omega arith)
precedes-padded (suc n) (p ∷ ps) (q ∷ qs) zs e l h =
    go (or_cases (ltb p q) (eqb p q && precedes ps qs) h) (precedes-padded n ps qs zs (omega arith) (omega arith))
  where
    us : List ℕ
    us = take n (ps ++ zs)

    vs : List ℕ
    vs = take n (qs ++ zs)

    go : (ltb p q ≡ true) ⊎ (eqb p q && precedes ps qs ≡ true) → (Less ps qs → Less us vs) → ltb p q || eqb p q && precedes us vs ≡ true
    go (inl k) ih = true-or (eqb p q && precedes us vs) k
    go (inr k) ih =
        or-right-true (ltb p q) (and_intro (and_left (eqb p q) (precedes ps qs) k) (ih (and_right (eqb p q) (precedes ps qs) k)))

rises-pairwise : (ms : List (List ℕ)) → Pairwise Less ms → strictly_rises ms ≡ true
rises-pairwise [] h = refl
rises-pairwise (m ∷ ms) h = and_intro (all-intro (precedes m) ms h.0) (rises-pairwise ms h.1)

tuples-rise : (n k : ℕ) → Pairwise Less (tuples n k)
tuples-rise n zero = (λ y m. absurd m, tt)
tuples-rise n (suc k) = pairwise-each Less from (up_from 0 n)
    (λ p _. pairwise_map Less (λ ps. p ∷ ps) (tuples n k)
    (pairwise-weaker Less (λ ps qs. Less (p ∷ ps) (p ∷ qs)) (tuples n k) (λ ps qs _ _ h. precedes-tail p ps qs h) (tuples-rise n k)))
    (pairwise-weaker (λ p q. p < q) (λ p q. (a b : List ℕ) → Among a (from p) → Among b (from q) → Less a b) (up_from 0 n)
    (λ p q _ _ h a b i j.
    let (x, _, e) = among-map (λ ps. p ∷ ps) (tuples n k) a i in
    let (y, _, f) = among-map (λ ps. q ∷ ps) (tuples n k) b j in
    rw (e, f) (precedes-head p q x y h))
    (pairwise-up 0 n))
  where
    from : ℕ → List (List ℕ)
    from p = map (λ ps. p ∷ ps) (tuples n k)

-- ---- the candidates

abbrev Earlier : Move → Move → Type 0
Earlier a b = Less (move_words a) (move_words b)

head-earlier : (a b : Move) → head_of a < head_of b → Earlier a b
head-earlier a b h = precedes-head (head_of a) (head_of b) (four_picks a) (four_picks b) h

module _ {t : Table} {s : State} (words : FromWords t s) where
  abbrev n : ℕ
  n = length s.entries

  abbrev rules : List ℕ
  rules = up_from 0 (length t.rules)

  abbrev reactions : List Move
  reactions = all_reactions t s

  abbrev ids : List ℕ
  ids = all_ids t s

  rule-rises : (r : ℕ) → Among r rules → Pairwise Earlier (reactions_of t n r)
  rule-rises r m =
      let c = length (consumed (rule_at t r)) in
      let u = among-up 0 (length t.rules) r m in
      let few = (words.right.rule r (omega arith)).consumes-le in
      pairwise_map Earlier (react r) (tuples n c) (pairwise-weaker Less (λ ps qs. Earlier (react r ps) (react r qs)) (tuples n c)
      (λ ps qs i j h.
      let p = (among-tuples n c ps i).0 in
      let q = (among-tuples n c qs j).0 in
      precedes-tail (head_word 0 r) (four_picks (react r ps)) (four_picks (react r qs)) (precedes-padded 4 ps qs (replicate 4 0) (omega arith) (omega arith) h))
      (tuples-rise n c))

  reactions-rise : Pairwise Earlier reactions
  reactions-rise = pairwise-each Earlier (reactions_of t n) rules rule-rises
      (pairwise-weaker (λ p q. p < q) (λ p q. (a b : Move) → Among a (reactions_of t n p) → Among b (reactions_of t n q) → Earlier a b) rules
      (λ p q _ _ h a b i j.
      let (x, _, e) = among-map (react p) (tuples n (length (consumed (rule_at t p)))) a i in
      let (y, _, f) = among-map (react q) (tuples n (length (consumed (rule_at t q)))) b j in
      rw (e, f) (head-earlier (react p x) (react q y) (omega arith)))
      (pairwise-up 0 (length t.rules)))

  ends-rise : (end : ℕ → Move) → ((a b : ℕ) → a < b → head_of (end a) < head_of (end b)) → Pairwise Earlier (map end ids)
  ends-rise end f = pairwise_map Earlier end ids (pairwise-weaker (λ a b. a < b) (λ a b. Earlier (end a) (end b)) ids
      (λ a b _ _ h. head-earlier (end a) (end b) (f a b h)) (pairwise-up 1 (s.next - 1)))

  -- the heads of the three parts

  reaction-head : (m : Move) → Among m reactions → head_of m < head_word 1 0
  reaction-head m i = let (r, ps, c, e) = among-reactions t s m i in let few = words.few-rules in rw e (omega arith)

  commit-head : (m : Move) → Among m (map commit ids) → (head_word 1 0 ≤ head_of m) × (head_of m < head_word 2 0)
  commit-head m i = let (b, c, e) = among-ends t s commit m i in let few = words.sound.next-high in rw e (omega arith)

  abort-head : (m : Move) → Among m (map abort ids) → head_word 2 0 ≤ head_of m
  abort-head m i = let (b, _, e) = among-ends t s abort m i in rw e (omega arith)

  front-head : (m : Move) → Among m (reactions ++ map commit ids) → head_of m < head_word 2 0
  front-head m i = go (among-append reactions (map commit ids) m i)
    where
      go : Among m reactions ⊎ Among m (map commit ids) → head_of m < head_word 2 0
      go (inl k) = let h = reaction-head m k in omega arith
      go (inr k) = (commit-head m k).1

  candidates-rise : Pairwise Earlier (candidates t s)
  candidates-rise =
      pairwise_append Earlier (reactions ++ map commit ids) (map abort ids)
      (pairwise_append Earlier reactions (map commit ids) reactions-rise (ends-rise commit (λ a b h. omega arith))
      (λ a b i j. head-earlier a b (let h = reaction-head a i in let k = (commit-head b j).0 in omega arith)))
      (ends-rise abort (λ a b h. omega arith))
      (λ a b i j. head-earlier a b (let h = front-head a i in let k = abort-head b j in omega arith))

  enabled-pairwise : (ceiling : ℕ) → Pairwise Less (map move_words (enabled ceiling t s))
  unfolding enabled
  enabled-pairwise ceiling =
      let p : Move → Bool = λ m. is_allowed (move_verdict ceiling t s m) in
      pairwise_map Less move_words (keep p (candidates t s)) (pairwise-keep Earlier p (candidates t s) candidates-rise)

-- ---- the theorems

pub enabled-rises : (ceiling : ℕ) (t s : List ℕ) → state_verdict t s ≡ Allowed → strictly_rises (map move_words (enabled_in ceiling t s)) ≡ true
enabled-rises ceiling t s h = rises-pairwise (map move_words (enabled_in ceiling t s)) (enabled-pairwise (from-words t s h) ceiling)

-- two places that hold the same five words are one
pub enabled-once : (ceiling : ℕ) (t s : List ℕ) → state_verdict t s ≡ Allowed → (i j : ℕ)
    → i < length (enabled_in ceiling t s) → j < length (enabled_in ceiling t s)
    → get_or (map move_words (enabled_in ceiling t s)) i [] ≡ get_or (map move_words (enabled_in ceiling t s)) j [] → i ≡ j
enabled-once ceiling t s h i j a b e = go (order i j)
  where
    ms : List (List ℕ)
    ms = map move_words (enabled_in ceiling t s)

    differ : (i j : ℕ) → i < j → j < length (enabled_in ceiling t s) → get_or ms i [] ≡ get_or ms j [] → ⊥
    differ i j l k e =
        let within : j < length ms = rw (length-map (enabled_in ceiling t s) move_words) k in
        let p = pairwise-at Less [] ms i j (enabled-pairwise (from-words t s h) ceiling) l within in
        clash (rw e at p) (precedes-self (get_or ms j []))

    go : Order i j → i ≡ j
    go (before l) = absurd (differ i j l b e)
    go (equal l) = l
    go (after l) = absurd (differ j i l a (sym e))
