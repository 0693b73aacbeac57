-- The choices of places by keys are the tuples of different places that have the keys wanted.
use Rattle.std.specs.Prelude.{ℕ, zero, suc, ◌+◌, ◌%◌, ◌<◌, Bool, true, false, ◌&&◌, ◌||◌, not, List, [], ◌∷◌, ◌++◌, map, ◌≡◌, refl, eqb, length, get_or}
use Rattle.std.proofs.Common.{sym, ap, ◌∙◌, arith}
use Rattle.std.proofs.lemmas.List.{length-map}
use Rattle.lists.specs.Lists.{keep, is_in, distinct, up_from, tuples}
use Rattle.lists.specs.Each.{All}
use Rattle.lists.specs.Parts.{keep-map}
use Rattle.lists.specs.Seen.{unseen, unseen-ext, unseen-distinct}
use Rattle.lists.specs.Beside.{all_beside, beside-map}
use Rattle.lists.specs.Tuples.{each_same, each-up, keep-each, reads, chosen, keep-tuples}
use Rattle.lists.specs.Choosing.{is_free, choices_from, group_base, choices_in, choices_by_group}

-- ---- tests that agree on tuples

-- k numbers below n
abbrev pub IsTuple : ℕ → ℕ → List ℕ → Type 0
IsTuple n k ps = (length ps ≡ k) × All (λ p. p < n) ps

pub tuples-same : (p q : List ℕ → Bool) (n k : ℕ) → ((ps : List ℕ) → IsTuple n k ps → p ps ≡ q ps) → keep p (tuples n k) ≡ keep q (tuples n k)
tuples-same p q n zero f = rw (f [] (refl, tt))
tuples-same p q n (suc k) f =
    keep-each p (λ x. map (λ ps. x ∷ ps) (tuples n k)) (up_from 0 n)
    ∙ each-up (λ x. keep p (map (λ ps. x ∷ ps) (tuples n k))) (λ x. keep q (map (λ ps. x ∷ ps) (tuples n k))) 0 n (λ x l.
    keep-map (λ ps. x ∷ ps) p (tuples n k)
    ∙ ap (map (λ ps. x ∷ ps)) (tuples-same (λ ps. p (x ∷ ps)) (λ ps. q (x ∷ ps)) n k (λ ps (e, h). f (x ∷ ps) (ap suc e, (omega arith, h))))
    ∙ sym (keep-map (λ ps. x ∷ ps) q (tuples n k)))
    ∙ sym (keep-each q (λ x. map (λ ps. x ∷ ps) (tuples n k)) (up_from 0 n))

-- ---- read from the front

-- what is still wanted: numbers of any group, or keys, some places being used
data Wanted : Type 0 where
  numbers : List ℕ → Wanted
  keys : List ℕ → List ℕ → Wanted

module _ (ks : List ℕ) where
  abbrev may_follow : Wanted → ℕ → Bool
  may_follow (numbers []) p = false
  may_follow (numbers (t ∷ ts)) p = eqb (get_or ks p 0 % 512) t
  may_follow (keys used []) p = false
  may_follow (keys used (t ∷ ts)) p = is_free ks used t p

  -- the key of a number in the group of place p, whose own number is t
  abbrev in_group : ℕ → ℕ → ℕ → ℕ
  in_group t p u = u + group_base ks t p

  abbrev wanted_after : Wanted → ℕ → Wanted
  wanted_after (numbers []) p = numbers []
  wanted_after (numbers (t ∷ ts)) p = keys (p ∷ []) (map (in_group t p) ts)
  wanted_after (keys used []) p = keys used []
  wanted_after (keys used (t ∷ ts)) p = keys (used ++ p ∷ []) ts

  -- each place has the key beside it
  abbrev pub have_keys : List ℕ → List ℕ → Bool
  have_keys ts ps = all_beside (λ t p. eqb (get_or ks p 0) t) ts ps

  chosen-keys : (used ts : List ℕ) → chosen may_follow wanted_after (length ks) (keys used ts) (length ts) ≡ choices_from ks used ts
  chosen-keys used [] = refl
  chosen-keys used (t ∷ ts) =
      each_same (λ p. map (λ c. p ∷ c) (chosen may_follow wanted_after (length ks) (keys (used ++ p ∷ []) ts) (length ts)))
      (λ p. map (λ c. p ∷ c) (choices_from ks (used ++ p ∷ []) ts)) (λ p. ap (map (λ c. p ∷ c)) (chosen-keys (used ++ p ∷ []) ts))
      (keep (is_free ks used t) (up_from 0 (length ks)))

  one_more : (u p : ℕ) (used : List ℕ) → is_in u (used ++ p ∷ []) ≡ eqb u p || is_in u used
  one_more u p [] = refl
  one_more u p (q ∷ used) = rw (one_more u p used) (swap (eqb u q) (eqb u p) (is_in u used))
    where
      swap : (a b c : Bool) → a || (b || c) ≡ b || (a || c)
      swap true true c = refl
      swap true false c = refl
      swap false b c = refl

  apart : (a b c d : Bool) → a && b && (c && d) ≡ b && c && (a && d)
  apart true true c d = refl
  apart true false c d = refl
  apart false true true d = refl
  apart false true false d = refl
  apart false false c d = refl

  reads-keys : (used ts ps : List ℕ) → length ps ≡ length ts
      → reads may_follow wanted_after (keys used ts) ps ≡ unseen (λ u. is_in u used) ps && have_keys ts ps
  reads-keys used [] [] e = refl
  reads-keys used [] (p ∷ ps) e = absurd (omega arith)
  reads-keys used (t ∷ ts) [] e = absurd (omega arith)
  reads-keys used (t ∷ ts) (p ∷ ps) e =
      rw (reads-keys (used ++ p ∷ []) ts ps (omega arith), unseen-ext (λ u. one_more u p used) ps)
      (apart (eqb (get_or ks p 0) t) (not (is_in p used)) (unseen (λ u. eqb u p || is_in u used) ps) (have_keys ts ps))

  -- different places with these keys
  pub keep-keys : (ts : List ℕ) → keep (λ ps. distinct ps && have_keys ts ps) (tuples (length ks) (length ts)) ≡ choices_from ks [] ts
  keep-keys ts =
      tuples-same (λ ps. distinct ps && have_keys ts ps) (reads may_follow wanted_after (keys [] ts)) (length ks) (length ts)
      (λ ps (e, l). rw (reads-keys [] ts ps e, unseen-distinct ps))
      ∙ keep-tuples may_follow wanted_after (length ks) (keys [] ts) (length ts) ∙ chosen-keys [] ts

  -- the first place has the first number, and the others have the others in its group
  abbrev pub have_group : List ℕ → List ℕ → Bool
  have_group [] [] = true
  have_group [] (p ∷ ps) = false
  have_group (t ∷ ts) [] = false
  have_group (t ∷ ts) (p ∷ ps) = eqb (get_or ks p 0 % 512) t && all_beside (λ u q. eqb (get_or ks q 0) (in_group t p u)) ts ps

  chosen-numbers : (ts : List ℕ) → chosen may_follow wanted_after (length ks) (numbers ts) (length ts) ≡ choices_by_group ks ts
  chosen-numbers [] = refl
  chosen-numbers (t ∷ ts) =
      each_same (λ p. map (λ c. p ∷ c) (chosen may_follow wanted_after (length ks) (keys (p ∷ []) (map (in_group t p) ts)) (length ts)))
      (choices_in ks t ts) (λ p. ap (map (λ c. p ∷ c)) (rw (length-map ts (in_group t p))
      at (chosen-keys (p ∷ []) (map (in_group t p) ts))))
      (keep (λ p. eqb (get_or ks p 0 % 512) t) (up_from 0 (length ks)))

  reads-numbers : (ts ps : List ℕ) → length ps ≡ length ts → distinct ps && have_group ts ps ≡ reads may_follow wanted_after (numbers ts) ps
  reads-numbers [] [] e = refl
  reads-numbers [] (p ∷ ps) e = absurd (omega arith)
  reads-numbers (t ∷ ts) [] e = absurd (omega arith)
  reads-numbers (t ∷ ts) (p ∷ ps) e =
      rw (
        ← (unseen-distinct (p ∷ ps)),
        reads-keys (p ∷ []) (map (in_group t p) ts) ps (omega (arith, length-map ts (in_group t p))),
        beside-map (in_group t p) (λ t p. eqb (get_or ks p 0) t) ts ps,
      )
      (inside (unseen (λ u. is_in u (p ∷ [])) ps) (eqb (get_or ks p 0 % 512) t)
      (all_beside (λ u q. eqb (get_or ks q 0) (in_group t p u)) ts ps))
    where
      inside : (a b c : Bool) → a && (b && c) ≡ b && (a && c)
      inside true b c = refl
      inside false true c = refl
      inside false false c = refl

  -- different places with these numbers in one group
  pub keep-group : (ts : List ℕ) → keep (λ ps. distinct ps && have_group ts ps) (tuples (length ks) (length ts)) ≡ choices_by_group ks ts
  keep-group ts =
      tuples-same (λ ps. distinct ps && have_group ts ps) (reads may_follow wanted_after (numbers ts)) (length ks) (length ts)
      (λ ps (e, l). reads-numbers ts ps e)
      ∙ keep-tuples may_follow wanted_after (length ks) (numbers ts) (length ts) ∙ chosen-numbers ts
