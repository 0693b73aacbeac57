-- A run in log order is a run in the order of the keys, with the same end.
use Rattle.std.specs.Prelude.{◌≡◌, refl, Bool, true, false, cond, List, [], ◌∷◌, ◌++◌, ℕ, zero, suc, ◌+◌, ◌≤◌, ◌<◌, eqb, leb}
use Rattle.std.proofs.Common.{ap, subst, ◌∙◌, arith, eqb-true, ne_eqb, leb-false, le-leb}
use Rattle.std.proofs.lemmas.Bool.{eqb-false, lt-leb}
use Rattle.lists.specs.Lists.{keep, count_if, one_if}
use Rattle.lists.specs.Choices.{by_bool}
use Rattle.lists.specs.Each.{All, All-map, All-append, All-keep}
use Rattle.semantics.specs.Table.{Table}
use Rattle.cells.specs.Deeds.{Deed}
use Rattle.cells.specs.Actions.{Seen, astep, Runs}
use Rattle.cells.specs.Swap.{Swap, ok-x, ok-m, same}

abbrev ins : Deed → List Deed → List Deed
ins m [] = m ∷ []
ins m (x ∷ xs) = cond (leb m.key x.key) (m ∷ x ∷ xs) (x ∷ ins m xs)

-- the stable sort by key
abbrev pub isort : List Deed → List Deed
isort [] = []
isort (m ∷ xs) = ins m (isort xs)

abbrev pub Swaps : Table → Deed → List Deed → Type 0
Swaps t m xs = All (λ x. x.key < m.key → Swap t m x) xs

abbrev pub Pairs : Table → List Deed → Type 0
Pairs t [] = Unit
Pairs t (m ∷ xs) = Swaps t m xs × Pairs t xs

All-ins : (P : Deed → Type 0) (m : Deed) (xs : List Deed) → P m → All P xs → All P (ins m xs)
All-ins P m [] p h = (p, tt)
All-ins P m (x ∷ xs) p h = go (leb m.key x.key) (All-ins P m xs p h.1)
  where
    go : (b : Bool) → All P (ins m xs) → All P (cond b (m ∷ x ∷ xs) (x ∷ ins m xs))
    go true ih = (p, h)
    go false ih = (h.0, ih)

pub All-isort : (P : Deed → Type 0) (xs : List Deed) → All P xs → All P (isort xs)
All-isort P [] h = tt
All-isort P (x ∷ xs) h = All-ins P x (isort xs) h.0 (All-isort P xs h.1)

module _ (t : Table) (G : Seen) where
  ins-runs : (m : Deed) (xs : List Deed) (F : Seen) → Swaps t m xs → Runs t F (m ∷ xs) G → Runs t F (ins m xs) G
  ins-runs m [] F sw r = r
  ins-runs m (x ∷ xs) F sw r = go (λ F'. ins-runs m xs F' sw.1) (leb m.key x.key) refl
    where
      swapped : ((F' : Seen) → Runs t F' (m ∷ xs) G → Runs t F' (ins m xs) G) → Swap t m x → Runs t F (x ∷ ins m xs) G
      swapped ih S = (
        ok-x t F m x S r.0 r.1.0,
        ih (astep t F x)
            (ok-m t F m x S r.0 r.1.0, subst (λ (H : Seen). Runs t H xs G) (same t F m x S r.0 r.1.0) r.1.1),
      )

      go : ((F' : Seen) → Runs t F' (m ∷ xs) G → Runs t F' (ins m xs) G) → (b : Bool) → leb m.key x.key ≡ b
          → Runs t F (cond b (m ∷ x ∷ xs) (x ∷ ins m xs)) G
      go ih true e = r
      go ih false e = swapped ih (sw.0 (leb-false m.key x.key e))

  pub sort-runs : (xs : List Deed) (F : Seen) → Pairs t xs → Runs t F xs G → Runs t F (isort xs) G
  sort-runs [] F p r = r
  sort-runs (m ∷ xs) F p r = ins-runs m (isort xs) F (All-isort (λ x. x.key < m.key → Swap t m x) xs p.0) (r.0, sort-runs xs (astep t F m) p.1 r.1)

-- ---- the same order by the keys e, e + 1, ..: the moves of each key, in log order

abbrev pub key_is : ℕ → Deed → Bool
key_is e a = eqb a.key e

abbrev pub arrange : ℕ → ℕ → List Deed → List Deed
arrange e zero xs = []
arrange e (suc n) xs = keep (key_is e) xs ++ arrange (suc e) n xs

ins-first : (m : Deed) (xs : List Deed) → All (λ x. m.key ≤ x.key) xs → ins m xs ≡ m ∷ xs
ins-first m [] h = refl
ins-first m (x ∷ xs) h = rw (le-leb m.key x.key h.0)

ins-past : (m : Deed) (xs ys : List Deed) → All (λ x. x.key < m.key) xs → ins m (xs ++ ys) ≡ xs ++ ins m ys
ins-past m [] ys h = refl
ins-past m (x ∷ xs) ys h = rw (lt-leb m.key x.key h.0, ins-past m xs ys h.1)

keep-key : (e : ℕ) (xs : List Deed) → All (λ x. x.key ≡ e) (keep (key_is e) xs)
keep-key e xs = All-keep (λ x. x.key ≡ e) (key_is e) xs (each xs)
  where
    each : (xs : List Deed) → All (λ x. key_is e x ≡ true → x.key ≡ e) xs
    each [] = tt
    each (x ∷ xs) = (eqb-true x.key e, each xs)

arrange-ge : (n e f : ℕ) (xs : List Deed) → f ≤ e → All (λ x. f ≤ x.key) (arrange e n xs)
arrange-ge zero e f xs h = tt
arrange-ge (suc n) e f xs h = All-append (λ x. f ≤ x.key) (keep (key_is e) xs) (arrange (suc e) n xs)
    (All-map {P = λ x. x.key ≡ e} {Q = λ x. f ≤ x.key} (λ x q. omega arith) (keep (key_is e) xs) (keep-key e xs)) (arrange-ge n (suc e) f xs (omega arith))

arrange-skip : (n e : ℕ) (m : Deed) (xs : List Deed) → m.key < e → arrange e n (m ∷ xs) ≡ arrange e n xs
arrange-skip zero e m xs h = refl
arrange-skip (suc n) e m xs h = rw (ne_eqb m.key e (λ q. omega arith), arrange-skip n (suc e) m xs (omega arith))

arrange-ins : (n e : ℕ) (m : Deed) (xs : List Deed) → e ≤ m.key → m.key < e + n → arrange e n (m ∷ xs) ≡ ins m (arrange e n xs)
arrange-ins zero e m xs h k = absurd (omega arith)
arrange-ins (suc n) e m xs h k = by_bool (eqb m.key e)
    (λ q. let w = eqb-true m.key e q in
    rw (
      q,
      arrange-skip n (suc e) m xs (omega arith),
      ins-first m (keep (key_is e) xs ++ arrange (suc e) n xs)
          (All-map {P = λ x. e ≤ x.key} {Q = λ x. m.key ≤ x.key} (λ x p. omega arith) (keep (key_is e) xs ++ arrange (suc e) n xs)
          (arrange-ge (suc n) e e xs (omega arith))),
    ))
    (λ q. let w = eqb-false m.key e q in
    rw (
      q,
      arrange-ins n (suc e) m xs (omega arith) (omega arith),
      ins-past m (keep (key_is e) xs) (arrange (suc e) n xs)
          (All-map {P = λ x. x.key ≡ e} {Q = λ x. x.key < m.key} (λ x p. omega arith) (keep (key_is e) xs) (keep-key e xs)),
    ))

arrange-nil : (n e : ℕ) → arrange e n [] ≡ []
arrange-nil zero e = refl
arrange-nil (suc n) e = arrange-nil n (suc e)

pub arrange-isort : (n e : ℕ) (xs : List Deed) → All (λ x. (e ≤ x.key) × (x.key < e + n)) xs → arrange e n xs ≡ isort xs
arrange-isort n e [] h = arrange-nil n e
arrange-isort n e (m ∷ xs) h = arrange-ins n e m xs h.0.0 h.0.1 ∙ ap (ins m) (arrange-isort n e xs h.1)

-- ---- each move once

count-ins : (p : Deed → Bool) (m : Deed) (xs : List Deed) → count_if p (ins m xs) ≡ count_if p (m ∷ xs)
count-ins p m [] = refl
count-ins p m (x ∷ xs) = go (leb m.key x.key) (count-ins p m xs)
  where
    go : (b : Bool) → count_if p (ins m xs) ≡ one_if (p m) + count_if p xs
        → count_if p (cond b (m ∷ x ∷ xs) (x ∷ ins m xs)) ≡ one_if (p m) + (one_if (p x) + count_if p xs)
    go true ih = refl
    go false ih = omega arith

pub count-isort : (p : Deed → Bool) (xs : List Deed) → count_if p (isort xs) ≡ count_if p xs
count-isort p [] = refl
count-isort p (m ∷ xs) = count-ins p m (isort xs) ∙ ap (λ (n : ℕ). one_if (p m) + n) (count-isort p xs)
