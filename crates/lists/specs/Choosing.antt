-- Choices of places by their keys: each number wanted gets a place that has it, and no place is used twice.
use Rattle.std.specs.Prelude.{ℕ, ◌+◌, ◌-◌, ◌%◌, Bool, not, ◌&&◌, List, [], ◌∷◌, ◌++◌, map, eqb, length, get_or}
use Rattle.lists.specs.Lists.{keep, is_in, up_from, each}

-- a place with the key t that is not used
abbrev pub is_free : List ℕ → List ℕ → ℕ → ℕ → Bool
is_free ks used t p = eqb (get_or ks p 0) t && not (is_in p used)

-- a place for each number wanted, the used places left out; in order by the first, then by the next, ..
abbrev pub choices_from : List ℕ → List ℕ → List ℕ → List (List ℕ)
choices_from ks used [] = [] ∷ []
choices_from ks used (t ∷ ts) = each (λ p. map (λ c. p ∷ c) (choices_from ks (used ++ p ∷ []) ts)) (keep (is_free ks used t) (up_from 0 (length ks)))

-- Keys by group: group * 512 + number. The first place may be of any group, and decides of which group the others are.
abbrev pub group_base : List ℕ → ℕ → ℕ → ℕ
group_base ks t p = get_or ks p 0 - t

abbrev pub choices_in : List ℕ → ℕ → List ℕ → ℕ → List (List ℕ)
choices_in ks t ts p = map (λ c. p ∷ c) (choices_from ks (p ∷ []) (map (λ u. u + group_base ks t p) ts))

abbrev pub choices_by_group : List ℕ → List ℕ → List (List ℕ)
choices_by_group ks [] = [] ∷ []
choices_by_group ks (t ∷ ts) = each (choices_in ks t ts) (keep (λ p. eqb (get_or ks p 0 % 512) t) (up_from 0 (length ks)))
