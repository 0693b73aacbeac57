-- A loop that writes a list place by place: below the place that it has come to are the new elements, and from there on the list is as it was.
use Rattle.std.specs.Prelude.{ℕ, ◌+◌, ◌≤◌, ◌<◌, ◌≡◌, refl, List, eqb, length, get_or, set}
use Rattle.std.proofs.Common.{◌∙◌, arith, eqb-true, length-set, get_or-set_same, get_or-set_other}
use Rattle.std.proofs.lemmas.Bool.{eqb-false}
use Rattle.lists.specs.Choices.{by_bool}

module _ {A : Type 0} (d : A) where
  pub record Writing (new : ℕ → A) (j : ℕ) (before xs : List A) : Type 0 where
    pub size : length xs ≡ length before
    pub done : (i : ℕ) → i < j → get_or xs i d ≡ new i
    pub rest : (i : ℕ) → j ≤ i → get_or xs i d ≡ get_or before i d

  pub writing_start : (new : ℕ → A) (j : ℕ) (xs : List A) → ((i : ℕ) → i < j → get_or xs i d ≡ new i) → Writing new j xs xs
  writing_start new j xs h = record { size = refl; done = h; rest = λ i l. refl }

  pub writing-next : {new : ℕ → A} {j : ℕ} {before xs : List A} → Writing new j before xs → j < length xs → (x : A) → x ≡ new j
      → Writing new (j + 1) before (set xs j x)
  writing-next {new} {j} {before} {xs} w h x q = record {
    size = length-set xs j x ∙ w.size;
    done = λ i l. by_bool (eqb i j)
        (λ e. rw (eqb-true i j e, get_or-set_same xs j x d h) q)
        (λ e. let n = eqb-false i j e in get_or-set_other xs j i x d n ∙ w.done i (omega arith));
    rest = λ i l. get_or-set_other xs j i x d (λ e. omega arith) ∙ w.rest i (omega arith);
  }
