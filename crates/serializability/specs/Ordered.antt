-- What the serial order is by its definition: blocks, and the others in log order.
use Rattle.std.specs.Prelude.{◌≡◌, refl, Bool, true, false, cond, not, ◌&&◌, List, [], ◌∷◌, ◌++◌}
use Rattle.std.proofs.Common.{sym, ap, ◌∙◌, append_assoc, append-nil}
use Rattle.lists.specs.Lists.{any, keep, keep_if}
use Rattle.lists.specs.Parts.{keep_append}
use Rattle.semantics.specs.Serial.{Act, is_end, is_inner, same_origin, belongs_to, block, ordered}

ordered-append : (us xs zs : List Act) → ordered us (xs ++ zs) ≡ ordered us xs ++ ordered (us ++ xs) zs
ordered-append us [] zs = ap (λ (l : List Act). ordered l zs) (sym (append-nil us))
ordered-append us (x ∷ xs) zs =
    ap (λ (l : List Act). block us x ++ l) (ordered-append (us ++ x ∷ []) xs zs
    ∙ ap (λ (l : List Act). ordered (us ++ x ∷ []) xs ++ ordered l zs) (append_assoc us (x ∷ []) xs))
    ∙ sym (append_assoc (block us x) (ordered (us ++ x ∷ []) xs) (ordered (us ++ x ∷ xs) zs))

end-outer : (a : Act) → is_end a.move ≡ true → is_inner a ≡ false
end-outer a h = rw h

block-outer : (xs : List Act) (a : Act) → is_inner a ≡ false → block xs a ≡ keep (belongs_to a) xs ++ a ∷ []
block-outer xs a h = rw h

pub block-there : (xs ys : List Act) (a : Act) → is_end a.move ≡ true
    → (before : List Act) × (behind : List Act) × (ordered [] (xs ++ a ∷ ys) ≡ before ++ (keep (belongs_to a) xs ++ a ∷ behind))
block-there xs ys a h = (
  ordered [] xs,
  ordered (xs ++ a ∷ []) ys,
  ordered-append [] xs (a ∷ ys) ∙ ap (λ (l : List Act). ordered [] xs ++ l)
      (ap (λ (l : List Act). l ++ ordered (xs ++ a ∷ []) ys) (block-outer xs a (end-outer a h))
      ∙ append_assoc (keep (belongs_to a) xs) (a ∷ []) (ordered (xs ++ a ∷ []) ys)),
)

abbrev is_outer : Act → Bool
is_outer a = not (is_inner a)

outer-none : (a : Act) (xs : List Act) → keep is_outer (keep (belongs_to a) xs) ≡ []
outer-none a [] = refl
outer-none a (x ∷ xs) = go (is_inner x) refl (any (λ o. any (same_origin o) a.members) x.members) (outer-none a xs)
  where
    go : (b : Bool) → is_inner x ≡ b → (c : Bool) → keep is_outer (keep (belongs_to a) xs) ≡ []
        → keep is_outer (keep_if (b && c) x (keep (belongs_to a) xs)) ≡ []
    go true q true ih = rw q ih
    go true q false ih = ih
    go false q c ih = ih

outer-block : (us : List Act) (a : Act) → keep is_outer (block us a) ≡ keep_if (is_outer a) a []
outer-block us a = go (is_inner a) refl
  where
    go : (b : Bool) → is_inner a ≡ b → keep is_outer (cond b [] (keep (belongs_to a) us ++ a ∷ [])) ≡ keep_if (not b) a []
    go true q = refl
    go false q = keep_append is_outer (keep (belongs_to a) us) (a ∷ []) ∙ ap (λ (l : List Act). l ++ keep is_outer (a ∷ [])) (outer-none a us) ∙ rw q

pub outer-order : (us xs : List Act) → keep is_outer (ordered us xs) ≡ keep is_outer xs
outer-order us [] = refl
outer-order us (a ∷ xs) =
    keep_append is_outer (block us a) (ordered (us ++ a ∷ []) xs)
    ∙ (λ j. outer-block us a j ++ outer-order (us ++ a ∷ []) xs j)
    ∙ go (is_outer a)
  where
    go : (b : Bool) → keep_if b a [] ++ keep is_outer xs ≡ keep_if b a (keep is_outer xs)
    go true = refl
    go false = refl
