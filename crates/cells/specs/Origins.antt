-- Options, origins, and the entry of an origin in a list.
use Rattle.std.specs.Prelude.{◌≡◌, refl, Bool, true, false, cond, not, ◌&&◌, ◌||◌, ℕ, eqb}
use Rattle.std.proofs.Common.{sym, ap, subst, ◌∙◌, arith, eqb-true, eq-eqb}
use Rattle.std.proofs.lemmas.Bool.{false≢true}
use Rattle.std.proofs.Math.Option.{Option, none, some}
use mathlib.Core.List.{List, [], ◌∷◌, map, cons≢nil}
use Rattle.lists.specs.Lists.{all, any}
use Rattle.lists.specs.Tests.{or-right-true}
use Rattle.lists.specs.Choices.{and_left, and_right, and_intro}
use Rattle.lists.specs.Each.{head-eq, tail-eq}
use Rattle.semantics.specs.State.{Origin, Entry}
use Rattle.semantics.specs.Serial.{same_origin}

-- ---- options

abbrev pub or_else : {A : Type 0} → Option A → Option A → Option A
or_else none y = y
or_else (some x) y = some x

abbrev pub omap : {A B : Type 0} → (A → B) → Option A → Option B
omap f none = none
omap f (some x) = some (f x)

abbrev pub bind_o : {A B : Type 0} → (A → Option B) → Option A → Option B
bind_o f none = none
bind_o f (some x) = f x

pub or_else-none : {A : Type 0} (x : Option A) → or_else x none ≡ x
or_else-none none = refl
or_else-none (some x) = refl

pub some_inj : {A : Type 0} {a b : A} → Path (Option A) (some a) (some b) → a ≡ b
some_inj p = cc

pub none-some : {A : Type 0} {a : A} → Path (Option A) none (some a) → ⊥
none-some p = let z : ◌≡◌ {A = ℕ} 0 1 = cc in omega arith

pub is_none : {A : Type 0} (x : Option A) → ((a : A) → x ≡ some a → ⊥) → x ≡ none
is_none none h = refl
is_none (some a) h = absurd (h a refl)

pub omap-some : {A B : Type 0} (f : A → B) (x : Option A) (y : B) → omap f x ≡ some y → (z : A) × (x ≡ some z) × (f z ≡ y)
omap-some f none y h = absurd (none-some h)
omap-some f (some z) y h = (z, refl, some_inj h)

-- ---- origins

pub same_refl : (o : Origin) → same_origin o o ≡ true
same_refl o = and_intro (eq-eqb o.maker o.maker refl) (eq-eqb o.index o.index refl)

pub same-eq : (a b : Origin) → same_origin a b ≡ true → a ≡ b
same-eq a b h = go (eqb-true a.maker b.maker (and_left (eqb a.maker b.maker) (eqb a.index b.index) h))
    (eqb-true a.index b.index (and_right (eqb a.maker b.maker) (eqb a.index b.index) h))
  where
    go : a.maker ≡ b.maker → a.index ≡ b.index → a ≡ b
    go p q = λ i. record { maker = p i; index = q i }

abbrev pub is_in_o : Origin → List Origin → Bool
is_in_o o os = any (same_origin o) os

abbrev pub distinct_o : List Origin → Bool
distinct_o [] = true
distinct_o (o ∷ os) = not (is_in_o o os) && distinct_o os

pub is_in_o-head : (o : Origin) (os : List Origin) → is_in_o o (o ∷ os) ≡ true
is_in_o-head o os = rw (same_refl o)

pub is_in_o-cons : (o q : Origin) (os : List Origin) → is_in_o o os ≡ true → is_in_o o (q ∷ os) ≡ true
is_in_o-cons o q os h = or-right-true (same_origin o q) h

-- ---- the entry of an origin

abbrev pub look : Origin → List Entry → Option Entry
look o [] = none
look o (e ∷ es) = cond (same_origin o e.origin) (some e) (look o es)

pub look-origin : (o : Origin) (l : List Entry) {e : Entry} → look o l ≡ some e → e.origin ≡ o
look-origin o [] h = absurd (none-some h)
look-origin o (x ∷ l) {e} h = go (look-origin o l) (same_origin o x.origin) refl h
  where
    go : (look o l ≡ some e → e.origin ≡ o) → (b : Bool) → same_origin o x.origin ≡ b → cond b (some x) (look o l) ≡ some e → e.origin ≡ o
    go ih true q r = sym (same-eq o e.origin (subst (λ (z : Entry). same_origin o z.origin ≡ true) (some_inj r) q))
    go ih false q r = ih r

pub look-all : (p : Entry → Bool) (o : Origin) (l : List Entry) {e : Entry} → all p l ≡ true → look o l ≡ some e → p e ≡ true
look-all p o [] t h = absurd (none-some h)
look-all p o (x ∷ l) {e} t h = go (look-all p o l (and_right (p x) (all p l) t)) (same_origin o x.origin) h
  where
    go : (look o l ≡ some e → p e ≡ true) → (b : Bool) → cond b (some x) (look o l) ≡ some e → p e ≡ true
    go ih true r = subst (λ (z : Entry). p z ≡ true) (some_inj r) (and_left (p x) (all p l) t)
    go ih false r = ih r

-- ---- cells found at a list of origins

pub found_at : (f : Origin → Option Entry) (p : Entry → Bool) (o : Origin) (os : List Origin) (es : List Entry)
    → map f os ≡ map some es → all p es ≡ true → is_in_o o os ≡ true → (e : Entry) × (f o ≡ some e) × (p e ≡ true)
found_at f p o [] es h t i = absurd (false≢true i)
found_at f p o (q ∷ os) [] h t i = absurd (cons≢nil h)
found_at f p o (q ∷ os) (e ∷ es) h t i =
    go (found_at f p o os es (tail-eq h) (and_right (p e) (all p es) t)) (same_origin o q) refl i
  where
    go : (is_in_o o os ≡ true → (e : Entry) × (f o ≡ some e) × (p e ≡ true)) → (b : Bool) → same_origin o q ≡ b → (b || is_in_o o os) ≡ true
        → (e : Entry) × (f o ≡ some e) × (p e ≡ true)
    go ih true w k = (e, ap f (same-eq o q w) ∙ head-eq h, and_left (p e) (all p es) t)
    go ih false w k = ih k

pub map_frame : (f g : Origin → Option Entry) (p : Entry → Bool) (os : List Origin) (es : List Entry)
    → ((o : Origin) (e : Entry) → is_in_o o os ≡ true → f o ≡ some e → p e ≡ true → g o ≡ some e)
    → map f os ≡ map some es → all p es ≡ true → map g os ≡ map some es
map_frame f g p [] es k h t = h
map_frame f g p (q ∷ os) [] k h t = absurd (cons≢nil h)
map_frame f g p (q ∷ os) (e ∷ es) k h t =
    let r = map_frame f g p os es (λ o e' i. k o e' (is_in_o-cons o q os i)) (tail-eq h) (and_right (p e) (all p es) t) in
    let w = k q e (is_in_o-head q os) (head-eq h) (and_left (p e) (all p es) t) in
    rw (w, r)
