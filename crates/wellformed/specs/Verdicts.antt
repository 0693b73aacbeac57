-- Verdicts: an allowed one has passed each of its tests, and of several tests the first fault counts.
use Rattle.std.specs.Prelude.{ℕ, Bool, true, false, List, [], ◌∷◌, ◌⊎◌, ◌≡◌, refl}
use Rattle.std.proofs.Common.{inl, inr, sym, ◌∙◌, arith}
use Rattle.lists.specs.Each.{All}
use Rattle.semantics.specs.Move.{unless, both, first_fault}
use Rattle.semantics.specs.declared.Refusal.{Refusal}
use Rattle.semantics.specs.declared.Verdict.{Verdict}
use Rattle.semantics.specs.declared.Verdict.TheVariants.{Allowed, Denied}

pub denied≢allowed : {r : Refusal} → Denied r ≡ Allowed → ⊥
denied≢allowed h = let z : ◌≡◌ {A = ℕ} 0 1 = cc in omega arith

-- ---- one test

pub unless_allowed : (b : Bool) (r : Refusal) → unless b r ≡ Allowed → b ≡ true
unless_allowed true r h = refl
unless_allowed false r h = absurd (denied≢allowed h)

pub unless-intro : {b : Bool} (r : Refusal) → b ≡ true → unless b r ≡ Allowed
unless-intro r h = rw h

pub unless-false : {b : Bool} (r : Refusal) → b ≡ false → unless b r ≡ Denied r
unless-false r h = rw h

-- ---- two tests

pub both-allowed : (a b : Verdict) → both a b ≡ Allowed → (a ≡ Allowed) × (b ≡ Allowed)
both-allowed Allowed b h = (refl, h)
both-allowed (Denied r) b h = absurd (denied≢allowed h)

pub both-intro : {a b : Verdict} → a ≡ Allowed → b ≡ Allowed → both a b ≡ Allowed
both-intro p q = rw (p, q)

-- ---- a list of tests

first-cons : (v : Verdict) (vs : List Verdict) → first_fault (v ∷ vs) ≡ both v (first_fault vs)
first-cons Allowed [] = refl
first-cons (Denied r) [] = refl
first-cons v (w ∷ vs) = refl

-- the first fault is q: the tests before it are passed
abbrev pub FaultAt : Refusal → List Verdict → Type 0
FaultAt q [] = ⊥
FaultAt q (v ∷ vs) = (v ≡ Denied q) ⊎ ((v ≡ Allowed) × FaultAt q vs)

pub first-fault : (vs : List Verdict) {q : Refusal} → FaultAt q vs → first_fault vs ≡ Denied q
first-fault [] h = absurd h
first-fault (v ∷ vs) (inl e) = first-cons v vs ∙ rw e
first-fault (v ∷ vs) (inr (e, h)) = first-cons v vs ∙ rw e (first-fault vs h)

-- each test is passed
abbrev pub Passed : List Verdict → Type 0
Passed vs = All (λ v. v ≡ Allowed) vs

pub no-fault : (vs : List Verdict) → Passed vs → first_fault vs ≡ Allowed
no-fault [] h = refl
no-fault (v ∷ vs) h = first-cons v vs ∙ rw h.0 (no-fault vs h.1)

pub passed-each : (vs : List Verdict) → first_fault vs ≡ Allowed → Passed vs
passed-each [] h = tt
passed-each (v ∷ vs) h = let (a, b) = both-allowed v (first_fault vs) (sym (first-cons v vs) ∙ h) in (a, passed-each vs b)
