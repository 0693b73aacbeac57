-- The place of the commit or abort that ends a member, read off the place of the member's begin.
use Rattle.std.specs.Prelude.{ℕ, suc, ◌-◌, Bool, true, false, ◌&&◌, ◌||◌, cond, List, [], ◌∷◌, ◌++◌, ◌≡◌, refl, eqb}
use Rattle.std.proofs.Math.Bool.{and-true, or-false}
use Rattle.std.proofs.lemmas.Bool.{false≢true}
use Rattle.std.proofs.Common.{sym, ap, subst, ◌∙◌, arith}
use Rattle.lists.specs.Lists.{any, count_if, one_if}
use Rattle.lists.specs.Tests.{eqb_swap}
use Rattle.lists.specs.Choices.{by_bool, and_left, and_right}
use Rattle.lists.specs.Counting.{count-append}
use Rattle.lists.specs.Each.{All, any_same, count_same, count-zero}
use Rattle.lists.specs.Members.{Among, any_some, among-left}
use Rattle.semantics.specs.Table.{Table}
use Rattle.semantics.specs.State.{Origin}
use Rattle.semantics.specs.Move.{Move, react, commit, abort}
use Rattle.semantics.specs.Serial.{Act, is_end, is_inner, same_origin, is_begin}
use Rattle.serializability.specs.Statement.{ends_member_of}
use Rattle.cells.specs.Origins.{same-eq, is_in_o-head, is_in_o-cons}
use Rattle.cells.specs.Marks.{first_of}
use Rattle.serial_laws.specs.Acts.{concerns, ends_begun, end_after}
use Rattle.lists.specs.Splits.{among-split, All-split, All-among}

-- ---- tests on the members of an act

All-concerned : (P : Origin → Type 0) (os : List Origin) → ((o : Origin) → any (same_origin o) os ≡ true → P o) → All P os
All-concerned P [] h = tt
All-concerned P (o ∷ os) h = (h o (is_in_o-head o os), All-concerned P os (λ z k. h z (is_in_o-cons z o os k)))

-- ---- the last act that ends p's member, if there is one only

after_none : (p e : ℕ) (xs : List Act) → All (λ a. ends_begun p a ≡ false) xs → end_after p e xs ≡ e
after_none p e [] h = refl
after_none p e (a ∷ xs) h = rw h.0 (after_none p e xs h.1)

after_last : (p e : ℕ) (xs ys : List Act) (a : Act) → ends_begun p a ≡ true → All (λ b. ends_begun p b ≡ false) ys → end_after p e (xs ++ a ∷ ys) ≡ a.place
after_last p e [] ys a h k = ap (λ (b : Bool). end_after p (cond b a.place e) ys) h ∙ after_none p a.place ys k
after_last p e (x ∷ xs) ys a h k = after_last p (cond (ends_begun p x) x.place e) xs ys a h k

after-only : (p e : ℕ) (xs ys : List Act) (a : Act) → ends_begun p a ≡ true → count_if (ends_begun p) (xs ++ a ∷ ys) ≡ 1
    → end_after p e (xs ++ a ∷ ys) ≡ a.place
after-only p e xs ys a h k =
    let w = count-append (ends_begun p) xs (a ∷ ys) in
    let one = ap one_if h in
    after_last p e xs ys a h (count-zero (ends_begun p) ys (omega arith))

-- ---- in an accepted log

begin-goes : (t : Table) (m : Move) → is_begin t m ≡ true → is_end m ≡ false
begin-goes t (react r ps) h = refl
begin-goes t (commit b) h = absurd (false≢true h)
begin-goes t (abort b) h = absurd (false≢true h)

-- a begin has one member: its first product
abbrev pub BeginsFirst : Table → Act → Type 0
BeginsFirst t x = is_begin t x.move ≡ true → x.members ≡ first_of x.place ∷ []

abbrev begins-member : Table → Origin → Act → Bool
begins-member t o x = is_begin t x.move && any (same_origin o) x.members

module _ (t : Table) (acts : List Act) (first : All (BeginsFirst t) acts)
    (one_block : (xs ys : List Act) (x : Act) → acts ≡ xs ++ x ∷ ys → is_inner x ≡ true → count_if (ends_member_of x) acts ≡ 1)
    (begun-before : (xs ys : List Act) (a : Act) → acts ≡ xs ++ a ∷ ys → is_end a.move ≡ true → (o : Origin) → concerns a o ≡ true
    → any (begins-member t o) xs ≡ true) where
  -- the begin of an end's member
  pub begin-of : (xs ys : List Act) (a : Act) → acts ≡ xs ++ a ∷ ys → is_end a.move ≡ true → (o : Origin) → concerns a o ≡ true
      → (y : Act) × Among y acts × (y.members ≡ first_of y.place ∷ []) × (is_end y.move ≡ false) × (o ≡ first_of y.place)
  begin-of xs ys a q en o h =
      let (y, m, k) = any_some (begins-member t o) xs (begun-before xs ys a q en o h) in
      let b = and_left (is_begin t y.move) (any (same_origin o) y.members) k in
      let i = and_right (is_begin t y.move) (any (same_origin o) y.members) k in
      let here : Among y acts = subst (λ (l : List Act). Among y l) (sym q) (among-left xs (a ∷ ys) y m) in
      let f = All-among (BeginsFirst t) acts y first here b in
      (y, here, f, begin-goes t y.move b, only o (first_of y.place) (subst (λ (l : List Origin). any (same_origin o) l ≡ true) f i))
    where
      only : (o z : Origin) → (same_origin o z || false) ≡ true → o ≡ z
      only o z w = same-eq o z (sym (or-false (same_origin o z)) ∙ w)

  -- so an end's members are told apart by their makers
  makers-tell : (p : ℕ) (xs ys : List Act) (a : Act) → acts ≡ xs ++ a ∷ ys → is_end a.move ≡ true
      → any (λ o. eqb o.maker (suc p)) a.members ≡ any (same_origin (first_of p)) a.members
  makers-tell p xs ys a q en = any_same (λ o. eqb o.maker (suc p)) (same_origin (first_of p)) a.members
      (All-concerned (λ o. eqb o.maker (suc p) ≡ same_origin (first_of p) o) a.members
      (λ o h. same o (ap (λ (z : Origin). z.index) (begin-of xs ys a q en o h).4)))
    where
      same : (o : Origin) → o.index ≡ 0 → eqb o.maker (suc p) ≡ same_origin (first_of p) o
      same o z = eqb_swap o.maker (suc p) ∙ sym (and-true (eqb (suc p) o.maker)) ∙ ap (λ (n : ℕ). eqb (suc p) o.maker && eqb 0 n) (sym z)

  -- who ends the member begun by y ends y's member
  ends-begun : (y : Act) → y.members ≡ first_of y.place ∷ [] → is_end y.move ≡ false → All (λ a. ends_begun y.place a ≡ ends_member_of y a) acts
  ends-begun y f n = All-split (λ a. ends_begun y.place a ≡ ends_member_of y a) acts (λ xs ys a q. by_bool (is_end a.move)
      (λ en. rw (en, n, f) (makers-tell y.place xs ys a q en ∙ sym (or-false (any (same_origin (first_of y.place)) a.members))))
      (λ en. rw en))

  pub end-place : (xs ys : List Act) (a : Act) → acts ≡ xs ++ a ∷ ys → is_end a.move ≡ true → (o : Origin) → concerns a o ≡ true
      → end_after (o.maker - 1) 0 acts ≡ a.place
  end-place xs ys a q en o h = go (begin-of xs ys a q en o h)
    where
      go : (y : Act) × Among y acts × (y.members ≡ first_of y.place ∷ []) × (is_end y.move ≡ false) × (o ≡ first_of y.place)
          → end_after (o.maker - 1) 0 acts ≡ a.place
      go (y, m, f, n, z) =
          let p = y.place in
          let (us, vs, w) = among-split acts y m in
          let one : count_if (ends_begun p) acts ≡ 1 = count_same (ends_begun p) (ends_member_of y) acts (ends-begun y f n) ∙ one_block us vs y w (rw (n, f)) in
          let ends : ends_begun p a ≡ true = rw en (makers-tell p xs ys a q en ∙ subst (λ (x : Origin). any (same_origin x) a.members ≡ true) z h) in
          let number : o.maker - 1 ≡ p = (let k : o.maker ≡ suc p = ap (λ (x : Origin). x.maker) z in omega arith) in
          ap (λ (i : ℕ). end_after i 0 acts) number ∙ ap (end_after p 0) q ∙ after-only p 0 xs ys a ends (ap (count_if (ends_begun p)) (sym q) ∙ one)
