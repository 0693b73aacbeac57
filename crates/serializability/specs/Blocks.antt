-- The serial order is the stable sort by key: a move has the key of a commit or abort if and only if they share a member.
use Rattle.std.specs.Prelude.{◌≡◌, Bool, true, false, cond, not, ◌&&◌, List, [], ◌∷◌, ◌++◌, map, ℕ, suc, ◌+◌, ◌≤◌, ◌<◌, eqb}
use Rattle.std.proofs.Math.Path.{refl}
use Rattle.std.proofs.Common.{sym, ap, subst, ◌∙◌, true≢false, append_assoc, arith, eqb-true, eq-eqb, ne_eqb, length-append}
use Rattle.std.proofs.Math.Option.{some}
use Rattle.std.proofs.lemmas.List.{map-append}
use Rattle.std.proofs.Math.ListN.{length}
use Rattle.lists.specs.Lists.{any, is_empty, keep, keep_if, least}
use Rattle.lists.specs.Tests.{same_test}
use Rattle.lists.specs.Choices.{by_bool, and_left, and_right}
use Rattle.lists.specs.Parts.{keep_append, keep-map}
use Rattle.lists.specs.Each.{All, All-map, empty-nil, any_found, keep_same, keep-none}
use Rattle.semantics.specs.Table.{Table}
use Rattle.semantics.specs.State.{Origin, Entry, is_member_mark, owned}
use Rattle.semantics.specs.Serial.{Act, is_end, is_inner, same_origin, belongs_to, block, ordered}
use Rattle.cells.specs.Origins.{is_in_o, found_at}
use Rattle.cells.specs.Rules.{Shaped}
use Rattle.cells.specs.Deeds.{Deed, act_of}
use Rattle.serializability.specs.Keys.{ender, key_of, ender-ge, key-full}
use Rattle.cells.specs.Actions.{Seen, astep, mark_of, EndOk, end-ok}
use Rattle.cells.specs.Simulation.{Good}
use Rattle.cells.specs.Marks.{MarkAt}
use Rattle.serializability.specs.SameKey.{LogRuns, next-good, places-below-keys, key-bound}
use Rattle.cells.specs.Steps.{NoneOpen}
use Rattle.serializability.specs.Sort.{isort, key_is, arrange, arrange-isort}
use Rattle.serializability.specs.FollowMark.{seen_after, log-rest, place-length, ender-not, follow, Follows}

-- x and a have a member in common
abbrev pub shares : Deed → Deed → Bool
shares x a = any (λ o. any (same_origin o) a.members) x.members

-- an end's member is a mark in its transaction
pub end-member : (F : Seen) (a : Deed) → EndOk F a → (o : Origin) → is_in_o o a.members ≡ true → MarkAt F.cell o (least a.touched)
end-member F a E o h =
    let b = least a.touched in
    let q = found_at F.cell (mark_of b) o a.picks E.es E.found E.marks (subst (λ (l : List Origin). is_in_o o l ≡ true) E.members h) in (
      q.0,
      q.1,
      eqb-true q.0.kind 3 (and_left (is_member_mark q.0) (owned b q.0) q.2),
      eqb-true q.0.owner b
          (and_right (is_member_mark q.0) (owned b q.0) q.2),
    )

module _ (t : Table) (sd : Shaped t) (G : Seen) where
  module _ (i : ℕ) (F : Seen) (x : Deed) (zs ys : List Deed) (a : Deed) (g : Good i F) (r : LogRuns t i F (x ∷ zs ++ a ∷ ys) G) where
    Fa : Seen
    Fa = seen_after t (astep t F x) zs

    good-x : Good (suc i) (astep t F x)
    good-x = next-good t sd G i F x (zs ++ a ∷ ys) g r.0

    rest-a : LogRuns t (suc i + length zs) Fa (a ∷ ys) G × Good (suc i + length zs) Fa
    unfolding Fa
    rest-a = log-rest t sd (suc i) (astep t F x) G zs (a ∷ ys) good-x r.1 (suc i + length zs) refl

    later-place : i < a.place
    later-place = let w = place-length t (suc i) (astep t F x) G zs ys a r.1 in omega arith

    pub same_block : is_end x.move ≡ false → is_empty x.touched ≡ false → is_end a.move ≡ true → eqb x.key a.place ≡ shares x a
    unfolding Fa
    same_block nx ne en = same_test (eqb x.key a.place) (shares x a) (λ h. forth x.members mk.0 (mk.1 ∙ ne) (eqb-true x.key a.place h)) back
      where
        mk : All (λ o. MarkAt (astep t F x).cell o (least x.touched)) x.members × (is_empty x.members ≡ is_empty x.touched)
        mk = r.0.marked nx

        key-is : (v : ℕ) → v ≡ least x.touched → x.key ≡ ender (suc i) (zs ++ a ∷ ys) v
        key-is v q = r.0.key ∙ key-full (is_end x.move) i x.touched (zs ++ a ∷ ys) nx ne ∙ ap (ender (suc i) (zs ++ a ∷ ys)) (sym q)

        fo : (o : Origin) (e : Entry) → (astep t F x).cell o ≡ some e → e.kind ≡ 3 → Follows t sd G a ys en (suc i) (astep t F x) zs o e
        fo o e h k = follow t sd G a ys en zs (suc i) (astep t F x) good-x r.1 o e h k

        forth : (os : List Origin) → All (λ o. MarkAt (astep t F x).cell o (least x.touched)) os → is_empty os ≡ false → x.key ≡ a.place
            → any (λ o. any (same_origin o) a.members) os ≡ true
        forth [] m n q = absurd (true≢false n)
        forth (o ∷ os) ((e, h, k, w), m) n q =
            let d = (fo o e h k).0 (sym (key-is e.owner w) ∙ q) in
            let E = end-ok t Fa a rest-a.0.0.step.ok en in
            let z : is_in_o o a.members ≡ true = subst (λ (l : List Origin). is_in_o o l ≡ true) (sym E.members)
            (E.all-marks o d.0 d.1 d.3 d.2) in
            rw z

        back : shares x a ≡ true → eqb x.key a.place ≡ true
        back h = go (any_found (λ o. MarkAt (astep t F x).cell o (least x.touched)) (λ o. any (same_origin o) a.members) x.members h mk.0)
          where
            go : (o : Origin) × (any (same_origin o) a.members ≡ true) × (MarkAt (astep t F x).cell o (least x.touched)) → eqb x.key a.place ≡ true
            go (o, z, (e, p, k, w)) = let d = end-member Fa a (end-ok t Fa a rest-a.0.0.step.ok en) o z in
                eq-eqb x.key a.place (key-is e.owner w ∙ (fo o e p k).1 d.0 d.1 d.3)

    -- x's place in the block of a, or in none
    in_block : key_is a.place x ≡ cond (is_inner (act_of a)) false (belongs_to (act_of a) (act_of x))
    in_block = go (is_end x.move) refl (is_empty x.touched) refl
      where
        own_key : key_of (is_end x.move) i x.touched (zs ++ a ∷ ys) ≡ i → key_is a.place x ≡ false
        own_key q = ne_eqb x.key a.place (λ w. let y = r.0.key in let z = later-place in omega arith)

        both_false : (b : Bool) → false ≡ cond b false false
        both_false true = refl
        both_false false = refl

        none-shared : (os : List Origin) → any (λ o. any (same_origin o) []) os ≡ false
        none-shared [] = refl
        none-shared (o ∷ os) = none-shared os

        not_key : is_end x.move ≡ false → is_empty x.touched ≡ false → is_end a.move ≡ false → key_is a.place x ≡ false
        not_key p q en = ne_eqb x.key a.place (λ w. ender-not t sd G a ys en zs (suc i) (astep t F x) r.1 (least x.touched)
            (sym (r.0.key ∙ key-full (is_end x.move) i x.touched (zs ++ a ∷ ys) p q) ∙ w))

        -- of a move a that is no end
        by_members : is_end a.move ≡ false → (b : Bool) → is_empty a.members ≡ b → false ≡ cond (is_inner (act_of a)) false (belongs_to (act_of a) (act_of x))
        by_members en false m = rw (en, m)
        by_members en true m = rw (en, m, empty-nil a.members m) (sym (two (is_inner (act_of x)) (none-shared x.members)))
          where
            two : (b : Bool) → any (λ o. any (same_origin o) []) x.members ≡ false → (b && any (λ o. any (same_origin o) []) x.members) ≡ false
            two true z = z
            two false z = refl

        go : (b : Bool) → is_end x.move ≡ b → (c : Bool) → is_empty x.touched ≡ c
            → key_is a.place x ≡ cond (is_inner (act_of a)) false (belongs_to (act_of a) (act_of x))
        go true p c q = own_key (rw p) ∙ rw p (both_false (is_inner (act_of a)))
        go false p true q = own_key (rw (p, empty-nil x.touched q)) ∙ rw (p, (r.0.marked p).1 ∙ q) (both_false (is_inner (act_of a)))
        go false p false q = by_bool (is_end a.move)
            (λ en. same_block p q en ∙ rw (en, p, (r.0.marked p).1 ∙ q))
            (λ en. not_key p q en ∙ by_members en (is_empty a.members) refl)

  -- the moves before a, in its block or not
  before-block : (xs : List Deed) (i : ℕ) (F : Seen) (a : Deed) (ys : List Deed) → Good i F → LogRuns t i F (xs ++ a ∷ ys) G
      → All (λ x. key_is a.place x ≡ cond (is_inner (act_of a)) false (belongs_to (act_of a) (act_of x))) xs
  before-block [] i F a ys g r = tt
  before-block (x ∷ xs) i F a ys g r = (
    in_block i F x xs ys a g r,
    before-block xs (suc i) (astep t F x) a ys (next-good t sd G i F x (xs ++ a ∷ ys) g r.0) r.1,
  )

  -- a's own key
  own_block : (i : ℕ) (F : Seen) (a : Deed) (ys : List Deed) → LogRuns t i F (a ∷ ys) G → key_is a.place a ≡ not (is_inner (act_of a))
  own_block i F a ys r = go (is_end a.move) refl (is_empty a.touched) refl
    where
      is-own : key_of (is_end a.move) i a.touched ys ≡ i → key_is a.place a ≡ true
      is-own q = eq-eqb a.key a.place (r.0.key ∙ q ∙ sym r.0.step.place)

      go : (b : Bool) → is_end a.move ≡ b → (c : Bool) → is_empty a.touched ≡ c → key_is a.place a ≡ not (is_inner (act_of a))
      go true p c q = is-own (rw p) ∙ rw p
      go false p true q = is-own (rw (p, empty-nil a.touched q)) ∙ rw (p, (r.0.marked p).1 ∙ q)
      go false p false q =
          ne_eqb a.key a.place (λ w. let y = r.0.key ∙ key-full (is_end a.move) i a.touched ys p q in
          let z = ender-ge (suc i) ys (least a.touched) in
          let v = r.0.step.place in omega arith)
          ∙ rw (p, (r.0.marked p).1 ∙ q)

  -- the moves with the key of a's place are the block of a
  block-is : (xs : List Deed) (i : ℕ) (F : Seen) (a : Deed) (ys : List Deed) → Good i F → LogRuns t i F (xs ++ a ∷ ys) G
      → map act_of (keep (key_is a.place) (xs ++ a ∷ ys)) ≡ block (map act_of xs) (act_of a)
  block-is xs i F a ys g r = ap (map act_of) (keep_append (key_is a.place) xs (a ∷ ys)
      ∙ ap (λ (l : List Deed). keep (key_is a.place) xs ++ keep_if (key_is a.place a) a l) none-later)
      ∙ go (is_inner (act_of a)) refl
    where
      rest : LogRuns t (i + length xs) (seen_after t F xs) (a ∷ ys) G
      rest = (log-rest t sd i F G xs (a ∷ ys) g r (i + length xs) refl).0

      none-later : keep (key_is a.place) ys ≡ []
      none-later = keep-none (key_is a.place) ys (All-map {P = λ y. (suc (i + length xs) ≤ y.place)
          × (y.place ≤ y.key)} {Q = λ y. key_is a.place y ≡ false}
          (λ y h. ne_eqb y.key a.place (λ w. let u = h.0 in let v = h.1 in let z = rest.0.step.place in omega arith)) ys
          (places-below-keys t sd G (suc (i + length xs)) (astep t (seen_after t F xs) a) ys rest.1))

      before : (b : Bool) → is_inner (act_of a) ≡ b → All (λ x. key_is a.place x ≡ cond b false (belongs_to (act_of a) (act_of x))) xs
      before b q = subst (λ (c : Bool). All (λ x. key_is a.place x ≡ cond c false (belongs_to (act_of a) (act_of x))) xs) q (before-block xs i F a ys g r)

      go : (b : Bool) → is_inner (act_of a) ≡ b → map act_of (keep (key_is a.place) xs ++ keep_if (key_is a.place a) a [])
          ≡ cond b [] (keep (belongs_to (act_of a)) (map act_of xs) ++ act_of a ∷ [])
      go true q = let z : key_is a.place a ≡ false = own_block (i + length xs) (seen_after t F xs) a ys rest
          ∙ ap not q in rw (keep-none (key_is a.place) xs (before true q), z)
      go false q = let z : key_is a.place a ≡ true = own_block (i + length xs) (seen_after t F xs) a ys rest ∙ ap not q in
          rw (keep_same (key_is a.place) (λ x. belongs_to (act_of a) (act_of x)) xs (before false q), z)
          (map-append act_of (keep (λ x. belongs_to (act_of a) (act_of x)) xs) (a ∷ [])
          ∙ ap (λ (l : List Act). l ++ act_of a ∷ []) (sym (keep-map act_of (belongs_to (act_of a)) xs)))

  ordered-is : (rest xs : List Deed) (F : Seen) → Good 0 F → LogRuns t 0 F (xs ++ rest) G
      → ordered (map act_of xs) (map act_of rest) ≡ map act_of (arrange (length xs) (length rest) (xs ++ rest))
  ordered-is [] xs F g r = refl
  ordered-is (a ∷ rest) xs F g r =
      (λ j. block-eq j ++ tail-is (ordered-is rest (xs ++ a ∷ []) F g (subst (λ (l : List Deed). LogRuns t 0 F l G) (sym shifted) r)) j)
      ∙ sym (map-append act_of (keep (key_is (length xs)) (xs ++ a ∷ rest)) (arrange (suc (length xs)) (length rest) (xs ++ a ∷ rest)))
    where
      place_is : a.place ≡ length xs
      place_is = let w = place-length t 0 F G xs rest a r in omega arith

      block-eq : block (map act_of xs) (act_of a) ≡ map act_of (keep (key_is (length xs)) (xs ++ a ∷ rest))
      block-eq = sym (block-is xs 0 F a rest g r) ∙ ap (λ (n : ℕ). map act_of (keep (key_is n) (xs ++ a ∷ rest))) place_is

      shifted : (xs ++ a ∷ []) ++ rest ≡ xs ++ a ∷ rest
      shifted = append_assoc xs (a ∷ []) rest

      len : length (xs ++ a ∷ []) ≡ suc (length xs)
      len = let w = length-append xs (a ∷ []) in omega arith

      tail-is : ordered (map act_of (xs ++ a ∷ [])) (map act_of rest) ≡ map act_of (arrange (length (xs ++ a ∷ [])) (length rest) ((xs ++ a ∷ []) ++ rest))
          → ordered (map act_of xs ++ act_of a ∷ []) (map act_of rest) ≡ map act_of (arrange (suc (length xs)) (length rest) (xs ++ a ∷ rest))
      tail-is ih = ap (λ (l : List Act). ordered l (map act_of rest)) (sym (map-append act_of xs (a ∷ []))) ∙ ih
          ∙ (λ j. map act_of (arrange (len j) (length rest) (shifted j)))

  -- the serial order is the stable sort by key
  pub order-sorted : (xs : List Deed) (F : Seen) → Good 0 F → LogRuns t 0 F xs G → NoneOpen G → ordered [] (map act_of xs) ≡ map act_of (isort xs)
  order-sorted xs F g r n = ordered-is xs [] F g r ∙ ap (map act_of) (arrange-isort (length xs) 0 xs
      (All-map {P = λ x. x.key < 0 + length xs} {Q = λ x. (0 ≤ x.key) × (x.key < 0 + length xs)} (λ x k. (omega arith, k)) xs
      (key-bound t sd G 0 F xs g r n)))
