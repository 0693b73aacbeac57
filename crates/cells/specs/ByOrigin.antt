-- Lists of entries with different origins, seen as functions of the origin.
use Rattle.std.specs.Prelude.{◌≡◌, refl, Bool, true, false, cond, not, ◌&&◌, ◌||◌, List, [], ◌∷◌, ◌++◌, map, ℕ, zero, suc, ◌+◌, ◌<◌, eqb, ltb, length}
use Rattle.std.proofs.Common.{sym, ap, subst, ◌∙◌, true≢false, add-zero, not-suc-le-zero, arith, eqb-true, ltb-true, ltb-false}
use Rattle.std.proofs.lemmas.Bool.{false≢true, eqb-false}
use Rattle.std.proofs.Math.Option.{Option, none, some}
use Rattle.std.proofs.Math.ListN.{get_or-eq_default}
use Rattle.lists.specs.Lists.{all, any, is_in, keep, keep_if, distinct, without}
use Rattle.lists.specs.Tests.{or-right-true}
use Rattle.lists.specs.Choices.{by_bool, is_false, and_left, and_right, and_intro}
use Rattle.lists.specs.Each.{All}
use Rattle.semantics.specs.State.{Origin, Entry, is_message}
use Rattle.semantics.specs.Move.{nothing, entry_at, on_ports}
use Rattle.semantics.specs.Serial.{origins_of, same_origin, place_of}
use Rattle.cells.specs.Origins.{or_else, omap, bind_o, same_refl, same-eq, is_in_o, distinct_o, look, some_inj, none-some, look-origin}

pub look-append : (o : Origin) (l r : List Entry) → look o (l ++ r) ≡ or_else (look o l) (look o r)
look-append o [] r = refl
look-append o (e ∷ l) r = go (same_origin o e.origin) (look-append o l r)
  where
    go : (b : Bool) → look o (l ++ r) ≡ or_else (look o l) (look o r) → cond b (some e) (look o (l ++ r)) ≡ or_else (cond b (some e) (look o l)) (look o r)
    go true ih = refl
    go false ih = ih

pub look-map : (g : Entry → Entry) → ((e : Entry) → (g e).origin ≡ e.origin) → (o : Origin) (l : List Entry) → look o (map g l) ≡ omap g (look o l)
look-map g h o [] = refl
look-map g h o (e ∷ l) = subst (λ (p : Origin). cond (same_origin o p) (some (g e)) (look o (map g l)) ≡ omap g (look o (e ∷ l))) (sym (h e))
    (go (same_origin o e.origin) (look-map g h o l))
  where
    go : (b : Bool) → look o (map g l) ≡ omap g (look o l) → cond b (some (g e)) (look o (map g l)) ≡ omap g (cond b (some e) (look o l))
    go true ih = refl
    go false ih = ih

-- no two entries have the same origin
abbrev pub Uniq : List Entry → Type 0
Uniq [] = Unit
Uniq (e ∷ l) = (look e.origin l ≡ none) × Uniq l

pub look-head : (e : Entry) (l : List Entry) → look e.origin (e ∷ l) ≡ some e
look-head e l = rw (same_refl e.origin)

-- what is found past the first entry is found
pub look-deeper : (x : Entry) (l : List Entry) → look x.origin l ≡ none → (o : Origin) {e : Entry} → look o l ≡ some e → look o (x ∷ l) ≡ some e
look-deeper x l u o {e} k = go (same_origin o x.origin) refl
  where
    go : (b : Bool) → same_origin o x.origin ≡ b → cond b (some x) (look o l) ≡ some e
    go true w = absurd (none-some (sym u ∙ ap (λ (o : Origin). look o l) (sym (same-eq o x.origin w)) ∙ k))
    go false w = k

abbrev pub only_if : (Entry → Bool) → Entry → Option Entry
only_if q e = cond (q e) (some e) none

pub look-keep : (q : Entry → Bool) (o : Origin) (l : List Entry) → Uniq l → look o (keep q l) ≡ bind_o (only_if q) (look o l)
look-keep q o [] u = refl
look-keep q o (e ∷ l) u = go (q e) refl (same_origin o e.origin) refl (look-keep q o l u.1)
  where
    go : (c : Bool) → q e ≡ c → (b : Bool) → same_origin o e.origin ≡ b → look o (keep q l) ≡ bind_o (only_if q) (look o l)
        → look o (keep_if c e (keep q l)) ≡ bind_o (only_if q) (cond b (some e) (look o l))
    go true p true w ih = rw (w, p)
    go true p false w ih = rw w ih
    go false p true w ih = ih ∙ rw (same-eq o e.origin w, u.0, p)
    go false p false w ih = ih

pub uniq-keep : (q : Entry → Bool) (l : List Entry) → Uniq l → Uniq (keep q l)
uniq-keep q [] u = tt
uniq-keep q (e ∷ l) u = go (q e) (uniq-keep q l u.1)
  where
    go : (c : Bool) → Uniq (keep q l) → Uniq (keep_if c e (keep q l))
    go true ih = (look-keep q e.origin l u.1 ∙ ap (bind_o (only_if q)) u.0, ih)
    go false ih = ih

pub uniq-map : (g : Entry → Entry) → ((e : Entry) → (g e).origin ≡ e.origin) → (l : List Entry) → Uniq l → Uniq (map g l)
uniq-map g h [] u = tt
uniq-map g h (e ∷ l) u = (rw (h e) (look-map g h e.origin l ∙ ap (omap g) u.0), uniq-map g h l u.1)

pub uniq-append : (l r : List Entry) → Uniq l → Uniq r → ((o : Origin) (e : Entry) → look o l ≡ some e → look o r ≡ none) → Uniq (l ++ r)
uniq-append [] r u v h = v
uniq-append (e ∷ l) r u v h = (
  look-append e.origin l r ∙ rw (u.0, h e.origin e (look-head e l)),
  uniq-append l r u.1 v
      (λ o e' k. h o e' (look-deeper e l u.0 o k)),
)

-- ---- places

pub look_at : (l : List Entry) (p : ℕ) → Uniq l → p < length l → look (entry_at l p).origin l ≡ some (entry_at l p)
look_at [] p u h = absurd (not-suc-le-zero h)
look_at (e ∷ l) zero u h = look-head e l
look_at (e ∷ l) (suc p) u h = look-deeper e l u.0 (entry_at l p).origin (look_at l p u.1 (omega arith))

pub at-inj : (l : List Entry) (p q : ℕ) → Uniq l → p < length l → q < length l → (entry_at l p).origin ≡ (entry_at l q).origin → p ≡ q
at-inj [] p q u h k e = absurd (not-suc-le-zero h)
at-inj (x ∷ l) zero zero u h k e = refl
at-inj (x ∷ l) zero (suc q) u h k e = absurd (none-some (sym u.0 ∙ ap (λ (o : Origin). look o l) e ∙ look_at l q u.1 (omega arith)))
at-inj (x ∷ l) (suc p) zero u h k e = absurd (none-some (sym u.0 ∙ ap (λ (o : Origin). look o l) (sym e) ∙ look_at l p u.1 (omega arith)))
at-inj (x ∷ l) (suc p) (suc q) u h k e = ap suc (at-inj l p q u.1 (omega arith) (omega arith) e)

pub place_found : (o : Origin) (l : List Entry) (e : Entry) → look o l ≡ some e → (place_of l o < length l) × (entry_at l (place_of l o) ≡ e)
place_found o [] e h = absurd (none-some h)
place_found o (x ∷ l) e h = go (place_found o l e) (same_origin o x.origin) h
  where
    go : (look o l ≡ some e → (place_of l o < length l) × (entry_at l (place_of l o) ≡ e)) → (b : Bool) → cond b (some x) (look o l) ≡ some e
        → (cond b 0 (suc (place_of l o)) < length (x ∷ l)) × (entry_at (x ∷ l) (cond b 0 (suc (place_of l o))) ≡ e)
    go ih true k = (omega arith, some_inj k)
    go ih false k = let q = ih k in (let r = q.0 in omega arith, q.1)

-- ---- picks

pub in-range : (l : List Entry) (p : ℕ) → is_message (entry_at l p) ≡ true → p < length l
in-range l p h = by_bool (ltb p (length l)) (λ q. ltb-true p (length l) q)
    (λ q. absurd (let w = ltb-false p (length l) q in past (get_or-eq_default l nothing w)))
  where
    past : entry_at l p ≡ nothing → ⊥
    past e = true≢false (sym h ∙ rw e)

-- the parts of on_ports
pub ports-head : (t : ℕ) (ts : List ℕ) (e : Entry) (es : List Entry) → on_ports (t ∷ ts) (e ∷ es) ≡ true → is_message e ≡ true
ports-head t ts e es h = and_left (is_message e) (eqb e.port t) (and_left (is_message e && eqb e.port t) (on_ports ts es) h)

pub ports-tail : (t : ℕ) (ts : List ℕ) (e : Entry) (es : List Entry) → on_ports (t ∷ ts) (e ∷ es) ≡ true → on_ports ts es ≡ true
ports-tail t ts e es h = and_right (is_message e && eqb e.port t) (on_ports ts es) h

pub ports-messages : (ts : List ℕ) (es : List Entry) → on_ports ts es ≡ true → all is_message es ≡ true
ports-messages [] [] h = refl
ports-messages [] (e ∷ es) h = absurd (false≢true h)
ports-messages (t ∷ ts) [] h = refl
ports-messages (t ∷ ts) (e ∷ es) h = and_intro (ports-head t ts e es h) (ports-messages ts es (ports-tail t ts e es h))

pub ports-range : (l : List Entry) (ps : List ℕ) → all is_message (map (entry_at l) ps) ≡ true → All (λ p. p < length l) ps
ports-range l [] h = tt
ports-range l (p ∷ ps) h = (
  in-range l p (and_left (is_message (entry_at l p)) (all is_message (map (entry_at l) ps)) h),
  ports-range l ps
      (and_right (is_message (entry_at l p)) (all is_message (map (entry_at l) ps)) h),
)

pub picks-same : (l : List Entry) (ps : List ℕ) (j : ℕ) → Uniq l → All (λ p. p < length l) ps → j < length l
    → is_in j ps ≡ is_in_o (entry_at l j).origin (origins_of (map (entry_at l) ps))
picks-same l [] j u h k = refl
picks-same l (p ∷ ps) j u h k = rw (test, picks-same l ps j u h.1 k)
  where
    test : eqb j p ≡ same_origin (entry_at l j).origin (entry_at l p).origin
    test = by_bool (eqb j p)
        (λ q. q ∙ sym (subst (λ (n : ℕ). same_origin (entry_at l j).origin (entry_at l n).origin ≡ true) (eqb-true j p q) (same_refl (entry_at l j).origin)))
        (λ q. q ∙ sym (is_false (same_origin (entry_at l j).origin (entry_at l p).origin)
        (λ w. eqb-false j p q (at-inj l j p u k h.0 (same-eq (entry_at l j).origin (entry_at l p).origin w)))))

pub picks-distinct : (l : List Entry) (ps : List ℕ) → Uniq l → All (λ p. p < length l) ps → distinct ps ≡ distinct_o (origins_of (map (entry_at l) ps))
picks-distinct l [] u h = refl
picks-distinct l (p ∷ ps) u h = rw (picks-same l ps p u h.1 h.0, picks-distinct l ps u h.1)

-- ---- the entries that are not picked

abbrev pub not_among : List Origin → Entry → Bool
not_among os e = not (is_in_o e.origin os)

pub without-keep : (ps : List ℕ) (os : List Origin) (l : List Entry) (k : ℕ) → ((j : ℕ) → j < length l → is_in (k + j) ps ≡ is_in_o (entry_at l j).origin os)
    → without ps k l ≡ keep (not_among os) l
without-keep ps os [] k h = refl
without-keep ps os (e ∷ l) k h = rw (
  head,
  without-keep ps os l (suc k)
      (λ j q. subst (λ (n : ℕ). is_in n ps ≡ is_in_o (entry_at l j).origin os) (omega arith) (h (suc j) (omega arith))),
)
  where
    head : is_in k ps ≡ is_in_o e.origin os
    head = subst (λ (n : ℕ). is_in n ps ≡ is_in_o e.origin os) (add-zero k) (h 0 (omega arith))

module _ (l : List Entry) (ps : List ℕ) (u : Uniq l) (h : All (λ p. p < length l) ps) where
  pub without_is : without ps 0 l ≡ keep (not_among (origins_of (map (entry_at l) ps))) l
  without_is = without-keep ps (origins_of (map (entry_at l) ps)) l 0
      (λ j k. subst (λ (n : ℕ). is_in n ps ≡ is_in_o (entry_at l j).origin (origins_of (map (entry_at l) ps))) (omega arith) (picks-same l ps j u h k))

  pub look-without : (o : Origin) → look o (without ps 0 l) ≡ cond (is_in_o o (origins_of (map (entry_at l) ps))) none (look o l)
  look-without o = ap (look o) without_is ∙ look-keep (not_among (origins_of (map (entry_at l) ps))) o l u ∙ go (look o l) refl
    where
      two : (b : Bool) (e : Entry) → Path (Option Entry) (cond (not b) (some e) none) (cond b none (some e))
      two true e = refl
      two false e = refl

      both-none : (b : Bool) → Path (Option Entry) none (cond b none none)
      both-none true = refl
      both-none false = refl

      go : (x : Option Entry) → look o l ≡ x → bind_o (only_if (not_among (origins_of (map (entry_at l) ps)))) x ≡ cond
          (is_in_o o (origins_of (map (entry_at l) ps))) none x
      go none q = both-none (is_in_o o (origins_of (map (entry_at l) ps)))
      go (some e) q = ap (λ (z : Origin). cond (not (is_in_o z (origins_of (map (entry_at l) ps)))) (some e) none) (look-origin o l q)
          ∙ two (is_in_o o (origins_of (map (entry_at l) ps))) e

  pub uniq-without : Uniq (without ps 0 l)
  uniq-without = rw without_is (uniq-keep (not_among (origins_of (map (entry_at l) ps))) l u)

-- ---- tests on a list, read as facts on what is found in it

pub look-any : (p : Entry → Bool) (o : Origin) (l : List Entry) (e : Entry) → look o l ≡ some e → p e ≡ true → any p l ≡ true
look-any p o [] e h k = absurd (none-some h)
look-any p o (x ∷ l) e h k = go (look-any p o l e) (same_origin o x.origin) h
  where
    go : (look o l ≡ some e → p e ≡ true → any p l ≡ true) → (b : Bool) → cond b (some x) (look o l) ≡ some e → any p (x ∷ l) ≡ true
    go ih true w = let z : p x ≡ true = subst (λ (z : Entry). p z ≡ true) (sym (some_inj w)) k in rw z
    go ih false w = or-right-true (p x) (ih w k)

pub any-look : (p : Entry → Bool) (l : List Entry) → Uniq l → any p l ≡ true → (o : Origin) × (e : Entry) × (look o l ≡ some e) × (p e ≡ true)
any-look p [] u h = absurd (false≢true h)
any-look p (x ∷ l) u h = go (any-look p l u.1) (p x) refl h
  where
    go : (any p l ≡ true → (o : Origin) × (e : Entry) × (look o l ≡ some e) × (p e ≡ true)) → (c : Bool) → p x ≡ c → (c || any p l) ≡ true
        → (o : Origin) × (e : Entry) × (look o (x ∷ l) ≡ some e) × (p e ≡ true)
    go ih true q w = (x.origin, x, look-head x l, q)
    go ih false q w = let r = ih w in (r.0, r.1, look-deeper x l u.0 r.0 r.2, r.3)

pub all-look : (p : Entry → Bool) (l : List Entry) → Uniq l → ((o : Origin) (e : Entry) → look o l ≡ some e → p e ≡ true) → all p l ≡ true
all-look p [] u h = refl
all-look p (x ∷ l) u h = and_intro (h x.origin x (look-head x l)) (all-look p l u.1 (λ o e k. h o e (look-deeper x l u.0 o k)))

-- what is found after a keep
pub look-kept : (q : Entry → Bool) (o : Origin) (l : List Entry) (e : Entry) → Uniq l → look o l ≡ some e → q e ≡ true → look o (keep q l) ≡ some e
look-kept q o l e u h k = look-keep q o l u ∙ rw (h, k)

pub kept-look : (q : Entry → Bool) (o : Origin) (l : List Entry) (e : Entry) → Uniq l → look o (keep q l) ≡ some e → (look o l ≡ some e) × (q e ≡ true)
kept-look q o l e u h = go (look o l) refl (sym (look-keep q o l u) ∙ h)
  where
    two : (d : Entry) → look o l ≡ some d → (b : Bool) → q d ≡ b → cond b (some d) none ≡ some e → (look o l ≡ some e) × (q e ≡ true)
    two d w true p k = (w ∙ k, subst (λ (z : Entry). q z ≡ true) (some_inj k) p)
    two d w false p k = absurd (none-some k)

    go : (x : Option Entry) → look o l ≡ x → bind_o (only_if q) x ≡ some e → (look o l ≡ some e) × (q e ≡ true)
    go none w k = absurd (none-some k)
    go (some d) w k = two d w (q d) refl k

-- the origins of a list are those at which something is found
pub origin-look : (o : Origin) (l : List Entry) → is_in_o o (origins_of l) ≡ true → (e : Entry) × (look o l ≡ some e)
origin-look o [] h = absurd (false≢true h)
origin-look o (x ∷ l) h = go (same_origin o x.origin) (origin-look o l) h
  where
    go : (b : Bool) → (is_in_o o (origins_of l) ≡ true → (e : Entry) × (look o l ≡ some e)) → (b || is_in_o o (origins_of l)) ≡ true
        → (e : Entry) × (cond b (some x) (look o l) ≡ some e)
    go true ih w = (x, refl)
    go false ih w = ih w

pub look-is_in : (o : Origin) (l : List Entry) (e : Entry) → look o l ≡ some e → is_in_o o (origins_of l) ≡ true
look-is_in o [] e h = absurd (none-some h)
look-is_in o (x ∷ l) e h = go (same_origin o x.origin) (look-is_in o l e) h
  where
    go : (b : Bool) → (look o l ≡ some e → is_in_o o (origins_of l) ≡ true) → cond b (some x) (look o l) ≡ some e → (b || is_in_o o (origins_of l)) ≡ true
    go true ih w = refl
    go false ih w = ih w
