-- Moves on states that are functions of the origin: what a move does to each cell, what it leaves alone, and when two such actions commute.
use Rattle.std.specs.Prelude.{◌≡◌, refl, Bool, true, false, cond, ◌||◌, ◌⊎◌, List, ℕ, suc, eqb}
use Rattle.std.proofs.Common.{sym, subst, ◌∙◌, true≢false, inl, inr, arith, eqb-true}
use Rattle.std.proofs.Math.Path.{fun_ext}
use Rattle.std.proofs.Math.Option.{Option, none, some}
use Rattle.lists.specs.Lists.{is_in}
use Rattle.lists.specs.Choices.{by_bool, clash, is_false, or_cases}
use Rattle.semantics.specs.State.{Origin, Entry}
use Rattle.cells.specs.Origins.{or_else, or_else-none, bind_o, look, some_inj, none-some, is_none}

abbrev pub Cells : Type 0
Cells = Origin → Option Entry

-- what a move does to each cell
pub record Action : Type 0 where
  pub gone : Origin → Bool
  pub change : Entry → Option Entry
  pub new : List Entry

abbrev pub apply : Cells → Action → Cells
apply f A o = or_else (cond (A.gone o) none (bind_o A.change (f o))) (look o A.new)

-- where an entry comes from
abbrev pub Source : Cells → Action → Origin → Entry → Type 0
Source f A o e = ((c : Entry) × (f o ≡ some c) × (A.gone o ≡ false) × (A.change c ≡ some e)) ⊎ (look o A.new ≡ some e)

pub apply-inv : (f : Cells) (A : Action) (o : Origin) (e : Entry) → apply f A o ≡ some e → Source f A o e
apply-inv f A o e = go (A.gone o) refl (f o) refl
  where
    kept : (c : Entry) → f o ≡ some c → A.gone o ≡ false → (x : Option Entry) → A.change c ≡ x → or_else x (look o A.new) ≡ some e → Source f A o e
    kept c w g none q h = inr h
    kept c w g (some d) q h = inl (c, w, g, q ∙ h)

    go : (b : Bool) → A.gone o ≡ b → (x : Option Entry) → f o ≡ x → or_else (cond b none (bind_o A.change x)) (look o A.new) ≡ some e → Source f A o e
    go true g x w h = inr h
    go false g none w h = inr h
    go false g (some c) w h = kept c w g (A.change c) refl h

-- ---- two actions commute at a cell

pub core : (g_a g_b : Bool) (A B : Entry → Option Entry) (n_a n_b c : Option Entry)
    → ((e : Entry) → n_a ≡ some e → (c ≡ none) × (g_b ≡ false) × (B e ≡ some e) × (n_b ≡ none))
    → ((e : Entry) → n_b ≡ some e → (c ≡ none) × (g_a ≡ false) × (A e ≡ some e) × (n_a ≡ none))
    → ((e : Entry) → bind_o B (A e) ≡ bind_o A (B e))
    → or_else (cond g_b none (bind_o B (or_else (cond g_a none (bind_o A c)) n_a))) n_b
    ≡ or_else (cond g_a none (bind_o A (or_else (cond g_b none (bind_o B c)) n_b))) n_a
core g_a true A B (some a) n_b c h_a h_b hc = absurd (true≢false (h_a a refl).1)
core true false A B (some a) n_b c h_a h_b hc = rw (h_a a refl).2
core false false A B (some a) n_b c h_a h_b hc = let q = h_a a refl in rw (q.0, q.3, q.2)
core true g_b A B none (some b) c h_a h_b hc = absurd (true≢false (h_b b refl).1)
core false true A B none (some b) c h_a h_b hc = let q = h_b b refl in rw q.2
core false false A B none (some b) c h_a h_b hc = let q = h_b b refl in rw (q.0, q.2)
core true true A B none none c h_a h_b hc = refl
core true false A B none none c h_a h_b hc = refl
core false true A B none none c h_a h_b hc = refl
core false false A B none none none h_a h_b hc = refl
core false false A B none none (some e) h_a h_b hc = simp or_else-none (hc e)

pub commute : (f : Cells) (A B : Action)
    → ((o : Origin) (e : Entry) → look o A.new ≡ some e → (f o ≡ none) × (B.gone o ≡ false) × (B.change e ≡ some e) × (look o B.new ≡ none))
    → ((o : Origin) (e : Entry) → look o B.new ≡ some e → (f o ≡ none) × (A.gone o ≡ false) × (A.change e ≡ some e) × (look o A.new ≡ none))
    → ((e : Entry) → bind_o B.change (A.change e) ≡ bind_o A.change (B.change e))
    → apply (apply f A) B ≡ apply (apply f B) A
commute f A B h_a h_b hc = fun_ext (λ o. core (A.gone o) (B.gone o) A.change B.change (look o A.new) (look o B.new) (f o) (h_a o) (h_b o) hc)

-- ---- what an action on the transactions bs does elsewhere: nothing

-- a global entry, or one of these transactions
abbrev pub mine : List ℕ → Entry → Bool
mine bs e = eqb e.owner 0 || is_in e.owner bs

-- the action of the move at place i, on the transactions bs
pub record Local (A : Action) (bs : List ℕ) (i : ℕ) : Type 0 where
  pub other : (e : Entry) → is_in e.owner bs ≡ false → A.change e ≡ some e
  pub result : (e e' : Entry) → is_in e.owner bs ≡ true → A.change e ≡ some e' → mine bs e' ≡ true
  pub made : (o : Origin) (e : Entry) → look o A.new ≡ some e → (o.maker ≡ suc i) × (mine bs e ≡ true)

-- an action whose results all stay in its transactions
pub record Inner (A : Action) (bs : List ℕ) : Type 0 where
  pub total : (e : Entry) → is_in e.owner bs ≡ true → (e' : Entry) × (A.change e ≡ some e') × (is_in e'.owner bs ≡ true)
  pub inside : (o : Origin) (e : Entry) → look o A.new ≡ some e → is_in e.owner bs ≡ true

module _ (f : Cells) (A : Action) (bs : List ℕ) (i : ℕ) (L : Local A bs i) where
  -- an entry of another transaction stays as it is
  pub frame-keep : (o : Origin) (e : Entry) → f o ≡ some e → is_in e.owner bs ≡ false → A.gone o ≡ false → apply f A o ≡ some e
  frame-keep o e h k g = rw (g, h, L.other e k)

  -- an entry was there, or it is the action's
  pub frame-from : (o : Origin) (e : Entry) → apply f A o ≡ some e → (f o ≡ some e) ⊎ (mine bs e ≡ true)
  frame-from o e h = go (apply-inv f A o e h)
    where
      go : Source f A o e → (f o ≡ some e) ⊎ (mine bs e ≡ true)
      go (inl (c, w, g, q)) = by_bool (is_in c.owner bs) (λ k. inr (L.result c e k q)) (λ k. inl (w ∙ sym (L.other c k) ∙ q))
      go (inr q) = inr (L.made o e q).1

  -- an entry of another transaction was there as it is
  pub frame_back : Inner A bs → (o : Origin) (e : Entry) → apply f A o ≡ some e → is_in e.owner bs ≡ false → f o ≡ some e
  frame_back I o e h k = go (apply-inv f A o e h)
    where
      go : Source f A o e → f o ≡ some e
      go (inl (c, w, g, q)) = by_bool (is_in c.owner bs)
          (λ j. let r = I.total c j in absurd (clash (subst (λ (z : Entry). is_in z.owner bs ≡ true) (some_inj (sym r.1 ∙ q)) r.2) k))
          (λ j. w ∙ sym (L.other c j) ∙ q)
      go (inr q) = absurd (clash (I.inside o e q) k)

  -- such an action loses only what it takes
  pub frame-lives : Inner A bs → (o : Origin) → apply f A o ≡ none → A.gone o ≡ false → f o ≡ none
  frame-lives I o h g = is_none (f o) (λ e w. by_bool (is_in e.owner bs)
      (λ j. let r = I.total e j in let k : apply f A o ≡ some r.0 = rw (g, w, r.1) in none-some (sym h ∙ k))
      (λ j. none-some (sym h ∙ frame-keep o e w j g)))

-- an entry of one action's transactions, or a global one, is in none of the other's
pub not_in : (bs cs : List ℕ) (e : Entry) → is_in 0 cs ≡ false → ((v : ℕ) → is_in v cs ≡ true → is_in v bs ≡ true → ⊥) → mine bs e ≡ true
    → is_in e.owner cs ≡ false
not_in bs cs e z ap' h = go (or_cases (eqb e.owner 0) (is_in e.owner bs) h)
  where
    go : (eqb e.owner 0 ≡ true) ⊎ (is_in e.owner bs ≡ true) → is_in e.owner cs ≡ false
    go (inl k) = subst (λ (v : ℕ). is_in v cs ≡ false) (sym (eqb-true e.owner 0 k)) z
    go (inr k) = is_false (is_in e.owner cs) (λ j. ap' e.owner j k)

-- ---- two actions on different transactions commute

module _ (f : Cells) (A B : Action) (bs cs : List ℕ) (i j : ℕ) (LA : Local A bs i) (LB : Local B cs j)
    (zb : is_in 0 bs ≡ false) (zc : is_in 0 cs ≡ false) (apart : (v : ℕ) → is_in v bs ≡ true → is_in v cs ≡ true → ⊥) (differ : i ≡ j → ⊥) where
  pub not-theirs : (e : Entry) → is_in e.owner bs ≡ true → is_in e.owner cs ≡ false
  not-theirs e k = is_false (is_in e.owner cs) (λ l. apart e.owner k l)

  -- what B leaves, A leaves alone, and the other way
  pub skips-A : (e : Entry) → mine cs e ≡ true → A.change e ≡ some e
  skips-A e k = LA.other e (not_in cs bs e zb apart k)

  pub skips-B : (e : Entry) → mine bs e ≡ true → B.change e ≡ some e
  skips-B e k = LB.other e (not_in bs cs e zc (λ v k l. apart v l k) k)

  pub swap-change : (e : Entry) → bind_o B.change (A.change e) ≡ bind_o A.change (B.change e)
  swap-change e = by_bool (is_in e.owner bs)
      (λ k. in_a k (LB.other e (not-theirs e k)) (A.change e) refl)
      (λ k. let w = LA.other e k in by_bool (is_in e.owner cs) (λ l. in_b l w (B.change e) refl) (λ l. let u = LB.other e l in rw (w, u, w)))
    where
      in_a : is_in e.owner bs ≡ true → B.change e ≡ some e → (x : Option Entry) → A.change e ≡ x
          → bind_o B.change (A.change e) ≡ bind_o A.change (B.change e)
      in_a k w none q = rw (w, q)
      in_a k w (some e') q = rw (w, q, skips-B e' (LA.result e e' k q))

      in_b : is_in e.owner cs ≡ true → A.change e ≡ some e → (x : Option Entry) → B.change e ≡ x
          → bind_o B.change (A.change e) ≡ bind_o A.change (B.change e)
      in_b l w none q = rw (w, q)
      in_b l w (some e') q = rw (w, q, skips-A e' (LB.result e e' l q))

  pub swap-cells : ((o : Origin) → o.maker ≡ suc i → f o ≡ none) → ((o : Origin) → o.maker ≡ suc j → f o ≡ none)
      → ((o : Origin) → A.gone o ≡ true → (e : Entry) × (f o ≡ some e)) → ((o : Origin) → B.gone o ≡ true → (e : Entry) × (f o ≡ some e))
      → apply (apply f A) B ≡ apply (apply f B) A
  swap-cells fa fb ga gb = commute f A B
      (λ o e h. let n = fa o (LA.made o e h).0 in (
        n,
        is_false (B.gone o) (λ k. none-some (sym n ∙ (gb o k).1)),
        skips-B e (LA.made o e h).1,
        is_none (look o B.new) (λ d k. let p = (LA.made o e h).0 in let q = (LB.made o d k).0 in differ (omega arith)),
      ))
      (λ o e h. let n = fb o (LB.made o e h).0 in (
        n,
        is_false (A.gone o) (λ k. none-some (sym n ∙ (ga o k).1)),
        skips-A e (LB.made o e h).1,
        is_none (look o A.new) (λ d k. let p = (LB.made o e h).0 in let q = (LA.made o d k).0 in differ (omega arith)),
      ))
      swap-change
