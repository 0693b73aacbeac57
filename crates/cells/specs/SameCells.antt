-- Equal cells are equal counts: the serial log's end has the global messages of the log's end.
use Rattle.std.specs.Prelude.{◌≡◌, Bool, true, false, cond, not, List, [], ◌∷◌, map, ℕ, ◌+◌}
use Rattle.std.proofs.Math.Path.{refl, sym, ap}
use Rattle.std.proofs.Common.{◌∙◌, arith}
use Rattle.std.proofs.Math.Option.{Option, none, some}
use borrow.Author.Tests.{eq-eqb}
use Rattle.lists.specs.Lists.{all, any, count_if, one_if}
use Rattle.lists.specs.Choices.{and_left, and_right}
use Rattle.semantics.specs.State.{Origin, Entry, State, is_message, owned}
use Rattle.semantics.specs.Serial.{same_origin, any_open}
use Rattle.cells.specs.Origins.{omap, look, some_inj, none-some, same-eq, same_refl}
use Rattle.cells.specs.ByOrigin.{look-map, Uniq, uniq-map, all-look}
use Rattle.cells.specs.Actions.{strip}
use Rattle.cells.specs.Simulation.{view, strip-message}
use Rattle.cells.specs.Steps.{NoneOpen}
use Rattle.cells.specs.Rename.{rename, Rel}

-- ---- two lists of entries with different origins that look alike

abbrev pub drop_one : Origin → List Entry → List Entry
drop_one o [] = []
drop_one o (e ∷ l) = cond (same_origin o e.origin) l (e ∷ drop_one o l)

pub none_both : (b : Bool) → Path (Option Entry) (cond b none none) none
none_both true = refl
none_both false = refl

pub look-drop : (o q : Origin) (l : List Entry) → Uniq l → look q (drop_one o l) ≡ cond (same_origin q o) none (look q l)
look-drop o q [] u = sym (none_both (same_origin q o))
look-drop o q (e ∷ l) u = go (same_origin o e.origin) refl (same_origin q o) refl (look-drop o q l u.1)
  where
    go : (b : Bool) → same_origin o e.origin ≡ b → (c : Bool) → same_origin q o ≡ c → look q (drop_one o l) ≡ cond (same_origin q o) none (look q l)
        → look q (cond b l (e ∷ drop_one o l)) ≡ cond c none (cond (same_origin q e.origin) (some e) (look q l))
    go true x true y ih = ap (λ (z : Origin). look z l) (same-eq q o y ∙ same-eq o e.origin x) ∙ u.0
    go true x false y ih = let z : same_origin q e.origin ≡ false = ap (same_origin q) (sym (same-eq o e.origin x)) ∙ y in rw z
    go false x true y ih = let z : same_origin q e.origin ≡ false = ap (λ (w : Origin). same_origin w e.origin) (same-eq q o y) ∙ x in rw z (ih ∙ rw y)
    go false x false y ih = ap (cond (same_origin q e.origin) (some e)) (ih ∙ rw y)

pub uniq-drop : (o : Origin) (l : List Entry) → Uniq l → Uniq (drop_one o l)
uniq-drop o [] u = tt
uniq-drop o (e ∷ l) u = go (same_origin o e.origin) (uniq-drop o l u.1)
  where
    go : (b : Bool) → Uniq (drop_one o l) → Uniq (cond b l (e ∷ drop_one o l))
    go true ih = u.1
    go false ih = (look-drop o e.origin l u.1 ∙ rw u.0 (none_both (same_origin e.origin o)), ih)

pub count-drop : (p : Entry → Bool) (o : Origin) (l : List Entry) (e : Entry) → look o l ≡ some e → count_if p l ≡ count_if p (e ∷ drop_one o l)
count-drop p o [] e h = absurd (none-some h)
count-drop p o (x ∷ l) e h = go (same_origin o x.origin) (count-drop p o l e) h
  where
    go : (b : Bool) → (look o l ≡ some e → count_if p l ≡ count_if p (e ∷ drop_one o l)) → cond b (some x) (look o l) ≡ some e
        → count_if p (x ∷ l) ≡ count_if p (e ∷ cond b l (x ∷ drop_one o l))
    go true ih w = ap (λ (y : Entry). count_if p (y ∷ l)) (some_inj w)
    go false ih w = let k = ih w in omega arith

pub count-alike : (p : Entry → Bool) (l r : List Entry) → Uniq l → Uniq r → ((o : Origin) → look o l ≡ look o r) → count_if p l ≡ count_if p r
count-alike p [] [] u v h = refl
count-alike p [] (e ∷ r) u v h = let w : look e.origin (e ∷ r) ≡ some e = rw (same_refl e.origin) in absurd (none-some (h e.origin ∙ w))
count-alike p (e ∷ l) r u v h =
    let q : look e.origin r ≡ some e = sym (h e.origin) ∙ rw (same_refl e.origin) in
    ap (λ (n : ℕ). one_if (p e) + n) (count-alike p l (drop_one e.origin r) u.1 (uniq-drop e.origin r v) (λ o. rest o (same_origin o e.origin) refl))
    ∙ sym (count-drop p e.origin r e q)
  where
    rest : (o : Origin) (b : Bool) → same_origin o e.origin ≡ b → look o l ≡ look o (drop_one e.origin r)
    rest o true w = ap (λ (z : Origin). look z l) (same-eq o e.origin w) ∙ u.0 ∙ sym (look-drop e.origin o r v ∙ rw w)
    rest o false w = sym (look-drop e.origin o r v ∙ rw w (sym (h o) ∙ rw w))

-- ---- the ends

pub closed_all : (l : List Entry) → all (owned 0) l ≡ true → any (λ e. not (owned 0 e)) l ≡ false
closed_all [] h = refl
closed_all (e ∷ l) h = rw (and_left (owned 0 e) (all (owned 0) l) h) (closed_all l (and_right (owned 0 e) (all (owned 0) l) h))

module _ (c e : State) (ρ : ℕ → ℕ) (rel : Rel c (view e) ρ) (n : NoneOpen (view e)) (u : Uniq e.entries) where
  pub cells_same : (o : Origin) → look o (map strip c.entries) ≡ look o (map strip e.entries)
  unfolding view NoneOpen
  cells_same o = rel.cells o ∙ go ((view e).cell o) refl
    where
      go : (x : Option Entry) → (view e).cell o ≡ x → omap (rename ρ) x ≡ x
      go none h = refl
      go (some d) h = λ j. some (record { origin = d.origin; owner = zero-eq j; kind = d.kind; port = d.port; value = d.value })
        where
          zero-eq : ρ d.owner ≡ d.owner
          zero-eq = ap ρ (n o d h) ∙ rel.zero_is ∙ sym (n o d h)

  pub end-closed : any_open c ≡ false
  unfolding view NoneOpen
  end-closed = closed_all c.entries (all-look (owned 0) c.entries rel.uniq
      (λ o d h. eq-eqb d.owner 0 (n o (strip d) (sym (cells_same o) ∙ look-map strip (λ e. refl) o c.entries ∙ ap (omap strip) h))))

  pub messages-same : all is_message c.entries ≡ true → all is_message e.entries ≡ true → (p : Entry → Bool)
      → count_if p c.entries ≡ count_if p e.entries
  messages-same kinds-c kinds-e p = ap (count_if p) (sym (strip-all c.entries kinds-c))
      ∙ count-alike p (map strip c.entries) (map strip e.entries) (uniq-map strip (λ e. refl) c.entries rel.uniq)
      (uniq-map strip (λ e. refl) e.entries u) cells_same
      ∙ ap (count_if p) (strip-all e.entries kinds-e)
    where
      strip-all : (l : List Entry) → all is_message l ≡ true → map strip l ≡ l
      strip-all [] h = refl
      strip-all (x ∷ l) h =
          λ j. strip-message x (and_left (is_message x) (all is_message l) h) j ∷ strip-all l (and_right (is_message x) (all is_message l) h) j
