-- Cells under other ids: a list of entries with the same cells as a view, its owners renamed.
use Rattle.std.specs.Prelude.{◌≡◌, refl, Bool, true, false, cond, ◌&&◌, ◌⊎◌, List, [], ◌∷◌, map, ℕ, suc, ◌≤◌, ◌<◌, eqb, ltb, length}
use Rattle.std.proofs.Common.{sym, ap, ◌∙◌, inl, arith, eqb-true, eq-eqb, ltb-true, lt-ltb}
use Rattle.std.proofs.Math.Option.{Option, none, some}
use Rattle.lists.specs.Lists.{all, is_in, least}
use Rattle.lists.specs.Choices.{and_left, and_right, and_intro}
use Rattle.lists.specs.Numbers.{least-some, all-is_in, all-use, is_in-unmap}
use Rattle.lists.specs.Each.{All, head-eq, tail-eq}
use Rattle.semantics.specs.State.{Origin, Entry, State, is_message}
use Rattle.semantics.specs.Move.{is_zero, entry_at, on_ports, owners_fit, value_in, kind_made}
use Rattle.semantics.specs.Serial.{origins_of, place_of}
use Rattle.semantics.specs.declared.Atom.{Atom}
use Rattle.cells.specs.Origins.{or_else, omap, bind_o, look, look-origin, omap-some}
use Rattle.cells.specs.ByOrigin.{Uniq, place_found}
use Rattle.cells.specs.Rules.{owners, values, zeros, make}
use Rattle.cells.specs.Actions.{Seen, strip}
use Rattle.cells.specs.Simulation.{view, view-cell, view-some, strip-message}

abbrev pub rename : (ℕ → ℕ) → Entry → Entry
rename ρ e = record { origin = e.origin; owner = ρ e.owner; kind = e.kind; port = e.port; value = e.value }

-- an owner that there is
abbrev pub Live : Seen → ℕ → Type 0
Live F v = (v ≡ 0) ⊎ ((o : Origin) × (e : Entry) × (F.cell o ≡ some e) × (e.owner ≡ v))

-- the state c has F's cells, with each owner v under the name ρ v
pub record Rel (c : State) (F : Seen) (ρ : ℕ → ℕ) : Type 0 where
  pub uniq : Uniq c.entries
  pub next-is : c.next ≡ F.next
  pub cells : (o : Origin) → (view c).cell o ≡ omap (rename ρ) (F.cell o)
  pub zero_is : ρ 0 ≡ 0
  pub pos : 1 ≤ F.next
  pub inj : (v w : ℕ) → Live F v → Live F w → ρ v ≡ ρ w → v ≡ w
  pub below : (v : ℕ) → Live F v → ρ v < F.next

-- ---- lists under a renaming

pub ports-rename : (ρ : ℕ → ℕ) (ts : List ℕ) (es : List Entry) → on_ports ts (map (rename ρ) es) ≡ on_ports ts es
ports-rename ρ [] [] = refl
ports-rename ρ [] (e ∷ es) = refl
ports-rename ρ (t ∷ ts) [] = refl
ports-rename ρ (t ∷ ts) (e ∷ es) = rw (ports-rename ρ ts es)

pub owners-rename : (ρ : ℕ → ℕ) (es : List Entry) → owners (map (rename ρ) es) ≡ map ρ (owners es)
owners-rename ρ [] = refl
owners-rename ρ (e ∷ es) = rw (owners-rename ρ es)

pub values-rename : (ρ : ℕ → ℕ) (es : List Entry) → values (map (rename ρ) es) ≡ values es
values-rename ρ [] = refl
values-rename ρ (e ∷ es) = rw (values-rename ρ es)

pub fit-rename : (ρ : ℕ → ℕ) (k : ℕ) (ns : List ℕ) → ρ 0 ≡ 0 → ((v : ℕ) → is_in v ns ≡ true → ρ v ≡ 0 → v ≡ 0) → owners_fit k ns ≡ true
    → owners_fit k (map ρ ns) ≡ true
fit-rename ρ k ns z nz = go (eqb k 0) (eqb k 1)
  where
    positive : (w : ℕ) → (v : ℕ) × (is_in v ns ≡ true) × (ρ v ≡ w) → ((v : ℕ) → is_in v ns ≡ true → ltb 0 v ≡ true) → ltb 0 w ≡ true
    positive w (v, q, r) h = let p = ltb-true 0 v (h v q) in let n : w ≡ 0 → ⊥ = λ x. (let y = nz v q (r ∙ x) in omega arith) in lt-ltb 0 w (omega arith)

    go : (a b : Bool) → cond a (all is_zero ns) (cond b (all (λ o. ltb 0 o && eqb o (least ns)) ns) (all (λ o. ltb 0 o) ns)) ≡ true
        → cond a (all is_zero (map ρ ns)) (cond b (all (λ o. ltb 0 o && eqb o (least (map ρ ns))) (map ρ ns)) (all (λ o. ltb 0 o) (map ρ ns))) ≡ true
    go true b h = all-is_in is_zero (map ρ ns) (λ w q. let r = is_in-unmap ρ w ns q in eq-eqb w 0 (sym r.2 ∙ ap ρ (zeros ns h r.0 r.1) ∙ z))
    go false false h = all-is_in (λ o. ltb 0 o) (map ρ ns) (λ w q. positive w (is_in-unmap ρ w ns q) (λ v k. all-use (λ o. ltb 0 o) ns v h k))
    go false true h = all-is_in (λ o. ltb 0 o && eqb o (least (map ρ ns))) (map ρ ns)
        (λ w q. and_intro (positive w (is_in-unmap ρ w ns q) (λ v k. and_left (ltb 0 v) (eqb v (least ns)) (test v k)))
        (eq-eqb w (least (map ρ ns)) (alike w (is_in-unmap ρ w ns q)
        ∙ sym (alike (least (map ρ ns)) (is_in-unmap ρ (least (map ρ ns)) ns (least-some w (map ρ ns) q))))))
      where
        test : (v : ℕ) → is_in v ns ≡ true → (ltb 0 v && eqb v (least ns)) ≡ true
        test v q = all-use (λ o. ltb 0 o && eqb o (least ns)) ns v h q

        alike : (w : ℕ) → (v : ℕ) × (is_in v ns ≡ true) × (ρ v ≡ w) → w ≡ ρ (least ns)
        alike w (v, q, r) = sym r ∙ ap ρ (eqb-true v (least ns) (and_right (ltb 0 v) (eqb v (least ns)) (test v q)))

pub make-rename : (ρ : ℕ → ℕ) (i w : ℕ) (vs : List ℕ) (q : ℕ) (ats : List Atom)
    → map strip (make i (ρ w) vs q ats) ≡ map (rename ρ) (map strip (make i w vs q ats))
make-rename ρ i w vs q [] = refl
make-rename ρ i w vs q (a ∷ ats) =
    λ j. record {
      origin = record { maker = i; index = q };
      owner = ρ w;
      kind = kind_made a.role;
      port = a.port;
      value = same-value (eqb a.role 2) (eqb a.role 4)
          (eqb a.role 5) j;
    } ∷ make-rename ρ i w vs (suc q) ats j
  where
    same-value : (b c d : Bool) → cond (eqb (cond b 3 (cond c 1 (cond d 2 0))) 3) 0 (cond b (ρ w) (value_in vs a.value))
        ≡ cond (eqb (cond b 3 (cond c 1 (cond d 2 0))) 3) 0 (cond b w (value_in vs a.value))
    same-value true c d = refl
    same-value false c d = refl

pub cell-rename : (b : Bool) (x y : Option Entry) (ρ : ℕ → ℕ) (g h σ : Entry → Entry) → ((e : Entry) → x ≡ some e → g (rename ρ e) ≡ σ (h e))
    → or_else (cond b none (bind_o (λ e. some (g e)) (omap (rename ρ) x))) (omap σ y) ≡ omap σ (or_else (cond b none (bind_o (λ e. some (h e)) x)) y)
cell-rename true x y ρ g h σ k = refl
cell-rename false none y ρ g h σ k = refl
cell-rename false (some e) y ρ g h σ k = ap {B = Option Entry} some (k e refl)

-- ---- what is found in c is found in F, and the other way

module _ (c : State) (F : Seen) (ρ : ℕ → ℕ) (rel : Rel c F ρ) where
  pub there : (o : Origin) (e : Entry) → F.cell o ≡ some e → (d : Entry) × (look o c.entries ≡ some d) × (strip d ≡ rename ρ e)
  there o e h = view-some c o (rename ρ e) (rel.cells o ∙ ap (omap (rename ρ)) h)

  pub back-again : (o : Origin) (d : Entry) → look o c.entries ≡ some d → (e : Entry) × (F.cell o ≡ some e) × (rename ρ e ≡ strip d)
  back-again o d h = omap-some (rename ρ) (F.cell o) (strip d) (sym (rel.cells o) ∙ view-cell c o ∙ ap (omap strip) h)

  pub message-there : (o : Origin) (e : Entry) → F.cell o ≡ some e → is_message e ≡ true → look o c.entries ≡ some (rename ρ e)
  message-there o e h k = let q = there o e h in q.1 ∙ ap {B = Option Entry} some
      (sym (strip-message q.0 (eq-eqb q.0.kind 0 (ap (λ (x : Entry). x.kind) q.2 ∙ eqb-true e.kind 0 k))) ∙ q.2)

  abbrev pub now_at : List Origin → List ℕ
  now_at os = map (place_of c.entries) os

  pub picked-again : (os : List Origin) (es : List Entry) → map F.cell os ≡ map some es → all is_message es ≡ true
      → (map (entry_at c.entries) (now_at os) ≡ map (rename ρ) es) × (origins_of (map (entry_at c.entries) (now_at os)) ≡ os)
      × All (λ p. p < length c.entries)
      (now_at os)
  picked-again [] [] h k = (refl, refl, tt)
  picked-again [] (e ∷ es) h k = absurd (let z : ◌≡◌ {A = ℕ} 0 1 = cc in omega arith)
  picked-again (o ∷ os) [] h k = absurd (let z : ◌≡◌ {A = ℕ} 0 1 = cc in omega arith)
  picked-again (o ∷ os) (e ∷ es) h k =
      let ih = picked-again os es (tail-eq h) (and_right (is_message e) (all is_message es) k) in
      let l = message-there o e (head-eq h) (and_left (is_message e) (all is_message es) k) in
      let p = place_found o c.entries (rename ρ e) l in
      ((λ j. p.1 j ∷ ih.0 j), (λ j. (ap (λ (x : Entry). x.origin) p.1 ∙ look-origin o c.entries l) j ∷ ih.1 j), (p.0, ih.2))

  pub live-zero : (v : ℕ) → Live F v → ρ v ≡ 0 → v ≡ 0
  live-zero v l h = rel.inj v 0 l (inl refl) (h ∙ sym rel.zero_is)
