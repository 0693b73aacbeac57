-- The member marks that a move leaves: those that were there stay as they are, or go; the others are among its products.
use Prim.Native.Nat.{ℕ}
use mathlib.Core.Bool.{Bool, true, false, ◌&&◌, ◌||◌, not, cond}
use mathlib.Core.List.{List, map}
use mathlib.Core.Logic.{◌⊎◌, inl, inr}
use mathlib.Core.Path.{◌≡◌, sym, ap, subst, ◌∙◌}
use native.Mathlib.Omega.{arith}
use Rattle.lists.specs.Lists.{keep, without}
use Rattle.lists.specs.Members.{Among, among-keep, among-map, among-append}
use Rattle.lists.specs.Removed.{among-without}
use Rattle.semantics.specs.Table.{Rule, product_atoms}
use Rattle.semantics.specs.State.{Origin, Entry, State, owned}
use Rattle.semantics.specs.Move.{picked, owners_at, merged, products, reacted, freed, ended, to_global}

-- every member mark has P of its value and origin
abbrev pub MarksHave : (ℕ → Origin → Type 0) → List Entry → Type 0
MarksHave P es = (e : Entry) → Among e es → e.kind ≡ 3 → P e.value e.origin

-- those that were there stay as they are, or go; those of the products are new
module _ {P Q : ℕ → Origin → Type 0} (wider : (v : ℕ) (o : Origin) → P v o → Q v o) where
  pub reacted-have : (R : Rule) (i : ℕ) (s : State) (ps : List ℕ) → MarksHave P s.entries → MarksHave Q (products R s (picked s ps) i 0 (product_atoms R))
      → MarksHave Q (reacted R i s ps).entries
  unfolding reacted
  reacted-have R i s ps h new e m k = go (among-append (map (merged (owners_at s ps)) (without ps 0 s.entries))
      (products R s (picked s ps) i 0 (product_atoms R)) e m)
    where
      go : Among e (map (merged (owners_at s ps)) (without ps 0 s.entries)) ⊎ Among e (products R s (picked s ps) i 0 (product_atoms R))
          → Q e.value e.origin
      go (inl n) =
          let (x, l, q) = among-map (merged (owners_at s ps)) (without ps 0 s.entries) e n in
          subst (λ (y : Entry). Q y.value y.origin) (sym q)
          (wider x.value x.origin (h x (among-without ps 0 s.entries x l) (sym (ap (λ (y : Entry). y.kind) q) ∙ k)))
      go (inr n) = new e n k

  pub ended-have : (p : Entry → Bool) (b : ℕ) (s : State) → MarksHave P s.entries → MarksHave Q (ended p b s).entries
  unfolding ended
  ended-have p b s h e m k =
      let stays : Entry → Bool = λ e. not (owned b e) || p e in
      let (x, l, q) = among-map (freed p b) (keep stays s.entries) e m in
      go x (among-keep stays s.entries x l).0 (owned b x && p x) q
    where
      go : (x : Entry) → Among x s.entries → (c : Bool) → e ≡ cond c (to_global x) x → Q e.value e.origin
      go x l true q = absurd (let z : 0 ≡ 3 = sym (ap (λ (y : Entry). y.kind) q) ∙ k in omega arith)
      go x l false q = subst (λ (y : Entry). Q y.value y.origin) (sym q) (wider x.value x.origin (h x l (sym (ap (λ (y : Entry). y.kind) q) ∙ k)))
