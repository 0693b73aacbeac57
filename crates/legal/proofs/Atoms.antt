-- A single atom's conditions, as the code tests them, and of which of its rule's figures they are free.
use Prim.Native.Nat.{ℕ, ◌≤◌}
use mathlib.Core.Bool.{Bool, true, false, false≢true}
use mathlib.Core.Path.{◌≡◌, refl, sym, ◌∙◌}
use native.Mathlib.Omega.{arith}
use borrow.Author.Tests.{eqb-true, lt-leb, eq-eqb}
use lib.Dec.{eqb}
use Rattle.lists.specs.Choices.{is_false}
use Rattle.lists.specs.Tests.{and-right-false}
use Rattle.lists.specs.Runs.{in_run}
use Rattle.semantics.specs.Words.{atom_role, atom_mode}
use Rattle.semantics.specs.Table.{begin_ok, atom_ok}
use Rattle.wellformed.specs.Tables.{atom-fits}
use Rattle.semantics.specs.declared.Sizes.{Sizes}
use Rattle.semantics.specs.declared.Shape.{Shape}

-- n consumes, b begins, and the class
abbrev pub shape : ℕ → ℕ → ℕ → Shape
shape n b class = record { consumes = n; begins = b; class = class }

module _ (z : Sizes) (w : ℕ) where
  same-run : (s t : Shape) (r : ℕ) → (atom_role w ≡ r → atom_ok z s w ≡ atom_ok z t w) → in_run atom_role (atom_ok z s) r w ≡ in_run atom_role (atom_ok z t) r w
  same-run s t r f = go (eqb (atom_role w) r) refl
    where
      go : (b : Bool) → eqb (atom_role w) r ≡ b → in_run atom_role (atom_ok z s) r w ≡ in_run atom_role (atom_ok z t) r w
      go true e = rw (f (eqb-true (atom_role w) r e))
      go false e = rw e

  -- only roles from 3 on ask for a begin
  unasked : (s : Shape) → atom_role w ≤ 2 → begin_ok s w ≡ true
  unasked s l = rw (lt-leb 3 (atom_role w) (omega arith), and-right-false (eqb s.class 0) refl)

  pub begins-free : (n b d c r : ℕ) → r ≤ 2 → in_run atom_role (atom_ok z (shape n b c)) r w ≡ in_run atom_role (atom_ok z (shape n d c)) r w
  unfolding atom_ok
  begins-free n b d c r l = same-run (shape n b c) (shape n d c) r (λ e. rw (unasked (shape n b c) (omega arith), unasked (shape n d c) (omega arith)))

  -- a consume is a constant, whatever the others are
  constant : (n b m d c : ℕ) → atom_role w ≡ 0 → (t : Bool) → eqb (atom_mode w) 0 ≡ t → atom_ok z (shape n b c) w ≡ atom_ok z (shape m d c) w
  unfolding atom_ok
  constant n b m d c r true e = rw (e, unasked (shape n b c) (omega arith), unasked (shape m d c) (omega arith))
  constant n b m d c r false e = no (shape n b c) ∙ sym (no (shape m d c))
    where
      no : (s : Shape) → atom_ok z s w ≡ false
      no s = is_false (atom_ok z s w) (λ h. false≢true (rw (eq-eqb (atom_role w) 0 r, e) at (atom-fits z s w h).consume))

  pub consumes-free : (n b m d c : ℕ) → in_run atom_role (atom_ok z (shape n b c)) 0 w ≡ in_run atom_role (atom_ok z (shape m d c)) 0 w
  consumes-free n b m d c = same-run (shape n b c) (shape m d c) 0 (λ r. constant n b m d c r (eqb (atom_mode w) 0) refl)
